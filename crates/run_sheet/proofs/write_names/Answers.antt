use Rattle.std.proofs.Common.{List, ◌++◌, ℤ, ap, ◌∙◌, arith}
use Rattle.std.proofs.Math.ListN.{length-set}
use Rattle.std.proofs.Math.Seq.{take_all}
use Rattle.language.specs.Call.{written}
use Rattle.run_sheet.specs.Shown.{names_more}
use Rattle.run_sheet.proofs.Values.{read_back}
use Rattle.run_sheet.proofs.write_names.Goals as goal

pub loop-i-preserved : goal.loop-i-preserved
loop-i-preserved c =
    let i = c.loop-i.invariant in record {
      same_length = simp length-set i.same_length;
      so_far =
          λ own ws base h l e n.
          names_more own ws base c.args.sheet.now c.loop-i.sheet _ _ _ n (omega arith) (omega (arith, c.requires.count_in_bounds)) e (i.so_far own ws base h l e n)
          (read_back _ c.shown_word.type_inv ∙ c.shown_word.ensures own h (omega arith));
    }

pub returns-clause-sheet_after : goal.returns-clause-sheet_after
returns-clause-sheet_after c =
    λ own ws base h l e n.
    c.loop-i.invariant.so_far own ws base h l e n
    ∙ ap (λ (x : List ℤ). written (ws ++ x) base) (take_all c.loop-i.i own (omega arith))
