-- A script that the definitions read whole: its tree stands in its bytes from the start.
-- Assumes nothing.
use Rattle.std.specs.Prelude.{Ok, Err}
use mathlib.Core.Path.{◌≡◌, refl, sym, ◌∙◌, ap, subst}
use mathlib.Core.List.{List, [], ◌∷◌}
use Prim.Native.Nat.{ℕ, ◌+◌, ◌*◌, ◌≤◌}
use native.Mathlib.Omega.{arith}
use lib.ListN.{length, drop, drop_of_length-le}
use Rattle.language.specs.Text.{Formal, Block}
use Rattle.language.specs.Encoding.{block_fields, formals_fields, fields_of}
use Rattle.language.specs.Structure.{Reading, read, refuse, program}
use Rattle.language.specs.Scope.{fine, wrong, judge_block}
use Rattle.language.specs.Scope as definitions
use Rattle.language.specs.Faults.{Progress}
use Rattle.grammar.specs.Rules.{Bytes, FormedFormals}
use Rattle.grammar.specs.Readers.{Yields}
use Rattle.grammar.specs.Words.{fields-are-names}
use Rattle.grammar.proofs.Reading.{GotBlock, read-program}
use Rattle.laws.specs.Fields.{FieldsStand, fields-first, fields-stand}
use Rattle.check_uses.specs.Meanings.{scope_of, verdict_of}
use Rattle.check_scope.specs.Walking.{progress_of, settled_of, Judged, BlockHere}
use Rattle.language.specs.declared.Fault.{Fault}
use Rattle.language.specs.Faults.{Verdict}

settled-verdict : (v : definitions.Judgement) (end : ℕ) → settled_of (progress_of v end) ≡ verdict_of v
settled-verdict fine end = refl
settled-verdict (wrong c o) end = refl

module _ (bs : List ℕ) (bytes : Bytes bs) (es : List ℕ) (long : length es ≤ 1280) (p : Progress) (judged : (b : Block) (fs : List Formal) (level : ℕ) → BlockHere bs 0 0 1280 b fs level → p ≡ progress_of (judge_block b fs (scope_of bs (drop 1280 es))) (0 + 6 * 0 + 2 * length (block_fields b))) where
  nothing_yet : scope_of bs (drop 1280 es) ≡ []
  unfolding scope_of
  nothing_yet = rw (drop_of_length-le es long)

  here : (t : Block) (end : ℕ) → GotBlock 1 [] 0 (fields_of bs) t end [] → BlockHere bs 0 0 1280 t [] 1
  unfolding formals_fields FormedFormals
  here t end g = record {
    number = refl;
    formals = tt;
    named = tt;
    stand = fields-first bs 0 (block_fields t) [] (subst (FieldsStand bs 0) g.step.text (fields-stand bs));
    formed = g.formed;
    room = omega arith;
  }

  by-reading : (r : Reading Block) → Yields (GotBlock 1 [] 0 (fields_of bs)) r → Judged r (settled_of p)
  by-reading (read t end []) y =
      ap settled_of (judged t [] 1 (here t end y)) ∙ settled-verdict (judge_block t [] (scope_of bs (drop 1280 es))) _
      ∙ ap (λ (sc : definitions.Scope). verdict_of (judge_block t [] sc)) nothing_yet
  by-reading (read t end (w ∷ ws)) y = tt
  by-reading (refuse c o) y = tt

  whole-judged : (r : Verdict) → r ≡ settled_of p → Judged (program 0 (fields_of bs)) r
  whole-judged r e =
      subst (Judged (program 0 (fields_of bs))) (sym e)
      (by-reading (program 0 (fields_of bs)) (read-program (fields_of bs) (fields-are-names bs bytes)))

  -- as the code has it: the walk refuses, or comes to its end
  pub whole-refused : (r : Verdict) (x : Fault) → p ≡ Err x → r ≡ Err x → Judged (program 0 (fields_of bs)) r
  whole-refused r x q e = whole-judged r (e ∙ sym (ap settled_of q))

  pub whole-fit : (end : ℕ) → p ≡ Ok end → Judged (program 0 (fields_of bs)) (Ok tt)
  whole-fit end q = whole-judged (Ok tt) (sym (ap settled_of q))
