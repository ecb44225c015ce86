-- An accepted script: its tree stands in its bytes from the start, and no name is visible around it.
-- Assumes nothing.
use mathlib.Core.Path.{◌≡◌, refl, ap, subst}
use mathlib.Core.List.{List, [], ◌++◌}
use Prim.Native.Nat.{ℕ, ◌*◌, ◌-◌, ◌≤◌}
use native.Mathlib.Omega.{arith}
use lib.ListN.{length, replicate, drop_of_length-le}
use Rattle.language.specs.Text.{Block}
use Rattle.language.specs.Encoding.{block_fields, formals_fields, fields_of, encode}
use Rattle.language.specs.Check.{accepted, check}
use Rattle.grammar.specs.Rules.{Bytes, Keeps, FormedFormals}
use Rattle.grammar.specs.Words.{fields-are-names, length-bytes}
use Rattle.grammar.proofs.Reading.{GotBlock, read-program}
use Rattle.grammar.proofs.Accepting.{accepted-read, accepted-keeps}
use Rattle.resolved.specs.Resolved.{visible_words, resolved_formals, resolved_of}
use Rattle.resolved.proofs.Lengths.{block-length}
use Rattle.laws.specs.Fields.{FieldsStand, fields-first, fields-stand}
use Rattle.check_scope.specs.Walking.{BlockHere}
use Rattle.resolve_script.specs.Resolving.{BlockIs, BlockWritten}

module _ (bs : List ℕ) (bytes : Bytes bs) (t : Block) (e : check bs ≡ accepted t) where
  keeps : (bs ≡ encode t) × Keeps t
  keeps = accepted-keeps bs bytes t e

  pub accepted-short : length bs ≤ 8192
  accepted-short = omega (arith, ap length keeps.0, keeps.1.size)

  fields_fit : 2 * length (block_fields t) ≤ 8192
  unfolding encode
  fields_fit = omega (arith, length-bytes (block_fields t), keeps.1.size)

  here : BlockHere bs 0 0 1280 t [] 1
  unfolding formals_fields FormedFormals
  here =
      let g = accepted-read (GotBlock 1 [] 0 (fields_of bs)) bs t e (read-program (fields_of bs) (fields-are-names bs bytes)) in
      record {
        number = refl;
        formals = tt;
        named = tt;
        stand = fields-first bs 0 (block_fields t) [] (subst (FieldsStand bs 0) g.1.step.text (fields-stand bs));
        formed = g.1.formed;
        room = omega arith;
      }

  whole : (es : List ℕ) → length es ≤ 1280 → BlockIs bs es 0 0 1280 1 t [] []
  unfolding visible_words
  whole es long = record { here = here; depth = refl; shown = record { same = drop_of_length-le es long; fit = tt }; within = omega (arith, fields_fit) }

  pub words_are :
      (es code code' : List ℕ) (name r : ℕ) → length es ≤ 1280 → code ≡ replicate 4096 0 → BlockWritten bs es name 0 0 1280 1 code code' r →
      code' ≡ resolved_of name t ++ replicate (4096 - length (resolved_of name t)) 0
  unfolding resolved_of resolved_formals
  words_are es code code' name r long empty written =
      (written t [] [] (whole es long)).grows.grown [] 4096 refl empty (omega (arith, fields_fit, block-length name t [] []))
