-- The names of a new activation: those that it declares are the next new ones, in order (`new-names`), and as many are given out (`new-many`).
use Rattle.std.specs.Prelude.{ℕ, ◌≡◌}
use mathlib.Core.List.{List, [], ◌++◌, append-nil}
use Rattle.std.proofs.Math.Path.{sym, ap, subst}
use Rattle.std.proofs.Common.{◌∙◌}
use Rattle.std.proofs.Math.ListN.{length, length-map}
use Rattle.language.specs.Basics.{up_from}
use Rattle.language.specs.Text.{Formal, Block, block, block_decls, decl_name, formal_names, declared_names}
use Rattle.language.specs.Copy.{Replacement, rename_block}
use Rattle.language.specs.Machine.{own_names, activation}
use Rattle.laws.specs.Distinct.{Distinct}
use Rattle.laws.specs.Lookup.{length-up_from}
use Rattle.instances.proofs.Closed.{Kinds, InBlock}
use Rattle.frames.specs.Renaming.{declared-new}

-- a block's own names are written once
pub names-once : (b : Block) (fs : List Formal) (K : Kinds) → InBlock b fs K → Distinct (formal_names fs ++ declared_names b)
unfolding InBlock declared_names block_decls
names-once (block at ds ss) fs K h = h.0.once

module _ (formals arguments : List ℕ) (new : ℕ) (b : Block) (encloser : ℕ) (around : List Replacement) (as_many : length formals ≡ length arguments) (once : Distinct (formals ++ declared_names b)) where
  abbrev text : Block
  text = (activation formals arguments new b encloser around).text

  given_out : declared_names text ≡ up_from new (length (declared_names b))
  unfolding activation
  given_out =
      subst (λ (σ : Replacement). declared_names (rename_block b σ) ≡ up_from new (length (declared_names b))) (append-nil (own_names formals arguments new b))
      (declared-new formals arguments new b [] as_many once)

  pub new-many : length (declared_names b) ≡ length (block_decls text)
  unfolding declared_names
  new-many = sym (length-up_from new (length (declared_names b))) ∙ ap length (sym given_out) ∙ length-map (block_decls text) decl_name

  pub new-names : declared_names text ≡ up_from new (length (block_decls text))
  new-names = given_out ∙ ap (up_from new) new-many
