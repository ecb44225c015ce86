-- What is read of the record is what it holds.
use Rattle.std.proofs.Common.{◌≡◌, ℕ, ◌*◌, ◌++◌, ◌∷◌, List, ℤ, pos, sym, ap, subst, ◌∙◌}
use Rattle.language.specs.Call.{written}
use Rattle.run_sheet.specs.Shown.{Shown}
use Rattle.run_sheet.specs.Held.{encloser_by}
use Rattle.chain_run.proofs.sheet.write_record.Goals as goal

-- the same of equal places
shown-as : {code : List ℕ} {cells : List ℤ} {first number : ℕ} {own : List ℤ} (b b' n n' : ℕ) → b' ≡ b → n' ≡ n → Shown code cells b n first number own
    → Shown code cells b' n' first number own
shown-as {code} {cells} {first} {number} {own} b b' n n' p q h =
    subst (λ (T : Type 0). T) (λ i. Shown code cells (sym p i) (sym q i) first number own) h

pub returns-clause-by_index : goal.returns-clause-by_index
returns-clause-by_index c =
    let s = c.args in
    let block = c.from_u32.ensures.0 in
    let encloser = c.encloser_of.ensures ∙ ap (encloser_by s.k) c.from_u32-3.ensures.0 in
    λ number own ws base shown e l.
    let q = c.write_activation.ensures.by_index number own ws base (shown-as _ _ _ _ block c.from_u32-2.ensures.0 shown) e l in
    (q.0 ∙ (λ i. written (ws ++ (pos (2 * block i) ∷ pos number ∷ pos (encloser i) ∷ own)) base), q.1)
