-- The word of the argument is the one in its field.
use Rattle.std.proofs.Common.{◌≡◌, ℕ, ◌+◌, List, ℤ, get_or, set, ap, ◌∙◌}
use Rattle.run_moves.specs.Effects.{handed_word}
use Rattle.resolved.specs.Resolved.{position_in}
use Rattle.run_statements.specs.Words.{read_back}
use Rattle.chain_links.proofs.handing.pass.Goals as goal

passed : (cells ws : List ℤ) (code : List ℕ) (place cell word position first : ℕ) (v z : ℤ) → word ≡ get_or code place 0 → position ≡ position_in word
    → v ≡ handed_word cells word (first + position) → z ≡ v → ws ≡ set cells cell z
    → ws ≡ set cells cell (handed_word cells (get_or code place 0) (first + position_in (get_or code place 0)))
passed cells ws code place cell word position first v z e p f g h =
    h ∙ ap (set cells cell) (g ∙ f ∙ (λ i. handed_word cells (e i) (first + (p ∙ ap position_in e) i)))

pub returns : goal.returns
returns c =
    let s = c.args in
    passed _ _ s.code.now (s.here.at + s.field) _ _ _ _ _ _ c.code_at-word.ensures.0 c.position_of.ensures.0 c.handed-value.ensures
    (read_back c.handed-value.result c.handed-value.type_inv) c.store.ensures
