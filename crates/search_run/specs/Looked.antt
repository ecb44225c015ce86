-- The looked-up name at a run's end: what its word and its number in the innermost block say of it.
use Rattle.std.specs.Prelude.{ℕ, ◌+◌, ◌≤◌, ◌<◌, List, ◌≡◌, eqb, ℤ, get_or}
use Rattle.std.proofs.Common.{arith, sym, ap, ◌∙◌, subst, eqb-true}
use Rattle.std.proofs.lemmas.Bool.{eqb-false}
use Rattle.laws.specs.Tests.{split}
use Rattle.frames.specs.Frame.{designates}
use Rattle.arrays.specs.Holds.{designator_of}
use Rattle.arrays.specs.Found.{cell_by}
use Rattle.steps.specs.Here.{here, live-few}
use Rattle.steps.specs.Reads.{block_within, looked-up-here}
use Rattle.steps.specs.Finding.{Reaches, word_of, first_by_links, unseen-word, seen-by-links}
use Rattle.run_sheet.specs.Named.{looked_up_by, Nameable, looked-up-none, looked-up-some}
use Rattle.run_state.specs.declared.Registers.{Registers}
use Rattle.run_state.specs.Limits.{goes_to}
use Rattle.search_names.specs.Seeking.{first_at, Falls}
use Rattle.search_moves.specs.Running.{Running}
use Rattle.search_moves.specs.Sought.{falls_of, looked-by-search}

-- the looked-up name can be found in the innermost activation
pub record Looking (code numbers : List ℕ) (cells : List ℤ) (blocks froms : List ℕ) (live : ℕ) : Type 0 where
  pub passers : List ℕ
  pub nexts : List ℕ
  pub activations : ℕ
  pub limit : ℕ
  pub table : List ℤ
  pub registers : Registers
  pub running : Running code numbers activations limit cells passers blocks nexts froms table (goes_to registers live registers.at registers.end registers.pairs)

module _ {code numbers : List ℕ} {cells : List ℤ} {blocks froms : List ℕ} {live : ℕ} (w : Looking code numbers cells blocks froms live) where
  pub live-there : live < 256
  live-there = omega (arith, live-few w.running.standing)

  pub word-within : get_or blocks live 0 + 3 ≤ 4096
  word-within = let s = w.running.standing in block_within s live s.frame (here s)

  pub search-falls : Falls froms live
  search-falls = falls_of w.running

  -- by where the block stands and the word there, as they were read, and the first cell that the search led to
  module _ {b v first : ℕ} (block : b ≡ get_or blocks live 0) (read : v ≡ get_or code (b + 2) 0) (led : first ≡ first_at numbers blocks froms live (b + 2)) where
    abbrev name : ℕ
    name = w.running.standing.name

    is_word : v ≡ word_of w.running.standing name
    is_word = read ∙ ap (λ k. get_or code (k + 2) 0) block ∙ looked-up-here w.running.standing

    module _ (d : v ≡ 0 → ⊥) where
      first-is : first ≡ first_by_links w.running.standing v
      first-is =
          let e : v ≡ get_or code (get_or blocks live 0 + 2) 0 = read ∙ ap (λ k. get_or code (k + 2) 0) block in
          led ∙ ap (λ k. first_at numbers blocks froms live (k + 2)) block ∙ looked-by-search w.running (λ z. d (e ∙ z)) ∙ ap (first_by_links w.running.standing) (sym e)

      found : Reaches cells live first v × (designator_of (cell_by cells first v) ≡ designates w.running.standing.stack.frames name)
      found =
          subst (λ (p : ℕ × ℕ). Reaches cells live p.0 p.1 × (designator_of (cell_by cells p.0 p.1) ≡ designates w.running.standing.stack.frames name))
          (λ i. (sym (first-is ∙ ap (first_by_links w.running.standing) is_word) i, sym is_word i))
          (seen-by-links w.running.standing name (λ z. d (is_word ∙ z)))

      pub nameable : Nameable cells first v
      nameable = let r = found.0 in record { own = omega (arith, r.own, live-there); whole = r.whole }

      seen-designates : looked_up_by cells first v ≡ designates w.running.standing.stack.frames name
      seen-designates = looked-up-some cells first v d ∙ found.1

    pub looked-designates : looked_up_by cells first v ≡ designates w.running.standing.stack.frames name
    looked-designates =
        split (eqb v 0)
        (λ t. let z : v ≡ 0 = eqb-true v 0 t in
        looked-up-none cells first v z ∙ sym (unseen-word w.running.standing name (sym is_word ∙ z)))
        (λ t. seen-designates (eqb-false v 0 t))
