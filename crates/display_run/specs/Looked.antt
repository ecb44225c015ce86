-- The looked-up name at a run's end: what its word in the innermost block says of it.
use Rattle.std.specs.Prelude.{ℕ, ◌+◌, ◌≤◌, ◌<◌, List, ◌≡◌, ℤ, get_or}
use Rattle.std.proofs.Common.{arith, sym, ap, ◌∙◌, subst}
use Rattle.frames.specs.Frame.{designates}
use Rattle.arrays.specs.Holds.{designator_of}
use Rattle.arrays.specs.Found.{cell_by}
use Rattle.steps.specs.Here.{here, live-few}
use Rattle.steps.specs.Reads.{block_within, looked-up-here}
use Rattle.steps.specs.Finding.{Reaches, word_of, unseen-word, seen-by-display}
use Rattle.display_step.specs.Finding.{first_cell, Reachable}
use Rattle.display_moves.specs.Running.{Looking}

module _ {code : List ℕ} {cells : List ℤ} {blocks display : List ℕ} {live : ℕ} (w : Looking code cells blocks display live) where
  pub live-there : live < 256
  live-there = omega (arith, live-few w.running.standing)

  pub word-within : get_or blocks live 0 + 3 ≤ 4096
  word-within = let s = w.running.standing in block_within s live s.frame (here s)

  -- by where the block stands and the word there, as they were read
  module _ {b v : ℕ} (block : b ≡ get_or blocks live 0) (read : v ≡ get_or code (b + 2) 0) where
    abbrev name : ℕ
    name = w.running.standing.name

    is_word : v ≡ word_of w.running.standing name
    is_word = read ∙ ap (λ k. get_or code (k + 2) 0) block ∙ looked-up-here w.running.standing

    pub not_seen : v ≡ 0 → 0 ≡ designates w.running.standing.stack.frames name
    not_seen z = sym (unseen-word w.running.standing name (sym is_word ∙ z))

    module _ (d : v ≡ 0 → ⊥) where
      found : Reaches cells live (first_cell display v) v × (designator_of (cell_by cells (first_cell display v) v) ≡ designates
          w.running.standing.stack.frames name)
      found =
          subst (λ u. Reaches cells live (first_cell display u) u ×
          (designator_of (cell_by cells (first_cell display u) u) ≡ designates w.running.standing.stack.frames name)) (sym is_word)
          (seen-by-display w.running.standing display w.running.shows name (λ z. d (is_word ∙ z)))

      pub seen-reached : Reachable cells display v
      seen-reached = let r = found.0 in record { own = omega (arith, r.own, live-there); whole = r.whole; cell = r.cell }

      module _ {c : ℕ} (is : c ≡ cell_by cells (first_cell display v) v) where
        pub seen-cell : c < 8192
        seen-cell = omega (arith, is, found.0.cell)

        pub seen-designates : {r : ℕ} → r ≡ designator_of c → r ≡ designates w.running.standing.stack.frames name
        seen-designates e = e ∙ ap designator_of is ∙ found.1
