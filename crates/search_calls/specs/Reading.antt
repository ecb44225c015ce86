-- A name by its word, its first cell and its position as they were read.
use Rattle.std.specs.Prelude.{ℕ, ◌+◌, ◌<◌, true, false, List, ◌≡◌, ℤ, pos, get_or}
use Rattle.std.proofs.Common.{sym, ap, ap₂, ◌∙◌, to_z, of_z}
use Rattle.std.specs.Int.Signed.{mag, lt_z}
use Rattle.std.specs.Int.{w32}
use Rattle.resolved.specs.Resolved.{position_in, formal_in, direct}
use Rattle.arrays.specs.Found.{held_by}
use Rattle.run_statements.specs.Words.{read_back, is-direct, is-formal, held-is}
use Rattle.run_cells.specs.Finding.{Reachable, ThroughFormal}
use Rattle.search_names.specs.Seeking.{first_at}
use Rattle.search_calls.specs.Passing.{field_own}

module _ (code numbers blocks froms : List ℕ) (live place : ℕ) {v f q : ℕ} (read : v ≡ get_or code place 0) (found : f ≡ first_at numbers blocks froms live place) (position : q ≡ position_in v) where
  abbrev first : ℕ
  first = first_at numbers blocks froms live place

  abbrev w : ℕ
  w = get_or code place 0

  pub own_read : f + q ≡ field_own code numbers blocks froms live place
  own_read = ap₂ (λ (m n : ℕ). m + n) found (position ∙ ap position_in read)

  -- a formal's word
  module _ (cells : List ℤ) (small : mag (get_or cells (f + q) (pos 0)) < 2147483648) where
    word_read : to_z w32 (of_z w32 (get_or cells (f + q) (pos 0))) ≡ get_or cells (first + position_in w) (pos 0)
    word_read = read_back (get_or cells (f + q) (pos 0)) small ∙ ap (λ (c : ℕ). get_or cells c (pos 0)) own_read

    pub held_whole : ThroughFormal cells first w → lt_z (to_z w32 (of_z w32 (get_or cells (f + q) (pos 0)))) (pos 0) ≡ false
    held_whole t = ap (λ (z : ℤ). lt_z z (pos 0)) word_read ∙ t.reachable.whole t.is

    pub held-read : {h : ℕ} → to_z w32 (of_z w32 (get_or cells (f + q) (pos 0))) ≡ pos h → h ≡ held_by cells first w
    held-read e = sym (held-is cells first w (sym word_read ∙ e))

-- whether the name is a formal
module _ {w v d : ℕ} (read : v ≡ w) (formal : d ≡ formal_in v) where
  pub read-direct : d ≡ 0 → direct w ≡ true
  read-direct e = sym (ap direct read) ∙ is-direct v (sym formal ∙ e)

  pub read-formal : (d ≡ 0 → ⊥) → direct w ≡ false
  read-formal n = sym (ap direct read) ∙ is-formal v (λ e. n (formal ∙ e))

  pub read_through : (d ≡ 0 → ⊥) → {cells : List ℤ} {first : ℕ} → Reachable cells first w → ThroughFormal cells first w
  read_through n r = record { reachable = r; is = read-formal n }
