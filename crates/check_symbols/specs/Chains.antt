-- The array of the visible names: 256 heads, 512 links and 512 entries, in use from `top` on. An entry's link stands 512 places below it. From a
-- head and along the links the entries are found whose names have one remainder by 256, nearest first.
use Rattle.std.specs.Prelude.{ℕ, ◌-◌, ◌%◌, ◌<◌, ◌≤◌, List, ◌≡◌, length, get_or, drop}

-- no entry of the remainder stands before its head, nor between an entry and the one that its link names
pub record Chained (es : List ℕ) (top : ℕ) : Type 0 where
  pub long : length es ≡ 1280
  pub above : 768 ≤ top
  pub heads : (h k : ℕ) → h < 256 → top ≤ k → k < 1280 → k < get_or es h 0 → get_or es k 0 % 256 ≡ h → ⊥
  pub links : (i k : ℕ) → top ≤ i → i < k → k < 1280 → k < get_or es (i - 512) 0 → get_or es k 0 % 256 ≡ get_or es i 0 % 256 → ⊥
  pub forward : (i : ℕ) → top ≤ i → i < 1280 → i < get_or es (i - 512) 0

-- entries in or out of the chains, and no entry changed
pub record Rechained (es es' : List ℕ) (top : ℕ) : Type 0 where
  pub chained : Chained es' top
  pub same : drop 768 es' ≡ drop 768 es
