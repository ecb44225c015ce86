-- Two words are put in: those from there on move up by two, and the two are written where they stood.
use Prim.Native.Nat.{ℕ, zero, suc, ◌+◌, ◌≤◌}
use mathlib.Core.Path.{◌≡◌, refl, ap}
use mathlib.Core.List.{List, [], ◌∷◌}
use native.Mathlib.Omega.{arith}
use lib.IntN.{ℤ}
use lib.ListN.{length, drop, set}
use lib.Seq.{paste}
use Rattle.table_moves.specs.PutIn.{put_in}

pub put_in-written : (i n : ℕ) (a b : ℤ) (ws : List ℤ) → i + n + 2 ≤ length ws → set (set (paste ws (i + 2) (drop i ws) n) i a) (i + 1) b ≡ put_in i n a b ws
unfolding put_in
put_in-written i n a b [] h = absurd (omega arith)
put_in-written zero n a b (v ∷ []) h = absurd (omega arith)
put_in-written zero n a b (v ∷ w ∷ ws) h =
    let e : 0 + 2 + n ≡ n + 2 = omega arith in
    rw e refl
put_in-written (suc i) n a b (w ∷ ws) h =
    let e : suc i + 2 ≡ suc (i + 2) = omega arith in
    let f : suc (i + 2) + n ≡ suc (i + 2 + n) = omega arith in
    let g : suc i + 1 ≡ suc (i + 1) = omega arith in
    rw (e, f, g) (ap (w ∷◌) (put_in-written i n a b ws (omega arith)))
