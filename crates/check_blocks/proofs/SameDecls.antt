-- The declarations of a block, too, ask of the names seen only which they are. Assumes nothing.
use mathlib.Core.Path.{◌≡◌, refl}
use mathlib.Core.List.{List, ◌∷◌}
use Prim.Native.Nat.{ℕ, zero, suc}
use lib.ListN.{get_or}
use Rattle.language.specs.Text.{decl_name}
use Rattle.language.specs.Structure.{DeclMark, is_vR, is_lB, is_pR, decl_marks, take-record, BlockReader, declared, declarations}
use Rattle.check_names.proofs.SameNames.{Same, same-cons, then_same}

pub declared_same : (body : BlockReader) (s : ℕ) (xs ys : List ℕ) (m : DeclMark) (at : ℕ) (fs : List ℕ) → Same xs ys → declared body s xs m at fs ≡ declared body s ys m at fs
unfolding declared
declared_same body s xs ys is_vR at fs h = rw (h (get_or fs 0 0))
declared_same body s xs ys is_lB at fs h = rw (h (get_or fs 0 0))
declared_same body s xs ys is_pR at fs h = rw (h (get_or fs 0 0))

pub declarations-same : (body : BlockReader) (s d : ℕ) (xs ys : List ℕ) → Same xs ys → declarations body s d xs ≡ declarations body s d ys
unfolding declarations
declarations-same body s zero xs ys h = refl
declarations-same body s (suc d) xs ys h =
    then_same (take-record decl_marks) λ r.
    rw (declared_same body s xs ys r.mark r.at r.fields h)
    (then_same (declared body s ys r.mark r.at r.fields) λ x.
    rw (declarations-same body s d (decl_name x ∷ xs) (decl_name x ∷ ys) (same-cons (decl_name x) xs ys h)))
