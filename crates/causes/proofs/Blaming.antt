-- Laws of readers that refuse. `Blames P` says of a reading that P holds of the refusal and its offset, if it refuses; what is read where it does not is
-- `grammar`'s `Yields`.
use Prim.Native.Nat.{ℕ, zero, suc, ◌+◌, ◌<◌}
use Rattle.std.proofs.Common.{arith, sym, subst}
use Rattle.std.specs.Prelude.{Bool, ◌≡◌, take}
use Rattle.std.proofs.Math.Bool.{true, false}
use mathlib.Core.List.{List, [], ◌∷◌}
use Rattle.std.proofs.Math.Option.{none, some}
use Rattle.std.proofs.Math.Path.{refl}
use borrow.Author.Tests.{eqb-false}
use Rattle.std.proofs.Math.Dec.{eqb}
use Rattle.std.proofs.Math.ListN.{length, length-take}
use Rattle.language.specs.Basics.{lookup}
use Rattle.language.specs.Text.{Kind, variable, label, procedure, Operation, plus, minus, less}
use Rattle.language.specs.Encoding.{kind_field, operation_field}
use Rattle.language.specs.Structure.{Reading, read, refuse, Reader, ◌>>=◌, ◌>>◌, give, here, require, fields, Row, fit, Record, take-record, kind, operation}
use Rattle.language.specs.declared.Refusal.{Refusal}
use Rattle.language.specs.declared.Refusal.TheVariants.{PastTheEnd, MarkMisplaced, FieldRange}
use Rattle.laws.specs.Each.{Each}
use Rattle.laws.specs.Readers.{filled}
use Rattle.grammar.specs.Readers.{Yields, Marked, bind_assoc, yields-take}

abbrev pub Blames : {A : Type 0} → (Refusal → ℕ → Type 0) → Reading A → Type 0
Blames P (read a o ws) = Unit {0}
Blames P (refuse c o) = P c o

-- the marks of a table with their numbers of fields
unfoldable pub table : {M : Type 0} → List (Row M) → List (ℕ × ℕ)
table [] = []
table (r ∷ rs) = (r.letters, r.count) ∷ table rs

pub yields-any : {A : Type 0} (x : Reading A) → Yields (λ a o ws. Unit {0}) x
yields-any (read a o ws) = tt
yields-any (refuse c o) = tt

module _ (P : Refusal → ℕ → Type 0) where
  module _ {A B : Type 0} (m : Reader A) (f : A → Reader B) where
    pub blames-bind : (R : A → ℕ → List ℕ → Type 0) (at : ℕ) (ws : List ℕ) → Blames P (m at ws) → Yields R (m at ws)
        → ((a : A) (o : ℕ) (vs : List ℕ) → R a o vs → Blames P (f a o vs)) → Blames P ((m >>= f) at ws)
    unfolding ◌>>=◌
    blames-bind R at ws b y k = go (m at ws) refl b y
      where
        go : (x : Reading A) → m at ws ≡ x → Blames P x → Yields R x → Blames P ((m >>= f) at ws)
        go (read a o vs) e b y = rw (e, ◌>>=◌) (k a o vs y)
        go (refuse c o) e b y = rw (e, ◌>>=◌) b

  -- a first part of two readers
  pub blames-part : {A B C : Type 0} (m : Reader A) (f : A → Reader B) (g : B → Reader C) (R : B → ℕ → List ℕ → Type 0) (at : ℕ) (ws : List ℕ)
      → Blames P ((m >>= f) at ws) → Yields R ((m >>= f) at ws) → ((b : B) (o : ℕ) (vs : List ℕ) → R b o vs → Blames P (g b o vs))
      → Blames P ((m >>= λ a. f a >>= g) at ws)
  blames-part m f g R at ws b y k = subst (Blames P) (sym (bind_assoc m f g at ws)) (blames-bind (m >>= f) g R at ws b y k)

  pub blames-require : {A : Type 0} (n : Reader A) (b : Bool) (c : Refusal) (r : ℕ) (at : ℕ) (ws : List ℕ) → (b ≡ false → P c r) → (b ≡ true → Blames P (n at ws))
      → Blames P ((require b c r >> n) at ws)
  unfolding ◌>>=◌ ◌>>◌ require
  blames-require n true c r at ws f k = k refl
  blames-require n false c r at ws f k = f refl

  pub blames-fields : (r k at : ℕ) (ws : List ℕ) → (length ws < k → P PastTheEnd r) → Blames P (fields r k at ws)
  unfolding fields
  blames-fields r k at ws h = go (eqb (length (take k ws)) k) refl
    where
      go : (b : Bool) → eqb (length (take k ws)) k ≡ b → Blames P (fields r k at ws)
      go true e = rw (e, fields) tt
      go false e = rw (e, fields) (h (omega (arith, eqb-false (length (take k ws)) k e, length-take k ws)))

  module _ {B : Type 0} (r n : ℕ) (at : ℕ) (ws : List ℕ) where
    pub blames-kind : (f : Kind → Reader B) → (2 < n → P FieldRange r) → ((k : Kind) → n ≡ kind_field k → Blames P (f k at ws)) → Blames P ((kind r n >>= f) at ws)
    unfolding kind give kind_field ◌>>=◌
    blames-kind f w h = go n refl
      where
        go : (m : ℕ) → n ≡ m → Blames P ((kind r n >>= f) at ws)
        go zero e = rw e (h variable e)
        go (suc zero) e = rw e (h label e)
        go (suc (suc zero)) e = rw e (h procedure e)
        go (suc (suc (suc m))) e = rw e (w (omega arith))

    pub blames-operation : (f : Operation → Reader B) → (2 < n → P FieldRange r) → ((k : Operation) → n ≡ operation_field k → Blames P (f k at ws))
        → Blames P ((operation r n >>= f) at ws)
    unfolding operation give operation_field ◌>>=◌
    blames-operation f w h = go n refl
      where
        go : (m : ℕ) → n ≡ m → Blames P ((operation r n >>= f) at ws)
        go zero e = rw e (h plus e)
        go (suc zero) e = rw e (h minus e)
        go (suc (suc zero)) e = rw e (h less e)
        go (suc (suc (suc m))) e = rw e (w (omega arith))

  -- a mark's row, and then its fields
  blames-filled : {M : Type 0} (at o : ℕ) (us : List ℕ) (x : Row M) → (length us < x.count → P PastTheEnd at) → Blames P (filled at x o us)
  unfolding filled give
  blames-filled at o us x h =
      blames-bind (fields at x.count) _ (λ fs p vs. Unit {0}) o us (blames-fields at x.count o us h) (yields-any (fields at x.count o us)) (λ fs p vs y. tt)

  blames-fit : {M : Type 0} (at w o : ℕ) (us : List ℕ) (rows : List (Row M)) → (lookup w (table rows) ≡ none → P MarkMisplaced at)
      → ((k : ℕ) → lookup w (table rows) ≡ some k → length us < k → P PastTheEnd at) → Blames P ((fit at w rows >>= filled at) o us)
  unfolding fit give ◌>>=◌ table lookup
  blames-fit at w o us [] f g = f refl
  blames-fit at w o us (x ∷ rows) f g = go (eqb w x.letters) refl (blames-fit at w o us rows)
    where
      go : (b : Bool) → eqb w x.letters ≡ b
          → ((lookup w (table rows) ≡ none → P MarkMisplaced at) → ((k : ℕ) → lookup w (table rows) ≡ some k → length us < k → P PastTheEnd at) → Blames P ((fit at w rows >>= filled at) o us))
          → Blames P ((fit at w (x ∷ rows) >>= filled at) o us)
      go true e h = rw (e, fit) (blames-filled at o us x (g x.count (rw (e, lookup))))
      go false e h = rw (e, fit) (h (λ q. f (rw (e, lookup) q)) (λ k q. g k (rw (e, lookup) q)))

  blames-take : {M : Type 0} (rows : List (Row M)) (at : ℕ) (us : List ℕ) → (us ≡ [] → P PastTheEnd at)
      → ((w : ℕ) (vs : List ℕ) → us ≡ w ∷ vs → lookup w (table rows) ≡ none → P MarkMisplaced at)
      → ((w k : ℕ) (vs : List ℕ) → us ≡ w ∷ vs → lookup w (table rows) ≡ some k → length vs < k → P PastTheEnd at) → Blames P (take-record rows at us)
  unfolding take-record here give fields ◌>>=◌ filled
  blames-take rows at [] e f g = e refl
  blames-take rows at (w ∷ us) e f g = blames-fit at w (at + 2) us rows (f w us refl) (λ k. g w k us refl)

  pub blames-marks : {M B : Type 0} (rows : List (Row M)) (f : Record M → Reader B) (at : ℕ) (us : List ℕ) → (us ≡ [] → P PastTheEnd at)
      → ((w : ℕ) (vs : List ℕ) → us ≡ w ∷ vs → lookup w (table rows) ≡ none → P MarkMisplaced at)
      → ((w k : ℕ) (vs : List ℕ) → us ≡ w ∷ vs → lookup w (table rows) ≡ some k → length vs < k → P PastTheEnd at)
      → Each (Marked at us (λ r o vs. Blames P (f r o vs))) rows → Blames P ((take-record rows >>= f) at us)
  blames-marks rows f at us a b c h =
      blames-bind (take-record rows) f (λ r o vs. Blames P (f r o vs)) at us (blames-take rows at us a b c) (yields-take rows (λ r o vs. Blames P (f r o vs)) at us h)
      (λ r o vs y. y)
