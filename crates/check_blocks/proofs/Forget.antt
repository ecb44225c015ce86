-- Where reading goes on does not depend on the tree that is put together at the end. Assumes nothing.
use mathlib.Core.Path.{◌≡◌, refl, sym, ◌∙◌, ap}
use mathlib.Core.List.{List}
use Prim.Native.Nat.{ℕ}
use Rattle.language.specs.Text.{Decl, decl_name}
use Rattle.language.specs.Structure.{Reading as Outcome, read, refuse, Reader, ◌>>=◌, give}
use Rattle.laws.specs.Readers.{bind-read, bind-refuse}
use Rattle.check_records.specs.Taking.{forget}

module _ {A : Type 0} (m : Reader A) (at : ℕ) (ws : List ℕ) where
  give-from : {B : Type 0} (k : A → B) (x : Outcome A) → m at ws ≡ x → forget ((m >>= λ a. give (k a)) at ws) ≡ forget x
  unfolding forget give
  give-from k (read a o vs) e = ap forget (bind-read m (λ a. give (k a)) at ws e)
  give-from k (refuse c o) e = ap forget (bind-refuse m (λ a. give (k a)) at ws e)

  pub forget-give : {B : Type 0} (k : A → B) → forget ((m >>= λ a. give (k a)) at ws) ≡ forget (m at ws)
  forget-give k = give-from k (m at ws) refl

  bind-from : {B C : Type 0} (f : A → Reader B) (g : A → Reader C) → ((a : A) (o : ℕ) (vs : List ℕ) → forget (f a o vs) ≡ forget (g a o vs)) → (x : Outcome A) → m at ws ≡ x → forget ((m >>= f) at ws) ≡ forget ((m >>= g) at ws)
  unfolding forget
  bind-from f g h (read a o vs) e = ap forget (bind-read m f at ws e) ∙ h a o vs ∙ sym (ap forget (bind-read m g at ws e))
  bind-from f g h (refuse c o) e = ap forget (bind-refuse m f at ws e) ∙ sym (ap forget (bind-refuse m g at ws e))

  pub forget-bind : {B C : Type 0} (f : A → Reader B) (g : A → Reader C) → ((a : A) (o : ℕ) (vs : List ℕ) → forget (f a o vs) ≡ forget (g a o vs)) → forget ((m >>= f) at ws) ≡ forget ((m >>= g) at ws)
  forget-bind f g h = bind-from f g h (m at ws) refl

-- the declaration that is read, if any, has this name
abbrev pub Named : ℕ → Outcome Decl → Type 0
Named n (read x at ws) = decl_name x ≡ n
Named n (refuse c o) = Unit {0}

module _ {A : Type 0} (n : ℕ) (m : Reader A) (f : A → Reader Decl) (h : (a : A) (o : ℕ) (vs : List ℕ) → Named n (f a o vs)) (at : ℕ) (ws : List ℕ) where
  named-from : (x : Outcome A) → m at ws ≡ x → Named n ((m >>= f) at ws)
  named-from (read a o vs) e = rw (bind-read m f at ws e) (h a o vs)
  named-from (refuse c o) e = rw (bind-refuse m f at ws e) tt

  pub named-bind : Named n ((m >>= f) at ws)
  named-bind = named-from (m at ws) refl
