-- Laws of readers: one with another after it, where the first one's outcome is known; a test, and what comes after it.
use Rattle.std.specs.Prelude.{ℕ, Bool, true, false, List, ◌≡◌}
use Rattle.std.proofs.Math.Path.{ap}
use Rattle.language.specs.Structure.{Reading, read, refuse, Reader, ◌>>=◌, ◌>>◌, give, require, fields, Row, Record}
use Rattle.language.specs.declared.Refusal.{Refusal}

module _ {A B : Type 0} (m : Reader A) (f : A → Reader B) (at : ℕ) (ws : List ℕ) where
  go_on : Reading A → Reading B
  go_on x = elim x [ read a at' ws' ↦ f a at' ws' | refuse c o ↦ refuse c o ]

  pub bind-read : {a : A} {at' : ℕ} {ws' : List ℕ} → m at ws ≡ read a at' ws' → (m >>= f) at ws ≡ f a at' ws'
  unfolding ◌>>=◌ go_on
  bind-read e = ap go_on e

  pub bind-refuse : {c : Refusal} {o : ℕ} → m at ws ≡ refuse c o → (m >>= f) at ws ≡ refuse c o
  unfolding ◌>>=◌ go_on
  bind-refuse e = ap go_on e

module _ {A : Type 0} (b : Bool) (c : Refusal) (o : ℕ) (m : Reader A) (at : ℕ) (ws : List ℕ) where
  pub passes : b ≡ true → (require b c o >> m) at ws ≡ m at ws
  unfolding require ◌>>◌ ◌>>=◌
  passes e = rw e

  pub fails : b ≡ false → (require b c o >> m) at ws ≡ refuse c o
  unfolding require ◌>>◌ ◌>>=◌
  fails e = rw e

-- the second half of `take-record`: a row's fields and what is made of them
unfoldable pub filled : {M : Type 0} → ℕ → Row M → Reader (Record M)
filled at r = fields at r.count >>= λ fs. give (record { at = at; mark = r.mark; fields = fs })
