-- Laws of readers. `Yields Q` says of a reading that Q holds of what is read, if anything is; the other laws compute a reading that succeeds.
use Rattle.std.specs.Prelude.{ℕ, zero, suc, ◌+◌, ◌*◌, Bool, List, [], ◌∷◌, ◌++◌, ◌≡◌, eqb, length, take, drop}
use Rattle.std.proofs.Math.Bool.{true, false}
use Rattle.std.proofs.Math.Path.{refl}
use Rattle.std.proofs.Common.{sym, subst, ap, ◌∙◌, arith, eqb-true, eq-eqb, take-append-drop, take_at, drop_at}
use Rattle.language.specs.Structure.{Reading, read, refuse, Reader, ◌>>=◌, ◌>>◌, give, here, require, fields, Row, fit, Record, take-record}
use Rattle.language.specs.declared.Refusal.{Refusal}
use Rattle.laws.specs.Each.{Each, each_map}
use Rattle.laws.specs.Readers.{bind-read, filled}

abbrev pub Yields : {A : Type 0} → (A → ℕ → List ℕ → Type 0) → Reading A → Type 0
Yields Q (read a o ws) = Q a o ws
Yields Q (refuse c o) = Unit {0}

module _ {A B : Type 0} (m : Reader A) (f : A → Reader B) where
  pub yields-bind : (Q : B → ℕ → List ℕ → Type 0) (R : A → ℕ → List ℕ → Type 0) (at : ℕ) (ws : List ℕ) → Yields R (m at ws)
      → ((a : A) (o : ℕ) (vs : List ℕ) → R a o vs → Yields Q (f a o vs)) → Yields Q ((m >>= f) at ws)
  unfolding ◌>>=◌
  yields-bind Q R at ws h k = go (m at ws) refl h
    where
      go : (x : Reading A) → m at ws ≡ x → Yields R x → Yields Q ((m >>= f) at ws)
      go (read a o vs) e y = rw (e, ◌>>=◌) (k a o vs y)
      go (refuse c o) e y = rw (e, ◌>>=◌) tt

  pub bind_assoc : {C : Type 0} (g : B → Reader C) (at : ℕ) (ws : List ℕ) → (m >>= λ a. f a >>= g) at ws ≡ ((m >>= f) >>= g) at ws
  unfolding ◌>>=◌
  bind_assoc g at ws = go (m at ws) refl
    where
      go : (x : Reading A) → m at ws ≡ x → (m >>= λ a. f a >>= g) at ws ≡ ((m >>= f) >>= g) at ws
      go (read a o vs) e = rw (e, ◌>>=◌)
      go (refuse c o) e = rw (e, ◌>>=◌)

  -- a first part of two readers
  pub yields-part : {C : Type 0} (g : B → Reader C) (Q : C → ℕ → List ℕ → Type 0) (R : B → ℕ → List ℕ → Type 0) (at : ℕ) (ws : List ℕ)
      → Yields R ((m >>= f) at ws) → ((b : B) (o : ℕ) (vs : List ℕ) → R b o vs → Yields Q (g b o vs)) → Yields Q ((m >>= λ a. f a >>= g) at ws)
  unfolding ◌>>=◌
  yields-part g Q R at ws h k = go (m at ws) refl h
    where
      go : (x : Reading A) → m at ws ≡ x → Yields R ((m >>= f) at ws) → Yields Q ((m >>= λ a. f a >>= g) at ws)
      go (read a o vs) e y = rw (e, ◌>>=◌) (next (f a o vs) (rw (e, ◌>>=◌) at y))
        where
          next : (x : Reading B) → Yields R x → Yields Q (elim x [ read b o vs ↦ g b o vs | refuse c o ↦ refuse c o ])
          next (read b o vs) y = k b o vs y
          next (refuse c o) y = tt
      go (refuse c o) e y = rw (e, ◌>>=◌) tt

module _ {A : Type 0} (n : Reader A) where
  pub yields-require : (b : Bool) (c : Refusal) (r : ℕ) (Q : A → ℕ → List ℕ → Type 0) (at : ℕ) (ws : List ℕ)
      → (b ≡ true → Yields Q (n at ws)) → Yields Q ((require b c r >> n) at ws)
  unfolding ◌>>=◌ ◌>>◌ require
  yields-require true c r Q at ws k = k refl
  yields-require false c r Q at ws k = tt

-- k fields, one after the other
abbrev pub Fields : ℕ → (List ℕ → Type 0) → Type 0
Fields zero P = P []
Fields (suc k) P = (x : ℕ) → Fields k (λ xs. P (x ∷ xs))

pub fields-given : (k : ℕ) (P : List ℕ → Type 0) → Fields k P → (xs : List ℕ) → length xs ≡ k → P xs
fields-given zero P h [] e = h
fields-given zero P h (x ∷ xs) e = absurd (omega arith)
fields-given (suc k) P h [] e = absurd (omega arith)
fields-given (suc k) P h (x ∷ xs) e = fields-given k (λ ys. P (x ∷ ys)) (h x) xs (omega arith)

pub yields-fields : (r k : ℕ) (Q : List ℕ → ℕ → List ℕ → Type 0) (at : ℕ) (ws : List ℕ)
    → ((xs vs : List ℕ) → length xs ≡ k → ws ≡ xs ++ vs → Q xs (at + 2 * k) vs) → Yields Q (fields r k at ws)
unfolding fields
yields-fields r k Q at ws h = go (eqb (length (take k ws)) k) refl
  where
    go : (b : Bool) → eqb (length (take k ws)) k ≡ b → Yields Q (fields r k at ws)
    go true e = rw (e, fields) (h (take k ws) (drop k ws) (eqb-true (length (take k ws)) k e) (sym (take-append-drop k ws)))
    go false e = rw (e, fields) tt

pub fields_read : (r at : ℕ) (xs vs : List ℕ) (k : ℕ) → length xs ≡ k → fields r k at (xs ++ vs) ≡ read xs (at + 2 * k) vs
unfolding fields
fields_read r at xs vs k e =
    rw (eq-eqb (length (take k (xs ++ vs))) k (ap length (take_at xs vs k e) ∙ e), fields) (rw (take_at xs vs k e, drop_at xs vs k e))

pub yields-fit : {M : Type 0} (r w : ℕ) (rows : List (Row M)) (Q : Row M → ℕ → List ℕ → Type 0) (at : ℕ) (ws : List ℕ)
    → Each (λ x. w ≡ x.letters → Q x at ws) rows → Yields Q (fit r w rows at ws)
unfolding fit give
yields-fit r w [] Q at ws h = tt
yields-fit r w (x ∷ rows) Q at ws h = go (eqb w x.letters) refl (yields-fit r w rows Q at ws h.1)
  where
    go : (b : Bool) → eqb w x.letters ≡ b → Yields Q (fit r w rows at ws) → Yields Q (fit r w (x ∷ rows) at ws)
    go true e y = rw (e, fit) (h.0 (eqb-true w x.letters e))
    go false e y = rw (e, fit) y

-- what is to hold of each mark that may stand at a place, with its fields spelt out
abbrev pub Marked : {M : Type 0} → ℕ → List ℕ → (Record M → ℕ → List ℕ → Type 0) → Row M → Type 0
Marked at us R x =
    Fields x.count (λ fs. (vs : List ℕ) → us ≡ x.letters ∷ (fs ++ vs) → R (record { at = at; mark = x.mark; fields = fs }) (at + 2 * suc x.count) vs)

yields-filled : {M : Type 0} (R : Record M → ℕ → List ℕ → Type 0) (at w : ℕ) (us : List ℕ) (x : Row M) → Marked at (w ∷ us) R x
    → w ≡ x.letters → Yields R (filled at x (at + 2) us)
unfolding filled give ◌>>=◌
yields-filled R at w us x h e = yields-bind (fields at x.count) (λ fs. give (record { at = at; mark = x.mark; fields = fs })) R Q (at + 2) us
    (yields-fields at x.count Q (at + 2) us
    (λ xs vs l q. let p = fields-given x.count _ h xs l vs (rw (e, q)) in subst (λ (o : ℕ). Q xs o vs) (omega arith) p))
    (λ fs o vs y. y)
  where
    Q : List ℕ → ℕ → List ℕ → Type 0
    Q fs o vs = R (record { at = at; mark = x.mark; fields = fs }) o vs

pub yields-take : {M : Type 0} (rows : List (Row M)) (R : Record M → ℕ → List ℕ → Type 0) (at : ℕ) (us : List ℕ)
    → Each (Marked at us R) rows → Yields R (take-record rows at us)
unfolding take-record here give fields ◌>>=◌ filled
yields-take rows R at [] h = tt
yields-take rows R at (w ∷ us) h =
    yields-bind (fit at w rows) (filled at) R (λ r o vs. Yields R (filled at r o vs)) (at + 2) us
    (yields-fit at w rows (λ r o vs. Yields R (filled at r o vs)) (at + 2) us
    (each_map (Marked at (w ∷ us) R) (λ r. w ≡ r.letters → Yields R (filled at r (at + 2) us)) rows (λ x k. yields-filled R at w us x k) h))
    (λ r o vs y. y)

pub yields-marks : {M B : Type 0} (rows : List (Row M)) (f : Record M → Reader B) (Q : B → ℕ → List ℕ → Type 0) (at : ℕ) (us : List ℕ)
    → Each (Marked at us (λ r o vs. Yields Q (f r o vs))) rows → Yields Q ((take-record rows >>= f) at us)
yields-marks rows f Q at us h =
    yields-bind (take-record rows) f Q (λ r o vs. Yields Q (f r o vs)) at us (yields-take rows (λ r o vs. Yields Q (f r o vs)) at us h) (λ r o vs y. y)

filled-read : {M : Type 0} (x : Row M) (at : ℕ) (fs vs : List ℕ) → length fs ≡ x.count
    → filled at x (at + 2) (fs ++ vs) ≡ read (record { at = at; mark = x.mark; fields = fs }) (at + 2 * suc x.count) vs
unfolding filled give
filled-read x at fs vs l =
    bind-read (fields at x.count) (λ xs. give (record { at = at; mark = x.mark; fields = xs })) (at + 2) (fs ++ vs)
    (fields_read at (at + 2) fs vs x.count l)
    ∙ ap (λ (o : ℕ). read (record { at = at; mark = x.mark; fields = fs }) o vs) (omega arith)

pub take-read : {M : Type 0} (rows : List (Row M)) (x : Row M) (at : ℕ) (fs vs : List ℕ) → length fs ≡ x.count → fit at x.letters rows ≡ give x
    → take-record rows at (x.letters ∷ (fs ++ vs)) ≡ read (record { at = at; mark = x.mark; fields = fs }) (at + 2 * suc x.count) vs
unfolding take-record here give fields ◌>>=◌ filled
take-read rows x at fs vs l e = rw e (filled-read x at fs vs l)
