-- Laws of the declared instance of a name: which activations it depends on, and where it is declared.
use Rattle.std.specs.Prelude.{ℕ, zero, suc, ◌+◌, ◌≤◌, ◌<◌, Bool, true, false, ◌≡◌, refl, List, [], ◌∷◌, ◌++◌, eqb, length, take}
use Rattle.std.proofs.Common.{arith, sym, ap, ◌∙◌, subst, eqb-true}
use Rattle.std.proofs.Math.Option.{Option, none, some}
use Rattle.std.proofs.Math.ListN.{get_elem?}
use Rattle.language.specs.Text.{Decl, block_decls, decl_name}
use Rattle.language.specs.Machine.{Activation, State, Instance, declared_at, instance_from, instance}
use Rattle.laws.specs.Tests.{none≢some, some_inj}

module _ (x j : ℕ) (d : Decl) (ds : List Decl) where
  pub declared-here : eqb (decl_name d) x ≡ true → declared_at x j (d ∷ ds) ≡ some (j, d)
  unfolding declared_at
  declared-here e = rw (e, declared_at)

  pub declared-there : eqb (decl_name d) x ≡ false → declared_at x j (d ∷ ds) ≡ declared_at x (suc j) ds
  unfolding declared_at
  declared-there e = rw (e, declared_at)

-- what an activation itself declares under a name: its arguments come first
abbrev pub declared_by : ℕ → Activation → Option (ℕ × Decl)
declared_by x a = declared_at x (suc (length a.arguments)) (block_decls a.text)

abbrev pub instance_in : ℕ → Activation → ℕ × Decl → Instance
instance_in k a p = record { number = k; position = p.0; home = a; decl = p.1 }

module _ (x k : ℕ) (a : Activation) (rest : List Activation) where
  pub instance-here : (p : ℕ × Decl) → declared_by x a ≡ some p → instance_from x k (a ∷ rest) ≡ some (instance_in k a p)
  unfolding instance_from
  instance-here p e = rw (e, instance_from)

  pub instance-there : declared_by x a ≡ none → instance_from x k (a ∷ rest) ≡ instance_from x (suc k) rest
  unfolding instance_from
  instance-there e = rw (e, instance_from)

-- an instance found stays where activations are put above
pub instance-append : (x k : ℕ) (l m : List Activation) (i : Instance) → instance_from x k l ≡ some i → instance_from x k (l ++ m) ≡ some i
unfolding instance_from
instance-append x k [] m i e = none≢some e
instance-append x k (a ∷ l) m i e = go (declared_by x a) refl (instance-append x (suc k) l m i)
  where
    go : (o : Option (ℕ × Decl)) → declared_by x a ≡ o → (instance_from x (suc k) l ≡ some i → instance_from x (suc k) (l ++ m) ≡ some i) → instance_from x k (a ∷ (l ++ m)) ≡ some i
    go none e' ih = instance-there x k a (l ++ m) e' ∙ ih (sym (instance-there x k a l e') ∙ e)
    go (some p) e' ih = instance-here x k a (l ++ m) p e' ∙ (sym (instance-here x k a l p e') ∙ e)

-- numbers go on from k
pub instance-number : (x k : ℕ) (l : List Activation) (i : Instance) → instance_from x k l ≡ some i → (k ≤ i.number) × (i.number < k + length l)
unfolding instance_from
instance-number x k [] i e = none≢some e
instance-number x k (a ∷ l) i e = go (declared_by x a) refl (instance-number x (suc k) l i)
  where
    go : (o : Option (ℕ × Decl)) → declared_by x a ≡ o → (instance_from x (suc k) l ≡ some i → (suc k ≤ i.number) × (i.number < suc k + length l)) → (k ≤ i.number) × (i.number < k + suc (length l))
    go none e' ih = let h = ih (sym (instance-there x k a l e') ∙ e) in omega arith
    go (some p) e' ih = let h : k ≡ i.number = ap (λ (j : Instance). j.number) (some_inj (sym (instance-here x k a l p e') ∙ e)) in omega arith

-- an instance found stays where activations above it are dropped
pub instance-take : (x k m : ℕ) (l : List Activation) (i : Instance) → instance_from x k l ≡ some i → i.number < k + m → instance_from x k (take m l) ≡ some i
unfolding instance_from
instance-take x k m [] i e h = none≢some e
instance-take x k zero (a ∷ l) i e h = let n = instance-number x k (a ∷ l) i e in absurd (omega arith)
instance-take x k (suc m) (a ∷ l) i e h = go (declared_by x a) refl (instance-take x (suc k) m l i)
  where
    go : (o : Option (ℕ × Decl)) → declared_by x a ≡ o → (instance_from x (suc k) l ≡ some i → i.number < suc k + m → instance_from x (suc k) (take m l) ≡ some i) → instance_from x k (a ∷ take m l) ≡ some i
    go none e' ih = instance-there x k a (take m l) e' ∙ ih (sym (instance-there x k a l e') ∙ e) (omega arith)
    go (some p) e' ih = instance-here x k a (take m l) p e' ∙ (sym (instance-here x k a l p e') ∙ e)

-- An instance found is a declaration of its home, at an index, under its name.
pub record FoundAt (x n : ℕ) (l : List Activation) (i : Instance) : Type 0 where
  pub depth : ℕ
  pub index : ℕ
  pub home_at : get_elem? l depth ≡ some i.home
  pub number_is : i.number ≡ n + depth
  pub decl-at : get_elem? (block_decls i.home.text) index ≡ some i.decl
  pub position-is : i.position ≡ suc (length i.home.arguments) + index
  pub name-is : decl_name i.decl ≡ x

abbrev DeclaredIn : ℕ → ℕ → List Decl → ℕ × Decl → Type 0
DeclaredIn x i ds p = (j : ℕ) × (get_elem? ds j ≡ some p.1) × (p.0 ≡ i + j) × (decl_name p.1 ≡ x)

declared_at-found : (x i : ℕ) (ds : List Decl) (p : ℕ × Decl) → declared_at x i ds ≡ some p → DeclaredIn x i ds p
unfolding declared_at
declared_at-found x i [] p e = none≢some e
declared_at-found x i (d ∷ ds) p e = go (eqb (decl_name d) x) refl (declared_at-found x (suc i) ds p)
  where
    go : (b : Bool) → eqb (decl_name d) x ≡ b → (declared_at x (suc i) ds ≡ some p → DeclaredIn x (suc i) ds p) → DeclaredIn x i (d ∷ ds) p
    go true t ih =
        let q : Path (ℕ × Decl) (i, d) p = some_inj (rw (t, declared_at) at e) in
        let h : i ≡ p.0 = λ j. (q j).0 in
        let h₁ : decl_name d ≡ x = eqb-true (decl_name d) x t in
        (0, (λ j. some (q j).1), omega arith, sym (λ j. decl_name (q j).1) ∙ h₁)
    go false t ih =
        let r = ih (rw (t, declared_at) at e) in
        (suc r.0, r.1, let h = r.2 in omega arith, r.3)

pub instance-found : (x n : ℕ) (l : List Activation) (i : Instance) → instance_from x n l ≡ some i → FoundAt x n l i
unfolding instance_from
instance-found x n [] i e = none≢some e
instance-found x n (a ∷ l) i e = go (declared_by x a) refl (instance-found x (suc n) l i)
  where
    go : (o : Option (ℕ × Decl)) → declared_by x a ≡ o → (instance_from x (suc n) l ≡ some i → FoundAt x (suc n) l i) → FoundAt x n (a ∷ l) i
    go none e' ih =
        let r = ih (sym (instance-there x n a l e') ∙ e) in
        record { depth = suc r.depth; index = r.index; home_at = r.home_at; number_is = omega arith; decl-at = r.decl-at; position-is = r.position-is; name-is = r.name-is }
    go (some p) e' ih =
        let r = declared_at-found x (suc (length a.arguments)) (block_decls a.text) p e' in
        let q : instance_in n a p ≡ i = some_inj (sym (instance-here x n a l p e') ∙ e) in
        subst (λ (j : Instance). FoundAt x n (a ∷ l) j) q
        (record { depth = 0; index = r.0; home_at = refl; number_is = omega arith; decl-at = r.1; position-is = r.2; name-is = r.3 })

pub found_at : (s : State) (x : ℕ) (i : Instance) → instance s x ≡ some i → FoundAt x 1 s.live i
unfolding instance
found_at s x i e = instance-found x 1 s.live i e
