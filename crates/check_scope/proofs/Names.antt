-- The entries of a block's formals and declarations mean what the definitions say.
-- Assumes nothing.
use mathlib.Core.Path.{◌≡◌, refl, ◌∙◌, ap}
use mathlib.Core.List.{List, [], ◌∷◌, ◌++◌, map}
use mathlib.Core.Option.{none}
use Prim.Native.Nat.{ℕ, ◌+◌, ◌*◌, ◌/◌, ◌%◌, ◌<◌}
use native.Mathlib.Omega.{arith}
use lib.ListN.{length}
use Rattle.language.specs.Text.{Kind, variable, label, procedure, Formal, Decl, VR, LB, PR, Decls, no-decl, decl, decls, formal_kinds}
use Rattle.language.specs.Encoding.{kind_field, formals_fields, block_fields, decl_fields, decls_fields, PR-mark, FM-mark}
use Rattle.language.specs.Scope.{Meaning, formal_meaning, decl_meaning}
use Rattle.grammar.specs.Rules.{FormedFormals, FormedDecl, FormedDecls}
use Rattle.laws.specs.Fields.{field_at, FieldsStand, fields-first, fields-after, fields-third}
use Rattle.check_uses.specs.Meanings.{kind_from, kinds_at, meaning_at, scope_of}
use Rattle.check_extents.specs.Items.{formal, declared, item_fields, entries_of}
use Rattle.check_uses.proofs.Meanings.{means-PR, means-LB, means-FM, means-other}

kind-back : (k : Kind) → kind_from (kind_field k) ≡ k
unfolding kind_field
kind-back variable = refl
kind-back label = refl
kind-back procedure = refl

module _ (bs : List ℕ) where
  abbrev meaning : ℕ → ℕ × Meaning
  meaning e = (e % 65536, meaning_at bs (e / 65536))

  -- an entry taken apart
  entry : (n at : ℕ) → n < 65536 → meaning (n + 65536 * at) ≡ (n, meaning_at bs at)
  entry n at h = rw (low, high)
    where
      low : (n + 65536 * at) % 65536 ≡ n
      low = omega arith

      high : (n + 65536 * at) / 65536 ≡ at
      high = omega arith

  entry_at : (at n : ℕ) (m : Meaning) → field_at bs (at + 2) ≡ n → n < 65536 → meaning_at bs at ≡ m → meaning (field_at bs (at + 2) + 65536 * at) ≡ (n, m)
  entry_at at n m e h f = rw e (entry n at h ∙ ap (λ (x : Meaning). (n, x)) f)

  six-on : (at : ℕ) (w v u : ℕ) (ws : List ℕ) → FieldsStand bs at (w ∷ v ∷ u ∷ ws) → FieldsStand bs (at + 6) ws
  six-on at w v u ws h = fields-after bs at (w ∷ v ∷ u ∷ []) ws h

  kinds-of : (at : ℕ) (fs : List Formal) → FieldsStand bs at (formals_fields fs) → kinds_at bs at (length fs) ≡ formal_kinds fs
  unfolding kinds_at formal_kinds formals_fields
  kinds-of at [] h = refl
  kinds-of at (f ∷ fs) h =
      rw (fields-third bs at FM-mark f.name (kind_field f.kind) (formals_fields fs) h, kind-back f.kind, kinds-of (at + 6) fs (six-on at FM-mark f.name (kind_field f.kind) (formals_fields fs) h))

  pub formals-mean : (at : ℕ) (fs : List Formal) → FieldsStand bs at (formals_fields fs) → FormedFormals fs at → scope_of bs (entries_of bs (map formal fs) at) ≡ map formal_meaning fs
  unfolding scope_of entries_of formals_fields item_fields formal_meaning FormedFormals
  formals-mean at [] h g = refl
  formals-mean at (f ∷ fs) h g =
      let k = fields-third bs at FM-mark f.name (kind_field f.kind) (formals_fields fs) h in
      let m : meaning_at bs at ≡ record { kind = f.kind; takes = none } = means-FM bs at h.0 ∙ rw (k, kind-back f.kind) in
      rw (
        entry_at at f.name (record { kind = f.kind; takes = none }) h.1.0 g.name m,
        formals-mean (at + 6) fs (six-on at FM-mark f.name (kind_field f.kind) (formals_fields fs) h) g.rest,
      )

  -- a declaration
  decl-means : (at level s : ℕ) (d : Decl) → FieldsStand bs at (decl_fields d) → FormedDecl d level s at → meaning (field_at bs (at + 2) + 65536 * at) ≡ decl_meaning d
  unfolding decl_fields decl_meaning FormedDecl
  decl-means at level s (VR o n) h g =
      entry_at at n _ h.1.0 g.name
      (means-other bs at (λ e. omega (arith, h.0)) (λ e. omega (arith, h.0)) (λ e. omega (arith, h.0)))
  decl-means at level s (LB o n i) h g = entry_at at n _ h.1.0 g.name (means-LB bs at h.0)
  decl-means at level s (PR o n fs b) h g =
      let k = fields-third bs at PR-mark n (length fs) (formals_fields fs ++ block_fields b) h in
      let f = fields-first bs (at + 6) (formals_fields fs) (block_fields b) (six-on at PR-mark n (length fs) (formals_fields fs ++ block_fields b) h) in
      entry_at at n _ h.1.0 g.name (means-PR bs at h.0 ∙ rw (k, kinds-of (at + 6) fs f))

  pub decls-mean : (at level s : ℕ) (ds : Decls) → FieldsStand bs at (decls_fields ds) → FormedDecls ds level s at → scope_of bs (entries_of bs (map declared (decls ds)) at) ≡ map decl_meaning (decls ds)
  unfolding scope_of entries_of decls_fields item_fields decls FormedDecls
  decls-mean at level s no-decl h g = refl
  decls-mean at level s (decl d ds) h g =
      rw (
        decl-means at level s d (fields-first bs at (decl_fields d) (decls_fields ds) h) g.0,
        decls-mean (at + 2 * length (decl_fields d)) level s ds (fields-after bs at (decl_fields d) (decls_fields ds) h) g.1,
      )
