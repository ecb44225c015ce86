-- Where a record is at fault (Faults.antt), the reader of its place refuses it with that cause and with the record's offset.
use Prim.Native.Nat.{ℕ, zero, suc, ◌+◌, ◌≤◌, ◌<◌}
use Rattle.std.proofs.Common.{arith, inl, inr, sym, ap, ◌∙◌, length-take}
use Rattle.std.specs.Prelude.{Bool, true, false, not, ◌&&◌, List, [], ◌∷◌, ◌⊎◌, ◌≡◌, eqb, leb, length, take}
use Rattle.std.proofs.Math.Bool.{and-eq-true_iff}
use Rattle.std.proofs.Math.Option.{none, some}
use Rattle.std.proofs.Math.Path.{refl}
use borrow.Author.Tests.{le-leb, lt-leb, ne_eqb}
use Rattle.std.proofs.Math.ListN.{length-map}
use Rattle.language.specs.Basics.{among, lookup}
use Rattle.language.specs.Text.{Kind, variable, label, procedure, Formal, formal_names}
use Rattle.language.specs.Encoding.{VR-mark, LB-mark, PR-mark, FM-mark, CL-mark, AR-mark}
use Rattle.language.specs.Structure.{refuse, Reader, ◌>>=◌, ◌>>◌, give, here, require, fields, Row, is_vR, is_lB, is_pR, is_cL, is_aR, block_marks, formal_marks, decl_marks, stmt_marks, fit, take-record, kind, operation, formals, declared, declarations, stated, statements, block_with}
use Rattle.language.specs.declared.Refusal.{Refusal}
use Rattle.language.specs.declared.Refusal.TheVariants.{PastTheEnd, MarkMisplaced, FieldRange, NestingDepth, TooManyNames, NameTwice}
use Rattle.laws.specs.Tests.{none≢some, some_inj}
use Rattle.laws.specs.Readers.{bind-refuse, passes, fails, filled}
use Rattle.grammar.proofs.Writing.{row, marked}
use Rattle.causes.specs.Places.{Place, block-due, formal-due, decl-due, stmt-due, marks_at}
use Rattle.causes.specs.Faults.{PastEnd, no-mark, no_fields, no_arguments, Misplaced, no_row, OutOfRange, kind-range, index-range, operation-range, arguments-range, TooDeep, deep-block, TooMany, many-formals, many-names, Twice, formal-twice, variable-twice, label-twice, procedure-twice, Broken, past_end, misplaced, out_of_range, too-deep, too_many, twice}
use Rattle.causes.proofs.Blaming.{table}
use Rattle.causes.proofs.Leading.{Stops, opens-stops}

-- fields that are too few
too_few : (r k at : ℕ) (ws : List ℕ) → length ws < k → fields r k at ws ≡ refuse PastTheEnd r
unfolding fields
too_few r k at ws h = rw (ne_eqb (length (take k ws)) k (λ e. omega (arith, length-take k ws)), fields)

-- a record's mark and its fields
fit_none : {M : Type 0} (at w o : ℕ) (us : List ℕ) (rows : List (Row M)) → lookup w (table rows) ≡ none → (fit at w rows >>= filled at) o us ≡ refuse MarkMisplaced at
unfolding fit give ◌>>=◌ table lookup
fit_none at w o us [] e = refl
fit_none at w o us (x ∷ rows) e = go (eqb w x.letters) refl (fit_none at w o us rows)
  where
    go : (b : Bool) → eqb w x.letters ≡ b → (lookup w (table rows) ≡ none → (fit at w rows >>= filled at) o us ≡ refuse MarkMisplaced at)
        → (fit at w (x ∷ rows) >>= filled at) o us ≡ refuse MarkMisplaced at
    go true q h = let z : lookup w (table (x ∷ rows)) ≡ some x.count = rw (q, lookup) in none≢some (sym e ∙ z)
    go false q h = rw (q, fit) (h (rw (q, lookup) at e))

fit-short : {M : Type 0} (at w o k : ℕ) (us : List ℕ) (rows : List (Row M)) → lookup w (table rows) ≡ some k → length us < k
    → (fit at w rows >>= filled at) o us ≡ refuse PastTheEnd at
unfolding fit give ◌>>=◌ table lookup filled
fit-short at w o k us [] e l = none≢some e
fit-short at w o k us (x ∷ rows) e l = go (eqb w x.letters) refl (λ q. fit-short at w o k us rows q l)
  where
    go : (b : Bool) → eqb w x.letters ≡ b → (lookup w (table rows) ≡ some k → (fit at w rows >>= filled at) o us ≡ refuse PastTheEnd at)
        → (fit at w (x ∷ rows) >>= filled at) o us ≡ refuse PastTheEnd at
    go true q h = let c : x.count ≡ k = some_inj (rw (q, lookup) at e) in rw (q, fit) (bind-refuse (fields at x.count) _ o us (too_few at x.count o us (omega arith)))
    go false q h = rw (q, fit) (h (rw (q, lookup) at e))

module _ {M : Type 0} (rows : List (Row M)) (at : ℕ) where
  take_none : take-record rows at [] ≡ refuse PastTheEnd at
  unfolding take-record here give fields ◌>>=◌
  take_none = refl

  take-misplaced : (w : ℕ) (us : List ℕ) → lookup w (table rows) ≡ none → take-record rows at (w ∷ us) ≡ refuse MarkMisplaced at
  unfolding take-record here give fields ◌>>=◌ filled
  take-misplaced w us e = fit_none at w (at + 2) us rows e

  take_short : (w k : ℕ) (us : List ℕ) → lookup w (table rows) ≡ some k → length us < k → take-record rows at (w ∷ us) ≡ refuse PastTheEnd at
  unfolding take-record here give fields ◌>>=◌ filled
  take_short w k us e l = fit-short at w (at + 2) k us rows e l

-- so that the reader of a place refuses where its record is not taken
taking-stops : (p : Place) (at : ℕ) (us : List ℕ) (c : Refusal) → ((M : Type 0) (rows : List (Row M)) → table rows ≡ marks_at p → take-record rows at us ≡ refuse c at) → Stops p at us c at
unfolding formals declarations statements block_marks formal_marks decl_marks stmt_marks table marks_at
taking-stops (block-due level fs) at us c h = λ k e. bind-refuse (take-record block_marks) _ at us (h _ block_marks refl)
taking-stops (formal-due gs) at us c h = λ m seen a. bind-refuse (take-record formal_marks) _ at us (h _ formal_marks refl)
taking-stops (decl-due level s fs ds) at us c h = λ k m seen e a. bind-refuse (take-record decl_marks) _ at us (h _ decl_marks refl)
taking-stops (stmt-due level) at us c h = λ k m e. bind-refuse (take-record stmt_marks) _ at us (h _ stmt_marks refl)

-- a field out of its range
kind-stops : (r n at : ℕ) (ws : List ℕ) → 2 < n → kind r n at ws ≡ refuse FieldRange r
unfolding kind
kind-stops r zero at ws h = absurd (omega arith)
kind-stops r (suc zero) at ws h = absurd (omega arith)
kind-stops r (suc (suc zero)) at ws h = absurd (omega arith)
kind-stops r (suc (suc (suc n))) at ws h = refl

operation-stops : (r n at : ℕ) (ws : List ℕ) → 2 < n → operation r n at ws ≡ refuse FieldRange r
unfolding operation
operation-stops r zero at ws h = absurd (omega arith)
operation-stops r (suc zero) at ws h = absurd (omega arith)
operation-stops r (suc (suc zero)) at ws h = absurd (omega arith)
operation-stops r (suc (suc (suc n))) at ws h = refl

index-fails : (i s : ℕ) → (i < 1) ⊎ (s < i) → leb 1 i && leb i s ≡ false
index-fails i s (inl h) = rw (lt-leb 1 i (omega arith))
index-fails i s (inr h) = rw (lt-leb i s (omega arith)) (and-false (leb 1 i))
  where
    and-false : (b : Bool) → b && false ≡ false
    and-false true = refl
    and-false false = refl

module _ (at : ℕ) where
  -- a formal
  module _ (gs : List Formal) (n k : ℕ) (vs : List ℕ) (m : ℕ) (seen : List ℕ) where
    formal-kind : 2 < k → formals (suc m) seen at (FM-mark ∷ n ∷ k ∷ vs) ≡ refuse FieldRange at
    unfolding formals fit formal_marks give
    formal-kind h = marked formal_marks _ (row FM-mark 2 true) at (n ∷ k ∷ []) vs refl refl ∙ bind-refuse (kind at k) _ (at + 6) vs (kind-stops at k (at + 6) vs h)

    formal-again : k ≤ 2 → among n seen ≡ true → formals (suc m) seen at (FM-mark ∷ n ∷ k ∷ vs) ≡ refuse NameTwice at
    unfolding formals fit formal_marks give kind ◌>>=◌
    formal-again l h = marked formal_marks _ (row FM-mark 2 true) at (n ∷ k ∷ []) vs refl refl ∙ go k l
      where
        f : Kind → Reader (List Formal)
        f j = do
          require (not (among n seen)) NameTwice at
          fs ← formals m (n ∷ seen)
          give (record { at = at; name = n; kind = j } ∷ fs)

        twice : (j : Kind) → f j (at + 6) vs ≡ refuse NameTwice at
        twice j = fails _ _ at _ (at + 6) vs (rw h)

        go : (j : ℕ) → j ≤ 2 → (kind at j >>= f) (at + 6) vs ≡ refuse NameTwice at
        go zero l = twice variable
        go (suc zero) l = twice label
        go (suc (suc zero)) l = twice procedure
        go (suc (suc (suc j))) l = absurd (omega arith)

  -- a declaration
  module _ (k s m : ℕ) (seen : List ℕ) (n : ℕ) where
    variable-again : (vs : List ℕ) → among n seen ≡ true → declarations (block_with k) s (suc m) seen at (VR-mark ∷ n ∷ vs) ≡ refuse NameTwice at
    unfolding declarations declared fit decl_marks give
    variable-again vs h =
        marked decl_marks _ (row VR-mark 1 is_vR) at (n ∷ []) vs refl refl
        ∙ bind-refuse (declared (block_with k) s seen is_vR at (n ∷ [])) _ (at + 4) vs (fails _ _ at _ (at + 4) vs (rw h))

    label-index : (i : ℕ) (vs : List ℕ) → (i < 1) ⊎ (s < i) → declarations (block_with k) s (suc m) seen at (LB-mark ∷ n ∷ i ∷ vs) ≡ refuse FieldRange at
    unfolding declarations declared fit decl_marks give
    label-index i vs h =
        marked decl_marks _ (row LB-mark 2 is_lB) at (n ∷ i ∷ []) vs refl refl
        ∙ bind-refuse (declared (block_with k) s seen is_lB at (n ∷ i ∷ [])) _ (at + 6) vs (fails _ _ at _ (at + 6) vs (index-fails i s h))

    label-again : (i : ℕ) (vs : List ℕ) → 1 ≤ i → i ≤ s → among n seen ≡ true → declarations (block_with k) s (suc m) seen at (LB-mark ∷ n ∷ i ∷ vs) ≡ refuse NameTwice at
    unfolding declarations declared fit decl_marks give
    label-again i vs p q h =
        marked decl_marks _ (row LB-mark 2 is_lB) at (n ∷ i ∷ []) vs refl refl
        ∙ bind-refuse (declared (block_with k) s seen is_lB at (n ∷ i ∷ [])) _ (at + 6) vs
        (passes _ _ at _ (at + 6) vs ((and-eq-true_iff (leb 1 i) (leb i s)).1 (le-leb 1 i p, le-leb i s q)) ∙ fails _ _ at _ (at + 6) vs (rw h))

    procedure-many : (p : ℕ) (vs : List ℕ) → 32 < p → declarations (block_with k) s (suc m) seen at (PR-mark ∷ n ∷ p ∷ vs) ≡ refuse TooManyNames at
    unfolding declarations declared fit decl_marks give
    procedure-many p vs h =
        marked decl_marks _ (row PR-mark 2 is_pR) at (n ∷ p ∷ []) vs refl refl
        ∙ bind-refuse (declared (block_with k) s seen is_pR at (n ∷ p ∷ [])) _ (at + 6) vs (fails _ _ at _ (at + 6) vs (lt-leb p 32 h))

    procedure-again : (p : ℕ) (vs : List ℕ) → p ≤ 32 → among n seen ≡ true → declarations (block_with k) s (suc m) seen at (PR-mark ∷ n ∷ p ∷ vs) ≡ refuse NameTwice at
    unfolding declarations declared fit decl_marks give
    procedure-again p vs l h =
        marked decl_marks _ (row PR-mark 2 is_pR) at (n ∷ p ∷ []) vs refl refl
        ∙ bind-refuse (declared (block_with k) s seen is_pR at (n ∷ p ∷ [])) _ (at + 6) vs
        (passes _ _ at _ (at + 6) vs (le-leb p 32 l) ∙ fails _ _ at _ (at + 6) vs (rw h))

  -- a statement
  module _ (k m : ℕ) where
    call-many : (n a : ℕ) (vs : List ℕ) → 32 < a → statements (block_with k) (suc m) at (CL-mark ∷ n ∷ a ∷ vs) ≡ refuse FieldRange at
    unfolding statements stated fit stmt_marks give
    call-many n a vs h =
        marked stmt_marks _ (row CL-mark 2 is_cL) at (n ∷ a ∷ []) vs refl refl
        ∙ bind-refuse (stated (block_with k) is_cL at (n ∷ a ∷ [])) _ (at + 6) vs (fails _ _ at _ (at + 6) vs (lt-leb a 32 h))

    call-short : (n a : ℕ) (vs : List ℕ) → a ≤ 32 → length vs < a → statements (block_with k) (suc m) at (CL-mark ∷ n ∷ a ∷ vs) ≡ refuse PastTheEnd at
    unfolding statements stated fit stmt_marks give
    call-short n a vs l h =
        marked stmt_marks _ (row CL-mark 2 is_cL) at (n ∷ a ∷ []) vs refl refl
        ∙ bind-refuse (stated (block_with k) is_cL at (n ∷ a ∷ [])) _ (at + 6) vs
        (passes _ _ at _ (at + 6) vs (le-leb a 32 l) ∙ bind-refuse (fields at a) _ (at + 6) vs (too_few at a (at + 6) vs h))

    sum-operation : (t o l r : ℕ) (vs : List ℕ) → 2 < o → statements (block_with k) (suc m) at (AR-mark ∷ t ∷ o ∷ l ∷ r ∷ vs) ≡ refuse FieldRange at
    unfolding statements stated fit stmt_marks give
    sum-operation t o l r vs h =
        marked stmt_marks _ (row AR-mark 4 is_aR) at (t ∷ o ∷ l ∷ r ∷ []) vs refl refl
        ∙ bind-refuse (stated (block_with k) is_aR at (t ∷ o ∷ l ∷ r ∷ [])) _ (at + 10) vs (bind-refuse (operation at o) _ (at + 10) vs (operation-stops at o (at + 10) vs h))

  -- a block
  module _ (d s : ℕ) (fs : List Formal) (vs : List ℕ) (level : ℕ) where
    block-deep : 16 < level → (k : ℕ) → level + k ≡ 17 → block_with k at d s (formal_names fs) (at + 6) vs ≡ refuse NestingDepth at
    unfolding block_with
    block-deep h zero e = refl
    block-deep h (suc k) e = absurd (omega arith)

    block-many : level ≤ 16 → 32 < length fs + d → (k : ℕ) → level + k ≡ 17 → block_with k at d s (formal_names fs) (at + 6) vs ≡ refuse TooManyNames at
    unfolding block_with formal_names
    block-many l h zero e = absurd (omega arith)
    block-many l h (suc k) e =
        fails _ _ at _ (at + 6) vs (lt-leb (length (formal_names fs) + d) 32 (omega (arith, length-map fs (λ (f : Formal). f.name))))

  -- each cause
  end-stops : (p : Place) (us : List ℕ) → PastEnd p us → Stops p at us PastTheEnd at
  end-stops p us no-mark = taking-stops p at [] PastTheEnd (λ M rows e. take_none rows at)
  end-stops p us (no_fields w k ws e l) = taking-stops p at (w ∷ ws) PastTheEnd (λ M rows q. take_short rows at w k ws (ap (lookup w) q ∙ e) l)
  end-stops p us (no_arguments n a ws l h) = λ k m e. call-short k m n a ws (omega arith) (omega arith)

  mark-stops : (p : Place) (us : List ℕ) → Misplaced p us → Stops p at us MarkMisplaced at
  mark-stops p us (no_row w ws e) = taking-stops p at (w ∷ ws) MarkMisplaced (λ M rows q. take-misplaced rows at w ws (ap (lookup w) q ∙ e))

  range-stops : (p : Place) (us : List ℕ) → OutOfRange p us → Stops p at us FieldRange at
  range-stops p us (kind-range {fs = fs} n k ws h) = λ m seen a. formal-kind fs n k ws m seen (omega arith)
  range-stops p us (index-range {s = s} n i ws h) = λ k m seen e a. label-index k s m seen n i ws h
  range-stops p us (operation-range t o l r ws h) = λ k m e. sum-operation k m t o l r ws (omega arith)
  range-stops p us (arguments-range n a ws h) = λ k m e. call-many k m n a ws (omega arith)

  depth-stops : (p : Place) (us : List ℕ) → TooDeep p us → Stops p at us NestingDepth at
  depth-stops p us (deep-block level fs d s ws e h) = opens-stops p level fs at d s ws e (block-deep d s fs ws level (omega arith))

  many-stops : (p : Place) (us : List ℕ) → TooMany p us → Stops p at us TooManyNames at
  many-stops p us (many-formals {s = s} n q ws h) = λ k m seen e a. procedure-many k s m seen n q ws (omega arith)
  many-stops p us (many-names level fs d s ws e l h) = opens-stops p level fs at d s ws e (block-many d s fs ws level (omega arith) (omega arith))

  twice-stops : (p : Place) (us : List ℕ) → Twice p us → Stops p at us NameTwice at
  twice-stops p us (formal-twice {fs = fs} n k ws l h) = λ m seen a. formal-again fs n k ws m seen (omega arith) (a n ∙ h)
  twice-stops p us (variable-twice {s = s} n ws h) = λ k m seen e a. variable-again k s m seen n ws (a n ∙ h)
  twice-stops p us (label-twice {s = s} n i ws q r h) = λ k m seen e a. label-again k s m seen n i ws (omega arith) (omega arith) (a n ∙ h)
  twice-stops p us (procedure-twice {s = s} n q ws l h) = λ k m seen e a. procedure-again k s m seen n q ws (omega arith) (a n ∙ h)

  pub broken-stops : (c : Refusal) (p : Place) (us : List ℕ) → Broken c p us → Stops p at us c at
  broken-stops c p us (past_end b) = end-stops p us b
  broken-stops c p us (misplaced b) = mark-stops p us b
  broken-stops c p us (out_of_range b) = range-stops p us b
  broken-stops c p us (too-deep b) = depth-stops p us b
  broken-stops c p us (too_many b) = many-stops p us b
  broken-stops c p us (twice b) = twice-stops p us b
