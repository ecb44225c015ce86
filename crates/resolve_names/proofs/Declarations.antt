-- The words and the entries of a block's names.
-- Assumes nothing.
use mathlib.Core.Path.{◌≡◌, refl, sym, ◌∙◌, ap, subst}
use mathlib.Core.List.{List, [], ◌∷◌, ◌++◌, map}
use mathlib.Core.Logic.{◌⊎◌, inl, inr}
use Prim.Native.Nat.{ℕ, zero, suc, ◌+◌, ◌*◌, ◌-◌, ◌/◌, ◌<◌, ◌≤◌}
use native.Mathlib.Nat.{eq-or-lt_of_le}
use native.Mathlib.Omega.{arith}
use lib.ListN.{length, get_or, take, drop, set}
use lib.Seq.{drop-cons, get_or-set_same, get_or-set_other, get_or-take}
use Rattle.language.specs.Basics.{zip}
use Rattle.language.specs.Text.{Formal, Block, block, Decl, VR, LB, PR, Decls, no-decl, decl, decls, decl_name, formal_names, block_at, block_stmts}
use Rattle.language.specs.Encoding.{kind_field, formals_fields, block_fields, decl_fields, decls_fields, FM-mark, LB-mark, PR-mark}
use Rattle.grammar.specs.Rules.{FormedBlock, FormedDecl, FormedDecls}
use Rattle.resolved.specs.Resolved.{packed, decl_target, decl_kind_field, formal_words, decl_words}
use Rattle.resolved.proofs.Lengths.{formals-fields}
use Rattle.laws.specs.Fields.{field_at, FieldsStand, fields-first, fields-after, fields-third}
use Rattle.check_symbols.specs.Entries.{entry_from}
use Rattle.check_extents.specs.Items.{declared, item_fields}
use Rattle.check_extents.proofs.Putting.{Filling, filling-start, filling_step}
use Rattle.resolve_words.specs.Visible.{entry_of}
use Rattle.resolve_names.specs.Declared.{starts_of, Stated, Worded, DeclaredEntry, FormalEntry, OwnEntry, OwnPut, formal_entries, decl_entries}

-- by the mark as it was read: kind and target
body_at : (b : Block) (level : ℕ) (fs : List Formal) (o : ℕ) → FormedBlock b level fs o → block_at b ≡ o
unfolding FormedBlock block_at
body_at (block x ds ss) level fs o h = h.stands

module _ (bs st : List ℕ) (at d level i r mark : ℕ) (read : mark ≡ field_at bs at) where
  pub worded-PR : (n : ℕ) → mark ≡ PR-mark → n ≡ field_at bs (at + 4) → r ≡ packed i 0 2 level ((at + 6 + 6 * n) / 2) → Worded bs st at d level i r
  unfolding decl_fields FormedDecl decl_kind_field decl_target
  worded-PR n m e q b (VR o k) lv h f s = absurd (omega (arith, h.0))
  worded-PR n m e q b (LB o k j) lv h f s = absurd (omega (arith, h.0))
  worded-PR n m e q b (PR o k fs body) lv h f s =
      let t = fields-third bs at PR-mark k (length fs) (formals_fields fs ++ block_fields body) h in
      let p = body_at body (suc lv) fs (at + 6 + 2 * length (formals_fields fs)) f.body in
      let l = formals-fields fs in
      let place : (at + 6 + 6 * n) / 2 ≡ block_at body / 2 = omega arith in
      q ∙ ap (packed i 0 2 level) place

  pub worded-LB :
      (n t : ℕ) → 1 ≤ d → mark ≡ LB-mark → n ≡ field_at bs (at + 4) → t ≡ get_or st (d - 1 + n) 0 → r ≡ packed i 0 1 level (t / 2) → Worded bs st at d level i r
  unfolding decl_fields FormedDecl decl_kind_field decl_target
  worded-LB n t some m e g q b (VR o k) lv h f s = absurd (omega (arith, h.0))
  worded-LB n t some m e g q b (LB o k j) lv h f s =
      let u = fields-third bs at LB-mark k j [] h in
      let p : t ≡ get_or st (d - 1 + j) 0 = g ∙ ap (λ (x : ℕ). get_or st (d - 1 + x) 0) (e ∙ u) in
      q ∙ ap (packed i 0 1 level) (ap (λ (x : ℕ). x / 2) p ∙ s (sym read ∙ m) j some f.first f.last)
  worded-LB n t some m e g q b (PR o k fs body) lv h f s = absurd (omega (arith, h.0))

  pub worded-VR : (mark ≡ PR-mark → ⊥) → (mark ≡ LB-mark → ⊥) → r ≡ packed i 0 0 level 0 → Worded bs st at d level i r
  unfolding decl_fields FormedDecl decl_kind_field decl_target
  worded-VR m k q b (VR o n) lv h f s = q
  worded-VR m k q b (LB o n j) lv h f s = absurd (k (read ∙ h.0))
  worded-VR m k q b (PR o n fs body) lv h f s = absurd (m (read ∙ h.0))

second_is : (bs : List ℕ) (at : ℕ) (x : Decl) → FieldsStand bs at (decl_fields x) → field_at bs (at + 2) ≡ decl_name x
unfolding decl_fields decl_name
second_is bs at (VR o n) h = h.1.0
second_is bs at (LB o n i) h = h.1.0
second_is bs at (PR o n fs b) h = h.1.0

-- entries
pub declared-by :
    (bs st : List ℕ) (at d level i n w r : ℕ) → Worded bs st at d level i w → n ≡ field_at bs (at + 2) → r ≡ entry_from n w → DeclaredEntry bs st at d level i r
declared-by bs st at d level i n w r g e q b x k h f s =
    let name : n ≡ decl_name x = e ∙ second_is bs at x h in
    let word = g b x k h f s in
    cc

pub formal-by : (bs : List ℕ) (at level i n k w r : ℕ) → k ≡ field_at bs (at + 4) → w ≡ packed i 1 k level 0 → n ≡ field_at bs (at + 2) → r ≡ entry_from n w → FormalEntry bs at level i r
formal-by bs at level i n k w r a b c d = cc

module _ (bs st : List ℕ) (at count d level i r : ℕ) where
  pub own-formal : i < count → FormalEntry bs (at + 6 * i) level i r → OwnEntry bs st at count d level i r
  own-formal l e = record { of-formal = λ h. e; of-declaration = λ h. absurd (omega arith) }

  pub own-declared : (here : ℕ) → count ≤ i → here ≡ get_or st (i - count) 0 → DeclaredEntry bs st here d level i r → OwnEntry bs st at count d level i r
  own-declared here l e g =
      record { of-formal = λ h. absurd (omega arith); of-declaration = λ h. subst (λ (o : ℕ). DeclaredEntry bs st o d level i r) e g }

-- put one after the other
pub record Owning (bs st es₀ es : List ℕ) (at count d base level i : ℕ) : Type 0 where
  pub within : i ≤ count + d
  pub filled : Filling es₀ es base i
  pub put : (j : ℕ) → j < i → OwnEntry bs st at count d level j (get_or es (base + j) 0)

pub owning-start : (bs st es : List ℕ) (at count d base level : ℕ) → Owning bs st es es at count d base level 0
owning-start bs st es at count d base level = record { within = omega arith; filled = filling-start es base; put = λ j l. absurd (omega arith) }

module _ {bs st es₀ es : List ℕ} {at count d base level i : ℕ} (o : Owning bs st es₀ es at count d base level i) where
  pub owning-step :
      (v : ℕ) → i < count + d → base + (count + d) ≤ length es₀ → OwnEntry bs st at count d level i v → Owning bs st es₀ (set es (base + i) v) at count d base level (i + 1)
  owning-step v l room e = record { within = omega arith; filled = filling_step es₀ es base i v o.filled; put = λ j m. go j m (eq-or-lt_of_le (omega arith)) }
    where
      go : (j : ℕ) → j < i + 1 → (j ≡ i) ⊎ (j < i) → OwnEntry bs st at count d level j (get_or (set es (base + i) v) (base + j) 0)
      go j m (inl q) =
          subst (λ (x : ℕ). OwnEntry bs st at count d level x (get_or (set es (base + i) v) (base + x) 0)) (sym q)
          (subst (OwnEntry bs st at count d level i) (sym (get_or-set_same es (base + i) v 0 (omega (arith, o.filled.long)))) e)
      go j m (inr q) =
          subst (OwnEntry bs st at count d level j) (sym (get_or-set_other es (base + i) (base + j) v 0 (λ p. omega arith))) (o.put j q)

  pub owning-end : count + d ≤ i → OwnPut bs st es₀ es at count d base level
  owning-end l =
      let e : i ≡ count + d = omega (arith, o.within) in
      record { long = o.filled.long; put = λ j m. o.put j (omega arith); above = rw e at o.filled.above; below = o.filled.below }

-- they are those of the formals, then those of the declarations
listed : (xs es : List ℕ) (base : ℕ) → base + length xs ≤ length es → ((i : ℕ) → i < length xs → get_or es (base + i) 0 ≡ get_or xs i 0) → take (length xs) (drop base es) ≡ xs
listed [] es base room same = refl
listed (x ∷ xs) es base room same =
    let here : base + 0 ≡ base = omega arith in
    let first : get_or es base 0 ≡ x = ap (λ (k : ℕ). get_or es k 0) (sym here) ∙ same 0 (omega arith) in
    rw (drop-cons es base 0 (omega arith))
    (rw (first, listed xs es (suc base) (omega arith) (λ i l. let next : suc base + i ≡ base + suc i = omega arith in ap (λ (k : ℕ). get_or es k 0) next ∙ same (suc i) (omega arith))))

formals-counted : (level i : ℕ) (fs : List Formal) → length (formal_entries level i fs) ≡ length fs
unfolding formal_entries formal_names formal_words zip
formals-counted level i [] = refl
formals-counted level i (f ∷ fs) = ap suc (formals-counted level (suc i) fs)

decls-counted : (b : Block) (level i : ℕ) (ds : List Decl) → length (decl_entries b level i ds) ≡ length ds
unfolding decl_entries decl_words zip
decls-counted b level i [] = refl
decls-counted b level i (x ∷ ds) = ap suc (decls-counted b level (suc i) ds)

formal-at :
    (bs : List ℕ) (level : ℕ) (fs : List Formal) (at k i r : ℕ) → FieldsStand bs at (formals_fields fs) → i < length fs → FormalEntry bs (at + 6 * i) level (k + i) r →
    r ≡ get_or (formal_entries level k fs) i 0
unfolding formals_fields formal_entries formal_names formal_words zip entry_of
formal-at bs level [] at k i r h l e = absurd (omega arith)
formal-at bs level (f ∷ fs) at k zero r h l e =
    let here : at + 6 * 0 ≡ at = omega arith in
    let none : k + 0 ≡ k = omega arith in
    let third = fields-third bs at FM-mark f.name (kind_field f.kind) (formals_fields fs) h in
    e ∙ rw (here, none) (rw (h.1.0, third))
formal-at bs level (f ∷ fs) at k (suc i) r h l e =
    let six : at + 2 * 3 + 6 * i ≡ at + 6 * suc i = omega arith in
    let one : suc k + i ≡ k + suc i = omega arith in
    formal-at bs level fs (at + 2 * 3) (suc k) i r (fields-after bs at (FM-mark ∷ f.name ∷ kind_field f.kind ∷ []) (formals_fields fs) h) (omega arith)
    (rw (six, one) e)

decl-at :
    (bs st : List ℕ) (b : Block) (d level lv : ℕ) (ds : Decls) (here k i r : ℕ) → FieldsStand bs here (decls_fields ds) → FormedDecls ds lv (length (block_stmts b)) here →
    i < length (decls ds) → DeclaredEntry bs st (get_or (starts_of (map declared (decls ds)) here) i 0) d level (k + i) r →
    (field_at bs (get_or (starts_of (map declared (decls ds)) here) i 0) ≡ LB-mark → Stated b d st) → r ≡ get_or (decl_entries b level k (decls ds)) i 0
unfolding decls_fields decls FormedDecls starts_of item_fields decl_entries decl_words zip entry_of
decl-at bs st b d level lv no-decl here k i r h f l e s = absurd (omega arith)
decl-at bs st b d level lv (decl x ds) here k zero r h f l e s =
    let none : k + 0 ≡ k = omega arith in
    rw none at (e b x lv (fields-first bs here (decl_fields x) (decls_fields ds) h) f.0 s)
decl-at bs st b d level lv (decl x ds) here k (suc i) r h f l e s =
    let one : k + suc i ≡ suc k + i = omega arith in
    decl-at bs st b d level lv ds (here + 2 * length (decl_fields x)) (suc k) i r (fields-after bs here (decl_fields x) (decls_fields ds) h) f.1 (omega arith) (rw one at e) s

module _ (bs st es es' : List ℕ) (at count d base level : ℕ) (put : OwnPut bs st es es' at count d base level) (room : base + (count + d) ≤ length es) where
  pub formals-put : (fs : List Formal) → length fs ≡ count → FieldsStand bs at (formals_fields fs) → take count (drop base es') ≡ formal_entries level 0 fs
  formals-put fs n h =
      let c : length (formal_entries level 0 fs) ≡ count = formals-counted level 0 fs ∙ n in
      ap (λ (k : ℕ). take k (drop base es')) (sym c)
      ∙ listed (formal_entries level 0 fs) es' base (omega (arith, put.long)) (λ i l. one i (omega arith))
    where
      one : (i : ℕ) → i < count → get_or es' (base + i) 0 ≡ get_or (formal_entries level 0 fs) i 0
      one i l =
          let none : i ≡ 0 + i = omega arith in
          formal-at bs level fs at 0 i _ h (omega arith)
          (subst (λ (j : ℕ). FormalEntry bs (at + 6 * i) level j (get_or es' (base + i) 0)) none ((put.put i (omega arith)).of-formal l))

  pub decls-put :
      (b : Block) (ds : Decls) (k here : ℕ) → length (decls ds) ≡ d → FieldsStand bs here (decls_fields ds) → FormedDecls ds k (length (block_stmts b)) here →
      take d st ≡ starts_of (map declared (decls ds)) here → ((j : ℕ) → j < d → field_at bs (get_or st j 0) ≡ LB-mark → Stated b d st) →
      take d (drop (base + count) es') ≡ decl_entries b level count (decls ds)
  decls-put b ds k here n h f t s =
      let c : length (decl_entries b level count (decls ds)) ≡ d = decls-counted b level count (decls ds) ∙ n in
      ap (λ (m : ℕ). take m (drop (base + count) es')) (sym c)
      ∙ listed (decl_entries b level count (decls ds)) es' (base + count) (omega (arith, put.long)) (λ i l. one i (omega arith))
    where
      one : (i : ℕ) → i < d → get_or es' (base + count + i) 0 ≡ get_or (decl_entries b level count (decls ds)) i 0
      one i l =
          let o : base + (count + i) ≡ base + count + i = omega arith in
          let j : count + i - count ≡ i = omega arith in
          let g : get_or st i 0 ≡ get_or (starts_of (map declared (decls ds)) here) i 0 = sym (get_or-take d st i 0 l) ∙ ap (λ (x : List ℕ). get_or x i 0) t in
          let e = (put.put (count + i) (omega arith)).of-declaration (omega arith) in
          decl-at bs st b d level k ds here count i _ h f (omega arith) (rw (o, j, g) at e) (λ m. s i l (ap (field_at bs) g ∙ m))
