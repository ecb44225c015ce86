-- What leads up to a place is read: where the reader of the place refuses the fields that are left (`Stops`), the program's reader refuses the whole
-- script in the same way (`leads`).
use Prim.Native.Nat.{ℕ, zero, suc, ◌+◌, ◌-◌, ◌*◌, ◌≤◌, ◌<◌}
use native.Mathlib.Omega.{arith}
use Rattle.std.specs.Prelude.{true, false, leb, get_or}
use mathlib.Core.List.{List, [], ◌∷◌, ◌++◌, map, append_assoc}
use Rattle.std.proofs.Math.Option.{some}
use Rattle.std.proofs.Math.Path.{◌≡◌, refl, ap}
use Rattle.std.proofs.Common.{sym, ◌∙◌, subst, le-leb}
use Rattle.std.proofs.Math.ListN.{length, length-append}
use Rattle.std.proofs.lemmas.List.{length-map}
use Rattle.language.specs.Basics.{among}
use Rattle.language.specs.Text.{Formal, Block, Decl, PR, Decls, no-decl, decl, Stmts, no-stmt, stmt, decls, stmts, decl_name, formal_names}
use Rattle.language.specs.Encoding.{kind_field, BK-mark, PR-mark, FM-mark, formals_fields, decl_fields, stmt_fields, decls_fields, stmts_fields}
use Rattle.language.specs.Structure.{refuse, Reader, ◌>>=◌, give, is_pR, is_bK, block_marks, formal_marks, decl_marks, stmt_marks, fit, take-record, formals, declared, declarations, stated, statements, block_with, program}
use Rattle.language.specs.declared.Refusal.{Refusal}
use Rattle.laws.specs.Tests.{none≢some, some_inj}
use Rattle.laws.specs.Distinct.{Fresh, distinct-fresh}
use Rattle.laws.specs.Readers.{bind-read, bind-refuse, passes}
use Rattle.grammar.specs.Rules.{FormedFormals, FormedDecls, FormedStmts}
use Rattle.grammar.specs.Readers.{bind_assoc}
use Rattle.grammar.proofs.Writing.{row, marked, kind-read, new, write-formals, one-decl, one-stmt, write-decl, write-stmt, write-decls}
use Rattle.causes.specs.Places.{Place, block-due, formal-due, decl-due, stmt-due, opens, names, Opened, Heads, LeadsUp, at-start, at-declaration, at-statement, at-formal, at_body}
use Rattle.causes.proofs.Growing.{Alike, alike-middle, alike_end}

-- the reader of a block with its BK, where so many levels are left
abbrev pub whole : ℕ → List Formal → Reader Block
whole k fs = take-record block_marks >>= λ b. block_with k b.at (get_or b.fields 0 0) (get_or b.fields 1 0) (formal_names fs)

abbrev pub Stops : Place → ℕ → List ℕ → Refusal → ℕ → Type 0
Stops (block-due level fs) at us c o = (k : ℕ) → level + k ≡ 17 → whole k fs at us ≡ refuse c o
Stops (formal-due gs) at us c o = (m : ℕ) (seen : List ℕ) → Alike seen (formal_names gs) → formals (suc m) seen at us ≡ refuse c o
Stops (decl-due level s fs ds) at us c o =
    (k m : ℕ) (seen : List ℕ) → suc level + k ≡ 17 → Alike seen (names fs ds) → declarations (block_with k) s (suc m) seen at us ≡ refuse c o
Stops (stmt-due level) at us c o = (k m : ℕ) → suc level + k ≡ 17 → statements (block_with k) (suc m) at us ≡ refuse c o

few-names : (fs : List Formal) (d : ℕ) → length fs + d ≤ 32 → leb (length (formal_names fs) + d) 32 ≡ true
unfolding formal_names
few-names fs d h = le-leb (length (formal_names fs) + d) 32 (omega (arith, length-map fs (λ (f : Formal). f.name)))

-- the reader of a procedure declaration after its name and p
abbrev after-head : ℕ → ℕ → ℕ → ℕ → Reader Decl
after-head k at n p =
    formals p [] >>= λ ps. take-record block_marks >>= λ b.
    block_with k b.at (get_or b.fields 0 0) (get_or b.fields 1 0) (formal_names ps) >>= λ t. give (PR at n ps t)

-- the same offset, after the fields before
onward : (c : Refusal) (o : ℕ) (p : Place) (ws xs us : List ℕ) (at : ℕ) → at ≡ 2 * length ws + 2 * length xs → Stops p (2 * length (ws ++ xs)) us c o → Stops p at us c o
onward c o p ws xs us at e h = let q : 2 * length (ws ++ xs) ≡ at = omega (arith, length-append ws xs) in subst (λ (z : ℕ). Stops p z us c o) q h

module _ {c : Refusal} {o : ℕ} where
  -- pieces that are read, and then what refuses
  after-formals : (gs : List Formal) (p m : ℕ) (seen : List ℕ) (at : ℕ) (us : List ℕ) → p ≡ length gs + m → FormedFormals gs at → Fresh seen (formal_names gs)
      → ((seen' : List ℕ) → Alike seen' (seen ++ formal_names gs) → formals m seen' (at + 2 * length (formals_fields gs)) us ≡ refuse c o)
      → formals p seen at (formals_fields gs ++ us) ≡ refuse c o
  unfolding formals_fields FormedFormals formal_names formals fit formal_marks give
  after-formals [] p m seen at us e f n h =
      let q : p ≡ m = omega arith in
      let a : at ≡ at + 2 * 0 = omega arith in
      (λ i. formals (q i) seen (a i) us) ∙ h seen (alike_end seen)
  after-formals (g ∷ gs) zero m seen at us e f n h = absurd (omega arith)
  after-formals (g ∷ gs) (suc p) m seen at us e f n h =
      marked formal_marks _ (row FM-mark 2 true) at (g.name ∷ kind_field g.kind ∷ []) (formals_fields gs ++ us) refl refl
      ∙ kind-read at g.kind _ (at + 6) (formals_fields gs ++ us)
      ∙ passes _ _ at _ (at + 6) (formals_fields gs ++ us) (new g.name seen n.0)
      ∙ bind-refuse (formals p (g.name ∷ seen)) _ (at + 6) _
      (after-formals gs p m (g.name ∷ seen) (at + 6) us (omega arith) f.rest n.1
      (λ s a. let q : at + 6 + 2 * length (formals_fields gs) ≡ at + 2 * length (formals_fields (g ∷ gs)) = omega arith in
      ap (λ (z : ℕ). formals m s z us) q ∙ h s (λ y. a y ∙ alike-middle g.name seen (formal_names gs) y)))

  after-decls : (ds : Decls) (k level s d m : ℕ) (seen : List ℕ) (at : ℕ) (us : List ℕ) → suc level + k ≡ 17 → d ≡ length (decls ds) + m → FormedDecls ds level s at
      → Fresh seen (map decl_name (decls ds))
      → ((seen' : List ℕ) → Alike seen' (seen ++ map decl_name (decls ds)) → declarations (block_with k) s m seen' (at + 2 * length (decls_fields ds)) us ≡ refuse c o)
      → declarations (block_with k) s d seen at (decls_fields ds ++ us) ≡ refuse c o
  unfolding decls_fields FormedDecls decls declarations give
  after-decls no-decl k level s d m seen at us l e f n h =
      let q : d ≡ m = omega arith in
      let a : at ≡ at + 2 * 0 = omega arith in
      (λ i. declarations (block_with k) s (q i) seen (a i) us) ∙ h seen (alike_end seen)
  after-decls (decl x xs) k level s zero m seen at us l e f n h = absurd (omega arith)
  after-decls (decl x xs) k level s (suc d) m seen at us l e f n h =
      ap (λ (z : List ℕ). declarations (block_with k) s (suc d) seen at z) (append_assoc (decl_fields x) (decls_fields xs) us)
      ∙ bind_assoc (take-record decl_marks) (λ r. declared (block_with k) s seen r.mark r.at r.fields) _ at _
      ∙ bind-read (one-decl k s seen) _ at _ (write-decl x k level s seen at (decls_fields xs ++ us) l f.0 n.0)
      ∙ bind-refuse (declarations (block_with k) s d (decl_name x ∷ seen)) _ _ _
      (after-decls xs k level s d m (decl_name x ∷ seen) (at + 2 * length (decl_fields x)) us l (omega arith) f.1 n.1
      (λ z a. let q : at + 2 * length (decl_fields x) + 2 * length (decls_fields xs) ≡ at + 2 * length (decl_fields x ++ decls_fields xs) = omega (arith, length-append (decl_fields x) (decls_fields xs)) in
      ap (λ (y : ℕ). declarations (block_with k) s m z y us) q ∙ h z (λ y. a y ∙ alike-middle (decl_name x) seen (map decl_name (decls xs)) y)))

  after-stmts : (ss : Stmts) (k level s m : ℕ) (at : ℕ) (us : List ℕ) → suc level + k ≡ 17 → s ≡ length (stmts ss) + m → FormedStmts ss level at
      → statements (block_with k) m (at + 2 * length (stmts_fields ss)) us ≡ refuse c o → statements (block_with k) s at (stmts_fields ss ++ us) ≡ refuse c o
  unfolding stmts_fields FormedStmts stmts statements give
  after-stmts no-stmt k level s m at us l e f h =
      let q : s ≡ m = omega arith in
      let a : at ≡ at + 2 * 0 = omega arith in
      (λ i. statements (block_with k) (q i) (a i) us) ∙ h
  after-stmts (stmt x xs) k level zero m at us l e f h = absurd (omega arith)
  after-stmts (stmt x xs) k level (suc s) m at us l e f h =
      ap (λ (z : List ℕ). statements (block_with k) (suc s) at z) (append_assoc (stmt_fields x) (stmts_fields xs) us)
      ∙ bind_assoc (take-record stmt_marks) (λ r. stated (block_with k) r.mark r.at r.fields) _ at _
      ∙ bind-read (one-stmt k) _ at _ (write-stmt x k level at (stmts_fields xs ++ us) l f.0)
      ∙ bind-refuse (statements (block_with k) s) _ _ _
      (after-stmts xs k level s m (at + 2 * length (stmt_fields x)) us l (omega arith) f.1
      (let q : at + 2 * length (stmt_fields x) + 2 * length (stmts_fields xs) ≡ at + 2 * length (stmt_fields x ++ stmts_fields xs) = omega (arith, length-append (stmt_fields x) (stmts_fields xs)) in
      ap (λ (y : ℕ). statements (block_with k) m y us) q ∙ h))

  -- a BK at a place that opens a block, where the block's reader refuses
  bk-block : (k : ℕ) (fs : List Formal) (at d s : ℕ) (vs : List ℕ) → block_with k at d s (formal_names fs) (at + 6) vs ≡ refuse c o → whole k fs at (BK-mark ∷ d ∷ s ∷ vs) ≡ refuse c o
  unfolding fit block_marks give
  bk-block k fs at d s vs h = marked block_marks _ (row BK-mark 2 true) at (d ∷ s ∷ []) vs refl refl ∙ h

  bk-stmt : (k m : ℕ) (at d s : ℕ) (vs : List ℕ) → block_with k at d s [] (at + 6) vs ≡ refuse c o → statements (block_with k) (suc m) at (BK-mark ∷ d ∷ s ∷ vs) ≡ refuse c o
  unfolding statements stated fit stmt_marks give
  bk-stmt k m at d s vs h =
      marked stmt_marks _ (row BK-mark 2 is_bK) at (d ∷ s ∷ []) vs refl refl
      ∙ bind-refuse (stated (block_with k) is_bK at (d ∷ s ∷ [])) _ (at + 6) vs (bind-refuse (block_with k at d s []) _ (at + 6) vs h)

  pub opens-stops : (p : Place) (level : ℕ) (fs : List Formal) (at d s : ℕ) (vs : List ℕ) → opens p ≡ some (level, fs)
      → ((k : ℕ) → level + k ≡ 17 → block_with k at d s (formal_names fs) (at + 6) vs ≡ refuse c o) → Stops p at (BK-mark ∷ d ∷ s ∷ vs) c o
  unfolding opens formal_names
  opens-stops (block-due level' fs') level fs at d s vs e h =
      let q : ◌≡◌ {A = ℕ × List Formal} (level', fs') (level, fs) = some_inj e in
      let a : level' ≡ level = ap (λ (x : ℕ × List Formal). x.0) q in
      let b : fs' ≡ fs = ap (λ (x : ℕ × List Formal). x.1) q in
      λ k l. bk-block k fs' at d s vs (ap (λ (x : List Formal). block_with k at d s (formal_names x) (at + 6) vs) b ∙ h k (omega arith))
  opens-stops (formal-due gs) level fs at d s vs e h = none≢some e
  opens-stops (decl-due level' s' fs' ds) level fs at d s vs e h = none≢some e
  opens-stops (stmt-due level') level fs at d s vs e h =
      let q : ◌≡◌ {A = ℕ × List Formal} (suc level', []) (level, fs) = some_inj e in
      let a : suc level' ≡ level = ap (λ (x : ℕ × List Formal). x.0) q in
      let b : [] ≡ fs = ap (λ (x : ℕ × List Formal). x.1) q in
      λ k m l. bk-stmt k m at d s vs (ap (λ (x : List Formal). block_with k at d s (formal_names x) (at + 6) vs) b ∙ h k (omega arith))

  -- a block whose declarations, or statements, are read up to what refuses
  module _ (level d s : ℕ) (fs : List Formal) (here : ℕ) (ds : Decls) (w : Opened level d s fs here ds) (us : List ℕ) where
    decl-stops : length (decls ds) < d → Stops (decl-due level s fs (decls ds)) (here + 6 + 2 * length (decls_fields ds)) us c o
        → (k : ℕ) → level + k ≡ 17 → block_with k here d s (formal_names fs) (here + 6) (decls_fields ds ++ us) ≡ refuse c o
    unfolding block_with names
    decl-stops l h zero e = absurd (omega (arith, w.nesting))
    decl-stops l h (suc k) e =
        passes _ _ here _ (here + 6) _ (few-names fs d w.few)
        ∙ bind-refuse (declarations (block_with k) s d (formal_names fs)) _ (here + 6) _
        (after-decls ds k level s d (suc (d - suc (length (decls ds)))) (formal_names fs) (here + 6) us (omega arith) (omega arith) w.formed
        (distinct-fresh (formal_names fs) (map decl_name (decls ds)) w.once) (λ seen a. h k (d - suc (length (decls ds))) seen (omega arith) a))

    stmt-stops : length (decls ds) ≡ d → (ss : Stmts) → FormedStmts ss level (here + 6 + 2 * length (decls_fields ds)) → length (stmts ss) < s
        → Stops (stmt-due level) (here + 6 + 2 * length (decls_fields ds) + 2 * length (stmts_fields ss)) us c o
        → (k : ℕ) → level + k ≡ 17 → block_with k here d s (formal_names fs) (here + 6) (decls_fields ds ++ (stmts_fields ss ++ us)) ≡ refuse c o
    unfolding block_with names
    stmt-stops q ss f l h zero e = absurd (omega (arith, w.nesting))
    stmt-stops q ss f l h (suc k) e =
        passes _ _ here _ (here + 6) _ (few-names fs d w.few)
        ∙ bind-read (declarations (block_with k) s d (formal_names fs)) _ (here + 6) _
        (ap (λ (z : ℕ). declarations (block_with k) s z (formal_names fs) (here + 6) (decls_fields ds ++ (stmts_fields ss ++ us))) (sym q)
        ∙ write-decls ds k level s (formal_names fs) (here + 6) (stmts_fields ss ++ us) (omega arith) w.formed (distinct-fresh (formal_names fs) (map decl_name (decls ds)) w.once))
        ∙ bind-refuse (statements (block_with k) s) _ _ _
        (after-stmts ss k level s (suc (s - suc (length (stmts ss)))) (here + 6 + 2 * length (decls_fields ds)) us (omega arith) (omega arith) f (h k (s - suc (length (stmts ss))) (omega arith)))

  -- a PR whose formals, or body, are read up to what refuses
  pr-stops : (k m s : ℕ) (seen : List ℕ) (at n p : ℕ) (vs : List ℕ) → p ≤ 32 → among n seen ≡ false → after-head k at n p (at + 6) vs ≡ refuse c o
      → declarations (block_with k) s (suc m) seen at (PR-mark ∷ n ∷ p ∷ vs) ≡ refuse c o
  unfolding declarations declared fit decl_marks give
  pr-stops k m s seen at n p vs few fresh h =
      marked decl_marks _ (row PR-mark 2 is_pR) at (n ∷ p ∷ []) vs refl refl
      ∙ bind-refuse (declared (block_with k) s seen is_pR at (n ∷ p ∷ [])) _ (at + 6) vs
      (passes _ _ at _ (at + 6) vs (le-leb p 32 few) ∙ passes _ _ at _ (at + 6) vs (new n seen fresh) ∙ h)

  module _ (level s : ℕ) (fs : List Formal) (ds : List Decl) (n p here : ℕ) (gs : List Formal) (w : Heads fs ds n p here gs) (us : List ℕ) where
    formal-stops : length gs < p → Stops (formal-due gs) (here + 6 + 2 * length (formals_fields gs)) us c o
        → Stops (decl-due level s fs ds) here (PR-mark ∷ n ∷ p ∷ (formals_fields gs ++ us)) c o
    formal-stops l h k m seen e same =
        pr-stops k m s seen here n p _ w.few (same n ∙ w.new)
        (bind-refuse (formals p []) _ (here + 6) _
        (after-formals gs p (suc (p - suc (length gs))) [] (here + 6) us (omega arith) w.formed (distinct-fresh [] (formal_names gs) w.once) (λ z a. h (p - suc (length gs)) z a)))

    body-stops : length gs ≡ p → Stops (block-due (suc level) gs) (here + 6 + 2 * length (formals_fields gs)) us c o
        → Stops (decl-due level s fs ds) here (PR-mark ∷ n ∷ p ∷ (formals_fields gs ++ us)) c o
    body-stops l h k m seen e same =
        pr-stops k m s seen here n p _ w.few (same n ∙ w.new)
        (bind-read (formals p []) _ (here + 6) _
        (ap (λ (z : ℕ). formals z [] (here + 6) (formals_fields gs ++ us)) (sym l) ∙ write-formals gs [] (here + 6) us w.formed (distinct-fresh [] (formal_names gs) w.once))
        ∙ bind_assoc (take-record block_marks) (λ b. block_with k b.at (get_or b.fields 0 0) (get_or b.fields 1 0) (formal_names gs)) _ _ _
        ∙ bind-refuse (whole k gs) _ _ _ (h k e))

  pub leads : {ws : List ℕ} {p : Place} → LeadsUp ws p → (us : List ℕ) → Stops p (2 * length ws) us c o → program 0 (ws ++ us) ≡ refuse c o
  unfolding program formal_names
  leads at-start us h = h 16 refl
  leads (at-declaration {ws} {place} {level} {fs} d s ds b e w l) us h =
      let xs = BK-mark ∷ d ∷ s ∷ decls_fields ds in
      ap (program 0) (append_assoc ws xs us)
      ∙ leads b (xs ++ us) (opens-stops place level fs (2 * length ws) d s (decls_fields ds ++ us) e
      (decl-stops level d s fs (2 * length ws) ds w us l (onward c o (decl-due level s fs (decls ds)) ws xs us _ (omega arith) h)))
  leads (at-statement {ws} {place} {level} {fs} d s ds ss b e w q f l) us h =
      let xs = BK-mark ∷ d ∷ s ∷ (decls_fields ds ++ stmts_fields ss) in
      ap (program 0) (append_assoc ws xs us ∙ ap (λ (z : List ℕ). ws ++ (BK-mark ∷ d ∷ s ∷ z)) (append_assoc (decls_fields ds) (stmts_fields ss) us))
      ∙ leads b (BK-mark ∷ d ∷ s ∷ (decls_fields ds ++ (stmts_fields ss ++ us))) (opens-stops place level fs (2 * length ws) d s (decls_fields ds ++ (stmts_fields ss ++ us)) e
      (stmt-stops level d s fs (2 * length ws) ds w us q ss f l
      (onward c o (stmt-due level) ws xs us _ (omega (arith, length-append (decls_fields ds) (stmts_fields ss))) h)))
  leads (at-formal {ws} {level} {s} {fs} {ds} n p gs b w l) us h =
      let xs = PR-mark ∷ n ∷ p ∷ formals_fields gs in
      ap (program 0) (append_assoc ws xs us)
      ∙ leads b (xs ++ us) (formal-stops level s fs ds n p (2 * length ws) gs w us l (onward c o (formal-due gs) ws xs us _ (omega arith) h))
  leads (at_body {ws} {level} {s} {fs} {ds} n p gs b w l) us h =
      let xs = PR-mark ∷ n ∷ p ∷ formals_fields gs in
      ap (program 0) (append_assoc ws xs us)
      ∙ leads b (xs ++ us) (body-stops level s fs ds n p (2 * length ws) gs w us l (onward c o (block-due (suc level) gs) ws xs us _ (omega arith) h))
