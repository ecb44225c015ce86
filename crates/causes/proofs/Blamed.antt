-- Whatever the reader refuses, 2 to 8, is at fault where it says: each reader, where the place that it reads is due.
use Prim.Native.Nat.{ℕ, zero, suc, ◌+◌, ◌*◌, ◌≤◌, ◌<◌}
use Rattle.std.proofs.Common.{arith, inl, inr, ◌∙◌}
use Rattle.std.specs.Prelude.{true, false, not, ◌&&◌, ◌⊎◌, ◌≡◌, leb, get_or}
use Rattle.std.proofs.Math.Bool.{and-eq-true_iff}
use mathlib.Core.List.{List, [], ◌∷◌, ◌++◌, map, append_assoc, append-nil}
use Rattle.std.proofs.Math.Option.{some}
use Rattle.std.proofs.Math.Path.{refl, sym, ap, subst}
use borrow.Author.Tests.{leb-true, leb-false, not-true, not-false}
use Rattle.std.proofs.Math.ListN.{length, length-append, length-map}
use Rattle.language.specs.Basics.{among}
use Rattle.language.specs.Text.{Kind, variable, label, procedure, Formal, Block, Decl, Stmt, Decls, no-decl, Stmts, no-stmt, decls, stmts, decl_name, formal_names}
use Rattle.language.specs.Encoding.{kind_field, BK-mark, VR-mark, LB-mark, PR-mark, FM-mark, CL-mark, AR-mark, formals_fields, decl_fields, stmt_fields, decls_fields, stmts_fields}
use Rattle.language.specs.Structure.{Reader, ◌>>=◌, give, fields, is_vR, is_lB, is_pR, is_bK, is_cL, is_aR, block_marks, formal_marks, decl_marks, stmt_marks, take-record, formals, BlockReader, declared, declarations, action, stated, statements, block_with, program}
use Rattle.language.specs.declared.Refusal.TheVariants.{PastTheEnd, FieldRange, NestingDepth, TooManyNames, NameTwice}
use Rattle.laws.specs.Tests.{split, never}
use Rattle.laws.specs.Each.{Each}
use Rattle.laws.specs.Distinct.{Distinct, fresh-distinct}
use Rattle.grammar.specs.Rules.{Name, FormedFormals, FormedDecl, FormedDecls, FormedStmt, FormedStmts}
use Rattle.grammar.proofs.Reading.{GotFormals, GotDecl, GotDecls, GotStmt, ReadsBlocks, read-formals, read-decl, read-decls, read-stmt, read-blocks}
use Rattle.causes.specs.Places.{Place, block-due, formal-due, decl-due, stmt-due, opens, marks_at, names, Opened, Heads, LeadsUp, at-start, at-declaration, at-statement, at-formal, at_body}
use Rattle.causes.specs.Faults.{no_arguments, kind-range, index-range, operation-range, arguments-range, deep-block, many-formals, many-names, formal-twice, variable-twice, label-twice, procedure-twice, past_end, out_of_range, too-deep, too_many, twice}
use Rattle.causes.proofs.Blaming.{Blames, table, yields-any, blames-bind, blames-part, blames-require, blames-fields, blames-kind, blames-operation}
use Rattle.causes.proofs.Growing.{more_decls, more_stmts, more-decls, more-decls-fields, more-decls-formed, more-stmts, more-stmts-fields, more-stmts-formed, more-formals-fields, more-formals-formed, more-formals-names, more-names, Alike, alike-more, distinct_more}
use Rattle.causes.proofs.Records.{Reached, Told, due, due-as, reached-as, names-left, blames-due, reached-on}

small : (k : Kind) (f : ℕ) → f ≡ kind_field k → f ≤ 2
unfolding kind_field
small variable f e = omega arith
small label f e = omega arith
small procedure f e = omega arith

outside : (i s : ℕ) → leb 1 i && leb i s ≡ false → (i < 1) ⊎ (s < i)
outside i s t =
    split (leb 1 i) (λ a. split (leb i s) (λ b. never ((and-eq-true_iff (leb 1 i) (leb i s)).1 (a, b)) t) (λ b. inr (omega (arith, leb-false i s b))))
    (λ a. inl (omega (arith, leb-false 1 i a)))

-- the formals gs of a PR are there, and the fields us are left
record Heading (all : List ℕ) (level s : ℕ) (fs : List Formal) (ds : List Decl) (n p at : ℕ) (us : List ℕ) (gs : List Formal) : Type 0 where
  before : List ℕ
  led : LeadsUp before (decl-due level s fs ds)
  text : all ≡ before ++ (PR-mark ∷ n ∷ p ∷ (formals_fields gs ++ us))
  stands : at ≡ 2 * length before + 6 + 2 * length (formals_fields gs)
  heads : Heads fs ds n p (2 * length before) gs

-- the declarations ds of a block are there, and the fields us are left
record Opening (all : List ℕ) (level d s : ℕ) (fs : List Formal) (at : ℕ) (us : List ℕ) (ds : Decls) : Type 0 where
  before : List ℕ
  place : Place
  led : LeadsUp before place
  opened : opens place ≡ some (level, fs)
  text : all ≡ before ++ (BK-mark ∷ d ∷ s ∷ (decls_fields ds ++ us))
  stands : at ≡ 2 * length before + 6 + 2 * length (decls_fields ds)
  fine : Opened level d s fs (2 * length before) ds

-- all of them and the statements ss are there
record Listing (all : List ℕ) (level d s : ℕ) (fs : List Formal) (at : ℕ) (us : List ℕ) (ds : Decls) (ss : Stmts) : Type 0 where
  before : List ℕ
  place : Place
  led : LeadsUp before place
  opened : opens place ≡ some (level, fs)
  text : all ≡ before ++ (BK-mark ∷ d ∷ s ∷ ((decls_fields ds ++ stmts_fields ss) ++ us))
  stands : at ≡ 2 * length before + 6 + 2 * length (decls_fields ds ++ stmts_fields ss)
  fine : Opened level d s fs (2 * length before) ds
  whole : length (decls ds) ≡ d
  formed : FormedStmts ss level (2 * length before + 6 + 2 * length (decls_fields ds))

module _ (all : List ℕ) (named : Each Name all) where
  module _ {level s : ℕ} {fs : List Formal} {ds : List Decl} {n p : ℕ} where
    formal-reached : {at : ℕ} {us : List ℕ} {gs : List Formal} → Heading all level s fs ds n p at us gs → length gs < p → Reached all (formal-due gs) at us
    formal-reached {gs = gs} h l =
        reached-on h.before (PR-mark ∷ n ∷ p ∷ formals_fields gs) h.text (omega (arith, h.stands)) (at-formal n p gs h.led h.heads l)

    body-reached : {at : ℕ} {us : List ℕ} {gs : List Formal} → Heading all level s fs ds n p at us gs → length gs ≡ p → Reached all (block-due (suc level) gs) at us
    body-reached {gs = gs} h l =
        reached-on h.before (PR-mark ∷ n ∷ p ∷ formals_fields gs) h.text (omega (arith, h.stands)) (at_body n p gs h.led h.heads l)

    more-heading : {at : ℕ} {us : List ℕ} {gs : List Formal} → Heading all level s fs ds n p at us gs → (x f : ℕ) (vs : List ℕ) → us ≡ FM-mark ∷ x ∷ f ∷ vs → (k : Kind) → f ≡ kind_field k
        → Name x → among x (formal_names gs) ≡ false → Heading all level s fs ds n p (at + 6) vs (gs ++ (record { at = at; name = x; kind = k } ∷ []))
    more-heading {at} {us} {gs} h x f vs e k q nm new =
        let g : Formal = record { at = at; name = x; kind = k } in
        let sf = more-formals-fields gs g in
        record {
          before = h.before;
          led = h.led;
          text = h.text ∙ ap (λ (l : List ℕ). h.before ++ (PR-mark ∷ n ∷ p ∷ l)) (spelt sf);
          stands = omega (arith, h.stands, ap length sf, length-append (formals_fields gs) (FM-mark ∷ x ∷ kind_field k ∷ []));
          heads =
              record {
                few = h.heads.few;
                new = h.heads.new;
                once = subst Distinct (sym (more-formals-names gs g)) (distinct_more (formal_names gs) x h.heads.once new);
                formed = more-formals-formed gs g (2 * length h.before + 6) h.heads.formed h.stands nm;
              };
        }
      where
        spelt : formals_fields (gs ++ (record { at = at; name = x; kind = k } ∷ [])) ≡ formals_fields gs ++ (FM-mark ∷ x ∷ kind_field k ∷ [])
            → formals_fields gs ++ us ≡ formals_fields (gs ++ (record { at = at; name = x; kind = k } ∷ [])) ++ vs
        spelt sf = rw (sf, append_assoc, e, q)

    blames-formals : (m : ℕ) (seen : List ℕ) (at : ℕ) (us : List ℕ) (gs : List Formal) → Heading all level s fs ds n p at us gs → m + length gs ≡ p → Alike seen (formal_names gs)
        → Blames (Told all) (formals m seen at us)
    unfolding formals give formal_marks table marks_at
    blames-formals zero seen at us gs h c same = tt
    blames-formals (suc m) seen at us gs h c same =
        let r = formal-reached h (omega arith) in
        blames-due r formal_marks _ refl (
          (λ x f vs e.
              blames-kind (Told all) at f (at + 6) vs _ (λ big. due-as r FieldRange e (out_of_range (kind-range x f vs (omega arith)))) (λ k q.
              blames-require (Told all) _ _ _ _ (at + 6) vs (λ t. due-as r NameTwice e (twice (formal-twice x f vs (omega (arith, small k f q)) (sym (same x) ∙ not-false (among x seen) t)))) (λ t.
              let u = not-true (among x seen) t in
              blames-bind (Told all) (formals m (x ∷ seen)) _ (λ a o ws. Unit {0}) (at + 6) vs
              (blames-formals m (x ∷ seen) (at + 6) vs (gs ++ (record { at = at; name = x; kind = k } ∷ []))
              (more-heading h x f vs e k q (subst (Each Name) e (names-left r named)).1.0 (sym (same x) ∙ u))
              (omega (arith, length-append gs (record { at = at; name = x; kind = k } ∷ [])))
              (λ y. alike-more x seen (formal_names gs) same y ∙ ap (among y) (sym (more-formals-names gs (record { at = at; name = x; kind = k })))))
              (yields-any (formals m (x ∷ seen) (at + 6) vs)) (λ a o ws y. tt)))),
          tt,
        )

  -- what is asked of the reader of the blocks one level below: it blames where a place that opens such a block is due
  abbrev BlamesBlocks : BlockReader → ℕ → Type 0
  BlamesBlocks body level =
      (p : Place) (fs : List Formal) (at d s : ℕ) (us : List ℕ) → opens p ≡ some (level, fs) → Distinct (formal_names fs) → Reached all p at (BK-mark ∷ d ∷ s ∷ us)
      → Blames (Told all) (body at d s (formal_names fs) (at + 6) us)

  module _ (body : BlockReader) (level : ℕ) (reads : ReadsBlocks body (suc level)) (below : BlamesBlocks body (suc level)) where
    -- declarations
    module _ (s : ℕ) (fs : List Formal) (ds : List Decl) (seen : List ℕ) (same : Alike seen (names fs ds)) (at : ℕ) (us : List ℕ) (r : Reached all (decl-due level s fs ds) at us) where
      seen-before : (n : ℕ) → not (among n seen) ≡ false → among n (names fs ds) ≡ true
      seen-before n t = sym (same n) ∙ not-false (among n seen) t

      blames-VR : (n : ℕ) (vs : List ℕ) → us ≡ VR-mark ∷ n ∷ vs → Blames (Told all) (declared body s seen is_vR at (n ∷ []) (at + 4) vs)
      unfolding declared give
      blames-VR n vs e = blames-require (Told all) _ _ _ _ (at + 4) vs (λ t. due-as r NameTwice e (twice (variable-twice n vs (seen-before n t)))) (λ t. tt)

      blames-LB : (n i : ℕ) (vs : List ℕ) → us ≡ LB-mark ∷ n ∷ i ∷ vs → Blames (Told all) (declared body s seen is_lB at (n ∷ i ∷ []) (at + 6) vs)
      unfolding declared give
      blames-LB n i vs e =
          blames-require (Told all) _ _ _ _ (at + 6) vs (λ t. due-as r FieldRange e (out_of_range (index-range n i vs (outside i s t)))) (λ t.
          let q = (and-eq-true_iff (leb 1 i) (leb i s)).0 t in
          blames-require (Told all) _ _ _ _ (at + 6) vs
          (λ u. due-as r NameTwice e (twice (label-twice n i vs (omega (arith, leb-true 1 i q.0)) (omega (arith, leb-true i s q.1)) (seen-before n u)))) (λ u. tt))

      heading : (n p : ℕ) (vs : List ℕ) → us ≡ PR-mark ∷ n ∷ p ∷ vs → p ≤ 32 → among n seen ≡ false → Heading all level s fs ds n p (at + 6) vs []
      unfolding formals_fields FormedFormals formal_names
      heading n p vs e few new =
          record {
            before = r.before;
            led = r.led;
            text = r.text ∙ ap (r.before ++◌) e;
            stands = omega (arith, r.stands);
            heads = record { few = few; new = sym (same n) ∙ new; once = tt; formed = tt };
          }

      -- the same, with all its formals
      headed : (n p : ℕ) (vs : List ℕ) → us ≡ PR-mark ∷ n ∷ p ∷ vs → p ≤ 32 → among n seen ≡ false → (gs : List Formal) (o : ℕ) (xs : List ℕ)
          → GotFormals p [] (at + 6) vs gs o xs → Heading all level s fs ds n p o xs gs
      headed n p vs e few new gs o xs g =
          record {
            before = r.before;
            led = r.led;
            text = r.text ∙ ap (r.before ++◌) (e ∙ ap (λ (l : List ℕ). PR-mark ∷ n ∷ p ∷ l) g.step.text);
            stands = omega (arith, r.stands, g.step.next);
            heads = record { few = few; new = sym (same n) ∙ new; once = fresh-distinct [] (formal_names gs) tt g.fresh; formed = subst (λ (o : ℕ). FormedFormals gs (o + 6)) r.stands g.formed };
          }

      blames-body : (n p : ℕ) (vs : List ℕ) → us ≡ PR-mark ∷ n ∷ p ∷ vs → p ≤ 32 → among n seen ≡ false → (gs : List Formal) (o : ℕ) (xs : List ℕ)
          → GotFormals p [] (at + 6) vs gs o xs → (f : Block → Reader Decl) → ((t : Block) (a : ℕ) (ys : List ℕ) → Blames (Told all) (f t a ys))
          → Blames (Told all) ((take-record block_marks >>= λ b. body b.at (get_or b.fields 0 0) (get_or b.fields 1 0) (formal_names gs) >>= f) o xs)
      unfolding block_marks table marks_at opens
      blames-body n p vs e few new gs o xs g f end =
          let q = body-reached (headed n p vs e few new gs o xs g) (sym g.count) in
          blames-due q block_marks _ refl (
            (λ d c ys w.
                blames-bind (Told all) (body o d c (formal_names gs)) f (λ t a zs. Unit {0}) (o + 6) ys
                (below (block-due (suc level) gs) gs o d c ys refl (fresh-distinct [] (formal_names gs) tt g.fresh) (reached-as q w))
                (yields-any (body o d c (formal_names gs) (o + 6) ys)) (λ t a zs y. end t a zs)),
            tt,
          )

      blames-PR : (n p : ℕ) (vs : List ℕ) → us ≡ PR-mark ∷ n ∷ p ∷ vs → Blames (Told all) (declared body s seen is_pR at (n ∷ p ∷ []) (at + 6) vs)
      unfolding declared give formal_names
      blames-PR n p vs e =
          blames-require (Told all) _ _ _ _ (at + 6) vs (λ t. due-as r TooManyNames e (too_many (many-formals n p vs (omega (arith, leb-false p 32 t))))) (λ t.
          let few = leb-true p 32 t in
          blames-require (Told all) _ _ _ _ (at + 6) vs (λ u. due-as r NameTwice e (twice (procedure-twice n p vs (omega arith) (seen-before n u)))) (λ u.
          let new = not-true (among n seen) u in
          blames-bind (Told all) (formals p []) _ (GotFormals p [] (at + 6) vs) (at + 6) vs
          (blames-formals p [] (at + 6) vs [] (heading n p vs e few new) (omega arith) (λ m. refl))
          (read-formals p [] (at + 6) vs (subst (Each Name) e (names-left r named)).1.1.1)
          (λ gs o xs g. blames-body n p vs e few new gs o xs g _ (λ t a ys. tt))))

      blames-decl : Blames (Told all) ((take-record decl_marks >>= λ x. declared body s seen x.mark x.at x.fields) at us)
      unfolding decl_marks table marks_at
      blames-decl = blames-due r decl_marks _ refl (blames-VR, (blames-LB, (blames-PR, tt)))

    module _ {d s : ℕ} {fs : List Formal} where
      decl-reached : {at : ℕ} {us : List ℕ} {ds : Decls} → Opening all level d s fs at us ds → length (decls ds) < d → Reached all (decl-due level s fs (decls ds)) at us
      decl-reached {ds = ds} h l =
          reached-on h.before (BK-mark ∷ d ∷ s ∷ decls_fields ds) h.text (omega (arith, h.stands)) (at-declaration d s ds h.led h.opened h.fine l)

      more-opening : {at : ℕ} {us : List ℕ} {ds : Decls} → Opening all level d s fs at us ds → (x : Decl) (o : ℕ) (vs : List ℕ) (seen : List ℕ) → Alike seen (names fs (decls ds))
          → GotDecl level s seen at us x o vs → Opening all level d s fs o vs (more_decls ds x)
      more-opening {at} {us} {ds} h x o vs seen same g =
          let sf = more-decls-fields ds x in
          record {
            before = h.before;
            place = h.place;
            led = h.led;
            opened = h.opened;
            text = h.text ∙ ap (λ (l : List ℕ). h.before ++ (BK-mark ∷ d ∷ s ∷ l)) (ap (decls_fields ds ++◌) g.step.text ∙ sym (append_assoc (decls_fields ds) (decl_fields x) vs) ∙ ap (◌++ vs) (sym sf));
            stands = omega (arith, h.stands, g.step.next, ap length sf, length-append (decls_fields ds) (decl_fields x));
            fine =
                record {
                  nesting = h.fine.nesting;
                  few = h.fine.few;
                  once = subst Distinct (sym (ap (names fs) (more-decls ds x) ∙ more-names fs (decls ds) x)) (distinct_more (names fs (decls ds)) (decl_name x) h.fine.once (sym (same (decl_name x)) ∙ g.fresh));
                  formed = more-decls-formed ds x level s (2 * length h.before + 6) h.fine.formed (subst (FormedDecl x level s) h.stands g.formed);
                };
          }

      blames-decls : (m : ℕ) (seen : List ℕ) (at : ℕ) (us : List ℕ) (ds : Decls) → Opening all level d s fs at us ds → m + length (decls ds) ≡ d → Alike seen (names fs (decls ds))
          → Blames (Told all) (declarations body s m seen at us)
      unfolding declarations give
      blames-decls zero seen at us ds h c same = tt
      blames-decls (suc m) seen at us ds h c same =
          let r = decl-reached h (omega arith) in
          blames-part (Told all) (take-record decl_marks) (λ x. declared body s seen x.mark x.at x.fields) _ (GotDecl level s seen at us) at us
          (blames-decl s fs (decls ds) seen same at us r) (read-decl body level reads s seen at us (names-left r named))
          (λ x o vs g.
          blames-bind (Told all) (declarations body s m (decl_name x ∷ seen)) _ (λ a b ys. Unit {0}) o vs
          (blames-decls m (decl_name x ∷ seen) o vs (more_decls ds x) (more-opening h x o vs seen same g)
          (omega (arith, ap length (more-decls ds x), length-append (decls ds) (x ∷ [])))
          (λ y. alike-more (decl_name x) seen (names fs (decls ds)) same y ∙ ap (among y) (sym (ap (names fs) (more-decls ds x) ∙ more-names fs (decls ds) x))))
          (yields-any (declarations body s m (decl_name x ∷ seen) o vs)) (λ a b ys y. tt))

    -- statements
    module _ (at : ℕ) (us : List ℕ) (r : Reached all (stmt-due level) at us) where
      blames-BK : (d c : ℕ) (vs : List ℕ) → us ≡ BK-mark ∷ d ∷ c ∷ vs → Blames (Told all) (stated body is_bK at (d ∷ c ∷ []) (at + 6) vs)
      unfolding stated give opens formal_names
      blames-BK d c vs e =
          blames-bind (Told all) (body at d c []) _ (λ t a zs. Unit {0}) (at + 6) vs (below (stmt-due level) [] at d c vs refl tt (reached-as r e))
          (yields-any (body at d c [] (at + 6) vs)) (λ t a zs y. tt)

      blames-CL : (n a : ℕ) (vs : List ℕ) → us ≡ CL-mark ∷ n ∷ a ∷ vs → Blames (Told all) (stated body is_cL at (n ∷ a ∷ []) (at + 6) vs)
      unfolding stated action give
      blames-CL n a vs e =
          blames-require (Told all) _ _ _ _ (at + 6) vs (λ t. due-as r FieldRange e (out_of_range (arguments-range n a vs (omega (arith, leb-false a 32 t))))) (λ t.
          blames-bind (Told all) (fields at a) _ (λ xs o zs. Unit {0}) (at + 6) vs
          (blames-fields (Told all) at a (at + 6) vs (λ l. due-as r PastTheEnd e (past_end (no_arguments n a vs (omega (arith, leb-true a 32 t)) (omega arith)))))
          (yields-any (fields at a (at + 6) vs)) (λ xs o zs y. tt))

      blames-AR : (t o l x : ℕ) (vs : List ℕ) → us ≡ AR-mark ∷ t ∷ o ∷ l ∷ x ∷ vs → Blames (Told all) (stated body is_aR at (t ∷ o ∷ l ∷ x ∷ []) (at + 10) vs)
      unfolding stated action give
      blames-AR t o l x vs e = blames-operation (Told all) at o (at + 10) vs _ (λ big. due-as r FieldRange e (out_of_range (operation-range t o l x vs (omega arith)))) (λ k q. tt)

      blames-stmt : Blames (Told all) ((take-record stmt_marks >>= λ x. stated body x.mark x.at x.fields) at us)
      unfolding stmt_marks table marks_at stated action give
      blames-stmt =
          blames-due r stmt_marks _ refl
          (blames-BK, (blames-CL, (λ l vs e. tt, (λ v l vs e. tt, (λ t x y vs e. tt, (blames-AR, (λ g m vs e. tt, (λ g m vs e. tt, (λ t g m vs e. tt, tt)))))))))

    module _ {d s : ℕ} {fs : List Formal} {ds : Decls} where
      stmt-reached : {at : ℕ} {us : List ℕ} {ss : Stmts} → Listing all level d s fs at us ds ss → length (stmts ss) < s → Reached all (stmt-due level) at us
      stmt-reached {ss = ss} h l =
          reached-on h.before (BK-mark ∷ d ∷ s ∷ (decls_fields ds ++ stmts_fields ss)) h.text (omega (arith, h.stands))
          (at-statement d s ds ss h.led h.opened h.fine h.whole h.formed l)

      more-listing : {at : ℕ} {us : List ℕ} {ss : Stmts} → Listing all level d s fs at us ds ss → (x : Stmt) (o : ℕ) (vs : List ℕ)
          → GotStmt level at us x o vs → Listing all level d s fs o vs ds (more_stmts ss x)
      more-listing {at} {us} {ss} h x o vs g =
          let sf = ap (decls_fields ds ++◌) (more-stmts-fields ss x) ∙ sym (append_assoc (decls_fields ds) (stmts_fields ss) (stmt_fields x)) in
          record {
            before = h.before;
            place = h.place;
            led = h.led;
            opened = h.opened;
            text = h.text ∙ ap (λ (l : List ℕ). h.before ++ (BK-mark ∷ d ∷ s ∷ l)) (ap ((decls_fields ds ++ stmts_fields ss) ++◌) g.step.text ∙ sym (append_assoc (decls_fields ds ++ stmts_fields ss) (stmt_fields x) vs) ∙ ap (◌++ vs) (sym sf));
            stands = omega (arith, h.stands, g.step.next, ap length sf, length-append (decls_fields ds ++ stmts_fields ss) (stmt_fields x));
            fine = h.fine;
            whole = h.whole;
            formed = more-stmts-formed ss x level _ h.formed (subst (FormedStmt x level) (h.stands ∙ omega (arith, length-append (decls_fields ds) (stmts_fields ss))) g.formed);
          }

      blames-stmts : (m : ℕ) (at : ℕ) (us : List ℕ) (ss : Stmts) → Listing all level d s fs at us ds ss → m + length (stmts ss) ≡ s
          → Blames (Told all) (statements body m at us)
      unfolding statements give
      blames-stmts zero at us ss h c = tt
      blames-stmts (suc m) at us ss h c =
          let r = stmt-reached h (omega arith) in
          blames-part (Told all) (take-record stmt_marks) (λ x. stated body x.mark x.at x.fields) _ (GotStmt level at us) at us
          (blames-stmt at us r) (read-stmt body level reads at us (names-left r named))
          (λ x o vs g.
          blames-bind (Told all) (statements body m) _ (λ a b ys. Unit {0}) o vs
          (blames-stmts m o vs (more_stmts ss x) (more-listing h x o vs g) (omega (arith, ap length (more-stmts ss x), length-append (stmts ss) (x ∷ []))))
          (yields-any (statements body m o vs)) (λ a b ys y. tt))

  -- a block whose BK is taken, at a level, with so many levels left
  module _ (level k : ℕ) (reads : ReadsBlocks (block_with k) (suc level)) (below : BlamesBlocks (block_with k) (suc level)) (deep : level ≤ 16) (p : Place) (fs : List Formal)
      (at d s : ℕ) (us : List ℕ) (o : opens p ≡ some (level, fs)) (once : Distinct (formal_names fs)) (r : Reached all p at (BK-mark ∷ d ∷ s ∷ us)) where
    opening : length fs + d ≤ 32 → Opening all level d s fs (at + 6) us no-decl
    unfolding decls_fields FormedDecl names decls
    opening few =
        record {
          before = r.before;
          place = p;
          led = r.led;
          opened = o;
          text = r.text;
          stands = omega (arith, r.stands);
          fine = record { nesting = deep; few = few; once = subst Distinct (sym (append-nil (formal_names fs))) once; formed = tt };
        }

    listing : length fs + d ≤ 32 → (ds : Decls) (q : ℕ) (vs : List ℕ) → GotDecls level s d (formal_names fs) (at + 6) us ds q vs → Listing all level d s fs q vs ds no-stmt
    unfolding stmts_fields FormedStmt names
    listing few ds q vs g =
        record {
          before = r.before;
          place = p;
          led = r.led;
          opened = o;
          text = r.text ∙ ap (λ (l : List ℕ). r.before ++ (BK-mark ∷ d ∷ s ∷ l)) (g.step.text ∙ ap (◌++ vs) (sym (append-nil (decls_fields ds))));
          stands = omega (arith, r.stands, g.step.next, length-append (decls_fields ds) []);
          fine =
              record {
                nesting = deep;
                few = few;
                once = fresh-distinct (formal_names fs) (map decl_name (decls ds)) once g.fresh;
                formed = subst (λ (a : ℕ). FormedDecls ds level s (a + 6)) r.stands g.formed;
              };
          whole = sym g.count;
          formed = tt;
        }

    blames-block : Blames (Told all) (block_with (suc k) at d s (formal_names fs) (at + 6) us)
    unfolding block_with give formal_names decls stmts names
    blames-block =
        let size = length-map fs (λ (f : Formal). f.name) in
        blames-require (Told all) _ _ _ _ (at + 6) us
        (λ t. due r TooManyNames (too_many (many-names level fs d s us o (omega arith) (omega (arith, leb-false (length (formal_names fs) + d) 32 t, size))))) (λ t.
        let few : length fs + d ≤ 32 = omega (arith, leb-true (length (formal_names fs) + d) 32 t, size) in
        let left = (names-left r named).1.1.1 in
        blames-bind (Told all) (declarations (block_with k) s d (formal_names fs)) _ (GotDecls level s d (formal_names fs) (at + 6) us) (at + 6) us
        (blames-decls (block_with k) level reads below d (formal_names fs) (at + 6) us no-decl (opening few) (omega arith) (λ m. ap (among m) (sym (append-nil (formal_names fs)))))
        (read-decls (block_with k) level reads s d (formal_names fs) (at + 6) us left)
        (λ ds q vs g.
        blames-bind (Told all) (statements (block_with k) s) _ (λ ss a zs. Unit {0}) q vs
        (blames-stmts (block_with k) level reads below s q vs no-stmt (listing few ds q vs g) (omega arith))
        (yields-any (statements (block_with k) s q vs)) (λ ss a zs y. tt)))

  blames-blocks : (k level : ℕ) → level + k ≡ 17 → BlamesBlocks (block_with k) level
  unfolding block_with
  blames-blocks zero level e p fs at d s us o once r = due r NestingDepth (too-deep (deep-block level fs d s us o (omega arith)))
  blames-blocks (suc k) level e p fs at d s us o once r =
      blames-block level k (read-blocks k (suc level) (omega arith)) (blames-blocks k (suc level) (omega arith)) (omega arith) p fs at d s us o once r

  pub blames-program : Blames (Told all) (program 0 all)
  unfolding program block_marks formal_names table marks_at opens
  blames-program =
      let r : Reached all (block-due 1 []) 0 all = record { before = []; text = refl; stands = refl; led = at-start } in
      blames-due r block_marks _ refl ((λ d s vs e. blames-blocks 16 1 refl (block-due 1 []) [] 0 d s vs refl tt (reached-as r e)), tt)
