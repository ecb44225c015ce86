-- The declarations of a block, one after the other, each with its own record and, of a procedure, its formals and body.
-- Assumes nothing.
use Rattle.std.specs.Prelude.{Ok, Err}
use mathlib.Core.Path.{◌≡◌, refl, sym, ◌∙◌, ap, ap₂, subst}
use mathlib.Core.Bool.{Bool, true, false, ◌&&◌}
use mathlib.Core.List.{List, [], ◌∷◌}
use Prim.Native.Nat.{ℕ, zero, suc, ◌≤◌}
use lib.Dec.{leb}
use lib.ListN.{get_or}
use Rattle.language.specs.Basics.{among}
use Rattle.language.specs.Text.{Decl, Decls, PR, decl, decl_name, formal_names}
use Rattle.language.specs.Structure.{Reading as Outcome, read, refuse, Reader, ◌>>=◌, ◌>>◌, give, Record, DeclMark, is_vR, is_lB, is_pR, block_marks, decl_marks, take-record, formals, BlockReader, declared, declarations}
use Rattle.language.specs.declared.Refusal.{Refusal}
use Rattle.language.specs.declared.Refusal.TheVariants.{FieldRange, TooManyNames, NameTwice}
use Rattle.laws.specs.Readers.{bind-read, bind-refuse, passes, fails}
use Rattle.check_marks.specs.declared.Mark.{Mark}
use Rattle.check_marks.specs.declared.Place.TheVariants.{Declaration}
use Rattle.language.specs.Faults.{fault, Progress}
use Rattle.check_records.specs.declared.Reading.{Reading}
use Rattle.check_records.specs.declared.Reading.TheVariants.{Taken}
use Rattle.check_marks.specs.Marks.{decl_mark}
use Rattle.check_records.specs.Taking.{unread, record_at, forget}
use Rattle.check_records.proofs.Steps.{Step, stepped, stopped}
use Rattle.check_bounds.specs.Marks.{decl_mark_of}
use Rattle.check_bounds.specs.Judging.{ranged_of, once_at}
use Rattle.check_blocks.specs.Progress.{body_of, below_of}
use Rattle.check_blocks.proofs.Lands.{Landed, landed, turned-away, AllTrack, tracks-declared}
use Rattle.check_bounds.proofs.Marks.{ranged-label, ranged-no-label}
use Rattle.check_bounds.proofs.HeadLaws.{own_at}
use Rattle.check_blocks.proofs.Forget.{forget-give, forget-bind, Named, named-bind}

pub same-mark : (m : DeclMark) → decl_mark_of (decl_mark m) ≡ m
unfolding decl_mark_of decl_mark
same-mark is_vR = refl
same-mark is_lB = refl
same-mark is_pR = refl

-- what comes after a passed test, or the refusal
unfoldable pub go_on : Progress → Progress → Progress
go_on (Ok from) p = p
go_on (Err e) p = Err e

pub go_on-at : (x p : Progress) (from : ℕ) → x ≡ Ok from → go_on x p ≡ p
unfolding go_on
go_on-at x p from e = ap (λ y. go_on y p) e

pub go_on-refused : (x p : Progress) (c : Refusal) (o : ℕ) → x ≡ Err (fault c o) → go_on x p ≡ Err (fault c o)
unfolding go_on
go_on-refused x p c o e = ap (λ y. go_on y p) e

-- a procedure's formals and body with the tree put together
procedure-text : (body : BlockReader) (at n p : ℕ) → Reader Decl
procedure-text body at n p =
    formals p [] >>= λ ps.
    take-record block_marks >>= λ b. body b.at (get_or b.fields 0 0) (get_or b.fields 1 0) (formal_names ps) >>= λ t. give (PR at n ps t)

forget-text : (body : BlockReader) (at n p next : ℕ) (ws : List ℕ) → forget (procedure-text body at n p next ws) ≡ forget (body_of body p next ws)
unfolding procedure-text body_of
forget-text body at n p next ws =
    forget-bind (formals p []) next ws _ _ λ ps o vs.
    forget-bind (take-record block_marks) o vs _ _ λ b q us.
    forget-give (body b.at (get_or b.fields 0 0) (get_or b.fields 1 0) (formal_names ps)) q us (λ t. PR at n ps t)

module _ (body : BlockReader) (s : ℕ) (seen : List ℕ) (at : ℕ) (fs : List ℕ) (next : ℕ) (ws : List ℕ) where
  abbrev name : ℕ
  name = get_or fs 0 0

  abbrev second : ℕ
  second = get_or fs 1 0

  abbrev own : DeclMark → Progress
  own m = once_at (ranged_of m at next second s) (among name seen) at

  tests-are : (m : DeclMark) (p : Progress) (b : Bool) (x : Progress) → ranged_of m at next second s ≡ p → among name seen ≡ b → go_on (once_at p b at) x ≡ go_on (own m) x
  tests-are m p b x e q = sym (ap₂ (λ p b. go_on (once_at p b at) x) e q)

  -- by the tests that the definitions make of the record itself
  is-VR : (b : Bool) → among name seen ≡ b → forget (declared body s seen is_vR at fs next ws) ≡ go_on (own is_vR) (Ok next)
  unfolding declared ranged_of once_at go_on forget give
  is-VR true e = ap forget (fails _ NameTwice at _ next ws (rw e)) ∙ tests-are is_vR (Ok next) true (Ok next) refl e
  is-VR false e = ap forget (passes _ NameTwice at _ next ws (rw e)) ∙ tests-are is_vR (Ok next) false (Ok next) refl e

  is-LB : (a b : Bool) → leb 1 second && leb second s ≡ a → among name seen ≡ b → forget (declared body s seen is_lB at fs next ws) ≡ go_on (own is_lB) (Ok next)
  unfolding declared once_at go_on forget give
  is-LB false b q e =
      ap forget (fails _ FieldRange at _ next ws q) ∙ tests-are is_lB (Err (fault FieldRange at)) b (Ok next) (ranged-no-label at next second s q) e
  is-LB true true q e =
      ap forget (passes _ FieldRange at _ next ws q ∙ fails _ NameTwice at _ next ws (rw e))
      ∙ tests-are is_lB (Ok next) true (Ok next) (ranged-label at next second s q) e
  is-LB true false q e =
      ap forget (passes _ FieldRange at _ next ws q ∙ passes _ NameTwice at _ next ws (rw e))
      ∙ tests-are is_lB (Ok next) false (Ok next) (ranged-label at next second s q) e

  ranged-PR : (a : Bool) (p : Progress) → leb second 32 ≡ a → elim a [ true ↦ Ok next | false ↦ Err (fault TooManyNames at) ] ≡ p → ranged_of is_pR at next second s ≡ p
  unfolding ranged_of
  ranged-PR a p q e = rw (q, ranged_of) e

  is-PR : (a b : Bool) → leb second 32 ≡ a → among name seen ≡ b → forget (declared body s seen is_pR at fs next ws) ≡ go_on (own is_pR) (forget (body_of body second next ws))
  unfolding declared once_at go_on forget give procedure-text
  is-PR false b q e =
      ap forget (fails _ TooManyNames at _ next ws q)
      ∙ tests-are is_pR (Err (fault TooManyNames at)) b _ (ranged-PR false _ q refl) e
  is-PR true true q e =
      ap forget (passes _ TooManyNames at _ next ws q ∙ fails _ NameTwice at _ next ws (rw e))
      ∙ tests-are is_pR (Ok next) true _ (ranged-PR true _ q refl) e
  is-PR true false q e =
      ap forget (passes _ TooManyNames at _ next ws q ∙ passes _ NameTwice at _ next ws (rw e))
      ∙ forget-text body at name second next ws
      ∙ tests-are is_pR (Ok next) false _ (ranged-PR true _ q refl) e

  pub declared-is : (m : DeclMark) → forget (declared body s seen m at fs next ws) ≡ go_on (own m) (below_of body m second next ws)
  unfolding below_of
  declared-is is_vR = is-VR (among name seen) refl
  declared-is is_lB = is-LB (leb 1 second && leb second s) (among name seen) refl refl
  declared-is is_pR = is-PR (leb second 32) (among name seen) refl refl

  pub declared-named : (m : DeclMark) → Named name (declared body s seen m at fs next ws)
  unfolding declared ◌>>◌ give decl_name
  declared-named is_vR = named-bind name _ _ (λ a o vs. refl) next ws
  declared-named is_lB = named-bind name _ _ (λ a o vs. named-bind name _ _ (λ b q us. refl) o vs) next ws
  declared-named is_pR =
      named-bind name _ _
      (λ a o vs. named-bind name _ _
      (λ b q us. named-bind name _ _
      (λ ps o1 v1. named-bind name _ _ (λ r o2 v2. named-bind name _ _ (λ t o3 v3. refl) o2 v2) o1 v1) q us) o vs) next ws

module _ (body : BlockReader) (s d : ℕ) (seen bs : List ℕ) (at : ℕ) (h : AllTrack bs body) where
  more-decls : Decl → Reader Decls
  more-decls x = declarations body s d (decl_name x ∷ seen) >>= λ xs. give (decl x xs)

  decl-after : Record DeclMark → Reader Decls
  decl-after r = declared body s seen r.mark r.at r.fields >>= more-decls

  opened : declarations body s (suc d) seen at (unread bs at) ≡ (take-record decl_marks >>= decl-after) at (unread bs at)
  unfolding declarations decl-after more-decls
  opened = refl

  pub decls-stop : (c : Refusal) (o : ℕ) → record_at Declaration bs at ≡ Reading.Refused c o → declarations body s (suc d) seen at (unread bs at) ≡ refuse c o
  unfolding record_at
  decls-stop c o e = opened ∙ bind-refuse (take-record decl_marks) decl-after at (unread bs at) (stopped decl_mark decl_marks bs at e)

  module _ {m : Mark} {next f0 f1 f2 f3 : ℕ} (e : record_at Declaration bs at ≡ Taken m next f0 f1 f2 f3) where
    st : Step decl_mark decl_marks bs at m next f0 f1 f2 f3
    unfolding record_at
    st = stepped decl_mark decl_marks bs at e

    which : st.taking.mark ≡ decl_mark_of m
    which = sym (same-mark st.taking.mark) ∙ ap decl_mark_of st.mark-is

    abbrev outcome : Outcome Decl
    outcome = declared body s seen st.taking.mark st.taking.at st.taking.fields next (unread bs next)

    abbrev own-record : Progress
    own-record = once_at (ranged_of (decl_mark_of m) at next f1 s) (among f0 seen) at

    first : declarations body s (suc d) seen at (unread bs at) ≡ decl-after st.taking next (unread bs next)
    first = opened ∙ bind-read (take-record decl_marks) decl-after at (unread bs at) st.reads

    renamed : (m₀ m₁ : DeclMark) (at₀ n p : ℕ) → at₀ ≡ at → n ≡ f0 → p ≡ f1 → m₀ ≡ m₁ → go_on (once_at (ranged_of m₀ at₀ next p s) (among n seen) at₀) (below_of body m₀ p next (unread bs next)) ≡ go_on (once_at (ranged_of m₁ at next f1 s) (among f0 seen) at) (below_of body m₁ f1 next (unread bs next))
    renamed m₀ m₁ at₀ n p q₁ q₂ q₃ q₄ = cc

    outcome-is : forget outcome ≡ go_on own-record (below_of body (decl_mark_of m) f1 next (unread bs next))
    outcome-is =
        declared-is body s seen st.taking.at st.taking.fields next (unread bs next) st.taking.mark
        ∙ renamed st.taking.mark (decl_mark_of m) st.taking.at (get_or st.taking.fields 0 0) (get_or st.taking.fields 1 0) st.at-is st.f0-is st.f1-is which

    refused-by : {c : Refusal} {o : ℕ} → forget outcome ≡ Err (fault c o) → declarations body s (suc d) seen at (unread bs at) ≡ refuse c o
    unfolding decl-after
    refused-by q = first ∙ bind-refuse _ more-decls next (unread bs next) (turned-away outcome q)

    pub own-stops : {c : Refusal} {o : ℕ} → own-record ≡ Err (fault c o) → declarations body s (suc d) seen at (unread bs at) ≡ refuse c o
    own-stops {c} {o} q = refused-by (outcome-is ∙ go_on-refused own-record _ c o q)

    module _ {from : ℕ} (q : own-record ≡ Ok from) where
      below-is : forget outcome ≡ below_of body (decl_mark_of m) f1 from (unread bs from)
      below-is =
          outcome-is ∙ go_on-at own-record _ from q
          ∙ ap (λ k. below_of body (decl_mark_of m) f1 k (unread bs k)) (sym (own_at (decl_mark_of m) at next f1 s from (among f0 seen) q).0)

      pub below-stops : {c : Refusal} {o : ℕ} → below_of body (decl_mark_of m) f1 from (unread bs from) ≡ Err (fault c o) → declarations body s (suc d) seen at (unread bs at) ≡ refuse c o
      below-stops i = refused-by (below-is ∙ i)

      module _ {end : ℕ} (i : below_of body (decl_mark_of m) f1 from (unread bs from) ≡ Ok end) where
        there : Landed bs next end outcome
        there =
            landed bs next end outcome
            ((tracks-declared bs body h s seen st.taking.mark st.taking.at st.taking.fields).lands next)
            (below-is ∙ i)

        pub decl-onward : next ≤ end
        decl-onward = there.onward

        name-is : (x : Decl) → outcome ≡ read x end (unread bs end) → decl_name x ≡ f0
        name-is x r =
            subst (Named (get_or st.taking.fields 0 0)) r
            (declared-named body s seen st.taking.at st.taking.fields next (unread bs next) st.taking.mark)
            ∙ st.f0-is

        pub decls-more : forget (declarations body s (suc d) seen at (unread bs at)) ≡ forget (declarations body s d (f0 ∷ seen) end (unread bs end))
        unfolding decl-after more-decls
        decls-more =
            ap forget (first ∙ bind-read _ more-decls next (unread bs next) there.reads)
            ∙ forget-give (declarations body s d (decl_name there.value ∷ seen)) end (unread bs end) (decl there.value)
            ∙ ap (λ n. forget (declarations body s d (n ∷ seen) end (unread bs end))) (name-is there.value there.reads)

pub decls-none : (body : BlockReader) (s : ℕ) (seen : List ℕ) (at : ℕ) (ws : List ℕ) → forget (declarations body s zero seen at ws) ≡ Ok at
unfolding declarations give forget
decls-none body s seen at ws = refl
