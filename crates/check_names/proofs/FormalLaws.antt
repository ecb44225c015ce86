-- The formals of a procedure, one after the other. Assumes nothing.
use Rattle.std.specs.Prelude.{Ok, Err}
use mathlib.Core.Path.{◌≡◌, refl, sym, ◌∙◌, ap}
use mathlib.Core.Bool.{Bool, true, false, not}
use mathlib.Core.List.{List, [], ◌∷◌, ◌++◌, append_assoc, append-nil}
use Prim.Native.Nat.{ℕ, zero, suc, ◌+◌, ◌-◌, ◌<◌, ◌≤◌}
use native.Mathlib.Omega.{arith}
use lib.ListN.{length, get_or, set}
use Rattle.language.specs.Basics.{among}
use Rattle.language.specs.Text.{Kind, Formal, formal_names}
use Rattle.language.specs.Structure.{Reading as Outcome, read, refuse, Reader, ◌>>=◌, ◌>>◌, give, require, Record, formal_marks, take-record, kind, formals}
use Rattle.language.specs.declared.Refusal.{Refusal}
use Rattle.language.specs.declared.Refusal.TheVariants.{FieldRange, NameTwice}
use Rattle.laws.specs.Readers.{bind-read, bind-refuse, passes, fails}
use Rattle.check_marks.specs.declared.Mark.{Mark}
use Rattle.check_marks.specs.declared.Mark.TheVariants.{FM}
use Rattle.check_marks.specs.declared.Place.TheVariants.{Formal as AFormal}
use Rattle.check_records.specs.declared.Reading.{Reading}
use Rattle.check_records.specs.declared.Reading.TheVariants.{Taken, Refused}
use Rattle.check_marks.specs.Marks.{only_mark}
use Rattle.check_records.specs.Taking.{unread, record_at, forget}
use Rattle.check_records.proofs.Steps.{Step, stepped, stopped}
use Rattle.language.specs.Faults.{fault}
use Rattle.check_names.specs.Naming.{names_at, NamesOf}
use Rattle.check_names.proofs.Names.{names-added}
use Rattle.check_names.proofs.SameNames.{formals-same, same-snoc}
use Rattle.check_names.proofs.KindTests.{Gives, kind-known, kind-unknown}

-- formals read before the rest
unfoldable pub after : List Formal → Outcome (List Formal) → Outcome (List Formal)
after fs (read ps at ws) = read (fs ++ ps) at ws
after fs (refuse c o) = refuse c o

pub after_none : (x : Outcome (List Formal)) → after [] x ≡ x
unfolding after
after_none (read ps at ws) = refl
after_none (refuse c o) = refl

pub after-after : (xs ys : List Formal) (x : Outcome (List Formal)) → after xs (after ys x) ≡ after (xs ++ ys) x
unfolding after
after-after xs ys (read ps at ws) = ap (λ l. read l at ws) (sym (append_assoc xs ys ps))
after-after xs ys (refuse c o) = refl

abbrev name_of : Record Bool → ℕ
name_of r = get_or r.fields 0 0

abbrev formal_of : Record Bool → Kind → Formal
formal_of r k = record { at = r.at; name = name_of r; kind = k }

more : ℕ → List ℕ → Record Bool → Kind → Reader (List Formal)
more p seen r k = formals p (name_of r ∷ seen) >>= λ fs. give (formal_of r k ∷ fs)

named : ℕ → List ℕ → Record Bool → Kind → Reader (List Formal)
named p seen r k = require (not (among (name_of r) seen)) NameTwice r.at >> more p seen r k

kinded : ℕ → List ℕ → Record Bool → Reader (List Formal)
kinded p seen r = kind r.at (get_or r.fields 1 0) >>= named p seen r

opened : (p : ℕ) (seen : List ℕ) → formals (suc p) seen ≡ (take-record formal_marks >>= kinded p seen)
unfolding formals kinded named more
opened p seen = refl

after_read : (f : Formal) (m : Reader (List Formal)) (at : ℕ) (ws : List ℕ) (x : Outcome (List Formal)) → m at ws ≡ x → (m >>= λ fs. give (f ∷ fs)) at ws ≡ after (f ∷ []) x
unfolding give after
after_read f m at ws (read ps o vs) e = bind-read m (λ fs. give (f ∷ fs)) at ws e
after_read f m at ws (refuse c o) e = bind-refuse m (λ fs. give (f ∷ fs)) at ws e

more-after : (p : ℕ) (seen : List ℕ) (r : Record Bool) (k : Kind) (at : ℕ) (ws : List ℕ) → more p seen r k at ws ≡ after (formal_of r k ∷ []) (formals p (name_of r ∷ seen) at ws)
unfolding more
more-after p seen r k at ws = after_read (formal_of r k) (formals p (name_of r ∷ seen)) at ws (formals p (name_of r ∷ seen) at ws) refl

module _ (p : ℕ) (seen : List ℕ) (bs : List ℕ) (at : ℕ) where
  pub formal-stops : (c : Refusal) (o : ℕ) → record_at AFormal bs at ≡ Refused c o → formals (suc p) seen at (unread bs at) ≡ refuse c o
  unfolding record_at
  formal-stops c o e = ap (λ (m : Reader (List Formal)). m at (unread bs at)) (opened p seen) ∙ bind-refuse _ _ at (unread bs at) (stopped (only_mark FM) formal_marks bs at e)

  module _ {m : Mark} {next f0 f1 f2 f3 : ℕ} (e : record_at AFormal bs at ≡ Taken m next f0 f1 f2 f3) where
    st : Step (only_mark FM) formal_marks bs at m next f0 f1 f2 f3
    unfolding record_at
    st = stepped (only_mark FM) formal_marks bs at e

    taken-first : formals (suc p) seen at (unread bs at) ≡ kinded p seen st.taking next (unread bs next)
    taken-first = ap (λ (g : Reader (List Formal)). g at (unread bs at)) (opened p seen) ∙ bind-read _ _ at (unread bs at) st.reads

    pub formal-kind : 2 < f1 → formals (suc p) seen at (unread bs at) ≡ refuse FieldRange at
    unfolding kinded
    formal-kind h =
        taken-first
        ∙ bind-refuse _ _ next (unread bs next)
        (rw (st.f1-is, st.at-is) (kind-unknown at f1 next (unread bs next) h))

    known : f1 ≤ 2 → Gives (kind st.taking.at (get_or st.taking.fields 1 0))
    known h = rw st.f1-is (kind-known st.taking.at f1 h)

    kind-read : (h : f1 ≤ 2) → formals (suc p) seen at (unread bs at) ≡ named p seen st.taking (known h).value next (unread bs next)
    unfolding kinded
    kind-read h = taken-first ∙ bind-read _ _ next (unread bs next) ((known h).gives next (unread bs next))

    pub formal-twice : f1 ≤ 2 → among f0 seen ≡ true → formals (suc p) seen at (unread bs at) ≡ refuse NameTwice at
    unfolding named
    formal-twice h twice =
        kind-read h
        ∙ fails _ NameTwice st.taking.at _ next (unread bs next) (rw (st.f0-is, twice))
        ∙ ap (refuse NameTwice) st.at-is

    pub record More : Type 0 where
      pub first : Formal
      pub name-is : first.name ≡ f0
      pub goes_on : formals (suc p) seen at (unread bs at) ≡ after (first ∷ []) (formals p (f0 ∷ seen) next (unread bs next))

    pub formal-more : f1 ≤ 2 → among f0 seen ≡ false → More
    unfolding named
    formal-more h once =
        record {
          first = formal_of st.taking (known h).value;
          name-is = st.f0-is;
          goes_on =
              kind-read h
              ∙ passes _ NameTwice st.taking.at _ next (unread bs next) (rw (st.f0-is, once))
              ∙ more-after p seen st.taking (known h).value next (unread bs next)
              ∙ ap (λ n. after (formal_of st.taking (known h).value ∷ []) (formals p (n ∷ seen) next (unread bs next))) st.f0-is;
        }

pub formal-none : (seen : List ℕ) (at : ℕ) (ws : List ℕ) → formals zero seen at ws ≡ read [] at ws
unfolding formals give
formal-none seen at ws = refl

names-snoc : (fs : List Formal) (f : Formal) → formal_names (fs ++ (f ∷ [])) ≡ formal_names fs ++ (f.name ∷ [])
unfolding formal_names
names-snoc [] f = refl
names-snoc (g ∷ fs) f = ap (λ ns. g.name ∷ ns) (names-snoc fs f)

-- i of p formals read: those done, whose names are held, and what is left
pub record SoFar (bs : List ℕ) (p start base : ℕ) (names : List ℕ) (at i : ℕ) : Type 0 where
  pub done : List Formal
  pub names-are : names_at names base i ≡ formal_names done
  pub rest : formals p [] start (unread bs start) ≡ after done (formals (p - i) (names_at names base i) at (unread bs at))

module _ (bs : List ℕ) (p start base : ℕ) where
  pub at-start : (names : List ℕ) → SoFar bs p start base names start 0
  unfolding names_at formal_names
  at-start names =
      record {
        done = [];
        names-are = refl;
        rest = sym (after_none _ ∙ ap (λ k. formals k [] start (unread bs start)) less_none);
      }
    where
      less_none : p - 0 ≡ p
      less_none = omega arith

module _ {bs : List ℕ} {p start base : ℕ} {names : List ℕ} {at i : ℕ} (so : SoFar bs p start base names at i) where
  -- one more to read
  one_of : i < p → formals p [] start (unread bs start) ≡ after so.done (formals (suc (p - (i + 1))) (names_at names base i) at (unread bs at))
  one_of h = so.rest ∙ ap (λ k. after so.done (formals k (names_at names base i) at (unread bs at))) fewer
    where
      fewer : p - i ≡ suc (p - (i + 1))
      fewer = omega arith

  ends_at : {c : Refusal} {o : ℕ} → i < p → formals (suc (p - (i + 1))) (names_at names base i) at (unread bs at) ≡ refuse c o → formals p [] start (unread bs start) ≡ refuse c o
  unfolding after
  ends_at h e = one_of h ∙ ap (after so.done) e

  -- each law takes what reading gave, what it is equal to, and which it is
  pub refused-there : {x : Reading} {c : Refusal} {o : ℕ} → i < p → x ≡ record_at AFormal bs at → x ≡ Refused c o → formals p [] start (unread bs start) ≡ refuse c o
  refused-there {c = c} {o} h f g = ends_at h (formal-stops (p - (i + 1)) (names_at names base i) bs at c o (sym f ∙ g))

  module _ {x : Reading} {m : Mark} {next f0 f1 f2 f3 : ℕ} (h : i < p) (f : x ≡ record_at AFormal bs at) (g : x ≡ Taken m next f0 f1 f2 f3) where
    e : record_at AFormal bs at ≡ Taken m next f0 f1 f2 f3
    e = sym f ∙ g

    pub wrong-kind : 2 < f1 → formals p [] start (unread bs start) ≡ refuse FieldRange at
    wrong-kind k = ends_at h (formal-kind (p - (i + 1)) (names_at names base i) bs at e k)

    pub named-twice : {b : Bool} → f1 ≤ 2 → b ≡ among f0 (names_at names base i) → b ≡ true → formals p [] start (unread bs start) ≡ refuse NameTwice at
    named-twice k s t = ends_at h (formal-twice (p - (i + 1)) (names_at names base i) bs at e k (sym s ∙ t))

    pub one_more : {b : Bool} → f1 ≤ 2 → b ≡ among f0 (names_at names base i) → b ≡ false → base + i < length names → SoFar bs p start base (set names (base + i) f0) next (i + 1)
    one_more k s t room =
        let g = formal-more (p - (i + 1)) (names_at names base i) bs at e k (sym s ∙ t) in
        let added = names-added names base i f0 room in
        record {
          done = so.done ++ (g.first ∷ []);
          names-are = added ∙ ap (λ ns. ns ++ (f0 ∷ [])) so.names-are ∙ ap (λ n. formal_names so.done ++ (n ∷ [])) (sym g.name-is) ∙ sym (names-snoc so.done g.first);
          rest =
              one_of h ∙ ap (after so.done) g.goes_on ∙ after-after so.done (g.first ∷ []) _
              ∙ ap (λ (r : Reader (List Formal)). after (so.done ++ (g.first ∷ [])) (r next (unread bs next)))
              (formals-same (p - (i + 1)) (f0 ∷ names_at names base i) (names_at names base i ++ (f0 ∷ [])) (same-snoc (names_at names base i) f0)
              ∙ ap (formals (p - (i + 1))) (sym added));
        }

  all_read : p ≤ i → formals p [] start (unread bs start) ≡ read (so.done ++ []) at (unread bs at)
  unfolding after
  all_read h = so.rest ∙ ap (λ k. after so.done (formals k (names_at names base i) at (unread bs at))) none_left ∙ ap (after so.done) (formal-none (names_at names base i) at (unread bs at))
    where
      none_left : p - i ≡ 0
      none_left = omega arith

-- what the code ensures of the formals, from how the definitions' outcome is known
module _ (x : Outcome (List Formal)) (ns : List ℕ) where
  pub post-refused : {c : Refusal} {o : ℕ} → x ≡ refuse c o → (Err (fault c o) ≡ forget x) × NamesOf x ns
  unfolding forget
  post-refused e = rw e (refl, tt)

  post_read : {fs : List Formal} {at : ℕ} {ws : List ℕ} → x ≡ read fs at ws → ns ≡ formal_names fs → (Ok at ≡ forget x) × NamesOf x ns
  unfolding forget
  post_read e q = rw e (refl, q)

pub all-post : {bs : List ℕ} {p start base : ℕ} {names : List ℕ} {at i : ℕ} (so : SoFar bs p start base names at i) → i ≡ p → (Ok at ≡ forget (formals p [] start (unread bs start))) × NamesOf (formals p [] start (unread bs start)) (names_at names base p)
all-post {base = base} {names} so e =
    post_read _ _ (all_read so (omega arith)) (ap (names_at names base) (sym e) ∙ so.names-are ∙ ap formal_names (sym (append-nil so.done)))
