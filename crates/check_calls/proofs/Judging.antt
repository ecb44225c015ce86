-- A call and the verdicts on it, and 11.
-- Assumes nothing.
use Rattle.std.specs.Prelude.{Some, None, Ok, Err}
use mathlib.Core.Path.{◌≡◌, refl, sym, ◌∙◌, ap}
use mathlib.Core.Bool.{Bool, true, false, ◌&&◌}
use mathlib.Core.List.{List, [], ◌∷◌, map}
use mathlib.Core.Option.{Option, none, some}
use Prim.Native.Nat.{ℕ, zero, suc, ◌+◌}
use native.Mathlib.Omega.{arith}
use lib.Dec.{eqb}
use lib.ListN.{length, length-map}
use borrow.Author.Tests.{ne_eqb}
use Rattle.language.specs.Basics.{lookup}
use Rattle.language.specs.Text.{Kind, procedure, same_kind, CL}
use Rattle.language.specs.Encoding.{LB-mark, PR-mark, FM-mark}
use Rattle.language.specs.Scope.{Scope, Meaning, fine, wrong, all_visible, kind_in, agree, agrees, ◌then◌, judge_action, uses}
use Rattle.language.specs.Scope as definitions
use Rattle.language.specs.declared.Refusal.{Refusal}
use Rattle.language.specs.declared.Refusal.TheVariants.{CallMismatch}
use Rattle.laws.specs.Fields.{field_at, fields_at}
use Rattle.check_uses.specs.Meanings.{kinds_at, meaning_at, scope_of, verdict_of}
use Rattle.check_symbols.specs.Entries.{found_in}
use Rattle.language.specs.Faults.{fault, Verdict}
use Rattle.check_symbols.specs.Entries.{Binding}
use Rattle.check_uses.proofs.Meanings.{found-lookup, means-PR, use-right}
use Rattle.check_uses.proofs.Verdicts.{then-stop, then-go}

-- 11, for what is no declared procedure, for another number of arguments, and by the kinds
takes_none : (bs : List ℕ) (place : ℕ) (b d : Bool) → eqb (field_at bs place) LB-mark ≡ b → eqb (field_at bs place) FM-mark ≡ d → (field_at bs place ≡ PR-mark → ⊥) → (meaning_at bs place).takes ≡ none
unfolding meaning_at
takes_none bs place true d p q e = rw (ne_eqb (field_at bs place) PR-mark e, p, meaning_at)
takes_none bs place false true p q e = rw (ne_eqb (field_at bs place) PR-mark e, p, q, meaning_at)
takes_none bs place false false p q e = rw (ne_eqb (field_at bs place) PR-mark e, p, q, meaning_at)

and-false : (b c : Bool) → c ≡ false → (b && c) ≡ false
and-false true c e = e
and-false false c e = refl

agree-short : (ks : List Kind) (xs : List (Option Kind)) → (length ks ≡ length xs → ⊥) → agree ks xs ≡ false
unfolding agree
agree-short [] [] e = absurd (e refl)
agree-short [] (x ∷ xs) e = refl
agree-short (k ∷ ks) [] e = refl
agree-short (k ∷ ks) (none ∷ xs) e = refl
agree-short (k ∷ ks) (some x ∷ xs) e = and-false (same_kind k x) (agree ks xs) (agree-short ks xs (λ p. e (ap suc p)))

length-kinds : (bs : List ℕ) (from n : ℕ) → length (kinds_at bs from n) ≡ n
unfolding kinds_at
length-kinds bs from zero = refl
length-kinds bs from (suc n) = ap suc (length-kinds bs (from + 6) n)

length-words : (bs : List ℕ) (from n : ℕ) → length (fields_at bs from n) ≡ n
unfolding fields_at
length-words bs from zero = refl
length-words bs from (suc n) = ap suc (length-words bs (from + 2) n)

-- by the mark, the number of formals and whether the kinds agree, as they were read
module _ (bs : List ℕ) (at place mark : ℕ) (read : mark ≡ field_at bs place) where
  pub agrees-free : (xs : List (Option Kind)) → (mark ≡ PR-mark → ⊥) → Ok tt ≡ verdict_of (agrees at (some (meaning_at bs place)) xs)
  unfolding agrees
  agrees-free xs e = sym (ap verdict_of free)
    where
      free : agrees at (some (meaning_at bs place)) xs ≡ fine
      free = rw (takes_none bs place _ _ refl refl (λ p. e (read ∙ p)), agrees)

  module _ (marked : mark ≡ PR-mark) (m count : ℕ) (counted : m ≡ field_at bs (place + 4)) where
    by-kinds : (xs : List (Option Kind)) (b : Bool) → agree (kinds_at bs (place + 6) (field_at bs (place + 4))) xs ≡ b → agrees at (some (meaning_at bs place)) xs ≡ (elim b [ true ↦ fine | false ↦ wrong CallMismatch at ])
    unfolding agrees
    by-kinds xs b e = rw (means-PR bs place (sym read ∙ marked), e, agrees)

    pub agrees-count : (f : ℕ → Option Kind) (from : ℕ) → (m ≡ count → ⊥) → Err (fault CallMismatch at) ≡ verdict_of (agrees at (some (meaning_at bs place)) (map f (fields_at bs from count)))
    agrees-count f from e =
        sym
        (ap verdict_of
        (by-kinds (map f (fields_at bs from count)) false
        (agree-short (kinds_at bs (place + 6) (field_at bs (place + 4))) (map f (fields_at bs from count))
        (λ p. e
        (counted ∙ sym (length-kinds bs (place + 6) (field_at bs (place + 4))) ∙ p ∙ length-map (fields_at bs from count) f ∙ length-words bs from count)))))

    module _ (xs : List (Option Kind)) (t : Bool) (same : m ≡ count) (is : t ≡ agree (kinds_at bs (place + 6) count) xs) where
      pub agrees-by : (b : Bool) → t ≡ b → agrees at (some (meaning_at bs place)) xs ≡ (elim b [ true ↦ fine | false ↦ wrong CallMismatch at ])
      agrees-by b e = by-kinds xs b (ap (λ (n : ℕ). agree (kinds_at bs (place + 6) n) xs) (sym counted ∙ same) ∙ sym is ∙ e)

      pub agrees-right : t ≡ true → Ok tt ≡ verdict_of (agrees at (some (meaning_at bs place)) xs)
      agrees-right e = sym (ap verdict_of (agrees-by true e))

      pub agrees-wrong : t ≡ false → Err (fault CallMismatch at) ≡ verdict_of (agrees at (some (meaning_at bs place)) xs)
      agrees-wrong e = sym (ap verdict_of (agrees-by false e))

call-judged : (sc : Scope) (at p : ℕ) (xs : List ℕ) → judge_action sc at (CL p xs) ≡ ◌then◌ (uses sc at procedure p) (◌then◌ (all_visible sc at xs) (agrees at (lookup p sc) (map (kind_in sc) xs)))
unfolding judge_action
call-judged sc at p xs = refl

-- the call at an offset, its verdicts one after the other
module _ (bs es : List ℕ) (at n m : ℕ) (name : n ≡ field_at bs (at + 2)) (number : m ≡ field_at bs (at + 4)) where
  abbrev sc : Scope
  sc = scope_of bs es

  abbrev xs : List ℕ
  xs = fields_at bs (at + 6) m

  abbrev whole : Verdict
  whole = verdict_of (judge_action sc at (CL (field_at bs (at + 2)) (fields_at bs (at + 6) (field_at bs (at + 4)))))

  opened : verdict_of (◌then◌ (uses sc at procedure n) (◌then◌ (all_visible sc at xs) (agrees at (lookup n sc) (map (kind_in sc) xs)))) ≡ whole
  opened = sym (ap verdict_of (call-judged sc at n xs)) ∙ rw (name, number)

  pub call-stops : (r : Verdict) (c : Refusal) (o : ℕ) → r ≡ verdict_of (uses sc at procedure n) → r ≡ Err (fault c o) → r ≡ whole
  call-stops r c o p q = then-stop (uses sc at procedure n) _ r c o p q ∙ opened

  module _ (r : Verdict) (p : r ≡ verdict_of (uses sc at procedure n)) (fits : r ≡ Ok tt) where
    pub call-hides : (s : Verdict) (c : Refusal) (o : ℕ) → s ≡ verdict_of (all_visible sc at xs) → s ≡ Err (fault c o) → s ≡ whole
    call-hides s c o q e = then-go (uses sc at procedure n) _ r s p fits (then-stop (all_visible sc at xs) _ s c o q e) ∙ opened

    module _ (s : Verdict) (q : s ≡ verdict_of (all_visible sc at xs)) (seen : s ≡ Ok tt) (b : Binding) (found : b ≡ found_in n es) where
      judged : (t : Verdict) → t ≡ verdict_of (agrees at (lookup n sc) (map (kind_in sc) xs)) → t ≡ whole
      judged t e = then-go (uses sc at procedure n) _ r t p fits (then-go (all_visible sc at xs) _ s t q seen e) ∙ opened

      pub call-unfound : b ≡ None → Ok tt ≡ whole
      unfolding agrees
      call-unfound e = judged (Ok tt) (rw (found-lookup bs n es, sym found ∙ e))

      pub call-found : (place : ℕ) (t : Verdict) → b ≡ Some place → t ≡ verdict_of (agrees at (some (meaning_at bs place)) (map (kind_in sc) xs)) → t ≡ whole
      call-found place t e f = judged t (rw (found-lookup bs n es, sym found ∙ e) f)

-- arguments that agree with formals are visible
pub no_true : {A : Type 0} → false ≡ true → A
no_true e = let z : ◌≡◌ {A = ℕ} 0 1 = cc in absurd (omega arith)

and_right : (b c : Bool) → (b && c) ≡ true → c ≡ true
and_right true c e = e
and_right false c e = no_true e

agree-first : (sc : Scope) (at : ℕ) (k : Kind) (ks : List Kind) (n : ℕ) (ns : List ℕ) (m : Option Meaning) → lookup n sc ≡ m → agree (k ∷ ks) (map (kind_in sc) (n ∷ ns)) ≡ true → (agree ks (map (kind_in sc) ns) ≡ true) × (definitions.visible at (lookup n sc) ≡ fine)
unfolding agree kind_in definitions.visible
agree-first sc at k ks n ns none e f = no_true (rw (e, kind_in, agree) at f)
agree-first sc at k ks n ns (some m) e f = (and_right (same_kind k m.kind) _ (rw (e, kind_in, agree) at f), rw e)

agree-visible : (sc : Scope) (at : ℕ) (ks : List Kind) (ns : List ℕ) → agree ks (map (kind_in sc) ns) ≡ true → all_visible sc at ns ≡ fine
unfolding agree all_visible ◌then◌
agree-visible sc at ks [] e = refl
agree-visible sc at [] (n ∷ ns) e = no_true e
agree-visible sc at (k ∷ ks) (n ∷ ns) e =
    let f = agree-first sc at k ks n ns (lookup n sc) refl e in
    ap (λ (v : definitions.Judgement). ◌then◌ v (all_visible sc at ns)) f.1 ∙ agree-visible sc at ks ns f.0

-- a declared procedure, and its formals' kinds as they were compared
pub agreed :
    (bs es : List ℕ) (at n m place mark formals : ℕ) (b : Binding) (t : Bool) → n ≡ field_at bs (at + 2) → m ≡ field_at bs (at + 4) → b ≡ found_in n es →
    b ≡ Some place → mark ≡ field_at bs place → mark ≡ PR-mark → formals ≡ field_at bs (place + 4) → formals ≡ m →
    t ≡ agree (kinds_at bs (place + 6) m) (map (kind_in (scope_of bs es)) (fields_at bs (at + 6) m)) → t ≡ true →
    Ok tt ≡ verdict_of (judge_action (scope_of bs es) at (CL (field_at bs (at + 2)) (fields_at bs (at + 6) (field_at bs (at + 4)))))
agreed bs es at n m place mark formals b t name number found there read marked counted same is e =
    call-found bs es at n m name number (Ok tt)
    (sym (ap verdict_of (use-right bs es at procedure n place (sym found ∙ there) (ap (λ (x : Meaning). x.kind) (means-PR bs place (sym read ∙ marked))))))
    refl (Ok tt) (sym (ap verdict_of (agree-visible (scope_of bs es) at (kinds_at bs (place + 6) m) (fields_at bs (at + 6) m) (sym is ∙ e)))) refl b found place (Ok tt) there
    (agrees-right bs at place mark read marked formals m counted _ t same is e)
