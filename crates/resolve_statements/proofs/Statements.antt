-- The words of each kind of statement.
-- Assumes nothing.
use mathlib.Core.Path.{◌≡◌, refl, sym, ◌∙◌, ap, ap₂, subst}
use mathlib.Core.Bool.{Bool, true, false, ◌&&◌}
use mathlib.Core.List.{List, [], ◌∷◌, map}
use Prim.Native.Nat.{ℕ, zero, suc, ◌+◌, ◌*◌, ◌-◌, ◌/◌, ◌%◌, ◌<◌, ◌≤◌}
use native.Mathlib.Omega.{arith}
use lib.Dec.{eqb}
use lib.ListN.{length, set, length-set}
use borrow.Author.Tests.{ne_eqb}
use Rattle.language.specs.Text.{Action, CL, GO, IF, KN, AR, AD, RM, QY}
use Rattle.language.specs.Encoding.{action_fields, unsigned, CL-mark, GO-mark, IF-mark, KN-mark, AR-mark, AD-mark, RM-mark}
use Rattle.coordinates.specs.Enclosure.{Enclosure}
use Rattle.resolved.specs.Resolved.{formal_in, direct, chosen, name_word, resolved_action}
use Rattle.laws.specs.Each.{Each}
use Rattle.laws.specs.Fields.{field_at, fields_at, FieldsStand, fields-are, field_is}
use Rattle.resolve_words.specs.Growth.{Grown}
use Rattle.resolve_words.specs.Visible.{word_in, used_at, Short, AllShort, Shown}
use Rattle.resolve_statements.specs.Emitted.{kn_words, ar_words, if_words, go_words, cl_words, pair_words, qy_words, argument_words, emitted_as, Written, Emitted}
use Rattle.resolve_words.proofs.Growth.{grown-nothing, put-grows, grown-more, grown-then}
use Rattle.resolve_words.proofs.Lookups.{word-is, all_short, used-short, used-is}

chosen-short : (t : Bool) (a b : ℕ) → Short a → Short b → Short (chosen t a b)
unfolding chosen
chosen-short true a b h k = h
chosen-short false a b h k = k

-- no formal among two names, and among three
none_of : (x y : ℕ) → eqb (x + y) 0 ≡ (eqb x 0 && eqb y 0)
none_of zero zero = refl
none_of zero (suc y) = ne_eqb (zero + suc y) 0 (λ e. omega arith) ∙ sym (ne_eqb (suc y) 0 (λ e. omega arith))
none_of (suc x) y = ne_eqb (suc x + y) 0 (λ e. omega arith) ∙ ap (λ (t : Bool). t && eqb y 0) (sym (ne_eqb (suc x) 0 (λ e. omega arith)))

three-and : (s t u : Bool) → (s && (t && u)) ≡ (s && t && u)
three-and true t u = refl
three-and false t u = refl

all_direct : (x y z : ℕ) → eqb (x + (y + z)) 0 ≡ (eqb x 0 && eqb y 0 && eqb z 0)
all_direct x y z =
    none_of x (y + z) ∙ ap (λ (t : Bool). eqb x 0 && t) (none_of y z) ∙ three-and (eqb x 0) (eqb y 0) (eqb z 0)

op-short : {op : ℕ} (t : Bool) (a b : ℕ) → op ≡ chosen t a b → Short a → Short b → Short op
op-short t a b e h k = subst Short (sym e) (chosen-short t a b h k)

module _ (bs es : List ℕ) (at : ℕ) (c c' : List ℕ) where
  pub go-written :
      (a f op : ℕ) → a ≡ used_at bs es (at + 2) → f ≡ formal_in a → op ≡ chosen (eqb f 0) 5 14 →
      (Each Short (op ∷ a ∷ []) → Grown c c' at (op ∷ a ∷ [])) → Written go_words bs es at c c'
  unfolding go_words direct
  go-written a f op ea ef eo g =
      record { grown = λ s. subst (Grown c c' at) (cc) (g (op-short _ _ _ eo (omega arith) (omega arith), (used-short bs es s _ ea, tt))) }

  pub if-written :
      (w a f k op : ℕ) → w ≡ used_at bs es (at + 2) → a ≡ used_at bs es (at + 4) → f ≡ formal_in w → k ≡ formal_in a → op ≡ chosen (eqb (f + k) 0) 4 13 →
      (Each Short (op ∷ a ∷ w ∷ []) → Grown c c' at (op ∷ a ∷ w ∷ [])) → Written if_words bs es at c c'
  unfolding if_words direct
  if-written w a f k op ew ea ef ek eo g =
      let n = none_of f k in
      record {
        grown = λ s. subst (Grown c c' at) (cc)
            (g (op-short _ _ _ eo (omega arith) (omega arith), (used-short bs es s _ ea, (used-short bs es s _ ew, tt))));
      }

  pub ar-written :
      (w o a b f k m op : ℕ) → w ≡ used_at bs es (at + 2) → o ≡ field_at bs (at + 4) → o < 65536 → a ≡ used_at bs es (at + 6) → b ≡ used_at bs es (at + 8) →
      f ≡ formal_in w → k ≡ formal_in a → m ≡ formal_in b → op ≡ chosen (eqb (f + (k + m)) 0) (1 + o) 12 →
      (Each Short (op ∷ w ∷ o ∷ a ∷ b ∷ []) → Grown c c' at (op ∷ w ∷ o ∷ a ∷ b ∷ [])) → Written ar_words bs es at c c'
  unfolding ar_words direct
  ar-written w o a b f k m op ew eo below ea eb ef ek em e g =
      let n = all_direct f k m in
      record {
        grown = λ s. subst (Grown c c' at) (cc)
            (g (op-short _ _ _ e (omega arith) (omega arith), (used-short bs es s _ ew, (omega arith, (used-short bs es s _ ea, (used-short bs es s _ eb, tt))))));
      }

  pub kn-written :
      (w f op v u : ℕ) → w ≡ used_at bs es (at + 2) → f ≡ formal_in w → op ≡ chosen (eqb f 0) 0 11 → v ≡ field_at bs (at + 4) → u ≡ field_at bs (at + 6) → v < 65536 → u < 65536 →
      (Each Short (op ∷ w ∷ (v + 65536 * u) ∷ 0 ∷ []) → Grown c c' at (op ∷ w ∷ (v + 65536 * u) ∷ 0 ∷ [])) → Written kn_words bs es at c c'
  unfolding kn_words direct
  kn-written w f op v u ew ef eo ev eu lv lu g =
      record {
        grown = λ s. subst (Grown c c' at) (cc)
            (g (op-short _ _ _ eo (omega arith) (omega arith), (used-short bs es s _ ew, (omega arith, (omega arith, tt)))));
      }

  pub pair-written :
      (op x y : ℕ) → op < 65536 → x ≡ used_at bs es (at + 2) → y ≡ used_at bs es (at + 4) →
      (Each Short (op ∷ x ∷ y ∷ []) → Grown c c' at (op ∷ x ∷ y ∷ [])) → Written (pair_words op) bs es at c c'
  unfolding pair_words
  pair-written op x y lo ex ey g =
      record { grown = λ s. subst (Grown c c' at) (cc) (g (omega arith, (used-short bs es s _ ex, (used-short bs es s _ ey, tt)))) }

  pub qy-written :
      (t x y : ℕ) → t ≡ used_at bs es (at + 2) → x ≡ used_at bs es (at + 4) → y ≡ used_at bs es (at + 6) →
      (Each Short (10 ∷ t ∷ x ∷ y ∷ []) → Grown c c' at (10 ∷ t ∷ x ∷ y ∷ [])) → Written qy_words bs es at c c'
  unfolding qy_words
  qy-written t x y et ex ey g =
      record {
        grown = λ s. subst (Grown c c' at) (cc) (g (omega arith, (used-short bs es s _ et, (used-short bs es s _ ex, (used-short bs es s _ ey, tt)))));
      }

  pub cl-written :
      (d : List ℕ) (w f op n : ℕ) → w ≡ used_at bs es (at + 2) → f ≡ formal_in w → op ≡ chosen (eqb f 0) 7 15 → n ≡ field_at bs (at + 4) → n < 65536 →
      (Each Short (op ∷ w ∷ n ∷ []) → Grown c d at (op ∷ w ∷ n ∷ [])) → Written (argument_words n) bs es (at + 6) d c' → Written cl_words bs es at c c'
  unfolding cl_words direct
  cl-written d w f op n ew ef eo en ln g h =
      record {
        grown = λ s.
            let j = grown-then (omega arith) (g (op-short _ _ _ eo (omega arith) (omega arith), (used-short bs es s _ ew, (omega arith, tt)))) (h.grown s) in
            subst (Grown c c' at) (cc) j;
      }

-- the arguments still to come give all of them
pub record Arguing (bs es : List ℕ) (at count : ℕ) (c₀ c : List ℕ) (i : ℕ) : Type 0 where
  pub within : i ≤ count
  pub long : length c ≡ length c₀
  pub on :
      AllShort es → (c' : List ℕ) → Grown c c' (at + 2 * i) (argument_words (count - i) bs es (at + 2 * i)) → Grown c₀ c' at (argument_words count bs es at)

module _ {bs es : List ℕ} {at count : ℕ} {c₀ : List ℕ} where
  pub arguing-start : Arguing bs es at count c₀ c₀ 0
  arguing-start = record { within = omega arith; long = refl; on = λ s c' g. rw (here, all) at g }
    where
      here : at + 2 * 0 ≡ at
      here = omega arith

      all : count - 0 ≡ count
      all = omega arith

  pub arguing-step :
      {c c₁ : List ℕ} {i u : ℕ} → i < count → u ≡ used_at bs es (at + 2 * i) → c₁ ≡ set c ((at + 2 * i) / 2) (u % 4294967296) →
      Arguing bs es at count c₀ c i → Arguing bs es at count c₀ c₁ (i + 1)
  unfolding argument_words fields_at used_at
  arguing-step {c} {c₁} {i} {u} l eu e a =
      record {
        within = omega arith;
        long = ap length e ∙ simp length-set a.long;
        on = λ s c' g.
            let more : count - i ≡ suc (count - (i + 1)) = omega arith in
            let next : at + 2 * (i + 1) ≡ at + 2 * i + 2 = omega arith in
            a.on s c'
            (rw more
            (subst (λ (w : ℕ). Grown c c' (at + 2 * i) (w ∷ map (λ (n : ℕ). word_in n es) (fields_at bs (at + 2 * i + 2) (count - (i + 1))))) eu
            (grown-more refl (put-grows e (used-short bs es s (at + 2 * i) eu)) (rw next at g))));
      }

  pub arguing-end : {c : List ℕ} {i : ℕ} → count ≤ i → Arguing bs es at count c₀ c i → Written (argument_words count) bs es at c₀ c
  unfolding argument_words fields_at
  arguing-end {c} {i} h a =
      let none : count - i ≡ 0 = omega arith in
      record { grown = λ s. a.on s c (rw none (grown-nothing c (at + 2 * i))) }

module _ (bs es : List ℕ) (encl : Enclosure) (s : Shown encl es) where
  arguments-are : (xs : List ℕ) → map (λ (n : ℕ). word_in n es) xs ≡ map (name_word encl) xs
  arguments-are [] = refl
  arguments-are (x ∷ xs) = ap₂ (λ (w : ℕ) (ws : List ℕ). w ∷ ws) (word-is encl es s x) (arguments-are xs)

  pub emits : (at : ℕ) (a : Action) → FieldsStand bs at (action_fields a) → emitted_as (field_at bs at) bs es at ≡ resolved_action encl a
  unfolding action_fields resolved_action ar_words if_words kn_words cl_words go_words pair_words qy_words argument_words
  emits at (KN t z) h =
      let f = field_is bs at (action_fields (KN t z)) h in
      let w = used-is bs es encl s (at + 2) t (f 1 (omega arith)) in
      let v : field_at bs (at + 4) + 65536 * field_at bs (at + 6) ≡ unsigned z = omega (arith, f 2 (omega arith), f 3 (omega arith)) in
      ap (λ (m : ℕ). emitted_as m bs es at) h.0 ∙ cc
  emits at (AR t o l r) h =
      let f = field_is bs at (action_fields (AR t o l r)) h in
      let w = used-is bs es encl s (at + 2) t (f 1 (omega arith)) in
      let k = f 2 (omega arith) in
      let a = used-is bs es encl s (at + 6) l (f 3 (omega arith)) in
      let b = used-is bs es encl s (at + 8) r (f 4 (omega arith)) in
      ap (λ (m : ℕ). emitted_as m bs es at) h.0 ∙ cc
  emits at (IF v l) h =
      let f = field_is bs at (action_fields (IF v l)) h in
      let w = used-is bs es encl s (at + 2) v (f 1 (omega arith)) in
      let a = used-is bs es encl s (at + 4) l (f 2 (omega arith)) in
      ap (λ (m : ℕ). emitted_as m bs es at) h.0 ∙ cc
  emits at (GO l) h =
      let a = used-is bs es encl s (at + 2) l h.1.0 in
      ap (λ (m : ℕ). emitted_as m bs es at) h.0 ∙ cc
  emits at (CL p xs) h =
      let f = field_is bs at (action_fields (CL p xs)) h in
      let w = used-is bs es encl s (at + 2) p h.1.0 in
      let n = f 2 (omega arith) in
      let six : at + 2 + 2 + 2 ≡ at + 6 = omega arith in
      let k = fields-are bs (at + 6) xs (subst (λ (o : ℕ). FieldsStand bs o xs) six h.1.1.1) in
      let e : map (λ (m : ℕ). word_in m es) (fields_at bs (at + 6) (field_at bs (at + 4))) ≡ map (name_word encl) xs =
      ap (λ (c : ℕ). map (λ (m : ℕ). word_in m es) (fields_at bs (at + 6) c)) n ∙ ap (map (λ (m : ℕ). word_in m es)) k ∙ arguments-are xs in
      ap (λ (m : ℕ). emitted_as m bs es at) h.0
      ∙ ap₂ (λ (v : ℕ) (ws : List ℕ). chosen (direct v) 7 15 ∷ v ∷ field_at bs (at + 4) ∷ ws) w e
      ∙ ap (λ (c : ℕ). chosen (direct (name_word encl p)) 7 15 ∷ name_word encl p ∷ c ∷ map (name_word encl) xs) n
  emits at (AD g m) h =
      let f = field_is bs at (action_fields (AD g m)) h in
      let w = used-is bs es encl s (at + 2) g (f 1 (omega arith)) in
      let a = used-is bs es encl s (at + 4) m (f 2 (omega arith)) in
      ap (λ (m : ℕ). emitted_as m bs es at) h.0 ∙ cc
  emits at (RM g m) h =
      let f = field_is bs at (action_fields (RM g m)) h in
      let w = used-is bs es encl s (at + 2) g (f 1 (omega arith)) in
      let a = used-is bs es encl s (at + 4) m (f 2 (omega arith)) in
      ap (λ (m : ℕ). emitted_as m bs es at) h.0 ∙ cc
  emits at (QY t g m) h =
      let f = field_is bs at (action_fields (QY t g m)) h in
      let w = used-is bs es encl s (at + 2) t (f 1 (omega arith)) in
      let a = used-is bs es encl s (at + 4) g (f 2 (omega arith)) in
      let b = used-is bs es encl s (at + 6) m (f 3 (omega arith)) in
      ap (λ (m : ℕ). emitted_as m bs es at) h.0 ∙ cc

-- a statement by its mark
module _ (bs es : List ℕ) (at : ℕ) (c c' : List ℕ) (mark : ℕ) (here : mark ≡ field_at bs at) where
  pub emit-by : (m : ℕ) (ws : List ℕ → List ℕ → ℕ → List ℕ) → mark ≡ m → emitted_as m bs es at ≡ ws bs es at → Written ws bs es at c c' → Emitted bs es at c c'
  emit-by m ws e w g a encl s h =
      subst (Grown c c' at) (sym w ∙ ap (λ (n : ℕ). emitted_as n bs es at) (sym e ∙ here) ∙ emits bs es encl s at a h) (g.grown (all_short encl es s))

  pub emit-last :
      (mark ≡ AR-mark → ⊥) → (mark ≡ IF-mark → ⊥) → (mark ≡ KN-mark → ⊥) → (mark ≡ CL-mark → ⊥) → (mark ≡ GO-mark → ⊥) → (mark ≡ AD-mark → ⊥) → (mark ≡ RM-mark → ⊥) →
      Written qy_words bs es at c c' → Emitted bs es at c c'
  emit-last h₁ h₂ h₃ h₄ h₅ h₆ h₇ =
      emit-by mark qy_words refl
      (rw (
        ne_eqb mark AR-mark h₁,
        ne_eqb mark IF-mark h₂,
        ne_eqb mark KN-mark h₃,
        ne_eqb mark CL-mark h₄,
        ne_eqb mark GO-mark h₅,
        ne_eqb mark AD-mark h₆,
        ne_eqb mark RM-mark h₇,
        emitted_as,
      ))
