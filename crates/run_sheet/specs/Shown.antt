-- What the sheet shows of an activation, in terms of the arrays. `Counts`: walking the statements of a block from its first one, the next
-- statement's place is that of a number. `Owned`: what the words of its names come to. `Shown` has both. `written-more`: one word more.
use Rattle.std.specs.Prelude.{ℕ, zero, suc, ◌+◌, ◌-◌, ◌≤◌, ◌<◌, ◌≡◌, refl, ltb, ℤ, pos, drop, get_or}
use Rattle.std.proofs.Common.{arith, add-one, sym, ◌∙◌, subst, ltb-true, ltb-false, length-drop, drop-cons, take-suc}
use mathlib.Core.List.{List, [], ◌∷◌, ◌++◌, append_assoc}
use Rattle.std.proofs.Math.Path.{ap}
use Rattle.std.proofs.Math.ListN.{length, take, set, length-append}
use Rattle.std.proofs.Math.Seq.{length-take-le}
use Rattle.language.specs.Call.{written}
use Rattle.laws.specs.Tests.{split}
use Rattle.arrays.specs.Holds.{designator_of}
use Rattle.resolved.specs.Layout.{formals_in, names_in, first_in, cell_in}
use Rattle.run_sheet.specs.Sizes.{size_at, Readable}

-- one statement on
pub record Passes (code : List ℕ) (p q : ℕ) : Type 0 where
  pub readable : Readable code p
  pub rises : p < q
  pub after : q ≡ p + size_at code p

pub record Counts (code : List ℕ) (block next number : ℕ) : Type 0 where
  pub places : ℕ → ℕ
  pub first : first_in (get_or code (block + 1) 0) ≡ places 1
  pub one : 1 ≤ number
  pub last : places number ≡ next
  pub step : (i : ℕ) → 1 ≤ i → i < number → Passes code (places i) (places (suc i))

-- a walk as the code needs it: the block's words and the next statement's place stand in the script
pub record Countable (code : List ℕ) (block next : ℕ) : Type 0 where
  pub within : block + 1 < 4096
  pub ends : next ≤ 4096
  pub number : ℕ
  pub counts : Counts code block next number

module _ {code : List ℕ} {block next number : ℕ} (c : Counts code block next number) where
  -- so many statements further on
  rises_by : (k i : ℕ) → 1 ≤ i → i + suc k ≤ number → c.places i < c.places (i + suc k)
  rises_by zero i l h =
      let e : i + 1 ≡ suc i = omega arith in
      subst (λ n. c.places i < c.places n) (sym e) (c.step i l (omega arith)).rises
  rises_by (suc k) i l h =
      let e : i + suc (suc k) ≡ suc i + suc k = omega arith in
      let a = (c.step i l (omega arith)).rises in
      let b = rises_by k (suc i) (omega arith) (omega arith) in
      omega (arith, ap c.places e)

  places-rise : (i : ℕ) → 1 ≤ i → i < number → c.places i < next
  places-rise i l h =
      let e : i + suc (number - suc i) ≡ number = omega arith in
      omega (arith, rises_by (number - suc i) i l (omega arith), ap c.places e, c.last)

  -- where the walk has come as far as the next statement, it has its number
  pub counted : (i : ℕ) → 1 ≤ i → i ≤ number → next ≤ c.places i → i ≡ number
  counted i l h e = split (ltb i number) (λ q. absurd (omega (arith, places-rise i l (ltb-true i number q)))) (λ q. omega (arith, ltb-false i number q))

-- a place before the next statement's has a statement, and the walk goes on
pub on : {code : List ℕ} {block next n : ℕ} (c : Counts code block next n) {i p : ℕ} → 1 ≤ i → (i ≤ n) × (p ≡ c.places i) → p < next → (i < n) × Passes code p (c.places (suc i))
on {code} {block} {next} {n} c {i} {p} l h b =
    split (ltb i n) (λ q. let m = ltb-true i n q in (m, subst (λ x. Passes code x (c.places (suc i))) (sym h.1) (c.step i l m)))
    (λ q. let e : i ≡ n = omega (arith, ltb-false i n q) in absurd (omega (arith, h.1, ap c.places e, c.last)))

-- the words of the names, from their cells: a formal shows the designator of the name that it finally stands for
pub record Owned (cells : List ℤ) (first formals : ℕ) (own : List ℤ) : Type 0 where
  pub within : first + length own ≤ 8192
  pub formals-are : (i : ℕ) → i < formals → i < length own → (x : ℕ) × (get_or cells (first + i) (pos 0) ≡ pos x) × (get_or own i (pos 0) ≡ pos (designator_of (cell_in x)))
  pub others-are : (i : ℕ) → formals ≤ i → i < length own → get_or cells (first + i) (pos 0) ≡ get_or own i (pos 0)

pub record Shown (code : List ℕ) (cells : List ℤ) (block next first number : ℕ) (own : List ℤ) : Type 0 where
  pub within : block + 1 < 4096
  pub counts : Counts code block next number
  pub ends : next ≤ 4096
  pub names-are : names_in (get_or code block 0) ≡ length own
  pub owned : Owned cells first (formals_in (get_or code block 0)) own

-- words written from the front, and what was there past them

pub written_none : (sheet : List ℤ) → written [] sheet ≡ sheet
unfolding written
written_none sheet = refl

pub written-length : (ws sheet : List ℤ) → length ws ≤ length sheet → length (written ws sheet) ≡ length sheet
unfolding written
written-length ws sheet h = omega (arith, length-append ws (drop (length ws) sheet), length-drop (length ws) sheet)

set_at : (ws : List ℤ) (old z : ℤ) (rest : List ℤ) → set (ws ++ (old ∷ rest)) (length ws) z ≡ ws ++ (z ∷ rest)
set_at [] old z rest = refl
set_at (w ∷ ws) old z rest = ap (λ (l : List ℤ). w ∷ l) (set_at ws old z rest)

pub written-more : (ws sheet : List ℤ) (z : ℤ) → length ws < length sheet → set (written ws sheet) (length ws) z ≡ written (ws ++ (z ∷ [])) sheet
unfolding written
written-more ws sheet z h =
    let d = drop-cons sheet (length ws) (pos 0) h in
    let n : suc (length ws) ≡ length (ws ++ (z ∷ [])) = omega (arith, length-append ws (z ∷ [])) in
    ap (λ (l : List ℤ). set (ws ++ l) (length ws) z) d ∙ set_at ws _ z _ ∙ ap (λ k. ws ++ (z ∷ drop k sheet)) n ∙ sym (append_assoc ws (z ∷ []) (drop (length (ws ++ (z ∷ []))) sheet))

-- the words of a list, one after another
module _ (own ws base before sheet : List ℤ) (at i : ℕ) (z : ℤ) (n : length ws ≡ at) where
  pub names_more : i < length own → at + length own ≤ length before → before ≡ written ws base → sheet ≡ written (ws ++ take i own) base → z ≡ get_or own i (pos 0)
      → set sheet (at + i) z ≡ written (ws ++ take (i + 1) own) base
  unfolding written
  names_more l room e q v =
      let t : length (take i own) ≡ i = length-take-le i own (omega arith) in
      let a : at + i ≡ length (ws ++ take i own) = omega (arith, length-append ws (take i own)) in
      let b : length before ≡ length ws + (length base - length ws) = ap length e ∙ length-append ws (drop (length ws) base) ∙ ap (λ k. length ws + k) (length-drop (length ws) base) in
      (λ j. set (q j) (a j) (v j)) ∙ written-more (ws ++ take i own) base (get_or own i (pos 0)) (omega arith)
      ∙ ap (λ (x : List ℤ). written x base) (append_assoc ws (take i own) (get_or own i (pos 0) ∷ []) ∙ ap (λ (x : List ℤ). ws ++ x) (sym (take-suc own i (pos 0) l) ∙ ap (λ k. take k own) (sym (add-one i))))

-- three words before them
pub heads : (ws base sheet : List ℤ) (at : ℕ) (a b c : ℤ) → sheet ≡ written ws base → length ws ≡ at → at + 3 ≤ length sheet
    → set (set (set sheet at a) (at + 1) b) (at + 2) c ≡ written (ws ++ (a ∷ b ∷ c ∷ [])) base
unfolding written
heads ws base sheet at a b c e n room =
    let l : length sheet ≡ length ws + (length base - length ws) = ap length e ∙ length-append ws (drop (length ws) base) ∙ ap (λ m. length ws + m) (length-drop (length ws) base) in
    let k : at ≡ length ws = sym n in
    let p : set sheet at a ≡ written (ws ++ (a ∷ [])) base = (λ j. set (e j) (k j) a) ∙ written-more ws base a (omega arith) in
    let m : at + 1 ≡ length (ws ++ (a ∷ [])) = omega (arith, length-append ws (a ∷ [])) in
    let q : set (set sheet at a) (at + 1) b ≡ written (ws ++ (a ∷ b ∷ [])) base =
    (λ j. set (p j) (m j) b) ∙ written-more (ws ++ (a ∷ [])) base b (omega (arith, length-append ws (a ∷ []))) ∙ ap (λ (x : List ℤ). written x base) (append_assoc ws (a ∷ []) (b ∷ [])) in
    let o : at + 2 ≡ length (ws ++ (a ∷ b ∷ [])) = omega (arith, length-append ws (a ∷ b ∷ [])) in
    (λ j. set (q j) (o j) c) ∙ written-more (ws ++ (a ∷ b ∷ [])) base c (omega (arith, length-append ws (a ∷ b ∷ []))) ∙ ap (λ (x : List ℤ). written x base) (append_assoc ws (a ∷ b ∷ []) (c ∷ []))
