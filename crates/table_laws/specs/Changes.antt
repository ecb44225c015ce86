-- Adding and removing a pair: what the words then hold, how many members a group then has, and that a right table stays right.
use Rattle.std.specs.Prelude.{ℕ, zero, suc, ◌+◌, ◌*◌, ◌%◌, ◌≤◌, ◌<◌, ◌≢◌, ◌⊎◌, ◌≡◌, refl, Bool, true, false, ◌&&◌, cond, List, ℤ, pos, length, get_or, set}
use Rattle.std.proofs.Common.{not-suc-le-zero, add-zero, arith, inl, inr, ap, ap₂, ◌∙◌, subst, length-set, get_or-set_same, get_or-set_other}
use Rattle.std.proofs.Math.Path.{sym}
use Rattle.std.proofs.Math.Bool.{and-eq-true_iff}
use Rattle.std.proofs.Math.Option.{Option, none, some}
use Rattle.language.specs.Basics.{eq_z}
use Rattle.language.specs.Table.{Table, find, is_some, holds, members, size, at_least_one, right, full, add, take_out, fewer, remove}
use Rattle.laws.specs.Tests.{eq_z-true}
use Rattle.laws.specs.Tables.{group_at, member_at, or_else, find-next, members-next, full-room, add-length, add-used, take_out-length}
use Rattle.table_laws.specs.Pairs.{At, below_or, find-some, find-same, find_absent, find-present, absent, members-same}
use Rattle.table_laws.specs.TakingOut.{take_out-place-before, take_out-place-after, take_out-members}
use Rattle.table_laws.specs.Rightness.{Right, right-means, right-holds}

-- Adding.
-- the words before the new pair stay, and so do those after it
pub add-word : (g m : ℤ) (t : Table) (n : ℕ) (d : ℤ) → n ≢ 2 * t.used → n ≢ suc (2 * t.used) → get_or (add g m t).words n d ≡ get_or t.words n d
unfolding add
add-word g m t n d p q = get_or-set_other (set t.words (2 * t.used) g) (suc (2 * t.used)) n m d q ∙ get_or-set_other t.words (2 * t.used) n g d p

pub add-before : (g m : ℤ) (t : Table) (i : ℕ) → i < t.used → At i (add g m t).words (group_at i t.words) (member_at i t.words)
add-before g m t i h = (add-word g m t (2 * i) (pos 0) (omega arith) (omega arith), add-word g m t (2 * i + 1) (pos 0) (omega arith) (omega arith))

pub add-new : (g m : ℤ) (t : Table) → 2 * suc t.used ≤ length t.words → At t.used (add g m t).words g m
unfolding add
add-new g m t h =
    let u = t.used in
    let vs = set t.words (2 * u) g in
    let e : length vs ≡ length t.words = length-set t.words (2 * u) g in
    let o : 2 * u + 1 ≡ suc (2 * u) = omega arith in
    (get_or-set_other vs (suc (2 * u)) (2 * u) m (pos 0) (omega arith) ∙ get_or-set_same t.words (2 * u) g (pos 0) (omega arith), ap (λ n. get_or (set vs (suc (2 * u)) m) n (pos 0)) o ∙ get_or-set_same vs (suc (2 * u)) m (pos 0) (omega arith))

-- the pair's group has one member more, the others as many as before
pub add-size : (h g m : ℤ) (t : Table) → 2 * suc t.used ≤ length t.words → size h (add g m t) ≡ size h t + cond (eq_z g h) 1 0
unfolding size
add-size h g m t f =
    let ws = (add g m t).words in
    let e : length ws ≡ length t.words = add-length g m t in
    ap (λ k. members h k ws) (add-used g m t) ∙ members-next h t.used ws (omega arith) ∙ ap₂ ◌+◌ (members-same h t.used ws t.words (omega arith) (omega arith) (λ i l. (add-before g m t i l).0)) (ap (λ a. cond (eq_z a h) 1 0) (add-new g m t f).0)

pub add_holds : (g m : ℤ) (t : Table) → 2 * suc t.used ≤ length t.words → holds g m (add g m t) ≡ true
unfolding holds
add_holds g m t f =
    let e : length (add g m t).words ≡ length t.words = add-length g m t in
    let u : (add g m t).used ≡ suc t.used = add-used g m t in
    find-present g m (add g m t).used (add g m t).words t.used (omega arith) (omega arith) (add-new g m t f)

-- a pair is found where it stood before, or it is the new one
pub add-find : (h n g m : ℤ) (t : Table) → 2 * suc t.used ≤ length t.words → find h n (add g m t).used (add g m t).words ≡ or_else (find h n t.used t.words) (eq_z g h && eq_z m n) t.used
add-find h n g m t f =
    let ws = (add g m t).words in
    let u = t.used in
    let e : length ws ≡ length t.words = add-length g m t in
    let a = add-new g m t f in
    ap (λ k. find h n k ws) (add-used g m t) ∙ find-next h n u ws (omega arith) ∙ ap₂ (λ o b. or_else o b u) (find-same h n u ws t.words (omega arith) (omega arith) (λ i l. add-before g m t i l)) (ap₂ (λ x y. eq_z x h && eq_z y n) a.0 a.1)

-- a place in use after adding is an old one or the new one
old-or-new : (g m : ℤ) (t : Table) (i : ℕ) → i < (add g m t).used → (i < t.used) ⊎ (i ≡ t.used)
old-or-new g m t i l = go (below_or i t.used)
  where
    go : (i ≡ t.used) ⊎ ((i < t.used) ⊎ (t.used < i)) → (i < t.used) ⊎ (i ≡ t.used)
    go (inl e) = inr e
    go (inr (inl b)) = inl b
    go (inr (inr b)) = absurd (omega (arith, add-used g m t))

module _ (limit : ℕ) (g m : ℤ) (t : Table) (r : Right limit t) (ones : at_least_one g && at_least_one m ≡ true) (new : holds g m t ≡ false) (below : size g t < limit) (room : 2 * suc t.used ≤ length t.words) where
  add-numbers : (i : ℕ) → i < (add g m t).used → (at_least_one (group_at i (add g m t).words) ≡ true) × (at_least_one (member_at i (add g m t).words) ≡ true)
  add-numbers i l = go (old-or-new g m t i l)
    where
      q : (at_least_one g ≡ true) × (at_least_one m ≡ true)
      q = (and-eq-true_iff (at_least_one g) (at_least_one m)).0 ones

      go : (i < t.used) ⊎ (i ≡ t.used) → (at_least_one (group_at i (add g m t).words) ≡ true) × (at_least_one (member_at i (add g m t).words) ≡ true)
      go (inl b) = let a = add-before g m t i b in let n = r.numbers i b in (ap at_least_one a.0 ∙ n.0, ap at_least_one a.1 ∙ n.1)
      go (inr e) = let a = subst (λ j. At j (add g m t).words g m) (sym e) (add-new g m t room) in (ap at_least_one a.0 ∙ q.0, ap at_least_one a.1 ∙ q.1)

  -- an old place does not hold the new pair
  add-other : (i : ℕ) → i < t.used → At i (add g m t).words g m → ⊥
  unfolding holds
  add-other i b p = let a = add-before g m t i b in absent g m t.used t.words r.fits new i b (sym a.0 ∙ p.0, sym a.1 ∙ p.1)

  add_once : (i j : ℕ) → i < (add g m t).used → j < (add g m t).used → At i (add g m t).words (group_at j (add g m t).words) (member_at j (add g m t).words) → i ≡ j
  add_once i j l k p = go (old-or-new g m t i l) (old-or-new g m t j k)
    where
      newest : (x : ℕ) → x ≡ t.used → At x (add g m t).words g m
      newest x e = subst (λ y. At y (add g m t).words g m) (sym e) (add-new g m t room)

      go : (i < t.used) ⊎ (i ≡ t.used) → (j < t.used) ⊎ (j ≡ t.used) → i ≡ j
      go (inl a) (inl b) = let x = add-before g m t i a in let y = add-before g m t j b in r.once i j a b (sym x.0 ∙ p.0 ∙ y.0, sym x.1 ∙ p.1 ∙ y.1)
      go (inl a) (inr b) = absurd (add-other i a (p.0 ∙ (newest j b).0, p.1 ∙ (newest j b).1))
      go (inr a) (inl b) = absurd (add-other j b (sym p.0 ∙ (newest i a).0, sym p.1 ∙ (newest i a).1))
      go (inr a) (inr b) = a ∙ sym b

  add-within : (h : ℤ) → size h (add g m t) ≤ limit
  add-within h = go (eq_z g h) refl
    where
      go : (b : Bool) → eq_z g h ≡ b → size h (add g m t) ≤ limit
      go true e =
          let q : g ≡ h = eq_z-true g h e in
          let s : size h t < limit = subst (λ x. size x t < limit) q below in
          let c : ◌≡◌ {A = ℕ} (cond (eq_z g h) 1 0) 1 = ap (λ b. cond b 1 0) e in
          omega (arith, add-size h g m t room)
      go false e =
          let c : ◌≡◌ {A = ℕ} (cond (eq_z g h) 1 0) 0 = ap (λ b. cond b 1 0) e in
          omega (arith, add-size h g m t room, r.within h)

  add-stays : Right limit (add g m t)
  add-stays =
      record { even = ap (λ n. n % 2) (add-length g m t) ∙ r.even; fits = omega (arith, add-used g m t, add-length g m t); numbers = add-numbers; once = add_once; within = add-within }

pub add_right : (limit : ℕ) (g m : ℤ) (t : Table) → right limit t ≡ true → at_least_one g && at_least_one m ≡ true → holds g m t ≡ false → size g t < limit → full t ≡ false → right limit (add g m t) ≡ true
add_right limit g m t r ones new below room = right-holds limit (add g m t) (add-stays limit g m t (right-means limit t r) ones new below (full-room t room))

-- Removing.
pub remove_absent : (g m : ℤ) (t : Table) → find g m t.used t.words ≡ none → remove g m t ≡ t
unfolding remove
remove_absent g m t e = ap (λ o. elim o as (λ x. Table) [ none ↦ t | some i ↦ record { words = take_out i t.used t.words; used = fewer t.used } ]) e

abbrev pub without : ℕ → Table → Table
without i t = record { words = take_out i t.used t.words; used = fewer t.used }

pub remove-present : (g m : ℤ) (t : Table) (i : ℕ) → find g m t.used t.words ≡ some i → remove g m t ≡ without i t
unfolding remove
remove-present g m t i e = ap (λ o. elim o as (λ x. Table) [ none ↦ t | some i ↦ record { words = take_out i t.used t.words; used = fewer t.used } ]) e

-- a property of what removing gives, from the table and from the table without a place in use
pub remove-cases : (P : Table → Type 0) (g m : ℤ) (t : Table) → 2 * t.used ≤ length t.words → P t → ((i : ℕ) → i < t.used → P (without i t)) → P (remove g m t)
remove-cases P g m t f p q = go (find g m t.used t.words) refl
  where
    go : (o : Option ℕ) → find g m t.used t.words ≡ o → P (remove g m t)
    go none e = subst P (sym (remove_absent g m t e)) p
    go (some i) e = subst P (sym (remove-present g m t i e)) (q i (find-some g m t.used t.words i f e).0)

pub remove-length : (g m : ℤ) (t : Table) → length (remove g m t).words ≡ length t.words
remove-length g m t = go (find g m t.used t.words) refl
  where
    go : (o : Option ℕ) → find g m t.used t.words ≡ o → length (remove g m t).words ≡ length t.words
    go none e = ap (λ x. length x.words) (remove_absent g m t e)
    go (some i) e = ap (λ x. length x.words) (remove-present g m t i e) ∙ take_out-length i t.used t.words

pub fewer-suc : (i k : ℕ) → i < k → suc (fewer k) ≡ k
unfolding fewer
fewer-suc i zero h = absurd (not-suc-le-zero h)
fewer-suc i (suc k) h = refl

-- `From i k ws j`: where the pair at place j after taking out stood before
record From (i k : ℕ) (ws : List ℤ) (j : ℕ) : Type 0 where
  was : ℕ
  used : was < k
  same : At j (take_out i k ws) (group_at was ws) (member_at was ws)
  side : ((j < i) × (was ≡ j)) ⊎ ((i ≤ j) × (was ≡ suc j))

from : (i k : ℕ) (ws : List ℤ) (j : ℕ) → 2 * k ≤ length ws → i < k → j < fewer k → From i k ws j
from i k ws j f h l = go (below_or i j)
  where
    e : suc (fewer k) ≡ k
    e = fewer-suc i k h

    go : (i ≡ j) ⊎ ((i < j) ⊎ (j < i)) → From i k ws j
    go (inl q) = record { was = suc j; used = omega (arith, e); same = take_out-place-after i k ws j f (omega arith) (omega (arith, e)); side = inr (omega arith, refl) }
    go (inr (inl q)) = record { was = suc j; used = omega (arith, e); same = take_out-place-after i k ws j f (omega arith) (omega (arith, e)); side = inr (omega arith, refl) }
    go (inr (inr q)) = record { was = j; used = omega arith; same = take_out-place-before i k ws j q; side = inl (q, refl) }

from-same : (i k : ℕ) (ws : List ℤ) (x y : ℕ) (a : From i k ws x) (b : From i k ws y) → a.was ≡ b.was → x ≡ y
from-same i k ws x y a b e = go a.side b.side
  where
    go : ((x < i) × (a.was ≡ x)) ⊎ ((i ≤ x) × (a.was ≡ suc x)) → ((y < i) × (b.was ≡ y)) ⊎ ((i ≤ y) × (b.was ≡ suc y)) → x ≡ y
    go (inl p) (inl q) = omega arith
    go (inl p) (inr q) = omega arith
    go (inr p) (inl q) = omega arith
    go (inr p) (inr q) = omega arith

module _ (limit : ℕ) (t : Table) (r : Right limit t) (i : ℕ) (h : i < t.used) where
  without-numbers : (j : ℕ) → j < fewer t.used → (at_least_one (group_at j (take_out i t.used t.words)) ≡ true) × (at_least_one (member_at j (take_out i t.used t.words)) ≡ true)
  without-numbers j l =
      let a = from i t.used t.words j r.fits h l in
      let n = r.numbers a.was a.used in
      (ap at_least_one a.same.0 ∙ n.0, ap at_least_one a.same.1 ∙ n.1)

  without-once : (x y : ℕ) → x < fewer t.used → y < fewer t.used → At x (take_out i t.used t.words) (group_at y (take_out i t.used t.words)) (member_at y (take_out i t.used t.words)) → x ≡ y
  without-once x y l k p =
      let a = from i t.used t.words x r.fits h l in
      let b = from i t.used t.words y r.fits h k in
      from-same i t.used t.words x y a b
      (r.once a.was b.was a.used b.used (sym a.same.0 ∙ p.0 ∙ b.same.0, sym a.same.1 ∙ p.1 ∙ b.same.1))

  without-within : (g : ℤ) → size g (without i t) ≤ limit
  unfolding size
  without-within g =
      let w : members g t.used t.words ≤ limit = r.within g in
      omega (arith, take_out-members g i t.used t.words r.fits h)

  without-stays : Right limit (without i t)
  without-stays =
      record { even = ap (λ n. n % 2) (take_out-length i t.used t.words) ∙ r.even; fits = omega (arith, fewer-suc i t.used h, take_out-length i t.used t.words, r.fits); numbers = without-numbers; once = without-once; within = without-within }

pub remove-right : (limit : ℕ) (g m : ℤ) (t : Table) → right limit t ≡ true → right limit (remove g m t) ≡ true
remove-right limit g m t r =
    let q = right-means limit t r in
    remove-cases (λ x. right limit x ≡ true) g m t q.fits r (λ i h. right-holds limit (without i t) (without-stays limit t q i h))

-- the pair removed is in the table no more
pub remove-holds : (limit : ℕ) (g m : ℤ) (t : Table) → right limit t ≡ true → holds g m (remove g m t) ≡ false
unfolding holds is_some
remove-holds limit g m t r = go (find g m t.used t.words) refl
  where
    q : Right limit t
    q = right-means limit t r

    gone : (i : ℕ) → i < t.used → At i t.words g m → (j : ℕ) → j < fewer t.used → At j (take_out i t.used t.words) g m → ⊥
    gone i h p j l b =
        let a = from i t.used t.words j q.fits h l in
        let e : a.was ≡ i = q.once a.was i a.used h (sym a.same.0 ∙ b.0 ∙ sym p.0, sym a.same.1 ∙ b.1 ∙ sym p.1) in
        on a.side e
      where
        on : {w : ℕ} → ((j < i) × (w ≡ j)) ⊎ ((i ≤ j) × (w ≡ suc j)) → w ≡ i → ⊥
        on (inl s) e = omega arith
        on (inr s) e = omega arith

    go : (o : Option ℕ) → find g m t.used t.words ≡ o → is_some (find g m (remove g m t).used (remove g m t).words) ≡ false
    go none e = ap (λ x. is_some (find g m x.used x.words)) (remove_absent g m t e) ∙ ap is_some e
    go (some i) e =
        let p = find-some g m t.used t.words i q.fits e in
        ap (λ x. is_some (find g m x.used x.words)) (remove-present g m t i e) ∙ find_absent g m (fewer t.used) (take_out i t.used t.words) (omega (arith, fewer-suc i t.used p.0, take_out-length i t.used t.words, q.fits)) (gone i p.0 p.1)

-- its group has one member fewer, where it was present
pub remove-size : (h g m : ℤ) (t : Table) → 2 * t.used ≤ length t.words → size h t ≡ size h (remove g m t) + cond (holds g m t && eq_z g h) 1 0
unfolding holds is_some size
remove-size h g m t f = go (find g m t.used t.words) refl
  where
    go : (o : Option ℕ) → find g m t.used t.words ≡ o → members h t.used t.words ≡ members h (remove g m t).used (remove g m t).words + cond (is_some o && eq_z g h) 1 0
    go none e = sym (add-zero (members h t.used t.words)) ∙ ap (λ x. members h x.used x.words + 0) (sym (remove_absent g m t e))
    go (some i) e =
        let p = find-some g m t.used t.words i f e in
        take_out-members h i t.used t.words f p.0 ∙ ap₂ (λ x a. members h x.used x.words + cond (eq_z a h) 1 0) (sym (remove-present g m t i e)) p.1.0
