-- Passing records one after the other: what is left of a record and all that stands inside it.
-- Assumes nothing.
use mathlib.Core.Path.{◌≡◌, refl, sym, ◌∙◌, ap, subst}
use mathlib.Core.List.{List, [], ◌∷◌, ◌++◌, append-nil, append_assoc}
use Prim.Native.Nat.{ℕ, ◌+◌, ◌*◌, ◌-◌, ◌<◌, ◌≤◌}
use native.Mathlib.Omega.{arith}
use lib.ListN.{length, length-append}
use borrow.Author.Tests.{eqb-true, eq-eqb, ne_eqb}
use lib.Dec.{eqb}
use Rattle.language.specs.Encoding.{BK-mark, VR-mark, LB-mark, PR-mark, CL-mark}
use Rattle.language.specs.Structure.{Row, formal_marks, decl_marks, stmt_marks}
use Rattle.laws.specs.Tests.{split}
use Rattle.check_marks.specs.declared.Mark.{Mark}
use Rattle.check_marks.specs.declared.Mark.TheVariants.{FM}
use Rattle.check_marks.specs.Marks.{decl_mark, stmt_mark, only_mark, fit_in, fit_at}
use Rattle.check_marks.specs.Counts.{count_or, field_count}
use Rattle.laws.specs.Fields.{field_at, FieldsStand, field-inside, fields-first, fields-after}
use Rattle.check_extents.specs.Items.{Item, item_fields, items_fields, children, head_fields, head_size, child_count}
use Rattle.check_extents.specs.Passing.{Passed, Alone, TwoFields, Skipped, Left, Stepped}
use Rattle.check_extents.specs.declared.passing.Step.{Step}
use Rattle.check_extents.proofs.Inside.{items-append, item-opens, head-size, child-count, head-marked}

-- a head by its mark
pub count-CL : (w : ℕ) → w ≡ CL-mark → field_count w ≡ 2
unfolding field_count fit_at fit_in stmt_marks
count-CL w e = rw e

-- a row with these letters has two fields
abbrev Twos : {M : Type 0} → ℕ → List (Row M) → Type 0
Twos w [] = Unit {0}
Twos w (r ∷ rs) = (w ≡ r.letters → r.count ≡ 2) × Twos w rs

two_in : {M : Type 0} (f : M → Mark) (w d : ℕ) (rs : List (Row M)) → Twos w rs → d ≡ 2 → count_or (fit_in f w rs) d ≡ 2
unfolding fit_in
two_in f w d [] t e = e
two_in f w d (r ∷ rs) t e =
    split (eqb w r.letters) (λ q. rw (q, fit_in) (t.0 (eqb-true w r.letters q))) (λ q. rw (q, fit_in) (two_in f w d rs t.1 e))

pub count-two : (w : ℕ) → TwoFields w → field_count w ≡ 2
unfolding field_count fit_at stmt_marks decl_marks formal_marks
count-two w t =
    two_in stmt_mark w _ stmt_marks
    (λ e. refl, (λ e. refl, (λ e. absurd (t.no-GO e), (λ e. refl, (λ e. absurd (t.no-KN e), (λ e. absurd (t.no-AR e), (λ e. refl, (λ e. refl, (λ e. absurd (t.no-QY e), tt)))))))))
    (two_in decl_mark w _ decl_marks (λ e. absurd (t.no-VR e), (λ e. refl, (λ e. refl, tt))) (two_in (only_mark FM) w 2 formal_marks (λ e. refl, tt) refl))

pub size-CL : (w a : ℕ) → w ≡ CL-mark → head_size w a ≡ 2 + 2 * field_count w + 2 * a
unfolding head_size
size-CL w a e = rw (eq-eqb w CL-mark e, head_size)

pub size-other : (w a : ℕ) → (w ≡ CL-mark → ⊥) → head_size w a ≡ 2 + 2 * field_count w
unfolding head_size
size-other w a e = rw (ne_eqb w CL-mark e, head_size)

pub child-other : (w d a : ℕ) → (w ≡ BK-mark → ⊥) → (w ≡ PR-mark → ⊥) → child_count w d a ≡ 0
unfolding child_count
child-other w d a e f = rw (ne_eqb w BK-mark e, ne_eqb w PR-mark f, child_count)

module _ (bs : List ℕ) (at : ℕ) (x : Item) where
  alone : items_fields (x ∷ []) ≡ item_fields x
  unfolding items_fields
  alone = append-nil (item_fields x)

  pub left-start : FieldsStand bs at (item_fields x) → Left bs at at 1 x
  left-start h = record { items = x ∷ []; stand = rw alone h; number = refl; reach = rw alone }

  pub left_end : (here pending : ℕ) → pending ≤ 0 → Left bs at here pending x → here ≡ at + 2 * length (item_fields x)
  unfolding items_fields
  left_end here pending h l = none l.items l.number l.reach
    where
      none : (xs : List Item) → length xs ≡ pending → here + 2 * length (items_fields xs) ≡ at + 2 * length (item_fields x) → here ≡ at + 2 * length (item_fields x)
      none [] n r = omega arith
      none (y ∷ ys) n r = absurd (omega arith)

  cut : (y : Item) (ys : List Item) → items_fields (y ∷ ys) ≡ head_fields y ++ items_fields (children y ++ ys)
  unfolding items_fields
  cut y ys =
      ap (λ (l : List ℕ). l ++ items_fields ys) (item-opens y)
      ∙ append_assoc (head_fields y) (items_fields (children y)) (items_fields ys)
      ∙ ap (λ (l : List ℕ). head_fields y ++ l) (sym (items-append (children y) ys))

  pub left-inside : (here pending : ℕ) → 0 < pending → Left bs at here pending x → length bs ≤ here → ⊥
  left-inside here pending h l out = some_left l.items l.number l.stand
    where
      some_left : (xs : List Item) → length xs ≡ pending → FieldsStand bs here (items_fields xs) → ⊥
      some_left [] n s = omega arith
      some_left (y ∷ ys) n s =
          field-inside bs here (head-marked bs here (items_fields (children y ++ ys)) y (subst (FieldsStand bs here) (cut y ys) s)) out

  module _ (here pending : ℕ) (more : 0 < pending) (s : Step) (p : Passed bs here s) where
    step-on : (xs : List Item) → length xs ≡ pending → FieldsStand bs here (items_fields xs) → here + 2 * length (items_fields xs) ≡ at + 2 * length (item_fields x) → Left bs at s.next (pending - 1 + s.more) x
    step-on [] n h r = absurd (omega arith)
    step-on (y ∷ ys) n h r =
        let h' : FieldsStand bs here (head_fields y ++ items_fields (children y ++ ys)) = subst (FieldsStand bs here) (cut y ys) h in
        let size = head-size bs here (items_fields (children y ++ ys)) y h' in
        let count = child-count bs here (items_fields (children y ++ ys)) y h' in
        let next : s.next ≡ here + 2 * length (head_fields y) = p.next-is ∙ ap (λ (k : ℕ). here + k) size in
        let long = ap length (cut y ys) ∙ length-append (head_fields y) (items_fields (children y ++ ys)) in
        let many = length-append (children y) ys in
        let m : s.more ≡ length (children y) = p.more-is ∙ count in
        record {
          items = children y ++ ys;
          stand = subst (λ (o : ℕ). FieldsStand bs o (items_fields (children y ++ ys))) (sym next) (fields-after bs here (head_fields y) (items_fields (children y ++ ys)) h');
          number = omega arith;
          reach = omega arith;
        }

    pub left_step : Left bs at here pending x → Left bs at s.next (pending - 1 + s.more) x
    left_step l = step-on l.items l.number l.stand l.reach

  pub left-first : (s : Step) → Passed bs at s → FieldsStand bs at (item_fields x) → Left bs at s.next s.more x
  left-first s p h =
      let e : 1 - 1 + s.more ≡ s.more = omega arith in
      subst (λ (k : ℕ). Left bs at s.next k x) e (left_step at 1 (omega arith) s p (left-start h))

  -- all of the next record at once
  module _ (here pending end : ℕ) (more : 0 < pending) (s : Skipped bs here end) where
    whole-on : (xs : List Item) → length xs ≡ pending → FieldsStand bs here (items_fields xs) → here + 2 * length (items_fields xs) ≡ at + 2 * length (item_fields x) → Left bs at end (pending - 1 + 0) x
    unfolding items_fields
    whole-on [] n h r = absurd (omega arith)
    whole-on (y ∷ ys) n h r =
        let e : end ≡ here + 2 * length (item_fields y) = s.ends y (fields-first bs here (item_fields y) (items_fields ys) h) in
        record {
          items = ys;
          stand = subst (λ (o : ℕ). FieldsStand bs o (items_fields ys)) (sym e) (fields-after bs here (item_fields y) (items_fields ys) h);
          number = omega arith;
          reach = omega (arith, length-append (item_fields y) (items_fields ys));
        }

    pub left-whole : Left bs at here pending x → Left bs at end (pending - 1 + 0) x
    left-whole l = whole-on l.items l.number l.stand l.reach

-- a head whose size its mark settles
module _ (bs : List ℕ) (at : ℕ) where
  passed-by : (w size more : ℕ) → field_at bs at ≡ w → ((a : ℕ) → head_size w a ≡ size) → more ≡ child_count w (field_at bs (at + 2)) (field_at bs (at + 4)) → 2 ≤ size → size ≤ 131076 → more ≤ 131070 → Passed bs at (record { next = at + size; more = more })
  passed-by w size more m head children low high few = record {
    next-is = ap (λ (k : ℕ). at + k) (sym (ap (λ (x : ℕ). head_size x (field_at bs (at + 4))) m ∙ head (field_at bs (at + 4))));
    more-is = children ∙ sym (ap (λ (x : ℕ). child_count x (field_at bs (at + 2)) (field_at bs (at + 4))) m);
    on = omega arith;
    near = omega arith;
    few = few;
  }

  pub passed-BK : (more : ℕ) → field_at bs at ≡ BK-mark → more ≡ field_at bs (at + 2) + field_at bs (at + 4) → more ≤ 131070 → Passed bs at (record { next = at + 6; more = more })
  unfolding head_size child_count field_count fit_at fit_in stmt_marks
  passed-BK more m e few = passed-by BK-mark 6 more m (λ a. refl) e (omega arith) (omega arith) few

  pub passed-PR : (more : ℕ) → field_at bs at ≡ PR-mark → more ≡ field_at bs (at + 4) + 1 → more ≤ 131070 → Passed bs at (record { next = at + 6; more = more })
  unfolding head_size child_count field_count fit_at fit_in stmt_marks decl_marks
  passed-PR more m e few = passed-by PR-mark 6 more m (λ a. refl) e (omega arith) (omega arith) few

  pub passed-VR : field_at bs at ≡ VR-mark → Alone bs at (at + 4)
  unfolding head_size child_count field_count fit_at fit_in stmt_marks decl_marks
  passed-VR m = passed-by VR-mark 4 0 m (λ a. refl) refl (omega arith) (omega arith) (omega arith)

  pub passed-LB : field_at bs at ≡ LB-mark → Alone bs at (at + 6)
  unfolding head_size child_count field_count fit_at fit_in stmt_marks decl_marks
  passed-LB m = passed-by LB-mark 6 0 m (λ a. refl) refl (omega arith) (omega arith) (omega arith)

-- past the end of the script, and where nothing stands inside
pub skipped-out : (bs : List ℕ) (at : ℕ) → length bs ≤ at → Skipped bs at at
skipped-out bs at out = record {
  ends = λ x h. absurd (left-inside bs at x at 1 (omega arith) (left-start bs at x h) out);
  after = omega arith;
  close = omega arith;
}

module _ (bs : List ℕ) (at : ℕ) (inside : at < length bs) (s : Step) (p : Passed bs at s) where
  pub skipped-head : s.more ≡ 0 → Skipped bs at s.next
  skipped-head none = record {
    ends = λ x h. left_end bs at x s.next s.more (omega arith) (left-first bs at x s p h);
    after = omega (arith, p.on);
    close = omega (arith, p.near);
  }

  pub stepped-head : Stepped bs at s
  stepped-head = record {
    steps = λ from pending x more l. left_step bs from x at pending more s p l;
    on = p.on;
    near = omega (arith, p.near);
    few = p.few;
  }
