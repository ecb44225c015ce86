-- A call that is admitted, by any engine: what its run begins with, once the script is resolved (`call-begins`), and the list beside its table
-- (`call-lists`). Once the run has ended (`Ended` of crate `steps`): what its sheet needs (`sheet-needs`), and that answer, sheet, table and list are the
-- reply's (`run-replies`).
use Rattle.std.specs.Prelude.{ℕ, ◌*◌, ◌≤◌, List, ◌≡◌, ℤ, pos, length, drop, get_or, replicate}
use Rattle.std.proofs.Common.{arith, sym, ap, ◌∙◌, subst}
use Rattle.std.proofs.lemmas.List.{length-replicate, get_or-replicate}
use Rattle.language.specs.Text.{Block}
use Rattle.language.specs.Table.{Table}
use Rattle.language.specs.Groups.{list_words}
use Rattle.language.specs.Sheet.{sheet_share}
use Rattle.language.specs.Call.{Engine, Fed, Lent, limits_of, written, reply}
use Rattle.language.specs.declared.End.{End}
use Rattle.language.specs.declared.Answer.{Answer}
use Rattle.grammar.specs.Rules.{Bytes}
use Rattle.table_laws.specs.Listing.{Beside, beside-lent, beside-relisted}
use Rattle.runs.specs.Admission.{Admitted, limits-fit, table-right, list-fits, list_right_lem, list-lent, limit-fits, activations-fit}
use Rattle.runs.specs.Calls.{table-length}
use Rattle.frames.specs.Frame.{Frame, frame_replied, frame_run_of, frame_sheet}
use Rattle.coordinates.proofs.Sound.{accepted-keeps-rules}
use Rattle.resolved.specs.Resolved.{resolved_of, Covers}
use Rattle.steps.specs.Begun.{Begun}
use Rattle.steps.specs.Underway.{Ended}
use Rattle.call_answers.specs.Answers.{ran_answer}
use Rattle.call_answers.specs.Replies.{Answers}
use Rattle.run_sheet.specs.Held.{Held}
use Rattle.call_replies.specs.Replies.{ran-answer, ran-lent, result-held, room-for-sheet}

abbrev pub call-begins : {e : Engine} {f : Fed} → Bytes f.script → {t : Block} → Admitted e f t → {code : List ℕ} → Covers code 0 (resolved_of f.name t)
    → {cells : List ℤ} → cells ≡ replicate 8224 (pos 0) → Begun code cells f.lent.table.words f.lent.table.used f.limit f.activations
call-begins {f = f} bytes {t} h covers zero =
    let few = activations-fit f (limits-fit h) in
    record {
      program = t;
      name = f.name;
      keeps = accepted-keeps-rules f.script bytes t h.script;
      covers = covers;
      some-live = few.0;
      few-live = few.1;
      table-right = table-right h;
      cells-long = ap length zero ∙ length-replicate 8224 (pos 0);
      zeros = λ i p. ap (λ (ws : List ℤ). get_or ws i (pos 0)) zero ∙ get_or-replicate 8224 i (pos 0) (pos 0) (omega arith);
    }

pub call-lists : {e : Engine} {f : Fed} {t : Block} → Admitted e f t → Beside f.limit (drop (list_words f.lent.table) f.lent.groups) f.lent.table f.lent.groups
call-lists {f = f} h = beside-lent (list-lent f.lent.table f.lent.groups (list-fits h)) (limit-fits f (limits-fit h)) (table-right h) (list_right_lem h)

-- a list that stays beside the table is the reply's, once the table is
module _ {e : Engine} {f : Fed} (bytes : Bytes f.script) {t : Block} (h : Admitted e f t) where
  abbrev left : Table
  left = (frame_run_of f t).final.table

  left-long : length left.words ≡ length f.lent.table.words
  left-long = ap (λ (x : Lent). length x.table.words) (sym (ran-lent e f bytes t h)) ∙ table-length e f

  pub list-replies : {table groups : List ℤ} {pairs : ℕ} → table ≡ left.words → pairs ≡ left.used
      → ((past : List ℤ) → Beside f.limit past f.lent.table f.lent.groups → Beside f.limit past (record { words = table; used = pairs }) groups)
      → groups ≡ (reply e f).lent.groups
  list-replies {groups = groups} words used keeps =
      let past = drop (list_words f.lent.table) f.lent.groups in
      let b = subst (λ (T : Type 0). T) (λ i. Beside f.limit past (record { words = words i; used = used i }) groups) (keeps past (call-lists h)) in
      beside-relisted f.lent.table f.lent.groups left-long b ∙ sym (ap (λ (x : Lent). x.groups) (ran-lent e f bytes t h))

module _ {e : Engine} {f : Fed} (bytes : Bytes f.script) {t : Block} (h : Admitted e f t)
    {code : List ℕ} {cells : List ℤ} {blocks nexts links : List ℕ} {table : List ℤ} (covers : Covers code 0 (resolved_of f.name t))
    {end : End} {steps offset pairs live designator : ℕ}
    (ended : Ended t f.name (limits_of f) (frame_run_of f t) end steps offset pairs live designator cells blocks nexts links table) where
  held : Held code cells blocks nexts links (frame_run_of f t).final.frames
  held =
      result-held code cells blocks nexts links f.name t (limits_of f) (frame_run_of f t).final (accepted-keeps-rules f.script bytes t h.script) covers ended.sound ended.holds

  pub sheet-needs : ((fs : List Frame) × Held code cells blocks nexts links fs × (length fs ≡ live)) × (sheet_share * live ≤ length f.lent.sheet)
  sheet-needs = (
    (_, held, sym ended.live-is),
    subst (λ k. sheet_share * k ≤ length f.lent.sheet) (sym ended.live-is) (room-for-sheet h (frame_run_of f t).final ended.sound),
  )

  -- from the sheet that is written, the list that is kept, the links that are reported, and the answer
  pub run-replies : {sheet groups : List ℤ} {count followed : ℕ}
      → ((fs : List Frame) → Held code cells blocks nexts links fs → length fs ≡ live → (sheet ≡ written (frame_sheet fs) f.lent.sheet) × (count ≡ length (frame_sheet fs)))
      → ((past : List ℤ) → Beside f.limit past f.lent.table f.lent.groups → Beside f.limit past (record { words = table; used = pairs }) groups)
      → followed ≡ (frame_replied e f (frame_run_of f t)).answer.links
      → {answer : Answer} → answer ≡ ran_answer end steps offset pairs count f.tally designator followed → Answers e f answer sheet table groups
  run-replies is keeps l a =
      let w = is (frame_run_of f t).final.frames held (sym ended.live-is) in
      let lent = ran-lent e f bytes t h in
      let n : steps ≡ (frame_run_of f t).final.steps = omega (arith, ended.steps-are) in
      let q = ran-answer e f bytes t h _ _ _ _ _ _ _
      (record {
        end_is = ended.end_is;
        steps-are = n;
        offset-is = ended.offset-is;
        pairs-are = ended.pairs-are;
        sheet-is = w.1;
        designator-is = ended.designator-is;
        links-are = l;
      }) in
      record {
        answer-is = a ∙ q;
        sheet-is = w.0 ∙ sym (ap (λ (x : Lent). x.sheet) lent);
        table_is = ended.table_is ∙ sym (ap (λ (x : Lent). x.table.words) lent);
        groups-are = list-replies bytes h ended.table_is ended.pairs-are keeps;
      }
