-- What a call gives back is the reply: the answer, and sheet, table and list of groups as it leaves them, of an engine's call (`Answers`) and, with the answer in words, of
-- an export (`Replies`; `in_words` leads from the one to the other). An engine that is lent an area of its own says of that too what becomes of it
-- (`AnswersLeaving`, `RepliesLeaving`).
use Rattle.std.specs.Prelude.{ℕ, List, ◌≡◌, ℤ}
use Rattle.std.proofs.Common.{ap, ◌∙◌}
use Rattle.language.specs.Numbers.{answer_words}
use Rattle.language.specs.Call.{Engine, Fed, reply, Leaves}
use Rattle.language.specs.declared.Answer.{Answer}

pub record Answers (e : Engine) (f : Fed) (answer : Answer) (sheet table groups : List ℤ) : Type 0 where
  pub answer-is : answer ≡ (reply e f).answer
  pub sheet-is : sheet ≡ (reply e f).lent.sheet
  pub table_is : table ≡ (reply e f).lent.table.words
  pub groups-are : groups ≡ (reply e f).lent.groups

pub record AnswersLeaving {A : Type 0} (e : Engine) (f : Fed) (answer : Answer) (sheet table groups : List ℤ) (before after : List A) : Type 0 where
  pub answers : Answers e f answer sheet table groups
  pub leaves : Leaves e f before after

pub record Replies (e : Engine) (f : Fed) (answer : List ℕ) (sheet table groups : List ℤ) : Type 0 where
  pub answer-is : answer ≡ answer_words (reply e f).answer
  pub sheet-is : sheet ≡ (reply e f).lent.sheet
  pub table_is : table ≡ (reply e f).lent.table.words
  pub groups-are : groups ≡ (reply e f).lent.groups

pub record RepliesLeaving {A : Type 0} (e : Engine) (f : Fed) (answer : List ℕ) (sheet table groups : List ℤ) (before after : List A) : Type 0 where
  pub replies : Replies e f answer sheet table groups
  pub leaves : Leaves e f before after

module _ {e : Engine} {f : Fed} {answer : Answer} {sheet table groups : List ℤ} {words : List ℕ} (written : words ≡ answer_words answer) where
  pub in_words : Answers e f answer sheet table groups → Replies e f words sheet table groups
  in_words r = record { answer-is = written ∙ ap answer_words r.answer-is; sheet-is = r.sheet-is; table_is = r.table_is; groups-are = r.groups-are }

  pub in-words-leaving : {A : Type 0} {before after : List A} → AnswersLeaving e f answer sheet table groups before after → RepliesLeaving e f words sheet table groups before after
  in-words-leaving r = record { replies = in_words r.answers; leaves = r.leaves }
