-- The whole call `reply e f`: what a refusal leaves, and that sheet, table and list keep their lengths in every case. The theorems: `due-reply`,
-- `admitted-reply`, `refused-due`, `refused-untouched`, `table-length`, `sheet-length`, `list_length` and `reported`; `answered-same` is for another
-- machine's whole call.
use Rattle.std.specs.Prelude.{ℕ, ◌+◌, ◌*◌, ◌/◌, ◌≤◌, ◌≢◌, ◌≡◌, refl, true, List, ℤ, pos, take, drop}
use Rattle.std.proofs.Common.{zero-le, add-zero, arith, sym, ◌∙◌, subst, length-append, length-drop}
use Rattle.std.proofs.Math.Path.{ap}
use Rattle.std.proofs.Math.ListN.{length}
use Rattle.std.proofs.Math.Seq.{drop-append_seam}
use Rattle.language.specs.Text.{Block}
use Rattle.language.specs.Check.{Checked, accepted, refused, check}
use Rattle.language.specs.Table.{Table, size, right}
use Rattle.language.specs.Groups.{list_words, list_fits, list_right, number_of, relisted}
use Rattle.table_laws.specs.Rightness.{right-means, right-numbers}
use Rattle.table_laws.specs.RightLists.{reads-count, relisted-right, relisted-past, relisted-length}
use Rattle.language.specs.Machine.{run, start, enter}
use Rattle.language.specs.Sheet.{sheet_share, sheet_words, looked_up_designator}
use Rattle.language.specs.Call.{Engine, Fed, Reply, limits_of, admission, turned_away, written, replied, run_of, reply}
use Rattle.language.specs.declared.Refusal.{Refusal}
use Rattle.language.specs.declared.End.TheVariants.{Refused}
use Rattle.runs.specs.Steps.{steps-at-most, never-refused}
use Rattle.runs.specs.Tables.{run-right}
use Rattle.runs.specs.Bounds.{words-kept, start-bound}
use Rattle.runs.specs.Names.{FitsState, run_fits, start_fits}
use Rattle.runs.specs.Accepted.{accepted-fits}
use Rattle.runs.specs.Designators.{looked_up-most}
use Rattle.runs.specs.SheetWords.{sheet-words-most}
use Rattle.runs.specs.Admission.{Due, Admitted, admission-cases, due-refused, admitted-accepted, limits-fit, sheet-fits, list-fits, table-right, activations-fit, sheet-lent, list-lent}

-- what a call answers that runs an admitted program by `ran`
abbrev pub answered : Fed → (Block → Reply) → Checked → Reply
answered f ran k = elim k as (λ x. Reply) [ refused c o ↦ turned_away f c o | accepted t ↦ ran t ]

-- Whatever comes of an admitted program: the call is refused or run, each on its cause.
module _ (e : Engine) (f : Fed) (ran : Block → Reply) where
  pub due-answered : {c : Refusal} {o : ℕ} → Due e f c o → answered f ran (admission e f) ≡ turned_away f c o
  due-answered h = ap (answered f ran) (due-refused e f h)

  pub admitted-answered : (t : Block) → Admitted e f t → answered f ran (admission e f) ≡ ran t
  admitted-answered t h = ap (answered f ran) (admitted-accepted e f h)

-- calls that run every accepted program alike are alike
pub answered-same : (e : Engine) (f : Fed) (ran ran' : Block → Reply) → ((t : Block) → check f.script ≡ accepted t → ran t ≡ ran' t) → answered f ran (admission e f) ≡ answered f ran' (admission e f)
answered-same e f ran ran' same =
    admission-cases e f (λ c o h. due-answered e f ran h ∙ sym (due-answered e f ran' h)) (λ t h. admitted-answered e f ran t h ∙ same t h.script ∙ sym (admitted-answered e f ran' t h))

-- The two kinds of reply, each on its cause.
pub due-reply : (e : Engine) (f : Fed) {c : Refusal} {o : ℕ} → Due e f c o → reply e f ≡ turned_away f c o
unfolding reply
due-reply e f h = due-answered e f (λ t. replied e f (run_of f t)) h

pub admitted-reply : (e : Engine) (f : Fed) (t : Block) → Admitted e f t → reply e f ≡ replied e f (run_of f t)
unfolding reply
admitted-reply e f t h = admitted-answered e f (λ t'. replied e f (run_of f t')) t h

-- A property of every reply, from the two kinds there are.
pub reply-cases : (P : Reply → Type 0) (e : Engine) (f : Fed) → ((c : Refusal) (o : ℕ) → Due e f c o → P (turned_away f c o)) → ((t : Block) → Admitted e f t → P (replied e f (run_of f t))) → P (reply e f)
reply-cases P e f away runs = admission-cases e f (λ c o h. subst P (sym (due-reply e f h)) (away c o h)) (λ t h. subst P (sym (admitted-reply e f t h)) (runs t h))

-- What a refusal comes to.
pub record Untouched (f : Fed) (r : Reply) : Type 0 where
  pub lent : r.lent ≡ f.lent
  pub steps : r.answer.steps ≡ 0
  pub pairs : r.answer.pairs ≡ f.lent.table.used
  pub words : r.answer.sheet ≡ 0
  pub tally : r.answer.tally ≡ f.tally
  pub designator : r.answer.designator ≡ 0
  pub links : r.answer.links ≡ 0

away-untouched : (f : Fed) (c : Refusal) (o : ℕ) → Untouched f (turned_away f c o)
unfolding turned_away
away-untouched f c o = record { lent = refl; steps = refl; pairs = refl; words = refl; tally = refl; designator = refl; links = refl }

away-end : (f : Fed) (c : Refusal) (o : ℕ) → ((turned_away f c o).answer.end ≡ Refused c) × ((turned_away f c o).answer.offset ≡ o)
unfolding turned_away
away-end f c o = (refl, refl)

run_end : (e : Engine) (f : Fed) (t : Block) (c : Refusal) → (replied e f (run_of f t)).answer.end ≢ Refused c
unfolding replied run_of
run_end e f t c = never-refused (limits_of f) f.allowance (start t f.lent.table) c

-- a reply that says refused is due with its offset, and leaves everything
pub refused-due : (e : Engine) (f : Fed) (c : Refusal) → (reply e f).answer.end ≡ Refused c → Due e f c (reply e f).answer.offset
refused-due e f c = reply-cases (λ r. r.answer.end ≡ Refused c → Due e f c r.answer.offset) e f away (λ t h q. absurd (run_end e f t c q))
  where
    same : (d : Refusal) → Refused d ≡ Refused c → d ≡ c
    same d q = cc

    away : (d : Refusal) (o : ℕ) → Due e f d o → (turned_away f d o).answer.end ≡ Refused c → Due e f c (turned_away f d o).answer.offset
    away d o h q = subst (λ x. Due e f x (turned_away f d o).answer.offset) (same d (sym (away-end f d o).0 ∙ q)) (subst (Due e f d) (sym (away-end f d o).1) h)

pub refused-untouched : (e : Engine) (f : Fed) (c : Refusal) → (reply e f).answer.end ≡ Refused c → Untouched f (reply e f)
refused-untouched e f c = reply-cases (λ r. r.answer.end ≡ Refused c → Untouched f r) e f (λ d o h q. away-untouched f d o) (λ t h q. absurd (run_end e f t c q))

-- Table and sheet keep their lengths.
start-table : (t : Block) (tb : Table) → (start t tb).table ≡ tb
unfolding start enter
start-table t tb = refl

pub start-steps : (t : Block) (tb : Table) → (start t tb).steps ≡ 0
unfolding start enter
start-steps t tb = refl

ran-table : (e : Engine) (f : Fed) (t : Block) → length (replied e f (run_of f t)).lent.table.words ≡ length f.lent.table.words
unfolding replied run_of
ran-table e f t = words-kept (limits_of f) f.allowance (start t f.lent.table) ∙ ap (λ x. length x.words) (start-table t f.lent.table)

pub table-length : (e : Engine) (f : Fed) → length (reply e f).lent.table.words ≡ length f.lent.table.words
table-length e f = reply-cases (λ r. length r.lent.table.words ≡ length f.lent.table.words) e f (λ c o h. ap (λ l. length l.table.words) (away-untouched f c o).lent) (λ t h. ran-table e f t)

-- every activation left by the run has at most 32 names, and at most D are live
left-fits : {e : Engine} {f : Fed} (t : Block) → Admitted e f t → FitsState (run_of f t).final × (length (run_of f t).final.live ≤ f.activations)
unfolding run_of
left-fits {e} {f} t h =
    (run_fits (limits_of f) f.allowance (start t f.lent.table) (start_fits t f.lent.table (accepted-fits f.script t h.script)), start-bound (limits_of f) f.allowance t f.lent.table (activations-fit f (limits-fit h)).0)

-- the words written fit the sheet: each of at most D activations has at most its share
words-fit : {e : Engine} {f : Fed} (t : Block) → Admitted e f t → length (sheet_words (run_of f t).final) ≤ f.activations * sheet_share
words-fit {e} {f} t h = let q = left-fits t h in omega (arith, q.1, sheet-words-most (run_of f t).final q.0)

designator-fits : {e : Engine} {f : Fed} (t : Block) → Admitted e f t → looked_up_designator (run_of f t).final f.name ≤ f.activations * 64 + 32
designator-fits {e} {f} t h = let q = left-fits t h in omega (arith, q.1, looked_up-most (run_of f t).final f.name q.0)

ran-sheet : (e : Engine) (f : Fed) (t : Block) → Admitted e f t → length (replied e f (run_of f t)).lent.sheet ≡ length f.lent.sheet
unfolding replied written
ran-sheet e f t h =
    let ws = sheet_words (run_of f t).final in
    omega (arith, length-append ws (drop (length ws) f.lent.sheet), length-drop (length ws) f.lent.sheet, words-fit t h, sheet-lent f (sheet-fits h))

pub sheet-length : (e : Engine) (f : Fed) → length (reply e f).lent.sheet ≡ length f.lent.sheet
sheet-length e f = reply-cases (λ r. length r.lent.sheet ≡ length f.lent.sheet) e f (λ c o h. ap (λ l. length l.sheet) (away-untouched f c o).lent) (λ t h. ran-sheet e f t h)

-- whatever number is asked, the list says what counting says
abbrev pub ListCounts : Table → List ℤ → Type 0
ListCounts t ws = (z : ℤ) → number_of z (take (list_words t) ws) ≡ pos (size z t)

right-counts : (limit : ℕ) (t : Table) (ws : List ℤ) → right limit t ≡ true → list_words t ≤ length ws → list_right t ws ≡ true → ListCounts t ws
right-counts limit t ws r = reads-count t (right-means limit t r).fits (right-numbers limit t r) ws

-- the table that a run leaves, and its list
module _ {e : Engine} {f : Fed} (t : Block) (h : Admitted e f t) where
  left : Table
  left = (run (limits_of f) f.allowance (start t f.lent.table)).final.table

  left-right : right f.limit left ≡ true
  unfolding left
  left-right = run-right (limits_of f) f.allowance (start t f.lent.table) (ap (right f.limit) (start-table t f.lent.table) ∙ table-right h)

  left-long : length left.words ≡ length f.lent.table.words
  unfolding left
  left-long = words-kept (limits_of f) f.allowance (start t f.lent.table) ∙ ap (λ x. length x.words) (start-table t f.lent.table)

  words-needed : list_words left ≡ list_words f.lent.table
  unfolding list_words
  words-needed = ap (λ n. 2 * (n / 2)) left-long

  list-long : list_words left ≤ length f.lent.groups
  list-long = omega (arith, words-needed, list-lent f.lent.table f.lent.groups (list-fits h))

  left-listed : list_right left (relisted left f.lent.groups) ≡ true
  left-listed = relisted-right left (right-means f.limit left left-right).fits (right-numbers f.limit left left-right) f.lent.groups list-long

  left-past : drop (list_words f.lent.table) (relisted left f.lent.groups) ≡ drop (list_words f.lent.table) f.lent.groups
  left-past =
      subst (λ n. drop n (relisted left f.lent.groups) ≡ drop n f.lent.groups) words-needed
      (relisted-past left (right-means f.limit left left-right).fits (right-numbers f.limit left left-right) f.lent.groups list-long)

  left-list-length : length (relisted left f.lent.groups) ≡ length f.lent.groups
  left-list-length = relisted-length left (right-means f.limit left left-right).fits (right-numbers f.limit left left-right) f.lent.groups list-long

  left-counts : ListCounts left (relisted left f.lent.groups)
  left-counts = right-counts f.limit left (relisted left f.lent.groups) left-right (omega (arith, left-list-length, list-long)) left-listed

ran-list : (e : Engine) (f : Fed) (t : Block) → Admitted e f t → length (replied e f (run_of f t)).lent.groups ≡ length f.lent.groups
unfolding replied run_of left
ran-list e f t h = left-list-length t h

pub list_length : (e : Engine) (f : Fed) → length (reply e f).lent.groups ≡ length f.lent.groups
list_length e f = reply-cases (λ r. length r.lent.groups ≡ length f.lent.groups) e f (λ c o h. ap (λ l. length l.groups) (away-untouched f c o).lent) (λ t h. ran-list e f t h)

-- What the answer reports, in every case. (The links are at most 15 where the script is of bytes: `links-most` of coordinates.)
pub record Reported (f : Fed) (r : Reply) : Type 0 where
  pub steps : r.answer.steps ≤ f.allowance
  pub tally : r.answer.tally ≡ f.tally + r.answer.steps
  pub pairs : r.answer.pairs ≡ r.lent.table.used
  pub words : r.answer.sheet ≤ f.activations * sheet_share
  pub designator : r.answer.designator ≤ f.activations * 64 + 32
  -- what lies past the sheet is as it was
  pub past : drop r.answer.sheet r.lent.sheet ≡ drop r.answer.sheet f.lent.sheet
  -- a right table comes back right
  pub table : right f.limit f.lent.table ≡ true → right f.limit r.lent.table ≡ true
  -- where table and list are right, the list that comes back is that of the table that comes back
  pub list : right f.limit f.lent.table ≡ true → list_fits f.lent.table f.lent.groups ≡ true → list_right f.lent.table f.lent.groups ≡ true → list_right r.lent.table r.lent.groups ≡ true
  -- so of every number it says what a full count of that table says
  pub list_counts : right f.limit f.lent.table ≡ true → list_fits f.lent.table f.lent.groups ≡ true → list_right f.lent.table f.lent.groups ≡ true → ListCounts r.lent.table r.lent.groups
  -- past it all is as it was
  pub past-list : drop (list_words f.lent.table) r.lent.groups ≡ drop (list_words f.lent.table) f.lent.groups

away-reported : (f : Fed) (c : Refusal) (o : ℕ) → Reported f (turned_away f c o)
unfolding turned_away
away-reported f c o = record { steps = zero-le; tally = sym (add-zero f.tally); pairs = refl; words = zero-le; designator = zero-le; past = refl; table = λ h. h; list = λ a b c. c; list_counts = λ a b c. right-counts f.limit f.lent.table f.lent.groups a (list-lent f.lent.table f.lent.groups b) c; past-list = refl }

ran-reported : (e : Engine) (f : Fed) (t : Block) → Admitted e f t → Reported f (replied e f (run_of f t))
unfolding replied written run_of left
ran-reported e f t h =
    let n = f.allowance in
    let u = f.lent.table in
    let s = start t u in
    let ws = sheet_words (run (limits_of f) n s).final in
    record { steps = omega (arith, steps-at-most (limits_of f) n s, start-steps t u); tally = refl; pairs = refl; words = words-fit t h; designator = designator-fits t h; past = drop-append_seam ws (drop (length ws) f.lent.sheet); table = λ r. run-right (limits_of f) n s (ap (right f.limit) (start-table t u) ∙ r); list = λ a b c. left-listed t h; list_counts = λ a b c. left-counts t h; past-list = left-past t h }

pub reported : (e : Engine) (f : Fed) → Reported f (reply e f)
reported e f = reply-cases (Reported f) e f (λ c o h. away-reported f c o) (λ t h. ran-reported e f t h)
