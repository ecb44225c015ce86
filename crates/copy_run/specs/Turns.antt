-- A step of the copying engine, by what the statement comes to (`Came`). For each move: the engine goes on (`went_on`, `answered-on`), or may leave, jump or
-- enter (`leave-ready`, `jump-ready`, `enter-ready`) and stands after the step once it has (`left-on`, `jumped-on`, `entered_on`), or stops (`stopped-at`);
-- the list stays beside the table (`left-keeps`, `jumped-keeps`, `entered-keeps`).
use Rattle.std.specs.Prelude.{ℕ, suc, ◌+◌, ◌-◌, ◌*◌, ◌≤◌, ◌<◌, List, ◌≡◌, refl, ℤ, length, get_or, Ok, Err}
use Rattle.std.proofs.Common.{arith, mul-le-mul_right, sym, ap, ◌∙◌, subst}
use Rattle.language.specs.declared.Stop.{Stop as Cause}
use Rattle.frames.specs.Frame.{Frame, numbered, halted, frame_step}
use Rattle.run_moves.specs.declared.Move.{Move}
use Rattle.run_moves.specs.declared.Move.TheVariants.{On, Table as Asks, Jump, Enter, Stop}
use Rattle.run_moves.specs.declared.Ask.{Ask}
use Rattle.run_moves.specs.Acting.{Happened, answer}
use Rattle.table_pairs.specs.Outcomes.{Change}
use Rattle.resolved.specs.Layout.{end_in}
use Rattle.run_statements.specs.Answers.{Answered, turn_after, done-goes, stopped-halts}
use Rattle.steps.specs.Means.{GoesOn, JumpsTo, EntersAt, AnswerMeans, MoveMeans}
use Rattle.steps.specs.Here.{within-activations}
use Rattle.steps.specs.Loop.{leaves, jumped}
use Rattle.steps.specs.Listed.{left-lists, jumped-lists, entered-lists}
use Rattle.table_laws.specs.Listing.{KeepsList}
use Rattle.run_statements.specs.declared.moved.Moved.{Moved}
use Rattle.run_statements.specs.declared.moved.Moved.TheVariants.{Went, Jump as JumpTo, Enter as EnterBy, Stop as StopFor, Table as AskBy}
use Rattle.copy_statements.specs.Doing.{doing}
use Rattle.run_statements.specs.Moved.{moved_by}
use Rattle.copy_statements.specs.Moved.{Came}
use Rattle.run_state.specs.declared.Registers.{Registers}
use Rattle.run_state.specs.declared.Turn.{Turn}
use Rattle.run_state.specs.Limits.{limits_by, goes_to}
use Rattle.run_records.specs.Resumed.{now_at}
use Rattle.run_records.specs.Ready as ready
use Rattle.copy_moves.specs.Running.{Running, Succeeds}
use Rattle.copy_entry.specs.Anew.{Enterable, AnewIn}
use Rattle.copy_moves.specs.Going.{goes_on}
use Rattle.run_state.specs.Turns.{Stops}
use Rattle.copy_run.specs.Turning.{arrays_of, Turned}
use Rattle.copy_run.specs.Words.{copy_of, scene_in}
use Rattle.copy_run.specs.Here.{means-here}
use Rattle.copy_run.specs.Entering.{enterable, enters_on}

module _ {code names : List ℕ} {activations limit : ℕ} {cells : List ℤ} {area : List ℕ} {width : ℕ} {blocks nexts links firsts starts targets looked : List ℕ} {table : List ℤ} {here : Registers}
    (w : Running code names activations limit cells area width blocks nexts links firsts starts targets looked table here) where
  abbrev fs : List Frame
  fs = w.standing.stack.frames

  -- The end of the text

  pub leave-ready : 1 ≤ here.live → (1 ≤ here.live) × (here.live ≤ 256) × (get_or blocks (here.live - 1) 0 + 1 < 4096)
  leave-ready h = ready.leave-ready w.standing h

  pub left-on : here.at ≡ here.end → 1 ≤ here.live → (r : Registers) → r ≡ now_at code blocks here (here.live - 1) (get_or nexts (here.live - 1) 0)
      → Succeeds w cells area blocks nexts links firsts starts targets looked table r
  left-on e h r is =
      let l = leaves w.standing e h in
      let one : suc (here.live - 1) ≡ here.live = omega arith in
      let ends = ready.end-found w.standing (here.live - 1) l.frame (ap (numbered fs) one ∙ l.stands) in
      subst (λ (n : Registers). Succeeds w cells area blocks nexts links firsts starts targets looked table n)
      ((λ i. goes_to here (here.live - 1) (get_or nexts (here.live - 1) 0) (sym ends i) here.pairs) ∙ sym is)
      (goes_on w l.standing l.follows (omega arith) (λ k p. (refl, refl)))

  pub left-keeps : here.at ≡ here.end → 1 ≤ here.live → (r : Registers) → r ≡ now_at code blocks here (here.live - 1) (get_or nexts (here.live - 1) 0)
      → (groups : List ℤ) → KeepsList limit table here.pairs groups table r.pairs groups
  left-keeps e h r is groups = let s = left-on e h r is in left-lists w.standing s.running.standing s.follows groups e

  -- The next statement

  pub base-within : here.live * width ≤ length area
  base-within = omega (arith, w.room, mul-le-mul_right width (within-activations w.standing))

  -- what the move says, as the engine goes on by it
  abbrev MovedMeans : Moved → List ℤ → Type 0
  MovedMeans (Went p) cells' = MoveMeans w.standing (On p) cells'
  MovedMeans (JumpTo p home) cells' = MoveMeans w.standing (Jump home p) cells'
  MovedMeans (EnterBy body link back) cells' = MoveMeans w.standing (Enter body link back) cells'
  MovedMeans (StopFor c) cells' = MoveMeans w.standing (Stop c) cells'
  MovedMeans (AskBy p g m t a) cells' = MoveMeans w.standing (Asks p g m t a) cells'

  moved-means : (m : Move) (cells' : List ℤ) → MoveMeans w.standing m cells' → MovedMeans (moved_by m) cells'
  unfolding moved_by
  moved-means (On p) cells' z = z
  moved-means (Asks p g m t a) cells' z = z
  moved-means (Jump home p) cells' z = z
  moved-means (Enter body link back) cells' z = z
  moved-means (Stop c) cells' z = z

  goes : (p n : ℕ) (cells' table' : List ℤ) → GoesOn w.standing cells' table' n p
      → Succeeds w cells' area blocks nexts links firsts starts targets looked table' (goes_to here here.live p here.end n)
  goes p n cells' table' g = goes_on w g.standing g.follows (omega arith) (λ k q. (refl, refl))

  stops : (c : Cause) (cells' table' : List ℤ) → (frame_step (limits_by activations limit) w.standing.stack ≡ halted c) × (cells' ≡ cells) × (table' ≡ table)
      → Stops (limits_by activations limit) w.standing.stack c (arrays_of cells area blocks nexts links firsts starts targets looked table)
      (arrays_of cells' area blocks nexts links firsts starts targets looked table')
  stops c cells' table' m = record { stops = m.0; same = λ i. arrays_of (m.1 i) area blocks nexts links firsts starts targets looked (m.2 i) }

  module _ (before : here.at ≡ here.end → ⊥) {r : Moved} {cells' : List ℤ} (h : Came (doing (copy_of w) (scene_in w)) r cells') where
    abbrev result : Happened
    result = doing (copy_of w) (scene_in w)

    means : MovedMeans r cells'
    means =
        subst (λ (T : Type 0). T) (λ i. MovedMeans (sym h.0 i) (sym h.1 i)) (moved-means result.move result.cells (means-here w before))

    means-as : {m : Moved} → r ≡ m → MovedMeans m cells'
    means-as e = subst (λ (x : Moved). MovedMeans x cells') e means

    pub went_on : {p : ℕ} → r ≡ Went p
        → Succeeds w cells' area blocks nexts links firsts starts targets looked table
        (goes_to here here.live p here.end here.pairs)
    went_on {p} e = goes p here.pairs cells' table (means-as e)

    -- The table is asked

    module _ {p g m t : ℕ} {a : Ask} (e : r ≡ AskBy p g m t a) where
      pub asked-there : (g < 8192) × ((m < 8192) × (t < 8192))
      asked-there = (means-as e).2

      abbrev Told : Change → List ℤ → List ℤ → Type 0
      Told = Answered (answer limit cells' (record { words = table; used = here.pairs }) g m t a) table

      answered : AnswerMeans w.standing p (answer limit cells' (record { words = table; used = here.pairs }) g m t a)
      answered =
          let k = means-as e in
          subst (λ (v : List ℤ). AnswerMeans w.standing p (answer limit v (record { words = table; used = here.pairs }) g m t a)) (sym k.1) k.0

      by-change : (c : Change) (cells'' table'' : List ℤ) → Told c cells'' table''
          → Turned w (turn_after here p c) cells'' area blocks nexts links firsts starts targets looked table''
      unfolding turn_after
      by-change (Ok n) cells'' table'' k = goes p n cells'' table'' (done-goes w.standing p _ answered (Ok n) cells'' table'' k n refl)
      by-change (Err c) cells'' table'' k = stops c cells'' table'' (stopped-halts w.standing p _ answered (Err c) cells'' table'' k c refl)

      pub answered-on : {c : Change} {cells'' table'' : List ℤ} → Told c cells'' table'' → {n : Turn} → n ≡ turn_after here p c
          → Turned w n cells'' area blocks nexts links firsts starts targets looked table''
      answered-on {c} {cells''} {table''} k q =
          subst (λ (x : Turn). Turned w x cells'' area blocks nexts links firsts starts targets looked table'') (sym q) (by-change c cells'' table'' k)

    -- A jump

    jumps : {home p : ℕ} → r ≡ JumpTo p home → JumpsTo w.standing home p
    jumps e = (means-as e).0

    pub jump-ready : {home p : ℕ} → r ≡ JumpTo p home
        → (home < 256) × (get_or blocks home 0 + 1 < 4096) × (home ≡ here.live → here.end ≡ end_in (get_or code (get_or blocks home 0 + 1) 0))
    jump-ready {home} {p} e = ready.jump-ready w.standing home (jumped w.standing home p (jumps e)).home-high

    pub jumped-on : {home p : ℕ} → r ≡ JumpTo p home → {n : Registers} → n ≡ now_at code blocks here home p
        → Succeeds w cells' area blocks nexts links firsts starts targets looked table n
    jumped-on {home} {p} e {n} is =
        let m = means-as e in
        let l = jumped w.standing home p m.0 in
        let ends = ready.end-found w.standing home l.frame l.stands in
        subst (λ (v : List ℤ). Succeeds w v area blocks nexts links firsts starts targets looked table n) (sym m.1)
        (subst (λ (v : Registers). Succeeds w cells area blocks nexts links firsts starts targets looked table v)
        ((λ i. goes_to here home p (sym ends i) here.pairs) ∙ sym is)
        (goes_on w l.standing l.follows l.home-high (λ k q. (refl, refl))))

    pub jumped-keeps : {home p : ℕ} → r ≡ JumpTo p home → {n : Registers} → n ≡ now_at code blocks here home p
        → (groups : List ℤ) → KeepsList limit table here.pairs groups table n.pairs groups
    jumped-keeps e is groups = let s = jumped-on e is in jumped-lists w.standing s.running.standing s.follows groups (jumps e)

    -- An entry

    enters : {body link back : ℕ} → r ≡ EnterBy body link back → EntersAt w.standing body link back cells'
    enters e = means-as e

    pub enter-ready : here.fresh + 32 * 1 + 32 ≤ 4294967296 → {body link back : ℕ} → r ≡ EnterBy body link back → Enterable code names area width here body link back
    enter-ready few {body} {link} {back} e = enterable w body link back cells' (enters e) (omega arith)

    pub entered_on : {body link back : ℕ} → r ≡ EnterBy body link back → {cells'' : List ℤ} {area' blocks' nexts' links' firsts' starts' targets' looked' : List ℕ} {n : Registers}
        → AnewIn code names width here body link back cells' area blocks nexts links firsts starts targets looked cells'' area' blocks' nexts' links' firsts' starts' targets' looked' n
        → Succeeds w cells'' area' blocks' nexts' links' firsts' starts' targets' looked' table n
    entered_on {body} {link} {back} e {cells''} {area'} {blocks'} {nexts'} {links'} {firsts'} {starts'} {targets'} {looked'} {n} k =
        enters_on w body link back cells' (enters e) cells'' area' blocks' nexts' links' firsts' starts' targets' looked' n k

    pub entered-keeps : {body link back : ℕ} → r ≡ EnterBy body link back → {cells'' : List ℤ} {area' blocks' nexts' links' firsts' starts' targets' looked' : List ℕ} {n : Registers}
        → AnewIn code names width here body link back cells' area blocks nexts links firsts starts targets looked cells'' area' blocks' nexts' links' firsts' starts' targets' looked' n
        → (groups : List ℤ) → KeepsList limit table here.pairs groups table n.pairs groups
    entered-keeps e k groups = let s = entered_on e k in entered-lists w.standing s.running.standing s.follows groups (enters e)

    -- A cause to stop

    pub stopped-at : {c : Cause} → r ≡ StopFor c
        → Stops (limits_by activations limit) w.standing.stack c (arrays_of cells area blocks nexts links firsts starts targets looked table)
        (arrays_of cells' area blocks nexts links firsts starts targets looked table)
    stopped-at {c} e = let m = means-as e in stops c cells' table (m.0, m.1, refl)
