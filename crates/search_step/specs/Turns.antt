-- A step of the search engine, by what the statement comes to (`Acts`). For each move: the engine goes on (`went_on`, `answered-on`), or is ready to jump or
-- to enter (`jump-ready`, `enter-ready`), and stands after the step once it has (`jumped-on`, `entered_on`); a statement that stops leaves all as it was
-- (`stopped-at`). At the end of a text: `leave-ready`, `left-on`. The list stays beside the table (`left-keeps`, `jumped-keeps`, `entered-keeps`).
use Rattle.std.specs.Prelude.{ℕ, ◌+◌, ◌-◌, ◌≤◌, ◌<◌, List, refl, ℤ, get_or, Ok, Err}
use Rattle.std.proofs.Common.{arith, ◌∙◌}
use Rattle.std.proofs.Math.Path.{◌≡◌, sym, ap, subst}
use Rattle.std.proofs.Math.ListN.{length}
use Rattle.language.specs.declared.Stop.{Stop as Cause}
use Rattle.frames.specs.Frame.{frame_step, halted}
use Rattle.resolved.specs.Layout.{end_in}
use Rattle.run_moves.specs.declared.Move.{Move}
use Rattle.run_moves.specs.declared.Ask.{Ask}
use Rattle.run_moves.specs.declared.Move.TheVariants.{On, Table as Asks, Jump as Leap, Enter as Opens, Stop as Halt}
use Rattle.run_moves.specs.Acting.{Happened, answer, op_of}
use Rattle.table_pairs.specs.Outcomes.{Change}
use Rattle.steps.specs.Standing.{Standing}
use Rattle.steps.specs.Means.{GoesOn, EntersAt, AnswerMeans, MoveMeans}
use Rattle.steps.specs.Finding.{by_first, first_by_links, finds-by-links}
use Rattle.steps.specs.Acts.{acting-means}
use Rattle.steps.specs.Listed.{left-lists, jumped-lists, entered-lists}
use Rattle.table_laws.specs.Listing.{KeepsList}
use Rattle.run_state.specs.declared.Registers.{Registers}
use Rattle.run_state.specs.declared.Turn.{Turn}
use Rattle.run_state.specs.Limits.{limits_by, goes_to}
use Rattle.run_state.specs.Turns.{Stops}
use Rattle.steps.specs.Loop.{jumped}
use Rattle.run_records.specs.Resumed.{now_at}
use Rattle.run_records.specs.Ready as ready
use Rattle.run_statements.specs.Answers.{Answered, turn_after, done-goes, stopped-halts}
use Rattle.search_calls.specs.Passing.{steered}
use Rattle.search_moves.specs.Running.{Passers, Running, Succeeds}
use Rattle.search_moves.specs.Steering.{frames_after}
use Rattle.search_moves.specs.Going as going
use Rattle.search_moves.specs.Entry.{Enterable, EnteredIn}
use Rattle.search_moves.specs.Entering.{enterable, entered-to}
use Rattle.run_statements.specs.declared.moved.Moved.{Moved}
use Rattle.run_statements.specs.declared.moved.Moved.TheVariants.{Went, Table, Jump, Enter, Stop}
use Rattle.run_statements.specs.Moved.{moved_by}
use Rattle.search_step.specs.Acted.{Doing, from_by, passers_after, happening, Acts}
use Rattle.search_step.specs.Turning.{arrays_of, Turned}
use Rattle.search_step.specs.Entries.{enters-by, Steered, steered-entry}

-- Which move it was, from what the engine has of it

module _ (from : ℕ) where
  abbrev made : Move → Moved
  made m = moved_by (steered from m)

  on-made : (m : Move) {p : ℕ} → made m ≡ Went p → m ≡ On p
  unfolding moved_by steered
  on-made (On q) e = cc
  on-made (Asks q g m t a) e = let z : ◌≡◌ {A = ℕ} 0 1 = cc in absurd (omega arith)
  on-made (Leap h q) e = let z : ◌≡◌ {A = ℕ} 0 1 = cc in absurd (omega arith)
  on-made (Opens b h q) e = let z : ◌≡◌ {A = ℕ} 0 1 = cc in absurd (omega arith)
  on-made (Halt c) e = let z : ◌≡◌ {A = ℕ} 0 1 = cc in absurd (omega arith)

  asks-made : (m : Move) {p g k t : ℕ} {a : Ask} → made m ≡ Table p g k t a → m ≡ Asks p g k t a
  unfolding moved_by steered
  asks-made (On q) e = let z : ◌≡◌ {A = ℕ} 0 1 = cc in absurd (omega arith)
  asks-made (Asks q g m t a) e = cc
  asks-made (Leap h q) e = let z : ◌≡◌ {A = ℕ} 0 1 = cc in absurd (omega arith)
  asks-made (Opens b h q) e = let z : ◌≡◌ {A = ℕ} 0 1 = cc in absurd (omega arith)
  asks-made (Halt c) e = let z : ◌≡◌ {A = ℕ} 0 1 = cc in absurd (omega arith)

  jump-made : (m : Move) {p home : ℕ} → made m ≡ Jump p home → m ≡ Leap home p
  unfolding moved_by steered
  jump-made (On q) e = let z : ◌≡◌ {A = ℕ} 0 1 = cc in absurd (omega arith)
  jump-made (Asks q g m t a) e = let z : ◌≡◌ {A = ℕ} 0 1 = cc in absurd (omega arith)
  jump-made (Leap h q) e = cc
  jump-made (Opens b h q) e = let z : ◌≡◌ {A = ℕ} 0 1 = cc in absurd (omega arith)
  jump-made (Halt c) e = let z : ◌≡◌ {A = ℕ} 0 1 = cc in absurd (omega arith)

  enter-made : (m : Move) {body k back : ℕ} → made m ≡ Enter body k back → (link : ℕ) × (m ≡ Opens body link back) × (k ≡ from)
  unfolding moved_by steered
  enter-made (On q) e = let z : ◌≡◌ {A = ℕ} 0 1 = cc in absurd (omega arith)
  enter-made (Asks q g m t a) e = let z : ◌≡◌ {A = ℕ} 0 1 = cc in absurd (omega arith)
  enter-made (Leap h q) e = let z : ◌≡◌ {A = ℕ} 0 1 = cc in absurd (omega arith)
  enter-made (Opens b h q) e = (h, cc, cc)
  enter-made (Halt c) e = let z : ◌≡◌ {A = ℕ} 0 1 = cc in absurd (omega arith)

  stop-made : (m : Move) {c : Cause} → made m ≡ Stop c → m ≡ Halt c
  unfolding moved_by steered
  stop-made (On q) e = let z : ◌≡◌ {A = ℕ} 0 1 = cc in absurd (omega arith)
  stop-made (Asks q g m t a) e = let z : ◌≡◌ {A = ℕ} 0 1 = cc in absurd (omega arith)
  stop-made (Leap h q) e = let z : ◌≡◌ {A = ℕ} 0 1 = cc in absurd (omega arith)
  stop-made (Opens b h q) e = let z : ◌≡◌ {A = ℕ} 0 1 = cc in absurd (omega arith)
  stop-made (Halt c) e = cc

module _ {code numbers : List ℕ} {activations limit : ℕ} {cells : List ℤ} {passers blocks nexts froms : List ℕ} {table : List ℤ} {here : Registers}
    (w : Running code numbers activations limit cells passers blocks nexts froms table here) where
  abbrev st : Standing code (limits_by activations limit) cells blocks nexts w.links table here.pairs here.live here.at here.end
  st = w.standing

  pub doing : (here.at ≡ here.end → ⊥) → Doing code numbers cells passers blocks froms activations here.live here.at
  doing d = record { limit = limit; table = table; pairs = here.pairs; nexts = nexts; here = here; end = here.end; running = w; before = d }

  pub left-on : here.at ≡ here.end → 1 ≤ here.live → {r : Registers} → r ≡ now_at code blocks here (here.live - 1) (get_or nexts (here.live - 1) 0)
      → Succeeds w cells passers blocks nexts froms table r
  left-on e h q = subst (Succeeds w cells passers blocks nexts froms table) (sym q) (going.left-to w e h)

  pub left-keeps : here.at ≡ here.end → 1 ≤ here.live → {r : Registers} → r ≡ now_at code blocks here (here.live - 1) (get_or nexts (here.live - 1) 0)
      → (groups : List ℤ) → KeepsList limit table here.pairs groups table r.pairs groups
  left-keeps e h q groups = let s = left-on e h q in left-lists st s.running.standing s.follows groups e

  pub leave-ready : 1 ≤ here.live → (1 ≤ here.live) × (here.live ≤ 256) × (get_or blocks (here.live - 1) 0 + 1 < 4096)
  leave-ready = ready.leave-ready st

  stops : (c : Cause) {cells' : List ℤ} {passers' : List ℕ} {table' : List ℤ} → (frame_step (limits_by activations limit) st.stack ≡ halted c) × (cells' ≡ cells) × (table' ≡ table) → passers' ≡ passers
      → Stops (limits_by activations limit) st.stack c (arrays_of cells passers blocks nexts froms table) (arrays_of cells' passers' blocks nexts froms table')
  stops c m q = record { stops = m.0; same = λ i. arrays_of (m.1 i) (q i) blocks nexts froms (m.2 i) }

  module _ (before : here.at ≡ here.end → ⊥) {r : Moved} {cells' : List ℤ} {passers' : List ℕ}
      (acts : (d : Doing code numbers cells passers blocks froms activations here.live here.at) → Acts d r cells' passers') where
    unfoldable did : Acts (doing before) r cells' passers'
    did = acts (doing before)

    abbrev happened : Happened
    happened = happening (doing before)

    abbrev from : ℕ
    from = from_by code numbers passers blocks froms here.live here.at (op_of (get_or code here.at 0))

    means : MoveMeans st happened.move cells'
    unfolding doing did
    means = subst (MoveMeans st happened.move) (sym did.cells_are) (acting-means st (by_first cells (first_by_links st)) (finds-by-links st) before)

    means-as : (m : Move) → happened.move ≡ m → MoveMeans st m cells'
    means-as m e = subst (λ (x : Move). MoveMeans st x cells') e means

    passers-as : (m : Move) → happened.move ≡ m → passers' ≡ passers_after code numbers passers blocks froms here.live here.at (op_of (get_or code here.at 0)) m
    unfolding did
    passers-as m e = did.passers-are ∙ ap (passers_after code numbers passers blocks froms here.live here.at (op_of (get_or code here.at 0))) e

    was : {x : Moved} → r ≡ x → made from happened.move ≡ x
    unfolding did
    was e = sym did.move-is ∙ e

    goes : {p n : ℕ} {cells'' table'' : List ℤ} → passers' ≡ passers → GoesOn st cells'' table'' n p → Succeeds w cells'' passers' blocks nexts froms table'' (goes_to here here.live p here.end n)
    goes {p} {n} {cells''} {table''} q g = subst (λ (x : List ℕ). Succeeds w cells'' x blocks nexts froms table'' (goes_to here here.live p here.end n)) (sym q) (going.went_on w g)

    pub went_on : {p : ℕ} → r ≡ Went p → Succeeds w cells' passers' blocks nexts froms table (goes_to here here.live p here.end here.pairs)
    unfolding passers_after
    went_on {p} e = let m = on-made from happened.move (was e) in goes (passers-as (On p) m) (means-as (On p) m)

    -- The table is asked

    module _ {p g m t : ℕ} {a : Ask} (e : r ≡ Table p g m t a) where
      asks : happened.move ≡ Asks p g m t a
      asks = asks-made from happened.move (was e)

      same-passers : passers' ≡ passers
      unfolding passers_after
      same-passers = passers-as (Asks p g m t a) asks

      pub asked-there : (g < 8192) × ((m < 8192) × (t < 8192))
      asked-there = (means-as (Asks p g m t a) asks).2

      abbrev Told : Change → List ℤ → List ℤ → Type 0
      Told = Answered (answer limit cells' (record { words = table; used = here.pairs }) g m t a) table

      answered : AnswerMeans st p (answer limit cells' (record { words = table; used = here.pairs }) g m t a)
      answered =
          let k = means-as (Asks p g m t a) asks in
          subst (λ (v : List ℤ). AnswerMeans st p (answer limit v (record { words = table; used = here.pairs }) g m t a)) (sym k.1) k.0

      by-change : (c : Change) {cells'' table'' : List ℤ} → Told c cells'' table'' → Turned w (turn_after here p c) (arrays_of cells'' passers' blocks nexts froms table'')
      unfolding turn_after
      by-change (Ok n) {cells''} {table''} k = goes same-passers (done-goes st p _ answered (Ok n) cells'' table'' k n refl)
      by-change (Err c) {cells''} {table''} k = stops c (stopped-halts st p _ answered (Err c) cells'' table'' k c refl) same-passers

      pub answered-on : {c : Change} {cells'' table'' : List ℤ} → Told c cells'' table'' → {n : Turn} → n ≡ turn_after here p c → Turned w n (arrays_of cells'' passers' blocks nexts froms table'')
      answered-on {c} {cells''} {table''} k q = subst (λ (x : Turn). Turned w x (arrays_of cells'' passers' blocks nexts froms table'')) (sym q) (by-change c k)

    -- A jump

    module _ {home p : ℕ} (e : r ≡ Jump p home) where
      leaps : happened.move ≡ Leap home p
      leaps = jump-made from happened.move (was e)

      pub jump-ready : (home < 256) × (get_or blocks home 0 + 1 < 4096) × (home ≡ here.live → here.end ≡ end_in (get_or code (get_or blocks home 0 + 1) 0))
      jump-ready = ready.jump-ready st home (jumped st home p (means-as (Leap home p) leaps).0).home-high

      pub jumped-on : {n : Registers} → n ≡ now_at code blocks here home p → Succeeds w cells' passers' blocks nexts froms table n
      unfolding passers_after
      jumped-on {n} q =
          let m = means-as (Leap home p) leaps in
          subst (λ (T : Type 0). T) (λ i. Succeeds w (sym m.1 i) (sym (passers-as (Leap home p) leaps) i) blocks nexts froms table (sym q i)) (going.jumped-to w m.0)

      pub jumped-keeps : {n : Registers} → n ≡ now_at code blocks here home p → (groups : List ℤ) → KeepsList limit table here.pairs groups table n.pairs groups
      jumped-keeps q groups = let s = jumped-on q in jumped-lists st s.running.standing s.follows groups (means-as (Leap home p) leaps).0

    -- An entry

    module _ {body k back : ℕ} (e : r ≡ Enter body k back) where
      found : (link : ℕ) × (happened.move ≡ Opens body link back) × (k ≡ from)
      found = enter-made from happened.move (was e)

      opens : EntersAt st body found.0 back cells'
      opens = means-as (Opens body found.0 back) found.1

      steering : Steered w before opens
      unfolding doing
      steering = steered-entry w before opens (enters-by _ _ _ _ _ found.1)

      pub enter-ready : Enterable code here body k back
      enter-ready = enterable w opens (found.2 ∙ steering.from)

      pub entered_on : {cells'' : List ℤ} {blocks' nexts' froms' : List ℕ} {n : Registers} → EnteredIn code here body k back cells' blocks nexts froms cells'' blocks' nexts' froms' n
          → Succeeds w cells'' passers' blocks' nexts' froms' table n
      unfolding passers_after
      entered_on i =
          let q = passers-as (Opens body found.0 back) found.1 in
          entered-to w opens (found.2 ∙ steering.from) i (subst (Passers (frames_after w opens)) (sym q) steering.passed) (ap length q ∙ steering.as_long)

      pub entered-keeps : {cells'' : List ℤ} {blocks' nexts' froms' : List ℕ} {n : Registers} → EnteredIn code here body k back cells' blocks nexts froms cells'' blocks' nexts' froms' n
          → (groups : List ℤ) → KeepsList limit table here.pairs groups table n.pairs groups
      entered-keeps i groups = let s = entered_on i in entered-lists st s.running.standing s.follows groups opens

    pub stopped-at : {c : Cause} → r ≡ Stop c → Stops (limits_by activations limit) st.stack c (arrays_of cells passers blocks nexts froms table) (arrays_of cells' passers' blocks nexts froms table)
    unfolding passers_after
    stopped-at {c} e =
        let h = stop-made from happened.move (was e) in
        let m = means-as (Halt c) h in
        stops c (m.0, m.1, refl) (passers-as (Halt c) h)
