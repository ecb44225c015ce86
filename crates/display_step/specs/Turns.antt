-- A step of the display engine, by what the statement comes to (`Done`): `act-means`. For each move: the engine goes on (`went_on`, `answered-on`), or
-- is ready to jump or to enter (`jump-ready`, `enter-ready`), and stands after the step once it has (`jumped-on`, `entered_on`);
-- the list stays beside the table (`left-keeps`, `jumped-keeps`, `entered-keeps`).
use Rattle.std.specs.Prelude.{ℕ, ◌≤◌, ◌<◌, ◌≡◌, refl, ℤ, Ok, Err}
use mathlib.Core.List.{List}
use Rattle.std.proofs.Common.{sym, ap, ◌∙◌}
use Rattle.std.proofs.Math.Path.{subst}
use Rattle.frames.specs.Frame.{numbered, frame_step, halted}
use Rattle.run_moves.specs.declared.Move.{Move}
use Rattle.run_moves.specs.declared.Ask.{Ask}
use Rattle.run_moves.specs.declared.Move.TheVariants.{On, Table as Asks, Jump, Enter, Stop}
use Rattle.run_moves.specs.Acting.{scene_by, Happened, acting, answer}
use Rattle.table_pairs.specs.Outcomes.{Change}
use Rattle.steps.specs.Means.{GoesOn, AnswerMeans, MoveMeans}
use Rattle.steps.specs.Finding.{finds-by-display}
use Rattle.steps.specs.Acts.{acting-means}
use Rattle.steps.specs.Listed.{left-lists, jumped-lists, entered-lists}
use Rattle.table_laws.specs.Listing.{KeepsList}
use Rattle.language.specs.declared.Stop.{Stop as Cause}
use Rattle.run_state.specs.declared.Registers.{Registers}
use Rattle.run_state.specs.declared.Turn.{Turn}
use Rattle.run_state.specs.Limits.{limits_by, goes_to}
use Rattle.display_step.specs.Finding.{by_display}
use Rattle.display_step.specs.Turning.{arrays_of, Turned}
use Rattle.run_state.specs.Turns.{Stops}
use Rattle.display_moves.specs.Running.{Running, Doing, Succeeds, LeaveReady, JumpReady, EnterReady}
use Rattle.run_statements.specs.Scenes.{Done}
use Rattle.run_statements.specs.Answers.{Answered, turn_after, done-goes, stopped-halts}

module _ {code : List ℕ} {activations limit : ℕ} {cells : List ℤ} {blocks nexts links display : List ℕ} {table : List ℤ} {here : Registers}
    (w : Running code activations limit cells blocks nexts links display table here) where
  pub leave-ready : here.at ≡ here.end → 1 ≤ here.live → LeaveReady code blocks nexts links display here
  leave-ready e h = record { activations = activations; limit = limit; cells = cells; table = table; running = w; ended = e; above = h }

  pub left-on : (e : here.at ≡ here.end) (h : 1 ≤ here.live) (display' : List ℕ) (r : Registers)
      → ((v : LeaveReady code blocks nexts links display here) → Succeeds v.running v.cells blocks nexts links display' v.table r)
      → Succeeds w cells blocks nexts links display' table r
  unfolding leave-ready
  left-on e h display' r k = k (leave-ready e h)

  pub left-keeps : (e : here.at ≡ here.end) (h : 1 ≤ here.live) (display' : List ℕ) (r : Registers)
      → ((v : LeaveReady code blocks nexts links display here) → Succeeds v.running v.cells blocks nexts links display' v.table r)
      → (groups : List ℤ) → KeepsList limit table here.pairs groups table r.pairs groups
  left-keeps e h display' r k groups = let s = left-on e h display' r k in left-lists w.standing s.running.standing s.follows groups e

  pub doing : (here.at ≡ here.end → ⊥) → Doing code cells display activations here.live here.at
  doing d =
      record { limit = limit; table = table; pairs = here.pairs; blocks = blocks; nexts = nexts; links = links; here = here; end = here.end; running = w; before = d }

  abbrev result : Happened
  result = acting (by_display cells display) (scene_by code cells activations here.live here.at)

  goes : (p n : ℕ) (cells' table' : List ℤ) → GoesOn w.standing cells' table' n p
      → Succeeds w cells' blocks nexts links display table' (goes_to here here.live p here.end n)
  goes p n cells' table' g =
      record {
        running = record {
          standing = g.standing;
          shows = λ j m q. w.shows j m (ap (λ (ms : List ℕ). numbered ms j) (sym g.same-display) ∙ q);
          display-long = w.display-long;
        };
        follows = g.follows;
      }

  stops : (c : Cause) (cells' table' : List ℤ) → (frame_step (limits_by activations limit) w.standing.stack ≡ halted c) × (cells' ≡ cells) × (table' ≡ table)
      → Stops (limits_by activations limit) w.standing.stack c (arrays_of cells blocks nexts links display table) (arrays_of cells' blocks nexts links display table')
  stops c cells' table' m = record { stops = m.0; same = λ i. arrays_of (m.1 i) blocks nexts links display (m.2 i) }

  module _ (before : here.at ≡ here.end → ⊥) (r : Move) (cells' : List ℤ) (h : Done result r cells') where
    pub act-means : MoveMeans w.standing r cells'
    act-means =
        subst (λ (T : Type 0). T) (λ i. MoveMeans w.standing (sym h.0 i) (sym h.1 i))
        (acting-means w.standing (by_display cells display) (finds-by-display w.standing display w.shows) before)

    means-as : (m : Move) → r ≡ m → MoveMeans w.standing m cells'
    means-as m e = subst (λ (x : Move). MoveMeans w.standing x cells') e act-means

    pub went_on : (p : ℕ) → r ≡ On p → Succeeds w cells' blocks nexts links display table
        (goes_to here here.live p here.end here.pairs)
    went_on p e = goes p here.pairs cells' table (means-as (On p) e)

    -- The table is asked

    module _ (p g m t : ℕ) (a : Ask) (e : r ≡ Asks p g m t a) where
      pub asked-there : (g < 8192) × ((m < 8192) × (t < 8192))
      asked-there = (means-as (Asks p g m t a) e).2

      abbrev Told : Change → List ℤ → List ℤ → Type 0
      Told = Answered (answer limit cells' (record { words = table; used = here.pairs }) g m t a) table

      answered : AnswerMeans w.standing p (answer limit cells' (record { words = table; used = here.pairs }) g m t a)
      answered =
          let k = means-as (Asks p g m t a) e in
          subst (λ (v : List ℤ). AnswerMeans w.standing p (answer limit v (record { words = table; used = here.pairs }) g m t a)) (sym k.1) k.0

      by-change : (c : Change) (cells'' table'' : List ℤ) → Told c cells'' table'' → Turned w (turn_after here p c) cells'' blocks nexts links display table''
      unfolding turn_after
      by-change (Ok n) cells'' table'' k = goes p n cells'' table'' (done-goes w.standing p _ answered (Ok n) cells'' table'' k n refl)
      by-change (Err c) cells'' table'' k = stops c cells'' table'' (stopped-halts w.standing p _ answered (Err c) cells'' table'' k c refl)

      pub answered-on : (c : Change) (cells'' table'' : List ℤ) → Told c cells'' table'' → (n : Turn) → n ≡ turn_after here p c
          → Turned w n cells'' blocks nexts links display table''
      answered-on c cells'' table'' k n q = subst (λ (x : Turn). Turned w x cells'' blocks nexts links display table'') (sym q) (by-change c cells'' table'' k)

    -- A jump

    pub jump-ready : (home p : ℕ) → r ≡ Jump home p → JumpReady code blocks links display here home p
    jump-ready home p e =
        record { nexts = nexts; activations = activations; limit = limit; cells = cells; table = table; running = w; jumps = (means-as (Jump home p) e).0 }

    pub jumped-on : (home p : ℕ) → r ≡ Jump home p → (display' : List ℕ) (n : Registers)
        → ((v : JumpReady code blocks links display here home p) → Succeeds v.running v.cells blocks v.nexts links display' v.table n)
        → Succeeds w cells' blocks nexts links display' table n
    unfolding jump-ready
    jumped-on home p e display' n k =
        subst (λ (v : List ℤ). Succeeds w v blocks nexts links display' table n) (sym (means-as (Jump home p) e).1) (k (jump-ready home p e))

    pub jumped-keeps : (home p : ℕ) → r ≡ Jump home p → (display' : List ℕ) (n : Registers)
        → ((v : JumpReady code blocks links display here home p) → Succeeds v.running v.cells blocks v.nexts links display' v.table n)
        → (groups : List ℤ) → KeepsList limit table here.pairs groups table n.pairs groups
    jumped-keeps home p e display' n k groups =
        let s = jumped-on home p e display' n k in
        jumped-lists w.standing s.running.standing s.follows groups (means-as (Jump home p) e).0

    -- An entry

    pub enter-ready : (body link back : ℕ) → r ≡ Enter body link back → EnterReady code cells' blocks nexts links display here body link back
    enter-ready body link back e =
        record { activations = activations; limit = limit; before = cells; table = table; running = w; enters = means-as (Enter body link back) e }

    pub entered_on : (body link back : ℕ) → r ≡ Enter body link back → (cells'' : List ℤ) (blocks' nexts' links' display' : List ℕ) (n : Registers)
        → ((v : EnterReady code cells' blocks nexts links display here body link back) → Succeeds v.running cells'' blocks' nexts' links' display'
        v.table n) → Succeeds w cells'' blocks' nexts' links' display' table n
    unfolding enter-ready
    entered_on body link back e cells'' blocks' nexts' links' display' n k = k (enter-ready body link back e)

    pub entered-keeps : (body link back : ℕ) → r ≡ Enter body link back → (cells'' : List ℤ) (blocks' nexts' links' display' : List ℕ) (n : Registers)
        → ((v : EnterReady code cells' blocks nexts links display here body link back) → Succeeds v.running cells'' blocks' nexts' links' display'
        v.table n) → (groups : List ℤ) → KeepsList limit table here.pairs groups table n.pairs groups
    entered-keeps body link back e cells'' blocks' nexts' links' display' n k groups =
        let s = entered_on body link back e cells'' blocks' nexts' links' display' n k in
        entered-lists w.standing s.running.standing s.follows groups (means-as (Enter body link back) e)

    -- A cause to stop

    pub stopped-at : (c : Cause) → r ≡ Stop c → Stops (limits_by activations limit) w.standing.stack c (arrays_of cells blocks nexts links display table)
        (arrays_of cells' blocks nexts links display table)
    stopped-at c e = let m = means-as (Stop c) e in stops c cells' table (m.0, m.1, refl)
