-- A step of the static-chain engine, by what the statement comes to (`Did`): the innermost activation stays so (`stays`), a block is entered (`enter-ready`,
-- `entered_on`), or another activation goes on (`home_below`, `resumed-on`). At the end of its text it is left (`leave-ready`, `left-on`): the run is over
-- (`finishes`), or the activation below goes on (`leaves-on`). The list stays beside the table (`left-keeps`, `stays-keeps`, `entered-keeps`, `resumed-keeps`).
use Rattle.std.specs.Prelude.{ℕ, ◌-◌, ◌≤◌, ◌<◌, true, false, ◌≡◌, ℤ, Ok, Err}
use Rattle.std.proofs.Common.{arith, true≢false, sym, ap, ◌∙◌, eqb-true}
use Rattle.std.proofs.lemmas.Bool.{false≢true}
use mathlib.Core.List.{List}
use Rattle.std.proofs.Math.Path.{refl, subst}
use Rattle.run_moves.specs.declared.Move.{Move}
use Rattle.run_moves.specs.declared.Move.TheVariants.{On, Table as Asks, Jump, Enter, Stop}
use Rattle.run_moves.specs.Acting.{scene_by, Happened, acting}
use Rattle.table_pairs.specs.Outcomes.{Change}
use Rattle.language.specs.declared.Stop.{Stop as Cause}
use Rattle.frames.specs.Frame.{frame_step, halted}
use Rattle.run_statements.specs.Answers.{Answered, turn_after, done-goes, stopped-halts}
use Rattle.steps.specs.Standing.{Standing}
use Rattle.steps.specs.Means.{GoesOn, EntersAt, AnswerMeans, MoveMeans}
use Rattle.steps.specs.Acts.{acting-means}
use Rattle.steps.specs.Listed.{left-lists, entered-lists}
use Rattle.table_laws.specs.Listing.{Beside, KeepsList}
use Rattle.chain_records.specs.declared.Activation.{Activation}
use Rattle.chain_records.specs.Records.{at as record-at}
use Rattle.run_classes.specs.Asking.{Did, unhanded}
use Rattle.run_state.specs.declared.Registers.{Registers}
use Rattle.chain_links.specs.Records.{blocks_in, nexts_in, links_in}
use Rattle.chain_links.specs.Finding.{by_chain, Handing, arguments_end, handed_on}
use Rattle.run_state.specs.Limits.{limits_by}
use Rattle.run_state.specs.Turns.{above_zero, pairs_after}
use Rattle.chain_links.specs.Running.{now_by, Running, Succeeds, EnterReady}
use Rattle.chain_links.specs.Moving.{home-live, jumps-here, jumps-by, leaves_by}
use Rattle.chain_links.proofs.Names.{finds-by-chain}
use Rattle.run_state.specs.declared.Turn.{Turn}
use Rattle.run_state.specs.declared.Turn.TheVariants.{Went, Finished, Stopped}
use Rattle.chain_step.specs.declared.turn.Asking.{Asking}
use Rattle.chain_step.specs.Moves.{stays_in, placed, stayed_by, is_asked, is_entry, entry_of, home_at, place_at}
use Rattle.chain_step.specs.Moved.{answer_to, asks_by}
use Rattle.chain_step.specs.Entries.{enters-handing}
use Rattle.chain_step.specs.Turning.{lists_of, Turned, LeaveReady}

-- The list, where the pairs in use stay as they were

module _ (limit : ℕ) (table : List ℤ) (here : Registers) (groups : List ℤ) where
  abbrev Keeps : Turn → Type 0
  Keeps r = KeepsList limit table here.pairs groups table (pairs_after here r) groups

  same-keeps : (r : Turn) → here.pairs ≡ pairs_after here r → Keeps r
  same-keeps r e past = subst (λ (n : ℕ). Beside limit past (record { words = table; used = n }) groups) e

  stayed-pairs : (m : Move) → here.pairs ≡ pairs_after here (stayed_by here m)
  unfolding stayed_by
  stayed-pairs (On p) = refl
  stayed-pairs (Asks p g m t a) = refl
  stayed-pairs (Jump home p) = refl
  stayed-pairs (Enter b l q) = refl
  stayed-pairs (Stop c) = refl

  pub stays-keeps : (m : Move) (r : Turn) → r ≡ stayed_by here m → Keeps r
  stays-keeps m r e = same-keeps r (stayed-pairs m ∙ sym (ap (pairs_after here) e))

  pub resumed-keeps : {n : Registers} (r : Turn) → r ≡ Went n → here.pairs ≡ n.pairs → Keeps r
  resumed-keeps r e same = same-keeps r (same ∙ sym (ap (pairs_after here) e))

module _ {code : List ℕ} {activations limit : ℕ} {cells : List ℤ} {records : List Activation} {table : List ℤ} {here : Registers}
    (w : Running code activations limit cells records table here) where
  abbrev st : Standing code (limits_by activations limit) cells (blocks_in records) (nexts_in records) (links_in records) table here.pairs here.live
      here.at here.end
  st = w.standing

  -- The end of its text

  pub finishes : here.at ≡ here.end → here.live ≡ 0 → Turned w Finished cells records table
  finishes e z = record { ended = e; alone = z; same-cells = refl; same-table = refl }

  pub leaves-on : here.at ≡ here.end → (here.live ≡ 0 → ⊥) → (a : Activation) → a ≡ record-at records (here.live - 1)
      → Turned w (Went (now_by code a.block (here.live - 1) a.next here.pairs)) cells records table
  leaves-on e d a q = subst (λ (b : Activation). Turned w (Went (now_by code b.block (here.live - 1) b.next here.pairs)) cells records table) (sym q)
      (leaves_by w e (above_zero here.live d))

  pub leave-ready : here.at ≡ here.end → LeaveReady code records here
  leave-ready e = record { activations = activations; limit = limit; cells = cells; table = table; running = w; ended = e }

  pub left-on : here.at ≡ here.end → (r : Turn) → ((v : LeaveReady code records here) → Turned v.running r v.cells records v.table)
      → Turned w r cells records table
  unfolding leave-ready
  left-on e r k = k (leave-ready e)

  left-lists-by : here.at ≡ here.end → (r : Turn) → Turned w r cells records table → (groups : List ℤ)
      → KeepsList limit table here.pairs groups table (pairs_after here r) groups
  left-lists-by e (Went n) s groups = left-lists st s.running.standing s.follows groups e
  left-lists-by e Finished s groups = λ past b. b
  left-lists-by e (Stopped c) s groups = λ past b. b

  pub left-keeps : here.at ≡ here.end → (r : Turn) → ((v : LeaveReady code records here) → Turned v.running r v.cells records v.table)
      → (groups : List ℤ) → KeepsList limit table here.pairs groups table (pairs_after here r) groups
  left-keeps e r k = left-lists-by e r (left-on e r k)

  -- By the move

  goes : (cells' table' : List ℤ) (p n : ℕ) → GoesOn st cells' table' n p → Succeeds w cells' records table' (placed here p n)
  goes cells' table' p n g = record { running = record { standing = g.standing; level-is = w.level-is; room = w.room }; follows = g.follows }

  stops : (c : Cause) (cells' table' : List ℤ) → (frame_step (limits_by activations limit) st.stack ≡ halted c) × (cells' ≡ cells) × (table' ≡ table)
      → Turned w (Stopped c) cells' records table'
  stops c cells' table' k = record { stops = k.0; same = λ i. lists_of (k.1 i) records (k.2 i) }

  module _ (cells₁ : List ℤ) where
    stays_by : (m : Move) → MoveMeans st m cells₁ → stays_in here m ≡ true → Turned w (stayed_by here m) (unhanded m cells cells₁) records table
    unfolding stays_in stayed_by unhanded
    stays_by (On p) k z = goes cells₁ table p here.pairs k
    stays_by (Asks p g m t a) k z = absurd (false≢true z)
    stays_by (Jump home p) k z = subst (λ (v : List ℤ). Succeeds w v records table (placed here p here.pairs)) (sym k.1)
        (jumps-here w home p k.0 (eqb-true home here.live z))
    stays_by (Enter b l q) k z = absurd (false≢true z)
    stays_by (Stop c) k z = stops c cells₁ table (k.0, k.1, refl)

    few-entered : (m : Move) → MoveMeans st m cells₁ → is_entry m ≡ true → here.live ≤ 254
    unfolding is_entry
    few-entered (On p) k z = absurd (false≢true z)
    few-entered (Asks p g m t a) k z = absurd (false≢true z)
    few-entered (Jump home p) k z = absurd (false≢true z)
    few-entered (Enter b l q) k z = omega (arith, k.room, st.sound.few)
    few-entered (Stop c) k z = absurd (false≢true z)

    enters-by : (m : Move) → MoveMeans st m cells₁ → is_entry m ≡ true → cells₁ ≡ handed_on code cells records here
        → Handing code records here (arguments_end code here.at) → EnterReady code (unhanded m cells cells₁) records here (entry_of m)
    unfolding is_entry entry_of unhanded
    enters-by (On p) k z e h = absurd (false≢true z)
    enters-by (Asks p g m t a) k z e h = absurd (false≢true z)
    enters-by (Jump home p) k z e h = absurd (false≢true z)
    enters-by (Enter b l q) k z e h =
        record { activations = activations; limit = limit; table = table; running = w; handing = h; enters = subst (EntersAt st b l q) e k }
    enters-by (Stop c) k z e h = absurd (false≢true z)

    entered_by : (m : Move) (k : MoveMeans st m cells₁) (z : is_entry m ≡ true) (e : cells₁ ≡ handed_on code cells records here)
        (h : Handing code records here (arguments_end code here.at)) (cells'' : List ℤ) (records'' : List Activation) (n : Registers)
        → ((v : EnterReady code (unhanded m cells cells₁) records here (entry_of m)) → Succeeds v.running cells'' records'' v.table n)
        → Succeeds w cells'' records'' table n
    unfolding is_entry entry_of unhanded enters-by
    entered_by (On p) k z e h cells'' records'' n f = absurd (false≢true z)
    entered_by (Asks p g m t a) k z e h cells'' records'' n f = absurd (false≢true z)
    entered_by (Jump home p) k z e h cells'' records'' n f = absurd (false≢true z)
    entered_by (Enter b l q) k z e h cells'' records'' n f = f (enters-by (Enter b l q) k z e h)
    entered_by (Stop c) k z e h cells'' records'' n f = absurd (false≢true z)

    entered-lists-by : (m : Move) → MoveMeans st m cells₁ → is_entry m ≡ true → (cells'' : List ℤ) (records'' : List Activation) (n : Registers)
        → Succeeds w cells'' records'' table n → (groups : List ℤ) → KeepsList limit table here.pairs groups table n.pairs groups
    unfolding is_entry
    entered-lists-by (On p) k z cells'' records'' n s groups = absurd (false≢true z)
    entered-lists-by (Asks p g m t a) k z cells'' records'' n s groups = absurd (false≢true z)
    entered-lists-by (Jump home p) k z cells'' records'' n s groups = absurd (false≢true z)
    entered-lists-by (Enter b l q) k z cells'' records'' n s groups = entered-lists st s.running.standing s.follows groups k
    entered-lists-by (Stop c) k z cells'' records'' n s groups = absurd (false≢true z)

    abbrev Resumes : Move → List ℤ → Type 0
    Resumes m cells' = (home_at m ≤ here.live) × Succeeds w cells' records table
        (now_by code (record-at records (home_at m)).block (home_at m) (place_at m) here.pairs)

    resumes-by : (m : Move) → MoveMeans st m cells₁ → stays_in here m ≡ false → is_asked m ≡ false → is_entry m ≡ false → Resumes m (unhanded m cells cells₁)
    unfolding stays_in is_asked is_entry home_at place_at unhanded
    resumes-by (On p) k z x y = absurd (true≢false z)
    resumes-by (Asks p g m t a) k z x y = absurd (true≢false x)
    resumes-by (Jump home p) k z x y = (
      home-live w home p k.0,
      subst (λ (v : List ℤ). Succeeds w v records table (now_by code (record-at records home).block home p here.pairs)) (sym k.1) (jumps-by w home p k.0),
    )
    resumes-by (Enter b l q) k z x y = absurd (true≢false y)
    resumes-by (Stop c) k z x y = absurd (true≢false z)

  -- The table is asked

  module _ (cells₁ : List ℤ) (k : Asking) (so : MoveMeans st (asks_by k) cells₁) where
    abbrev Told : Change → List ℤ → List ℤ → Type 0
    Told = Answered (answer_to limit cells₁ (record { words = table; used = here.pairs }) k) table

    means-told : AnswerMeans st k.place (answer_to limit cells₁ (record { words = table; used = here.pairs }) k)
    means-told =
        subst (λ (v : List ℤ). AnswerMeans st k.place (answer_to limit v (record { words = table; used = here.pairs }) k)) (sym so.1) so.0

    told-by : (c : Change) (cells'' table'' : List ℤ) → Told c cells'' table'' → Turned w (turn_after here k.place c) cells'' records table''
    unfolding turn_after
    told-by (Ok n) cells'' table'' h = goes cells'' table'' k.place n (done-goes st k.place _ means-told (Ok n) cells'' table'' h n refl)
    told-by (Err c) cells'' table'' h = stops c cells'' table'' (stopped-halts st k.place _ means-told (Err c) cells'' table'' h c refl)

  -- The next statement

  abbrev result : Happened
  result = acting (by_chain cells records here.live here.level) (scene_by code cells activations here.live here.at)

  means : (here.at ≡ here.end → ⊥) → MoveMeans st result.move result.cells
  means before = acting-means st (by_chain cells records here.live here.level) (finds-by-chain w) before

  module _ (before : here.at ≡ here.end → ⊥) (r : Move) (cells' : List ℤ) (did : Did result cells r cells') where
    at-move : (P : Move → List ℤ → Type 0) → P result.move (unhanded result.move cells result.cells) → P r cells'
    at-move P x = subst (λ (T : Type 0). T) (λ i. P (sym did.0 i) (sym did.1 i)) x

    pub stays : stays_in here r ≡ true → Turned w (stayed_by here r) cells' records table
    stays = at-move (λ m ws. stays_in here m ≡ true → Turned w (stayed_by here m) ws records table)
        (stays_by result.cells result.move (means before))

    -- what is asked is asked of the words as they are
    asks-mean : (k : Asking) → r ≡ asks_by k → MoveMeans st (asks_by k) cells'
    unfolding unhanded
    asks-mean k = at-move (λ x ws. x ≡ asks_by k → MoveMeans st (asks_by k) ws)
        (λ e. subst (λ (ws : List ℤ). MoveMeans st (asks_by k) ws) (sym (ap (λ (x : Move). unhanded x cells result.cells) e))
        (subst (λ (x : Move). MoveMeans st x result.cells) e (means before)))

    pub cells-asked : (k : Asking) → r ≡ asks_by k → (k.group < 8192) × ((k.member < 8192) × (k.target < 8192))
    cells-asked k e = (asks-mean k e).2

    pub answered-on : (k : Asking) → r ≡ asks_by k → (n : Turn) (cells'' table'' : List ℤ)
        → ((c : Change) × (n ≡ turn_after here k.place c) × Answered (answer_to limit cells' (record { words = table; used = here.pairs }) k) table c cells'' table'')
        → Turned w n cells'' records table''
    answered-on k e n cells'' table'' h =
        subst (λ (x : Turn). Turned w x cells'' records table'') (sym h.1) (told-by cells' k (asks-mean k e) h.0 cells'' table'' h.2)

    hands : is_entry result.move ≡ true
        → (result.cells ≡ handed_on code cells records here) × Handing code records here (arguments_end code here.at)
    hands z = enters-handing w before (few-entered result.cells result.move (means before) z) z

    pub enter-ready : is_entry r ≡ true → EnterReady code cells' records here (entry_of r)
    enter-ready = at-move (λ m ws. is_entry m ≡ true → EnterReady code ws records here (entry_of m))
        (λ z. enters-by result.cells result.move (means before) z (hands z).0 (hands z).1)

    pub entered_on : is_entry r ≡ true → (cells'' : List ℤ) (records'' : List Activation) (n : Registers)
        → ((v : EnterReady code cells' records here (entry_of r)) → Succeeds v.running cells'' records'' v.table n)
        → Turned w (Went n) cells'' records'' table
    entered_on z cells'' records'' n = at-move (λ m ws. is_entry m ≡ true
        → ((v : EnterReady code ws records here (entry_of m)) → Succeeds v.running cells'' records'' v.table n)
        → Succeeds w cells'' records'' table n)
        (λ y. entered_by result.cells result.move (means before) y (hands y).0 (hands y).1 cells'' records'' n) z

    pub entered-keeps : is_entry r ≡ true → (cells'' : List ℤ) (records'' : List Activation) (n : Registers)
        → ((v : EnterReady code cells' records here (entry_of r)) → Succeeds v.running cells'' records'' v.table n)
        → (groups : List ℤ) → KeepsList limit table here.pairs groups table n.pairs groups
    entered-keeps z cells'' records'' n k =
        entered-lists-by result.cells result.move (means before) (ap is_entry (sym did.0) ∙ z) cells'' records'' n (entered_on z cells'' records'' n k)

    pub resumes : stays_in here r ≡ false → is_asked r ≡ false → is_entry r ≡ false → Resumes result.cells r cells'
    resumes = at-move (λ m ws. stays_in here m ≡ false → is_asked m ≡ false → is_entry m ≡ false → Resumes result.cells m ws)
        (resumes-by result.cells result.move (means before))

    pub home_below : stays_in here r ≡ false → is_asked r ≡ false → is_entry r ≡ false → home_at r ≤ here.live
    home_below z x y = (resumes z x y).0

    pub resumed-on : (z : stays_in here r ≡ false) (x : is_asked r ≡ false) (y : is_entry r ≡ false) (a : Activation) → a ≡ record-at records (home_at r)
        → Turned w (Went (now_by code a.block (home_at r) (place_at r) here.pairs)) cells' records table
    resumed-on z x y a q = subst (λ (b : Activation). Succeeds w cells' records table (now_by code b.block (home_at r) (place_at r) here.pairs)) (sym q)
        (resumes z x y).1
