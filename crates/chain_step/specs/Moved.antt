-- A move as the engine goes on by it: what `came_to` makes of it (`moved_by`), what is read off that, and that it is what is read off the move.
use Rattle.std.specs.Prelude.{ℕ, Bool, true, false, List, ◌≡◌, refl, eqb, ℤ}
use Rattle.std.proofs.lemmas.Bool.{false≢true}
use Rattle.std.proofs.Common.{true≢false, sym, ap, ◌∙◌, eq-eqb, ne_eqb}
use Rattle.language.specs.Table.{Table}
use Rattle.run_moves.specs.Acting.{Answer, answer}
use Rattle.table_pairs.specs.Outcomes.{Change}
use Rattle.run_statements.specs.Answers.{Answered, turn_after}
use Rattle.run_moves.specs.declared.Move.{Move}
use Rattle.run_moves.specs.declared.Move.TheVariants.{On, Table as Asks, Jump, Enter, Stop}
use Rattle.run_state.specs.declared.Registers.{Registers}
use Rattle.chain_links.specs.declared.Entry.{Entry}
use Rattle.run_state.specs.declared.Turn.{Turn}
use Rattle.run_state.specs.declared.Turn.TheVariants.{Went, Finished, Stopped}
use Rattle.chain_step.specs.declared.turn.Asking.{Asking}
use Rattle.chain_step.specs.declared.turn.Moved.{Moved}
use Rattle.chain_step.specs.declared.turn.Moved.TheVariants.{Went as WentTo, Resume, Enter as EnterBy, Stopped as StoppedFor, Table as AskBy}
use Rattle.chain_step.specs.Moves.{stays_in, placed, stayed_by, is_asked, is_entry, no_entry, entry_of, home_at, place_at}

abbrev jumped_if : Registers → ℕ → ℕ → Bool → Moved
jumped_if here home p true = WentTo (placed here p here.pairs)
jumped_if here home p false = Resume home p

abbrev pub jumped_by : Registers → ℕ → ℕ → Moved
jumped_by here home p = jumped_if here home p (eqb home here.live)

abbrev pub moved_by : Registers → Move → Moved
moved_by here (On p) = WentTo (placed here p here.pairs)
moved_by here (Asks p g m t a) = AskBy (record { place = p; group = g; member = m; target = t; ask = a })
moved_by here (Jump home p) = jumped_by here home p
moved_by here (Enter b l k) = EnterBy (record { body = b; link = l; back = k })
moved_by here (Stop c) = StoppedFor c

abbrev pub is_done : Moved → Bool
is_done (WentTo n) = true
is_done (Resume home p) = false
is_done (EnterBy e) = false
is_done (StoppedFor c) = true
is_done (AskBy k) = false

abbrev pub turn_of : Moved → Turn
turn_of (WentTo n) = Went n
turn_of (Resume home p) = Finished
turn_of (EnterBy e) = Finished
turn_of (StoppedFor c) = Stopped c
turn_of (AskBy k) = Finished

abbrev pub is_ask : Moved → Bool
is_ask (WentTo n) = false
is_ask (Resume home p) = false
is_ask (EnterBy e) = false
is_ask (StoppedFor c) = false
is_ask (AskBy k) = true

abbrev pub is_enter : Moved → Bool
is_enter (WentTo n) = false
is_enter (Resume home p) = false
is_enter (EnterBy e) = true
is_enter (StoppedFor c) = false
is_enter (AskBy k) = false

abbrev pub entry_in : Moved → Entry
entry_in (WentTo n) = no_entry
entry_in (Resume home p) = no_entry
entry_in (EnterBy e) = e
entry_in (StoppedFor c) = no_entry
entry_in (AskBy k) = no_entry

abbrev pub home_in : Moved → ℕ
home_in (WentTo n) = 0
home_in (Resume home p) = home
home_in (EnterBy e) = 0
home_in (StoppedFor c) = 0
home_in (AskBy k) = 0

abbrev pub place_in : Moved → ℕ
place_in (WentTo n) = 0
place_in (Resume home p) = p
place_in (EnterBy e) = 0
place_in (StoppedFor c) = 0
place_in (AskBy k) = 0

-- A jump

pub jumps-within : (here : Registers) (home p : ℕ) → home ≡ here.live → WentTo (placed here p here.pairs) ≡ jumped_by here home p
jumps-within here home p e = rw (eq-eqb home here.live e)

pub jumps-out : (here : Registers) (home p : ℕ) → (home ≡ here.live → ⊥) → Resume home p ≡ jumped_by here home p
jumps-out here home p d = rw (ne_eqb home here.live d)

if-done : (here : Registers) (home p : ℕ) (b : Bool) → is_done (jumped_if here home p b) ≡ b
if-done here home p true = refl
if-done here home p false = refl

if-turn : (here : Registers) (home p : ℕ) (b : Bool) → b ≡ true → turn_of (jumped_if here home p b) ≡ Went (placed here p here.pairs)
if-turn here home p true z = refl
if-turn here home p false z = absurd (false≢true z)

if-no-entry : (here : Registers) (home p : ℕ) (b : Bool) → (is_enter (jumped_if here home p b) ≡ false) × (entry_in (jumped_if here home p b) ≡ no_entry)
if-no-entry here home p true = (refl, refl)
if-no-entry here home p false = (refl, refl)

if-resumed : (here : Registers) (home p : ℕ) (b : Bool) → b ≡ false → (home_in (jumped_if here home p b) ≡ home) × (place_in (jumped_if here home p b) ≡ p)
if-resumed here home p true z = absurd (true≢false z)
if-resumed here home p false z = (refl, refl)

-- All moves

pub done-is : (here : Registers) (m : Move) → is_done (moved_by here m) ≡ stays_in here m
unfolding stays_in
done-is here (On p) = refl
done-is here (Asks p g m t a) = refl
done-is here (Jump home p) = if-done here home p (eqb home here.live)
done-is here (Enter b l k) = refl
done-is here (Stop c) = refl

pub turn_is : (here : Registers) (m : Move) → stays_in here m ≡ true → turn_of (moved_by here m) ≡ stayed_by here m
unfolding stays_in stayed_by
turn_is here (On p) z = refl
turn_is here (Asks p g m t a) z = absurd (false≢true z)
turn_is here (Jump home p) z = if-turn here home p (eqb home here.live) z
turn_is here (Enter b l k) z = absurd (false≢true z)
turn_is here (Stop c) z = refl

pub entry-is : (here : Registers) (m : Move) → (is_enter (moved_by here m) ≡ is_entry m) × (entry_in (moved_by here m) ≡ entry_of m)
unfolding is_entry entry_of
entry-is here (On p) = (refl, refl)
entry-is here (Asks p g m t a) = (refl, refl)
entry-is here (Jump home p) = if-no-entry here home p (eqb home here.live)
entry-is here (Enter b l k) = (refl, refl)
entry-is here (Stop c) = (refl, refl)

pub resumed-is : (here : Registers) (m : Move) → stays_in here m ≡ false → (home_in (moved_by here m) ≡ home_at m) × (place_in (moved_by here m) ≡ place_at m)
unfolding stays_in home_at place_at
resumed-is here (On p) z = absurd (true≢false z)
resumed-is here (Asks p g m t a) z = (refl, refl)
resumed-is here (Jump home p) z = if-resumed here home p (eqb home here.live) z
resumed-is here (Enter b l k) z = (refl, refl)
resumed-is here (Stop c) z = absurd (true≢false z)

if-no-ask : (here : Registers) (home p : ℕ) (b : Bool) → is_ask (jumped_if here home p b) ≡ false
if-no-ask here home p true = refl
if-no-ask here home p false = refl

pub ask-is : (here : Registers) (m : Move) → is_ask (moved_by here m) ≡ is_asked m
unfolding is_asked
ask-is here (On p) = refl
ask-is here (Asks p g m t a) = refl
ask-is here (Jump home p) = if-no-ask here home p (eqb home here.live)
ask-is here (Enter b l k) = refl
ask-is here (Stop c) = refl

-- What is asked

not-asked : {x : Moved} (y : Moved) → x ≡ y → is_ask y ≡ false → {k : Asking} → x ≡ AskBy k → ⊥
not-asked y q z e = true≢false (sym (ap is_ask e) ∙ ap is_ask q ∙ z)

-- where nothing is asked, whatever is said of what is
pub unasked : {A B : Asking → Type 0} {x : Moved} (y : Moved) → x ≡ y → is_ask y ≡ false → ((k : Asking) → x ≡ AskBy k → A k) × ((k : Asking) → x ≡ AskBy k → B k)
unasked y q z = (λ k e. absurd (not-asked y q z e), λ k e. absurd (not-asked y q z e))

-- what the table answers
abbrev pub answer_to : ℕ → List ℤ → Table → Asking → Answer
answer_to limit cells table k = answer limit cells table k.group k.member k.target k.ask

abbrev pub asks_by : Asking → Move
asks_by k = Asks k.place k.group k.member k.target k.ask

-- what the table has answered, and the step comes to
abbrev pub ToldBy : ℕ → Registers → List ℤ → List ℤ → Turn → List ℤ → List ℤ → Moved → Type 0
ToldBy limit here cells table r cells' table' (WentTo n) = Unit {0}
ToldBy limit here cells table r cells' table' (Resume home p) = Unit {0}
ToldBy limit here cells table r cells' table' (EnterBy e) = Unit {0}
ToldBy limit here cells table r cells' table' (StoppedFor c) = Unit {0}
ToldBy limit here cells table r cells' table' (AskBy k) =
    (c : Change) × (r ≡ turn_after here k.place c) × Answered (answer_to limit cells (record { words = table; used = here.pairs }) k) table c cells' table'

if-not-asked : (here : Registers) (home q : ℕ) (b : Bool) {k : Asking} → jumped_if here home q b ≡ AskBy k → ⊥
if-not-asked here home q true e = not-asked _ refl refl e
if-not-asked here home q false e = not-asked _ refl refl e

pub asked-back : (here : Registers) (x : Move) (k : Asking) → moved_by here x ≡ AskBy k → x ≡ asks_by k
asked-back here (On q) k e = absurd (not-asked _ refl refl e)
asked-back here (Asks p g m t a) k e =
    let same : ◌≡◌ {A = Asking} (record { place = p; group = g; member = m; target = t; ask = a }) k = cc in λ i. asks_by (same i)
asked-back here (Jump home q) k e = absurd (if-not-asked here home q (eqb home here.live) e)
asked-back here (Enter b l q) k e = absurd (not-asked _ refl refl e)
asked-back here (Stop c) k e = absurd (not-asked _ refl refl e)

pub asked_in : (m : Move) → is_asked m ≡ true → (k : Asking) × (m ≡ asks_by k)
unfolding is_asked
asked_in (On p) z = absurd (false≢true z)
asked_in (Asks p g m t a) z = (record { place = p; group = g; member = m; target = t; ask = a }, refl)
asked_in (Jump home p) z = absurd (false≢true z)
asked_in (Enter b l k) z = absurd (false≢true z)
asked_in (Stop c) z = absurd (false≢true z)
