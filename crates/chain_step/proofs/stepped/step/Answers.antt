-- What the statement has come to is its move's; and what a move comes to is a step (`Turns`).
use Rattle.std.proofs.Common.{◌≡◌, ℕ, ◌≤◌, List, ℤ, Bool, false, refl, sym, ap, subst, ◌∙◌, arith}
use Rattle.chain_records.specs.Records.{at}
use Rattle.chain_records.specs.declared.Activation.{Activation}
use Rattle.run_moves.specs.Acting.{Happened}
use Rattle.run_state.specs.declared.Registers.{Registers}
use Rattle.run_state.specs.declared.Turn.{Turn}
use Rattle.run_state.specs.declared.Turn.TheVariants.{Went}
use Rattle.chain_links.specs.declared.Entry.{Entry}
use Rattle.chain_links.specs.Running.{EnterReady, Succeeds, now_by}
use Rattle.chain_links.specs.Moving.{room-there, block-fits}
use Rattle.chain_step.specs.declared.turn.Moved.{Moved}
use Rattle.chain_step.specs.declared.turn.Moved.TheVariants.{Resume}
use Rattle.chain_step.specs.Acted.{Does}
use Rattle.chain_step.specs.Moves.{stays_in, is_asked, is_entry, entry_of, home_at, place_at}
use Rattle.chain_step.specs.Moved.{is_done, turn_of, is_ask, is_enter, entry_in, home_in, place_in}
use Rattle.chain_step.specs.Moved as by_move
use Rattle.run_statements.specs.Answers.{answered-lists}
use Rattle.chain_step.specs.Turning.{Turned}
use Rattle.chain_step.specs.Turns as turned
use Rattle.chain_step.proofs.stepped.step.Goals as goal

module _ {done : Happened} {cells cells' : List ℤ} {here : Registers} {moved : Moved} (d : Does done cells here moved cells') where
  stays-is : {b x : Bool} → b ≡ is_done moved → b ≡ x → stays_in here d.move ≡ x
  stays-is e y = sym (e ∙ ap is_done d.is ∙ by_move.done-is here d.move) ∙ y

  asks-is : {b x : Bool} → b ≡ is_ask moved → b ≡ x → is_asked d.move ≡ x
  asks-is e y = sym (e ∙ ap is_ask d.is ∙ by_move.ask-is here d.move) ∙ y

  enters-is : {b x : Bool} → b ≡ is_enter moved → b ≡ x → is_entry d.move ≡ x
  enters-is e y = sym (e ∙ ap is_enter d.is ∙ (by_move.entry-is here d.move).0) ∙ y

  entry-is : {entry : Entry} → entry ≡ entry_in moved → entry ≡ entry_of d.move
  entry-is e = e ∙ ap entry_in d.is ∙ (by_move.entry-is here d.move).1

  home-is : stays_in here d.move ≡ false → home_in moved ≡ home_at d.move
  home-is z = ap home_in d.is ∙ (by_move.resumed-is here d.move z).0

  place-is : stays_in here d.move ≡ false → place_in moved ≡ place_at d.move
  place-is z = ap place_in d.is ∙ (by_move.resumed-is here d.move z).1

-- At the end of the text

pub returns-then-here-clause-turned : goal.returns-then-here-clause-turned
returns-then-here-clause-turned c = λ w. turned.left-on w c.if-here.true c.leave.result c.leave.ensures

pub returns-then-here-clause-keeps_list : goal.returns-then-here-clause-keeps_list
returns-then-here-clause-keeps_list c = turned.left-keeps c.requires.running c.if-here.true c.leave.result c.leave.ensures c.args.groups.now

-- The innermost activation stays so

pub returns-in-Went-clause-turned : goal.returns-in-Went-clause-turned
returns-in-Went-clause-turned c =
    let d = c.acted.ensures in
    let z = stays-is d refl (ap is_done c.in-Went.is) in
    λ w. subst (λ (t : Turn). Turned w t c.acted.new.cells c.args.records.now c.args.table.now)
    (sym (sym (ap turn_of c.in-Went.is) ∙ ap turn_of d.is ∙ by_move.turn_is c.args.here d.move z))
    (turned.stays w c.if-here.false d.move c.acted.new.cells d.did z)

pub returns-in-Stopped-clause-turned : goal.returns-in-Stopped-clause-turned
returns-in-Stopped-clause-turned c =
    let d = c.acted.ensures in
    let z = stays-is d refl (ap is_done c.in-Stopped.is) in
    λ w. subst (λ (t : Turn). Turned w t c.acted.new.cells c.args.records.now c.args.table.now)
    (sym (sym (ap turn_of c.in-Stopped.is) ∙ ap turn_of d.is ∙ by_move.turn_is c.args.here d.move z))
    (turned.stays w c.if-here.false d.move c.acted.new.cells d.did z)

-- The table is asked

pub asked-requires-clause-group_bound : goal.asked-requires-clause-group_bound
asked-requires-clause-group_bound c =
    let d = c.acted.ensures in
    let k = c.in-Table.asking in
    turned.cells-asked c.requires.running c.if-here.false d.move c.acted.new.cells d.did k (by_move.asked-back c.args.here d.move k (sym d.is ∙ c.in-Table.is))

pub returns-in-Table-clause-turned : goal.returns-in-Table-clause-turned
returns-in-Table-clause-turned c =
    let d = c.acted.ensures in
    let k = c.in-Table.asking in
    let a = c.asked.ensures in
    λ w. turned.answered-on w c.if-here.false d.move c.acted.new.cells d.did k (by_move.asked-back c.args.here d.move k (sym d.is ∙ c.in-Table.is))
    c.after.result c.asked.new.cells c.asked.new.table (c.asked.result, c.after.ensures, (a.value, (a.cells_after, a.table_after)))

pub returns-in-Table-clause-keeps_list : goal.returns-in-Table-clause-keeps_list
returns-in-Table-clause-keeps_list c = answered-lists c.args.here _ c.asked.result c.after.ensures c.asked.ensures.keeps_list

-- A block is entered

pub enter-requires : goal.enter-requires
enter-requires c =
    let d = c.acted.ensures in
    let cells' = c.acted.new.cells in
    subst (EnterReady c.args.code.now cells' c.args.records.now c.args.here) (sym (entry-is d (sym (ap entry_in c.in-Enter.is))))
    (turned.enter-ready c.requires.running c.if-here.false d.move cells' d.did (enters-is d refl (ap is_enter c.in-Enter.is)))

pub returns-in-Enter : goal.returns-in-Enter
returns-in-Enter c =
    let d = c.acted.ensures in
    let cells' = c.acted.new.cells in
    let n = c.enter.new in
    let z = enters-is d refl (ap is_enter c.in-Enter.is) in
    let s = subst (λ (x : Entry). (v : EnterReady c.args.code.now cells' c.args.records.now c.args.here x)
    → Succeeds v.running n.cells n.records v.table c.enter.result) (entry-is d (sym (ap entry_in c.in-Enter.is))) c.enter.ensures in
    record {
      turned = λ w. turned.entered_on w c.if-here.false d.move cells' d.did z n.cells n.records c.enter.result s;
      keeps_list = turned.entered-keeps c.requires.running c.if-here.false d.move cells' d.did z n.cells n.records c.enter.result s c.args.groups.now;
    }

-- Another activation goes on

module _ {done : Happened} {cells cells' : List ℤ} {here : Registers} {moved : Moved} (d : Does done cells here moved cells')
    {home place : ℕ} (e : moved ≡ Resume home place) where
  leaves-it : stays_in here d.move ≡ false
  leaves-it = stays-is d refl (ap is_done e)

  asks-none : is_asked d.move ≡ false
  asks-none = asks-is d refl (ap is_ask e)

  enters-none : is_entry d.move ≡ false
  enters-none = enters-is d refl (ap is_enter e)

  home-there : home ≡ home_at d.move
  home-there = sym (ap home_in e) ∙ home-is d leaves-it

  place-there : place ≡ place_at d.move
  place-there = sym (ap place_in e) ∙ place-is d leaves-it

pub read-activation-requires : goal.read-activation-requires
read-activation-requires c =
    let d = c.acted.ensures in
    let e = c.in-Resume.is in
    let below : c.in-Resume.home ≤ c.args.here.live = omega (
      arith,
      home-there d e,
      turned.home_below c.requires.running c.if-here.false d.move c.acted.new.cells d.did (leaves-it d e) (asks-none d e) (enters-none d e),
    ) in
    (room-there c.requires.running c.in-Resume.home below).there

pub innermost-requires : goal.innermost-requires
innermost-requires c =
    let d = c.acted.ensures in
    let e = c.in-Resume.is in
    let below : c.in-Resume.home ≤ c.args.here.live = omega (
      arith,
      home-there d e,
      turned.home_below c.requires.running c.if-here.false d.move c.acted.new.cells d.did (leaves-it d e) (asks-none d e) (enters-none d e),
    ) in
    let h = block-fits c.requires.running c.in-Resume.home below in
    omega (arith, h, ap (λ (b : Activation). b.block) c.read-activation.ensures)

pub returns-in-Resume-clause-turned : goal.returns-in-Resume-clause-turned
returns-in-Resume-clause-turned c =
    let d = c.acted.ensures in
    let e = c.in-Resume.is in
    let a = c.read-activation in
    λ w. subst (λ (t : Turn). Turned w t c.acted.new.cells c.args.records.now c.args.table.now)
    (sym (ap Went c.innermost.ensures ∙ (λ i. Went (now_by c.args.code.now a.result.block (home-there d e i) (place-there d e i) c.args.here.pairs))))
    (turned.resumed-on w c.if-here.false d.move c.acted.new.cells d.did (leaves-it d e) (asks-none d e) (enters-none d e) a.result
    (a.ensures ∙ ap (at c.args.records.now) (home-there d e)))
