-- By its class, the statement is asked for its names, and does what it does.
use Rattle.std.proofs.Common.{◌≡◌, ℕ, ◌*◌, List, ℤ, refl, sym, ap, ◌∙◌, arith}
use Rattle.arrays.proofs.Names.{follow}
use Rattle.chain_records.specs.declared.Activation.{Activation}
use Rattle.chain_records.specs.Records.{hop}
use Rattle.run_classes.specs.declared.Class.{Class}
use Rattle.run_classes.specs.Asking.{Leads, class_of, one_class, branch_class}
use Rattle.run_state.specs.declared.Registers.{Registers}
use Rattle.chain_links.specs.Records.{links_in, as-linked, hop-follows}
use Rattle.chain_links.specs.Finding.{first_cell}
use Rattle.chain_links.specs.Moving.{linked}
use Rattle.chain_step.specs.Acted.{Stating, Chosen, op, only_hops, by-class, stores, ready, only-led}
use Rattle.chain_step.specs.Acted.{at_there, next-there, first-outer, live-low, activations-high}
use Rattle.chain_step.proofs.acted.acted.Goals as goal

module _ {code : List ℕ} {cells : List ℤ} {records : List Activation} {activations : ℕ} {here : Registers} (s : Stating code cells records activations here) where
  -- one name or none
  led : class_of (op s) ≡ one_class → (n : ℕ) → n ≡ only_hops code here → (k : ℕ) → k ≡ hop records here.live n
      → Leads (first_cell records here.live here.level) code here.at (32 * k) 0 0 (op s)
  led e n n-is k k-is =
      only-led s (32 * k) (ap (λ (m : ℕ). 32 * m) (k-is ∙ hop-follows (linked s.running) here.live n (omega arith)
      ∙ ap (follow (links_in records) here.live) n-is)) e

  abbrev chosen : {class named : Class} → class ≡ class_of (op s) → class ≡ named
      → Chosen code cells records here (32 * here.live) named
  chosen is e = record { activations = activations; stating = s; own_is = refl; class-is = sym is ∙ e }

pub class_of-requires : goal.class_of-requires
class_of-requires c = at_there c.requires

pub only_hops-requires : goal.only_hops-requires
only_hops-requires c = (next-there c.requires, first-outer c.requires)

pub follow-first-requires : goal.follow-first-requires
follow-first-requires c = as-linked (linked c.requires.running)

pub act_one-done-requires : goal.act_one-done-requires
act_one-done-requires c =
    let s = c.requires in
    let k = c.follow-first in
    let e = sym c.class_of.ensures ∙ c.in-One.is in (
      at_there s,
      e,
      ready s c.args.activations c.args.here.live (activations-high s) (live-low s) (32 * k.result) 0 0
          (led s e c.only_hops.result c.only_hops.ensures k.result k.ensures.0),
    )

pub returns-in-One : goal.returns-in-One
returns-in-One c = record {
  move = c.act_one-done.result;
  did = c.act_one-done.ensures (first_cell c.args.records.now c.args.here.live c.args.here.level)
      (led c.requires (sym c.class_of.ensures ∙ c.in-One.is) c.only_hops.result c.only_hops.ensures c.follow-first.result c.follow-first.ensures.0);
  is = c.came_to.ensures;
}

pub first_cell-first-requires : goal.first_cell-first-requires
first_cell-first-requires c = ((by-class c.requires branch_class (sym c.class_of.ensures ∙ c.in-Branch.is)).one, refl)

pub first_cell-second-requires : goal.first_cell-second-requires
first_cell-second-requires c = ((by-class c.requires branch_class (sym c.class_of.ensures ∙ c.in-Branch.is)).other, refl)

pub act_branch-done-requires : goal.act_branch-done-requires
act_branch-done-requires c =
    let s = c.requires in
    let e = sym c.class_of.ensures ∙ c.in-Branch.is in
    let a = c.first_cell-first in
    let b = c.first_cell-second in (
      at_there s,
      e,
      ready s 0 0 (omega arith) (omega arith) a.result b.result 0 ((by-class s branch_class e).led a.result b.result a.ensures b.ensures),
    )

pub returns-in-Branch : goal.returns-in-Branch
returns-in-Branch c =
    let a = c.first_cell-first in
    let b = c.first_cell-second in
    record {
      move = c.act_branch-done.result;
      did = c.act_branch-done.ensures (first_cell c.args.records.now c.args.here.live c.args.here.level) c.args.activations c.args.here.live
          ((by-class c.requires branch_class (sym c.class_of.ensures ∙ c.in-Branch.is)).led a.result b.result a.ensures b.ensures);
      is = c.came_to-in-Branch.ensures;
    }

pub first_cell-first-requires-in-Constant : goal.first_cell-first-requires-in-Constant
first_cell-first-requires-in-Constant c = ((stores c.requires (sym c.class_of.ensures ∙ c.in-Constant.is)).named, refl)

pub do_constant-done-requires : goal.do_constant-done-requires
do_constant-done-requires c =
    let a = c.first_cell-first-in-Constant in
    (stores c.requires (sym c.class_of.ensures ∙ c.in-Constant.is)).asks a.result a.ensures

pub returns-in-Constant : goal.returns-in-Constant
returns-in-Constant c = record {
  move = c.do_constant-done.result;
  did = (stores c.requires (sym c.class_of.ensures ∙ c.in-Constant.is)).did
      (c.do_constant-done.ensures (first_cell c.args.records.now c.args.here.live c.args.here.level) c.first_cell-first-in-Constant.ensures);
  is = c.came_to-in-Constant.ensures;
}

pub returns-in-Add : goal.returns-in-Add
returns-in-Add c = c.added.ensures (chosen c.requires c.class_of.ensures c.in-Add.is)

pub returns-in-Subtract : goal.returns-in-Subtract
returns-in-Subtract c = c.subtracted.ensures (chosen c.requires c.class_of.ensures c.in-Subtract.is)

pub returns-in-Compare : goal.returns-in-Compare
returns-in-Compare c = c.compared.ensures (chosen c.requires c.class_of.ensures c.in-Compare.is)

pub returns-in-ArithmeticFormal : goal.returns-in-ArithmeticFormal
returns-in-ArithmeticFormal c = c.through_formals.ensures (chosen c.requires c.class_of.ensures c.in-ArithmeticFormal.is)

pub returns-in-Pair : goal.returns-in-Pair
returns-in-Pair c = c.changed.ensures (chosen c.requires c.class_of.ensures c.in-Pair.is)

pub returns-in-Query : goal.returns-in-Query
returns-in-Query c = c.queried.ensures (chosen c.requires c.class_of.ensures c.in-Query.is)
