-- Each way out is a case of the definition, and the list stays beside the table.
use Rattle.std.proofs.Common.{◌≡◌, ◌/◌, ◌<◌, Bool, true, ◌&&◌, length, sym, ap, ◌∙◌, subst, arith, add-one}
use Rattle.std.proofs.Math.Facts.{to_z-of_z}
use Rattle.language.specs.Table.{Table, Effect, size, at_least_one, holds, add, added}
use Rattle.laws.specs.Tests.{both}
use Rattle.table_laws.specs.Listing.{Beside}
use Rattle.table_laws.specs.ByList.{added_by_list}
use Rattle.table_laws.proofs.ByList.{added-beside}
use Rattle.table_pairs.specs.Outcomes.{table_of, change_of, count_after, words_after}
use Rattle.table_pairs.proofs.Statements.{fits_read, added-below, added-present, added-crowded, added_full, added_new}
use Rattle.table_pairs.proofs.Listed.{Said, Raisable, pairs-fit, places, listed, number_size, raise-ready, list-raised}
use Rattle.table_pairs.proofs.add_pair.Goals as goal
use Rattle.table_pairs.proofs.add_pair.Goals.{After-numbers_fit, Else-not-numbers_fit, After-find_group-found, After-held, Else-limit-found}

-- what it comes to by the list
by-list :
    (c : After-numbers_fit) {e : Effect} → let t = table_of c.args.table.now c.args.count in
    added c.args.limit c.args.group c.args.member t ≡ e → change_of e ≡ change_of (added_by_list c.args.limit c.args.group c.args.member t c.args.groups.now)
by-list c q = sym (ap change_of (added-beside c.requires.1 c.args.group c.args.member ∙ q))

fit : (c : Else-not-numbers_fit) → (at_least_one c.args.group && at_least_one c.args.member) ≡ true
fit c = fits_read c.ranges.group c.ranges.member c.numbers_fit.ensures c.if-not-numbers_fit.false

some : (c : Else-not-numbers_fit) → at_least_one c.args.group ≡ true
some c = (both _ _ (fit c)).0

said : (c : After-find_group-found) → Said (table_of c.args.table.now c.args.count) c.args.groups.now c.args.group c.find_group-found.result
said c = rw (to_z-of_z c.ranges.group) at c.find_group-found.ensures

number : (c : After-find_group-found) → c.find_group-found.result.number ≡ size c.args.group (table_of c.args.table.now c.args.count)
number c = number_size c.requires.1 c.args.group (some (goal.at.held-requires-clause-members_value c).Else-not-numbers_fit) c.find_group-found.result (said c)

known : (c : After-held) {v : Bool} → c.held.result ≡ v → holds c.args.group c.args.member (table_of c.args.table.now c.args.count) ≡ v
known c q = sym (rw (to_z-of_z c.ranges.group, to_z-of_z c.ranges.member) at c.held.ensures) ∙ q

pub find_group-found-requires-clause-listed : goal.find_group-found-requires-clause-listed
find_group-found-requires-clause-listed c = (places c.requires.1, (_, listed c.requires.1))

pub held-requires-clause-members_value : goal.held-requires-clause-members_value
held-requires-clause-members_value c = rw (to_z-of_z c.ranges.group) (number c)

pub held-requires-clause-count_in_bounds : goal.held-requires-clause-count_in_bounds
held-requires-clause-count_in_bounds c = pairs-fit c.requires.1

pub returns-then-not-numbers_fit : goal.returns-then-not-numbers_fit
unfolding change_of words_after count_after
returns-then-not-numbers_fit c =
    let e = added-below c.args.limit c.args.group c.args.member (table_of c.args.table.now c.args.count) (fits_read c.ranges.group c.ranges.member c.numbers_fit.ensures c.if-not-numbers_fit.true) in
    record {
      value = sym (ap change_of e);
      table_after = sym (ap (words_after c.args.table.now) e);
      keeps_list = λ past b. b;
      value_2 = by-list (goal.at.returns-then-not-numbers_fit c).After-numbers_fit e;
    }

pub returns-then-held : goal.returns-then-held
unfolding change_of words_after count_after
returns-then-held c =
    let at = goal.at.returns-then-held c in
    let e = added-present c.args.limit c.args.group c.args.member (table_of c.args.table.now c.args.count) (fit at.Else-not-numbers_fit) (known at.After-held c.if-held.true) in
    record {
      value = sym (ap change_of e);
      table_after = sym (ap (words_after c.args.table.now) e);
      keeps_list = λ past b. b;
      value_2 = by-list at.After-numbers_fit e;
    }

pub returns-then-limit-found : goal.returns-then-limit-found
unfolding change_of words_after count_after
returns-then-limit-found c =
    let at = goal.at.returns-then-limit-found c in
    let e = added-crowded c.args.limit c.args.group c.args.member (table_of c.args.table.now c.args.count) (fit at.Else-not-numbers_fit) (known at.After-held c.if-held.false) (omega (arith, number at.After-find_group-found)) in
    record {
      value = sym (ap change_of e);
      table_after = sym (ap (words_after c.args.table.now) e);
      keeps_list = λ past b. b;
      value_2 = by-list at.After-numbers_fit e;
    }

pub returns-then-table-count : goal.returns-then-table-count
unfolding change_of words_after count_after
returns-then-table-count c =
    let at = goal.at.returns-then-table-count c in
    let e = added_full c.args.limit c.args.group c.args.member (table_of c.args.table.now c.args.count) (fit at.Else-not-numbers_fit) (known at.After-held c.if-held.false) (omega (arith, number at.After-find_group-found)) (omega arith) in
    record {
      value = sym (ap change_of e);
      table_after = sym (ap (words_after c.args.table.now) e);
      keeps_list = λ past b. b;
      value_2 = by-list at.After-numbers_fit e;
    }

pub raise-requires-clause-listed : goal.raise-requires-clause-listed
raise-requires-clause-listed c =
    let at = goal.at.raise-requires-clause-listed c in
    let found = c.find_group-found.result in
    (subst (Raisable (table_of c.args.table.now c.args.count) c.args.groups.now found) (sym (to_z-of_z c.ranges.group))
    (raise-ready c.requires.1 c.args.group (some at.Else-not-numbers_fit) found (said at.After-find_group-found) (omega arith))).0

pub returns : goal.returns
unfolding change_of words_after count_after add
returns c =
    let at = goal.at.returns c in
    let g = to_z-of_z c.ranges.group in
    let new = known at.After-held c.if-held.false in
    let below : size c.args.group (table_of c.args.table.now c.args.count) < c.args.limit = omega (arith, number at.After-find_group-found) in
    let room : c.args.count < length c.args.table.now / 2 = omega arith in
    let e = added_new c.args.limit c.args.group c.args.member (table_of c.args.table.now c.args.count) (fit at.Else-not-numbers_fit) new below room in
    let words = rw (g, to_z-of_z c.ranges.member) at c.append.ensures in
    record {
      value = rw add-one (sym (ap change_of e));
      table_after = words ∙ sym (ap (words_after c.args.table.now) e);
      keeps_list =
          λ past b.
          subst (λ (u : Table). Beside c.args.limit past u c.raise.new.groups) (λ i. record { words = sym words i; used = sym (add-one c.args.count) i })
          (list-raised b c.args.group c.args.member c.find_group-found.result c.raise.new.groups (some at.Else-not-numbers_fit) (said at.After-find_group-found) (fit at.Else-not-numbers_fit) new below room
          (rw g at c.raise.ensures));
      value_2 = rw add-one (by-list at.After-numbers_fit e);
    }
