-- Each way out is a case of the definition, and the list stays beside the table.
use Rattle.std.proofs.Common.{◌≡◌, ℕ, ◌%◌, ◌/◌, ◌<◌, min, true, ◌&&◌, length, sym, ap, ◌∙◌, subst, arith}
use Rattle.std.proofs.Math.Facts.{to_z-of_z}
use Rattle.std.proofs.Math.Option.{some}
use Rattle.language.specs.Table.{Table, Effect, find, is_some, holds, size, at_least_one, take_out, removed}
use Rattle.laws.specs.Tests.{both}
use Rattle.table_laws.specs.Pairs.{group-none}
use Rattle.table_laws.specs.Changes.{remove-present}
use Rattle.table_laws.specs.Listing.{Beside}
use Rattle.table_laws.specs.ByList.{removed_by_list}
use Rattle.table_laws.proofs.ByList.{removed-beside}
use Rattle.table_search.proofs.Pairs.{find-clamped, find-below}
use Rattle.table_search.proofs.Placed.{placed_at, placed-absent}
use Rattle.table_pairs.specs.Outcomes.{table_of, change_of, count_after, words_after}
use Rattle.table_pairs.proofs.Statements.{fits_read, place_read, removed-below, removed-absent, removed-found, one_fewer}
use Rattle.table_pairs.proofs.Listed.{Said, pairs-fit, places, listed, number_size, number_small, list-lowered}
use Rattle.table_pairs.proofs.remove_pair.Goals as goal
use Rattle.table_pairs.proofs.remove_pair.Goals.{After-numbers_fit, Else-not-numbers_fit, After-find_group-found, In-Some}

-- what it comes to by the list
by-list :
    (c : After-numbers_fit) {e : Effect} → let t = table_of c.args.table.now c.args.count in
    removed c.args.group c.args.member t ≡ e → change_of e ≡ change_of (removed_by_list c.args.group c.args.member t c.args.groups.now)
by-list c q = sym (ap change_of (removed-beside c.requires.1.1 c.args.group c.args.member ∙ q))

fit : (c : Else-not-numbers_fit) → (at_least_one c.args.group && at_least_one c.args.member) ≡ true
fit c = fits_read c.ranges.group c.ranges.member c.numbers_fit.ensures c.if-not-numbers_fit.false

one : (c : Else-not-numbers_fit) → at_least_one c.args.group ≡ true
one c = (both _ _ (fit c)).0

said : (c : After-find_group-found) → Said (table_of c.args.table.now c.args.count) c.args.groups.now c.args.group c.find_group-found.result
said c = rw (to_z-of_z c.ranges.group) at c.find_group-found.ensures

stands : (c : In-Some) → find c.args.group c.args.member c.args.count c.args.table.now ≡ some c.in-Some.place
stands c = placed_at _ _ (place_read c.ranges.group c.ranges.member c.args.count c.args.table.now c.place_of.ensures c.in-Some.is)

pub find_group-found-requires-clause-listed : goal.find_group-found-requires-clause-listed
find_group-found-requires-clause-listed c = (places c.requires.1.1, (_, listed c.requires.1.1))

pub returns-then-not-numbers_fit : goal.returns-then-not-numbers_fit
unfolding change_of words_after count_after
returns-then-not-numbers_fit c =
    let e = removed-below c.args.group c.args.member (table_of c.args.table.now c.args.count) (fits_read c.ranges.group c.ranges.member c.numbers_fit.ensures c.if-not-numbers_fit.true) in
    record {
      value = sym (ap change_of e);
      table_after = sym (ap (words_after c.args.table.now) e);
      by_index = λ limit past b. b;
      value_2 = by-list (goal.at.returns-then-not-numbers_fit c).After-numbers_fit e;
    }

pub returns-then-found-eq0 : goal.returns-then-found-eq0
unfolding change_of words_after count_after size
returns-then-found-eq0 c =
    let at = goal.at.returns-then-found-eq0 c in
    let b = c.requires.1.1 in
    let n = number_size b c.args.group (one at.Else-not-numbers_fit) c.find_group-found.result (said at.After-find_group-found) in
    let none = group-none c.args.group c.args.member c.args.count c.args.table.now (pairs-fit b) (omega (arith, n)) in
    let e = removed-absent c.args.group c.args.member (table_of c.args.table.now c.args.count) (fit at.Else-not-numbers_fit) none in
    record {
      value = sym (ap change_of e);
      table_after = sym (ap (words_after c.args.table.now) e);
      by_index = λ limit past b. b;
      value_2 = by-list at.After-numbers_fit e;
    }

pub returns-in_default : goal.returns-in_default
unfolding change_of words_after count_after
returns-in_default c =
    let at = goal.at.returns-in_default c in
    let e = removed-absent c.args.group c.args.member (table_of c.args.table.now c.args.count) (fit at.Else-not-numbers_fit) (placed-absent _ (place_read c.ranges.group c.ranges.member c.args.count c.args.table.now c.place_of.ensures c.in_default.is)) in
    record {
      value = sym (ap change_of e);
      table_after = sym (ap (words_after c.args.table.now) e);
      by_index = λ limit past b. b;
      value_2 = by-list at.After-numbers_fit e;
    }

pub lower-requires-clause-listed : goal.lower-requires-clause-listed
lower-requires-clause-listed c =
    let b = c.requires.1.1 in
    (_, (places b, (_, said (goal.at.lower-requires-clause-listed c).After-find_group-found (places b) _ (listed b))))

pub lower-requires-clause-number_bound : goal.lower-requires-clause-number_bound
lower-requires-clause-number_bound c =
    let at = goal.at.lower-requires-clause-number_bound c in
    let b = c.requires.1.1 in
    omega (arith, number_small b c.args.group (one at.Else-not-numbers_fit) c.find_group-found.result (said at.After-find_group-found), b.small)

pub overflow_sub-result : goal.overflow_sub-result
overflow_sub-result c = omega (arith, find-below c.args.group c.args.member c.args.count c.args.table.now c.in-Some.place (stands (goal.at.overflow_sub-result c).In-Some))

pub returns : goal.returns
unfolding change_of words_after count_after holds is_some
returns c =
    let at = goal.at.returns c in
    let q = stands at.In-Some in
    let short : c.in-Some.place < min c.args.count (length c.args.table.now / 2) =
    find-below _ _ _ _ c.in-Some.place (find-clamped c.args.group c.args.member c.args.count c.args.table.now ∙ q) in
    let same : c.in-Some.place % 9223372036854775808 ≡ c.in-Some.place = omega arith in
    let words : c.take_out.new.table ≡ take_out c.in-Some.place c.args.count c.args.table.now = c.take_out.ensures ∙ ap (λ (p : ℕ). take_out p c.args.count c.args.table.now) same in
    let e = removed-found c.args.group c.args.member (table_of c.args.table.now c.args.count) (fit at.Else-not-numbers_fit) q in
    record {
      value = rw one_fewer (sym (ap change_of e));
      table_after = words ∙ sym (ap (words_after c.args.table.now) e);
      by_index =
          λ limit past b.
          subst (λ (u : Table). Beside limit past u c.lower.new.groups)
          (remove-present c.args.group c.args.member (table_of c.args.table.now c.args.count) c.in-Some.place q ∙ (λ i. record { words = sym words i; used = sym (one_fewer c.args.count) i }))
          (list-lowered b c.args.group c.args.member c.find_group-found.result c.lower.new.groups (one at.Else-not-numbers_fit) (said at.After-find_group-found) (ap is_some q) c.lower.ensures);
      value_2 = rw one_fewer (by-list at.After-numbers_fit e);
    }
