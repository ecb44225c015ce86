use Rattle.std.proofs.Common.{ℕ, ◌*◌, ◌/◌, ◌≤◌, List, ℤ, length, sym, arith}
use Rattle.std.proofs.Math.Seq.{length-take-le}
use Rattle.language.specs.Groups.{list_words}
use Rattle.table_pairs.specs.Outcomes.{table_of}
use Rattle.table_list_test.proofs.Answers.{none-agree, used-fits, used-rising, exact-agree}
use Rattle.table_list_test.proofs.list_agrees.Goals as goal
use Rattle.table_list_test.proofs.list_agrees.Goals.{In-Some}

-- the words needed are lent
long : (ws : List ℤ) (n : ℕ) (lent : List ℤ) → list_words (table_of ws n) ≤ length lent → 2 * (length ws / 2) ≤ length lent
unfolding list_words
long ws n lent h = h

-- the places in use are among the words lent
fits : (c : In-Some) → 2 * c.in-Some.used ≤ length c.args.groups.now
fits c =
    used-fits c.args.limit c.args.table.now c.args.count c.requires.count_in_bounds c.requires.table_value c.args.groups.now
    (long c.args.table.now c.args.count c.args.groups.now c.requires.count_in_bounds_2) c.read_places.ensures c.in-Some.is

pub slice_bounds-read_places-end : goal.slice_bounds-read_places-end
slice_bounds-read_places-end c = sym (length-take-le _ _ (long c.args.table.now c.args.count c.args.groups.now c.requires.count_in_bounds_2))

pub overflow_mul-used : goal.overflow_mul-used
overflow_mul-used c = omega (arith, fits c)

pub slice_bounds-exact-end : goal.slice_bounds-exact-end
slice_bounds-exact-end c = sym (length-take-le _ _ (fits c))

pub exact-requires-clause-rising : goal.exact-requires-clause-rising
exact-requires-clause-rising c =
    used-rising c.args.limit c.args.table.now c.args.count c.requires.count_in_bounds c.requires.table_value c.args.groups.now
    (long c.args.table.now c.args.count c.args.groups.now c.requires.count_in_bounds_2) c.read_places.ensures c.in-Some.is

pub returns-in-Some : goal.returns-in-Some
returns-in-Some c =
    exact-agree c.args.limit c.args.table.now c.args.count c.requires.count_in_bounds c.requires.table_value c.args.groups.now
    (long c.args.table.now c.args.count c.args.groups.now c.requires.count_in_bounds_2) c.read_places.ensures c.in-Some.is c.exact.result c.exact.ensures

pub returns-in-None : goal.returns-in-None
returns-in-None c =
    none-agree c.args.limit c.args.table.now c.args.count c.requires.count_in_bounds c.requires.table_value c.args.groups.now
    (long c.args.table.now c.args.count c.args.groups.now c.requires.count_in_bounds_2) c.read_places.ensures c.in-None.is
