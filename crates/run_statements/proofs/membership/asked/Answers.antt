-- Each question has its function.
use Rattle.table_pairs.specs.Outcomes.{table_of}
use Rattle.run_statements.specs.Answers.{add-answered, remove-answered, query-answered, query-lists}
use Rattle.run_statements.proofs.membership.asked.Goals as goal

pub returns-in-Add : goal.returns-in-Add
returns-in-Add g c =
    let s = c.args in
    let a = add-answered s.limit s.cells.now (table_of s.table.now s.pairs) s.group s.member s.target c.in-Add.is (c.add.ensures.value, c.add.ensures.table_after) in
    record { value = a.0; cells_after = a.1.0; table_after = a.1.1; keeps_list = c.add.ensures.keeps_list }

pub returns-in-Remove : goal.returns-in-Remove
returns-in-Remove g c =
    let s = c.args in
    let a = remove-answered s.limit s.cells.now (table_of s.table.now s.pairs) s.group s.member s.target c.in-Remove.is (c.remove.ensures.value, c.remove.ensures.table_after) in
    record { value = a.0; cells_after = a.1.0; table_after = a.1.1; keeps_list = c.remove.ensures.by_index_2 s.limit }

pub returns-in-Query : goal.returns-in-Query
returns-in-Query g c =
    let s = c.args in
    let a = query-answered s.limit s.cells.now (table_of s.table.now s.pairs) s.group s.member s.target c.in-Query.is (c.query.ensures.value, c.query.ensures.cells_after) in
    record {
      value = a.0;
      cells_after = a.1.0;
      table_after = a.1.1;
      keeps_list = query-lists s.limit s.cells.now (table_of s.table.now s.pairs) s.group s.member s.target c.query.ensures.value s.groups.now;
    }
