-- Each place's rows in turn.
use Rattle.std.proofs.Common.{◌≡◌, arith, rules}
use Rattle.check_marks.specs.Counts.{field_count}
use Rattle.check_marks.proofs.Counts.{count-statement, count-declaration, count-formal, count_none, count-small}
use Rattle.check_marks.proofs.field_count.Goals as goal

pub returns-in-Some : goal.returns-in-Some
returns-in-Some c =
    let e : c.from.result ≡ field_count c.args.letters = search (rules, count-statement) in
    (e, omega (arith, count-small c.args.letters))

pub returns-in-Some-find_mark : goal.returns-in-Some-find_mark
returns-in-Some-find_mark c =
    let e : c.from-in-Some-find_mark.result ≡ field_count c.args.letters = search (rules, count-declaration) in
    (e, omega (arith, count-small c.args.letters))

pub returns-in-Some-find_mark-2 : goal.returns-in-Some-find_mark-2
returns-in-Some-find_mark-2 c =
    let e : c.from-in-Some-find_mark-2.result ≡ field_count c.args.letters = search (rules, count-formal) in
    (e, omega (arith, count-small c.args.letters))

pub returns : goal.returns
returns c = search (rules, count_none)
