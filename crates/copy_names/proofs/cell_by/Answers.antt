-- The activation that declares the name is the innermost one, the program's, or found by search.
use Rattle.std.proofs.Common.{◌+◌, ◌-◌, sym, arith}
use Rattle.copy_names.specs.Search.{owner-innermost, owner-program, cell-is, cell-asks}
use Rattle.copy_names.proofs.cell_by.Goals as goal

pub overflow_add-result : goal.overflow_add-result
overflow_add-result c =
    let a = c.args in
    let r = c.requires in
    let own = sym (owner-innermost a.firsts.now a.live a.name (omega arith)) in
    let z = cell-asks a.firsts.now a.starts.now a.live a.name a.live own r.findable.few r.findable in
    omega arith

pub returns-then-first-name : goal.returns-then-first-name
returns-then-first-name c =
    let a = c.args in
    let r = c.requires.innermost in
    cell-is _ _ _ _ a.live (sym (owner-innermost a.firsts.now a.live a.name (omega arith))) _
    (λ i. r.start_is i + (a.name - r.first-is i))

pub cell_in-requires : goal.cell_in-requires
cell_in-requires c =
    let a = c.args in
    let f = c.requires.findable in
    cell-asks _ _ _ _ 0 (sym (owner-program a.firsts.now a.live a.name f.sorted (omega arith))) (omega arith) f

pub returns-then-name-first_of : goal.returns-then-name-first_of
returns-then-name-first_of c =
    let a = c.args in
    cell-is _ _ _ _ 0 (sym (owner-program a.firsts.now a.live a.name c.requires.findable.sorted (omega arith))) _ c.cell_in.ensures

pub cell_in-requires-2 : goal.cell_in-requires-2
cell_in-requires-2 c =
    let f = c.requires.findable in cell-asks _ _ _ _ _ c.outer_owner.ensures.0 (omega (arith, c.outer_owner.ensures.1, f.few)) f

pub returns : goal.returns
returns c = cell-is _ _ _ _ _ c.outer_owner.ensures.0 _ c.cell_in-2.ensures
