-- What entering reads and writes is within its arrays, and the state is then the one a step later.
use Rattle.std.proofs.Common.{ℕ, refl, List, ℤ, ◌∙◌, arith, rules}
use Rattle.display_moves.specs.Moving.{Fits, entry-fits, linked, enters-as}
use Rattle.display_moves.specs.Running.{EnterReady}
use Rattle.run_state.specs.declared.Registers.{Registers}
use Rattle.display_moves.proofs.enter.Goals as goal

fits : {code : List ℕ} {cells : List ℤ} {blocks nexts links display : List ℕ} {here : Registers} {body link back : ℕ}
    (r : EnterReady code cells blocks nexts links display here body link back) → Fits r.running body link back cells r.enters
fits {cells} {body} {link} {back} r = entry-fits r.running body link back cells r.enters

pub code_at-head-requires : goal.code_at-head-requires
code_at-head-requires c = let f = fits c.requires in omega arith

pub overflow_add-body : goal.overflow_add-body
overflow_add-body c = let f = fits c.requires in search rules

pub code_at-bounds-requires : goal.code_at-bounds-requires
code_at-bounds-requires c = let f = fits c.requires in omega arith

pub overflow_cast-nexts : goal.overflow_cast-nexts
overflow_cast-nexts c = let f = fits c.requires in omega arith

pub overflow_cast-blocks : goal.overflow_cast-blocks
overflow_cast-blocks c = let f = fits c.requires in omega arith

pub clear-requires : goal.clear-requires
clear-requires c =
    let f = fits c.requires in
    let e = c.code_at-head.ensures.0 in
    (omega arith, omega arith)

pub returns : goal.returns
returns c =
    let s = c.args in
    let k = c.link_to in
    λ w.
    enters-as w.running s.body s.link s.back s.cells.now w.enters c.code_at-head.ensures.0
    c.code_at-bounds.ensures.0 refl refl refl refl
    c.level_of.ensures.0 c.formals_of.ensures.0 c.names_of.ensures c.cell_at.ensures c.cell_at-2.ensures
    c.first_of.ensures c.end_of.ensures.0 c.clear.ensures k.new.display (k.ensures.display_len_unchanged ∙ w.running.display-long)
    (linked w.running s.body s.link s.back s.cells.now w.enters k.new.display k.ensures.shows_from)
