-- `do_call_formal` meets its contract.
use Rattle.std.specs.Prelude.{ℕ, ◌+◌, ◌-◌, ◌*◌, Bool, ◌≡◌, get_or}
use Rattle.std.proofs.Common.{sym, ap, ◌∙◌}
use Rattle.resolved.specs.Layout.{formals_in}
use Rattle.run_moves.specs.Effects.{same_kinds}
use Rattle.run_moves.specs.Acting.{Finding, Scene, arguments_agree, scene_by, field}
use Rattle.run_statements.specs.Doing.{number-differs, number_same, call-refused}
use Rattle.steps.specs.Finding.{by_first}
use Rattle.run_cells.specs.Calling.{word_after, call-formal-move}
use Rattle.run_cells.specs.Cells.{home-held, target-held}
use Rattle.run_cells.proofs.arms.do_call_formal.Goals as goal

-- whether the arguments agree, once their number does
agreed :
    (F : Finding) (s : Scene) (body : ℕ) {count : ℕ} {answer : Bool} → formals_in (get_or s.code body 0) ≡ count → count ≡ field s 2 →
    answer ≡ same_kinds s.code (s.at + 3) (body - 3 * count) count → arguments_agree F s body ≡ answer
agreed F s body r n a = number_same F s body (r ∙ n) ∙ sym (rw n at a)

pub returns-then-formals_of-count : goal.returns-then-formals_of-count
returns-then-formals_of-count c =
    λ first_of p.
    let F = by_first c.args.cells.now first_of in
    let s = scene_by c.args.code.now c.args.cells.now c.args.activations c.args.live c.args.at in
    (call-refused F s
    (target-held c.args.cells.now first_of (word_after c.args.code.now c.args.at 1) p c.requires.1.is c.held-procedure.ensures.0 c.lead_of-body.ensures)
    (number-differs F s c.lead_of-body.result
    (λ e. c.if-formals_of-count.true (c.formals_of.ensures.0 ∙ ap formals_in c.code_at.ensures.0 ∙ e ∙ sym c.code_at-count.ensures.0)))).0

pub returns-then-not-kinds_agree : goal.returns-then-not-kinds_agree
returns-then-not-kinds_agree c =
    λ first_of p.
    let F = by_first c.args.cells.now first_of in
    let s = scene_by c.args.code.now c.args.cells.now c.args.activations c.args.live c.args.at in
    let number = sym (c.formals_of.ensures.0 ∙ ap formals_in c.code_at.ensures.0) ∙ c.if-formals_of-count.false in
    (call-refused F s
    (target-held c.args.cells.now first_of (word_after c.args.code.now c.args.at 1) p c.requires.1.is c.held-procedure.ensures.0 c.lead_of-body.ensures)
    (agreed F s c.lead_of-body.result number c.code_at-count.ensures.0 c.kinds_agree.ensures ∙ c.if-not-kinds_agree.true)).0

pub returns : goal.returns
returns c =
    λ first_of p.
    let F = by_first c.args.cells.now first_of in
    let s = scene_by c.args.code.now c.args.cells.now c.args.activations c.args.live c.args.at in
    let name = word_after c.args.code.now c.args.at 1 in
    let number = sym (c.formals_of.ensures.0 ∙ ap formals_in c.code_at.ensures.0) ∙ c.if-formals_of-count.false in
    call-formal-move F s
    (home-held c.args.cells.now first_of name p c.requires.1.is c.held-procedure.ensures.0 c.cell_of.ensures.0 c.activation_of.ensures)
    (target-held c.args.cells.now first_of name p c.requires.1.is c.held-procedure.ensures.0 c.lead_of-body.ensures)
    (agreed F s c.lead_of-body.result number c.code_at-count.ensures.0 c.kinds_agree.ensures ∙ c.if-not-kinds_agree.false) c.enter_body.ensures
