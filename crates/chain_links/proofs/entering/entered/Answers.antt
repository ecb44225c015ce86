-- Where the cells that are cleared begin and end, once the block's head is read.
use Rattle.std.proofs.Common.{◌≡◌, ℕ, ◌+◌, get_or, ap, subst, ◌∙◌, arith}
use Rattle.resolved.specs.Layout.{cell_from, formals_in, names_in}
use Rattle.run_moves.specs.Effects.{Cleared}
use Rattle.chain_links.proofs.entering.entered.Goals as goal

pub clear-requires : goal.clear-requires
clear-requires c =
    let s = c.args in
    let p = c.requires in
    let head : c.code_at-head.result ≡ get_or s.code.now s.activation.block 0 =
    c.code_at-head.ensures.0 ∙ ap (λ (k : ℕ). get_or s.code.now k 0) c.from_u32-block.ensures.0 in
    let from : c.cell_at.result ≡ cell_from (s.here.live + 1) (formals_in (get_or s.code.now s.activation.block 0)) =
    c.cell_at.ensures ∙ ap (cell_from (s.here.live + 1)) (c.formals_of.ensures.0 ∙ ap formals_in head) in
    let to : c.cell_at-2.result ≡ cell_from (s.here.live + 1) (names_in (get_or s.code.now s.activation.block 0)) =
    c.cell_at-2.ensures ∙ ap (cell_from (s.here.live + 1)) (c.names_of.ensures ∙ ap names_in head) in
    (omega (arith, from, p.1, p.2), omega (arith, to, p.1, p.3))

pub returns : goal.returns
returns c =
    let s = c.args in
    let head : c.code_at-head.result ≡ get_or s.code.now s.activation.block 0 =
    c.code_at-head.ensures.0 ∙ ap (λ (k : ℕ). get_or s.code.now k 0) c.from_u32-block.ensures.0 in
    let from : c.cell_at.result ≡ cell_from (s.here.live + 1) (formals_in (get_or s.code.now s.activation.block 0)) =
    c.cell_at.ensures ∙ ap (cell_from (s.here.live + 1)) (c.formals_of.ensures.0 ∙ ap formals_in head) in
    let to : c.cell_at-2.result ≡ cell_from (s.here.live + 1) (names_in (get_or s.code.now s.activation.block 0)) =
    c.cell_at-2.ensures ∙ ap (cell_from (s.here.live + 1)) (c.names_of.ensures ∙ ap names_in head) in (
      rw (c.innermost.ensures, c.from_u32.ensures.0),
      subst (λ (T : Type 0). T) (λ i. Cleared s.cells.now (from i) (to i) c.clear.new.cells) c.clear.ensures,
    )
