-- The records are written, and the cells cleared between where the block's head says.
use Rattle.std.proofs.Common.{◌≡◌, ℕ, ◌+◌, List, ℤ, get_or, refl, ap, ◌∙◌, subst}
use Rattle.resolved.specs.Layout.{formals_in, names_in, end_in, first_in, cell_from}
use Rattle.run_moves.specs.Effects.{Cleared}
use Rattle.run_state.specs.Limits.{goes_to}
use Rattle.search_moves.proofs.enter.Goals as goal

cleared-between : {before after : List ℤ} {a b c d : ℕ} → a ≡ c → b ≡ d → Cleared before a b after → Cleared before c d after
cleared-between {before} {after} p q = subst (λ (T : Type 0). T) (λ i. Cleared before (p i) (q i) after)

pub returns : goal.returns
returns c =
    let h = c.code_at-head.ensures.0 in
    let b = c.code_at-bounds.ensures.0 in
    let s = c.args in
    let live = s.here.live + 1 in
    let from : c.cell_at.result ≡ cell_from live (formals_in (get_or s.code.now s.body 0)) = c.cell_at.ensures ∙ ap (cell_from live) (c.formals_of.ensures.0 ∙ ap formals_in h) in
    let to : c.cell_at-2.result ≡ cell_from live (names_in (get_or s.code.now s.body 0)) = cc in
    let first : c.first_of.result ≡ first_in (get_or s.code.now (s.body + 1) 0) = c.first_of.ensures ∙ ap first_in b in
    let end : c.end_of.result ≡ end_in (get_or s.code.now (s.body + 1) 0) = c.end_of.ensures.0 ∙ ap end_in b in
    record {
      blocks-are = refl;
      nexts-are = refl;
      froms-are = refl;
      cleared = cleared-between from to c.clear.ensures;
      registers-are = λ i. goes_to s.here live (first i) (end i) s.here.pairs;
    }
