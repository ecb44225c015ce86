-- A step that enters nothing leaves `froms` and `passers` as they are. `went_on`: a statement is done and the innermost activation goes on; `left-to`: at the
-- end of its text it is left; `jumped-to`: another activation becomes the innermost one.
use Rattle.std.specs.Prelude.{ℕ, suc, ◌-◌, ◌≤◌, List, ◌≡◌, ℤ, length, get_or}
use Rattle.std.proofs.Common.{arith, sym, ◌∙◌, subst}
use Rattle.std.proofs.Math.Path.{ap}
use Rattle.frames.specs.Frame.{Frame, Stack, numbered, stepped}
use Rattle.f_search.proofs.Kept.{SameCalls}
use Rattle.f_search.proofs.Stepped.{step-calls}
use Rattle.resolved.specs.Resolved.{Covers}
use Rattle.steps.specs.Standing.{Standing}
use Rattle.steps.specs.Means.{Follows, GoesOn, JumpsTo}
use Rattle.steps.specs.Here.{many, downward}
use Rattle.steps.specs.Loop.{leaves, jumped}
use Rattle.run_state.specs.declared.Registers.{Registers}
use Rattle.run_state.specs.Limits.{limits_by, goes_to}
use Rattle.run_records.specs.Resumed.{now_at}
use Rattle.run_records.specs.Ready.{end-found}
use Rattle.search_numbers.specs.NumberFields.{numbered_of}
use Rattle.search_moves.specs.Running.{Froms, Passers, Running, Succeeds}
use Rattle.search_moves.specs.Keeping.{froms-kept, passers-kept}

module _ {code numbers : List ℕ} {activations limit : ℕ} {cells : List ℤ} {passers blocks nexts froms : List ℕ} {table : List ℤ} {here : Registers}
    (w : Running code numbers activations limit cells passers blocks nexts froms table here) where
  abbrev fs : List Frame
  fs = w.standing.stack.frames

  -- the arrays after any step, with what they hold of the frames then
  module _ {cells' : List ℤ} {blocks' nexts' links' : List ℕ} {table' : List ℤ} {pairs' live' at' end' : ℕ}
      (st : Standing code (limits_by activations limit) cells' blocks' nexts' links' table' pairs' live' at' end') (follows : Follows w.standing st.stack st.program st.name) where
    pub succeeds : (passers' froms' : List ℕ) → Froms st.stack.frames froms' → Passers st.stack.frames passers' → length froms' ≡ 256 → length passers' ≡ 8192
        → Succeeds w cells' passers' blocks' nexts' froms' table' (goes_to here live' at' end' pairs')
    succeeds passers' froms' fr pa fl pl =
        record {
          running = record {
            links = links';
            standing = st;
            numbers-stand = subst (λ (T : Type 0). T) (λ i. Covers numbers 0 (numbered_of (sym follows.same_name i) (sym follows.same-program i))) w.numbers-stand;
            froms-are = fr;
            passers-are = pa;
            froms-long = fl;
            passers-long = pl;
          };
          follows = follows;
        }

    frames-are : st.stack.frames ≡ follows.moved.frames
    unfolding stepped
    frames-are = ap (λ (v : Stack). v.frames) follows.is-stepped

    same : live' ≤ here.live → SameCalls (length st.stack.frames) fs st.stack.frames
    same fewer =
        subst (λ (gs : List Frame). SameCalls (length gs) fs gs) (sym frames-are)
        (step-calls (limits_by activations limit) w.standing.stack follows.moved follows.steps (omega (arith, many st, many w.standing, ap length frames-are)))

    pub goes_on : live' ≤ here.live → Succeeds w cells' passers blocks' nexts' froms table' (goes_to here live' at' end' pairs')
    goes_on fewer =
        let gs = st.stack.frames in
        let down = downward w.standing in
        succeeds passers froms (froms-kept (length gs) fs gs (same fewer) down froms w.froms-are (omega arith))
        (passers-kept (length gs) fs gs (same fewer) down passers w.passers-are (omega arith)) w.froms-long w.passers-long

  pub went_on : {cells' table' : List ℤ} {pairs' at' : ℕ} → GoesOn w.standing cells' table' pairs' at'
      → Succeeds w cells' passers blocks nexts froms table' (goes_to here here.live at' here.end pairs')
  went_on g = goes_on g.standing g.follows (omega arith)

  pub left-to : here.at ≡ here.end → 1 ≤ here.live
      → Succeeds w cells passers blocks nexts froms table (now_at code blocks here (here.live - 1) (get_or nexts (here.live - 1) 0))
  left-to e h =
      let l = leaves w.standing e h in
      let one : suc (here.live - 1) ≡ here.live = omega arith in
      subst (λ end. Succeeds w cells passers blocks nexts froms table (goes_to here (here.live - 1) (get_or nexts (here.live - 1) 0) end here.pairs))
      (sym (end-found w.standing (here.live - 1) l.frame (ap (numbered fs) one ∙ l.stands))) (goes_on l.standing l.follows (omega arith))

  pub jumped-to : {home at' : ℕ} → JumpsTo w.standing home at' → Succeeds w cells passers blocks nexts froms table (now_at code blocks here home at')
  jumped-to {home} {at'} j =
      let l = jumped w.standing home at' j in
      subst (λ end. Succeeds w cells passers blocks nexts froms table (goes_to here home at' end here.pairs))
      (sym (end-found w.standing home l.frame l.stands)) (goes_on l.standing l.follows l.home-high)
