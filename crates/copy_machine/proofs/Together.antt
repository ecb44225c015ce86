-- Both machines step together (`copies-step` of frames). From how many frames there are then, the live activations of the copy-rule machine are
-- kept (`copies_kept`) or one is entered (`copies-entered`).
use Rattle.std.specs.Prelude.{◌≤◌, ◌<◌, ◌≡◌, length}
use Rattle.std.proofs.Common.{arith}
use Rattle.std.proofs.Math.Option.{some}
use Rattle.language.specs.Basics.{last?}
use Rattle.language.specs.Machine.{Activation, State, Limits, did, counted, step}
use Rattle.instances.proofs.Invariant.{Invariant}
use Rattle.frames.specs.Frame.{Stack, stepped}
use Rattle.frames.specs.Related.{Related, as-deep}
use Rattle.copy_machine.proofs.Moved.{Keeps, EntersAnew, step_kept, step-entered}

-- only the count of steps is another
pub counted-keeps : (s s' : State) → Keeps s s' → Keeps s (counted s s')
unfolding counted
counted-keeps s s' k = record { kept = k.kept; fresh-is = k.fresh-is }

pub counted-enters : (s s' : State) (a : Activation) → EntersAnew s s' a → EntersAnew s (counted s s') a
unfolding counted
counted-enters s s' a n =
    record { kept = n.kept; deep = n.deep; new = n.new; there = n.there; names-are = n.names-are; fresh-is = n.fresh-is; arguments-are = n.arguments-are }

module _ (l : Limits) (s : State) (t v : Stack) (r : Related s t) (inv : Invariant s) (a : Activation) (last : last? s.live ≡ some a)
    (s₀ : State) (q : step l s ≡ did s₀) (r₀ : Related (counted s s₀) (stepped t v)) where
  as_many : length s₀.live ≡ length v.frames
  unfolding counted stepped
  as_many = as-deep (counted s s₀) (stepped t v) r₀

  pub copies_kept : length v.frames ≤ length t.frames → Keeps s (counted s s₀)
  copies_kept h = counted-keeps s s₀ (step_kept l s s₀ a inv last q (omega (arith, as_many, as-deep s t r)))

  pub copies-entered : length t.frames < length v.frames → EntersAnew s (counted s s₀) a
  copies-entered h = counted-enters s s₀ a (step-entered l s s₀ a inv last q (omega (arith, as_many, as-deep s t r)))
