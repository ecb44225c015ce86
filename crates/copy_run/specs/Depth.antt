-- What names read as in an activation has one part for each block around its text: `reads-deep`.
use Prim.Native.Nat.{ℕ, zero, suc, ◌≤◌, ◌<◌}
use Rattle.std.proofs.Common.{arith, ◌∙◌}
use Rattle.std.specs.Prelude.{List, ◌≡◌}
use Rattle.std.proofs.Math.Option.{Option, none, some}
use Rattle.std.proofs.Math.Path.{refl, sym, ap}
use Rattle.std.proofs.Math.ListN.{length, get_elem?}
use Rattle.language.specs.Machine.{Activation, State}
use Rattle.laws.specs.Tests.{by-lookup}
use Rattle.laws.specs.Lists.{get_elem-past, get_elem-none}
use Rattle.frames.specs.Frame.{Frame, Stack, numbered}
use Rattle.frames.specs.Related.{reads_in, reads_at, Related, as-deep, twin-at}
use Rattle.coordinates.specs.Chain.{chain_of, level_of, Downward}
use Rattle.coordinates.proofs.Along.{along-none}
use Rattle.coordinates.proofs.Display.{level-step}

-- no frame, no level
level-none : (fs : List Frame) (k : ℕ) → numbered fs k ≡ none → level_of fs k ≡ 0
unfolding level_of chain_of
level-none fs k e = ap length (along-none (λ i e. i) k fs k e)

module _ (s : State) (t : Stack) (related : Related s t) (down : Downward t.frames) where
  reads_none : (k : ℕ) → numbered s.live k ≡ none → length (reads_at s.live k) ≡ 0
  unfolding reads_at reads_in
  reads_none k e = ap (λ (o : Option Activation). length (reads_in o)) e

  reads-some : (k : ℕ) (a : Activation) → numbered s.live k ≡ some a → reads_at s.live k ≡ a.reads
  unfolding reads_at reads_in
  reads-some k a e = ap reads_in e

  -- where those further out are so deep
  deep-next : (k : ℕ) → ((j : ℕ) → j < k → length (reads_at s.live j) ≡ level_of t.frames j) → length (reads_at s.live k) ≡ level_of t.frames k
  unfolding numbered
  deep-next zero further = reads_none zero refl ∙ sym (level-none t.frames zero refl)
  deep-next (suc k) further =
      by-lookup (get_elem? s.live k)
      (λ e. reads_none (suc k) e ∙ sym (level-none t.frames (suc k) (get_elem-none t.frames k (omega (arith, get_elem-past s.live k e, as-deep s t related)))))
      (λ a e. let f = twin-at s t related k a e in
      ap length (reads-some (suc k) a e ∙ f.2.reads-are) ∙ ap suc (further f.0.link (omega (arith, f.2.link-below)))
      ∙ sym (level-step t.frames down (suc k) f.0 f.1))

  deep-below : (n k : ℕ) → k ≤ n → length (reads_at s.live k) ≡ level_of t.frames k
  deep-below zero k h = deep-next k (λ j p. absurd (omega arith))
  deep-below (suc n) k h = deep-next k (λ j p. deep-below n j (omega arith))

  pub reads-deep : (k : ℕ) (a : Activation) → get_elem? s.live k ≡ some a → length a.reads ≡ level_of t.frames (suc k)
  unfolding numbered
  reads-deep k a e = ap length (sym (reads-some (suc k) a e)) ∙ deep-below (suc k) (suc k) (omega arith)
