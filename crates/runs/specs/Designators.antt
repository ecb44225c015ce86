-- A designator is at most 64 for each live activation plus 32, and its two parts can be told apart: the position is from 1 to 32.
use Rattle.std.specs.Prelude.{ℕ, ◌+◌, ◌*◌, ◌≤◌, ◌≡◌, refl, length}
use Rattle.std.proofs.Common.{arith}
use Rattle.std.proofs.Math.Option.{Option, none, some}
use Rattle.language.specs.Text.{block_decls}
use Rattle.language.specs.Machine.{State, Instance, instance}
use Rattle.language.specs.Sheet.{LookedUp, designator, looked_up, looked_up_designator}
use Rattle.laws.specs.Lists.{get_elem-bound}
use Rattle.laws.specs.Instances.{found_at}
use Rattle.runs.specs.Names.{FitsState, block-names, instance-home}

-- the number is of a live activation, from 1, and the position of one of its names, from 1
pub instance-parts : (s : State) (x : ℕ) (i : Instance) → FitsState s → instance s x ≡ some i → (1 ≤ i.number) × (i.number ≤ length s.live) × (1 ≤ i.position) × (i.position ≤ 32)
instance-parts s x i h e =
    let f = found_at s x i e in
    let a = i.home in
    let n = f.number_is in
    let p = f.position-is in
    let d = get_elem-bound s.live f.depth a f.home_at in
    let j = get_elem-bound (block_decls a.text) f.index i.decl f.decl-at in
    let b = block-names a.text (length a.arguments) (instance-home s x i e h) in
    (omega arith, omega arith, omega arith, omega arith)

pub designator-most : (s : State) (x : ℕ) → FitsState s → designator s x ≤ length s.live * 64 + 32
unfolding designator
designator-most s x h = go (instance s x) refl
  where
    go : (o : Option Instance) → instance s x ≡ o → elim o as (λ y. ℕ) [ none ↦ 0 | some i ↦ i.number * 64 + i.position ] ≤ length s.live * 64 + 32
    go none e = omega arith
    go (some i) e = let p = instance-parts s x i h e in omega (arith, p.1, p.3)

pub looked_up-most : (s : State) (n : ℕ) → FitsState s → looked_up_designator s n ≤ length s.live * 64 + 32
unfolding looked_up_designator
looked_up-most s n h = go (looked_up s n)
  where
    go : (o : Option LookedUp) → elim o as (λ y. ℕ) [ none ↦ 0 | some f ↦ designator s f.name ] ≤ length s.live * 64 + 32
    go none = omega arith
    go (some f) = designator-most s f.name h
