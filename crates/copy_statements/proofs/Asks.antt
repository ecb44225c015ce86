-- What `Ready` says of the statement at a place is what its mark's function asks.
use Prim.Native.Nat.{ℕ, ◌+◌, ◌≤◌, ◌<◌}
use native.Mathlib.Omega.{arith}
use mathlib.Core.Path.{◌≡◌, subst}
use lib.ListN.{length}
use Rattle.run_moves.specs.Acting.{Scene}
use Rattle.copy_statements.specs.Doing.{Copy, text, Mark, arithmetic, branch, constant, call, goto, block, pair, unpair, query, mark_of}
use Rattle.copy_statements.specs.Ready.{Fields, Named, Called, By, Ready}
use Rattle.copy_arms.specs.Parts.{NameAt, CallAt}

module _ (c : Copy) (s : Scene) (r : Ready c s) where
  -- where the mark stands in the area
  abbrev place : ℕ
  place = c.base + s.at

  abbrev NameIn : ℕ → Type 0
  NameIn i = NameAt c.area c.firsts c.starts s.live (place + i)

  name_in : {n : ℕ} (i : ℕ) → Fields c s n → i < n → Named c s i → NameIn i
  name_in i f h x = record { there = omega (arith, f.there, h); found = record { few = r.few; sorted = r.sorted; new = x.new; has = x.has } }

  asks : (m : Mark) → mark_of (text c s 0) ≡ m → By c s m
  asks m e = subst (By c s) e r.by

  pub arithmetic-asks : mark_of (text c s 0) ≡ arithmetic → (s.at + 5 ≤ 4096) × (NameIn 1 × (NameIn 3 × NameIn 4))
  arithmetic-asks e =
      let b = asks arithmetic e in
      (b.0.within, (name_in 1 b.0 (omega arith) b.1, (name_in 3 b.0 (omega arith) b.2, name_in 4 b.0 (omega arith) b.3)))

  pub branch-asks : mark_of (text c s 0) ≡ branch → (s.at + 3 ≤ 4096) × (NameIn 1 × NameIn 2)
  branch-asks e = let b = asks branch e in (b.0.within, (name_in 1 b.0 (omega arith) b.1, name_in 2 b.0 (omega arith) b.2))

  pub constant-asks :
      mark_of (text c s 0) ≡ constant →
      (s.at + 4 ≤ 4096) × ((place + 4 ≤ length c.area) × (NameIn 1 × ((text c s 2 < 65536) × (text c s 3 < 65536))))
  constant-asks e =
      let b = asks constant e in
      (b.0.within, (b.0.there, (name_in 1 b.0 (omega arith) b.1, (b.2, b.3))))

  pub call_asks :
      mark_of (text c s 0) ≡ call →
      CallAt s.code c.area c.firsts c.starts c.targets s.activations s.live s.at place
  call_asks e =
      let b = asks call e in
      let n = text c s 2 in
      let within : s.at + 3 + n ≤ 4096 = omega (arith, b.fields.within) in
      let there : place + 3 + n ≤ length c.area = omega (arith, b.fields.there) in
      record {
        within = within;
        procedure = name_in 1 b.fields (omega arith) b.procedure;
        arguments = record { few = b.few; there = there; named = argument b };
        bounded = b.activations;
        body = b.body;
      }
    where
      argument : Called c s → (i : ℕ) → i < text c s 2 → NameAt c.area c.firsts c.starts s.live (place + 3 + i)
      argument b i h =
          let e : place + 3 + i ≡ place + (3 + i) = omega arith in
          rw e (name_in (3 + i) b.fields (omega (arith, h)) (b.arguments i h))

  pub goto-asks : mark_of (text c s 0) ≡ goto → NameIn 1
  goto-asks e = let b = asks goto e in name_in 1 b.0 (omega arith) b.1

  pub block-asks : mark_of (text c s 0) ≡ block → (s.at + 2 ≤ 4096) × (s.live ≤ 255)
  block-asks e = ((asks block e).within, r.few)

  pub pair-asks : mark_of (text c s 0) ≡ pair → (s.at + 3 ≤ 4096) × (NameIn 1 × NameIn 2)
  pair-asks e = let b = asks pair e in (b.0.within, (name_in 1 b.0 (omega arith) b.1, name_in 2 b.0 (omega arith) b.2))

  pub unpair-asks : mark_of (text c s 0) ≡ unpair → (s.at + 3 ≤ 4096) × (NameIn 1 × NameIn 2)
  unpair-asks e = let b = asks unpair e in (b.0.within, (name_in 1 b.0 (omega arith) b.1, name_in 2 b.0 (omega arith) b.2))

  pub query-asks : mark_of (text c s 0) ≡ query → (s.at + 4 ≤ 4096) × (NameIn 1 × (NameIn 2 × NameIn 3))
  query-asks e =
      let b = asks query e in
      (b.0.within, (name_in 1 b.0 (omega arith) b.1, (name_in 2 b.0 (omega arith) b.2, name_in 3 b.0 (omega arith) b.3)))
