-- In a state with the invariant no name is declared at two places, so the instance of a declared name is its place.
use Rattle.std.specs.Prelude.{ℕ, suc, ◌+◌, ◌≡◌, length}
use Rattle.std.proofs.Math.Option.{Option, some}
use Rattle.std.proofs.Common.{sym, ap, ◌∙◌, arith}
use Rattle.std.proofs.Math.ListN.{get_elem?}
use Rattle.language.specs.Text.{Decl, block_decls, decl_name, declared_names}
use Rattle.language.specs.Machine.{Activation, State, Instance, instance}
use Rattle.laws.specs.Lists.{image-at}
use Rattle.laws.specs.Instances.{instance_in}
use Rattle.laws.specs.Rising.{rising-instance, same-declaration}
use Rattle.instances.proofs.Invariant.{Invariant}

pub one_place : (s : State) → Invariant s → (i j p q : ℕ) (a b : Activation) (x : ℕ) →
    get_elem? s.live i ≡ some a → get_elem? (declared_names a.text) p ≡ some x → get_elem? s.live j ≡ some b → get_elem? (declared_names b.text) q ≡ some x →
    (i ≡ j) × (p ≡ q)
unfolding declared_names
one_place s inv i j p q a b x e f e' f' =
    let c = image-at decl_name (block_decls a.text) p x f in
    let d = image-at decl_name (block_decls b.text) q x f' in
    same-declaration 65536 s.live s.fresh i p j q a b c.0 d.0 inv.rising e c.1 e' d.1 (sym c.2 ∙ d.2)

-- the declaration at position p of an activation's own, as an instance
abbrev pub place_of : ℕ → ℕ → Activation → Decl → Instance
place_of number p a d = instance_in number a (suc (length a.arguments) + p, d)

pub instance-at : (s : State) → Invariant s → (i p : ℕ) (a : Activation) (d : Decl) → get_elem? s.live i ≡ some a →
    get_elem? (block_decls a.text) p ≡ some d → instance s (decl_name d) ≡ some (place_of (suc i) p a d)
unfolding instance
instance-at s inv i p a d e f =
    let next : 1 + i ≡ suc i = omega arith in
    rising-instance 65536 s.live s.fresh 1 i p a d inv.rising e f ∙ ap {B = Option Instance} (λ (k : ℕ). some (place_of k p a d)) next
