-- The start, of a program that keeps the rules: it has the invariant (`start-invariant`), and one activation is live, with the first new names
-- (`starts-anew`). That the two machines start related is `start-related` in frames/Runs.
use Rattle.std.specs.Prelude.{◌+◌, [], ◌∷◌, ◌≡◌, refl, length}
use Rattle.std.proofs.Common.{ap}
use Rattle.language.specs.Basics.{up_from}
use Rattle.language.specs.Text.{Block, block_decls, formal_names, declared_names}
use Rattle.language.specs.Table.{Table}
use Rattle.language.specs.Machine.{Activation, activation, enter, start}
use Rattle.laws.specs.Distinct.{Distinct}
use Rattle.grammar.specs.Rules.{Keeps}
use Rattle.instances.proofs.Accepted.{rules-closed}
use Rattle.instances.proofs.Invariant.{Invariant}
use Rattle.instances.proofs.Steps.{started}
use Rattle.copy_machine.proofs.Anew.{names-once, new-many, new-names}

pub start-invariant : (t : Block) → Keeps t → (u : Table) → Invariant (start t u)
start-invariant t k u = started t u (rules-closed t k)

pub record StartsAnew (t : Block) (u : Table) : Type 0 where
  pub new : Activation
  pub live-is : (start t u).live ≡ new ∷ []
  pub names-are : declared_names new.text ≡ up_from 65536 (length (block_decls new.text))
  pub fresh-is : (start t u).fresh ≡ 65536 + length (block_decls new.text)
  pub arguments-are : new.arguments ≡ []

own-once : (t : Block) → Keeps t → Distinct (declared_names t)
unfolding formal_names
own-once t k = names-once t [] [] (rules-closed t k)

pub starts-anew : (t : Block) → Keeps t → (u : Table) → StartsAnew t u
unfolding start enter activation
starts-anew t k u =
    record {
      new = activation [] [] 65536 t 0 [];
      live-is = refl;
      names-are = new-names [] [] 65536 t 0 [] refl (own-once t k);
      fresh-is = ap (λ n. 65536 + n) (new-many [] [] 65536 t 0 [] refl (own-once t k));
      arguments-are = refl;
    }
