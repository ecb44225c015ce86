use Rattle.std.proofs.Common.{ℕ, List, length, refl, sym, subst, arith}
use Rattle.table_index.specs.Index.{Indexed}
use Rattle.table_index.proofs.Searches.{indexed-none}
use Rattle.table_index.proofs.fill.Goals as goal

pub loop-k-init : goal.loop-k-init
loop-k-init c =
    let places = c.args.places.now in
    record {
      slots_long = refl;
      lefts_long = refl;
      indexed = subst (λ (l : List ℕ). Indexed places 0 l) (sym c.requires.slots_value) (indexed-none places (length c.args.slots.now) (omega arith));
      numbers = λ p l. absurd (omega arith);
    }
