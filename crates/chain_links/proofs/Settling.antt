-- The looked-up name, found from the innermost activation: `word-is`: its word, read by the activation's record; `leads`: so many links lead to where it is declared.
use Rattle.std.proofs.Common.{◌≡◌, ℕ, ◌+◌, ◌≤◌, ◌<◌, List, ℤ, get_or, sym, ap, ◌∙◌, arith}
use Rattle.arrays.proofs.Names.{follow}
use Rattle.resolved.specs.Resolved.{level_in}
use Rattle.chain_records.specs.declared.Activation.{Activation}
use Rattle.chain_records.specs.Records.{at, hop}
use Rattle.run_state.specs.declared.Registers.{Registers}
use Rattle.chain_links.specs.Records.{hop-follows, links_in, blocks_in}
use Rattle.chain_links.specs.Running.{Running, Reached, links_to, found_by}
use Rattle.chain_links.specs.Moving.{room-there, linked, block_read, block-fits}
use Rattle.chain_links.specs.Names.{found_in}
use Rattle.chain_links.proofs.Names.{outer-there, reached-there, found-there}

module _ {code : List ℕ} {activations limit : ℕ} {cells : List ℤ} {records : List Activation} {table : List ℤ} {here : Registers}
    (w : Running code activations limit cells records table here) (own : Activation) (own_is : own ≡ at records here.live) where
  pub own_within : own.block + 3 ≤ 4096
  own_within = let f = block-fits w here.live (omega arith) in omega (arith, f, ap (λ (a : Activation). a.block) own_is)

  module _ (word : ℕ) (read : word ≡ get_or code (own.block + 2) 0) where
    word-is : word ≡ get_or code (get_or (blocks_in records) here.live 0 + 2) 0
    word-is = read ∙ ap (λ (k : ℕ). get_or code (k + 2) 0) (ap (λ (a : Activation). a.block) own_is ∙ sym (block_read w here.live (omega arith)))

    pub outer : level_in word ≤ here.level
    outer = outer-there w word word-is

    module _ (n : ℕ) (so-many : n ≡ links_to here.level word) (home : ℕ) (led : (home ≡ hop records here.live n) × (home ≤ here.live)) where
      few : home < 256
      few = omega (arith, led.1, (room-there w here.live (omega arith)).few)

      leads : home ≡ follow (links_in records) here.live (links_to here.level word)
      leads = led.0 ∙ hop-follows (linked w) here.live n (omega arith) ∙ ap (follow (links_in records) here.live) so-many

      pub reached : Reached cells here word home
      reached = reached-there w word word-is home few leads

      pub found : found_by cells here word home ≡ found_in w.standing.stack.frames w.standing.name
      found = found-there w word word-is home few leads
