-- Entering a block: what its functions ask holds, and what they make is the state a step later.
use Rattle.std.proofs.Common.{◌≡◌, refl, ℕ, ◌+◌, ◌*◌, ◌-◌, List, ℤ, get_or, set, sym, ap, subst, ◌∙◌, arith}
use Rattle.chain_records.specs.Records.{at}
use Rattle.chain_records.specs.declared.Activation.{Activation}
use Rattle.resolved.specs.Layout.{cell_from, formals_in, names_in}
use Rattle.run_moves.specs.Acting.{arguments_from, set_all}
use Rattle.run_moves.specs.Effects.{Cleared}
use Rattle.run_statements.specs.Pieces.{only-cells}
use Rattle.run_state.specs.declared.Registers.{Registers}
use Rattle.chain_links.specs.declared.Entry.{Entry}
use Rattle.chain_links.specs.Records.{Room, with_next, NextSet, next-set, Pushed, pushed}
use Rattle.chain_links.specs.Finding.{by_chain, handed_on, arguments_end, Handing}
use Rattle.chain_links.specs.Running.{activation_of, entered_by, Succeeds, EnterReady}
use Rattle.chain_links.specs.Moving.{Fits, entry-fits, enters-to}

module _ (code : List ℕ) (cells : List ℤ) (records : List Activation) (here : Registers) (entry : Entry) where
  abbrev live : ℕ
  live = here.live

  abbrev fresh : ℕ
  fresh = here.live + 1

  abbrev made : Activation
  made = activation_of code entry.body entry.link

  abbrev handed : List ℤ
  handed = handed_on code cells records here

  -- what `entered` does to the words
  abbrev Clears : ℕ → List ℤ → List ℤ → Type 0
  Clears block cells₁ cells₂ = Cleared cells₁ (cell_from fresh (formals_in (get_or code block 0))) (cell_from fresh (names_in (get_or code block 0))) cells₂

  module _ (r : EnterReady code cells records here entry) where
    pub fitting : Fits r.running entry.body entry.link entry.back handed r.enters
    fitting = entry-fits r.running entry.body entry.link entry.back handed r.enters

    pub handing : {last : ℕ} → last ≡ arguments_end code here.at → Handing code records here last
    handing last-is = subst (Handing code records here) (sym last-is) r.handing

    -- the caller's record keeps the place to come back to
    module _ (own old : Activation) (own_is : own ≡ at records live) (old-is : old ≡ with_next own entry.back) (records₁ : List Activation)
        (wrote : records₁ ≡ set records live old) where
      pub next-there : NextSet records records₁ live entry.back
      next-there =
          subst (λ (xs : List Activation). NextSet records xs live entry.back)
          (sym (wrote ∙ ap (set records live) (old-is ∙ ap (λ (a : Activation). with_next a entry.back) own_is)))
          (next-set records live entry.back fitting.room-here)

      pub fresh-there : Room records₁ fresh
      fresh-there = record { few = fitting.room_next.few; there = omega (arith, fitting.room_next.there, next-there.long) }

      module _ (new : Activation) (new-is : new ≡ made) (records₂ : List Activation) (wrote-new : records₂ ≡ set records₁ fresh new) where
        pushed-there : Pushed records₁ records₂ fresh entry.body made.next entry.link
        pushed-there =
            subst (λ (T : Type 0). T) (λ i. Pushed records₁ (sym wrote-new i) fresh (new-is i).block (new-is i).next (new-is i).link)
            (pushed records₁ fresh new fresh-there)

        module _ (last : ℕ) (last-is : last ≡ arguments_end code here.at) (cells₁ cells₂ : List ℤ)
            (said : cells₁ ≡ set_all cells (32 * live + 32) (arguments_from (by_chain cells records live here.level)
            (only-cells code cells here.at) (here.at + 3) (last - 3)))
            (after : Registers) (came : (after ≡ entered_by code here new) × Clears new.block cells₁ cells₂) where
          handed-is : cells₁ ≡ handed
          handed-is = said ∙ ap (λ (n : ℕ). set_all cells (32 * live + 32) (arguments_from (by_chain cells records live here.level)
              (only-cells code cells here.at) (here.at + 3) (n - 3))) last-is

          cleared-there : Clears entry.body handed cells₂
          cleared-there = subst (λ (T : Type 0). T) (λ i. Clears (new-is i).block (handed-is i) cells₂) came.1

          pub entered-to : Succeeds r.running cells₂ records₂ r.table after
          entered-to =
              subst (λ (n : Registers). Succeeds r.running cells₂ records₂ r.table n) (sym (came.0 ∙ ap (entered_by code here) new-is))
              (enters-to r.running entry.body entry.link entry.back handed r.enters (get_or code entry.body 0)
              (get_or code (entry.body + 1) 0) refl refl records₁ records₂ next-there pushed-there cells₂ cleared-there)
