-- Arguments handed on one after another: `set_from`: the words once they are set from the i-th on; `Handed`: all of them are.
use Rattle.std.proofs.Common.{◌≡◌, ℕ, ◌+◌, ◌*◌, ◌-◌, ◌≤◌, ◌<◌, List, ℤ, pos, get_or, set, ap, ◌∙◌, arith}
use Rattle.resolved.specs.Resolved.{position_in}
use Rattle.chain_records.specs.declared.Activation.{Activation}
use Rattle.run_moves.specs.Effects.{handed_word}
use Rattle.run_moves.specs.Acting.{Finding, Scene, arguments_from, set_all}
use Rattle.run_statements.specs.Pieces.{only-cells}
use Rattle.run_statements.specs.Words.{handed-is}
use Rattle.run_statements.specs.Doing.{arguments-end, arguments-next, kept-below}
use Rattle.run_state.specs.declared.Registers.{Registers}
use Rattle.chain_links.specs.Finding.{by_chain, first_cell, Handing, Passing}

abbrev pub SameBelow : List ℤ → Registers → List ℤ → Type 0
SameBelow cells₀ here now = (k : ℕ) → k < 32 * here.live + 32 → get_or now k (pos 0) ≡ get_or cells₀ k (pos 0)

module _ (code : List ℕ) (cells₀ : List ℤ) (records : List Activation) (here : Registers) (last : ℕ) where
  abbrev way : Finding
  way = by_chain cells₀ records here.live here.level

  abbrev scene : Scene
  scene = only-cells code cells₀ here.at

  abbrev low# : ℕ
  low# = 32 * here.live + 32

  abbrev word : ℕ → ℕ
  word field = get_or code (here.at + field) 0

  abbrev pub set_from : List ℤ → ℕ → List ℤ
  set_from now i = set_all now (low# + i) (arguments_from way scene (here.at + 3 + i) (last - 3 - i))

  abbrev pub Handed : List ℤ → Type 0
  Handed now = now ≡ set_all cells₀ low# (arguments_from way scene (here.at + 3) (last - 3))

  pub all_set : Handed (set_from cells₀ (3 - 3))
  all_set =
      let b : low# + 0 ≡ low# = omega arith in
      let a : here.at + 3 + 0 ≡ here.at + 3 = omega arith in
      let n : last - 3 - 0 ≡ last - 3 = omega arith in
      λ i. set_all cells₀ (b i) (arguments_from way scene (a i) (n i))

  module _ (pre : Handing code records here last) (cells : List ℤ) (field : ℕ) (low : 3 ≤ field) where
    pub none_left : last ≤ field → Handed (set_from cells (field - 3)) → Handed cells
    none_left none same = arguments-end way scene cells low# (here.at + 3) (last - 3) (field - 3) (omega arith) ∙ same

    module _ (more : field < last) (from : ℕ) (e : from ≡ first_cell records here.live here.level (word field)) where
      pub passing : Passing code here field from
      passing =
          record {
            low = low;
            few = omega (arith, pre.few);
            there = omega (arith, pre.there);
            live-few = pre.live-few;
            below = omega (arith, e, pre.below field low more);
          }

      module _ (kept : SameBelow cells₀ here cells) where
        abbrev w : ℕ
        w = word field

        abbrev value : ℤ
        value = handed_word cells w (from + position_in w)

        -- what is passed is what the argument hands on
        value-is : value ≡ way.handed (get_or code (here.at + 3 + (field - 3)) 0)
        value-is =
            let a : here.at + field ≡ here.at + 3 + (field - 3) = omega arith in
            ap (λ (m : ℕ). handed_word cells w (m + position_in w)) e
            ∙ handed-is cells₀ (first_cell records here.live here.level w) w cells (kept _ (pre.below field low more))
            ∙ ap (λ (m : ℕ). way.handed (get_or code m 0)) a

        module _ (now : List ℤ) (is : now ≡ set cells (low# + (field - 3)) value) where
          pub kept_on : SameBelow cells₀ here now
          kept_on k l = ap (λ (zs : List ℤ). get_or zs k (pos 0)) is ∙ kept-below cells cells₀ low# (field - 3) value kept k l

          pub same-on : Handed (set_from cells (field - 3)) → Handed (set_from now (field + 1 - 3))
          same-on same =
              let j : field + 1 - 3 ≡ field - 3 + 1 = omega arith in
              let few : field - 3 < last - 3 = omega arith in
              ap (set_from now) j ∙ ap (λ (zs : List ℤ). set_from zs (field - 3 + 1)) is
              ∙ arguments-next way scene cells low# (here.at + 3) (last - 3) (field - 3) few value-is ∙ same
