-- The encloser that is sought is the link (`encloser-is-link`), for frames of a script that keeps the rules, linked as the text says, with right words of
-- formals, each made by the statement passed last below. The link is on the static chain of each frame asked (`link-on-chain`), its level is one less than
-- that of the frame whose encloser is sought, and a chain has one frame of each level.
use Rattle.std.specs.Prelude.{ℕ, zero, suc, ◌≤◌, ◌<◌, List, ◌≡◌, leb, ltb}
use Rattle.std.proofs.Common.{arith, sym, ap, ◌∙◌}
use Rattle.std.proofs.Math.Option.{some}
use borrow.Author.Tests.{ltb-true, ltb-false, leb-true, leb-false, lt-ltb, le-ltb}
use Rattle.language.specs.Text.{Block}
use Rattle.laws.specs.Tests.{split}
use Rattle.grammar.specs.Rules.{Keeps}
use Rattle.frames.specs.Frame.{Frame, numbered}
use Rattle.frames.specs.Numbered.{numbered-low, numbered-high, numbered-exists}
use Rattle.coordinates.specs.Chain.{level_of, Downward, Chained}
use Rattle.coordinates.proofs.Display.{level-step}
use Rattle.coordinates.proofs.Kept.{chained-downward}
use Rattle.coordinates.proofs.Designated.{Wired}
use Rattle.coordinates.specs.Made.{Made}
use Rattle.f_search.specs.Search.{onward, shallower, encloser_sought}
use Rattle.f_search.proofs.OnChain.{OnChain, on-chain-level, on-chain-bounds, same-level, on-link-chain, on-chain-through}
use Rattle.f_search.proofs.Theorem.{onward-below, link-on-chain}

module _ (m : ℕ) (fs : List Frame) (v j : ℕ) where
  pub shallower-here : level_of fs j < v → shallower (suc m) fs v j ≡ j
  unfolding shallower
  shallower-here h = rw (shallower, lt-ltb (level_of fs j) v h)

  pub shallower-on : v ≤ level_of fs j → shallower (suc m) fs v j ≡ shallower m fs v (onward fs j)
  unfolding shallower
  shallower-on h = rw (shallower, le-ltb (level_of fs j) v h)

module _ (t : Block) (keeps : Keeps t) (fs : List Frame) (chain : Chained t fs) (wired : Wired fs) (made : Made fs) (k : ℕ) (f : Frame) (stands : numbered fs k ≡ some f) where
  abbrev down : Downward fs
  down = chained-downward t fs chain

  one_less_lem : level_of fs k ≡ suc (level_of fs f.link)
  one_less_lem = level-step fs down k f stands

  -- the link is on the chain of a frame that is asked
  module _ (j : ℕ) (below : j < k) (on : OnChain fs j f.link) where
    asked : (g : Frame) × (numbered fs j ≡ some g)
    asked = let b = on-chain-bounds fs down j f.link on in numbered-exists fs j (omega (arith, b.0, b.1)) (omega (arith, numbered-high fs k f stands))

    is-here : level_of fs j < level_of fs k → j ≡ f.link
    is-here h = sym (same-level fs down j f.link asked.0 asked.1 on (omega (arith, one_less_lem, on-chain-level fs down j f.link on)))

    is-further : level_of fs k ≤ level_of fs j → (2 ≤ j) × OnChain fs (onward fs j) f.link
    is-further h =
        let g = asked.0 in
        let other : f.link ≡ j → ⊥ = λ q. omega (arith, one_less_lem, ap (level_of fs) q) in
        let up = on-link-chain fs down j f.link g asked.1 on other in
        let b = on-chain-bounds fs down g.link f.link up in
        let two : 2 ≤ j = omega (arith, b.0, b.1, down j g asked.1) in
        (two, on-chain-through fs down (onward fs j) g.link f.link (link-on-chain t keeps fs chain wired made j g two asked.1) up)

  seeks : (m j : ℕ) → j < m → j < k → OnChain fs j f.link → shallower m fs (level_of fs k) j ≡ f.link
  seeks zero j h below on = absurd (omega arith)
  seeks (suc m) j h below on =
      split (ltb (level_of fs j) (level_of fs k))
      (λ q. let l = ltb-true (level_of fs j) (level_of fs k) q in shallower-here m fs (level_of fs k) j l ∙ is-here j below on l)
      (λ q. let l = ltb-false (level_of fs j) (level_of fs k) q in
      let r = is-further j below on l in
      let less = onward-below fs down j (omega (arith, r.0)) in
      shallower-on m fs (level_of fs k) j l ∙ seeks m (onward fs j) (omega arith) (omega arith) r.1)

  -- the program
  outermost : k ≡ 1 → shallower k fs (level_of fs k) (onward fs k) ≡ f.link
  outermost one =
      let z : onward fs k ≡ f.link = omega (arith, down k f stands, onward-below fs down k (omega arith)) in
      ap (λ m. shallower m fs (level_of fs k) (onward fs k)) one ∙ shallower-here 0 fs (level_of fs k) (onward fs k) (omega (arith, one_less_lem, ap (level_of fs) z)) ∙ z

  pub encloser-is-link : encloser_sought fs k ≡ f.link
  unfolding encloser_sought
  encloser-is-link =
      let low = numbered-low fs k f stands in
      split (leb 2 k)
      (λ q. let two = leb-true 2 k q in
      let less = onward-below fs down k low in
      seeks k (onward fs k) less less (link-on-chain t keeps fs chain wired made k f two stands))
      (λ q. let h = leb-false 2 k q in outermost (omega arith))
