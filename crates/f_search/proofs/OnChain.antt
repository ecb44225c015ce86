-- Frames on a static chain. `OnChain fs k m`: frame m is on the static chain of frame k, that is, entry of its own level in k's display.
use Rattle.std.specs.Prelude.{ℕ, suc, ◌-◌, ◌≤◌, true, false, List, [], ◌∷◌, ◌++◌, ◌≡◌, length, leb}
use Rattle.std.proofs.Common.{arith, sym, ap, ◌∙◌, leb-true, leb-false}
use Rattle.std.proofs.Math.Option.{some}
use Rattle.laws.specs.Tests.{split, some_inj}
use Rattle.frames.specs.Frame.{Frame, numbered}
use Rattle.frames.specs.Numbered.{numbered-high, numbered-append, numbered-seam, numbered-take}
use Rattle.coordinates.specs.Chain.{level_of, climb, display_from, Downward}
use Rattle.coordinates.proofs.Coordinates.{frame-by-display}
use Rattle.coordinates.proofs.Display.{display-length, display-step, level-step, level-outward, display-up-to, entry-bound}

abbrev pub OnChain : List Frame → ℕ → ℕ → Type 0
OnChain fs k m = numbered (display_from fs k) (level_of fs m) ≡ some m

module _ (fs : List Frame) (down : Downward fs) where
  pub on-chain-level : (k m : ℕ) → OnChain fs k m → level_of fs m ≤ level_of fs k
  on-chain-level k m e = omega (arith, numbered-high (display_from fs k) (level_of fs m) m e, display-length fs k)

  pub on-chain-bounds : (k m : ℕ) → OnChain fs k m → (1 ≤ m) × (m ≤ k)
  on-chain-bounds k m e = entry-bound fs down k (level_of fs m) m e

  -- the frame of each level
  pub climb-on-chain : (k j : ℕ) → 1 ≤ j → j ≤ level_of fs k → OnChain fs k (climb fs k (level_of fs k - j))
  climb-on-chain k j low high = ap (numbered (display_from fs k)) (level-outward fs down k j high) ∙ frame-by-display fs down k j low high

  -- a frame itself, and the others on its chain, which are on its link's
  own-entry : (k : ℕ) (f : Frame) → numbered fs k ≡ some f → numbered (display_from fs f.link ++ (k ∷ [])) (level_of fs k) ≡ some k
  own-entry k f e =
      let l : level_of fs k ≡ suc (length (display_from fs f.link)) = level-step fs down k f e ∙ ap suc (sym (display-length fs f.link)) in
      ap (numbered (display_from fs f.link ++ (k ∷ []))) l ∙ numbered-seam (display_from fs f.link) k

  pub on-own-chain : (k : ℕ) (f : Frame) → numbered fs k ≡ some f → OnChain fs k k
  on-own-chain k f e = ap (λ (l : List ℕ). numbered l (level_of fs k)) (display-step fs down k f e) ∙ own-entry k f e

  pub same-level : (k m : ℕ) (f : Frame) → numbered fs k ≡ some f → OnChain fs k m → level_of fs m ≡ level_of fs k → m ≡ k
  same-level k m f e c l = some_inj (sym c ∙ ap (numbered (display_from fs k)) l ∙ on-own-chain k f e)

  pub on-link-chain : (k m : ℕ) (f : Frame) → numbered fs k ≡ some f → OnChain fs k m → (m ≡ k → ⊥) → OnChain fs f.link m
  on-link-chain k m f e c other = split (leb (level_of fs m) (level_of fs f.link)) further here
    where
      further : leb (level_of fs m) (level_of fs f.link) ≡ true → OnChain fs f.link m
      further q =
          let h = leb-true (level_of fs m) (level_of fs f.link) q in
          sym (ap (λ (l : List ℕ). numbered l (level_of fs m)) (display-step fs down k f e) ∙ numbered-append (display_from fs f.link) (k ∷ []) (level_of fs m) (omega (arith, display-length fs f.link))) ∙ c

      here : leb (level_of fs m) (level_of fs f.link) ≡ false → OnChain fs f.link m
      here q =
          let h = leb-false (level_of fs m) (level_of fs f.link) q in
          absurd (other (same-level k m f e c (omega (arith, level-step fs down k f e, on-chain-level k m c))))

  -- what is on the chain of a frame on a chain is on that chain
  pub on-chain-through : (k l m : ℕ) → OnChain fs k l → OnChain fs l m → OnChain fs k m
  on-chain-through k l m p q =
      sym (numbered-take (level_of fs l) (display_from fs k) (level_of fs m) (on-chain-level l m q)) ∙ ap (λ (d : List ℕ). numbered d (level_of fs m)) (display-up-to fs down k (level_of fs l) l p) ∙ q
