-- What a declared name leads to is a place of the script: at most 4,096 (`target-bound`). So a formal's word is below 2 to the 31 (`word_small`).
use Rattle.std.specs.Prelude.{ℕ, ◌≤◌, ◌<◌, List}
use Rattle.std.proofs.Common.{arith}
use Rattle.language.specs.Text.{Block}
use Rattle.laws.specs.Tests.{by-lookup}
use Rattle.grammar.specs.Rules.{Keeps}
use Rattle.frames.specs.Frame.{Frame, numbered, frame_number, decl_of}
use Rattle.coordinates.specs.Chain.{enclosing, enclosure_of, Chained}
use Rattle.coordinates.proofs.Levels.{frame-encloses}
use Rattle.coordinates.proofs.Moves.{declared-in}
use Rattle.resolved.proofs.Words.{target_small}
use Rattle.arrays.specs.Holds.{target_of, formal_word}
use Rattle.arrays.proofs.Cells.{Celled, word_bound, target_found, target-no-frame, target-no-decl}

module _ (t : Block) (keeps : Keeps t) (fs : List Frame) (chain : Chained t fs) where
  pub target-bound : (x : ℕ) → target_of fs x ≤ 4096
  unfolding enclosing
  target-bound x =
      by-lookup (numbered fs (frame_number x)) (λ e. omega (arith, target-no-frame fs x e))
      (λ f e. by-lookup (decl_of fs x) (λ q. omega (arith, target-no-decl fs x f e q))
      (λ d q. let g = declared-in fs x d q in
      omega (arith, target_found fs x g.0 d g.1 q, target_small t keeps (enclosing g.0) (enclosure_of fs g.0.link) (frame-encloses t fs chain (frame_number x) g.0 g.1) _ d g.2)))

  pub word_small : (x : ℕ) → Celled x → formal_word fs x < 2147483648
  word_small x c = word_bound fs x c (target-bound x)
