-- What stands at the places of an enclosed block in an array that holds the numbers of a script's names: `action-numbered`, the numbers of a statement's
-- names, and `looked-up-numbered`, that of the looked-up name at the block's BK.
use Rattle.std.specs.Prelude.{ℕ, ◌+◌, List, ◌∷◌, ◌≡◌, get_or}
use Rattle.std.proofs.Common.{arith, subst}
use Rattle.std.proofs.Math.Option.{some}
use Rattle.std.proofs.Math.ListN.{get_elem?}
use Rattle.language.specs.Text.{Formal, Action, Block, block, DO, block_at, block_stmts, stmt_at}
use Rattle.grammar.specs.Rules.{Keeps}
use Rattle.coordinates.specs.Enclosure.{Enclosing, enclosed, Enclosure, Encloses}
use Rattle.resolved.specs.Resolved.{place_of, Covers}
use Rattle.f_search.specs.Numbers.{number_of}
use Rattle.resolve_fields.specs.Layout.{block-laid, stmt-laid}
use Rattle.resolve_fields.specs.Walk.{block_words, words_layout}
use Rattle.search_numbers.specs.NumberFields.{numbered_action, number_words, numbered_of}
use Rattle.search_numbers.specs.Layouts.{numbered_layout}

head-numbered : (numbers : List ℕ) (name p : ℕ) (b : Block) (fs : List Formal) (es : Enclosure) → Covers numbers p (block_words (number_words name) b fs es)
    → get_or numbers (p + 2) 0 ≡ number_of (enclosed fs b ∷ es) name
unfolding block_words
head-numbered numbers name p (block at ds ss) fs es h =
    let z : p + 1 + 1 ≡ p + 2 = omega arith in
    subst (λ (q : ℕ). get_or numbers q 0 ≡ number_of (enclosed fs (block at ds ss) ∷ es) name) z h.1.1.0

module _ (numbers : List ℕ) (name : ℕ) (t : Block) (keeps : Keeps t) (covered : Covers numbers 0 (numbered_of name t)) (e : Enclosing) (es : Enclosure) (within : Encloses t (e ∷ es)) where
  pub action-numbered : (i at : ℕ) (a : Action) → get_elem? (block_stmts e.text) i ≡ some (DO at a) → Covers numbers (place_of at) (numbered_action (e ∷ es) a)
  unfolding words_layout numbered_of block_words stmt_at
  action-numbered i at a q = stmt-laid (numbered_layout name) numbers t keeps covered e es within i (DO at a) q

  pub looked-up-numbered : get_or numbers (place_of (block_at e.text) + 2) 0 ≡ number_of (e ∷ es) name
  unfolding words_layout numbered_of
  looked-up-numbered = head-numbered numbers name _ e.text e.formals es (block-laid (numbered_layout name) numbers t keeps covered e es within)
