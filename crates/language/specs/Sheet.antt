-- State sheet: the words of the live activations, designators, the looked-up name and its links.
use Rattle.std.specs.Prelude.{ℕ, suc, ◌+◌, ◌*◌, List, [], ◌∷◌, ◌++◌, map, ℤ, pos}
use Rattle.std.proofs.Math.Option.{Option, none, some}
use Rattle.language.specs.Basics.{lookup, last?}
use Rattle.language.specs.Text.{Decl, VR, LB, PR, block_at, block_decls}
use Rattle.language.specs.Copy.{Replacement}
use Rattle.language.specs.Machine.{Activation, State, instance, value}

-- 64 numbers to an activation, so that its number and the position can both be read off; 0 for a name of no instance
unfoldable pub designator : State → ℕ → ℕ
designator s x = elim (instance s x) [ none ↦ 0 | some i ↦ i.number * 64 + i.position ]

-- of what is declared only variables have something to show
unfoldable pub decl_word : State → Decl → ℤ
decl_word s (VR at n) = value s n
decl_word s (LB at n i) = pos 0
decl_word s (PR at n fs b) = pos 0

-- the words of sheet lent for each activation: three, and one for each of 32 names
abbrev pub sheet_share : ℕ
sheet_share = 35

-- where its block stands, where it goes on, what encloses its text, and its names, formals first; a formal shows the instance of the name that it
-- reads as
unfoldable pub activation_words : State → Activation → List ℤ
activation_words s a =
    pos (block_at a.text) ∷ pos a.next ∷ pos a.encloser ∷
    (map (λ (x : ℕ). pos (designator s x)) a.arguments ++ map (decl_word s) (block_decls a.text))

unfoldable pub words_of : State → List Activation → List ℤ
words_of s [] = []
words_of s (a ∷ rest) = activation_words s a ++ words_of s rest

-- outermost activation first
unfoldable pub sheet_words : State → List ℤ
sheet_words s = words_of s s.live

-- What a name reads as, with how many enclosing blocks are passed to the one that declares it as written.
pub record LookedUp : Type 0 where
  pub name : ℕ
  pub passed : ℕ

unfoldable pub seek : ℕ → ℕ → List Replacement → Option LookedUp
seek n k [] = none
seek n k (own ∷ around) =
    elim (lookup n own) [ some x ↦ some (record { name = x; passed = k }) | none ↦ seek n (suc k) around ]

-- a name as the innermost activation has it
unfoldable pub looked_up : State → ℕ → Option LookedUp
looked_up s n = elim (last? s.live) [ none ↦ none | some a ↦ seek n 0 a.reads ]

unfoldable pub looked_up_designator : State → ℕ → ℕ
looked_up_designator s n = elim (looked_up s n) [ none ↦ 0 | some f ↦ designator s f.name ]

-- how many levels further out the block lies that has the name, which for a formal is its body's block
unfoldable pub looked_up_links : State → ℕ → ℕ
looked_up_links s n = elim (looked_up s n) [ none ↦ 0 | some f ↦ f.passed ]
