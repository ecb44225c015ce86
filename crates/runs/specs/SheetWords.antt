-- The words of a sheet: at most its share for each live activation that has at most 32 names.
use Rattle.std.specs.Prelude.{ℕ, ◌+◌, ◌*◌, ◌≤◌, ◌≡◌, List, [], ◌∷◌, ◌++◌, map, ℤ, pos, length}
use Rattle.std.proofs.Common.{arith, length-append}
use Rattle.std.proofs.lemmas.List.{length-map}
use Rattle.language.specs.Text.{block_decls}
use Rattle.language.specs.Machine.{Activation, State}
use Rattle.language.specs.Sheet.{sheet_share, designator, decl_word, activation_words, words_of, sheet_words}
use Rattle.laws.specs.Each.{Each}
use Rattle.runs.specs.Names.{FitsActivation, FitsState, block-names}

-- three words, and one for each name
pub activation-words : (s : State) (a : Activation) → length (activation_words s a) ≡ 3 + (length a.arguments + length (block_decls a.text))
unfolding activation_words
activation-words s a =
    let xs : List ℤ = map (λ (x : ℕ). pos (designator s x)) a.arguments in
    let ys : List ℤ = map (decl_word s) (block_decls a.text) in
    let e : length (xs ++ ys) ≡ length xs + length ys = length-append xs ys in
    let p : length xs ≡ length a.arguments = length-map a.arguments (λ (x : ℕ). pos (designator s x)) in
    let q : length ys ≡ length (block_decls a.text) = length-map (block_decls a.text) (decl_word s) in
    omega arith

pub activation-words-most : (s : State) (a : Activation) → FitsActivation a → length (activation_words s a) ≤ sheet_share
activation-words-most s a h = omega (arith, activation-words s a, block-names a.text (length a.arguments) h)

words-most : (s : State) (as' : List Activation) → Each FitsActivation as' → length (words_of s as') ≤ length as' * sheet_share
unfolding words_of
words-most s [] h = omega arith
words-most s (a ∷ rest) h = omega (arith, length-append (activation_words s a) (words_of s rest), activation-words-most s a h.0, words-most s rest h.1)

pub sheet-words-most : (s : State) → FitsState s → length (sheet_words s) ≤ length s.live * sheet_share
unfolding sheet_words
sheet-words-most s h = words-most s s.live h
