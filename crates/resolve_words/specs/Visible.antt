-- The word of a visible name, from the array of their entries, and the words of a declaration's name.
use Rattle.std.specs.Prelude.{ℕ, ◌+◌, ◌*◌, ◌<◌, List, [], ◌∷◌, map, ◌≡◌, unwrap_or}
use Rattle.laws.specs.Each.{Each}
use Rattle.laws.specs.Fields.{field_at}
use Rattle.coordinates.specs.Enclosure.{Enclosure}
use Rattle.resolved.specs.Resolved.{visible_words, name_word}
use Rattle.check_symbols.specs.Entries.{found_in}
use Rattle.resolve_words.specs.Growth.{Grown}

-- the word of a name among the entries; 0 where it has none
unfoldable pub word_in : ℕ → List ℕ → ℕ
word_in n es = unwrap_or (found_in n es) 0

-- the word of the name in the field at an offset
unfoldable pub used_at : List ℕ → List ℕ → ℕ → ℕ
used_at bs es at = word_in (field_at bs at) es

abbrev pub Short : ℕ → Type 0
Short w = w < 4294967296

abbrev pub AllShort : List ℕ → Type 0
AllShort es = (n : ℕ) → Short (word_in n es)

-- the entries of an enclosure's visible names
unfoldable pub entry_of : ℕ × ℕ → ℕ
entry_of p = p.0 + 65536 * p.1

abbrev pub Fits : ℕ × ℕ → Type 0
Fits p = (p.0 < 65536) × Short p.1

pub record Shown (encl : Enclosure) (es : List ℕ) : Type 0 where
  pub same : es ≡ map entry_of (visible_words encl)
  pub fit : Each Fits (visible_words encl)

-- the mark and the name of a declaration are written as their resolved words
abbrev pub Named : List ℕ → List ℕ → ℕ → List ℕ → List ℕ → Type 0
Named bs es at code code' =
    (n : ℕ) (encl : Enclosure) → Shown encl es → field_at bs (at + 2) ≡ n → Grown code code' at (0 ∷ name_word encl n ∷ [])
