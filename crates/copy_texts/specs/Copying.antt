-- What copying a text asks of the arrays.
use Rattle.std.specs.Prelude.{ℕ, ◌+◌, ◌≤◌, ◌<◌, false, List, ◌⊎◌, ◌≡◌, length, get_or}
use Rattle.resolved.specs.Resolved.{level_in, position_in, direct}

-- a name with this word can be made new: new names fit a word, and a formal's argument is there
pub record Renewable (area : List ℕ) (given level first w : ℕ) : Type 0 where
  pub fits : first + 32 ≤ 4294967296
  pub argument : level_in w ≡ level → direct w ≡ false → given + position_in w < length area

-- the words from `place` to `end` can be copied: the arguments stand before what is written, and so does the old text, unless each word stays at
-- its place
pub record Copyable (area names : List ℕ) (from to given level first lowest place end : ℕ) : Type 0 where
  pub ordered : place ≤ end
  pub script : end ≤ 4096
  pub old-room : from + end ≤ length area
  pub new-room : to + end ≤ length area
  pub apart : (from ≡ to) ⊎ (from + end ≤ to + place)
  pub fits : first + 32 ≤ 4294967296
  pub noting : lowest + 32 ≤ 8224
  pub arguments :
      (q : ℕ) → place ≤ q → q < end → level_in (get_or names q 0) ≡ level → direct (get_or names q 0) ≡ false → given + position_in (get_or names q 0) < to + place
