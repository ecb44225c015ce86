-- The theorems of an accepted script (`accepted-distinct`: no two of its declarations and formals share a number) and of any sound stack of a script that keeps the rules, as
-- every accepted one does. `call-searched`, `call-encloser`, `call-passer` and `call-no-passer` say them of the stack that a call's run comes to. Of each live frame k:
-- `sound-searched`: the number of a name visible in its block, sought from k, leads to the instance that the static chain gives (theorem 5-8);
-- `sound-encloser`: the encloser that is sought from k is its link; `sound-passer`: where k was entered through a formal, F(k) is the frame in whose text the procedure stood under its own name when it was first handed
-- over; `sound-no-passer`: there is none exactly where k is the program's, or was entered by a BK or under a declared name.
use Rattle.std.specs.Prelude.{ℕ, ◌-◌, List, ◌↔◌, ◌≡◌, take}
use Rattle.std.proofs.Math.Option.{none, some}
use Rattle.language.specs.Text.{Block}
use Rattle.language.specs.Check.{accepted, check}
use Rattle.language.specs.Machine.{Limits}
use Rattle.language.specs.Call.{Engine, Fed, limits_of}
use Rattle.laws.specs.Distinct.{Distinct}
use Rattle.grammar.specs.Rules.{Bytes, Keeps}
use Rattle.runs.specs.Admission.{Admitted}
use Rattle.frames.specs.Frame.{Frame, Stack, numbered, designates, frame_run_of}
use Rattle.coordinates.specs.Enclosure.{Coordinate, coordinate_of}
use Rattle.coordinates.specs.Chain.{enclosure_of, level_of, climb}
use Rattle.coordinates.proofs.Sound.{Sound, accepted-keeps-rules, call-sound}
use Rattle.f_search.specs.Numbers.{number_of, numbers_of}
use Rattle.f_search.proofs.Distinct.{numbers-distinct}
use Rattle.f_search.specs.Passers.{FormalAt, through, passer_of}
use Rattle.f_search.specs.Search.{search, searched, encloser_sought}
use Rattle.f_search.proofs.FirstPassed.{FirstPasser, first-passer, Direct, no-passer}
use Rattle.f_search.proofs.Theorem.{search-climbs, searched-as-sought}
use Rattle.f_search.proofs.Enclosers.{encloser-is-link}

module _ (l : Limits) (t : Block) (keeps : Keeps t) (s : Stack) (sound : Sound l t s) (k : ℕ) (f : Frame) (live : numbered s.frames k ≡ some f) where
  module _ (n : ℕ) (c : Coordinate) (visible : coordinate_of (enclosure_of s.frames k) n ≡ some c) where
    pub sound-found : search s.frames k (number_of (enclosure_of s.frames k) n) ≡ some (climb s.frames k (level_of s.frames k - c.level))
    sound-found = search-climbs t keeps s.frames sound.chained sound.wired sound.made k f live n c visible

    pub sound-searched : searched s.frames k (number_of (enclosure_of s.frames k) n) ≡ designates (take k s.frames) n
    sound-searched = searched-as-sought t keeps s.frames sound.chained sound.wired sound.made k f live n c visible

  pub sound-encloser : encloser_sought s.frames k ≡ f.link
  sound-encloser = encloser-is-link t keeps s.frames sound.chained sound.wired sound.made k f live

  pub sound-passer : (x : FormalAt) → through s.frames k ≡ some x → FirstPasser s.frames k f x
  sound-passer x e = first-passer t keeps s.frames sound.chained sound.wired sound.made k f x live e

  pub sound-no-passer : (passer_of s.frames k ≡ none) ↔ Direct s.frames k
  sound-no-passer = no-passer t keeps s.frames sound.chained sound.wired sound.made k f live

-- An accepted script

pub accepted-distinct : (bs : List ℕ) → Bytes bs → (t : Block) → check bs ≡ accepted t → Distinct (numbers_of t)
accepted-distinct bs bytes t e = numbers-distinct t (accepted-keeps-rules bs bytes t e)

-- what a call's run comes to
module _ (e : Engine) (fed : Fed) (t : Block) (bytes : Bytes fed.script) (h : Admitted e fed t) (k : ℕ) (f : Frame) (live : numbered (frame_run_of fed t).final.frames k ≡ some f) where
  abbrev final : Stack
  final = (frame_run_of fed t).final

  pub call-searched : (n : ℕ) (c : Coordinate) → coordinate_of (enclosure_of final.frames k) n ≡ some c → searched final.frames k (number_of (enclosure_of final.frames k) n) ≡ designates (take k final.frames) n
  call-searched = sound-searched (limits_of fed) t (accepted-keeps-rules fed.script bytes t h.script) final (call-sound e fed t bytes h) k f live

  pub call-encloser : encloser_sought final.frames k ≡ f.link
  call-encloser = sound-encloser (limits_of fed) t (accepted-keeps-rules fed.script bytes t h.script) final (call-sound e fed t bytes h) k f live

  pub call-passer : (x : FormalAt) → through final.frames k ≡ some x → FirstPasser final.frames k f x
  call-passer = sound-passer (limits_of fed) t (accepted-keeps-rules fed.script bytes t h.script) final (call-sound e fed t bytes h) k f live

  pub call-no-passer : (passer_of final.frames k ≡ none) ↔ Direct final.frames k
  call-no-passer = sound-no-passer (limits_of fed) t (accepted-keeps-rules fed.script bytes t h.script) final (call-sound e fed t bytes h) k f live
