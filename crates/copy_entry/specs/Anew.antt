-- What entering a block asks, in numbers (`Enterable`), and what it makes of the arrays (`AnewIn`).
use Rattle.std.specs.Prelude.{ℕ, ◌+◌, ◌*◌, ◌-◌, ◌≤◌, ◌<◌, false, List, ◌≡◌, ℤ, length, get_or, set}
use Rattle.resolved.specs.Resolved.{level_in, position_in, direct}
use Rattle.run_moves.specs.Effects.{Cleared}
use Rattle.resolved.specs.Layout.{formals_in, names_in, end_in, first_in, cell_from}
use Rattle.copy_texts.specs.Texts.{renewed, Copied, noted_from}
use Rattle.run_state.specs.declared.Registers.{Registers}

-- what the head of a block at a place says
abbrev pub formals_at : List ℕ → ℕ → ℕ
formals_at code body = formals_in (get_or code body 0)

abbrev pub names_at : List ℕ → ℕ → ℕ
names_at code body = names_in (get_or code body 0)

abbrev pub level_at : List ℕ → ℕ → ℕ
level_at code body = level_in (get_or code body 0)

abbrev pub end_at : List ℕ → ℕ → ℕ
end_at code body = end_in (get_or code (body + 1) 0)

-- where the arguments' names stand in the area
abbrev pub given_at : ℕ → Registers → ℕ
given_at width here = here.live * width + (here.at + 3)

pub record Enterable (code names area : List ℕ) (width : ℕ) (here : Registers) (body link back : ℕ) : Type 0 where
  pub body-within : body + 3 ≤ 4096
  pub back-within : back < 65536
  pub room : here.live + 1 < 256
  pub link-high : link ≤ here.live
  pub formals-few : formals_at code body ≤ names_at code body
  pub names-few : names_at code body ≤ 32
  pub new : 65536 ≤ here.fresh
  pub few-names : here.fresh + 64 ≤ 4294967296
  pub text : body ≤ end_at code body
  pub text-within : end_at code body ≤ 4096
  pub fits : end_at code body ≤ width
  pub small : width ≤ 4096
  pub here-within : here.at + 3 ≤ 65536
  pub area-long : (here.live + 2) * width ≤ length area
  -- a formal's argument stands after the CL
  pub given : (q : ℕ) → body ≤ q → q < end_at code body → level_in (get_or names q 0) ≡ level_at code body → direct (get_or names q 0) ≡ false
      → here.at + 3 + position_in (get_or names q 0) < width
  pub given-looked : level_in (get_or code (body + 2) 0) ≡ level_at code body → direct (get_or code (body + 2) 0) ≡ false
      → here.at + 3 + position_in (get_or code (body + 2) 0) < width

pub record Noted (blocks nexts links : List ℕ) (here : Registers) (body link back : ℕ) (blocks' nexts' links' : List ℕ) : Type 0 where
  pub nexts-are : nexts' ≡ set nexts here.live back
  pub blocks-are : blocks' ≡ set blocks (here.live + 1) body
  pub links-are : links' ≡ set links (here.live + 1) link

pub record NamesNoted (firsts starts : List ℕ) (here : Registers) (formals : ℕ) (firsts' starts' : List ℕ) : Type 0 where
  pub firsts-are : firsts' ≡ set firsts (here.live + 1) here.fresh
  pub starts-are : starts' ≡ set starts (here.live + 1) (cell_from (here.live + 1) formals)

pub record AnewIn (code names : List ℕ) (width : ℕ) (here : Registers) (body link back : ℕ)
    (cells : List ℤ) (area blocks nexts links firsts starts targets looked : List ℕ)
    (cells' : List ℤ) (area' blocks' nexts' links' firsts' starts' targets' looked' : List ℕ) (r : Registers) : Type 0 where
  pub noted : Noted blocks nexts links here body link back blocks' nexts' links'
  pub named : NamesNoted firsts starts here (formals_at code body) firsts' starts'
  pub copied : Copied area area' names (link * width) ((here.live + 1) * width) (given_at width here) (level_at code body) (here.fresh - formals_at code body) body (end_at code body)
  pub targets-are : targets' ≡ noted_from targets names (32 * (here.live + 1)) (level_at code body) body (end_at code body - body)
  pub looked-is : looked' ≡ set looked (here.live + 1) (renewed area (given_at width here) (level_at code body) (here.fresh - formals_at code body) (get_or code (body + 2) 0) (get_or looked link 0))
  pub cleared : Cleared cells (cell_from (here.live + 1) (formals_at code body)) (cell_from (here.live + 1) (names_at code body)) cells'
  pub registers-are : r ≡ record { live = here.live + 1; at = first_in (get_or code (body + 1) 0); end = end_at code body; pairs = here.pairs; level = here.level; fresh = here.fresh - formals_at code body + names_at code body }
