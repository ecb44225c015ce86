-- A call, once the procedure is found: what it asks and what it comes to (`call_move`), and that this is what a CL does, be it of a declared procedure
-- (`call-move`) or through a formal (`call-formal-move`).
use Rattle.std.specs.Prelude.{ℕ, ◌+◌, ◌≤◌, ◌<◌, Bool, List, ◌≡◌, leb, get_or}
use Rattle.std.proofs.Math.Bool.{true, false}
use Rattle.std.proofs.Math.Path.{refl}
use Rattle.std.proofs.Common.{ap, ap₂, ◌∙◌}
use borrow.Author.Tests.{le-leb, lt-leb}
use Rattle.language.specs.declared.Stop.TheVariants.{NoActivationLeft}
use Rattle.run_moves.specs.declared.Move.{Move}
use Rattle.run_moves.specs.declared.Move.TheVariants.{Enter, Stop}
use Rattle.run_moves.specs.Acting.{Finding, Scene, Happened, moves, rewrites, field}
use Rattle.run_moves.specs.Acting.{no_room, do_call, arguments_agree, do_call_formal}
use Rattle.run_statements.specs.Doing.{call-agreed}

-- the word so many fields after the operation
abbrev pub word_after : List ℕ → ℕ → ℕ → ℕ
word_after code at i = get_or code (at + i) 0

-- room for one activation more is tested as it is used, and the arguments stand in the script
pub record Calling (code : List ℕ) (activations live at : ℕ) : Type 0 where
  pub activations-high : activations ≤ 256
  pub live-few : live ≤ 255
  pub few : word_after code at 2 ≤ 32
  pub there : at + 3 + word_after code at 2 ≤ 4096

-- a call of the procedure that activation `home` declares and whose body stands at a place: 22, or it is entered
unfoldable pub call_move : List ℕ → ℕ → ℕ → ℕ → ℕ → ℕ → Move
call_move code activations live at home body =
    elim (leb activations (live + 1)) [ true ↦ Stop NoActivationLeft | false ↦ Enter body home (at + 3 + word_after code at 2) ]

-- 22, or the procedure is entered
module _ (code : List ℕ) (activations live at home body : ℕ) where
  pub call-stops : activations ≤ live + 1 → Stop NoActivationLeft ≡ call_move code activations live at home body
  unfolding call_move
  call-stops h = let e = le-leb activations (live + 1) h in rw (call_move, e)

  pub call_enters : live + 1 < activations → {count : ℕ} → count ≡ word_after code at 2 → Enter body home (at + 3 + count) ≡ call_move code activations live at home body
  unfolding call_move
  call_enters h c = let e = lt-leb activations (live + 1) h in rw (call_move, e, c)

module _ (F : Finding) (s : Scene) where
  abbrev pub move_to : ℕ → ℕ → Move
  move_to home body = call_move s.code s.activations s.live s.at home body

  abbrev full : Bool
  full = leb s.activations (s.live + 1)

  call-is : move_to (F.home (field s 1)) (F.target (field s 1)) ≡ (do_call F s).move
  unfolding do_call no_room rewrites moves call_move
  call-is = go full refl
    where
      go : (b : Bool) → full ≡ b → move_to (F.home (field s 1)) (F.target (field s 1)) ≡ (do_call F s).move
      go true e = rw (e, call_move, do_call)
      go false e = rw (e, call_move, do_call)

  pub call-move : {home body : ℕ} {r : Move} → home ≡ F.home (field s 1) → body ≡ F.target (field s 1) → r ≡ move_to home body → r ≡ (do_call F s).move
  call-move p q e = e ∙ ap₂ move_to p q ∙ call-is

  pub call-formal-move :
      {home body : ℕ} {r : Move} → home ≡ F.home (field s 1) → body ≡ F.target (field s 1) → arguments_agree F s body ≡ true → r ≡ move_to home body →
      r ≡ (do_call_formal F s).move
  call-formal-move p q a e = call-move p q e ∙ ap (λ (x : Happened). x.move) (call-agreed F s q a)
