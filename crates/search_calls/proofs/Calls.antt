-- Calls: without room and with room for one activation more, of a declared procedure and through a formal.
use Prim.Native.Nat.{ℕ, ◌+◌, ◌*◌, ◌-◌, ◌≤◌, ◌<◌}
use native.Mathlib.Omega.{arith}
use mathlib.Core.Bool.{Bool, true, false, not}
use mathlib.Core.List.{List}
use mathlib.Core.Path.{◌≡◌, refl, sym, ap, ap₂, ◌∙◌, subst}
use borrow.Author.Tests.{not-true, not-false}
use lib.IntN.{ℤ, pos}
use lib.ListN.{get_or}
use lib.Signed.{mag, lt_z}
use mir.Syntax.{w32}
use mir.Val.{to_z, of_z}
use Rattle.language.specs.declared.Stop.TheVariants.{NoActivationLeft, ArgumentsDiffer}
use Rattle.resolved.specs.Resolved.{position_in, target_in}
use Rattle.resolved.specs.Layout.{lead_in, formals_in}
use Rattle.arrays.specs.Found.{held_by}
use Rattle.run_moves.specs.declared.Move.{Move}
use Rattle.run_moves.specs.declared.Move.TheVariants.{Enter, Stop}
use Rattle.run_moves.specs.Effects.{same_kinds}
use Rattle.run_moves.specs.Acting.{Finding, Scene, scene_by, Happened, set_all, arguments_agree}
use Rattle.run_statements.specs.Pieces.{FormalsBefore}
use Rattle.run_statements.specs.Doing.{no_room_lem, entered, arguments-alike, call-is, number-differs, number_same, call-refused, call-agreed}
use Rattle.steps.specs.Finding.{by_first}
use Rattle.run_cells.specs.Finding.{ThroughFormal}
use Rattle.run_cells.specs.Calling.{word_after, call-stops, call_enters, call-formal-move}
use Rattle.run_cells.specs.Cells.{target-held}
use Rattle.search_names.specs.Seeking.{first_at}
use Rattle.search_calls.specs.Passing.{passers_by, steered, steered-call, AllHanded, Called, CalledFormal}
use Rattle.search_calls.specs.Reading.{own_read, held_whole, held-read}

module _ (code numbers blocks froms : List ℕ) (live : ℕ) (cells : List ℤ) (passers : List ℕ) (activations at : ℕ) where
  abbrev w : ℕ → ℕ
  w i = word_after code at i

  abbrev s : Scene
  s = scene_by code cells activations live at

  abbrev F : (ℕ → ℕ) → Finding
  F first_of = by_first cells first_of

  abbrev Calls : ℕ → ℕ → Move → List ℤ → List ℕ → Type 0
  Calls from body r cells' passers' = Called code numbers blocks froms live cells passers activations at from body r cells' passers'

  pub none-entered : (from body : ℕ) → activations ≤ live + 1 → Calls from body (Stop NoActivationLeft) cells passers
  unfolding passers_by
  none-entered from body h =
      record { move-is = call-stops code activations live at from body h; cells_are = λ first_of led home. (no_room_lem (F first_of) s h home body).1; passers-are = refl }

  pub body-entered :
      (from body : ℕ) {count : ℕ} {cells' : List ℤ} {passers' : List ℕ} → live + 1 < activations → count ≡ w 2 →
      AllHanded code numbers blocks froms live cells passers (at + 3) count cells' passers' → Calls from body (Enter body from (at + 3 + count)) cells' passers'
  unfolding passers_by
  body-entered from body {count} {cells'} {passers'} h e a =
      let b = subst (λ (n : ℕ). AllHanded code numbers blocks froms live cells passers (at + 3) n cells' passers') e a in
      record {
        move-is = call_enters code activations live at from body h e;
        cells_are = λ first_of led home.
            b.cells_are first_of led ∙ ap (set_all cells (32 * live + 32)) (arguments-alike (F first_of) code cells activations live (at + 3) at (at + 3) (w 2))
            ∙ (entered (F first_of) s h home body).1;
        passers-are = b.passers-are;
      }

  -- the body by its place as it was read
  pub called-as : (from : ℕ) {body to : ℕ} {r : Move} {cells' : List ℤ} {passers' : List ℕ} → body ≡ to → Calls from body r cells' passers' → Calls from to r cells' passers'
  called-as from {r} {cells'} {passers'} e c = subst (λ (b : ℕ). Calls from b r cells' passers') e c

  pub called-own : {label body : ℕ} {r : Move} {cells' : List ℤ} {passers' : List ℕ} → label ≡ w 1 → body ≡ target_in label → Calls live body r cells' passers' → Calls live (target_in (w 1)) r cells' passers'
  called-own read is c = called-as live (is ∙ ap target_in read) c

  -- through a formal, by its first cell and its position as they were read
  abbrev first : ℕ
  first = first_at numbers blocks froms live (at + 1)

  module _ {f v q : ℕ} (found : f ≡ first) (read : v ≡ w 1) (position : q ≡ position_in v) (through : ThroughFormal cells first (w 1)) (small : mag (get_or cells (f + q) (pos 0)) < 2147483648) where
    pub formal-whole : lt_z (to_z w32 (of_z w32 (get_or cells (f + q) (pos 0)))) (pos 0) ≡ false
    formal-whole = held_whole code numbers blocks froms live (at + 1) read found position cells small through

    module _ {h body : ℕ} (whole : to_z w32 (of_z w32 (get_or cells (f + q) (pos 0))) ≡ pos h) (leads : body ≡ lead_in h) where
      held : h ≡ held_by cells first (w 1)
      held = held-read code numbers blocks froms live (at + 1) read found position cells small whole

      abbrev Before : Type 0
      Before = FormalsBefore code (lead_in (held_by cells first (w 1)))

      stands : Before → FormalsBefore code body
      stands b = subst (FormalsBefore code) (sym (leads ∙ ap lead_in held)) b

      pub body-there : Before → body < 4096
      body-there b = (stands b).there

      body_is : (first_of : ℕ → ℕ) → first ≡ first_of (w 1) → body ≡ (F first_of).target (w 1)
      body_is first_of p = target-held cells first_of (w 1) p through.is held leads

      abbrev Through : Move → List ℤ → List ℕ → Type 0
      Through r cells' passers' = CalledFormal code numbers blocks froms live cells passers activations at r cells' passers'

      refused : ((first_of : ℕ → ℕ) → arguments_agree (F first_of) s body ≡ false) → Through (Stop ArgumentsDiffer) cells passers
      unfolding steered passers_by
      refused differ =
          record {
            move-is = λ first_of p. ap (steered (get_or passers (first + position_in (w 1)) 0)) (call-refused (F first_of) s (body_is first_of p) (differ first_of)).0;
            cells_are = λ first_of p led. (call-refused (F first_of) s (body_is first_of p) (differ first_of)).1;
            passers-are = refl;
          }

      module _ {head formals count : ℕ} (block : head ≡ get_or code body 0) (many : formals ≡ formals_in head) (asked : count ≡ w 2) where
        number : formals ≡ formals_in (get_or code body 0)
        number = many ∙ ap formals_in block

        pub number-refused : (formals ≡ count → ⊥) → Through (Stop ArgumentsDiffer) cells passers
        number-refused n = refused (λ first_of. number-differs (F first_of) s body (λ e. n (number ∙ e ∙ sym asked)))

        module _ (same : formals ≡ count) where
          pub formals-there : Before → 3 * count ≤ body
          formals-there b = omega (arith, (stands b).before, number, same)

          pub kinds-there : Before → body - 3 * count + 3 * count ≤ 4096
          kinds-there b = omega (arith, formals-there b, body-there b)

          module _ {a : Bool} (kinds : a ≡ same_kinds code (at + 3) (body - 3 * count) count) where
            agree : {t : Bool} → a ≡ t → (first_of : ℕ → ℕ) → arguments_agree (F first_of) s body ≡ t
            agree e first_of = number_same (F first_of) s body (sym number ∙ same ∙ asked) ∙ sym (rw asked at kinds) ∙ e

            pub kinds-refused : not a ≡ true → Through (Stop ArgumentsDiffer) cells passers
            kinds-refused t = refused (agree (not-true a t))

            pub called-held : not a ≡ false → {from : ℕ} {r : Move} {cells' : List ℤ} {passers' : List ℕ} → from ≡ get_or passers (f + q) 0
                → Calls from body r cells' passers' → Through r cells' passers'
            called-held t {from} {r} {cells'} {passers'} e c =
                let same = agree (not-false a t) in
                record {
                  move-is = λ first_of p.
                      c.move-is ∙ steered-call code activations live at from ((F first_of).home (w 1)) body
                      ∙ ap₂ steered (e ∙ ap (λ (k : ℕ). get_or passers k 0) (own_read code numbers blocks froms live (at + 1) read found position)) (call-formal-move (F first_of) s refl (body_is first_of p) (same first_of) refl);
                  cells_are = λ first_of p led.
                      c.cells_are first_of led ((F first_of).home (w 1)) ∙ ap (λ (x : Happened). x.cells) (call-is (F first_of) s refl (body_is first_of p) ∙ call-agreed (F first_of) s (body_is first_of p) (same first_of));
                  passers-are = c.passers-are;
                }
