-- What the statements' functions come to, from what they are answered on the way.
use Prim.Native.Nat.{ℕ, ◌+◌, ◌*◌, ◌-◌, ◌≤◌, ◌<◌}
use native.Mathlib.Omega.{arith}
use mathlib.Core.Bool.{Bool, true, false, not}
use mathlib.Core.List.{List}
use mathlib.Core.Path.{◌≡◌, refl, sym, ap, ◌∙◌, subst}
use borrow.Author.Tests.{not-true, not-false}
use lib.IntN.{ℤ, pos}
use lib.ListN.{get_or, set}
use lib.Signed.{mag}
use mir.Syntax.{w32}
use mir.Val.{to_z, of_z}
use Rattle.language.specs.Text.{Operation, plus, minus, less}
use Rattle.language.specs.Encoding.{signed}
use Rattle.language.specs.Machine.{compute}
use Rattle.language.specs.declared.Stop.TheVariants.{NoActivationLeft, ArgumentsDiffer}
use Rattle.run_moves.specs.declared.Ask.{Ask}
use Rattle.run_moves.specs.declared.Ask.TheVariants.{Query}
use Rattle.run_moves.specs.Effects.{Effect}
use Rattle.run_moves.specs.declared.Move.{Move}
use Rattle.run_moves.specs.declared.Move.TheVariants.{On, Table as Asks, Jump, Enter, Stop}
use Rattle.run_moves.specs.Effects.{effect_of, cells_of, same_kinds, handed_word}
use Rattle.run_moves.specs.Acting.{Finding, Scene, scene_by, Happened, set_all, arguments_from, operation_of}
use Rattle.run_moves.specs.Acting.{do_constant, do_arithmetic, do_goto, do_branch, do_call, arguments_agree, do_call_formal, do_change, do_query}
use Rattle.resolved.specs.Resolved.{direct, formal_in, position_in, target_in}
use Rattle.arrays.specs.Found.{held_by, cell_by}
use Rattle.resolved.specs.Layout.{activation_in, cell_in, lead_in, formals_in}
use Rattle.run_statements.specs.Pieces.{only-cells, move_after, entered_by}
use Rattle.run_statements.specs.Scenes.{Done}
use Rattle.run_statements.specs.Words.{read_back, is_zero, not-zero, is-direct, is-formal, cell-direct, cell-formal, home-direct, target-direct, home-formal, target-formal, held-is, handed-is}
use Rattle.run_statements.specs.Doing.{direct-cell, constant-done, is-plus, is-minus, is-less, arithmetic-done, compare-done, goto-done, branch-not, branch-goes}
use Rattle.run_statements.specs.Doing.{no_room_lem, entered, arguments-alike, arguments-end, arguments-next, kept-below, call-is, number-differs, number_same, call-refused, call-agreed, change-done, query-done}
use Rattle.display_step.specs.Finding.{first_cell, own_cell, next_first, by_display, Reachable, Direct, ThroughFormal, TwoNames, Operands, ArgumentsReachable}

-- Names

module _ (cells : List ℤ) (first w : ℕ) where
  pub own-found : {f c : ℕ} → f ≡ formal_in w → f ≡ 0 → c ≡ first + position_in w → c ≡ cell_by cells first w
  own-found e z p = p ∙ sym (cell-direct cells first w (is-direct w (sym e ∙ z)))

  pub held_found : {f h c : ℕ} → f ≡ formal_in w → (f ≡ 0 → ⊥) → h ≡ held_by cells first w → c ≡ cell_in h → c ≡ cell_by cells first w
  held_found e d p q = q ∙ ap (λ (n : ℕ). cell_in n) p ∙ sym (cell-formal cells first w (is-formal w (λ z. d (e ∙ z))))

module _ (cells : List ℤ) (display : List ℕ) (w : ℕ) where
  -- what a formal's cell holds, as it was read
  pub held-read : {own n : ℕ} → mag (get_or cells own (pos 0)) < 2147483648 → own ≡ own_cell display w → to_z w32 (of_z w32 (get_or cells own (pos 0))) ≡ pos n
      → n ≡ held_by cells (first_cell display w) w
  held-read small is read = sym (held-is cells (first_cell display w) w (rw (read_back _ small, is) at read))

module _ {cells : List ℤ} {display : List ℕ} {w v : ℕ} (e : v ≡ w) where
  -- by a word as it was read
  pub through : {f : ℕ} → f ≡ formal_in v → (f ≡ 0 → ⊥) → Reachable cells display w → ThroughFormal cells display w
  through p d r = record { reachable = r; is = sym (ap direct e) ∙ is-formal v (λ z. d (p ∙ z)) }

-- Statements

module _ (code : List ℕ) (cells : List ℤ) (display : List ℕ) (at : ℕ) where
  abbrev F : Finding
  F = by_display cells display

  abbrev o : Scene
  o = only-cells code cells at

  abbrev w : ℕ → ℕ
  w i = get_or code (at + i) 0

  abbrev first : ℕ
  first = first_cell display (w 1)

  own : (i : ℕ) {c : ℕ} → c ≡ own_cell display (w i) → Direct cells display (w i) → c ≡ F.cell (w i)
  own i p d = direct-cell cells (first_cell display (w i)) (w i) p d.is

  -- KN
  pub constant-found : {c : ℕ} {m : Move} {ws : List ℤ} → c ≡ F.cell (w 1) → m ≡ On (at + 4) → ws ≡ set cells c (signed (w 2)) → Done (do_constant F o) m ws
  constant-found p q r = let d = constant-done F o p r in (q ∙ d.0, d.1)

  pub constant-own : {c : ℕ} {m : Move} {ws : List ℤ} → c ≡ own_cell display (w 1) → Direct cells display (w 1) → m ≡ On (at + 4)
      → ws ≡ set cells c (signed (w 2)) → Done (do_constant F o) m ws
  constant-own p d q r = constant-found (own 1 p d) q r

  -- AR
  abbrev result : Operation → ℕ → ℕ → ℤ
  result p l r = compute p (get_or cells l (pos 0)) (get_or cells r (pos 0))

  module _ {t l r : ℕ} {m : Move} {e : Effect} {ws : List ℤ} where
    pub sum-own : (p : Operation) → t ≡ own_cell display (w 1) → l ≡ own_cell display (w 3) → r ≡ own_cell display (w 4) → Operands (Direct cells display) code at
        → m ≡ move_after e (at + 5) → e ≡ effect_of (result p l r) → ws ≡ cells_of cells t (result p l r) → Done (do_arithmetic F o p) m ws
    sum-own p t l r d = arithmetic-done F o p (own 1 t d.target) (own 3 l d.left) (own 4 r d.right)

    module _ {n : ℕ} (read : n ≡ w 2) where
      pub sum-found : n ≡ 0 → t ≡ F.cell (w 1) → l ≡ F.cell (w 3) → r ≡ F.cell (w 4)
          → m ≡ move_after e (at + 5) → e ≡ effect_of (result plus l r) → ws ≡ cells_of cells t (result plus l r) → Done (do_arithmetic F o (operation_of (w 2))) m ws
      sum-found z t l r q a b = rw (is-plus (sym read ∙ z)) (arithmetic-done F o plus t l r q a b)

      pub difference-found : n ≡ 1 → t ≡ F.cell (w 1) → l ≡ F.cell (w 3) → r ≡ F.cell (w 4)
          → m ≡ move_after e (at + 5) → e ≡ effect_of (result minus l r) → ws ≡ cells_of cells t (result minus l r) → Done (do_arithmetic F o (operation_of (w 2))) m ws
      difference-found z t l r q a b = rw (is-minus (sym read ∙ z)) (arithmetic-done F o minus t l r q a b)

  module _ {t l r : ℕ} {ws : List ℤ} where
    pub less-own : t ≡ own_cell display (w 1) → l ≡ own_cell display (w 3) → r ≡ own_cell display (w 4) → Operands (Direct cells display) code at
        → ws ≡ set cells t (result less l r) → Done (do_arithmetic F o less) (On (at + 5)) ws
    less-own t l r d = compare-done F o (own 1 t d.target) (own 3 l d.left) (own 4 r d.right)

    pub less-found : {n : ℕ} → n ≡ w 2 → (n ≡ 0 → ⊥) → (n ≡ 1 → ⊥) → t ≡ F.cell (w 1) → l ≡ F.cell (w 3) → r ≡ F.cell (w 4)
        → ws ≡ set cells t (result less l r) → Done (do_arithmetic F o (operation_of (w 2))) (On (at + 5)) ws
    less-found read a b t l r q = rw (is-less (w 2) (λ e. a (read ∙ e)) (λ e. b (read ∙ e))) (compare-done F o t l r q)

  -- GO
  jumps : {m : Move} → direct (w 1) ≡ true → m ≡ Jump (activation_in first) (target_in (w 1)) → m ≡ (do_goto F o).move
  jumps d q = q ∙ goto-done F o (sym (home-direct cells first (w 1) d)) (sym (target-direct cells first (w 1) d))

  module _ {label h : ℕ} (read : label ≡ w 1) (is : h ≡ held_by cells (first_cell display label) label) (d : ThroughFormal cells display (w 1)) where
    held : h ≡ held_by cells first (w 1)
    held = rw read at is

    home-held : activation_in (cell_in h) ≡ F.home (w 1)
    home-held = ap (λ (n : ℕ). activation_in (cell_in n)) held ∙ sym (home-formal cells first (w 1) d.is)

    target-held : lead_in h ≡ F.target (w 1)
    target-held = ap (λ (n : ℕ). lead_in n) held ∙ sym (target-formal cells first (w 1) d.is)

    pub goto-held : {c home place : ℕ} → c ≡ cell_in h → home ≡ activation_in c → place ≡ lead_in h → Jump home place ≡ (do_goto F o).move
    goto-held p q r = goto-done F o (q ∙ ap (λ (n : ℕ). activation_in n) p ∙ home-held) (r ∙ target-held)

  -- IF
  module _ {c : ℕ} (few : mag (get_or cells c (pos 0)) < 2147483648) where
    pub stays-found : c ≡ F.cell (w 2) → of_z w32 (get_or cells c (pos 0)) ≡ 0 → On (at + 3) ≡ (do_branch F o).move
    stays-found p z = branch-not F o p (is_zero _ few z)

    pub stays-own : c ≡ own_cell display (w 2) → TwoNames (Direct cells display) code at → of_z w32 (get_or cells c (pos 0)) ≡ 0 → On (at + 3) ≡ (do_branch F o).move
    stays-own p d z = stays-found (own 2 p d.second) z

    module _ {m : Move} (other : of_z w32 (get_or cells c (pos 0)) ≡ 0 → ⊥) where
      pub goes-own : c ≡ own_cell display (w 2) → TwoNames (Direct cells display) code at → m ≡ Jump (activation_in first) (target_in (w 1)) → m ≡ (do_branch F o).move
      goes-own p d q = jumps d.first.is q ∙ branch-goes F o (own 2 p d.second) (not-zero _ few other)

      pub goes-direct : c ≡ F.cell (w 2) → {label f : ℕ} → label ≡ w 1 → f ≡ formal_in label → f ≡ 0 → m ≡ Jump (activation_in first) (target_in (w 1)) → m ≡ (do_branch F o).move
      goes-direct p {label} read e z q = jumps (sym (ap direct read) ∙ is-direct label (sym e ∙ z)) q ∙ branch-goes F o p (not-zero _ few other)

      pub goes-found : c ≡ F.cell (w 2) → m ≡ (do_goto F o).move → m ≡ (do_branch F o).move
      goes-found p q = q ∙ branch-goes F o p (not-zero _ few other)

  -- AD, RM and QY
  pub change-found : (a : Ask) {g m : ℕ} → g ≡ F.cell (w 1) → m ≡ F.cell (w 2) → Asks (at + 3) g m 0 a ≡ (do_change F o a).move
  change-found a p q = change-done F o a p q

  pub query-found : {t g m : ℕ} → t ≡ F.cell (w 1) → g ≡ F.cell (w 2) → m ≡ F.cell (w 3) → Asks (at + 4) g m t Query ≡ (do_query F o).move
  query-found p q r = query-done F o p q r

  -- CL
  module _ (activations live : ℕ) where
    abbrev s : Scene
    s = scene_by code cells activations live at

    pub none-entered : (home body : ℕ) → activations ≤ live + 1 → Done (entered_by F s home body) (Stop NoActivationLeft) cells
    none-entered home body h = no_room_lem F s h home body

    pub body-entered :
        (home body : ℕ) {count : ℕ} {ws : List ℤ} → live + 1 < activations → count ≡ w 2 →
        ws ≡ set_all cells (next_first live) (arguments_from F (only-cells code cells (at + 3)) (at + 3) count) →
        Done (entered_by F s home body) (Enter body home (at + 3 + count)) ws
    body-entered home body h k e =
        let d = entered F s h home body in
        let same = arguments-alike F code cells activations live (at + 3) at (at + 3) (w 2) in
        (rw k d.0, (rw k at e) ∙ ap (set_all cells (next_first live)) same ∙ d.1)

    module _ {home body : ℕ} {m : Move} {ws : List ℤ} (did : Done (entered_by F s home body) m ws) where
      pub called-own : {label f : ℕ} → label ≡ w 1 → f ≡ first_cell display label → home ≡ activation_in f → body ≡ target_in label
          → Direct cells display (w 1) → Done (do_call F s) m ws
      called-own read first-is home-is body_is d =
          let h = home-is ∙ ap (λ (n : ℕ). activation_in n) (rw read at first-is) ∙ sym (home-direct cells first (w 1) d.is) in
          let b = body_is ∙ ap (λ (n : ℕ). target_in n) read ∙ sym (target-direct cells first (w 1) d.is) in
          subst (λ (x : Happened). Done x m ws) (call-is F s h b) did

    -- the procedure is a formal's
    module _ {label h body : ℕ} (read : label ≡ w 1) (is : h ≡ held_by cells (first_cell display label) label) (d : ThroughFormal cells display (w 1))
        (leads : body ≡ lead_in h) where
      body_is : body ≡ F.target (w 1)
      body_is = leads ∙ target-held read is d

      module _ {head formals count : ℕ} (block : head ≡ get_or code body 0) (many : formals ≡ formals_in head) (asked : count ≡ w 2) where
        number : formals ≡ formals_in (get_or code body 0)
        number = many ∙ ap (λ (n : ℕ). formals_in n) block

        pub number-refused : (formals ≡ count → ⊥) → Done (do_call_formal F s) (Stop ArgumentsDiffer) cells
        number-refused n = call-refused F s body_is (number-differs F s body (λ e. n (number ∙ e ∙ sym asked)))

        module _ (same : formals ≡ count) {a : Bool} (kinds : a ≡ same_kinds code (at + 3) (body - 3 * count) count) where
          agree : {t : Bool} → a ≡ t → arguments_agree F s body ≡ t
          agree e = number_same F s body (sym number ∙ same ∙ asked) ∙ sym (rw asked at kinds) ∙ e

          pub kinds-refused : not a ≡ true → Done (do_call_formal F s) (Stop ArgumentsDiffer) cells
          kinds-refused t = call-refused F s body_is (agree (not-true a t))

          pub called-held : not a ≡ false → {c home : ℕ} → c ≡ cell_in h → home ≡ activation_in c
              → {m : Move} {ws : List ℤ} → Done (entered_by F s home body) m ws → Done (do_call_formal F s) m ws
          called-held t p q {m} {ws} did =
              let e = q ∙ ap (λ (n : ℕ). activation_in n) p ∙ home-held read is d in
              subst (λ (x : Happened). Done x m ws) (call-is F s e body_is ∙ call-agreed F s body_is (agree (not-false a t))) did

-- Arguments handed on: those still to come give all of them, and what lies below the next activation is as it was

pub record Handing (code : List ℕ) (cells : List ℤ) (display : List ℕ) (live at count : ℕ) (now : List ℤ) (i : ℕ) : Type 0 where
  few : i ≤ count
  kept : (k : ℕ) → k < next_first live → get_or now k (pos 0) ≡ get_or cells k (pos 0)
  rest : set_all now (next_first live + i) (arguments_from (by_display cells display) (only-cells code cells at) (at + i) (count - i)) ≡
      set_all cells (next_first live) (arguments_from (by_display cells display) (only-cells code cells at) at count)

module _ {code : List ℕ} {cells : List ℤ} {display : List ℕ} {live at count : ℕ} where
  pub handing-start : Handing code cells display live at count cells 0
  handing-start =
      let f : next_first live + 0 ≡ next_first live = omega arith in
      let p : at + 0 ≡ at = omega arith in
      let n : count - 0 ≡ count = omega arith in
      record { few = omega arith; kept = λ k h. refl; rest = rw (f, p, n) }

  module _ {now : List ℤ} {i : ℕ} (done : Handing code cells display live at count now i) where
    pub handing-end : count ≤ i → now ≡ set_all cells (next_first live) (arguments_from (by_display cells display) (only-cells code cells at) at count)
    handing-end h = arguments-end (by_display cells display) (only-cells code cells at) now (next_first live) at count i h ∙ done.rest

    -- the next argument, by its word and its own cell as they were read
    module _ {v c : ℕ} (more : i < count) (reachable : ArgumentsReachable code display live at count) (read : v ≡ get_or code (at + i) 0) (own : c ≡ own_cell display v) where
      below : c < next_first live
      below = let e = rw read at own in omega (arith, e, reachable.below i more)

      pub cell_below : live ≤ 254 → c < 8192
      cell_below h = omega (arith, below)

      pub handing-step : {z : ℤ} → mag z < 2147483648 → z ≡ handed_word now v c
          → Handing code cells display live at count (set now (next_first live + i) (to_z w32 (of_z w32 z))) (i + 1)
      handing-step {z} small is =
          let u = get_or code (at + i) 0 in
          let e = rw read at own in
          let l : own_cell display u < next_first live = reachable.below i more in
          let h = rw (own, read) at is in
          let q = read_back z small ∙ h ∙ handed-is cells (first_cell display u) u now (done.kept (own_cell display u) l) in
          record {
            few = omega arith;
            kept = kept-below now cells (next_first live) i _ done.kept;
            rest = arguments-next (by_display cells display) (only-cells code cells at) now (next_first live) at count i more q ∙ done.rest;
          }
