-- What each statement comes to, from what its function has done: the definitions of Acting, by any way of finding names.
use Prim.Native.Nat.{ℕ, zero, suc, ◌+◌, ◌*◌, ◌-◌, ◌≤◌, ◌<◌}
use native.Mathlib.Omega.{arith}
use Rattle.std.specs.Prelude.{Bool, List, ◌∷◌, ◌≡◌, ltb, ℤ, pos}
use Rattle.std.proofs.Math.Bool.{true, false}
use Rattle.std.proofs.Math.Path.{refl, sym, ap, ap₂}
use Rattle.std.proofs.Common.{◌∙◌, get_or-set_other}
use borrow.Author.Tests.{eq-eqb, ne_eqb, le-leb, lt-leb}
use Rattle.std.proofs.Math.ListN.{get_or, set}
use Rattle.std.specs.Int.Signed.{mag, lt_z}
use Rattle.language.specs.Basics.{eq_z}
use Rattle.language.specs.Text.{Operation, plus, minus, less}
use Rattle.language.specs.Encoding.{signed}
use Rattle.language.specs.Machine.{compute}
use Rattle.language.specs.declared.Stop.TheVariants.{NoActivationLeft, ArgumentsDiffer}
use Rattle.run_moves.specs.Effects.{Effect}
use Rattle.std.specs.Prelude.{Ok, Err}
use Rattle.run_moves.specs.declared.Ask.{Ask}
use Rattle.run_moves.specs.declared.Ask.TheVariants.{Query}
use Rattle.run_moves.specs.declared.Move.{Move}
use Rattle.run_moves.specs.declared.Move.TheVariants.{On, Table as Asks, Jump, Enter, Stop}
use Rattle.run_moves.specs.Effects.{effect_of, cells_of, same_kinds}
use Rattle.run_moves.specs.Acting.{Finding, Scene, field, moves, rewrites, set_all, value_of, do_constant, arithmetic_move, do_arithmetic, operation_of}
use Rattle.run_moves.specs.Acting.{do_goto, do_branch, no_room, arguments_from, do_call, arguments_agree, do_call_formal, do_change, do_query}
use Rattle.resolved.specs.Resolved.{direct, position_in}
use Rattle.arrays.specs.Found.{cell_by}
use Rattle.run_moves.specs.Acting.{scene_by}
use Rattle.resolved.specs.Layout.{formals_in, end_in}
use Rattle.run_statements.specs.Pieces.{only-cells, move_after, block_move, entered_by}
use Rattle.run_statements.specs.Words.{cell-direct}

-- For any way of finding names

module _ (F : Finding) (s : Scene) where
  -- KN
  pub constant-done :
      {target : ℕ} {ws : List ℤ} → target ≡ F.cell (field s 1) → ws ≡ set s.cells target (signed (field s 2)) →
      (On (s.at + 4) ≡ (do_constant F s).move) × (ws ≡ (do_constant F s).cells)
  unfolding do_constant rewrites
  constant-done e f = (refl, f ∙ ap (λ (c : ℕ). set s.cells c (signed (field s 2))) e)

  -- AR
  after : (e : Effect) → move_after e (s.at + 5) ≡ arithmetic_move F s e
  unfolding move_after arithmetic_move
  after (Ok u) = refl
  after (Err c) = refl

  abbrev pub result : Operation → ℕ → ℕ → ℤ
  result o left right = compute o (get_or s.cells left (pos 0)) (get_or s.cells right (pos 0))

  pub arithmetic-done :
      (o : Operation) {target left right : ℕ} {m : Move} {e : Effect} {ws : List ℤ} →
      target ≡ F.cell (field s 1) → left ≡ F.cell (field s 3) → right ≡ F.cell (field s 4) →
      m ≡ move_after e (s.at + 5) → e ≡ effect_of (result o left right) → ws ≡ cells_of s.cells target (result o left right) →
      (m ≡ (do_arithmetic F s o).move) × (ws ≡ (do_arithmetic F s o).cells)
  unfolding do_arithmetic rewrites
  arithmetic-done o {target} {left} {right} {e} p q r m f ws =
      let z : result o left right ≡ compute o (value_of F s (field s 3)) (value_of F s (field s 4)) = ap₂ (λ (a b : ℕ). result o a b) q r in
      (m ∙ after e ∙ ap (arithmetic_move F s) (f ∙ ap effect_of z), ws ∙ ap₂ (cells_of s.cells) p z)

  less-small : (a b : ℤ) (t : Bool) → lt_z a b ≡ t → ltb (mag (compute less a b)) 2147483648 ≡ true
  unfolding compute
  less-small a b true e = rw (compute, e)
  less-small a b false e = rw (compute, e)

  less_done : (a b : ℤ) → Ok tt ≡ effect_of (compute less a b)
  unfolding effect_of
  less_done a b = rw (effect_of, less-small a b (lt_z a b) refl)

  less-words : (ws : List ℤ) (c : ℕ) (a b : ℤ) → set ws c (compute less a b) ≡ cells_of ws c (compute less a b)
  unfolding cells_of
  less-words ws c a b = rw (cells_of, less-small a b (lt_z a b) refl)

  pub compare-done :
      {target left right : ℕ} {ws : List ℤ} →
      target ≡ F.cell (field s 1) → left ≡ F.cell (field s 3) → right ≡ F.cell (field s 4) → ws ≡ set s.cells target (result less left right) →
      (On (s.at + 5) ≡ (do_arithmetic F s less).move) × (ws ≡ (do_arithmetic F s less).cells)
  unfolding move_after
  compare-done {target} {left} {right} p q r ws =
      let a = get_or s.cells left (pos 0) in
      let b = get_or s.cells right (pos 0) in
      arithmetic-done less p q r refl (less_done a b) (ws ∙ less-words s.cells target a b)

  -- GO
  pub goto-done : {home place : ℕ} → home ≡ F.home (field s 1) → place ≡ F.target (field s 1) → Jump home place ≡ (do_goto F s).move
  unfolding do_goto moves
  goto-done p q = ap₂ Jump p q

  -- IF
  same_test : {c : ℕ} {t : Bool} → c ≡ F.cell (field s 2) → eq_z (get_or s.cells c (pos 0)) (pos 0) ≡ t → eq_z (value_of F s (field s 2)) (pos 0) ≡ t
  same_test p e = sym (ap (λ (c : ℕ). eq_z (get_or s.cells c (pos 0)) (pos 0)) p) ∙ e

  pub branch-not : {c : ℕ} → c ≡ F.cell (field s 2) → eq_z (get_or s.cells c (pos 0)) (pos 0) ≡ true → On (s.at + 3) ≡ (do_branch F s).move
  unfolding do_branch moves
  branch-not p e = let f = same_test p e in rw (do_branch, f)

  pub branch-goes : {c : ℕ} → c ≡ F.cell (field s 2) → eq_z (get_or s.cells c (pos 0)) (pos 0) ≡ false → (do_goto F s).move ≡ (do_branch F s).move
  unfolding do_branch
  branch-goes p e = let f = same_test p e in rw (do_branch, f)

  -- CL
  pub no_room_lem :
      s.activations ≤ s.live + 1 → (home body : ℕ) →
      (Stop NoActivationLeft ≡ (entered_by F s home body).move) × (s.cells ≡ (entered_by F s home body).cells)
  unfolding entered_by no_room moves
  no_room_lem h home body = let e = le-leb s.activations (s.live + 1) h in (rw (entered_by, e), rw (entered_by, e))

  pub entered :
      s.live + 1 < s.activations → (home body : ℕ) →
      (Enter body home (s.at + 3 + field s 2) ≡ (entered_by F s home body).move) ×
      (set_all s.cells (32 * s.live + 32) (arguments_from F s (s.at + 3) (field s 2)) ≡ (entered_by F s home body).cells)
  unfolding entered_by no_room rewrites
  entered h home body = let e = lt-leb s.activations (s.live + 1) h in (rw (entered_by, e), rw (entered_by, e))

  pub call-is : {home body : ℕ} → home ≡ F.home (field s 1) → body ≡ F.target (field s 1) → entered_by F s home body ≡ do_call F s
  unfolding entered_by do_call
  call-is p q = ap₂ (entered_by F s) p q

  -- 26
  pub number-differs : (body : ℕ) → (formals_in (get_or s.code body 0) ≡ field s 2 → ⊥) → arguments_agree F s body ≡ false
  unfolding arguments_agree
  number-differs body d = rw (arguments_agree, ne_eqb _ _ d)

  pub number_same :
      (body : ℕ) → formals_in (get_or s.code body 0) ≡ field s 2 →
      arguments_agree F s body ≡ same_kinds s.code (s.at + 3) (body - 3 * field s 2) (field s 2)
  unfolding arguments_agree
  number_same body e = rw (arguments_agree, eq-eqb _ _ e)

  pub call-refused :
      {body : ℕ} → body ≡ F.target (field s 1) → arguments_agree F s body ≡ false →
      (Stop ArgumentsDiffer ≡ (do_call_formal F s).move) × (s.cells ≡ (do_call_formal F s).cells)
  unfolding do_call_formal moves
  call-refused p e = let f = sym (ap (arguments_agree F s) p) ∙ e in (rw (do_call_formal, f), rw (do_call_formal, f))

  pub call-agreed : {body : ℕ} → body ≡ F.target (field s 1) → arguments_agree F s body ≡ true → do_call F s ≡ do_call_formal F s
  unfolding do_call_formal
  call-agreed p e = let f = sym (ap (arguments_agree F s) p) ∙ e in rw (do_call_formal, f)

  -- AD, RM and QY
  pub change-done : (a : Ask) {group member : ℕ} → group ≡ F.cell (field s 1) → member ≡ F.cell (field s 2) → Asks (s.at + 3) group member 0 a ≡ (do_change F s a).move
  unfolding do_change moves
  change-done a p q = ap₂ (λ (g m : ℕ). Asks (s.at + 3) g m 0 a) p q

  pub query-done : {group member target : ℕ} → target ≡ F.cell (field s 1) → group ≡ F.cell (field s 2) → member ≡ F.cell (field s 3) →
      Asks (s.at + 4) group member target Query ≡ (do_query F s).move
  unfolding do_query moves
  query-done t p q = λ i. Asks (s.at + 4) (p i) (q i) (t i) Query

-- A name that is no formal has its own cell

pub direct-cell : (cells : List ℤ) (first w : ℕ) {c : ℕ} → c ≡ first + position_in w → direct w ≡ true → c ≡ cell_by cells first w
direct-cell cells first w p d = p ∙ sym (cell-direct cells first w d)

-- BK
module _ (code : List ℕ) (activations live at : ℕ) where
  pub block-stops : activations ≤ live + 1 → Stop NoActivationLeft ≡ block_move code activations live at
  unfolding block_move
  block-stops h = let e = le-leb activations (live + 1) h in rw (block_move, e)

  pub block-enters : live + 1 < activations → {word end : ℕ} → word ≡ get_or code (at + 1) 0 → end ≡ end_in word → Enter at live end ≡ block_move code activations live at
  unfolding block_move
  block-enters h w b = let e = lt-leb activations (live + 1) h in ap (Enter at live) (b ∙ ap end_in w) ∙ rw (block_move, e)

-- AR's operation
pub is-plus : {n : ℕ} → n ≡ 0 → operation_of n ≡ plus
unfolding operation_of
is-plus e = ap operation_of e

pub is-minus : {n : ℕ} → n ≡ 1 → operation_of n ≡ minus
unfolding operation_of
is-minus e = ap operation_of e

pub is-less : (n : ℕ) → (n ≡ 0 → ⊥) → (n ≡ 1 → ⊥) → operation_of n ≡ less
unfolding operation_of
is-less zero d e = absurd (d refl)
is-less (suc zero) d e = absurd (e refl)
is-less (suc (suc n)) d e = refl

-- Arguments, which do not depend on anything but the script's words

pub arguments-alike :
    (F : Finding) (code : List ℕ) (cells : List ℤ) (activations live at at' from n : ℕ) →
    arguments_from F (only-cells code cells at) from n ≡ arguments_from F (scene_by code cells activations live at') from n
unfolding arguments_from
arguments-alike F code cells activations live at at' from zero = refl
arguments-alike F code cells activations live at at' from (suc n) =
    ap (λ (zs : List ℤ). F.handed (get_or code from 0) ∷ zs) (arguments-alike F code cells activations live at at' (from + 1) n)

module _ (F : Finding) (s : Scene) (ws : List ℤ) (first at count i : ℕ) where
  pub arguments-end : count ≤ i → ws ≡ set_all ws (first + i) (arguments_from F s (at + i) (count - i))
  unfolding set_all arguments_from
  arguments-end h = let e : count - i ≡ 0 = omega arith in rw (e, arguments_from, set_all)

  pub arguments-next :
      i < count → {z : ℤ} → z ≡ F.handed (get_or s.code (at + i) 0) →
      set_all (set ws (first + i) z) (first + (i + 1)) (arguments_from F s (at + (i + 1)) (count - (i + 1))) ≡ set_all ws (first + i)
      (arguments_from F s (at + i) (count - i))
  unfolding set_all arguments_from
  arguments-next h p =
      let e : count - i ≡ suc (count - (i + 1)) = omega arith in
      let a : at + (i + 1) ≡ at + i + 1 = omega arith in
      let f : first + (i + 1) ≡ first + i + 1 = omega arith in
      rw (p, a, f, e, arguments_from, set_all)

pub kept-below :
    (ws vs : List ℤ) (first i : ℕ) (z : ℤ) → ((k : ℕ) → k < first → get_or ws k (pos 0) ≡ get_or vs k (pos 0)) → (k : ℕ) → k < first →
    get_or (set ws (first + i) z) k (pos 0) ≡ get_or vs k (pos 0)
kept-below ws vs first i z kept k h = get_or-set_other ws (first + i) k z (pos 0) (λ e. omega arith) ∙ kept k h
