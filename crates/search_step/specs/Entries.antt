-- Which statements enter: BK and CL alone (`entering-op`). `steered-entry`: where the search goes on from the activation that is entered and what its
-- formals' passers are, as the engine has them, is as the stack and its texts say.
use Rattle.std.specs.Prelude.{ℕ, suc, pred, ◌+◌, ◌*◌, ◌≤◌, ◌<◌, Bool, true, List, ◌≡◌, ℤ, pos, length}
use native.Mathlib.Omega.{arith}
use Rattle.std.proofs.Math.Bool.{false}
use Rattle.std.proofs.Math.Option.{some}
use Rattle.std.proofs.Math.Path.{refl, sym, ap, subst}
use Rattle.std.proofs.Common.{◌∙◌}
use Rattle.std.proofs.Math.ListN.{get_or}
use Rattle.language.specs.Basics.{eq_z}
use Rattle.language.specs.Text.{Operation, Stmt}
use Rattle.laws.specs.Tests.{split, never}
use Rattle.frames.specs.Frame.{frame_stmt}
use Rattle.coordinates.specs.Chain.{enclosure_of}
use Rattle.coordinates.specs.Enclosure.{Enclosure}
use Rattle.f_search.specs.Search.{onward}
use Rattle.resolved.specs.Resolved.{position_in}
use Rattle.run_moves.specs.Effects.{Effect as Kept}
use Rattle.std.specs.Prelude.{Ok, Err}
use Rattle.run_moves.specs.declared.Move.{Move}
use Rattle.run_moves.specs.declared.Move.TheVariants.{On, Table as Asks, Jump, Enter, Stop}
use Rattle.run_moves.specs.Effects.{effect_of}
use Rattle.run_moves.specs.Acting.{Finding, Scene, moves, rewrites, value_of, field, arithmetic_move, do_constant, do_arithmetic, do_goto, do_branch, do_change, do_query, happens, acting}
use Rattle.run_moves.specs.Acting.{Op, constant-op, add-op, subtract-op, compare-op, branch-op, goto-op, block-op, call-op, pair-op, unpair-op, query-op, constant-formal-op, arithmetic-formal-op, branch-formal-op, goto-formal-op, call-formal-op, op_of}
use Rattle.steps.specs.Standing.{Standing}
use Rattle.steps.specs.Means.{EntersAt}
use Rattle.steps.specs.Here.{next-stmt, covered}
use Rattle.steps.specs.Ops.{OpIs, op-is}
use Rattle.steps.specs.Fields as fields
use Rattle.steps.specs.Finding.{first_by_links, reached-by-links}
use Rattle.run_state.specs.declared.Registers.{Registers}
use Rattle.run_state.specs.Limits.{limits_by}
use Rattle.search_names.specs.Seeking.{first_at}
use Rattle.search_calls.specs.Passing.{field_own, all_passed, handed_on, passer-declared, passer-formal}
use Rattle.search_moves.specs.Running.{Passers, Running}
use Rattle.search_moves.specs.Steering.{frames_after, HandedOn, steer-block, passed-block, steer-call, steer-formal, passed-call}
use Rattle.search_moves.specs.Sought.{LedAt, Led, led}
use Rattle.search_step.specs.Acted.{from_by, entered_passers}
use Rattle.search_step.specs.Handed.{all-length, all-below, all-at}

unfoldable enters : Move → Bool
enters (On p) = false
enters (Asks p g m t a) = false
enters (Jump h p) = false
enters (Enter b h p) = true
enters (Stop c) = false

abbrev pub Entering : Op → Type 0
Entering constant-op = ⊥
Entering add-op = ⊥
Entering subtract-op = ⊥
Entering compare-op = ⊥
Entering branch-op = ⊥
Entering goto-op = ⊥
Entering block-op = Unit {0}
Entering call-op = Unit {0}
Entering pair-op = ⊥
Entering unpair-op = ⊥
Entering query-op = ⊥
Entering constant-formal-op = ⊥
Entering arithmetic-formal-op = ⊥
Entering branch-formal-op = ⊥
Entering goto-formal-op = ⊥
Entering call-formal-op = Unit {0}

module _ (F : Finding) (s : Scene) where
  sum-stays : (o : Operation) → enters (do_arithmetic F s o).move ≡ false
  unfolding do_arithmetic rewrites arithmetic_move enters
  sum-stays o = go (effect_of _)
    where
      go : (e : Kept) → enters (arithmetic_move F s e) ≡ false
      go (Ok u) = refl
      go (Err c) = refl

  goto-stays : enters (do_goto F s).move ≡ false
  unfolding do_goto moves enters
  goto-stays = refl

  branch-stays : enters (do_branch F s).move ≡ false
  unfolding do_branch do_goto moves enters
  branch-stays = split (eq_z (value_of F s (field s 2)) (pos 0)) (λ t. rw (do_branch, t) refl) (λ t. rw (do_branch, t) refl)

  entering-op : (o : Op) → enters (happens F s o).move ≡ true → Entering o
  unfolding happens do_constant rewrites do_change do_query moves enters
  entering-op constant-op e = never e refl
  entering-op add-op e = never e (sum-stays _)
  entering-op subtract-op e = never e (sum-stays _)
  entering-op compare-op e = never e (sum-stays _)
  entering-op branch-op e = never e branch-stays
  entering-op goto-op e = never e goto-stays
  entering-op block-op e = tt
  entering-op call-op e = tt
  entering-op pair-op e = never e refl
  entering-op unpair-op e = never e refl
  entering-op query-op e = never e refl
  entering-op constant-formal-op e = never e refl
  entering-op arithmetic-formal-op e = never e (sum-stays _)
  entering-op branch-formal-op e = never e branch-stays
  entering-op goto-formal-op e = never e goto-stays
  entering-op call-formal-op e = tt

  pub enters-by : (body home back : ℕ) → (acting F s).move ≡ Enter body home back → Entering (op_of (get_or s.code s.at 0))
  unfolding acting enters
  enters-by body home back e =
      let z : s.at + 0 ≡ s.at = omega arith in
      subst (λ i. Entering (op_of (get_or s.code i 0))) z (entering-op (op_of (field s 0)) (ap enters e))

module _ {code numbers : List ℕ} {activations limit : ℕ} {cells : List ℤ} {passers blocks nexts froms : List ℕ} {table : List ℤ} {here : Registers}
    (w : Running code numbers activations limit cells passers blocks nexts froms table here) (before : here.at ≡ here.end → ⊥) where
  abbrev st : Standing code (limits_by activations limit) cells blocks nexts w.links table here.pairs here.live here.at here.end
  st = w.standing

  abbrev live : ℕ
  live = here.live

  abbrev at : ℕ
  at = here.at

  abbrev around : Enclosure
  around = enclosure_of st.stack.frames (length st.stack.frames)

  -- the arguments' own cells are below the next activation's

  reached : (i : ℕ) → fields.FieldName st i → LedAt w i → field_own code numbers blocks froms live (at + i) < 32 * live + 32
  reached i f l =
      let r = reached-by-links st f.name f.resolved in
      let own = subst (λ v. first_by_links st v + position_in v < 32 * live + 32) (sym f.word) r.own in
      subst (λ a. a + position_in (get_or code (at + i) 0) < 32 * live + 32) (sym l) own

  abbrev arguments : ℕ
  arguments = get_or code (at + 2) 0

  handed : live + 2 ≤ 256 → fields.Arguments st → ((i : ℕ) → i < arguments → LedAt w (3 + i)) → HandedOn w (handed_on code numbers blocks froms live passers at)
  handed deep a l =
      let to = 32 * live + 32 in
      let place : (i : ℕ) → at + (3 + i) ≡ at + 3 + i = λ i. omega arith in
      let next : (i : ℕ) → 32 * (live + 1) + i ≡ to + i = λ i. omega arith in
      let below : (i : ℕ) → i < arguments → field_own code numbers blocks froms live (at + 3 + i) < to =
      λ i h. subst (λ p. field_own code numbers blocks froms live p < to) (place i) (reached (3 + i) (a.each i h) (l i h)) in
      let room : to + arguments ≤ length passers = omega (arith, deep, a.many, w.passers-long) in
      record {
        kept = λ c h. all-below code numbers blocks froms live arguments passers (at + 3) to c (omega arith);
        declared = λ i h k d.
            ap (λ c. get_or (all_passed code numbers blocks froms live passers (at + 3) to arguments) c 0) (next i)
            ∙ all-at code numbers blocks froms live arguments passers (at + 3) to room below i h k ∙ passer-declared code numbers blocks froms live passers (at + 3 + i) d;
        formal = λ i h k d.
            let led : first_at numbers blocks froms live (at + 3 + i) ≡ first_by_links st (get_or code (at + 3 + i) 0) = subst (λ p. first_at numbers blocks froms live p ≡ first_by_links st (get_or code p 0)) (place i) (l i h) in
            ap (λ c. get_or (all_passed code numbers blocks froms live passers (at + 3) to arguments) c 0) (next i)
            ∙ all-at code numbers blocks froms live arguments passers (at + 3) to room below i h k ∙ passer-formal code numbers blocks froms live passers (at + 3 + i) d
            ∙ ap (λ f. get_or passers (f + position_in (get_or code (at + 3 + i) 0)) 0) led;
      }

  -- A block or a body is entered

  module _ {body link back : ℕ} {cells' : List ℤ} (j : EntersAt st body link back cells') where
    pub record Steered : Type 0 where
      pub from : from_by code numbers passers blocks froms live at (op_of (get_or code at 0)) ≡ pred (onward (frames_after w j) (suc (suc live)))
      pub passed : Passers (frames_after w j) (entered_passers code numbers passers blocks froms live at (op_of (get_or code at 0)))
      pub as_long : length (entered_passers code numbers passers blocks froms live at (op_of (get_or code at 0))) ≡ 8192

    deep : live + 2 ≤ 256
    deep = omega (arith, j.room, st.sound.few)

    long_after : length (handed_on code numbers blocks froms live passers at) ≡ 8192
    long_after = all-length code numbers blocks froms live arguments passers (at + 3) (32 * live + 32) ∙ w.passers-long

    by-op : (x : Stmt) → frame_stmt st.frame ≡ some x → (o : Op) → Entering o → OpIs around x o → fields.Fields st o → Led w o
        → (from_by code numbers passers blocks froms live at o ≡ pred (onward (frames_after w j) (suc (suc live)))) × Passers (frames_after w j) (entered_passers code numbers passers blocks froms live at o)
        × (length (entered_passers code numbers passers blocks froms live at o) ≡ 8192)
    unfolding from_by entered_passers
    by-op x q constant-op e k f l = absurd e
    by-op x q add-op e k f l = absurd e
    by-op x q subtract-op e k f l = absurd e
    by-op x q compare-op e k f l = absurd e
    by-op x q branch-op e k f l = absurd e
    by-op x q goto-op e k f l = absurd e
    by-op x q block-op e k f l =
        let s = q ∙ ap some k.1 in
        (sym (steer-block w j k.0 s), passed-block w j k.0 s, w.passers-long)
    by-op x q call-op e k f l =
        let s = q ∙ ap some k.3 in
        (sym (steer-call w j k.0 k.1 k.2 s f.1.1), passed-call w j k.0 k.1 k.2 s (handed_on code numbers blocks froms live passers at) (handed deep f.0 l.1), long_after)
    by-op x q pair-op e k f l = absurd e
    by-op x q unpair-op e k f l = absurd e
    by-op x q query-op e k f l = absurd e
    by-op x q constant-formal-op e k f l = absurd e
    by-op x q arithmetic-formal-op e k f l = absurd e
    by-op x q branch-formal-op e k f l = absurd e
    by-op x q goto-formal-op e k f l = absurd e
    by-op x q call-formal-op e k f l =
        let s = q ∙ ap some k.3 in (
          ap (λ a. get_or passers (a + position_in (get_or code (at + 1) 0)) 0) l.0 ∙ sym (steer-formal w j k.0 k.1 k.2 s f.1.1),
          passed-call w j k.0 k.1 k.2 s (handed_on code numbers blocks froms live passers at) (handed deep f.0 l.1),
          long_after,
        )

    pub steered-entry : Entering (op_of (get_or code at 0)) → Steered
    steered-entry e =
        let x = next-stmt st before in
        let r = by-op x.0 x.1 (op_of (get_or code at 0)) e (op-is around code at st.name x.0 (covered st x.0 x.1)) (fields.fields-stand st before) (led w before) in
        record { from = r.0; passed = r.1; as_long = r.2 }
