-- What the statement at a place asks of the display, by its operation: `ready`.
use Rattle.std.specs.Prelude.{ℕ, ◌+◌, ◌≤◌, ◌<◌, false, List, ◌≡◌, ℤ, get_or}
use Rattle.std.proofs.Common.{arith, sym, subst}
use Rattle.resolved.specs.Resolved.{direct}
use Rattle.arrays.specs.Found.{held_by, target_by}
use Rattle.run_moves.specs.Acting.{Op, constant-op, add-op, subtract-op, compare-op, branch-op, goto-op, block-op, call-op, pair-op, unpair-op, query-op, constant-formal-op, arithmetic-formal-op, branch-formal-op, goto-formal-op, call-formal-op, op_of}
use Rattle.steps.specs.Standing.{Standing}
use Rattle.steps.specs.Here.{live-few}
use Rattle.steps.specs.Fields as fields
use Rattle.steps.specs.Finding.{Reaches, reached-by-display, finds-by-display}
use Rattle.resolved.specs.Layout.{lead_in}
use Rattle.run_statements.specs.Pieces.{FormalsBefore}
use Rattle.display_step.specs.Finding.{first_cell, own_cell, next_first, by_display, Reachable, Direct, ThroughFormal, ArgumentsReachable, TwoNames, ThreeNames, Operands, Callable}
use Rattle.run_state.specs.Limits.{limits_by}
use Rattle.display_moves.specs.Running.{Doing}

formal-target : (cells : List ℤ) (first v : ℕ) → direct v ≡ false → target_by cells first v ≡ lead_in (held_by cells first v)
unfolding target_by
formal-target cells first v e = rw (target_by, e)

module _ {code : List ℕ} {cells : List ℤ} {display : List ℕ} {activations live at : ℕ} (d : Doing code cells display activations live at) where
  abbrev st : Standing code (limits_by activations d.limit) cells d.blocks d.nexts d.links d.table d.pairs live at d.end
  st = d.running.standing

  reached : (i : ℕ) (f : fields.FieldName st i) → Reaches cells live (first_cell display (get_or code (at + i) 0)) (get_or code (at + i) 0)
  reached i f = subst (λ v. Reaches cells live (first_cell display v) v) (sym f.word)
      (reached-by-display st display d.running.shows f.name f.resolved)

  reachable : (i : ℕ) → fields.FieldName st i → Reachable cells display (get_or code (at + i) 0)
  reachable i f =
      let r = reached i f in
      record { own = omega (arith, r.own, live-few st); whole = r.whole; cell = r.cell }

  directly : (i : ℕ) → fields.Direct st i → Direct cells display (get_or code (at + i) 0)
  directly i f = record { reachable = reachable i f.0; is = f.1 }

  formally : (i : ℕ) → fields.ThroughFormal st i → ThroughFormal cells display (get_or code (at + i) 0)
  formally i f = record { reachable = reachable i f.0; is = f.1 }

  arguments : fields.Arguments st → ArgumentsReachable code display live (at + 3) (get_or code (at + 2) 0)
  arguments a =
      record {
        few = a.many;
        there = a.there;
        below = λ i h.
            let p : at + (3 + i) ≡ at + 3 + i = omega arith in
            subst (λ k. own_cell display (get_or code k 0) < next_first live) p (reached (3 + i) (a.each i h)).own;
      }

  abbrev Formals : Type 0
  Formals = FormalsBefore code (lead_in (held_by cells (first_cell display (get_or code (at + 1) 0)) (get_or code (at + 1) 0)))

  formals-before : fields.ThroughFormal st 1 → fields.BodyStands st → Formals
  formals-before f b =
      let h = b (by_display cells display) (finds-by-display st display d.running.shows) in
      subst (FormalsBefore code) (formal-target cells (first_cell display (get_or code (at + 1) 0)) (get_or code (at + 1) 0) f.1)
      (record { there = h.0; before = h.1 })

  abbrev D : ℕ → Type 0
  D i = Direct cells display (get_or code (at + i) 0)

  abbrev R : ℕ → Type 0
  R i = Reachable cells display (get_or code (at + i) 0)

  abbrev F : ℕ → Type 0
  F i = ThroughFormal cells display (get_or code (at + i) 0)

  abbrev pub Ready : Op → Type 0
  Ready constant-op = (at + 4 ≤ 4096) × D 1
  Ready add-op = Operands (Direct cells display) code at
  Ready subtract-op = Operands (Direct cells display) code at
  Ready compare-op = Operands (Direct cells display) code at
  Ready branch-op = TwoNames (Direct cells display) code at
  Ready goto-op = (at + 2 ≤ 4096) × D 1
  Ready block-op = (at + 2 ≤ 4096) × (live ≤ 255)
  Ready call-op = Callable code display activations live at × D 1
  Ready pair-op = TwoNames (Reachable cells display) code at
  Ready unpair-op = TwoNames (Reachable cells display) code at
  Ready query-op = ThreeNames (Reachable cells display) code at
  Ready constant-formal-op = (at + 4 ≤ 4096) × R 1
  Ready arithmetic-formal-op = Operands (Reachable cells display) code at
  Ready branch-formal-op = TwoNames (Reachable cells display) code at
  Ready goto-formal-op = (at + 2 ≤ 4096) × F 1
  Ready call-formal-op = Callable code display activations live at × (F 1 × Formals)

  few : live ≤ 255
  few = omega (arith, live-few st)

  direct-operands : fields.Fields st add-op → Operands (Direct cells display) code at
  direct-operands f = record { within = f.0; target = directly 1 f.1; left = directly 3 f.2; right = directly 4 f.3 }

  two-reachable : fields.Fields st pair-op → TwoNames (Reachable cells display) code at
  two-reachable f = record { within = f.0; first = reachable 1 f.1; second = reachable 2 f.2 }

  callable : fields.Arguments st → Callable code display activations live at
  callable a = record { activations-few = st.sound.few; live-few = few; within = omega (arith, a.there); arguments = arguments a }

  ready_by : (o : Op) → fields.Fields st o → Ready o
  ready_by constant-op f = (f.0, directly 1 f.1)
  ready_by add-op f = direct-operands f
  ready_by subtract-op f = direct-operands f
  ready_by compare-op f = direct-operands f
  ready_by branch-op f = record { within = f.0; first = directly 1 f.1; second = directly 2 f.2 }
  ready_by goto-op f = (f.0, directly 1 f.1)
  ready_by block-op f = (omega arith, few)
  ready_by call-op f = (callable f.0, directly 1 f.1)
  ready_by pair-op f = two-reachable f
  ready_by unpair-op f = two-reachable f
  ready_by query-op f = record { within = f.0; first = reachable 1 f.1; second = reachable 2 f.2; third = reachable 3 f.3 }
  ready_by constant-formal-op f = (f.0, reachable 1 f.1.0)
  ready_by arithmetic-formal-op f = record { within = f.0; target = reachable 1 f.1; left = reachable 3 f.2; right = reachable 4 f.3 }
  ready_by branch-formal-op f = two-reachable f
  ready_by goto-formal-op f = (f.0, formally 1 f.1)
  ready_by call-formal-op f = (callable f.0, (formally 1 f.1, formals-before f.1 f.2))

  pub ready : (o : Op) → op_of (get_or code at 0) ≡ o → Ready o
  ready o e = ready_by o (subst (fields.Fields st) e (fields.fields-stand st d.before))

  -- a statement stands there
  pub at_there : at < 4096
  at_there = omega (arith, fields.two-words st (op_of (get_or code at 0)) (fields.fields-stand st d.before))
