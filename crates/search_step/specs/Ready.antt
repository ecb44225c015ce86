-- What the statement at a place asks of the search, by its operation: `ready`. `led`: it finds the first cells that the stack's links lead to.
use Rattle.std.specs.Prelude.{ℕ, ◌+◌, ◌≤◌, ◌<◌, List, ◌≡◌, ℤ, get_or}
use Rattle.std.proofs.Common.{arith, sym, ap, ◌∙◌, subst}
use Rattle.resolved.specs.Layout.{lead_in}
use Rattle.arrays.specs.Found.{held_by}
use Rattle.run_moves.specs.Acting.{Op, constant-op, add-op, subtract-op, compare-op, branch-op, goto-op, block-op, call-op, pair-op, unpair-op, query-op, constant-formal-op, arithmetic-formal-op, branch-formal-op, goto-formal-op, call-formal-op, op_of}
use Rattle.steps.specs.Standing.{Standing}
use Rattle.steps.specs.Here.{live-few}
use Rattle.steps.specs.Fields as fields
use Rattle.steps.specs.Finding.{by_first, Reaches, first_by_links, reached-by-links, finds-by-links}
use Rattle.run_state.specs.Limits.{limits_by}
use Rattle.run_statements.specs.Pieces.{FormalsBefore}
use Rattle.run_statements.specs.Words.{target-formal}
use Rattle.run_cells.specs.Finding.{Reachable, Direct, ThroughFormal}
use Rattle.run_cells.specs.Calling.{word_after}
use Rattle.search_names.specs.Seeking.{first_at, Falls}
use Rattle.search_calls.specs.Passing.{Callable, Led}
use Rattle.search_moves.specs.Sought as sought
use Rattle.search_step.specs.Asked.{OneName, TwoNames, ThreeNames, Operands, Found}
use Rattle.search_step.specs.Acted.{Doing}

module _ {code numbers : List ℕ} {cells : List ℤ} {passers blocks froms : List ℕ} {activations live at : ℕ} (d : Doing code numbers cells passers blocks froms activations live at) where
  abbrev st : Standing code (limits_by activations d.limit) cells blocks d.nexts d.running.links d.table d.pairs live at d.end
  st = d.running.standing

  abbrev pub first_of : ℕ → ℕ
  first_of = first_by_links st

  abbrev w : ℕ → ℕ
  w i = word_after code at i

  abbrev first : ℕ → ℕ
  first i = first_at numbers blocks froms live (at + i)

  abbrev pub Leads : Op → Type 0
  Leads = sought.Led d.running

  abbrev L : ℕ → Type 0
  L i = Found code numbers blocks froms live cells at first_of i

  pub led : (o : Op) → op_of (get_or code at 0) ≡ o → Leads o
  led o e = subst Leads e (sought.led d.running d.before)

  -- a call's arguments
  pub arguments-led : ((i : ℕ) → i < w 2 → L (3 + i)) → Led code numbers blocks froms live first_of (at + 3) (w 2)
  arguments-led l i h =
      let p : at + (3 + i) ≡ at + 3 + i = omega arith in
      subst (λ (k : ℕ). first_at numbers blocks froms live k ≡ first_of (get_or code k 0)) p (l i h)

  -- a name in a field, found by the search

  reachable : (i : ℕ) → fields.FieldName st i → L i → Reachable cells (first i) (w i)
  reachable i f l =
      let r = subst (λ v. Reaches cells live (first_of v) v) (sym f.word) (reached-by-links st f.name f.resolved) in
      subst (λ (k : ℕ). Reachable cells k (w i)) (sym l) (record { own = omega (arith, r.own, live-few st); whole = r.whole; cell = r.cell })

  directly : (i : ℕ) → fields.Direct st i → L i → Direct cells (first i) (w i)
  directly i f l = record { reachable = reachable i f.0 l; is = f.1 }

  formally : (i : ℕ) → fields.ThroughFormal st i → L i → ThroughFormal cells (first i) (w i)
  formally i f l = record { reachable = reachable i f.0 l; is = f.1 }

  abbrev Formals : Type 0
  Formals = FormalsBefore code (lead_in (held_by cells (first 1) (w 1)))

  formals-before : fields.ThroughFormal st 1 → fields.BodyStands st → L 1 → Formals
  formals-before f b l =
      let h = b (by_first cells first_of) (finds-by-links st) in
      subst (FormalsBefore code) (target-formal cells (first_of (w 1)) (w 1) f.1 ∙ ap (λ (k : ℕ). lead_in (held_by cells k (w 1))) (sym l))
      (record { there = h.0; before = h.1 })

  falls : Falls froms live
  falls = sought.falls_of d.running

  few : live ≤ 255
  few = omega (arith, live-few st)

  callable : fields.Arguments st → Callable code froms activations live at
  callable a = record { calling = record { activations-high = st.sound.few; live-few = few; few = a.many; there = a.there }; falls = falls }

  abbrev One : (List ℤ → ℕ → ℕ → Type 0) → ℕ → Type 0
  One = OneName code numbers blocks froms live cells at

  abbrev Two : (List ℤ → ℕ → ℕ → Type 0) → Type 0
  Two = TwoNames code numbers blocks froms live cells at

  abbrev Three : (List ℤ → ℕ → ℕ → Type 0) → Type 0
  Three = ThreeNames code numbers blocks froms live cells at

  abbrev Sums : (List ℤ → ℕ → ℕ → Type 0) → Type 0
  Sums = Operands code numbers blocks froms live cells at

  abbrev pub Ready : Op → Type 0
  Ready constant-op = One Direct 4
  Ready add-op = Sums Direct
  Ready subtract-op = Sums Direct
  Ready compare-op = Sums Direct
  Ready branch-op = Two Direct
  Ready goto-op = One Direct 2
  Ready block-op = (at + 2 ≤ 4096) × (live ≤ 255)
  Ready call-op = Callable code froms activations live at × Direct cells (first 1) (w 1)
  Ready pair-op = Two Reachable
  Ready unpair-op = Two Reachable
  Ready query-op = Three Reachable
  Ready constant-formal-op = One Reachable 4
  Ready arithmetic-formal-op = Sums Reachable
  Ready branch-formal-op = Two Reachable
  Ready goto-formal-op = One ThroughFormal 2
  Ready call-formal-op = Callable code froms activations live at × ThroughFormal cells (first 1) (w 1) × Formals

  direct-operands : fields.Fields st add-op → Leads add-op → Sums Direct
  direct-operands f l = (falls, f.0, directly 1 f.1 l.0, directly 3 f.2 l.1, directly 4 f.3 l.2)

  two-reachable : fields.Fields st pair-op → Leads pair-op → Two Reachable
  two-reachable f l = (falls, f.0, reachable 1 f.1 l.0, reachable 2 f.2 l.1)

  ready_by : (o : Op) → fields.Fields st o → Leads o → Ready o
  ready_by constant-op f l = (falls, f.0, directly 1 f.1 l)
  ready_by add-op f l = direct-operands f l
  ready_by subtract-op f l = direct-operands f l
  ready_by compare-op f l = direct-operands f l
  ready_by branch-op f l = (falls, f.0, directly 1 f.1 l.0, directly 2 f.2 l.1)
  ready_by goto-op f l = (falls, f.0, directly 1 f.1 l)
  ready_by block-op f l = (omega arith, few)
  ready_by call-op f l = (callable f.0, directly 1 f.1 l.0)
  ready_by pair-op f l = two-reachable f l
  ready_by unpair-op f l = two-reachable f l
  ready_by query-op f l = (falls, f.0, reachable 1 f.1 l.0, reachable 2 f.2 l.1, reachable 3 f.3 l.2)
  ready_by constant-formal-op f l = (falls, f.0, reachable 1 f.1.0 l)
  ready_by arithmetic-formal-op f l = (falls, f.0, reachable 1 f.1 l.0, reachable 3 f.2 l.1, reachable 4 f.3 l.2)
  ready_by branch-formal-op f l = two-reachable f l
  ready_by goto-formal-op f l = (falls, f.0, formally 1 f.1 l)
  ready_by call-formal-op f l = (callable f.0, formally 1 f.1 l.0, formals-before f.1 f.2 l.0)

  pub ready : (o : Op) → op_of (get_or code at 0) ≡ o → Ready o
  ready o e = ready_by o (subst (fields.Fields st) e (fields.fields-stand st d.before)) (led o e)

  -- a statement stands there
  pub at_there : at < 4096
  at_there = omega (arith, fields.two-words st (op_of (get_or code at 0)) (fields.fields-stand st d.before))
