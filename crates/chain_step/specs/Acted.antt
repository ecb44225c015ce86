-- The next statement, with its names found by the links: what `acted` asks (`Stating`), and what the functions of the classes ask (`Chosen`). Of a
-- statement that is asked so: `by-class`, which fields its names stand in, by its class, and when their cells are those that the links lead to; `ready`,
-- what its function may rely on then; `Does-as` and `Stores`, all this of AR, QY and KN, whose function is called at once; `only-led`, of a statement with one name or none.
use Rattle.std.specs.Prelude.{ℕ, ◌+◌, ◌*◌, ◌-◌, ◌≤◌, ◌<◌, true, false, ◌≡◌, eqb, ℤ, get_or}
use Rattle.std.proofs.Common.{arith, sym, ap, ◌∙◌, eqb-true, eq-eqb, ne_eqb}
use mathlib.Core.List.{List}
use Rattle.std.proofs.Math.Path.{refl, subst}
use Rattle.std.proofs.lemmas.Bool.{eqb-false}
use Rattle.language.specs.Text.{Operation, plus, minus, less}
use Rattle.laws.specs.Tests.{split}
use Rattle.resolved.specs.Resolved.{level_in, direct}
use Rattle.arrays.specs.Found.{held_by, target_by}
use Rattle.arrays.proofs.Names.{follow}
use Rattle.run_moves.specs.declared.Move.{Move}
use Rattle.run_moves.specs.Acting.{Happened, Op, constant-op, add-op, subtract-op, compare-op, branch-op, goto-op, block-op, call-op, pair-op, unpair-op, query-op}
use Rattle.run_moves.specs.Acting.{constant-formal-op, arithmetic-formal-op, branch-formal-op, goto-formal-op, call-formal-op, operations, op_of}
use Rattle.run_moves.specs.Acting.{Finding, Scene, scene_by, operation_of, do_constant, do_arithmetic, do_query, happens, acting}
use Rattle.steps.specs.Standing.{Standing}
use Rattle.steps.specs.Here.{live-few}
use Rattle.steps.specs.Fields as fields
use Rattle.resolved.specs.Layout.{operation_in, lead_in}
use Rattle.run_statements.specs.Pieces.{FormalsBefore, only-cells}
use Rattle.run_statements.specs.Numbers.{op-of}
use Rattle.run_cells.specs.Finding.{Reachable, Direct, ThroughFormal}
use Rattle.run_cells.specs.Calling.{word_after, Calling}
use Rattle.run_classes.specs.declared.Class.{Class}
use Rattle.run_classes.specs.declared.Class.TheVariants.{One as OneName, Add, Subtract, Compare, ArithmeticFormal, Branch, Pair, Query as AsQuery, Constant}
use Rattle.run_classes.specs.Asking.{Ready, Leads, Did, class_of}
use Rattle.run_classes.specs.Asking.{one_class, add_class, subtract_class, compare_class, arithmetic_formal_class, query_class, constant_class}
use Rattle.run_classes.specs.Moves as moves
use Rattle.run_classes.specs.Classes.{add-only, subtract-only, compare-only, arithmetic-only, query-only, constant-only}
use Rattle.chain_records.specs.declared.Activation.{Activation}
use Rattle.run_state.specs.declared.Registers.{Registers}
use Rattle.chain_links.specs.Records.{blocks_in, nexts_in, links_in}
use Rattle.chain_links.specs.Finding.{first_cell, by_chain, Named}
use Rattle.run_state.specs.Limits.{limits_by}
use Rattle.chain_links.specs.Running.{Running}
use Rattle.chain_links.proofs.Names as links
use Rattle.chain_step.specs.declared.turn.Moved.{Moved}
use Rattle.chain_step.specs.Moved.{moved_by}
use Rattle.chain_step.specs.Numbers.{number_of, number-of}
use Rattle.chain_step.specs.Fields as found

-- an engine that runs stands before the end of a text
pub record Stating (code : List ℕ) (cells : List ℤ) (records : List Activation) (activations : ℕ) (here : Registers) : Type 0 where
  pub limit : ℕ
  pub table : List ℤ
  pub running : Running code activations limit cells records table here
  pub before : here.at ≡ here.end → ⊥

-- what the next statement does
abbrev pub happening : List ℕ → List ℤ → List Activation → ℕ → Registers → Happened
happening code cells records activations here = acting (by_chain cells records here.live here.level) (scene_by code cells activations here.live here.at)

-- it is of this class, and the first cell of the innermost activation is this
pub record Chosen (code : List ℕ) (cells : List ℤ) (records : List Activation) (here : Registers) (own : ℕ) (class : Class) : Type 0 where
  pub activations : ℕ
  pub stating : Stating code cells records activations here
  pub own_is : own ≡ 32 * here.live
  pub class-is : class_of (op_of (get_or code here.at 0)) ≡ class

-- the statement has been done, and the engine goes on so
pub record Does (done : Happened) (cells : List ℤ) (here : Registers) (moved : Moved) (cells' : List ℤ) : Type 0 where
  pub move : Move
  pub did : Did done cells move cells'
  pub is : moved ≡ moved_by here move

unfoldable pub only_hops : List ℕ → Registers → ℕ
only_hops code here =
    elim (eqb (operation_in (get_or code here.at 0)) 6) [ true ↦ 0 | false ↦ here.level - level_in (get_or code (here.at + 1) 0) ]

-- The links of the only name

pub none-hops : (code : List ℕ) (here : Registers) → operation_in (get_or code here.at 0) ≡ 6 → 0 ≡ only_hops code here
unfolding only_hops
none-hops code here e = rw (only_hops, eq-eqb (operation_in (get_or code here.at 0)) 6 e)

pub some-hops : (code : List ℕ) (here : Registers) → (operation_in (get_or code here.at 0) ≡ 6 → ⊥) → here.level - level_in (get_or code (here.at + 1) 0) ≡ only_hops code here
unfolding only_hops
some-hops code here d = rw (only_hops, ne_eqb (operation_in (get_or code here.at 0)) 6 d)

formal-target : (cells : List ℤ) (first v : ℕ) → direct v ≡ false → target_by cells first v ≡ lead_in (held_by cells first v)
unfolding target_by
formal-target cells first v e = rw (target_by, e)

module _ {code : List ℕ} {cells : List ℤ} {records : List Activation} {activations : ℕ} {here : Registers} (s : Stating code cells records activations here) where
  abbrev w : Running code activations s.limit cells records s.table here
  w = s.running

  abbrev st : Standing code (limits_by activations s.limit) cells (blocks_in records) (nexts_in records) (links_in records) s.table here.pairs here.live
      here.at here.end
  st = w.standing

  abbrev word : ℕ → ℕ
  word i = word_after code here.at i

  abbrev pub op : Op
  op = op_of (get_or code here.at 0)

  abbrev pub first_of : ℕ → ℕ
  first_of = first_cell records here.live here.level

  stand : fields.Fields st op
  stand = fields.fields-stand st s.before

  abbrev Led : (first second third : ℕ) → Op → Type 0
  Led first second third o = Leads first_of code here.at first second third o

  -- a statement stands there, of two words at least
  pub next-there : here.at + 1 < 4096
  next-there = fields.two-words st op stand

  pub at_there : here.at < 4096
  at_there = omega (arith, next-there)

  -- a name that stands in a field

  named : (i : ℕ) → here.at + i < 4096 → fields.FieldName st i → Named code records here i
  named i h f = record { there = h; seen = found.seen w i f }

  reachable : (i first : ℕ) → first ≡ first_of (word i) → fields.FieldName st i → Reachable cells first (word i)
  reachable i first e f =
      subst (λ h. Reachable cells h (word i)) (sym e)
      (subst (λ v. Reachable cells (first_of v) v) (sym f.word) (links.reachable w f.name f.resolved))

  directly : (i first : ℕ) → first ≡ first_of (word i) → fields.Direct st i → Direct cells first (word i)
  directly i first e f = record { reachable = reachable i first e f.0; is = f.1 }

  formally : (i first : ℕ) → first ≡ first_of (word i) → fields.ThroughFormal st i → ThroughFormal cells first (word i)
  formally i first e f = record { reachable = reachable i first e f.0; is = f.1 }

  formals-before : (first : ℕ) → first ≡ first_of (word 1) → fields.ThroughFormal st 1 → fields.BodyStands st
      → FormalsBefore code (lead_in (held_by cells first (word 1)))
  formals-before first e f b =
      let h = b (by_chain cells records here.live here.level) (links.finds-by-chain w) in
      subst (λ k. FormalsBefore code (lead_in (held_by cells k (word 1)))) (sym e)
      (subst (FormalsBefore code) (formal-target cells (first_cell records here.live here.level (word 1)) (word 1) f.1)
      (record { there = h.0; before = h.1 }))

  -- What its function may rely on, whatever its class is told of D and of the innermost activation

  module _ (activations' live' : ℕ) (low : activations' ≤ 256) (few : live' ≤ 255) (first second third : ℕ) where
    calling : fields.Arguments st → Calling code activations' live' here.at
    calling a = record { activations-high = low; live-few = few; few = a.many; there = a.there }

    ready_by : (o : Op) → fields.Fields st o → Led first second third o → Ready code cells activations' live' here.at first second third o
    ready_by constant-op f l = (f.0, directly 1 first l f.1)
    ready_by add-op f l = (f.0, directly 1 first l.0 f.1, directly 3 second l.1 f.2, directly 4 third l.2 f.3)
    ready_by subtract-op f l = (f.0, directly 1 first l.0 f.1, directly 3 second l.1 f.2, directly 4 third l.2 f.3)
    ready_by compare-op f l = (f.0, directly 1 first l.0 f.1, directly 3 second l.1 f.2, directly 4 third l.2 f.3)
    ready_by branch-op f l = (f.0, directly 1 first l.0 f.1, directly 2 second l.1 f.2)
    ready_by goto-op f l = (f.0, directly 1 first l f.1)
    ready_by block-op f l = (omega arith, few)
    ready_by call-op f l = (calling f.0, directly 1 first l f.1)
    ready_by pair-op f l = (f.0, reachable 1 first l.0 f.1, reachable 2 second l.1 f.2)
    ready_by unpair-op f l = (f.0, reachable 1 first l.0 f.1, reachable 2 second l.1 f.2)
    ready_by query-op f l = (f.0, reachable 1 first l.0 f.1, reachable 2 second l.1 f.2, reachable 3 third l.2 f.3)
    ready_by constant-formal-op f l = (f.0, reachable 1 first l f.1.0)
    ready_by arithmetic-formal-op f l = (f.0, reachable 1 first l.0 f.1, reachable 3 second l.1 f.2, reachable 4 third l.2 f.3)
    ready_by branch-formal-op f l = (f.0, reachable 1 first l.0 f.1, reachable 2 second l.1 f.2)
    ready_by goto-formal-op f l = (f.0, formally 1 first l f.1)
    ready_by call-formal-op f l = (calling f.0, formally 1 first l f.1, formals-before first l f.1 f.2)

    pub ready : Led first second third op → Ready code cells activations' live' here.at first second third op
    ready l = ready_by op stand l

  pub activations-high : activations ≤ 256
  activations-high = st.sound.few

  pub live-low : here.live ≤ 255
  live-low = omega (arith, live-few st)

  -- Its names, by its class

  abbrev At : ℕ → ℕ → Type 0
  At first i = first ≡ first_of (word i)

  abbrev N : ℕ → Type 0
  N i = Named code records here i

  -- two names, in the fields 1 and 2
  pub record Two (o : Op) : Type 0 where
    pub one : N 1
    pub other : N 2
    pub led : (first second : ℕ) → At first 1 → At second 2 → Led first second 0 o

  abbrev ByClass : Op → Class → Type 0
  ByClass o OneName = (first : ℕ) → At first 1 → Led first 0 0 o
  ByClass o Add = Unit {0}
  ByClass o Subtract = Unit {0}
  ByClass o Compare = Unit {0}
  ByClass o ArithmeticFormal = Unit {0}
  ByClass o Branch = Two o
  ByClass o Pair = Two o
  ByClass o AsQuery = Unit {0}
  ByClass o Constant = Unit {0}

  classed-by : (o : Op) → fields.Fields st o → ByClass o (class_of o)
  unfolding class_of
  classed-by constant-op f = tt
  classed-by add-op f = tt
  classed-by subtract-op f = tt
  classed-by compare-op f = tt
  classed-by branch-op f = record { one = named 1 (omega (arith, f.0)) f.1.0; other = named 2 (omega (arith, f.0)) f.2.0; led = λ a b p q. (p, q) }
  classed-by goto-op f = λ a p. p
  classed-by block-op f = λ a p. tt
  classed-by call-op f = λ a p. p
  classed-by pair-op f = record { one = named 1 (omega (arith, f.0)) f.1; other = named 2 (omega (arith, f.0)) f.2; led = λ a b p q. (p, q) }
  classed-by unpair-op f = record { one = named 1 (omega (arith, f.0)) f.1; other = named 2 (omega (arith, f.0)) f.2; led = λ a b p q. (p, q) }
  classed-by query-op f = tt
  classed-by constant-formal-op f = λ a p. p
  classed-by arithmetic-formal-op f = tt
  classed-by branch-formal-op f = record { one = named 1 (omega (arith, f.0)) f.1; other = named 2 (omega (arith, f.0)) f.2; led = λ a b p q. (p, q) }
  classed-by goto-formal-op f = λ a p. p
  classed-by call-formal-op f = λ a p. p

  pub by-class : (class : Class) → class_of op ≡ class → ByClass op class
  by-class class e = subst (ByClass op) e (classed-by op stand)

  -- the class that is left
  pub query-left : (class : Class) → (class ≡ OneName → ⊥) → (class ≡ Add → ⊥) → (class ≡ Subtract → ⊥) → (class ≡ Compare → ⊥)
      → (class ≡ ArithmeticFormal → ⊥) → (class ≡ Branch → ⊥) → (class ≡ Pair → ⊥) → (class ≡ Constant → ⊥) → class ≡ AsQuery
  query-left OneName one add subtract compare formal branch pair constant = absurd (one refl)
  query-left Add one add subtract compare formal branch pair constant = absurd (add refl)
  query-left Subtract one add subtract compare formal branch pair constant = absurd (subtract refl)
  query-left Compare one add subtract compare formal branch pair constant = absurd (compare refl)
  query-left ArithmeticFormal one add subtract compare formal branch pair constant = absurd (formal refl)
  query-left Branch one add subtract compare formal branch pair constant = absurd (branch refl)
  query-left Pair one add subtract compare formal branch pair constant = absurd (pair refl)
  query-left AsQuery one add subtract compare formal branch pair constant = refl
  query-left Constant one add subtract compare formal branch pair constant = absurd (constant refl)

  -- AR and QY

  abbrev way : Finding
  way = by_chain cells records here.live here.level

  abbrev scene : Scene
  scene = scene_by code cells activations here.live here.at

  -- three names in these fields, of which `Asks` is asked, and what is done by what is `Said`
  pub record Does-as (j k : ℕ) (Asks : ℕ → ℕ → ℕ → Type 0) (Said : Move → List ℤ → Type 0) : Type 0 where
    pub named : N 1 × N j × N k
    pub asks : (first second third : ℕ) → At first 1 → At second j → At third k → Asks first second third
    pub did : {r : Move} {cells' : List ℤ} → Said r cells' → Did (acting way scene) cells r cells'

  abbrev Summed : Operation → Move → List ℤ → Type 0
  Summed f r cells' = (r ≡ (do_arithmetic way (only-cells code cells here.at) f).move)
      × (cells' ≡ (do_arithmetic way (only-cells code cells here.at) f).cells)

  abbrev Own : ℕ → ℕ → ℕ → Type 0
  Own first second third = (here.at + 5 ≤ 4096) × Direct cells first (word 1) × Direct cells second (word 3) × Direct cells third (word 4)

  abbrev pub Sum : Operation → Type 0
  Sum f = Does-as 3 4 Own (Summed f)

  sum : (p : Op) (f : Operation) → op ≡ p → fields.Fields st add-op → do_arithmetic way scene f ≡ happens way scene p → Sum f
  sum p f is fs e =
      record {
        named = (
          named 1 (omega (arith, fs.0)) fs.1.0,
          named 3 (omega (arith, fs.0)) fs.2.0,
          named 4 (omega (arith, fs.0)) fs.3.0,
        );
        asks = λ a b c p q r. (fs.0, directly 1 a p fs.1, directly 3 b q fs.2, directly 4 c r fs.3);
        did = λ {r} {cells'} d.
            moves.did way scene p is (subst (λ (x : Happened). Did x cells r cells') e (moves.arithmetic-did way scene f d));
      }

  pub adds : class_of op ≡ add_class → Sum plus
  unfolding operations happens
  adds e = let is : op ≡ add-op = op-of (get_or code here.at 0) 1 (add-only _ e) in sum add-op plus is (subst (fields.Fields st) is stand) refl

  pub subtracts : class_of op ≡ subtract_class → Sum minus
  unfolding operations happens
  subtracts e =
      let is : op ≡ subtract-op = op-of (get_or code here.at 0) 2 (subtract-only _ e) in
      sum subtract-op minus is (subst (fields.Fields st) is stand) refl

  pub compares : class_of op ≡ compare_class → Sum less
  unfolding operations happens
  compares e =
      let is : op ≡ compare-op = op-of (get_or code here.at 0) 3 (compare-only _ e) in
      sum compare-op less is (subst (fields.Fields st) is stand) refl

  abbrev Final : (j k l : ℕ) → ℕ → ℕ → ℕ → Type 0
  Final j k l first second third = (here.at + l ≤ 4096) × Reachable cells first (word 1) × Reachable cells second (word j) × Reachable cells third (word k)

  abbrev pub Formal : Type 0
  Formal = Does-as 3 4 (Final 3 4 5) (Summed (operation_of (word 2)))

  pub through-formals : class_of op ≡ arithmetic_formal_class → Formal
  unfolding operations happens
  through-formals e =
      let is : op ≡ arithmetic-formal-op = op-of (get_or code here.at 0) 12 (arithmetic-only _ e) in
      let fs = subst (fields.Fields st) is stand in
      record {
        named = (named 1 (omega (arith, fs.0)) fs.1, named 3 (omega (arith, fs.0)) fs.2, named 4 (omega (arith, fs.0)) fs.3);
        asks = λ a b c p q r. (fs.0, reachable 1 a p fs.1, reachable 3 b q fs.2, reachable 4 c r fs.3);
        did = λ d. moves.did way scene arithmetic-formal-op is (moves.arithmetic-did way scene (operation_of (word 2)) d);
      }

  abbrev pub Query : Type 0
  Query = Does-as 2 3 (Final 2 3 4) (λ r cells'. (r ≡ (do_query way (only-cells code cells here.at)).move) × (cells' ≡ cells))

  pub queries : class_of op ≡ query_class → Query
  unfolding operations happens
  queries e =
      let is : op ≡ query-op = op-of (get_or code here.at 0) 10 (query-only _ e) in
      let fs = subst (fields.Fields st) is stand in
      record {
        named = (named 1 (omega (arith, fs.0)) fs.1, named 2 (omega (arith, fs.0)) fs.2, named 3 (omega (arith, fs.0)) fs.3);
        asks = λ a b c p q r. (fs.0, reachable 1 a p fs.1, reachable 2 b q fs.2, reachable 3 c r fs.3);
        did = λ {r} {cells'} d. subst (λ (v : List ℤ). Did (acting way scene) cells r v) (sym d.1) (moves.did way scene query-op is (moves.query-did way scene d.0));
      }

  -- KN of no formal

  pub record Stores : Type 0 where
    pub named : N 1
    pub asks : (first : ℕ) → At first 1 → (here.at + 4 ≤ 4096) × Direct cells first (word 1)
    pub did : {r : Move} {cells' : List ℤ} → (r ≡ (do_constant way (only-cells code cells here.at)).move)
        × (cells' ≡ (do_constant way (only-cells code cells here.at)).cells) → Did (acting way scene) cells r cells'

  pub stores : class_of op ≡ constant_class → Stores
  unfolding operations happens
  stores e =
      let is : op ≡ constant-op = op-of (get_or code here.at 0) 0 (constant-only _ e) in
      let fs = subst (fields.Fields st) is stand in
      record {
        named = named 1 (omega (arith, fs.0)) fs.1.0;
        asks = λ a p. (fs.0, directly 1 a p fs.1);
        did = λ d. moves.did way scene constant-op is (moves.constant-did way scene d);
      }

  -- A statement with one name or none

  first-name : (o : Op) → (o ≡ block-op → ⊥) → fields.Fields st o → fields.FieldName st 1
  first-name constant-op d f = f.1.0
  first-name add-op d f = f.1.0
  first-name subtract-op d f = f.1.0
  first-name compare-op d f = f.1.0
  first-name branch-op d f = f.1.0
  first-name goto-op d f = f.1.0
  first-name block-op d f = absurd (d refl)
  first-name call-op d f = f.1.0
  first-name pair-op d f = f.1
  first-name unpair-op d f = f.1
  first-name query-op d f = f.1
  first-name constant-formal-op d f = f.1.0
  first-name arithmetic-formal-op d f = f.1
  first-name branch-formal-op d f = f.1
  first-name goto-formal-op d f = f.1.0
  first-name call-formal-op d f = f.1.0

  pub first-outer : (operation_in (get_or code here.at 0) ≡ 6 → ⊥) → level_in (word 1) ≤ here.level
  unfolding number_of
  first-outer d = (found.seen w 1 (first-name op (λ e. d (number-of (get_or code here.at 0) block-op e)) stand)).outer

  is_block : (first : ℕ) → operation_in (get_or code here.at 0) ≡ 6 → Led first 0 0 op
  unfolding operations
  is_block first t = subst (λ o. Led first 0 0 o) (sym (op-of (get_or code here.at 0) 6 t)) tt

  pub only-led : (first : ℕ) → first ≡ 32 * follow (links_in records) here.live (only_hops code here) → class_of op ≡ one_class → Led first 0 0 op
  only-led first e one =
      split (eqb (operation_in (get_or code here.at 0)) 6) (λ t. is_block first (eqb-true (operation_in (get_or code here.at 0)) 6 t))
      (λ t. by-class one_class one first (e ∙ ap (λ (n : ℕ). 32 * follow (links_in records) here.live n)
      (sym (some-hops code here (eqb-false (operation_in (get_or code here.at 0)) 6 t)))))
