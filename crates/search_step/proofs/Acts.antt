-- What a statement's function says is what the statement does in the search engine: a law for each function.
use Prim.Native.Nat.{ℕ, ◌+◌}
use mathlib.Core.List.{List}
use mathlib.Core.Path.{◌≡◌, refl, sym, ap, ◌∙◌, subst}
use lib.Dec.{leb}
use lib.IntN.{ℤ, pos}
use lib.ListN.{get_or}
use Rattle.language.specs.Basics.{eq_z}
use Rattle.language.specs.Machine.{compute}
use Rattle.language.specs.Text.{Operation, plus, minus, less}
use Rattle.laws.specs.Tests.{split}
use Rattle.resolved.specs.Resolved.{target_in}
use Rattle.resolved.specs.Layout.{activation_in}
use Rattle.run_moves.specs.Effects.{Effect}
use Rattle.std.specs.Prelude.{Ok, Err}
use Rattle.run_moves.specs.declared.Ask.{Ask}
use Rattle.run_moves.specs.declared.Ask.TheVariants.{Add, Remove}
use Rattle.run_moves.specs.declared.Move.{Move}
use Rattle.run_moves.specs.declared.Move.TheVariants.{On, Table as Asks, Jump, Enter, Stop}
use Rattle.run_moves.specs.Effects.{effect_of}
use Rattle.run_moves.specs.Acting.{Finding, Scene, scene_by, Happened, moves, rewrites, value_of, field, no_room, arithmetic_move, do_constant, do_arithmetic, operation_of, do_goto, do_branch, do_block, do_call, do_call_formal, do_change, do_query, happens}
use Rattle.run_moves.specs.Acting.{Op, constant-op, add-op, subtract-op, compare-op, branch-op, goto-op, block-op, call-op, pair-op, unpair-op, query-op, constant-formal-op, arithmetic-formal-op, branch-formal-op, goto-formal-op, call-formal-op, op_of}
use Rattle.run_statements.specs.Pieces.{only-cells, block_move}
use Rattle.run_statements.specs.Doing.{is-plus, is-minus, is-less, call-is}
use Rattle.run_statements.specs.Scenes.{Done, acts, constant-same, arithmetic-same, goto-same, branch_same, block_same, change-same, query-same}
use Rattle.steps.specs.Finding.{by_first}
use Rattle.run_cells.specs.Calling.{word_after, call-move}
use Rattle.run_cells.specs.Cells.{target-own, goto-own}
use Rattle.search_names.specs.Seeking.{first_at}
use Rattle.search_calls.specs.Passing.{handed_on, passers_by, steered, steered-call, Called, CalledFormal}
use Rattle.run_statements.specs.declared.moved.Moved.{Moved}
use Rattle.run_statements.specs.Moved.{moved_by}
use Rattle.search_step.specs.Asked.{ByOne, ByTwo, ByThree, ByOperands}
use Rattle.search_step.specs.Acted.{Doing, Acts, from_by, entered_passers, passers_after}
use Rattle.search_step.specs.Ready.{first_of, led, ready, arguments-led}

-- an activation that is entered is linked to one
abbrev Linked : ℕ → Move → Type 0
Linked live (On p) = Unit {0}
Linked live (Asks p g m t a) = Unit {0}
Linked live (Jump h p) = Unit {0}
Linked live (Enter b h p) = h ≡ live
Linked live (Stop c) = Unit {0}

unsteered : (live : ℕ) (m : Move) → Linked live m → m ≡ steered live m
unfolding steered
unsteered live (On p) l = refl
unsteered live (Asks p g m t a) l = refl
unsteered live (Jump h p) l = refl
unsteered live (Enter b h p) l = ap (λ (k : ℕ). Enter b k p) l
unsteered live (Stop c) l = refl

-- no statement but a call enters from elsewhere
module _ (F : Finding) (s : Scene) where
  constant-linked : Linked s.live (do_constant F s).move
  unfolding do_constant rewrites
  constant-linked = tt

  effect-linked : (e : Effect) → Linked s.live (arithmetic_move F s e)
  unfolding arithmetic_move
  effect-linked (Ok u) = tt
  effect-linked (Err c) = tt

  arithmetic-linked : (o : Operation) → Linked s.live (do_arithmetic F s o).move
  unfolding do_arithmetic rewrites
  arithmetic-linked o = effect-linked (effect_of (compute o (value_of F s (field s 3)) (value_of F s (field s 4))))

  goto-linked : Linked s.live (do_goto F s).move
  unfolding do_goto moves
  goto-linked = tt

  branch-linked : Linked s.live (do_branch F s).move
  unfolding do_branch do_goto moves
  branch-linked = split (eq_z (value_of F s (field s 2)) (pos 0)) (λ t. rw (t, do_branch) tt) (λ t. rw (t, do_branch) tt)

  block-linked : Linked s.live (do_block F s).move
  unfolding do_block no_room moves
  block-linked = split (leb s.activations (s.live + 1)) (λ t. rw (t, do_block) tt) (λ t. rw (t, do_block) refl)

  change-linked : (a : Ask) → Linked s.live (do_change F s a).move
  unfolding do_change moves
  change-linked a = tt

  query-linked : Linked s.live (do_query F s).move
  unfolding do_query moves
  query-linked = tt

module _ {code numbers : List ℕ} {cells : List ℤ} {passers blocks froms : List ℕ} {activations live at : ℕ} (d : Doing code numbers cells passers blocks froms activations live at) where
  abbrev F : Finding
  F = by_first cells (first_of d)

  abbrev s : Scene
  s = scene_by code cells activations live at

  abbrev o : Scene
  o = only-cells code cells at

  abbrev w : ℕ → ℕ
  w i = word_after code at i

  abbrev from : Op → ℕ
  from p = from_by code numbers passers blocks froms live at p

  abbrev after : Op → Move → List ℕ
  after p m = passers_after code numbers passers blocks froms live at p m

  abbrev Is : Op → Type 0
  Is p = op_of (get_or code at 0) ≡ p

  acted : (p : Op) → Is p → {m : Move} {r : Moved} {cells' : List ℤ} {passers' : List ℕ} → r ≡ moved_by m → m ≡ steered (from p) (happens F s p).move → cells' ≡ (happens F s p).cells
      → passers' ≡ after p (happens F s p).move → Acts d r cells' passers'
  acted p e r m c q =
      let h = acts F s p e in
      record {
        move-is = r ∙ ap moved_by (m ∙ (λ i. steered (from (sym e i)) (h i).move));
        cells_are = c ∙ ap (λ (x : Happened). x.cells) h;
        passers-are = q ∙ (λ i. after (sym e i) (h i).move);
      }

  -- a statement that hands nothing on
  kept : (p : Op) → entered_passers code numbers passers blocks froms live at p ≡ passers → (m : Move) → passers ≡ after p m
  unfolding passers_after
  kept p e (On q) = refl
  kept p e (Asks q g k t a) = refl
  kept p e (Jump h q) = refl
  kept p e (Enter b h q) = sym e
  kept p e (Stop c) = refl

  plain : (p : Op) → Is p → from p ≡ live → entered_passers code numbers passers blocks froms live at p ≡ passers → Linked live (happens F s p).move → {m : Move} {r : Moved} {cells' : List ℤ}
      → r ≡ moved_by m → Done (happens F s p) m cells' → Acts d r cells' passers
  plain p e f k l r h =
      acted p e r (h.0 ∙ unsteered live (happens F s p).move l ∙ ap (λ (n : ℕ). steered n (happens F s p).move) (sym f)) h.1 (kept p k (happens F s p).move)

  -- a call
  abbrev handed : List ℕ
  handed = handed_on code numbers blocks froms live passers at

  call-passers : (p : Op) → entered_passers code numbers passers blocks froms live at p ≡ handed → (k : ℕ) (x : Move) {m : Move} → m ≡ steered k x → passers_by m passers handed ≡ after p x
  unfolding passers_by steered passers_after
  call-passers p e k (On q) f = ap (λ (x : Move). passers_by x passers handed) f
  call-passers p e k (Asks q g n t a) f = ap (λ (x : Move). passers_by x passers handed) f
  call-passers p e k (Jump h q) f = ap (λ (x : Move). passers_by x passers handed) f
  call-passers p e k (Enter b h q) f = ap (λ (x : Move). passers_by x passers handed) f ∙ sym e
  call-passers p e k (Stop c) f = ap (λ (x : Move). passers_by x passers handed) f

  abbrev One : (Finding → Type 0) → Type 0
  One = ByOne code numbers blocks froms live cells at

  abbrev Two : (Finding → Type 0) → Type 0
  Two = ByTwo code numbers blocks froms live cells at

  abbrev Three : (Finding → Type 0) → Type 0
  Three = ByThree code numbers blocks froms live cells at

  abbrev Sums : (Finding → Type 0) → Type 0
  Sums = ByOperands code numbers blocks froms live cells at

  module _ {m : Move} {r : Moved} (came : r ≡ moved_by m) where
    module _ {cells' : List ℤ} where
      pub constant-acts : Is constant-op → One (λ G. Done (do_constant G o) m cells') → Acts d r cells' passers
      unfolding happens from_by entered_passers
      constant-acts e h = let k = h (first_of d) (led d constant-op e) in plain constant-op e refl refl (constant-linked F s) came (constant-same F s m cells' k.0 k.1)

      pub constant-formal-acts : Is constant-formal-op → One (λ G. Done (do_constant G o) m cells') → Acts d r cells' passers
      unfolding happens from_by entered_passers
      constant-formal-acts e h = let k = h (first_of d) (led d constant-formal-op e) in plain constant-formal-op e refl refl (constant-linked F s) came (constant-same F s m cells' k.0 k.1)

      pub add-acts : Is add-op → Sums (λ G. Done (do_arithmetic G o plus) m cells') → Acts d r cells' passers
      unfolding happens from_by entered_passers
      add-acts e h =
          let l = led d add-op e in
          let k = h (first_of d) l.0 l.1 l.2 in
          plain add-op e refl refl (arithmetic-linked F s plus) came (arithmetic-same F s plus m cells' k.0 k.1)

      pub subtract-acts : Is subtract-op → Sums (λ G. Done (do_arithmetic G o minus) m cells') → Acts d r cells' passers
      unfolding happens from_by entered_passers
      subtract-acts e h =
          let l = led d subtract-op e in
          let k = h (first_of d) l.0 l.1 l.2 in
          plain subtract-op e refl refl (arithmetic-linked F s minus) came (arithmetic-same F s minus m cells' k.0 k.1)

      pub compare-acts : Is compare-op → Sums (λ G. Done (do_arithmetic G o less) m cells') → Acts d r cells' passers
      unfolding happens from_by entered_passers
      compare-acts e h =
          let l = led d compare-op e in
          let k = h (first_of d) l.0 l.1 l.2 in
          plain compare-op e refl refl (arithmetic-linked F s less) came (arithmetic-same F s less m cells' k.0 k.1)

      -- AR of a formal, by its operation
      formal-acts : (f : Operation) → operation_of (w 2) ≡ f → Is arithmetic-formal-op → Sums (λ G. Done (do_arithmetic G o f) m cells') → Acts d r cells' passers
      unfolding happens from_by entered_passers
      formal-acts f q e h =
          let l = led d arithmetic-formal-op e in
          let k = h (first_of d) l.0 l.1 l.2 in
          plain arithmetic-formal-op e refl refl (arithmetic-linked F s (operation_of (w 2))) came
          (subst (λ (g : Operation). Done (do_arithmetic F s g) m cells') (sym q) (arithmetic-same F s f m cells' k.0 k.1))

      module _ {n : ℕ} (read : n ≡ w 2) where
        pub add-formal-acts : n ≡ 0 → Is arithmetic-formal-op → Sums (λ G. Done (do_arithmetic G o plus) m cells') → Acts d r cells' passers
        add-formal-acts z e h = formal-acts plus (is-plus (sym read ∙ z)) e h

        pub subtract-formal-acts : n ≡ 1 → Is arithmetic-formal-op → Sums (λ G. Done (do_arithmetic G o minus) m cells') → Acts d r cells' passers
        subtract-formal-acts z e h = formal-acts minus (is-minus (sym read ∙ z)) e h

        pub compare-formal-acts : (n ≡ 0 → ⊥) → (n ≡ 1 → ⊥) → Is arithmetic-formal-op → Sums (λ G. Done (do_arithmetic G o less) m cells') → Acts d r cells' passers
        compare-formal-acts a b e h = formal-acts less (is-less (w 2) (λ z. a (read ∙ z)) (λ z. b (read ∙ z))) e h

    -- what leaves the words

    pub goto-acts : Is goto-op → m ≡ Jump (activation_in (first_at numbers blocks froms live (at + 1))) (target_in (w 1)) → Acts d r cells passers
    unfolding happens from_by entered_passers
    goto-acts e h = plain goto-op e refl refl (goto-linked F s) came (goto-same F s m (goto-own code cells at h (ready d goto-op e).2.is (first_of d) (led d goto-op e)))

    pub goto-formal-acts : Is goto-formal-op → One (λ G. m ≡ (do_goto G o).move) → Acts d r cells passers
    unfolding happens from_by entered_passers
    goto-formal-acts e h = plain goto-formal-op e refl refl (goto-linked F s) came (goto-same F s m (h (first_of d) (led d goto-formal-op e)))

    pub branch-acts : Is branch-op → Two (λ G. m ≡ (do_branch G o).move) → Acts d r cells passers
    unfolding happens from_by entered_passers
    branch-acts e h = let l = led d branch-op e in plain branch-op e refl refl (branch-linked F s) came (branch_same F s m (h (first_of d) l.0 l.1))

    pub branch-formal-acts : Is branch-formal-op → Two (λ G. m ≡ (do_branch G o).move) → Acts d r cells passers
    unfolding happens from_by entered_passers
    branch-formal-acts e h = let l = led d branch-formal-op e in plain branch-formal-op e refl refl (branch-linked F s) came (branch_same F s m (h (first_of d) l.0 l.1))

    pub block-acts : Is block-op → m ≡ block_move code activations live at → Acts d r cells passers
    unfolding happens from_by entered_passers
    block-acts e h = plain block-op e refl refl (block-linked F s) came (block_same F s m h)

    pub pair-acts : Is pair-op → Two (λ G. m ≡ (do_change G o Add).move) → Acts d r cells passers
    unfolding happens from_by entered_passers
    pair-acts e h = let l = led d pair-op e in plain pair-op e refl refl (change-linked F s Add) came (change-same F s Add m (h (first_of d) l.0 l.1))

    pub unpair-acts : Is unpair-op → Two (λ G. m ≡ (do_change G o Remove).move) → Acts d r cells passers
    unfolding happens from_by entered_passers
    unpair-acts e h = let l = led d unpair-op e in plain unpair-op e refl refl (change-linked F s Remove) came (change-same F s Remove m (h (first_of d) l.0 l.1))

    pub query-acts : Is query-op → Three (λ G. m ≡ (do_query G o).move) → Acts d r cells passers
    unfolding happens from_by entered_passers
    query-acts e h = let l = led d query-op e in plain query-op e refl refl (query-linked F s) came (query-same F s m (h (first_of d) l.0 l.1 l.2))

    -- calls

    module _ {cells' : List ℤ} {passers' : List ℕ} where
      pub call-acts : Is call-op → Called code numbers blocks froms live cells passers activations at live (target_in (w 1)) m cells' passers' → Acts d r cells' passers'
      unfolding happens from_by entered_passers
      call-acts e h =
          let l = led d call-op e in
          let to : target_in (w 1) ≡ F.target (w 1) = target-own cells (first_of d) (w 1) refl (ready d call-op e).1.is in
          let k : m ≡ steered live (do_call F s).move =
          h.move-is ∙ steered-call code activations live at live (F.home (w 1)) (target_in (w 1)) ∙ ap (steered live) (call-move F s refl to refl) in
          acted call-op e came k (h.cells_are (first_of d) (arguments-led d l.1) (F.home (w 1)) ∙ ap (λ (x : Happened). x.cells) (call-is F s refl to))
          (h.passers-are ∙ call-passers call-op refl live (do_call F s).move k)

      pub call-formal-acts : Is call-formal-op → CalledFormal code numbers blocks froms live cells passers activations at m cells' passers' → Acts d r cells' passers'
      unfolding happens from_by entered_passers
      call-formal-acts e h =
          let l = led d call-formal-op e in
          let k = h.move-is (first_of d) l.0 in
          acted call-formal-op e came k (h.cells_are (first_of d) l.0 (arguments-led d l.1)) (h.passers-are ∙ call-passers call-formal-op refl _ (do_call_formal F s).move k)
