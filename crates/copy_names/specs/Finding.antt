-- What is noted of new names leads each to its cell: `cell-of-instance` of a name with an instance, `cell-of-name` of a name that the next statement
-- uses, `cell-of-looked` of any name that designates something. What is noted stays right: `new-names-kept`, `new-names-more`, `new-names-start`.
use Rattle.std.specs.Prelude.{ℕ, zero, suc, pred, ◌+◌, ◌*◌, ◌/◌, ◌%◌, ◌≤◌, ◌<◌, Bool, true, false, List, [], ◌∷◌, ◌≡◌, refl, eqb, length, get_or, set}
use Rattle.std.proofs.Common.{arith, ◌∙◌, subst, eqb-true, get_or-set_same, get_or-set_other}
use Rattle.std.proofs.Math.Option.{some}
use Rattle.std.proofs.Math.Path.{sym, ap}
use Rattle.std.proofs.lemmas.Bool.{eqb-false}
use Rattle.std.proofs.Math.ListN.{get_elem?, length-map}
use Rattle.language.specs.Basics.{up_from}
use Rattle.language.specs.Text.{Block, block_decls, decl_name, declared_names}
use Rattle.language.specs.Copy.{renamed}
use Rattle.language.specs.Machine.{Activation, State, Instance, instance_from, instance}
use Rattle.laws.specs.Tests.{by-lookup, none≢some, some_inj}
use Rattle.laws.specs.Lists.{get_elem-bound, get_elem-in}
use Rattle.laws.specs.Instances.{FoundAt, found_at}
use Rattle.laws.specs.Rising.{name-at}
use Rattle.grammar.specs.Formed.{block-few}
use Rattle.frames.specs.Frame.{Stack, designates, frame_number, place}
use Rattle.frames.specs.Numbered.{numbered-zero}
use Rattle.frames.specs.Related.{joined, designator_for, designator_at, Related, twin-at}
use Rattle.frames.proofs.Find.{as-many-decls, designates-name}
use Rattle.coordinates.proofs.Next.{Resolved}
use Rattle.arrays.specs.Holds.{cell_of}
use Rattle.resolved.specs.Layout.{cell_from}
use Rattle.copy_names.specs.Owner.{owner_in, cell_in, Sorted, NewNames}
use Rattle.copy_names.specs.Search.{owner-is}

-- an activation has at most 32 names
module _ (s : State) (t : Stack) (r : Related s t) where
  pub few-names : (k : ℕ) (a : Activation) → get_elem? s.live k ≡ some a → length a.arguments + length (block_decls a.text) ≤ 32
  unfolding declared_names
  few-names k a e =
      let p = twin-at s t r k a e in
      let f = p.0 in
      let w = p.2 in
      let m = length-map (block_decls f.text) decl_name in
      let m' = length-map (block_decls a.text) decl_name in
      let few = block-few w.fine.level f.formals w.fine.here f.text w.fine.formed in
      omega (arith, w.as_many, as-many-decls s.live s.values k a f w)

cell-of-place : (number position : ℕ) → position ≤ 32 → cell_of (number * 64 + position) ≡ cell_from (pred number) (pred position)
unfolding cell_of frame_number place
cell-of-place number position h =
    let q : (number * 64 + position) / 64 ≡ number = omega arith in
    let m : (number * 64 + position) % 64 ≡ position = omega arith in
    rw (q, m)

module _
    (s : State) (t : Stack) (r : Related s t) (firsts starts : List ℕ) (n : NewNames s.live s.fresh firsts starts)
    (k : ℕ) (a : Activation) (deep : length s.live ≡ suc k) (e : get_elem? s.live k ≡ some a) where
  pub sorted : Sorted firsts k
  sorted j m low high = go (eqb j m) refl
    where
      go : (b : Bool) → eqb j m ≡ b → get_or firsts j 0 ≤ get_or firsts m 0
      go true q = let z = ap (λ (i : ℕ). get_or firsts i 0) (eqb-true j m q) in omega arith
      go false q =
          let z = eqb-false j m q in
          let c = get_elem-in s.live j (omega arith) in
          let less : j < m = omega arith in
          omega (arith, n.rise j m c.0 less (omega arith) c.1)

  -- the activation that declares the name, and the name's place among its declared names
  module _ (x : ℕ) (i : Instance) (w : FoundAt x 1 s.live i) where
    name-is : x ≡ get_or firsts w.depth 0 + w.index
    unfolding declared_names
    name-is =
        sym w.name-is
        ∙ name-at w.index (get_or firsts w.depth 0) (block_decls i.home.text) i.decl (n.names-are w.depth i.home w.home_at) w.decl-at

    index-bound : w.index < length (block_decls i.home.text)
    index-bound = get_elem-bound (block_decls i.home.text) w.index i.decl w.decl-at

    depth-bound : w.depth ≤ k
    depth-bound = omega (arith, deep, get_elem-bound s.live w.depth i.home w.home_at)

    later : (j : ℕ) → w.depth < j → j ≤ k → x < get_or firsts j 0
    later j low high = omega (arith, name-is, index-bound, n.rise w.depth j i.home low (omega arith) w.home_at)

    owner-found : owner_in firsts k x ≡ w.depth
    owner-found =
        owner-is firsts k w.depth (w.depth + 1) x (omega arith)
        (record { within = depth-bound; from = λ q. omega (arith, name-is); below = λ j p low high. later j low high })

    cell-found : cell_in firsts starts k x ≡ cell_from w.depth (length i.home.arguments + w.index)
    unfolding cell_in
    cell-found = rw owner-found (omega (arith, name-is, n.starts-are w.depth i.home w.home_at))

    designator-found : cell_of (i.number * 64 + i.position) ≡ cell_from w.depth (length i.home.arguments + w.index)
    designator-found =
        let few : i.position ≤ 32 = omega (arith, w.position-is, index-bound, few-names s t r w.depth i.home w.home_at) in
        cell-of-place i.number i.position few ∙ omega (arith, w.number_is, w.position-is)

  pub cell-of-instance : (x : ℕ) (i : Instance) → instance s x ≡ some i
      → (owner_in firsts k x ≡ pred i.number) × (cell_in firsts starts k x ≡ cell_of (designator_at s.live x)) × (get_or firsts 0 0 ≤ x)
  unfolding instance designator_at designator_for
  cell-of-instance x i q =
      let w = found_at s x i q in (
        omega (arith, owner-found x i w, w.number_is),
        cell-found x i w ∙ (sym (designator-found x i w) ∙ ap cell_of (sym (ap designator_for q))),
        omega (arith, name-is x i w, sorted 0 w.depth (omega arith) (depth-bound x i w)),
      )

  -- a name that designates something, as it reads in the innermost activation
  pub cell-of-looked : (m : ℕ) → m < 65536 → (designates t.frames m ≡ 0 → ⊥)
      → let x = renamed (joined a.reads) m in (cell_in firsts starts k x ≡ cell_of (designates t.frames m)) × (get_or firsts 0 0 ≤ x)
  unfolding designator_at designator_for instance
  cell-of-looked m h some_one =
      let x = renamed (joined a.reads) m in
      let d = designates-name s t r k a deep e m h in
      by-lookup (instance_from x 1 s.live) (λ q. absurd (some_one (d ∙ ap designator_for q))) λ i q.
      let c = cell-of-instance x i q in
      (c.1 ∙ ap cell_of (sym d), c.2)

  -- a name that the next statement uses
  pub cell-of-name : (m : ℕ) → m < 65536 → Resolved t.frames m
      → let x = renamed (joined a.reads) m in (cell_in firsts starts k x ≡ cell_of (designates t.frames m)) × (get_or firsts 0 0 ≤ x)
  unfolding frame_number
  cell-of-name m h resolved =
      cell-of-looked m h λ z.
      none≢some (sym (numbered-zero t.frames (designates t.frames m / 64) (omega arith)) ∙ resolved.instance.stands)

-- the activation at a place has the text, the arguments and the reading that it had in another stack
abbrev pub Stays : List Activation → ℕ → Activation → Type 0
Stays as' j c = (b : Activation) × (get_elem? as' j ≡ some b) × (b.text ≡ c.text) × (b.arguments ≡ c.arguments) × (b.reads ≡ c.reads)

module _ (firsts starts : List ℕ) where
  -- some are left, and they may go on at other statements
  pub new-names-kept : (as' as'' : List Activation) (fresh : ℕ) → ((j : ℕ) (c : Activation) → get_elem? as'' j ≡ some c → Stays as' j c)
      → NewNames as' fresh firsts starts → NewNames as'' fresh firsts starts
  new-names-kept as' as'' fresh stays n =
      record {
        names-are = λ k c q.
            let b = stays k c q in
            subst (λ (x : Block). declared_names x ≡ up_from (get_or firsts k 0) (length (block_decls x))) b.2 (n.names-are k b.0 b.1);
        rise = λ j k c low high q.
            let b = stays j c q in
            let d = get_elem-in as'' k high in
            let top = stays k d.0 d.1 in
            let h = n.rise j k b.0 low (get_elem-bound as' k top.0 top.1) b.1 in
            subst (λ (x : Block). get_or firsts j 0 + length (block_decls x) ≤ get_or firsts k 0) b.2 h;
        given_out = λ k c q.
            let b = stays k c q in
            subst (λ (x : Block). get_or firsts k 0 + length (block_decls x) ≤ fresh) b.2 (n.given_out k b.0 b.1);
        starts-are = λ k c q. let b = stays k c q in n.starts-are k b.0 b.1 ∙ ap (λ (xs : List ℕ). cell_from k (length xs)) b.3;
      }

  -- one activation more is entered
  module _ (as' as'' : List Activation) (fresh : ℕ) (new : Activation) where
    pub new-names-more : length as'' ≡ suc (length as') → ((j : ℕ) (c : Activation) → j < length as' → get_elem? as'' j ≡ some c → Stays as' j c)
        → get_elem? as'' (length as') ≡ some new → declared_names new.text ≡ up_from fresh (length (block_decls new.text))
        → length firsts ≡ 256 → length starts ≡ 256 → length as' < 256 → NewNames as' fresh firsts starts
        → NewNames as'' (fresh + length (block_decls new.text))
        (set firsts (length as') fresh) (set starts (length as') (cell_from (length as') (length new.arguments)))
    new-names-more deep stays newest named long-firsts long-starts room n =
        record { names-are = names; rise = rises; given_out = given; starts-are = begun }
      where
        after : ℕ
        after = length as'

        firsts' : List ℕ
        firsts' = set firsts after fresh

        starts' : List ℕ
        starts' = set starts after (cell_from after (length new.arguments))

        first-here : get_or firsts' after 0 ≡ fresh
        first-here = get_or-set_same firsts after fresh 0 (omega (arith, long-firsts, room))

        first_below : (k : ℕ) → k < after → get_or firsts' k 0 ≡ get_or firsts k 0
        first_below k h = get_or-set_other firsts after k fresh 0 (λ z. let y = z in omega arith)

        start-below : (k : ℕ) → k < after → get_or starts' k 0 ≡ get_or starts k 0
        start-below k h = get_or-set_other starts after k (cell_from after (length new.arguments)) 0 (λ z. let y = z in omega arith)

        -- an activation is the one entered, or one of those before
        which : (X : ℕ → Activation → Type 0) → X after new → ((k : ℕ) (c : Activation) → k < after → Stays as' k c → X k c)
            → (k : ℕ) (c : Activation) → get_elem? as'' k ≡ some c → X k c
        which X top rest k c q = go (eqb k after) refl
          where
            go : (b : Bool) → eqb k after ≡ b → X k c
            go true z =
                let p = eqb-true k after z in
                let same : new ≡ c = some_inj (sym newest ∙ (ap (get_elem? as'') (sym p) ∙ q)) in
                subst (λ (i : ℕ). X i c) (sym p) (subst (X after) same top)
            go false z =
                let p = eqb-false k after z in
                let below : k < after = omega (arith, deep, get_elem-bound as'' k c q) in
                rest k c below (stays k c below q)

        names : (k : ℕ) (c : Activation) → get_elem? as'' k ≡ some c → declared_names c.text ≡ up_from (get_or firsts' k 0) (length (block_decls c.text))
        names =
            which (λ k c. declared_names c.text ≡ up_from (get_or firsts' k 0) (length (block_decls c.text)))
            (rw first-here named)
            λ k c h b.
            rw (first_below k h) (subst (λ (x : Block). declared_names x ≡ up_from (get_or firsts k 0) (length (block_decls x))) b.2 (n.names-are k b.0 b.1))

        given : (k : ℕ) (c : Activation) → get_elem? as'' k ≡ some c → get_or firsts' k 0 + length (block_decls c.text) ≤ fresh + length (block_decls new.text)
        given =
            which (λ k c. get_or firsts' k 0 + length (block_decls c.text) ≤ fresh + length (block_decls new.text))
            (omega (arith, first-here))
            λ k c h b. omega (arith, first_below k h, n.given_out k b.0 b.1, ap (λ (x : Block). length (block_decls x)) b.2)

        begun : (k : ℕ) (c : Activation) → get_elem? as'' k ≡ some c → get_or starts' k 0 ≡ cell_from k (length c.arguments)
        begun =
            which (λ k c. get_or starts' k 0 ≡ cell_from k (length c.arguments))
            (get_or-set_same starts after (cell_from after (length new.arguments)) 0 (omega (arith, long-starts, room)))
            λ k c h b. start-below k h ∙ (n.starts-are k b.0 b.1 ∙ ap (λ (xs : List ℕ). cell_from k (length xs)) b.3)

        rises : (j k : ℕ) (c : Activation) → j < k → k < length as'' → get_elem? as'' j ≡ some c
            → get_or firsts' j 0 + length (block_decls c.text) ≤ get_or firsts' k 0
        rises j k c low high q = go (eqb k after) refl
          where
            b : Stays as' j c
            b = stays j c (omega (arith, deep)) q

            many : length (block_decls b.0.text) ≡ length (block_decls c.text)
            many = ap (λ (x : Block). length (block_decls x)) b.2

            go : (z : Bool) → eqb k after ≡ z → get_or firsts' j 0 + length (block_decls c.text) ≤ get_or firsts' k 0
            go true z =
                let top : get_or firsts' k 0 ≡ fresh = ap (λ (i : ℕ). get_or firsts' i 0) (eqb-true k after z) ∙ first-here in
                omega (arith, top, deep, first_below j (omega (arith, deep)), n.given_out j b.0 b.1, many)
            go false z =
                let p = eqb-false k after z in
                let below : k < after = omega (arith, deep) in
                omega (arith, first_below j (omega arith), first_below k below, n.rise j k b.0 low below b.1, many)

  -- the program is entered
  pub new-names-start : (new : Activation) (fresh : ℕ) → declared_names new.text ≡ up_from fresh (length (block_decls new.text))
      → get_or starts 0 0 ≡ length new.arguments → 1 ≤ length firsts
      → NewNames (new ∷ []) (fresh + length (block_decls new.text)) (set firsts 0 fresh) starts
  new-names-start new fresh named begun room =
      record {
        names-are = alone (λ k c. declared_names c.text ≡ up_from (get_or (set firsts 0 fresh) k 0) (length (block_decls c.text))) (rw first-here named);
        rise = λ j k c low high q. absurd (omega arith);
        given_out = alone (λ k c. get_or (set firsts 0 fresh) k 0 + length (block_decls c.text) ≤ fresh + length (block_decls new.text))
            (omega (arith, first-here));
        starts-are = alone (λ k c. get_or starts k 0 ≡ cell_from k (length c.arguments)) (omega (arith, begun));
      }
    where
      first-here : get_or (set firsts 0 fresh) 0 0 ≡ fresh
      first-here = get_or-set_same firsts 0 fresh 0 (omega (arith, room))

      alone : (X : ℕ → Activation → Type 0) → X 0 new → (k : ℕ) (c : Activation) → get_elem? (new ∷ []) k ≡ some c → X k c
      alone X h zero c q = subst (X 0) (some_inj q) h
      alone X h (suc k) c q = none≢some q
