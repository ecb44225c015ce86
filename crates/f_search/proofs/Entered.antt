-- How each frame was entered, and what the names of the call that entered it are, for frames that are linked as the text says, with right words
-- of formals, each made by the statement passed last below (`Chained`, `Wired`, `Made`). `entered`: a frame above the first was entered by a BK or by a
-- CL. `meaning`: a name of a frame's text is declared, in a frame on the static chain, or is a formal of such a frame. `called-kind`: what a CL called
-- is a procedure. `argument`: what a formal stands for is what its argument designated in the frame below.
use Prim.Native.Nat.{ℕ, zero, suc, pred, ◌+◌, ◌-◌, ◌≤◌, ◌<◌}
use Rattle.std.proofs.Common.{arith, ap, ◌∙◌, subst, leb-true, leb-false, le-leb, ltb-true, ltb-false}
use Rattle.std.specs.Prelude.{true, false, ◌≡◌, refl, leb, ltb, ℤ, pos}
use mathlib.Core.List.{List, [], ◌∷◌, ◌++◌, map}
use Rattle.std.proofs.Math.Option
use Rattle.std.proofs.Math.Option.{none, some, map-eq-some_iff}
use Rattle.std.proofs.Math.Path.{sym}
use Rattle.std.proofs.Math.ListN.{length, take, get_elem?}
use Rattle.std.proofs.Math.Seq.{length-take-le}
use Rattle.language.specs.Basics.{last?}
use Rattle.language.specs.Text.{Kind, procedure, Formal, CL, GO, IF, KN, AR, AD, RM, QY, Block, Decl, Stmt, BK, DO, block_decls, decl_name, decl_kind, decl_formals, decl_body}
use Rattle.language.specs.Scope.{Meaning}
use Rattle.laws.specs.Tests.{split, by-lookup, none≢some, some_inj}
use Rattle.laws.specs.Each.{Each, each_map, each_at}
use Rattle.laws.specs.Lists.{get_elem-in, get_elem_take, get_elem-append, get_elem-after, image-at}
use Rattle.grammar.specs.Rules.{ScopedAction, Keeps}
use Rattle.frames.specs.Frame.{Frame, NamePlace, numbered, frame_names, finally, designates, frame_number, decl_of, new_frame, zero_words}
use Rattle.frames.specs.Numbered.{numbered-low, numbered-high, numbered-exists, numbered-at, numbered-take, last-numbered}
use Rattle.frame_laws.specs.Finding.{finally-declared}
use Rattle.coordinates.specs.Enclosure.{Enclosing, Enclosure, Coordinate, coordinate_of, whole}
use Rattle.coordinates.specs.Chain.{enclosing, enclosure_of, level_of, climb, outline, Downward, Linked, outermost, within, Chained}
use Rattle.coordinates.proofs.Along.{climb-bound, climb-alike}
use Rattle.coordinates.proofs.Search.{enclosure-step}
use Rattle.coordinates.proofs.Declared.{coordinate-declares}
use Rattle.coordinates.proofs.Coordinates.{level-of-text, instance_at, DeclaringFrame, declaring-frame, sought-by-links, designates-by-links}
use Rattle.coordinates.proofs.Moves.{alike-take}
use Rattle.coordinates.proofs.Kept.{chained-alike, chained-downward}
use Rattle.coordinates.proofs.Levels.{frame-encloses, in-innermost, names-bound}
use Rattle.coordinates.proofs.Visible.{action_names, meanings_of, scope_of, Located, decl-named, scoped-action, names-have-coordinates}
use Rattle.coordinates.proofs.Statements.{enclosure-alike, level-alike}
use Rattle.coordinates.proofs.Designated.{Designated, Wire, Wired, number-of, own-declared, formal-designates, designates-a, declared-kind}
use Rattle.coordinates.proofs.Wiring.{wired-kept}
use Rattle.coordinates.specs.Made.{wiring, passed, body_of, action_makes, stmt_makes, makes, Made}
use Rattle.coordinates.proofs.Making.{passed-there, makes-nothing, makes-by}
use Rattle.f_search.specs.Passers.{call_in, call_of, FormalAt, formal_at, formal_of, argument_for}
use Rattle.f_search.proofs.Kept.{call_at, formal-sought, argument-of, calls-take, calls-downward}
use Rattle.f_search.proofs.OnChain.{OnChain, climb-on-chain}

-- The frame that a statement makes

pub data Entered (fs : List Frame) (k : ℕ) (f : Frame) : Type 0 where
  by-block : (g : Frame) (b : Block) → numbered fs k ≡ some g → passed g ≡ some (BK b) → f.formals ≡ [] → f.link ≡ k → Entered fs k f
  by_call : (g : Frame) (at p : ℕ) (xs : List ℕ) (d : Decl) → numbered fs k ≡ some g → passed g ≡ some (DO at (CL p xs)) → decl_of (take k fs) (designates (take k fs) p) ≡ some d
      → wiring f ≡ wiring (new_frame (decl_formals d) (map (designates (take k fs)) xs) (decl_body d) (frame_number (designates (take k fs) p))) → Entered fs k f

module _ (fs : List Frame) where
  body-made : (gs : List Frame) (p : ℕ) (xs : List ℕ) (f : Frame) → body_of gs p xs ≡ some f
      → (d : Decl) × (decl_of gs (designates gs p) ≡ some d) × (new_frame (decl_formals d) (map (designates gs) xs) (decl_body d) (frame_number (designates gs p)) ≡ f)
  unfolding body_of
  body-made gs p xs f e =
      by-lookup (decl_of gs (designates gs p)) (λ q. none≢some (rw (q, body_of) at e)) (λ d q. (d, q, some_inj (rw (q, body_of) at e)))

  entered_by : (k : ℕ) (f g : Frame) (x : Stmt) (f' : Frame) → numbered fs k ≡ some g → passed g ≡ some x → stmt_makes (take k fs) x ≡ some f' → wiring f' ≡ wiring f → Entered fs k f
  unfolding stmt_makes action_makes wiring outline enclosing new_frame
  entered_by k f g (BK b) f' e q m w =
      let l : length (take k fs) ≡ k = length-take-le k fs (numbered-high fs k g e) in
      let same = sym (ap wiring (some_inj m) ∙ w) in
      by-block g b e q (ap (λ (v : (Enclosing × ℕ) × List ℤ). v.0.0.formals) same) (ap (λ (v : (Enclosing × ℕ) × List ℤ). v.0.1) same ∙ l)
  entered_by k f g (DO at (CL p xs)) f' e q m w =
      let d = body-made (take k fs) p xs f' m in by_call g at p xs d.0 e q d.1 (sym (ap wiring d.2 ∙ w))
  entered_by k f g (DO at (GO l)) f' e q m w = none≢some m
  entered_by k f g (DO at (IF v l)) f' e q m w = none≢some m
  entered_by k f g (DO at (KN v z)) f' e q m w = none≢some m
  entered_by k f g (DO at (AR v o a b)) f' e q m w = none≢some m
  entered_by k f g (DO at (AD a b)) f' e q m w = none≢some m
  entered_by k f g (DO at (RM a b)) f' e q m w = none≢some m
  entered_by k f g (DO at (QY v a b)) f' e q m w = none≢some m

  last_taken : (k : ℕ) (g : Frame) → numbered fs k ≡ some g → last? (take k fs) ≡ some g
  last_taken k g e = last-numbered (take k fs) ∙ ap (numbered (take k fs)) (length-take-le k fs (numbered-high fs k g e)) ∙ numbered-take k fs k (omega arith) ∙ e

  pub entered : Made fs → (k : ℕ) (f : Frame) → 1 ≤ k → numbered fs (suc k) ≡ some f → Entered fs k f
  entered made k f low e =
      let high : k ≤ length fs = omega (arith, numbered-high fs (suc k) f e) in
      let below = numbered-exists fs k low high in
      let g = below.0 in
      let last = last_taken k g below.1 in
      let m = (map-eq-some_iff wiring (makes (take k fs))).0 (made k f low e) in
      by-lookup (passed g) (λ q. none≢some (sym (makes-nothing (take k fs) g last q) ∙ m.1)) (λ x q. entered_by k f g x m.0 below.1 q (sym (makes-by (take k fs) g x last q) ∙ m.1) m.2)

-- What a name of a frame's text is

-- a formal that some frame has
pub record Held (fs : List Frame) (x : FormalAt) : Type 0 where
  pub holder : Frame
  pub stands : numbered fs x.frame ≡ some holder
  pub low : 1 ≤ x.position
  pub high : x.position ≤ length holder.formals

-- the designator that a formal's word is
abbrev pub stands_for : List Frame → FormalAt → ℕ
stands_for fs x = finally fs (instance_at x.frame x.position 0)

pub data Means (fs : List Frame) (k n : ℕ) : Type 0 where
  declared : (d : Decl) → formal_of fs k n ≡ none → OnChain fs k (frame_number (designates (take k fs) n)) → decl_of fs (designates (take k fs) n) ≡ some d → decl_name d ≡ n → Means fs k n
  formal : (x : FormalAt) → formal_of fs k n ≡ some x → Held fs x → x.frame ≤ k → designates (take k fs) n ≡ stands_for fs x → Means fs k n

finally-taken : (fs : List Frame) (k : ℕ) (p : NamePlace) → p.number ≤ k → finally (take k fs) p ≡ finally fs p
unfolding finally
finally-taken fs k p h = rw (numbered-take k fs p.number h, finally)

-- the links followed count for nothing
pub finally-alike : (fs : List Frame) (k p i j : ℕ) → finally fs (instance_at k p i) ≡ finally fs (instance_at k p j)
unfolding finally
finally-alike fs k p i j = refl

module _ (fs : List Frame) (down : Downward fs) (k n : ℕ) (c : Coordinate) (found : coordinate_of (enclosure_of fs k) n ≡ some c) where
  abbrev links : ℕ
  links = level_of fs k - c.level

  pub designates-from : k ≤ length fs → designates (take k fs) n ≡ finally fs (instance_at (climb fs k links) c.position links)
  designates-from h =
      let gs = take k fs in
      let same = alike-take k fs in
      let l : length gs ≡ k = length-take-le k fs h in
      let level : level_of gs (length gs) ≡ level_of fs k = ap (level_of gs) l ∙ level-alike fs gs k same down k (omega arith) in
      let around : enclosure_of gs (length gs) ≡ enclosure_of fs k = ap (enclosure_of gs) l ∙ enclosure-alike fs gs k same down k (omega arith) in
      let place : climb gs (length gs) (level_of gs (length gs) - c.level) ≡ climb fs k links = (λ i. climb gs (l i) (level i - c.level)) ∙ climb-alike fs gs k same down k links (omega arith) in
      designates-by-links gs (calls-downward k fs gs (calls-take k fs) (omega arith) down) n c (ap (λ (es : Enclosure). coordinate_of es n) around ∙ found)
      ∙ (λ i. finally gs (instance_at (place i) c.position (level i - c.level))) ∙ finally-taken fs k (instance_at (climb fs k links) c.position links) (climb-bound fs down k links)

  pub formal-from : formal_of fs k n ≡ formal_at fs (instance_at (climb fs k links) c.position (0 + links))
  formal-from = formal-sought fs k n (instance_at (climb fs k links) c.position (0 + links)) (sought-by-links fs down k k n 0 c (omega arith) found)

pub formal-there : (fs : List Frame) (p : NamePlace) (g : Frame) → numbered fs p.number ≡ some g → leb p.position (length g.formals) ≡ true → formal_at fs p ≡ some (record { frame = p.number; position = p.position })
unfolding formal_at
formal-there fs p g e l = rw (formal_at, e, l)

pub declared-there : (fs : List Frame) (p : NamePlace) (g : Frame) → numbered fs p.number ≡ some g → leb p.position (length g.formals) ≡ false → formal_at fs p ≡ none
unfolding formal_at
declared-there fs p g e l = rw (formal_at, e, l)

module _ (t : Block) (keeps : Keeps t) (fs : List Frame) (chain : Chained t fs) where
  abbrev down : Downward fs
  down = chained-downward t fs chain

  pub meaning : (k n : ℕ) (m : Meaning) → k ≤ length fs → Located (enclosure_of fs k) n m → Means fs k n
  unfolding enclosing
  meaning k n m h at = split (leb c.position (length d.frame.formals)) a-formal no-formal
    where
      c : Coordinate
      c = at.coordinate

      found : coordinate_of (enclosure_of fs k) n ≡ some c
      found = at.found

      d : DeclaringFrame fs k n c
      d = declaring-frame fs down k n c found

      up : ℕ
      up = level_of fs k - c.level

      home : ℕ
      home = climb fs k up

      a-formal : leb c.position (length d.frame.formals) ≡ true → Means fs k n
      a-formal l =
          formal (record { frame = home; position = c.position }) (formal-from fs down k n c found ∙ formal-there fs (instance_at home c.position (0 + up)) d.frame d.stands l)
          (record { holder = d.frame; stands = d.stands; low = numbered-low (frame_names d.frame) c.position n d.named; high = leb-true c.position (length d.frame.formals) l })
          (climb-bound fs down k up) (designates-from fs down k n c found h ∙ finally-alike fs home c.position up 0)

      no-formal : leb c.position (length d.frame.formals) ≡ false → Means fs k n
      no-formal l =
          let b = coordinate-declares (enclosure_of fs k) n c found in
          let few : c.position < 64 = omega (arith, numbered-high (frame_names d.frame) c.position n d.named, names-bound t keeps fs chain home d.frame d.stands) in
          let designator = designates-from fs down k n c found h ∙ finally-declared fs (instance_at home c.position up) d.frame d.stands l in
          let number : frame_number (designates (take k fs) n) ≡ home = ap frame_number designator ∙ number-of home c.position few in
          let same : at.block ≡ enclosing d.frame = some_inj (sym at.stands ∙ d.block) in
          let means = subst (λ (e : Enclosing). numbered (meanings_of e) c.position ≡ some (n, m)) same at.means in
          let own = own-declared fs home c.position d.frame n m d.stands means (leb-false c.position (length d.frame.formals) l) few in
          declared own.0 (formal-from fs down k n c found ∙ declared-there fs (instance_at home c.position (0 + up)) d.frame d.stands l)
          (subst (OnChain fs k) (sym number) (climb-on-chain fs down k c.level b.low (omega (arith, b.high, level-of-text fs k))))
          (ap (decl_of fs) designator ∙ own.1) (sym (decl-named own.0) ∙ ap (λ (x : ℕ × Meaning). x.0) own.2)

  -- the names of the call that a frame has passed last
  pub call-names : (k : ℕ) (g : Frame) (at p : ℕ) (xs : List ℕ) → numbered fs k ≡ some g → passed g ≡ some (DO at (CL p xs)) → Each (Means fs k) (p ∷ xs)
  unfolding enclosing action_names
  call-names k g at p xs e q =
      let named = names-have-coordinates t keeps (enclosing g) (enclosure_of fs g.link) (frame-encloses t fs chain k g e) (pred (pred g.next)) at (CL p xs) (passed-there g (DO at (CL p xs)) q) in
      each_map (λ n. (m : Meaning) × Located (enclosing g ∷ enclosure_of fs g.link) n m) (Means fs k) (p ∷ xs)
      (λ n v. meaning k n v.0 (numbered-high fs k g e) (subst (λ (es : Enclosure). Located es n v.0) (sym (enclosure-step fs down k g e)) v.1)) named

  pub called-kind : Wired fs → (k : ℕ) (g : Frame) (at p : ℕ) (xs : List ℕ) (d : Decl) → numbered fs k ≡ some g → passed g ≡ some (DO at (CL p xs)) → decl_of (take k fs) (designates (take k fs) p) ≡ some d → decl_kind d ≡ procedure
  unfolding enclosing ScopedAction
  called-kind wired k g at p xs d e q z =
      let gs = take k fs in
      let l : length gs ≡ k = length-take-le k fs (numbered-high fs k g e) in
      let chained : Chained t gs = λ i f n. chained-alike t fs gs k (alike-take k fs) chain i f (omega (arith, numbered-high gs i f n, l)) n in
      let wires : Wired gs = wired-kept fs gs (λ i h. sym (ap (Option.map wiring) (numbered-take k fs i (omega (arith, h, l))))) wired in
      let scoped = in-innermost t gs chained g (last_taken fs k g e) (λ es. ScopedAction (CL p xs) (scope_of es)) (λ es w. scoped-action t keeps (enclosing g) es w (pred (pred g.next)) at (CL p xs) (passed-there g (DO at (CL p xs)) q)) in
      declared-kind gs (designates gs p) procedure d (designates-a t keeps gs chained wires procedure p scoped.called) z

-- What stood for a formal

-- a formal's word is that of an argument, where it designates anything
argument-word : (r : ℕ → ℕ) (ms : List Formal) (xs : List ℕ) (b : Block) (link : ℕ) (f : Frame) (i y : ℕ) → wiring f ≡ wiring (new_frame ms (map r xs) b link) → i < length f.formals → get_elem? f.words i ≡ some (pos y) → 1 ≤ y
    → (n : ℕ) × (get_elem? xs i ≡ some n) × (y ≡ r n)
unfolding wiring outline enclosing new_frame zero_words
argument-word r ms xs b link f i y w h e low = split (ltb i (length words)) inside past
  where
    words : List ℤ
    words = map pos (map r xs)

    zeros : List ℤ
    zeros = map (λ (d : Decl). pos 0) (block_decls b)

    count : length f.formals ≡ length ms
    count = ap (λ (v : (Enclosing × ℕ) × List ℤ). length v.0.0.formals) w

    there : get_elem? (words ++ zeros) i ≡ some (pos y)
    there =
        sym (get_elem_take (words ++ zeros) (length ms) i (omega (arith, count))) ∙ ap (λ (v : (Enclosing × ℕ) × List ℤ). get_elem? v.1 i) (sym w)
        ∙ get_elem_take f.words (length f.formals) i h ∙ e

    inside : ltb i (length words) ≡ true → (n : ℕ) × (get_elem? xs i ≡ some n) × (y ≡ r n)
    inside q =
        let a = image-at pos (map r xs) i (pos y) (sym (get_elem-append words zeros i (ltb-true i (length words) q)) ∙ there) in
        let n = image-at r xs i a.0 a.1 in
        let same : y ≡ a.0 = cc a.2 in
        (n.0, n.1, same ∙ n.2)

    past : ltb i (length words) ≡ false → (n : ℕ) × (get_elem? xs i ≡ some n) × (y ≡ r n)
    past q =
        let d = image-at (λ (d : Decl). pos 0) (block_decls b) (i - length words) (pos y) (sym (get_elem-after words zeros i (ltb-false i (length words) q)) ∙ there) in
        let none : y ≡ 0 = cc d.2 in
        absurd (omega arith)

-- the argument's name, which stood in the frame below the formal's
pub record Stood (fs : List Frame) (x : FormalAt) : Type 0 where
  pub name : ℕ
  pub given : argument_for fs x ≡ some name
  pub low : 1 ≤ pred x.frame
  pub means : Means fs (pred x.frame) name
  pub same : stands_for fs x ≡ designates (take (pred x.frame) fs) name

designated-low : (fs : List Frame) (x : ℕ) (k : Kind) → Designated fs x k → 1 ≤ x
unfolding frame_number
designated-low fs x k d = omega (arith, numbered-low fs (frame_number x) d.home d.stands)

wire-of : (fs : List Frame) → Wired fs → (x : FormalAt) (held : Held fs x) → (m : Formal) × Wire fs x.frame held.holder (x.position - 1) m
wire-of fs wired x held =
    let m = get_elem-in held.holder.formals (x.position - 1) (omega (arith, held.low, held.high)) in
    (m.0, wired x.frame held.holder held.stands (x.position - 1) m.0 m.1)

-- the program's frame has no formals
first-none : (t : Block) (fs : List Frame) → Chained t fs → (f : Frame) → numbered fs 1 ≡ some f → length f.formals ≡ 0
unfolding enclosing whole
first-none t fs chain f e = by (chain 1 f e)
  where
    by : Linked t fs 1 f → length f.formals ≡ 0
    by (outermost one z w) = ap (λ (o : Enclosing). length o.formals) w
    by (within g l n st) = absurd (omega (arith, numbered-low fs f.link g n))

module _ (t : Block) (keeps : Keeps t) (fs : List Frame) (chain : Chained t fs) (wired : Wired fs) (made : Made fs) where
  stood-in : (k i : ℕ) → 1 ≤ k → Held fs (record { frame = suc k; position = i }) → Stood fs (record { frame = suc k; position = i })
  unfolding call_of call_in
  stood-in k i low held = by (entered fs made k f low held.stands) (wire-of fs wired (record { frame = suc k; position = i }) held)
    where
      f : Frame
      f = held.holder

      by : Entered fs k f → (m : Formal) × Wire fs (suc k) f (i - 1) m → Stood fs (record { frame = suc k; position = i })
      by (by-block g b e q z l) wire = absurd (omega (arith, held.low, held.high, ap length z))
      by (by_call g at p xs d e q z w) (m, wire) =
          let x = wire.designator in
          let a = argument-word (designates (take k fs)) (decl_formals d) xs (decl_body d) (frame_number (designates (take k fs) p)) f (i - 1) x w (omega (arith, held.low, held.high)) wire.word (designated-low fs x m.kind wire.instance) in
          record {
            name = a.0;
            given = argument-of fs (record { frame = suc k; position = i }) (record { called = p; arguments = xs }) (call_at fs (suc k) g (DO at (CL p xs)) e q) ∙ numbered-at xs i held.low ∙ a.1;
            low = low;
            means = each_at (Means fs k) xs (i - 1) a.0 a.1 (call-names t keeps fs chain k g at p xs e q).1;
            same = formal-designates fs (suc k) i 0 f x held.stands (le-leb i (length f.formals) held.high) wire.word ∙ a.2;
          }

  pub argument : (x : FormalAt) → Held fs x → Stood fs x
  argument x held = by x.frame x.position held
    where
      by : (k i : ℕ) → Held fs (record { frame = k; position = i }) → Stood fs (record { frame = k; position = i })
      by zero i h = absurd (omega (arith, numbered-low fs 0 h.holder h.stands))
      by (suc zero) i h = absurd (omega (arith, first-none t fs chain h.holder h.stands, h.low, h.high))
      by (suc (suc k)) i h = stood-in (suc k) i (omega arith) h
