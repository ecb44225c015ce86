-- What a name stands for is what the text says, for a script that keeps the rules. Read `Designated fs x k` as: x is the designator of a
-- declared instance of kind k; `Wired fs` as: every formal's word is one, of the formal's kind and in a frame further out (a run keeps
-- that: Wiring.antt). `designates-kind`: a name with a coordinate designates an instance of its kind. `calls-procedures`: so what is
-- called is always a procedure.
use Rattle.std.specs.Prelude.{ℕ, pred, ◌+◌, ◌*◌, ◌-◌, ◌%◌, ◌≤◌, ◌<◌, Bool, true, false, List, map, ◌≡◌, refl, leb, pos, length, get_or}
use Rattle.std.proofs.Common.{arith, sym, ap, ◌∙◌, subst, leb-true, leb-false}
use Rattle.std.proofs.Math.Option.{none, some, map-eq-some_iff, none-ne-some, some-injective}
use Rattle.std.proofs.Math.ListN.{get_elem?}
use Rattle.std.proofs.lemmas.List.{length-map}
use Rattle.language.specs.Basics.{last?, lookup}
use Rattle.language.specs.Text.{Kind, procedure, Formal, Action, CL, Block, Decl, VR, LB, PR, DO, block_decls, decl_kind, decl_formals, formal_kinds}
use Rattle.language.specs.Scope.{Meaning, formal_meaning, decl_meaning}
use Rattle.laws.specs.Lists.{get_elem-append, get_elem-after, get_elem?-map, get_d-elem}
use Rattle.grammar.specs.Rules.{Is, ScopedAction, Keeps}
use Rattle.frames.specs.Frame.{Frame, Stack, numbered, frame_names, designator_in, finally, designates, frame_number, place, decl_of, frame_stmt}
use Rattle.frames.specs.Numbered.{numbered-at, numbered-low, numbered-high}
use Rattle.frame_laws.specs.Finding.{decl_of-found, finally-formal, finally-declared}
use Rattle.coordinates.specs.Enclosure.{Enclosing}
use Rattle.coordinates.specs.Chain.{enclosing, enclosure_of, level_of, climb, Chained}
use Rattle.coordinates.proofs.Coordinates.{instance_at, declaring-frame, designates-by-links}
use Rattle.coordinates.proofs.Kept.{Procedures, chained-downward}
use Rattle.coordinates.proofs.Levels.{in-innermost, names-bound}
use Rattle.coordinates.proofs.Visible.{meanings_of, scope_of, Located, visible-coordinate, scoped-action}
use Rattle.coordinates.proofs.Statements.{called-here}

pub record Designated (fs : List Frame) (x : ℕ) (k : Kind) : Type 0 where
  pub home : Frame
  pub stands : numbered fs (frame_number x) ≡ some home
  -- past the formals
  pub past : length home.formals ≤ place x
  pub decl : Decl
  pub declared : decl_of fs x ≡ some decl
  pub kind : decl_kind decl ≡ k

pub record Wire (fs : List Frame) (k : ℕ) (f : Frame) (i : ℕ) (m : Formal) : Type 0 where
  pub designator : ℕ
  pub word : get_elem? f.words i ≡ some (pos designator)
  pub outer : frame_number designator < k
  pub instance : Designated fs designator m.kind

abbrev pub Wired : List Frame → Type 0
Wired fs = (k : ℕ) (f : Frame) → numbered fs k ≡ some f → (i : ℕ) (m : Formal) → get_elem? f.formals i ≡ some m → Wire fs k f i m

-- the formal or the declaration that a meaning of a block comes from

meaning-of-formal : (e : Enclosing) (p : ℕ) (x : ℕ × Meaning) → numbered (meanings_of e) p ≡ some x → 1 ≤ p → p ≤ length e.formals → (m : Formal) × (get_elem? e.formals (p - 1) ≡ some m) × (formal_meaning m ≡ x)
unfolding meanings_of
meaning-of-formal e p x q low h =
    let l = length-map e.formals formal_meaning in
    (map-eq-some_iff formal_meaning (get_elem? e.formals (p - 1))).0
    (sym (get_elem?-map formal_meaning e.formals (p - 1)) ∙ sym (get_elem-append (map formal_meaning e.formals) (map decl_meaning (block_decls e.text)) (p - 1) (omega (arith, l))) ∙ sym (numbered-at (meanings_of e) p low) ∙ q)

meaning-of-decl : (e : Enclosing) (p : ℕ) (x : ℕ × Meaning) → numbered (meanings_of e) p ≡ some x → length e.formals < p → (d : Decl) × (get_elem? (block_decls e.text) (p - 1 - length e.formals) ≡ some d) × (decl_meaning d ≡ x)
unfolding meanings_of
meaning-of-decl e p x q h =
    let l = length-map e.formals formal_meaning in
    let i : p - 1 - length (map formal_meaning e.formals) ≡ p - 1 - length e.formals = ap (λ n. p - 1 - n) l in
    (map-eq-some_iff decl_meaning (get_elem? (block_decls e.text) (p - 1 - length e.formals))).0
    (sym (get_elem?-map decl_meaning (block_decls e.text) (p - 1 - length e.formals)) ∙ ap (get_elem? (map decl_meaning (block_decls e.text))) (sym i)
    ∙ sym (get_elem-after (map formal_meaning e.formals) (map decl_meaning (block_decls e.text)) (p - 1) (omega (arith, l))) ∙ sym (numbered-at (meanings_of e) p (omega arith)) ∙ q)

formal-kind : (f : Formal) (n : ℕ) (m : Meaning) → formal_meaning f ≡ (n, m) → f.kind ≡ m.kind
unfolding formal_meaning
formal-kind f n m e = ap (λ (x : ℕ × Meaning). x.1.kind) e

decl-meaning-kind : (d : Decl) → decl_kind d ≡ (decl_meaning d).1.kind
unfolding decl_meaning decl_kind
decl-meaning-kind (VR at n) = refl
decl-meaning-kind (LB at n i) = refl
decl-meaning-kind (PR at n fs b) = refl

decl-kind : (d : Decl) (n : ℕ) (m : Meaning) → decl_meaning d ≡ (n, m) → decl_kind d ≡ m.kind
decl-kind d n m e = decl-meaning-kind d ∙ ap (λ (x : ℕ × Meaning). x.1.kind) e

-- a declared name's designator, taken apart

pub number-of : (k p : ℕ) → p < 64 → frame_number (k * 64 + p) ≡ k
unfolding frame_number
number-of k p h = omega arith

pub place-of : (k p : ℕ) → p < 64 → place (k * 64 + p) ≡ p - 1
unfolding place
place-of k p h =
    let e : (k * 64 + p) % 64 ≡ p = omega arith in
    let i : pred p ≡ p - 1 = omega arith in
    ap pred e ∙ i

-- the declaration there, and what it means
pub own-declared : (fs : List Frame) (k p : ℕ) (g : Frame) (n : ℕ) (m : Meaning) → numbered fs k ≡ some g → numbered (meanings_of (enclosing g)) p ≡ some (n, m) → length g.formals < p → p < 64 → (d : Decl) × (decl_of fs (k * 64 + p) ≡ some d) × (decl_meaning d ≡ (n, m))
unfolding enclosing
own-declared fs k p g n m e q h s =
    let d = meaning-of-decl (enclosing g) p (n, m) q h in
    let stands : numbered fs (frame_number (k * 64 + p)) ≡ some g = ap (numbered fs) (number-of k p s) ∙ e in
    (d.0, decl_of-found fs (k * 64 + p) g stands ∙ ap (λ i. get_elem? (block_decls g.text) (i - length g.formals)) (place-of k p s) ∙ d.1, d.2)

own-designated : (fs : List Frame) (k p : ℕ) (g : Frame) (n : ℕ) (m : Meaning) → numbered fs k ≡ some g → numbered (meanings_of (enclosing g)) p ≡ some (n, m) → length g.formals < p → p < 64 → Designated fs (k * 64 + p) m.kind
own-designated fs k p g n m e q h s =
    let d = own-declared fs k p g n m e q h s in
    record { home = g; stands = ap (numbered fs) (number-of k p s) ∙ e; past = omega (arith, place-of k p s); decl = d.0; declared = d.1; kind = decl-kind d.0 n m d.2 }

-- a formal's word, and a declared name

pub formal-designates : (fs : List Frame) (k p j : ℕ) (g : Frame) (x : ℕ) → numbered fs k ≡ some g → leb p (length g.formals) ≡ true → get_elem? g.words (p - 1) ≡ some (pos x) → finally fs (instance_at k p j) ≡ x
unfolding designator_in
formal-designates fs k p j g x e l w =
    let i : pred p ≡ p - 1 = omega arith in
    finally-formal fs (instance_at k p j) g e l ∙ ap designator_in (ap (λ n. get_or g.words n (pos 0)) i ∙ get_d-elem g.words (p - 1) (pos x) (pos 0) w)

instance-designated : (fs : List Frame) → Wired fs → (k p j : ℕ) (g : Frame) (n : ℕ) (m : Meaning) → numbered fs k ≡ some g → numbered (meanings_of (enclosing g)) p ≡ some (n, m) → p < 64
    → (b : Bool) → leb p (length g.formals) ≡ b → Designated fs (finally fs (instance_at k p j)) m.kind
unfolding enclosing
instance-designated fs wired k p j g n m e q s true l =
    let f = meaning-of-formal (enclosing g) p (n, m) q (numbered-low (meanings_of (enclosing g)) p (n, m) q) (leb-true p (length g.formals) l) in
    let w = wired k g e (p - 1) f.0 f.1 in
    subst (Designated fs (finally fs (instance_at k p j))) (formal-kind f.0 n m f.2)
    (subst (λ x. Designated fs x f.0.kind) (sym (formal-designates fs k p j g w.designator e l w.word)) w.instance)
instance-designated fs wired k p j g n m e q s false l =
    subst (λ x. Designated fs x m.kind) (sym (finally-declared fs (instance_at k p j) g e l)) (own-designated fs k p g n m e q (leb-false p (length g.formals) l) s)

-- the frame and the position that a name's coordinate leads to
record Home (fs : List Frame) (n : ℕ) (m : Meaning) : Type 0 where
  number : ℕ
  position : ℕ
  links : ℕ
  frame : Frame
  stands : numbered fs number ≡ some frame
  means : numbered (meanings_of (enclosing frame)) position ≡ some (n, m)
  small : position < 64
  designated : designates fs n ≡ finally fs (instance_at number position links)

home-of : (t : Block) → Keeps t → (fs : List Frame) → Chained t fs → (n : ℕ) (m : Meaning) → Located (enclosure_of fs (length fs)) n m → Home fs n m
home-of t h fs chain n m at =
    let down = chained-downward t fs chain in
    let c = at.coordinate in
    let d = declaring-frame fs down (length fs) n c at.found in
    let links = level_of fs (length fs) - c.level in
    let k = climb fs (length fs) links in
    let same : at.block ≡ enclosing d.frame = some-injective at.block (enclosing d.frame) (sym at.stands ∙ d.block) in
    let few = names-bound t h fs chain k d.frame d.stands in
    let high = numbered-high (frame_names d.frame) c.position n d.named in
    record {
      number = k;
      position = c.position;
      links = links;
      frame = d.frame;
      stands = d.stands;
      means = subst (λ (e : Enclosing). numbered (meanings_of e) c.position ≡ some (n, m)) same at.means;
      small = omega arith;
      designated = designates-by-links fs down n c at.found;
    }

pub designates-kind : (t : Block) → Keeps t → (fs : List Frame) → Chained t fs → Wired fs → (n : ℕ) (m : Meaning) → Located (enclosure_of fs (length fs)) n m → Designated fs (designates fs n) m.kind
designates-kind t h fs chain wired n m at =
    let o = home-of t h fs chain n m at in
    subst (λ x. Designated fs x m.kind) (sym o.designated)
    (instance-designated fs wired o.number o.position o.links o.frame n m o.stands o.means o.small (leb o.position (length o.frame.formals)) refl)

-- a name that means a declared procedure designates that procedure: a formal's meaning says nothing of what it takes

formal-takes : (f : Formal) (n : ℕ) (m : Meaning) → formal_meaning f ≡ (n, m) → m.takes ≡ none
unfolding formal_meaning
formal-takes f n m e = sym (ap (λ (x : ℕ × Meaning). x.1.takes) e)

decl-takes : (d : Decl) (n : ℕ) (m : Meaning) (ks : List Kind) → decl_meaning d ≡ (n, m) → m.takes ≡ some ks → formal_kinds (decl_formals d) ≡ ks
unfolding decl_meaning decl_formals
decl-takes (VR at x) n m ks e q = absurd (none-ne-some ks (ap (λ (y : ℕ × Meaning). y.1.takes) e ∙ q))
decl-takes (LB at x i) n m ks e q = absurd (none-ne-some ks (ap (λ (y : ℕ × Meaning). y.1.takes) e ∙ q))
decl-takes (PR at x fs b) n m ks e q = some-injective (formal_kinds fs) ks (ap (λ (y : ℕ × Meaning). y.1.takes) e ∙ q)

pub designates-procedure : (t : Block) → Keeps t → (fs : List Frame) → Chained t fs → (n : ℕ) (m : Meaning) (ks : List Kind) → lookup n (scope_of (enclosure_of fs (length fs))) ≡ some m → m.takes ≡ some ks
    → (d : Decl) × (decl_of fs (designates fs n) ≡ some d) × (formal_kinds (decl_formals d) ≡ ks)
unfolding enclosing
designates-procedure t h fs chain n m ks e q = go (leb o.position (length o.frame.formals)) refl
  where
    o : Home fs n m
    o = home-of t h fs chain n m (visible-coordinate (enclosure_of fs (length fs)) n m e)

    go : (b : Bool) → leb o.position (length o.frame.formals) ≡ b → (d : Decl) × (decl_of fs (designates fs n) ≡ some d) × (formal_kinds (decl_formals d) ≡ ks)
    go true l =
        let f = meaning-of-formal (enclosing o.frame) o.position (n, m) o.means (numbered-low (meanings_of (enclosing o.frame)) o.position (n, m) o.means) (leb-true o.position (length o.frame.formals) l) in
        absurd (none-ne-some ks (sym (formal-takes f.0 n m f.2) ∙ q))
    go false l =
        let d = own-declared fs o.number o.position o.frame n m o.stands o.means (leb-false o.position (length o.frame.formals) l) o.small in
        (d.0, ap (decl_of fs) (o.designated ∙ finally-declared fs (instance_at o.number o.position o.links) o.frame o.stands l) ∙ d.1, decl-takes d.0 n m ks d.2 q)

-- the scope in which the innermost frame's statements stand
pub statement-scoped : (t : Block) → Keeps t → (fs : List Frame) → Chained t fs → (f : Frame) (at : ℕ) (a : Action) → last? fs ≡ some f → frame_stmt f ≡ some (DO at a) → ScopedAction a (scope_of (enclosure_of fs (length fs)))
unfolding frame_stmt enclosing
statement-scoped t h fs chain f at a e q =
    in-innermost t fs chain f e (λ es. ScopedAction a (scope_of es)) (λ es w. scoped-action t h (enclosing f) es w (pred f.next) at a q)

pub name-designated : (t : Block) → Keeps t → (fs : List Frame) → Chained t fs → Wired fs → (n : ℕ) (m : Meaning) → lookup n (scope_of (enclosure_of fs (length fs))) ≡ some m → Designated fs (designates fs n) m.kind
name-designated t h fs chain wired n m e = designates-kind t h fs chain wired n m (visible-coordinate (enclosure_of fs (length fs)) n m e)

-- so a name used as a k is declared as one
pub designates-a : (t : Block) → Keeps t → (fs : List Frame) → Chained t fs → Wired fs → (k : Kind) (n : ℕ) → Is k (scope_of (enclosure_of fs (length fs))) n → Designated fs (designates fs n) k
designates-a t h fs chain wired k n is = subst (Designated fs (designates fs n)) is.2 (name-designated t h fs chain wired n is.0 is.1)

pub declared-kind : (fs : List Frame) (x : ℕ) (k : Kind) (d : Decl) → Designated fs x k → decl_of fs x ≡ some d → decl_kind d ≡ k
declared-kind fs x k d h e = ap decl_kind (some-injective d h.decl (sym e ∙ h.declared)) ∙ h.kind

pub calls-procedures : (t : Block) → Keeps t → (s : Stack) → Chained t s.frames → Wired s.frames → Procedures s
unfolding ScopedAction
calls-procedures t h s chain wired d c =
    let a = statement-scoped t h s.frames chain c.caller c.at (CL c.name c.arguments) c.innermost c.statement in
    declared-kind s.frames (designates s.frames c.name) procedure d (designates-a t h s.frames chain wired procedure c.name a.called) (called-here s d c)
