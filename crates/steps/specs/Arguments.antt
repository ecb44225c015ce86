-- The arguments of a call. Words written one after the other: `written-length`, `written_below`, `written_at`. What is written
-- (`arguments_from`): `handed-at`, `handed-length`. Whether kinds agree: `kinds-agree`, from what stands before the body and at the arguments;
-- `declared-takes`: what the script check knows a procedure to take that is called by a name that is no formal.
use Prim.Native.Nat.{ℕ, zero, suc, ◌+◌, ◌-◌, ◌*◌, ◌≤◌, ◌<◌}
use native.Mathlib.Omega.{arith}
use Rattle.std.proofs.Common.{not-suc-le-zero, le_of_suc-le-suc, ◌∙◌, length-set, get_or-set_same, get_or-set_other}
use Rattle.std.specs.Prelude.{true, ◌&&◌, ◌≡◌, leb, ℤ, pos, set}
use mathlib.Core.List.{List, [], ◌∷◌, map}
use Rattle.std.proofs.Math.Option.{Option, some, map-eq-some_iff}
use Rattle.std.proofs.Math.Path.{refl, sym, ap, subst}
use borrow.Author.Tests.{leb-true, leb-false, lt-leb}
use Rattle.std.proofs.Math.Dec.{eqb}
use Rattle.std.proofs.Math.ListN.{length, get_or, get_elem?, length-map}
use Rattle.language.specs.Basics.{lookup}
use Rattle.language.specs.Text.{Kind, variable, label, procedure, Formal, Block, Decl, PR, block_decls, formal_kinds, same_kind}
use Rattle.language.specs.Encoding.{kind_field}
use Rattle.language.specs.Scope.{Meaning, Scope, formal_meaning, decl_meaning, agree}
use Rattle.laws.specs.Tests.{split, none≢some, some_inj}
use Rattle.laws.specs.Lists.{get_elem-after, get_elem?-map}
use Rattle.laws.specs.Each.{Each}
use Rattle.grammar.specs.Rules.{Keeps}
use Rattle.frames.specs.Frame.{Frame, numbered, frame_names, designates, frame_number, decl_of, kind_of}
use Rattle.frames.specs.Numbered.{numbered-at, numbered-high}
use Rattle.frame_laws.specs.Finding.{decl_of-found, kind_of-found, finally-declared}
use Rattle.coordinates.specs.Enclosure.{Enclosing, Encloses}
use Rattle.coordinates.specs.Chain.{enclosing, enclosure_of, level_of, climb, Chained}
use Rattle.coordinates.proofs.Coordinates.{instance_at, declaring-frame, designates-by-links}
use Rattle.coordinates.proofs.Kept.{chained-downward}
use Rattle.coordinates.proofs.Levels.{names-bound}
use Rattle.coordinates.proofs.Visible.{meanings_of, scope_of, visible-coordinate}
use Rattle.coordinates.proofs.Designated.{Designated, Wired, number-of, place-of}
use Rattle.coordinates.proofs.Next.{Resolved}
use Rattle.resolved.specs.Resolved.{kind_in, direct, name_word, resolved_formals, Covers}
use Rattle.resolved.proofs.NameWords.{narrow-of-text, name-is}
use Rattle.arrays.specs.Holds.{Holds}
use Rattle.arrays.proofs.Names.{named-by-links}
use Rattle.arrays.proofs.Found.{direct_is}
use Rattle.run_moves.specs.Effects.{same_kinds}
use Rattle.run_moves.specs.Acting.{Finding, Scene, set_all, arguments_from}

-- Words written

pub written-length : (ws : List ℤ) (first : ℕ) (zs : List ℤ) → length (set_all ws first zs) ≡ length ws
unfolding set_all
written-length ws first [] = refl
written-length ws first (z ∷ zs) = written-length (set ws first z) (first + 1) zs ∙ length-set ws first z

pub written_below : (ws : List ℤ) (first : ℕ) (zs : List ℤ) (i : ℕ) → i < first → get_or (set_all ws first zs) i (pos 0) ≡ get_or ws i (pos 0)
unfolding set_all
written_below ws first [] i h = refl
written_below ws first (z ∷ zs) i h = written_below (set ws first z) (first + 1) zs i (omega arith) ∙ get_or-set_other ws first i z (pos 0) (λ e. omega arith)

pub written_at : (ws : List ℤ) (first : ℕ) (zs : List ℤ) (i : ℕ) (z : ℤ) → first + length zs ≤ length ws → get_elem? zs i ≡ some z → get_or (set_all ws first zs) (first + i) (pos 0) ≡ z
unfolding set_all
written_at ws first [] i z h e = none≢some e
written_at ws first (y ∷ zs) zero z h e =
    let n : first + 0 ≡ first = omega arith in
    ap (λ k. get_or (set_all (set ws first y) (first + 1) zs) k (pos 0)) n ∙ written_below (set ws first y) (first + 1) zs first (omega arith)
    ∙ get_or-set_same ws first y (pos 0) (omega arith) ∙ some_inj e
written_at ws first (y ∷ zs) (suc i) z h e =
    let n : first + suc i ≡ first + 1 + i = omega arith in
    ap (λ k. get_or (set_all (set ws first y) (first + 1) zs) k (pos 0)) n ∙ written_at (set ws first y) (first + 1) zs i z (omega (arith, length-set ws first y)) e

module _ (F : Finding) (s : Scene) where
  pub handed-length : (from n : ℕ) → length (arguments_from F s from n) ≡ n
  unfolding arguments_from
  handed-length from zero = refl
  handed-length from (suc n) = ap suc (handed-length (from + 1) n)

  pub handed-at : (from n i : ℕ) → i < n → get_elem? (arguments_from F s from n) i ≡ some (F.handed (get_or s.code (from + i) 0))
  unfolding arguments_from
  handed-at from zero i h = absurd (not-suc-le-zero h)
  handed-at from (suc n) zero h = let e : from ≡ from + 0 = omega arith in ap (λ k. some (F.handed (get_or s.code k 0))) e
  handed-at from (suc n) (suc i) h =
      let e : from + 1 + i ≡ from + suc i = omega arith in
      handed-at (from + 1) n i (le_of_suc-le-suc h) ∙ ap (λ k. some (F.handed (get_or s.code k 0))) e

-- Kinds

same-field : (g k : Kind) → eqb (kind_field k) (kind_field g) ≡ same_kind g k
unfolding kind_field same_kind
same-field variable variable = refl
same-field variable label = refl
same-field variable procedure = refl
same-field label variable = refl
same-field label label = refl
same-field label procedure = refl
same-field procedure variable = refl
same-field procedure label = refl
same-field procedure procedure = refl

module _ (code : List ℕ) (fs : List Frame) where
  -- the word at each argument's place has the kind of what the argument designates
  abbrev pub KindsStand : ℕ → List ℕ → Type 0
  KindsStand from [] = Unit {0}
  KindsStand from (a ∷ xs) = ((k : Kind) × (kind_in (get_or code from 0) ≡ kind_field k) × (kind_of fs (designates fs a) ≡ some k)) × KindsStand (from + 1) xs

  agree-more : (g : Kind) (ks : List Kind) (o : Option Kind) (k : Kind) (os : List (Option Kind)) → o ≡ some k → agree (g ∷ ks) (o ∷ os) ≡ same_kind g k && agree ks os
  unfolding agree
  agree-more g ks o k os e = ap (λ (x : Option Kind). agree (g ∷ ks) (x ∷ os)) e

  pub kinds-agree : (gs : List Formal) (xs : List ℕ) (from formals : ℕ) → length gs ≡ length xs → Covers code formals (resolved_formals gs) → KindsStand from xs
      → same_kinds code from formals (length xs) ≡ agree (formal_kinds gs) (map (kind_of fs) (map (designates fs) xs))
  unfolding same_kinds formal_kinds agree resolved_formals
  kinds-agree [] [] from formals e c k = refl
  kinds-agree [] (x ∷ xs) from formals e c k = absurd (omega arith)
  kinds-agree (g ∷ gs) [] from formals e c k = absurd (omega arith)
  kinds-agree (g ∷ gs) (x ∷ xs) from formals e c k =
      let two : formals + 2 ≡ formals + 1 + 1 = omega arith in
      let three : formals + 1 + 1 + 1 ≡ formals + 3 = omega arith in
      let here : eqb (kind_in (get_or code from 0)) (get_or code (formals + 2) 0) ≡ same_kind g.kind k.0.0 = (λ i. eqb (k.0.1 i) ((ap (λ j. get_or code j 0) two ∙ c.1.1.0) i)) ∙ same-field g.kind k.0.0 in
      let rest = kinds-agree gs xs (from + 1) (formals + 3) (omega arith) (subst (λ j. Covers code j (resolved_formals gs)) three c.1.1.1) k.1 in
      (λ i. here i && rest i) ∙ sym (agree-more g.kind (formal_kinds gs) (kind_of fs (designates fs x)) k.0.0 (map (kind_of fs) (map (designates fs) xs)) k.0.2)

pub kind-designated : (fs : List Frame) (x : ℕ) (k : Kind) → Designated fs x k → kind_of fs x ≡ some k
kind-designated fs x k d = kind_of-found fs x d.decl d.declared ∙ ap some d.kind

module _ (t : Block) (keeps : Keeps t) (fs : List Frame) (chain : Chained t fs) (wired : Wired fs) where
  abbrev word_of : ℕ → ℕ
  word_of n = name_word (enclosure_of fs (length fs)) n

  abbrev scope : Scope
  scope = scope_of (enclosure_of fs (length fs))

  pub kinds-stand : (code : List ℕ) (blocks nexts links : List ℕ) (cells : List ℤ) → Holds fs blocks nexts links cells → (from : ℕ) (xs : List ℕ) → Covers code from (map word_of xs) → Each (Resolved fs) xs → KindsStand code fs from xs
  kinds-stand code blocks nexts links cells holds from [] c r = tt
  kinds-stand code blocks nexts links cells holds from (a ∷ xs) c r =
      let k = r.0.meaning.kind in
      let named = named-by-links t keeps fs chain a r.0.coordinate r.0.here wired blocks nexts links cells holds in
      ((k, ap kind_in c.0 ∙ named.kind k r.0.instance, kind-designated fs (designates fs a) k r.0.instance), kinds-stand code blocks nexts links cells holds (from + 1) xs c.1 r.1)

  -- The script check

  -- the declaration that a meaning past the formals comes from
  meaning-declared : (e : Enclosing) (p : ℕ) (x : ℕ × Meaning) → numbered (meanings_of e) p ≡ some x → length e.formals < p
      → (d : Decl) × (get_elem? (block_decls e.text) (p - 1 - length e.formals) ≡ some d) × (decl_meaning d ≡ x)
  unfolding meanings_of
  meaning-declared e p x q h =
      let ms = map formal_meaning e.formals in
      let ds = map decl_meaning (block_decls e.text) in
      let n : length ms ≡ length e.formals = length-map e.formals formal_meaning in
      let i = p - 1 - length e.formals in
      let same : p - 1 - length ms ≡ i = ap (λ k. p - 1 - k) n in
      (map-eq-some_iff decl_meaning (get_elem? (block_decls e.text) i)).0
      (sym (get_elem?-map decl_meaning (block_decls e.text) i) ∙ ap (get_elem? ds) (sym same) ∙ sym (get_elem-after ms ds (p - 1) (omega arith)) ∙ sym (numbered-at (meanings_of e) p (omega arith)) ∙ q)

  takes_of : (at n : ℕ) (gs : List Formal) (b : Block) (p : ℕ) (m : Meaning) → decl_meaning (PR at n gs b) ≡ (p, m) → m.takes ≡ some (formal_kinds gs)
  unfolding decl_meaning
  takes_of at n gs b p m e = λ i. (sym e i).1.takes

  -- a procedure called by a name that is no formal takes what its declaration says
  pub declared-takes : Encloses t (enclosure_of fs (length fs)) → (p : ℕ) (m : Meaning) → lookup p scope ≡ some m → direct (word_of p) ≡ true
      → (at n : ℕ) (gs : List Formal) (b : Block) → decl_of fs (designates fs p) ≡ some (PR at n gs b) → m.takes ≡ some (formal_kinds gs)
  unfolding enclosing
  declared-takes within p m e dir at n gs b declared =
      let down = chained-downward t fs chain in
      let es = enclosure_of fs (length fs) in
      let v = visible-coordinate es p m e in
      let c = v.coordinate in
      let g = declaring-frame fs down (length fs) p c v.found in
      let f = g.frame in
      let up = level_of fs (length fs) - c.level in
      let holder = climb fs (length fs) up in
      let same : v.block ≡ enclosing f = some_inj (sym v.stands ∙ g.block) in
      let means = subst (λ (x : Enclosing). numbered (meanings_of x) c.position ≡ some (p, m)) same v.means in
      let word = name-is es (narrow-of-text t keeps es within) p c v.found (enclosing f) g.block in
      let past : length f.formals < c.position = split (leb c.position (length f.formals))
      (λ q. absurd (omega (arith, direct_is (word_of p) dir, word.formal (leb-true c.position (length f.formals) q))))
      (λ q. leb-false c.position (length f.formals) q) in
      let few : c.position < 64 = omega (arith, names-bound t keeps fs chain holder f g.stands, numbered-high (frame_names f) c.position p g.named) in
      let x : designates fs p ≡ holder * 64 + c.position = designates-by-links fs down p c v.found ∙ finally-declared fs (instance_at holder c.position up) f g.stands (lt-leb c.position (length f.formals) past) in
      let stands : numbered fs (frame_number (holder * 64 + c.position)) ≡ some f = ap (numbered fs) (number-of holder c.position few) ∙ g.stands in
      let found = meaning-declared (enclosing f) c.position (p, m) means past in
      let there : decl_of fs (designates fs p) ≡ some found.0 = ap (decl_of fs) x ∙ decl_of-found fs (holder * 64 + c.position) f stands ∙ ap (λ i. get_elem? (block_decls f.text) (i - length f.formals)) (place-of holder c.position few) ∙ found.1 in
      takes_of at n gs b p m (ap decl_meaning (some_inj (sym declared ∙ there)) ∙ found.2)
