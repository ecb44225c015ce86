-- Finding a name: along the frames' static links it comes to the instance that the name reads as by the copy rule.
use Prim.Native.Nat.{ℕ, zero, suc, pred, ◌+◌, ◌-◌, ◌≤◌, ◌<◌}
use native.Mathlib.Omega.{arith}
use Rattle.std.proofs.Common.{not-suc-le-zero, le_of_suc-le-suc, ◌∙◌, subst, subst₂, length-append}
use Rattle.std.specs.Prelude.{Bool, true, false, ◌≡◌, leb, ℤ, pos, length, get_or}
use Rattle.std.proofs.Math.Path.{refl, sym, ap}
use mathlib.Core.List.{List, [], ◌∷◌, ◌++◌, map, append-nil}
use Rattle.std.proofs.Math.Option
use Rattle.std.proofs.Math.Option.{Option, none, some}
use Rattle.std.proofs.Math.ListN.{get_elem?, length-map, get_or-append}
use Rattle.std.proofs.Math.Seq.{get_or-append-add}
use borrow.Author.Tests.{le-leb, lt-leb, leb-true, leb-false}
use Rattle.language.specs.Basics.{lookup, zip}
use Rattle.language.specs.Text.{Formal, Block, Decl, block_decls, decl_name, formal_names, declared_names}
use Rattle.language.specs.Copy.{Replacement, renamed}
use Rattle.language.specs.Machine.{Activation, State}
use Rattle.language.specs.Sheet.{LookedUp, seek}
use Rattle.laws.specs.Tests.{none≢some, some_inj}
use Rattle.laws.specs.Lists.{get_elem-in, get_elem-bound, get_d-elem, lengths-append, get_elem?-map}
use Rattle.laws.specs.Lookup.{zip-append, lookup-left, lookup-right}
use Rattle.laws.specs.Renaming.{renamed-some, renamed-none, declared_names-renamed}
use Rattle.laws.specs.Rising.{rising-instance, rising_none}
use Rattle.frames.specs.Frame.{Frame, Stack, NamePlace, numbered, frame_names, position_from, seek_from, seek_name, designator_in, finally, designates, links_followed}
use Rattle.frames.specs.Positions.{lookup-position, lookup-no-position, position-range}
use Rattle.frames.specs.Related.{reads_in, reads_at, joined, designator_for, designator_at, word_in, own_of, Twin, Related, as-deep, twin-at}

-- what is sought in the readings is what the readings give all together
pub seek-some : (n j : ℕ) (σs : List Replacement) (d : LookedUp) → seek n j σs ≡ some d → lookup n (joined σs) ≡ some d.name
unfolding seek joined
seek-some n j [] d e = none≢some e
seek-some n j (σ ∷ σs) d e = go (lookup n σ) refl (seek-some n (suc j) σs d)
  where
    go : (o : Option ℕ) → lookup n σ ≡ o → (seek n (suc j) σs ≡ some d → lookup n (joined σs) ≡ some d.name) → lookup n (σ ++ joined σs) ≡ some d.name
    go none q ih = lookup-right n σ (joined σs) q ∙ ih (rw (q, seek) at e)
    go (some x) q ih =
        let p : Path (Option LookedUp) (some (record { name = x; passed = j })) (some d) = rw (q, seek) at e in
        lookup-left n σ (joined σs) x q ∙ ap (λ (c : LookedUp). some c.name) (some_inj p)

pub seek-none : (n j : ℕ) (σs : List Replacement) → seek n j σs ≡ none → lookup n (joined σs) ≡ none
unfolding seek joined lookup
seek-none n j [] e = refl
seek-none n j (σ ∷ σs) e = go (lookup n σ) refl (seek-none n (suc j) σs)
  where
    go : (o : Option ℕ) → lookup n σ ≡ o → (seek n (suc j) σs ≡ none → lookup n (joined σs) ≡ none) → lookup n (σ ++ joined σs) ≡ none
    go none q ih = lookup-right n σ (joined σs) q ∙ ih (rw (q, seek) at e)
    go (some x) q ih = absurd (none≢some (sym (rw (q, seek) at e)))

-- Both searches find nothing, or both find: the place's designator is the name's, after as many blocks as links.
unfoldable pub Agree : List Activation → List Frame → Option LookedUp → Option NamePlace → Type 0
Agree l fs none none = Unit {0}
Agree l fs none (some p) = ⊥
Agree l fs (some d) none = ⊥
Agree l fs (some d) (some p) = (finally fs p ≡ designator_at l d.name) × (p.followed ≡ d.passed)

-- an activation's own names, and what they read as, by position
module _ (l : List Activation) (vs : List (ℕ × ℤ)) (k : ℕ) (a : Activation) (f : Frame) (t : Twin l vs k a f) where
  pub as-many-names : length (formal_names f.formals) ≡ length a.arguments
  unfolding formal_names
  as-many-names = length-map f.formals (λ (x : Formal). x.name) ∙ sym t.as_many

  pub as-many-decls : length (declared_names f.text) ≡ length (declared_names a.text)
  as-many-decls = sym (ap (λ (b : Block). length (declared_names b)) t.text-is ∙ (ap length (declared_names-renamed f.text (joined a.reads)) ∙ length-map (declared_names f.text) (renamed (joined a.reads))))

  own-pairs : own_of f a ++ [] ≡ zip (frame_names f) (a.arguments ++ declared_names a.text) ++ []
  unfolding own_of frame_names
  own-pairs = ap (λ (σ : Replacement). σ ++ []) (zip-append (formal_names f.formals) a.arguments (declared_names f.text) (declared_names a.text) as-many-names)

  own-length : length (frame_names f) ≡ length (a.arguments ++ declared_names a.text)
  unfolding frame_names
  own-length = lengths-append (formal_names f.formals) (declared_names f.text) a.arguments (declared_names a.text) as-many-names as-many-decls

  own_at : (n q : ℕ) → position_from n 1 (frame_names f) ≡ some (1 + q) → lookup n (own_of f a) ≡ some (get_or (a.arguments ++ declared_names a.text) q 0)
  own_at n q e =
      ap (lookup n) (sym (append-nil (own_of f a)) ∙ own-pairs) ∙
      lookup-position 0 [] n 1 q (frame_names f) (a.arguments ++ declared_names a.text) own-length e

  own-not : (n : ℕ) → position_from n 1 (frame_names f) ≡ none → lookup n (own_of f a) ≡ none
  unfolding lookup
  own-not n e =
      ap (lookup n) (sym (append-nil (own_of f a)) ∙ own-pairs) ∙
      lookup-no-position 0 [] n 1 (frame_names f) (a.arguments ++ declared_names a.text) own-length e

  -- the name at a position of a declared name, and of a formal
  decl-name-at : (q : ℕ) (d : Decl) → get_elem? (block_decls a.text) q ≡ some d → get_or (a.arguments ++ declared_names a.text) (length a.arguments + q) 0 ≡ decl_name d
  unfolding declared_names
  decl-name-at q d e =
      get_or-append-add a.arguments (map decl_name (block_decls a.text)) q 0 ∙
      get_d-elem (map decl_name (block_decls a.text)) q (decl_name d) 0 (get_elem?-map decl_name (block_decls a.text) q ∙ ap (Option.map decl_name) e)

  -- a formal's word is the designator of what it reads as
  formal-word : (q : ℕ) → q < length a.arguments → get_or f.words q (pos 0) ≡ pos (designator_at l (get_or (a.arguments ++ declared_names a.text) q 0))
  formal-word q h =
      let g : ℕ → ℤ = λ (x : ℕ). pos (designator_at l x) in
      ap (λ (ws : List ℤ). get_or ws q (pos 0)) t.words_are ∙
      (get_or-append (map g a.arguments) (map (word_in vs) (block_decls a.text)) (pos 0) q (rw (length-map a.arguments g) h) ∙
      (get_d-map' g a.arguments q h ∙ ap g (sym (get_or-append a.arguments (declared_names a.text) 0 q h))))
    where
      get_d-map' : (g : ℕ → ℤ) (xs : List ℕ) (q : ℕ) → q < length xs → get_or (map g xs) q (pos 0) ≡ g (get_or xs q 0)
      get_d-map' g [] q h = absurd (not-suc-le-zero h)
      get_d-map' g (x ∷ xs) zero h = refl
      get_d-map' g (x ∷ xs) (suc q) h = get_d-map' g xs q (le_of_suc-le-suc h)

-- the place found among the own names has the designator of what the name reads as
module _ (s : State) (t : Stack) (r : Related s t) (k : ℕ) (a : Activation) (f : Frame) (e : get_elem? s.live k ≡ some a) (e' : get_elem? t.frames k ≡ some f) (w : Twin s.live s.values k a f) where
  found-formal : (q j : ℕ) → q < length a.arguments → finally t.frames (record { number = suc k; position = 1 + q; followed = j }) ≡ designator_at s.live (get_or (a.arguments ++ declared_names a.text) q 0)
  unfolding finally numbered designator_in
  found-formal q j h =
      let p : pred (1 + q) ≡ q = omega arith in
      rw (e', le-leb (1 + q) (length f.formals) (let z = w.as_many in omega arith), finally) (rw (p, formal-word s.live s.values k a f w q h))

  found_declared : (i j : ℕ) (d : Decl) → get_elem? (block_decls a.text) i ≡ some d → finally t.frames (record { number = suc k; position = 1 + (length a.arguments + i); followed = j }) ≡ designator_at s.live (decl_name d)
  unfolding finally numbered designator_at designator_for
  found_declared i j d g =
      let p = rising-instance 65536 s.live s.fresh 1 k i a d r.rising e g in
      rw (e', lt-leb (1 + (length a.arguments + i)) (length f.formals) (let z = w.as_many in omega arith), finally) (rw p (omega arith))

  -- a name among the own ones
  abbrev OwnFound : ℕ → ℕ → ℕ → Type 0
  OwnFound n j p =
      (x : ℕ) × (lookup n (own_of f a) ≡ some x) × (finally t.frames (record { number = suc k; position = p; followed = j }) ≡ designator_at s.live x)

  decl-in : (i : ℕ) → i < length (declared_names a.text) → (d : Decl) × (get_elem? (block_decls a.text) i ≡ some d)
  unfolding declared_names
  decl-in i h = get_elem-in (block_decls a.text) i (rw (length-map (block_decls a.text) decl_name) at h)

  found_at : (n j q : ℕ) → q < length (a.arguments ++ declared_names a.text) → position_from n 1 (frame_names f) ≡ some (1 + q) → OwnFound n j (1 + q)
  found_at n j q range h = go (leb (suc q) (length a.arguments)) refl
    where
      found : lookup n (own_of f a) ≡ some (get_or (a.arguments ++ declared_names a.text) q 0)
      found = own_at s.live s.values k a f w n q h

      go : (b : Bool) → leb (suc q) (length a.arguments) ≡ b → OwnFound n j (1 + q)
      go true b = (get_or (a.arguments ++ declared_names a.text) q 0, found, found-formal q j (leb-true (suc q) (length a.arguments) b))
      go false b =
          let z = leb-false (suc q) (length a.arguments) b in
          let i = q - length a.arguments in
          let q-is : length a.arguments + i ≡ q = omega arith in
          let bound : i < length (declared_names a.text) = let m = length-append a.arguments (declared_names a.text) in omega arith in
          let d = decl-in i bound in
          (decl_name d.0, found ∙ ap some (ap (λ (m : ℕ). get_or (a.arguments ++ declared_names a.text) m 0) (sym q-is) ∙ decl-name-at s.live s.values k a f w i d.0 d.1), subst (λ (m : ℕ). finally t.frames (record { number = suc k; position = 1 + m; followed = j }) ≡ designator_at s.live (decl_name d.0)) q-is (found_declared i j d.0 d.1))

  found-own : (n j p : ℕ) → position_from n 1 (frame_names f) ≡ some p → OwnFound n j p
  found-own n j p h =
      let range = position-range n 1 p (frame_names f) h in
      let p-is : 1 + (p - 1) ≡ p = omega arith in
      let m = own-length s.live s.values k a f w in
      subst (OwnFound n j) p-is (found_at n j (p - 1) (omega arith) (h ∙ ap some (sym p-is)))

-- one part of the readings, and one frame, at a time
module _ (n j : ℕ) (σ : Replacement) (σs : List Replacement) where
  seek-here : (x : ℕ) → lookup n σ ≡ some x → seek n j (σ ∷ σs) ≡ some (record { name = x; passed = j })
  unfolding seek
  seek-here x e = rw (e, seek)

  seek-past : lookup n σ ≡ none → seek n j (σ ∷ σs) ≡ seek n (suc j) σs
  unfolding seek
  seek-past e = rw (e, seek)

module _ (m : ℕ) (fs : List Frame) (k n j : ℕ) (f : Frame) (e : numbered fs k ≡ some f) where
  from-here : (p : ℕ) → position_from n 1 (frame_names f) ≡ some p → seek_from (suc m) fs k n j ≡ some (record { number = k; position = p; followed = j })
  unfolding seek_from
  from-here p q = rw (e, q, seek_from)

  from_past : position_from n 1 (frame_names f) ≡ none → seek_from (suc m) fs k n j ≡ seek_from m fs f.link n (suc j)
  unfolding seek_from
  from_past q = rw (e, q, seek_from)

from-nowhere : (m : ℕ) (fs : List Frame) (n j : ℕ) → seek_from m fs zero n j ≡ none
unfolding seek_from numbered
from-nowhere zero fs n j = refl
from-nowhere (suc m) fs n j = refl

abbrev FindAgrees : State → Stack → ℕ → Type 0
FindAgrees s t m =
    (k j n : ℕ) → k < m → (a : Activation) → get_elem? s.live k ≡ some a → Agree s.live t.frames (seek n j a.reads) (seek_from m t.frames (suc k) n j)

find-step : (s : State) (t : Stack) → Related s t → (m : ℕ) → FindAgrees s t m → FindAgrees s t (suc m)
unfolding numbered reads_at reads_in seek Agree
find-step s t r m ih k j n h a e = go (position_from n 1 (frame_names f)) refl
  where
    pair : (f : Frame) × (get_elem? t.frames k ≡ some f) × Twin s.live s.values k a f
    pair = twin-at s t r k a e

    f : Frame
    f = pair.0

    w : Twin s.live s.values k a f
    w = pair.2

    around : (i : ℕ) → i ≤ k → Agree s.live t.frames (seek n (suc j) (reads_at s.live i)) (seek_from m t.frames i n (suc j))
    around zero b = subst (Agree s.live t.frames none) (sym (from-nowhere m t.frames n (suc j))) tt
    around (suc i) b =
        let z = get_elem-bound s.live k a e in
        let c = get_elem-in s.live i (omega arith) in
        subst (λ (σs : List Replacement). Agree s.live t.frames (seek n (suc j) σs) (seek_from m t.frames (suc i) n (suc j)))
        (sym (ap reads_in c.1))
        (ih i (suc j) n (omega arith) c.0 c.1)

    go : (o : Option ℕ) → position_from n 1 (frame_names f) ≡ o → Agree s.live t.frames (seek n j a.reads) (seek_from (suc m) t.frames (suc k) n j)
    go (some p) q =
        let x = found-own s t r k a f e pair.1 w n j p q in
        subst₂ (Agree s.live t.frames)
        (sym (ap (seek n j) w.reads-are ∙ seek-here n j (own_of f a) (reads_at s.live f.link) x.0 x.1))
        (sym (from-here m t.frames (suc k) n j f pair.1 p q))
        (x.2, refl)
    go none q =
        subst₂ (Agree s.live t.frames)
        (sym (ap (seek n j) w.reads-are ∙ seek-past n j (own_of f a) (reads_at s.live f.link) (own-not s.live s.values k a f w n q)))
        (sym (from_past m t.frames (suc k) n j f pair.1 q))
        (around f.link w.link-below)

pub find-agrees : (s : State) (t : Stack) → Related s t → (m : ℕ) → FindAgrees s t m
find-agrees s t r zero = λ k j n h a e. absurd (not-suc-le-zero h)
find-agrees s t r (suc m) = find-step s t r m (find-agrees s t r m)

-- what each search comes to
unfoldable pub found_designator : List Activation → Option LookedUp → ℕ
found_designator l none = 0
found_designator l (some d) = designator_at l d.name

unfoldable pub passed_in : Option LookedUp → ℕ
passed_in none = 0
passed_in (some d) = d.passed

unfoldable place_designator : List Frame → Option NamePlace → ℕ
place_designator fs none = 0
place_designator fs (some p) = finally fs p

unfoldable followed_in : Option NamePlace → ℕ
followed_in none = 0
followed_in (some p) = p.followed

designates-is : (fs : List Frame) (n : ℕ) → designates fs n ≡ place_designator fs (seek_name fs n)
unfolding designates place_designator
designates-is fs n = go (seek_name fs n) refl
  where
    go : (o : Option NamePlace) → seek_name fs n ≡ o → designates fs n ≡ place_designator fs o
    go none q = rw (q, designates)
    go (some p) q = rw (q, designates)

links-is : (fs : List Frame) (n : ℕ) → links_followed fs n ≡ followed_in (seek_name fs n)
unfolding links_followed followed_in
links-is fs n = refl

agreed : (l : List Activation) (fs : List Frame) (o : Option LookedUp) (p : Option NamePlace) → Agree l fs o p → place_designator fs p ≡ found_designator l o
unfolding Agree place_designator found_designator
agreed l fs none none h = refl
agreed l fs none (some p) h = absurd h
agreed l fs (some d) none h = absurd h
agreed l fs (some d) (some p) h = h.0

passed-agreed : (l : List Activation) (fs : List Frame) (o : Option LookedUp) (p : Option NamePlace) → Agree l fs o p → followed_in p ≡ passed_in o
unfolding Agree followed_in passed_in
passed-agreed l fs none none h = refl
passed-agreed l fs none (some p) h = absurd h
passed-agreed l fs (some d) none h = absurd h
passed-agreed l fs (some d) (some p) h = h.1

-- What the looked-up name, or a name in the innermost frame's text, stands for.
module _ (s : State) (t : Stack) (r : Related s t) (k : ℕ) (a : Activation) (deep : length s.live ≡ suc k) (e : get_elem? s.live k ≡ some a) where
  depth : length t.frames ≡ suc k
  depth = sym (as-deep s t r) ∙ deep

  top-agrees : (n : ℕ) → Agree s.live t.frames (seek n 0 a.reads) (seek_name t.frames n)
  unfolding seek_name
  top-agrees n = rw depth (find-agrees s t r (suc k) k 0 n (omega arith) a e)

  pub designates-found : (n : ℕ) → designates t.frames n ≡ found_designator s.live (seek n 0 a.reads)
  designates-found n = designates-is t.frames n ∙ agreed s.live t.frames (seek n 0 a.reads) (seek_name t.frames n) (top-agrees n)

  pub links-found : (n : ℕ) → links_followed t.frames n ≡ passed_in (seek n 0 a.reads)
  links-found n = links-is t.frames n ∙ passed-agreed s.live t.frames (seek n 0 a.reads) (seek_name t.frames n) (top-agrees n)

  -- a name of the script, as it stands in the copy
  pub designates-name : (n : ℕ) → n < 65536 → designates t.frames n ≡ designator_at s.live (renamed (joined a.reads) n)
  unfolding found_designator designator_at designator_for
  designates-name n h = designates-found n ∙ go (seek n 0 a.reads) refl
    where
      go : (o : Option LookedUp) → seek n 0 a.reads ≡ o → found_designator s.live o ≡ designator_at s.live (renamed (joined a.reads) n)
      go none q =
          rw (renamed-none (joined a.reads) n (seek-none n 0 a.reads q)) (sym (ap designator_for (rising_none 65536 s.live s.fresh 1 n r.rising h)))
      go (some d) q = rw (renamed-some (joined a.reads) n d.name (seek-some n 0 a.reads d q))
