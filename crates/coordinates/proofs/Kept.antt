-- Links and blocks stay right. `start-chained`: a run of the script t begins with frames that are `Chained t`; `step-chained`: a step keeps
-- that, if what a call names is declared as a procedure (`Procedures`; Wiring.antt sees to it). Then links go down (`chained-downward`).
use Rattle.std.specs.Prelude.{ℕ, zero, suc, ◌≤◌, ◌<◌, Bool, true, false, List, [], ◌∷◌, ◌≡◌, refl, leb, length}
use Rattle.std.proofs.Common.{arith, sym, ap, ◌∙◌, subst, subst₂, leb-true, leb-false}
use Rattle.std.proofs.Math.Option.{some, none-ne-some, some-injective}
use Rattle.std.proofs.Math.ListN.{get_elem?}
use Rattle.language.specs.Text.{procedure, Block, Decl, VR, LB, PR, block_decls, decl_kind, decl_formals, decl_body}
use Rattle.language.specs.Table.{Table}
use Rattle.language.specs.Machine.{Limits}
use Rattle.frames.specs.Frame.{Frame, Stack, acted, numbered, new_frame, frame_step, frame_start}
use Rattle.frames.specs.Numbered.{numbered-high}
use Rattle.coordinates.specs.Enclosure.{Enclosing, StandsIn, as-block, as-body, whole}
use Rattle.coordinates.specs.Chain.{enclosing, outline, SameOutlines, Downward, Linked, outermost, within, Chained}
use Rattle.coordinates.proofs.Along.{alike-some}
use Rattle.coordinates.proofs.Moves.{Called, Entered, for-block, for-body, Moved, kept, entered, step-moved}

-- whatever is called next is a procedure
abbrev pub Procedures : Stack → Type 0
Procedures s = (d : Decl) → Called s d → decl_kind d ≡ procedure

pub chained-downward : (t : Block) (fs : List Frame) → Chained t fs → Downward fs
chained-downward t fs h k f e = go (h k f e)
  where
    go : Linked t fs k f → f.link < k
    go (outermost p q r) = omega arith
    go (within g l n st) = l

-- Frames that are alike

back : (fs gs : List Frame) (b : ℕ) → SameOutlines b fs gs → SameOutlines b gs fs
back fs gs b a i h = sym (a i h)

pub linked-alike : (t : Block) (fs gs : List Frame) (b : ℕ) → SameOutlines b fs gs → (k : ℕ) (f g : Frame) → k ≤ b → outline g ≡ outline f → Linked t fs k f → Linked t gs k g
unfolding outline enclosing
linked-alike t fs gs b a k f g h o (outermost p q r) = outermost p (ap (λ (x : Enclosing × ℕ). x.1) o ∙ q) (ap (λ (x : Enclosing × ℕ). x.0) o ∙ r)
linked-alike t fs gs b a k f g h o (within u l n st) =
    let v = alike-some fs gs b a f.link u (omega arith) n in
    let e : g.link ≡ f.link = ap (λ (x : Enclosing × ℕ). x.1) o in
    let p : enclosing f ≡ enclosing g = sym (ap (λ (x : Enclosing × ℕ). x.0) o) in
    let q : u.text ≡ v.0.text = sym (ap (λ (x : Enclosing × ℕ). x.0.text) v.2) in
    within v.0 (omega arith) (ap (numbered gs) e ∙ v.1) (subst₂ StandsIn p q st)

-- A move keeps what the frames were

pub entered-link : (s : Stack) (f : Frame) → Entered s f → f.link ≤ length s.frames
entered-link s f (for-block g i l n b e) = omega arith
entered-link s f (for-body g i d n b e t c) = numbered-high s.frames f.link g n

module _ (fs gs : List Frame) (f : Frame) (a : SameOutlines (length fs) fs gs) (c : length gs ≡ suc (length fs)) (e : numbered gs (suc (length fs)) ≡ some f) where
  -- a property of each frame of gs: of those alike by one argument, of the new one by another
  pub by-frame : (P : ℕ → Frame → Type 0) → ((k : ℕ) (g : Frame) → k ≤ length fs → numbered gs k ≡ some g → P k g) → P (suc (length fs)) f → (k : ℕ) (g : Frame) → numbered gs k ≡ some g → P k g
  by-frame P old new k g n = go (leb k (length fs)) refl
    where
      go : (b : Bool) → leb k (length fs) ≡ b → P k g
      go true q = old k g (leb-true k (length fs) q) n
      go false q =
          let h = numbered-high gs k g n in
          let j : suc (length fs) ≡ k = omega (arith, leb-false k (length fs) q) in
          subst₂ P j (some-injective f g (sym e ∙ ap (numbered gs) j ∙ n)) new

-- links go down

pub downward-alike : (fs gs : List Frame) (b : ℕ) → SameOutlines b fs gs → Downward fs → (k : ℕ) (g : Frame) → k ≤ b → numbered gs k ≡ some g → g.link < k
unfolding outline
downward-alike fs gs b a down k g h n =
    let f = alike-some gs fs b (back fs gs b a) k g h n in
    let e : f.0.link ≡ g.link = ap (λ (x : Enclosing × ℕ). x.1) f.2 in
    omega (arith, down k f.0 f.1)

pub downward-entered : (fs gs : List Frame) (f : Frame) → SameOutlines (length fs) fs gs → length gs ≡ suc (length fs) → numbered gs (suc (length fs)) ≡ some f → f.link ≤ length fs → Downward fs → Downward gs
downward-entered fs gs f a c n l down = by-frame fs gs f a c n (λ k g. g.link < k) (downward-alike fs gs (length fs) a down) (omega arith)

-- each block stands in its link's

pub chained-alike : (t : Block) (fs gs : List Frame) (b : ℕ) → SameOutlines b fs gs → Chained t fs → (k : ℕ) (g : Frame) → k ≤ b → numbered gs k ≡ some g → Linked t gs k g
chained-alike t fs gs b a chain k g h n =
    let f = alike-some gs fs b (back fs gs b a) k g h n in
    linked-alike t fs gs b a k f.0 g h (sym f.2) (chain k f.0 f.1)

body-stands : (d : Decl) (e : Enclosing) (b : Block) (i : ℕ) → decl_kind d ≡ procedure → get_elem? (block_decls b) i ≡ some d → e.formals ≡ decl_formals d → e.text ≡ decl_body d → StandsIn e b
unfolding decl_kind decl_formals decl_body
body-stands (VR at n) e b i k h p q = let z : ◌≡◌ {A = ℕ} 0 1 = cc in absurd (omega arith)
body-stands (LB at n j) e b i k h p q = let z : ◌≡◌ {A = ℕ} 0 1 = cc in absurd (omega arith)
body-stands (PR at n fs t) e b i k h p q = as-body i at n (rw (p, q) h)

linked-in : (t : Block) (fs gs : List Frame) (f g : Frame) → SameOutlines (length fs) fs gs → numbered fs f.link ≡ some g → StandsIn (enclosing f) g.text → Linked t gs (suc (length fs)) f
unfolding outline enclosing
linked-in t fs gs f g a n st =
    let h = numbered-high fs f.link g n in
    let v = alike-some fs gs (length fs) a f.link g h n in
    within v.0 (omega arith) v.1 (subst (StandsIn (enclosing f)) (sym (ap (λ (x : Enclosing × ℕ). x.0.text) v.2)) st)

entered-linked : (t : Block) (s : Stack) (gs : List Frame) (f : Frame) → Procedures s → SameOutlines (length s.frames) s.frames gs → Entered s f → Linked t gs (suc (length s.frames)) f
unfolding enclosing
entered-linked t s gs f proc a (for-block g i l n b e) = linked-in t s.frames gs f g a n (as-block i b e)
entered-linked t s gs f proc a (for-body g i d n b e x c) = linked-in t s.frames gs f g a n (body-stands d (enclosing f) g.text i (proc d c) b e x)

pub moved-chained : (t : Block) (s s' : Stack) → Procedures s → Moved s s' → Chained t s.frames → Chained t s'.frames
moved-chained t s s' proc (kept h a) chain = λ k g n. chained-alike t s.frames s'.frames (length s'.frames) a chain k g (numbered-high s'.frames k g n) n
moved-chained t s s' proc (entered f c a n x) chain =
    by-frame s.frames s'.frames f a c n (Linked t s'.frames) (chained-alike t s.frames s'.frames (length s.frames) a chain) (entered-linked t s s'.frames f proc a x)

-- A step, and the start

pub step-chained : (t : Block) (l : Limits) (s s' : Stack) → frame_step l s ≡ acted s' → Procedures s → Chained t s.frames → Chained t s'.frames
step-chained t l s s' e proc chain = moved-chained t s s' proc (step-moved l s s' e) chain

pub start-chained : (t : Block) (tab : Table) → Chained t (frame_start t tab).frames
unfolding frame_start new_frame enclosing whole numbered
start-chained t tab zero f e = absurd (none-ne-some f e)
start-chained t tab (suc zero) f e = subst (Linked t (new_frame [] [] t 0 ∷ []) 1) (some-injective (new_frame [] [] t 0) f e) (outermost refl refl refl)
start-chained t tab (suc (suc k)) f e = absurd (none-ne-some f e)
