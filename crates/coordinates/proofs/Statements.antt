-- The statement that comes next, by coordinates. `statement-coordinates`: for a script that keeps the rules, each name of the next
-- statement has a coordinate in the innermost frame's enclosure. `designates-advanced`, `declared-advanced`: setting the statement
-- number on, which the machine does before it looks names up, changes nothing of what they stand for.
use Rattle.std.specs.Prelude.{ℕ, suc, pred, ◌-◌, ◌≤◌, ◌<◌, Bool, true, false, List, [], ◌∷◌, ◌++◌, ◌≡◌, refl, leb, length}
use Rattle.std.proofs.Common.{arith, sym, ap, ◌∙◌, leb-true, leb-false}
use Rattle.std.proofs.Math.Option.{some, map}
use Rattle.std.proofs.Math.ListN.{get_elem?}
use Rattle.language.specs.Basics.{last?, but_last}
use Rattle.language.specs.Text.{Action, Block, Decl, DO, block_decls}
use Rattle.language.specs.Scope.{Meaning}
use Rattle.laws.specs.Tests.{by-lookup}
use Rattle.laws.specs.Each.{Each}
use Rattle.laws.specs.Lists.{last-split, replaced-length, but_last-take}
use Rattle.grammar.specs.Rules.{Keeps}
use Rattle.frames.specs.Frame.{Frame, Stack, numbered, designates, frame_number, place, decl_of, continue, with_frames, advance_frame, frame_stmt}
use Rattle.frames.specs.Numbered.{numbered-past, last-numbered}
use Rattle.frame_laws.specs.Finding.{decl_of-found, decl_of-none}
use Rattle.frame_laws.specs.Continuing.{designates-continued, decl_of-continued}
use Rattle.coordinates.specs.Enclosure.{Enclosing}
use Rattle.coordinates.specs.Chain.{enclosing, chain_of, enclosure_of, level_of, outline, SameOutlines, Downward, Chained}
use Rattle.coordinates.proofs.Along.{along-alike, alike-none, alike-some}
use Rattle.coordinates.proofs.Moves.{cut_at, Called}
use Rattle.coordinates.proofs.Levels.{in-innermost}
use Rattle.coordinates.proofs.Visible.{action_names, Located, names-have-coordinates}

pub statement-coordinates : (t : Block) → Keeps t → (fs : List Frame) → Chained t fs → (f : Frame) (at : ℕ) (a : Action) → last? fs ≡ some f → frame_stmt f ≡ some (DO at a)
    → Each (λ n. (m : Meaning) × Located (enclosure_of fs (length fs)) n m) (action_names a)
unfolding frame_stmt enclosing
statement-coordinates t h fs chain f at a e q =
    in-innermost t fs chain f e (λ es. Each (λ n. (m : Meaning) × Located es n m) (action_names a)) (λ es w. names-have-coordinates t h (enclosing f) es w (pred f.next) at a q)

pub enclosure-alike : (fs gs : List Frame) (b : ℕ) → SameOutlines b fs gs → Downward fs → (k : ℕ) → k ≤ b → enclosure_of gs k ≡ enclosure_of fs k
unfolding enclosure_of
enclosure-alike fs gs b a down k h = along-alike fs gs b a down (λ i e. e) k k h

pub level-alike : (fs gs : List Frame) (b : ℕ) → SameOutlines b fs gs → Downward fs → (k : ℕ) → k ≤ b → level_of gs k ≡ level_of fs k
unfolding level_of chain_of
level-alike fs gs b a down k h = ap length (along-alike fs gs b a down (λ i e. i) k k h)

-- The innermost frame at another statement

abbrev pub advanced : List Frame → Frame → ℕ → List Frame
advanced fs f i = but_last fs ++ (continue f i ∷ [])

pub advanced-length : (fs : List Frame) (f : Frame) (i : ℕ) → last? fs ≡ some f → length (advanced fs f i) ≡ length fs
advanced-length fs f i e = replaced-length fs f (continue f i) e

-- what `h` reads of each frame, unless it reads the statement number
pub advanced-at : {B : Type 0} (h : Frame → B) (fs : List Frame) (f : Frame) (i : ℕ) → last? fs ≡ some f → h (continue f i) ≡ h f → (k : ℕ) → map h (numbered fs k) ≡ map h (numbered (advanced fs f i) k)
advanced-at h fs f i e o k = go (leb k (length fs)) refl
  where
    n : numbered fs (length fs) ≡ some f
    n = sym (last-numbered fs) ∙ e

    go : (b : Bool) → leb k (length fs) ≡ b → map h (numbered fs k) ≡ map h (numbered (advanced fs f i) k)
    go true q = rw but_last-take (cut_at h fs (length fs) f (continue f i) n o k (leb-true k (length fs) q))
    go false q =
        let l : length fs < k = leb-false k (length fs) q in
        ap (map h) (numbered-past fs k l ∙ sym (numbered-past (advanced fs f i) k (omega (arith, advanced-length fs f i e))))

-- a declaration is read off the formals and the block of its frame
pub declared-alike : (fs gs : List Frame) (b : ℕ) → SameOutlines b fs gs → (x : ℕ) → frame_number x ≤ b → decl_of gs x ≡ decl_of fs x
unfolding outline enclosing
declared-alike fs gs b a x h =
    by-lookup (numbered fs (frame_number x)) (λ e. decl_of-none gs x (alike-none fs gs b a (frame_number x) h e) ∙ sym (decl_of-none fs x e))
    (λ f e. let g = alike-some fs gs b a (frame_number x) f h e in
    decl_of-found gs x g.0 g.1 ∙ ap (λ (o : Enclosing × ℕ). get_elem? (block_decls o.0.text) (place x - length o.0.formals)) g.2 ∙ sym (decl_of-found fs x f e))

module _ (fs : List Frame) (f : Frame) (i : ℕ) (e : last? fs ≡ some f) where
  pub designates-advanced : (n : ℕ) → designates (advanced fs f i) n ≡ designates fs n
  designates-advanced n = designates-continued (but_last fs) f i n ∙ ap (λ (gs : List Frame). designates gs n) (sym (last-split fs f e))

  pub declared-advanced : (x : ℕ) → decl_of (advanced fs f i) x ≡ decl_of fs x
  declared-advanced x = decl_of-continued (but_last fs) f i x ∙ ap (λ (gs : List Frame). decl_of gs x) (sym (last-split fs f e))

-- what is called, looked up before the statement number is set on
pub called-here : (s : Stack) (d : Decl) (c : Called s d) → decl_of s.frames (designates s.frames c.name) ≡ some d
unfolding advance_frame with_frames
called-here s d c =
    let i = suc c.caller.next in
    ap (decl_of s.frames) (sym (designates-advanced s.frames c.caller i c.innermost c.name)) ∙ sym (declared-advanced s.frames c.caller i c.innermost _) ∙ c.declared
