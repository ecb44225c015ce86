-- The relation between the two machines, which holds at the start and is kept by each step.
use Rattle.std.specs.Prelude.{ℕ, ◌+◌, ◌*◌, ◌≤◌, ◌≡◌, List, [], ◌∷◌, ◌++◌, map, ℤ, pos, length}
use Rattle.std.proofs.Common.{zero-add, subst}
use Rattle.std.proofs.Math.Option.{Option, none, some}
use Rattle.std.proofs.Math.ListN.{get_elem?}
use Rattle.language.specs.Basics.{lookup, zip}
use Rattle.language.specs.Text.{Decl, VR, LB, PR, block_decls, formal_names, declared_names}
use Rattle.language.specs.Copy.{Replacement, rename_block}
use Rattle.language.specs.Machine.{Activation, State, Instance, instance_from}
use Rattle.laws.specs.Each.{Each}
use Rattle.laws.specs.Rising.{Rising}
use Rattle.frames.specs.Frame.{Frame, Stack, numbered}
use Rattle.frames.specs.Both.{Both, both_at, both-length}
use Rattle.frames.specs.Fine.{Fine}

-- what names read as in the activation of a number; nothing at 0
unfoldable pub reads_in : Option Activation → List Replacement
reads_in none = []
reads_in (some a) = a.reads

unfoldable pub reads_at : List Activation → ℕ → List Replacement
reads_at l k = reads_in (numbered l k)

-- all that names read as, nearest first
unfoldable pub joined : List Replacement → Replacement
joined [] = []
joined (σ ∷ σs) = σ ++ joined σs

-- the designator of a name, and a name's word, from the activations and the values alone
unfoldable pub designator_for : Option Instance → ℕ
designator_for none = 0
designator_for (some i) = i.number * 64 + i.position

unfoldable pub designator_at : List Activation → ℕ → ℕ
designator_at l x = designator_for (instance_from x 1 l)

unfoldable pub or_zero : Option ℤ → ℤ
or_zero none = pos 0
or_zero (some z) = z

unfoldable pub value_in : List (ℕ × ℤ) → ℕ → ℤ
value_in vs x = or_zero (lookup x vs)

unfoldable pub word_in : List (ℕ × ℤ) → Decl → ℤ
word_in vs (VR at n) = value_in vs n
word_in vs (LB at n i) = pos 0
word_in vs (PR at n fs b) = pos 0

-- A name with a live declared instance whose number is at most k.
pub record LiveBelow (l : List Activation) (k x : ℕ) : Type 0 where
  pub instance : Instance
  pub found : instance_from x 1 l ≡ some instance
  pub below : instance.number ≤ k

abbrev pub AllLive : List Activation → ℕ → List ℕ → Type 0
AllLive l k xs = Each (LiveBelow l k) xs

-- what an activation's own names read as
unfoldable pub own_of : Frame → Activation → Replacement
own_of f a = zip (formal_names f.formals) a.arguments ++ zip (declared_names f.text) (declared_names a.text)

-- An activation and its frame, at index k: the copy is the original block renamed by what names read as there; what names read
-- as is the enclosing activation's reading with the own names over it, and the link is its number; a variable's value is the frame's
-- word, a formal's word the designator of the name that it reads as.
pub record Twin (l : List Activation) (vs : List (ℕ × ℤ)) (k : ℕ) (a : Activation) (f : Frame) : Type 0 where
  pub fine : Fine f.formals f.text
  pub as_many : length a.arguments ≡ length f.formals
  pub reads-are : a.reads ≡ own_of f a ∷ reads_at l f.link
  pub text-is : a.text ≡ rename_block f.text (joined a.reads)
  pub next-is : a.next ≡ f.next
  pub encloser-is : a.encloser ≡ f.link
  pub link-below : f.link ≤ k
  pub live-arguments : AllLive l k a.arguments
  pub words_are : f.words ≡ map (λ (x : ℕ). pos (designator_at l x)) a.arguments ++ map (word_in vs) (block_decls a.text)

-- New names rise with the activations, so a new name is one activation and one position.
pub record Related (s : State) (t : Stack) : Type 0 where
  pub twins : Both (Twin s.live s.values) 0 s.live t.frames
  pub rising : Rising 65536 s.live s.fresh
  pub table_is : s.table ≡ t.table
  pub steps-are : s.steps ≡ t.steps

-- as many activations as frames, and each with the frame at its place
module _ (s : State) (t : Stack) (r : Related s t) where
  pub as-deep : length s.live ≡ length t.frames
  as-deep = both-length (Twin s.live s.values) 0 s.live t.frames r.twins

  pub twin-at : (k : ℕ) (a : Activation) → get_elem? s.live k ≡ some a → (f : Frame) × (get_elem? t.frames k ≡ some f) × Twin s.live s.values k a f
  twin-at k a e =
      let p = both_at (Twin s.live s.values) 0 s.live t.frames r.twins k a e in
      (p.0, p.1, subst (λ (n : ℕ). Twin s.live s.values n a p.0) (zero-add k) p.2)
