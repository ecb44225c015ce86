-- Causes and numbers: what must hold of a script, at the offset that is reported, for each of the refusals 1 to 11. No reader is in these definitions.
-- For 2 to 4 and 6 to 8 the script's fields lead up to a record that is due (Places.antt), and `rest` are its fields from the record's mark on; where document 01
-- judges two causes of one record one after the other, the later one has that the earlier does not hold. Exact.antt has the theorem.
use Rattle.std.specs.Prelude.{ℕ, ◌+◌, ◌*◌, ◌%◌, ◌≤◌, ◌<◌, true, List, [], ◌∷◌, ◌++◌, map, ◌⊎◌, ◌≢◌, ◌≡◌, length}
use Rattle.std.proofs.Math.Option.{Option, none, some}
use Rattle.language.specs.Basics.{among, lookup}
use Rattle.language.specs.Text.{Kind, variable, label, procedure, Formal, Action, CL, GO, IF, KN, AR, AD, RM, QY, Block, Decl, formal_names}
use Rattle.language.specs.Encoding.{BK-mark, VR-mark, LB-mark, PR-mark, FM-mark, CL-mark, AR-mark, block_fields, fields_of}
use Rattle.language.specs.Scope.{Meaning, Scope, kind_in}
use Rattle.language.specs.declared.Refusal.{Refusal}
use Rattle.language.specs.declared.Refusal.TheVariants.{ScriptLength, PastTheEnd, MarkMisplaced, FieldRange, BytesAfter, NestingDepth, TooManyNames, NameTwice, NotVisible, WrongKind, CallMismatch}
use Rattle.laws.specs.Each.{Each}
use Rattle.laws.specs.Kinds.{Differs}
use Rattle.grammar.specs.Rules.{FormedBlock, Visible, Is, ScopedAction}
use Rattle.causes.specs.Sites.{Sees}
use Rattle.causes.specs.Places.{Place, formal-due, decl-due, stmt-due, opens, marks_at, names, LeadsUp}

-- 2: no mark is left, or too few fields after a mark that may stand there, or too few names after a CL
pub data PastEnd : Place → List ℕ → Type 0 where
  no-mark : {p : Place} → PastEnd p []
  no_fields : {p : Place} (w k : ℕ) (ws : List ℕ) → lookup w (marks_at p) ≡ some k → length ws < k → PastEnd p (w ∷ ws)
  no_arguments : {level : ℕ} (n a : ℕ) (ws : List ℕ) → a ≤ 32 → length ws < a → PastEnd (stmt-due level) (CL-mark ∷ n ∷ a ∷ ws)

-- 3: a mark that is in no row of the place
pub data Misplaced : Place → List ℕ → Type 0 where
  no_row : {p : Place} (w : ℕ) (ws : List ℕ) → lookup w (marks_at p) ≡ none → Misplaced p (w ∷ ws)

-- 4: a kind, an index, an operation or a number of arguments
pub data OutOfRange : Place → List ℕ → Type 0 where
  kind-range : {fs : List Formal} (n k : ℕ) (ws : List ℕ) → 2 < k → OutOfRange (formal-due fs) (FM-mark ∷ n ∷ k ∷ ws)
  index-range : {level s : ℕ} {fs : List Formal} {ds : List Decl} (n i : ℕ) (ws : List ℕ) → (i < 1) ⊎ (s < i) → OutOfRange (decl-due level s fs ds) (LB-mark ∷ n ∷ i ∷ ws)
  operation-range : {level : ℕ} (t o l r : ℕ) (ws : List ℕ) → 2 < o → OutOfRange (stmt-due level) (AR-mark ∷ t ∷ o ∷ l ∷ r ∷ ws)
  arguments-range : {level : ℕ} (n a : ℕ) (ws : List ℕ) → 32 < a → OutOfRange (stmt-due level) (CL-mark ∷ n ∷ a ∷ ws)

-- 6: a BK whose block would be of a level above 16
pub data TooDeep : Place → List ℕ → Type 0 where
  deep-block : {p : Place} (level : ℕ) (fs : List Formal) (d s : ℕ) (ws : List ℕ) → opens p ≡ some (level, fs) → 16 < level → TooDeep p (BK-mark ∷ d ∷ s ∷ ws)

-- 7: a PR's p, or a BK's d with the formals
pub data TooMany : Place → List ℕ → Type 0 where
  many-formals : {level s : ℕ} {fs : List Formal} {ds : List Decl} (n p : ℕ) (ws : List ℕ) → 32 < p → TooMany (decl-due level s fs ds) (PR-mark ∷ n ∷ p ∷ ws)
  many-names : {p : Place} (level : ℕ) (fs : List Formal) (d s : ℕ) (ws : List ℕ) → opens p ≡ some (level, fs) → level ≤ 16 → 32 < length fs + d
      → TooMany p (BK-mark ∷ d ∷ s ∷ ws)

-- 8: a formal's name is one of the formals before it, or a declaration's one of its block's formals and the declarations before it
pub data Twice : Place → List ℕ → Type 0 where
  formal-twice : {fs : List Formal} (n k : ℕ) (ws : List ℕ) → k ≤ 2 → among n (formal_names fs) ≡ true → Twice (formal-due fs) (FM-mark ∷ n ∷ k ∷ ws)
  variable-twice : {level s : ℕ} {fs : List Formal} {ds : List Decl} (n : ℕ) (ws : List ℕ) → among n (names fs ds) ≡ true
      → Twice (decl-due level s fs ds) (VR-mark ∷ n ∷ ws)
  label-twice : {level s : ℕ} {fs : List Formal} {ds : List Decl} (n i : ℕ) (ws : List ℕ) → 1 ≤ i → i ≤ s → among n (names fs ds) ≡ true
      → Twice (decl-due level s fs ds) (LB-mark ∷ n ∷ i ∷ ws)
  procedure-twice : {level s : ℕ} {fs : List Formal} {ds : List Decl} (n p : ℕ) (ws : List ℕ) → p ≤ 32 → among n (names fs ds) ≡ true
      → Twice (decl-due level s fs ds) (PR-mark ∷ n ∷ p ∷ ws)

-- The cause P holds of the record that is due at the byte offset o of the script with the fields `all`.
pub record At (all : List ℕ) (o : ℕ) (P : Place → List ℕ → Type 0) : Type 0 where
  pub before : List ℕ
  pub rest : List ℕ
  pub place : Place
  pub text : all ≡ before ++ rest
  pub stands : o ≡ 2 * length before
  pub led : LeadsUp before place
  pub fault : P place rest

-- 5: the fields of a whole program, and at the offset at least one more
pub record Followed (all : List ℕ) (o : ℕ) : Type 0 where
  pub program : Block
  pub next : ℕ
  pub later : List ℕ
  pub formed : FormedBlock program 1 [] 0
  pub text : all ≡ block_fields program ++ (next ∷ later)
  pub stands : o ≡ 2 * length (block_fields program)

-- the names that an action uses, left to right, each with the kind that it must have: a call's arguments may have any
unfoldable pub used : Action → List (ℕ × Option Kind)
used (CL p xs) = (p, some procedure) ∷ map (λ (x : ℕ). (x, none)) xs
used (GO l) = (l, some label) ∷ []
used (IF v l) = (v, some variable) ∷ (l, some label) ∷ []
used (KN t z) = (t, some variable) ∷ []
used (AR t o l r) = (t, some variable) ∷ (l, some variable) ∷ (r, some variable) ∷ []
used (AD g m) = (g, some variable) ∷ (m, some variable) ∷ []
used (RM g m) = (g, some variable) ∷ (m, some variable) ∷ []
used (QY t g m) = (t, some variable) ∷ (g, some variable) ∷ (m, some variable) ∷ []

-- a name used that is visible, with the kind that it must have
abbrev pub Suits : Scope → ℕ × Option Kind → Type 0
Suits sc (n, none) = Visible sc n
Suits sc (n, some k) = Is k sc n

-- A name that the action uses, those to its left being fine.
pub record Uses (sc : Scope) (a : Action) (n : ℕ) (want : Option Kind) : Type 0 where
  pub left : List (ℕ × Option Kind)
  pub right : List (ℕ × Option Kind)
  pub order : used a ≡ left ++ ((n, want) ∷ right)
  pub fine : Each (Suits sc) left

-- 9: a name that the action uses is not visible
pub record Unseen (a : Action) (sc : Scope) : Type 0 where
  pub name : ℕ
  pub want : Option Kind
  pub uses : Uses sc a name want
  pub unseen : lookup name sc ≡ none

-- 10: a name that it uses is visible with another kind
pub record OtherKind (a : Action) (sc : Scope) : Type 0 where
  pub name : ℕ
  pub want : Kind
  pub meaning : Meaning
  pub uses : Uses sc a name (some want)
  pub seen : lookup name sc ≡ some meaning
  pub other : meaning.kind ≢ want

-- 11: it is a call whose names are all fine, of a declared procedure whose formals differ from the arguments in number or kind
pub record Mismatch (a : Action) (sc : Scope) : Type 0 where
  pub called : ℕ
  pub arguments : List ℕ
  pub meaning : Meaning
  pub takes : List Kind
  pub call : a ≡ CL called arguments
  pub fine : Each (Suits sc) (used a)
  pub seen : lookup called sc ≡ some meaning
  pub declared : meaning.takes ≡ some takes
  pub differ : Differs takes (map (kind_in sc) arguments)

-- The cause P holds of the action at the offset o of a whole program, in the scope there; every action before it keeps the rules of Scope.
pub record Used (all : List ℕ) (o : ℕ) (P : Action → Scope → Type 0) : Type 0 where
  pub program : Block
  pub formed : FormedBlock program 1 [] 0
  pub text : all ≡ block_fields program
  pub action : Action
  pub scope : Scope
  pub sees : Sees program [] [] o action scope
  pub earlier : (p : ℕ) (a : Action) (sc : Scope) → Sees program [] [] p a sc → p < o → ScopedAction a sc
  pub fault : P action scope

-- 1: the length is 0, above 8,192 or odd
abbrev pub LengthWrong : List ℕ → Type 0
LengthWrong bs = (length bs ≡ 0) ⊎ (8192 < length bs) ⊎ (length bs % 2 ≡ 1)

-- the length is right, which the others take for granted
pub record LengthFits (bs : List ℕ) : Type 0 where
  pub some_bytes : 1 ≤ length bs
  pub most : length bs ≤ 8192
  pub even : length bs % 2 ≡ 0

-- Which cause has which refusal: those judged in file order, those judged in the scope, and all.
pub data Broken : Refusal → Place → List ℕ → Type 0 where
  past_end : {p : Place} {us : List ℕ} → PastEnd p us → Broken PastTheEnd p us
  misplaced : {p : Place} {us : List ℕ} → Misplaced p us → Broken MarkMisplaced p us
  out_of_range : {p : Place} {us : List ℕ} → OutOfRange p us → Broken FieldRange p us
  too-deep : {p : Place} {us : List ℕ} → TooDeep p us → Broken NestingDepth p us
  too_many : {p : Place} {us : List ℕ} → TooMany p us → Broken TooManyNames p us
  twice : {p : Place} {us : List ℕ} → Twice p us → Broken NameTwice p us

pub data Misuse : Refusal → Action → Scope → Type 0 where
  not_seen : {a : Action} {sc : Scope} → Unseen a sc → Misuse NotVisible a sc
  of-another-kind : {a : Action} {sc : Scope} → OtherKind a sc → Misuse WrongKind a sc
  not-matched : {a : Action} {sc : Scope} → Mismatch a sc → Misuse CallMismatch a sc

pub data Fault (bs : List ℕ) : Refusal → ℕ → Type 0 where
  of_length : LengthWrong bs → Fault bs ScriptLength 0
  of-record : {c : Refusal} {o : ℕ} → LengthFits bs → At (fields_of bs) o (Broken c) → Fault bs c o
  of_end : {o : ℕ} → LengthFits bs → Followed (fields_of bs) o → Fault bs BytesAfter o
  of-use : {c : Refusal} {o : ℕ} → LengthFits bs → Used (fields_of bs) o (Misuse c) → Fault bs c o
