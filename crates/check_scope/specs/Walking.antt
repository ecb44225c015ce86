-- The walk over a block's records: what it is given, and what it answers.
use Rattle.std.specs.Prelude.{ℕ, ◌+◌, ◌*◌, ◌≤◌, List, [], ◌∷◌, ◌≡◌, length, drop, Ok, Err}
use Rattle.language.specs.Text.{Formal, Block}
use Rattle.language.specs.Encoding.{formals_fields, block_fields}
use Rattle.language.specs.Structure as structure
use Rattle.language.specs.Scope.{Scope, fine, wrong, judge_block, judge_decl, judge_stmt, ◌then◌}
use Rattle.language.specs.Scope as definitions
use Rattle.language.specs.Faults.{fault, Progress, Verdict}
use Rattle.grammar.specs.Rules.{FormedFormals, FormedBlock, FormedDecl, FormedStmt}
use Rattle.check_uses.specs.Meanings.{verdict_of, scope_from}
use Rattle.laws.specs.Fields.{FieldsStand}
use Rattle.check_symbols.specs.Chains.{Chained}
use Rattle.check_extents.specs.Passing.{Ends}
use Rattle.check_extents.specs.Items.{Item, formal, body, declared, stated, item_fields, items_fields}

-- a verdict, with where the walk goes on
abbrev pub progress_of : definitions.Judgement → ℕ → Progress
progress_of fine end = Ok end
progress_of (wrong c o) end = Err (fault c o)

-- where the walk goes on, it does not go back, nor far past the n bytes
abbrev pub Ahead : ℕ → ℕ → Progress → Type 0
Ahead at n (Ok end) = (at ≤ end) × (end ≤ n + 131076)
Ahead at n (Err e) = Unit {0}

-- declarations and statements
unfoldable pub judge_item : Item → Scope → definitions.Judgement
judge_item (formal f) sc = fine
judge_item (body b) sc = fine
judge_item (declared d) sc = judge_decl d sc
judge_item (stated s) sc = judge_stmt s sc

unfoldable pub judge_items : List Item → Scope → definitions.Judgement
judge_items [] sc = fine
judge_items (x ∷ xs) sc = ◌then◌ (judge_item x sc) (judge_items xs sc)

unfoldable pub FormedItem : Item → ℕ → ℕ → ℕ → Type 0
FormedItem (formal f) level s here = ⊥
FormedItem (body b) level s here = ⊥
FormedItem (declared d) level s here = FormedDecl d level s here
FormedItem (stated x) level s here = FormedStmt x level here

unfoldable pub FormedItems : List Item → ℕ → ℕ → ℕ → Type 0
FormedItems [] level s here = Unit {0}
FormedItems (x ∷ xs) level s here = FormedItem x level s here × FormedItems xs level s (here + 2 * length (item_fields x))

-- so many formals stand at an offset, and their block after them; 32 entries are free for each level left
pub record BlockHere (bs : List ℕ) (at count top : ℕ) (b : Block) (fs : List Formal) (level : ℕ) : Type 0 where
  pub number : length fs ≡ count
  pub formals : FieldsStand bs at (formals_fields fs)
  pub named : FormedFormals fs at
  pub stand : FieldsStand bs (at + 6 * count) (block_fields b)
  pub formed : FormedBlock b level fs (at + 6 * count)
  pub room : 1312 ≤ top + 32 * level

-- records of a block with s statements
pub record ItemsHere (bs : List ℕ) (at count top : ℕ) (xs : List Item) (level s : ℕ) : Type 0 where
  pub number : length xs ≡ count
  pub stand : FieldsStand bs at (items_fields xs)
  pub formed : FormedItems xs level s at
  pub room : 1280 ≤ top + 32 * level

pub record ItemHere (bs : List ℕ) (at top : ℕ) (x : Item) (level s : ℕ) : Type 0 where
  pub stand : FieldsStand bs at (item_fields x)
  pub formed : FormedItem x level s at
  pub room : 1280 ≤ top + 32 * level

abbrev pub settled_of : Progress → Verdict
settled_of (Ok end) = Ok tt
settled_of (Err e) = Err e

-- the definitions' verdict, for a script that they read whole
abbrev pub Judged : structure.Reading Block → Verdict → Type 0
Judged (structure.read t at []) r = r ≡ verdict_of (judge_block t [] [])
Judged (structure.read t at (w ∷ ws)) r = Unit {0}
Judged (structure.refuse c o) r = Unit {0}

-- what a walk is given: a short script, the entries from `top` on in their chains, and ends that are right
pub record Ready (bs es ends : List ℕ) (top : ℕ) : Type 0 where
  pub short : length bs ≤ 8192
  pub room : top ≤ 1280
  pub chained : Chained es top
  pub noted : Ends bs ends

-- and what it leaves: the same entries in their chains, and ends that are right
pub record Kept (bs es es' ends : List ℕ) (top : ℕ) : Type 0 where
  pub same : drop top es' ≡ drop top es
  pub chained : Chained es' top
  pub noted : Ends bs ends

-- what the walk of a block, of records and of one record answers, with the entries as they were
abbrev pub BlockJudged : List ℕ → List ℕ → ℕ → ℕ → ℕ → Progress → Type 0
BlockJudged bs es at count top r =
    (b : Block) (fs : List Formal) (level : ℕ) → BlockHere bs at count top b fs level →
    r ≡ progress_of (judge_block b fs (scope_from bs es top)) (at + 6 * count + 2 * length (block_fields b))

abbrev pub ItemsJudged : List ℕ → List ℕ → ℕ → ℕ → ℕ → Progress → Type 0
ItemsJudged bs es at count top r =
    (xs : List Item) (level s : ℕ) → ItemsHere bs at count top xs level s →
    r ≡ progress_of (judge_items xs (scope_from bs es top)) (at + 2 * length (items_fields xs))

abbrev pub ItemJudged : List ℕ → List ℕ → ℕ → ℕ → Progress → Type 0
ItemJudged bs es at top r =
    (x : Item) (level s : ℕ) → ItemHere bs at top x level s →
    r ≡ progress_of (judge_item x (scope_from bs es top)) (at + 2 * length (item_fields x))
