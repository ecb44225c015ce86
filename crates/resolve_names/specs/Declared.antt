-- A block's own names with their words, as entries of the array of visible names.
use Rattle.std.specs.Prelude.{ℕ, suc, ◌+◌, ◌*◌, ◌-◌, ◌/◌, ◌<◌, ◌≤◌, List, [], ◌∷◌, map, ◌≡◌, length, get_or, take, drop}
use Rattle.language.specs.Basics.{zip}
use Rattle.language.specs.Text.{Formal, Block, Decl, decl_name, formal_names, block_stmts}
use Rattle.language.specs.Encoding.{LB-mark, decl_fields, block_fields}
use Rattle.grammar.specs.Rules.{FormedDecl}
use Rattle.coordinates.specs.Enclosure.{Enclosure, enclosed}
use Rattle.resolved.specs.Resolved.{packed, decl_target, decl_kind_field, formal_words, decl_words, stmt_place}
use Rattle.laws.specs.Fields.{field_at, FieldsStand}
use Rattle.check_symbols.specs.Entries.{entry_from}
use Rattle.check_extents.specs.Items.{Item, item_fields, items_fields}
use Rattle.check_extents.specs.Passing.{Ends}
use Rattle.check_scope.specs.Walking.{BlockHere}
use Rattle.resolve_words.specs.Visible.{entry_of, Shown}

-- where records from an offset on begin
unfoldable pub starts_of : List Item → ℕ → List ℕ
starts_of [] at = []
starts_of (x ∷ xs) at = at ∷ starts_of xs (at + 2 * length (item_fields x))

-- the offsets of so many records, put from `base` on, and where the records end
abbrev pub Started : List ℕ → ℕ → ℕ → ℕ → List ℕ → ℕ → Type 0
Started bs at count base st end =
    (xs : List Item) → length xs ≡ count → FieldsStand bs at (items_fields xs) → base + count ≤ length st →
    (take count (drop base st) ≡ starts_of xs at) × (end ≡ at + 2 * length (items_fields xs))

-- nothing else is changed, and the ends noted are right
pub record Noted (bs st st' ends : List ℕ) (at count base end : ℕ) : Type 0 where
  pub started : Started bs at count base st' end
  pub below : take base st' ≡ take base st
  pub from : at ≤ end
  pub near : end ≤ 1000000
  pub noted : Ends bs ends

-- none of d records whose offsets are noted is a label
abbrev pub Unlabelled : List ℕ → List ℕ → ℕ → Type 0
Unlabelled bs st d = (k : ℕ) → k < d → field_at bs (get_or st k 0) ≡ LB-mark → ⊥

-- where one is, the offsets of so many records are put after those d
pub record IfLabelled (bs st st' ends : List ℕ) (at count d : ℕ) : Type 0 where
  pub started : (k : ℕ) → k < d → field_at bs (get_or st k 0) ≡ LB-mark → (end : ℕ) × Started bs at count d st' end
  pub below : take d st' ≡ take d st
  pub noted : Ends bs ends

-- the statements of a block stand after its d declarations in the array of offsets
abbrev pub Stated : Block → ℕ → List ℕ → Type 0
Stated b d st = (i : ℕ) → 1 ≤ d → 1 ≤ i → i ≤ length (block_stmts b) → get_or st (d - 1 + i) 0 / 2 ≡ stmt_place b i

-- the word of the name that the declaration at an offset declares, and its entry
abbrev pub Worded : List ℕ → List ℕ → ℕ → ℕ → ℕ → ℕ → ℕ → Type 0
Worded bs st at d level i w =
    (b : Block) (x : Decl) (k : ℕ) → FieldsStand bs at (decl_fields x) → FormedDecl x k (length (block_stmts b)) at →
    (field_at bs at ≡ LB-mark → Stated b d st) → w ≡ packed i 0 (decl_kind_field x) level (decl_target b x)

abbrev pub DeclaredEntry : List ℕ → List ℕ → ℕ → ℕ → ℕ → ℕ → ℕ → Type 0
DeclaredEntry bs st at d level i r =
    (b : Block) (x : Decl) (k : ℕ) → FieldsStand bs at (decl_fields x) → FormedDecl x k (length (block_stmts b)) at →
    (field_at bs at ≡ LB-mark → Stated b d st) → r ≡ entry_from (decl_name x) (packed i 0 (decl_kind_field x) level (decl_target b x))

abbrev pub FormalEntry : List ℕ → ℕ → ℕ → ℕ → ℕ → Type 0
FormalEntry bs at level i r = r ≡ entry_from (field_at bs (at + 2)) (packed i 1 (field_at bs (at + 4)) level 0)

-- the entry of a block's name with a position: its formals stand at an offset, and where its declarations stand is noted
pub record OwnEntry (bs st : List ℕ) (at count d level i r : ℕ) : Type 0 where
  pub of-formal : i < count → FormalEntry bs (at + 6 * i) level i r
  pub of-declaration : count ≤ i → DeclaredEntry bs st (get_or st (i - count) 0) d level i r

-- all of them are put from `base` on, and nothing else is changed
pub record OwnPut (bs st es es' : List ℕ) (at count d base level : ℕ) : Type 0 where
  pub long : length es' ≡ length es
  pub put : (i : ℕ) → i < count + d → OwnEntry bs st at count d level i (get_or es' (base + i) 0)
  pub above : drop (base + (count + d)) es' ≡ drop (base + (count + d)) es
  pub below : take base es' ≡ take base es

unfoldable pub formal_entries : ℕ → ℕ → List Formal → List ℕ
formal_entries level i fs = map entry_of (zip (formal_names fs) (formal_words level i fs))

unfoldable pub decl_entries : Block → ℕ → ℕ → List Decl → List ℕ
decl_entries b level i ds = map entry_of (zip (map decl_name ds) (decl_words b level i ds))

-- what a block's names are put for: its numbers read, and room for them
pub record Declarable (bs es st ends : List ℕ) (at count d s base level : ℕ) : Type 0 where
  pub short : length bs ≤ 8192
  pub near : at ≤ 200000
  pub formals : count < 65536
  pub d-read : d ≡ field_at bs (at + 6 * count + 2)
  pub s_read : s ≡ field_at bs (at + 6 * count + 4)
  pub d_small : d < 65536
  pub s-small : s < 65536
  pub low : level ≤ 1000000
  pub room : base + (count + d) ≤ length es
  pub starts : 2048 ≤ length st
  pub noted : Ends bs ends

-- a block's names, put before those of the enclosure around it; and where its first statement stands
pub record Declares (bs es es' ends : List ℕ) (at count d base level first : ℕ) : Type 0 where
  pub shows :
      (b : Block) (fs : List Formal) (encl : Enclosure) → BlockHere bs at count (base + (count + d)) b fs level → suc (length encl) ≡ level →
      at + 6 * count + 2 * length (block_fields b) ≤ 8192 → Shown encl (drop (base + (count + d)) es) → Shown (enclosed fs b ∷ encl) (drop base es')
  pub leads :
      (b : Block) (fs : List Formal) → BlockHere bs at count (base + (count + d)) b fs level → at + 6 * count + 2 * length (block_fields b) ≤ 8192 →
      (first ≤ 8192) × (first / 2 ≡ stmt_place b 1)
  pub above : drop (base + (count + d)) es' ≡ drop (base + (count + d)) es
  pub below : take base es' ≡ take base es
  pub near : first ≤ 1000000
  pub noted : Ends bs ends
