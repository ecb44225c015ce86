-- A block with its formals: its names in the array, and its words.
-- Assumes nothing.
use mathlib.Core.Path.{◌≡◌, sym, ◌∙◌, ap, ap₂, subst}
use mathlib.Core.List.{List, [], ◌∷◌, ◌++◌, map, append_assoc}
use Prim.Native.Nat.{ℕ, suc, ◌+◌, ◌*◌, ◌-◌, ◌/◌, ◌%◌, ◌<◌, ◌≤◌}
use native.Mathlib.Omega.{arith}
use lib.ListN.{length, drop, set, length-append}
use Rattle.language.specs.Text.{Formal, Block, block, Decls, Stmts, decls, stmts, block_at, block_decls}
use Rattle.language.specs.Encoding.{block_fields, BK-mark}
use Rattle.grammar.specs.Rules.{FormedBlock}
use Rattle.coordinates.specs.Enclosure.{enclosed, Enclosure}
use Rattle.resolved.specs.Resolved.{end_place, head_word, bounds_word, header, name_word, resolved_formals, resolved_block, resolved_decls}
use Rattle.resolved.proofs.Lengths.{formals-length, formals-fields}
use Rattle.laws.specs.Each.{Each}
use Rattle.laws.specs.Fields.{field_at}
use Rattle.check_symbols.specs.Chains.{Chained, Rechained}
use Rattle.check_symbols.proofs.Chains.{kept_from, chained-still}
use Rattle.resolved.specs.Layout.{head_from, bounds_from}
use Rattle.check_extents.specs.Items.{in_block, stated}
use Rattle.check_scope.specs.Walking.{BlockHere, Ready, Kept}
use Rattle.check_scope.proofs.Marked.{block-mark}
use Rattle.check_scope.proofs.Blocks.{block_room, items-here, reaches}
use Rattle.resolve_words.specs.Growth.{Grown}
use Rattle.resolve_words.specs.Visible.{word_in, Short, Shown}
use Rattle.resolve_words.proofs.Growth.{grown-then, grown-patched}
use Rattle.resolve_words.proofs.Lookups.{word-is, word-short}
use Rattle.resolve_names.specs.Declared.{Declarable, Declares}
use Rattle.resolve_script.specs.Resolving.{resolved_items, FormalsWritten, Entered, Leads, Enters, BlockWritten, ItemsWritten, Onward}
use Rattle.resolve_script.proofs.Items.{stmts-resolved, decls-resolved}

formals-place : (fs : List Formal) (at count : ℕ) → length fs ≡ count → at + 6 * count ≡ at + 2 * length (resolved_formals fs)
formals-place fs at count n = omega (arith, formals-length fs, formals-fields fs)

module _ (bs : List ℕ) (name at count d base level : ℕ) (d-read : d ≡ field_at bs (at + 6 * count + 2)) where
  abbrev top : ℕ
  top = base + (count + d)

  abbrev head : ℕ
  head = head_from level count (count + d)

  head-is : (b : Block) (fs : List Formal) → BlockHere bs at count top b fs level → (head ≡ head_word (enclosed fs b) level) × Short head
  unfolding head_word block_decls block_fields FormedBlock
  head-is (block o ds ss) fs h =
      let n = h.number in
      let m : d ≡ length (decls ds) = d-read ∙ h.stand.1.0 in
      let few = h.formed.few in
      let low = h.formed.nesting in
      (omega arith, omega arith)

  entered :
      (es es₁ es₂ ends c c₁ c₂ : List ℕ) (first looked : ℕ) → Declares bs es es₁ ends at count d base level first → drop base es₂ ≡ drop base es₁ →
      FormalsWritten bs at count c c₁ → looked ≡ word_in name (drop base es₂) →
      (Each Short (head ∷ 0 ∷ looked ∷ []) → Grown c₁ c₂ (at + 6 * count) (head ∷ 0 ∷ looked ∷ [])) → Entered bs es es₂ name at count top base level c c₂
  entered es es₁ es₂ ends c c₁ c₂ first looked declares kept formals found put b fs encl is =
      let shown : Shown (enclosed fs b ∷ encl) (drop base es₂) =
      subst (Shown (enclosed fs b ∷ encl)) (sym kept) (declares.shows b fs encl is.here is.depth is.within is.shown) in
      let h = head-is b fs is.here in
      let w : looked ≡ name_word (enclosed fs b ∷ encl) name = found ∙ word-is (enclosed fs b ∷ encl) (drop base es₂) shown name in
      let g = put (h.1, (omega arith, (subst Short (sym w) (word-short (enclosed fs b ∷ encl) (drop base es₂) shown name), tt))) in (
        shown,
        grown-then (formals-place fs at count is.here.number) (formals fs is.here.number is.here.formals)
            (subst (λ (v : ℕ). Grown c₁ c₂ (at + 6 * count) (head_word (enclosed fs b) level ∷ 0 ∷ v ∷ [])) w
            (subst (λ (v : ℕ). Grown c₁ c₂ (at + 6 * count) (v ∷ 0 ∷ looked ∷ [])) h.0 g)),
      )

  -- the names in their chains, the formals' kinds and the first words written, as the code has it
  pub enters :
      (es es₁ es₂ ends c c₁ c₂ : List ℕ) (first looked w : ℕ) → 768 ≤ base → Declares bs es es₁ ends at count d base level first → Rechained es₁ es₂ base →
      FormalsWritten bs at count c c₁ → looked ≡ word_in name (drop base es₂) → w ≡ head →
      (Each Short (w ∷ 0 ∷ looked ∷ []) → Grown c₁ c₂ (at + 6 * count) (w ∷ 0 ∷ looked ∷ [])) → Enters bs es es₂ ends c c₂ name at count d base level first
  enters es es₁ es₂ ends c c₁ c₂ first looked w low declares inserted formals found h put =
      record {
        entered =
            entered es es₁ es₂ ends c c₁ c₂ first looked declares (kept_from es₂ es₁ 768 base low inserted.same) formals found
            (subst (λ (x : ℕ). Each Short (x ∷ 0 ∷ looked ∷ []) → Grown c₁ c₂ (at + 6 * count) (x ∷ 0 ∷ looked ∷ [])) h put);
        leads = λ b fs encl is. declares.leads b fs is.here is.within;
        same = kept_from es₂ es₁ 768 top (omega arith) inserted.same ∙ declares.above;
        chained = inserted.chained;
        near = declares.near;
        noted = declares.noted;
      }

-- the names put leave the chains as they were
pub declared-chained :
    (bs es es₁ ends : List ℕ) (at count d base level first : ℕ) → 768 ≤ base → length es₁ ≡ length es → Declares bs es es₁ ends at count d base level first →
    Chained es (base + (count + d)) → Chained es₁ (base + (count + d))
declared-chained bs es es₁ ends at count d base level first low n declares h =
    chained-still es es₁ base (base + (count + d)) low (omega arith) n declares.below declares.above h

-- the block's text
block-resolved :
    (name o : ℕ) (ds : Decls) (ss : Stmts) (fs : List Formal) (encl : Enclosure) (level : ℕ) → suc (length encl) ≡ level →
    let e = enclosed fs (block o ds ss) in
    head_word e level ∷ bounds_word (block o ds ss) ∷ name_word (e ∷ encl) name ∷ resolved_items name (in_block (block o ds ss)) (e ∷ encl) ≡ resolved_block name (block o ds ss) fs encl
unfolding resolved_block header in_block
block-resolved name o ds ss fs encl level depth =
    let e = enclosed fs (block o ds ss) in
    ap₂ (λ (k : ℕ) (l : List ℕ). head_word e k ∷ bounds_word (block o ds ss) ∷ name_word (e ∷ encl) name ∷ l) (sym depth)
    (sym (ap (λ (l : List ℕ). resolved_decls name ds (e ∷ encl) ++ l) (stmts-resolved name ss (e ∷ encl)) ∙ decls-resolved name ds (map stated (stmts ss)) (e ∷ encl)))

end-place : (bs : List ℕ) (at count top level : ℕ) (b : Block) (fs : List Formal) → BlockHere bs at count top b fs level → (at + 6 * count + 2 * length (block_fields b)) / 2 ≡ end_place b
unfolding end_place block_at FormedBlock
end-place bs at count top level (block o ds ss) fs h = let e = h.formed.stands in omega arith

module _ (bs es es₁ c c₁ c₂ c₃ : List ℕ) (name at count top base level first end d s : ℕ) (d-read : d ≡ field_at bs (at + 6 * count + 2)) (s_read : s ≡ field_at bs (at + 6 * count + 4)) (whole : base + (count + d) ≡ top)
    (enters : Entered bs es es₁ name at count top base level c c₁) (leads : Leads bs es at count top level first)
    (walked : ItemsWritten bs es₁ name (at + 6 * count + 6) (d + s) base level c₁ c₂ end)
    (put : c₃ ≡ set c₂ ((at + 6 * count + 2) / 2) (bounds_from (end / 2) (first / 2) % 4294967296)) where
  block_written : BlockWritten bs es name at count top level c c₃ end
  unfolding bounds_word
  block_written (block o ds ss) fs encl is =
      let b = block o ds ss in
      let e = enclosed fs b in
      let n = enters b fs encl is in
      let far = reaches bs at count top o ds ss fs level is.here in
      let w = walked (in_block b) (e ∷ encl) (length (stmts ss))
      (record {
        here = items-here bs at count top o ds ss fs level is.here d s base d-read s_read whole;
        depth = is.depth;
        shown = n.0;
        within = omega (arith, is.within);
      }) in
      let l = leads b fs encl is in
      let long = formals-place fs at count is.here.number in
      let ended : end ≡ at + 6 * count + 2 * length (block_fields b) = w.ends ∙ far in
      let place : end / 2 ≡ end_place b = ap (λ (x : ℕ). x / 2) ended ∙ end-place bs at count top level b fs is.here in
      let v : end / 2 + 65536 * (first / 2) ≡ bounds_word b = omega (arith, l.1) in
      let whole_words : Grown c c₂ at (resolved_formals fs ++ (head_word e level ∷ 0 ∷ name_word (e ∷ encl) name ∷ resolved_items name (in_block b) (e ∷ encl))) =
      subst (Grown c c₂ at) (append_assoc (resolved_formals fs) (head_word e level ∷ 0 ∷ name_word (e ∷ encl) name ∷ []) (resolved_items name (in_block b) (e ∷ encl)))
      (grown-then (omega (arith, length-append (resolved_formals fs) (head_word e level ∷ 0 ∷ name_word (e ∷ encl) name ∷ []))) n.1 w.grows) in
      record {
        ends = ended;
        grows =
            subst (λ (ws : List ℕ). Grown c c₃ at (resolved_formals fs ++ ws)) (block-resolved name o ds ss fs encl level is.depth)
            (subst (λ (x : ℕ). Grown c c₃ at (resolved_formals fs ++ (head_word e level ∷ x ∷ name_word (e ∷ encl) name ∷ resolved_items name (in_block b) (e ∷ encl)))) v
            (grown-patched (resolved_formals fs) (head_word e level) (end / 2 + 65536 * (first / 2)) (name_word (e ∷ encl) name ∷ resolved_items name (in_block b) (e ∷ encl))
            (at + 6 * count + 2) (omega arith) (omega (arith, l.0, ended, is.within)) put whole_words));
      }

-- A block as the code has it: its mark and its numbers read, room for its names.
pub no_block :
    (bs es c c' : List ℕ) (name at count top level w r : ℕ) → w ≡ field_at bs (at + 6 * count) → (w ≡ BK-mark → ⊥) → BlockWritten bs es name at count top level c c' r
no_block bs es c c' name at count top level w r e n b fs encl h = absurd (n (e ∙ block-mark bs (at + 6 * count) b h.here.stand))

pub no_room_lem :
    (bs es c c' : List ℕ) (name at count top level d r : ℕ) → d ≡ field_at bs (at + 6 * count + 2) → top < 768 + (count + d) → BlockWritten bs es name at count top level c c' r
no_room_lem bs es c c' name at count top level d r e l b fs encl h = absurd (omega (arith, block_room bs at count top b fs level h.here))

-- what entering it asks
pub enterable :
    (bs es st ends : List ℕ) (at count d s top level : ℕ) →
    Ready bs es ends top × (2048 ≤ length st) × (at ≤ length bs + 6) × (count < 65536) × (level ≤ at + 1) →
    (d ≡ field_at bs (at + 6 * count + 2)) × (d < 65536) → (s ≡ field_at bs (at + 6 * count + 4)) × (s < 65536) → 768 + (count + d) ≤ top →
    Declarable bs es st ends at count d s (top - (count + d)) level × (768 ≤ top - (count + d)) × Chained es (top - (count + d) + (count + d))
enterable bs es st ends at count d s top level asked dr sr fits =
    let (r, long, near, few, low) = asked in
    let whole : top ≡ top - (count + d) + (count + d) = omega arith in (
      record {
        short = r.short;
        near = omega (arith, r.short);
        formals = few;
        d-read = dr.0;
        s_read = sr.0;
        d_small = dr.1;
        s-small = sr.1;
        low = omega (arith, r.short);
        room = omega (arith, r.room, r.chained.long);
        starts = long;
        noted = r.noted;
      },
      omega arith,
      subst (Chained es) whole r.chained,
    )

-- and what the walk of its records asks
pub walkable :
    (bs es es₁ ends ends₁ c c₁ : List ℕ) (name at count d s top level first n n₁ : ℕ) →
    Ready bs es ends top × (2048 ≤ n) × (at ≤ length bs + 6) × (count < 65536) × (level ≤ at + 1) →
    Enters bs es es₁ ends₁ c c₁ name at count d (top - (count + d)) level first → n₁ ≡ n →
    (d ≡ field_at bs (at + 6 * count + 2)) × (d < 65536) → (s ≡ field_at bs (at + 6 * count + 4)) × (s < 65536) → at + 6 * count + 6 ≤ length bs + 400000 →
    Ready bs es₁ ends₁ (top - (count + d)) × (2048 ≤ n₁) × (at + 6 * count + 6 ≤ length bs + 400000) × (d + s ≤ 131070) × (level ≤ at + 6 * count + 6)
walkable bs es es₁ ends ends₁ c c₁ name at count d s top level first n n₁ asked enters same dr sr near =
    let (r, long, close, few, low) = asked in
    (record { short = r.short; room = omega (arith, r.room); chained = enters.chained; noted = enters.noted }, omega arith, near, omega arith, omega arith)

-- what a walk answers after the words written: it goes on, and leaves the entries
abbrev pub onward : {A B C : Type 0} → A × (B × C) → B
onward r = r.1.0

abbrev pub kept : {A B C : Type 0} → A × (B × C) → C
kept r = r.1.1

pub onward-start : (at count n : ℕ) → at ≤ n + 6 → count < 65536 → Onward at n (at + 6 * count)
onward-start at count n l m = (omega arith, omega arith)

module _ (bs es es₁ ends₁ c c₁ : List ℕ) (name at count d top level first : ℕ) (enters : Enters bs es es₁ ends₁ c c₁ name at count d (top - (count + d)) level first) (fits : 768 + (count + d) ≤ top)
  where
    abbrev base : ℕ
    base = top - (count + d)

    whole : base + (count + d) ≡ top
    whole = omega arith

    pub block_walked :
        (es₂ es₃ ends c₂ c₃ : List ℕ) (s end w : ℕ) → d ≡ field_at bs (at + 6 * count + 2) → s ≡ field_at bs (at + 6 * count + 4) →
        ItemsWritten bs es₁ name (at + 6 * count + 6) (d + s) base level c₁ c₂ end × (Onward (at + 6 * count + 6) (length bs) end × Kept bs es₁ es₂ ends base) →
        w ≡ bounds_from (end / 2) (first / 2) → c₃ ≡ set c₂ ((at + 6 * count + 2) / 2) (w % 4294967296) → Rechained es₂ es₃ top →
        BlockWritten bs es name at count top level c c₃ end × (Onward at (length bs) end × Kept bs es es₃ ends top)
    block_walked es₂ es₃ ends c₂ c₃ s end w d-read s_read walked b put out = (
      block_written bs es es₁ c c₁ c₂ c₃ name at count top base level first end d s d-read s_read whole
          (subst (λ (k : ℕ). Entered bs es es₁ name at count k base level c c₁) whole enters.entered)
          (subst (λ (k : ℕ). Leads bs es at count k level first) whole enters.leads) walked.0 (put ∙ ap (λ (x : ℕ). set c₂ ((at + 6 * count + 2) / 2) (x % 4294967296)) b),
      (
        (omega (arith, onward walked), (onward walked).1),
        record {
          same =
              kept_from es₃ es₂ 768 top (omega arith) out.same ∙ kept_from es₂ es₁ base top (omega arith) (kept walked).same
              ∙ subst (λ (k : ℕ). drop k es₁ ≡ drop k es) whole enters.same;
          chained = out.chained;
          noted = (kept walked).noted;
        },
      ),
    )
