-- One declaration or statement, by its mark as it was read.
-- Assumes nothing.
use mathlib.Core.Path.{◌≡◌, refl, sym, ap, subst}
use mathlib.Core.List.{List, []}
use Prim.Native.Nat.{ℕ, suc, ◌+◌, ◌*◌, ◌<◌}
use native.Mathlib.Numerals.{add-one}
use native.Mathlib.Omega.{arith}
use lib.ListN.{length, drop}
use Rattle.language.specs.Text.{Formal, Block}
use Rattle.language.specs.Encoding.{block_fields, BK-mark, VR-mark, LB-mark, PR-mark}
use Rattle.coordinates.specs.Enclosure.{Enclosure}
use Rattle.resolved.specs.Resolved.{resolved_formals, resolved_decl, resolved_stmt}
use Rattle.laws.specs.Fields.{field_at}
use Rattle.check_extents.specs.Items.{Item, item_fields}
use Rattle.check_extents.specs.Passing.{Alone}
use Rattle.check_scope.specs.Walking.{BlockHere}
use Rattle.check_scope.proofs.Marked.{procedure-here, inner-here, variable-here, label-here, statement-here}
use Rattle.resolve_words.specs.Growth.{Grown}
use Rattle.resolve_words.specs.Visible.{Named}
use Rattle.resolve_statements.specs.Emitted.{Emitted}
use Rattle.resolve_words.proofs.Growth.{grown-zero, grown-more, grown-then}
use Rattle.resolve_script.specs.Resolving.{resolved_item, BlockIs, ItemIs, Written, BlockWritten, ItemWritten, Onward}

module _ (bs es : List ℕ) (name at top level mark : ℕ) (c c' : List ℕ) (read : mark ≡ field_at bs at) where
  -- the words of a record are those of what it is
  as_written : (x y : Item) (encl : Enclosure) (ws : List ℕ) (next : ℕ) → x ≡ y → resolved_item name y encl ≡ ws → next ≡ at + 2 * length (item_fields x) → Grown c c' at ws → Written c c' at (at + 2 * length (item_fields x)) next (resolved_item name x encl)
  as_written x y encl ws next e w n g = record { ends = n; grows = subst (Grown c c' at) (sym (ap (λ (z : Item). resolved_item name z encl) e)) (subst (Grown c c' at) (sym w) g) }

  inside : (o count : ℕ) (b : Block) (fs : List Formal) (x : Item) (encl : Enclosure) (s : ℕ) → ItemIs bs es at top level x encl s → BlockHere bs o count top b fs (suc level) → o + 6 * count + 2 * length (block_fields b) ≡ at + 2 * length (item_fields x) → BlockIs bs es o count top (level + 1) b fs encl
  inside o count b fs x encl s h here n =
      record {
        here = subst (λ (k : ℕ). BlockHere bs o count top b fs k) (sym (add-one level)) here;
        depth = omega (arith, h.depth);
        shown = h.shown;
        within = omega (arith, h.within);
      }

  pub procedure-written :
      (d : List ℕ) (count r : ℕ) → mark ≡ PR-mark → Named bs (drop top es) at c d → count ≡ field_at bs (at + 4) → BlockWritten bs es name (at + 6) count top (level + 1) d c' r →
      ItemWritten bs es name at top level c c' r
  unfolding resolved_item resolved_decl
  procedure-written d count r m named e written x encl s h =
      let p = procedure-here bs at top level s mark read x count m e h.here in
      let w = written p.text p.formals encl (inside (at + 6) count p.text p.formals x encl s h p.here p.size) in
      as_written x _ encl _ r p.is refl (omega (arith, w.ends, p.size))
      (grown-then (omega arith) (named p.name encl h.shown p.named) (grown-more (omega arith) (grown-zero d (at + 4)) w.grows))

  pub block-as-written : (r : ℕ) → mark ≡ BK-mark → BlockWritten bs es name at 0 top (level + 1) c c' r → ItemWritten bs es name at top level c c' r
  unfolding resolved_item resolved_stmt resolved_formals
  block-as-written r m written x encl s h =
      let p = inner-here bs at top level s mark read x m h.here in
      let w = written p.text [] encl (inside at 0 p.text [] x encl s h p.here p.size) in
      as_written x _ encl _ r p.is refl (omega (arith, w.ends, p.size)) w.grows

  pub variable-written : mark ≡ VR-mark → Named bs (drop top es) at c c' → ItemWritten bs es name at top level c c' (at + 4)
  unfolding resolved_item resolved_decl
  variable-written m named x encl s h =
      let p = variable-here bs at top level s mark read x m h.here in
      as_written x _ encl _ (at + 4) p.is refl p.size (named p.name encl h.shown p.named)

  pub label-written : mark ≡ LB-mark → Named bs (drop top es) at c c' → ItemWritten bs es name at top level c c' (at + 6)
  unfolding resolved_item resolved_decl
  label-written m named x encl s h =
      let p = label-here bs at top level s mark read x m h.here in
      as_written x _ encl _ (at + 6) p.is refl p.size (grown-then refl (named p.name encl h.shown p.named) (grown-zero c' (at + 2 * 2)))

  pub action-written :
      (next : ℕ) → (mark ≡ PR-mark → ⊥) → (mark ≡ BK-mark → ⊥) → (mark ≡ VR-mark → ⊥) → (mark ≡ LB-mark → ⊥) → Alone bs at next → Emitted bs (drop top es) at c c' →
      ItemWritten bs es name at top level c c' next
  unfolding resolved_item resolved_stmt
  action-written next no-PR no-BK no-VR no-LB past emitted x encl s h =
      let p = statement-here bs at top level s mark read x next no-PR no-BK no-VR no-LB past h.here in
      as_written x _ encl _ next p.is refl p.size (emitted p.action encl h.shown p.stand)

pub onward-alone : (bs : List ℕ) (at next : ℕ) → at < length bs → Alone bs at next → Onward at (length bs) next
onward-alone bs at next l a = (omega (arith, a.on), omega (arith, a.near))

pub onward-body : (at n r : ℕ) → Onward (at + 6) n r → Onward at n r
onward-body at n r o = (omega (arith, o.0), o.1)
