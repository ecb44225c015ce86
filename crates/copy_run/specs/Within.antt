-- A block's text lies within the text of the block in which it stands: `begins-within`, `ends-within`; and every text within the script: `text-within`.
use Rattle.std.specs.Prelude.{suc, ◌≤◌, ◌∷◌, length}
use native.Mathlib.Omega.{arith}
use Rattle.language.specs.Text.{Block, BK, block_at, stmt_at}
use Rattle.language.specs.Encoding.{block_fields, stmt_fields}
use Rattle.grammar.specs.Rules.{Keeps}
use Rattle.coordinates.specs.Enclosure.{Enclosing, Enclosure, StandsIn, as-block, as-body, Encloses}
use Rattle.resolved.specs.Resolved.{place_of, end_place}
use Rattle.resolved.proofs.Places.{Placed, enclosed-placed, before-next, before-within, body-within, block-place, end_is, stmt-stands, body-stands}

module _ (t : Block) (keeps : Keeps t) where
  pub text-within : (e : Enclosing) (es : Enclosure) → Encloses t (e ∷ es) → end_place e.text ≤ length (block_fields t)
  text-within e es h =
      let p = enclosed-placed t keeps e es h in
      omega (arith, end_is e.text (suc (length es)) e.formals p.place p.formed, p.within)

  module _ (e o : Enclosing) (es : Enclosure) (h : Encloses t (e ∷ o ∷ es)) where
    outer : Placed t o es
    outer = enclosed-placed t keeps o es h.1

    pub within-outer : (place_of (block_at o.text) ≤ place_of (block_at e.text)) × (end_place e.text ≤ end_place o.text)
    unfolding end_place stmt_at stmt_fields
    within-outer = by h.0
      where
        by : StandsIn e o.text → (place_of (block_at o.text) ≤ place_of (block_at e.text)) × (end_place e.text ≤ end_place o.text)
        by (as-block i q f) =
            let s = stmt-stands o.text (suc (length es)) o.formals outer.place outer.formed i (BK e.text) q in
            let p = block-place o.text (suc (length es)) o.formals outer.place outer.formed in
            let n = before-next o.text i (BK e.text) q in
            let m = before-within o.text (suc i) in
            (omega arith, omega arith)
        by (as-body i at n q) =
            let s = body-stands o.text (suc (length es)) o.formals outer.place outer.formed i at n e.formals e.text q in
            let p = block-place o.text (suc (length es)) o.formals outer.place outer.formed in
            let m = body-within o.text i at n e.formals e.text q in
            (omega arith, omega arith)
