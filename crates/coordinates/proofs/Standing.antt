-- Where the frames of a run stand in the bytes: each frame's block at its own offset (`frame-stands`), and so the statement that comes next
-- (`next-stands`) and the declarations (`decl-stands` of grammar). `enclosure-stands` says it of the text.
use Prim.Native.Nat.{ℕ, suc, pred}
use mathlib.Core.List.{List, [], ◌∷◌}
use Rattle.std.proofs.Math.Option.{some}
use Rattle.std.specs.Prelude.{◌≡◌}
use Rattle.std.proofs.Math.Path.{sym, ap, subst}
use Rattle.std.proofs.Common.{◌∙◌}
use Rattle.std.proofs.Math.ListN.{length}
use Rattle.language.specs.Basics.{last?}
use Rattle.language.specs.Text.{Formal, Block, Stmt, BK, PR, block_stmts}
use Rattle.language.specs.Encoding.{encode}
use Rattle.grammar.specs.Rules.{Keeps}
use Rattle.grammar.proofs.Standing.{BlockStands, StmtStands, program-stands, decl-stands, stmt-stands, inner-stands, body-stands}
use Rattle.frames.specs.Frame.{Frame, numbered, frame_stmt}
use Rattle.frames.specs.Numbered.{last-numbered}
use Rattle.coordinates.specs.Enclosure.{Enclosing, Enclosure, StandsIn, as-block, as-body, whole, Encloses}
use Rattle.coordinates.specs.Chain.{enclosing, enclosure_of, level_of, Chained}
use Rattle.coordinates.proofs.Search.{enclosure-step}
use Rattle.coordinates.proofs.Coordinates.{level-of-text}
use Rattle.coordinates.proofs.Kept.{chained-downward}
use Rattle.coordinates.proofs.Levels.{frame-encloses}

module _ (bs : List ℕ) where
  inner-in : (o : Block) (level : ℕ) (fs : List Formal) (e : Enclosing) → BlockStands bs o level fs → StandsIn e o → BlockStands bs e.text (suc level) e.formals
  inner-in o level fs e h (as-block i q p) =
      subst (BlockStands bs e.text (suc level)) (sym p) (inner-stands bs e.text level (stmt-stands bs o level fs i (BK e.text) h q))
  inner-in o level fs e h (as-body i at n q) =
      body-stands bs at n e.formals e.text level (length (block_stmts o)) (decl-stands bs o level fs i (PR at n e.formals e.text) h q)

  module _ (t : Block) (keeps : Keeps t) (same : bs ≡ encode t) where
    pub enclosure-stands : (e : Enclosing) (es : Enclosure) → Encloses t (e ∷ es) → BlockStands bs e.text (suc (length es)) e.formals
    unfolding whole
    enclosure-stands e [] w = subst (λ (x : Enclosing). BlockStands bs x.text 1 x.formals) (sym w) (program-stands bs t keeps same)
    enclosure-stands e (o ∷ es) w = inner-in o.text (suc (length es)) o.formals e (enclosure-stands o es w.1) w.0

    module _ (fs : List Frame) (chain : Chained t fs) where
      pub frame-stands : (k : ℕ) (f : Frame) → numbered fs k ≡ some f → BlockStands bs f.text (level_of fs k) f.formals
      unfolding enclosing
      frame-stands k f e =
          let level : suc (length (enclosure_of fs f.link)) ≡ level_of fs k = sym (level-of-text fs k ∙ ap length (enclosure-step fs (chained-downward t fs chain) k f e)) in
          subst (λ (n : ℕ). BlockStands bs f.text n f.formals) level (enclosure-stands (enclosing f) (enclosure_of fs f.link) (frame-encloses t fs chain k f e))

      pub next-stands : (f : Frame) (x : Stmt) → last? fs ≡ some f → frame_stmt f ≡ some x → StmtStands bs x (level_of fs (length fs))
      unfolding frame_stmt
      next-stands f x e q = stmt-stands bs f.text (level_of fs (length fs)) f.formals (pred f.next) x (frame-stands (length fs) f (sym (last-numbered fs) ∙ e)) q
