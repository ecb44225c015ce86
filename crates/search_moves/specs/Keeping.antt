-- What the arrays hold of frames that a step leaves alone: frames whose calls are the same up to a number have their entries in `froms` and `passers` there
-- (`froms-at`, `passers-at`).
use Rattle.std.specs.Prelude.{ℕ, suc, pred, ◌+◌, ◌*◌, ◌≤◌, ◌<◌, List, ◌≡◌, length, get_or}
use Rattle.std.proofs.Common.{arith, ◌∙◌}
use Rattle.std.proofs.Math.Option.{some}
use Rattle.std.proofs.Math.Path.{sym, ap}
use Rattle.std.proofs.Math.ListN.{get_elem?}
use Rattle.language.specs.Text.{procedure, Formal}
use Rattle.laws.specs.Lists.{get_elem-bound}
use Rattle.frames.specs.Frame.{Frame}
use Rattle.frames.specs.Numbered.{numbered-suc, numbered-index}
use Rattle.coordinates.specs.Enclosure.{Enclosing}
use Rattle.coordinates.specs.Chain.{enclosing, outline, Downward}
use Rattle.coordinates.proofs.Along.{alike-some}
use Rattle.f_search.specs.Passers.{passer}
use Rattle.f_search.specs.Search.{onward}
use Rattle.f_search.proofs.Kept.{SameCalls, passer-alike, onward-alike}
use Rattle.search_moves.specs.Running.{formal_in, Froms, Passers}

module _ (b : ℕ) (fs gs : List Frame) (same : SameCalls b fs gs) (down : Downward fs) where
  -- the frame that stood there
  before : (k : ℕ) (g : Frame) → k < b → get_elem? gs k ≡ some g → (f : Frame) × (get_elem? fs k ≡ some f) × (f.formals ≡ g.formals)
  unfolding outline enclosing
  before k g h e =
      let f = alike-some gs fs b (λ i p. sym (same.outlines i p)) (suc k) g (omega arith) (numbered-suc gs k ∙ e) in
      (f.0, numbered-index fs (suc k) f.0 f.1, ap (λ (o : Enclosing × ℕ). o.0.formals) f.2)

  pub froms-at : (froms : List ℕ) → Froms fs froms → (k : ℕ) (g : Frame) → k < b → get_elem? gs k ≡ some g → get_or froms k 0 ≡ pred (onward gs (suc k))
  froms-at froms are k g h e =
      let f = before k g h e in are k f.0 f.1 ∙ ap pred (sym (onward-alike b fs gs same down (suc k) (omega arith)))

  pub passers-at : (passers : List ℕ) → Passers fs passers → (k i : ℕ) (g : Frame) (m : Formal) → k < b → get_elem? gs k ≡ some g → get_elem? g.formals i ≡ some m → m.kind ≡ procedure
      → get_or passers (32 * k + i) 0 ≡ pred (passer gs (formal_in k i))
  passers-at passers are k i g m h e q p =
      let f = before k g h e in
      are k i f.0 m f.1 (ap (λ (ms : List Formal). get_elem? ms i) f.2 ∙ q) p ∙ ap pred (sym (passer-alike b fs gs same down (formal_in k i) (omega arith)))

  pub froms-kept : (froms : List ℕ) → Froms fs froms → length gs ≤ b → Froms gs froms
  froms-kept froms are n k g e = froms-at froms are k g (omega (arith, get_elem-bound gs k g e)) e

  pub passers-kept : (passers : List ℕ) → Passers fs passers → length gs ≤ b → Passers gs passers
  passers-kept passers are n k i g m e = passers-at passers are k i g m (omega (arith, get_elem-bound gs k g e)) e
