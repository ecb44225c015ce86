-- The links that a call reports are at most 15, since an accepted script has at most 16 levels. `links-most` is the theorem: it stands beside
-- `reported` of runs, which bounds the other numbers of an answer, and hangs on what is known here, that only procedures are called.
use Rattle.std.specs.Prelude.{ℕ, ◌≤◌, Bool, true, false, List, length}
use Rattle.std.proofs.Common.{arith, ap, ◌∙◌, subst}
use Rattle.language.specs.Text.{Block}
use Rattle.language.specs.Call.{Engine, Fed, Reply, links_of, turned_away, reply}
use Rattle.language.specs.declared.Refusal.{Refusal}
use Rattle.laws.specs.Tests.{by-lookup}
use Rattle.grammar.specs.Rules.{Bytes, Keeps}
use Rattle.runs.specs.Admission.{Admitted}
use Rattle.runs.specs.Calls.{reply-cases}
use Rattle.frames.specs.Frame.{Frame, numbered, links_followed, frame_replied, frame_run_of}
use Rattle.frames.proofs.Runs.{runs-replied}
use Rattle.frame_laws.specs.Finding.{seek_name-starts, links-none}
use Rattle.coordinates.specs.Enclosure.{coordinate_of}
use Rattle.coordinates.specs.Chain.{enclosure_of, level_of, Chained}
use Rattle.coordinates.proofs.Search.{enclosure-none}
use Rattle.coordinates.proofs.Declared.{coordinate-declares}
use Rattle.coordinates.proofs.Coordinates.{level-of-text, sought-nowhere, links-counted}
use Rattle.coordinates.proofs.Kept.{chained-downward}
use Rattle.coordinates.proofs.Levels.{level-bound}
use Rattle.coordinates.proofs.Sound.{accepted-keeps-rules, call-sound}

-- the innermost frame, where there is one, lies at most at level 16
level-most : (t : Block) → Keeps t → (fs : List Frame) → Chained t fs → level_of fs (length fs) ≤ 16
level-most t keeps fs chained =
    by-lookup (numbered fs (length fs)) (λ e. omega (arith, level-of-text fs (length fs), ap length (enclosure-none fs (length fs) e)))
    (λ f e. (level-bound t keeps fs chained (length fs) f e).1)

pub followed-most : (t : Block) → Keeps t → (fs : List Frame) → Chained t fs → (n : ℕ) → links_followed fs n ≤ 15
followed-most t keeps fs chained n =
    let down = chained-downward t fs chained in
    by-lookup (coordinate_of (enclosure_of fs (length fs)) n)
    (λ e. omega (arith, links-none fs n (seek_name-starts fs n ∙ sought-nowhere fs down (length fs) (length fs) n 0 (omega arith) e)))
    (λ c e. omega (arith, links-counted fs down n c e, (coordinate-declares (enclosure_of fs (length fs)) n c e).low, level-most t keeps fs chained))

-- an engine reports those followed, or none
reported-most : (e : Engine) (k : ℕ) → k ≤ 15 → links_of e k ≤ 15
unfolding links_of
reported-most e k h = go e.links
  where
    go : (b : Bool) → (elim b as (λ x. ℕ) [ true ↦ k | false ↦ 0 ]) ≤ 15
    go true = h
    go false = omega arith

away-links : (f : Fed) (c : Refusal) (o : ℕ) → (turned_away f c o).answer.links ≤ 15
unfolding turned_away
away-links f c o = omega arith

ran-links : (e : Engine) (f : Fed) → Bytes f.script → (t : Block) → Admitted e f t → (frame_replied e f (frame_run_of f t)).answer.links ≤ 15
unfolding frame_replied
ran-links e f bytes t h =
    let fs = (frame_run_of f t).final.frames in
    reported-most e (links_followed fs f.name) (followed-most t (accepted-keeps-rules f.script bytes t h.script) fs (call-sound e f t bytes h).chained f.name)

-- whatever engine is called on whatever it is fed
pub links-most : (e : Engine) (f : Fed) → Bytes f.script → (reply e f).answer.links ≤ 15
links-most e f bytes =
    reply-cases (λ r. r.answer.links ≤ 15) e f (λ c o h. away-links f c o)
    (λ t h. subst (λ (r : Reply). r.answer.links ≤ 15) (runs-replied e f bytes t h.script) (ran-links e f bytes t h))
