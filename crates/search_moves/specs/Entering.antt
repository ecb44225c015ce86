-- Entering a block. `enterable`: what the code asks holds; `entered-to`: what it makes of the arrays is the state one step later, where the search goes on
-- rightly from the new activation and its formals' passers are right.
use Rattle.std.specs.Prelude.{ℕ, suc, pred, ◌+◌, ◌*◌, ◌<◌, List, ◌≡◌, ltb, ℤ, length, get_or, set}
use native.Mathlib.Omega.{arith}
use Rattle.std.proofs.Math.Path.{sym, ap}
use Rattle.std.proofs.Common.{◌∙◌, subst, ltb-true, ltb-false, length-set, get_or-set_same, get_or-set_other}
use Rattle.language.specs.Text.{block_at, block_decls}
use Rattle.laws.specs.Tests.{split}
use Rattle.laws.specs.Lists.{get_elem-bound}
use Rattle.grammar.specs.Formed.{block-few}
use Rattle.frames.specs.Frame.{Frame, Stack, with_frames, stepped}
use Rattle.coordinates.specs.Enclosure.{Enclosing, enclosed, Enclosure}
use Rattle.coordinates.specs.Chain.{enclosing, enclosure_of}
use Rattle.f_search.specs.Search.{onward}
use Rattle.f_search.proofs.Theorem.{onward-below}
use Rattle.resolved.specs.Resolved.{place_of, end_place, stmt_place}
use Rattle.resolved.proofs.Places.{block-fields, end-bound, place-bound, enclosed-formed}
use Rattle.resolved.specs.Layout.{cell_from}
use Rattle.run_moves.specs.Effects.{Cleared}
use Rattle.steps.specs.Means.{EntersAt}
use Rattle.steps.specs.Here.{downward, encloses-here}
use Rattle.steps.specs.Entered.{BodyHead, body-head, Entered, entered}
use Rattle.run_state.specs.declared.Registers.{Registers}
use Rattle.run_state.specs.Limits.{goes_to}
use Rattle.search_moves.specs.Running.{Froms, Passers, Running, Succeeds}
use Rattle.search_moves.specs.Keeping.{froms-at}
use Rattle.search_moves.specs.Going.{succeeds}
use Rattle.search_moves.specs.Steering.{frames_after, same-calls, down-after, deep-after}
use Rattle.search_moves.specs.Entry.{Enterable, EnteredIn}

module _ {code numbers : List ℕ} {activations limit : ℕ} {cells : List ℤ} {passers blocks nexts froms : List ℕ} {table : List ℤ} {here : Registers}
    (w : Running code numbers activations limit cells passers blocks nexts froms table here)
    {body link back : ℕ} {cells' : List ℤ} (j : EntersAt w.standing body link back cells') {from : ℕ} (steered : from ≡ pred (onward (frames_after w j) (suc (suc here.live)))) where
  abbrev live : ℕ
  live = here.live

  abbrev fs : List Frame
  fs = w.standing.stack.frames

  abbrev gs : List Frame
  gs = frames_after w j

  abbrev e : Enclosing
  e = enclosed j.formals j.text

  abbrev es : Enclosure
  es = enclosure_of fs (suc link)

  head : BodyHead w.standing body link back cells' j
  head = body-head w.standing body link back cells' j

  room : live + 1 < 256
  room = omega (arith, j.room, w.standing.sound.few)

  from-below : from < 256
  from-below = omega (arith, steered, room, onward-below gs (down-after w j) (suc (suc live)) (omega arith))

  pub enterable : Enterable code here body from back
  unfolding enclosing end_place
  enterable =
      let s = w.standing in
      let few = block-few (suc (length es)) j.formals (2 * place_of (block_at j.text)) j.text (enclosed-formed s.program s.keeps e es j.encloses) in
      record {
        body-within = omega (arith, j.body_is, block-fields j.text, end-bound s.program s.keeps e es j.encloses);
        back-within = omega (
          arith,
          j.back_is,
          place-bound s.program s.keeps (enclosing s.frame) (enclosure_of fs s.frame.link) (encloses-here s) (suc s.frame.next) (omega arith),
        );
        from-within = omega (arith, from-below);
        room = room;
        formals-few = omega (arith, head.formals);
        names-few = omega (arith, head.names);
      }

  froms-more : Froms gs (set froms (live + 1) from)
  froms-more k g n =
      split (ltb k (suc live))
      (λ t. let h = ltb-true k (suc live) t in
      get_or-set_other froms (live + 1) k from 0 (λ z. omega arith) ∙ froms-at (suc live) fs gs (same-calls w j) (downward w.standing) froms w.froms-are k g h n)
      (λ t. let one : k ≡ live + 1 = omega (arith, ltb-false k (suc live) t, get_elem-bound gs k g n, deep-after w j) in
      let two : suc (suc live) ≡ suc k = omega arith in
      ap (λ i. get_or (set froms (live + 1) from) i 0) one ∙ get_or-set_same froms (live + 1) from 0 (omega (arith, room, w.froms-long)) ∙ steered ∙ ap (λ i. pred (onward gs i)) two)

  module _ {cells'' : List ℤ} {blocks' nexts' froms' : List ℕ} {r : Registers} (n : EnteredIn code here body from back cells' blocks nexts froms cells'' blocks' nexts' froms' r) where
    cleared : Cleared cells' (cell_from (live + 1) (length j.formals)) (cell_from (live + 1) (length j.formals + length (block_decls j.text))) cells''
    cleared = subst (λ (T : Type 0). T) (λ i. Cleared cells' (cell_from (live + 1) (head.formals i)) (cell_from (live + 1) (head.names i)) cells'') n.cleared

    abbrev after : Entered w.standing body link back cells' j cells'' cleared
    after = entered w.standing body link back cells' j cells'' cleared

    frames-are : gs ≡ after.standing.stack.frames
    unfolding stepped with_frames
    frames-are =
        let p = sym after.follows.steps ∙ j.steps in
        let q : after.follows.moved ≡ with_frames w.standing.stack gs = cc in
        sym (ap (λ (v : Stack). v.frames) after.follows.is-stepped ∙ ap (λ (v : Stack). v.frames) q)

    registers-are : goes_to here (live + 1) (stmt_place j.text 1) (end_place j.text) here.pairs ≡ r
    registers-are = (λ i. goes_to here (live + 1) (sym head.first i) (sym head.ends i) here.pairs) ∙ sym n.registers-are

    pub entered-to : {passers' : List ℕ} → Passers gs passers' → length passers' ≡ 8192 → Succeeds w cells'' passers' blocks' nexts' froms' table r
    entered-to {passers'} passed long =
        subst (λ (T : Type 0). T) (λ i. Succeeds w cells'' passers' (sym n.blocks-are i) (sym n.nexts-are i) (sym n.froms-are i) table (registers-are i))
        (succeeds w after.standing after.follows passers' (set froms (live + 1) from) (subst (λ (hs : List Frame). Froms hs (set froms (live + 1) from)) frames-are froms-more)
        (subst (λ (hs : List Frame). Passers hs passers') frames-are passed) (length-set froms (live + 1) from ∙ w.froms-long) long)
