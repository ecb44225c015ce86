use Rattle.std.proofs.Common.{List, ◌<◌, ℤ, length, take, refl, sym, ap, ◌∙◌, arith}
use Rattle.laws.specs.Lists.{get_elem-in}
use Rattle.language.specs.Call.{written}
use Rattle.frames.specs.Frame.{frame_sheet}
use Rattle.run_sheet.specs.Held.{encloser_by, shown-at, encloser-few, sheet-room, none_written, sheet-on, sheet-on-length}
use Rattle.run_sheet.proofs.write_sheet.Goals as goal

pub loop-k-init : goal.loop-k-init
loop-k-init c = record { same_length = refl; so_far = λ fs h l. none_written fs c.args.sheet.now }

pub write_activation-at-requires : goal.write_activation-at-requires
write_activation-at-requires c =
    let p = c.requires.held in
    let k = c.loop-k.k in
    let l : k < length p.0 = omega (arith, p.2) in
    let w = get_elem-in p.0 k l in
    let i = c.loop-k.invariant in
    let f = p.1.bounded k w.0 w.1 in
    let r = c.encloser_of.ensures ∙ ap (encloser_by k) c.from_u16-in-loop-k-2.ensures.0 in
    (w.0.next, w.0.words, shown-at p.1 k w.0 w.1 _ _ c.from_u16.ensures.0 c.from_u16-in-loop-k.ensures.0, omega (arith, f.few, i.same_length, (i.so_far p.0 p.1 p.2).1, sheet-room p.1 k (omega arith), c.requires.live_in_bounds, p.2), encloser-few p.1 k w.0 w.1 r)

pub loop-k-preserved : goal.loop-k-preserved
loop-k-preserved c =
    let k = c.loop-k.k in
    let written-on = c.write_activation-at.ensures in
    let r = c.encloser_of.ensures ∙ ap (encloser_by k) c.from_u16-in-loop-k-2.ensures.0 in record {
      same_length = written-on.sheet_len_unchanged ∙ c.loop-k.invariant.same_length;
      so_far =
          λ fs h l.
          let b : k < length fs = omega arith in
          let w = get_elem-in fs k b in
          let f = w.0 in
          let i = c.loop-k.invariant.so_far fs h l in
          let block = c.from_u16.ensures.0 in
          let q = written-on.by_index f.next f.words (frame_sheet (take k fs)) c.args.sheet.now (shown-at h k f w.1 _ _ block c.from_u16-in-loop-k.ensures.0) i.0 (sym i.1) in
          (q.0 ∙ ap (λ (x : List ℤ). written x c.args.sheet.now) (sheet-on h k f w.1 _ _ block r), q.1 ∙ sheet-on-length h k f w.1 c.loop-k.at i.1);
    }
