-- One activation more is written, by its record.
use Rattle.std.proofs.Common.{◌≡◌, ℕ, ◌<◌, List, ℤ, get_or, take, refl, sym, ap, ◌∙◌, arith}
use Rattle.language.specs.Call.{written}
use Rattle.laws.specs.Lists.{get_elem-in}
use Rattle.frames.specs.Frame.{frame_sheet}
use Rattle.run_sheet.specs.Held.{encloser_by, shown-at, encloser-few, sheet-room, none_written, sheet-on, sheet-on-length}
use Rattle.chain_records.specs.declared.Activation.{Activation}
use Rattle.chain_records.specs.Records.{at}
use Rattle.chain_links.specs.Records.{blocks_in, nexts_in, links_in, column-read}
use Rattle.chain_run.proofs.sheet.write_sheet.Goals as goal

module _ (records : List Activation) (k : ℕ) (few : k < 256) (own : Activation) (is : own ≡ at records k) where
  block-is : own.block ≡ get_or (blocks_in records) k 0
  block-is = ap (λ (a : Activation). a.block) is ∙ sym (column-read (λ a. a.block) records k few)

  next-is : own.next ≡ get_or (nexts_in records) k 0
  next-is = ap (λ (a : Activation). a.next) is ∙ sym (column-read (λ a. a.next) records k few)

  encloser-is : encloser_by k own.link ≡ encloser_by k (get_or (links_in records) k 0)
  encloser-is = ap (λ (a : Activation). encloser_by k a.link) is ∙ sym (ap (encloser_by k) (column-read (λ a. a.link) records k few))

pub loop-k-init : goal.loop-k-init
loop-k-init c = record { low = omega arith; as_long = refl; shows = λ fs h l. none_written fs c.args.sheet.now }

pub write_record-at-requires : goal.write_record-at-requires
write_record-at-requires c =
    let k = c.loop-k.k in
    let (frames, held, as_many) = c.requires.held in
    let few : k < 256 = omega (arith, held.most, as_many) in
    let own = c.read-activation.result in
    let is = c.read-activation.ensures in
    let records = c.args.records.now in
    let i = c.loop-k.invariant in
    let w = get_elem-in frames k (omega (arith, as_many)) in
    let f = held.bounded k w.0 w.1 in (
      few,
      (
        w.0.next,
        w.0.words,
        shown-at held k w.0 w.1 own.block own.next (block-is records k few own is) (next-is records k few own is),
        omega (arith, f.few, i.as_long, (i.shows frames held as_many).1, sheet-room held k (omega arith), c.requires.live_in_bounds_2, as_many),
        encloser-few held k w.0 w.1 (encloser-is records k few own is),
      ),
    )

pub loop-k-preserved : goal.loop-k-preserved
loop-k-preserved c =
    let k = c.loop-k.k in
    let (frames, held, as_many) = c.requires.held in
    let few : k < 256 = omega (arith, held.most, as_many) in
    let own = c.read-activation.result in
    let is = c.read-activation.ensures in
    let records = c.args.records.now in
    let sheet₀ = c.args.sheet.now in
    record {
      low = omega arith;
      as_long = c.write_record-at.ensures.sheet_len_unchanged ∙ c.loop-k.invariant.as_long;
      shows = λ fs h l.
          let w = get_elem-in fs k (omega (arith, l)) in
          let f = w.0 in
          let i = c.loop-k.invariant.shows fs h l in
          let q = c.write_record-at.ensures.by_index f.next f.words (frame_sheet (take k fs)) sheet₀
          (shown-at h k f w.1 own.block own.next (block-is records k few own is) (next-is records k few own is)) i.0 (sym i.1) in (
            q.0 ∙ ap (λ (x : List ℤ). written x sheet₀) (sheet-on h k f w.1 own.block (encloser_by k own.link) (block-is records k few own is)
                (encloser-is records k few own is)),
            q.1 ∙ sheet-on-length h k f w.1 c.loop-k.at i.1,
          );
    }
