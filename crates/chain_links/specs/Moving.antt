-- Of an engine that runs (`Running`): `linked`: links can be followed from its innermost activation; `resumable`: the records of its activations can
-- be read; `leaves_to`, `jumps_to`, `enters-to`: the state after a return, a jump and an entry, from what was read and written.
use Rattle.std.specs.Prelude.{ℕ, suc, pred, ◌+◌, ◌-◌, ◌*◌, ◌≤◌, ◌≡◌, refl, ℤ, get_or}
use native.Mathlib.Omega.{arith}
use mathlib.Core.List.{List}
use Rattle.std.proofs.Math.Option.{some}
use Rattle.std.proofs.Math.Path.{sym, ap, subst}
use Rattle.std.proofs.Common.{◌∙◌, length-set, set-set, get_or-set_same}
use Rattle.std.proofs.Math.ListN.{length, set, get_elem?}
use Rattle.language.specs.Text.{block_at, block_decls}
use Rattle.language.specs.Machine.{Limits}
use Rattle.laws.specs.Lists.{get_elem-in}
use Rattle.grammar.specs.Formed.{block-few}
use Rattle.frames.specs.Frame.{Frame}
use Rattle.frames.specs.Numbered.{numbered-suc, numbered-index}
use Rattle.coordinates.specs.Enclosure.{enclosed, Enclosure}
use Rattle.coordinates.specs.Chain.{enclosing, enclosure_of}
use Rattle.resolved.specs.Resolved.{place_of, end_place, level_in}
use Rattle.resolved.specs.Layout.{formals_in, names_in, end_in, first_in, cell_from}
use Rattle.resolved.proofs.Places.{block-fields, end_is, end-bound, place-bound, enclosed-formed}
use Rattle.arrays.specs.Holds.{Holds}
use Rattle.run_moves.specs.Effects.{Cleared}
use Rattle.steps.specs.Standing.{Standing}
use Rattle.steps.specs.Means.{Follows, JumpsTo, EntersAt}
use Rattle.steps.specs.Here.{many, within-activations, live-few, downward, encloses-here}
use Rattle.steps.specs.Reads as reads
use Rattle.steps.specs.Loop.{leaves, jumped}
use Rattle.steps.specs.Entered.{body-head, entered}
use Rattle.chain_records.specs.declared.Activation.{Activation}
use Rattle.chain_records.specs.Records.{at as record-at}
use Rattle.run_state.specs.declared.Registers.{Registers}
use Rattle.chain_links.specs.Records.{blocks_in, nexts_in, links_in, Room, Linked, Pushed, NextSet, column-length, column-read}
use Rattle.run_state.specs.Limits.{limits_by, goes_to}
use Rattle.chain_links.specs.Running.{level_at, end_at, now_by, now_at, Running, Succeeds}

-- the place kept for the innermost activation may be any
pub written_next : {code : List ℕ} {l : Limits} {cells : List ℤ} {blocks nexts links : List ℕ} {table : List ℤ} {pairs live at end : ℕ}
    → Standing code l cells blocks nexts links table pairs live at end → (v : ℕ) → Standing code l cells blocks (set nexts live v)
    links table pairs live at end
written_next {cells} {blocks} {nexts} {links} {live} {at} s v =
    record {
      name = s.name;
      program = s.program;
      keeps = s.keeps;
      covers = s.covers;
      stack = s.stack;
      sound = s.sound;
      below = s.below;
      frame = s.frame;
      frames-are = s.frames-are;
      depth = s.depth;
      table_is = s.table_is;
      holds = subst (λ (ns : List ℕ). Holds s.stack.frames blocks ns links cells) (sym (set-set nexts live v at)) s.holds;
      end_is = s.end_is;
      cells-long = s.cells-long;
      blocks-long = s.blocks-long;
      nexts-long = length-set nexts live v ∙ s.nexts-long;
      links-long = s.links-long;
    }

module _ {code : List ℕ} {activations limit : ℕ} {cells : List ℤ} {records : List Activation} {table : List ℤ} {here : Registers}
    (w : Running code activations limit cells records table here) where
  abbrev fs : List Frame
  fs = w.standing.stack.frames

  live-frame : (k : ℕ) → k ≤ here.live → (f : Frame) × (get_elem? fs k ≡ some f)
  live-frame k h = get_elem-in fs k (omega (arith, many w.standing))

  pub room-there : (k : ℕ) → k ≤ here.live → Room records k
  room-there k h = record { few = omega (arith, live-few w.standing); there = omega (arith, w.room, within-activations w.standing) }

  pub linked : Linked records here.live
  linked =
      record {
        room = room-there here.live (omega arith);
        down = λ k h.
            let f = live-frame k h in
            omega (arith, reads.links-there w.standing k f.0 f.1, downward w.standing (suc k) f.0 (numbered-suc fs k ∙ f.1));
      }

  pub resumable : (k : ℕ) → k ≤ here.live → Room records k × (get_or (blocks_in records) k 0 + 3 ≤ 4096)
  resumable k h = let f = live-frame k h in (room-there k h, reads.block_within w.standing k f.0 f.1)

  -- the fields of a record
  pub block_read : (k : ℕ) → k ≤ here.live → get_or (blocks_in records) k 0 ≡ (record-at records k).block
  block_read k h = column-read (λ a. a.block) records k (room-there k h).few

  next-read : (k : ℕ) → k ≤ here.live → get_or (nexts_in records) k 0 ≡ (record-at records k).next
  next-read k h = column-read (λ a. a.next) records k (room-there k h).few

  pub block-fits : (k : ℕ) → k ≤ here.live → (record-at records k).block + 3 ≤ 4096
  block-fits k h = omega (arith, (resumable k h).1, block_read k h)

  -- A return

  pub leaves_to : here.at ≡ here.end → 1 ≤ here.live → Succeeds w cells records table
      (now_at code records (here.live - 1) (get_or (nexts_in records) (here.live - 1) 0) here.pairs)
  leaves_to ended above =
      let l = leaves w.standing ended above in
      let one : pred here.live ≡ here.live - 1 = omega arith in
      let stands : get_elem? fs (here.live - 1) ≡ some l.frame = ap (get_elem? fs) (sym one) ∙ numbered-index fs here.live l.frame
      l.stands in
      let e : end_place l.frame.text ≡ end_at code records (here.live - 1) = sym (reads.end-there w.standing (here.live - 1) l.frame stands)
      in
      subst (λ (n : Registers). Succeeds w cells records table n)
      (λ i. record {
        live = here.live - 1;
        at = get_or (nexts_in records) (here.live - 1) 0;
        end = e i;
        pairs = here.pairs;
        level = level_at code records (here.live - 1);
        fresh = 0;
      })
      (record { running = record { standing = l.standing; level-is = refl; room = w.room }; follows = l.follows })

  pub leaves_by : here.at ≡ here.end → 1 ≤ here.live → Succeeds w cells records table
      (now_by code (record-at records (here.live - 1)).block (here.live - 1) (record-at records (here.live - 1)).next here.pairs)
  leaves_by ended above =
      let b = block_read (here.live - 1) (omega arith) in
      let n = next-read (here.live - 1) (omega arith) in
      subst (λ (s : Registers). Succeeds w cells records table s) (λ i. now_by code (b i) (here.live - 1) (n i) here.pairs) (leaves_to ended above)

  -- A jump

  module _ (home at' : ℕ) (j : JumpsTo w.standing home at') where
    pub home-live : home ≤ here.live
    home-live = (jumped w.standing home at' j).home-high

    abbrev landed : ℕ → ℕ → ℕ → ℕ → Registers
    landed live end level fresh = record { live = live; at = at'; end = end; pairs = here.pairs; level = level; fresh = fresh }

    jumps-with : (fresh : ℕ) → Succeeds w cells records table (landed home (end_at code records home) (level_at code records home) fresh)
    jumps-with fresh =
        let l = jumped w.standing home at' j in
        let e : end_place l.frame.text ≡ end_at code records home = sym
        (reads.end-there w.standing home l.frame (numbered-index fs (suc home) l.frame l.stands)) in
        subst (λ (n : Registers). Succeeds w cells records table n)
        (λ i. landed home (e i) (level_at code records home) fresh)
        (record { running = record { standing = l.standing; level-is = refl; room = w.room }; follows = l.follows })

    pub jumps-by : Succeeds w cells records table (now_by code (record-at records home).block home at' here.pairs)
    jumps-by = subst (λ (s : Registers). Succeeds w cells records table s) (λ i. now_by code (block_read home home-live i) home at' here.pairs) (jumps-with 0)

    -- within the innermost activation nothing has to be read
    pub jumps-here : home ≡ here.live → Succeeds w cells records table (goes_to here here.live at' here.end here.pairs)
    jumps-here e =
        let ends : end_at code records home ≡ here.end = ap (end_at code records) e ∙ reads.end-here w.standing in
        let level : level_at code records home ≡ here.level = ap (level_at code records) e ∙ sym w.level-is in
        subst (λ (n : Registers). Succeeds w cells records table n)
        (λ i. landed (e i) (ends i) (level i) here.fresh) (jumps-with here.fresh)

  -- An entry

  module _ (body link back : ℕ) (cells' : List ℤ) (j : EntersAt w.standing body link back cells') where
    abbrev around : Enclosure
    around = enclosure_of fs (suc link)

    -- what entering reads and writes is within its arrays
    pub record Fits : Type 0 where
      pub body-within : body + 3 ≤ 4096
      pub back-within : back ≤ 4096
      pub room-here : Room records here.live
      pub room_next : Room records (here.live + 1)
      pub link-high : link ≤ here.live
      pub formals-few : formals_in (get_or code body 0) ≤ 32
      pub names-few : names_in (get_or code body 0) ≤ 32

    pub entry-fits : Fits
    unfolding enclosing
    entry-fits =
        let s = w.standing in
        let h = body-head s body link back cells' j in
        let e = enclosed j.formals j.text in
        let formed = enclosed-formed s.program s.keeps e around j.encloses in
        let few = block-few (suc (length around)) j.formals (2 * place_of (block_at j.text)) j.text formed in
        record {
          body-within = omega (
            arith,
            j.body_is,
            end_is j.text (suc (length around)) j.formals (place_of (block_at j.text)) formed,
            block-fields j.text,
            end-bound s.program s.keeps e around j.encloses,
          );
          back-within = omega (
            arith,
            j.back_is,
            place-bound s.program s.keeps (enclosing s.frame) (enclosure_of fs s.frame.link)
                (encloses-here s) (suc s.frame.next) (omega arith),
          );
          room-here = room-there here.live (omega arith);
          room_next = record { few = omega (arith, j.room, s.sound.few); there = omega (arith, j.room, w.room) };
          link-high = j.link-high;
          formals-few = omega (arith, h.formals);
          names-few = omega (arith, h.names);
        }

    abbrev fresh : ℕ
    fresh = here.live + 1

    abbrev Stood : List ℤ → List ℕ → List ℕ → List ℕ → ℕ → ℕ → Type 0
    Stood cells'' blocks nexts links at end =
        (s : Standing code (limits_by activations limit) cells'' blocks nexts links table here.pairs fresh at end) × Follows w.standing s.stack
        s.program s.name

    module _ (head bounds : ℕ) (head-is : head ≡ get_or code body 0) (bounds-are : bounds ≡ get_or code (body + 1) 0)
        (records₁ records₂ : List Activation) (n : NextSet records records₁ here.live back) (p : Pushed records₁ records₂ fresh body (first_in bounds) link)
        (cells'' : List ℤ) (cleared : Cleared cells' (cell_from fresh (formals_in head)) (cell_from fresh (names_in head)) cells'') where
      stood : Stood cells'' (blocks_in records₂) (nexts_in records₂) (links_in records₂) (first_in bounds) (end_in bounds)
      unfolding written_next
      stood =
          let h = body-head w.standing body link back cells' j in
          let fe : formals_in head ≡ length j.formals = ap formals_in head-is ∙ h.formals in
          let ne : names_in head ≡ length j.formals + length (block_decls j.text) = ap names_in head-is ∙ h.names in
          let c : Cleared cells' (cell_from fresh (length j.formals)) (cell_from fresh (length j.formals + length (block_decls j.text))) cells'' =
          subst (λ m. Cleared cells' (cell_from fresh (length j.formals)) (cell_from fresh m) cells'') ne
          (subst (λ m. Cleared cells' (cell_from fresh m) (cell_from fresh (names_in head)) cells'') fe cleared) in
          let e = entered w.standing body link back cells' j cells'' c in
          let bs : set (blocks_in records) fresh body ≡ blocks_in records₂ = sym (p.blocks ∙ ap (λ (xs : List ℕ). set xs fresh body) n.blocks) in
          let ns : set (set (nexts_in records) here.live back) fresh (first_in bounds) ≡ nexts_in records₂ = sym
          (p.nexts ∙ ap (λ (xs : List ℕ). set xs fresh (first_in bounds)) n.nexts) in
          let ls : set (links_in records) fresh link ≡ links_in records₂ = sym (p.links ∙ ap (λ (xs : List ℕ). set xs fresh link) n.links) in
          let first = sym (ap first_in bounds-are ∙ h.first) in
          let ends = sym (ap end_in bounds-are ∙ h.ends) in
          subst (λ (T : Type 0). T) (λ i. Stood cells'' (bs i) (ns i) (ls i) (first i) (ends i))
          (written_next e.standing (first_in bounds), e.follows)

      block-there : get_or (blocks_in records₂) fresh 0 ≡ body
      block-there =
          ap (λ (xs : List ℕ). get_or xs fresh 0) p.blocks ∙ get_or-set_same (blocks_in records₁) fresh body 0
          (omega (arith, entry-fits.room_next.few, column-length (λ a. a.block) records₁ 0 256))

      pub enters-to : Succeeds w cells'' records₂ table
          (record { live = fresh; at = first_in bounds; end = end_in bounds; pairs = here.pairs; level = level_in head; fresh = 0 })
      enters-to =
          let s = stood in
          record {
            running = record {
              standing = s.0;
              level-is = ap level_in head-is ∙ ap (λ b. level_in (get_or code b 0)) (sym block-there);
              room = omega (arith, w.room, p.long, n.long);
            };
            follows = s.1;
          }
