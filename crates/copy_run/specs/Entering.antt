-- Entering a block. `enterable`: what the code asks holds; `enters_on`: what it makes of the arrays is the state one step later.
use Rattle.std.specs.Prelude.{ℕ, suc, ◌+◌, ◌*◌, ◌-◌, ◌≤◌, ◌<◌, false, List, [], ◌∷◌, ◌++◌, ◌≡◌, refl, ℤ, length, get_or}
use native.Mathlib.Omega.{arith}
use Rattle.std.proofs.Math.Nat.{mul-le-mul_right}
use Rattle.std.proofs.Common.{inl, inr, sym, ap, ◌∙◌, subst, length-set, get_or-set_other}
use Rattle.std.proofs.Math.Option.{some}
use Rattle.std.proofs.Math.ListN.{set, get_elem?}
use Rattle.language.specs.Text.{Block, block_at, block_decls}
use Rattle.language.specs.Encoding.{block_fields}
use Rattle.language.specs.Machine.{Activation, State}
use Rattle.laws.specs.Tests.{some_inj}
use Rattle.laws.specs.Lists.{get_elem-in}
use Rattle.grammar.specs.Formed.{block-few}
use Rattle.frames.specs.Frame.{Frame, Stack, new_frame, stepped}
use Rattle.frames.specs.Related.{Related, as-deep}
use Rattle.coordinates.specs.Enclosure.{Enclosing, enclosed, Enclosure, Encloses}
use Rattle.coordinates.specs.Chain.{enclosing, enclosure_of}
use Rattle.coordinates.proofs.Coordinates.{level-of-text}
use Rattle.resolved.specs.Resolved.{place_of, end_place, stmt_place, level_in, position_in, direct, name_word, Covers}
use Rattle.resolved.proofs.Places.{block-fields, end_is, end-bound, place-bound, enclosed-formed}
use Rattle.resolved.proofs.Standing.{looked-up-stands}
use Rattle.copy_fields.specs.NameFields.{named_of}
use Rattle.run_moves.specs.Effects.{Cleared}
use Rattle.steps.specs.Standing.{Standing}
use Rattle.steps.specs.Means.{Follows, EntersAt}
use Rattle.steps.specs.Here.{many, downward, encloses-here}
use Rattle.steps.specs.Reads.{at-within}
use Rattle.steps.specs.Entered.{BodyHead, body-head, entered}
use Rattle.resolved.specs.Layout.{cell_from}
use Rattle.copy_names.specs.Owner.{NewNames}
use Rattle.copy_names.specs.Finding.{new-names-more}
use Rattle.copy_texts.specs.Texts.{renewed, Copied, noted_from, Texts, Aims, Looks}
use Rattle.copy_texts.specs.Readings.{own-formal}
use Rattle.copy_texts.specs.Renewing.{NamesStand}
use Rattle.copy_texts.specs.Stacks.{OneMore}
use Rattle.copy_texts.specs.Entering.{texts-entered}
use Rattle.copy_texts.specs.Noting.{noted-long}
use Rattle.copy_texts.specs.Aiming.{aims-entered}
use Rattle.copy_texts.specs.Looking.{looks-entered}
use Rattle.run_state.specs.declared.Registers.{Registers}
use Rattle.run_state.specs.Limits.{limits_by}
use Rattle.copy_moves.specs.Running.{Running, Succeeds}
use Rattle.copy_moves.specs.Settled.{own-enclosure, encloses-at}
use Rattle.copy_entry.specs.Anew.{formals_at, names_at, level_at, end_at, given_at, Enterable, AnewIn}
use Rattle.copy_moves.specs.Going.{same-outlines, chained}
use Rattle.copy_run.specs.Within.{text-within, within-outer}
use Rattle.copy_run.specs.Entries as entry

module _ {code names : List ℕ} {activations limit : ℕ} {cells : List ℤ} {area : List ℕ} {width : ℕ} {blocks nexts links firsts starts targets looked : List ℕ} {table : List ℤ} {here : Registers}
    (w : Running code names activations limit cells area width blocks nexts links firsts starts targets looked table here)
    (body link back : ℕ) (cells₁ : List ℤ) (j : EntersAt w.standing body link back cells₁) where
  abbrev fs : List Frame
  fs = w.standing.stack.frames

  abbrev t : Block
  t = w.standing.program

  abbrev es : Enclosure
  es = enclosure_of fs (suc link)

  abbrev e : Enclosing
  e = enclosed j.formals j.text

  head : BodyHead w.standing body link back cells₁ j
  head = body-head w.standing body link back cells₁ j

  level-is : level_at code body ≡ suc (length es)
  level-is = head.level ∙ ap suc (level-of-text fs (suc link))

  placed : end_place j.text ≡ place_of (block_at j.text) + length (block_fields j.text)
  placed = end_is j.text (suc (length es)) j.formals (place_of (block_at j.text)) (enclosed-formed t w.standing.keeps e es j.encloses)

  text-low : body + 3 ≤ end_place j.text
  text-low = omega (arith, placed, block-fields j.text, j.body_is)

  text-high : end_place j.text ≤ width
  text-high = omega (arith, text-within t w.standing.keeps e es j.encloses, w.wide)

  -- a formal of the block stands for an argument, whose name stands after the CL
  formal-within : (v n : ℕ) → NamesStand e es v n → level_in v ≡ level_at code body → direct v ≡ false → here.at + 3 + position_in v < width
  formal-within v n (inl z) l d = absurd (omega (arith, level-is))
  formal-within v n (inr k) l d =
      let at_level : level_in (name_word (k.0 ++ (e ∷ es)) n) ≡ suc (length es) = ap level_in (sym k.1) ∙ l ∙ level-is in
      let formal = (own-formal e es k.0 k.3 n at_level).0 (ap direct (sym k.1) ∙ d) in
      let p : position_in v < length j.formals = subst (λ u. position_in u < length j.formals) (sym k.1) formal in
      omega (arith, entry.arguments-within w body link back cells₁ j (position_in v) (omega (arith, entry.as_many w body link back cells₁ j)), w.wide)

  looked-word : get_or code (body + 2) 0 ≡ name_word (e ∷ es) w.standing.name
  looked-word = ap (λ i. get_or code (i + 2) 0) j.body_is ∙ looked-up-stands code w.standing.name t w.standing.keeps w.standing.covers e es j.encloses

  looked-names-stand : NamesStand e es (get_or code (body + 2) 0) w.standing.name
  looked-names-stand = inr ([], looked-word, w.name-small, entry.narrow-here w body link back cells₁ j)

  pub enterable : here.fresh + 64 ≤ 4294967296 → Enterable code names area width here body link back
  unfolding enclosing
  enterable few =
      let s = w.standing in
      let h = head in
      let rooms = mul-le-mul_right width j.room in
      record {
        body-within = omega (arith, text-low, end-bound t s.keeps e es j.encloses);
        back-within = omega (
          arith,
          j.back_is,
          place-bound t s.keeps (enclosing s.frame) (enclosure_of fs s.frame.link) (encloses-here s) (suc s.frame.next) (omega arith),
        );
        room = omega (arith, j.room, s.sound.few);
        link-high = j.link-high;
        formals-few = omega (arith, h.formals, h.names);
        names-few = omega (arith, h.names, entry.few-names w body link back cells₁ j);
        new = entry.fresh-high w body link back cells₁ j;
        few-names = few;
        text = omega (arith, text-low, h.ends);
        text-within = omega (arith, h.ends, end-bound t s.keeps e es j.encloses);
        fits = omega (arith, h.ends, text-high);
        small = w.small;
        here-within = omega (arith, at-within s);
        area-long = omega (arith, w.room, rooms);
        given = λ q low high l d.
            formal-within (get_or names q 0) (get_or (block_fields t) q 0) (entry.inside-here w body link back cells₁ j q (omega (arith, j.body_is)) (omega (arith, h.ends))) l d;
        given-looked = λ l d. formal-within (get_or code (body + 2) 0) w.standing.name looked-names-stand l d;
      }

  -- What the code makes of the arrays

  module _ (cells' : List ℤ) (area' blocks' nexts' links' firsts' starts' targets' looked' : List ℕ) (r : Registers)
      (n : AnewIn code names width here body link back cells₁ area blocks nexts links firsts starts targets looked cells' area' blocks' nexts' links' firsts' starts' targets' looked' r) where
    abbrev live : ℕ
    live = here.live

    abbrev f : Frame
    f = new_frame j.formals j.arguments j.text (suc link)

    abbrev new : Activation
    new = entry.new w body link back cells₁ j

    abbrev later : State
    later = entry.later w body link back cells₁ j

    cleared : Cleared cells₁ (cell_from (live + 1) (length j.formals)) (cell_from (live + 1) (length j.formals + length (block_decls j.text))) cells'
    cleared = subst (λ (T : Type 0). T) (λ i. Cleared cells₁ (cell_from (live + 1) (head.formals i)) (cell_from (live + 1) (head.names i)) cells') n.cleared

    copied : Copied area area' names (link * width) ((live + 1) * width) (given_at width here) (suc (length es)) (here.fresh - length j.formals) (place_of (block_at j.text)) (end_place j.text)
    copied =
        subst (λ (T : Type 0). T)
        (λ i. Copied area area' names (link * width) ((live + 1) * width) (given_at width here) (level-is i) (here.fresh - head.formals i) (j.body_is i) (head.ends i)) n.copied

    -- the frame machine's arrays after the step
    abbrev st : Standing code (limits_by activations limit) cells' (set blocks (live + 1) body) (set nexts live back) (set links (live + 1) link) table here.pairs (live + 1) (stmt_place j.text 1) (end_place j.text)
    st = (entered w.standing body link back cells₁ j cells' cleared).standing

    abbrev follows : Follows w.standing st.stack st.program st.name
    follows = (entered w.standing body link back cells₁ j cells' cleared).follows

    abbrev gs : List Frame
    gs = st.stack.frames

    stack_is : st.stack ≡ stepped w.standing.stack (entry.v w body link back cells₁ j)
    stack_is = let p = sym follows.steps ∙ j.steps in let q : follows.moved ≡ entry.v w body link back cells₁ j = cc in follows.is-stepped ∙ ap (stepped w.standing.stack) q

    related : Related later st.stack
    related = subst (Related later) (sym stack_is) (entry.made w body link back cells₁ j).2

    one : suc live ≡ live + 1
    one = omega arith

    many-before : length w.copies.live ≡ live + 1
    many-before = as-deep w.copies w.standing.stack w.related ∙ many w.standing ∙ one

    blocks-same : (k : ℕ) → k < live + 1 → (get_or (set blocks (live + 1) body) k 0 ≡ get_or blocks k 0) × (get_or (set links (live + 1) link) k 0 ≡ get_or links k 0)
    blocks-same k h = (get_or-set_other blocks (live + 1) k body 0 (λ z. omega arith), get_or-set_other links (live + 1) k link 0 (λ z. omega arith))

    more : OneMore live w.copies.live later.live fs gs new f
    more =
        record {
          deep = many-before;
          deeper = omega (arith, (entry.anew w body link back cells₁ j).deep, many-before);
          frames-deeper = omega (arith, many st);
          same-activations = λ k b c h p q.
              let o = (entry.anew w body link back cells₁ j).kept k c (omega (arith, many-before)) q in
              let z : o.0 ≡ b = some_inj (sym o.1 ∙ p) in
              (sym (ap (λ (x : Activation). x.text) z) ∙ o.2.0, sym (ap (λ (x : Activation). x.arguments) z) ∙ o.2.1, sym (ap (λ (x : Activation). x.reads) z) ∙ o.2.2);
          same-frames = same-outlines w st follows (live + 1) (omega arith) (omega arith) blocks-same;
          top = ap (get_elem? later.live) (sym one) ∙ entry.there w body link back cells₁ j;
          top_frame = ap (get_elem? gs) (sym one) ∙ ap (λ (u : Stack). get_elem? u.frames (suc live)) stack_is ∙ entry.top_frame w body link back cells₁ j;
        }

    -- the frames' texts

    encloses-frame : (k : ℕ) (x : Frame) → get_elem? gs k ≡ some x → Encloses t (enclosing x ∷ enclosure_of gs x.link)
    encloses-frame k x q = encloses-at t gs (chained w st follows) k x q

    wide-frame : (k : ℕ) (x : Frame) → get_elem? gs k ≡ some x → end_place x.text ≤ width
    unfolding enclosing
    wide-frame k x q = omega (arith, text-within t w.standing.keeps (enclosing x) (enclosure_of gs x.link) (encloses-frame k x q), w.wide)

    few-frame : (k : ℕ) (x : Frame) → get_elem? gs k ≡ some x → length x.formals + length (block_decls x.text) ≤ 32
    unfolding enclosing
    few-frame k x q =
        block-few (suc (length (enclosure_of gs x.link))) x.formals (2 * place_of (block_at x.text)) x.text
        (enclosed-formed t w.standing.keeps (enclosing x) (enclosure_of gs x.link) (encloses-frame k x q))

    -- the frame of the copy from which the text is taken
    abbrev g : Frame
    g = (get_elem-in fs link (omega (arith, j.link-high, many w.standing))).0

    abbrev g-is : get_elem? fs link ≡ some g
    g-is = (get_elem-in fs link (omega (arith, j.link-high, many w.standing))).1

    inside-source : (place_of (block_at g.text) ≤ place_of (block_at j.text)) × (end_place j.text ≤ end_place g.text)
    unfolding enclosing
    inside-source =
        within-outer t w.standing.keeps e (enclosing g) (enclosure_of fs g.link)
        (subst (λ (os : Enclosure). Encloses t (e ∷ os)) (own-enclosure t fs w.standing.sound.chained link g g-is) j.encloses)

    -- the parts of the invariant

    texts-after : Texts area' width names (block_fields t) later.live gs
    unfolding new_frame
    texts-after =
        texts-entered
        (record {
          texts = w.texts;
          more = more;
          source_is = entry.source_is w body link back cells₁ j;
          source-frame = g-is;
          begins-within = inside-source.0;
          ends-within = inside-source.1;
          wide = wide-frame;
          enters = entry.enters w body link back cells₁ j;
          inside = entry.inside-here w body link back cells₁ j;
          copied = copied;
        })

    aims_after : Aims targets' gs
    unfolding new_frame
    aims_after =
        aims-entered {fields = block_fields t}
        (record {
          aims = w.aims;
          more = more;
          long = w.targets-long;
          room = omega (arith, j.room, w.standing.sound.few);
          few = few-frame;
          narrow = entry.narrow-here w body link back cells₁ j;
          once = entry.once-here w body link back cells₁ j;
          inside = entry.inside-here w body link back cells₁ j;
          declared = entry.declared-here w body link back cells₁ j;
          targets-are = n.targets-are ∙ (λ i. noted_from targets names (32 * (live + 1)) (level-is i) (j.body_is i) (head.ends i - j.body_is i));
        })

    looks-after : Looks looked' later.live gs w.standing.name
    unfolding new_frame
    looks-after =
        looks-entered
        (record {
          looks = w.looks;
          more = more;
          down = downward w.standing;
          down-after = downward st;
          source_is = entry.source_is w body link back cells₁ j;
          link-is = refl;
          around = refl;
          narrow = entry.narrow-here w body link back cells₁ j;
          enters = entry.enters w body link back cells₁ j;
          room = omega (arith, j.room, w.standing.sound.few, w.looked-long);
          looked-is = n.looked-is ∙ (λ i. set looked (live + 1) (renewed area (given_at width here) (level-is i) (here.fresh - head.formals i) (looked-word i) (get_or looked link 0)));
        })

    abbrev names-many : ℕ
    names-many = length (block_decls j.text)

    fresh-after : here.fresh + names-many ≡ later.fresh
    fresh-after = omega (arith, (entry.anew w body link back cells₁ j).fresh-is, entry.declared-many w body link back cells₁ j, w.fresh-is)

    new-names-after : NewNames later.live later.fresh (set firsts (live + 1) here.fresh) (set starts (live + 1) (cell_from (live + 1) (formals_at code body)))
    new-names-after =
        let a = entry.anew w body link back cells₁ j in
        subst (λ (T : Type 0). T)
        (λ i. NewNames later.live (sym a.fresh-is i) (set firsts (many-before i) (sym w.fresh-is i)) (set starts (many-before i) (cell_from (many-before i) ((entry.as_many w body link back cells₁ j ∙ sym head.formals) i))))
        (new-names-more firsts starts w.copies.live later.live w.copies.fresh new a.deep (λ k c h q. let o = a.kept k c h q in (o.0, o.1, o.2.0, o.2.1, o.2.2)) a.there a.names-are
        w.firsts-long w.starts-long (omega (arith, many-before, j.room, w.standing.sound.few)) w.new-names)

    abbrev after : Registers
    after = record { live = live + 1; at = stmt_place j.text 1; end = end_place j.text; pairs = here.pairs; level = here.level; fresh = here.fresh + names-many }

    entered-there : Succeeds w cells' area' (set blocks (live + 1) body) (set nexts live back) (set links (live + 1) link) (set firsts (live + 1) here.fresh) (set starts (live + 1) (cell_from (live + 1) (formals_at code body))) targets' looked' table after
    entered-there =
        record {
          running = record {
            standing = st;
            copies = later;
            related = related;
            invariant = (entry.made w body link back cells₁ j).3;
            names_stand = subst (λ (p : Block). Covers names 0 (named_of p)) (sym follows.same-program) w.names_stand;
            texts = subst (λ (p : Block). Texts area' width names (block_fields p) later.live gs) (sym follows.same-program) texts-after;
            new-names = new-names-after;
            aims = aims_after;
            looks = subst (Looks looked' later.live gs) (sym follows.same_name) looks-after;
            name-small = subst (λ k. k < 65536) (sym follows.same_name) w.name-small;
            fresh-is = fresh-after;
            wide = subst (λ (p : Block). length (block_fields p) ≤ width) (sym follows.same-program) w.wide;
            small = w.small;
            room = subst (λ k. activations * width ≤ k) (sym n.copied.as_long) w.room;
            firsts-long = length-set firsts (live + 1) here.fresh ∙ w.firsts-long;
            starts-long = length-set starts (live + 1) (cell_from (live + 1) (formals_at code body)) ∙ w.starts-long;
            targets-long = ap length n.targets-are ∙ noted-long names (32 * (live + 1)) (level_at code body) targets body (end_at code body - body) ∙ w.targets-long;
            looked-long = ap length n.looked-is ∙ length-set looked (live + 1) _ ∙ w.looked-long;
          };
          follows = follows;
          few-more = omega (arith, entry.few-names w body link back cells₁ j);
        }

    registers-are : after ≡ r
    registers-are =
        let h : here.fresh + names-many ≡ here.fresh - formals_at code body + names_at code body = omega (arith, head.formals, head.names, entry.fresh-high w body link back cells₁ j, entry.few-names w body link back cells₁ j) in
        (λ i. record { live = live + 1; at = sym head.first i; end = sym head.ends i; pairs = here.pairs; level = here.level; fresh = h i }) ∙ sym n.registers-are

    pub enters_on : Succeeds w cells' area' blocks' nexts' links' firsts' starts' targets' looked' table r
    enters_on =
        subst (λ (T : Type 0). T)
        (λ i. Succeeds w cells' area' (sym n.noted.blocks-are i) (sym n.noted.nexts-are i) (sym n.noted.links-are i) (sym n.named.firsts-are i) (sym n.named.starts-are i) targets' looked' table (registers-are i)) entered-there
