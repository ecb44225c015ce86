-- The program's start. `beginnable`: what the code asks holds; `starts-there`: what it makes of the arrays is an engine that runs, at the program's first
-- statement.
use Rattle.std.specs.Prelude.{ℕ, ◌+◌, ◌*◌, ◌-◌, ◌/◌, ◌≤◌, ◌<◌, Bool, true, false, ◌≡◌, ℤ}
use Rattle.std.proofs.Common.{arith, mul-le-mul_right, zero-add, inl, inr, ◌∙◌, length-set}
use mathlib.Core.List.{List, [], ◌∷◌, ◌++◌}
use Rattle.std.proofs.Math.Option.{some}
use Rattle.std.proofs.Math.Path.{refl, sym, ap, subst}
use Rattle.std.proofs.Math.ListN.{length, get_or, get_elem?, length-map}
use Rattle.std.proofs.Math.Seq.{get_or-set_same}
use Rattle.language.specs.Basics.{up_from}
use Rattle.language.specs.Text.{Block, block_at, block_decls, decl_name, declared_names}
use Rattle.language.specs.Encoding.{block_fields, encode}
use Rattle.language.specs.Table.{Table}
use Rattle.language.specs.Machine.{Activation, start}
use Rattle.laws.specs.Fields.{field_at, FieldsStand, field_is}
use Rattle.laws.specs.Tests.{some_inj}
use Rattle.laws.specs.Distinct.{Distinct}
use Rattle.grammar.specs.Rules.{Keeps}
use Rattle.grammar.specs.Formed.{block-once, block-few}
use Rattle.grammar.specs.Words.{length-bytes}
use Rattle.grammar.proofs.Standing.{program-stands}
use Rattle.frames.specs.Frame.{Frame, Stack, new_frame, frame_start, numbered}
use Rattle.frames.specs.Related.{reads_in, reads_at, own_of, Twin, Related, twin-at}
use Rattle.frames.proofs.Runs.{start-related}
use Rattle.frames.proofs.Find.{as-many-decls}
use Rattle.coordinates.specs.Enclosure.{Enclosing, enclosed, whole, names_of, Encloses}
use Rattle.resolved.specs.Resolved.{place_of, end_place, stmt_place, level_in, position_in, direct, name_word, resolved_of, Covers}
use Rattle.resolved.proofs.Places.{block-at, block-place, end-bound, end_is}
use Rattle.resolved.proofs.Standing.{head-stands, looked-up-stands}
use Rattle.resolved.proofs.Words.{head-names}
use Rattle.resolved.proofs.NameWords.{Narrow, narrow-of-text}
use Rattle.copy_fields.specs.NameFields.{named_of}
use Rattle.copy_fields.specs.Inside.{named-inside}
use Rattle.copy_fields.specs.Standing.{declared-fields-named}
use Rattle.steps.specs.Standing.{Standing}
use Rattle.steps.specs.Begun.{AtStart}
use Rattle.steps.specs.Reads.{begin-reads}
use Rattle.steps.specs.Loop.{begins}
use Rattle.resolved.specs.Layout.{names_in, end_in, first_in}
use Rattle.copy_machine.proofs.Start.{StartsAnew, starts-anew, start-invariant}
use Rattle.copy_names.specs.Owner.{NewNames}
use Rattle.copy_names.specs.Finding.{new-names-start}
use Rattle.copy_texts.specs.Texts.{renewed, Copied, noted_from, Texts, Aims, Looks}
use Rattle.copy_texts.specs.Readings.{own-formal}
use Rattle.copy_texts.specs.Renewing.{NamesStand, Inside, Declared, Enters}
use Rattle.copy_texts.specs.Entering.{texts-start}
use Rattle.copy_texts.specs.Noting.{noted-long}
use Rattle.copy_texts.specs.Aiming.{aims-start}
use Rattle.copy_texts.specs.Looking.{looks-start}
use Rattle.run_state.specs.declared.Registers.{Registers}
use Rattle.run_state.specs.Limits.{limits_by}
use Rattle.copy_moves.specs.Running.{Running}
use Rattle.copy_entry.specs.Anew.{names_at, end_at}
use Rattle.copy_moves.specs.Begun.{Beginnable, BegunIn}
use Rattle.copy_run.specs.Beginning.{Beginning}

module _ {script code names : List ℕ} {activations limit : ℕ} {cells : List ℤ} {area blocks nexts links : List ℕ} {table : List ℤ} {pairs allowance : ℕ}
    (b : Beginning script code names cells area blocks nexts links table pairs limit activations allowance) where
  abbrev t : Block
  t = b.begun.program

  abbrev name : ℕ
  name = b.begun.name

  abbrev keeps : Keeps t
  keeps = b.begun.keeps

  abbrev covers : Covers code 0 (resolved_of name t)
  covers = b.begun.covers

  abbrev e : Enclosing
  e = enclosed [] t

  abbrev width : ℕ
  width = length script / 2

  encloses : Encloses t (e ∷ [])
  unfolding whole
  encloses = refl

  fields-many : width ≡ length (block_fields t)
  unfolding encode
  fields-many = omega (arith, ap length b.written, length-bytes (block_fields t))

  script-long : length script ≡ 2 * length (block_fields t)
  unfolding encode
  script-long = omega (arith, ap length b.written, length-bytes (block_fields t))

  program-place : place_of (block_at t) ≡ 0
  program-place = block-place t 1 [] 0 keeps.formed

  end-here : end_place t ≡ length (block_fields t)
  end-here = omega (arith, end_is t 1 [] 0 keeps.formed)

  reads : (first_in (get_or code 1 0) ≡ stmt_place t 1) × (end_in (get_or code 1 0) ≡ end_place t)
  reads = begin-reads b.begun

  text-long : end_place t ≤ 4096
  text-long = end-bound t keeps e [] encloses

  area-room : width ≤ length area
  area-room = let h = mul-le-mul_right width b.begun.some-live in omega (arith, b.room)

  names-are : names_at code 0 ≡ length (block_decls t)
  names-are =
      ap (λ i. names_in (get_or code i 0)) (sym program-place) ∙ ap (λ v. names_in v) (head-stands code name t keeps covers e [] encloses) ∙ head-names t keeps e [] encloses ∙ zero-add (length (block_decls t))

  few-names : length (block_decls t) ≤ 32
  few-names = let h = block-few 1 [] 0 t keeps.formed in omega arith

  narrow : Narrow (e ∷ [])
  narrow = narrow-of-text t keeps (e ∷ []) encloses

  inside : Inside names (block_fields t) e []
  inside = named-inside names t keeps b.names_stand e [] encloses

  -- the program has no formals
  no-formal : (v n : ℕ) → NamesStand e [] v n → level_in v ≡ 1 → direct v ≡ true
  no-formal v n (inl z) l = absurd (omega arith)
  no-formal v n (inr k) l = go (direct v) refl
    where
      go : (b : Bool) → direct v ≡ b → direct v ≡ true
      go true d = d
      go false d =
          let at_level : level_in (name_word (k.0 ++ (e ∷ [])) n) ≡ 1 = ap level_in (sym k.1) ∙ l in
          let formal : position_in (name_word (k.0 ++ (e ∷ [])) n) < 0 = (own-formal e [] k.0 k.3 n at_level).0 (ap direct (sym k.1) ∙ d) in
          absurd (omega arith)

  looked-word : get_or code 2 0 ≡ name_word (e ∷ []) name
  looked-word =
      let z : 2 ≡ place_of (block_at t) + 2 = omega (arith, program-place) in
      ap (λ i. get_or code i 0) z ∙ looked-up-stands code name t keeps covers e [] encloses

  pub beginnable : Beginnable script code names area
  beginnable =
      record {
        short = omega (arith, script-long, text-long, end-here);
        area-long = area-room;
        text-within = omega (arith, reads.1, text-long);
        text-there = omega (arith, reads.1, end-here, fields-many, area-room);
        names-few = omega (arith, names-are, few-names);
        no-formals = λ q h l. no-formal (get_or names q 0) (get_or (block_fields t) q 0) (inside q (omega (arith, program-place)) (omega (arith, reads.1))) l;
        no-formal-looked = λ l. no-formal (get_or code 2 0) name (inr ([], looked-word, b.name-small, narrow)) l;
      }

  -- What the code makes of the arrays

  abbrev tab : Table
  tab = record { words = table; used = pairs }

  abbrev f : Frame
  f = new_frame [] [] t 0

  anew : StartsAnew t tab
  anew = starts-anew t keeps tab

  abbrev new : Activation
  new = anew.new

  first_live : get_elem? (start t tab).live 0 ≡ some new
  first_live = ap (λ (l : List Activation). get_elem? l 0) anew.live-is

  twin : Twin (start t tab).live (start t tab).values 0 new f
  unfolding frame_start
  twin =
      let p = twin-at (start t tab) (frame_start t tab) (start-related t keeps tab) 0 new first_live in
      subst (Twin (start t tab).live (start t tab).values 0 new) (some_inj (sym p.1)) p.2

  declared-many : length (block_decls new.text) ≡ length (block_decls t)
  unfolding declared_names new_frame
  declared-many = sym (length-map (block_decls new.text) decl_name) ∙ sym (as-many-decls (start t tab).live (start t tab).values 0 new f twin) ∙ length-map (block_decls t) decl_name

  enters : (filled : List ℕ) → Enters filled 0 65536 e [] [] new
  unfolding new_frame own_of reads_at reads_in numbered
  enters filled =
      record {
        as_many = ap length anew.arguments-are;
        handed = λ i h. absurd (omega (arith, ap length anew.arguments-are));
        new-names = anew.names-are ∙ ap (up_from 65536) declared-many;
        above = omega arith;
        reads-are = twin.reads-are;
        around = refl;
      }

  module _ (firsts starts targets looked area' firsts' targets' looked' : List ℕ) (r : Registers) (n : BegunIn script code names area firsts targets looked pairs area' firsts' targets' looked' r)
      (firsts-long : length firsts ≡ 256) (starts-long : length starts ≡ 256) (targets-long : length targets ≡ 8224) (looked-long : length looked ≡ 256) (no_start : get_or starts 0 0 ≡ 0) where
    -- the frame machine's arrays
    stands : (w : Standing code (limits_by activations limit) cells blocks nexts links table pairs 0 (stmt_place t 1) (end_place t)) × AtStart b.begun w
    stands = begins b.begun blocks nexts links b.blocks-long b.nexts-long b.links-long b.no_block b.no-link

    copied : Copied n.filled area' names 0 0 0 1 65536 (place_of (block_at t)) (end_place t)
    copied = subst (λ (T : Type 0). T) (λ i. Copied n.filled area' names 0 0 0 1 65536 (sym program-place i) (reads.1 i)) n.copied

    first-fields : FieldsStand script 0 (block_fields t)
    first-fields = let z : block_at t ≡ 0 = block-at t 1 [] 0 keeps.formed in subst (λ k. FieldsStand script k (block_fields t)) z (program-stands script t keeps b.written).stands.fields

    filled_is : (q : ℕ) → q < length (block_fields t) → get_or n.filled q 0 ≡ get_or (block_fields t) q 0
    filled_is q h = n.fields q (omega (arith, fields-many)) ∙ ap (field_at script) (sym (zero-add (2 * q))) ∙ field_is script 0 (block_fields t) first-fields q h

    declared : Declared names e []
    declared = declared-fields-named names t keeps b.names_stand e [] encloses

    once : Distinct (names_of e)
    unfolding names_of
    once = block-once 1 [] 0 t keeps.formed

    texts : Texts area' width names (block_fields t) (new ∷ []) (f ∷ [])
    unfolding new_frame
    texts = texts-start n.filled area' names (block_fields t) width 0 new f refl (enters n.filled) inside filled_is (omega (arith, end-here)) copied

    aims : Aims targets' (f ∷ [])
    unfolding new_frame
    aims =
        subst (λ (ts : List ℕ). Aims ts (f ∷ []))
        (sym (n.targets-are ∙ (λ i. noted_from targets names 0 1 (sym program-place i) (noted-many i))))
        (aims-start targets names (block_fields t) f narrow once inside declared (omega (arith, targets-long)) (let h = few-names in omega arith))
      where
        noted-many : end_at code 0 ≡ end_place t - place_of (block_at t)
        noted-many = omega (arith, reads.1, program-place)

    looks : Looks looked' (new ∷ []) (f ∷ []) name
    unfolding new_frame
    looks =
        looks-start n.filled looked' name 0 new f refl narrow (enters n.filled)
        (ap (λ (ls : List ℕ). get_or ls 0 0) n.looked-is ∙ get_or-set_same looked 0 (renewed n.filled 0 1 65536 (get_or code 2 0) 0) 0 (omega (arith, looked-long))
        ∙ ap (λ v. renewed n.filled 0 1 65536 v 0) looked-word)

    new-names : NewNames (new ∷ []) (65536 + length (block_decls new.text)) firsts' starts
    new-names =
        subst (λ (fs : List ℕ). NewNames (new ∷ []) (65536 + length (block_decls new.text)) fs starts) (sym n.firsts-are)
        (new-names-start firsts starts new 65536 anew.names-are (no_start ∙ sym (ap length anew.arguments-are)) (omega (arith, firsts-long)))

    abbrev here : Registers
    here = record { live = 0; at = stmt_place t 1; end = end_place t; pairs = pairs; level = 0; fresh = 65536 + length (block_decls t) }

    frames-are : stands.0.stack.frames ≡ f ∷ []
    unfolding frame_start
    frames-are = ap (λ (s : Stack). s.frames) stands.1.stack_is

    pub record Starts (here : Registers) : Type 0 where
      pub running : Running code names activations limit cells area' width blocks nexts links firsts' starts targets' looked' table here
      pub at-start : AtStart b.begun running.standing

    begins-there : Starts here
    begins-there =
        let s = stands.1 in
        record {
          running = record {
            standing = stands.0;
            copies = start t tab;
            related = subst (Related (start t tab)) (sym s.stack_is) (start-related t keeps tab);
            invariant = start-invariant t keeps tab;
            names_stand = subst (λ (p : Block). Covers names 0 (named_of p)) (sym s.program-is) b.names_stand;
            texts = subst (λ (T : Type 0). T) (λ i. Texts area' width names (block_fields (sym s.program-is i)) (sym anew.live-is i) (sym frames-are i)) texts;
            new-names = subst (λ (T : Type 0). T) (λ i. NewNames (sym anew.live-is i) (sym anew.fresh-is i) firsts' starts) new-names;
            aims = subst (Aims targets') (sym frames-are) aims;
            looks = subst (λ (T : Type 0). T) (λ i. Looks looked' (sym anew.live-is i) (sym frames-are i) (sym s.name-is i)) looks;
            name-small = subst (λ k. k < 65536) (sym s.name-is) b.name-small;
            fresh-is = ap (λ k. 65536 + k) (sym declared-many) ∙ sym anew.fresh-is;
            wide = subst (λ (p : Block). length (block_fields p) ≤ width) (sym s.program-is) (omega (arith, fields-many));
            small = omega (arith, fields-many, end-here, text-long);
            room = subst (λ k. activations * width ≤ k) (sym (n.copied.as_long ∙ n.as_long)) b.room;
            firsts-long = ap length n.firsts-are ∙ length-set firsts 0 65536 ∙ firsts-long;
            starts-long = starts-long;
            targets-long = ap length n.targets-are ∙ noted-long names 0 1 targets 0 (end_at code 0) ∙ targets-long;
            looked-long = ap length n.looked-is ∙ length-set looked 0 _ ∙ looked-long;
          };
          at-start = s;
        }

    pub starts-there : Starts r
    starts-there =
        subst Starts
        ((λ i. record { live = 0; at = sym reads.0 i; end = sym reads.1 i; pairs = pairs; level = 0; fresh = 65536 + sym names-are i }) ∙ sym n.registers-are) begins-there

    pub begun-few : r.fresh ≤ 65568
    begun-few = omega (arith, ap (λ (k : Registers). k.fresh) n.registers-are, names-are, few-names)
