-- Where the search goes on from an activation that is entered, and the passers of its formals. From a block's, and from that of a procedure called under its
-- declared name, it goes on at the innermost activation (`steer-block`, `steer-call`); through a formal at that formal's passer (`steer-formal`). A block
-- has no formals (`passed-block`); an argument's passer is the activation that does the call where its name is a declared one, and the formal's own where it is a formal
-- (`passed-call`).
use Prim.Native.Nat.{ℕ, suc, pred, ◌+◌, ◌*◌, ◌-◌, ◌<◌}
use native.Mathlib.Omega.{arith}
use Rattle.std.specs.Prelude.{true, false, ◌≡◌, refl, ltb, ℤ, length}
use mathlib.Core.List.{List, [], ◌∷◌, ◌++◌}
use Rattle.std.proofs.Math.Option.{some}
use Rattle.std.proofs.Math.Path.{sym, ap}
use Rattle.std.proofs.Common.{◌∙◌, subst}
use borrow.Author.Tests.{le-leb, ltb-true, ltb-false}
use Rattle.std.proofs.Math.ListN.{take, get_or, get_elem?}
use Rattle.std.proofs.Math.Seq.{take-append_seam}
use Rattle.language.specs.Basics.{last?}
use Rattle.language.specs.Text.{procedure, Formal, CL, Block, Stmt, BK, DO}
use Rattle.laws.specs.Tests.{split, none≢some, some_inj}
use Rattle.laws.specs.Lists.{last_snoc, snoc-length, get_elem-bound, get_elem-seam}
use Rattle.laws.specs.Each.{Each, each_at}
use Rattle.frames.specs.Frame.{Frame, numbered, designates, decl_of, continue, new_frame, with_frames, stepped, frame_stmt}
use Rattle.frames.specs.Numbered.{numbered-suc, numbered-append, last-numbered}
use Rattle.frame_laws.specs.Innermost.{but_last-innermost}
use Rattle.frame_laws.specs.Likeness.{designates-like}
use Rattle.coordinates.specs.Chain.{enclosure_of, Downward}
use Rattle.coordinates.proofs.Kept.{chained-downward}
use Rattle.coordinates.proofs.Statements.{declared-alike}
use Rattle.coordinates.proofs.Designated.{Designated, Wire, formal-designates, declared-kind}
use Rattle.coordinates.specs.Made.{passed}
use Rattle.coordinates.proofs.Making.{passed-next}
use Rattle.coordinates.proofs.Sound.{Sound}
use Rattle.coordinates.proofs.Visible.{action_names}
use Rattle.coordinates.proofs.Next.{Resolved, NextAction, next-action}
use Rattle.f_search.specs.Passers.{call_in, call_of, FormalAt, formal_of, passer}
use Rattle.f_search.specs.Search.{onward}
use Rattle.f_search.proofs.Kept.{SameCalls, call_at, argument-none, argument-of, formal-frame, formal-alike, passer-alike, calls-append, calls-advanced, calls-both, calls-downward, entered-block, entered-declared, entered-by-formal, handed-declared, handed-formal}
use Rattle.f_search.proofs.Entered.{Stood, argument}
use Rattle.resolved.specs.Resolved.{position_in, kind_in, direct, name_word, resolved_action, resolved_stmt}
use Rattle.steps.specs.Means.{EntersAt}
use Rattle.steps.specs.Here.{many, last-is, downward, covered, here-bounded}
use Rattle.steps.specs.Going.{ahead, ahead-like, ahead-many}
use Rattle.steps.specs.Loop.{sound-after}
use Rattle.steps.specs.Calls.{count-is, argument_is}
use Rattle.steps.specs.Finding.{first_by_links}
use Rattle.run_state.specs.declared.Registers.{Registers}
use Rattle.run_state.specs.Limits.{limits_by}
use Rattle.search_moves.specs.Running.{formal_in, Passers, Running}
use Rattle.search_moves.specs.Keeping.{passers-at}
use Rattle.search_moves.specs.Formals.{no-formal, as-procedure, holder_by, a-formal, passer-there}

module _ {code numbers : List ℕ} {activations limit : ℕ} {cells : List ℤ} {passers blocks nexts froms : List ℕ} {table : List ℤ} {here : Registers}
    (w : Running code numbers activations limit cells passers blocks nexts froms table here) where
  -- what a call hands on beside its arguments' words, to the formals of kind procedure
  pub record HandedOn (passers' : List ℕ) : Type 0 where
    pub kept : (c : ℕ) → c < 32 * (here.live + 1) → get_or passers' c 0 ≡ get_or passers c 0
    pub declared : (i : ℕ) → i < get_or code (here.at + 2) 0 → kind_in (get_or code (here.at + 3 + i) 0) ≡ 2 → direct (get_or code (here.at + 3 + i) 0) ≡ true
        → get_or passers' (32 * (here.live + 1) + i) 0 ≡ here.live
    pub formal : (i : ℕ) → i < get_or code (here.at + 2) 0 → kind_in (get_or code (here.at + 3 + i) 0) ≡ 2 → direct (get_or code (here.at + 3 + i) 0) ≡ false
        → get_or passers' (32 * (here.live + 1) + i) 0 ≡ get_or passers (first_by_links w.standing (get_or code (here.at + 3 + i) 0) + position_in (get_or code (here.at + 3 + i) 0)) 0

module _ {code numbers : List ℕ} {activations limit : ℕ} {cells : List ℤ} {passers blocks nexts froms : List ℕ} {table : List ℤ} {here : Registers}
    (w : Running code numbers activations limit cells passers blocks nexts froms table here)
    {body link back : ℕ} {cells' : List ℤ} (j : EntersAt w.standing body link back cells') where
  abbrev live : ℕ
  live = here.live

  abbrev fs : List Frame
  fs = w.standing.stack.frames

  abbrev top : Frame
  top = continue w.standing.frame (suc w.standing.frame.next)

  -- the frames with the statement passed, and with the one that is entered
  abbrev on : List Frame
  on = ahead w.standing

  abbrev new : Frame
  new = new_frame j.formals j.arguments j.text (suc link)

  abbrev pub frames_after : List Frame
  frames_after = on ++ (new ∷ [])

  on-calls : SameCalls (suc live) fs on
  on-calls =
      let s = w.standing in
      subst (λ (T : Type 0). T) (λ i. SameCalls (many s i) fs (but_last-innermost s.stack s.below s.frame s.frames-are i ++ (top ∷ [])))
      (calls-advanced fs s.frame (suc s.frame.next) (last-is s))

  pub same-calls : SameCalls (suc live) fs frames_after
  same-calls = calls-both (suc live) fs on frames_after on-calls (subst (λ n. SameCalls n on frames_after) (ahead-many w.standing) (calls-append on (new ∷ [])))

  down : Downward fs
  down = downward w.standing

  down-on : Downward on
  down-on = calls-downward (suc live) fs on on-calls (omega (arith, ahead-many w.standing)) down

  last_on : last? on ≡ some top
  last_on = last_snoc w.standing.below top

  sound : Sound (limits_by activations limit) w.standing.program (stepped w.standing.stack (with_frames w.standing.stack frames_after))
  sound = sound-after w.standing (with_frames w.standing.stack frames_after) j.steps

  pub down-after : Downward frames_after
  unfolding stepped with_frames
  down-after = chained-downward w.standing.program frames_after sound.chained

  pub deep-after : length frames_after ≡ suc (suc live)
  deep-after = snoc-length on new ∙ ap suc (ahead-many w.standing)

  new-there : get_elem? frames_after (suc live) ≡ some new
  new-there = ap (get_elem? frames_after) (sym (ahead-many w.standing)) ∙ get_elem-seam on new []

  new-numbered : numbered frames_after (suc (suc live)) ≡ some new
  new-numbered = numbered-suc frames_after (suc live) ∙ new-there

  top-numbered : numbered frames_after (suc live) ≡ some top
  top-numbered =
      numbered-append on (new ∷ []) (suc live) (omega (arith, ahead-many w.standing)) ∙ ap (numbered on) (sym (ahead-many w.standing)) ∙ sym (last-numbered on) ∙ last_on

  -- the statement done is the one passed last
  now-passed : (x : Stmt) → frame_stmt w.standing.frame ≡ some x → passed top ≡ some x
  now-passed x q = passed-next w.standing.frame (here-bounded w.standing).next-first ∙ q

  -- Where the search goes on

  at-depth : (m : ℕ) → onward frames_after (suc (length on)) ≡ m → pred (onward frames_after (suc (suc live))) ≡ pred m
  at-depth m e = ap (λ k. pred (onward frames_after (suc k))) (sym (ahead-many w.standing)) ∙ ap pred e

  innermost : pred (length on) ≡ live
  innermost = ap pred (ahead-many w.standing)

  pub steer-block : (b : Block) → frame_stmt w.standing.frame ≡ some (BK b) → pred (onward frames_after (suc (suc live))) ≡ live
  steer-block b q = at-depth (length on) (entered-block on top new last_on down-on b (now-passed (BK b) q)) ∙ innermost

  formal-on : (n : ℕ) → formal_of on (length on) n ≡ formal_of fs (length fs) n
  formal-on n =
      ap (λ k. formal_of on k n) (ahead-many w.standing) ∙ formal-alike (suc live) fs on on-calls down (suc live) n (omega arith) ∙ ap (λ k. formal_of fs k n) (sym (many w.standing))

  passer-on : (n : ℕ) (y : FormalAt) → formal_of fs (length fs) n ≡ some y → passer on y ≡ passer fs y
  passer-on n y e = passer-alike (suc live) fs on on-calls down y (omega (arith, formal-frame fs down (length fs) n y e, many w.standing))

  -- the frames' passers, from those of the frames before and the new one's
  passers-more : (passers' : List ℕ) → ((c : ℕ) → c < 32 * (live + 1) → get_or passers' c 0 ≡ get_or passers c 0)
      → ((i : ℕ) (m : Formal) → get_elem? j.formals i ≡ some m → m.kind ≡ procedure → get_or passers' (32 * suc live + i) 0 ≡ pred (passer frames_after (formal_in (suc live) i))) → Passers frames_after passers'
  unfolding stepped with_frames new_frame
  passers-more passers' kept own k i g m e q p =
      split (ltb k (suc live))
      (λ t. let h = ltb-true k (suc live) t in
      let few : i < 32 = omega (arith, get_elem-bound g.formals i m q, (sound.bounded.each k g e).few, (sound.bounded.each k g e).count) in
      kept (32 * k + i) (omega arith) ∙ passers-at (suc live) fs frames_after same-calls down passers w.passers-are k i g m h e q p)
      (λ t. let one : k ≡ suc live = omega (arith, ltb-false k (suc live) t, get_elem-bound frames_after k g e, deep-after) in
      let same : new ≡ g = some_inj (sym new-there ∙ ap (get_elem? frames_after) (sym one) ∙ e) in
      ap (λ a. get_or passers' (32 * a + i) 0) one ∙ own i m (ap (λ (x : Frame). get_elem? x.formals i) same ∙ q) p ∙ ap (λ a. pred (passer frames_after (formal_in a i))) (sym one))

  -- what the argument for one of its formals was
  module _ (i : ℕ) (m : Formal) (q : get_elem? j.formals i ≡ some m) where
    stood : Stood frames_after (formal_in (suc live) i)
    unfolding stepped with_frames new_frame
    stood =
        argument w.standing.program w.standing.keeps frames_after sound.chained sound.wired sound.made (formal_in (suc live) i)
        (record { holder = new; stands = new-numbered; low = omega arith; high = get_elem-bound j.formals i m q })

    wire : Wire frames_after (suc (suc live)) new i m
    unfolding stepped with_frames new_frame
    wire = sound.wired (suc (suc live)) new new-numbered i m q

    designator-is : wire.designator ≡ designates fs stood.name
    unfolding new_frame
    designator-is =
        let back : take (suc live) frames_after ≡ on = ap (λ k. take k frames_after) (sym (ahead-many w.standing)) ∙ take-append_seam on (new ∷ []) in
        let one : i ≡ suc i - 1 = omega arith in
        sym (formal-designates frames_after (suc (suc live)) (suc i) 0 new wire.designator new-numbered (le-leb (suc i) (length j.formals) (get_elem-bound j.formals i m q)) (ap (get_elem? new.words) (sym one) ∙ wire.word))
        ∙ stood.same ∙ ap (λ (hs : List Frame). designates hs stood.name) back ∙ designates-like fs on (ahead-like w.standing) stood.name

    argument-kind : m.kind ≡ procedure → Resolved fs stood.name → Designated fs (designates fs stood.name) procedure
    argument-kind p r =
        let d = r.instance in
        let x = wire.designator in
        let there : decl_of frames_after x ≡ some d.decl = declared-alike fs frames_after (suc live) same-calls.outlines x (omega (arith, wire.outer)) ∙ ap (decl_of fs) designator-is ∙ d.declared in
        record { home = d.home; stands = d.stands; past = d.past; decl = d.decl; declared = d.declared; kind = declared-kind frames_after x m.kind d.decl wire.instance there ∙ p }

  pub passed-block : (b : Block) → frame_stmt w.standing.frame ≡ some (BK b) → Passers frames_after passers
  unfolding call_of
  passed-block b q =
      passers-more passers (λ c h. refl)
      (λ i m e p. none≢some (sym (argument-none frames_after (formal_in (suc live) i) (call_at frames_after (suc (suc live)) top (BK b) top-numbered (now-passed (BK b) q))) ∙ (stood i m e).given))

  -- A call

  module _ (o p : ℕ) (xs : List ℕ) (q : frame_stmt w.standing.frame ≡ some (DO o (CL p xs))) where
    next : NextAction w.standing.program fs w.standing.frame o (CL p xs)
    next = next-action (limits_by activations limit) w.standing.program w.standing.keeps w.standing.stack w.standing.sound w.standing.frame (last-is w.standing) o (CL p xs) q

    called : Resolved fs p
    unfolding action_names
    called = next.names.0

    given : Each (Resolved fs) xs
    unfolding action_names
    given = next.names.1

    word-is : get_or code (here.at + 1) 0 ≡ name_word (enclosure_of fs (length fs)) p
    unfolding resolved_stmt resolved_action
    word-is = (covered w.standing (DO o (CL p xs)) q).1.0

    by_call : passed top ≡ some (DO o (CL p xs))
    by_call = now-passed (DO o (CL p xs)) q

    pub steer-call : direct (get_or code (here.at + 1) 0) ≡ true → pred (onward frames_after (suc (suc live))) ≡ live
    steer-call d =
        at-depth (length on) (entered-declared on top new last_on down-on o p xs by_call (formal-on p ∙ no-formal w.standing p called (ap direct (sym word-is) ∙ d))) ∙ innermost

    pub steer-formal : direct (get_or code (here.at + 1) 0) ≡ false
        → pred (onward frames_after (suc (suc live))) ≡ get_or passers (first_by_links w.standing (get_or code (here.at + 1) 0) + position_in (get_or code (here.at + 1) 0)) 0
    steer-formal d =
        let n = ap direct (sym word-is) ∙ d in
        let y = formal_in (holder_by w.standing p called) (position_in (name_word (enclosure_of fs (length fs)) p)) in
        let e = a-formal w.standing p called n in
        at-depth (passer fs y) (entered-by-formal on top new last_on down-on o p xs by_call y (formal-on p ∙ e) ∙ passer-on p y e)
        ∙ sym (passer-there w.standing p called n next.kinds passers w.passers-are) ∙ ap (λ v. get_or passers (first_by_links w.standing v + position_in v) 0) (sym word-is)

    module _ (passers' : List ℕ) (h : HandedOn w passers') (i : ℕ) (m : Formal) (e : get_elem? j.formals i ≡ some m) (kind : m.kind ≡ procedure) where
      abbrev n : ℕ
      n = (stood i m e).name

      abbrev v : ℕ
      v = get_or code (here.at + 3 + i) 0

      as-numbered : numbered xs (suc i) ≡ some n
      unfolding call_of call_in
      as-numbered =
          sym (argument-of frames_after (formal_in (suc live) i) (record { called = p; arguments = xs }) (call_at frames_after (suc (suc live)) top (DO o (CL p xs)) top-numbered by_call)) ∙ (stood i m e).given

      listed : get_elem? xs i ≡ some n
      listed = sym (numbered-suc xs i) ∙ as-numbered

      resolved : Resolved fs n
      resolved = each_at (Resolved fs) xs i n listed given

      is-procedure : Designated fs (designates fs n) procedure
      is-procedure = argument-kind i m e kind resolved

      its-word : v ≡ name_word (enclosure_of fs (length fs)) n
      its-word = argument_is w.standing o p xs q i n listed

      within : i < get_or code (here.at + 2) 0
      within = omega (arith, count-is w.standing o p xs q, get_elem-bound xs i n listed)

      as-kind : kind_in v ≡ 2
      as-kind = ap kind_in its-word ∙ as-procedure w.standing n resolved is-procedure

      cell : get_or passers' (32 * suc live + i) 0 ≡ get_or passers' (32 * (live + 1) + i) 0
      cell = let one : suc live ≡ live + 1 = omega arith in ap (λ a. get_or passers' (32 * a + i) 0) one

      deep : (x : ℕ) → passer frames_after (record { frame = suc (length on); position = suc i }) ≡ x → pred x ≡ pred (passer frames_after (formal_in (suc live) i))
      deep x r = sym (ap pred r) ∙ ap (λ k. pred (passer frames_after (formal_in k i))) (ahead-many w.standing)

      own : get_or passers' (32 * suc live + i) 0 ≡ pred (passer frames_after (formal_in (suc live) i))
      own =
          split (direct v)
          (λ d. cell ∙ h.declared i within as-kind d ∙ sym innermost
          ∙ deep (length on) (handed-declared on top new last_on down-on o p xs by_call (suc i) n as-numbered (formal-on n ∙ no-formal w.standing n resolved (ap direct (sym its-word) ∙ d))))
          (λ d. let t = ap direct (sym its-word) ∙ d in
          let y = formal_in (holder_by w.standing n resolved) (position_in (name_word (enclosure_of fs (length fs)) n)) in
          let f = a-formal w.standing n resolved t in
          cell ∙ h.formal i within as-kind d ∙ ap (λ u. get_or passers (first_by_links w.standing u + position_in u) 0) its-word
          ∙ passer-there w.standing n resolved t is-procedure passers w.passers-are
          ∙ deep (passer fs y) (handed-formal on top new last_on down-on o p xs by_call (suc i) n as-numbered y (formal-on n ∙ f) ∙ passer-on n y f))

    pub passed-call : (passers' : List ℕ) → HandedOn w passers' → Passers frames_after passers'
    passed-call passers' h = passers-more passers' h.kept (own passers' h)
