-- Gotos, calls and blocks entered: the relation is kept, or both machines stop for one cause.
use Rattle.std.specs.Prelude.{ℕ, suc, pred, ◌≤◌, Bool, ◌≡◌, length, take}
use native.Mathlib.Omega.{arith}
use Rattle.std.proofs.Math.Bool.{true, false}
use Rattle.std.proofs.Math.Path.{refl, sym, ap, ap₂, subst, subst₂}
use Rattle.std.proofs.Common.{◌∙◌}
use mathlib.Core.List.{List, [], ◌∷◌, ◌++◌, map}
use Rattle.std.proofs.Math.Option.{Option, none, some}
use Rattle.std.proofs.Math.Dec.{ltb}
use Rattle.std.proofs.Math.ListN.{get_elem?}
use Rattle.language.specs.Text.{Kind, Formal, Block, decl, decl_kind, label_index, decl_formals, decl_body, formal_names, formal_kinds, declared_names}
use Rattle.language.specs.Scope.{agree}
use Rattle.language.specs.Copy.{Replacement, rename_block, without}
use Rattle.language.specs.Machine.{Activation, State, Limits, Instance, instance, with_live, resume, jump, kind_at, enter_if_room, call}
use Rattle.laws.specs.Kinds.{agree-many}
use Rattle.laws.specs.Lists.{take_snoc, snoc-inj, get_elem-bound}
use Rattle.laws.specs.Each.{Each, each_map}
use Rattle.laws.specs.Renaming.{label_index-renamed, decl_formals-renamed, decl_body-renamed}
use Rattle.laws.specs.Instances.{instance-number}
use Rattle.instances.specs.Statement.{Stands}
use Rattle.frames.specs.Frame.{Frame, Stack, numbered, continue, with_frames, frame_number, kind_of, go_to, push_frame, call_by}
use Rattle.frames.specs.Fine.{Fine, fine-body}
use Rattle.frames.specs.Related.{reads_in, reads_at, joined, designator_at, LiveBelow, AllLive, Related, as-deep}
use Rattle.frames.proofs.Cuts.{top_of, related-take, related-resume}
use Rattle.frames.proofs.Designated.{InstanceFrame, designated, decl_of-designated, kind_of-designated, found-frame}
use Rattle.frames.proofs.Push.{related-push}
use Rattle.frames.proofs.Actions.{Alike}

module _ (s : State) (t : Stack) (r : Related s t) where
  -- the stack cut back to an activation, which goes on at another statement
  cut-back : (k n : ℕ) (a : Activation) (f : Frame) → get_elem? s.live k ≡ some a → get_elem? t.frames k ≡ some f → Related (with_live s (take k s.live ++ (resume a n ∷ []))) (with_frames t (take k t.frames ++ (continue f n ∷ [])))
  unfolding with_live with_frames top_of
  cut-back k n a f e e' =
      let s₁ = with_live s (take (suc k) s.live) in
      let t₁ = with_frames t (take (suc k) t.frames) in
      let r₁ = related-take s t (suc k) r in
      let top = top_of s₁ t₁ r₁ (take k s.live) a (take_snoc s.live k a e) in
      let same = snoc-inj top.below-frames (take k t.frames) top.frame f (sym top.frames-are ∙ take_snoc t.frames k f e') in
      subst₂ (λ (fs : List Frame) (g : Frame). Related (with_live s (take k s.live ++ (resume a n ∷ []))) (with_frames t (fs ++ (continue g n ∷ []))))
      same.0 same.1
      (related-resume s₁ t₁ r₁ top n)

  module _ (x : ℕ) (i : Instance) (e : instance s x ≡ some i) (d : InstanceFrame s t x i) where
    jump-is : jump s x ≡ with_live s (take d.depth s.live ++ (resume i.home (label_index i.decl) ∷ []))
    unfolding jump
    jump-is = rw (e, jump) (ap (λ (n : ℕ). with_live s (take (pred n) s.live ++ (resume i.home (label_index i.decl) ∷ []))) d.number_is)

    go_to-is : go_to t (designator_at s.live x) ≡ with_frames t (take d.depth t.frames ++ (continue d.frame (label_index i.decl) ∷ []))
    unfolding go_to
    go_to-is =
        rw (found-frame s t x i d, go_to) (rw (decl_of-designated s t x i d)
        (ap₂ (λ (n m : ℕ). with_frames t (take (pred n) t.frames ++ (continue d.frame m ∷ []))) d.by_number (sym (ap label_index d.decl-is ∙ label_index-renamed d.original (joined i.home.reads)))))

  pub jump-related : (x : ℕ) (w : Option Kind) → Stands s x w → Related (jump s x) (go_to t (designator_at s.live x))
  unfolding instance
  jump-related x w v =
      let i = v.it in
      let d = designated s t r x i v.found in
      subst₂ Related (sym (jump-is x i v.found d)) (sym (go_to-is x i v.found d))
      (cut-back d.depth (label_index i.decl) i.home d.frame d.home_at d.frame_at)

-- Entering

-- arguments that stand in the state
abbrev pub AllStand : State → List ℕ → Type 0
AllStand s xs = Each (λ x. Stands s x none) xs

module _ (s : State) (t : Stack) (r : Related s t) where
  all_live : (xs : List ℕ) → AllStand s xs → AllLive s.live (length s.live) xs
  unfolding instance
  all_live xs v =
      each_map (λ x. Stands s x none) (LiveBelow s.live (length s.live)) xs
      (λ x h. let n = instance-number x 1 s.live h.it h.found in record { instance = h.it; found = h.found; below = omega arith }) v

  kinds-same : (xs : List ℕ) → AllStand s xs → map (kind_at s) xs ≡ map (kind_of t.frames) (map (designator_at s.live) xs)
  unfolding instance kind_at
  kinds-same [] v = refl
  kinds-same (x ∷ xs) v =
      ap₂ ◌∷◌ (kind-is x v.0.it v.0.found ∙ sym (kind_of-designated s t x v.0.it (designated s t r x v.0.it v.0.found))) (kinds-same xs v.1)
    where
      kind-is : (x : ℕ) (i : Instance) → instance s x ≡ some i → kind_at s x ≡ some (decl_kind i.decl)
      kind-is x i e = rw (e, kind_at)

  -- a block entered, or no activation left
  pub enter-alike : (l : Limits) (fs : List Formal) (b : Block) → Fine fs b → (xs : List ℕ) → length xs ≡ length fs → AllStand s xs → (m : ℕ) → m ≤ length s.live → Alike (enter_if_room l s (formal_names fs) xs (rename_block b (without (formal_names fs ++ declared_names b) (joined (reads_at s.live m)))) m (reads_at s.live m)) (push_frame l t fs (map (designator_at s.live) xs) b m)
  unfolding enter_if_room push_frame Alike
  enter-alike l fs b fine xs many v m deep = go (ltb (length s.live) l.activations) refl
    where
      go : (c : Bool) → ltb (length s.live) l.activations ≡ c → Alike (enter_if_room l s (formal_names fs) xs (rename_block b (without (formal_names fs ++ declared_names b) (joined (reads_at s.live m)))) m (reads_at s.live m)) (push_frame l t fs (map (designator_at s.live) xs) b m)
      go true e = rw (e, subst (λ (n : ℕ). ltb n l.activations ≡ true) (as-deep s t r) e, enter_if_room, push_frame) (related-push s t r fs b fine xs many (all_live xs v) m deep)
      go false e = rw (e, subst (λ (n : ℕ). ltb n l.activations ≡ false) (as-deep s t r) e, enter_if_room, push_frame)

  pub reads_of : (k : ℕ) (a : Activation) → get_elem? s.live k ≡ some a → reads_at s.live (suc k) ≡ a.reads
  unfolding reads_at reads_in numbered
  reads_of k a e = ap reads_in e

  -- a call of a name that stands, with arguments that stand
  pub call-alike : (l : Limits) (p : ℕ) (w : Option Kind) (xs : List ℕ) → Stands s p w → AllStand s xs → Alike (call l s p xs) (call_by l t (designator_at s.live p) (map (designator_at s.live) xs))
  unfolding instance call call_by Alike formal_kinds
  call-alike l p w xs v vs = go (agree (formal_kinds (decl_formals i.decl)) (map (kind_at s) xs)) refl
    where
      i : Instance
      i = v.it

      d : InstanceFrame s t p i
      d = designated s t r p i v.found

      σ : Replacement
      σ = joined i.home.reads

      formals-same : decl_formals i.decl ≡ decl_formals d.original
      formals-same = ap decl_formals d.decl-is ∙ decl_formals-renamed d.original σ

      body_same : decl_body i.decl ≡ rename_block (decl_body d.original) (without (formal_names (decl_formals d.original) ++ declared_names (decl_body d.original)) σ)
      body_same = ap decl_body d.decl-is ∙ decl_body-renamed d.original σ

      fs : List Formal
      fs = decl_formals d.original

      b : Block
      b = decl_body d.original

      tests_same : agree (formal_kinds (decl_formals i.decl)) (map (kind_at s) xs) ≡ agree (formal_kinds fs) (map (kind_of t.frames) (map (designator_at s.live) xs))
      tests_same = ap₂ agree (ap formal_kinds formals-same) (kinds-same xs vs)

      many : agree (formal_kinds (decl_formals i.decl)) (map (kind_at s) xs) ≡ true → length xs ≡ length fs
      many e = agree-many (kind_at s) (decl_formals i.decl) xs e ∙ ap length formals-same

      entered : length xs ≡ length fs → Alike (enter_if_room l s (formal_names (decl_formals i.decl)) xs (decl_body i.decl) i.number i.home.reads) (push_frame l t fs (map (designator_at s.live) xs) b (frame_number (designator_at s.live p)))
      entered n =
          subst₂ Alike
          (ap₂ (λ (m : ℕ) (rs : List Replacement). enter_if_room l s (formal_names fs) xs (rename_block b (without (formal_names fs ++ declared_names b) (joined rs))) m rs) (sym d.number_is) (reads_of d.depth i.home d.home_at) ∙ sym (ap₂ (λ (ns : List ℕ) (c : Block). enter_if_room l s ns xs c i.number i.home.reads) (ap formal_names formals-same) body_same))
          (ap (push_frame l t fs (map (designator_at s.live) xs) b) (sym d.by_number))
          (enter-alike l fs b (fine-body d.frame.formals d.frame.text d.index d.original d.twin.fine d.original-at) xs n vs (suc d.depth) (get_elem-bound s.live d.depth i.home d.home_at))

      go : (c : Bool) → agree (formal_kinds (decl_formals i.decl)) (map (kind_at s) xs) ≡ c → Alike (call l s p xs) (call_by l t (designator_at s.live p) (map (designator_at s.live) xs))
      go true e = rw (v.found, decl_of-designated s t p i d, call, call_by) (rw (e, sym tests_same ∙ e) (entered (many e)))
      go false e = rw (v.found, decl_of-designated s t p i d, call, call_by) (rw (e, sym tests_same ∙ e))
