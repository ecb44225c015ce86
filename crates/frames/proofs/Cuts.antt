-- The relation where activations are dropped, resumed at another statement, or put above: what does not depend on them stays.
use Prim.Native.Nat.{ℕ, zero, suc, ◌+◌, ◌*◌, ◌≤◌}
use Rattle.std.proofs.Common.{arith, sym, ap, ap₂, ◌∙◌, subst₂, take-append-drop, length-take}
use Rattle.std.proofs.Math.Nat.{zero-add}
use Rattle.std.specs.Prelude.{◌≡◌, ℤ, pos, length, take, drop}
use Rattle.std.proofs.Math.Path.{refl, subst}
use mathlib.Core.List.{List, [], ◌∷◌, ◌++◌, map}
use Rattle.std.proofs.Math.Option.{Option, none, some}
use Rattle.std.proofs.Math.ListN.{get_elem?}
use Rattle.std.proofs.Math.Seq.{take-append_seam}
use Rattle.language.specs.Text.{Decl, block_decls}
use Rattle.language.specs.Copy.{Replacement}
use Rattle.language.specs.Machine.{Activation, State, Instance, instance_from, resume, with_live}
use Rattle.laws.specs.Tests.{none≢some, some_inj}
use Rattle.laws.specs.Lists.{get_elem_take}
use Rattle.laws.specs.Each.{each_map}
use Rattle.laws.specs.Instances.{instance-take, declared_by, instance-here, instance-there, instance_in}
use Rattle.laws.specs.Rising.{Rising, rising-before, rising-resumed}
use Rattle.frames.specs.Frame.{Frame, Stack, numbered, continue, with_frames}
use Rattle.frames.specs.Both.{Both, both-map, both-take, both-snoc, both-length, both-unsnoc}
use Rattle.frames.specs.Related.{reads_in, reads_at, designator_for, designator_at, word_in, LiveBelow, AllLive, own_of, Twin, Related}

-- What of a stack of activations the twins at index k and below depend on: the readings and the instances up to number k.
pub record SameBelow (l l' : List Activation) (k : ℕ) : Type 0 where
  pub same_reads : (j : ℕ) → j ≤ k → reads_at l' j ≡ reads_at l j
  pub same-instances : (x : ℕ) (i : Instance) → instance_from x 1 l ≡ some i → i.number ≤ k →
      (i' : Instance) × (instance_from x 1 l' ≡ some i') × (i'.number ≡ i.number) × (i'.position ≡ i.position)

module _ {l l' : List Activation} {k : ℕ} (h : SameBelow l l' k) where
  live_same : {x : ℕ} → LiveBelow l k x → LiveBelow l' k x
  live_same {x} v =
      let r = h.same-instances x v.instance v.found v.below in
      let b = v.below in
      let n = r.2 in
      record { instance = r.0; found = r.1; below = omega arith }

  designator-same : (x : ℕ) → LiveBelow l k x → designator_at l' x ≡ designator_at l x
  unfolding designator_at designator_for
  designator-same x v =
      let r = h.same-instances x v.instance v.found v.below in
      rw (r.1, v.found) (ap₂ (λ (n p : ℕ). n * 64 + p) r.2 r.3)

  pub all-live-same : (xs : List ℕ) → AllLive l k xs → AllLive l' k xs
  all-live-same xs v = each_map (LiveBelow l k) (LiveBelow l' k) xs (λ x w. live_same w) v

  pub designators-same : (xs : List ℕ) → AllLive l k xs → map (λ (x : ℕ). pos (designator_at l' x)) xs ≡ map (λ (x : ℕ). pos (designator_at l x)) xs
  designators-same [] v = refl
  designators-same (x ∷ xs) v = ap₂ ◌∷◌ (ap pos (designator-same x v.0)) (designators-same xs v.1)

  -- the twin at index k, where its variables keep their values
  pub twin-same : (vs vs' : List (ℕ × ℤ)) (a : Activation) (f : Frame) → map (word_in vs') (block_decls a.text) ≡ map (word_in vs) (block_decls a.text) → Twin l vs k a f → Twin l' vs' k a f
  twin-same vs vs' a f w t =
      record { fine = t.fine; as_many = t.as_many; reads-are = t.reads-are ∙ ap (λ (r : List Replacement). own_of f a ∷ r) (sym (h.same_reads f.link t.link-below)); text-is = t.text-is; next-is = t.next-is; encloser-is = t.encloser-is; link-below = t.link-below; live-arguments = all-live-same a.arguments t.live-arguments; words_are = t.words_are ∙ sym (ap₂ ◌++◌ (designators-same a.arguments t.live-arguments) w) }

-- dropping the activations above number m
reads_at-take : (l : List Activation) (m k : ℕ) → k ≤ m → reads_at (take m l) k ≡ reads_at l k
unfolding reads_at numbered
reads_at-take l m zero h = refl
reads_at-take l m (suc k) h = ap reads_in (get_elem_take l m k h)

same-take : (l : List Activation) (m k : ℕ) → k ≤ m → SameBelow l (take m l) k
same-take l m k h =
    record { same_reads = λ j b. reads_at-take l m j (omega arith); same-instances = λ x i e b. (i, instance-take x 1 m l i e (omega arith), refl, refl) }

pub related-take : (s : State) (t : Stack) (m : ℕ) → Related s t → Related (with_live s (take m s.live)) (with_frames t (take m t.frames))
unfolding with_live with_frames
related-take s t m r =
    let l = s.live in
    record { twins = both-map (Twin l s.values) (Twin (take m l) s.values) 0 (take m l) (take m t.frames) (λ j a f h e e' w. twin-same (same-take l m (0 + j) (let b = length-take m l in omega arith)) s.values s.values a f refl w) (both-take (Twin l s.values) 0 m l t.frames r.twins); rising = rising-before 65536 (take m l) (drop m l) s.fresh (rw take-append-drop r.rising); table_is = r.table_is; steps-are = r.steps-are }

-- the last activation resumed at another statement
module _ (a : Activation) (n : ℕ) where
  reads_at-resume : (pre : List Activation) (j : ℕ) → reads_in (get_elem? (pre ++ (resume a n ∷ [])) j) ≡ reads_in (get_elem? (pre ++ (a ∷ [])) j)
  unfolding reads_in resume
  reads_at-resume [] zero = refl
  reads_at-resume [] (suc j) = refl
  reads_at-resume (b ∷ pre) zero = refl
  reads_at-resume (b ∷ pre) (suc j) = reads_at-resume pre j

  abbrev Alike : ℕ → List Activation → Instance → ℕ → Type 0
  Alike x l i k = (i' : Instance) × (instance_from x k l ≡ some i') × (i'.number ≡ i.number) × (i'.position ≡ i.position)

  instance-resume : (x k : ℕ) (pre : List Activation) (i : Instance) → instance_from x k (pre ++ (a ∷ [])) ≡ some i → Alike x (pre ++ (resume a n ∷ [])) i k
  unfolding instance_from resume
  instance-resume x k [] i e = go (declared_by x a) refl
    where
      go : (o : Option (ℕ × Decl)) → declared_by x a ≡ o → Alike x (resume a n ∷ []) i k
      go none e' = absurd (none≢some (sym (instance-there x k a [] e') ∙ e))
      go (some p) e' =
          let q : instance_in k a p ≡ i = some_inj (sym (instance-here x k a [] p e') ∙ e) in
          (instance_in k (resume a n) p, instance-here x k (resume a n) [] p e', (λ t. (q t).number), (λ t. (q t).position))
  instance-resume x k (b ∷ pre) i e = go (declared_by x b) refl (instance-resume x (suc k) pre i)
    where
      go : (o : Option (ℕ × Decl)) → declared_by x b ≡ o → (instance_from x (suc k) (pre ++ (a ∷ [])) ≡ some i → Alike x (pre ++ (resume a n ∷ [])) i (suc k)) → Alike x (b ∷ (pre ++ (resume a n ∷ []))) i k
      go none e' ih =
          let r = ih (sym (instance-there x k b (pre ++ (a ∷ [])) e') ∙ e) in
          (r.0, instance-there x k b (pre ++ (resume a n ∷ [])) e' ∙ r.1, r.2, r.3)
      go (some p) e' ih =
          let q : instance_in k b p ≡ i = some_inj (sym (instance-here x k b (pre ++ (a ∷ [])) p e') ∙ e) in
          (instance_in k b p, instance-here x k b (pre ++ (resume a n ∷ [])) p e', (λ t. (q t).number), (λ t. (q t).position))

  same-resume : (pre : List Activation) (k : ℕ) → SameBelow (pre ++ (a ∷ [])) (pre ++ (resume a n ∷ [])) k
  unfolding reads_at numbered
  same-resume pre k = record { same_reads = λ j b. reads j; same-instances = λ x i e b. instance-resume x 1 pre i e }
    where
      reads : (j : ℕ) → reads_at (pre ++ (resume a n ∷ [])) j ≡ reads_at (pre ++ (a ∷ [])) j
      reads zero = refl
      reads (suc j) = reads_at-resume pre j

  twin-resume : (l : List Activation) (vs : List (ℕ × ℤ)) (k : ℕ) (f : Frame) → Twin l vs k a f → Twin l vs k (resume a n) (continue f n)
  unfolding resume continue own_of
  twin-resume l vs k f t =
      record { fine = t.fine; as_many = t.as_many; reads-are = t.reads-are; text-is = t.text-is; next-is = refl; encloser-is = t.encloser-is; link-below = t.link-below; live-arguments = t.live-arguments; words_are = t.words_are }

-- The innermost activation and its frame, with those below: what a step begins from.
pub record Top (s : State) (t : Stack) : Type 0 where
  pub below : List Activation
  pub activation : Activation
  pub below-frames : List Frame
  pub frame : Frame
  pub live-is : s.live ≡ below ++ (activation ∷ [])
  pub frames-are : t.frames ≡ below-frames ++ (frame ∷ [])
  pub as-deep : length below ≡ length below-frames
  pub twins-below : Both (Twin s.live s.values) 0 below below-frames
  pub twin : Twin s.live s.values (length below) activation frame

unfoldable pub top_of : (s : State) (t : Stack) → Related s t → (pre : List Activation) (a : Activation) → s.live ≡ pre ++ (a ∷ []) → Top s t
top_of s t r pre a e =
    let h = both-unsnoc (Twin s.live s.values) 0 pre a t.frames (subst (λ (l : List Activation). Both (Twin s.live s.values) 0 l t.frames) e r.twins) in
    record { below = pre; activation = a; below-frames = h.0; frame = h.1; live-is = e; frames-are = h.2; as-deep = both-length (Twin s.live s.values) 0 pre h.0 h.3; twins-below = h.3; twin = rw zero-add at h.4 }

module _ (s : State) (t : Stack) (r : Related s t) (p : Top s t) where
  -- the innermost activation is left
  pub related-pop : Related (with_live s p.below) (with_frames t p.below-frames)
  related-pop =
      subst₂ (λ (l : List Activation) (fs : List Frame). Related (with_live s l) (with_frames t fs))
      (ap (take (length p.below)) p.live-is ∙ take-append_seam p.below (p.activation ∷ []))
      (ap₂ take p.as-deep p.frames-are ∙ take-append_seam p.below-frames (p.frame ∷ []))
      (related-take s t (length p.below) r)

  -- it goes on at another statement
  pub related-resume : (n : ℕ) → Related (with_live s (p.below ++ (resume p.activation n ∷ []))) (with_frames t (p.below-frames ++ (continue p.frame n ∷ [])))
  unfolding with_live with_frames
  related-resume n =
      let l = p.below ++ (resume p.activation n ∷ []) in
      let same : (k : ℕ) → SameBelow s.live l k = λ k. subst (λ (m : List Activation). SameBelow m l k) (sym p.live-is) (same-resume p.activation n p.below k) in
      record { twins = both-snoc (Twin l s.values) 0 p.below p.below-frames (resume p.activation n) (continue p.frame n) (both-map (Twin s.live s.values) (Twin l s.values) 0 p.below p.below-frames (λ j a f h e e' w. twin-same (same (0 + j)) s.values s.values a f refl w) p.twins-below) (rw zero-add (twin-resume p.activation n l s.values (length p.below) p.frame (twin-same (same (length p.below)) s.values s.values p.activation p.frame refl p.twin))); rising = rising-resumed 65536 p.below p.activation [] s.fresh n (subst (λ (m : List Activation). Rising 65536 m s.fresh) p.live-is r.rising); table_is = r.table_is; steps-are = r.steps-are }
