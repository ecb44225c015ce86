-- A declared instance by its designator: the frame and the word that the frame machine takes for it.
use Prim.Native.Nat.{ℕ, suc, pred, ◌+◌, ◌*◌, ◌-◌, ◌%◌, ◌<◌}
use native.Mathlib.Omega.{arith}
use Rattle.std.specs.Prelude.{◌≡◌}
use Rattle.std.proofs.Common.{sym, ap₂, ◌∙◌, get_or-append-add}
use Rattle.std.proofs.Math.Path.{ap}
use mathlib.Core.List.{List, map}
use Rattle.std.proofs.Math.Option
use Rattle.std.proofs.Math.Option.{some}
use Rattle.std.proofs.Math.IntN.{ℤ, pos}
use Rattle.std.proofs.Math.ListN.{length, get_or, get_elem?, length-map}
use Rattle.language.specs.Text.{Decl, block_decls, decl_name, decl_kind}
use Rattle.language.specs.Copy.{rename_decl}
use Rattle.language.specs.Machine.{State, Instance, instance_from}
use Rattle.laws.specs.Lists.{get_elem-bound, get_d-elem, get_elem?-map, image-at}
use Rattle.laws.specs.Renaming.{decl_kind-renamed, block_decls-renamed}
use Rattle.laws.specs.Instances.{instance-found}
use Rattle.grammar.specs.Formed.{block-few}
use Rattle.frames.specs.Frame.{Frame, Stack, numbered, frame_number, place, decl_of, kind_of, word_at}
use Rattle.frames.specs.Related.{joined, designator_for, designator_at, word_in, Twin, Related, twin-at}

-- What an instance's designator leads to among the frames.
pub record InstanceFrame (s : State) (t : Stack) (x : ℕ) (i : Instance) : Type 0 where
  pub depth : ℕ
  pub index : ℕ
  pub frame : Frame
  pub original : Decl
  pub number_is : i.number ≡ suc depth
  pub position-is : i.position ≡ suc (length i.home.arguments + index)
  pub name-is : decl_name i.decl ≡ x
  pub home_at : get_elem? s.live depth ≡ some i.home
  pub decl-at : get_elem? (block_decls i.home.text) index ≡ some i.decl
  pub frame_at : get_elem? t.frames depth ≡ some frame
  pub twin : Twin s.live s.values depth i.home frame
  pub original-at : get_elem? (block_decls frame.text) index ≡ some original
  pub decl-is : i.decl ≡ rename_decl original (joined i.home.reads)
  pub within : length frame.formals + index < 32
  pub by_number : frame_number (designator_at s.live x) ≡ suc depth
  pub by_place : place (designator_at s.live x) ≡ length frame.formals + index

pub designated : (s : State) (t : Stack) → Related s t → (x : ℕ) (i : Instance) → instance_from x 1 s.live ≡ some i → InstanceFrame s t x i
unfolding frame_number place designator_at designator_for
designated s t r x i e =
    let d = instance-found x 1 s.live i e in
    let p = twin-at s t r d.depth i.home d.home_at in
    let f = p.0 in
    let w : Twin s.live s.values d.depth i.home f = p.2 in
    let σ = joined i.home.reads in
    let shape : block_decls i.home.text ≡ map (λ (c : Decl). rename_decl c σ) (block_decls f.text) = ap block_decls w.text-is ∙ block_decls-renamed f.text σ in
    let o = image-at (λ (c : Decl). rename_decl c σ) (block_decls f.text) d.index i.decl (sym (ap (λ (l : List Decl). get_elem? l d.index) shape) ∙ d.decl-at) in
    let bound = get_elem-bound (block_decls f.text) d.index o.0 o.1 in
    let count = block-few w.fine.level f.formals w.fine.here f.text w.fine.formed in
    let many = w.as_many in
    let number = d.number_is in
    let position = d.position-is in
    let value : designator_for (instance_from x 1 s.live) ≡ i.number * 64 + i.position = ap designator_for e in
    let remainder : designator_for (instance_from x 1 s.live) % 64 ≡ suc (length f.formals + d.index) = omega arith in
    record { depth = d.depth; index = d.index; frame = f; original = o.0; number_is = omega arith; position-is = omega arith; name-is = d.name-is; home_at = d.home_at; decl-at = d.decl-at; frame_at = p.1; twin = w; original-at = o.1; decl-is = o.2; within = omega arith; by_number = omega arith; by_place = ap pred remainder }

module _ (s : State) (t : Stack) (x : ℕ) (i : Instance) (d : InstanceFrame s t x i) where
  pub found-frame : numbered t.frames (frame_number (designator_at s.live x)) ≡ some d.frame
  unfolding numbered
  found-frame = rw d.by_number d.frame_at

  pub decl_of-designated : decl_of t.frames (designator_at s.live x) ≡ some d.original
  unfolding decl_of
  decl_of-designated =
      let p : place (designator_at s.live x) - length d.frame.formals ≡ d.index = let q = d.by_place in omega arith in
      rw (found-frame, decl_of) (ap (get_elem? (block_decls d.frame.text)) p ∙ d.original-at)

  pub kind_of-designated : kind_of t.frames (designator_at s.live x) ≡ some (decl_kind i.decl)
  unfolding kind_of
  kind_of-designated = rw (decl_of-designated, kind_of) (ap some (sym (ap decl_kind d.decl-is ∙ decl_kind-renamed d.original (joined i.home.reads))))

  pub word_at-designated : word_at t.frames (designator_at s.live x) ≡ word_in s.values i.decl
  unfolding word_at
  word_at-designated =
      let l = s.live in
      let g : ℕ → ℤ = λ (y : ℕ). pos (designator_at l y) in
      let many = d.twin.as_many in
      let lg = length-map i.home.arguments g in
      let p : place (designator_at l x) ≡ length (map g i.home.arguments) + d.index = let q = d.by_place in omega arith in
      rw (found-frame, word_at)
      (ap₂ (λ (ws : List ℤ) (q : ℕ). get_or ws q (pos 0)) d.twin.words_are p ∙
      (get_or-append-add (map g i.home.arguments) (map (word_in s.values) (block_decls i.home.text)) d.index (pos 0) ∙
      get_d-elem (map (word_in s.values) (block_decls i.home.text)) d.index (word_in s.values i.decl) (pos 0) (get_elem?-map (word_in s.values) (block_decls i.home.text) d.index ∙ ap (Option.map (word_in s.values)) d.decl-at)))
