-- What an engine may read, between two steps. `block_within`, `level-there`, `level-few`, `end-there`: of any activation its block's place,
-- level and end; `level-here`, `end-here`, `looked-up-here`: of the innermost one; `links-there`: the links; `fields_within`, `at-within`,
-- `end-within`: the innermost one's places are in the script. `begin-reads`: the places that a run begins with.
use Rattle.std.specs.Prelude.{ℕ, suc, ◌+◌, ◌/◌, ◌%◌, ◌≤◌, List, [], ◌≡◌, refl, ℤ, length, get_or, set}
use Rattle.std.proofs.Common.{arith, sym, ap, ◌∙◌}
use Rattle.std.proofs.Math.Option.{some}
use Rattle.std.proofs.Math.ListN.{get_elem?}
use Rattle.language.specs.Text.{Stmt, block_at}
use Rattle.language.specs.Encoding.{stmt_fields}
use Rattle.language.specs.Machine.{Limits}
use Rattle.frames.specs.Frame.{Frame, frame_stmt}
use Rattle.frames.specs.Numbered.{numbered-suc}
use Rattle.coordinates.specs.Enclosure.{whole}
use Rattle.coordinates.proofs.Levels.{frame-encloses, level-bound}
use Rattle.coordinates.specs.Chain.{enclosing, enclosure_of, level_of}
use Rattle.resolved.specs.Resolved.{place_of, end_place, stmt_place, name_word, bounds_word, level_in}
use Rattle.resolved.proofs.Standing.{bounds-stands}
use Rattle.resolved.proofs.Words.{bounds-end, bounds-first}
use Rattle.resolved.proofs.Places.{block-fields, block-place, end-bound, place-bound}
use Rattle.resolved.specs.Layout.{end_in, first_in}
use Rattle.arrays.specs.Displays.{LinksOf, holds-links}
use Rattle.arrays.proofs.Reading.{level-read, end_read, looked-up-read}
use Rattle.steps.specs.Standing.{Standing}
use Rattle.steps.specs.Here.{many, here, at-is, here-bounded, encloses-here, goes-on-at}
use Rattle.steps.specs.Begun.{Begun}

module _ {code : List ℕ} {l : Limits} {cells : List ℤ} {blocks nexts links : List ℕ} {table : List ℤ} {pairs live at end : ℕ} (w : Standing code l cells blocks nexts links table pairs live at end) where
  -- of any activation
  pub level-there : (k : ℕ) (f : Frame) → get_elem? w.stack.frames k ≡ some f → level_in (get_or code (get_or blocks k 0) 0) ≡ level_of w.stack.frames (suc k)
  level-there k f e = level-read code w.name w.program w.keeps w.covers w.stack.frames w.sound.chained blocks (set nexts live at) links cells w.holds k f e

  pub level-few : (k : ℕ) (f : Frame) → get_elem? w.stack.frames k ≡ some f → (1 ≤ level_of w.stack.frames (suc k)) × (level_of w.stack.frames (suc k) ≤ 16)
  level-few k f e = level-bound w.program w.keeps w.stack.frames w.sound.chained (suc k) f (numbered-suc w.stack.frames k ∙ e)

  pub block_within : (k : ℕ) (f : Frame) → get_elem? w.stack.frames k ≡ some f → get_or blocks k 0 + 3 ≤ 4096
  unfolding enclosing end_place
  block_within k f e =
      let within = frame-encloses w.program w.stack.frames w.sound.chained (suc k) f (numbered-suc w.stack.frames k ∙ e) in
      omega (arith, (w.holds k f e).block-is, block-fields f.text, end-bound w.program w.keeps (enclosing f) (enclosure_of w.stack.frames f.link) within)

  pub end-there : (k : ℕ) (f : Frame) → get_elem? w.stack.frames k ≡ some f → end_in (get_or code (get_or blocks k 0 + 1) 0) ≡ end_place f.text
  end-there k f e = end_read code w.name w.program w.keeps w.covers w.stack.frames w.sound.chained blocks (set nexts live at) links cells w.holds k f e

  pub links-there : LinksOf w.stack.frames links
  links-there = holds-links w.stack.frames blocks (set nexts live at) links cells w.holds

  pub level-here : level_in (get_or code (get_or blocks live 0) 0) ≡ level_of w.stack.frames (length w.stack.frames)
  level-here = level-there live w.frame (here w) ∙ ap (level_of w.stack.frames) (sym (many w))

  pub end-here : end_in (get_or code (get_or blocks live 0 + 1) 0) ≡ end
  end-here = end-there live w.frame (here w) ∙ sym w.end_is

  pub looked-up-here : get_or code (get_or blocks live 0 + 2) 0 ≡ name_word (enclosure_of w.stack.frames (length w.stack.frames)) w.name
  looked-up-here =
      looked-up-read code w.name w.program w.keeps w.covers w.stack.frames w.sound.chained blocks (set nexts live at) links cells w.holds live w.frame (here w)
      ∙ ap (λ k. name_word (enclosure_of w.stack.frames k) w.name) (sym (many w))

  pub end-within : end ≤ 4096
  unfolding enclosing
  end-within = omega (arith, w.end_is, end-bound w.program w.keeps (enclosing w.frame) (enclosure_of w.stack.frames w.frame.link) (encloses-here w))

  pub at-within : at ≤ 4096
  unfolding enclosing
  at-within = omega (arith, at-is w, place-bound w.program w.keeps (enclosing w.frame) (enclosure_of w.stack.frames w.frame.link) (encloses-here w) w.frame.next (here-bounded w).next-first)

  pub fields_within : (x : Stmt) → frame_stmt w.frame ≡ some x → at + length (stmt_fields x) ≤ 4096
  unfolding enclosing
  fields_within x q =
      omega (arith, goes-on-at w x q, place-bound w.program w.keeps (enclosing w.frame) (enclosure_of w.stack.frames w.frame.link) (encloses-here w) (suc w.frame.next) (omega arith))

-- the program's second word
pub begin-reads : {code : List ℕ} {cells : List ℤ} {table : List ℤ} {pairs limit activations : ℕ} (b : Begun code cells table pairs limit activations)
    → (first_in (get_or code 1 0) ≡ stmt_place b.program 1) × (end_in (get_or code 1 0) ≡ end_place b.program)
unfolding whole
begin-reads {code} b =
    let t = b.program in
    let first : place_of (block_at t) ≡ 0 = block-place t 1 [] 0 b.keeps.formed in
    let one : 1 ≡ place_of (block_at t) + 1 = omega arith in
    let bounds : get_or code 1 0 ≡ bounds_word t = ap (λ i. get_or code i 0) one ∙ bounds-stands code b.name t b.keeps b.covers (whole t) [] refl in
    (ap first_in bounds ∙ bounds-first t b.keeps (whole t) [] refl, ap end_in bounds ∙ bounds-end t b.keeps (whole t) [] refl)
