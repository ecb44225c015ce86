-- The parts of a stack or frame made from another, as equations: `parts` is the set of them for simp.
-- Read `with_frames-table` as: what is the table of `with_frames s fs`.
use Rattle.std.specs.Prelude.{ℕ, ◌+◌, ◌≡◌, refl, List, [], ◌∷◌, ◌++◌, map, ℤ, pos, length}
use Rattle.std.proofs.Common.{◌∙◌, length-append}
use Rattle.std.proofs.lemmas.List.{length-map}
use Rattle.language.specs.Text.{Formal, Block, Decl, block_decls, decl_name, formal_names, declared_names}
use Rattle.language.specs.Table.{Table}
use Rattle.frames.specs.Frame.{Frame, Stack, with_frames, table_changed, frame_cost, stepped, continue, rewritten, frame_names, zero_words, new_frame, frame_start}

pub with_frames-frames : (s : Stack) (fs : List Frame) → (with_frames s fs).frames ≡ fs
unfolding with_frames
with_frames-frames s fs = refl

pub with_frames-table : (s : Stack) (fs : List Frame) → (with_frames s fs).table ≡ s.table
unfolding with_frames
with_frames-table s fs = refl

pub with_frames-steps : (s : Stack) (fs : List Frame) → (with_frames s fs).steps ≡ s.steps
unfolding with_frames
with_frames-steps s fs = refl

pub table_changed-frames : (s : Stack) (t : Table) → (table_changed s t).frames ≡ s.frames
unfolding table_changed
table_changed-frames s t = refl

pub table_changed-table : (s : Stack) (t : Table) → (table_changed s t).table ≡ t
unfolding table_changed
table_changed-table s t = refl

pub table_changed-steps : (s : Stack) (t : Table) → (table_changed s t).steps ≡ s.steps
unfolding table_changed
table_changed-steps s t = refl

pub stepped-frames : (s s' : Stack) → (stepped s s').frames ≡ s'.frames
unfolding stepped
stepped-frames s s' = refl

pub stepped-table : (s s' : Stack) → (stepped s s').table ≡ s'.table
unfolding stepped
stepped-table s s' = refl

pub stepped-steps : (s s' : Stack) → (stepped s s').steps ≡ s'.steps + frame_cost s s'
unfolding stepped
stepped-steps s s' = refl

pub continue-formals : (f : Frame) (n : ℕ) → (continue f n).formals ≡ f.formals
unfolding continue
continue-formals f n = refl

pub continue-text : (f : Frame) (n : ℕ) → (continue f n).text ≡ f.text
unfolding continue
continue-text f n = refl

pub continue-next : (f : Frame) (n : ℕ) → (continue f n).next ≡ n
unfolding continue
continue-next f n = refl

pub continue-link : (f : Frame) (n : ℕ) → (continue f n).link ≡ f.link
unfolding continue
continue-link f n = refl

pub continue-words : (f : Frame) (n : ℕ) → (continue f n).words ≡ f.words
unfolding continue
continue-words f n = refl

pub rewritten-formals : (f : Frame) (ws : List ℤ) → (rewritten f ws).formals ≡ f.formals
unfolding rewritten
rewritten-formals f ws = refl

pub rewritten-text : (f : Frame) (ws : List ℤ) → (rewritten f ws).text ≡ f.text
unfolding rewritten
rewritten-text f ws = refl

pub rewritten-next : (f : Frame) (ws : List ℤ) → (rewritten f ws).next ≡ f.next
unfolding rewritten
rewritten-next f ws = refl

pub rewritten-link : (f : Frame) (ws : List ℤ) → (rewritten f ws).link ≡ f.link
unfolding rewritten
rewritten-link f ws = refl

pub rewritten-words : (f : Frame) (ws : List ℤ) → (rewritten f ws).words ≡ ws
unfolding rewritten
rewritten-words f ws = refl

pub new_frame-formals : (fs : List Formal) (xs : List ℕ) (b : Block) (k : ℕ) → (new_frame fs xs b k).formals ≡ fs
unfolding new_frame
new_frame-formals fs xs b k = refl

pub new_frame-text : (fs : List Formal) (xs : List ℕ) (b : Block) (k : ℕ) → (new_frame fs xs b k).text ≡ b
unfolding new_frame
new_frame-text fs xs b k = refl

pub new_frame-next : (fs : List Formal) (xs : List ℕ) (b : Block) (k : ℕ) → (new_frame fs xs b k).next ≡ 1
unfolding new_frame
new_frame-next fs xs b k = refl

pub new_frame-link : (fs : List Formal) (xs : List ℕ) (b : Block) (k : ℕ) → (new_frame fs xs b k).link ≡ k
unfolding new_frame
new_frame-link fs xs b k = refl

pub new_frame-words : (fs : List Formal) (xs : List ℕ) (b : Block) (k : ℕ) → (new_frame fs xs b k).words ≡ map pos xs ++ zero_words (block_decls b)
unfolding new_frame
new_frame-words fs xs b k = refl

pub frame_start-frames : (b : Block) (t : Table) → (frame_start b t).frames ≡ new_frame [] [] b 0 ∷ []
unfolding frame_start
frame_start-frames b t = refl

pub frame_start-table : (b : Block) (t : Table) → (frame_start b t).table ≡ t
unfolding frame_start
frame_start-table b t = refl

pub frame_start-steps : (b : Block) (t : Table) → (frame_start b t).steps ≡ 0
unfolding frame_start
frame_start-steps b t = refl

pub ruleset parts = (with_frames-frames, with_frames-table, with_frames-steps, table_changed-frames, table_changed-table, table_changed-steps, stepped-frames, stepped-table, stepped-steps, continue-formals, continue-text, continue-next, continue-link, continue-words, rewritten-formals, rewritten-text, rewritten-next, rewritten-link, rewritten-words, new_frame-formals, new_frame-text, new_frame-next, new_frame-link, new_frame-words, frame_start-frames, frame_start-table, frame_start-steps)

-- the words of a new frame, and a frame's names, are as many as its formals and declarations
pub new_frame-length : (fs : List Formal) (xs : List ℕ) (b : Block) (k : ℕ) → length (new_frame fs xs b k).words ≡ length xs + length (block_decls b)
unfolding new_frame zero_words
new_frame-length fs xs b k = length-append (map pos xs) (map (λ (d : Decl). pos 0) (block_decls b)) ∙ simp length-map

pub frame_names-length : (f : Frame) → length (frame_names f) ≡ length f.formals + length (block_decls f.text)
unfolding frame_names formal_names declared_names
frame_names-length f = length-append (map (λ (x : Formal). x.name) f.formals) (map decl_name (block_decls f.text)) ∙ simp length-map
