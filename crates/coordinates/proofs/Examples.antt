-- Sample script B after nine steps: procedure 6 runs, declared in activation 2 and called from activation 3. Its chain passes by
-- activation 3, and its name 5 is at level 2, position 2.
use Rattle.std.specs.Prelude.{ℕ, List, [], ◌∷◌, map, ◌≡◌, refl, ℤ, take, drop}
use Rattle.std.proofs.Math.Option
use Rattle.std.proofs.Math.Option.{Option, some}
use Rattle.language.specs.Check.{Checked, accepted, refused, check}
use Rattle.language.specs.Samples.{no_pairs, script-B}
use Rattle.language.specs.Evaluation.{computed}
use Rattle.frames.specs.Frame.{Frame, with_frames, table_changed, frame_cost, stepped, continue, rewritten, numbered, frame_names, position_from, seek_from, seek_name, designator_in, finally, designates, links_followed, frame_number, place, decl_of, kind_of, word_at, put_word, map_action, zero_words, new_frame, push_frame, call_by, go_to, put, put_if_fits, as_acted, as_put, add_to, remove_from, ask, act, act_stmt, frame_stmt, advance_frame, act_in, frame_step, frame_offset, results, frame_run_within, frame_run, frame_start}
use Rattle.coordinates.specs.Enclosure.{Enclosing, Coordinate, names_of, coordinate_of}
use Rattle.coordinates.specs.Chain.{enclosing, outline, along, chain_of, enclosure_of, climb, display_from, display_of}
use Rattle.coordinates.specs.Made.{wiring, passed, body_of, action_makes, stmt_makes, makes}

unfoldable pub frames_after : ℕ → Checked → List Frame
frames_after n (accepted t) = (frame_run (record { activations = 16; limit = 3 }) n (frame_start t (record { words = no_pairs 8; used = 0 }))).final.frames
frames_after n (refused c o) = []

-- The definitions of the frame machine and of its chains, to be computed with those of `computed`.
unfoldable pub framed : Unit {0}
unfolding frames_after no_pairs with_frames table_changed frame_cost stepped continue rewritten numbered frame_names position_from seek_from seek_name designator_in finally designates links_followed frame_number place decl_of kind_of word_at put_word map_action zero_words new_frame push_frame call_by go_to put put_if_fits as_acted as_put add_to remove_from ask act act_stmt frame_stmt advance_frame act_in frame_step frame_offset results frame_run_within frame_run frame_start names_of coordinate_of enclosing along chain_of enclosure_of climb display_from display_of
framed = tt

pub record Seen : Type 0 where
  pub chain : List ℕ
  pub display : List ℕ
  pub coordinate : Option Coordinate
  pub reached : ℕ
  pub designator : ℕ

look : List Frame → Seen
look fs = record { chain = chain_of fs 4; display = display_of fs; coordinate = coordinate_of (enclosure_of fs 4) 5; reached = climb fs 4 1; designator = designates fs 5 }

sample-B : look (frames_after 9 (check script-B))
    ≡ record { chain = 4 ∷ 2 ∷ 1 ∷ []; display = 1 ∷ 2 ∷ 4 ∷ []; coordinate = some (record { level = 2; position = 2 }); reached = 2; designator = 130 }
unfolding computed framed script-B look
sample-B = refl

-- what is made by the statement that each of three frames has passed last, and the frames that stand above
unfoldable making : List Frame → List (Option ((Enclosing × ℕ) × List ℤ))
making fs = map (λ k. Option.map wiring (makes (take k fs))) (1 ∷ 2 ∷ 3 ∷ [])

made-B : making (frames_after 9 (check script-B)) ≡ map (λ f. some (wiring f)) (drop 1 (frames_after 9 (check script-B)))
unfolding computed framed script-B making wiring passed body_of action_makes stmt_makes makes outline
made-B = refl
