-- The sample table of the definitions, computed on frames.
use Rattle.std.specs.Prelude.{◌≡◌, refl, map}
use Rattle.language.specs.Call.{Reply}
use Rattle.language.specs.Samples.{Sample, Party, fed, wanted, replies, samples, tabled}
use Rattle.language.specs.Evaluation.{computed}
use Rattle.frames.specs.Frame.{with_frames, table_changed, frame_cost, stepped, continue, rewritten, numbered, frame_names, position_from, seek_from, seek_name, designator_in, finally, designates, links_followed, frame_number, place, decl_of, kind_of, word_at, put_word, map_action, zero_words, new_frame, push_frame, call_by, go_to, put, put_if_fits, as_acted, as_put, add_to, remove_from, ask, act, act_stmt, frame_stmt, advance_frame, act_in, frame_step, frame_offset, results, frame_run_within, frame_run, frame_start, frame_words, frame_sheet, frame_replied, frame_run_of, frame_reply}

got_frames : Sample → Party → Reply
got_frames r p = frame_reply p.engine (fed r)

frames-agree : map (replies got_frames) samples ≡ map (replies wanted) samples
unfolding got_frames computed tabled with_frames table_changed frame_cost stepped continue rewritten numbered frame_names position_from seek_from seek_name designator_in finally designates links_followed frame_number place decl_of kind_of word_at put_word map_action zero_words new_frame push_frame call_by go_to put put_if_fits as_acted as_put add_to remove_from ask act act_stmt frame_stmt advance_frame act_in frame_step frame_offset results frame_run_within frame_run frame_start frame_words frame_sheet frame_replied frame_run_of frame_reply
frames-agree = refl
