-- All definitions of the call, to be computed: whoever unfolds `computed` unfolds each of them.
use Rattle.language.specs.Numbers.{answer_words}
use Rattle.language.specs.Basics.{among, lookup, zip, up_from, last?, but_last, eq_z}
use Rattle.language.specs.Text.{decls, stmts, block_at, block_decls, block_stmts, stmt_at, decl_name, decl_kind, label_index, decl_formals, decl_body, formal_names, formal_kinds, declared_names, same_kind}
use Rattle.language.specs.Encoding.{kind_field, operation_field, unsigned, signed, action_fields, formals_fields, block_fields, bytes_of, fields_of, encode}
use Rattle.language.specs.Structure.{◌>>=◌, ◌>>◌, give, here, require, fields, block_marks, formal_marks, decl_marks, stmt_marks, fit, take-record, kind, operation, formals, declared, declarations, action, stated, statements, block_with, program}
use Rattle.language.specs.Scope.{formal_meaning, decl_meaning, inside, ◌then◌, of_kind, uses, visible, all_visible, kind_in, agree, agrees, judge_action, judge_block}
use Rattle.language.specs.Check.{length_fits, judged, ended, check}
use Rattle.language.specs.Table.{find, is_some, holds, members, size, at_least_one, numbers_right, none_twice, groups_within, right, full, add, take_out, fewer, remove, added, removed, queried}
use Rattle.language.specs.Groups.{list_words, list_fits, in_use, all_above, groups_rise, none_empty, none_in_use, unused_last, numbers_true, number_of, groups_there, list_right, raise, tallied, filled, group_list, relisted}
use Rattle.language.specs.Copy.{renamed, without, rename_action, rename_block}
use Rattle.language.specs.Machine.{with_live, with_table, cost, counted, resume, store, value, zeros, own_names, activation, enter, declared_at, instance_from, instance, kind_at, enter_if_room, call, jump, compute, store_if_fits, as_done, as_stored, add_pair, remove_pair, query_pair, do_action, do_stmt, next_stmt, advance, step_in, step, next_offset, ends, run_within, run, start}
use Rattle.language.specs.Sheet.{designator, decl_word, activation_words, words_of, sheet_words, seek, looked_up, looked_up_designator, looked_up_links}
use Rattle.language.specs.Call.{limits_fit, holds_at_least, sheet_fits, records_fit, area_fits, first_failing, tests_before, tests_after, admission, turned_away, links_of, written, replied, run_of, reply}

unfoldable pub computed : Unit {0}
unfolding among lookup zip up_from last? but_last eq_z decls stmts block_at block_decls block_stmts stmt_at decl_name decl_kind label_index decl_formals decl_body formal_names formal_kinds declared_names same_kind kind_field operation_field unsigned signed action_fields formals_fields block_fields bytes_of fields_of encode ◌>>=◌ ◌>>◌ give here require fields block_marks formal_marks decl_marks stmt_marks fit take-record kind operation formals declared declarations action stated statements block_with program formal_meaning decl_meaning inside ◌then◌ of_kind uses visible all_visible kind_in agree agrees judge_action judge_block length_fits judged ended check find is_some holds members size at_least_one numbers_right none_twice groups_within right full add take_out fewer remove added removed queried list_words list_fits in_use all_above groups_rise none_empty none_in_use unused_last numbers_true number_of groups_there list_right raise tallied filled group_list relisted renamed without rename_action rename_block with_live with_table cost counted resume store value zeros own_names activation enter declared_at instance_from instance kind_at enter_if_room call jump compute store_if_fits as_done as_stored add_pair remove_pair query_pair do_action do_stmt next_stmt advance step_in step next_offset ends run_within run start designator decl_word activation_words words_of sheet_words seek looked_up looked_up_designator looked_up_links limits_fit holds_at_least sheet_fits records_fit area_fits first_failing tests_before tests_after admission turned_away links_of written replied run_of reply answer_words
computed = tt
