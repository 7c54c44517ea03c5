-- One name that opens every definition that evaluating a script needs. Assumes nothing.
use Rattle.numbers.specs.Numbers.{fit_within}
use Rattle.ids.specs.Sets.{members_from, members_of}
use Rattle.kinds.specs.Kinds.{same_kind}
use Rattle.kinds.specs.Union.{mix_of, lub, union_of, union_all}
use Rattle.kinds.specs.Rules.{result_of, by_union, arith_of}
use Rattle.rules.specs.Words.{word_at}
use Rattle.rules.specs.Program.{code, listed_count, terminated, function_named, method_named, ivar_named, main_function, parameters, returns}
use Rattle.rules.specs.Reading as R
use Rattle.rules.specs.Uses.{uses}
use Rattle.rules.specs.Constructors.{end_of, walk, reverse_post_order, sets_of, flow, initialized, declared, first_kinds}
use Rattle.rules.specs.Machine as M
use Rattle.rules.specs.Bound.{bound}
use Rattle.rules.specs.Frames.{frame_line, frames, refusal_frame, analyze, live}
use Rattle.rules.specs.Steps.{arms, targets}
use Rattle.rules.specs.Finished.{good_block, good_function, good_instruction, within_limits}

unfoldable pub opened : Unit {0}
unfolding fit_within members_from members_of same_kind mix_of lub union_of union_all result_of by_union arith_of word_at code listed_count terminated function_named method_named ivar_named main_function parameters returns R.push_insn R.push R.new_block_of R.new_block R.new_fun R.new_class R.push_ivar R.phi R.join_vars R.peek R.pass R.next R.expect R.expect_ident R.match_token R.class_named R.meaning R.parse_arg R.parse_args R.get_self R.parse_ivar R.parse_name R.parse_group R.parse_primary R.parse_call R.create_instance R.send R.parse_member R.parse_right R.parse_suffix R.parse_expr R.parse_next R.parse_statements R.end_block R.parse_block R.parse_if R.parse_return R.statement_by R.parse_statement R.parse_param R.push_self R.push_params R.parse_fun R.parse_method R.parse_attr R.parse_class_member R.parse_class R.parse_top R.parse_program uses end_of walk reverse_post_order sets_of flow initialized declared first_kinds M.kind_of M.join_all M.classes_of M.push_insn M.push_block M.wake_if_wider M.store M.add_call M.pass_arguments M.flows_back M.flows_in M.leave M.get_ivar M.set_ivar M.rule M.visit M.go_live M.step M.run M.start bound frame_line frames refusal_frame analyze live arms targets good_block good_function good_instruction within_limits
opened = tt
