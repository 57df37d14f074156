use Rattle.alive_top.proofs.Following.{done, usage, refused, argument, logs, read_fault, write_fault, one_put, complete}
use Rattle.alive_top.proofs.Taking.{taken_not_refused}
use Rattle.alive_top.proofs.top.alive.Goals as goal

pub returns-clause-done : goal.returns-clause-done
returns-clause-done g c = done _ _ _ _ _ _ _ c.run_words.result c.words_say_one_command.ensures.one (rw c.as_slice.ensures.value at c.run_words.ensures.ends)

pub returns-clause-usage : goal.returns-clause-usage
returns-clause-usage g c = usage _ _ _ _ _ _ _ c.run_words.result (rw c.as_slice.ensures.value at c.run_words.ensures.ends)

pub returns-clause-refused : goal.returns-clause-refused
returns-clause-refused g c = refused _ _ _ _ _ _ _ c.run_words.result c.words_say_one_command.ensures.one (rw c.as_slice.ensures.value at c.run_words.ensures.ends)

pub returns-clause-argument : goal.returns-clause-argument
returns-clause-argument g c = argument _ _ _ _ _ _ _ c.run_words.result (taken_not_refused c.every_text_has_one_list_or_one_fault.ensures c.every_text_has_one_module_or_one_fault.ensures) c.every_run_has_its_function_and_arguments.ensures c.words_say_one_command.ensures.one (rw c.as_slice.ensures.value at c.run_words.ensures.ends)

pub returns-clause-logs : goal.returns-clause-logs
returns-clause-logs g c = logs _ _ _ _ _ _ _ c.run_words.result (taken_not_refused c.every_text_has_one_list_or_one_fault.ensures c.every_text_has_one_module_or_one_fault.ensures) c.every_text_has_one_list_or_one_fault.ensures c.texts_have_proofs_or_a_fault.ensures c.words_say_one_command.ensures.one (rw c.as_slice.ensures.value at c.run_words.ensures.ends)

pub returns-clause-read_fault : goal.returns-clause-read_fault
returns-clause-read_fault g c = read_fault _ _ _ _ _ _ _ c.run_words.result (rw c.as_slice.ensures.value at c.run_words.ensures.ends)

pub returns-clause-write_fault : goal.returns-clause-write_fault
returns-clause-write_fault g c = write_fault _ _ _ _ _ _ _ c.run_words.result (rw c.as_slice.ensures.value at c.run_words.ensures.ends)

pub returns-clause-one_put : goal.returns-clause-one_put
returns-clause-one_put g c = one_put _ _ _ _ _ _ _ c.run_words.result (rw c.as_slice.ensures.value at c.run_words.ensures.ends)

pub returns-clause-complete : goal.returns-clause-complete
returns-clause-complete g c = complete _ _ _ _ _ _ _ c.run_words.result (taken_not_refused c.every_text_has_one_list_or_one_fault.ensures c.every_text_has_one_module_or_one_fault.ensures) (rw c.as_slice.ensures.value at c.run_words.ensures.ends)
