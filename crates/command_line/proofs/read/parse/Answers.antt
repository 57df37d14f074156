use Rattle.command_line.proofs.Common.{map, string_bytes, app_of, kind_of}
use Rattle.command_line.proofs.Parses.{taken_by, rows_by, untaken_by}
use Rattle.command_line.proofs.read.parse.Goals as goal

pub returns-in-Ok-clause-taken : goal.returns-in-Ok-clause-taken
returns-in-Ok-clause-taken c = taken_by (app_of c.in_ok-definition.definition) (map string_bytes c.args.words.now) c.in_ok-definition.ensures c.in-Ok.ensures.kinds

pub returns-in-Ok-clause-rows : goal.returns-in-Ok-clause-rows
returns-in-Ok-clause-rows c = rows_by (app_of c.in_ok-definition.definition) (map string_bytes c.args.words.now) c.in_ok-definition.ensures c.in-Ok.matches c.in-Ok.ensures.matches

pub returns-in-Err-clause-usage : goal.returns-in-Err-clause-usage
returns-in-Err-clause-usage c = untaken_by (app_of c.in_ok-definition.definition) (map string_bytes c.args.words.now) c.in_ok-definition.ensures c.usage.result (kind_of c.in-Err.error) c.in-Err.ensures.passes c.usage.ensures
