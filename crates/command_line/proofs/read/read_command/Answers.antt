use Rattle.command_line.proofs.Common.{◌∙◌, ap, sym, map, string_bytes, is_some, found_of, rows_of, command_and_rows}
use Rattle.command_line.proofs.KnownCommands.{taken_known, some_known, known_at}
use Rattle.command_line.proofs.read.read_command.Goals as goal

pub named-requires : goal.named-requires
named-requires c =
    let words = map string_bytes c.args.words.now in
    ap is_some c.in_ok-matches.ensures.rows ∙ some_known (command_and_rows words) (taken_known words c.in_ok-matches.ensures.taken)

pub read_named-requires : goal.read_named-requires
read_named-requires c =
    let words = map string_bytes c.args.words.now in
    known_at (command_and_rows words) (c.named.result.0.now, rows_of (found_of c.named.result.1.now)) (taken_known words c.in_ok-matches.ensures.taken)
    (sym c.in_ok-matches.ensures.rows ∙ c.named.ensures)
