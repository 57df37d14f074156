use Rattle.command_line.proofs.Common.{◌≡◌, ◌∙◌, Bool, true, false, Some, codes, if◌then◌else◌, found_of, one_text, rows_of, one_text-rows, HasFlag}
use Rattle.command_line.proofs.read.flag_of.Goals as goal

pub returns : goal.returns
returns c = by c.requires.0 c.requires.1 (one_text-rows (found_of c.args.found.now) c.args.argument.now ∙ (c.requires.2 ∙ c.requires.1))
  where
    by : (flag : Bool) → HasFlag (rows_of (found_of c.args.found.now)) c.args.argument.now flag
        → one_text (found_of c.args.found.now) c.args.argument.now ≡ Some (if flag then codes "true" else codes "false")
        → HasFlag (rows_of (found_of c.args.found.now)) c.args.argument.now c.get_flag.result
    by true has is = rw (c.get_flag.ensures.value is) has
    by false has is = rw (c.get_flag.ensures.other is) has
