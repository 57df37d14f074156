use Rattle.ir_printer.proofs.Common.{◌≡◌, ◌++◌, take, flat_map, flag_text}
use Rattle.ir_printer.proofs.word.push_each_flag.Given as goal

abbrev pub invariant-loop-flag : goal.invariant-loop-flag
invariant-loop-flag l = l.out.items ≡ l.fn.out.items ++ flat_map (flag_text l.flags) (take l.flag-index l.each)
