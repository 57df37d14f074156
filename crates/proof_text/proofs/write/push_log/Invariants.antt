use Rattle.proof_text.proofs.Common.{◌≡◌, ◌++◌, take, length, flat_map, codes, numeral, step_text}
use Rattle.proof_text.proofs.write.push_log.Given as goal

abbrev pub invariant-loop-step : goal.invariant-loop-step
invariant-loop-step l = l.out.items ≡ ((l.fn.out.items ++ codes "log ") ++ numeral (length l.log)) ++ codes "\n" ++ flat_map step_text (take l.step-index l.log)
