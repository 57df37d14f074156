use Rattle.blast_setting.proofs.Common.{◌≡◌, take, named_widths}
use Rattle.blast_setting.proofs.named.named_widths.Given as goal

abbrev pub invariant-loop-k : goal.invariant-loop-k
invariant-loop-k l = l.widths.items ≡ take l.k (named_widths l.typing l.statements l.kind l.count)
