-- the statements so far are resolved, with the counts behind them
use Rattle.rule_reader.proofs.Common.{◌≡◌, take, past_all, counted_among, no_counts, HalfMeans, half_of}
use Rattle.rule_reader.proofs.resolve.statements.Given as goal

abbrev pub invariant-loop-place : goal.invariant-loop-place
invariant-loop-place l =
    record {
      before : l.before ≡ past_all no_counts (counted_among (take l.place (half_of l.half l.rule)));
      means : HalfMeans l.rule l.names (take l.place (half_of l.half l.rule)) l.statements;
    }
