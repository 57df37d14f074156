-- the tokens are those that the reader has passed since the call
use Rattle.ir_reader.proofs.Common.{ℕ, ◌-◌, List, ◌++◌, length, StandsIn, HasPassed, seen, Placed}
use Rattle.ir_reader.proofs.following.take_rest.Given as goal

abbrev pub invariant-loop-behind : goal.invariant-loop-behind
invariant-loop-behind l = record {
  stands : StandsIn l.fn.reader.text.now l.reader;
  passed : (text : List ℕ) (front : List Placed) → HasPassed text (front ++ seen l.initial.tokens.items) l.fn.reader → HasPassed text (front ++ seen l.tokens.items) l.reader;
}

abbrev pub decreases-loop-behind : goal.decreases-loop-behind
decreases-loop-behind l = length l.fn.reader.text.now - l.reader.cursor.at
