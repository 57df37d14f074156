use Rattle.rule_tokens.proofs.Common.{◌≡◌, ◌-◌, ◌≤◌, length, seen, AtToken}
use Rattle.rule_tokens.proofs.Tokenising.{SoFar}
use Rattle.rule_tokens.proofs.tokens.tokens_of.Given as goal

abbrev pub invariant-loop-token : goal.invariant-loop-token
invariant-loop-token l = record {
  text : l.cursor.text ≡ l.text;
  within : l.cursor.at ≤ length l.text;
  so_far : SoFar l.text (AtToken l.context) l.cursor.at l.before (seen l.tokens.items);
}

abbrev pub decreases-loop-token : goal.decreases-loop-token
decreases-loop-token l = length l.text - l.cursor.at
