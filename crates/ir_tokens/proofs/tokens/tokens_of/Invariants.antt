use Rattle.ir_tokens.proofs.Common.{◌≡◌, ◌-◌, ◌≤◌, length}
use Rattle.ir_tokens.specs.SeenTokens.{seen}
use Rattle.ir_tokens.proofs.Reading.{SoFar}
use Rattle.ir_tokens.proofs.tokens.tokens_of.Given as goal

abbrev pub invariant-loop-tokens : goal.invariant-loop-tokens
invariant-loop-tokens l = record {
  text : l.cursor.text ≡ l.text;
  within : l.cursor.at ≤ length l.text;
  so_far : SoFar l.text l.place l.cursor.at (seen l.tokens.items);
}

abbrev pub decreases-loop-tokens : goal.decreases-loop-tokens
decreases-loop-tokens l = length l.text - l.cursor.at
