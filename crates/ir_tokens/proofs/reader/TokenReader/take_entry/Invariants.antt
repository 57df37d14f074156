-- the tokens read so far are appended to those that were there, and behind none of them an entry may begin
use Rattle.ir_tokens.proofs.Common.{◌≡◌, ◌≤◌, ℕ, List, ◌++◌, ◌-◌, length, HasPassed, Placed}
use Rattle.ir_tokens.specs.declared.token.Placed.{Placed as ScannedPlaced}
use Rattle.ir_tokens.specs.SeenTokens.{seen}
use Rattle.ir_tokens.proofs.OneEntry.{Within}
use Rattle.ir_tokens.proofs.Reading.{SoFar}
use Rattle.ir_tokens.proofs.reader.TokenReader.take_entry.Given as goal

abbrev pub invariant-loop-text : goal.invariant-loop-text
invariant-loop-text l = record {
  cursor : l.cursor.text ≡ l.fn.self.text.now;
  within : l.cursor.at ≤ length l.fn.self.text.now;
  goes : l.fn.self.cursor.at ≤ l.cursor.at;
  entry : (taken : List ScannedPlaced) × (l.tokens.items ≡ l.initial.tokens.items ++ taken) × Within l.fn.self.place (seen taken) l.place;
  so_far : (text : List ℕ) (front : List Placed) → HasPassed text (front ++ seen l.initial.tokens.items) l.fn.self → SoFar text l.place l.cursor.at (front ++ seen l.tokens.items);
}

abbrev pub decreases-loop-text : goal.decreases-loop-text
decreases-loop-text l = length l.fn.self.text.now - l.cursor.at
