use Rattle.ir_tokens.proofs.Common.{◌∙◌, sym, arith, map_push, last, seen_placed}
use Rattle.ir_tokens.specs.SeenTokens.{seen}
use Rattle.ir_tokens.proofs.Moving.{token_moves, token_within}
use Rattle.ir_tokens.proofs.Reading.{token_read}
use Rattle.ir_tokens.proofs.tokens.tokens_of.Goals as goal

pub returns-then-is_last : goal.returns-then-is_last
returns-then-is_last c =
    rw (c.in_ok-push.ensures.items, map_push) (c.loop-tokens.invariant.so_far _ (last c.next-placed.ensures.token (sym c.is_last.ensures ∙ c.if-is_last.true)))

pub loop-tokens-smaller : goal.loop-tokens-smaller
loop-tokens-smaller c =
    omega (arith, token_moves c.next-placed.ensures.token (sym c.is_last.ensures ∙ c.if-is_last.false), token_within c.loop-tokens.invariant.within c.next-placed.ensures.token)

pub loop-tokens-preserved : goal.loop-tokens-preserved
loop-tokens-preserved c = record {
  text = c.next-placed.ensures.text;
  within = token_within c.loop-tokens.invariant.within c.next-placed.ensures.token;
  so_far = rw (c.in_ok-push.ensures.items, map_push, c.place_behind-place.ensures)
      (token_read c.args.text.now c.loop-tokens.place c.loop-tokens.cursor.at c.next-placed.new.cursor.at (seen c.loop-tokens.tokens.items) (seen_placed c.next-placed.result) c.loop-tokens.invariant.so_far c.next-placed.ensures.token (sym c.is_last.ensures ∙ c.if-is_last.false));
}
