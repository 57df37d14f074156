use Rattle.rule_tokens.proofs.Common.{◌≤◌, ◌∙◌, sym, [], ◌∷◌, length, arith, map_push, rest_within, seen, seen_token, AtName, AtToken, Bad, bad_name}
use Rattle.rule_tokens.proofs.Tokenising.{SoFar, token_moves, token_read, name_read, end_read, bad_read, place_name, place_token}
use Rattle.rule_tokens.proofs.tokens.tokens_of.Goals as goal

pub returns-in-Err : goal.returns-in-Err
returns-in-Err c = bad_read c.loop-token.cursor.text c.args.text.now c.loop-token.context c.loop-token.cursor.at c.loop-token.before _ (seen c.loop-token.tokens.items) _ c.loop-token.invariant.text c.loop-token.invariant.so_far c.in-Err.ensures.bad c.in_ok-push-in-Err.ensures

pub returns-in_default : goal.returns-in_default
returns-in_default c = end_read c.loop-token.cursor.text c.args.text.now c.loop-token.context c.loop-token.cursor.at c.loop-token.before (seen c.loop-token.tokens.items) c.in-Ok.token c.loop-token.invariant.text c.loop-token.invariant.so_far c.in-Ok.ensures.token c.in_default.ensures.end

pub returns-in-Err-name : goal.returns-in-Err-name
returns-in-Err-name c =
    let so_far : SoFar c.args.text.now (AtName c.loop-token.context) c.next_rule_token.new.self.at c.in-Ok.token.line (seen c.push-in-loop-token.new.tokens.items)
    = token_read c.loop-token.cursor.text c.args.text.now c.loop-token.context c.loop-token.cursor.at c.next_rule_token.new.self.at c.loop-token.before (seen c.loop-token.tokens.items) _ c.in-Ok.token (seen_token c.in-Some.found) c.bytes-bytes.result.now c.is_called-called.result (AtName c.loop-token.context) c.loop-token.invariant.text c.loop-token.invariant.so_far c.in-Ok.ensures.token c.in-Some.ensures.other c.bytes-bytes.ensures c.is_called-called.ensures c.in-Some.ensures.token (place_name c.loop-token.context c.in-Ok.token.kind c.bytes-bytes.result.now (sym c.is.ensures ∙ c.if-is.true)) c.in_ok-push.ensures c.in-Ok.ensures.goes in
    rw (c.in_ok-push-in-Err-name.ensures.items, map_push) (so_far (Bad ∷ []) _ (bad_name c.in-Err-name.ensures.bad))

pub loop-token-preserved-then-is : goal.loop-token-preserved-then-is
loop-token-preserved-then-is c =
    let so_far : SoFar c.args.text.now (AtName c.loop-token.context) c.next_rule_token.new.self.at c.in-Ok.token.line (seen c.push-in-loop-token.new.tokens.items)
    = token_read c.loop-token.cursor.text c.args.text.now c.loop-token.context c.loop-token.cursor.at c.next_rule_token.new.self.at c.loop-token.before (seen c.loop-token.tokens.items) _ c.in-Ok.token (seen_token c.in-Some.found) c.bytes-bytes.result.now c.is_called-called.result (AtName c.loop-token.context) c.loop-token.invariant.text c.loop-token.invariant.so_far c.in-Ok.ensures.token c.in-Some.ensures.other c.bytes-bytes.ensures c.is_called-called.ensures c.in-Some.ensures.token (place_name c.loop-token.context c.in-Ok.token.kind c.bytes-bytes.result.now (sym c.is.ensures ∙ c.if-is.true)) c.in_ok-push.ensures c.in-Ok.ensures.goes in
    let within : c.next_rule_token.new.self.at ≤ length c.args.text.now = rw (c.in-Ok.ensures.goes, ← c.loop-token.invariant.text) c.in-Ok.ensures.token.order.2 in
    record {
      text = c.in-Ok-name.ensures.text;
      within = rw c.in-Ok-name.ensures.goes (rest_within c.args.text.now c.next_rule_token.new.self.at within);
      so_far = rw (c.in_ok-push-in-Ok-name.ensures.items, map_push, c.in-Ok-name.ensures.goes, c.behind_name-context.ensures) (name_read c.args.text.now c.loop-token.context c.next_rule_token.new.self.at c.in-Ok.token.line (seen c.push-in-loop-token.new.tokens.items) (seen_token c.in-Ok-name.name) so_far c.in-Ok-name.ensures.name);
    }

pub loop-token-smaller : goal.loop-token-smaller
loop-token-smaller c =
    let within : c.next_rule_token.new.self.at ≤ length c.args.text.now = rw (c.in-Ok.ensures.goes, ← c.loop-token.invariant.text) c.in-Ok.ensures.token.order.2 in
    omega (arith, token_moves c.loop-token.context.operator c.loop-token.cursor.text c.loop-token.cursor.at c.in-Ok.token c.in-Ok.ensures.token c.in-Some.ensures.other, c.in-Ok.ensures.goes)

pub loop-token-preserved : goal.loop-token-preserved
loop-token-preserved c = record {
  text = c.in-Ok.ensures.text ∙ c.loop-token.invariant.text;
  within = rw (c.in-Ok.ensures.goes, ← c.loop-token.invariant.text) c.in-Ok.ensures.token.order.2;
  so_far = token_read c.loop-token.cursor.text c.args.text.now c.loop-token.context c.loop-token.cursor.at c.next_rule_token.new.self.at c.loop-token.before (seen c.loop-token.tokens.items) _ c.in-Ok.token (seen_token c.in-Some.found) c.bytes-bytes.result.now c.is_called-called.result (AtToken c.behind-context.result) c.loop-token.invariant.text c.loop-token.invariant.so_far c.in-Ok.ensures.token c.in-Some.ensures.other c.bytes-bytes.ensures c.is_called-called.ensures c.in-Some.ensures.token (place_token c.loop-token.context c.behind-context.result c.in-Ok.token.kind c.bytes-bytes.result.now (sym c.is.ensures ∙ c.if-is.false) c.behind-context.ensures) c.in_ok-push.ensures c.in-Ok.ensures.goes;
}
