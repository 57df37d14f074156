use Rattle.scan.proofs.Common.{◌≡◌, ◌+◌, subst, arith, take_rest, between, Place, IsNextRuleToken, IsBadNext, in_operator_place}
use Rattle.scan.proofs.PlaceLemmas.{Behind, feeds_between, ends_or_not, ends_within, next_bad, next_token, in_place, in_no_place}
use Rattle.scan.proofs.cursor.Cursor.next_rule_token.Goals as goal
use Rattle.scan.proofs.cursor.Cursor.next_rule_token.Goals.{then-operator, else-operator}

pub returns-in_default-clause-bad : goal.returns-in_default-clause-bad
returns-in_default-clause-bad c =
    let behind : Behind c.self.inside.text.now c.self.inside.at c.gap_end-start.result.0 = record { order = c.gap_end-start.ensures.order; gap = c.gap_end-start.ensures.gap; last = c.gap_end-start.ensures.last } in
    subst (λ (p : Place). IsBadNext p.text p.at (c.self.inside.feeds + c.gap_end-start.result.1 + 1)) c.self.view_is
    (next_bad c.self.inside.text.now c.self.inside.at c.gap_end-start.result.0 c.self.inside.feeds c.gap_end-start.result.1 behind c.self.invariant.1 c.gap_end-start.ensures.feeds (rw take_rest at c.in_default.ensures))

pub token_line-line-requires-clause-before : goal.token_line-line-requires-clause-before
token_line-line-requires-clause-before c = omega (arith, c.self.invariant.1, c.gap_end-start.ensures.feeds, feeds_between c.self.inside.text.now c.self.inside.at c.gap_end-start.result.0 c.gap_end-start.ensures.order.0)

pub token_line-line-requires-clause-within : goal.token_line-line-requires-clause-within
token_line-line-requires-clause-within c = ends_or_not c.if-operator.front c.self.inside.text.now c.gap_end-start.result.0 c.in-Some.kind c.in-Some.length c.gap_end-start.ensures.order.1 (rw take_rest at c.in-Some.ensures)

pub invariant_of-self : goal.invariant_of-self
invariant_of-self c = (
  ends_within c.if-operator.front c.self.inside.text.now c.gap_end-start.result.0 c.in-Some.kind c.in-Some.length c.gap_end-start.ensures.order.1 (rw take_rest at c.in-Some.ensures),
  omega (
    arith,
    c.self.invariant.1,
    c.gap_end-start.ensures.feeds,
    c.feeds.ensures,
    feeds_between c.self.inside.text.now c.self.inside.at c.gap_end-start.result.0 c.gap_end-start.ensures.order.0,
    feeds_between c.self.inside.text.now c.gap_end-start.result.0 (c.gap_end-start.result.0 + c.in-Some.length) (omega arith),
  ),
)

pub returns-clause-token : goal.returns-clause-token
returns-clause-token c =
    let behind : Behind c.self.inside.text.now c.self.inside.at c.gap_end-start.result.0 = record { order = c.gap_end-start.ensures.order; gap = c.gap_end-start.ensures.gap; last = c.gap_end-start.ensures.last } in
    let place : c.if-operator.front ≡ in_operator_place c.args.operator (between c.self.inside.text.now c.self.inside.at c.gap_end-start.result.0) = elim c.if-operator.branch [
      | then-operator w ↦ in_place c.args.operator c.if-operator.front (between c.self.inside.text.now c.self.inside.at c.gap_end-start.result.0) c.gap_end-start.result.1 w.if-operator.true c.gap_end-start.ensures.feeds w.front-is
      | else-operator w ↦ in_no_place c.args.operator c.if-operator.front (between c.self.inside.text.now c.self.inside.at c.gap_end-start.result.0) w.if-operator.false w.front-is
    ] in
    subst (λ (p : Place). IsNextRuleToken c.args.operator p.text p.at (record { kind = c.in-Some.kind; line = c.token_line-line.result; span = record { start = c.gap_end-start.result.0; end = c.gap_end-start.result.0 + c.in-Some.length } })) c.self.view_is
    (next_token c.args.operator c.if-operator.front c.self.inside.text.now c.self.inside.at c.gap_end-start.result.0 c.in-Some.length c.token_line-line.result c.in-Some.kind behind place (rw take_rest at c.in-Some.ensures) c.token_line-line.ensures)
