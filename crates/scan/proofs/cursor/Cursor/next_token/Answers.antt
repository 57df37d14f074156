use Rattle.scan.proofs.Common.{◌≡◌, ◌+◌, take, subst, arith, take_rest, feeds, Place, IsNextToken, IsBadToken}
use Rattle.scan.proofs.PlaceLemmas.{Behind, feeds_between}
use Rattle.scan.proofs.ModulePlaces.{ends_or_not, next_bad, next_token}
use Rattle.scan.proofs.TokenLines.{token_feeds}
use Rattle.scan.proofs.cursor.Cursor.next_token.Goals as goal

pub returns-in_default-clause-bad : goal.returns-in_default-clause-bad
returns-in_default-clause-bad c =
    let behind : Behind c.self.inside.text.now c.self.inside.at c.gap_end-start.result.0 = record { order = c.gap_end-start.ensures.order; gap = c.gap_end-start.ensures.gap; last = c.gap_end-start.ensures.last } in
    let before : c.self.inside.feeds + c.gap_end-start.result.1 ≡ feeds (take c.gap_end-start.result.0 c.self.inside.text.now) = omega (arith, c.self.invariant.1, c.gap_end-start.ensures.feeds, feeds_between c.self.inside.text.now c.self.inside.at c.gap_end-start.result.0 c.gap_end-start.ensures.order.0) in
    subst (λ (p : Place). IsBadToken p.text p.at (c.self.inside.feeds + c.gap_end-start.result.1 + 1)) c.self.view_is
    (next_bad c.self.inside.text.now c.self.inside.at c.gap_end-start.result.0 (c.self.inside.feeds + c.gap_end-start.result.1) behind before (rw take_rest at c.in_default.ensures.bad))

pub ir_token_line-line-requires-clause-before : goal.ir_token_line-line-requires-clause-before
ir_token_line-line-requires-clause-before c = omega (arith, c.self.invariant.1, c.gap_end-start.ensures.feeds, feeds_between c.self.inside.text.now c.self.inside.at c.gap_end-start.result.0 c.gap_end-start.ensures.order.0)

pub ir_token_line-line-requires-clause-within : goal.ir_token_line-line-requires-clause-within
ir_token_line-line-requires-clause-within c = (ends_or_not c.self.inside.text.now c.gap_end-start.result.0 c.in-Some.kind c.in-Some.length c.gap_end-start.ensures.order.1 (rw take_rest at c.in-Some.ensures.token)).1

pub invariant_of-self : goal.invariant_of-self
invariant_of-self c = (
  (ends_or_not c.self.inside.text.now c.gap_end-start.result.0 c.in-Some.kind c.in-Some.length c.gap_end-start.ensures.order.1 (rw take_rest at c.in-Some.ensures.token)).0,
  omega (
    arith,
    c.self.invariant.1,
    c.gap_end-start.ensures.feeds,
    token_feeds c.self.inside.text.now c.gap_end-start.result.0 c.in-Some.kind c.in-Some.length (rw take_rest at c.in-Some.ensures.token),
    feeds_between c.self.inside.text.now c.self.inside.at c.gap_end-start.result.0 c.gap_end-start.ensures.order.0,
    feeds_between c.self.inside.text.now c.gap_end-start.result.0 (c.gap_end-start.result.0 + c.in-Some.length) (omega arith),
  ),
)

pub returns-clause-token : goal.returns-clause-token
returns-clause-token c =
    let behind : Behind c.self.inside.text.now c.self.inside.at c.gap_end-start.result.0 = record { order = c.gap_end-start.ensures.order; gap = c.gap_end-start.ensures.gap; last = c.gap_end-start.ensures.last } in
    subst (λ (p : Place). IsNextToken p.text p.at (record { kind = c.in-Some.kind; line = c.ir_token_line-line.result; span = record { start = c.gap_end-start.result.0; end = c.gap_end-start.result.0 + c.in-Some.length } })) c.self.view_is
    (next_token c.self.inside.text.now c.self.inside.at c.gap_end-start.result.0 c.in-Some.length c.ir_token_line-line.result c.in-Some.kind behind (rw take_rest at c.in-Some.ensures.token) (rw take_rest at c.in-Some.ensures.no_zero) c.ir_token_line-line.ensures)
