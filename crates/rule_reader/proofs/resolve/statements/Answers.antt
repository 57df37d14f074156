use Rattle.rule_reader.proofs.Common.{◌∙◌, arith, ap, length, refl, subst, sym, arguments_of, OpMeans, half_of, AreReady}
use Rattle.rule_reader.proofs.Counting.{counts_more, half_more, half_all}
use Rattle.rule_reader.proofs.Building.{place_within, ready_at, few_past}
use Rattle.rule_reader.proofs.resolve.statements.Goals as goal

pub loop-place-init : goal.loop-place-init
loop-place-init c = record { before = refl; means = rw c.new-statements.ensures tt }

pub op-meant-requires-clause-place : goal.op-meant-requires-clause-place
op-meant-requires-clause-place c =
    let long = ap length c.of-half_written.ensures in
    rw c.place.ensures (place_within c.args.rule.now c.args.half c.loop-place.place (omega (arith, long)))

pub op-meant-requires-clause-ready : goal.op-meant-requires-clause-ready
op-meant-requires-clause-ready c =
    let w = c.index-half_written-place.result in
    subst (λ p. AreReady c.args.rule.now p c.loop-place.before (arguments_of w.op)) (sym c.place.ensures)
    (ready_at c.args.rule.now c.requires.rule c.args.half c.of-half_written.result.now c.loop-place.place w c.loop-place.before c.requires.bound c.of-half_written.ensures (omega arith) c.index-half_written-place.is
    (rw c.of-half_written.ensures c.loop-place.invariant.before))

pub past_op-before-requires : goal.past_op-before-requires
past_op-before-requires c =
    let w = c.index-half_written-place.result in
    few_past c.args.rule.now c.requires.rule c.args.half c.of-half_written.result.now c.loop-place.place w c.loop-place.before c.of-half_written.ensures (omega arith) c.index-half_written-place.is
    (rw c.of-half_written.ensures c.loop-place.invariant.before)

pub loop-place-preserved : goal.loop-place-preserved
loop-place-preserved c =
    let raw = c.args.rule.now in
    let ws = half_of c.args.half raw in
    let long = ap length c.of-half_written.ensures in
    let w = c.index-half_written-place.result in
    let item = rw c.of-half_written.ensures at c.index-half_written-place.is in
    record {
      before = c.past_op-before.ensures ∙ counts_more ws c.loop-place.place w c.loop-place.before (omega (arith, long)) item c.loop-place.invariant.before;
      means = half_more raw c.args.names.now ws c.loop-place.place w c.loop-place.before c.loop-place.statements _ _ (omega (arith, long)) item c.loop-place.invariant.before c.loop-place.invariant.means c.in_ok-push.ensures.ok
          (c.in_ok-statement.ensures.name, subst (OpMeans raw c.args.names.now c.loop-place.before w.op) (sym c.in_ok-statement.ensures.op) c.op-meant.ensures);
    }

pub returns : goal.returns
returns c =
    let long = ap length c.of-half_written.ensures in
    half_all c.args.rule.now c.args.names.now (half_of c.args.half c.args.rule.now) c.loop-place.place c.loop-place.statements (omega (arith, long)) c.loop-place.invariant.means
