use Rattle.scan.proofs.Common.{[], length, take, sym, ◌∙◌, arith, length-take, eqb-false}
use Rattle.scan.proofs.ModuleTokens.{begins_other, short_holds_none}
use Rattle.scan.proofs.ir.front.front.Goals as goal

pub returns-then-is_empty-clause-no_zero : goal.returns-then-is_empty-clause-no_zero
returns-then-is_empty-clause-no_zero c = short_holds_none [] (omega arith)

pub returns-then-found-eq0-clause-token : goal.returns-then-found-eq0-clause-token
returns-then-found-eq0-clause-token c =
    begins_other c.args.text.now _ _ c.in_ok-found.ensures.token c.if-found-eq0.true
    (eqb-false (length c.args.text.now) 0 (sym c.is_empty.ensures ∙ c.if-is_empty.false)) c.in_ok-found.ensures.good c.requires

pub returns-then-found-eq0-clause-no_zero : goal.returns-then-found-eq0-clause-no_zero
returns-then-found-eq0-clause-no_zero c = short_holds_none (take 1 c.args.text.now) (omega (arith, length-take 1 c.args.text.now))
