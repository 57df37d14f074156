use Rattle.places.proofs.Common.{ap, ◌∙◌}
use Rattle.places.specs.Orders as numbers
use Rattle.places.proofs.Linking.{numbers-listing}
use Rattle.places.proofs.NodeWrites.{listing-own, on_err}
use Rattle.places.proofs.order.Order.put_before.Goals as goal

pub invariant_of-self : goal.invariant_of-self
invariant_of-self c = listing-own c.put_before.new.self.nodes.items 0 c.put_before.new.self.first _ c.in_err-number.ensures.err

pub returns-in_err-number-clause-err : goal.returns-in_err-number-clause-err
returns-in_err-number-clause-err c =
    on_err c.from_residual.result _ (numbers-listing c.put_before.new.self.nodes.items 0 c.put_before.new.self.first _ c.in_err-number.ensures.err ∙ c.self.view_is)

pub invariant_of-self-2 : goal.invariant_of-self-2
invariant_of-self-2 c = listing-own c.put_before.new.self.nodes.items 0 c.put_before.new.self.first _ c.in_ok-number.ensures.ok

pub returns-clause-ok : goal.returns-clause-ok
returns-clause-ok c =
    numbers-listing c.put_before.new.self.nodes.items 0 c.put_before.new.self.first _ c.in_ok-number.ensures.ok ∙ ap (λ l. numbers.put_before l c.args.at c.in_ok-number.number) c.self.view_is
