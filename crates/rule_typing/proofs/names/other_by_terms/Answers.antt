use Rattle.rule_typing.proofs.Common.{get_or, pos, ◌≡◌, ℕ, Some, Term, term_naming}
use Rattle.rule_core.specs.declared.rule.Node.TheVariants as nodes
use Rattle.rule_typing.proofs.Walks.{stands_still, other_here, none_other}
use Rattle.rule_typing.proofs.Among.{one_further}
use Rattle.rule_typing.proofs.names.other_by_terms.Goals as goal

-- the default for a place without a node
abbrev none_term : Term
none_term = record { class = 0; node = nodes.Literal (pos 0) }

pub returns-in-Some : goal.returns-in-Some
returns-in-Some c = other_here (λ (t : Term) (d : ℕ). term_naming t ≡ Some (c.args.name, d)) c.args.terms.now c.loop-term.term-index (get_or c.args.terms.now c.loop-term.term-index none_term) c.args.class c.in-Some.other (stands_still c.args.terms.now c.loop-term.term-index none_term c.loop-term-test.true) c.loop-term-test.true (rw c.term_naming.ensures at c.in-Some.ensures)

pub loop-term-preserved : goal.loop-term-preserved
loop-term-preserved c = one_further (λ x. (d : ℕ) → (λ (t : Term) (d : ℕ). term_naming t ≡ Some (c.args.name, d)) x d → c.args.class ≡ d) c.args.terms.now c.loop-term.term-index (get_or c.args.terms.now c.loop-term.term-index none_term) (stands_still c.args.terms.now c.loop-term.term-index none_term c.loop-term-test.true) (rw c.term_naming.ensures at c.in_default.ensures) c.loop-term.invariant

pub returns : goal.returns
returns c = none_other (λ (t : Term) (d : ℕ). term_naming t ≡ Some (c.args.name, d)) c.args.terms.now c.loop-term.term-index c.args.class c.loop-term.invariant c.loop-term-test.false
