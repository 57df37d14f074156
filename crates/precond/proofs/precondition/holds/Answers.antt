use Rattle.precond.proofs.Common.{◌≡◌, ℕ, List, length, take, ap, arith, Number, Value, Rule, Formula, IsRule, IsTyping, ConstantsFit, constant_values, few_formulas, AreReady}
use Rattle.precond.proofs.Ready.{formulas_ready}
use Rattle.precond.proofs.precondition.holds.Goals as goal

ready : (rule : Rule) (typing : List ℕ) (constants : List Number) (count : ℕ) (values : List Value) (nodes : List Formula) → IsRule rule → IsTyping rule typing → ConstantsFit rule typing constants
    → count ≡ length rule.terms → take (length rule.terms) values ≡ constant_values typing constants rule → nodes ≡ rule.precondition → AreReady (take count values) nodes
ready rule typing constants count values nodes checked typed fits is are same = rw (is, are, same) (formulas_ready rule typing constants checked typed fits)

pub last_holds-requires-clause-few : goal.last_holds-requires-clause-few
last_holds-requires-clause-few c = omega (arith, few_formulas c.args.rule.now c.requires.rule, ap length c.as_slice.ensures)

pub last_holds-requires-clause-ready : goal.last_holds-requires-clause-ready
last_holds-requires-clause-ready c =
    ready c.args.rule.now c.args.typing.now c.args.constants.now c.len.result c.constant_values-values.result c.as_slice.result.now c.requires.rule c.requires.typing c.requires.constants
    c.len.ensures c.constant_values-values.ensures.values c.as_slice.ensures
