use Rattle.rule_core.proofs.Common.{◌≡◌, ℕ, List, Some, sym, ◌∙◌, slice_get, same_Some, IsValueOf, selection, Value, IsValueOf-selection, Statement, Operand, Select, Held, Given, seen, shown, StatementIsReady}
use Rattle.rule_core.proofs.run.effect_of.Goals as goal

-- the value is of the class's width; arms of that width let a `select` give one
HasWidth : List ℕ → ℕ → Value → Type 0
HasWidth typing c v = (N : ℕ) → slice_get typing c ≡ Some N → IsValueOf N v

selected : (typing : List ℕ) (given : Given) (held : Held) (s : Statement) (c a b : Operand) (z x y v : Value) → StatementIsReady typing given held s → s.op ≡ Select c a b → v ≡ selection z x y → HasWidth typing a.class x → HasWidth typing b.class y → HasWidth typing s.class v
unfolding HasWidth
selected typing given held s c a b z x y v (M, at, ready) is gives left right N width =
    let arms = rw is at ready in
    let same : M ≡ N = same_Some M N (sym at ∙ width) in
    rw gives (IsValueOf-selection N z x y (left N (rw same at arms.1.0)) (right N (rw same at arms.2.0)))

pub returns-in-Select-clause-width : goal.returns-in-Select-clause-width
unfolding HasWidth
returns-in-Select-clause-width c =
    selected c.args.given.typing.now (shown c.args.given) (seen c.args.held) c.args.statement.now c.in-Select.condition c.in-Select.yes c.in-Select.no
    c.operand_value-in-Select.result c.operand_value-in-Select-2.result c.operand_value-in-Select-3.result c.choose.result
    c.requires c.in-Select.is c.choose.ensures c.operand_value-in-Select-2.ensures.width c.operand_value-in-Select-3.ensures.width
