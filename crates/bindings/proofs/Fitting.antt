-- What the operands of a source match, and that the constants of a binding fit their widths.
use Rattle.bindings.proofs.Common.{◌≡◌, ℕ, length, Some, sym, subst, ◌∙◌, arith, slice_get, Contains, slice_get_within, same_Some, Number, IsValueOf, Bits, Read, IsRead, Function, IsRule, operands_of, operands_among, operands_in, reads_constant, name, IsTyping, ConstantsFit, Argument, Rule, Statement, Contains-from_get, operand_stands, source_statement, StandsFor, OperandMatches, StatementMatches, Binding}
use Rattle.ir_core.specs.declared.operand.Operand.{Operand}
use Rattle.ir_core.specs.declared.operand.Operand.TheVariants as operands
use Rattle.rule_core.specs.declared.rule.Argument.TheVariants as arguments
use Rattle.rule_core.specs.declared.rule.Operand.{Operand as RuleOperand}
use Rattle.bindings.proofs.Lists.{place_of, from_flat_map}
use Rattle.bindings.proofs.Reading.{is_read}

-- where the operand is in the source: operand i of statement j
pub record SourceOperand (rule : Rule) (o : RuleOperand) : Type 0 where
  pub j : ℕ
  pub s : Statement
  pub i : ℕ
  pub statement : slice_get rule.source j ≡ Some s
  pub operand : slice_get (operands_of s.op) i ≡ Some o

pub source_operand : (rule : Rule) (q : ℕ) (o : RuleOperand) → slice_get (operands_among rule.source) q ≡ Some o → SourceOperand rule o
source_operand rule q o at =
    let (j, s, at_s, among) = from_flat_map (λ (t : Statement). operands_of t.op) rule.source o (Contains-from_get (operands_among rule.source) q o at) in
    let (i, at_i) = place_of (operands_of s.op) o among in
    record { j = j; s = s; i = i; statement = at_s; operand = at_i }

-- it is an operand of the rule
pub is_of_rule : (rule : Rule) (o : RuleOperand) → SourceOperand rule o → Contains (operands_in rule) o
is_of_rule rule o stands =
    operand_stands rule stands.s o (source_statement rule stands.j stands.s stands.statement) (Contains-from_get (operands_of stands.s.op) stands.i o stands.operand)

-- the source's statements match the instructions that they are bound to
abbrev pub AllMatch : Function → Rule → Binding → Type 0
AllMatch f rule binding = (j : ℕ) (s : Statement) → slice_get rule.source j ≡ Some s → StatementMatches f rule binding j s

-- the operand of an instruction that an operand of the source matches
pub record Met (f : Function) (binding : Binding) (o : RuleOperand) (b k i : ℕ) : Type 0 where
  pub read : Read
  pub is_read : IsRead f b k i read
  pub matches : OperandMatches binding o read

pub met_at : (f : Function) (rule : Rule) (binding : Binding) (j : ℕ) (s : Statement) → (m : StatementMatches f rule binding j s) → (i : ℕ) (o : RuleOperand) → slice_get (operands_of s.op) i ≡ Some o → Met f binding o m.block m.place i
met_at f rule binding j s m i o at =
    let (r, is) = is_read f m.block m.place m.inst s.op m.is_inst m.matches.operation i o at in
    record { read = r; is_read = is; matches = m.matches.operands i o r at is }

-- the number of a constant, where an instruction reads it
constant_met : (binding : Binding) (N k : ℕ) (a : Argument) (b : Operand) → a ≡ arguments.Constant k → StandsFor binding N a b → (n : Number) × (slice_get binding.constants k ≡ Some n) × IsValueOf N (Bits n) × (b ≡ operands.Number n)
constant_met binding N k a b is stands = let h : StandsFor binding N (arguments.Constant k) b = subst (λ (x : Argument). StandsFor binding N x b) is stands in h

-- each constant has a number of each width at which the rule names it
pub constants_fit : (f : Function) (rule : Rule) (binding : Binding) → IsRule rule → IsTyping rule binding.typing → length binding.constants ≡ length rule.constants → AllMatch f rule binding → ConstantsFit rule binding.typing binding.constants
constants_fit f rule binding is_rule typing count match = record {
  count = count;
  widths = λ k c N n named width at.
      let (q, (o, at_o, is)) = is_rule.constants_read k (omega (arith, slice_get_within binding.constants k n at)) in
      let stands = source_operand rule q o at_o in
      let m = match stands.j stands.s stands.statement in
      let met = met_at f rule binding stands.j stands.s m stands.i o stands.operand in
      let (n', at', fits, is') = constant_met binding met.read.width k o.value met.read.operand is met.matches.value in
      let same : n' ≡ n = same_Some n' n (sym at' ∙ at) in
      let line : slice_get binding.typing o.class ≡ slice_get binding.typing c = typing.same o.class c (name (reads_constant (is_of_rule rule o stands) is) named) in
      let one : met.read.width ≡ N = same_Some met.read.width N (sym met.matches.width ∙ line ∙ width) in
      subst (λ (w : ℕ). IsValueOf w (Bits n)) one (subst (λ (x : Number). IsValueOf met.read.width (Bits x)) same fits);
}
