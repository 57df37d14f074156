-- When a rule may be applied at an instruction, and what its names are bound to there.
use Rattle.std.specs.Prelude.{◌≡◌, ℕ, suc, ◌<◌, Bool, false, true, length, Some, Contains, slice_get}
use Rattle.ir_core.specs.Assigned.{IsAssigned}
use Rattle.ir_core.specs.Walks.{IsReached}
use Rattle.ir_core.specs.declared.function.Function.{Function}
use Rattle.ir_core.specs.declared.operand.Operand.TheVariants as operands
use Rattle.ir_core.specs.declared.operand.Register.{Register}
use Rattle.ir_core.specs.declared.operand.Register.TheVariants as registers
use Rattle.rule_core.specs.Terms.{PreconditionHolds}
use Rattle.rule_core.specs.Typing.{IsTyping}
use Rattle.rule_core.specs.declared.rule.Formula.{Formula}
use Rattle.rule_core.specs.declared.rule.Formula.TheVariants as formulas
use Rattle.rule_core.specs.declared.rule.Rule.{Rule}
use Rattle.rule_core.specs.declared.rule.Statement.{Statement}
use Rattle.use_counts.specs.Uses.{IsUsedOnce}
use Rattle.bindings.specs.Known.{Knowledge, FactFollows, known_in}
use Rattle.bindings.specs.Statements.{StatementMatches}
use Rattle.bindings.specs.declared.binding.Binding.{Binding}

-- The rule matches at instruction k of block b of the function, with this binding. `Before` relates the block and the
-- index of each temporary's instruction to those of the root's, and `known` is what is known of bits.
pub record MatchesWhere (Before : ℕ → ℕ → ℕ → ℕ → Type 0) (known : Knowledge) (f : Function) (b k : ℕ) (rule : Rule) (binding : Binding) : Type 0 where
  -- the root is instruction k of block b, which the entry reaches
  pub block : binding.block ≡ b
  pub place : binding.place ≡ k
  pub reached : IsReached f b
  -- each source statement is bound to an instruction that it matches
  pub statement_count : length binding.statements ≡ length rule.source
  pub statements : (j : ℕ) (s : Statement) → slice_get rule.source j ≡ Some s → StatementMatches f rule binding j s
  -- each temporary is related to the root
  pub before : (j d p : ℕ) → suc j < length rule.source → slice_get binding.statements j ≡ Some (registers.Result d p) → Before d p binding.block binding.place
  -- each input is bound to an operand that is no `undef`, and each constant to a number
  pub input_count : length binding.inputs ≡ length rule.inputs
  pub no_undef : ¬ Contains binding.inputs operands.Undef
  pub constant_count : length binding.constants ≡ length rule.constants
  -- the widths are a typing, and the precondition holds
  pub typing : IsTyping rule binding.typing
  pub precondition : PreconditionHolds rule binding.typing binding.constants
  -- each register of which one use is asked is named by exactly one operand of the function
  pub one_use : (j : ℕ) (r : Register) → Contains rule.precondition (formulas.HasOneUse j) → slice_get binding.statements j ≡ Some r → IsUsedOnce f r
  -- what the precondition says of bits follows from what is known of them at the root
  pub facts : (formula : Formula) → Contains rule.precondition formula → FactFollows (known b k) rule binding formula

-- A temporary stands in the root's block, before the root. Across blocks its register is assigned at the root, so that
-- its block is reached where the root's is; and it is no phi, since no statement matches one.
abbrev pub IsAvailable : Bool → Function → ℕ → ℕ → ℕ → ℕ → Type 0
IsAvailable false f d p b k = (d ≡ b) × (p < k)
IsAvailable true f d p b k = IsAssigned f (registers.Result d p) b k

-- the rule matches inside a block or, where that is asked for, across blocks; what is known at the root is known by the
-- instructions before it in its block
abbrev pub IsMatch : Bool → Function → ℕ → ℕ → Rule → Binding → Type 0
IsMatch across f = MatchesWhere (IsAvailable across f) (known_in f) f

-- the same without an order: a temporary stands in the root's block, and across blocks anywhere
abbrev pub IsInScope : Bool → ℕ → ℕ → ℕ → ℕ → Type 0
IsInScope false d p b k = d ≡ b
IsInScope true d p b k = Unit {0}

-- And where the order isn't asked for, as an index in a draft's arena doesn't tell it, and what is known is given. In
-- a function that meets its checks temporaries stand before the root all the same, since it reads from each through a
-- chain of operands.
abbrev pub MatchesInAnyOrder : Bool → Knowledge → Function → ℕ → ℕ → Rule → Binding → Type 0
MatchesInAnyOrder across = MatchesWhere (IsInScope across)
