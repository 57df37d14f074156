-- Instructions of one function in another, where registers may have other names.
use Rattle.std.specs.Prelude.{◌≡◌, ℕ, map, Some, Contains, slice_get}
use Rattle.ir_core.specs.Checks.{IsInst}
use Rattle.ir_core.specs.Walks.{IsReached}
use Rattle.ir_core.specs.declared.function.Function.{Function}
use Rattle.ir_core.specs.declared.instruction.Inst.{Inst}
use Rattle.ir_core.specs.declared.operand.Operand.{Operand}
use Rattle.ir_core.specs.declared.operand.Operand.TheVariants as operands
use Rattle.ir_core.specs.declared.operand.Register.{Register}
use Rattle.ir_core.specs.declared.operand.Register.TheVariants as registers
use Rattle.rule_core.specs.declared.rule.Register.{Register as Name}
use Rattle.rule_core.specs.declared.rule.Rule.{Rule}
use Rattle.use_counts.specs.Uses.{IsUsedOnce}
use Rattle.substitution.specs.Substitution.{Substitution, substituted_operand, substituted_inst}
use Rattle.bindings.specs.Known.{AsksBitsOf, Knowledge, operand_for}
use Rattle.bindings.specs.declared.binding.Binding.{Binding}

-- the register that a substitution gives for one, and that one itself where it gives no register
abbrev pub register_or : Register → Operand → Register
register_or r (operands.Register s) = s
register_or r a = r

-- a binding after a substitution of the registers, with its root at this place
abbrev pub moved_binding : Substitution → ℕ → Binding → Binding
moved_binding to k m = record { block = m.block; place = k; statements = map (λ r. register_or r (to r)) m.statements; inputs = map (substituted_operand to) m.inputs; constants = m.constants; typing = m.typing }

-- Instruction p of block b is at place q of that block in the other function: it is the same after the substitution of
-- its operands, and the substitution gives the register there for its own.
pub record StandsAt (f f' : Function) (to : Substitution) (b p q : ℕ) : Type 0 where
  pub inst : Inst
  pub was : IsInst f b p inst
  pub is : IsInst f' b q (substituted_inst to inst)
  pub register : to (registers.Result b p) ≡ operands.Register (registers.Result b q)

-- What a match depends on is in the other function, with its root at place k of its block: the block is reached, the
-- instructions of its statements are there in their blocks, temporaries are related to the root if they were, a
-- register with exactly one use has exactly one, and the same is known of what its registers stand for of whose bits
-- the rule says something.
pub record StandsThere (Before Before' : ℕ → ℕ → ℕ → ℕ → Type 0) (known known' : Knowledge) (f f' : Function) (to : Substitution) (rule : Rule) (m : Binding) (k : ℕ) : Type 0 where
  pub reached : IsReached f m.block → IsReached f' m.block
  pub root : to (registers.Result m.block m.place) ≡ operands.Register (registers.Result m.block k)
  pub bound : (j d p : ℕ) → slice_get m.statements j ≡ Some (registers.Result d p)
      → (q : ℕ) × StandsAt f f' to d p q × (Before d p m.block m.place → Before' d q m.block k)
  pub uses : (r s : Register) → Contains m.statements r → to r ≡ operands.Register s → IsUsedOnce f r → IsUsedOnce f' s
  pub bits : (r : Name) (x : Operand) → AsksBitsOf rule r → operand_for m r ≡ Some x → known m.block m.place x ≡ known' m.block k (substituted_operand to x)
