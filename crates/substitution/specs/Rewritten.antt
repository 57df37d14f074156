-- A function in which other instructions replace one, the root.
use Rattle.std.specs.Prelude.{◌≡◌, ℕ, suc, ◌+◌, ◌-◌, ◌==◌, nat_lt, Bool, ◌&&◌, if◌then◌else◌, List, [], ◌∷◌, ◌++◌, length, Option, None, Some}
use Rattle.ops.specs.declared.value.Value.{Value}
use Rattle.ops.specs.declared.value.Effect.{Effect}
use Rattle.ops.specs.declared.value.Effect.TheVariants as effects
use Rattle.ir_core.specs.Run.{Registers, holding, AnyNumber, OpGives}
use Rattle.ir_core.specs.declared.function.Function.{Function}
use Rattle.ir_core.specs.declared.function.Block.{Block}
use Rattle.ir_core.specs.declared.instruction.Inst.{Inst}
use Rattle.ir_core.specs.declared.operand.Operand.TheVariants as operands
use Rattle.ir_core.specs.declared.operand.Register.{Register}
use Rattle.ir_core.specs.declared.operand.Register.TheVariants as registers
pub use Rattle.substitution.specs.declared.rewrite.Rewrite.{Rewrite}
use Rattle.substitution.specs.Substitution.{Substitution, substituted_inst, substituted_end}

abbrev pub root_of : Rewrite → Register
root_of w = registers.Result w.block w.place

-- instruction k of block b is the root
abbrev pub is_root : Rewrite → ℕ → ℕ → Bool
is_root w b k = (b == w.block) && (k == w.place)

-- the new index of what was at place k of block b: behind the root it is moved on by what is put in the root's place
abbrev pub moved_place : Rewrite → ℕ → ℕ → ℕ
moved_place w b k = if (b == w.block) && nat_lt w.place k then k - 1 + length w.put else k

-- the substitute for each register: the result for the root's, and for any other the register itself, at its new index
abbrev pub stands_for : Rewrite → Substitution
stands_for w (registers.Parameter p) = operands.Register (registers.Parameter p)
stands_for w (registers.Result b k) = if is_root w b k then w.result else operands.Register (registers.Result b (moved_place w b k))

-- these instructions, which are those of block b from place k on, with what is put in the place of the root
abbrev pub rewritten_insts : Rewrite → ℕ → ℕ → List Inst → List Inst
rewritten_insts w b k [] = []
rewritten_insts w b k (inst ∷ insts) = (if is_root w b k then w.put else substituted_inst (stands_for w) inst ∷ []) ++ rewritten_insts w b (suc k) insts

abbrev pub rewritten_block : Rewrite → ℕ → Block → Block
rewritten_block w b block = record { name = block.name; insts = rewritten_insts w b 0 block.insts; end = substituted_end (stands_for w) block.end }

-- the blocks from block b on, rewritten
abbrev pub rewritten_blocks : Rewrite → ℕ → List Block → List Block
rewritten_blocks w b [] = []
rewritten_blocks w b (block ∷ blocks) = rewritten_block w b block ∷ rewritten_blocks w (suc b) blocks

abbrev pub rewritten_function : Rewrite → Function → Function
rewritten_function w f = record { name = f.name; before = f.before; width = f.width; parameters = f.parameters; after = f.after; blocks = rewritten_blocks w 0 f.blocks }

-- after an instruction: undefined behaviour ends the execution, and with a value in its register it goes on
abbrev pub RunsOn : (Value → Type 0) → Effect → Option Registers → Type 0
RunsOn next effects.Undefined after = after ≡ None
RunsOn next (effects.Gives v) after = next v

-- executing these instructions in order, from place k of block b on, may lead from the registers `held` to the
-- registers `after`, or to undefined behaviour (None)
abbrev pub RunsThrough : ℕ → ℕ → List Inst → Registers → Option Registers → Type 0
RunsThrough b k [] held after = after ≡ Some held
RunsThrough b k (i ∷ insts) held after = (e : Effect) × OpGives AnyNumber held i.width i.op e × RunsOn (λ v. RunsThrough b (suc k) insts (holding held b k v) after) e after
