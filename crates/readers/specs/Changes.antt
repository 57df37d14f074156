-- Edits of an arena and of the order of a block: an instruction is inserted, its operands are replaced, or it is
-- removed.
use Rattle.std.specs.Prelude.{ℕ, zero, suc, ◌==◌, ◌&&◌, if◌then◌else◌, Bool, false, List, [], ◌∷◌, ◌++◌, map, None}
use Rattle.ir_core.specs.declared.function.Block.{Block}
use Rattle.ir_core.specs.declared.function.Function.{Function}
use Rattle.ir_core.specs.declared.instruction.Inst.{Inst}
use Rattle.ir_core.specs.declared.instruction.Op.TheVariants.{Freeze}
use Rattle.ir_core.specs.declared.operand.Operand.{Operand}
use Rattle.ir_core.specs.declared.operand.Operand.TheVariants as operands
use Rattle.ir_core.specs.declared.operand.Register.{Register}
use Rattle.ir_core.specs.declared.operand.Register.TheVariants as registers
use Rattle.ir_core.specs.declared.terminator.Terminator.{Terminator}
use Rattle.substitution.specs.Substitution.{Substitution, substituted_inst, substituted_end, substituted_block}
use Rattle.places.specs.Orders.{none}
use Rattle.places.specs.declared.place.Place.{Place}

-- the list with a change at one place
abbrev pub changed_at : {A : Type 0} → ℕ → (A → A) → List A → List A
changed_at k change [] = []
changed_at zero change (x ∷ xs) = change x ∷ xs
changed_at (suc k) change (x ∷ xs) = x ∷ changed_at k change xs

-- the function with a change of block b
abbrev pub with_block : Function → ℕ → (Block → Block) → Function
with_block f b change = record { name = f.name; before = f.before; width = f.width; parameters = f.parameters; after = f.after; blocks = changed_at b change f.blocks }

-- a block with one more instruction, which gets the next number; with instruction n changed; and with its terminator
-- changed
abbrev pub inst_put : Inst → Block → Block
inst_put inst block = record { name = block.name; insts = block.insts ++ inst ∷ []; end = block.end }

abbrev pub inst_changed : ℕ → (Inst → Inst) → Block → Block
inst_changed n change block = record { name = block.name; insts = changed_at n change block.insts; end = block.end }

abbrev pub end_changed : (Terminator → Terminator) → Block → Block
end_changed change block = record { name = block.name; insts = block.insts; end = change block.end }

-- the function with one more instruction in block b
abbrev pub put_in : Function → ℕ → Inst → Function
put_in f b inst = with_block f b (inst_put inst)

-- what is left in the arena of an instruction that was removed: it reads no register
abbrev pub gone : Inst → Inst
gone inst = record { name = None; width = inst.width; op = Freeze operands.Poison }

-- with instruction n of block b removed
abbrev pub with_inst_removed : Function → ℕ → ℕ → Function
with_inst_removed f b n = with_block f b (inst_changed n gone)

abbrev pub same_register : Register → Register → Bool
same_register (registers.Parameter p) (registers.Parameter q) = p == q
same_register (registers.Result b n) (registers.Result c m) = (b == c) && (n == m)
same_register (registers.Parameter p) (registers.Result c m) = false
same_register (registers.Result b n) (registers.Parameter q) = false

-- the substitution of an operand for one register: each other register stays
abbrev pub instead : Register → Operand → Substitution
instead from to r = if same_register r from then to else operands.Register r

-- with all uses of a register replaced by an operand
abbrev pub replaced : Function → Register → Operand → Function
replaced f from to = record { name = f.name; before = f.before; width = f.width; parameters = f.parameters; after = f.after; blocks = map (substituted_block (instead from to)) f.blocks }

-- with the uses of a register at one place replaced by an operand
abbrev pub replaced_at : Function → Place → Register → Operand → Function
replaced_at f p from to = if p.number == none then with_block f p.block (end_changed (substituted_end (instead from to))) else with_block f p.block (inst_changed p.number (substituted_inst (instead from to)))

-- the numbers of a block without one of them
abbrev pub without : ℕ → List ℕ → List ℕ
without n [] = []
without n (m ∷ numbers) = if m == n then without n numbers else m ∷ without n numbers
