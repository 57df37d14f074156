-- Folded functions: each branch and each switch on a number jumps to the block that the number chooses, phis lose their
-- entries for blocks that no longer lead to theirs, and blocks that are not reached are empty.
use Rattle.std.specs.Prelude.{◌≡◌, ◌↔◌, ℕ, suc, ◌==◌, Bool, true, false, not, ◌&&◌, ◌||◌, IsTrue, List, [], ◌∷◌, length, map, Option, None, Some, slice_index_or}
use Rattle.ir_core.specs.Walks.{IsReached}
use Rattle.ir_core.specs.declared.function.Block.{Block}
use Rattle.ir_core.specs.declared.function.Function.{Function}
use Rattle.ir_core.specs.declared.instruction.Inst.{Inst}
use Rattle.ir_core.specs.declared.instruction.Op.{Op}
use Rattle.ir_core.specs.declared.instruction.Op.TheVariants.{Binary, Compare, Unary, Select, Convert, Freeze, Phi}
use Rattle.ir_core.specs.declared.operand.Operand.{Operand}
use Rattle.ir_core.specs.declared.terminator.Terminator.TheVariants as terminators
use Rattle.fold_branch.specs.Choices.{chosen, decided_end, decided}

-- the block is one of these
abbrev pub is_among : ℕ → List ℕ → Bool
is_among c [] = false
is_among c (d ∷ ds) = (c == d) || is_among c ds

-- Whether an entry of a phi of block b stays, by what a number chooses at the end of the entry's block, and by whether
-- an entry for that block stays before it. Where none chooses all stay; where one chooses b, the first stays alone; and
-- where one chooses another block, none does.
abbrev pub stays_by : ℕ → Bool → Option ℕ → Bool
stays_by b before None = true
stays_by b before (Some to) = (to == b) && not before

-- the entry before these, if it stays
abbrev pub stays_first : Bool → Operand × ℕ → List (Operand × ℕ) → List (Operand × ℕ) → List (Operand × ℕ)
stays_first true e with_it without_it = e ∷ with_it
stays_first false e with_it without_it = without_it

-- For each block: the one that a number chooses at its end, if it ends so; and whether it is reached once these choices
-- are jumps.
module _ (choices : List (Option ℕ)) (reached : List Bool) where
  -- The entry for block c stays in a phi of block b, behind others for these blocks. For a block that is not reached
  -- none does.
  abbrev pub stays : ℕ → List ℕ → ℕ → Bool
  stays b before c = slice_index_or reached c false && stays_by b (is_among c before) (slice_index_or choices c None)

  -- those entries of a phi of block b that stay, behind others for these blocks
  abbrev pub staying : ℕ → List ℕ → List (Operand × ℕ) → List (Operand × ℕ)
  staying b before [] = []
  staying b before (e ∷ entries) = stays_first (stays b before e.1) e (staying b (e.1 ∷ before) entries) (staying b before entries)

  abbrev pub folded_op : ℕ → Op → Op
  folded_op b (Phi entries) = Phi (staying b [] entries)
  folded_op b (Binary op flags x y) = Binary op flags x y
  folded_op b (Compare pred samesign width x y) = Compare pred samesign width x y
  folded_op b (Unary op truth x) = Unary op truth x
  folded_op b (Select c x y) = Select c x y
  folded_op b (Convert cast flags from x) = Convert cast flags from x
  folded_op b (Freeze x) = Freeze x

  abbrev pub folded_inst : ℕ → Inst → Inst
  folded_inst b inst = record { name = inst.name; width = inst.width; op = folded_op b inst.op }

  -- block b where it is reached, and where it is not
  abbrev pub folded_as : ℕ → Bool → Block → Block
  folded_as b true block = record { name = block.name; insts = map (folded_inst b) block.insts; end = decided_end block.end }
  folded_as b false block = record { name = block.name; insts = []; end = terminators.Unreachable }

  abbrev pub folded_block : ℕ → Block → Block
  folded_block b block = folded_as b (slice_index_or reached b false) block

  -- these blocks, from block b on
  abbrev pub folded_blocks : ℕ → List Block → List Block
  folded_blocks b [] = []
  folded_blocks b (block ∷ blocks) = folded_block b block ∷ folded_blocks (suc b) blocks

-- for each block, the one that a number chooses at its end
abbrev pub choices_of : Function → List (Option ℕ)
choices_of f = map (λ block. chosen block.end) f.blocks

abbrev pub folded_function : List Bool → Function → Function
folded_function reached f = record { name = f.name; before = f.before; width = f.width; parameters = f.parameters; after = f.after; blocks = folded_blocks (choices_of f) reached 0 f.blocks }

-- for each block of the function, whether it is reached
pub record AreReached (f : Function) (marks : List Bool) : Type 0 where
  pub count : length marks ≡ length f.blocks
  pub exact : (b : ℕ) → IsTrue (slice_index_or marks b false) ↔ IsReached f b

-- the new function is the old one folded
abbrev pub IsFolded : Function → Function → Type 0
IsFolded old new = (reached : List Bool) × AreReached (decided old) reached × (new ≡ folded_function reached old)
