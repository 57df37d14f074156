-- One rewrite of a draft: the target's instructions get the next numbers and are inserted before the root, all uses of
-- the root's register are replaced, and the root is removed.
use Rattle.std.specs.Prelude.{◌≡◌, ◌↔◌, ◌⊎◌, ℕ, ◌+◌, ◌<◌, List, [], ◌∷◌, ◌++◌, length, map, Some, All, Contains, slice_get}
use Rattle.std.specs.List.{filter_map, range_with_len}
use Rattle.ir_core.specs.Checks.{IsKnown}
use Rattle.ir_core.specs.Reads.{end_of}
use Rattle.ir_core.specs.declared.function.Block.{Block}
use Rattle.ir_core.specs.declared.function.Function.{Function}
use Rattle.ir_core.specs.declared.instruction.Inst.{Inst}
use Rattle.ir_core.specs.declared.operand.Operand.{Operand}
use Rattle.ir_core.specs.declared.operand.Operand.TheVariants as operands
use Rattle.ir_core.specs.declared.operand.Register.TheVariants as registers
use Rattle.needed.specs.Operands.{operands_of}
use Rattle.substitution.specs.declared.rewrite.Rewrite.{Rewrite}
use Rattle.bindings.specs.declared.binding.Binding.{Binding}
use Rattle.readers.specs.Changes.{changed_at, replaced, with_inst_removed, without}
use Rattle.readers.specs.Counts.{operands_at, register_of}
use Rattle.draft.specs.Drafts.{numbers_of}
use Rattle.places.specs.Orders.{put_before}
use Rattle.readers.specs.Readers.{IsPlaceIn, IsReader}
use Rattle.draft.specs.declared.draft.Draft.{Draft}
use Rattle.places.specs.declared.place.Place.{Place}
use Rattle.draft_steps.specs.declared.rewriting.Rewritten.{Rewritten}

-- the arena with more instructions in block b, which get the next numbers
abbrev pub with_put : Function → ℕ → List Inst → Function
with_put f b put = record { name = f.name; before = f.before; width = f.width; parameters = f.parameters; after = f.after; blocks = changed_at b (λ (block : Block). record { name = block.name; insts = block.insts ++ put; end = block.end }) f.blocks }

-- the numbers of a block with others inserted before one of them, in order
abbrev pub all_before : List ℕ → ℕ → List ℕ → List ℕ
all_before row at [] = row
all_before row at (n ∷ numbers) = all_before (put_before row at n) at numbers

-- the same in the row of block b
abbrev pub rows_with : List (List ℕ) → ℕ → ℕ → List ℕ → List (List ℕ)
rows_with rows b at numbers = changed_at b (λ row. all_before row at numbers) rows

-- the binding with the next number for its root, so that inserted instructions are numbered from there on
abbrev pub numbered : Function → Binding → Binding
numbered f m = record m { place = end_of f m.block }

-- the numbers of the inserted instructions
abbrev pub put_numbers : Function → Rewrite → List ℕ
put_numbers f w = range_with_len (end_of f w.block) (length w.put)

-- an operand that the j-th inserted instruction may read: one known to the arena, or the result of one inserted before
-- it
abbrev pub MayRead : Function → ℕ → ℕ → Operand → Type 0
MayRead f b j a = IsKnown f a ⊎ ((i : ℕ) × (i < j) × (a ≡ operands.Register (registers.Result b (end_of f b + i))))

-- each inserted instruction reads only such operands
abbrev pub MayPut : Function → ℕ → List Inst → Type 0
MayPut f b put = (j : ℕ) (inst : Inst) → slice_get put j ≡ Some inst → All (MayRead f b j) (operands_of inst.op)

-- the arena once instruction n of the block is rewritten: instructions are inserted, its uses replaced, and it is
-- removed
abbrev pub put_for : Function → Rewrite → ℕ → Function
put_for f w n = with_inst_removed (replaced (with_put f w.block w.put) (registers.Result w.block n) w.result) w.block n

-- and the numbers of its blocks
abbrev pub rows_put_for : Function → List (List ℕ) → Rewrite → ℕ → List (List ℕ)
rows_put_for f rows w n = changed_at w.block (without n) (rows_with rows w.block n (put_numbers f w))

-- The new draft is the old one once its instruction n is rewritten, and `told` says what was done.
pub record IsPutFor (old new : Draft) (w : Rewrite) (n : ℕ) (told : Rewritten) : Type 0 where
  pub arena : new.arena ≡ put_for old.arena w n
  pub numbers : numbers_of new ≡ rows_put_for old.arena (numbers_of old) w n
  pub put : told.put.items ≡ map (λ number. record { block = w.block; number = number }) (put_numbers old.arena w)
  pub places : (p : Place) → Contains told.replaced.items p
      ↔ (IsPlaceIn (with_put old.arena w.block w.put) p × IsReader (with_put old.arena w.block w.put) (registers.Result w.block n) p)
  pub result : told.result ≡ w.result
  -- the results of the inserted instructions, and the registers that the root read
  pub fell : new.dead_candidates.items ≡ old.dead_candidates.items ++ map (λ number. registers.Result w.block number) (put_numbers old.arena w)
      ++ filter_map register_of (operands_at (replaced (with_put old.arena w.block w.put) (registers.Result w.block n) w.result) (record { block = w.block; number = n }))
