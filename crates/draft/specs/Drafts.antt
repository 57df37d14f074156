-- The function of a draft: the instructions of each block that weren't removed, in order, with each result named by its
-- position in the block.
use Rattle.std.specs.Prelude.{◌≡◌, ℕ, zero, suc, ◌+◌, ◌*◌, ◌<◌, ◌≤◌, length, All, ◌⊎◌, if◌then◌else◌, Bool, false, List, [], ◌∷◌, ◌++◌, map, option_to_list, Contains, slice_get, slice_index_or}
use Rattle.ir_core.specs.Checks.{IsInst}
use Rattle.ir_core.specs.Reads.{Read, IsRead}
use Rattle.ir_core.specs.declared.function.Block.{Block}
use Rattle.ir_core.specs.declared.function.Function.{Function}
use Rattle.ir_core.specs.declared.instruction.Inst.{Inst}
use Rattle.ir_core.specs.declared.operand.Operand.TheVariants as operands
use Rattle.ir_core.specs.declared.operand.Register.TheVariants as registers
use Rattle.substitution.specs.Substitution.{Substitution, substituted_inst, substituted_end}
use Rattle.use_counts.specs.Uses.{IsUsedOnce}
use Rattle.bindings.specs.Match.{IsInScope}
use Rattle.bindings.specs.declared.binding.Binding.{Binding}
use Rattle.moved_matches.specs.Moved.{moved_binding}
use Rattle.draft.specs.declared.draft.Draft.{Draft}
use Rattle.places.specs.declared.place.Place.{Place}
use Rattle.places.specs.Orders.{place_in, none}

-- of some numbers those that are marked as standing
abbrev pub standing_in : List Bool → List ℕ → List ℕ
standing_in stand [] = []
standing_in stand (n ∷ numbers) = (if slice_index_or stand n false then n ∷ [] else []) ++ standing_in stand numbers

abbrev pub standing : List (List Bool) → List (List ℕ) → List (List ℕ)
standing stand [] = []
standing [] (numbers ∷ rows) = [] ∷ standing [] rows
standing (row ∷ stand) (numbers ∷ rows) = standing_in row numbers ∷ standing stand rows

-- the instructions of each block by number: an operand names a result by the number of its instruction
abbrev pub arena_of : Draft → Function
arena_of d = d.arena

-- the order of each block: the numbers of its instructions, of removed ones too
abbrev pub orders_of : Draft → List (List ℕ)
orders_of d = d.orders.items

-- of each block the numbers of the instructions that stand, in order
abbrev pub numbers_of : Draft → List (List ℕ)
numbers_of d = standing d.stand.items d.orders.items

abbrev pub numbers_in : Draft → ℕ → List ℕ
numbers_in d b = slice_index_or (numbers_of d) b []

-- instruction n of block b stands: it is in the function, since it wasn't removed
abbrev pub Stands : Draft → ℕ → ℕ → Type 0
Stands d b n = Contains (numbers_in d b) n

-- it is before instruction m of block c: in an earlier block, or before it in the same
abbrev pub StandsBefore : Draft → ℕ → ℕ → ℕ → ℕ → Type 0
StandsBefore d b n c m = (b < c) ⊎ ((b ≡ c) × (place_in (numbers_in d b) n < place_in (numbers_in d b) m))

-- names a result by its position among the instructions that stand in the block, in place of its number
abbrev pub placed : List (List ℕ) → Substitution
placed numbers (registers.Parameter p) = operands.Register (registers.Parameter p)
placed numbers (registers.Result b n) = operands.Register (registers.Result b (place_in (slice_index_or numbers b []) n))

-- the instructions with these numbers, after a substitution of their operands
abbrev pub insts_of : Substitution → List Inst → List ℕ → List Inst
insts_of to insts [] = []
insts_of to insts (n ∷ numbers) = map (substituted_inst to) (option_to_list (slice_get insts n)) ++ insts_of to insts numbers

abbrev pub block_of : Substitution → List ℕ → Block → Block
block_of to numbers block = record { name = block.name; insts = insts_of to block.insts numbers; end = substituted_end to block.end }

abbrev pub blocks_of : Substitution → List (List ℕ) → List Block → List Block
blocks_of to [] blocks = []
blocks_of to (row ∷ rows) [] = []
blocks_of to (row ∷ rows) (block ∷ blocks) = block_of to row block ∷ blocks_of to rows blocks

-- the function of a draft
abbrev pub function_of : Draft → Function
function_of d = record { name = d.arena.name; before = d.arena.before; width = d.arena.width; parameters = d.arena.parameters; after = d.arena.after; blocks = blocks_of (placed (numbers_of d)) (numbers_of d) d.arena.blocks }

-- The instruction is the same in both drafts, stood in the old one, and has exactly one use in the new one only where
-- it had exactly one in the old one.
pub record IsUntouched (old new : Draft) (b n : ℕ) : Type 0 where
  pub inst : Inst
  pub was : IsInst old.arena b n inst
  pub is : IsInst new.arena b n inst
  pub stood : Stands old b n
  pub once : IsUsedOnce new.arena (registers.Result b n) → IsUsedOnce old.arena (registers.Result b n)

-- each instruction that stands in the new draft is untouched, or its place is among these
abbrev pub AreTouched : Draft → Draft → List Place → Type 0
AreTouched old new places = (b n : ℕ) → Stands new b n → ¬ Contains places (record { block = b; number = n }) → IsUntouched old new b n

-- a binding to numbers of the arena, as one to positions in the function, the root's among them
abbrev pub placed_binding : Draft → Binding → Binding
placed_binding d m = moved_binding (placed (numbers_of d)) (place_in (numbers_in d m.block) m.place) m

-- each block has numbers left for so many rewrites, each of which inserts at most 32 instructions
abbrev pub HasRoomFor : ℕ → Draft → Type 0
HasRoomFor steps d = All (λ block. length block.insts + 32 * steps ≤ none) d.arena.blocks

-- Instruction n of block b reads from instruction m of block c through a chain of at most so many operands, all of
-- instructions that stand. It stays in the block, or goes across blocks.
abbrev pub Reaches : Bool → Draft → ℕ → ℕ → ℕ → ℕ → ℕ → Type 0
Reaches across d zero b n c m = (b ≡ c) × (n ≡ m)
Reaches across d (suc depth) b n c m = ((b ≡ c) × (n ≡ m))
    ⊎ ((e : ℕ) × (k : ℕ) × (i : ℕ) × (r : Read) × Stands d b n × IsRead d.arena b n i r × (r.operand ≡ operands.Register (registers.Result e k)) × IsInScope across e k b n × Reaches across d depth e k c m)
