-- The symbol table in the code, as contracts see it.
use Rattle.std.specs.Prelude.{◌≡◌, ℕ, List, map, Option, None, Some, Bool, false, ◌==◌}
use Rattle.std.specs.Option.{option_copied, is_some}
use Rattle.std.specs.Map.{lookup}
use Rattle.std.specs.Cmp.Lexicographic.{pointwise}
use Rattle.indexmap.specs.IndexMap.{IndexMap}
use Rattle.ir_tokens.specs.declared.called.Identifier.{Identifier}
use Rattle.ir_tokens.specs.declared.called.Identifier.TheVariants.{Named, Numbered}
use Rattle.ir_core.specs.declared.operand.Register.{Register}
use Rattle.ir_tokens.specs.declared.raw.RawIdentifier.{RawIdentifier}
use Rattle.ir_resolve.specs.declared.names.key.Key.{Key}
use Rattle.ir_resolve.specs.declared.names.key.Key.TheVariants as keys
use Rattle.ir_resolve.specs.declared.names.definition.Entity.{Entity}
use Rattle.ir_resolve.specs.declared.names.definition.Entity.TheVariants as entities
use Rattle.ir_resolve.specs.declared.names.definition.Definition.{Definition}
use Rattle.ir_resolve.specs.Written.{Thing, Value, Block, called_in}

-- the identifier that a key is, without where its text lies in memory
abbrev pub seen : Key → Identifier
seen (keys.Named text) = Named text.now
seen (keys.Numbered number) = Numbered number

-- the identifier that is written for a definition
abbrev pub seen_written : Definition → Option RawIdentifier
seen_written d = option_copied d.written

abbrev pub seen_definition : Definition → Option RawIdentifier × Entity
seen_definition d = (seen_written d, d.entity)

-- these are the keys of the definitions, in order
abbrev pub AreKeysOf : List Definition → List Key → Type 0
AreKeysOf definitions keys = map seen keys ≡ called_in (map seen_written definitions)

-- an identifier, and what it refers to
abbrev pub Known : Type 0
Known = Identifier × Entity

abbrev pub seen_entries : List (Key × Entity) → List Known
seen_entries entries = map (λ e. (seen e.0, e.1)) entries

-- two identifiers are the same
abbrev pub same : Identifier → Identifier → Bool
same (Named a) (Named b) = pointwise ◌==◌ a b
same (Numbered m) (Numbered n) = m == n
same (Named a) (Numbered n) = false
same (Numbered m) (Named b) = false

-- the identifier is this one
abbrev pub Is : Identifier → Identifier → Type 0
Is x y = x ≡ y

-- the entries of a table, whether it has an identifier, and what that refers to
abbrev pub known_by : {S : Type 0} → IndexMap Key Entity S → List Known
known_by names = seen_entries names.entries

abbrev pub knows : List Known → Identifier → Bool
knows known x = is_some (lookup (same x) known)

abbrev pub entity_in : List Known → Identifier → Option Entity
entity_in known x = lookup (same x) known

-- the register that is referred to, with its width, and the block
abbrev pub register_of : Option Entity → Option (Register × ℕ)
register_of None = None
register_of (Some (entities.Register register width)) = Some (register, width)
register_of (Some (entities.Block b)) = None

abbrev pub block_of : Option Entity → Option ℕ
block_of None = None
block_of (Some (entities.Register register width)) = None
block_of (Some (entities.Block b)) = Some b

-- in the table an identifier refers to the register of the width, and to the thing
abbrev pub CallsRegisterIn : List Known → Identifier → Register → ℕ → Type 0
CallsRegisterIn known x r width = entity_in known x ≡ Some (entities.Register r width)

abbrev pub CallsIn : List Known → Identifier → Thing → Type 0
CallsIn known x (Value r) = (width : ℕ) × CallsRegisterIn known x r width
CallsIn known x (Block b) = entity_in known x ≡ Some (entities.Block b)
