-- Uses of what is not defined.
use Rattle.ir_resolve.proofs.Common.{◌≡◌, ◌↔◌, ℕ, Bool, true, false, not, IsTrue, List, Option, None, Some, is_some, refl, sym, ap, subst, ◌∙◌, Identifier, Register, RawIdentifier, RawValue, Entity, Typed, IsUnknownValue, IsUnknownBlock, Known, entity_in, register_of, block_of, CallsRegisterIn, CallsIn}
use Rattle.ir_tokens.specs.declared.raw.RawValue.TheVariants as values
use Rattle.ir_resolve.specs.declared.names.definition.Entity.TheVariants as entities

-- the operand is a register that is not defined, and is on the line; the same for a block
abbrev pub ReadIsUnknown : List Known → Typed → ℕ → Type 0
ReadIsUnknown known t at = IsUnknownValue (CallsIn known) t.operand.value × (t.operand.line ≡ at)

abbrev pub TargetIsUnknown : List Known → RawIdentifier → ℕ → Type 0
TargetIsUnknown known w at = IsUnknownBlock (CallsIn known) w.identifier × (w.line ≡ at)

-- an entity is no register, and no block
no_register : (o : Option Entity) (b : Bool) → is_some (register_of o) ≡ not b → IsTrue b ↔ ((r : Register) → ¬ ((width : ℕ) × (o ≡ Some (entities.Register r width))))
no_register None true e = (λ t r h. cc, λ h. refl)
no_register None false e = cc
no_register (Some (entities.Block n)) true e = (λ t r h. cc, λ h. refl)
no_register (Some (entities.Block n)) false e = cc
no_register (Some (entities.Register r width)) true e = cc
no_register (Some (entities.Register r width)) false e = (λ t. cc, λ h. absurd (h r (width, refl)))

no_block : (o : Option Entity) (b : Bool) → is_some (block_of o) ≡ not b → IsTrue b ↔ ((n : ℕ) → ¬ (o ≡ Some (entities.Block n)))
no_block None true e = (λ t n h. cc, λ h. refl)
no_block None false e = cc
no_block (Some (entities.Register r width)) true e = (λ t n h. cc, λ h. refl)
no_block (Some (entities.Register r width)) false e = cc
no_block (Some (entities.Block n)) true e = cc
no_block (Some (entities.Block n)) false e = (λ t. cc, λ h. absurd (h n refl))

module _ (known : List Known) where
  pub value_unknown : (value : RawValue) (x : Identifier) (o : Option (Register × ℕ)) (b : Bool) → value ≡ values.Register x → o ≡ register_of (entity_in known x) → is_some o ≡ not b → IsTrue b ↔ IsUnknownValue (CallsIn known) value
  value_unknown value x o b is found e =
      let iff = no_register (entity_in known x) b (ap is_some (sym found) ∙ e) in
      (λ t. (x, is, iff.0 t), λ (y, is', none). iff.1 (subst (λ z. (r : Register) → ¬ ((width : ℕ) × CallsRegisterIn known z r width)) (cc) none))

  pub block_unknown : (x : Identifier) (o : Option ℕ) (b : Bool) → o ≡ block_of (entity_in known x) → is_some o ≡ not b → IsTrue b ↔ IsUnknownBlock (CallsIn known) x
  block_unknown x o b found e = no_block (entity_in known x) b (ap is_some (sym found) ∙ e)
