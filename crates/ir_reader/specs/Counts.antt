-- Sizes that fit 32 bits.
use Rattle.std.specs.Prelude.{◌<◌, ◌^◌, length, All}
use Rattle.ir_core.specs.declared.function.Function.{Function}
use Rattle.assigned_flow.specs.FewEntries.{HasFewEntries}

-- there are fewer than 2^32 blocks, instructions in each, and entries of each phi
pub record IsCountable (f : Function) : Type 0 where
  pub blocks : length f.blocks < 2 ^ 32
  pub insts : All (λ b. length b.insts < 2 ^ 32) f.blocks
  pub entries : All (λ b. All (λ i. HasFewEntries i.op) b.insts) f.blocks
