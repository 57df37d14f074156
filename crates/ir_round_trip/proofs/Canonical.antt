-- A function that meets its checks is what its canonical form means.
use Rattle.ir_round_trip.proofs.Common.{◌≡◌, ℕ, ◌<◌, length, Option, None, Some, IsSome, refl, arith, slice_get, option_map, option_and_then, slice_get_within, Parameter, Inst, IsFormed, width_of, RawFunction, Value, HasThing, Calls, InstMeans, BlockIsOf, ParameterMeans, MeansBy, Means, pair_of_second, same_length, Identifies}
use Rattle.ir_core.specs.declared.function.Function.{Function}
use Rattle.ir_core.specs.declared.function.Block.{Block as CoreBlock}
use Rattle.ir_core.specs.declared.operand.Register.{Register}
use Rattle.ir_core.specs.declared.operand.Register.TheVariants as registers
use Rattle.ir_resolve.specs.Written.{Block}
use Rattle.ir_round_trip.proofs.Naming.{calls}
use Rattle.ir_round_trip.proofs.Known.{function}

some_mapped : {X Y : Type 0} (g : X → Y) (o : Option X) → IsSome (option_map g o) → (x : X) × (o ≡ Some x)
some_mapped g None h = cc
some_mapped g (Some x) h = (x, refl)

some_behind : {X Y : Type 0} (g : X → Option Y) (o : Option X) → IsSome (option_and_then g o) → (x : X) × (o ≡ Some x) × IsSome (g x)
some_behind g None h = cc
some_behind g (Some x) h = (x, refl, h)

module _ (raw : RawFunction) (f : Function) (m : MeansBy (Identifies f) raw f) where
  -- each thing of the function is one of the function as written

  has_register : (r : Register) → IsSome (width_of f r) → HasThing raw (Value r)
  has_register (registers.Parameter k) has =
      let (p, at) = some_mapped (λ (p : Parameter). p.width) (slice_get f.parameters k) has in
      let within : k < length f.parameters = slice_get_within f.parameters k p at in
      omega (arith, same_length ParameterMeans raw.parameters f.parameters m.parameters)
  has_register (registers.Result b k) has =
      let (block, at, behind) = some_behind (λ (c : CoreBlock). option_map (λ (i : Inst). i.width) (slice_get c.insts k)) (slice_get f.blocks b) has in
      let (inst, inst_at) = some_mapped (λ (i : Inst). i.width) (slice_get block.insts k) behind in
      let (w, w_at, means) = pair_of_second (BlockIsOf (Identifies f)) raw.blocks f.blocks b block m.blocks at in
      let (v, v_at, v_means) = pair_of_second (InstMeans (Identifies f)) w.insts block.insts k inst means.1 inst_at in
      (v, (w, w_at, v_at))

  has_block : (b : ℕ) → b < length f.blocks → HasThing raw (Block b)
  has_block b within = omega (arith, same_length (BlockIsOf (Identifies f)) raw.blocks f.blocks m.blocks)

  pub is_meant : IsFormed f → Means raw f
  is_meant formed =
      function (Identifies f) (Calls raw) f (λ x r has is. calls raw f m x (Value r) (has_register r has) is) (λ x b within is. calls raw f m x (Block b) (has_block b within) is) formed raw m
