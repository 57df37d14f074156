-- The module of a text has no more parts than the text has bytes.
use Rattle.ir_round_trip.proofs.Common.{ℕ, ◌≤◌, List, length, take, subst, arith, slice_get_within, Entry, Operand, Op, RawEntry, RawFunction, RawArguments, RawOp, Call, IncomingMeans, OpMeans, InstMeans, BlockIsOf, ParameterMeans, Means, ArgumentsMean, Calls, pair_of_second, same_length, IsEntryOf, functions_of, there, HasAtMost, ModuleTextsAreSmall}
use Rattle.ir_core.specs.declared.module.Entry.TheVariants as core_entries
use Rattle.ir_core.specs.declared.function.Function.{Function}
use Rattle.ir_core.specs.declared.instruction.Op.TheVariants as core
use Rattle.ir_tokens.specs.declared.raw.RawEntry.TheVariants as entries
use Rattle.ir_tokens.specs.declared.raw.RawArguments.TheVariants as arguments
use Rattle.ir_tokens.specs.declared.raw.RawOp.TheVariants.{Binary, Compare, Select, Convert, Freeze, Phi}
use Rattle.ir_round_trip.proofs.Every.{every_at}
use Rattle.ir_round_trip.proofs.WrittenSizes.{few_tokens, OpFew, InstFew, BlockFew, FunctionFew, EntryFew, entries_few}

module _ (n : ℕ) where
  call_is_no_phi : (raw : RawFunction) (w : RawArguments) (phi : List (Operand × ℕ)) → ¬ ArgumentsMean (Calls raw) w (core.Phi phi)
  call_is_no_phi raw (arguments.Binary op a b) phi means = means
  call_is_no_phi raw (arguments.Unary op a truth) phi means = means

  phi_has : (raw : RawFunction) (o : RawOp) (phi : List (Operand × ℕ)) → OpMeans (Calls raw) o (core.Phi phi) → OpFew n o → length phi ≤ n
  phi_has raw (Phi width incoming) phi means few = omega (arith, same_length (IncomingMeans (Calls raw)) incoming phi means)
  phi_has raw (Binary op flags width a b) phi means few = absurd means
  phi_has raw (Compare pred samesign width a b) phi means few = absurd means
  phi_has raw (Call w) phi means few = absurd (call_is_no_phi raw w.arguments phi means)
  phi_has raw (Select condition a b) phi means few = absurd means
  phi_has raw (Convert cast flags from a to) phi means few = absurd means
  phi_has raw (Freeze width a) phi means few = absurd means

  function_has : (raw : RawFunction) (f : Function) → Means raw f → FunctionFew n raw → HasAtMost n f
  function_has raw f m few = record {
    parameters = omega (arith, few.parameters, same_length ParameterMeans raw.parameters f.parameters m.parameters);
    blocks = omega (arith, few.blocks, same_length (BlockIsOf (Calls raw)) raw.blocks f.blocks m.blocks);
    insts = λ b block is.
        let (w, at, means) = pair_of_second (BlockIsOf (Calls raw)) raw.blocks f.blocks b block m.blocks is in
        let of_block = every_at (BlockFew n) raw.blocks b w few.each at in
        omega (arith, of_block.0, same_length (InstMeans (Calls raw)) w.insts block.insts means.1);
    entries = λ b k inst phi is same.
        let (w, at, means) = pair_of_second (BlockIsOf (Calls raw)) raw.blocks f.blocks b is.block m.blocks is.is_block in
        let (v, v_at, v_means) = pair_of_second (InstMeans (Calls raw)) w.insts is.block.insts k inst means.1 is.is_inst in
        let of_block = every_at (BlockFew n) raw.blocks b w few.each at in
        phi_has raw v.op phi (subst (OpMeans (Calls raw) v.op) same v_means.2) (every_at (InstFew n) w.insts k v of_block.1 v_at);
  }

  entry_has : (earlier : List RawFunction) (raw : RawEntry) (f : Function) → IsEntryOf earlier raw (core_entries.Function f) → EntryFew n raw → HasAtMost n f
  entry_has earlier (entries.Kept text) f is few = absurd is
  entry_has earlier (entries.Function raw) f is few = function_has raw f is.resolved.1 few

pub texts_small : ModuleTextsAreSmall
texts_small text m is =
    let n : ℕ = length text in
    let tokens = few_tokens is.is_raw.are_tokens (omega arith) in
    let spelled = is.is_raw.spelled in
    let few = entries_few n is.raw.entries is.is_raw.tokens spelled.1.0 spelled.1.1 (omega arith) in
    λ k f at.
    let (raw, here) = there is.raw.entries k (let within = slice_get_within m.entries k (core_entries.Function f) at in omega (arith, is.entries.count)) in
    entry_has n (functions_of (take k is.raw.entries)) raw f (is.entries.each k raw (core_entries.Function f) here at) (every_at (EntryFew n) is.raw.entries k raw few here)
