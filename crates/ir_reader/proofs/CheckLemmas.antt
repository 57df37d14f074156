-- A module that is read meets the checks of functions and of modules.
use Rattle.ir_reader.proofs.Common.{◌≡◌, inl, inr, ℕ, zero, suc, ◌<◌, List, [], ◌∷◌, length, take, Some, refl, sym, ap, subst, ◌∙◌, arith, Option, None, is_some, slice_get, slice_get_within, flags_of, flags_of_cast, Module, Function, Inst, Op, Operand, ReadsAreAssigned, Names, IsInst, IsPhi, EntriesFit, MeetsChecks, ModuleMeetsChecks, Identifier, Placed, RawModule, RawEntry, RawFunction, RawBlock, RawArguments, RawOp, TypedOperand, has_truth, SpellsArguments, SpellsTruthOf, SpellsIncoming, SpellsOp, SpellsInst, Part, Separated, SpellsBlock, SpellsBlocks, SpellsLabelledBlock, SpellsEntry, IsRaw, taken_flags, Duplicate, TypeClash, HasNoFault, Means, IncomingMeans, ArgumentsMean, OpMeans, InstMeans, Thing, Calls, IsWellWrittenOp, IsWellWritten, IsWellWrittenCall, resolved, OnlyPhisBefore, OpFits, ResolvesTo, IsFunctionOf, functions_of, IsEntryOf, IsModuleText, IsWellWrittenEntry}
use Rattle.ir_core.specs.declared.module.Entry.TheVariants as entries
use Rattle.ir_core.specs.declared.instruction.Op.TheVariants as core
use Rattle.ir_tokens.specs.declared.raw.RawEntry.TheVariants as raw_entries
use Rattle.ir_tokens.specs.declared.raw.RawArguments.TheVariants as arguments
use Rattle.ops.specs.declared.opcode.Unary.{Unary}
use Rattle.ir_tokens.specs.declared.raw.RawOp.TheVariants as ops
use Rattle.ir_resolve.specs.Formed.{IsWellNamed as IsNamed}
use Rattle.ir_reader.proofs.Formed.{PhisFit}
use Rattle.ir_reader.proofs.Meaning.{block_written}
use Rattle.ir_reader.proofs.Places.{order, there, somewhere, contained, take_at, zip_right, zip_length}
use Rattle.ir_reader.proofs.ReadEntries.{each_spelled, some_block}

-- ---- functions as the grammar has them

some_separated : {X : Type 0} (P : X → Part) (xs : List X) (tokens rest : List Placed) → Separated P xs tokens rest → 0 < length xs
some_separated P [] tokens rest spelled = absurd spelled
some_separated P (x ∷ xs) tokens rest spelled = omega arith

truth_written : (op : Unary) (truth : Option TypedOperand) (tokens rest : List Placed) → SpellsTruthOf op truth tokens rest → is_some truth ≡ has_truth op
truth_written op None tokens rest spelled = sym spelled.0
truth_written op (Some t) tokens rest spelled = sym spelled.0

call_written : (w : RawArguments) (tokens rest : List Placed) → SpellsArguments w tokens rest → IsWellWrittenCall w
call_written (arguments.Binary op a b) tokens rest spelled = tt
call_written (arguments.Unary op a truth) tokens rest (between, one, spelled) = truth_written op truth between rest spelled

op_written : (op : RawOp) (tokens rest : List Placed) → SpellsOp op tokens rest → IsWellWrittenOp op
op_written (ops.Binary op flags width a b) tokens rest spelled = taken_flags (flags_of op) flags _ _ spelled.2.1
op_written (ops.Compare pred samesign width a b) tokens rest spelled = tt
op_written (ops.Call w) tokens rest (t1, marker, (t2, call, (t3, items, (t4, type, (t5, callee, (t6, opens, (t7, spelled, closes))))))) =
    call_written w.arguments t6 t7 spelled
op_written (ops.Select c a b) tokens rest spelled = tt
op_written (ops.Convert cast flags from a to) tokens rest spelled = taken_flags (flags_of_cast cast) flags _ _ spelled.2.1
op_written (ops.Freeze width a) tokens rest spelled = tt
op_written (ops.Phi width incoming) tokens rest spelled = some_separated (SpellsIncoming width) incoming _ _ spelled.2.2

block_spelled : (blocks : List RawBlock) (k : ℕ) (block : RawBlock) (tokens rest : List Placed) → SpellsBlocks blocks tokens rest → slice_get blocks k ≡ Some block → (t : List Placed) × ((r : List Placed) × SpellsBlock block t r)
block_spelled [] k block tokens rest spelled at = cc
block_spelled (first ∷ others) zero block tokens rest spelled at = let same : first ≡ block = cc in (tokens, (spelled.0, subst (λ b. SpellsBlock b tokens spelled.0) same spelled.1))
block_spelled (first ∷ others) (suc k) block tokens rest spelled at = let (t, (r, is)) = each_spelled SpellsLabelledBlock others k block spelled.0 rest spelled.2 at in (t, (r, is.1))

well_written : (f : RawFunction) (tokens rest : List Placed) → SpellsBlocks f.blocks tokens rest → IsWellWritten f
well_written f tokens rest spelled = record {
  some_block = some_block f.blocks tokens rest spelled;
  insts = λ block inst in_blocks in_insts.
      let (k, at) = somewhere f.blocks block in_blocks in
      let (j, at') = somewhere block.insts inst in_insts in
      let (t, (r, is)) = block_spelled f.blocks k block tokens rest spelled at in
      let (t', (r', is')) = each_spelled SpellsInst block.insts j inst is.0 is.2.0 is.2.1 at' in
      op_written inst.op is'.2.0 is'.2.2.0 is'.2.2.1;
}

pub entry_written : (entry : RawEntry) (tokens rest : List Placed) → SpellsEntry entry tokens rest → IsWellWrittenEntry entry
entry_written (raw_entries.Kept text) tokens rest spelled = tt
entry_written (raw_entries.Function f) tokens rest spelled = well_written f _ _ spelled.2.2.2.2.2.2.2.2.1

pub all_well_written : (text : List ℕ) (m : RawModule) → IsRaw text m → (k : ℕ) (entry : RawEntry) → slice_get m.entries k ≡ Some entry → IsWellWrittenEntry entry
all_well_written text m raw k entry at =
    let (t, (r, spelled)) = each_spelled SpellsEntry m.entries k entry raw.tokens raw.spelled.1.0 raw.spelled.1.1 at in
    entry_written entry t r spelled

-- ---- functions

phi_first : (f : Function) (b k : ℕ) (op : Op) → IsPhi op → OpFits f b k op → OnlyPhisBefore f b k
phi_first f b k (core.Phi es) phi fits = fits.only_phis
phi_first f b k op phi fits = absurd phi

-- no call means a phi
call_no_phi : (CallsThing : Identifier → Thing → Type 0) (w : RawArguments) (es : List (Operand × ℕ)) → ArgumentsMean CallsThing w (core.Phi es) → ⊥
call_no_phi CallsThing (arguments.Binary op a b) es means = means
call_no_phi CallsThing (arguments.Unary op a truth) es means = means

-- a phi as the grammar has it has at least one entry, and so has the phi that it means
some_entry : (CallsThing : Identifier → Thing → Type 0) (w : RawOp) (es : List (Operand × ℕ)) → OpMeans CallsThing w (core.Phi es) → IsWellWrittenOp w → 0 < length es
some_entry CallsThing (ops.Phi width incoming) es means some = let long = zip_length (IncomingMeans CallsThing) incoming es means in omega arith
some_entry CallsThing (ops.Call call) es means some = absurd (call_no_phi CallsThing call.arguments es means)
some_entry CallsThing w es means some = absurd means

phi_has_entry : (raw : RawFunction) (f : Function) (b k : ℕ) (inst : Inst) (es : List (Operand × ℕ)) → Means raw f → IsWellWritten raw → IsInst f b k inst → inst.op ≡ core.Phi es → 0 < length es
phi_has_entry raw f b k inst es means well is phi =
    let (w, w_at, block_is) = block_written raw f means b is.block is.is_block in
    let (v, v_at, v_means) = zip_right (InstMeans (Calls raw)) w.insts is.block.insts k inst block_is.1 is.is_inst in
    some_entry (Calls raw) v.op es (subst (OpMeans (Calls raw) v.op) phi v_means.2) (well.insts w v (contained raw.blocks b w w_at) (contained w.insts k v v_at))

phi_entries : (f : Function) (b k : ℕ) (op : Op) (es : List (Operand × ℕ)) → op ≡ core.Phi es → OpFits f b k op → 0 < length es → EntriesFit f b es
phi_entries f b k op es is fits some = let here = rw is at fits in record { some = some; from = here.from; one = here.one }

named : (earlier : List RawFunction) (raw : RawFunction) (f : Function) → HasNoFault earlier raw → Means raw f → IsWellWritten raw → IsNamed f
named earlier raw f none means well =
    resolved raw f means (λ line h. none Duplicate line (inr (inl h))) (λ line h. none Duplicate line (inr (inr h))) (λ line h. none TypeClash line h) well

pub meets : (earlier : List RawFunction) (raw : RawFunction) (f : Function) → IsWellWritten raw → ResolvesTo earlier raw f → PhisFit f → ((b : ℕ) → ¬ Names f b 0) → ReadsAreAssigned f → MeetsChecks f
meets earlier raw f well resolved fit free assigned =
    let names = named earlier raw f resolved.0 resolved.1 well in
    record {
      formed = record {
        some_block = names.some_block;
        names = names.names;
        registers = names.registers;
        blocks = names.blocks;
        operands = names.operands;
        insts = names.insts;
        cases = names.cases;
        phis_first = λ b j k earlier later early late lt phi. phi_first f b k later.op phi (fit b k later late) j earlier lt early;
        phis = λ b k inst es inst_is e. phi_entries f b k inst.op es e (fit b k inst inst_is) (phi_has_entry raw f b k inst es resolved.1 well inst_is e);
        entry = free;
      };
      assigned = assigned;
    }

-- ---- modules

-- an entry that means a function is written as one
written_function : (earlier : List RawFunction) (raw : RawEntry) (f : Function) → IsEntryOf earlier raw (entries.Function f) → (g : RawFunction) × (raw ≡ raw_entries.Function g) × IsFunctionOf earlier g f
written_function earlier (raw_entries.Kept text) f is = absurd is
written_function earlier (raw_entries.Function g) f is = (g, refl, is)

-- a function among entries is among their functions
among_functions : (xs : List RawEntry) (j : ℕ) (g : RawFunction) → slice_get xs j ≡ Some (raw_entries.Function g) → (i : ℕ) × (slice_get (functions_of xs) i ≡ Some g)
among_functions [] j g at = cc
among_functions (raw_entries.Kept text ∷ xs) zero g at = cc
among_functions (raw_entries.Function h ∷ xs) zero g at = let same : h ≡ g = cc in (0, ap (λ x. Some x) same)
among_functions (raw_entries.Kept text ∷ xs) (suc j) g at = among_functions xs j g at
among_functions (raw_entries.Function h ∷ xs) (suc j) g at = let (i, at') = among_functions xs j g at in (suc i, at')

module _ (text : List ℕ) (m : Module) (is : IsModuleText text m) where
  written_at : (k : ℕ) (f : Function) → slice_get m.entries k ≡ Some (entries.Function f) → (g : RawFunction) × (slice_get is.raw.entries k ≡ Some (raw_entries.Function g)) × IsFunctionOf (functions_of (take k is.raw.entries)) g f
  written_at k f at =
      let within : k < length m.entries = slice_get_within m.entries k (entries.Function f) at in
      let (raw, here) = there is.raw.entries k (omega (arith, is.entries.count)) in
      let (g, e, own) = written_function (functions_of (take k is.raw.entries)) raw f (is.entries.each k raw (entries.Function f) here at) in
      (g, here ∙ ap (λ x. Some x) e, own)

  other_name : (j k : ℕ) (f g : Function) → slice_get m.entries j ≡ Some (entries.Function f) → slice_get m.entries k ≡ Some (entries.Function g) → f.name ≡ g.name → ¬ (j < k)
  other_name j k f g at at' same lt =
      let (r, r_at, first) = written_at j f at in
      let (s, s_at, second) = written_at k g at' in
      let (i, among) = among_functions (take k is.raw.entries) j r (take_at k is.raw.entries j (raw_entries.Function r) lt r_at) in
      second.resolved.0 Duplicate s.line (inl ((i, r, among, sym first.resolved.1.name ∙ same ∙ second.resolved.1.name), refl))

  pub module_meets : ModuleMeetsChecks m
  module_meets = record {
    functions = λ k f at. let (g, here, own) = written_at k f at in own.checks;
    names = λ j k f g at at' same. elim (order j k) [
      | inl lt ↦ absurd (other_name j k f g at at' same lt)
      | inr (inl e) ↦ e
      | inr (inr gt) ↦ absurd (other_name k j g f at' at (sym same) gt)
    ];
  }
