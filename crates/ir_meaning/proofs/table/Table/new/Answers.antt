use Rattle.ir_meaning.proofs.Common.{◌≡◌, ℕ, ◌<◌, ◌+◌, ◌++◌, List, [], ◌∷◌, length, take, get_or, replicate, refl, ap, ◌∙◌, arith, sum_by, slice_get_read, Value, AreArguments, Function, Block}
use Rattle.ops.specs.declared.value.Value.TheVariants as values
use Rattle.ir_meaning.proofs.Tables.{AreFirsts, firsts_more, started, started_arguments, started_count, started_more, started_table}
use Rattle.ir_meaning.proofs.table.Table.new.Goals as goal

one_more : (f : Function) (args : List Value) (i : ℕ) (block : Block) (firsts new_firsts : List ℕ) (vs new_vs : List Value) (first count : ℕ)
    → AreArguments f.parameters args → i < length f.blocks → block ≡ get_or f.blocks i block
    → AreFirsts f i firsts × (vs ≡ started args (sum_by (λ b. length b.insts) (take i f.blocks)))
    → first ≡ length vs → new_firsts ≡ firsts ++ first ∷ []
    → count ≡ length block.insts → new_vs ≡ vs ++ replicate count values.Poison
    → AreFirsts f (i + 1) new_firsts × (new_vs ≡ started args (sum_by (λ b. length b.insts) (take (i + 1) f.blocks)))
one_more f args i block firsts new_firsts vs new_vs first count are below at before is_first pushed is_count added = (
  rw pushed (firsts_more f i first firsts before.0 (is_first ∙ ap length before.1 ∙ started_count f args i are)),
  rw (added, before.1, is_count) (started_more f args i block (slice_get_read f.blocks (length f.blocks) i block refl below at)),
)

pub loop-block-preserved : goal.loop-block-preserved
loop-block-preserved c =
    one_more c.args.f.now c.args.args.now c.loop-block.block-index c.block-item.result c.loop-block.firsts.items c.push-in-loop-block.new.self.items c.loop-block.values.items c.push_poison.new.values.items c.len.result c.len-in-loop-block.result
    c.requires (rw c.as_slice-block-items.ensures at c.loop-block-test.true) (rw c.as_slice-block-items.ensures at c.block-item.is) c.loop-block.invariant (omega (arith, c.loop-block.values.ok.0)) c.in_ok-push-2.ensures.items c.len-in-loop-block.ensures c.in_ok-push_poison.ensures

pub returns-clause-table : goal.returns-clause-table
returns-clause-table c =
    let all : c.loop-block.block-index ≡ length c.args.f.now.blocks = rw (← c.as_slice-block-items.ensures) (omega arith) in
    rw c.loop-block.invariant.1 (started_table c.args.f.now c.args.args.now c.loop-block.block-index c.loop-block.firsts.items c.requires all c.loop-block.invariant.0)

pub returns-clause-arguments : goal.returns-clause-arguments
returns-clause-arguments c =
    rw c.loop-block.invariant.1 (started_arguments c.args.f.now c.args.args.now (sum_by (λ (b : Block). length b.insts) (take c.loop-block.block-index c.args.f.now.blocks)) c.requires)
