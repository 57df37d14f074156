use Rattle.draft_steps.proofs.Common.{◌≡◌, ℕ, ◌+◌, ◌≤◌, length, Result, Ok, Err, sym, ap, subst, ◌∙◌, arith, IfOk, get_or_from_slice_get, slice_get_within, IsBlock, IsInst, Name, end_of, Block, Function, Inst, Rule, Binding, most_put, Rewrite, HasRoomFor, IsPutFor, MayPut, MayRead, Draft, inst_there, stands_there}
use Rattle.rewriter.specs.Put as target
use Rattle.draft_steps.specs.Rewriting.{numbered}
use Rattle.draft_steps.proofs.WhoReads.{end_of-is}
use Rattle.draft_steps.proofs.rewriting.rewrite_draft.Goals as goal

-- the rewrite by the binding whose root has the next number
same_rewrite : (rule : Rule) (f : Function) (m next : Binding) (w : Rewrite) (name root : Name) (count : ℕ) → w ≡ target.rewrite_of rule next name → next ≡ record m { place = count } → count ≡ end_of f m.block → name ≡ root
    → w ≡ target.rewrite_of rule (numbered f m) root
same_rewrite rule f m next w name root count is next_is count_is name_is =
    is ∙ (ap (λ (b : Binding). target.rewrite_of rule b name) (next_is ∙ ap (λ (n : ℕ). let b : Binding = record m { place = n } in b) count_is) ∙ ap (target.rewrite_of rule (numbered f m)) name_is)

if_ok : {T E : Type 0} (P Q : T → Type 0) (r : Result T E) → ((x : T) → P x → Q x) → IfOk r P → IfOk r Q
if_ok P Q (Ok x) follows h = follows x h
if_ok P Q (Err e) follows h = h

-- there are numbers left for the instructions of one rule
room_there : (d : Draft) (b : ℕ) (block : Block) → HasRoomFor 1 d → IsBlock d.arena b block → length block.insts + 32 ≤ 4294967295
room_there d b block room is =
    let here = room b block (slice_get_within d.arena.blocks b block is) in
    let same = ap (λ (x : Block). length x.insts) (get_or_from_slice_get d.arena.blocks b block block is) in
    omega arith

pub name_at-requires : goal.name_at-requires
name_at-requires c = stands_there c.args.draft.now c.requires.whole c.args.binding.now.block c.args.binding.now.place c.requires.root

pub count_in-requires-clause-block : goal.count_in-requires-clause-block
count_in-requires-clause-block c =
    let d = c.args.draft.now in
    let m = c.args.binding.now in
    let (block, is, within) = stands_there d c.requires.whole m.block m.place c.requires.root in
    slice_get_within d.arena.blocks m.block block is

pub rewrite_of-requires-clause-place : goal.rewrite_of-requires-clause-place
rewrite_of-requires-clause-place c =
    let d = c.args.draft.now in
    let m = c.args.binding.now in
    let (block, is, within) = stands_there d c.requires.whole m.block m.place c.requires.root in
    let place = ap (λ (b : Binding). b.place) c.in_ok-numbered.ensures in
    let count = c.count_in.ensures in
    let end = end_of-is d.arena m.block block is in
    let room = room_there d m.block block c.requires.room is in
    omega arith

pub put_for-requires-clause-root : goal.put_for-requires-clause-root
put_for-requires-clause-root c = c.requires.root

pub put_for-requires-clause-readable : goal.put_for-requires-clause-readable
put_for-requires-clause-readable c =
    let d = c.args.draft.now in
    let m = c.args.binding.now in
    let (block, inst, is_block, here) = inst_there d.arena m.block m.place (stands_there d c.requires.whole m.block m.place c.requires.root) in
    let is : IsInst c.args.draft.now.arena c.args.binding.now.block c.args.binding.now.place inst = record { block = block; is_block = is_block; is_inst = here } in
    let same = same_rewrite c.args.rule.now d.arena m c.in_ok-numbered.numbered c.in_ok-rewrite.rewrite c.in_ok-name.name inst.name c.count_in.result c.in_ok-rewrite.ensures c.in_ok-numbered.ensures c.count_in.ensures (c.in_ok-name.ensures inst is) in
    subst (λ (w : Rewrite). MayPut c.args.draft.now.arena c.args.binding.now.block w.put) (sym same) (c.requires.readable inst is)

pub put_for-requires-clause-result : goal.put_for-requires-clause-result
put_for-requires-clause-result c =
    let d = c.args.draft.now in
    let m = c.args.binding.now in
    let (block, inst, is_block, here) = inst_there d.arena m.block m.place (stands_there d c.requires.whole m.block m.place c.requires.root) in
    let is : IsInst c.args.draft.now.arena c.args.binding.now.block c.args.binding.now.place inst = record { block = block; is_block = is_block; is_inst = here } in
    let same = same_rewrite c.args.rule.now d.arena m c.in_ok-numbered.numbered c.in_ok-rewrite.rewrite c.in_ok-name.name inst.name c.count_in.result c.in_ok-rewrite.ensures c.in_ok-numbered.ensures c.count_in.ensures (c.in_ok-name.ensures inst is) in
    subst (λ (w : Rewrite). MayRead c.args.draft.now.arena c.args.binding.now.block (length w.put) w.result) (sym same) (c.requires.result inst is)

pub put_for-requires-clause-room : goal.put_for-requires-clause-room
put_for-requires-clause-room c = λ block is.
    let room = room_there c.args.draft.now c.args.binding.now.block block c.requires.room is in
    let most = most_put c.args.rule.now c.in_ok-numbered.numbered c.requires.rule c.in_ok-name.name in
    let size = ap (λ (w : Rewrite). length w.put) c.in_ok-rewrite.ensures in
    omega arith

pub returns : goal.returns
returns c =
    let d = c.args.draft.now in
    let m = c.args.binding.now in
    record {
      whole = c.put_for.ensures.whole;
      orders = c.put_for.ensures.orders;
      rewritten = if_ok (IsPutFor c.args.draft.now c.put_for.new.draft c.in_ok-rewrite.rewrite c.args.binding.now.place)
          (λ told. (root : Inst) → IsInst c.args.draft.now.arena c.args.binding.now.block c.args.binding.now.place root
          → IsPutFor c.args.draft.now c.put_for.new.draft (target.rewrite_of c.args.rule.now (numbered c.args.draft.now.arena c.args.binding.now) root.name) c.args.binding.now.place told)
          c.put_for.result
          (λ told put root is. subst (λ (w : Rewrite). IsPutFor c.args.draft.now c.put_for.new.draft w c.args.binding.now.place told)
          (same_rewrite c.args.rule.now d.arena m c.in_ok-numbered.numbered c.in_ok-rewrite.rewrite c.in_ok-name.name root.name c.count_in.result c.in_ok-rewrite.ensures c.in_ok-numbered.ensures c.count_in.ensures (c.in_ok-name.ensures root is)) put)
          c.put_for.ensures.put;
    }
