use Rattle.readers.proofs.Common.{◌+◌, ◌++◌, ◌<◌, ◌≤◌, ◌∷◌, [], ◌∙◌, List, Vec, Global, length, sym, ap, subst, arith, take, vec_capacity, vec_len, filter_map, append-nil, append_assoc, take_all, Operand, Register, operands_at, register_of}
use Rattle.readers.proofs.Listing.{other_taken, register_taken}
use Rattle.readers.proofs.uses.push_reads.Goals as goal
use Rattle.readers.proofs.uses.push_reads.Goals.{in-Register, in_default}

pub loop-index-init : goal.loop-index-init
loop-index-init c = record {
  items = c.in_ok-reserve.ensures.items ∙ sym (append-nil c.args.dead_candidates.now.items);
  room = omega (arith, c.in_ok-reserve.ensures.ok, c.count_at-count.ensures);
}

pub push_reserved-requires : goal.push_reserved-requires
push_reserved-requires c = omega (arith, c.loop-index.invariant.room, c.count_at-count.ensures)

pub loop-index-preserved : goal.loop-index-preserved
loop-index-preserved c =
    let l = c.loop-index in
    let reads : List Operand = operands_at c.args.arena.now c.args.place in
    let old : List Register = c.args.dead_candidates.now.items in
    let within : l.index < length reads = omega (arith, c.count_at-count.ensures) in
    elim c.match-operand_at.branch [
      | in-Register w ↦ record {
        items = ap (λ (v : Vec Register Global). v.items) w.dead_candidates-is ∙ w.push_reserved.ensures.items ∙ ap (λ (k : List Register). k ++ w.in-Register.register ∷ []) l.invariant.items
            ∙ append_assoc old (filter_map register_of (take l.index reads)) (w.in-Register.register ∷ [])
            ∙ ap (λ (k : List Register). old ++ k) (sym (register_taken reads l.index c.operand_at.result w.in-Register.register within c.operand_at.ensures w.in-Register.is));
        room = subst (λ (v : Vec Register Global). vec_len v + length reads ≤ vec_capacity v + (l.index + 1)) (sym w.dead_candidates-is)
            (omega (arith, w.push_reserved.ensures.len, w.push_reserved.ensures.capacity, l.invariant.room));
      }
      | in_default w ↦ record {
        items = ap (λ (v : Vec Register Global). v.items) w.dead_candidates-is ∙ l.invariant.items
            ∙ ap (λ (k : List Register). old ++ k) (sym (other_taken reads l.index c.operand_at.result within c.operand_at.ensures w.in_default.not-Register));
        room = subst (λ (v : Vec Register Global). vec_len v + length reads ≤ vec_capacity v + (l.index + 1)) (sym w.dead_candidates-is) (omega (arith, l.invariant.room));
      }
    ]

pub returns-clause-pushed : goal.returns-clause-pushed
returns-clause-pushed c =
    let l = c.loop-index in
    l.invariant.items ∙ ap (λ (reads : List Operand). c.args.dead_candidates.now.items ++ filter_map register_of reads) (take_all l.index (operands_at c.args.arena.now c.args.place) (omega (arith, c.count_at-count.ensures)))
