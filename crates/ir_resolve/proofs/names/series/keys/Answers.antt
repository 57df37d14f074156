use Rattle.ir_resolve.proofs.Common.{◌≡◌, ◌≤◌, ◌<◌, [], ◌∷◌, map, length, ap, subst, refl, rules, arith, take_all, given, called_in, seen, seen_written}
use Rattle.ir_resolve.proofs.Series.{number_after, number-le, next_numbered, next_named, keys_more, next_more}
use Rattle.ir_resolve.proofs.names.series.keys.Goals as goal
use Rattle.ir_resolve.proofs.names.series.keys.Goals.{in-Numbered, in_default}

pub loop-definition-init : goal.loop-definition-init
loop-definition-init c = record { keys = ap (map seen) c.in_ok-keys.ensures.items; next = refl }

pub loop-definition-preserved : goal.loop-definition-preserved
loop-definition-preserved c =
    let ds = c.args.definitions.now in
    let i = c.loop-definition.definition-index in
    let d = c.definition-item.result in
    let lt : i < length ds = omega arith in
    let n = c.loop-definition.next_number in
    let next : c.match-key.next_number ≡ number_after n (given (seen_written d) ∷ []) =
    elim c.match-key.branch [
      | in-Numbered w ↦ next_numbered n w.in-Numbered.field-0 c.match-key.next_number (given (seen_written d)) c.key_of-key.result c.key_of-key.ensures w.in-Numbered.is w.next_number-is
      | in_default w ↦ next_named n c.match-key.next_number (given (seen_written d)) c.key_of-key.result c.key_of-key.ensures w.in_default.not-Numbered w.next_number-is
    ]
    in
    record {
      keys = keys_more ds i d lt c.definition-item.is n c.loop-definition.invariant.next c.loop-definition.keys.items c.push.new.self.items c.key_of-key.result c.loop-definition.invariant.keys c.key_of-key.ensures c.in_ok-push.ensures.items;
      next = next_more ds i d lt c.definition-item.is n c.loop-definition.invariant.next c.match-key.next_number next;
    }

pub overflow_add-next_number : goal.overflow_add-next_number
overflow_add-next_number c =
    let ds = c.args.definitions.now in
    let i = c.loop-definition.definition-index in
    let lt : i < length ds = omega arith in
    let le : c.loop-definition.next_number ≤ i = number-le ds i c.definition-item.result lt c.definition-item.is c.loop-definition.next_number c.loop-definition.invariant.next in
    search rules

pub returns : goal.returns
returns c =
    let ds = c.args.definitions.now in
    subst (λ xs. map seen c.loop-definition.keys.items ≡ called_in (map seen_written xs)) (take_all c.loop-definition.definition-index ds (omega arith)) c.loop-definition.invariant.keys
