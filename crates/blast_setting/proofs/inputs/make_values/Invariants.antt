use Rattle.blast_setting.proofs.Common.{◌≡◌, length, Keeps, Held, held_value, IsOwn, IsOwn-kept, held_value-kept, value_bits, value_read}
use Rattle.blast_setting.proofs.Making.{AllMade}
use Rattle.blast_setting.proofs.inputs.make_values.Given as goal

abbrev pub invariant-loop-width : goal.invariant-loop-width
invariant-loop-width g l =
    let m = g.C.State in record {
      keeps : Keeps m l.initial.c l.c;
      gates : m.gates_made l.c ≡ m.gates_made l.initial.c;
      all : AllMade m.admits m.inputs_made (Keeps m) (λ old new k inputs admitted. k.admitted inputs admitted)
          (λ now x. IsOwn (m.has_literal now) x) (λ old new k x own. IsOwn-kept k x own) (λ now inputs x. held_value (m.value now inputs) x) (λ old new k inputs admitted x own. held_value-kept k inputs admitted x own)
          value_read value_bits (λ (h : Held _). length h.bits) l.initial.c l.c l.widths l.held.items l.width-index;
    }
