use Rattle.blast_setting.proofs.Common.{◌≡◌, List, length, All, Keeps, All-kept, number_held, number_held-kept, number_bits, number_read}
use Rattle.blast_setting.proofs.Making.{AllMade}
use Rattle.blast_setting.proofs.inputs.make_numbers.Given as goal

abbrev pub invariant-loop-width : goal.invariant-loop-width
invariant-loop-width g l =
    let m = g.C.State in record {
      keeps : Keeps m l.initial.c l.c;
      gates : m.gates_made l.c ≡ m.gates_made l.initial.c;
      all : AllMade m.admits m.inputs_made (Keeps m) (λ old new k inputs admitted. k.admitted inputs admitted)
          (λ now x. All (m.has_literal now) x) (λ old new k x own. All-kept k x own) (λ now inputs x. number_held (m.value now inputs) x) (λ old new k inputs admitted x own. number_held-kept k inputs admitted x own)
          number_read number_bits (λ (w : List _). length w) l.initial.c l.c l.widths l.words.items l.width-index;
    }
