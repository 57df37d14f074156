use Rattle.rule_typing.proofs.Common.{sym, refl, add-zero, arith, Term, classes_of_term, numbered_term}
use Rattle.rule_typing.proofs.NumberedLists.{length_so_far, has_room, one_numbered, all_numbered}
use Rattle.rule_typing.proofs.relabelling.number_terms.Goals as goal

pub loop-place-init : goal.loop-place-init
loop-place-init c = record { written = refl; next = sym (add-zero c.args.first) }

pub get_mut-term-requires : goal.get_mut-term-requires
get_mut-term-requires c = omega (arith, length_so_far Term classes_of_term numbered_term c.args.first c.loop-place.place c.loop-place.next c.args.terms.now c.loop-place.terms c.loop-place.invariant)

pub number_term-next-requires : goal.number_term-next-requires
number_term-next-requires c =
    omega (arith, has_room Term classes_of_term numbered_term c.args.first c.loop-place.place c.loop-place.next c.args.terms.now c.loop-place.terms c.get_mut-term.result.now c.loop-place.invariant (omega arith) c.get_mut-term.ensures.value, c.requires)

pub loop-place-preserved : goal.loop-place-preserved
loop-place-preserved c =
    one_numbered Term classes_of_term numbered_term c.args.first c.loop-place.place c.loop-place.next c.number_term-next.result c.args.terms.now c.loop-place.terms c.get_mut-term.result.now c.number_term-next.new.term c.loop-place.invariant (omega arith)
    c.get_mut-term.ensures.value c.number_term-next.ensures.numbered c.number_term-next.ensures.behind

pub returns-clause-numbered : goal.returns-clause-numbered
returns-clause-numbered c = all_numbered Term classes_of_term numbered_term c.args.first c.loop-place.place c.loop-place.next c.args.terms.now c.loop-place.terms c.loop-place.invariant (omega (arith, c.len-place-end.ensures))
