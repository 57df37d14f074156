use Rattle.blast_rule.proofs.Common.{◌≡◌, true, false, ◌||◌, sym, ap, subst, ◌∙◌, arith, Adds-trans, Adds-weaken, Keeps-trans, All-kept, StatementGives, effect_of, seen, seen-kept}
use Rattle.blast_rule.proofs.Statements.{effect-next}
use Rattle.blast_rule.proofs.statement.blast_next.Goals as goal

pub blast_statement-requires-clause-ready : goal.blast_statement-requires-clause-ready
blast_statement-requires-clause-ready g c = c.requires.ready

pub blast_statement-requires-clause-own : goal.blast_statement-requires-clause-own
blast_statement-requires-clause-own g c = c.requires.own

pub or-requires-clause-own_a : goal.or-requires-clause-own_a
or-requires-clause-own_a g c = c.blast_statement.ensures.adds.keeps.literals c.args.undefined c.requires.own_undefined

pub or-requires-clause-own_b : goal.or-requires-clause-own_b
or-requires-clause-own_b g c = c.in_ok-bits.ensures.own.undefined

pub returns-in_err-bits-clause-adds : goal.returns-in_err-bits-clause-adds
returns-in_err-bits-clause-adds g c = Adds-weaken c.blast_statement.ensures.adds (omega arith)

pub returns-in_err-undefined-clause-adds : goal.returns-in_err-undefined-clause-adds
returns-in_err-undefined-clause-adds g c = Adds-trans c.blast_statement.ensures.adds c.or.ensures.adds

pub returns-clause-gives : goal.returns-clause-gives
returns-clause-gives g c = λ inputs given admitted is_given none.
    let m = g.C.State in
    let first = c.blast_statement.ensures.adds.keeps in
    let then = c.or.ensures.adds.keeps in
    let now_admitted = first.admitted inputs admitted in
    let none_now : m.value c.blast_statement.new.c inputs c.args.undefined ≡ false = first.values inputs c.args.undefined admitted c.requires.own_undefined ∙ none in
    let same_registers = seen-kept (Keeps-trans first then) inputs admitted c.args.scope c.requires.own in
    let same_effect = effect-next then inputs now_admitted c.in_ok-bits.field-0 c.args.undefined c.in_ok-undefined.undefined c.in_ok-bits.ensures.own none_now (c.in_ok-undefined.ensures.value inputs now_admitted) in
    subst (λ held. StatementGives c.args.typing.now given held c.args.statement.now (effect_of (m.value c.or.new.c inputs) (record { bits = c.in_ok-bits.field-0.bits; poison = c.in_ok-bits.field-0.poison; undefined = c.in_ok-undefined.undefined }))) (sym same_registers)
    (subst (λ e. StatementGives c.args.typing.now given (seen (m.value c.args.c.now inputs) c.args.scope) c.args.statement.now e) (sym same_effect) (c.in_ok-bits.ensures.gives inputs given admitted is_given))

pub returns-clause-adds : goal.returns-clause-adds
returns-clause-adds g c = Adds-trans c.blast_statement.ensures.adds c.or.ensures.adds

pub returns-clause-stays : goal.returns-clause-stays
returns-clause-stays g c = λ inputs admitted is.
    let m = g.C.State in
    let first = c.blast_statement.ensures.adds.keeps in
    let still : m.value c.blast_statement.new.c inputs c.args.undefined ≡ true = first.values inputs c.args.undefined admitted c.requires.own_undefined ∙ is in
    c.in_ok-undefined.ensures.value inputs (first.admitted inputs admitted) ∙ ap (λ b. b || m.value c.blast_statement.new.c inputs c.in_ok-bits.field-0.undefined) still

pub returns-clause-width : goal.returns-clause-width
returns-clause-width g c = c.in_ok-bits.ensures.width

pub returns-clause-own : goal.returns-clause-own
returns-clause-own g c =
    let own = c.in_ok-bits.ensures.own in
    let then = c.or.ensures.adds.keeps in
    record {
      bits = All-kept then c.in_ok-bits.field-0.bits own.bits;
      poison = then.literals c.in_ok-bits.field-0.poison own.poison;
      undefined = c.in_ok-undefined.ensures.own;
    }
