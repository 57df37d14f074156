use Rattle.rule_typing.proofs.Common.{◌≡◌, ◌↔◌, ◌≤◌, ℕ, Some, sym, ap, subst, same_Some, Rule, operands_in, terms_in, Fixed, LiteralsFit, TermsFit, MayHaveWidth}
use Rattle.rule_typing.proofs.Among.{says}
use Rattle.rule_typing.proofs.fits.class_fits.Goals as goal

-- the class may have the width, where none but this one is fixed, and literals fit
by_literals : (rule : Rule) (c N bits : ℕ) → bits ≡ N → 1 ≤ bits → bits ≤ 64 → ((M : ℕ) → Fixed rule c M → Some N ≡ Some M) → (LiteralsFit (operands_in rule) c bits × TermsFit (terms_in rule) c bits) ↔ MayHaveWidth rule c N
by_literals rule c N bits same low high only =
    rw (sym same) (
      λ (fit, terms). record { within = (low, high); fixed = λ M fixed. sym (same_Some bits M (subst (λ n. Some n ≡ Some M) (sym same) (only M fixed))); literals = λ o z among is e. fit o among z is e; term_literals = λ t z among is e. terms t among z is e },
      λ may. (λ o among z is e. may.literals o z among is e, λ t among z is e. may.term_literals t z among is e),
    )

pub returns-in-Some : goal.returns-in-Some
returns-in-Some c = (λ h. cc, λ may. absurd (c.in-Some.ensures.some.1 (ap (λ n. Some n) (sym (may.fixed c.in-Some.field-0 c.in-Some.ensures.some.0)))))

pub returns-in-None : goal.returns-in-None
returns-in-None c =
    says c.literals_fit.result c.literals_fit.ensures
    (by_literals c.args.rule.now c.args.class c.args.width c.bits.result c.bits.ensures.bits c.bits.ensures.at_least_one c.bits.ensures.at_most_64 c.in-None.ensures.none)
