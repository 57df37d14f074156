use Rattle.rule_core.proofs.Common.{◌≡◌, ◌∙◌, ℕ, ◌<◌, ◌^◌, false, Some, None, ap, sym, arith, below_more, eq-eqb, ◌==◌, ne_eqb, exponent}
use Rattle.rule_core.proofs.Exponents.{found, not_found, shifted, is_power_of, is_no_power}
use Rattle.rule_core.proofs.term.exponent.Goals as goal

pub returns-then-k-number : goal.returns-then-k-number
returns-then-k-number c =
    let power = shifted c.loop-k.k (omega arith) in
    let before : (j : ℕ) → j < c.loop-k.k → (2 ^ j == c.args.a.number) ≡ false = λ j lt. ap (λ n. 2 ^ j == n) (sym c.number-number.ensures.number) ∙ c.loop-k.invariant j lt in
    let is : Some c.loop-k.k ≡ exponent c.args.a.width c.args.a.number =
    sym (found c.args.a.width c.args.a.number c.loop-k.k (omega arith) before (eq-eqb _ _ (omega arith))) in
    let small = c.number-number.ensures.fits in
    record {
      power = is_power_of c.args.a.width c.args.a.number (Some c.loop-k.k) (omega arith) is;
      none = is_no_power c.args.a.width c.args.a.number (Some c.loop-k.k) (omega arith) is;
      value = is;
    }

pub loop-k-preserved : goal.loop-k-preserved
loop-k-preserved c =
    let power = shifted c.loop-k.k (omega arith) in
    below_more _ _ c.loop-k.invariant (ne_eqb (2 ^ c.loop-k.k) c.number-number.result (λ same. c.if-k-number.false (omega arith)))

pub returns : goal.returns
returns c =
    let before : (j : ℕ) → j < c.args.a.width → (2 ^ j == c.args.a.number) ≡ false = λ j lt. ap (λ n. 2 ^ j == n) (sym c.number-number.ensures.number) ∙ c.loop-k.invariant j (omega arith) in
    let is : None ≡ exponent c.args.a.width c.args.a.number = sym (not_found c.args.a.width c.args.a.number before) in
    let small = c.number-number.ensures.fits in
    record {
      power = is_power_of c.args.a.width c.args.a.number None (omega arith) is;
      none = is_no_power c.args.a.width c.args.a.number None (omega arith) is;
      value = is;
    }
