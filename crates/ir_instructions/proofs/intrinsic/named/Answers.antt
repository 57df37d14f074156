use Rattle.ir_instructions.proofs.Common.{eqb, sym, ◌∙◌, rules, tests, YieldsList-from_slice, position_from_yields_List}
use Rattle.ir_instructions.proofs.FirstDot.{IsDot, no_dot, no_keyword, no_type, named_at}
use Rattle.ir_instructions.proofs.intrinsic.named.Goals as goal

pub returns-in_err-dot : goal.returns-in_err-dot
returns-in_err-dot c =
    let rest = c.args.rest.now in
    let found : IsDot rest c.position.result = position_from_yields_List (λ b. eqb b 46) _ _ c.position.result c.position.ensures.ran (YieldsList-from_slice rest cc) (λ x b q k. search (rules, tests)) in
    c.from_residual.ensures ∙ sym (no_dot rest (sym c.in_err-dot.was ∙ found))

pub returns-in_err-intrinsic : goal.returns-in_err-intrinsic
returns-in_err-intrinsic c =
    let rest = c.args.rest.now in
    let found : IsDot rest c.position.result = position_from_yields_List (λ b. eqb b 46) _ _ c.position.result c.position.ensures.ran (YieldsList-from_slice rest cc) (λ x b q k. search (rules, tests)) in
    c.from_residual-in_err-intrinsic.ensures ∙ sym (no_keyword rest c.in_ok-dot.dot (sym c.in_ok-dot.was ∙ found) (sym c.keyword_of.ensures ∙ c.in_err-intrinsic.was))

pub returns-in_err-width : goal.returns-in_err-width
returns-in_err-width c =
    let rest = c.args.rest.now in
    let found : IsDot rest c.position.result = position_from_yields_List (λ b. eqb b 46) _ _ c.position.result c.position.ensures.ran (YieldsList-from_slice rest cc) (λ x b q k. search (rules, tests)) in
    c.from_residual-in_err-width.ensures
    ∙ sym (no_type c.in_ok-intrinsic.intrinsic rest c.in_ok-dot.dot (sym c.in_ok-dot.was ∙ found) (sym c.keyword_of.ensures ∙ c.in_ok-intrinsic.was) (sym c.plain_width.ensures ∙ c.in_err-width.was))

pub returns : goal.returns
returns c =
    let rest = c.args.rest.now in
    let found : IsDot rest c.position.result = position_from_yields_List (λ b. eqb b 46) _ _ c.position.result c.position.ensures.ran (YieldsList-from_slice rest cc) (λ x b q k. search (rules, tests)) in
    sym (named_at c.in_ok-intrinsic.intrinsic c.in_ok-width.width rest c.in_ok-dot.dot (sym c.in_ok-dot.was ∙ found) (sym c.keyword_of.ensures ∙ c.in_ok-intrinsic.was) (sym c.plain_width.ensures ∙ c.in_ok-width.was))
