use Rattle.alive_top.proofs.Common.{◌≡◌, ◌∙◌, ℕ, ◌<◌, ◌^◌, ap, sym, subst, arith, ModuleMeetsChecks, ModuleIsCountable, ModuleNumbersFit, default_steps, instructions_in, load_text, generated_countable, generated_size}
use Rattle.alive_top.proofs.loading.load.Goals as goal

pub optimised-requires-clause-checks : goal.optimised-requires-clause-checks
optimised-requires-clause-checks c =
    let few : 200 < 2 ^ 32 = omega arith in
    subst ModuleMeetsChecks (sym c.in_ok-module.ensures) (c.generated_modules_meet_checks.ensures c.args.number 200 few)

pub optimised-requires-clause-numbers : goal.optimised-requires-clause-numbers
optimised-requires-clause-numbers c =
    subst ModuleNumbersFit (sym c.in_ok-module.ensures) (c.generated_numbers_fit.ensures c.args.number 200)

pub optimised-requires-clause-countable : goal.optimised-requires-clause-countable
optimised-requires-clause-countable c =
    subst (ModuleIsCountable default_steps) (sym c.in_ok-module.ensures)
    (generated_countable c.generated_functions_have_twenty_instructions.ensures.small c.args.number 200)

pub returns : goal.returns
returns c =
    let done = c.in_ok-done.done in
    let by = c.in_ok-done.ensures in
    let laws = c.generated_functions_have_twenty_instructions.ensures in
    let before : instructions_in c.in_ok-module.module ≡ 4000 =
    ap instructions_in c.in_ok-module.ensures ∙ generated_size laws.entries laws.count c.args.number 200
    in
    record {
      rules = by.rules;
      built_in = by.built_in;
      new = done.module;
      counts = done.counts;
      limited = done.limited;
      strategy = rw c.in_ok-module.ensures at by.strategy;
      honest = by.honest;
      admitted = by.admitted;
      text_is = c.in_ok-text.ensures ∙ ap (λ (n : ℕ). load_text 200 n done.module done.counts done.limited) before;
    }
