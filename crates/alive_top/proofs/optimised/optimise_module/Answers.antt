use Rattle.alive_top.proofs.Common.{ℕ, List, subst, ModuleHasForms, IsModuleText}
use Rattle.alive_top.proofs.Reading.{ready_at}
use Rattle.alive_top.proofs.optimised.optimise_module.Goals as goal

pub optimise-requires-clause-numbers : goal.optimise-requires-clause-numbers
optimise-requires-clause-numbers c = c.formed_modules_numbers_fit.ensures c.args.source.now c.requires.source.forms

pub optimise-requires-clause-rules : goal.optimise-requires-clause-rules
optimise-requires-clause-rules c = λ k d within. (ready_at c.args.rules.now c.requires.ready k d within).checks

pub optimise-requires-clause-classes : goal.optimise-requires-clause-classes
optimise-requires-clause-classes c = λ k d within. (ready_at c.args.rules.now c.requires.ready k d within).classes

pub optimise-requires-clause-typed : goal.optimise-requires-clause-typed
optimise-requires-clause-typed c = λ k d within. (ready_at c.args.rules.now c.requires.ready k d within).typed

pub optimise-requires-clause-countable : goal.optimise-requires-clause-countable
optimise-requires-clause-countable c = c.requires.source.countable c.args.options.steps c.requires.steps

pub returns-clause-prints : goal.returns-clause-prints
returns-clause-prints c = λ bytes is.
    let rules = c.args.rules.now in
    let read = c.args.source.now in
    let done = c.in_ok-done.done in
    let new = done.module in
    let forms : ModuleHasForms new =
    c.optimised_modules_have_forms.ensures c.args.options.fold c.args.options.across rules c.args.options.steps done.table read new done.counts done.limited c.requires.ready c.requires.source.checks
    c.requires.source.forms c.in_ok-done.ensures.strategy in
    record {
      new = new;
      counts = done.counts;
      limited = done.limited;
      optimised = record {
        read = read;
        source = is;
        strategy = c.in_ok-done.ensures.strategy;
        honest = c.in_ok-done.ensures.honest;
        decided = c.in_ok-done.ensures.decided;
        refines = c.in_ok-done.ensures.refines;
        checks = c.in_ok-done.ensures.checks;
        reads = subst (λ (text : List ℕ). IsModuleText text new) c.in_ok-out.ensures.text (c.in_ok-out.ensures.reads forms c.in_ok-done.ensures.checks);
      };
      out_is = c.in_ok-out.ensures.text;
      report_is = c.in_ok-report.ensures;
    }
