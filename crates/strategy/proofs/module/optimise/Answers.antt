use Rattle.strategy.proofs.Entering.{each_ready, all_ready, admitted_are_valid}
use Rattle.strategy.proofs.module.optimise.Goals as goal

pub plain_strategy-requires-clause-entries : goal.plain_strategy-requires-clause-entries
plain_strategy-requires-clause-entries c = each_ready c.args.options.now.steps c.args.module.now c.requires.checks c.requires.numbers c.requires.countable

pub plain_strategy-requires-clause-ready : goal.plain_strategy-requires-clause-ready
plain_strategy-requires-clause-ready c = all_ready c.args.rules.now c.requires.rules c.requires.classes c.requires.typed

pub returns : goal.returns
returns c =
    let across = c.args.options.now.across in
    let rules = c.args.rules.now in
    let steps = c.args.options.now.steps in
    let fold = c.args.options.now.fold in
    let old = c.args.module.now in
    let done = c.in_ok-done.done in
    let made = c.in_ok-done.ensures.strategy in
    let honest = c.in_ok-done.ensures.honest in
    let ready = all_ready rules c.requires.rules c.requires.classes c.requires.typed in
    record {
      strategy = made;
      honest = honest;
      unrefuted = c.in_ok-done.ensures.unrefuted;
      refines = c.every_optimised_module_refines_the_old.ensures.refines fold across rules steps done.table old done.module done.counts done.limited ready (admitted_are_valid rules c.args.options.now.conflicts done.table honest) c.requires.checks c.requires.numbers made;
      checks = c.every_optimised_module_refines_the_old.ensures.checks fold across rules steps done.table old done.module done.counts done.limited ready c.requires.checks c.requires.numbers made;
      numbers = c.every_optimised_module_refines_the_old.ensures.numbers fold across rules steps done.table old done.module done.counts done.limited ready c.requires.checks c.requires.numbers made;
      decided = c.every_match_left_is_decided.ensures fold across rules steps done.table old done.module done.counts done.limited made;
    }
