use Rattle.strategy.proofs.Common.{◌≡◌, ℕ, List, sym, subst, ◌∙◌, Entry, EntryIsReady, OptimisesEntry}
use Rattle.ir_core.specs.declared.module.Entry.TheVariants as entries
use Rattle.strategy.proofs.Entering.{entry_kept}
use Rattle.strategy.proofs.module.optimise_entry.Goals as goal

pub returns-in_ok-from_slice-in-Kept : goal.returns-in_ok-from_slice-in-Kept
returns-in_ok-from_slice-in-Kept c =
    let across = c.args.rules.now.across in
    let rules = c.args.rules.now.all.now in
    let options = c.args.options in
    let copied : c.from_vec.result ≡ c.in-Kept.line = c.from_vec.ensures ∙ c.in_ok-from_slice-in-Kept.ensures.items ∙ c.as_slice.ensures in
    subst (λ (e : Entry). OptimisesEntry options.fold across rules options.conflicts options.steps e (entries.Kept c.from_vec.result) c.args.verdicts.now c.args.verdicts.now c.args.all.now c.args.all.now) (sym c.in-Kept.is)
    (subst (λ (l : List ℕ). OptimisesEntry options.fold across rules options.conflicts options.steps (entries.Kept c.in-Kept.line) (entries.Kept l) c.args.verdicts.now c.args.verdicts.now c.args.all.now c.args.all.now) (sym copied)
    (entry_kept options.fold across rules options.conflicts options.steps c.in-Kept.line c.args.verdicts.now c.args.all.now))

pub optimise_copy-requires-clause-entry : goal.optimise_copy-requires-clause-entry
optimise_copy-requires-clause-entry c = subst (EntryIsReady c.args.options.steps) c.in-Function.is c.requires.entry

pub returns-in_ok-optimised-in-Function : goal.returns-in_ok-optimised-in-Function
returns-in_ok-optimised-in-Function c =
    let across = c.args.rules.now.across in
    let rules = c.args.rules.now.all.now in
    let options = c.args.options in
    subst (λ (e : Entry). OptimisesEntry options.fold across rules options.conflicts options.steps e (entries.Function c.in_ok-optimised-in-Function.optimised) c.args.verdicts.now c.optimise_copy.new.verdicts c.args.all.now c.optimise_copy.new.all)
    (sym c.in-Function.is) c.in_ok-optimised-in-Function.ensures
