use Rattle.changes.proofs.Common.{sym, subst, arith, IsBlock, MeetsChecks, Function, IsMatch}
use Rattle.changes.proofs.Applied.{applied_to, few_new, blocks_new, checks_new}
use Rattle.changes.proofs.applying.apply_at.Goals as goal

pub apply-requires-clause-checks : goal.apply-requires-clause-checks
apply-requires-clause-checks c = subst (λ (g : Function). MeetsChecks g) (sym c.in_ok-new.ensures) c.requires.checks

pub apply-requires-clause-matches : goal.apply-requires-clause-matches
apply-requires-clause-matches c = (c.requires.matches.0, subst (λ (g : Function). IsMatch c.requires.matches.0 g c.args.binding.now.block c.args.binding.now.place c.args.rule.now c.args.binding.now) (sym c.in_ok-new.ensures) c.requires.matches.1)

pub apply-requires-clause-places : goal.apply-requires-clause-places
apply-requires-clause-places c = λ block at. c.requires.places block (subst (λ (g : Function). IsBlock g c.args.binding.now.block block) c.in_ok-new.ensures at)

pub count_uses-requires-clause-blocks : goal.count_uses-requires-clause-blocks
count_uses-requires-clause-blocks c =
    let f = c.args.f.now in
    let is = applied_to f c.in_ok-new.new c.apply.new.f c.args.rule.now c.args.binding.now c.in_ok-new.ensures c.in_ok-apply.ensures.ok in
    omega (arith, c.requires.blocks, blocks_new f c.apply.new.f c.args.rule.now c.args.binding.now c.requires.rule is)

pub count_uses-requires-clause-insts : goal.count_uses-requires-clause-insts
count_uses-requires-clause-insts c =
    let f = c.args.f.now in
    let is = applied_to f c.in_ok-new.new c.apply.new.f c.args.rule.now c.args.binding.now c.in_ok-new.ensures c.in_ok-apply.ensures.ok in
    few_new f c.apply.new.f c.args.rule.now c.args.binding.now c.requires.rule is c.requires.insts c.requires.places

pub count_uses-requires-clause-registers : goal.count_uses-requires-clause-registers
count_uses-requires-clause-registers c =
    let f = c.args.f.now in
    let is = applied_to f c.in_ok-new.new c.apply.new.f c.args.rule.now c.args.binding.now c.in_ok-new.ensures c.in_ok-apply.ensures.ok in
    (checks_new f c.apply.new.f c.args.rule.now c.args.binding.now c.requires.rule is c.requires.matches.0 c.requires.checks c.requires.numbers c.requires.matches.1).formed.registers

pub changes_of-requires-clause-places : goal.changes_of-requires-clause-places
changes_of-requires-clause-places c =
    let f = c.args.f.now in
    let is = applied_to f c.in_ok-new.new c.apply.new.f c.args.rule.now c.args.binding.now c.in_ok-new.ensures c.in_ok-apply.ensures.ok in
    few_new f c.apply.new.f c.args.rule.now c.args.binding.now c.requires.rule is c.requires.insts c.requires.places

pub changes_of-requires-clause-rewritten : goal.changes_of-requires-clause-rewritten
changes_of-requires-clause-rewritten c = applied_to c.args.f.now c.in_ok-new.new c.apply.new.f c.args.rule.now c.args.binding.now c.in_ok-new.ensures c.in_ok-apply.ensures.ok

pub returns-clause-ok : goal.returns-clause-ok
returns-clause-ok c = applied_to c.args.f.now c.in_ok-new.new c.apply.new.f c.args.rule.now c.args.binding.now c.in_ok-new.ensures c.in_ok-apply.ensures.ok
