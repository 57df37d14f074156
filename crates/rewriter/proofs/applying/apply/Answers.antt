use Rattle.rewriter.proofs.Common.{◌≡◌, ◌<◌, ◌≤◌, ◌∙◌, length, sym, ap, subst, arith, HasInst, IsBlock, IsInst, Block, Inst, rewritten_function, Rewrite, rewrite_of}
use Rattle.rewriter.proofs.Rooted.{on_ok, is_bound, root_there, has_root, most_put}
use Rattle.rewriter.proofs.applying.apply.Goals as goal

pub name_at-requires : goal.name_at-requires
name_at-requires c = has_root c.args.f.now c.args.rule.now c.args.binding.now c.requires.rule c.requires.matches.1

pub rewrite_of-requires-clause-bound : goal.rewrite_of-requires-clause-bound
rewrite_of-requires-clause-bound c = is_bound c.args.f.now c.args.rule.now c.args.binding.now c.requires.rule c.requires.matches.1

pub rewrite_of-requires-clause-place : goal.rewrite_of-requires-clause-place
rewrite_of-requires-clause-place c =
    let root : HasInst c.args.f.now c.args.binding.now.block c.args.binding.now.place = has_root c.args.f.now c.args.rule.now c.args.binding.now c.requires.rule c.requires.matches.1 in
    let block : Block = root.0 in
    let inside : c.args.binding.now.place < length block.insts = root.2 in
    let few = c.requires.places block root.1 in
    omega arith

pub rewrite_function-requires-clause-root : goal.rewrite_function-requires-clause-root
rewrite_function-requires-clause-root c =
    subst (λ (w : Rewrite). HasInst c.args.f.now w.block w.place) (sym c.in_ok-rewrite.ensures) (has_root c.args.f.now c.args.rule.now c.args.binding.now c.requires.rule c.requires.matches.1)

pub rewrite_function-requires-clause-registers : goal.rewrite_function-requires-clause-registers
rewrite_function-requires-clause-registers c = c.requires.checks.formed.registers

pub rewrite_function-requires-clause-places : goal.rewrite_function-requires-clause-places
rewrite_function-requires-clause-places c = λ block at.
    let few = c.requires.places block (subst (λ (w : Rewrite). IsBlock c.args.f.now w.block block) c.in_ok-rewrite.ensures at) in
    let put : length c.in_ok-rewrite.rewrite.put ≤ 32 = subst (λ (w : Rewrite). length w.put ≤ 32) (sym c.in_ok-rewrite.ensures) (most_put c.args.rule.now c.args.binding.now c.requires.rule _) in
    omega arith

pub returns-clause-ok : goal.returns-clause-ok
returns-clause-ok c =
    let f = c.args.f.now in
    let root : (root : Inst) × IsInst f c.args.binding.now.block c.args.binding.now.place root = root_there f c.args.rule.now c.args.binding.now c.requires.rule c.requires.matches.1 in
    let made : c.in_ok-rewrite.rewrite ≡ rewrite_of c.args.rule.now c.args.binding.now (root.0).name = c.in_ok-rewrite.ensures ∙ ap (rewrite_of c.args.rule.now c.args.binding.now) (c.in_ok-name.ensures root.0 root.1) in
    on_ok c.rewrite_function.result (λ is. record { root = root.0; is_root = root.1; is = is ∙ ap (λ w. rewritten_function w f) made }) c.rewrite_function.ensures.ok
