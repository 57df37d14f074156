use Rattle.changes.proofs.Common.{◌-◌, refl, arith, rewrite_of}
use Rattle.changes.proofs.Few.{end_rewritten}
use Rattle.changes.proofs.applying.put_at.Goals as goal

pub overflow_sub-result-2 : goal.overflow_sub-result-2
overflow_sub-result-2 c =
    let b = c.args.binding.now in
    let is = c.requires.rewritten in
    let ends = end_rewritten (rewrite_of c.args.rule.now b is.root.name) c.args.f.now c.args.new.now b.block b.place is.root refl refl is.is_root is.is in
    omega (arith, ends.0, ends.1, c.end_of.ensures, c.end_of-2.ensures)

pub returns-clause-count : goal.returns-clause-count
returns-clause-count c = λ w block place same.
    let b = c.args.binding.now in
    let is = c.requires.rewritten in
    let ends = end_rewritten w c.args.f.now c.args.new.now b.block b.place is.root block place is.is_root same in
    omega (arith, ends.0, ends.1, c.end_of.ensures, c.end_of-2.ensures)
