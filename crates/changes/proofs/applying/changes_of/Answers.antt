use Rattle.changes.proofs.Common.{◌∙◌, ℕ, refl, sym, subst, arith, slice_get_within, HasInst, IsBlock, rewrite_of}
use Rattle.changes.proofs.Answering.{if_ok}
use Rattle.changes.proofs.Applied.{where_copied, where_put, some}
use Rattle.changes.proofs.Rewritten.{has_of}
use Rattle.changes.proofs.applying.changes_of.Goals as goal

pub changes_without-requires-clause-root : goal.changes_without-requires-clause-root
changes_without-requires-clause-root c =
    let f = c.args.f.now in
    let is = c.requires.rewritten in
    let b = c.args.binding.now in
    let there : HasInst c.args.f.now c.args.binding.now.block c.args.binding.now.place = has_of f b.block b.place is.root is.is_root in
    subst (λ (k : ℕ). HasInst f c.put_at-put.result.block k) (sym c.put_at-put.ensures.place) (subst (λ (d : ℕ). HasInst f d b.place) (sym c.put_at-put.ensures.block) there)

pub changes_with-requires-clause-some : goal.changes_with-requires-clause-some
changes_with-requires-clause-some c =
    let is = c.requires.rewritten in
    let w = rewrite_of c.args.rule.now c.args.binding.now is.root.name in
    some c.args.f.now c.args.new.now c.args.rule.now c.args.binding.now c.requires.rule is c.put_at-put.result c.put_at-put.ensures.block c.put_at-put.ensures.place (c.put_at-put.ensures.count w refl refl is.is)
    (sym c.root_is_copied.ensures ∙ c.if-root_is_copied.false)

pub changes_with-requires-clause-room : goal.changes_with-requires-clause-room
changes_with-requires-clause-room c =
    let at = c.requires.rewritten.is_root in
    let room = c.put_at-put.ensures.room at.block (subst (λ (d : ℕ). IsBlock c.args.f.now d at.block) (sym c.put_at-put.ensures.block) at.is_block) in
    omega (arith, room, c.put_at-put.ensures.place, slice_get_within at.block.insts c.args.binding.now.place c.requires.rewritten.root at.is_inst)

pub returns-then-root_is_copied : goal.returns-then-root_is_copied
returns-then-root_is_copied c =
    let is = c.requires.rewritten in
    let w = rewrite_of c.args.rule.now c.args.binding.now is.root.name in
    if_ok c.changes_without.result c.changes_without.ensures (λ changes all.
    where_copied c.args.f.now c.args.new.now c.args.rule.now c.args.binding.now c.requires.rule is c.put_at-put.result c.put_at-put.ensures.block c.put_at-put.ensures.place (c.put_at-put.ensures.count w refl refl is.is)
    changes (sym c.root_is_copied.ensures ∙ c.if-root_is_copied.true) all)

pub returns : goal.returns
returns c =
    let is = c.requires.rewritten in
    let w = rewrite_of c.args.rule.now c.args.binding.now is.root.name in
    if_ok c.changes_with.result c.changes_with.ensures (λ changes all.
    where_put c.args.f.now c.args.new.now c.args.rule.now c.args.binding.now c.requires.rule is c.put_at-put.result c.put_at-put.ensures.block c.put_at-put.ensures.place (c.put_at-put.ensures.count w refl refl is.is)
    changes (sym c.root_is_copied.ensures ∙ c.if-root_is_copied.false) all)
