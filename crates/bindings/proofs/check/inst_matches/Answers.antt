use Rattle.bindings.proofs.Common.{◌≡◌, ◌↔◌, IsTrue, subst, ◌∙◌, Statement, holds, fails, InstMatches}
use Rattle.bindings.proofs.Bound.{asked_flags, asked_place, matches_as, met, read_off_as}
use Rattle.bindings.proofs.Lists.{never_met}
use Rattle.bindings.proofs.check.inst_matches.Goals as goal

pub returns : goal.returns
returns c s at =
    let same : c.index-as_slice-j.result ≡ s = c.index-as_slice-j.is ∙ read_off_as c.as_slice.result.now c.args.rule.now.source c.args.j c.index-as_slice-j.result s c.as_slice.ensures at in
    subst (λ (t : Statement). IsTrue c.operands_match.result ↔ InstMatches c.args.f.now c.args.rule.now c.args.binding.now c.args.j t c.args.block c.args.place c.args.inst.now) same (
      λ yes. met c.args.f.now c.args.rule.now c.args.binding.now c.args.j c.args.block c.args.place c.index-as_slice-j.result c.args.inst.now c.is_root-is_root.result c.args.exact c.requires.place c.is_root-is_root.ensures c.requires.exact
          (holds c.stands_well.result c.stands_well.ensures c.if-not-stands_well.false)
          (holds c.is_same_operation.result c.is_same_operation.ensures c.if-not-is_same_operation.false)
          (holds c.flags_match.result c.flags_match.ensures c.if-not-flags_match.false)
          (holds c.has_width.result c.has_width.ensures c.if-not-has_width.false)
          (c.operands_match.ensures.0 yes),
      λ m. c.operands_match.ensures.1 m.operands,
    )

pub returns-then-not-stands_well : goal.returns-then-not-stands_well
returns-then-not-stands_well c s at = never_met (λ m.
    let same : c.index-as_slice-j.result ≡ s = c.index-as_slice-j.is ∙ read_off_as c.as_slice.result.now c.args.rule.now.source c.args.j c.index-as_slice-j.result s c.as_slice.ensures at in
    let here = matches_as c.args.f.now c.args.rule.now c.args.binding.now c.args.j c.args.block c.args.place c.index-as_slice-j.result s c.args.inst.now same m in
    fails c.stands_well.result c.stands_well.ensures c.if-not-stands_well.true
    (asked_place c.args.f.now c.args.rule.now c.args.binding.now c.args.j c.args.block c.args.place c.index-as_slice-j.result c.args.inst.now c.is_root-is_root.result c.requires.place c.is_root-is_root.ensures here))

pub returns-then-not-is_same_operation : goal.returns-then-not-is_same_operation
returns-then-not-is_same_operation c s at = never_met (λ m.
    let same : c.index-as_slice-j.result ≡ s = c.index-as_slice-j.is ∙ read_off_as c.as_slice.result.now c.args.rule.now.source c.args.j c.index-as_slice-j.result s c.as_slice.ensures at in
    let here = matches_as c.args.f.now c.args.rule.now c.args.binding.now c.args.j c.args.block c.args.place c.index-as_slice-j.result s c.args.inst.now same m in
    fails c.is_same_operation.result c.is_same_operation.ensures c.if-not-is_same_operation.true
    here.operation)

pub returns-then-not-flags_match : goal.returns-then-not-flags_match
returns-then-not-flags_match c s at = never_met (λ m.
    let same : c.index-as_slice-j.result ≡ s = c.index-as_slice-j.is ∙ read_off_as c.as_slice.result.now c.args.rule.now.source c.args.j c.index-as_slice-j.result s c.as_slice.ensures at in
    let here = matches_as c.args.f.now c.args.rule.now c.args.binding.now c.args.j c.args.block c.args.place c.index-as_slice-j.result s c.args.inst.now same m in
    fails c.flags_match.result c.flags_match.ensures c.if-not-flags_match.true
    (asked_flags c.args.f.now c.args.rule.now c.args.binding.now c.args.j c.args.block c.args.place c.index-as_slice-j.result c.args.inst.now c.is_root-is_root.result c.args.exact c.requires.place c.is_root-is_root.ensures c.requires.exact here))

pub returns-then-not-has_width : goal.returns-then-not-has_width
returns-then-not-has_width c s at = never_met (λ m.
    let same : c.index-as_slice-j.result ≡ s = c.index-as_slice-j.is ∙ read_off_as c.as_slice.result.now c.args.rule.now.source c.args.j c.index-as_slice-j.result s c.as_slice.ensures at in
    let here = matches_as c.args.f.now c.args.rule.now c.args.binding.now c.args.j c.args.block c.args.place c.index-as_slice-j.result s c.args.inst.now same m in
    fails c.has_width.result c.has_width.ensures c.if-not-has_width.true
    here.width)
