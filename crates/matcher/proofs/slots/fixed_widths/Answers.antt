use Rattle.matcher.proofs.Common.{◌≡◌, ◌∙◌, ℕ, ap, subst, length, length-append, arith, HasClasses}
use Rattle.matcher.proofs.Widths.{one_more, each_fixed}
use Rattle.matcher.proofs.slots.fixed_widths.Goals as goal

pub loop-class-preserved : goal.loop-class-preserved
loop-class-preserved c = record {
  count = ap length c.in_ok-push.ensures.items ∙ length-append c.loop-class.widths.items _ ∙ omega (arith, c.loop-class.invariant.count);
  fixed = one_more c.args.rule.now c.loop-class.widths.items c.push.new.self.items c.loop-class.class c.fixed_width.result c.in_ok-push.ensures.items c.loop-class.invariant.count
      (c.fixed_width.ensures.some, c.fixed_width.ensures.none) c.loop-class.invariant.fixed;
}

pub returns-clause-count : goal.returns-clause-count
returns-clause-count c =
    let end : c.class_count-class-end.result ≡ length c.loop-class.widths.items = omega (arith, c.loop-class.invariant.count) in
    subst (λ (n : ℕ). HasClasses c.args.rule.now n) end c.class_count-class-end.ensures

pub returns-clause-fixed : goal.returns-clause-fixed
returns-clause-fixed c = each_fixed c.args.rule.now c.loop-class.widths.items c.loop-class.invariant.fixed
