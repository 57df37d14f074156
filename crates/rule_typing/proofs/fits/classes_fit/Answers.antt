use Rattle.rule_typing.proofs.Common.{◌≡◌, ◌∙◌, ℕ, ◌<◌, ◌+◌, List, get_or, Some, subst, sym, refl, inl, inr, arith, slice_get, cases_eq, get_or_from_slice_get, slice_get_within, Rule, MayHaveWidth}
use Rattle.rule_typing.proofs.Among.{holds}
use Rattle.rule_typing.proofs.fits.classes_fit.Goals as goal

-- the classes below a number may have their widths
AllBelow : Rule → List ℕ → ℕ → Type 0
AllBelow rule widths i = (c N : ℕ) → c < i → slice_get widths c ≡ Some N → MayHaveWidth rule c N

one_more : (rule : Rule) (widths : List ℕ) (i N : ℕ) → AllBelow rule widths i → N ≡ get_or widths i N → MayHaveWidth rule i N → AllBelow rule widths (i + 1)
unfolding AllBelow
one_more rule widths i N below is may c M less at = elim (cases_eq c i) [
  | inl same ↦
      let here : slice_get widths i ≡ Some M = subst (λ k. slice_get widths k ≡ Some M) same at in
      subst (λ k. MayHaveWidth rule k M) (sym same) (subst (MayHaveWidth rule i) (is ∙ get_or_from_slice_get widths i M N here) may)
  | inr other ↦ below c M (omega arith) at
]

pub loop-class-preserved : goal.loop-class-preserved
unfolding AllBelow
loop-class-preserved c =
    one_more c.args.rule.now c.args.widths.now c.loop-class.class c.index-widths-class.result c.loop-class.invariant c.index-widths-class.is (holds c.class_fits.result c.class_fits.ensures c.if-not-class_fits.false)

pub returns : goal.returns
returns c = (λ answer class N at. c.loop-class.invariant class N (let h = slice_get_within c.args.widths.now class N at in omega arith) at, λ all. refl)
