use Rattle.aig.proofs.Common.{not, if◌then◌else◌, sym, ap, ◌∙◌, value_under}
use Rattle.aig.proofs.Truth.{xor_arms, beq_apart}
use Rattle.aig.proofs.folding.choice_of_sign.Goals as goal

pub returns-else-is_negated : goal.returns-else-is_negated
returns-else-is_negated c =
    let yes = c.args.yes in
    let no = c.args.no in (
      λ values one.
          xor_arms (value_under values c.args.condition) yes.negated no.negated (values no.node)
          (λ e. beq_apart _ _ c.if-is_negated.false (c.is_negated.ensures ∙ e ∙ sym c.is_negated-2.ensures))
          ∙ ap (λ p. if value_under values c.args.condition then (if yes.negated then not p else p) else value_under values no)
          (ap values (sym c.requires)),
      λ inputs gates own_condition own_yes own_no. (own_condition, own_no),
    )
