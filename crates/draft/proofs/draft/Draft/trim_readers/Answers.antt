use Rattle.draft.proofs.Common.{◌↔◌, ◌∙◌, List, Contains, subst, operands_at, Place}
use Rattle.ir_core.specs.declared.operand.Operand.TheVariants as operands
use Rattle.draft.proofs.Trimming.{trimmed_exact, trimmed_readers}
use Rattle.draft.proofs.Wholeness.{counted_insts}
use Rattle.draft.proofs.draft.Draft.trim_readers.Goals as goal

pub readers_among-listed-requires : goal.readers_among-listed-requires
readers_among-listed-requires c = counted_insts c.args.self.now c.requires.whole

pub returns-clause-whole : goal.returns-clause-whole
returns-clause-whole c =
    let d = c.args.self.now in
    let whole = c.requires.whole in
    let kept = c.readers_among-listed.result in
    record {
      few = whole.few;
      ordered = whole.ordered;
      marked = whole.marked;
      rows = whole.rows;
      known = whole.known;
      facts = whole.facts;
      readers = trimmed_readers d.arena c.args.register _ kept d.readers c.exchange-listed.new.self c.exchange.new.self whole.readers c.exchange-listed.ensures.is c.exchange.ensures.is
          (λ p. subst (λ (l : List Place). Contains kept p ↔ (Contains l p × Contains (operands_at d.arena p) (operands.Register c.args.register))) c.exchange-listed.ensures.was (c.readers_among-listed.ensures p));
      cycles = whole.cycles;
    }

pub returns-clause-exact : goal.returns-clause-exact
returns-clause-exact c =
    let d = c.args.self.now in
    let kept = c.readers_among-listed.result in
    trimmed_exact d.arena c.args.register _ kept d.readers c.exchange-listed.new.self c.exchange.new.self c.requires.whole.readers c.exchange-listed.ensures.is c.exchange.ensures.is
    (λ p. subst (λ (l : List Place). Contains kept p ↔ (Contains l p × Contains (operands_at d.arena p) (operands.Register c.args.register))) c.exchange-listed.ensures.was (c.readers_among-listed.ensures p))

pub returns-clause-others : goal.returns-clause-others
returns-clause-others c = λ r apart. c.exchange.ensures.is.others r apart ∙ c.exchange-listed.ensures.is.others r apart
