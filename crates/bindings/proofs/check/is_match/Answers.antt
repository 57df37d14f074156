use Rattle.bindings.proofs.Common.{refl, sym, subst, List, Contains, contains_at, holds, fails, known_by}
use Rattle.ir_core.specs.declared.operand.Register.TheVariants as registers
use Rattle.ir_core.specs.declared.operand.Operand.{Operand}
use Rattle.ir_core.specs.declared.operand.Operand.TheVariants as operands
use Rattle.bindings.proofs.Bound.{all_in_scope}
use Rattle.bindings.proofs.Fitting.{AllMatch, constants_fit}
use Rattle.bindings.proofs.Uses.{all_asked, fact_met, uses_met}
use Rattle.bindings.proofs.Lists.{never_met}
use Rattle.bindings.proofs.check.is_match.Goals as goal
use Rattle.bindings.proofs.check.is_match.Goals.{then-not-reached-via-then-not-reached, then-not-reached-via-else-not-reached+then-not-has_sizes, then-not-are_in_scope-via-then-not-are_in_scope, then-not-are_in_scope-via-else-not-are_in_scope+then-not-statements_match, then-not-is_typing-via-then-not-is_typing, then-not-is_typing-via-else-not-is_typing+then-not-holds}

pub holds-requires-clause-constants : goal.holds-requires-clause-constants
holds-requires-clause-constants c =
    constants_fit c.args.f.now c.args.rule.now c.args.binding.now c.requires.rule (holds c.is_typing.result c.is_typing.ensures c.if-not-is_typing.false)
    ((holds c.has_sizes.result c.has_sizes.ensures c.if-not-has_sizes.false).2) (holds c.statements_match.result c.statements_match.ensures c.if-not-statements_match.false)

pub are_met-requires-clause-typing : goal.are_met-requires-clause-typing
are_met-requires-clause-typing c = holds c.is_typing.result c.is_typing.ensures c.if-not-is_typing.false

pub are_met-requires-clause-constants : goal.are_met-requires-clause-constants
are_met-requires-clause-constants c =
    constants_fit c.args.f.now c.args.rule.now c.args.binding.now c.requires.rule (holds c.is_typing.result c.is_typing.ensures c.if-not-is_typing.false)
    ((holds c.has_sizes.result c.has_sizes.ensures c.if-not-has_sizes.false).2) (holds c.statements_match.result c.statements_match.ensures c.if-not-statements_match.false)

pub returns : goal.returns
returns c =
    let sizes = holds c.has_sizes.result c.has_sizes.ensures c.if-not-has_sizes.false in
    let match : AllMatch c.args.f.now c.args.rule.now c.args.binding.now = holds c.statements_match.result c.statements_match.ensures c.if-not-statements_match.false in
    let there = known_by c.args.known.now c.args.binding.now.block c.args.binding.now.place in (
      λ yes. record {
        block = refl;
        place = refl;
        reached = holds c.reached.result (c.reached.ensures c.args.f.now (sym c.requires.facts.flow)) c.if-not-reached.false;
        statement_count = sizes.0;
        statements = match;
        before = λ j d p less at. holds c.are_in_scope.result c.are_in_scope.ensures c.if-not-are_in_scope.false (registers.Result d p) (contains_at c.args.binding.now.statements j (registers.Result d p) at);
        input_count = sizes.1;
        no_undef = λ among. fails c.has_undef.result c.has_undef.ensures c.if-has_undef.false (subst (λ (os : List Operand). Contains os operands.Undef) (sym c.as_slice.ensures) among);
        constant_count = sizes.2;
        typing = holds c.is_typing.result c.is_typing.ensures c.if-not-is_typing.false;
        precondition = holds c.holds.result c.holds.ensures c.if-not-holds.false;
        one_use = uses_met c.args.f.now c.args.rule.now c.args.binding.now c.args.facts.now there c.requires.facts (c.are_met.ensures.0 yes);
        facts = λ formula among. fact_met c.args.f.now c.args.rule.now c.args.binding.now c.args.facts.now there c.requires.facts formula (c.are_met.ensures.0 yes formula among);
      },
      λ m. c.are_met.ensures.1 (all_asked c.args.f.now c.args.rule.now c.args.binding.now c.args.facts.now there c.requires.facts m.one_use m.facts),
    )

pub returns-then-not-reached : goal.returns-then-not-reached
returns-then-not-reached c = elim c.then-not-reached.branch [
  | then-not-reached-via-then-not-reached w ↦
      never_met (λ m. fails c.reached.result (c.reached.ensures c.args.f.now (sym c.requires.facts.flow)) w.if-not-reached.true m.reached)
  | then-not-reached-via-else-not-reached+then-not-has_sizes w ↦
      never_met (λ m. fails w.has_sizes.result w.has_sizes.ensures w.if-not-has_sizes.true (m.statement_count, m.input_count, m.constant_count))
]

pub returns-then-not-are_in_scope : goal.returns-then-not-are_in_scope
returns-then-not-are_in_scope c = elim c.then-not-are_in_scope.branch [
  | then-not-are_in_scope-via-then-not-are_in_scope w ↦
      never_met (λ m. fails c.are_in_scope.result c.are_in_scope.ensures w.if-not-are_in_scope.true (all_in_scope c.args.across c.args.f.now c.args.binding.now.block c.args.binding.now.place c.args.rule.now c.args.binding.now m))
  | then-not-are_in_scope-via-else-not-are_in_scope+then-not-statements_match w ↦
      never_met (λ m. fails w.statements_match.result w.statements_match.ensures w.if-not-statements_match.true m.statements)
]

pub returns-then-has_undef : goal.returns-then-has_undef
returns-then-has_undef c =
    never_met (λ m. m.no_undef (subst (λ (os : List Operand). Contains os operands.Undef) c.as_slice.ensures (holds c.has_undef.result c.has_undef.ensures c.if-has_undef.true)))

pub returns-then-not-is_typing : goal.returns-then-not-is_typing
returns-then-not-is_typing c = elim c.then-not-is_typing.branch [
  | then-not-is_typing-via-then-not-is_typing w ↦
      never_met (λ m. fails c.is_typing.result c.is_typing.ensures w.if-not-is_typing.true m.typing)
  | then-not-is_typing-via-else-not-is_typing+then-not-holds w ↦
      never_met (λ m. fails w.holds.result w.holds.ensures w.if-not-holds.true m.precondition)
]
