use Rattle.bindings.proofs.Common.{◌≡◌, ◌<◌, length, Some, arith, slice_get}
use Rattle.ir_core.specs.declared.operand.Register.TheVariants as registers
use Rattle.bindings.proofs.Bound.{never, matched_there, matches_there, has_inst, read_off, read_off_as, statement_at}
use Rattle.bindings.proofs.check.statement_matches.Goals as goal

pub returns-in_default : goal.returns-in_default
returns-in_default c =
    never c.args.f.now c.args.rule.now c.args.binding.now c.args.j c.requires.place
    (λ s m. c.in_default.not-Result m.block m.place (read_off_as c.as_slice.result.now c.args.binding.now.statements c.args.j (registers.Parameter 0) (registers.Result m.block m.place) c.as_slice.ensures m.bound))

pub returns-in-Some : goal.returns-in-Some
returns-in-Some c =
    let within : c.args.j < length c.args.binding.now.statements = omega (arith, c.requires.count, c.requires.place) in
    let at : slice_get c.args.binding.now.statements c.args.j ≡ Some (registers.Result c.in-Result.block c.in-Result.place) =
    read_off c.as_slice.result.now c.args.binding.now.statements c.args.j (registers.Parameter 0) (registers.Result c.in-Result.block c.in-Result.place) c.as_slice.ensures within c.in-Result.is in (
      λ yes s stands. matches_there c.args.f.now c.args.rule.now c.args.binding.now c.args.j c.in-Result.block c.in-Result.place s c.in-Some.inst.now at c.in-Some.ensures.some ((c.inst_matches.ensures s stands).0 yes),
      λ all. let (s, stands) = statement_at c.args.rule.now c.args.j c.requires.place in
          (c.inst_matches.ensures s stands).1 (matched_there c.args.f.now c.args.rule.now c.args.binding.now c.args.j c.in-Result.block c.in-Result.place s c.in-Some.inst.now at c.in-Some.ensures.some (all s stands)),
    )

pub returns-in-None : goal.returns-in-None
returns-in-None c =
    let within : c.args.j < length c.args.binding.now.statements = omega (arith, c.requires.count, c.requires.place) in
    let at : slice_get c.args.binding.now.statements c.args.j ≡ Some (registers.Result c.in-Result.block c.in-Result.place) =
    read_off c.as_slice.result.now c.args.binding.now.statements c.args.j (registers.Parameter 0) (registers.Result c.in-Result.block c.in-Result.place) c.as_slice.ensures within c.in-Result.is in
    never c.args.f.now c.args.rule.now c.args.binding.now c.args.j c.requires.place
    (λ s m. c.in-None.ensures.none (has_inst c.args.f.now c.args.rule.now c.args.binding.now c.args.j c.in-Result.block c.in-Result.place s at m))
