use Rattle.ir_resolve.proofs.Common.{None, Some, map, refl, sym, ap, subst, ◌∙◌, IsFirst, TypeClashAt, known_by, seen_read, seen_reads, seen_targets, IsFaultOfUses, unknown, clash, IfRefused}
use Rattle.ir_resolve.proofs.Checked.{unknown_first, clash_first}
use Rattle.ir_resolve.proofs.resolution.check_uses.Goals as goal

pub returns-in-Some-clause-refused : goal.returns-in-Some-clause-refused
returns-in-Some-clause-refused c =
    let raw = c.args.raw.now in
    let uses = c.in_ok-uses.uses in
    let first = unknown_first raw (known_by c.args.names.now) c.requires (seen_reads uses) (seen_targets uses) (Some c.in-Some.line) c.in_ok-uses.ensures.reads c.in_ok-uses.ensures.targets c.in-Some.ensures in
    subst (λ e. IfRefused e (IsFaultOfUses raw)) (sym c.refused.ensures) (unknown refl first)

pub returns-in-Some-clash-clause-refused : goal.returns-in-Some-clash-clause-refused
returns-in-Some-clash-clause-refused c =
    let raw = c.args.raw.now in
    let uses = c.in_ok-uses.uses in
    let known = known_by c.args.names.now in
    let no_unknown = unknown_first raw known c.requires (seen_reads uses) (seen_targets uses) None c.in_ok-uses.ensures.reads c.in_ok-uses.ensures.targets c.in_default.ensures in
    let first = clash_first raw known c.requires (map seen_read c.as_slice.result.now) c.as_slice-2.result.now c.read_clash.result c.block_clash.result c.lesser-clash.result
    (ap (map seen_read) c.as_slice.ensures.value ∙ c.in_ok-uses.ensures.reads) c.as_slice-2.ensures c.read_clash.ensures c.block_clash.ensures c.lesser-clash.ensures in
    subst (λ e. IfRefused e (IsFaultOfUses raw)) (sym c.refused-in-Some-clash.ensures) (clash refl no_unknown (subst (IsFirst (TypeClashAt raw)) c.in-Some-clash.is first))

pub returns : goal.returns
returns c =
    let raw = c.args.raw.now in
    let uses = c.in_ok-uses.uses in
    record {
      known = unknown_first raw (known_by c.args.names.now) c.requires (seen_reads uses) (seen_targets uses) None c.in_ok-uses.ensures.reads c.in_ok-uses.ensures.targets c.in_default.ensures;
      typed = subst (IsFirst (TypeClashAt raw)) c.in-None.is
          (clash_first raw (known_by c.args.names.now) c.requires (map seen_read c.as_slice.result.now) c.as_slice-2.result.now c.read_clash.result c.block_clash.result c.lesser-clash.result
          (ap (map seen_read) c.as_slice.ensures.value ∙ c.in_ok-uses.ensures.reads) c.as_slice-2.ensures c.read_clash.ensures c.block_clash.ensures c.lesser-clash.ensures);
      refused = tt;
    }
