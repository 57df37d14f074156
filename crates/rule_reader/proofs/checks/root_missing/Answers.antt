use Rattle.rule_reader.proofs.Common.{◌-◌, length, arith}
use Rattle.rule_reader.proofs.Places.{read_last}
use Rattle.rule_reader.proofs.Looking.{says, denies}
use Rattle.rule_reader.proofs.Assignments.{tested_root, root_there, root_missed}
use Rattle.rule_reader.proofs.checks.root_missing.Goals as goal

pub returns-then-is_root : goal.returns-then-is_root
returns-then-is_root c =
    let raw = c.args.rule.now in
    let t = c.index-as_slice-len.result in
    root_there raw c.requires (length raw.target - 1) t (omega (arith, c.requires.target.some))
    (read_last raw.target c.as_slice.result.now c.len.result t c.as_slice.ensures c.len.ensures c.requires.target.some c.index-as_slice-len.is)
    (says _ _ (tested_root raw c.requires c.as_slice-2.result.now t c.as_slice-3.result.now _ c.as_slice-2.ensures c.as_slice-3.ensures c.is_root.ensures) c.if-is_root.true)

pub returns-else-is_root : goal.returns-else-is_root
returns-else-is_root c =
    let raw = c.args.rule.now in
    let t = c.index-as_slice-len.result in
    root_missed raw c.requires (length raw.target - 1) t (omega (arith, c.requires.target.some))
    (read_last raw.target c.as_slice.result.now c.len.result t c.as_slice.ensures c.len.ensures c.requires.target.some c.index-as_slice-len.is)
    (denies _ _ (tested_root raw c.requires c.as_slice-2.result.now t c.as_slice-3.result.now _ c.as_slice-2.ensures c.as_slice-3.ensures c.is_root.ensures) c.if-is_root.false)
