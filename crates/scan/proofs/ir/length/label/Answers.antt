use Rattle.scan.proofs.Common.{sym, ◌∙◌, inl, inr, arith, take_rest}
use Rattle.scan.proofs.ModuleFronts.{label_some, label_none}
use Rattle.scan.proofs.ir.length.label.Goals as goal
use Rattle.scan.proofs.ir.length.label.Goals.{else-name-gt0-via-then-name-gt0+else-begins_byte, else-name-gt0-via-else-name-gt0}

pub returns-then-begins_byte : goal.returns-then-begins_byte
returns-then-begins_byte c = label_some c.args.text.now c.name-name.result (omega arith) (rw take_rest at (sym c.begins_byte.ensures ∙ c.if-begins_byte.true)) c.name-name.ensures

pub returns-else-name-gt0 : goal.returns-else-name-gt0
returns-else-name-gt0 c = label_none c.args.text.now c.name-name.result (elim c.else-name-gt0.branch [
  | else-name-gt0-via-then-name-gt0+else-begins_byte w ↦ inr (rw take_rest at (sym w.begins_byte.ensures ∙ w.if-begins_byte.false))
  | else-name-gt0-via-else-name-gt0 w ↦ inl (omega arith)
]) c.name-name.ensures
