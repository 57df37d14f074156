use Rattle.scan.proofs.Common.{sym, ◌∙◌, inl, inr, arith, take_rest}
use Rattle.scan.proofs.ModuleFronts.{label_some, label_none}
use Rattle.scan.proofs.FirstBytes.{label_front, word_front, number_front, plain_quotable, label_quotable, number_quotable}
use Rattle.scan.proofs.ir.front.plain_token.Goals as goal
use Rattle.scan.proofs.ir.front.plain_token.Goals.{else-name-gt0-via-then-name-gt0+else-begins_byte, else-name-gt0-via-else-name-gt0}

pub returns-then-begins_byte : goal.returns-then-begins_byte
returns-then-begins_byte c = record {
  longest = label_front c.args.text.now c.name-name.result c.requires c.name-name.ensures
      (label_some c.args.text.now c.name-name.result (omega arith) (rw take_rest at (sym c.begins_byte.ensures ∙ c.if-begins_byte.true)) c.name-name.ensures);
  plain = label_quotable c.args.text.now c.name-name.result c.requires c.name-name.ensures (rw take_rest at (sym c.begins_byte.ensures ∙ c.if-begins_byte.true));
}

pub returns-then-begins_module_word : goal.returns-then-begins_module_word
returns-then-begins_module_word c = record {
  longest = word_front c.args.text.now c.name-name.result c.requires (sym c.begins_module_word.ensures ∙ c.if-begins_module_word.true) c.name-name.ensures
      (label_none c.args.text.now c.name-name.result (elim c.else-name-gt0.branch [
        | else-name-gt0-via-then-name-gt0+else-begins_byte w ↦ inr (rw take_rest at (sym w.begins_byte.ensures ∙ w.if-begins_byte.false))
        | else-name-gt0-via-else-name-gt0 w ↦ inl (omega arith)
      ]) c.name-name.ensures);
  plain = plain_quotable c.args.text.now c.name-name.result c.requires c.name-name.ensures.found;
}

pub returns-else-begins_module_word : goal.returns-else-begins_module_word
returns-else-begins_module_word c = record {
  longest = number_front c.args.text.now c.number.result c.requires (sym c.begins_module_word.ensures ∙ c.if-begins_module_word.false) c.number.ensures
      (label_none c.args.text.now c.name-name.result (elim c.else-name-gt0.branch [
        | else-name-gt0-via-then-name-gt0+else-begins_byte w ↦ inr (rw take_rest at (sym w.begins_byte.ensures ∙ w.if-begins_byte.false))
        | else-name-gt0-via-else-name-gt0 w ↦ inl (omega arith)
      ]) c.name-name.ensures);
  plain = number_quotable c.args.text.now c.number.result c.requires c.number.ensures;
}
