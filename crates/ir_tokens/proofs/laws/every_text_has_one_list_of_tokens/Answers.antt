use Rattle.ir_tokens.proofs.Common.{suc, length, arith}
use Rattle.ir_tokens.proofs.OneList.{one_list}
use Rattle.ir_tokens.proofs.SomeList.{some_list}
use Rattle.ir_tokens.proofs.laws.every_text_has_one_list_of_tokens.Goals as goal

pub returns : goal.returns
returns c = record {
  some = λ text. some_list (suc (length text)) text _ 0 (omega arith) (omega arith);
  one = λ text a b h k. one_list c.every_place_of_a_module_has_one_token.ensures c.every_bracket_is_closed_once.ensures (omega arith) h b k;
}
