-- An item takes at least one token.
use Rattle.ir_instructions.proofs.Common.{ℕ, List, SpellsItem, of_word, of_word_and_group, of_number, of_group, of_quoted, of_key_and_value, begins_item, item_at, TakesSome}
use Rattle.ir_instructions.proofs.ItemReadings.{item_at-is}
use Rattle.ir_instructions.proofs.Shorter.{Shorter, begins, both, token, a_token}

pub item-shorter : (item : List ℕ) → Shorter (SpellsItem item)
item-shorter item tokens rest (of_word is one) = token _ tokens rest one
item-shorter item tokens rest (of_word_and_group name group is same two) = begins _ _ (token _) (a_token _) tokens rest two
item-shorter item tokens rest (of_number one) = token _ tokens rest one
item-shorter item tokens rest (of_group one) = token _ tokens rest one
item-shorter item tokens rest (of_quoted one) = token _ tokens rest one
item-shorter item tokens rest (of_key_and_value key value same three) = begins _ _ (token _) (both _ _ (a_token _) (a_token _)) tokens rest three

pub item-takes : TakesSome begins_item item_at
item-takes tokens x next e = item-shorter x.0 tokens x.1 (item_at-is tokens x next e)
