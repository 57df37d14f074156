-- The parser of items of headers and of calls: each function reads one production from left to right, and gives its
-- text as it is printed, or the fault of the first token that does not fit.
use Rattle.std.specs.Prelude.{ℕ, Bool, true, false, if◌then◌else◌, List, [], ◌∷◌, ◌++◌, Ok, Err}
use Rattle.ir_tokens.specs.Tokens.{Placed, KeptGroup, Word, Number, Group, Quoted}
use Rattle.ir_tokens.specs.declared.fault.IrFaultKind.TheVariants.{LeftOut}
use Rattle.ir_instructions.specs.declared.place.Expected.TheVariants as places
use Rattle.ir_instructions.specs.Readers.{Reader, fault, unexpected, ◌>>=◌, done, each_at}
use Rattle.ir_instructions.specs.Items.{is_item_word}
use Rattle.ir_instructions.specs.TokenReaders.{is_mark, mark_at}
use Rattle.ir_instructions.specs.Punctuation as marks

abbrev pub begins_item : List Placed → Bool
begins_item ((line, Word word) ∷ rest) = is_item_word word
begins_item ((line, Number digits) ∷ rest) = true
begins_item ((line, Group text) ∷ rest) = true
begins_item ((line, Quoted text) ∷ rest) = true
begins_item tokens = false

-- the value behind a key and its `=`
unfoldable pub quoted_value_at : List ℕ → Reader (List ℕ)
quoted_value_at key ((line, Quoted value) ∷ rest) = Ok (key ++ marks.equals ∷ value, rest)
quoted_value_at key tokens = Err (unexpected places.Fixed tokens)

-- an item that begins with this word, behind the word
unfoldable pub word_item_at : List ℕ → Reader (List ℕ)
word_item_at word ((line, KeptGroup group) ∷ rest) = Ok (word ++ group, rest)
word_item_at word tokens = Ok (word, tokens)

-- an item that begins with this quoted text, behind it
unfoldable pub quoted_item_at : List ℕ → Reader (List ℕ)
quoted_item_at key tokens = if is_mark marks.equals tokens then (mark_at marks.equals >>= λ _. quoted_value_at key) tokens else Ok (key, tokens)

-- an item, as it is printed
unfoldable pub item_at : Reader (List ℕ)
item_at ((line, Word word) ∷ rest) = word_item_at word rest
item_at ((line, Number digits) ∷ rest) = Ok (digits, rest)
item_at ((line, Group text) ∷ rest) = Ok (text, rest)
item_at ((line, Quoted key) ∷ rest) = quoted_item_at key rest
item_at tokens = Err (unexpected places.Choice tokens)

unfoldable pub items_at : Reader (List (List ℕ))
items_at = each_at begins_item item_at []

-- no word is next; behind all items a word is not supported
unfoldable pub no_word_at : Reader (Unit {0})
no_word_at ((line, Word word) ∷ rest) = Err (fault line (LeftOut word))
no_word_at tokens = Ok (tt, tokens)

-- items, behind which no word may stand
unfoldable pub last_items_at : Reader (List (List ℕ))
last_items_at = do
  items ← items_at
  _ ← no_word_at
  done items
