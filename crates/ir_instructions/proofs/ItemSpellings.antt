-- Completeness of the parser for items: it gives what is spelled, if what follows may follow.
use Rattle.ir_instructions.proofs.Common.{◌≡◌, ℕ, true, false, eqb, List, [], ◌∷◌, Ok, refl, Placed, KeptGroup, Register, Metadata, Mark, Each, SpellsItem, MayFollowItem, of_word, of_word_and_group, of_number, of_group, of_quoted, of_key_and_value, begins_item, quoted_value_at, quoted_item_at, word_item_at, item_at, items_at, no_word_at, last_items_at, SpellsType, is_item_word}
use Rattle.ir_instructions.specs.InstructionReaders.{is_mark}
use Rattle.ir_instructions.proofs.Loops.{each-of}
use Rattle.ir_instructions.proofs.ItemSizes.{item-takes}
use Rattle.ir_instructions.specs.Punctuation as marks
use Rattle.ir_instructions.proofs.Spellings.{mark_at-of}
use Rattle.ir_instructions.proofs.WordLemmas.{type_in-of}

-- no type begins like an item
pub type_begins_no_item : (width : ℕ) (tokens rest : List Placed) → SpellsType width tokens rest → begins_item tokens ≡ false
unfolding is_item_word
type_begins_no_item width tokens rest (word, type, (line, is)) = rw (is, type_in-of word width type) refl

pub no_equals : (tokens : List Placed) → MayFollowItem tokens → is_mark marks.equals tokens ≡ false
no_equals ((line, Mark mark) ∷ rest) may = may
no_equals ((line, KeptGroup group) ∷ rest) may = absurd may
no_equals tokens may = refl

alone : (word : List ℕ) (tokens : List Placed) → MayFollowItem tokens → word_item_at word tokens ≡ Ok (word, tokens)
unfolding word_item_at
alone word ((line, KeptGroup group) ∷ rest) may = absurd may
alone word tokens may = refl

pub item_at-of : (item : List ℕ) (tokens rest : List Placed) → SpellsItem item tokens rest → MayFollowItem rest → item_at tokens ≡ Ok (item, rest)
unfolding item_at word_item_at quoted_item_at quoted_value_at
item_at-of item tokens rest (of_word is (line, one)) may = rw one (alone item rest may)
item_at-of item tokens rest (of_word_and_group name group is same (middle, (line, one), (next, two))) may = rw (one, two, same) refl
item_at-of item tokens rest (of_number (line, one)) may = rw one refl
item_at-of item tokens rest (of_group (line, one)) may = rw one refl
item_at-of item tokens rest (of_quoted (line, one)) may = rw (one, no_equals rest may) refl
item_at-of item tokens rest (of_key_and_value key value same (middle, (line, one), (behind, (next, two), (last, three)))) may =
    rw (one, two, mark_at-of marks.equals ((next, Mark marks.equals) ∷ behind) behind (next, refl), three, same) refl

pub item_is_next : (item : List ℕ) (tokens rest : List Placed) → SpellsItem item tokens rest → begins_item tokens ≡ true
item_is_next item tokens rest (of_word is (line, one)) = rw one is
item_is_next item tokens rest (of_word_and_group name group is same (middle, (line, one), two)) = rw one is
item_is_next item tokens rest (of_number (line, one)) = rw one refl
item_is_next item tokens rest (of_group (line, one)) = rw one refl
item_is_next item tokens rest (of_quoted (line, one)) = rw one refl
item_is_next item tokens rest (of_key_and_value key value same (middle, (line, one), two)) = rw one refl

pub item_may_follow : (item : List ℕ) (tokens rest : List Placed) → SpellsItem item tokens rest → MayFollowItem tokens
item_may_follow item tokens rest (of_word is (line, one)) = rw one tt
item_may_follow item tokens rest (of_word_and_group name group is same (middle, (line, one), two)) = rw one tt
item_may_follow item tokens rest (of_number (line, one)) = rw one tt
item_may_follow item tokens rest (of_group (line, one)) = rw one tt
item_may_follow item tokens rest (of_quoted (line, one)) = rw one tt
item_may_follow item tokens rest (of_key_and_value key value same (middle, (line, one), two)) = rw one tt

pub items_at-of : (items : List (List ℕ)) (tokens rest : List Placed) → Each SpellsItem items tokens rest → begins_item rest ≡ false → MayFollowItem rest → items_at tokens ≡ Ok (items, rest)
unfolding items_at
items_at-of items tokens rest each none may =
    each-of begins_item item_at SpellsItem MayFollowItem (record { takes = item-takes; next = item_is_next; follows = item_may_follow; reads = item_at-of }) items [] tokens rest each none may

-- what may follow the last items: neither an item nor a word
abbrev pub MayFollowItems : List Placed → Type 0
MayFollowItems ((line, Register name) ∷ rest) = Unit {0}
MayFollowItems ((line, Metadata text) ∷ rest) = Unit {0}
MayFollowItems ((line, Mark mark) ∷ rest) = eqb mark marks.equals ≡ false
MayFollowItems tokens = ⊥

no_item : (tokens : List Placed) → MayFollowItems tokens → (begins_item tokens ≡ false) × MayFollowItem tokens × (no_word_at tokens ≡ Ok (tt, tokens))
unfolding no_word_at
no_item ((line, Register name) ∷ rest) may = (refl, tt, refl)
no_item ((line, Metadata text) ∷ rest) may = (refl, tt, refl)
no_item ((line, Mark mark) ∷ rest) may = (refl, may, refl)
no_item tokens may = absurd may

pub last_items_at-of : (items : List (List ℕ)) (tokens rest : List Placed) → Each SpellsItem items tokens rest → MayFollowItems rest → last_items_at tokens ≡ Ok (items, rest)
unfolding last_items_at
last_items_at-of items tokens rest each may =
    let n = no_item rest may in rw (items_at-of items tokens rest each n.0 n.1, n.2) refl
