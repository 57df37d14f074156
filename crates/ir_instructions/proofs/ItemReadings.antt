-- Soundness of the parser for items: what it gives is spelled so.
use Rattle.ir_instructions.proofs.Common.{◌≡◌, ℕ, Bool, true, false, cond, List, [], ◌∷◌, ◌++◌, Ok, refl, subst, Placed, KeptGroup, Word, Number, Group, Quoted, Is, Each, ◌>>=◌, SpellsItem, of_word, of_word_and_group, of_number, of_group, of_quoted, of_key_and_value, is_item_word, begins_item, quoted_value_at, quoted_item_at, word_item_at, item_at, items_at, no_word_at, last_items_at}
use Rattle.ir_instructions.specs.InstructionReaders.{is_mark, mark_at}
use Rattle.ir_instructions.specs.Punctuation as marks
use Rattle.ir_instructions.proofs.Loops.{each-is, all_read}
use Rattle.ir_instructions.proofs.Steps.{Reads, bind_ok, read_as}
use Rattle.ir_instructions.proofs.Readings.{mark_at-is}

quoted_value_at-is : (key : List ℕ) → Reads (quoted_value_at key) (λ item tokens rest. (value : List ℕ) × (item ≡ key ++ marks.equals ∷ value) × Is (Quoted value) tokens rest)
unfolding quoted_value_at
quoted_value_at-is key ((line, Quoted value) ∷ rest) x e =
    read_as (λ y. (v : List ℕ) × (y.0 ≡ key ++ marks.equals ∷ v) × Is (Quoted v) ((line, Quoted value) ∷ rest) y.1) (key ++ marks.equals ∷ value, rest) x e (value, refl, (line, refl))
quoted_value_at-is key tokens x e = absurd cc

quoted_item_at-is : (line : ℕ) (key : List ℕ) (tokens : List Placed) (x : List ℕ × List Placed) → quoted_item_at key tokens ≡ Ok x → SpellsItem x.0 ((line, Quoted key) ∷ tokens) x.1
unfolding quoted_item_at
quoted_item_at-is line key tokens x e = paired (is_mark marks.equals tokens) e
  where
    paired : (b : Bool) → cond b ((mark_at marks.equals >>= λ once. quoted_value_at key) tokens) (Ok (key, tokens)) ≡ Ok x → SpellsItem x.0 ((line, Quoted key) ∷ tokens) x.1
    paired true e =
        let a = bind_ok (mark_at marks.equals tokens) _ _ e in
        let v = quoted_value_at-is key a.0.1 x a.2 in
        of_key_and_value key v.0 v.1 (tokens, (line, refl), (a.0.1, mark_at-is marks.equals tokens a.0 a.1, v.2))
    paired false e = read_as (λ y. SpellsItem y.0 ((line, Quoted key) ∷ tokens) y.1) (key, tokens) x e (of_quoted (line, refl))

word_item_at-is : (line : ℕ) (word : List ℕ) (tokens : List Placed) (x : List ℕ × List Placed) → is_item_word word ≡ true → word_item_at word tokens ≡ Ok x → SpellsItem x.0 ((line, Word word) ∷ tokens) x.1
unfolding word_item_at
word_item_at-is line word ((next, KeptGroup group) ∷ rest) x item e =
    read_as (λ y. SpellsItem y.0 ((line, Word word) ∷ (next, KeptGroup group) ∷ rest) y.1) (word ++ group, rest) x e
    (of_word_and_group word group item refl ((next, KeptGroup group) ∷ rest, (line, refl), (next, refl)))
word_item_at-is line word tokens x item e = read_as (λ y. SpellsItem y.0 ((line, Word word) ∷ tokens) y.1) (word, tokens) x e (of_word item (line, refl))

pub item_at-is : (tokens : List Placed) (x : List ℕ × List Placed) → begins_item tokens ≡ true → item_at tokens ≡ Ok x → SpellsItem x.0 tokens x.1
unfolding item_at
item_at-is ((line, Word word) ∷ rest) x item e = word_item_at-is line word rest x item e
item_at-is ((line, Number digits) ∷ rest) x item e = read_as (λ y. SpellsItem y.0 ((line, Number digits) ∷ rest) y.1) (digits, rest) x e (of_number (line, refl))
item_at-is ((line, Group text) ∷ rest) x item e = read_as (λ y. SpellsItem y.0 ((line, Group text) ∷ rest) y.1) (text, rest) x e (of_group (line, refl))
item_at-is ((line, Quoted key) ∷ rest) x item e = quoted_item_at-is line key rest x e
item_at-is tokens x item e = absurd cc

no_word_at-is : (tokens : List Placed) (x : Unit {0} × List Placed) → no_word_at tokens ≡ Ok x → tokens ≡ x.1
unfolding no_word_at
no_word_at-is ((line, Word word) ∷ rest) x e = absurd cc
no_word_at-is tokens x e = read_as (λ y. tokens ≡ y.1) (tt, tokens) x e refl

pub items_at-is : (tokens : List Placed) (x : List (List ℕ) × List Placed) → items_at tokens ≡ Ok x → Each SpellsItem x.0 tokens x.1
unfolding items_at
items_at-is tokens x e = let r = each-is begins_item item_at SpellsItem item_at-is [] tokens x e in all_read SpellsItem tokens x.0 x.1 r.0

pub last_items_at-is : Reads last_items_at (Each SpellsItem)
unfolding last_items_at
last_items_at-is tokens x e =
    let a = bind_ok (items_at tokens) _ _ e in
    let b = bind_ok (no_word_at a.0.1) _ _ a.2 in
    read_as (λ y. Each SpellsItem y.0 tokens y.1) (a.0.0, b.0.1) x b.2 (subst (Each SpellsItem a.0.0 tokens) (no_word_at-is a.0.1 b.0 b.1) (items_at-is tokens a.0 a.1))
