-- Completeness of the parser for the items behind a call: it reads all that stand on the line.
use Rattle.ir_instructions.proofs.Common.{◌≡◌, ◌≤◌, ℕ, Bool, true, false, eqb, eq-eqb, ◌&&◌, List, [], ◌∷◌, ◌++◌, length, Ok, refl, sym, ap, subst, ◌∙◌, arith, AllByRecursion, Placed, KeptGroup, Word, Number, Group, Quoted, Mark, ItemsOn, StopsOn, is_on_line, begins_late_item, late_value_at, late_quoted_at, late_group_at, late_item_at, each_late_item_at, some_token_at, late_items_at, SpellsItem, MayFollowItem, of_word, of_word_and_group, of_number, of_group, of_quoted, of_key_and_value, Each}
use Rattle.ir_instructions.specs.TokenReaders.{mark_at}
use Rattle.ir_instructions.specs.Punctuation as marks
use Rattle.ir_instructions.proofs.ItemSizes.{item-shorter}
use Rattle.ir_instructions.proofs.ItemSpellings.{no_equals, item_may_follow}
use Rattle.ir_instructions.proofs.Loops.{repeat-more, repeat-done}
use Rattle.ir_instructions.proofs.Shorter.{weaker, each}
use Rattle.ir_instructions.proofs.Spellings.{mark_at-of}
use Rattle.ir_instructions.proofs.Takings.{late-takes}

-- the tokens before the rest are on the line
abbrev AllOn : ℕ → List Placed → List Placed → Type 0
AllOn line tokens rest = (taken : List Placed) × (tokens ≡ taken ++ rest) × AllByRecursion (λ (t : Placed). t.0 ≡ line) taken

-- so is the first token, if it is before the rest, and so are those behind it up to the rest
first_on : (line : ℕ) (t : Placed) (tokens rest : List Placed) → AllOn line (t ∷ tokens) rest → length rest ≤ length tokens → (t.0 ≡ line) × AllOn line tokens rest
first_on line t tokens rest ([], same, on) fewer = absurd (omega (arith, ap length same))
first_on line t tokens rest (u ∷ taken, same, on) fewer =
    let first : t ≡ u = cc in
    let behind : tokens ≡ taken ++ rest = cc in
    (subst (λ (v : Placed). v.0 ≡ line) (sym first) on.0, (taken, behind, on.1))

-- an item on the line is next, with tokens on the line up to the rest
record LateItem (line : ℕ) (tokens middle rest : List Placed) : Type 0 where
  next : begins_late_item line tokens ≡ true
  reads : late_item_at line tokens ≡ Ok (tt, middle)
  behind : AllOn line middle rest

no_group : (line : ℕ) (tokens : List Placed) → MayFollowItem tokens → late_group_at line tokens ≡ Ok (tt, tokens)
unfolding late_group_at
no_group line ((at, KeptGroup group) ∷ rest) may = absurd may
no_group line tokens may = refl

never_both : (b : Bool) → (b && false) ≡ false
never_both true = refl
never_both false = refl

no_value : (line : ℕ) (tokens : List Placed) → MayFollowItem tokens → late_quoted_at line tokens ≡ Ok (tt, tokens)
unfolding late_quoted_at
no_value line tokens may = rw (no_equals tokens may, never_both (is_on_line line tokens)) refl

value : (line next last : ℕ) (text : List ℕ) (rest : List Placed) → next ≡ line → last ≡ line → late_quoted_at line ((next, Mark marks.equals) ∷ (last, Quoted text) ∷ rest) ≡ Ok (tt, rest)
unfolding late_quoted_at late_value_at
value line next last text rest here there =
    rw (eq-eqb next line here, mark_at-of marks.equals ((next, Mark marks.equals) ∷ (last, Quoted text) ∷ rest) ((last, Quoted text) ∷ rest) (next, refl), eq-eqb last line there) refl

late_item-of : (line : ℕ) (item : List ℕ) (tokens middle rest : List Placed) → SpellsItem item tokens middle → AllOn line tokens rest → length rest ≤ length middle → MayFollowItem middle → LateItem line tokens middle rest
unfolding late_item_at late_group_at
late_item-of line item tokens middle rest (of_word is (at, one)) on fewer may =
    let (here, behind) = first_on line (at, Word item) middle rest (rw one at on) fewer in
    record { next = rw (one, eq-eqb at line here, is) refl; reads = rw one (no_group line middle may); behind = behind }
late_item-of line item tokens middle rest (of_word_and_group name group is same (t1, (at, one), (next, two))) on fewer may =
    let (here, others) = first_on line (at, Word name) t1 rest (rw one at on) (omega (arith, ap length two)) in
    let (there, behind) = first_on line (next, KeptGroup group) middle rest (rw two at others) fewer in
    record { next = rw (one, eq-eqb at line here, is) refl; reads = rw (one, two, eq-eqb next line there) refl; behind = behind }
late_item-of line item tokens middle rest (of_number (at, one)) on fewer may =
    let (here, behind) = first_on line (at, Number item) middle rest (rw one at on) fewer in
    record { next = rw (one, eq-eqb at line here) refl; reads = rw one refl; behind = behind }
late_item-of line item tokens middle rest (of_group (at, one)) on fewer may =
    let (here, behind) = first_on line (at, Group item) middle rest (rw one at on) fewer in
    record { next = rw (one, eq-eqb at line here) refl; reads = rw one refl; behind = behind }
late_item-of line item tokens middle rest (of_quoted (at, one)) on fewer may =
    let (here, behind) = first_on line (at, Quoted item) middle rest (rw one at on) fewer in
    record { next = rw (one, eq-eqb at line here) refl; reads = rw one (no_value line middle may); behind = behind }
late_item-of line item tokens middle rest (of_key_and_value key text same (t1, (at, one), (t2, (next, two), (last, three)))) on fewer may =
    let (here, others) = first_on line (at, Quoted key) t1 rest (rw one at on) (omega (arith, ap length two, ap length three)) in
    let (there, more) = first_on line (next, Mark marks.equals) t2 rest (rw two at others) (omega (arith, ap length three)) in
    let (last_is, behind) = first_on line (last, Quoted text) middle rest (rw three at more) fewer in
    record { next = rw (one, eq-eqb at line here) refl; reads = rw (one, two, three) (value line next last text middle there last_is); behind = behind }

items_no_longer : (items : List (List ℕ)) (tokens rest : List Placed) → Each SpellsItem items tokens rest → length rest ≤ length tokens
items_no_longer items tokens rest h = each SpellsItem (λ item. weaker (SpellsItem item) (item-shorter item)) items tokens rest h

items_follow : (items : List (List ℕ)) (tokens rest : List Placed) → Each SpellsItem items tokens rest → MayFollowItem rest → MayFollowItem tokens
items_follow [] tokens rest same may = rw same may
items_follow (item ∷ items) tokens rest (middle, one, more) may = item_may_follow item tokens middle one

each_late_item_at-of : (line : ℕ) (items : List (List ℕ)) (tokens rest : List Placed) → Each SpellsItem items tokens rest → AllOn line tokens rest → begins_late_item line rest ≡ false → MayFollowItem rest → each_late_item_at line tokens ≡ Ok (tt, rest)
each_late_item_at-of line [] tokens rest same on none may = rw same (repeat-done (begins_late_item line) (λ before. late_item_at line) tt rest none)
each_late_item_at-of line (item ∷ items) tokens rest (middle, one, more) on none may =
    let first = late_item-of line item tokens middle rest one on (items_no_longer items middle rest more) (items_follow items middle rest more may) in
    repeat-more (begins_late_item line) (λ before. late_item_at line) (λ before. late-takes line) tt tokens (tt, middle) first.next first.reads
    ∙ each_late_item_at-of line items middle rest more first.behind none may

pub late_items_at-of : (line : ℕ) (tokens rest : List Placed) → ItemsOn line tokens rest → StopsOn line rest → MayFollowItem rest → late_items_at line tokens ≡ Ok (tt, rest)
unfolding late_items_at some_token_at
late_items_at-of line tokens [] items stops may = absurd stops
late_items_at-of line tokens (t ∷ rest) (items, taken, spelled, same, on) stops may =
    rw (each_late_item_at-of line items tokens (t ∷ rest) spelled (taken, same, on) stops may) refl
