-- The identifiers of lists of names, one behind the other.
use Rattle.ir_printer.proofs.Common.{◌≡◌, ℕ, suc, ◌+◌, ◌<◌, ◌≤◌, ◌^◌, List, [], ◌∷◌, ◌++◌, length, map, take, get_or, slice_get, None, Some, refl, sym, ap, ◌∙◌, append_assoc, arith, inl, inr, flat_map, cases_lt, map_more, take_more, take-take, take_all, length-append, length-map, length-take-le, get_or_append_left, get_or_push, flat_map-append, slice_get_past, slice_get_within, slice_get-get_or, get_or_from_slice_get, Name, names_of, block_names, block_place, place_of, Identifier, Named, Numbered, identifiers_from, identifiers_of, identifier_of, Block, Function, Register, block_identifier, HasFewNames, seen, next_after, Adds, AreBlockStarts}
use Rattle.std.proofs.lemmas.List.{append-nil}
use Rattle.ir_core.specs.declared.operand.Register.TheVariants as registers
use Rattle.ir_printer.specs.declared.identifier.Identifier.{Identifier as Stored}

-- the identifiers of a concatenation of names
pub identifiers_from-append : (next : ℕ) (xs ys : List Name) → identifiers_from next (xs ++ ys) ≡ identifiers_from next xs ++ identifiers_from (next_after next xs) ys
identifiers_from-append next [] ys = refl
identifiers_from-append next (None ∷ xs) ys = ap (λ (l : List Identifier). Numbered next ∷ l) (identifiers_from-append (suc next) xs ys)
identifiers_from-append next (Some text ∷ xs) ys = ap (λ (l : List Identifier). Named text ∷ l) (identifiers_from-append next xs ys)

pub next_after-append : (next : ℕ) (xs ys : List Name) → next_after next (xs ++ ys) ≡ next_after (next_after next xs) ys
next_after-append next [] ys = refl
next_after-append next (None ∷ xs) ys = next_after-append (suc next) xs ys
next_after-append next (Some text ∷ xs) ys = next_after-append next xs ys

-- each name gives one identifier
pub length-identifiers_from : (next : ℕ) (xs : List Name) → length (identifiers_from next xs) ≡ length xs
length-identifiers_from next [] = refl
length-identifiers_from next (None ∷ xs) = ap suc (length-identifiers_from (suc next) xs)
length-identifiers_from next (Some text ∷ xs) = ap suc (length-identifiers_from next xs)

-- appending the identifiers of some names and then of others appends those of both
pub Adds-append : (next : ℕ) (xs ys : List Name) (a b c : List Stored) (n m : ℕ) → Adds next xs a b n → Adds n ys b c m → Adds next (xs ++ ys) a c m
Adds-append next xs ys a b c n m first second = record {
  identifiers =
      second.identifiers ∙ ap (λ (l : List Identifier). l ++ identifiers_from n ys) first.identifiers
      ∙ append_assoc (map seen a) (identifiers_from next xs) (identifiers_from n ys)
      ∙ ap (λ (k : ℕ). map seen a ++ (identifiers_from next xs ++ identifiers_from k ys)) first.goes_on
      ∙ ap (λ (l : List Identifier). map seen a ++ l) (sym (identifiers_from-append next xs ys));
  goes_on = second.goes_on ∙ ap (λ (k : ℕ). next_after k ys) first.goes_on ∙ sym (next_after-append next xs ys);
}

-- the identifiers of one more item with a name
pub Adds-more : {X : Type 0} (name : X → Name) (next : ℕ) (xs : List X) (i : ℕ) (x : X) (a b c : List Stored) (n m : ℕ) → i < length xs → x ≡ get_or xs i x → Adds next (map name (take i xs)) a b n → Adds n (name x ∷ []) b c m → Adds next (map name (take (i + 1) xs)) a c m
Adds-more name next xs i x a b c n m within is first second = rw (map_more name xs i x within, ← is) (Adds-append next (map name (take i xs)) (name x ∷ []) a b c n m first second)

-- the identifiers of one more item with several names
pub Adds-all_more : {X : Type 0} (names : X → List Name) (next : ℕ) (xs : List X) (i : ℕ) (x : X) (a b c : List Stored) (n m : ℕ) → i < length xs → x ≡ get_or xs i x → Adds next (flat_map names (take i xs)) a b n → Adds n (names x) b c m → Adds next (flat_map names (take (i + 1) xs)) a c m
Adds-all_more names next xs i x a b c n m within is first second =
    let both = Adds-append next (flat_map names (take i xs)) (names x) a b c n m first second in
    let e : flat_map names (take (i + 1) xs) ≡ flat_map names (take i xs) ++ names x = rw (take_more xs i x within, ← is, flat_map-append names (take i xs) (x ∷ []), append-nil (names x)) refl in
    rw e both

-- how many identifiers there are afterwards
pub Adds-length : (next : ℕ) (names : List Name) (before after : List Stored) (n : ℕ) → Adds next names before after n → length after ≡ length before + length names
Adds-length next names before after n adds = omega (arith, length-map before seen, length-map after seen, simp (length-append, length-identifiers_from) at (ap length adds.identifiers))

-- the index of one more block
pub AreBlockStarts-more : (first : ℕ) (blocks : List Block) (i : ℕ) (places : List ℕ) (place : ℕ) → i < length blocks → AreBlockStarts first (take i blocks) places → place ≡ first + length (flat_map block_names (take i blocks)) → AreBlockStarts first (take (i + 1) blocks) (places ++ place ∷ [])
AreBlockStarts-more first blocks i places place within so_far is =
    let now : length (take i blocks) ≡ i = length-take-le i blocks (omega arith) in
    let then : length (take (i + 1) blocks) ≡ i + 1 = length-take-le (i + 1) blocks (omega arith) in
    let all : length places ≡ i = so_far.all ∙ now in
    record {
      all = omega (arith, length-append places (place ∷ []));
      each = λ b below. elim (cases_lt b i) [
        | inl lt ↦ get_or_append_left places (place ∷ []) 0 b (omega arith) ∙ so_far.each b (omega arith) ∙ ap (λ (l : List Block). first + length (flat_map block_names l)) (take-take b i blocks (omega arith) ∙ sym (take-take b (i + 1) blocks (omega arith)))
        | inr le ↦
            let same : b ≡ i = omega arith in
            rw (same, get_or_push places place 0 i all, take-take i (i + 1) blocks (omega arith)) is
      ];
    }

-- the identifiers of a function
pub all_identifiers : (f : Function) (stored : List Stored) (first second : List Stored) (n : ℕ) → stored ≡ [] → Adds 0 (map (λ p. p.name) f.parameters) stored first n → map seen second ≡ map seen first ++ identifiers_from n (flat_map block_names f.blocks) → map seen second ≡ identifiers_of f
all_identifiers f stored first second n none adds rest =
    rest ∙ ap (λ (l : List Identifier). l ++ identifiers_from n (flat_map block_names f.blocks)) (adds.identifiers ∙ ap (λ (l : List Stored). map seen l ++ identifiers_from 0 (map (λ p. p.name) f.parameters)) none)
    ∙ ap (λ (k : ℕ). identifiers_from 0 (map (λ p. p.name) f.parameters) ++ identifiers_from k (flat_map block_names f.blocks)) adds.goes_on
    ∙ sym (identifiers_from-append 0 (map (λ p. p.name) f.parameters) (flat_map block_names f.blocks))

-- how many identifiers a function has
pub length-identifiers_of : (f : Function) → length (identifiers_of f) ≡ length f.parameters + length (flat_map block_names f.blocks)
length-identifiers_of f = length-identifiers_from 0 (names_of f) ∙ length-append (map (λ p. p.name) f.parameters) (flat_map block_names f.blocks) ∙ ap (λ (k : ℕ). k + length (flat_map block_names f.blocks)) (length-map f.parameters (λ p. p.name))

none_or_some : {X : Type 0} (xs : List X) (i : ℕ) → slice_get xs i ≡ None → i < length xs → ⊥
none_or_some [] i none lt = omega arith
none_or_some (x ∷ xs) i none lt = let some = slice_get-get_or (x ∷ xs) i x lt in cc

-- a list has nothing past its end
pub none_past : {X : Type 0} (xs : List X) (i : ℕ) → slice_get xs i ≡ None → length xs ≤ i
none_past xs i none = elim (cases_lt i (length xs)) [
  | inl lt ↦ absurd (none_or_some xs i none lt)
  | inr le ↦ le
]

-- a block that the function doesn't have, and its results
pub past_blocks : (f : Function) (starts : List ℕ) (b : ℕ) → AreBlockStarts (length f.parameters) f.blocks starts → slice_get starts b ≡ None → length (identifiers_of f) ≤ block_place f b
past_blocks f starts b places none =
    let past : length f.blocks ≤ b = omega (arith, places.all, none_past starts b none) in
    let blocks : length (flat_map block_names (take b f.blocks)) ≡ length (flat_map block_names f.blocks) = ap (λ (l : List Block). length (flat_map block_names l)) (take_all b f.blocks past) in
    omega (arith, length-identifiers_of f)

pub no_block : (f : Function) (starts : List ℕ) (b : ℕ) → AreBlockStarts (length f.parameters) f.blocks starts → slice_get starts b ≡ None → block_identifier f b ≡ None
no_block f starts b places none = slice_get_past (identifiers_of f) (block_place f b) (past_blocks f starts b places none)

pub no_result : (f : Function) (starts : List ℕ) (b k : ℕ) → AreBlockStarts (length f.parameters) f.blocks starts → slice_get starts b ≡ None → identifier_of f (registers.Result b k) ≡ None
no_result f starts b k places none =
    let past = past_blocks f starts b places none in
    slice_get_past (identifiers_of f) (block_place f b + 1 + k) (omega arith)

-- the index of a block's own identifier
pub start_is : (f : Function) (starts : List ℕ) (b start : ℕ) → AreBlockStarts (length f.parameters) f.blocks starts → slice_get starts b ≡ Some start → start ≡ block_place f b
start_is f starts b start places some =
    let within : b < length starts = slice_get_within starts b start some in
    sym (get_or_from_slice_get starts b start 0 some) ∙ places.each b (omega (arith, places.all))

-- an index past all identifiers
pub too_far : (f : Function) (stored : List Stored) (r : Register) → map seen stored ≡ identifiers_of f → length stored ≤ place_of f r → identifier_of f r ≡ None
too_far f stored r all past = slice_get_past (identifiers_of f) (place_of f r) (omega (arith, ap length all, length-map stored seen))

-- the function has no more names than there are identifiers in memory
pub few_names : (f : Function) (stored : List Stored) → map seen stored ≡ identifiers_of f → length stored < 2 ^ 64 → HasFewNames f
few_names f stored all few = omega (arith, few, ap length all, length-map stored seen, length-identifiers_from 0 (names_of f))
