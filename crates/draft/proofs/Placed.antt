-- Tables of positions, and instructions and blocks that are done one by one.
use Rattle.draft.proofs.Common.{◌≡◌, inl, inr, ℕ, zero, suc, ◌+◌, ◌<◌, ◌≤◌, min, List, [], ◌∷◌, ◌++◌, length, get_or, set, take, drop, Option, Some, map, refl, sym, ap, subst, ◌∙◌, arith, get_or-set_other, get_or-set_same, option_to_list, slice_get, cases_eq, append_assoc, drop-set-lt, drop_more, get_or_append_left, get_or_default, get_or_push, length-take, length_push, take_all, take_more, take_more_set, same_Some, slice_get-get_or, Block, Inst, Substitution, substituted_inst, block_of, blocks_of, insts_of, place_in, AreOrdered, IsOrdering}
use Rattle.std.proofs.Math.ListN.{length-set}

-- ---- the instructions of a block

pub insts_of_more : (to : Substitution) (insts : List Inst) (numbers : List ℕ) (n : ℕ) (inst : Inst) → slice_get insts n ≡ Some inst → insts_of to insts (numbers ++ n ∷ []) ≡ insts_of to insts numbers ++ substituted_inst to inst ∷ []
insts_of_more to insts [] n inst at = ap (λ (o : Option Inst). map (substituted_inst to) (option_to_list o) ++ []) at
insts_of_more to insts (m ∷ numbers) n inst at =
    ap (λ (l : List Inst). map (substituted_inst to) (option_to_list (slice_get insts m)) ++ l) (insts_of_more to insts numbers n inst at)
    ∙ sym (append_assoc (map (substituted_inst to) (option_to_list (slice_get insts m))) (insts_of to insts numbers) (substituted_inst to inst ∷ []))

-- The instructions of the first i numbers are moved out, and those of the others are as they were.
pub record InstsPlaced (to : Substitution) (all : List Inst) (numbers : List ℕ) (i : ℕ) (insts placed : List Inst) : Type 0 where
  pub size : length insts ≡ length all
  pub done : placed ≡ insts_of to all (take i numbers)
  pub rest : (k n : ℕ) → i ≤ k → slice_get numbers k ≡ Some n → slice_get insts n ≡ slice_get all n

slice_get-set_other : {A : Type 0} (xs : List A) (i j : ℕ) (x : A) → (j ≡ i → ⊥) → slice_get (set xs i x) j ≡ slice_get xs j
slice_get-set_other [] i j x apart = refl
slice_get-set_other (y ∷ xs) zero zero x apart = absurd (apart refl)
slice_get-set_other (y ∷ xs) zero (suc j) x apart = refl
slice_get-set_other (y ∷ xs) (suc i) zero x apart = refl
slice_get-set_other (y ∷ xs) (suc i) (suc j) x apart = slice_get-set_other xs i j x (λ e. apart (ap suc e))

module _ (to : Substitution) (all : List Inst) (numbers : List ℕ) (i : ℕ) (insts placed : List Inst) (so_far : InstsPlaced to all numbers i insts placed) (ordering : IsOrdering (length all) numbers) (within : i < length numbers) (n : ℕ) (here : n ≡ get_or numbers i n) where
  number_at : slice_get numbers i ≡ Some n
  number_at = slice_get-get_or numbers i n within ∙ ap (λ (m : ℕ). Some m) (sym here)

  pub number_below : n < length insts
  number_below = let size = so_far.size in let below = ordering.below i n number_at in omega arith

  pub inst_placed : (inst left result : Inst) → inst ≡ get_or insts n inst → result ≡ substituted_inst to inst → InstsPlaced to all numbers (i + 1) (set insts n left) (placed ++ result ∷ [])
  inst_placed inst left result is substituted =
      let below = number_below in
      let was : slice_get all n ≡ Some inst = sym (so_far.rest i n (omega arith) number_at) ∙ slice_get-get_or insts n inst below ∙ ap (λ (x : Inst). Some x) (sym is) in
      record {
        size = length-set insts n left ∙ so_far.size;
        done = ap (λ (l : List Inst). l ++ result ∷ []) so_far.done ∙ ap (λ (x : Inst). insts_of to all (take i numbers) ++ x ∷ []) substituted
            ∙ sym (insts_of_more to all (take i numbers) n inst was)
            ∙ ap (λ (m : ℕ). insts_of to all (take i numbers ++ m ∷ [])) here
            ∙ ap (insts_of to all) (sym (take_more numbers i n within));
        rest = λ k m later at.
            let other : m ≡ n → ⊥ = λ e.
            let once_m = ordering.once k m at in
            let once_n = ordering.once i n number_at in
            let same = ap (place_in numbers) e in
            absurd (omega arith) in
            slice_get-set_other insts n m left other ∙ so_far.rest k m (omega arith) at;
      }

pub all_placed : (to : Substitution) (all : List Inst) (numbers : List ℕ) (i : ℕ) (insts placed : List Inst) → InstsPlaced to all numbers i insts placed → length numbers ≤ i → placed ≡ insts_of to all numbers
all_placed to all numbers i insts placed so_far past = so_far.done ∙ ap (insts_of to all) (take_all i numbers past)

-- ---- the blocks

blocks_of_more : (to : Substitution) (rows : List (List ℕ)) (blocks : List Block) (row : List ℕ) (block : Block) → length rows ≡ length blocks
    → blocks_of to (rows ++ row ∷ []) (blocks ++ block ∷ []) ≡ blocks_of to rows blocks ++ block_of to row block ∷ []
blocks_of_more to [] [] row block same = refl
blocks_of_more to [] (x ∷ blocks) row block same = absurd (omega arith)
blocks_of_more to (r ∷ rows) [] row block same = absurd (omega arith)
blocks_of_more to (r ∷ rows) (x ∷ blocks) row block same = ap (λ (l : List Block). block_of to r x ∷ l) (blocks_of_more to rows blocks row block (omega arith))

-- the blocks before the index are placed, and from there on all are as they were
pub record BlocksPlaced (to : Substitution) (rows : List (List ℕ)) (all : List Block) (i : ℕ) (items : List Block) : Type 0 where
  pub done : take i items ≡ blocks_of to (take i rows) (take i all)
  pub rest : drop i items ≡ drop i all
  pub size : length items ≡ length all

module _ (to : Substitution) (rows : List (List ℕ)) (all : List Block) (i : ℕ) (items : List Block) (so_far : BlocksPlaced to rows all i items) (same : length rows ≡ length all) (within : i < length items) (block : Block) (here : block ≡ get_or items i block) where
  heads_and_tails : get_or items i block ∷ drop (i + 1) items ≡ get_or all i block ∷ drop (i + 1) all
  heads_and_tails = let size = so_far.size in sym (drop_more items i block within) ∙ so_far.rest ∙ drop_more all i block (omega arith)

  pub block_was : block ≡ get_or all i block
  block_was = let e = heads_and_tails in let heads : get_or items i block ≡ get_or all i block = cc in here ∙ heads

  pub block_placed : (row : List ℕ) (new : Block) → row ≡ get_or rows i row → new ≡ block_of to row block → BlocksPlaced to rows all (i + 1) (set items i new)
  block_placed row new row_is is =
      let size = so_far.size in
      let inside : i < length all = omega arith in
      let row_inside : i < length rows = omega arith in
      let both = heads_and_tails in
      let tails : drop (i + 1) items ≡ drop (i + 1) all = cc in
      let counts : length (take i rows) ≡ length (take i all) = length-take i rows ∙ (let e : min i (length rows) ≡ min i (length all) = omega arith in e) ∙ sym (length-take i all) in
      record {
        done = take_more_set items i new within
            ∙ ap (λ (l : List Block). l ++ new ∷ []) so_far.done
            ∙ ap (λ (x : Block). blocks_of to (take i rows) (take i all) ++ x ∷ []) is
            ∙ sym (blocks_of_more to (take i rows) (take i all) row block counts)
            ∙ ap (λ (l : List (List ℕ)). blocks_of to l (take i all ++ block ∷ [])) (ap (λ (r : List ℕ). take i rows ++ r ∷ []) row_is ∙ sym (take_more rows i row row_inside))
            ∙ ap (blocks_of to (take (i + 1) rows)) (ap (λ (x : Block). take i all ++ x ∷ []) block_was ∙ sym (take_more all i block inside));
        rest = drop-set-lt (i + 1) items i new (omega arith) ∙ tails;
        size = length-set items i new ∙ so_far.size;
      }

-- ---- the positions in one block

-- the table has the position of each of the first i numbers
pub record PlacesKept (count : ℕ) (numbers : List ℕ) (i : ℕ) (places : List ℕ) : Type 0 where
  pub size : length places ≡ count
  pub done : (k n : ℕ) → k < i → slice_get numbers k ≡ Some n → get_or places n 0 ≡ k

pub place_kept : (count : ℕ) (numbers : List ℕ) (i : ℕ) (places : List ℕ) (n : ℕ) → PlacesKept count numbers i places → IsOrdering count numbers → i < length numbers → n ≡ get_or numbers i n → PlacesKept count numbers (i + 1) (set places n i)
place_kept count numbers i places n so_far ordering within here =
    let at : slice_get numbers i ≡ Some n = slice_get-get_or numbers i n within ∙ ap (λ (m : ℕ). Some m) (sym here) in
    let below = ordering.below i n at in
    let size = so_far.size in
    record {
      size = length-set places n i ∙ so_far.size;
      done = λ k m less there. elim (cases_eq k i) [
        | inl same ↦
            let is_n : m ≡ n = same_Some m n (sym there ∙ ap (slice_get numbers) same ∙ at) in
            ap (λ (j : ℕ). get_or (set places n i) j 0) is_n ∙ get_or-set_same places n i 0 (omega arith) ∙ sym same
        | inr apart ↦
            let other : m ≡ n → ⊥ = λ e.
            let once_m = ordering.once k m there in
            let once_n = ordering.once i n at in
            let same = ap (place_in numbers) e in
            absurd (omega arith) in
            get_or-set_other places n m i 0 other ∙ so_far.done k m (omega arith) there
      ];
    }

-- ---- the positions in all blocks

pub record TablesKept (numbers : List (List ℕ)) (i : ℕ) (rows : List (List ℕ)) : Type 0 where
  pub size : length rows ≡ i
  pub done : (b k n : ℕ) → b < i → slice_get (get_or numbers b []) k ≡ Some n → get_or (get_or rows b []) n 0 ≡ k

pub table_kept : (numbers : List (List ℕ)) (i : ℕ) (rows : List (List ℕ)) (row : List ℕ) → TablesKept numbers i rows → ((k n : ℕ) → slice_get (get_or numbers i []) k ≡ Some n → get_or row n 0 ≡ k) → TablesKept numbers (i + 1) (rows ++ row ∷ [])
table_kept numbers i rows row so_far table =
    let size = so_far.size in
    record {
      size = length_push rows row ∙ ap (λ (n : ℕ). n + 1) so_far.size;
      done = λ b k n less at. elim (cases_eq b i) [
        | inl same ↦
            ap (λ (c : ℕ). get_or (get_or (rows ++ row ∷ []) c []) n 0) same
            ∙ ap (λ (l : List ℕ). get_or l n 0) (get_or_push rows row [] i so_far.size)
            ∙ table k n (ap (λ (c : ℕ). slice_get (get_or numbers c []) k) (sym same) ∙ at)
        | inr apart ↦ ap (λ (l : List ℕ). get_or l n 0) (get_or_append_left rows (row ∷ []) [] b (omega arith)) ∙ so_far.done b k n (omega arith) at
      ];
    }

-- the numbers of the next block fit it
pub next_ordering : (to : Substitution) (rows : List (List ℕ)) (all : List Block) (i : ℕ) (items : List Block) → BlocksPlaced to rows all i items → length rows ≡ length all → i < length items → (block : Block) → block ≡ get_or items i block
    → AreOrdered all rows → (row : List ℕ) → row ≡ get_or rows i row → IsOrdering (length block.insts) row
next_ordering to rows all i items so_far same within block here ordered row row_is =
    let size = so_far.size in
    let inside : i < length all = omega arith in
    let was = block_was to rows all i items so_far same within block here in
    let at : slice_get all i ≡ Some block = slice_get-get_or all i block inside ∙ ap (λ (x : Block). Some x) (sym was) in
    let is : row ≡ get_or rows i [] = row_is ∙ get_or_default rows i row [] (omega arith) in
    subst (IsOrdering (length block.insts)) (sym is) (ordered i block at)

-- the numbers of a block, as the loop reads them
pub ordering_at : (blocks : List Block) (rows : List (List ℕ)) (b count : ℕ) (read : List Block) (block : Block) (row found : List ℕ) → AreOrdered blocks rows → length rows ≡ length blocks → b < length rows → read ≡ blocks → count ≡ length (get_or read b block).insts
    → row ≡ found → found ≡ get_or rows b found → IsOrdering count row
ordering_at blocks rows b count read block row found ordered same within is size row_is found_is =
    let at : slice_get blocks b ≡ Some (get_or blocks b block) = slice_get-get_or blocks b block (omega arith) in
    let length_is : length (get_or blocks b block).insts ≡ count = ap (λ (l : List Block). length (get_or l b block).insts) (sym is) ∙ sym size in
    let this_row : row ≡ get_or rows b [] = row_is ∙ found_is ∙ get_or_default rows b found [] within in
    subst (λ (n : ℕ). IsOrdering n row) length_is (subst (IsOrdering (length (get_or blocks b block).insts)) (sym this_row) (ordered b (get_or blocks b block) at))
