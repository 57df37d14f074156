-- A rewrite of an instruction in a draft is a rewrite of the draft's function.
use Rattle.draft_steps.proofs.Common.{◌≡◌, ◌≢◌, ℕ, zero, suc, ◌+◌, ◌<◌, ◌≤◌, inl, inr, cond, List, [], ◌∷◌, ◌++◌, length, map, Option, None, Some, refl, sym, ap, subst, ◌∙◌, arith, Contains, slice_get, slice_index_or, option_map, range_with_len, cases_eq, eq-eqb, ne_eqb, Contains-append_left, length-range_with_len, same_Some, slice_get-map, IsBlock, end_of, Block, Function, Inst, Operand, cases_in, not_in_empty, Rewrite, rewritten_function, Substitution, substituted_block, substituted_inst, substituted_operand, get_left, get_right, changed_at, gone, instead, without, insts_of, placed, put_before, all_before, put_for, put_numbers, rows_put_for, insts_more}
use Rattle.ir_core.specs.declared.operand.Register.TheVariants as registers
use Rattle.places.specs.Orders.{place_in}
use Rattle.draft_steps.proofs.Instead.{instead_it, instead_other}
use Rattle.draft_steps.proofs.Leaving.{function_at}
use Rattle.draft_steps.proofs.Mapping.{changed_inst, changed_twice}
use Rattle.draft_steps.proofs.Needing.{AreRows, row_is}
use Rattle.draft_steps.proofs.OneChange.{changed_here, changed_other}
use Rattle.draft_steps.proofs.RewrittenRows.{ArePut, IsPut, put_is}
use Rattle.draft_steps.proofs.RowPlaces.{IsOut, IsSplit, at_place, contained, in_or_out, is_in, place_here, place_later, place_left, place_right, place_split, split}
use Rattle.draft_steps.proofs.WhoReads.{end_of-is}

-- ---- rows

assoc : (a b c : List ℕ) → (a ++ b) ++ c ≡ a ++ (b ++ c)
assoc [] b c = refl
assoc (x ∷ a) b c = ap (λ (l : List ℕ). x ∷ l) (assoc a b c)

out_rest : (x : ℕ) (xs : List ℕ) (n : ℕ) → IsOut (x ∷ xs) n → (x ≢ n) × IsOut xs n
out_rest x xs n out =
    elim (cases_eq x n) [
      | inl same ↦ absurd (none (place_in (x ∷ xs) n) (length xs) (ap (λ c. cond c 0 (suc (place_in xs n))) (eq-eqb x n same)) out)
      | inr ne ↦ (ne, down (place_in (x ∷ xs) n) (place_in xs n) (length xs) (place_later x xs n ne) out)
    ]
  where
    none : (p l : ℕ) → p ≡ 0 → p ≡ suc l → ⊥
    none p l a b = omega arith

    down : (p q l : ℕ) → p ≡ suc q → p ≡ suc l → q ≡ l
    down p q l a b = omega arith

out_more : (xs : List ℕ) (m n : ℕ) → IsOut xs n → m ≢ n → IsOut (xs ++ m ∷ []) n
out_more [] m n out ne = ap (λ c. cond c 0 1) (ne_eqb m n ne)
out_more (x ∷ xs) m n out ne =
    let (other, rest) = out_rest x xs n out in
    place_later x (xs ++ m ∷ []) n other ∙ ap suc (out_more xs m n rest ne)

put_split : (before after : List ℕ) (n m : ℕ) → IsOut before n → put_before (before ++ n ∷ after) n m ≡ (before ++ m ∷ []) ++ n ∷ after
put_split [] after n m out = ap (λ c. cond c (m ∷ n ∷ after) (n ∷ put_before after n m)) (eq-eqb n n refl)
put_split (x ∷ before) after n m out =
    let (other, rest) = out_rest x before n out in
    ap (λ c. cond c (m ∷ x ∷ (before ++ n ∷ after)) (x ∷ put_before (before ++ n ∷ after) n m)) (ne_eqb x n other) ∙ ap (λ (l : List ℕ). x ∷ l) (put_split before after n m rest)

all_split : (before after : List ℕ) (n : ℕ) (numbers : List ℕ) → IsOut before n → IsOut numbers n → all_before (before ++ n ∷ after) n numbers ≡ before ++ (numbers ++ n ∷ after)
all_split before after n [] out others = refl
all_split before after n (m ∷ numbers) out others =
    let (ne, rest) = out_rest m numbers n others in
    ap (λ (l : List ℕ). all_before l n numbers) (put_split before after n m out)
    ∙ (all_split (before ++ m ∷ []) after n numbers (out_more before m n out ne) rest ∙ assoc before (m ∷ []) (numbers ++ n ∷ after))

without_append : (n : ℕ) (xs ys : List ℕ) → IsOut xs n → without n (xs ++ ys) ≡ xs ++ without n ys
without_append n [] ys out = refl
without_append n (x ∷ xs) ys out =
    let (ne, rest) = out_rest x xs n out in
    ap (λ c. cond c (without n (xs ++ ys)) (x ∷ without n (xs ++ ys))) (ne_eqb x n ne) ∙ ap (λ (l : List ℕ). x ∷ l) (without_append n xs ys rest)

without_out : (n : ℕ) (xs : List ℕ) → IsOut xs n → without n xs ≡ xs
without_out n [] out = refl
without_out n (x ∷ xs) out =
    let (ne, rest) = out_rest x xs n out in
    ap (λ c. cond c (without n xs) (x ∷ without n xs)) (ne_eqb x n ne) ∙ ap (λ (l : List ℕ). x ∷ l) (without_out n xs rest)

without_it : (n : ℕ) (before numbers after : List ℕ) → IsOut before n → IsOut numbers n → IsOut after n → without n (before ++ (numbers ++ n ∷ after)) ≡ before ++ (numbers ++ after)
without_it n before numbers after out others last =
    without_append n before (numbers ++ n ∷ after) out
    ∙ ap (λ (l : List ℕ). before ++ l) (without_append n numbers (n ∷ after) others
    ∙ ap (λ (l : List ℕ). numbers ++ l) (ap (λ c. cond c (without n after) (n ∷ without n after)) (eq-eqb n n refl) ∙ without_out n after last))

-- ---- the next numbers

range_above : (a l m : ℕ) → Contains (range_with_len a l) m → a ≤ m
range_above a zero m has = absurd (not_in_empty m has)
range_above a (suc l) m has =
    elim (cases_in a (range_with_len (a + 1) l) m has) [
      | inl same ↦ omega arith
      | inr later ↦ let more : a + 1 ≤ m = range_above (a + 1) l m later in omega arith
    ]

range_out : (a l m : ℕ) → m < a → IsOut (range_with_len a l) m
range_out a l m lt =
    elim (in_or_out (range_with_len a l) m) [
      | inr out ↦ out
      | inl there ↦ absurd (let le : a ≤ m = range_above a l m (contained (range_with_len a l) m there) in omega arith)
    ]

-- the instructions with the next numbers are the inserted ones
insts_next : (to sigma : Substitution) (insts : List Inst) (a : ℕ) (put : List Inst)
    → ((j : ℕ) (i : Inst) → slice_get put j ≡ Some i → slice_get insts (a + j) ≡ Some (substituted_inst sigma i))
    → insts_of to insts (range_with_len a (length put)) ≡ map (changed_inst (λ x. substituted_operand to (substituted_operand sigma x))) put
insts_next to sigma insts a [] at = refl
insts_next to sigma insts a (i ∷ put) at =
    let here : slice_get insts a ≡ Some (substituted_inst sigma i) = let none : a + 0 ≡ a = omega arith in subst (λ (k : ℕ). slice_get insts k ≡ Some (substituted_inst sigma i)) none (at 0 i refl) in
    let rest = insts_next to sigma insts (a + 1) put (λ j x is. let next : a + suc j ≡ a + 1 + j = omega arith in subst (λ (k : ℕ). slice_get insts k ≡ Some (substituted_inst sigma x)) next (at (suc j) x is)) in
    insts_more to insts a (range_with_len (a + 1) (length put)) (substituted_inst sigma i) here
    ∙ (ap (λ (x : Inst). x ∷ insts_of to insts (range_with_len (a + 1) (length put))) (changed_twice to sigma i)
    ∙ ap (λ (l : List Inst). changed_inst (λ x. substituted_operand to (substituted_operand sigma x)) i ∷ l) rest)

-- the positions of the next numbers, which are in order
place_range : (a l j : ℕ) (after : List ℕ) → j < l → place_in (range_with_len a l ++ after) (a + j) ≡ j
place_range a zero j after lt = absurd (omega arith)
place_range a (suc l) zero after lt = let here : a ≡ a + 0 = omega arith in place_here a (range_with_len (a + 1) l ++ after) (a + 0) here
place_range a (suc l) (suc j) after lt =
    let ne : a ≢ a + suc j = λ e. apart a j e in
    let next : a + suc j ≡ a + 1 + j = omega arith in
    let less : j < l = omega arith in
    place_later a (range_with_len (a + 1) l ++ after) (a + suc j) ne
    ∙ ap suc (ap (place_in (range_with_len (a + 1) l ++ after)) next ∙ place_range (a + 1) l j after less)
  where
    apart : (a j : ℕ) → a ≡ a + suc j → ⊥
    apart a j e = omega arith

length_map : {A B : Type 0} (h : A → B) (xs : List A) → length (map h xs) ≡ length xs
length_map h [] = refl
length_map h (x ∷ xs) = ap suc (length_map h xs)

-- ---- the numbers of the root's block

module _ (f : Function) (rows : List (List ℕ)) (good : AreRows f rows) (b n count : ℕ) where
  abbrev news : List ℕ
  news = range_with_len (end_of f b) count

  abbrev pub rows_then : List (List ℕ)
  rows_then = changed_at b (without n) (changed_at b (λ (l : List ℕ). all_before l n news) rows)

  pub other_row : (d : ℕ) → d ≢ b → slice_get rows_then d ≡ slice_get rows d
  other_row d ne = changed_other b (without n) (changed_at b (λ (l : List ℕ). all_before l n news) rows) d ne ∙ changed_other b (λ (l : List ℕ). all_before l n news) rows d ne

  module _ (block : Block) (is_block : IsBlock f b block) (stands : Contains (slice_index_or rows b []) n) where
    abbrev row : List ℕ
    row = slice_index_or rows b []

    pub lower : (m : ℕ) → Contains row m → m < end_of f b
    lower m has =
        let (numbers, at) = good.row b block is_block in
        let lt : m < length block.insts = good.numbers b block numbers is_block at m (subst (λ (l : List ℕ). Contains l m) (row_is rows b numbers at) has) in
        let end : end_of f b ≡ length block.insts = end_of-is f b block is_block in
        omega (arith, lt, end)

    pub parts : IsSplit row n
    parts = split row n (is_in row n stands)

    pub at_row : slice_get rows b ≡ Some (parts.before ++ n ∷ parts.after)
    at_row =
        let (numbers, at) = good.row b block is_block in
        at ∙ ap (λ (l : List ℕ). Some l) (sym (row_is rows b numbers at) ∙ parts.is)

    once : (i j : ℕ) → slice_get (parts.before ++ n ∷ parts.after) i ≡ Some n → slice_get (parts.before ++ n ∷ parts.after) j ≡ Some n → i ≡ j
    once i j at_i at_j = good.once b i j n (ap (λ (l : List ℕ). slice_get l i) parts.is ∙ at_i) (ap (λ (l : List ℕ). slice_get l j) parts.is ∙ at_j)

    apart : (l q : ℕ) → l ≡ l + suc q → ⊥
    apart l q e = omega arith

    pub last : IsOut parts.after n
    last =
        elim (in_or_out parts.after n) [
          | inr out ↦ out
          | inl there ↦
              let first : slice_get (parts.before ++ n ∷ parts.after) (length parts.before) ≡ Some n = get_right parts.before (n ∷ parts.after) 0 (length parts.before) n refl (omega arith) in
              let again : slice_get (parts.before ++ n ∷ parts.after) (length parts.before + suc (place_in parts.after n)) ≡ Some n =
              get_right parts.before (n ∷ parts.after) (suc (place_in parts.after n)) (length parts.before + suc (place_in parts.after n)) n (at_place parts.after n there) refl in
              absurd (apart (length parts.before) (place_in parts.after n) (once (length parts.before) (length parts.before + suc (place_in parts.after n)) first again))
        ]

    pub root_place : place_in row n ≡ length parts.before
    root_place = ap (λ (l : List ℕ). place_in l n) parts.is ∙ place_split parts.before parts.after n parts.first

    pub new_row : slice_get rows_then b ≡ Some (parts.before ++ (news ++ parts.after))
    new_row =
        changed_here b (without n) (changed_at b (λ (l : List ℕ). all_before l n news) rows)
        ∙ (ap (option_map (without n)) (changed_here b (λ (l : List ℕ). all_before l n news) rows ∙ ap (option_map (λ (l : List ℕ). all_before l n news)) at_row)
        ∙ ap (λ (l : List ℕ). Some l) (ap (without n) (all_split parts.before parts.after n news parts.first (range_out (end_of f b) count n (lower n stands)))
        ∙ without_it n parts.before news parts.after parts.first (range_out (end_of f b) count n (lower n stands)) last))

    new_is : slice_index_or rows_then b [] ≡ parts.before ++ (news ++ parts.after)
    new_is = row_is rows_then b (parts.before ++ (news ++ parts.after)) new_row

    -- a number before the root keeps its position
    pub low_place : (q : ℕ) → place_in row q < place_in row n → place_in (slice_index_or rows_then b []) q ≡ place_in row q
    low_place q lt =
        let was : place_in row q ≡ place_in (parts.before ++ n ∷ parts.after) q = ap (λ (l : List ℕ). place_in l q) parts.is in
        elim (in_or_out parts.before q) [
          | inl there ↦ ap (λ (l : List ℕ). place_in l q) new_is ∙ (place_left parts.before (news ++ parts.after) q there ∙ (sym (place_left parts.before (n ∷ parts.after) q there) ∙ sym was))
          | inr out ↦ absurd (past (place_in row q) (place_in row n) (length parts.before) (place_in (n ∷ parts.after) q) (was ∙ place_right parts.before (n ∷ parts.after) q out) root_place lt)
        ]
      where
        past : (p r l x : ℕ) → p ≡ l + x → r ≡ l → p < r → ⊥
        past p r l x a c lt = omega arith

    -- the next numbers have the positions from the root's on
    pub new_place : (j : ℕ) → j < count → place_in (slice_index_or rows_then b []) (end_of f b + j) ≡ place_in row n + j
    new_place j lt =
        elim (in_or_out parts.before (end_of f b + j)) [
          | inl there ↦
              let has : Contains row (end_of f b + j) = subst (λ (l : List ℕ). Contains l (end_of f b + j)) (sym parts.is) (Contains-append_left parts.before (n ∷ parts.after) (end_of f b + j) (contained parts.before (end_of f b + j) there)) in
              absurd (high (end_of f b) j (lower (end_of f b + j) has))
          | inr out ↦
              ap (λ (l : List ℕ). place_in l (end_of f b + j)) new_is
              ∙ (place_right parts.before (news ++ parts.after) (end_of f b + j) out ∙ (ap (λ k. length parts.before + k) (place_range (end_of f b) count j parts.after lt) ∙ ap (λ k. k + j) (sym root_place)))
        ]
      where
        high : (e j : ℕ) → e + j < e → ⊥
        high e j lt = omega arith

-- ---- the rewrite

module _ (f : Function) (rows : List (List ℕ)) (good : AreRows f rows) (b n c k : ℕ) (put put' : List Inst) (result result' : Operand) where
  -- the rewrite by numbers of the arena, and the one by positions in the function
  abbrev w : Rewrite
  w = record { block = b; place = c; put = put; result = result }

  abbrev p : Rewrite
  p = record { block = b; place = k; put = put'; result = result' }

  abbrev sigma : Substitution
  sigma = instead (registers.Result b n) result

  abbrev f' : Function
  f' = put_for f w n

  abbrev rows' : List (List ℕ)
  rows' = rows_put_for f rows w n

  abbrev with_more : Block → Block
  with_more block = record { name = block.name; insts = block.insts ++ put; end = block.end }

  abbrev with_less : Block → Block
  with_less block = record { name = block.name; insts = changed_at n gone block.insts; end = block.end }

  other_block : (d : ℕ) → d ≢ b → slice_get f'.blocks d ≡ option_map (substituted_block sigma) (slice_get f.blocks d)
  other_block d ne =
      changed_other b with_less (map (substituted_block sigma) (changed_at b with_more f.blocks)) d ne
      ∙ (slice_get-map (substituted_block sigma) (changed_at b with_more f.blocks) d ∙ ap (option_map (substituted_block sigma)) (changed_other b with_more f.blocks d ne))

  root_block : slice_get f'.blocks b ≡ option_map with_less (option_map (substituted_block sigma) (option_map with_more (slice_get f.blocks b)))
  root_block =
      changed_here b with_less (map (substituted_block sigma) (changed_at b with_more f.blocks))
      ∙ ap (option_map with_less) (slice_get-map (substituted_block sigma) (changed_at b with_more f.blocks) b ∙ ap (option_map (substituted_block sigma)) (changed_here b with_more f.blocks))

  are_other : (d : ℕ) → d ≢ b → (o : Option Block) → ArePut p n sigma d o (option_map (substituted_block sigma) o)
  are_other d ne None = tt
  are_other d ne (Some x) = record { name = refl; end = refl; other = λ m i h at. slice_get-map (substituted_inst sigma) x.insts m ∙ ap (option_map (substituted_inst sigma)) at }

  are_here : (o : Option Block) → ArePut p n sigma b o (option_map with_less (option_map (substituted_block sigma) (option_map with_more o)))
  are_here None = tt
  are_here (Some x) = record {
    name = refl;
    end = refl;
    other = λ m i h at.
        changed_other n gone (map (substituted_inst sigma) (x.insts ++ put)) m (λ e. h (refl, e))
        ∙ (slice_get-map (substituted_inst sigma) (x.insts ++ put) m ∙ ap (option_map (substituted_inst sigma)) (get_left x.insts put m i at));
  }

  pub are_put : (d : ℕ) → ArePut p n sigma d (slice_get f.blocks d) (slice_get f'.blocks d)
  are_put d =
      elim (cases_eq d b) [
        | inr ne ↦ subst (ArePut p n sigma d (slice_get f.blocks d)) (sym (other_block d ne)) (are_other d ne (slice_get f.blocks d))
        | inl same ↦
            subst (λ (e : ℕ). ArePut p n sigma e (slice_get f.blocks e) (slice_get f'.blocks e)) (sym same)
            (subst (ArePut p n sigma b (slice_get f.blocks b)) (sym root_block) (are_here (slice_get f.blocks b)))
      ]

  module _ (block : Block) (is_block : IsBlock f b block) (root : Inst) (is_root : slice_get block.insts n ≡ Some root) (stands : Contains (slice_index_or rows b []) n)
      (place : k ≡ place_in (slice_index_or rows b []) n)
      (put_same : map (changed_inst (λ x. substituted_operand (placed rows') (substituted_operand sigma x))) put ≡ put')
      (result_same : substituted_operand (placed rows') result ≡ result') where
    abbrev count : ℕ
    count = length put

    abbrev split_row : IsSplit (slice_index_or rows b []) n
    split_row = parts f rows good b n count block is_block stands

    below : n < end_of f b
    below = lower f rows good b n count block is_block stands n stands

    new_insts : (y : Block) → IsBlock f' b y → insts_of (placed rows') y.insts (put_numbers f w) ≡ put'
    new_insts y is_new =
        let here : with_less (substituted_block sigma (with_more block)) ≡ y =
        same_Some (with_less (substituted_block sigma (with_more block))) y (sym (ap (λ (o : Option Block). option_map with_less (option_map (substituted_block sigma) (option_map with_more o))) is_block) ∙ (sym root_block ∙ is_new)) in
        subst (λ (x : Block). insts_of (placed rows') x.insts (put_numbers f w) ≡ put') here
        (insts_next (placed rows') sigma (changed_at n gone (map (substituted_inst sigma) (block.insts ++ put))) (end_of f b) put (λ j i at.
        let end : end_of f b ≡ length block.insts = end_of-is f b block is_block in
        let ne : end_of f b + j ≢ n = λ e. behind (end_of f b) j n e below in
        changed_other n gone (map (substituted_inst sigma) (block.insts ++ put)) (end_of f b + j) ne
        ∙ (slice_get-map (substituted_inst sigma) (block.insts ++ put) (end_of f b + j)
        ∙ ap (option_map (substituted_inst sigma)) (get_right block.insts put j (end_of f b + j) i at (ap (λ x. x + j) end)))) ∙ put_same)
      where
        behind : (e j n : ℕ) → e + j ≡ n → n < e → ⊥
        behind e j n same lt = omega arith

    is_put : IsPut p n sigma f rows f' rows'
    is_put = record {
      name = refl;
      before_name = refl;
      width = refl;
      parameters = refl;
      after_name = refl;
      blocks = are_put;
      block = block;
      is_block = is_block;
      root = root;
      is_root = is_root;
      before = split_row.before;
      after = split_row.after;
      news = put_numbers f w;
      row = at_row f rows good b n count block is_block stands;
      first = split_row.first;
      last = last f rows good b n count block is_block stands;
      place = place ∙ root_place f rows good b n count block is_block stands;
      row' = new_row f rows good b n count block is_block stands;
      others = other_row f rows good b n count;
      new = λ m lt ne. range_out (end_of f b) (length put) m (let end : end_of f b ≡ length block.insts = end_of-is f b block is_block in omega (arith, lt, end));
      count = length-range_with_len (end_of f b) (length put) ∙ (sym (length_map (changed_inst (λ x. substituted_operand (placed rows') (substituted_operand sigma x))) put) ∙ ap (λ (l : List Inst). length l) put_same);
      put = new_insts;
      other = λ d m h. instead_other (registers.Result b n) result (registers.Result d m) (λ e. let block_is : d ≡ b = cc in let number_is : m ≡ n = cc in h (block_is, number_is));
      parameter = λ q. instead_other (registers.Result b n) result (registers.Parameter q) (λ e. absurd cc);
      result = ap (substituted_operand (placed rows')) (instead_it (registers.Result b n) result (registers.Result b n) refl) ∙ result_same;
    }

    pub put_for_is : function_at f' rows' ≡ rewritten_function p (function_at f rows)
    put_for_is = put_is p n sigma f rows f' rows' good is_put
