-- Where other instructions take the place of a root, the function of the arena and its rows is the rewritten one.
use Rattle.draft_steps.proofs.Common.{◌≡◌, ◌≢◌, ℕ, suc, ◌+◌, ◌-◌, ◌<◌, ◌≤◌, ◌⊎◌, inl, inr, List, [], ◌∷◌, ◌++◌, length, Option, None, Some, refl, sym, ap, subst, ◌∙◌, arith, Contains, slice_get, slice_index_or, option_map, unwrap_or, cases_eq, Contains-append_left, Contains-append_right, same_Some, unwrap_or-slice_get, IsBlock, end_of, Block, Function, Inst, Operand, first_in, later_in, operands_at_end, Rewrite, moved_place, rewritten_block, rewritten_blocks, rewritten_function, rewritten_insts, stands_for, Substitution, substituted_end, substituted_inst, substituted_operand, IsMoved, IsTheRoot, get_block, insts_other, insts_root, is_moved, stands_other, stands_root, block_of, blocks_of, insts_of, placed, both, both_none, get_blocks, insts_append, insts_more}
use Rattle.ir_core.specs.declared.operand.Operand.TheVariants as operands
use Rattle.ir_core.specs.declared.operand.Register.TheVariants as registers
use Rattle.ir_meaning.proofs.Pieces.{some_at}
use Rattle.needed.specs.Operands.{operands_of}
use Rattle.places.specs.Orders.{place_in}
use Rattle.draft_steps.proofs.OneChange.{same_items}
use Rattle.draft_steps.proofs.Equal.{block_same, function_same}
use Rattle.draft_steps.proofs.Leaving.{function_at}
use Rattle.draft_steps.proofs.Mapping.{insts_follow, ends_follow}
use Rattle.draft_steps.proofs.Needing.{AreRows, row_is}
use Rattle.draft_steps.proofs.WhoReads.{end_reads_it, inst_reads_it}
use Rattle.draft_steps.proofs.RowPlaces.{IsIn, IsOut, in_or_out, is_in, one_place, place_later, place_left, place_right, place_split}

-- ---- the position of a number after the rewrite

module _ (w : Rewrite) (before after news : List ℕ) (root : ℕ) (place : w.place ≡ length before) (count : length news ≡ length w.put) (first : IsOut before root) where
  left_of : (p : ℕ) → p < length before → p ≤ w.place
  left_of p lt = omega arith

  right_of : (p q : ℕ) → p ≡ length before + suc q → w.place < p
  right_of p q e = omega arith

  behind : (p q n m : ℕ) → p ≡ length before + suc q → n ≡ length before + (length news + q) → m ≡ p - 1 + length w.put → n ≡ m
  behind p q n m a b c = omega arith

  -- a number that is not the root's, nor an inserted instruction's
  moved_row : (k : ℕ) → k ≢ root → IsOut news k → place_in (before ++ (news ++ after)) k ≡ moved_place w w.block (place_in (before ++ root ∷ after) k)
  moved_row k ne out =
      by (moved_place w w.block (place_in (before ++ root ∷ after) k)) (is_moved w w.block (place_in (before ++ root ∷ after) k))
    where
      by : (m : ℕ) → IsMoved w w.block (place_in (before ++ root ∷ after) k) m → place_in (before ++ (news ++ after)) k ≡ m
      by m moved =
          elim (in_or_out before k) [
            | inl there ↦
                let was : place_in (before ++ root ∷ after) k ≡ place_in before k = place_left before (root ∷ after) k there in
                let is : place_in (before ++ (news ++ after)) k ≡ place_in before k = place_left before (news ++ after) k there in
                let low : place_in (before ++ root ∷ after) k ≤ w.place = subst (λ (p : ℕ). p ≤ w.place) (sym was) (left_of (place_in before k) there) in
                is ∙ (sym was ∙ sym (moved.unmoved refl low))
            | inr none ↦
                let was : place_in (before ++ root ∷ after) k ≡ length before + suc (place_in after k) = place_right before (root ∷ after) k none ∙ ap (λ p. length before + p) (place_later root after k (λ e. ne (sym e))) in
                let is : place_in (before ++ (news ++ after)) k ≡ length before + (length news + place_in after k) = place_right before (news ++ after) k none ∙ ap (λ p. length before + p) (place_right news after k out) in
                let high : w.place < place_in (before ++ root ∷ after) k = right_of (place_in (before ++ root ∷ after) k) (place_in after k) was in
                behind (place_in (before ++ root ∷ after) k) (place_in after k) (place_in (before ++ (news ++ after)) k) m was is (moved.behind refl high)
          ]

-- ---- instructions of a rewritten block

-- each instruction of a row is in both blocks, and has the same operands after the renaming
abbrev Follow : Substitution → Substitution → Substitution → List Inst → List Inst → List ℕ → Type 0
Follow to stands to' insts insts' row = (m : ℕ) → Contains row m
    → (i : Inst) × (i' : Inst) × (slice_get insts m ≡ Some i) × (slice_get insts' m ≡ Some i') × (substituted_inst to' i' ≡ substituted_inst stands (substituted_inst to i))

module _ (w : Rewrite) (to to' : Substitution) (insts insts' : List Inst) (b : ℕ) where
  follow_rest : (m : ℕ) (row : List ℕ) → Follow to (stands_for w) to' insts insts' (m ∷ row) → Follow to (stands_for w) to' insts insts' row
  follow_rest m row all = λ n has. all n (later_in m row n has)

  same_insts : (j : ℕ) (row : List ℕ) → ((i : ℕ) → i < length row → ¬ IsTheRoot w b (j + i)) → Follow to (stands_for w) to' insts insts' row
      → insts_of to' insts' row ≡ rewritten_insts w b j (insts_of to insts row)
  same_insts j [] other all = refl
  same_insts j (m ∷ row) other all =
      let (i, i', at, at', same) = all m (first_in m row) in
      let rest : insts_of to' insts' row ≡ rewritten_insts w b (suc j) (insts_of to insts row) = same_insts (suc j) row (λ k lt. subst (λ (p : ℕ). ¬ IsTheRoot w b p) (next j k) (other (suc k) (omega arith))) (follow_rest m row all) in
      let not_root : ¬ IsTheRoot w b j = subst (λ (p : ℕ). ¬ IsTheRoot w b p) (here j) (other 0 (omega arith)) in
      insts_more to' insts' m row i' at'
      ∙ (ap (λ (x : Inst). x ∷ insts_of to' insts' row) same ∙ (ap (λ (l : List Inst). substituted_inst (stands_for w) (substituted_inst to i) ∷ l) rest
      ∙ (sym (insts_other w b j (substituted_inst to i) (insts_of to insts row) not_root) ∙ sym (ap (rewritten_insts w b j) (insts_more to insts m row i at)))))
    where
      next : (j k : ℕ) → j + suc k ≡ suc j + k
      next j k = omega arith

      here : (j : ℕ) → j + 0 ≡ j
      here j = omega arith

  module _ (same_block : b ≡ w.block) (root : ℕ) (inst : Inst) (is_root : slice_get insts root ≡ Some inst) (news after : List ℕ) (put : insts_of to' insts' news ≡ w.put) where
    root_insts : (j : ℕ) (before : List ℕ) → j + length before ≡ w.place → Follow to (stands_for w) to' insts insts' before → Follow to (stands_for w) to' insts insts' after
        → insts_of to' insts' (before ++ (news ++ after)) ≡ rewritten_insts w b j (insts_of to insts (before ++ root ∷ after))
    root_insts j [] place all behind =
        let at_root : IsTheRoot w b j = (same_block, omega (arith, place)) in
        let rest : insts_of to' insts' after ≡ rewritten_insts w b (suc j) (insts_of to insts after) = same_insts (suc j) after (λ k lt r. past j k w.place place r.1) behind in
        insts_append to' insts' news after
        ∙ (ap (λ (l : List Inst). l ++ insts_of to' insts' after) put ∙ (ap (λ (l : List Inst). w.put ++ l) rest
        ∙ (sym (insts_root w b j (substituted_inst to inst) (insts_of to insts after) at_root) ∙ sym (ap (rewritten_insts w b j) (insts_more to insts root after inst is_root)))))
      where
        past : (j k p : ℕ) → j + 0 ≡ p → suc j + k ≡ p → ⊥
        past j k p e r = omega arith
    root_insts j (m ∷ before) place all behind =
        let (i, i', at, at', same) = all m (first_in m before) in
        let not_root : ¬ IsTheRoot w b j = λ r. early j (length before) w.place place r.1 in
        let rest : insts_of to' insts' (before ++ (news ++ after)) ≡ rewritten_insts w b (suc j) (insts_of to insts (before ++ root ∷ after)) = root_insts (suc j) before (omega (arith, place)) (follow_rest m before all) behind in
        insts_more to' insts' m (before ++ (news ++ after)) i' at'
        ∙ (ap (λ (x : Inst). x ∷ insts_of to' insts' (before ++ (news ++ after))) same ∙ (ap (λ (l : List Inst). substituted_inst (stands_for w) (substituted_inst to i) ∷ l) rest
        ∙ (sym (insts_other w b j (substituted_inst to i) (insts_of to insts (before ++ root ∷ after)) not_root) ∙ sym (ap (rewritten_insts w b j) (insts_more to insts m (before ++ root ∷ after) i at)))))
      where
        early : (j l p : ℕ) → j + suc l ≡ p → j ≡ p → ⊥
        early j l p e same = omega arith

-- ---- the function

-- A block after the rewrite of the root, number n of its block: each other instruction is there, after the substitution
-- of its operands.
pub record IsPutBlock (w : Rewrite) (n : ℕ) (sigma : Substitution) (b : ℕ) (old new : Block) : Type 0 where
  pub name : new.name ≡ old.name
  pub end : new.end ≡ substituted_end sigma old.end
  pub other : (m : ℕ) (i : Inst) → ((b ≡ w.block) × (m ≡ n) → ⊥) → slice_get old.insts m ≡ Some i → slice_get new.insts m ≡ Some (substituted_inst sigma i)

abbrev pub ArePut : Rewrite → ℕ → Substitution → ℕ → Option Block → Option Block → Type 0
ArePut w n sigma b None None = Unit {0}
ArePut w n sigma b None (Some new) = ⊥
ArePut w n sigma b (Some old) None = ⊥
ArePut w n sigma b (Some old) (Some new) = IsPutBlock w n sigma b old new

-- The arena and its rows, with other instructions in the place of the root, which has number n.
pub record IsPut (w : Rewrite) (n : ℕ) (sigma : Substitution) (f : Function) (rows : List (List ℕ)) (f' : Function) (rows' : List (List ℕ)) : Type 0 where
  pub name : f'.name ≡ f.name
  pub before_name : f'.before ≡ f.before
  pub width : f'.width ≡ f.width
  pub parameters : f'.parameters ≡ f.parameters
  pub after_name : f'.after ≡ f.after
  pub blocks : (b : ℕ) → ArePut w n sigma b (slice_get f.blocks b) (slice_get f'.blocks b)
  -- the root
  pub block : Block
  pub is_block : IsBlock f w.block block
  pub root : Inst
  pub is_root : slice_get block.insts n ≡ Some root
  -- the numbers before the root, and those behind it
  pub before : List ℕ
  pub after : List ℕ
  pub news : List ℕ
  pub row : slice_get rows w.block ≡ Some (before ++ n ∷ after)
  pub first : IsOut before n
  pub last : IsOut after n
  pub place : w.place ≡ length before
  pub row' : slice_get rows' w.block ≡ Some (before ++ (news ++ after))
  pub others : (c : ℕ) → c ≢ w.block → slice_get rows' c ≡ slice_get rows c
  -- the instructions that take the root's place have new numbers, or the root's
  pub new : (m : ℕ) → m < length block.insts → m ≢ n → IsOut news m
  pub count : length news ≡ length w.put
  pub put : (block : Block) → IsBlock f' w.block block → insts_of (placed rows') block.insts news ≡ w.put
  -- the substitution leaves each register but the root's
  pub other : (c m : ℕ) → ((c ≡ w.block) × (m ≡ n) → ⊥) → sigma (registers.Result c m) ≡ operands.Register (registers.Result c m)
  pub parameter : (p : ℕ) → sigma (registers.Parameter p) ≡ operands.Register (registers.Parameter p)
  pub result : substituted_operand (placed rows') (sigma (registers.Result w.block n)) ≡ w.result

module _ (w : Rewrite) (n : ℕ) (sigma : Substitution) (f : Function) (rows : List (List ℕ)) (f' : Function) (rows' : List (List ℕ)) (good : AreRows f rows) (is : IsPut w n sigma f rows f' rows') where
  abbrev to : Substitution
  to = placed rows

  abbrev to' : Substitution
  to' = placed rows'

  abbrev root_row : List ℕ
  root_row = slice_index_or rows w.block []

  at_row : root_row ≡ is.before ++ n ∷ is.after
  at_row = row_is rows w.block (is.before ++ n ∷ is.after) is.row

  place_root : place_in root_row n ≡ w.place
  place_root = ap (λ (l : List ℕ). place_in l n) at_row ∙ (place_split is.before is.after n is.first ∙ sym is.place)

  root_in : IsIn root_row n
  root_in = by (place_in root_row n) (length root_row) (place_root ∙ is.place) (ap (λ (l : List ℕ). length l) at_row ∙ count is.before)
    where
      count : (l : List ℕ) → length (l ++ n ∷ is.after) ≡ length l + suc (length is.after)
      count [] = omega arith
      count (x ∷ l) = let rest : length (l ++ n ∷ is.after) ≡ length l + suc (length is.after) = count l in omega (arith, rest)

      by : (p l : ℕ) → p ≡ length is.before → l ≡ length is.before + suc (length is.after) → p < l
      by p l a b = omega arith

  root_or : (c m : ℕ) → ((c ≡ w.block) × (m ≡ n)) ⊎ ((c ≡ w.block) × (m ≡ n) → ⊥)
  root_or c m =
      elim (cases_eq c w.block) [
        | inr ne ↦ inr (λ h. ne h.0)
        | inl same ↦ elim (cases_eq m n) [ inl it ↦ inl (same, it) | inr ne ↦ inr (λ h. ne h.1) ]
      ]

  not_at_root : (c m : ℕ) → ((c ≡ w.block) × (m ≡ n) → ⊥) → ¬ IsTheRoot w c (place_in (slice_index_or rows c []) m)
  not_at_root c m other h =
      let here : place_in root_row m ≡ w.place = subst (λ (d : ℕ). place_in (slice_index_or rows d []) m ≡ w.place) h.0 h.1 in
      other (h.0, sym (one_place root_row n m root_in (place_root ∙ sym here)))

  -- the position of a number after the rewrite, other than the root's
  moved_number : (c m : ℕ) → ((c ≡ w.block) × (m ≡ n) → ⊥) → Contains (slice_index_or rows c []) m → place_in (slice_index_or rows' c []) m ≡ moved_place w c (place_in (slice_index_or rows c []) m)
  moved_number c m other has =
      elim (cases_eq c w.block) [
        | inr ne ↦
            let row : slice_index_or rows' c [] ≡ slice_index_or rows c [] = sym (unwrap_or-slice_get rows' c []) ∙ (ap (λ (o : Option (List ℕ)). unwrap_or o []) (is.others c ne) ∙ unwrap_or-slice_get rows c []) in
            ap (λ (l : List ℕ). place_in l m) row ∙ sym ((is_moved w c (place_in (slice_index_or rows c []) m)).elsewhere ne)
        | inl same ↦
            let at_root : place_in (slice_index_or rows' w.block []) m ≡ moved_place w w.block (place_in root_row m) = in_root_block (λ e. other (same, e)) (subst (λ (d : ℕ). Contains (slice_index_or rows d []) m) same has) in
            subst (λ (d : ℕ). place_in (slice_index_or rows' d []) m ≡ moved_place w d (place_in (slice_index_or rows d []) m)) (sym same) at_root
      ]
    where
      in_root_block : m ≢ n → Contains root_row m → place_in (slice_index_or rows' w.block []) m ≡ moved_place w w.block (place_in root_row m)
      in_root_block ne has =
          let lt : m < length is.block.insts = good.numbers w.block is.block (is.before ++ n ∷ is.after) is.is_block is.row m (subst (λ (l : List ℕ). Contains l m) at_row has) in
          ap (λ (l : List ℕ). place_in l m) (row_is rows' w.block (is.before ++ (is.news ++ is.after)) is.row')
          ∙ (moved_row w is.before is.after is.news n is.place is.count is.first m ne (is.new m lt ne) ∙ ap (λ (l : List ℕ). moved_place w w.block (place_in l m)) (sym at_row))

  -- renaming to positions and the substitution can be exchanged on what the instructions read
  agree : (a : Operand) → ((c m : ℕ) → a ≡ operands.Register (registers.Result c m) → Contains (slice_index_or rows c []) m)
      → substituted_operand to' (substituted_operand sigma a) ≡ substituted_operand (stands_for w) (substituted_operand to a)
  agree (operands.Register (registers.Result c m)) stands =
      elim (root_or c m) [
        | inl root ↦
            let at_root : IsTheRoot w c (place_in (slice_index_or rows c []) m) = (root.0, subst (λ (d : ℕ). place_in (slice_index_or rows d []) m ≡ w.place) (sym root.0) (ap (place_in root_row) root.1 ∙ place_root)) in
            let there : substituted_operand to' (sigma (registers.Result c m)) ≡ w.result =
            ap (λ d. substituted_operand to' (sigma (registers.Result d m))) root.0 ∙ (ap (λ k. substituted_operand to' (sigma (registers.Result w.block k))) root.1 ∙ is.result) in
            there ∙ sym (stands_root w c (place_in (slice_index_or rows c []) m) at_root)
        | inr other ↦
            ap (substituted_operand to') (is.other c m other)
            ∙ (ap (λ k. operands.Register (registers.Result c k)) (moved_number c m other (stands c m refl)) ∙ sym (stands_other w c (place_in (slice_index_or rows c []) m) (not_at_root c m other)))
      ]
  agree (operands.Register (registers.Parameter p)) stands = ap (substituted_operand to') (is.parameter p)
  agree (operands.Number x) stands = refl
  agree operands.Undef stands = refl
  agree operands.Poison stands = refl

  follow_in : (b : ℕ) (old new : Block) (row part : List ℕ) → IsBlock f b old → slice_get rows b ≡ Some row → IsPutBlock w n sigma b old new
      → ((m : ℕ) → Contains part m → Contains row m × ((b ≡ w.block) × (m ≡ n) → ⊥)) → Follow to (stands_for w) to' old.insts new.insts part
  follow_in b old new row part is_block at h of_row m has =
      let (in_row, other) = of_row m has in
      let (i, is_inst) = some_at old.insts m (good.numbers b old row is_block at m in_row) in (
        i,
        substituted_inst sigma i,
        is_inst,
        h.other m i other is_inst,
        insts_follow to' sigma (stands_for w) to i (λ a reads. agree a (λ c k same.
            good.read b m c k (inst_reads_it f b m old i (registers.Result c k) is_block is_inst (subst (Contains (operands_of i.op)) same reads)))),
      )

  ends_agree : (b : ℕ) (old new : Block) → IsBlock f b old → IsPutBlock w n sigma b old new → substituted_end to' new.end ≡ substituted_end (stands_for w) (substituted_end to old.end)
  ends_agree b old new is_block h =
      ap (substituted_end to') h.end ∙ ends_follow to' sigma (stands_for w) to old.end (λ a reads. agree a (λ c k same.
      good.read b (end_of f b) c k (end_reads_it f b old (registers.Result c k) is_block (subst (Contains (operands_at_end old.end)) same reads))))

  other_block : (b : ℕ) (row : List ℕ) (old new : Block) → b ≢ w.block → slice_get rows b ≡ Some row → IsBlock f b old → IsPutBlock w n sigma b old new
      → block_of to' row new ≡ rewritten_block w b (block_of to row old)
  other_block b row old new ne at is_block h =
      block_same _ _ _ _ _ _ h.name
      (same_insts w to to' old.insts new.insts b 0 row (λ i lt r. ne r.0) (follow_in b old new row row is_block at h (λ m has. (has, λ r. ne r.0))))
      (ends_agree b old new is_block h)

  root_block : (old new : Block) → IsBlock f w.block old → IsBlock f' w.block new → IsPutBlock w n sigma w.block old new
      → block_of to' (is.before ++ (is.news ++ is.after)) new ≡ rewritten_block w w.block (block_of to (is.before ++ n ∷ is.after) old)
  root_block old new is_block is_new h =
      let same : is.block ≡ old = same_Some is.block old (sym is.is_block ∙ is_block) in
      let root : slice_get old.insts n ≡ Some is.root = subst (λ (x : Block). slice_get x.insts n ≡ Some is.root) same is.is_root in
      let begins : 0 + length is.before ≡ w.place = omega (arith, is.place) in
      block_same _ _ _ _ _ _ h.name
      (root_insts w to to' old.insts new.insts w.block refl n is.root root is.news is.after (is.put new is_new) 0 is.before begins
      (follow_in w.block old new (is.before ++ n ∷ is.after) is.before is_block is.row h (λ m has. (Contains-append_left is.before (n ∷ is.after) m has, λ r. is_not is.before m is.first has r.1)))
      (follow_in w.block old new (is.before ++ n ∷ is.after) is.after is_block is.row h (λ m has. (Contains-append_right is.before (n ∷ is.after) m (later_in n is.after m has), λ r. is_not is.after m is.last has r.1))))
      (ends_agree w.block old new is_block h)
    where
      is_not : (l : List ℕ) (m : ℕ) → IsOut l n → Contains l m → m ≡ n → ⊥
      is_not l m out has e = by (place_in l n) (length l) out (is_in l n (subst (Contains l) e has))
        where
          by : (p q : ℕ) → p ≡ q → p < q → ⊥
          by p q same lt = omega arith

  one_block : (b : ℕ) (o o' : Option (List ℕ)) (p p' : Option Block) → slice_get rows b ≡ o → slice_get rows' b ≡ o' → slice_get f.blocks b ≡ p → slice_get f'.blocks b ≡ p' → ArePut w n sigma b p p'
      → both (block_of to') o' p' ≡ option_map (rewritten_block w b) (both (block_of to) o p)
  one_block b o o' None None at at' old new h = both_none (block_of to') o' ∙ ap (option_map (rewritten_block w b)) (sym (both_none (block_of to) o))
  one_block b o o' None (Some y) at at' old new h = absurd h
  one_block b o o' (Some x) None at at' old new h = absurd h
  one_block b o o' (Some x) (Some y) at at' old new h =
      elim (cases_eq b w.block) [
        | inr ne ↦
            let (row, there) = good.row b x old in
            let was : o ≡ Some row = sym at ∙ there in
            let is_now : o' ≡ Some row = sym at' ∙ (is.others b ne ∙ there) in
            ap (λ (q : Option (List ℕ)). both (block_of to') q (Some y)) is_now
            ∙ (ap (λ z. Some z) (other_block b row x y ne there old h) ∙ ap (λ (q : Option (List ℕ)). option_map (rewritten_block w b) (both (block_of to) q (Some x))) (sym was))
        | inl same ↦
            let was : o ≡ Some (is.before ++ n ∷ is.after) = sym at ∙ (ap (slice_get rows) same ∙ is.row) in
            let is_now : o' ≡ Some (is.before ++ (is.news ++ is.after)) = sym at' ∙ (ap (slice_get rows') same ∙ is.row') in
            let here : block_of to' (is.before ++ (is.news ++ is.after)) y ≡ rewritten_block w w.block (block_of to (is.before ++ n ∷ is.after) x) =
            root_block x y (subst (λ (d : ℕ). IsBlock f d x) same old) (subst (λ (d : ℕ). IsBlock f' d y) same new) (subst (λ (d : ℕ). IsPutBlock w n sigma d x y) same h) in
            ap (λ (q : Option (List ℕ)). both (block_of to') q (Some y)) is_now
            ∙ (ap (λ z. Some z) (here ∙ ap (λ d. rewritten_block w d (block_of to (is.before ++ n ∷ is.after) x)) (sym same)) ∙ ap (λ (q : Option (List ℕ)). option_map (rewritten_block w b) (both (block_of to) q (Some x))) (sym was))
      ]

  pub put_is : function_at f' rows' ≡ rewritten_function w (function_at f rows)
  put_is =
      let blocks : blocks_of to' rows' f'.blocks ≡ rewritten_blocks w 0 (blocks_of to rows f.blocks) =
      same_items (blocks_of to' rows' f'.blocks) (rewritten_blocks w 0 (blocks_of to rows f.blocks)) (λ b.
      get_blocks to' rows' f'.blocks b
      ∙ (one_block b (slice_get rows b) (slice_get rows' b) (slice_get f.blocks b) (slice_get f'.blocks b) refl refl refl refl (is.blocks b)
      ∙ (ap (option_map (rewritten_block w b)) (sym (get_blocks to rows f.blocks b)) ∙ sym (get_block w (function_at f rows) b)))) in
      function_same (function_at f' rows') (rewritten_function w (function_at f rows)) is.name is.before_name is.width is.parameters is.after_name blocks
