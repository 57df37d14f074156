-- A draft after a rewrite, as dead code elimination begins: each result that is read is of an instruction that stands,
-- and each that stands is live, or would be if the registers on the worklist were.
use Rattle.draft_steps.proofs.Common.{◌≡◌, ◌≢◌, ℕ, ◌<◌, ◌⊎◌, inl, inr, true, List, [], ◌∷◌, ◌++◌, length, map, Option, None, Some, refl, sym, ap, subst, ◌∙◌, arith, Contains, slice_get, slice_index_or, option_map, unwrap_or, filter, range_with_len, cases_eq, Contains-append_cases, Contains-append_left, Contains-append_right, slice_get-map, unwrap_or-slice_get, HasInst, IsBlock, end_of, Block, Function, Inst, Operand, Register, cases_in, later_in, IsNeeded, ReadsRegister, operands_at_end, Substitution, substituted_inst, substituted_operand, get_cases, in_map, changed_at, instead, replaced, with_inst_removed, AreLeft, IsEliminating, IsNeededWith, with_put, is_same_register}
use Rattle.ir_core.specs.declared.operand.Operand.TheVariants as operands
use Rattle.ir_core.specs.declared.operand.Register.TheVariants as registers
use Rattle.needed.specs.Operands.{operands_of}
use Rattle.substitution.proofs.Pieces.{mapped}
use Rattle.places.specs.Orders.{place_in}
use Rattle.draft_steps.proofs.Instead.{block_back, instead_it, instead_other, needed_with_root}
use Rattle.draft_steps.proofs.Living.{IsSilenced, needed_less}
use Rattle.draft_steps.proofs.Mapping.{end_substituted, operands_substituted}
use Rattle.draft_steps.proofs.Needing.{AreRows, row_is}
use Rattle.draft_steps.proofs.OneChange.{changed_here, changed_other}
use Rattle.draft_steps.proofs.PutFor.{last, new_row, other_row, parts, rows_then}
use Rattle.draft_steps.proofs.RowPlaces.{is_in}
use Rattle.draft_steps.proofs.Silencing.{taken_out_is_silenced}
use Rattle.draft_steps.proofs.WhoReads.{end_reads_it, inst_reads_it, who}

-- ---- all is kept at first

filter_all : (row : List ℕ) → filter (λ n. true) row ≡ row
filter_all [] = refl
filter_all (n ∷ row) = ap (λ (l : List ℕ). n ∷ l) (filter_all row)

-- dead code elimination may begin with a worklist with which each instruction that stands would be live
pub cleaning_begins : (f : Function) (rows : List (List ℕ)) (waits : List Register) → ((b n : ℕ) → Contains (slice_index_or rows b []) n → IsNeededWith f waits (registers.Result b n)) → IsEliminating f rows f rows waits
cleaning_begins f rows waits all = record {
  keep = λ b n. true;
  is_left = record {
    name = refl;
    before = refl;
    width = refl;
    parameters = refl;
    after = refl;
    blocks = λ b. same (slice_get f.blocks b);
    row = λ b. same_row (slice_get rows b);
  };
  keeps = λ b n need. refl;
  needed = λ r need. need;
  was_needed = λ r need. need;
  waits = all;
}
  where
    same : (o : Option Block) → AreLeft (λ n. true) o o
    same None = tt
    same (Some x) = record { name = refl; end = refl; kept = λ n i keep at. at }

    same_row : (o : Option (List ℕ)) → o ≡ option_map (filter (λ n. true)) o
    same_row None = refl
    same_row (Some row) = ap (λ (l : List ℕ). Some l) (sym (filter_all row))

-- ---- where instruction n was rewritten

module _ (f : Function) (rows : List (List ℕ)) (good : AreRows f rows) (b n : ℕ) (put : List Inst) (result : Operand) (block : Block) (is_block : IsBlock f b block) (stands : Contains (slice_index_or rows b []) n) where
  abbrev root : Register
  root = registers.Result b n

  abbrev sigma : Substitution
  sigma = instead root result

  abbrev g : Function
  g = replaced (with_put f b put) root result

  abbrev left : List (List ℕ)
  left = rows_then f rows good b n (length put)

  abbrev news : List ℕ
  news = range_with_len (end_of f b) (length put)

  abbrev Parts : Type 0
  Parts = slice_index_or left b [] ≡ (parts f rows good b n (length put) block is_block stands).before ++ (news ++ (parts f rows good b n (length put) block is_block stands).after)

  left_is : Parts
  left_is = row_is left b _ (new_row f rows good b n (length put) block is_block stands)

  left_other : (c : ℕ) → c ≢ b → slice_index_or left c [] ≡ slice_index_or rows c []
  left_other c ne = sym (unwrap_or-slice_get left c []) ∙ (ap (λ (o : Option (List ℕ)). unwrap_or o []) (other_row f rows good b n (length put) c ne) ∙ unwrap_or-slice_get rows c [])

  -- all that stood before stands, but the root; and so do the inserted instructions
  pub stays : (c q : ℕ) → Contains (slice_index_or rows c []) q → ¬ (registers.Result c q ≡ root) → Contains (slice_index_or left c []) q
  stays c q has other =
      elim (cases_eq c b) [
        | inr ne ↦ subst (λ (l : List ℕ). Contains l q) (sym (left_other c ne)) has
        | inl same ↦
            subst (λ (d : ℕ). Contains (slice_index_or left d []) q) (sym same)
            (in_root_row (λ e. other (ap (λ d. registers.Result d q) same ∙ ap (registers.Result b) e)) (subst (λ (d : ℕ). Contains (slice_index_or rows d []) q) same has))
      ]
    where
      in_root_row : q ≢ n → Contains (slice_index_or rows b []) q → Contains (slice_index_or left b []) q
      in_root_row ne has =
          let split = parts f rows good b n (length put) block is_block stands in
          subst (λ (l : List ℕ). Contains l q) (sym left_is) (elim (Contains-append_cases split.before (n ∷ split.after) q (subst (λ (l : List ℕ). Contains l q) split.is has)) [
            | inl early ↦ Contains-append_left split.before (news ++ split.after) q early
            | inr late ↦ elim (cases_in n split.after q late) [
              | inl same ↦ absurd (ne (sym same))
              | inr later ↦ Contains-append_right split.before (news ++ split.after) q (Contains-append_right news split.after q later)
            ]
          ])

  pub comes : (q : ℕ) → Contains news q → Contains (slice_index_or left b []) q
  comes q has =
      let split = parts f rows good b n (length put) block is_block stands in
      subst (λ (l : List ℕ). Contains l q) (sym left_is) (Contains-append_right split.before (news ++ split.after) q (Contains-append_left news split.after q has))

  -- nothing else does
  pub stood_or_came : (c q : ℕ) → Contains (slice_index_or left c []) q → (Contains (slice_index_or rows c []) q × ¬ (registers.Result c q ≡ root)) ⊎ ((c ≡ b) × Contains news q)
  stood_or_came c q has =
      elim (cases_eq c b) [
        | inr ne ↦ inl (subst (λ (l : List ℕ). Contains l q) (left_other c ne) has, λ e. ne (let block_is : c ≡ b = cc in block_is))
        | inl same ↦
            let split = parts f rows good b n (length put) block is_block stands in
            let here : Contains (split.before ++ (news ++ split.after)) q = subst (λ (l : List ℕ). Contains l q) left_is (subst (λ (d : ℕ). Contains (slice_index_or left d []) q) same has) in
            elim (Contains-append_cases split.before (news ++ split.after) q here) [
              | inl early ↦ inl (old c q same (subst (λ (l : List ℕ). Contains l q) (sym split.is) (Contains-append_left split.before (n ∷ split.after) q early)), not_it c q (λ e. no_out split.before (subst (Contains split.before) e early) split.first))
              | inr late ↦ elim (Contains-append_cases news split.after q late) [
                | inl new ↦ inr (same, new)
                | inr behind ↦ inl (
                  old c q same (subst (λ (l : List ℕ). Contains l q) (sym split.is) (Contains-append_right split.before (n ∷ split.after) q (later_in n split.after q behind))),
                  not_it c q (λ e. no_out split.after (subst (Contains split.after) e behind) (last f rows good b n (length put) block is_block stands)),
                )
              ]
            ]
      ]
    where
      old : (c q : ℕ) → c ≡ b → Contains (slice_index_or rows b []) q → Contains (slice_index_or rows c []) q
      old c q same has = subst (λ (d : ℕ). Contains (slice_index_or rows d []) q) (sym same) has

      no_out : (l : List ℕ) → Contains l n → place_in l n ≡ length l → ⊥
      no_out l has out = by (place_in l n) (length l) out (is_in l n has)
        where
          by : (p k : ℕ) → p ≡ k → p < k → ⊥
          by p k same lt = omega arith

      not_it : (c q : ℕ) → (q ≡ n → ⊥) → ¬ (registers.Result c q ≡ root)
      not_it c q ne e = ne (let number : q ≡ n = cc in number)

  -- the operand is no result, or that of an instruction that stands then and isn't the root
  abbrev pub StandsThen : Operand → Type 0
  StandsThen a = (c q : ℕ) → a ≡ operands.Register (registers.Result c q) → Contains (slice_index_or left c []) q × ¬ (registers.Result c q ≡ root)

  module _ (put_stand : (j : ℕ) (i : Inst) → slice_get put j ≡ Some i → (a : Operand) → Contains (operands_of i.op) a → StandsThen a) (result_stands : StandsThen result) where
    -- an operand of the arena or of an inserted instruction, after the replacement: if it is a result, its instruction
    -- stands
    stands_for_old : (a : Operand) → ((c q : ℕ) → a ≡ operands.Register (registers.Result c q) → Contains (slice_index_or rows c []) q) → (c q : ℕ) → substituted_operand sigma a ≡ operands.Register (registers.Result c q) → Contains (slice_index_or left c []) q
    stands_for_old (operands.Register r) old c q is =
        elim (is_same_register r root) [
          | inl same ↦ (result_stands c q (sym (instead_it root result r same) ∙ is)).0
          | inr other ↦
              let here : operands.Register r ≡ operands.Register (registers.Result c q) = sym (instead_other root result r other) ∙ is in
              let register : r ≡ registers.Result c q = cc in
              stays c q (old c q here) (λ e. other (register ∙ e))
        ]
    stands_for_old (operands.Number x) old c q is = absurd cc
    stands_for_old operands.Undef old c q is = absurd cc
    stands_for_old operands.Poison old c q is = absurd cc

    stands_for_put : (a : Operand) → StandsThen a → (c q : ℕ) → substituted_operand sigma a ≡ operands.Register (registers.Result c q) → Contains (slice_index_or left c []) q
    stands_for_put (operands.Register r) then c q is =
        elim (is_same_register r root) [
          | inl same ↦ absurd ((then b n (ap (λ x. operands.Register x) same)).1 refl)
          | inr other ↦ (then c q (sym (instead_other root result r other) ∙ is)).0
        ]
    stands_for_put (operands.Number x) then c q is = absurd cc
    stands_for_put operands.Undef then c q is = absurd cc
    stands_for_put operands.Poison then c q is = absurd cc

    abbrev with_more : Block → Block
    with_more block = record { name = block.name; insts = block.insts ++ put; end = block.end }

    -- an instruction of the arena then was there before, or is an inserted one
    old_or_put : (c k : ℕ) (more : Block) (i : Inst) → IsBlock (with_put f b put) c more → slice_get more.insts k ≡ Some i → ((a : Operand) → Contains (operands_of i.op) a → (d q : ℕ) → substituted_operand sigma a ≡ operands.Register (registers.Result d q) → Contains (slice_index_or left d []) q)
    old_or_put c k more i is at a has d q stands_is =
        elim (cases_eq c b) [
          | inr ne ↦
              let old : IsBlock f c more = sym (changed_other b with_more f.blocks c ne) ∙ is in
              stands_for_old a (λ e m same. good.read c k e m (inst_reads_it f c k more i (registers.Result e m) old at (subst (Contains (operands_of i.op)) same has))) d q stands_is
          | inl same ↦
              let here : option_map with_more (slice_get f.blocks c) ≡ Some more =
              ap (λ x. option_map with_more (slice_get f.blocks x)) same ∙ (sym (changed_here b with_more f.blocks) ∙ (ap (slice_get (changed_at b with_more f.blocks)) (sym same) ∙ is)) in
              let old = mapped with_more (slice_get f.blocks c) more here in
              elim (get_cases old.0.insts put k i (subst (λ (x : Block). slice_get x.insts k ≡ Some i) (sym old.2) at)) [
                | inl was ↦ stands_for_old a (λ e m same. good.read c k e m (inst_reads_it f c k old.0 i (registers.Result e m) old.1 was (subst (Contains (operands_of i.op)) same has))) d q stands_is
                | inr (j, place, new) ↦ stands_for_put a (put_stand j i new a has) d q stands_is
              ]
        ]

    old_end : (c : ℕ) (more : Block) → IsBlock (with_put f b put) c more → (a : Operand) → Contains (operands_at_end more.end) a → (d q : ℕ) → substituted_operand sigma a ≡ operands.Register (registers.Result d q) → Contains (slice_index_or left d []) q
    old_end c more is a has d q stands_is =
        elim (cases_eq c b) [
          | inr ne ↦
              let old : IsBlock f c more = sym (changed_other b with_more f.blocks c ne) ∙ is in
              stands_for_old a (λ e m same. good.read c (end_of f c) e m (end_reads_it f c more (registers.Result e m) old (subst (Contains (operands_at_end more.end)) same has))) d q stands_is
          | inl same ↦
              let here : option_map with_more (slice_get f.blocks c) ≡ Some more =
              ap (λ x. option_map with_more (slice_get f.blocks x)) same ∙ (sym (changed_here b with_more f.blocks) ∙ (ap (slice_get (changed_at b with_more f.blocks)) (sym same) ∙ is)) in
              let old = mapped with_more (slice_get f.blocks c) more here in
              let has_old : Contains (operands_at_end old.0.end) a = subst (λ (x : Block). Contains (operands_at_end x.end) a) (sym old.2) has in
              stands_for_old a (λ e m same. good.read c (end_of f c) e m (end_reads_it f c old.0 (registers.Result e m) old.1 (subst (Contains (operands_at_end old.0.end)) same has_old))) d q stands_is
        ]

    pub no_root : result ≢ operands.Register root
    no_root e = (result_stands b n e).1 refl

    -- each result that is read after the replacement is of an instruction that stands
    read_stands : (c k d q : ℕ) → ReadsRegister g c k (registers.Result d q) → Contains (slice_index_or left d []) q
    read_stands c k d q h =
        elim (who g c k (registers.Result d q) h) [
          | inl i ↦
              let (more, is, same) = block_back f b n put result no_root c i.block i.is_block in
              let at : slice_get (map (substituted_inst sigma) more.insts) k ≡ Some i.inst = subst (λ (x : Block). slice_get x.insts k ≡ Some i.inst) (sym same) i.is_inst in
              let old = mapped (substituted_inst sigma) (slice_get more.insts k) i.inst (sym (slice_get-map (substituted_inst sigma) more.insts k) ∙ at) in
              let has : Contains (map (substituted_operand sigma) (operands_of old.0.op)) (operands.Register (registers.Result d q)) =
              subst (λ (l : List Operand). Contains l (operands.Register (registers.Result d q))) (operands_substituted sigma old.0.op) (subst (λ (x : Inst). Contains (operands_of x.op) (operands.Register (registers.Result d q))) (sym old.2) i.has) in
              let from = in_map (substituted_operand sigma) (operands_of old.0.op) (operands.Register (registers.Result d q)) has in
              old_or_put c k more old.0 is old.1 from.0 from.1 d q from.2
          | inr e ↦
              let (more, is, same) = block_back f b n put result no_root c e.block e.is_block in
              let has : Contains (map (substituted_operand sigma) (operands_at_end more.end)) (operands.Register (registers.Result d q)) =
              subst (λ (l : List Operand). Contains l (operands.Register (registers.Result d q))) (end_substituted sigma more.end) (subst (λ (x : Block). Contains (operands_at_end x.end) (operands.Register (registers.Result d q))) (sym same) e.has) in
              let from = in_map (substituted_operand sigma) (operands_at_end more.end) (operands.Register (registers.Result d q)) has in
              old_end c more is from.0 from.1 d q from.2
        ]

    module _ (has_root : HasInst g b n) where
      silent : IsSilenced g (with_inst_removed g b n) b n
      silent = taken_out_is_silenced g b n has_root

      pub read_stands_then : (c k d q : ℕ) → ReadsRegister (with_inst_removed g b n) c k (registers.Result d q) → Contains (slice_index_or left d []) q
      read_stands_then c k d q h = read_stands c k d q (silent.back c k (registers.Result d q) h)

      -- all was live before, and the worklist has the results of the inserted instructions and the registers that the
      -- root read
      module _ (clean : (c m : ℕ) → Contains (slice_index_or rows c []) m → IsNeeded f (registers.Result c m)) (fell : List Register)
          (came : (m : ℕ) → Contains news m → Contains fell (registers.Result b m)) (read : (r : Register) → ReadsRegister g b n r → Contains fell r) where
        pub begins : IsEliminating (with_inst_removed g b n) left (with_inst_removed g b n) left fell
        begins = cleaning_begins (with_inst_removed g b n) left fell (λ c m has. elim (stood_or_came c m has) [
          | inr (same, new) ↦ subst (λ (d : ℕ). IsNeededWith (with_inst_removed g b n) fell (registers.Result d m)) (sym same) (is_one_of (came m new))
          | inl (old, other) ↦
              elim (needed_less g (with_inst_removed g b n) b n silent (root ∷ fell) fell (λ r in_roots. by r in_roots) read (registers.Result c m) (needed_with_root f b n put result no_root fell (registers.Result c m) (clean c m old))) [
                | inl need ↦ need
                | inr it ↦ absurd (other it)
              ]
        ])
          where
            by : (r : Register) → Contains (root ∷ fell) r → Contains fell r ⊎ (r ≡ root)
            by r has = elim (cases_in root fell r has) [ inl same ↦ inr (sym same) | inr later ↦ inl later ]

            is_one_of : {r : Register} → Contains fell r → IsNeededWith (with_inst_removed g b n) fell r
            is_one_of has = IsNeededWith.is_one has
