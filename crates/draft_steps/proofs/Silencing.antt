-- A removed instruction reads nothing, and is not among those that are left.
use Rattle.draft_steps.proofs.Common.{◌≡◌, ◌≢◌, ℕ, ◌==◌, ◌&&◌, ◌⊎◌, inl, inr, Bool, true, false, cond, List, [], ◌∷◌, length, Option, None, Some, refl, sym, ap, subst, ◌∙◌, arith, Contains, slice_get, slice_index_or, option_map, unwrap_or, filter, cases_eq, eq-eqb, ne_eqb, and_from, and_right, filter_agree, unwrap_or-slice_get, HasInst, IsBlock, end_of, Block, Function, Inst, Register, cases_in, first_in, later_in, not_in_empty, IsNeeded, ReadsRegister, operands_at_end, changed_at, gone, with_inst_removed, without, AreLeft, IsEliminating, IsLeft}
use Rattle.ir_core.specs.declared.operand.Operand.TheVariants as operands
use Rattle.ir_core.specs.declared.operand.Register.TheVariants as registers
use Rattle.needed.specs.Operands.{operands_of}
use Rattle.substitution.proofs.Pieces.{mapped}
use Rattle.draft_steps.proofs.OneChange.{changed_here, changed_other, length-changed}
use Rattle.draft_steps.proofs.Living.{IsSilenced, needed_less, needed_stays, needed_was}
use Rattle.draft_steps.proofs.WhoReads.{end_of-is, end_reads_it, inst_reads_it, who}

module _ (f : Function) (b n : ℕ) where
  abbrev g : Function
  g = with_inst_removed f b n

  -- the block with the instruction removed
  abbrev less_block : Block → Block
  less_block block = record { name = block.name; insts = changed_at n gone block.insts; end = block.end }

  block_other : (c : ℕ) → c ≢ b → slice_get g.blocks c ≡ slice_get f.blocks c
  block_other c ne = changed_other b less_block f.blocks c ne

  block_here : (c : ℕ) → c ≡ b → slice_get g.blocks c ≡ option_map less_block (slice_get f.blocks c)
  block_here c same = ap (slice_get (changed_at b less_block f.blocks)) same ∙ (changed_here b less_block f.blocks ∙ ap (λ k. option_map less_block (slice_get f.blocks k)) (sym same))

  abbrev size : Option Block → ℕ
  size o = unwrap_or (option_map (λ (block : Block). length block.insts) o) 0

  end_same : (c : ℕ) → end_of g c ≡ end_of f c
  end_same c =
      elim (cases_eq c b) [
        | inr ne ↦ ap size (block_other c ne)
        | inl same ↦ ap size (block_here c same) ∙ by (slice_get f.blocks c)
      ]
    where
      by : (o : Option Block) → size (option_map less_block o) ≡ size o
      by None = refl
      by (Some x) = length-changed n gone x.insts

  -- a terminator is as it was
  end_on : (c k : ℕ) (r : Register) (block : Block) → IsBlock f c block → k ≡ length block.insts → Contains (operands_at_end block.end) (operands.Register r) → ReadsRegister g c k r
  end_on c k r block is last has =
      let place : end_of g c ≡ k = end_same c ∙ (end_of-is f c block is ∙ sym last) in
      subst (λ (j : ℕ). ReadsRegister g c j r) place (elim (cases_eq c b) [
        | inr ne ↦ end_reads_it g c block r (block_other c ne ∙ is) has
        | inl same ↦ end_reads_it g c (less_block block) r (block_here c same ∙ ap (option_map less_block) is) has
      ])

  stays : (c k : ℕ) (r : Register) → ReadsRegister f c k r → ReadsRegister g c k r ⊎ ((c ≡ b) × (k ≡ n))
  stays c k r h =
      elim (who f c k r h) [
        | inr e ↦ inl (end_on c k r e.block e.is_block e.last e.has)
        | inl i ↦ elim (cases_eq c b) [
          | inr ne ↦ inl (inst_reads_it g c k i.block i.inst r (block_other c ne ∙ i.is_block) i.is_inst i.has)
          | inl same ↦ elim (cases_eq k n) [
            | inl it ↦ inr (same, it)
            | inr ne ↦ inl (inst_reads_it g c k (less_block i.block) i.inst r (block_here c same ∙ ap (option_map less_block) i.is_block) (changed_other n gone i.block.insts k ne ∙ i.is_inst) i.has)
          ]
        ]
      ]

  reads_nothing : (i : Inst) (r : Register) → Contains (operands_of (gone i).op) (operands.Register r) → ⊥
  reads_nothing i r has = elim (cases_in operands.Poison [] (operands.Register r) has) [ inl same ↦ cc | inr later ↦ not_in_empty (operands.Register r) later ]

  end_back : (c k : ℕ) (r : Register) (block : Block) → IsBlock f c block → k ≡ end_of g c → Contains (operands_at_end block.end) (operands.Register r) → ReadsRegister f c k r
  end_back c k r block is last has = subst (λ (j : ℕ). ReadsRegister f c j r) (sym (last ∙ end_same c)) (end_reads_it f c block r is has)

  back : (c k : ℕ) (r : Register) → ReadsRegister g c k r → ReadsRegister f c k r
  back c k r h =
      elim (who g c k r h) [
        | inr e ↦
            let last : k ≡ end_of g c = e.last ∙ sym (end_of-is g c e.block e.is_block) in
            elim (cases_eq c b) [
              | inr ne ↦ end_back c k r e.block (sym (block_other c ne) ∙ e.is_block) last e.has
              | inl same ↦
                  let old = mapped less_block (slice_get f.blocks c) e.block (sym (block_here c same) ∙ e.is_block) in
                  end_back c k r old.0 old.1 last (subst (λ (x : Block). Contains (operands_at_end x.end) (operands.Register r)) (sym old.2) e.has)
            ]
        | inl i ↦ elim (cases_eq c b) [
          | inr ne ↦ inst_reads_it f c k i.block i.inst r (sym (block_other c ne) ∙ i.is_block) i.is_inst i.has
          | inl same ↦
              let old = mapped less_block (slice_get f.blocks c) i.block (sym (block_here c same) ∙ i.is_block) in
              let is_inst : slice_get (changed_at n gone old.0.insts) k ≡ Some i.inst = subst (λ (x : Block). slice_get x.insts k ≡ Some i.inst) (sym old.2) i.is_inst in
              elim (cases_eq k n) [
                | inr ne ↦ inst_reads_it f c k old.0 i.inst r old.1 (sym (changed_other n gone old.0.insts k ne) ∙ is_inst) i.has
                | inl it ↦
                    let there : slice_get (changed_at n gone old.0.insts) n ≡ Some i.inst = subst (λ (m : ℕ). slice_get (changed_at n gone old.0.insts) m ≡ Some i.inst) it is_inst in
                    let was = mapped gone (slice_get old.0.insts n) i.inst (sym (changed_here n gone old.0.insts) ∙ there) in
                    absurd (reads_nothing was.0 r (subst (λ (x : Inst). Contains (operands_of x.op) (operands.Register r)) (sym was.2) i.has))
              ]
        ]
      ]

  pub taken_out_is_silenced : HasInst f b n → IsSilenced f g b n
  taken_out_is_silenced (block, is, lt) = record {
    within = let end : end_of f b ≡ length block.insts = end_of-is f b block is in omega (arith, lt, end);
    end = end_same;
    stay = stays;
    back = back;
  }

-- ---- what is left

abbrev pub less : (ℕ → ℕ → Bool) → ℕ → ℕ → ℕ → ℕ → Bool
less keep b n c m = cond ((c == b) && (m == n)) false (keep c m)

less_other_block : (keep : ℕ → ℕ → Bool) (b n c m : ℕ) → c ≢ b → less keep b n c m ≡ keep c m
less_other_block keep b n c m ne = ap (λ x. cond (x && (m == n)) false (keep c m)) (ne_eqb c b ne)

less_other : (keep : ℕ → ℕ → Bool) (b n c m : ℕ) → m ≢ n → less keep b n c m ≡ keep c m
less_other keep b n c m ne = ap (λ x. cond x false (keep c m)) (and_right (c == b) (m == n) (ne_eqb m n ne))

less_it : (keep : ℕ → ℕ → Bool) (b n c m : ℕ) → c ≡ b → m ≡ n → less keep b n c m ≡ false
less_it keep b n c m same it = ap (λ x. cond x false (keep c m)) (and_from (c == b) (m == n) (eq-eqb c b same) (eq-eqb m n it))

-- what is kept then was kept before, and is another
kept_other : (keep : ℕ → ℕ → Bool) (b n c m : ℕ) → c ≡ b → less keep b n c m ≡ true → (m ≢ n) × (keep c m ≡ true)
kept_other keep b n c m same is =
    elim (cases_eq m n) [
      | inl it ↦ absurd (let clash : true ≡ false = sym is ∙ less_it keep b n c m same it in cc)
      | inr ne ↦ (ne, sym (less_other keep b n c m ne) ∙ is)
    ]

without_kept : (keep : ℕ → ℕ → Bool) (b n c : ℕ) (row : List ℕ) → c ≡ b → without n (filter (keep c) row) ≡ filter (less keep b n c) row
without_kept keep b n c [] same = refl
without_kept keep b n c (m ∷ row) same =
    let rest : without n (filter (keep c) row) ≡ filter (less keep b n c) row = without_kept keep b n c row same in
    elim (cases_eq m n) [
      | inl it ↦
          let drop : filter (less keep b n c) (m ∷ row) ≡ filter (less keep b n c) row = ap (λ x. cond x (m ∷ filter (less keep b n c) row) (filter (less keep b n c) row)) (less_it keep b n c m same it) in
          elim (keep c m) as (λ x. without n (cond x (m ∷ filter (keep c) row) (filter (keep c) row)) ≡ filter (less keep b n c) (m ∷ row)) [
            | true ↦ ap (λ x. cond x (without n (filter (keep c) row)) (m ∷ without n (filter (keep c) row))) (eq-eqb m n it) ∙ (rest ∙ sym drop)
            | false ↦ rest ∙ sym drop
          ]
      | inr ne ↦
          let as_was : filter (less keep b n c) (m ∷ row) ≡ cond (keep c m) (m ∷ filter (less keep b n c) row) (filter (less keep b n c) row) = ap (λ x. cond x (m ∷ filter (less keep b n c) row) (filter (less keep b n c) row)) (less_other keep b n c m ne) in
          let both : without n (cond (keep c m) (m ∷ filter (keep c) row) (filter (keep c) row)) ≡ cond (keep c m) (m ∷ filter (less keep b n c) row) (filter (less keep b n c) row) =
          elim (keep c m) as (λ x. without n (cond x (m ∷ filter (keep c) row) (filter (keep c) row)) ≡ cond x (m ∷ filter (less keep b n c) row) (filter (less keep b n c) row)) [
            | true ↦ ap (λ x. cond x (without n (filter (keep c) row)) (m ∷ without n (filter (keep c) row))) (ne_eqb m n ne) ∙ ap (λ (l : List ℕ). m ∷ l) rest
            | false ↦ rest
          ] in
          both ∙ sym as_was
    ]

module _ (keep : ℕ → ℕ → Bool) (old : Function) (rows : List (List ℕ)) (new : Function) (left : List (List ℕ)) (b n : ℕ) (is : IsLeft keep old rows new left) where
  abbrev keep_less : ℕ → ℕ → Bool
  keep_less = less keep b n

  left_other : (c : ℕ) → c ≢ b → (p q : Option Block) → AreLeft (keep c) p q → AreLeft (keep_less c) p q
  left_other c ne None None h = h
  left_other c ne None (Some y) h = h
  left_other c ne (Some x) None h = h
  left_other c ne (Some x) (Some y) h = record { name = h.name; end = h.end; kept = λ m i keeps at. h.kept m i (sym (less_other_block keep b n c m ne) ∙ keeps) at }

  left_here : (c : ℕ) → c ≡ b → (p q : Option Block) → AreLeft (keep c) p q → AreLeft (keep_less c) p (option_map (less_block new b n) q)
  left_here c same None None h = h
  left_here c same None (Some y) h = h
  left_here c same (Some x) None h = h
  left_here c same (Some x) (Some y) h = record {
    name = h.name;
    end = h.end;
    kept = λ m i keeps at.
        let other = kept_other keep b n c m same keeps in
        changed_other n gone y.insts m other.0 ∙ h.kept m i other.1 at;
  }

  rows_other : (c : ℕ) → c ≢ b → (o : Option (List ℕ)) → option_map (filter (keep c)) o ≡ option_map (filter (keep_less c)) o
  rows_other c ne None = refl
  rows_other c ne (Some row) = ap (λ (l : List ℕ). Some l) (filter_agree (keep c) (keep_less c) (λ m. sym (less_other_block keep b n c m ne)) row)

  rows_here : (c : ℕ) → c ≡ b → (o : Option (List ℕ)) → option_map (without n) (option_map (filter (keep c)) o) ≡ option_map (filter (keep_less c)) o
  rows_here c same None = refl
  rows_here c same (Some row) = ap (λ (l : List ℕ). Some l) (without_kept keep b n c row same)

  pub left_less : IsLeft keep_less old rows (with_inst_removed new b n) (changed_at b (without n) left)
  left_less = record {
    name = is.name;
    before = is.before;
    width = is.width;
    parameters = is.parameters;
    after = is.after;
    blocks = λ c. elim (cases_eq c b) [
      | inr ne ↦ subst (AreLeft (keep_less c) (slice_get old.blocks c)) (sym (block_other new b n c ne)) (left_other c ne (slice_get old.blocks c) (slice_get new.blocks c) (is.blocks c))
      | inl same ↦ subst (AreLeft (keep_less c) (slice_get old.blocks c)) (sym (block_here new b n c same)) (left_here c same (slice_get old.blocks c) (slice_get new.blocks c) (is.blocks c))
    ];
    row = λ c. elim (cases_eq c b) [
      | inr ne ↦ changed_other b (without n) left c ne ∙ (is.row c ∙ rows_other c ne (slice_get rows c))
      | inl same ↦
          ap (slice_get (changed_at b (without n) left)) same ∙ (changed_here b (without n) left
          ∙ (ap (λ k. option_map (without n) (slice_get left k)) (sym same) ∙ (ap (option_map (without n)) (is.row c) ∙ rows_here c same (slice_get rows c))))
    ];
  }

-- ---- one step of dead code elimination

-- a number of a row without one is a number of the row, and another
pub without_of : (n : ℕ) (row : List ℕ) (m : ℕ) → Contains (without n row) m → Contains row m × (m ≢ n)
without_of n [] m has = absurd (not_in_empty m has)
without_of n (k ∷ row) m has =
    elim (cases_eq k n) [
      | inl it ↦
          let rest = without_of n row m (subst (λ (l : List ℕ). Contains l m) (ap (λ x. cond x (without n row) (k ∷ without n row)) (eq-eqb k n it)) has) in
          (later_in k row m rest.0, rest.1)
      | inr ne ↦ elim (cases_in k (without n row) m (subst (λ (l : List ℕ). Contains l m) (ap (λ x. cond x (without n row) (k ∷ without n row)) (ne_eqb k n ne)) has)) [
        | inl same ↦ (subst (Contains (k ∷ row)) same (first_in k row), λ e. ne (same ∙ e))
        | inr later ↦ let rest = without_of n row m later in (later_in k row m rest.0, rest.1)
      ]
    ]

row_other : (left : List (List ℕ)) (b n c : ℕ) → c ≢ b → slice_index_or (changed_at b (without n) left) c [] ≡ slice_index_or left c []
row_other left b n c ne =
    sym (unwrap_or-slice_get (changed_at b (without n) left) c []) ∙ (ap (λ (o : Option (List ℕ)). unwrap_or o []) (changed_other b (without n) left c ne) ∙ unwrap_or-slice_get left c [])

row_here : (left : List (List ℕ)) (b n c : ℕ) → c ≡ b → slice_index_or (changed_at b (without n) left) c [] ≡ without n (slice_index_or left c [])
row_here left b n c same =
    let there : slice_get (changed_at b (without n) left) c ≡ option_map (without n) (slice_get left c) =
    ap (slice_get (changed_at b (without n) left)) same ∙ (changed_here b (without n) left ∙ ap (λ k. option_map (without n) (slice_get left k)) (sym same)) in
    sym (unwrap_or-slice_get (changed_at b (without n) left) c []) ∙ (ap (λ (o : Option (List ℕ)). unwrap_or o []) there ∙ (by (slice_get left c) ∙ ap (without n) (unwrap_or-slice_get left c [])))
  where
    by : (o : Option (List ℕ)) → unwrap_or (option_map (without n) o) [] ≡ without n (unwrap_or o [])
    by None = refl
    by (Some row) = refl

module _ (old : Function) (rows : List (List ℕ)) (new : Function) (left : List (List ℕ)) (b n : ℕ) (roots others : List Register) where
  -- a dead instruction is removed, and the registers that it read go on the worklist
  pub cleaning_less : IsEliminating old rows new left roots → HasInst new b n → ¬ IsNeeded new (registers.Result b n)
      → ((r : Register) → Contains roots r → Contains others r ⊎ (r ≡ registers.Result b n)) → ((r : Register) → ReadsRegister new b n r → Contains others r)
      → IsEliminating old rows (with_inst_removed new b n) (changed_at b (without n) left) others
  cleaning_less is has un all read =
      let silent : IsSilenced new (with_inst_removed new b n) b n = taken_out_is_silenced new b n has in
      let is_less = left_less is.keep old rows new left b n is.is_left in
      record {
        keep = less is.keep b n;
        is_left = is_less;
        keeps = λ c m need. elim (cases_eq c b) [
          | inr ne ↦ less_other_block is.keep b n c m ne ∙ is.keeps c m need
          | inl same ↦ elim (cases_eq m n) [
            | inr ne ↦ less_other is.keep b n c m ne ∙ is.keeps c m need
            | inl it ↦ absurd (un (subst (λ (k : ℕ). IsNeeded new (registers.Result b k)) it (subst (λ (d : ℕ). IsNeeded new (registers.Result d m)) same (is.needed (registers.Result c m) need))))
          ]
        ];
        needed = λ r need. needed_stays new (with_inst_removed new b n) b n silent un r (is.needed r need);
        was_needed = λ r need. is.was_needed r (needed_was new (with_inst_removed new b n) b n silent r need);
        waits = λ c m stands. elim (needed_less new (with_inst_removed new b n) b n silent roots others all read (registers.Result c m) (is.waits c m (stood c m stands))) [
          | inl need ↦ need
          | inr it ↦ absurd (not_it c m stands it)
        ];
      }
    where
      stood : (c m : ℕ) → Contains (slice_index_or (changed_at b (without n) left) c []) m → Contains (slice_index_or left c []) m
      stood c m has =
          elim (cases_eq c b) [
            | inr ne ↦ subst (λ (l : List ℕ). Contains l m) (row_other left b n c ne) has
            | inl same ↦ (without_of n (slice_index_or left c []) m (subst (λ (l : List ℕ). Contains l m) (row_here left b n c same) has)).0
          ]

      not_it : (c m : ℕ) → Contains (slice_index_or (changed_at b (without n) left) c []) m → registers.Result c m ≡ registers.Result b n → ⊥
      not_it c m has it =
          let same : c ≡ b = cc in
          let number : m ≡ n = cc in
          (without_of n (slice_index_or left c []) m (subst (λ (l : List ℕ). Contains l m) (row_here left b n c same) has)).1 number
