-- Every register is assigned wherever it is read, or there is a first read of one that isn't.
use Rattle.ir_reader.proofs.Common.{◌≡◌, ◌⊎◌, inl, inr, ℕ, suc, ◌<◌, ◌≤◌, ◌==◌, Bool, true, false, if◌then◌else◌, List, [], ◌∷◌, length, Option, None, Some, refl, sym, ap, subst, ◌∙◌, arith, slice_get, option_map, unwrap_or, Contains, map_dec, dec_lt, eqb-true, slice_get_within, Function, Block, Inst, Operand, Register, IsAssigned, ReadIsAssigned, ReadsAreAssigned, IsBefore, IsFirstUnassigned, Read, end_of, reads_at_end, reads_by, reads_in, reads_at, IsRead, IsWalk, dec_both, dec_not, dec_number, dec_at, stable}
use Rattle.ir_core.specs.declared.operand.Operand.TheVariants as operands
use Rattle.ir_core.specs.declared.operand.Register.TheVariants as registers
use Rattle.ir_reader.proofs.Searching.{dec_below, least}
use Rattle.ir_reader.proofs.Avoiding.{dec_contains, dec_comes}

module _ (f : Function) where
  -- ---- registers

  dec_assigned : (r : Register) (b k : ℕ) → Dec (IsAssigned f r b k)
  dec_assigned (registers.Parameter p) b k = dec_lt p (length f.parameters)
  dec_assigned (registers.Result d j) b k = dec_both (dec_at (λ (block : Block). j < length block.insts) f.blocks d (λ block. dec_lt j (length block.insts))) passed
    where
      passed : Dec ((before : List ℕ) → IsWalk f (b ∷ before) → Contains before d ⊎ ((d ≡ b) × (j < k)))
      passed = elim (dec_both (dec_number d b) (dec_lt j k)) [
        | yes here ↦ yes (λ before walk. inr here)
        | no not_here ↦ elim (dec_comes f d b) [
          | yes (before, (walk, none)) ↦ no (λ all. elim (all before walk) [ inl has ↦ none has | inr here ↦ not_here here ])
          | no no_walk ↦ yes (λ before walk. inl (stable (dec_contains before d) (λ none. no_walk (before, (walk, none)))))
        ]
      ]

  -- a read is of a register that isn't assigned there
  abbrev IsBad : Read → Type 0
  IsBad r = (register : Register) × (r.operand ≡ operands.Register register) × ¬ IsAssigned f register r.block r.place

  dec_bad : (r : Read) → Dec (IsBad r)
  dec_bad r = by r.operand refl
    where
      by : (o : Operand) → r.operand ≡ o → Dec (IsBad r)
      by (operands.Register register) is =
          map_dec (λ h. (register, is, h))
          (λ (other, same, h). let one : operands.Register other ≡ operands.Register register = sym same ∙ is in let e : other ≡ register = cc in subst (λ s. ¬ IsAssigned f s r.block r.place) e h)
          (dec_not (dec_assigned register r.block r.place))
      by (operands.Number n) is = no (λ (other, same, h). let one : operands.Register other ≡ operands.Number n = sym same ∙ is in cc)
      by operands.Undef is = no (λ (other, same, h). let one : operands.Register other ≡ operands.Undef = sym same ∙ is in cc)
      by operands.Poison is = no (λ (other, same, h). let one : operands.Register other ≡ operands.Poison = sym same ∙ is in cc)

  -- ---- places

  at_end : (b k i : ℕ) (r : Read) (block : Block) (is_end : Bool) → (k == length block.insts) ≡ is_end → slice_get (if is_end then reads_at_end f b k block.end else []) i ≡ Some r → k ≤ length block.insts
  at_end b k i r block true is at = let e : k ≡ length block.insts = eqb-true k (length block.insts) is in omega arith
  at_end b k i r block false is at = cc

  at_place : (b k i : ℕ) (r : Read) (block : Block) (inst : Option Inst) → slice_get block.insts k ≡ inst → slice_get (reads_by f b k block inst) i ≡ Some r → k ≤ length block.insts
  at_place b k i r block (Some inst) is at = let lt : k < length block.insts = slice_get_within block.insts k inst is in omega arith
  at_place b k i r block None is at = at_end b k i r block (k == length block.insts) refl at

  in_block : (b k i : ℕ) (r : Read) (block : Option Block) → slice_get f.blocks b ≡ block → slice_get (reads_in f b k block) i ≡ Some r → (b < length f.blocks) × (k < suc (end_of f b))
  in_block b k i r None is at = cc
  in_block b k i r (Some block) is at =
      let le : k ≤ length block.insts = at_place b k i r block (slice_get block.insts k) refl at in
      let end : end_of f b ≡ length block.insts = ap (λ (o : Option Block). unwrap_or (option_map (λ block. length block.insts) o) 0) is in
      (slice_get_within f.blocks b block is, omega arith)

  -- reads are in a block of the function, at the place of an instruction or of the terminator
  read_within : (b k i : ℕ) (r : Read) → IsRead f b k i r → (b < length f.blocks) × (k < suc (end_of f b))
  read_within b k i r is = in_block b k i r (slice_get f.blocks b) refl is

  -- ---- the first of them

  abbrev BadAt : ℕ → ℕ → ℕ → Type 0
  BadAt b k i = (r : Read) × IsRead f b k i r × IsBad r

  abbrev BadIn : ℕ → ℕ → Type 0
  BadIn b k = (i : ℕ) × BadAt b k i

  abbrev BadBlock : ℕ → Type 0
  BadBlock b = (k : ℕ) × BadIn b k

  dec_bad_at : (b k i : ℕ) → Dec (BadAt b k i)
  dec_bad_at b k i = dec_at IsBad (reads_at f b k) i dec_bad

  dec_bad_in : (b k : ℕ) → Dec (BadIn b k)
  dec_bad_in b k = dec_below (BadAt b k) (dec_bad_at b k) (length (reads_at f b k)) (λ i (r, is, bad). slice_get_within (reads_at f b k) i r is)

  dec_bad_block : (b : ℕ) → Dec (BadBlock b)
  dec_bad_block b = dec_below (BadIn b) (dec_bad_in b) (suc (end_of f b)) (λ k (i, (r, is, bad)). (read_within b k i r is).1)

  -- the register of a read that isn't bad is assigned there
  good : (b k i : ℕ) (r : Read) → IsRead f b k i r → ¬ BadAt b k i → ReadIsAssigned f r
  good b k i r is not_bad register same = stable (dec_assigned register r.block r.place) (λ h. not_bad (r, is, (register, same, h)))

  pub assigned_or_first : ReadsAreAssigned f ⊎ ((register : Register) × (b : ℕ) × (k : ℕ) × (i : ℕ) × IsFirstUnassigned f register b k i)
  assigned_or_first = elim (dec_below BadBlock dec_bad_block (length f.blocks) (λ b (k, (i, (r, is, bad))). (read_within b k i r is).0)) [
    | no none ↦ inl (λ b k i r is. good b k i r is (λ bad. none (b, (k, (i, bad)))))
    | yes (some_b, bad_block) ↦
        let (b, (some_k, bad_in), first_b) = least BadBlock dec_bad_block some_b bad_block in
        let (k, (some_i, bad_at), first_k) = least (BadIn b) (dec_bad_in b) some_k bad_in in
        let (i, (r, is, (register, same, bad)), first_i) = least (BadAt b k) (dec_bad_at b k) some_i bad_at in
        let none_before : (c l j : ℕ) → IsBefore c l j b k i → ¬ BadAt c l j = λ c l j before other.
        elim before [
          | inl lt ↦ first_b c lt (l, (j, other))
          | inr (c_is, rest) ↦
              let other_b : BadAt b l j = subst (λ n. BadAt n l j) c_is other in
              elim rest [
                | inl lt ↦ first_k l lt (j, other_b)
                | inr (l_is, lt) ↦ first_i j lt (subst (λ n. BadAt b n j) l_is other_b)
              ]
        ] in
        inr (register, b, k, i, record { read = r; is_read = is; reads = same; unassigned = bad; first = λ c l j earlier at before. good c l j earlier at (none_before c l j before) })
  ]
