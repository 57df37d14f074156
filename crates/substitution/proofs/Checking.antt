-- A rewritten function meets the checks that the old one meets.
use Rattle.substitution.proofs.Common.{◌≡◌, ℕ, suc, ◌^◌, ◌+◌, ◌<◌, ◌≤◌, ◌==◌, Bool, true, false, cond, ◌⊎◌, inl, inr, List, [], ◌∷◌, length, Option, None, Some, refl, sym, ap, subst, ◌∙◌, arith, Contains, map, slice_get, option_map, unwrap_or, IsSome, cases_lt, eqb-true, slice_get-map, Number, IsAssigned, ReadIsAssigned, IsBlock, IsInst, IsKnown, OperandHasWidth, IsTyped, CasesFit, IsPhi, EntriesFit, IsFormed, MeetsChecks, Read, read, IsRead, end_of, reads_of, reads_at_end, reads_by, reads_in, reads_at, Function, Block, Inst, Op, Binary, Compare, Unary, Select, Convert, Freeze, Phi, Operand, Register, Terminator, substituted_operand, substituted_entries, substituted_op, substituted_end, Rewrite, moved_place, stands_for, rewritten_insts, rewritten_block, rewritten_blocks, rewritten_function, NumbersFit, Fits, IsOfItsWidth, MayBeRead, RewrittenFunctionsMeetChecks, RewrittenNumbersFit}
use Rattle.ir_core.specs.declared.operand.Operand.TheVariants as operands
use Rattle.ir_core.specs.declared.terminator.Terminator.TheVariants as terminators
use Rattle.substitution.proofs.Pieces.{mapped, in_map, map_in}
use Rattle.substitution.proofs.Arriving.{inst_reads}
use Rattle.substitution.proofs.Assigning.{end_reads, own_place, IsThere}
use Rattle.substitution.proofs.Naming.{names_differ}
use Rattle.substitution.proofs.Passing.{names_back, names_on, assigned_on, read_assigned}
use Rattle.substitution.proofs.Placing.{moved_first, moved_up, moved_unmoved, InstStayed, InstPut, inst_in, inst_back, get_block, block_back, length-block}
use Rattle.substitution.proofs.Standing.{width_on, read_width, number_on, read_number}

-- ---- operations and terminators

typed_on : (w : Rewrite) (width : ℕ) (op : Op) → IsTyped width op → IsTyped width (substituted_op (stands_for w) op)
typed_on w width (Binary op flags x y) h = h
typed_on w width (Compare pred samesign compared x y) h = h
typed_on w width (Select c x y) h = h
typed_on w width (Convert cast flags from x) h = h
typed_on w width (Unary op truth x) h = h
typed_on w width (Freeze x) h = h
typed_on w width (Phi entries) h = h

phi_on : (w : Rewrite) (op : Op) → IsPhi op → IsPhi (substituted_op (stands_for w) op)
phi_on w (Binary op flags x y) h = h
phi_on w (Compare pred samesign compared x y) h = h
phi_on w (Select c x y) h = h
phi_on w (Convert cast flags from x) h = h
phi_on w (Unary op truth x) h = h
phi_on w (Freeze x) h = h
phi_on w (Phi entries) h = h

phi_back : (w : Rewrite) (op : Op) → IsPhi (substituted_op (stands_for w) op) → IsPhi op
phi_back w (Binary op flags x y) h = h
phi_back w (Compare pred samesign compared x y) h = h
phi_back w (Select c x y) h = h
phi_back w (Convert cast flags from x) h = h
phi_back w (Unary op truth x) h = h
phi_back w (Freeze x) h = h
phi_back w (Phi entries) h = h

cases_on : (w : Rewrite) (t : Terminator) → CasesFit t → CasesFit (substituted_end (stands_for w) t)
cases_on w (terminators.Return a) h = h
cases_on w (terminators.Jump to) h = h
cases_on w (terminators.Branch c to other) h = h
cases_on w (terminators.Switch a width other cases) h = h
cases_on w terminators.Unreachable h = h

entries_back : (w : Rewrite) (op : Op) (new : List (Operand × ℕ)) → substituted_op (stands_for w) op ≡ Phi new → (entries : List (Operand × ℕ)) × (op ≡ Phi entries) × (substituted_entries (stands_for w) entries ≡ new)
entries_back w (Binary op flags x y) new e = absurd cc
entries_back w (Compare pred samesign compared x y) new e = absurd cc
entries_back w (Select c x y) new e = absurd cc
entries_back w (Convert cast flags from x) new e = absurd cc
entries_back w (Unary op truth x) new e = absurd cc
entries_back w (Freeze x) new e = absurd cc
entries_back w (Phi entries) new e = (entries, refl, cc)

-- the reads of an instruction that is no phi are the same at another place of another function
reads_elsewhere : (f g : Function) (b k c n width : ℕ) (op : Op) → ¬ IsPhi op → reads_of f b k width op ≡ map (λ (r : Read). read b k r.width r.operand) (reads_of g c n width op)
reads_elsewhere f g b k c n width (Binary op flags x y) other = refl
reads_elsewhere f g b k c n width (Compare pred samesign compared x y) other = refl
reads_elsewhere f g b k c n width (Select z x y) other = refl
reads_elsewhere f g b k c n width (Convert cast flags from x) other = refl
reads_elsewhere f g b k c n width (Unary op truth x) other = refl
reads_elsewhere f g b k c n width (Freeze x) other = refl
reads_elsewhere f g b k c n width (Phi entries) other = absurd (other tt)

of_its_width : (a : Operand) → ((n : Number) → a ≡ operands.Number n → n.number < 2 ^ n.width) → IsOfItsWidth a
of_its_width (operands.Number n) h = h n refl
of_its_width (operands.Register r) h = tt
of_its_width operands.Undef h = tt
of_its_width operands.Poison h = tt

-- an operand that has a width is known
known : (f : Function) (width : ℕ) (a : Operand) → OperandHasWidth f width a → IsKnown f a
known f width (operands.Register r) h = subst IsSome (sym h) refl
known f width (operands.Number n) h = tt
known f width operands.Undef h = tt
known f width operands.Poison h = tt

length-blocks : (w : Rewrite) (b : ℕ) (blocks : List Block) → length (rewritten_blocks w b blocks) ≡ length blocks
length-blocks w b [] = refl
length-blocks w b (x ∷ blocks) = ap suc (length-blocks w (suc b) blocks)

module _ (f : Function) (w : Rewrite) where
  abbrev new : Function
  new = rewritten_function w f

  abbrev to : Register → Operand
  to = stands_for w

  -- ---- reads

  -- a read of the old function, as it is in the new one
  abbrev moved_read : Read → Read
  moved_read r = read r.block (moved_place w r.block r.place) r.width (substituted_operand to r.operand)

  end_of-moved : (b : ℕ) → end_of new b ≡ moved_place w b (end_of f b)
  end_of-moved b = ap (λ (o : Option Block). unwrap_or (option_map (λ (x : Block). length x.insts) o) 0) (get_block w f b) ∙ by (slice_get f.blocks b)
    where
      by : (o : Option Block) → unwrap_or (option_map (λ (x : Block). length x.insts) (option_map (rewritten_block w b) o)) 0 ≡ moved_place w b (unwrap_or (option_map (λ (x : Block). length x.insts) o) 0)
      by None = sym (moved_first w b)
      by (Some block) = length-block w b block

  entry_reads-moved : (width : ℕ) (entries : List (Operand × ℕ)) → map (λ (e : Operand × ℕ). read e.1 (end_of new e.1) width e.0) (substituted_entries to entries) ≡ map moved_read (map (λ (e : Operand × ℕ). read e.1 (end_of f e.1) width e.0) entries)
  entry_reads-moved width [] = refl
  entry_reads-moved width (e ∷ entries) =
      ap (λ n. read e.1 n width (substituted_operand to e.0) ∷ map (λ (e : Operand × ℕ). read e.1 (end_of new e.1) width e.0) (substituted_entries to entries)) (end_of-moved e.1)
      ∙ ap (λ rest. moved_read (read e.1 (end_of f e.1) width e.0) ∷ rest) (entry_reads-moved width entries)

  reads_of-moved : (b k width : ℕ) (op : Op) → reads_of new b (moved_place w b k) width (substituted_op to op) ≡ map moved_read (reads_of f b k width op)
  reads_of-moved b k width (Binary op flags x y) = refl
  reads_of-moved b k width (Compare pred samesign compared x y) = refl
  reads_of-moved b k width (Select c x y) = refl
  reads_of-moved b k width (Convert cast flags from x) = refl
  reads_of-moved b k width (Unary op truth x) = refl
  reads_of-moved b k width (Freeze x) = refl
  reads_of-moved b k width (Phi entries) = entry_reads-moved width entries

  reads_at_end-moved : (b k : ℕ) (t : Terminator) → reads_at_end new b (moved_place w b k) (substituted_end to t) ≡ map moved_read (reads_at_end f b k t)
  reads_at_end-moved b k (terminators.Return a) = refl
  reads_at_end-moved b k (terminators.Jump to) = refl
  reads_at_end-moved b k (terminators.Branch c to other) = refl
  reads_at_end-moved b k (terminators.Switch a width other cases) = refl
  reads_at_end-moved b k terminators.Unreachable = refl

  -- a read of the new function is one of the old function, moved
  record ReadStayed (b i : ℕ) (r : Read) : Type 0 where
    place : ℕ
    old : Read
    is_read : IsRead f b place i old
    moved : moved_read old ≡ r

  -- or it is one of an instruction that is put
  record ReadPut (i : ℕ) (r : Read) : Type 0 where
    place : ℕ
    inst : Inst
    is_put : slice_get w.put place ≡ Some inst
    reads : slice_get (reads_of new w.block (w.place + place) inst.width inst.op) i ≡ Some r

  read_moved : (b k i : ℕ) (reads : List Read) (r : Read) → reads_at f b k ≡ reads → slice_get (map moved_read reads) i ≡ Some r → ReadStayed b i r
  read_moved b k i reads r e h =
      let old : (x : Read) × (slice_get reads i ≡ Some x) × (moved_read x ≡ r) = mapped moved_read (slice_get reads i) r (sym (slice_get-map moved_read reads i) ∙ h) in
      record { place = k; old = old.0; is_read = ap (λ l. slice_get l i) e ∙ old.1; moved = old.2 }

  stayed_read : (b n i : ℕ) (inst : Inst) (r : Read) → InstStayed f w b n inst → slice_get (reads_of new b n inst.width inst.op) i ≡ Some r → ReadStayed b i r
  stayed_read b n i inst r s h =
      let was : Inst = s.inst in
      let at_inst : slice_get (reads_of new b n was.width (substituted_op to was.op)) i ≡ Some r = subst (λ (x : Inst). slice_get (reads_of new b n x.width x.op) i ≡ Some r) (sym s.is) h in
      let at_place : slice_get (reads_of new b (moved_place w b s.place) was.width (substituted_op to was.op)) i ≡ Some r = subst (λ m. slice_get (reads_of new b m was.width (substituted_op to was.op)) i ≡ Some r) s.count at_inst in
      read_moved b s.place i (reads_of f b s.place was.width was.op) r (inst_reads f b s.place was s.is_inst) (ap (λ l. slice_get l i) (sym (reads_of-moved b s.place was.width was.op)) ∙ at_place)

  put_read : (b n i : ℕ) (inst : Inst) (r : Read) → InstPut w b n inst → slice_get (reads_of new b n inst.width inst.op) i ≡ Some r → ReadPut i r
  put_read b n i inst r p h = record {
    place = p.place;
    inst = inst;
    is_put = p.is_put;
    reads = subst (λ m. slice_get (reads_of new w.block m inst.width inst.op) i ≡ Some r) p.count (subst (λ c. slice_get (reads_of new c n inst.width inst.op) i ≡ Some r) p.block h);
  }

  end_read : (b n i : ℕ) (block : Block) (r : Read) → IsBlock f b block → n ≡ moved_place w b (length block.insts) → slice_get (reads_at_end new b n (substituted_end to block.end)) i ≡ Some r → ReadStayed b i r
  end_read b n i block r at count h =
      let k = length block.insts in
      let at_end : slice_get (reads_at_end new b (moved_place w b k) (substituted_end to block.end)) i ≡ Some r = subst (λ n. slice_get (reads_at_end new b n (substituted_end to block.end)) i ≡ Some r) count h in
      read_moved b k i (reads_at_end f b k block.end) r (end_reads f b block at) (ap (λ l. slice_get l i) (sym (reads_at_end-moved b k block.end)) ∙ at_end)

  block_read : (b n i : ℕ) (block : Block) (r : Read) → IsBlock f b block → (o : Option Inst) → slice_get (rewritten_insts w b 0 block.insts) n ≡ o → slice_get (reads_by new b n (rewritten_block w b block) o) i ≡ Some r → ReadStayed b i r ⊎ ReadPut i r
  block_read b n i block r at (Some inst) e h =
      elim (inst_in w f b n block inst at e) [
        | inl s ↦ inl (stayed_read b n i inst r s h)
        | inr p ↦ inr (put_read b n i inst r p h)
      ]
  block_read b n i block r at None e h = by (n == length (rewritten_insts w b 0 block.insts)) refl h
    where
      by : (is : Bool) → (n == length (rewritten_insts w b 0 block.insts)) ≡ is → slice_get (cond is (reads_at_end new b n (substituted_end to block.end)) []) i ≡ Some r → ReadStayed b i r ⊎ ReadPut i r
      by true same h = inl (end_read b n i block r at (eqb-true n (length (rewritten_insts w b 0 block.insts)) same ∙ length-block w b block) h)
      by false same h = absurd cc

  read_back : (b n i : ℕ) (r : Read) → IsRead new b n i r → ReadStayed b i r ⊎ ReadPut i r
  read_back b n i r h = by (slice_get f.blocks b) refl (ap (λ o. slice_get (reads_in new b n o) i) (sym (get_block w f b)) ∙ h)
    where
      by : (o : Option Block) → slice_get f.blocks b ≡ o → slice_get (reads_in new b n (option_map (rewritten_block w b) o)) i ≡ Some r → ReadStayed b i r ⊎ ReadPut i r
      by None e h = absurd cc
      by (Some block) e h = block_read b n i block r e (slice_get (rewritten_insts w b 0 block.insts) n) refl h

  -- ---- entries of phis

  entries_on : (b : ℕ) (entries : List (Operand × ℕ)) → EntriesFit f b entries → EntriesFit new b (substituted_entries to entries)
  entries_on b entries fits = record {
    some = nonempty entries fits.some;
    from = λ c. (λ h. let a : (a : Operand) × Contains entries (a, c) × (substituted_operand to a ≡ h.0) = was h.0 c h.1 in names_on w f c b ((fits.from c).0 (a.0, a.1)), λ n. let a : (a : Operand) × Contains entries (a, c) = (fits.from c).1 (names_back w f c b n) in (substituted_operand to a.0, now a.0 c a.1));
    one = λ x y c p q.
        let a : (a : Operand) × Contains entries (a, c) × (substituted_operand to a ≡ x) = was x c p in
        let d : (a : Operand) × Contains entries (a, c) × (substituted_operand to a ≡ y) = was y c q in
        sym a.2 ∙ ap (substituted_operand to) (fits.one a.0 d.0 c a.1 d.1) ∙ d.2;
  }
    where
      nonempty : (entries : List (Operand × ℕ)) → 0 < length entries → 0 < length (substituted_entries to entries)
      nonempty [] lt = lt
      nonempty (e ∷ entries) lt = omega arith

      was : (x : Operand) (c : ℕ) → Contains (substituted_entries to entries) (x, c) → (a : Operand) × Contains entries (a, c) × (substituted_operand to a ≡ x)
      was x c h =
          let put : Operand × ℕ → Operand × ℕ = λ e. (substituted_operand to e.0, e.1) in
          let e : (e : Operand × ℕ) × Contains entries e × (put e ≡ (x, c)) = in_map put entries (x, c) h in
          (e.0.0, subst (λ d. Contains entries (e.0.0, d)) (ap (λ (p : Operand × ℕ). p.1) e.2) e.1, ap (λ (p : Operand × ℕ). p.0) e.2)

      now : (a : Operand) (c : ℕ) → Contains entries (a, c) → Contains (substituted_entries to entries) (substituted_operand to a, c)
      now a c h = map_in (λ (e : Operand × ℕ). (substituted_operand to e.0, e.1)) entries (a, c) h

  module _ (root : Inst) (fits : Fits f w root) where
    -- an instruction that is put may read what it reads
    put_may : (i : ℕ) (r : Read) (p : ReadPut i r) → MayBeRead f w p.place r.width r.operand
    put_may i r p =
        let inst : Inst = p.inst in
        let there : Read → Read = λ x. read w.block w.place x.width x.operand in
        let is : slice_get (reads_of f w.block w.place inst.width inst.op) i ≡ Some (there r) =
        ap (λ l. slice_get l i) (reads_elsewhere f new w.block w.place w.block (w.place + p.place) inst.width inst.op (fits.no_phis_put p.place inst p.is_put))
        ∙ slice_get-map there (reads_of new w.block (w.place + p.place) inst.width inst.op) i ∙ ap (option_map there) p.reads in
        fits.reads p.place i inst (there r) p.is_put is

    put_there : (i : ℕ) (r : Read) (p : ReadPut i r) → IsThere w.block (w.place + p.place) r
    put_there i r p = let inst : Inst = p.inst in own_place new w.block (w.place + p.place) inst.width inst.op (fits.no_phis_put p.place inst p.is_put) i r p.reads

    -- ---- literal numbers

    read_numbers : NumbersFit f → (b n i : ℕ) (r : Read) → IsRead new b n i r → IsOfItsWidth r.operand
    read_numbers numbers b n i r h =
        elim (read_back b n i r h) [
          | inl s ↦ subst (λ (x : Read). IsOfItsWidth x.operand) s.moved (number_on f w root fits s.old.operand (of_its_width s.old.operand (λ x e. numbers b s.place i s.old x s.is_read e)))
          | inr p ↦ read_number f w root fits p.place r.width r.operand (put_may i r p)
        ]

    numbers_on : NumbersFit f → NumbersFit new
    numbers_on numbers b n i r x h e = subst IsOfItsWidth e (read_numbers numbers b n i r h)

    module _ (m : MeetsChecks f) where
      operands_on : (b n i : ℕ) (r : Read) → IsRead new b n i r → OperandHasWidth new r.width r.operand
      operands_on b n i r h =
          elim (read_back b n i r h) [
            | inl s ↦ subst (λ (x : Read). OperandHasWidth new x.width x.operand) s.moved (width_on f w root fits s.old.width s.old.operand (m.formed.operands b s.place i s.old s.is_read))
            | inr p ↦ read_width f w root fits p.place r.width r.operand (put_may i r p)
          ]

      insts_on : (b n : ℕ) (inst : Inst) → IsInst new b n inst → IsTyped inst.width inst.op
      insts_on b n inst h =
          elim (inst_back w f b n inst h) [
            | inl s ↦ subst (λ (x : Inst). IsTyped x.width x.op) s.is (typed_on w s.inst.width s.inst.op (m.formed.insts b s.place s.inst s.is_inst))
            | inr p ↦ fits.typed p.place inst p.is_put
          ]

      phis_on : (b n : ℕ) (inst : Inst) (entries : List (Operand × ℕ)) → IsInst new b n inst → inst.op ≡ Phi entries → EntriesFit new b entries
      phis_on b n inst entries h phi =
          elim (inst_back w f b n inst h) [
            | inl s ↦
                let was : (es : List (Operand × ℕ)) × (s.inst.op ≡ Phi es) × (substituted_entries to es ≡ entries) = entries_back w s.inst.op entries (ap (λ (x : Inst). x.op) s.is ∙ phi) in
                subst (EntriesFit new b) was.2 (entries_on b was.0 (m.formed.phis b s.place s.inst was.0 s.is_inst was.1))
            | inr p ↦ absurd (fits.no_phis_put p.place inst p.is_put (subst (λ op. IsPhi op) (sym phi) tt))
          ]

      -- no phi stands behind the root
      no_phi_behind : (k : ℕ) (inst : Inst) → IsInst f w.block k inst → IsPhi inst.op → w.place < k → ⊥
      no_phi_behind k inst h phi lt = fits.no_phi (m.formed.phis_first w.block w.place k root inst fits.is_root h lt phi)

      phi_first : (b j n : ℕ) (earlier later : Inst) → InstStayed f w b j earlier ⊎ InstPut w b j earlier → (s : InstStayed f w b n later) → j < n → IsPhi s.inst.op → IsPhi earlier.op
      phi_first b j n earlier later (inl p) s lt phi =
          elim (cases_lt p.place s.place) [
            | inl less ↦ subst (λ (x : Inst). IsPhi x.op) p.is (phi_on w p.inst.op (m.formed.phis_first b p.place s.place p.inst s.inst p.is_inst s.is_inst less phi))
            | inr more ↦ absurd (apart (moved_place w b p.place) (moved_place w b s.place) (moved_up w b s.place p.place more) p.count s.count)
          ]
        where
          apart : (x y : ℕ) → y ≤ x → j ≡ x → n ≡ y → ⊥
          apart x y le e g = omega arith
      phi_first b j n earlier later (inr p) s lt phi =
          elim (cases_lt w.place s.place) [
            | inl less ↦ absurd (no_phi_behind s.place s.inst (subst (λ (c : ℕ). IsInst f c s.place s.inst) p.block s.is_inst) phi less)
            | inr more ↦ absurd (apart (moved_place w b s.place) (moved_unmoved w b s.place p.block more) s.count p.count more)
          ]
        where
          apart : (y : ℕ) → y ≡ s.place → n ≡ y → j ≡ w.place + p.place → s.place ≤ w.place → ⊥
          apart y e g at le = omega arith

      phis_first_on : (b j n : ℕ) (earlier later : Inst) → IsInst new b j earlier → IsInst new b n later → j < n → IsPhi later.op → IsPhi earlier.op
      phis_first_on b j n earlier later h g lt phi =
          elim (inst_back w f b n later g) [
            | inl s ↦ phi_first b j n earlier later (inst_back w f b j earlier h) s lt (phi_back w s.inst.op (subst (λ (x : Inst). IsPhi x.op) (sym s.is) phi))
            | inr p ↦ absurd (fits.no_phis_put p.place later p.is_put phi)
          ]

      formed_on : IsFormed new
      formed_on = record {
        some_block = let some : 0 < length f.blocks = m.formed.some_block in omega (arith, some, length-blocks w 0 f.blocks);
        names = names_differ f w root fits m.formed.names;
        registers = λ b n i r h. known new r.width r.operand (operands_on b n i r h);
        blocks = λ b c h. let lt : c < length f.blocks = m.formed.blocks b c (names_back w f b c h) in omega (arith, lt, length-blocks w 0 f.blocks);
        operands = operands_on;
        insts = insts_on;
        cases = λ b block h. let was : (x : Block) × IsBlock f b x × (rewritten_block w b x ≡ block) = block_back w f b block h in subst (λ (x : Block). CasesFit x.end) was.2 (cases_on w was.0.end (m.formed.cases b was.0 was.1));
        phis_first = phis_first_on;
        phis = phis_on;
        entry = λ b h. m.formed.entry b (names_back w f b 0 h);
      }

      reads_assigned : (b n i : ℕ) (r : Read) → IsRead new b n i r → ReadIsAssigned new r
      reads_assigned b n i r h register e =
          elim (read_back b n i r h) [
            | inl s ↦
                let old : Read = s.old in
                subst (λ (x : Read). IsAssigned new register x.block x.place) s.moved
                (assigned_on f w root fits old.operand register old.block old.place (ap (λ (x : Read). x.operand) s.moved ∙ e) (m.assigned b s.place i old s.is_read))
            | inr p ↦
                let there : IsThere w.block (w.place + p.place) r = put_there i r p in
                let a : IsAssigned new register w.block (w.place + p.place) = read_assigned f w root fits p.place r.width r.operand register (put_may i r p) e in
                subst (λ c. IsAssigned new register c r.place) (sym there.0) (subst (λ k. IsAssigned new register w.block k) (sym there.1) a)
          ]

      checked : MeetsChecks new
      checked = record { formed = formed_on; assigned = reads_assigned }

pub meets_checks : RewrittenFunctionsMeetChecks
meets_checks f w root m fits = checked f w root fits m

pub numbers_fit : RewrittenNumbersFit
numbers_fit f w root numbers fits = numbers_on f w root fits numbers
