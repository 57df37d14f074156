-- What is known of the results of a block: one by one, and in as many bits as they have.
use Rattle.known_bits.proofs.Common.{◌≡◌, ℕ, zero, suc, ◌+◌, ◌-◌, ◌<◌, ◌≤◌, ◌==◌, nat_lt, List, [], ◌∷◌, ◌++◌, map, length, get_or, take, drop, replicate, Option, None, Some, refl, sym, ap, subst, ◌∙◌, ⊎_elim, arith, append_assoc, append-nil, length-append, fold, slice_get, unwrap_or, option_map, cases_lt, cond_both, eqb-true, length-map, length-replicate, length-take, length-take-le, length_push, take_all, take_more, take-take, take-append-drop, drop_more, get_or-take, get_or_at, fold-append, none-some, same_Some, slice_get_within, slice_get_read, slice_get_cases, get_or_from_slice_get, Number, binary_digits, Add, Sub, Mul, UDiv, SDiv, URem, SRem, Shl, LShr, AShr, And, Or, Xor, UMin, UMax, SMin, SMax, Trunc, ZExt, SExt, KnownBit, Zero, One, Unknown, Up, Down, certain, known_not, known_and, known_or, known_xor, known_agreed, moved, length-moved, Function, Block, Inst, Op, Operand, IsFormed, IsInst, IsPhi, IsTyped, OperandHasWidth, read, OperandsHaveWidths, width_known, inst_widths, unknown, top_of, shifted, known_result, known_operand, known_results, insts_of, HaveWidths}
use Rattle.ir_core.specs.declared.instruction.Op.TheVariants as ops
use Rattle.ir_core.specs.declared.operand.Operand.TheVariants as operands
use Rattle.ir_core.specs.declared.operand.Register.TheVariants as registers
use Rattle.known_bits.proofs.Having.{width_both}
use Rattle.known_bits.proofs.Sums.{width_known_sum}
use Rattle.known_bits.proofs.Numbers.{length_digits}

-- ---- one by one
-- what is known after one instruction more
abbrev pub and_next : ℕ → List (List KnownBit) → Inst → List (List KnownBit)
and_next b before inst = before ++ known_result (known_operand b before) inst.width inst.op ∷ []

pub results_none : (b : ℕ) → known_results b [] ≡ []
unfolding known_results
results_none b = refl

pub results_push : (b : ℕ) (insts : List Inst) (inst : Inst) → known_results b (insts ++ inst ∷ []) ≡ and_next b (known_results b insts) inst
unfolding known_results
results_push b insts inst = fold-append (and_next b) [] insts (inst ∷ [])

length_from : (b : ℕ) (before : List (List KnownBit)) (insts : List Inst) → length (fold (and_next b) before insts) ≡ length before + length insts
length_from b before [] = omega arith
length_from b before (i ∷ insts) =
    let bits = known_result (known_operand b before) i.width i.op in
    omega (arith, length_from b (before ++ bits ∷ []) insts, length_push before bits)

pub length_results : (b : ℕ) (insts : List Inst) → length (known_results b insts) ≡ length insts
unfolding known_results
length_results b insts = omega (arith, length_from b [] insts)

-- the earlier results stand at the front
front : (b : ℕ) (before : List (List KnownBit)) (insts : List Inst) → (more : List (List KnownBit)) × (fold (and_next b) before insts ≡ before ++ more)
front b before [] = ([], sym (append-nil before))
front b before (i ∷ insts) =
    let bits = known_result (known_operand b before) i.width i.op in
    let rest = front b (before ++ bits ∷ []) insts in
    (bits ∷ rest.0, rest.1 ∙ append_assoc before (bits ∷ []) rest.0)

result_behind : (b : ℕ) (insts : List Inst) (inst : Inst) (rest : List Inst) → slice_get (known_results b (insts ++ inst ∷ rest)) (length insts) ≡ Some (known_result (known_operand b (known_results b insts)) inst.width inst.op)
unfolding known_results
result_behind b insts inst rest =
    let before = known_results b insts in
    let bits = known_result (known_operand b before) inst.width inst.op in
    let more = front b (before ++ bits ∷ []) rest in
    let all : known_results b (insts ++ inst ∷ rest) ≡ before ++ bits ∷ more.0 = fold-append (and_next b) [] insts (inst ∷ rest) ∙ more.1 ∙ append_assoc before (bits ∷ []) more.0 in
    let place : length before ≡ length insts = length_results b insts in
    let size : length (before ++ bits ∷ more.0) ≡ length before + suc (length more.0) = length-append before (bits ∷ more.0) in
    rw all (slice_get_read (before ++ bits ∷ more.0) (length before + suc (length more.0)) (length insts) bits (sym size) (omega arith) (sym (get_or_at before bits more.0 bits (length insts) place)))

-- the instructions before place k, split at instruction j
split : (insts : List Inst) (j k : ℕ) (inst : Inst) → slice_get insts j ≡ Some inst → j < k → (rest : List Inst) × (take k insts ≡ take j insts ++ inst ∷ rest)
split insts j k inst at before =
    let inside : j < length insts = slice_get_within insts j inst at in
    let shorter : take j (take k insts) ≡ take j insts = take-take j k insts (omega arith) in
    let longer : j < length (take k insts) = ⊎_elim
    (λ (h : k < length insts). let whole : length (take k insts) ≡ k = length-take-le k insts (omega arith) in rw whole before)
    (λ (h : length insts ≤ k). let whole : take k insts ≡ insts = take_all k insts h in rw whole inside)
    (cases_lt k (length insts)) in
    let here : get_or (take k insts) j inst ≡ inst = get_or-take k insts j inst before ∙ get_or_from_slice_get insts j inst inst at in
    let rest = drop (j + 1) (take k insts) in
    (rest, sym (take-append-drop j (take k insts)) ∙ rw (shorter, drop_more (take k insts) j inst longer, here) refl)

-- each of the first k instructions is one of all
pub among : (insts : List Inst) (k j : ℕ) → j < length (take k insts) → (inst : Inst) × (slice_get insts j ≡ Some inst) × (j < k)
among insts k j inside =
    let few : j < k = omega (arith, length-take k insts) in
    ⊎_elim (λ h. (h.0, h.2, few)) (λ h. absurd (omega (arith, length-take k insts, h.0))) (slice_get_cases insts j).1

-- what is known of the result of instruction j is what the table says by the results before it
pub result_at : (b : ℕ) (insts : List Inst) (j k : ℕ) (inst : Inst) → slice_get insts j ≡ Some inst → j < k → slice_get (known_results b (take k insts)) j ≡ Some (known_result (known_operand b (known_results b (take j insts))) inst.width inst.op)
result_at b insts j k inst at before =
    let parts = split insts j k inst at before in
    let inside : j < length insts = slice_get_within insts j inst at in
    let place : length (take j insts) ≡ j = length-take-le j insts (omega arith) in
    rw parts.1 (subst (λ n. slice_get (known_results b (take j insts ++ inst ∷ parts.0)) n ≡ Some (known_result (known_operand b (known_results b (take j insts))) inst.width inst.op)) place (result_behind b (take j insts) inst parts.0))

-- ---- an operand
-- it is a number, a result of which something was found, or of it nothing is known
pub operand_cases : (P : List KnownBit → Type 0) (b : ℕ) (results : List (List KnownBit)) (N : ℕ) (x : Operand)
    → ((n : Number) → x ≡ operands.Number n → P (map certain (binary_digits n.width n.number)))
    → ((k : ℕ) (bits : List KnownBit) → x ≡ operands.Register (registers.Result b k) → slice_get results k ≡ Some bits → P bits)
    → P (unknown N) → P (known_operand b results N x)
operand_cases P b results N (operands.Number n) number result other = number n refl
operand_cases P b results N (operands.Register (registers.Parameter p)) number result other = other
operand_cases P b results N operands.Undef number result other = other
operand_cases P b results N operands.Poison number result other = other
operand_cases P b results N (operands.Register (registers.Result c k)) number result other =
    cond_both (c == b) (unwrap_or (slice_get results k) (unknown N)) (unknown N) P (λ here. found (eqb-true c b here) (slice_get results k) refl) (λ _. other)
  where
    found : c ≡ b → (o : Option (List KnownBit)) → slice_get results k ≡ o → P (unwrap_or o (unknown N))
    found same None e = other
    found same (Some bits) e = result k bits (ap (λ d. operands.Register (registers.Result d k)) same) e

-- ---- widths
shifted_width : (N : ℕ) (y : Operand) (by : ℕ → List KnownBit) → ((n : ℕ) → length (by n) ≡ N) → length (shifted N y by) ≡ N
shifted_width N (operands.Number n) by all = cond_both (nat_lt n.number N) (by n.number) (unknown N) (λ bits. length bits ≡ N) (λ _. all n.number) (λ _. length-replicate N Unknown)
shifted_width N (operands.Register r) by all = length-replicate N Unknown
shifted_width N operands.Undef by all = length-replicate N Unknown
shifted_width N operands.Poison by all = length-replicate N Unknown

longer : (p : List KnownBit) (M N : ℕ) (k : KnownBit) → length p ≡ M → M < N → length (p ++ replicate (N - M) k) ≡ N
longer p M N k width more = length-append p (replicate (N - M) k) ∙ rw (length-replicate (N - M) k, width) (omega arith)

pub result_width : (known : ℕ → Operand → List KnownBit) (N : ℕ) (op : Op) → HaveWidths known N op → length (known_result known N op) ≡ N
result_width known N (ops.Binary And flags x y) h = width_both known_and (known N x) (known N y) (h.1 ∙ sym h.0) ∙ h.0
result_width known N (ops.Binary Or flags x y) h = width_both known_or (known N x) (known N y) (h.1 ∙ sym h.0) ∙ h.0
result_width known N (ops.Binary Xor flags x y) h = width_both known_xor (known N x) (known N y) (h.1 ∙ sym h.0) ∙ h.0
result_width known N (ops.Binary Add flags x y) h = width_known_sum Zero (known N x) (known N y) (h.1 ∙ sym h.0) ∙ h.0
result_width known N (ops.Binary Sub flags x y) h = width_known_sum One (known N x) (map known_not (known N y)) (length-map (known N y) known_not ∙ h.1 ∙ sym h.0) ∙ h.0
result_width known N (ops.Binary Shl flags x y) h = shifted_width N y (λ n. moved Up Zero n (known N x)) (λ n. length-moved Up Zero n (known N x) ∙ h.0)
result_width known N (ops.Binary LShr flags x y) h = shifted_width N y (λ n. moved Down Zero n (known N x)) (λ n. length-moved Down Zero n (known N x) ∙ h.0)
result_width known N (ops.Binary AShr flags x y) h = shifted_width N y (λ n. moved Down (top_of (known N x)) n (known N x)) (λ n. length-moved Down (top_of (known N x)) n (known N x) ∙ h.0)
result_width known N (ops.Binary Mul flags x y) h = length-replicate N Unknown
result_width known N (ops.Binary UDiv flags x y) h = length-replicate N Unknown
result_width known N (ops.Binary SDiv flags x y) h = length-replicate N Unknown
result_width known N (ops.Binary URem flags x y) h = length-replicate N Unknown
result_width known N (ops.Binary SRem flags x y) h = length-replicate N Unknown
result_width known N (ops.Binary UMin flags x y) h = length-replicate N Unknown
result_width known N (ops.Binary UMax flags x y) h = length-replicate N Unknown
result_width known N (ops.Binary SMin flags x y) h = length-replicate N Unknown
result_width known N (ops.Binary SMax flags x y) h = length-replicate N Unknown
result_width known N (ops.Select c x y) h = width_both known_agreed (known N x) (known N y) (h.1 ∙ sym h.0) ∙ h.0
result_width known N (ops.Convert Trunc flags M x) h =
    let inside : N ≤ length (known M x) = omega (arith, h.0, h.1) in
    length-take-le N (known M x) inside
result_width known N (ops.Convert ZExt flags M x) h = longer (known M x) M N Zero h.0 h.1
result_width known N (ops.Convert SExt flags M x) h = longer (known M x) M N (top_of (known M x)) h.0 h.1
result_width known N (ops.Compare pred samesign M x y) h = length-replicate N Unknown
result_width known N (ops.Unary op truth x) h = length-replicate N Unknown
result_width known N (ops.Freeze x) h = length-replicate N Unknown
result_width known N (ops.Phi entries) h = length-replicate N Unknown

-- an instruction of a function that is formed reads operands of its widths
have_widths : (f : Function) (known : ℕ → Operand → List KnownBit) (N : ℕ) (op : Op) → IsTyped N op → (¬ IsPhi op → OperandsHaveWidths f N op) → ((M : ℕ) (x : Operand) → OperandHasWidth f M x → length (known M x) ≡ M) → HaveWidths known N op
have_widths f known N (ops.Binary op flags x y) typed reads widths = (widths N x (reads (λ h. h) 0 0 0 (read 0 0 N x) refl), widths N y (reads (λ h. h) 0 0 1 (read 0 0 N y) refl))
have_widths f known N (ops.Select c x y) typed reads widths = (widths N x (reads (λ h. h) 0 0 1 (read 0 0 N x) refl), widths N y (reads (λ h. h) 0 0 2 (read 0 0 N y) refl))
have_widths f known N (ops.Convert cast flags M x) typed reads widths = (widths M x (reads (λ h. h) 0 0 0 (read 0 0 M x) refl), typed.1)
have_widths f known N (ops.Compare pred samesign M x y) typed reads widths = tt
have_widths f known N (ops.Unary op truth x) typed reads widths = tt
have_widths f known N (ops.Freeze x) typed reads widths = tt
have_widths f known N (ops.Phi entries) typed reads widths = tt

-- the instructions of a block are the function's
inst_from : (f : Function) (b j : ℕ) (inst : Inst) (o : Option Block) → slice_get f.blocks b ≡ o → slice_get (unwrap_or (option_map (λ (block : Block). block.insts) o) []) j ≡ Some inst → IsInst f b j inst
inst_from f b j inst None at h = absurd (none-some inst h)
inst_from f b j inst (Some block) at h = record { block = block; is_block = at; is_inst = h }

pub is_inst : (f : Function) (b j : ℕ) (inst : Inst) → slice_get (insts_of f b) j ≡ Some inst → IsInst f b j inst
is_inst f b j inst h = inst_from f b j inst (slice_get f.blocks b) refl h

module _ (f : Function) (formed : IsFormed f) (b : ℕ) where
  -- so far each result has as many bits as its width says
  abbrev WidthsTo : ℕ → Type 0
  WidthsTo k = (j : ℕ) (inst : Inst) → j < k → slice_get (insts_of f b) j ≡ Some inst → length (known_result (known_operand b (known_results b (take j (insts_of f b)))) inst.width inst.op) ≡ inst.width

  width_at : (k : ℕ) → WidthsTo k → (N : ℕ) (x : Operand) → OperandHasWidth f N x → length (known_operand b (known_results b (take k (insts_of f b))) N x) ≡ N
  width_at k so_far N x has =
      operand_cases (λ bits. length bits ≡ N) b (known_results b (take k (insts_of f b))) N x
      (λ n is. length-map (binary_digits n.width n.number) certain ∙ length_digits n.width n.number ∙ subst (OperandHasWidth f N) is has)
      (λ j bits is at. of_result j bits (subst (OperandHasWidth f N) is has) at)
      (length-replicate N Unknown)
    where
      of_result : (j : ℕ) (bits : List KnownBit) → OperandHasWidth f N (operands.Register (registers.Result b j)) → slice_get (known_results b (take k (insts_of f b))) j ≡ Some bits → length bits ≡ N
      of_result j bits known at =
          let inside : j < length (take k (insts_of f b)) = subst (λ n. j < n) (length_results b (take k (insts_of f b))) (slice_get_within (known_results b (take k (insts_of f b))) j bits at) in
          let found = among (insts_of f b) k j inside in
          let here = is_inst f b j found.0 found.1 in
          let is_bits : bits ≡ known_result (known_operand b (known_results b (take j (insts_of f b)))) found.0.width found.0.op = same_Some bits _ (sym at ∙ result_at b (insts_of f b) j k found.0 found.1 found.2) in
          let is_width : found.0.width ≡ N = same_Some found.0.width N (sym (width_known f b j here.block found.0 here.is_block here.is_inst) ∙ known) in
          ap length is_bits ∙ so_far j found.0 found.2 found.1 ∙ is_width

  widths_of : (k : ℕ) → WidthsTo k → (j : ℕ) (inst : Inst) → slice_get (insts_of f b) j ≡ Some inst → HaveWidths (known_operand b (known_results b (take k (insts_of f b)))) inst.width inst.op
  widths_of k so_far j inst at =
      let here = is_inst f b j inst at in
      have_widths f (known_operand b (known_results b (take k (insts_of f b)))) inst.width inst.op (formed.insts b j inst here) (inst_widths f formed b j inst here) (width_at k so_far)

  widths_to : (k : ℕ) → WidthsTo k
  widths_to zero j inst before at = absurd (omega arith)
  widths_to (suc k) j inst before at =
      ⊎_elim
      (λ (h : j < k). widths_to k j inst h at)
      (λ (h : k ≤ j).
      let same : k ≡ j = omega arith in
      let widths : HaveWidths (known_operand b (known_results b (take j (insts_of f b)))) inst.width inst.op = subst (λ n. HaveWidths (known_operand b (known_results b (take n (insts_of f b)))) inst.width inst.op) same (widths_of k (widths_to k) j inst at) in
      result_width (known_operand b (known_results b (take j (insts_of f b)))) inst.width inst.op widths)
      (cases_lt j k)

  pub operand_width : (k N : ℕ) (x : Operand) → OperandHasWidth f N x → length (known_operand b (known_results b (take k (insts_of f b))) N x) ≡ N
  operand_width k N x has = width_at k (widths_to k) N x has

  pub inst_has_widths : (k j : ℕ) (inst : Inst) → slice_get (insts_of f b) j ≡ Some inst → HaveWidths (known_operand b (known_results b (take k (insts_of f b)))) inst.width inst.op
  inst_has_widths k j inst at = widths_of k (widths_to k) j inst at

-- ---- the code's steps
pub few_bits : (known : ℕ → Operand → List KnownBit) (N : ℕ) (op : Op) (bits : List KnownBit) → bits ≡ known_result known N op → HaveWidths known N op → N ≤ 64 → length bits ≤ 64
few_bits known N op bits is widths few = omega (arith, ap length is, result_width known N op widths)

-- the results with that of one instruction more
pub results_more : (b : ℕ) (insts : List Inst) (i : ℕ) (inst : Inst) (results more : List (List KnownBit)) (bits : List KnownBit) → i < length insts → inst ≡ get_or insts i inst → results ≡ known_results b (take i insts)
    → bits ≡ known_result (known_operand b results) inst.width inst.op → more ≡ results ++ bits ∷ [] → more ≡ known_results b (take (i + 1) insts)
results_more b insts i inst results more bits inside at so_far is pushed =
    let longer : take (i + 1) insts ≡ take i insts ++ inst ∷ [] = take_more insts i inst inside ∙ ap (λ x. take i insts ++ x ∷ []) (sym at) in
    rw (pushed, is, so_far, longer) (sym (results_push b (take i insts) inst))

-- the block as it is read
module _ (f : Function) (b : ℕ) (block : Block) (known : b < length f.blocks) (at : block ≡ get_or f.blocks b block) where
  pub insts_are : insts_of f b ≡ block.insts
  insts_are = let e : slice_get f.blocks b ≡ Some block = slice_get_read f.blocks (length f.blocks) b block refl known at in rw e refl

  pub read_has_widths : IsFormed f → (place i : ℕ) (inst : Inst) → i < length (take place block.insts) → inst ≡ get_or (take place block.insts) i inst → HaveWidths (known_operand b (known_results b (take i (take place block.insts)))) inst.width inst.op
  read_has_widths formed place i inst inside here =
      let found = among block.insts place i inside in
      let few : i < place = found.2 in
      let is_inst : inst ≡ found.0 = here ∙ get_or-take place block.insts i inst few ∙ get_or_from_slice_get block.insts i found.0 inst found.1 in
      let at_place : slice_get (insts_of f b) i ≡ Some inst = rw (insts_are, is_inst) found.1 in
      let shorter : take i (take place block.insts) ≡ take i (insts_of f b) = take-take i place block.insts (omega arith) ∙ ap (take i) (sym insts_are) in
      subst (λ front. HaveWidths (known_operand b (known_results b front)) inst.width inst.op) (sym shorter) (inst_has_widths f formed b i i inst at_place)
