-- What is known of the bits of a draft's results before a step, and behind it.
use Rattle.strategy.proofs.Common.{◌≡◌, ◌↔◌, ◌<◌, ℕ, List, length, Some, refl, sym, ap, subst, ◌∙◌, Contains, slice_get, slice_get_within, some_at, IsInst, IsPhi, IsReached, Function, Inst, Op, Read, reads_of, reads_at_inst, one_inst, Draft, Place, AreTouched, Stands, arena_of, IsSettled, IsSameDraft, is_arranged, stood, known_by, AreBitsBefore, AreBitsOf, DraftBits, HasSameBits, KnowsTheUntouched, facts_at, results_at, still_known}
use Rattle.ir_core.specs.declared.instruction.Op.TheVariants as ops

-- what an instruction reads that is no phi has nothing of the function
reads_same : (f g : Function) (b n N : ℕ) (op : Op) → ¬ IsPhi op → reads_of f b n N op ≡ reads_of g b n N op
reads_same f g b n N (ops.Binary opcode flags x y) no_phi = refl
reads_same f g b n N (ops.Compare pred samesign M x y) no_phi = refl
reads_same f g b n N (ops.Unary op truth x) no_phi = refl
reads_same f g b n N (ops.Select c x y) no_phi = refl
reads_same f g b n N (ops.Convert cast flags M x) no_phi = refl
reads_same f g b n N (ops.Freeze x) no_phi = refl
reads_same f g b n N (ops.Phi entries) no_phi = absurd (no_phi tt)

module _ (old new : Draft) (bits : DraftBits) (touched : List Place) (was : AreBitsOf old bits) (settled : IsSettled old) (are_touched : AreTouched old new touched)
    (blocks : length (arena_of new).blocks ≡ length (arena_of old).blocks) (reached : (b : ℕ) → IsReached (arena_of old) b ↔ IsReached (arena_of new) b) where
  -- of an instruction that stood something is known
  entry : (b n : ℕ) → IsReached (arena_of old) b → Stands old b n → n < length (results_at bits b)
  entry b n is_reached stood =
      let (block, is_block, within) = (is_arranged old settled).there b n stood in
      let (inst, at) = some_at block.insts n within in
      slice_get_within (results_at bits b) n _ (was.right b n inst (is_reached, stood) (record { block = block; is_block = is_block; is_inst = at }))

  pub kept_entry : (b n : ℕ) → IsReached (arena_of new) b → Stands new b n → ¬ Contains touched (record { block = b; number = n }) → n < length (results_at bits b)
  kept_entry b n is_reached stands free = entry b n ((reached b).1 is_reached) (are_touched b n stands free).stood

  -- what is known before the step stays right, but at the touched places
  pub bits_before : AreBitsBefore new touched bits
  bits_before = record {
    as_many = was.as_many ∙ sym blocks;
    blocks = λ b within. was.blocks b (subst (λ (n : ℕ). b < n) blocks within);
    right = λ b n inst stands free is.
        let same = are_touched b n stands.1 free in
        let here : IsInst (arena_of old) b n inst = subst (IsInst (arena_of old) b n) (one_inst (arena_of new) b n same.inst inst same.is is) same.was in
        was.right b n inst ((reached b).1 stands.0, same.stood) here;
    reads = λ b n i m inst r stands free is no_phi at reads.
        let same = are_touched b n stands.1 free in
        let here : IsInst (arena_of old) b n inst = subst (IsInst (arena_of old) b n) (one_inst (arena_of new) b n same.inst inst same.is is) same.was in
        let at_old : slice_get (reads_of (arena_of old) b n inst.width inst.op) i ≡ Some r = ap (λ (l : List Read). slice_get l i) (reads_same (arena_of old) (arena_of new) b n inst.width inst.op no_phi) ∙ at in
        let stood : Stands old b m = (is_arranged old settled).read_stands b n i b m r (ap (λ (l : List Read). slice_get l i) (reads_at_inst (arena_of old) b n inst here) ∙ at_old) reads in
        entry b m ((reached b).1 stands.0) stood;
    idle = was.idle;
  }

-- where what changed is told, the same is known at instructions of which nothing that they read changed
pub knows_still : (was now : DraftBits) (old new : Draft) (touched changed : List Place) → AreBitsOf old was → AreBitsOf new now → IsSettled old → IsSettled new → AreTouched old new touched
    → length (arena_of new).blocks ≡ length (arena_of old).blocks → ((b : ℕ) → IsReached (arena_of old) b ↔ IsReached (arena_of new) b)
    → ((p : Place) → Contains touched p → Contains changed p)
    → ((b n : ℕ) → n < length (results_at was b) → ¬ Contains changed (record { block = b; number = n }) → HasSameBits was now b n)
    → (b n : ℕ) → IsReached (arena_of new) b → Stands new b n → KnowsTheUntouched (known_by (facts_at was b)) (known_by (facts_at now b)) new changed b n
knows_still was now old new touched changed bits_old bits_new settled_old settled_new are_touched blocks reached more same b n is_reached stands =
    let (block, is_block, within) = (is_arranged new settled_new).there b n stands in
    let known : b < length (arena_of new).blocks = slice_get_within (arena_of new).blocks b block is_block in
    still_known was now new changed b n (bits_old.blocks b (subst (λ (k : ℕ). b < k) blocks known)) (bits_new.blocks b known)
    (λ m there free. same b m (kept_entry old new was touched bits_old settled_old are_touched blocks reached b m is_reached there (λ has. free (more (record { block = b; number = m }) has))) free)

-- the bits of a draft are those of one with the same arena and numbers
pub bits_stay : (old new : Draft) (bits : DraftBits) → IsSameDraft old new → AreBitsOf old bits → AreBitsOf new bits
bits_stay old new bits same are = record {
  as_many = are.as_many ∙ sym (ap (λ (f : Function). length f.blocks) same.arena);
  blocks = λ b within. are.blocks b (subst (λ (f : Function). b < length f.blocks) same.arena within);
  right = λ b n inst stands is.
      are.right b n inst (subst (λ (f : Function). IsReached f b) same.arena stands.0, stood old new same b n stands.1) (subst (λ (f : Function). IsInst f b n inst) same.arena is);
  idle = are.idle;
}
