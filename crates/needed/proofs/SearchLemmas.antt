-- The search for live instructions by a worklist.
use Rattle.needed.proofs.Common.{◌≡◌, ℕ, zero, suc, ◌+◌, ◌<◌, true, false, ◌⊎◌, inl, inr, List, [], ◌∷◌, ◌++◌, length, get_or, Option, None, Some, refl, sym, ap, subst, ◌∙◌, arith, All, Contains, map, slice_get, option_map, option_and_then, IsSome, cases_eq, Contains-append_left, Contains-append_right, Contains-append_cases, slice_get-map, slice_get_within, slice_get-get_or, Function, Block, Inst, Op, Binary, Compare, Unary, Select, Convert, Freeze, Phi, Operand, Register, Terminator, IsBlock, HasInst, IsKnown, Read, read, IsRead, end_of, reads_of, reads_at_end, reads_in, reads_at, IsNeeded, by_end, by_inst, ReadsRegister, KeepsNeeded, operands_of, operands_at_end, AreNumbers, number_of, IsNumbered, BlockIsNumbered, marks_by, IsMarked, Marked, IsSound, IsSearched, Search}
use Rattle.ir_core.specs.declared.operand.Operand.TheVariants as operands
use Rattle.ir_core.specs.declared.operand.Register.TheVariants as registers
use Rattle.ir_core.specs.declared.terminator.Terminator.TheVariants as terminators
use Rattle.needed.proofs.Counting.{mapped, contained_at, contains_at}
use Rattle.needed.proofs.Reading.{reads_at-inst, reads_at-end, end_of-is}
use Rattle.needed.proofs.NumberLemmas.{number-within, same_number, item_read}
use Rattle.needed.proofs.MarkLemmas.{result_of, only_one, contains_none}

-- ---- registers that are read are results of the function

abbrev pub AllKnown : Function → Type 0
AllKnown f = (b k i : ℕ) (r : Read) → IsRead f b k i r → IsKnown f r.operand

known_result : (f : Function) (d j : ℕ) → (o : Option Block) → slice_get f.blocks d ≡ o → IsSome (option_and_then (λ (block : Block). option_map (λ (i : Inst). i.width) (slice_get block.insts j)) o) → HasInst f d j
known_result f d j None e h = absurd cc
known_result f d j (Some block) e h = (block, e, inside block.insts j h)
  where
    inside : (insts : List Inst) (j : ℕ) → IsSome (option_map (λ (i : Inst). i.width) (slice_get insts j)) → j < length insts
    inside [] j h = absurd cc
    inside (i ∷ insts) zero h = omega arith
    inside (i ∷ insts) (suc j) h = let lt : j < length insts = inside insts j h in omega arith

pub read_has : (f : Function) → AllKnown f → (b k d j : ℕ) → ReadsRegister f b k (registers.Result d j) → HasInst f d j
read_has f known b k d j h =
    let is : IsKnown f (result_of d j) = subst (IsKnown f) h.reads (known b k h.operand h.read h.is_read) in
    known_result f d j (slice_get f.blocks d) refl is

-- ---- reads as a list of operands

abbrev operands_in : List Read → List Operand
operands_in reads = map (λ (r : Read). r.operand) reads

entries_in : (f : Function) (w : ℕ) (entries : List (Operand × ℕ)) → operands_in (map (λ (e : Operand × ℕ). read e.1 (end_of f e.1) w e.0) entries) ≡ map (λ (e : Operand × ℕ). e.0) entries
entries_in f w [] = refl
entries_in f w (e ∷ entries) = ap (λ l. e.0 ∷ l) (entries_in f w entries)

operands-of : (f : Function) (b k w : ℕ) (op : Op) → operands_in (reads_of f b k w op) ≡ operands_of op
operands-of f b k w (Binary op flags x y) = refl
operands-of f b k w (Compare pred samesign compared x y) = refl
operands-of f b k w (Select c x y) = refl
operands-of f b k w (Convert cast flags from x) = refl
operands-of f b k w (Unary op truth x) = refl
operands-of f b k w (Freeze x) = refl
operands-of f b k w (Phi entries) = entries_in f w entries

operands-at_end : (f : Function) (b k : ℕ) (t : Terminator) → operands_in (reads_at_end f b k t) ≡ operands_at_end t
operands-at_end f b k (terminators.Return a) = refl
operands-at_end f b k (terminators.Jump to) = refl
operands-at_end f b k (terminators.Branch c to other) = refl
operands-at_end f b k (terminators.Switch a width other cases) = refl
operands-at_end f b k terminators.Unreachable = refl

-- these are the operands of the instruction or the terminator at place k of block b
abbrev Reads : Function → ℕ → ℕ → List Operand → Type 0
Reads f b k reads = operands_in (reads_at f b k) ≡ reads

pub inst_reads : (f : Function) (b k : ℕ) (block : Block) (inst : Inst) → IsBlock f b block → slice_get block.insts k ≡ Some inst → Reads f b k (operands_of inst.op)
inst_reads f b k block inst at here = ap operands_in (reads_at-inst f b k block inst at here) ∙ operands-of f b k inst.width inst.op

pub end_reads : (f : Function) (b : ℕ) (block : Block) → IsBlock f b block → Reads f b (end_of f b) (operands_at_end block.end)
end_reads f b block at = ap (λ n. operands_in (reads_at f b n)) (end_of-is f b block at) ∙ ap operands_in (reads_at-end f b block at) ∙ operands-at_end f b (length block.insts) block.end

read_by : (f : Function) (b k : ℕ) (reads : List Operand) (r : Register) → Reads f b k reads → Contains reads (operands.Register r) → ReadsRegister f b k r
read_by f b k reads r is h =
    let at : (i : ℕ) × (slice_get reads i ≡ Some (operands.Register r)) = contained_at reads (operands.Register r) h in
    let found : (x : Read) × (slice_get (reads_at f b k) at.0 ≡ Some x) × (x.operand ≡ operands.Register r) =
    mapped (λ (r : Read). r.operand) (slice_get (reads_at f b k) at.0) (operands.Register r) (sym (slice_get-map (λ (r : Read). r.operand) (reads_at f b k) at.0) ∙ ap (λ l. slice_get l at.0) is ∙ at.1) in
    record { operand = at.0; read = found.0; is_read = found.1; reads = found.2 }

contains_read : (f : Function) (b k : ℕ) (reads : List Operand) (r : Register) → Reads f b k reads → ReadsRegister f b k r → Contains reads (operands.Register r)
contains_read f b k reads r is h =
    contains_at reads (operands.Register r) h.operand (ap (λ l. slice_get l h.operand) (sym is) ∙ slice_get-map (λ (r : Read). r.operand) (reads_at f b k) h.operand ∙ ap (option_map (λ (r : Read). r.operand)) h.is_read ∙ ap (λ a. Some a) h.reads)

-- ---- each operand has a number

module _ (f : Function) (known : AllKnown f) (firsts : List ℕ) (count : ℕ) (n : AreNumbers f.blocks firsts count) where
  operand_numbered : (b k : ℕ) (a : Operand) → ((r : Register) → a ≡ operands.Register r → ReadsRegister f b k r) → IsNumbered firsts count a
  operand_numbered b k (operands.Register (registers.Parameter p)) h = tt
  operand_numbered b k (operands.Register (registers.Result d j)) h = number-within f firsts count n d j (read_has f known b k d j (h (registers.Result d j) refl))
  operand_numbered b k (operands.Number x) h = tt
  operand_numbered b k operands.Undef h = tt
  operand_numbered b k operands.Poison h = tt

  pub reads_numbered : (b k : ℕ) (reads : List Operand) → Reads f b k reads → All (IsNumbered firsts count) reads
  reads_numbered b k reads is i d lt = operand_numbered b k (get_or reads i d) (λ r e. read_by f b k reads r is (contains_at reads (operands.Register r) i (slice_get-get_or reads i d lt ∙ ap (λ a. Some a) e)))

  -- ---- one step of the search

  abbrev Needed : ℕ × ℕ → Type 0
  Needed x = HasInst f x.0 x.1 × IsNeeded f (registers.Result x.0 x.1)

  moved_to : (b k d j : ℕ) → (b ≡ d) × (k ≡ j) → IsNeeded f (registers.Result b k) → IsNeeded f (registers.Result d j)
  moved_to b k d j same h = subst (λ d. IsNeeded f (registers.Result d j)) same.0 (subst (λ j. IsNeeded f (registers.Result b j)) same.1 h)

  sound_more : (reads : List Operand) (s t : Search) → Marked firsts reads s t → ((x : ℕ × ℕ) → Contains reads (result_of x.0 x.1) → Needed x) → IsSound f firsts count s → IsSound f firsts count t
  sound_more reads s t m needs sound = record {
    size = m.count ∙ sound.size;
    work = λ x c. elim (Contains-append_cases s.work.items m.more x (subst (λ l. Contains l x) m.work c)) [
      | inl old ↦ sound.work x old
      | inr new ↦ needs x (m.read x new)
    ];
    needed = λ b k has marked. elim (m.new_marks (number_of firsts b k) marked) [
      | inl old ↦ sound.needed b k has old
      | inr x ↦ let need : Needed x.0 = needs x.0 (m.read x.0 x.1) in moved_to x.0.0 x.0.1 b k (same_number f firsts count n x.0.0 x.0.1 b k need.0 has x.2) need.1
    ];
  }

  -- an instruction that is newly marked is on the worklist
  followed_more : (reads : List Operand) (s t : Search) (b k d j : ℕ) → Marked firsts reads s t → ((x : ℕ × ℕ) → Contains reads (result_of x.0 x.1) → Needed x) → HasInst f b k → IsMarked t (number_of firsts b k)
      → (IsMarked s (number_of firsts b k) → Contains s.work.items (b, k) ⊎ (ReadsRegister f b k (registers.Result d j) → IsMarked t (number_of firsts d j)))
      → Contains t.work.items (b, k) ⊎ (ReadsRegister f b k (registers.Result d j) → IsMarked t (number_of firsts d j))
  followed_more reads s t b k d j m needs has marked before =
      elim (m.new_marks (number_of firsts b k) marked) [
        | inl old ↦ elim (before old) [
          | inl work ↦ inl (subst (λ l. Contains l (b, k)) (sym m.work) (Contains-append_left s.work.items m.more (b, k) work))
          | inr reads ↦ inr reads
        ]
        | inr x ↦
            let need : Needed x.0 = needs x.0 (m.read x.0 x.1) in
            let same : (x.0.0 ≡ b) × (x.0.1 ≡ k) = same_number f firsts count n x.0.0 x.0.1 b k need.0 has x.2 in
            let new : Contains m.more (b, k) = subst (λ d. Contains m.more (d, k)) same.0 (subst (λ j. Contains m.more (x.0.0, j)) same.1 x.1) in
            inl (subst (λ l. Contains l (b, k)) (sym m.work) (Contains-append_right s.work.items m.more (b, k) new))
      ]

  -- the terminator of one more block was looked at
  pub search_end : (b : ℕ) (block : Block) (s t : Search) → IsBlock f b block → IsSearched f firsts count b s → Marked firsts (operands_at_end block.end) s t → IsSearched f firsts count (b + 1) t
  search_end b block s t at h m =
      let is : Reads f b (end_of f b) (operands_at_end block.end) = end_reads f b block at in
      let needs : (x : ℕ × ℕ) → Contains (operands_at_end block.end) (result_of x.0 x.1) → Needed x =
      λ x c. let r : ReadsRegister f b (end_of f b) (registers.Result x.0 x.1) = read_by f b (end_of f b) (operands_at_end block.end) (registers.Result x.0 x.1) is c in (read_has f known b (end_of f b) x.0 x.1 r, by_end b r) in
      record {
        sound = sound_more (operands_at_end block.end) s t m needs h.sound;
        ends = λ c d j lt r. elim (cases_eq c b) [
          | inl same ↦
              let own : ReadsRegister f b (end_of f b) (registers.Result d j) = subst (λ c. ReadsRegister f c (end_of f c) (registers.Result d j)) same r in
              m.marks d j (contains_read f b (end_of f b) (operands_at_end block.end) (registers.Result d j) is own)
          | inr ne ↦ m.stays (number_of firsts d j) (h.ends c d j (omega arith) r)
        ];
        followed = λ c k d j has marked. followed_more (operands_at_end block.end) s t c k d j m needs has marked
            (λ old. elim (h.followed c k d j has old) [ inl work ↦ inl work | inr reads ↦ inr (λ r. m.stays (number_of firsts d j) (reads r)) ]);
      }

  -- an instruction was taken from the worklist
  pub search_inst : (blocks b k : ℕ) (block : Block) (inst : Inst) (old s t : Search) → IsBlock f b block → slice_get block.insts k ≡ Some inst
      → IsSearched f firsts count blocks old → old.marks.items ≡ s.marks.items → old.work.items ≡ s.work.items ++ (b, k) ∷ [] → Marked firsts (operands_of inst.op) s t → IsSearched f firsts count blocks t
  search_inst blocks b k block inst old s t at here h marks_are work_is m =
      let is : Reads f b k (operands_of inst.op) = inst_reads f b k block inst at here in
      let need : IsNeeded f (registers.Result b k) = (h.sound.work (b, k) (subst (λ l. Contains l (b, k)) (sym work_is) (Contains-append_right s.work.items ((b, k) ∷ []) (b, k) (contains_at ((b, k) ∷ []) (b, k) 0 refl)))).1 in
      let needs : (x : ℕ × ℕ) → Contains (operands_of inst.op) (result_of x.0 x.1) → Needed x =
      λ x c. let r : ReadsRegister f b k (registers.Result x.0 x.1) = read_by f b k (operands_of inst.op) (registers.Result x.0 x.1) is c in (read_has f known b k x.0 x.1 r, by_inst b k need r) in
      let still : (i : ℕ) → IsMarked old i → IsMarked t i = λ i marked. m.stays i (subst (λ l. get_or l i false ≡ true) marks_are marked) in
      let was : (i : ℕ) → IsMarked s i → IsMarked old i = λ i marked. subst (λ l. get_or l i false ≡ true) (sym marks_are) marked in
      record {
        sound = sound_more (operands_of inst.op) s t m needs (record {
          size = ap length (sym marks_are) ∙ h.sound.size;
          work = λ x c. h.sound.work x (subst (λ l. Contains l x) (sym work_is) (Contains-append_left s.work.items ((b, k) ∷ []) x c));
          needed = λ c l has marked. h.sound.needed c l has (was (number_of firsts c l) marked);
        });
        ends = λ c d j lt r. still (number_of firsts d j) (h.ends c d j lt r);
        followed = λ c l d j has marked. followed_more (operands_of inst.op) s t c l d j m needs has marked
            (λ before. elim (h.followed c l d j has (was (number_of firsts c l) before)) [
              | inl work ↦ elim (Contains-append_cases s.work.items ((b, k) ∷ []) (c, l) (subst (λ w. Contains w (c, l)) work_is work)) [
                | inl rest ↦ inl rest
                | inr own ↦ inr (λ r.
                    let same : (b, k) ≡ (c, l) = only_one (b, k) (c, l) own in
                    m.marks d j (contains_read f b k (operands_of inst.op) (registers.Result d j) is (subst (λ (x : ℕ × ℕ). ReadsRegister f x.0 x.1 (registers.Result d j)) (sym same) r)))
              ]
              | inr reads ↦ inr (λ r. still (number_of firsts d j) (reads r))
            ]);
      }

  -- ---- where the search begins and ends

  -- the register is a parameter, or its instruction is marked
  abbrev Reached : Search → Register → Type 0
  Reached s (registers.Parameter p) = Unit {0}
  Reached s (registers.Result b k) = IsMarked s (number_of firsts b k)

  needed_has : (b k : ℕ) (r : Register) → r ≡ registers.Result b k → IsNeeded f r → HasInst f b k
  needed_has b k r is (by_end c reads) = read_has f known c (end_of f c) b k (subst (ReadsRegister f c (end_of f c)) is reads)
  needed_has b k r is (by_inst c l h reads) = read_has f known c l b k (subst (ReadsRegister f c l) is reads)

  block_of_read : (b k : ℕ) (r : Register) → ReadsRegister f b k r → b < length f.blocks
  block_of_read b k r h = by (slice_get f.blocks b) refl h.is_read
    where
      by : (o : Option Block) → slice_get f.blocks b ≡ o → slice_get (reads_in f b k o) h.operand ≡ Some h.read → b < length f.blocks
      by None e i = absurd cc
      by (Some block) e i = slice_get_within f.blocks b block e

  complete : (s : Search) → IsSearched f firsts count (length f.blocks) s → s.work.items ≡ [] → (r : Register) → IsNeeded f r → Reached s r
  complete s h no_work (registers.Parameter p) need = tt
  complete s h no_work (registers.Result d j) (by_end b reads) = h.ends b d j (block_of_read b (end_of f b) (registers.Result d j) reads) reads
  complete s h no_work (registers.Result d j) (by_inst b k need reads) =
      elim (h.followed b k d j (needed_has b k (registers.Result b k) refl need) (complete s h no_work (registers.Result b k) need)) [
        | inl work ↦ absurd (contains_none (b, k) (subst (λ l. Contains l (b, k)) no_work work))
        | inr follow ↦ follow reads
      ]

  pub search_ends : (s : Search) → IsSearched f firsts count (length f.blocks) s → s.work.items ≡ [] → KeepsNeeded f (marks_by firsts s.marks.items)
  search_ends s h no_work b k has = (h.sound.needed b k has, complete s h no_work (registers.Result b k))

-- ---- what the search looks up

-- an instruction on the worklist is one of the function
pub work_has : (f : Function) (firsts : List ℕ) (count blocks b k : ℕ) (old : Search) (rest : List (ℕ × ℕ)) → IsSearched f firsts count blocks old → old.work.items ≡ rest ++ (b, k) ∷ [] → HasInst f b k
work_has f firsts count blocks b k old rest h is =
    (h.sound.work (b, k) (subst (λ l. Contains l (b, k)) (sym is) (Contains-append_right rest ((b, k) ∷ []) (b, k) (contains_at ((b, k) ∷ []) (b, k) 0 refl)))).0

pub place_within : (f : Function) (b k : ℕ) (block : Block) → HasInst f b k → IsBlock f b block → k < length block.insts
place_within f b k block has at =
    let both : Some has.0 ≡ Some block = sym has.1 ∙ at in
    let is : has.0 ≡ block = cc in
    subst (λ (x : Block). k < length x.insts) is has.2

pub numbered_for : (firsts : List ℕ) (reads : List Operand) (n m : ℕ) → m ≡ n → All (IsNumbered firsts n) reads → All (IsNumbered firsts m) reads
numbered_for firsts reads n m same h = subst (λ n. All (IsNumbered firsts n) reads) (sym same) h

-- the block and the instruction that are looked up for it
pub block_looked_at : (f : Function) (b k : ℕ) (items : List Block) (block : Block) → HasInst f b k → items ≡ f.blocks → block ≡ get_or items b block → slice_get f.blocks b ≡ Some block
block_looked_at f b k items block has same here =
    let within : b < length f.blocks = slice_get_within f.blocks b has.0 has.1 in
    item_read f.blocks items b block same (omega (arith, within, ap length same)) here

pub inst_looked_at : (f : Function) (b k : ℕ) (block : Block) (items : List Inst) (inst : Inst) → HasInst f b k → IsBlock f b block → items ≡ block.insts → inst ≡ get_or items k inst → slice_get block.insts k ≡ Some inst
inst_looked_at f b k block items inst has at same here =
    let within : k < length block.insts = place_within f b k block has at in
    item_read block.insts items k inst same (omega (arith, within, ap length same)) here

-- all operands of each block have numbers
pub blocks_numbered : (f : Function) → AllKnown f → (firsts : List ℕ) (count : ℕ) → AreNumbers f.blocks firsts count → All (BlockIsNumbered firsts count) f.blocks
blocks_numbered f known firsts count n b d lt = record {
  insts = λ k e inside. reads_numbered f known firsts count n b k (operands_of (get_or block.insts k e).op) (inst_reads f b k block (get_or block.insts k e) at (slice_get-get_or block.insts k e inside));
  end = reads_numbered f known firsts count n b (end_of f b) (operands_at_end block.end) (end_reads f b block at);
}
  where
    block : Block
    block = get_or f.blocks b d

    at : slice_get f.blocks b ≡ Some (get_or f.blocks b d)
    at = slice_get-get_or f.blocks b d lt
