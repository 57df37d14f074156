use Rattle.needed.proofs.Common.{◌≡◌, ◌+◌, ◌<◌, ◌↔◌, ◌⊎◌, inl, inr, ℕ, Bool, true, false, List, Contains, length, Some, sym, ap, subst, ◌∙◌, arith, slice_get, cases_Bool, cases_eq, same_Some, slice_get_within, HasInst, IsBlock, Block, Function, marks_by}
use Rattle.needed.proofs.NumberLemmas.{block_within, item_read}
use Rattle.needed.proofs.unneeded.unneeded_insts.Goals as goal

-- the unmarked instructions of the first blocks
abbrev AreFirst : Function → List ℕ → List Bool → List (ℕ × ℕ) → ℕ → Type 0
AreFirst f firsts marks places i = (b k : ℕ) → Contains places (b, k) ↔ ((b < i) × HasInst f b k × (marks_by firsts marks b k ≡ false))

more_first : (f : Function) (firsts : List ℕ) (marks slice : List Bool) (old new : List (ℕ × ℕ)) (i count : ℕ) (block : Block) → IsBlock f i block → count ≡ length block.insts → slice ≡ marks → AreFirst f firsts marks old i
    → ((b k : ℕ) → Contains new (b, k) ↔ (Contains old (b, k) ⊎ ((b ≡ i) × (k < count) × (marks_by firsts slice b k ≡ false)))) → AreFirst f firsts marks new (i + 1)
more_first f firsts marks slice old new i count block is_block size same was step = λ b k. (
  λ has. elim ((step b k).0 has) [
    | inl early ↦ let (lt, inst, un) = (was b k).0 early in (omega arith, inst, un)
    | inr (here, lt, un) ↦ (
      omega arith,
      subst (λ (c : ℕ). HasInst f c k) (sym here) (block, is_block, omega arith),
      subst (λ (l : List Bool). marks_by firsts l b k ≡ false) same un,
    )
  ],
  λ (lt, inst, un). elim (cases_eq b i) [
    | inl here ↦
        let (x, is, within) = inst in
        let x_is : x ≡ block = same_Some x block (sym is ∙ (ap (slice_get f.blocks) here ∙ is_block)) in
        let sizes = ap (λ (y : Block). length y.insts) x_is in
        (step b k).1 (inr (here, omega arith, subst (λ (l : List Bool). marks_by firsts l b k ≡ false) (sym same) un))
    | inr other ↦ (step b k).1 (inl ((was b k).1 (omega arith, inst, un)))
  ],
)

pub push_unmarked-requires-clause-block : goal.push_unmarked-requires-clause-block
push_unmarked-requires-clause-block c =
    let many = c.in_ok-numbers.ensures.blocks_count in
    let size = ap length c.as_slice-block-items.ensures in
    let lt = c.loop-index-test.true in
    omega arith

pub push_unmarked-requires-clause-marks : goal.push_unmarked-requires-clause-marks
push_unmarked-requires-clause-marks c =
    let f = c.args.f.now in
    let i = c.loop-index.index in
    let block = c.block-item.result in
    let size = ap length c.as_slice-block-items.ensures in
    let lt = c.loop-index-test.true in
    let at : slice_get f.blocks c.loop-index.index ≡ Some c.block-item.result = item_read f.blocks c.as_slice-block-items.result.now i block c.as_slice-block-items.ensures c.loop-index-test.true c.block-item.is in
    let within = block_within f.blocks c.in_ok-numbers.numbers.firsts.items c.in_ok-numbers.numbers.count i block c.in_ok-numbers.ensures (omega arith) at in
    let low = within.1 in
    let count = c.len-count.ensures in
    let marks = ap length c.as_slice.ensures.value in
    let many = c.in_ok-marks.ensures.count in
    omega arith

pub loop-index-preserved : goal.loop-index-preserved
loop-index-preserved c =
    let f = c.args.f.now in
    let i = c.loop-index.index in
    let block = c.block-item.result in
    let at : slice_get f.blocks c.loop-index.index ≡ Some c.block-item.result = item_read f.blocks c.as_slice-block-items.result.now i block c.as_slice-block-items.ensures c.loop-index-test.true c.block-item.is in
    more_first f c.in_ok-numbers.numbers.firsts.items c.in_ok-marks.marks.items c.as_slice.result.now c.loop-index.places.items c.push_unmarked.new.places.items i c.len-count.result block at c.len-count.ensures c.as_slice.ensures.value
    c.loop-index.invariant c.in_ok-push_unmarked.ensures

pub returns-clause-unneeded : goal.returns-clause-unneeded
returns-clause-unneeded c = λ b k.
    let h = c.loop-index.invariant b k in
    let f = c.args.f.now in (
      λ has.
          let (lt, inst, un) = h.0 has in
          (inst, λ need. let is_marked : marks_by c.in_ok-numbers.numbers.firsts.items c.in_ok-marks.marks.items b k ≡ true = (c.in_ok-marks.ensures.exact b k inst).1 need in cc),
      λ (inst, un). elim (cases_Bool (marks_by c.in_ok-numbers.numbers.firsts.items c.in_ok-marks.marks.items b k)) [
        | inl is_marked ↦ absurd (un ((c.in_ok-marks.ensures.exact b k inst).0 is_marked))
        | inr unmarked ↦ h.1 (before b inst.0 inst.1, inst, unmarked)
      ],
    )
  where
    before : (b : ℕ) (block : Block) → IsBlock c.args.f.now b block → b < c.loop-index.index
    before b block is =
        let lt = slice_get_within c.args.f.now.blocks b block is in
        let size = ap length c.as_slice-block-items.ensures in
        let past = c.loop-index-test.false in
        omega arith

pub returns-clause-others : goal.returns-clause-others
returns-clause-others c = λ b k inst.
    let (block, is, within) = inst in
    let lt = slice_get_within c.args.f.now.blocks b block is in
    let size = ap length c.as_slice-block-items.ensures in
    let past = c.loop-index-test.false in
    let there : b < c.loop-index.index = omega arith in
    elim (cases_Bool (marks_by c.in_ok-numbers.numbers.firsts.items c.in_ok-marks.marks.items b k)) [
      | inl is_marked ↦ inr ((c.in_ok-marks.ensures.exact b k inst).0 is_marked)
      | inr unmarked ↦ inl ((c.loop-index.invariant b k).1 (there, inst, unmarked))
    ]
