-- Numbers of instructions, block after block.
use Rattle.needed.proofs.Common.{◌≡◌, ℕ, zero, suc, ◌+◌, ◌*◌, ◌<◌, ◌≤◌, ◌⊎◌, inl, inr, List, [], ◌∷◌, length, get_or, Some, refl, sym, ap, subst, ◌∙◌, arith, slice_get, cases_eq, sum_by_more, slice_get_within, slice_get_read, get_or_from_slice_get, Function, Block, HasInst, insts_before, AreNumbers, number_of}
use Rattle.needed.proofs.Counting.{below_or}

-- the numbers of the first i blocks
pub record Numbered (blocks : List Block) (i : ℕ) (firsts : List ℕ) (count : ℕ) : Type 0 where
  pub length_is : length firsts ≡ i
  pub at : (b : ℕ) → b < i → get_or firsts b 0 ≡ insts_before blocks b
  pub count_is : count ≡ insts_before blocks i
  pub low : count ≤ i * 4294967296

-- ---- what numbers there are

before-more : (blocks : List Block) (b : ℕ) (block : Block) → slice_get blocks b ≡ Some block → insts_before blocks (suc b) ≡ insts_before blocks b + length block.insts
before-more blocks b block at =
    let next : b + 1 ≡ suc b = omega arith in
    ap (insts_before blocks) (sym next) ∙ sum_by_more (λ (x : Block). length x.insts) blocks b block (slice_get_within blocks b block at) ∙ ap (λ (x : Block). insts_before blocks b + length x.insts) (get_or_from_slice_get blocks b block block at)

pub item_at : {A : Type 0} (xs : List A) (i : ℕ) → i < length xs → (x : A) × (slice_get xs i ≡ Some x)
item_at [] i lt = absurd (omega arith)
item_at (x ∷ xs) zero lt = (x, refl)
item_at (x ∷ xs) (suc i) lt = item_at xs i (omega arith)

before-monotone : (blocks : List Block) (b c : ℕ) → b ≤ c → c ≤ length blocks → insts_before blocks b ≤ insts_before blocks c
before-monotone blocks b zero le within = let same : b ≡ 0 = omega arith in subst (λ n. insts_before blocks n ≤ insts_before blocks 0) (sym same) (omega arith)
before-monotone blocks b (suc c) le within =
    let last : (block : Block) × (slice_get blocks c ≡ Some block) = item_at blocks c (omega arith) in
    let step : insts_before blocks (suc c) ≡ insts_before blocks c + length last.0.insts = before-more blocks c last.0 last.1 in
    by (cases_eq b (suc c)) (λ less. before-monotone blocks b c less (omega arith)) (omega arith)
  where
    by : (b ≡ suc c) ⊎ (b ≡ suc c → ⊥) → (b ≤ c → insts_before blocks b ≤ insts_before blocks c) → insts_before blocks c ≤ insts_before blocks (suc c) → insts_before blocks b ≤ insts_before blocks (suc c)
    by (inl same) h step = subst (λ n. insts_before blocks b ≤ insts_before blocks n) same (omega arith)
    by (inr ne) h step = let more : insts_before blocks b ≤ insts_before blocks c = h (omega arith) in omega arith

module _ (f : Function) (firsts : List ℕ) (count : ℕ) (n : AreNumbers f.blocks firsts count) where
  number-is : (b k : ℕ) → HasInst f b k → number_of firsts b k ≡ insts_before f.blocks b + k
  number-is b k h = ap (λ x. x + k) (n.at b (slice_get_within f.blocks b h.0 h.1))

  -- a number is less than those of the blocks behind its own
  number-below : (b k d : ℕ) → HasInst f b k → b < d → d ≤ length f.blocks → number_of firsts b k < insts_before f.blocks d
  number-below b k d h less within =
      let inside : k < length h.0.insts = h.2 in
      let next : insts_before f.blocks (suc b) ≡ insts_before f.blocks b + length h.0.insts = before-more f.blocks b h.0 h.1 in
      let more : insts_before f.blocks (suc b) ≤ insts_before f.blocks d = before-monotone f.blocks (suc b) d (omega arith) within in
      omega (arith, number-is b k h, inside, next, more)

  pub number-within : (b k : ℕ) → HasInst f b k → (b < length firsts) × (number_of firsts b k < count)
  number-within b k h =
      let inside : b < length f.blocks = slice_get_within f.blocks b h.0 h.1 in
      let below : number_of firsts b k < insts_before f.blocks (length f.blocks) = number-below b k (length f.blocks) h inside (omega arith) in
      (omega (arith, inside, n.blocks_count), omega (arith, below, n.all))

  number-apart : (b k d j : ℕ) → HasInst f b k → HasInst f d j → b < d → number_of firsts b k < number_of firsts d j
  number-apart b k d j h g less =
      let inside : d < length f.blocks = slice_get_within f.blocks d g.0 g.1 in
      let below : number_of firsts b k < insts_before f.blocks d = number-below b k d h less (omega arith) in
      omega (arith, below, number-is d j g)

  -- instructions with the same number are the same
  pub same_number : (b k d j : ℕ) → HasInst f b k → HasInst f d j → number_of firsts b k ≡ number_of firsts d j → (b ≡ d) × (k ≡ j)
  same_number b k d j h g same =
      elim (below_or b d) [
        | inl less ↦ absurd (omega (arith, number-apart b k d j h g less, same))
        | inr more ↦ elim (below_or d b) [
          | inl less ↦ absurd (omega (arith, number-apart d j b k g h less, same))
          | inr least ↦
              let e : b ≡ d = omega arith in
              let before : insts_before f.blocks b ≡ insts_before f.blocks d = ap (insts_before f.blocks) e in
              (e, omega (arith, number-is b k h, number-is d j g, before, same))
        ]
      ]

-- an item that a slice of the list gives is the list's
pub item_read : {A : Type 0} (xs items : List A) (i : ℕ) (x : A) → items ≡ xs → i < length items → x ≡ get_or items i x → slice_get xs i ≡ Some x
item_read xs items i x same lt here = subst (λ l. slice_get l i ≡ Some x) same (slice_get_read items (length items) i x refl lt here)

-- the numbers of a block are below the count
pub block_within : (blocks : List Block) (firsts : List ℕ) (count b : ℕ) (block : Block) → AreNumbers blocks firsts count → b < length blocks → slice_get blocks b ≡ Some block → (b < length firsts) × (get_or firsts b 0 + length block.insts ≤ count)
block_within blocks firsts count b block n lt at =
    let next : insts_before blocks (suc b) ≡ insts_before blocks b + length block.insts = before-more blocks b block at in
    let more : insts_before blocks (suc b) ≤ insts_before blocks (length blocks) = before-monotone blocks (suc b) (length blocks) (omega arith) (omega arith) in
    (omega (arith, lt, n.blocks_count), omega (arith, n.at b lt, next, more, n.all))
