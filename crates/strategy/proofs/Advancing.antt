-- A search skips places where all matches are known to be turned down.
use Rattle.strategy.proofs.Common.{◌≡◌, ◌⊎◌, inl, inr, ℕ, zero, suc, ◌+◌, ◌-◌, ◌<◌, ◌≤◌, Bool, false, List, length, refl, subst, arith, cases_lt, end_of, Function, Rule, IsAt, AreReady, Verdicts, AsksAll, IsAnywhere, IsPast, past_all, past_block, past_place}

-- place j of block c comes before place k of block b
abbrev pub IsPlaceBefore : ℕ → ℕ → ℕ → ℕ → Type 0
IsPlaceBefore c j b k = (c < b) ⊎ ((c ≡ b) × (j < k))

module _ (across : Bool) (rules : List Rule) (conflicts : ℕ) (f : Function) (ready : AreReady rules) (u v : Verdicts) where
  -- all matches at the place are known to be turned down; below, the verdicts of all before a place are asked
  abbrev pub WereTurnedDown : ℕ → ℕ → Type 0
  WereTurnedDown c j = AsksAll across rules conflicts f (IsAt c j) v v false

  abbrev pub AskedTo : ℕ → ℕ → Type 0
  AskedTo b k = AsksAll across rules conflicts f (IsPast b k) u v false

  along_block : (n b k : ℕ) → ((j : ℕ) → j < k + n → WereTurnedDown b j) → AskedTo b k → AskedTo b (k + n)
  along_block zero b k down asked = (let same : k ≡ k + 0 = omega arith in subst (AskedTo b) same asked)
  along_block (suc n) b k down asked =
      let next : AskedTo b (k + 1) = past_place across rules conflicts f b k u v v asked (down k (omega arith)) in
      let same : k + 1 + n ≡ k + suc n = omega arith in
      subst (AskedTo b) same (along_block n b (k + 1) (λ j less. down j (omega (arith, less))) next)

  through_block : (b k : ℕ) → ((j : ℕ) → j < end_of f b → WereTurnedDown b j) → AskedTo b k → AskedTo (b + 1) 0
  through_block b k down asked = elim (cases_lt k (end_of f b)) [
    | inl less ↦
        let n : ℕ = end_of f b - k in
        let end : end_of f b ≡ k + n = omega (arith, less) in
        past_block across rules conflicts f b (k + n) u v ready (omega (arith, end)) (along_block n b k (λ j within. down j (omega (arith, within, end))) asked)
    | inr late ↦ past_block across rules conflicts f b k u v ready late asked
  ]

  along_blocks : (n b k : ℕ) → ((c j : ℕ) → c < b + suc n → j < end_of f c → WereTurnedDown c j) → AskedTo b k → AskedTo (b + suc n) 0
  along_blocks zero b k down asked =
      let same : b + 1 ≡ b + suc zero = omega arith in
      subst (λ (c : ℕ). AskedTo c 0) same (through_block b k (λ j less. down b j (omega arith) less) asked)
  along_blocks (suc n) b k down asked =
      let next : AskedTo (b + 1) 0 = through_block b k (λ j less. down b j (omega arith) less) asked in
      let same : b + 1 + suc n ≡ b + suc (suc n) = omega arith in
      subst (λ (c : ℕ). AskedTo c 0) same (along_blocks n (b + 1) 0 (λ c j less within. down c j (omega (arith, less)) within) next)

  -- the search goes on to a place that isn't behind the end of its block
  pub come_to : (b k c j : ℕ) → (b < c) ⊎ ((b ≡ c) × (k ≤ j)) → j ≤ end_of f c
      → ((d i : ℕ) → IsPlaceBefore d i c j → i < end_of f d → WereTurnedDown d i) → AskedTo b k → AskedTo c j
  come_to b k c j later within down asked = elim later [
    | inl block ↦
        let n : ℕ = c - suc b in
        let there : b + suc n ≡ c = omega (arith, block) in
        let begun : AskedTo c 0 = subst (λ (d : ℕ). AskedTo d 0) there (along_blocks n b k (λ d i less at. down d i (inl (omega (arith, less, there))) at) asked) in
        let same : 0 + j ≡ j = omega arith in
        subst (AskedTo c) same (along_block j c 0 (λ i less. down c i (inr (refl, omega (arith, less))) (omega (arith, less, within))) begun)
    | inr here ↦
        let n : ℕ = j - k in
        let there : k + n ≡ j = omega (arith, here.1) in
        let begun : AskedTo c k = subst (λ (d : ℕ). AskedTo d k) here.0 asked in
        subst (AskedTo c) there (along_block n c k (λ i less. down c i (inr (refl, omega (arith, less, there))) (omega (arith, less, there, within))) begun)
  ]

  -- the search goes on to the end of the function
  pub come_through : (b k : ℕ) → ((c j : ℕ) → j < end_of f c → WereTurnedDown c j) → AskedTo b k → AsksAll across rules conflicts f IsAnywhere u v false
  come_through b k down asked = elim (cases_lt b (length f.blocks)) [
    | inr late ↦ past_all across rules conflicts f b k u v ready late asked
    | inl less ↦
        let n : ℕ = length f.blocks - suc b in
        let there : b + suc n ≡ length f.blocks = omega (arith, less) in
        past_all across rules conflicts f (b + suc n) 0 u v ready (omega (arith, there)) (along_blocks n b k (λ c j before within. down c j within) asked)
  ]
