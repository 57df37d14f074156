-- What is live, or would be if some registers were, where one instruction comes to read nothing.
use Rattle.draft_steps.proofs.Common.{◌≡◌, ℕ, ◌<◌, ◌⊎◌, inl, inr, List, [], sym, subst, arith, Contains, end_of, Function, Register, not_in_empty, IsNeeded, by_end, by_inst, ReadsRegister, IsNeededWith, ends, is_one}
use Rattle.ir_core.specs.declared.operand.Register.TheVariants as registers
use Rattle.draft_steps.specs.DeadCode.{reads}

pub needed_alone : (f : Function) (r : Register) → IsNeededWith f [] r → IsNeeded f r
needed_alone f r (ends b h) = by_end b h
needed_alone f r (reads b k need h) = by_inst b k (needed_alone f (registers.Result b k) need) h
needed_alone f r (is_one has) = absurd (not_in_empty r has)

-- one worklist can be exchanged for another with which each of its registers would be live
pub needed_through : (f : Function) (roots others : List Register) → ((r : Register) → Contains roots r → IsNeededWith f others r) → (r : Register) → IsNeededWith f roots r → IsNeededWith f others r
needed_through f roots others all r (ends b h) = ends b h
needed_through f roots others all r (reads b k need h) = reads b k (needed_through f roots others all (registers.Result b k) need) h
needed_through f roots others all r (is_one has) = all r has

-- One instruction reads no register in the second function, and all else reads what it does in the first.
pub record IsSilenced (f g : Function) (b n : ℕ) : Type 0 where
  pub within : n < end_of f b
  pub end : (c : ℕ) → end_of g c ≡ end_of f c
  pub stay : (c k : ℕ) (r : Register) → ReadsRegister f c k r → ReadsRegister g c k r ⊎ ((c ≡ b) × (k ≡ n))
  pub back : (c k : ℕ) (r : Register) → ReadsRegister g c k r → ReadsRegister f c k r

module _ (f g : Function) (b n : ℕ) (is : IsSilenced f g b n) where
  not_end : (c : ℕ) → c ≡ b → end_of f c ≡ n → ⊥
  not_end c same last =
      let here : end_of f b ≡ n = subst (λ (d : ℕ). end_of f d ≡ n) same last in
      let lt : n < end_of f b = is.within in
      omega arith

  end_stays : (c : ℕ) (r : Register) → ReadsRegister f c (end_of f c) r → ReadsRegister g c (end_of g c) r
  end_stays c r h =
      elim (is.stay c (end_of f c) r h) [
        | inl x ↦ subst (λ (k : ℕ). ReadsRegister g c k r) (sym (is.end c)) x
        | inr same ↦ absurd (not_end c same.0 same.1)
      ]

  at_it : (c k : ℕ) (P : ℕ → ℕ → Type 0) → (c ≡ b) × (k ≡ n) → P c k → P b n
  at_it c k P same p = subst (λ (m : ℕ). P b m) same.1 (subst (λ (d : ℕ). P d k) same.0 p)

  pub needed_stays : ¬ IsNeeded f (registers.Result b n) → (r : Register) → IsNeeded f r → IsNeeded g r
  needed_stays un r (by_end c h) = by_end c (end_stays c r h)
  needed_stays un r (by_inst c k need h) =
      let rest : IsNeeded g (registers.Result c k) = needed_stays un (registers.Result c k) need in
      elim (is.stay c k r h) [
        | inl x ↦ by_inst c k rest x
        | inr same ↦ absurd (un (at_it c k (λ d m. IsNeeded f (registers.Result d m)) same need))
      ]

  pub needed_was : (r : Register) → IsNeeded g r → IsNeeded f r
  needed_was r (by_end c h) = by_end c (subst (λ (k : ℕ). ReadsRegister f c k r) (is.end c) (is.back c (end_of g c) r h))
  needed_was r (by_inst c k need h) = by_inst c k (needed_was (registers.Result c k) need) (is.back c k r h)

  -- the worklist gets all that the instruction read, and loses only its own register
  module _ (roots others : List Register) (all : (r : Register) → Contains roots r → Contains others r ⊎ (r ≡ registers.Result b n)) (read : (r : Register) → ReadsRegister f b n r → Contains others r) where
    pub needed_less : (r : Register) → IsNeededWith f roots r → IsNeededWith g others r ⊎ (r ≡ registers.Result b n)
    needed_less r (ends c h) = inl (ends c (end_stays c r h))
    needed_less r (reads c k need h) =
        let rest : IsNeededWith g others (registers.Result c k) ⊎ (registers.Result c k ≡ registers.Result b n) = needed_less (registers.Result c k) need in
        elim (is.stay c k r h) [
          | inl x ↦ elim rest [
            | inl need_it ↦ inl (reads c k need_it x)
            | inr same ↦
                let block : c ≡ b = cc in
                let number : k ≡ n = cc in
                inl (is_one (read r (at_it c k (λ d m. ReadsRegister f d m r) (block, number) h)))
          ]
          | inr same ↦ inl (is_one (read r (at_it c k (λ d m. ReadsRegister f d m r) same h)))
        ]
    needed_less r (is_one has) = elim (all r has) [ inl other ↦ inl (is_one other) | inr same ↦ inr same ]
