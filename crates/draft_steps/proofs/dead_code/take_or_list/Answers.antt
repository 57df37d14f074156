use Rattle.draft_steps.proofs.Common.{◌≡◌, ℕ, ◌<◌, ◌⊎◌, inl, inr, List, [], ◌∷◌, ◌++◌, refl, sym, subst, ◌∙◌, arith, Contains, Contains-append_cases, Contains-append_left, Contains-append_right, Contains-push_cases, HasInst, Register, first_in, IsNeeded, ReadsRegister, IsUseCount, HaveInsts, IsEliminating, KeepsUses, Stands, numbers_of, Draft, insts-stay, stands_there}
use Rattle.ir_core.specs.declared.operand.Register.TheVariants as registers
use Rattle.draft_steps.proofs.Taking.{cleaning_dropping, take_step, unused}
use Rattle.draft_steps.proofs.Using.{as_many_read, read_dropping, read_less, used_is_read, uses_dropping, uses_less}
use Rattle.draft_steps.proofs.dead_code.take_or_list.Goals as goal

pub remove_inst-requires-clause-at : goal.remove_inst-requires-clause-at
remove_inst-requires-clause-at c =
    let stands : Stands c.args.draft.now c.in-Result.block c.in-Result.number = (c.if-is_standing.ensures.result c.in-Result.block c.in-Result.number refl).0 refl in
    stands_there c.args.draft.now c.requires c.in-Result.block c.in-Result.number stands

-- one more is appended
more : (dead_candidates used : List Register) (x r : Register) → Contains (dead_candidates ++ used) r ⊎ (r ≡ x) → Contains (dead_candidates ++ (used ++ x ∷ [])) r
more dead_candidates used x r (inl old) =
    elim (Contains-append_cases dead_candidates used r old) [
      | inl early ↦ Contains-append_left dead_candidates (used ++ x ∷ []) r early
      | inr late ↦ Contains-append_right dead_candidates (used ++ x ∷ []) r (Contains-append_left used (x ∷ []) r late)
    ]
more dead_candidates used x r (inr it) = Contains-append_right dead_candidates (used ++ x ∷ []) r (Contains-append_right used (x ∷ []) r (subst (Contains (x ∷ [])) (sym it) (first_in x [])))

pub returns-in_ok-push-clause-cleaning : goal.returns-in_ok-push-clause-cleaning
returns-in_ok-push-clause-cleaning c = λ f rows roots all is.
    let x : Register = registers.Result c.in-Result.block c.in-Result.number in
    let items : c.push.new.self.items ≡ c.args.used.now.items ++ registers.Result c.in-Result.block c.in-Result.number ∷ [] = c.in_ok-push.ensures.items in
    subst (λ (l : List Register). IsEliminating f rows c.args.draft.now.arena (numbers_of c.args.draft.now) (c.args.draft.now.dead_candidates.items ++ l)) (sym items)
    (cleaning_dropping c.args.draft.now c.requires f rows roots (c.args.draft.now.dead_candidates.items ++ (c.args.used.now.items ++ registers.Result c.in-Result.block c.in-Result.number ∷ [])) (λ r has. inl (more c.args.draft.now.dead_candidates.items c.args.used.now.items (registers.Result c.in-Result.block c.in-Result.number) r (elim (all r has) [ inl old ↦ inl old | inr it ↦ inr (it ∙ c.in-Result.is) ]))) is)

pub returns-in_ok-remove_inst-clause-cleaning : goal.returns-in_ok-remove_inst-clause-cleaning
returns-in_ok-remove_inst-clause-cleaning c = λ f rows roots all is.
    let b : ℕ = c.in-Result.block in
    let n : ℕ = c.in-Result.number in
    let stands : Stands c.args.draft.now c.in-Result.block c.in-Result.number = (c.if-is_standing.ensures.result c.in-Result.block c.in-Result.number refl).0 refl in
    let none : c.uses_of.result ≡ 0 = omega arith in
    let count : IsUseCount c.args.draft.now.arena (registers.Result c.in-Result.block c.in-Result.number) c.uses_of.result = c.uses_of.ensures.count c.args.draft.now.arena c.requires.facts.uses in
    let un : ¬ IsNeeded c.args.draft.now.arena (registers.Result c.in-Result.block c.in-Result.number) =
    unused c.args.draft.now.arena (registers.Result c.in-Result.block c.in-Result.number) (subst (IsUseCount c.args.draft.now.arena (registers.Result c.in-Result.block c.in-Result.number)) none count) in
    take_step c.args.draft.now c.remove_inst.new.draft c.requires c.in-Result.block c.in-Result.number stands un c.in_ok-remove_inst.ensures.arena c.in_ok-remove_inst.ensures.numbers c.in_ok-remove_inst.ensures.dead_candidates f rows roots c.args.used.now.items
    (λ r has. elim (all r has) [ inl old ↦ inl old | inr it ↦ inr (it ∙ c.in-Result.is) ]) is

pub returns-else-is_standing-clause-cleaning : goal.returns-else-is_standing-clause-cleaning
returns-else-is_standing-clause-cleaning c = λ f rows roots all is.
    cleaning_dropping c.args.draft.now c.requires f rows roots (c.args.draft.now.dead_candidates.items ++ c.args.used.now.items) (λ r has. elim (all r has) [
      | inl old ↦ inl old
      | inr it ↦ inr (inr (λ b n e stands. let clash = (c.if-is_standing.ensures.result b n (sym c.in-Result.is ∙ (sym it ∙ e))).1 stands in cc))
    ]) is

pub returns-in_default-clause-cleaning : goal.returns-in_default-clause-cleaning
returns-in_default-clause-cleaning c = λ f rows roots all is.
    cleaning_dropping c.args.draft.now c.requires f rows roots (c.args.draft.now.dead_candidates.items ++ c.args.used.now.items) (λ r has. elim (all r has) [
      | inl old ↦ inl old
      | inr it ↦ inr (inr (λ b n e stands. c.in_default.not-Result b n (sym it ∙ e)))
    ]) is

-- ---- an instruction whose register has uses stays

one_more_there : (d : Draft) (used : List Register) (block number : ℕ) → HaveInsts d used → HasInst d.arena block number → HaveInsts d (used ++ registers.Result block number ∷ [])
one_more_there d used block number had inst b n has =
    elim (Contains-push_cases used (registers.Result block number) (registers.Result b n) has) [
      | inl early ↦ had b n early
      | inr is ↦
          let same_block : block ≡ b = cc in
          let same_number : number ≡ n = cc in
          subst (λ (x : ℕ). HasInst d.arena x n) same_block (subst (HasInst d.arena block) same_number inst)
    ]

pub returns-in_ok-push-clause-used : goal.returns-in_ok-push-clause-used
returns-in_ok-push-clause-used c = λ had b n has.
    let d = c.args.draft.now in
    let stands : Stands d c.in-Result.block c.in-Result.number = (c.if-is_standing.ensures.result c.in-Result.block c.in-Result.number refl).0 refl in
    one_more_there d c.args.used.now.items c.in-Result.block c.in-Result.number had (stands_there d c.requires c.in-Result.block c.in-Result.number stands) b n
    (subst (λ (l : List Register). Contains l (registers.Result b n)) c.in_ok-push.ensures.items has)

pub returns-in_ok-remove_inst-clause-used : goal.returns-in_ok-remove_inst-clause-used
returns-in_ok-remove_inst-clause-used c = λ had b n has.
    insts-stay c.args.draft.now c.remove_inst.new.draft c.requires c.in_ok-remove_inst.ensures.whole c.in_ok-remove_inst.ensures.orders b n (had b n has)

-- ---- uses

pub returns-in_ok-push-clause-reads : goal.returns-in_ok-push-clause-reads
returns-in_ok-push-clause-reads c = λ was roots all keeps.
    let d = c.args.draft.now in
    let x : Register = registers.Result c.in-Result.block c.in-Result.number in
    let items : c.push.new.self.items ≡ c.args.used.now.items ++ registers.Result c.in-Result.block c.in-Result.number ∷ [] = c.in_ok-push.ensures.items in
    subst (λ (l : List Register). KeepsUses was d (d.dead_candidates.items ++ l)) (sym items)
    (uses_dropping was d roots (d.dead_candidates.items ++ (c.args.used.now.items ++ registers.Result c.in-Result.block c.in-Result.number ∷ []))
    (λ r has. inl (more d.dead_candidates.items c.args.used.now.items (registers.Result c.in-Result.block c.in-Result.number) r (elim (all r has) [ inl old ↦ inl old | inr it ↦ inr (it ∙ c.in-Result.is) ]))) keeps)

pub returns-in_ok-push-clause-read : goal.returns-in_ok-push-clause-read
returns-in_ok-push-clause-read c = λ roots all are.
    let d = c.args.draft.now in
    let some : 0 < c.uses_of.result = omega arith in
    let count : IsUseCount d.arena (registers.Result c.in-Result.block c.in-Result.number) c.uses_of.result = c.uses_of.ensures.count d.arena c.requires.facts.uses in
    let read : (b : ℕ) × (k : ℕ) × ReadsRegister d.arena b k (registers.Result c.in-Result.block c.in-Result.number) = used_is_read d.arena (registers.Result c.in-Result.block c.in-Result.number) c.uses_of.result count some in
    read_dropping d roots d.dead_candidates.items (λ r has. elim (all r has) [
      | inl old ↦ inl old
      | inr it ↦ inr (inr (read.0, read.1, subst (ReadsRegister d.arena read.0 read.1) (sym (it ∙ c.in-Result.is)) read.2))
    ]) are

pub returns-in_ok-remove_inst-clause-reads : goal.returns-in_ok-remove_inst-clause-reads
returns-in_ok-remove_inst-clause-reads c = λ was roots all keeps.
    let d = c.args.draft.now in
    let stands : Stands d c.in-Result.block c.in-Result.number = (c.if-is_standing.ensures.result c.in-Result.block c.in-Result.number refl).0 refl in
    let e = c.in_ok-remove_inst.ensures in
    uses_less d c.remove_inst.new.draft c.requires c.in-Result.block c.in-Result.number (stands_there d c.requires c.in-Result.block c.in-Result.number stands) e.arena e.numbers e.dead_candidates was roots c.args.used.now.items
    (λ r has. elim (all r has) [ inl old ↦ inl old | inr it ↦ inr (it ∙ c.in-Result.is) ]) keeps

pub returns-in_ok-remove_inst-clause-read : goal.returns-in_ok-remove_inst-clause-read
returns-in_ok-remove_inst-clause-read c = λ roots all are.
    let d = c.args.draft.now in
    let stands : Stands d c.in-Result.block c.in-Result.number = (c.if-is_standing.ensures.result c.in-Result.block c.in-Result.number refl).0 refl in
    let e = c.in_ok-remove_inst.ensures in
    read_less d c.remove_inst.new.draft c.requires c.in-Result.block c.in-Result.number (stands_there d c.requires c.in-Result.block c.in-Result.number stands) e.arena e.numbers e.dead_candidates roots
    (λ r has. elim (all r has) [ inl old ↦ inl old | inr it ↦ inr (it ∙ c.in-Result.is) ]) are

pub returns-in_ok-remove_inst-clause-as_many : goal.returns-in_ok-remove_inst-clause-as_many
returns-in_ok-remove_inst-clause-as_many c =
    let d = c.args.draft.now in
    let stands : Stands d c.in-Result.block c.in-Result.number = (c.if-is_standing.ensures.result c.in-Result.block c.in-Result.number refl).0 refl in
    let e = c.in_ok-remove_inst.ensures in
    as_many_read d c.remove_inst.new.draft c.requires c.in-Result.block c.in-Result.number (stands_there d c.requires c.in-Result.block c.in-Result.number stands) e.arena e.numbers e.dead_candidates

pub returns-else-is_standing-clause-reads : goal.returns-else-is_standing-clause-reads
returns-else-is_standing-clause-reads c = λ was roots all keeps.
    let d = c.args.draft.now in
    uses_dropping was d roots (d.dead_candidates.items ++ c.args.used.now.items) (λ r has. elim (all r has) [
      | inl old ↦ inl old
      | inr it ↦ inr (λ b n e stands. let clash = (c.if-is_standing.ensures.result b n (sym c.in-Result.is ∙ (sym it ∙ e))).1 stands in cc)
    ]) keeps

pub returns-else-is_standing-clause-read : goal.returns-else-is_standing-clause-read
returns-else-is_standing-clause-read c = λ roots all are.
    let d = c.args.draft.now in
    read_dropping d roots d.dead_candidates.items (λ r has. elim (all r has) [
      | inl old ↦ inl old
      | inr it ↦ inr (inl (λ b n e stands. let clash = (c.if-is_standing.ensures.result b n (sym c.in-Result.is ∙ (sym it ∙ e))).1 stands in cc))
    ]) are

pub returns-in_default-clause-reads : goal.returns-in_default-clause-reads
returns-in_default-clause-reads c = λ was roots all keeps.
    let d = c.args.draft.now in
    uses_dropping was d roots (d.dead_candidates.items ++ c.args.used.now.items) (λ r has. elim (all r has) [
      | inl old ↦ inl old
      | inr it ↦ inr (λ b n e stands. c.in_default.not-Result b n (sym it ∙ e))
    ]) keeps

pub returns-in_default-clause-read : goal.returns-in_default-clause-read
returns-in_default-clause-read c = λ roots all are.
    let d = c.args.draft.now in
    read_dropping d roots d.dead_candidates.items (λ r has. elim (all r has) [
      | inl old ↦ inl old
      | inr it ↦ inr (inl (λ b n e stands. c.in_default.not-Result b n (sym it ∙ e)))
    ]) are
