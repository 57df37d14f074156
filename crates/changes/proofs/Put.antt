-- The register that replaces the root's where the root of the target is no copy.
use Rattle.changes.proofs.Common.{◌≡◌, ℕ, suc, ◌+◌, ◌-◌, ◌<◌, false, length, Option, Some, refl, sym, ap, ◌∙◌, arith, slice_get, option_map_or, get_or_from_slice_get, Name, some_at, IsRule, Rule, Statement, Binding, Rewrite, is_copy, insts_put, rewrite_of, results, put_before, result_at, result_put_at, result_is, count_more, put_length, all_aligned, root_is_copy}
use Rattle.ir_core.specs.declared.operand.Operand.TheVariants as operands
use Rattle.ir_core.specs.declared.operand.Register.TheVariants as registers

module _ (rule : Rule) (binding : Binding) (checked : IsRule rule) (name : Name) where
  abbrev w : Rewrite
  w = rewrite_of rule binding name

  put_count : length (insts_put rule binding name rule.target) ≡ put_before rule binding (length rule.target)
  put_count =
      let e : put_before rule binding 0 + length (insts_put rule binding name rule.target) ≡ put_before rule binding (0 + length rule.target) = put_length rule binding name rule.target 0 (all_aligned rule binding) in
      let none : put_before rule binding 0 ≡ 0 = refl in
      let same : 0 + length rule.target ≡ length rule.target = omega arith in
      let whole : put_before rule binding (0 + length rule.target) ≡ put_before rule binding (length rule.target) = ap (put_before rule binding) same in
      omega arith

  last_target : (s : Statement) × (slice_get rule.target (length rule.target - 1) ≡ Some s)
  last_target = let some : 0 < length rule.target = checked.target_root in some_at rule.target (length rule.target - 1) (omega arith)

  module _ (stays : root_is_copy rule ≡ false) where
    last_kept : is_copy last_target.0.op ≡ false
    last_kept = ap (λ (o : Option Statement). option_map_or (λ (s : Statement). is_copy s.op) o false) (sym last_target.1) ∙ stays

    put_last : length (insts_put rule binding name rule.target) ≡ suc (put_before rule binding (length rule.target - 1))
    put_last =
        let some : 0 < length rule.target = checked.target_root in
        let same : length rule.target ≡ suc (length rule.target - 1) = omega arith in
        let all : put_before rule binding (length rule.target) ≡ put_before rule binding (suc (length rule.target - 1)) = ap (put_before rule binding) same in
        put_count ∙ all ∙ count_more rule binding (length rule.target - 1) last_target.0 last_target.1 last_kept

    pub some_put : 0 < length w.put
    some_put = let e = put_last in omega arith

    pub last_result : w.result ≡ operands.Register (registers.Result w.block (w.place + length w.put - 1))
    last_result =
        let t : ℕ = length rule.target - 1 in
        let e = put_last in
        let place : binding.place + put_before rule binding (length rule.target - 1) ≡ binding.place + length (insts_put rule binding name rule.target) - 1 = omega arith in
        get_or_from_slice_get (results rule binding) t (result_at rule binding t last_target.0.op) operands.Poison (result_is rule binding checked.target_reads t last_target.0 last_target.1)
        ∙ result_put_at rule binding t last_target.0.op last_kept
        ∙ ap (λ (n : ℕ). operands.Register (registers.Result binding.block n)) place
