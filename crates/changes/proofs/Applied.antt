-- A function to which a rule is applied meets the checks, and has few instructions in each block.
use Rattle.changes.proofs.Common.{◌≡◌, ℕ, ◌+◌, ◌-◌, ◌<◌, ◌≤◌, ◌^◌, Bool, true, false, length, sym, subst, arith, slice_get_within, IsBlock, IsInst, MeetsChecks, Block, Function, Inst, NumbersFit, IsRule, Rule, IsMatch, Binding, rewritten_function, Rewrite, meets_checks, IsRewritten, rewrite_of, rewrite_fits, most_put, AreChangesOfRule, rewritten_moves, root_is_copy, AreChanges, IsPutFor, Put, Changes}
use Rattle.ir_core.specs.declared.operand.Operand.TheVariants as operands
use Rattle.ir_core.specs.declared.operand.Register.TheVariants as registers
use Rattle.changes.proofs.Put.{some_put, last_result}
use Rattle.changes.proofs.Few.{AreFew, as_many_rewritten, few_rewritten}

-- a rule that was applied to a copy of a function
pub applied_to : (f copy new : Function) (rule : Rule) (binding : Binding) → copy ≡ f → IsRewritten copy binding rule new → IsRewritten f binding rule new
applied_to f copy new rule binding same is = subst (λ (g : Function). IsRewritten g binding rule new) same is

module _ (f new : Function) (rule : Rule) (binding : Binding) (checked : IsRule rule) (is : IsRewritten f binding rule new) where
  abbrev w : Rewrite
  w = rewrite_of rule binding is.root.name

  pub few_new : AreFew f → ((block : Block) → IsBlock f binding.block block → length block.insts < 2 ^ 32 - 32) → AreFew new
  few_new few places =
      let at = is.is_root in
      let size = places at.block at.is_block in
      let put : length w.put ≤ 32 = most_put rule binding checked is.root.name in
      subst (λ (g : Function). AreFew g) (sym is.is)
      (few_rewritten w f at.block at.is_block (slice_get_within at.block.insts binding.place is.root at.is_inst) few (omega arith))

  pub blocks_new : length new.blocks ≡ length f.blocks
  blocks_new = subst (λ (g : Function). length g.blocks ≡ length f.blocks) (sym is.is) (as_many_rewritten w f)

  pub checks_new : (across : Bool) → MeetsChecks f → NumbersFit f → IsMatch across f binding.block binding.place rule binding → MeetsChecks new
  checks_new across meets numbers match =
      subst (λ (g : Function). MeetsChecks g) (sym is.is)
      (meets_checks f w is.root meets (rewrite_fits f binding.block binding.place rule binding checked meets numbers match is.root is.is_root))

  -- ---- what changed

  module _ (put : Put) (block : put.block ≡ binding.block) (place : put.place ≡ binding.place) (count : length w.put ≡ put.count) where
    put_for : IsPutFor w put
    put_for = record { block = sym block; place = sym place; count = count }

    abbrev IsAnew : ℕ → ℕ → Type 0
    IsAnew b k = (b ≡ binding.block) × (k ≡ binding.place)

    -- the root is removed
    pub where_copied : (changes : Changes) → root_is_copy rule ≡ true
        → ((v : Rewrite) (root : Inst) → IsPutFor v put → IsInst f v.block v.place root → AreChanges f (rewritten_function v f) (rewritten_moves v true) (λ b k. (b ≡ v.block) × (k ≡ v.place)) changes)
        → AreChangesOfRule f binding rule new changes
    where_copied changes copied all = record {
      root = is.root;
      is_root = is.is_root;
      are = subst (λ (g : Function). AreChanges f g (rewritten_moves w (root_is_copy rule)) IsAnew changes) (sym is.is)
          (subst (λ (goes : Bool). AreChanges f (rewritten_function w f) (rewritten_moves w goes) IsAnew changes) (sym copied) (all w is.root put_for is.is_root));
    }

    -- it stays
    pub where_put : (changes : Changes) → root_is_copy rule ≡ false
        → ((g : Function) (v : Rewrite) (root : Inst) → IsPutFor v put → IsInst g v.block v.place root → v.result ≡ operands.Register (registers.Result v.block (v.place + length v.put - 1))
        → AreChanges g (rewritten_function v g) (rewritten_moves v false) (λ b k. (b ≡ v.block) × (k ≡ v.place)) changes)
        → AreChangesOfRule f binding rule new changes
    where_put changes stays all = record {
      root = is.root;
      is_root = is.is_root;
      are = subst (λ (g : Function). AreChanges f g (rewritten_moves w (root_is_copy rule)) IsAnew changes) (sym is.is)
          (subst (λ (goes : Bool). AreChanges f (rewritten_function w f) (rewritten_moves w goes) IsAnew changes) (sym stays)
          (all f w is.root put_for is.is_root (last_result rule binding checked is.root.name stays)));
    }

    pub some : root_is_copy rule ≡ false → 0 < put.count
    some stays = let more = some_put rule binding checked is.root.name stays in omega arith
