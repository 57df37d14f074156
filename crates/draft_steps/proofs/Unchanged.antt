-- A draft of which only use lists change is settled, and has no dead code, as before.
use Rattle.draft_steps.proofs.Common.{sym, subst, ◌∙◌, Function, IsNeeded, HasNoDeadCode, IsPlaceIn, IsReader, IsSameDraft, IsSettled, Draft}
use Rattle.ir_core.specs.declared.operand.Register.TheVariants as registers
use Rattle.draft_steps.proofs.SameDrafts.{stays, stood}

module _ (old new : Draft) (same : IsSameDraft old new) where
  pub still_settled : IsSettled old → IsSettled new
  still_settled settled = record {
    whole = same.whole;
    read_stands = λ b n p inside reads. stays old new same b n (settled.read_stands b n p (subst (λ (f : Function). IsPlaceIn f p) same.arena inside)
        (subst (λ (f : Function). IsReader f (registers.Result b n) p) same.arena reads));
    none_fell = same.dead_candidates ∙ settled.none_fell;
  }

  pub still_clean : HasNoDeadCode old → HasNoDeadCode new
  still_clean clean b n stands = subst (λ (f : Function). IsNeeded f (registers.Result b n)) (sym same.arena) (clean b n (stood old new same b n stands))
