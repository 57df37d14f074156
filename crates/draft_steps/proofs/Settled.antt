-- Once all dead instructions are removed, a draft is settled again and has no dead code, and its function is the
-- cleaned one.
use Rattle.draft_steps.proofs.Common.{◌≡◌, ℕ, inl, inr, List, [], sym, subst, Contains, slice_index_or, IsCleaned, IsNeeded, by_end, by_inst, HasNoDeadCode, IsEliminating, Stands, function_of, numbers_of, arena_place, IsSettled, IsWhole, Draft}
use Rattle.ir_core.specs.declared.operand.Register.TheVariants as registers
use Rattle.draft_steps.proofs.Cleaned.{cleaned_is}
use Rattle.draft_steps.proofs.Leaving.{left_row}
use Rattle.draft_steps.proofs.Living.{needed_alone}
use Rattle.draft_steps.proofs.Needing.{AreRows, reader_of}
use Rattle.draft_steps.proofs.RowPlaces.{kept_in}
use Rattle.draft_steps.proofs.Taking.{end_reads_there, gone_reads_nothing, stands_or}
use Rattle.draft_steps.proofs.WhoReads.{who}

module _ (old new : Draft) (whole : IsWhole new) (good : AreRows old.arena (numbers_of old)) (is : IsEliminating old.arena (numbers_of old) new.arena (numbers_of new) []) where
  pub is_clean : HasNoDeadCode new
  is_clean b n stands = needed_alone new.arena (registers.Result b n) (is.waits b n stands)

  -- a live instruction stands
  needed_stands : (b n : ℕ) → IsNeeded new.arena (registers.Result b n) → Stands new b n
  needed_stands b n need =
      let was : IsNeeded old.arena (registers.Result b n) = is.was_needed (registers.Result b n) need in
      let (c, k, h) = reader_of old.arena (registers.Result b n) was in
      let stood : Contains (slice_index_or (numbers_of old) b []) n = good.read c k b n h in
      subst (λ (l : List ℕ). Contains l n) (sym (left_row is.keep old.arena (numbers_of old) new.arena (numbers_of new) is.is_left b))
      (kept_in (is.keep b) (slice_index_or (numbers_of old) b []) n stood (is.keeps b n was))

  pub is_settled : new.dead_candidates.items ≡ [] → IsSettled new
  is_settled none = record {
    whole = whole;
    read_stands = λ b n p there h. needed_stands b n (elim (who new.arena p.block (arena_place new.arena p) (registers.Result b n) h) [
      | inr e ↦ by_end p.block (end_reads_there new whole p.block (arena_place new.arena p) (registers.Result b n) e)
      | inl i ↦ elim (stands_or new whole p.block (arena_place new.arena p)) [
        | inl stands ↦ by_inst p.block (arena_place new.arena p) (is_clean p.block (arena_place new.arena p) stands) h
        | inr out ↦ absurd (gone_reads_nothing new whole p.block (arena_place new.arena p) (registers.Result b n) out i)
      ]
    ]);
    none_fell = none;
  }

  pub is_cleaned : IsCleaned (function_of old) (function_of new)
  is_cleaned = cleaned_is old.arena (numbers_of old) new.arena (numbers_of new) good is
