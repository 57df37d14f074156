-- A cleaned function has its forms.
use Rattle.ir_round_trip.proofs.Common.{Some, refl, sym, subst, Inst, Terminator, IsWidth, CasesHaveForms, FunctionHasForms, KeptMarks, moved_end, kept_function, KeepsNeeded, IsCleaned, CleanedFunctionsHaveForms}
use Rattle.ir_core.specs.declared.function.Function.{Function}
use Rattle.ir_core.specs.declared.function.Block.{Block}
use Rattle.ir_core.specs.declared.terminator.Terminator.TheVariants as terminators
use Rattle.ir_round_trip.proofs.Instructions.{block_of_old, IsOld, inst_of_old}
use Rattle.ir_round_trip.proofs.KeptNames.{kept_names}
use Rattle.ir_round_trip.proofs.KeptReads.{kept_reads}

cases_stay : (kept : KeptMarks) (t : Terminator) → CasesHaveForms t → CasesHaveForms (moved_end kept t)
cases_stay kept (terminators.Return a) h = h
cases_stay kept (terminators.Jump to) h = h
cases_stay kept (terminators.Branch c to other) h = h
cases_stay kept (terminators.Switch a width other cases) h = h
cases_stay kept terminators.Unreachable h = h

pub kept_forms : (f : Function) (kept : KeptMarks) → KeepsNeeded f kept → FunctionHasForms f → FunctionHasForms (kept_function kept f)
kept_forms f kept needed forms =
    let cleaned : IsCleaned f (kept_function kept f) = (kept, needed, refl) in
    record {
      name = forms.name;
      before = forms.before;
      width = forms.width;
      parameters = forms.parameters;
      after = forms.after;
      names = λ name among. forms.names name (kept_names kept f (Some name) among);
      insts = λ b k new is.
          let old : IsOld f kept b new = inst_of_old f (kept_function kept f) cleaned b k new is in
          subst (λ (x : Inst). IsWidth x.width) old.moved (forms.insts b old.place old.inst old.is_inst);
      reads = kept_reads f forms kept needed;
      cases = λ b new is.
          let (block, at, is_kept) = block_of_old f (kept_function kept f) cleaned b new is in
          subst (λ (x : Block). CasesHaveForms x.end) is_kept (cases_stay kept block.end (forms.cases b block at));
    }

pub cleaned_have_forms : CleanedFunctionsHaveForms
cleaned_have_forms f g forms cleaned = subst FunctionHasForms (sym cleaned.2) (kept_forms f cleaned.0 cleaned.1 forms)
