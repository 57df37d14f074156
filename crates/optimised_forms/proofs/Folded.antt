-- Folding keeps the forms of a function.
use Rattle.optimised_forms.proofs.Common.{Bool, true, false, List, Option, None, Some, get_or, sym, subst, ℕ, Block, Function, Inst, Terminator, IsWidth, CasesHaveForms, FunctionHasForms, chosen, jump_or, choices_of, folded_as, folded_function, FoldedFunctionsHaveForms, name_was, read_back}
use Rattle.fold_branch.proofs.FoldedBlocks.{block_back, inst_back}

jump_forms : (choice : Option ℕ) (t : Terminator) → CasesHaveForms t → CasesHaveForms (jump_or choice t)
jump_forms (Some to) t h = tt
jump_forms None t h = h

end_forms : (choices : List (Option ℕ)) (reached : List Bool) (b : ℕ) (block : Block) (mark : Bool) → CasesHaveForms block.end → CasesHaveForms (folded_as choices reached b mark block).end
end_forms choices reached b block true h = jump_forms (chosen block.end) block.end h
end_forms choices reached b block false h = tt

function_forms : (f : Function) (reached : List Bool) → FunctionHasForms f → FunctionHasForms (folded_function reached f)
function_forms f reached forms = record {
  name = forms.name;
  before = forms.before;
  width = forms.width;
  parameters = forms.parameters;
  after = forms.after;
  names = λ name among. forms.names name (name_was f reached (Some name) among);
  insts = λ b k new is.
      let was = inst_back f reached b k new is in
      subst (λ (x : Inst). IsWidth x.width) was.is (forms.insts b k was.inst was.was);
  reads = λ b k i r is. let was = read_back f reached b k i r is in forms.reads b k was.0 r was.1;
  cases = λ b new is.
      let (block, at, same) = block_back f reached b new is in
      subst (λ (x : Block). CasesHaveForms x.end) same (end_forms (choices_of f) reached b block (get_or reached b false) (forms.cases b block at));
}

pub folded_have_forms : FoldedFunctionsHaveForms
folded_have_forms f g forms folded = subst FunctionHasForms (sym folded.2) (function_forms f folded.0 forms)
