-- Rewriting keeps the forms of a function.
use Rattle.optimised_forms.proofs.Common.{◌≡◌, ◌<◌, ◌^◌, refl, sym, subst, Number, Block, Inst, Operand, Terminator, NumbersFit, Fits, stands_for, rewritten_function, Substitution, substituted_end, Rewrite, block_back, rewrite_of, rewrite_fits, OperandFits, CasesHaveForms, FunctionHasForms, RewrittenFunctionsHaveForms}
use Rattle.ir_core.specs.declared.operand.Operand.TheVariants as operands
use Rattle.ir_core.specs.declared.terminator.Terminator.TheVariants as terminators
use Rattle.substitution.proofs.Checking as substitution
use Rattle.optimised_forms.proofs.Names.{names_back}
use Rattle.optimised_forms.proofs.Numbers.{numbers_fit}
use Rattle.optimised_forms.proofs.Widths.{inst_width, read_width}

operand_fits : (a : Operand) → ((n : Number) → a ≡ operands.Number n → n.number < 2 ^ n.width) → OperandFits a
operand_fits (operands.Number n) fits = fits n refl
operand_fits (operands.Register r) fits = tt
operand_fits operands.Undef fits = tt
operand_fits operands.Poison fits = tt

cases_stay : (to : Substitution) (t : Terminator) → CasesHaveForms t → CasesHaveForms (substituted_end to t)
cases_stay to (terminators.Return a) h = h
cases_stay to (terminators.Jump b) h = h
cases_stay to (terminators.Branch c b other) h = h
cases_stay to (terminators.Switch a width other cases) h = h
cases_stay to terminators.Unreachable h = h

pub rewritten_have_forms : RewrittenFunctionsHaveForms
rewritten_have_forms across f new b k rule binding checked meets forms match applied =
    let root : Inst = applied.root in
    let w : Rewrite = rewrite_of rule binding root.name in
    let old_numbers : NumbersFit f = numbers_fit f forms in
    let fits : Fits f w root = rewrite_fits f b k rule binding checked meets old_numbers match root applied.is_root in
    let numbers : NumbersFit (rewritten_function w f) = substitution.numbers_fit f w root old_numbers fits in
    let has : FunctionHasForms (rewritten_function w f) = record {
      name = forms.name;
      before = forms.before;
      width = forms.width;
      parameters = forms.parameters;
      after = forms.after;
      names = λ name among. forms.names name (names_back f w root fits name among);
      insts = inst_width f forms rule binding match.typing root;
      reads = λ c n i r is. record {
        width = read_width f forms rule binding match.typing root c n i r is;
        operand = operand_fits r.operand (λ x number. numbers c n i r x is number);
      };
      cases = λ c block is.
          let (old, at, same) = block_back w f c block is in
          subst (λ (x : Block). CasesHaveForms x.end) same (cases_stay (stands_for w) old.end (forms.cases c old at));
    } in
    subst FunctionHasForms (sym applied.is) has
