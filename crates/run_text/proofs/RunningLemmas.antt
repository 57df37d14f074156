-- Words that don't fit the function that they name.
use Rattle.run_text.proofs.Common.{◌≡◌, ℕ, List, sym, subst, Fault, Refusal, Refused, NoMemory, IfRefused, IrFaultKind, IsFault, RunFault, IsRunFault, of_text, Module, Function, DoNotFit, IsReadAs, IsNamed, unfit, IsMisnamed}

pub misnamed : (bytes name : List ℕ) (words : List (List ℕ)) (m : Module) (f : Function) → IsReadAs bytes m → IsNamed m name f → DoNotFit f.parameters words → IsMisnamed bytes name words
misnamed bytes name words m f source named not_fit = record { read = m; source = source; no_run = unfit f named not_fit }

text_refused : (error : Refusal (Fault IrFaultKind)) (bytes name : List ℕ) (words : List (List ℕ)) → IfRefused error (IsFault bytes) → IfRefused (of_text error) (IsRunFault bytes name words)
text_refused (Refused fault) bytes name words is = is
text_refused NoMemory bytes name words is = tt

pub refused_text : (bytes name : List ℕ) (words : List (List ℕ)) (error : Refusal (Fault IrFaultKind)) (made : Refusal RunFault)
    → made ≡ of_text error → IfRefused error (IsFault bytes) → IfRefused made (IsRunFault bytes name words)
refused_text bytes name words error made is refused =
    subst (λ (m : Refusal RunFault). IfRefused m (IsRunFault bytes name words)) (sym is) (text_refused error bytes name words refused)
