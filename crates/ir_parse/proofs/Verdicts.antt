-- A text has one module or one fault.
use Rattle.ir_parse.proofs.Common.{◌≡◌, ◌<◌, ◌≤◌, ℕ, Bool, true, false, leb, List, Result, Ok, Err, length, refl, sym, ap, ◌∙◌, ◌⊎◌, inl, inr, arith, IfOk, OnOk, IfErr, leb-true, leb-false, TextsHaveOneListOfTokens, AreTokens, Placed, TooLong, Refusal, Refused, NoMemory, Fault, IrFaultKind, RawModule, Gives, fault, TextsHaveOneReadingOrFault, module_of, IfRefused, most_bytes, IsRaw, IsTextFault, too_long, misfit, ok_is}
use Rattle.ir_parse.proofs.FunctionReadings.{module_of-is}
use Rattle.ir_parse.proofs.FunctionSpellings.{module_of-of}

-- the result of reading a text: its fault if it is too long, and else the result of the parser on its tokens
data IsRead (text : List ℕ) (r : Result RawModule (Fault IrFaultKind)) : Type 0 where
  of_long : most_bytes < length text → Err (fault 1 TooLong) ≡ r → IsRead text r
  of_tokens : length text ≤ most_bytes → (tokens : List Placed) → AreTokens text tokens → module_of tokens ≡ r → IsRead text r

one_read : TextsHaveOneListOfTokens → (text : List ℕ) (r s : Result RawModule (Fault IrFaultKind)) → IsRead text r → IsRead text s → r ≡ s
one_read law text r s (of_long more same) (of_long more' same') = sym same ∙ same'
one_read law text r s (of_long more same) (of_tokens within tokens are is) = absurd (omega arith)
one_read law text r s (of_tokens within tokens are is) (of_long more same) = absurd (omega arith)
one_read law text r s (of_tokens within tokens are is) (of_tokens within' tokens' are' is') = sym is ∙ ap module_of (law.one text tokens tokens' are are') ∙ is'

raw_read : (text : List ℕ) (m : RawModule) → length text ≤ most_bytes → IsRaw text m → IsRead text (Ok m)
raw_read text m within w = of_tokens within w.tokens w.are_tokens (module_of-of m w.tokens w.spelled)

one_raw : TextsHaveOneListOfTokens → (text : List ℕ) (a b : RawModule) → IsRaw text a → IsRaw text b → a ≡ b
one_raw law text a b h k = ok_is a b (sym (module_of-of a h.tokens h.spelled) ∙ ap module_of (law.one text h.tokens k.tokens h.are_tokens k.are_tokens) ∙ module_of-of b k.tokens k.spelled)

fault_read : (text : List ℕ) (f : Fault IrFaultKind) → IsTextFault text f → IsRead text (Err f)
fault_read text f (too_long more same) = of_long more (ap Err (sym same))
fault_read text f (misfit within tokens are found) = of_tokens within tokens are found

abbrev err_of : Fault IrFaultKind → Result RawModule (Fault IrFaultKind)
err_of f = Err f

abbrev ok_of : RawModule → Result RawModule (Fault IrFaultKind)
ok_of m = Ok m

abbrev ReadingOrFault : List ℕ → Type 0
ReadingOrFault text = ((m : RawModule) × IsRaw text m) ⊎ ((f : Fault IrFaultKind) × IsTextFault text f)

some_read : (text : List ℕ) (tokens : List Placed) (r : Result RawModule (Fault IrFaultKind)) → length text ≤ most_bytes → AreTokens text tokens → module_of tokens ≡ r → ReadingOrFault text
some_read text tokens (Ok m) within are e = inl (m, record { tokens = tokens; are_tokens = are; spelled = module_of-is tokens m e })
some_read text tokens (Err f) within are e = inr (f, misfit within tokens are e)

some : TextsHaveOneListOfTokens → (text : List ℕ) (b : Bool) → leb (length text) most_bytes ≡ b → ReadingOrFault text
some law text true h = let t = law.some text in some_read text t.0 (module_of t.0) (leb-true (length text) most_bytes h) t.1 refl
some law text false h = inr (fault 1 TooLong, too_long (leb-false (length text) most_bytes h) refl)

pub texts : TextsHaveOneListOfTokens → TextsHaveOneReadingOrFault
texts law = record {
  some = λ text. some law text (leb (length text) most_bytes) refl;
  one_reading = one_raw law;
  one_fault = λ text a b h k. let e : err_of a ≡ err_of b = one_read law text (Err a) (Err b) (fault_read text a h) (fault_read text b k) in cc;
  not_both = λ text m f within h k. let e : ok_of m ≡ err_of f = one_read law text (Ok m) (Err f) (raw_read text m within h) (fault_read text f k) in cc;
}

-- ---- the results of the code

pub answers : (text : List ℕ) (tokens : List Placed) (r : Result RawModule (Refusal (Fault IrFaultKind))) → length text ≤ most_bytes → AreTokens text tokens → Gives (λ m. m) r (module_of tokens)
    → IfOk r (λ m. IsRaw text m) × OnOk r (length text ≤ most_bytes) × IfErr r (λ e. IfRefused e (IsTextFault text))
answers text tokens (Ok m) within are e = (record { tokens = tokens; are_tokens = are; spelled = module_of-is tokens m e }, within, tt)
answers text tokens (Err (Refused f)) within are e = (tt, tt, misfit within tokens are e)
answers text tokens (Err NoMemory) within are e = (tt, tt, tt)
