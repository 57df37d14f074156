-- A text has one list of rules or one fault.
use Rattle.rule_parse.proofs.Common.{◌≡◌, ℕ, List, Result, Ok, Err, refl, sym, ap, subst, ◌∙◌, ◌⊎◌, inl, inr, arith, IfOk, IfErr, OneTokenAtAPlace, RuleFault, RuleError, Refused, NoMemory, RawRule, Gives, SpellsFile, TextsHaveOneReadingOrFault, limited, all_rules, IfRefused, IsWritten, IsTextFault, Token, AreTokens, one_reading, has_tokens, ok_is, rule_limits}
use Rattle.rule_parse.proofs.Files.{all_rules-is, all_rules-of}
use Rattle.rule_parse.proofs.Weight.{spelled_whole}

-- what the parser gives of the text's tokens
abbrev IsRead : List ℕ → Result (List RawRule) RuleFault → Type 0
IsRead text r = (tokens : List Token) × (last : ℕ) × AreTokens text tokens last × (all_rules rule_limits last (limited tokens) ≡ r)

one_read : OneTokenAtAPlace → (text : List ℕ) (r s : Result (List RawRule) RuleFault) → IsRead text r → IsRead text s → r ≡ s
one_read one text r s (tokens, last, are, is) (tokens', last', are', is') =
    let same = one_reading one text are (omega arith) tokens' last' are' in
    sym is ∙ ap (λ (ts : List Token). all_rules rule_limits last (limited ts)) same.0 ∙ ap (λ (l : ℕ). all_rules rule_limits l (limited tokens')) same.1 ∙ is'

written_read : (text : List ℕ) (raws : List RawRule) → IsWritten text raws → IsRead text (Ok raws)
written_read text raws w = (w.tokens, w.last, w.are_tokens, ap (λ (ts : List Token). all_rules rule_limits w.last ts) w.few ∙ all_rules-of rule_limits w.last raws w.tokens w.spelled)

-- rules that are read of the tokens with the limit are spelled by all of them
read_written : (text : List ℕ) (tokens : List Token) (last : ℕ) (raws : List RawRule) → AreTokens text tokens last → all_rules rule_limits last (limited tokens) ≡ Ok raws → IsWritten text raws
read_written text tokens last raws are e =
    let spelled : SpellsFile rule_limits raws (limited tokens) = all_rules-is rule_limits last (limited tokens) raws e in
    let few = spelled_whole raws tokens spelled in
    record { tokens = tokens; last = last; are_tokens = are; few = few; spelled = subst (λ (ts : List Token). SpellsFile rule_limits raws ts) few spelled }

fault_read : (text : List ℕ) (fault : RuleFault) → IsTextFault text fault → IsRead text (Err fault)
fault_read text fault f = (f.tokens, f.last, f.are_tokens, f.found)

abbrev err_of : RuleFault → Result (List RawRule) RuleFault
err_of fault = Err fault

abbrev ok_of : List RawRule → Result (List RawRule) RuleFault
ok_of raws = Ok raws

pub texts : OneTokenAtAPlace → TextsHaveOneReadingOrFault
texts one = record {
  some = λ text. let t = has_tokens text in found text t.0 t.1 t.2 (all_rules rule_limits t.1 (limited t.0)) refl;
  one_reading = λ text a b h k. ok_is a b (one_read one text (Ok a) (Ok b) (written_read text a h) (written_read text b k));
  one_fault = λ text a b h k. let e : err_of a ≡ err_of b = one_read one text (Err a) (Err b) (fault_read text a h) (fault_read text b k) in cc;
  not_both = λ text raws fault h k. let e : ok_of raws ≡ err_of fault = one_read one text (Ok raws) (Err fault) (written_read text raws h) (fault_read text fault k) in cc;
}
  where
    found : (text : List ℕ) (tokens : List Token) (last : ℕ) → AreTokens text tokens last → (r : Result (List RawRule) RuleFault) → all_rules rule_limits last (limited tokens) ≡ r → ((raws : List RawRule) × IsWritten text raws) ⊎ ((fault : RuleFault) × IsTextFault text fault)
    found text tokens last are (Ok raws) e = inl (raws, read_written text tokens last raws are e)
    found text tokens last are (Err fault) e = inr (fault, record { tokens = tokens; last = last; are_tokens = are; found = e })

-- ---- what the code answers

pub answers : {X : Type 0} (items : X → List RawRule) (text : List ℕ) (tokens : List Token) (last : ℕ) (r : Result X RuleError) → AreTokens text tokens last → Gives items r (all_rules rule_limits last (limited tokens)) → IfOk r (λ x. IsWritten text (items x)) × IfErr r (λ e. IfRefused e (IsTextFault text))
answers items text tokens last (Ok x) are e = (read_written text tokens last (items x) are e, tt)
answers items text tokens last (Err (Refused fault)) are e = (tt, record { tokens = tokens; last = last; are_tokens = are; found = e })
answers items text tokens last (Err NoMemory) are e = (tt, tt)
