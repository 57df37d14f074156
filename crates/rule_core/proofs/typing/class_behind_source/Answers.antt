use Rattle.rule_core.proofs.Common.{◌≡◌, ℕ, ◌+◌, ◌++◌, List, length, Some, flat_map, slice_get, flat_map-append, Rule, Statement, Term, classes_of_statement, classes_of_term, terms_in}
use Rattle.rule_core.proofs.Members.{get-append_left, get_behind}
use Rattle.rule_core.proofs.typing.class_behind_source.Goals as goal

-- the class is one of the target's, of the constant terms' behind them, or of those of `Wit:` behind these, at this
-- place
abbrev StandsIn : Rule → ℕ → ℕ → Type 0
StandsIn rule k class = slice_get (flat_map classes_of_statement rule.target ++ flat_map classes_of_term (terms_in rule)) k ≡ Some class

in_target : (rule : Rule) (target : List Statement) (k class : ℕ) → target ≡ rule.target → slice_get (flat_map classes_of_statement target) k ≡ Some class → StandsIn rule k class
in_target rule target k class same at = get-append_left (flat_map classes_of_statement rule.target) (flat_map classes_of_term (terms_in rule)) k class (rw same at at)

in_terms : (rule : Rule) (target : List Statement) (terms : List Term) (k rest class : ℕ) → target ≡ rule.target → k ≡ length (flat_map classes_of_statement target) + rest
    → terms ≡ rule.terms → slice_get (flat_map classes_of_term terms) rest ≡ Some class → StandsIn rule k class
in_terms rule target terms k rest class same is same' at =
    get_behind (flat_map classes_of_statement rule.target) (flat_map classes_of_term (terms_in rule)) k rest class (rw same at is)
    (rw (flat_map-append classes_of_term rule.terms rule.witness_terms)
    (get-append_left (flat_map classes_of_term rule.terms) (flat_map classes_of_term rule.witness_terms) rest class (rw same' at at)))

in_witness_terms : (rule : Rule) (target : List Statement) (terms witness_terms : List Term) (k rest last class : ℕ) → target ≡ rule.target → k ≡ length (flat_map classes_of_statement target) + rest
    → terms ≡ rule.terms → rest ≡ length (flat_map classes_of_term terms) + last → witness_terms ≡ rule.witness_terms → slice_get (flat_map classes_of_term witness_terms) last ≡ Some class → StandsIn rule k class
in_witness_terms rule target terms witness_terms k rest last class same is same' is' same'' at =
    get_behind (flat_map classes_of_statement rule.target) (flat_map classes_of_term (terms_in rule)) k rest class (rw same at is)
    (rw (flat_map-append classes_of_term rule.terms rule.witness_terms)
    (get_behind (flat_map classes_of_term rule.terms) (flat_map classes_of_term rule.witness_terms) rest last class (rw same' at is') (rw same'' at at)))

pub returns-in-Ok : goal.returns-in-Ok
returns-in-Ok c = in_target c.args.rule.now c.as_slice.result.now c.args.position c.in-Ok.class c.as_slice.ensures c.in-Ok.ensures

pub returns-in-Ok-class_in_terms : goal.returns-in-Ok-class_in_terms
returns-in-Ok-class_in_terms c =
    in_terms c.args.rule.now c.as_slice.result.now c.as_slice-in-Err.result.now c.args.position c.in-Err.rest c.in-Ok-class_in_terms.class
    c.as_slice.ensures c.in-Err.ensures c.as_slice-in-Err.ensures c.in-Ok-class_in_terms.ensures

pub returns-in-Ok-class_in_terms-2 : goal.returns-in-Ok-class_in_terms-2
returns-in-Ok-class_in_terms-2 c =
    in_witness_terms c.args.rule.now c.as_slice.result.now c.as_slice-in-Err.result.now c.as_slice-in-Err-class_in_terms.result.now c.args.position c.in-Err.rest c.in-Err-class_in_terms.rest c.in-Ok-class_in_terms-2.class
    c.as_slice.ensures c.in-Err.ensures c.as_slice-in-Err.ensures c.in-Err-class_in_terms.ensures c.as_slice-in-Err-class_in_terms.ensures c.in-Ok-class_in_terms-2.ensures
