use Rattle.rule_core.proofs.Common.{◌≡◌, ℕ, ◌+◌, ◌<◌, List, length, take, Some, get_or, flat_map, slice_get, get_or_default, Term, classes_of_term}
use Rattle.rule_core.proofs.Members.{get-flat_map}
use Rattle.rule_core.proofs.typing.class_in_terms.Goals as goal

stands : (terms : List Term) (d : Term) (i rest position class : ℕ) → i < length terms → position ≡ length (flat_map classes_of_term (take i terms)) + rest → slice_get (classes_of_term (get_or terms i d)) rest ≡ Some class → slice_get (flat_map classes_of_term terms) position ≡ Some class
stands terms d i rest position class within is at = rw is (get-flat_map classes_of_term terms i (get_or terms i d) rest class within (get_or_default terms i d (get_or terms i d) within) at)

pub returns-in-Ok : goal.returns-in-Ok
returns-in-Ok c = stands c.args.terms.now _ c.loop-term.term-index c.loop-term.rest c.args.position c.in-Ok.class c.loop-term-test.true c.loop-term.invariant c.in-Ok.ensures
