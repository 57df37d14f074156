use Rattle.rule_core.proofs.Common.{ℕ, ◌≡◌, ◌<◌, length, List, Some, get_or, refl, slice_get, slice_get_read, Rule, classes_of, IsTyping, width_at}
use Rattle.rule_core.proofs.Members.{Contains-from_get}
use Rattle.rule_core.proofs.typing.width_at.Goals as goal

has_width : (rule : Rule) (typing : List ℕ) (position class : ℕ) → IsTyping rule typing → slice_get (classes_of rule) position ≡ Some class → class < length typing
has_width rule typing position class typed at = typed.classes class (Contains-from_get (classes_of rule) position class at)

width_is : (rule : Rule) (typing widths : List ℕ) (position class N : ℕ) → widths ≡ typing → slice_get (classes_of rule) position ≡ Some class → class < length typing → N ≡ get_or widths class N → width_at rule typing position ≡ Some N
width_is rule typing widths position class N same at within is = rw at (slice_get_read typing (length typing) class N refl within (rw same at is))

pub bounds-as_slice-class_at : goal.bounds-as_slice-class_at
bounds-as_slice-class_at c =
    rw c.as_slice.ensures (has_width c.args.rule.now c.args.typing.now c.args.position c.class_at.result c.requires.typing c.class_at.ensures)

pub returns : goal.returns
returns c =
    width_is c.args.rule.now c.args.typing.now c.as_slice.result.now c.args.position c.class_at.result c.index-as_slice-class_at.result c.as_slice.ensures c.class_at.ensures
    (has_width c.args.rule.now c.args.typing.now c.args.position c.class_at.result c.requires.typing c.class_at.ensures) c.index-as_slice-class_at.is
