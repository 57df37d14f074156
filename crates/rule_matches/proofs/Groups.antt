-- The group of a kind of root, and so the rules that may match an instruction.
use Rattle.rule_matches.proofs.Common.{◌≡◌, ℕ, ◌<◌, List, [], Option, None, Some, length, sym, ap, subst, ◌∙◌, arith, HoldsAt, IfNone, IfSome, MatchOption, AllWithin, same_Some, get_or_from_slice_get, slice_get_within, Rule, RootKind, RulesByRoot, Group, AreByRoot, AreCandidates, AreOfKind, HasRootKind, IsGroupOf, kind_of_inst}
use Rattle.ir_core.specs.declared.instruction.Op.{Op as InstOp}
use Rattle.rule_matches.proofs.Places.{some_at}

-- what the search for a group answers
abbrev pub IsFound : RulesByRoot → RootKind → Option ℕ → Type 0
IsFound all kind found = MatchOption found (AllWithin (λ (x : Group). ¬ (x.kind ≡ kind)) all.groups.items 0 (length all.groups.items))
    (λ g. (g < length all.groups.items) × HoldsAt (λ (x : Group). x.kind ≡ kind) all.groups.items g × AllWithin (λ (x : Group). ¬ (x.kind ≡ kind)) all.groups.items 0 g)

pub found_some : (all : RulesByRoot) (kind : RootKind) (found : Option ℕ) → IsFound all kind found → IfSome found (IsGroupOf all kind)
found_some all kind None is = tt
found_some all kind (Some g) is =
    let (x, at) = some_at all.groups.items g is.0 in
    (x, at, ap (λ (y : Group). y.kind) (sym (get_or_from_slice_get all.groups.items g x x at)) ∙ is.1 x)

pub found_none : (all : RulesByRoot) (kind : RootKind) (found : Option ℕ) → IsFound all kind found → IfNone found ((g : ℕ) → ¬ IsGroupOf all kind g)
found_none all kind None is = λ g (x, at, named).
    is g x (omega arith) (slice_get_within all.groups.items g x at) (ap (λ (y : Group). y.kind) (get_or_from_slice_get all.groups.items g x x at) ∙ named)
found_none all kind (Some g) is = tt

-- the rules of the kind are those that may match
pub of_kind : (rules : List Rule) (op : InstOp) (kind : RootKind) (places : List ℕ) → kind_of_inst op ≡ Some kind → AreOfKind rules kind places → AreCandidates rules op places
of_kind rules op kind places is are = record {
  same = λ r. (
    λ among. (kind, is, (are.same r).0 among),
    λ has. (are.same r).1 (subst (λ (k : RootKind). HasRootKind rules k r) (same_Some has.0 kind (sym has.1 ∙ is)) has.2),
  );
  in_order = are.in_order;
}

pub no_group : (rules : List Rule) (op : InstOp) (kind : RootKind) (all : RulesByRoot) → kind_of_inst op ≡ Some kind → AreByRoot rules all → ((g : ℕ) → ¬ IsGroupOf all kind g) → AreCandidates rules op []
no_group rules op kind all is are none = record {
  same = λ r. (
    λ among. absurd (omega (arith, among.1)),
    λ has. let found = are.some r kind (subst (λ (k : RootKind). HasRootKind rules k r) (same_Some has.0 kind (sym has.1 ∙ is)) has.2) in absurd (none found.0 found.1),
  );
  in_order = λ i j d less within. absurd (omega arith);
}
