-- How many gates the parts of a rule's halves have together, where the temporaries are built once.
use Rattle.blast_rule.proofs.Common.{◌≡◌, ℕ, ◌+◌, ◌-◌, ◌<◌, ◌≤◌, List, length, Some, refl, sym, ap, ◌∙◌, arith, get_or, slice_get, sum_by_push, slice_get-get_or, Rule, Statement, temporaries_of, run_gates, statement_gates, root_gates}
use Rattle.blast_rule.proofs.Effects.{parts, last_statement}

-- the gates of the source are those of its temporaries and of the root's statement
pub source_gates : (rule : Rule) (typing : List ℕ) (root : Statement) → 0 < length rule.source → root ≡ get_or rule.source (length rule.source - 1) root
    → run_gates typing rule.source ≡ run_gates typing (temporaries_of rule) + statement_gates typing root
source_gates rule typing root some is = ap (λ xs. run_gates typing xs) (parts rule root some is) ∙ sum_by_push (statement_gates typing) (temporaries_of rule) root

pub root_gates-are : (rule : Rule) (typing : List ℕ) (root : Statement) → 0 < length rule.source → root ≡ get_or rule.source (length rule.source - 1) root → root_gates rule typing ≡ statement_gates typing root
root_gates-are rule typing root some is =
    let at : slice_get rule.source (length rule.source - 1) ≡ Some root = slice_get-get_or rule.source (length rule.source - 1) root (omega arith) ∙ ap (λ (s : Statement). Some s) (sym is) in
    rw at refl

pub source_shared : (rule : Rule) (typing : List ℕ) → 0 < length rule.source → run_gates typing rule.source ≡ run_gates typing (temporaries_of rule) + root_gates rule typing
source_shared rule typing some =
    let root = last_statement rule.source some in
    source_gates rule typing root.0 some root.2 ∙ ap (λ n. run_gates typing (temporaries_of rule) + n) (sym (root_gates-are rule typing root.0 some root.2))

-- The gates of what was built first are no more than all:
-- the temporaries', before those of `Wit:`, the root, the target, one, and what is said of bits;
pub first : (witness temporaries root source target said : ℕ) → source ≡ temporaries + root → temporaries ≤ witness + (source + target + 1) + said
first witness temporaries root source target said is = omega arith

pub unsaid : (witness temporaries root source target said : ℕ) → source ≡ temporaries + root → temporaries + (witness + root + target + 1) ≤ witness + (source + target + 1) + said
unsaid witness temporaries root source target said is = omega arith

pub all : (witness temporaries root source target said : ℕ) → source ≡ temporaries + root → temporaries + (witness + root + target + 1) + said ≤ witness + (source + target + 1) + said
all witness temporaries root source target said is = omega arith

-- the same, counted from after the temporaries: with `Wit:`, with the root, and with the target
pub early : (witness root target : ℕ) → witness ≤ witness + root + target + 1
early witness root target = omega arith

pub middle : (witness root here target : ℕ) → root ≡ here → witness + here ≤ witness + root + target + 1
middle witness root here target is = omega arith

pub late : (witness root here target : ℕ) → root ≡ here → witness + here + target ≤ witness + root + target + 1
late witness root here target is = omega arith

pub whole : (witness root here target : ℕ) → root ≡ here → witness + here + target + 1 ≤ witness + root + target + 1
whole witness root here target is = omega arith
