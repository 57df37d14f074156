-- The predicates of one term, by their words and nodes.
use Rattle.rule_terms.proofs.Common.{◌≡◌, List, refl, ◌⊎◌, inl, inr, codes, RawNode, Predicate, IsPowerOfTwo, IsSignBit, predicate_word, predicate_node}
use Rattle.rule_terms.specs.declared.raw.RawFormula.TheVariants as formulas

pub predicates : (predicate : Predicate) (term : List RawNode)
    → ((predicate_word predicate ≡ codes "isPowerOf2") × (predicate_node predicate term ≡ formulas.IsPowerOfTwo term)) ⊎ ((predicate_word predicate ≡ codes "isSignBit") × (predicate_node predicate term ≡ formulas.IsSignBit term))
predicates IsPowerOfTwo term = inl (refl, refl)
predicates IsSignBit term = inr (refl, refl)
