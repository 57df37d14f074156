-- The marks and words of formulas.
use Rattle.std.specs.Prelude.{ℕ, if◌then◌else◌, List, [], ◌∷◌, find, Option, Some, None, codes}
use Rattle.std.specs.Str.{bytes_eq}
use Rattle.ops.specs.declared.comparison.Pred.{Pred}
use Rattle.ops.specs.declared.comparison.Pred.TheVariants.{Eq, Ne, Ugt, Uge, Ult, Ule, Sgt, Sge, Slt, Sle}
use Rattle.ops.specs.Keywords.{predicates}
use Rattle.rule_terms.specs.declared.raw.RawNode.{RawNode}
use Rattle.rule_terms.specs.declared.raw.RawFormula.{RawFormula}
use Rattle.rule_terms.specs.declared.raw.RawFormula.TheVariants as formulas
use Rattle.rule_terms.specs.declared.formula_word.Predicate.{Predicate}
use Rattle.rule_terms.specs.declared.formula_word.Predicate.TheVariants.{IsPowerOfTwo, IsSignBit}

-- how the comparison by a predicate is written
abbrev pub comparison_mark : Pred → List ℕ
comparison_mark Eq = codes "=="
comparison_mark Ne = codes "!="
comparison_mark Slt = codes "<"
comparison_mark Sle = codes "<="
comparison_mark Sgt = codes ">"
comparison_mark Sge = codes ">="
comparison_mark Ult = codes "u<"
comparison_mark Ule = codes "u<="
comparison_mark Ugt = codes "u>"
comparison_mark Uge = codes "u>="

-- the predicate that a mark is the comparison by
unfoldable pub comparison_in : List ℕ → Option Pred
comparison_in mark = find (λ pred. bytes_eq mark (comparison_mark pred)) predicates

-- the marks that stand in formulas and not in terms
abbrev pub formula_marks : List (List ℕ)
formula_marks =
    codes "==" ∷ codes "!=" ∷ codes "<" ∷ codes "<=" ∷ codes ">" ∷ codes ">="
    ∷ codes "u<" ∷ codes "u<=" ∷ codes "u>" ∷ codes "u>="
    ∷ codes "!" ∷ codes "&&" ∷ codes "||" ∷ []

-- the words that do
abbrev pub formula_words : List (List ℕ)
formula_words = codes "isPowerOf2" ∷ codes "isSignBit" ∷ codes "hasOneUse" ∷ []

-- the word of a predicate of one term (and below, its node)
abbrev pub predicate_word : Predicate → List ℕ
predicate_word IsPowerOfTwo = codes "isPowerOf2"
predicate_word IsSignBit = codes "isSignBit"

abbrev pub predicate_node : Predicate → List RawNode → RawFormula
predicate_node IsPowerOfTwo term = formulas.IsPowerOfTwo term
predicate_node IsSignBit term = formulas.IsSignBit term

-- the predicate of one term that a word names
unfoldable pub predicate_in : List ℕ → Option Predicate
predicate_in word =
    if bytes_eq word (codes "isPowerOf2") then Some IsPowerOfTwo
    else (if bytes_eq word (codes "isSignBit") then Some IsSignBit else None)
