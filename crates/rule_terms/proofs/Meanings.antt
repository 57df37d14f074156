-- Words, marks and operators: the parser takes them exactly as the grammar spells them.
use Rattle.rule_terms.proofs.Common.{◌≡◌, ◌≢◌, ℕ, suc, ◌<◌, ◌-◌, ◌^◌, min, Bool, true, false, cond, eqb, ◌&&◌, List, [], ◌∷◌, Option, Some, None, refl, sym, ap, subst, ◌∙◌, ⊎_elim, arith, codes, not, list_all, bytes_eq, eqb-true, eq-eqb, Opcode, Add, Sub, Mul, UDiv, SDiv, URem, SRem, Shl, LShr, AShr, And, Or, Xor, UMin, UMax, SMin, SMax, Negate, Log2, Abs, same_word, found-passes, begins_with, is_digit, are_digits, is_constant, and_left, and_right, decimal_value, Token, Mark, chosen, guarded, TermPlace, Meaning, of_level, operator_at, operator_mark, operators, operator_in, level_of, IsCalled, IsChoice, choice_in, choice_meaning, name_in, meaning_in}
use Rattle.rule_core.specs.declared.rule.Function.TheVariants.{Not}
use Rattle.rule_terms.specs.declared.place.TermPlace.TheVariants as places
use Rattle.rule_terms.specs.declared.word.Meaning.TheVariants as meanings

-- ---- binary operators

operator_in-is : (mark : List ℕ) (op : Opcode) → operator_in mark ≡ Some op → mark ≡ operator_mark op
unfolding operator_in
operator_in-is mark op e = same_word mark (operator_mark op) (found-passes (λ (o : Opcode). bytes_eq mark (operator_mark o)) operators op e)

nothing_marked : operator_in [] ≡ None
unfolding operator_in
nothing_marked = refl

-- an instruction that is no operator of terms isn't found
unmarked : (mark : List ℕ) (op : Opcode) → operator_mark op ≡ [] → operator_in mark ≢ Some op
unmarked mark op none e =
    let found : None ≡ Some op = sym nothing_marked ∙ sym (ap operator_in (operator_in-is mark op e ∙ none)) ∙ e in
    absurd cc

-- what is found has a level from 1 to 6
pub operator_level : (mark : List ℕ) (op : Opcode) → operator_in mark ≡ Some op → (0 < level_of op) × (level_of op < 7)
operator_level mark Mul e = (omega arith, omega arith)
operator_level mark SDiv e = (omega arith, omega arith)
operator_level mark UDiv e = (omega arith, omega arith)
operator_level mark SRem e = (omega arith, omega arith)
operator_level mark URem e = (omega arith, omega arith)
operator_level mark Add e = (omega arith, omega arith)
operator_level mark Sub e = (omega arith, omega arith)
operator_level mark Shl e = (omega arith, omega arith)
operator_level mark AShr e = (omega arith, omega arith)
operator_level mark LShr e = (omega arith, omega arith)
operator_level mark And e = (omega arith, omega arith)
operator_level mark Xor e = (omega arith, omega arith)
operator_level mark Or e = (omega arith, omega arith)
operator_level mark UMin e = absurd (unmarked mark UMin refl e)
operator_level mark UMax e = absurd (unmarked mark UMax refl e)
operator_level mark SMin e = absurd (unmarked mark SMin refl e)
operator_level mark SMax e = absurd (unmarked mark SMax refl e)

pub operator_in-of : (level : ℕ) (op : Opcode) → level_of op ≡ suc level → operator_in (operator_mark op) ≡ Some op
unfolding operator_in
operator_in-of level Add is = refl
operator_in-of level Sub is = refl
operator_in-of level Mul is = refl
operator_in-of level UDiv is = refl
operator_in-of level SDiv is = refl
operator_in-of level URem is = refl
operator_in-of level SRem is = refl
operator_in-of level Shl is = refl
operator_in-of level LShr is = refl
operator_in-of level AShr is = refl
operator_in-of level And is = refl
operator_in-of level Or is = refl
operator_in-of level Xor is = refl
operator_in-of level UMin is = absurd (omega (arith, is))
operator_in-of level UMax is = absurd (omega (arith, is))
operator_in-of level SMin is = absurd (omega (arith, is))
operator_in-of level SMax is = absurd (omega (arith, is))

-- an operator of the level is next, with these tokens behind it
pub record IsNext (level : ℕ) (tokens : List Token) (next : Opcode × List Token) : Type 0 where
  pub is_level : level_of next.0 ≡ level
  pub whole : tokens ≡ Mark (operator_mark next.0) ∷ next.1

of_level-is : (level : ℕ) (mark : List ℕ) (found : Option Opcode) (rest : List Token) (next : Opcode × List Token) → operator_in mark ≡ found → of_level level found rest ≡ Some next → IsNext level (Mark mark ∷ rest) next
of_level-is level mark None rest next f e = absurd cc
of_level-is level mark (Some op) rest next f e =
    let g = guarded (eqb (level_of op) level) (op, rest) next e in
    subst (λ (n : Opcode × List Token). IsNext level (Mark mark ∷ rest) n) g.1
    (record { is_level = eqb-true (level_of op) level g.0; whole = ap (λ (m : List ℕ). Mark m ∷ rest) (operator_in-is mark op f) })

pub operator_at-is : (level : ℕ) (tokens : List Token) (next : Opcode × List Token) → operator_at level tokens ≡ Some next → IsNext level tokens next
unfolding operator_at
operator_at-is level (Mark mark ∷ rest) next e = of_level-is level mark (operator_in mark) rest next refl e
operator_at-is level tokens next e = absurd cc

pub operator_at-of : (level : ℕ) (op : Opcode) (rest : List Token) → level_of op ≡ suc level → operator_at (suc level) (Mark (operator_mark op) ∷ rest) ≡ Some (op, rest)
unfolding operator_at
operator_at-of level op rest e = rw (operator_in-of level op e, eq-eqb (level_of op) (suc level) e) refl

-- ---- words

-- the words that mean this
abbrev pub Means : TermPlace → Meaning → List ℕ → Type 0
Means place meanings.Width word = word ≡ codes "width"
Means place (meanings.Call function) word = IsCalled function word
Means place meanings.Constant word = is_constant word ≡ true
Means place (meanings.Choice k) word = (place ≡ places.Witness) × IsChoice word k

some_is : {A : Type 0} (x y : A) → Some x ≡ Some y → x ≡ y
some_is x y e = cc

means_as : (place : TermPlace) (word : List ℕ) (a b : Meaning) → Some a ≡ Some b → Means place a word → Means place b word
means_as place word a b e h = subst (λ (m : Meaning). Means place m word) (some_is a b e) h

choice_in-is : (word : List ℕ) (k : ℕ) → choice_in word ≡ Some k → IsChoice word k
unfolding choice_in
choice_in-is [] k e = absurd cc
choice_in-is (b ∷ digits) k e =
    let g = guarded (eqb b 116 && are_digits digits && not (begins_with (λ c. eqb c 48) digits)) (min (decimal_value digits - 1) (2 ^ 32 - 1)) k e in
    let two = and_left (eqb b 116 && are_digits digits) (not (begins_with (λ c. eqb c 48) digits)) g.0 in (
      digits,
      ap (λ (c : ℕ). c ∷ digits) (eqb-true b 116 (and_left (eqb b 116) (are_digits digits) two)),
      and_right (eqb b 116) (are_digits digits) two,
      and_right (eqb b 116 && are_digits digits) (not (begins_with (λ c. eqb c 48) digits)) g.0,
      sym g.1,
    )

all_three : (a b c : Bool) → a ≡ true → b ≡ true → c ≡ true → (a && b && c) ≡ true
all_three a b c p q r = rw (p, q, r) refl

choice_in-of : (word : List ℕ) (k : ℕ) → IsChoice word k → choice_in word ≡ Some k
unfolding choice_in
choice_in-of word k (digits, is, all, first, value) =
    rw (is, all_three true (are_digits digits) (not (begins_with (λ c. eqb c 48) digits)) refl all first) (ap Some (sym value))

choice_meaning-is : (word : List ℕ) (found : Option ℕ) (m : Meaning) → choice_in word ≡ found → choice_meaning found ≡ Some m → Means places.Witness m word
choice_meaning-is word None m f e = absurd cc
choice_meaning-is word (Some k) m f e = means_as places.Witness word (meanings.Choice k) m e (refl, choice_in-is word k f)

name_in-is : (place : TermPlace) (word : List ℕ) (m : Meaning) → name_in place word ≡ Some m → Means place m word
unfolding name_in
name_in-is places.Constant word m e =
    let g = guarded (is_constant word) meanings.Constant m e in
    subst (λ (n : Meaning). Means places.Constant n word) g.1 g.0
name_in-is places.Witness word m e = ⊎_elim
    (λ (h : (is_constant word ≡ true) × (Some meanings.Constant ≡ Some m)). means_as places.Witness word meanings.Constant m h.1 h.0)
    (λ (h : (is_constant word ≡ false) × (choice_meaning (choice_in word) ≡ Some m)). choice_meaning-is word (choice_in word) m refl h.1)
    (chosen (is_constant word) (Some meanings.Constant) (choice_meaning (choice_in word)) (Some m) e)

-- words are compared one after the other
tried : (place : TermPlace) (word wanted : List ℕ) (a m : Meaning) (others : Option Meaning) → Means place a wanted → cond (bytes_eq word wanted) (Some a) others ≡ Some m → (others ≡ Some m → Means place m word) → Means place m word
tried place word wanted a m others is e next = ⊎_elim
    (λ (h : (bytes_eq word wanted ≡ true) × (Some a ≡ Some m)). means_as place word a m h.1 (subst (λ (w : List ℕ). Means place a w) (sym (same_word word wanted h.0)) is))
    (λ (h : (bytes_eq word wanted ≡ false) × (others ≡ Some m)). next h.1)
    (chosen (bytes_eq word wanted) (Some a) others (Some m) e)

pub meaning_in-is : (place : TermPlace) (word : List ℕ) (m : Meaning) → meaning_in place word ≡ Some m → Means place m word
unfolding meaning_in
meaning_in-is place word m e =
    tried place word (codes "width") meanings.Width m _ refl e (λ e1.
    tried place word (codes "log2") (meanings.Call Log2) m _ refl e1 (λ e2.
    tried place word (codes "abs") (meanings.Call Abs) m _ refl e2 (λ e3. name_in-is place word m e3)))

constant_means : (place : TermPlace) (word : List ℕ) → is_constant word ≡ true → meaning_in place word ≡ Some meanings.Constant
unfolding meaning_in name_in is_constant
constant_means place [] e = absurd cc
constant_means places.Constant (b ∷ digits) e = rw (eqb-true b 67 (and_left (eqb b 67) (list_all is_digit digits) e), and_right (eqb b 67) (list_all is_digit digits) e) refl
constant_means places.Witness (b ∷ digits) e = rw (eqb-true b 67 (and_left (eqb b 67) (list_all is_digit digits) e), and_right (eqb b 67) (list_all is_digit digits) e) refl

-- a word that begins with `t` can only be a choice
only_choice : (digits : List ℕ) → meaning_in places.Witness (116 ∷ digits) ≡ choice_meaning (choice_in (116 ∷ digits))
unfolding meaning_in name_in is_constant
only_choice digits = refl

choice_means : (word : List ℕ) (k : ℕ) → IsChoice word k → meaning_in places.Witness word ≡ Some (meanings.Choice k)
choice_means word k is =
    let found : choice_in (116 ∷ is.0) ≡ Some k = subst (λ (w : List ℕ). choice_in w ≡ Some k) is.1 (choice_in-of word k is) in
    rw is.1 (only_choice is.0 ∙ ap choice_meaning found)

pub meaning_in-of : (place : TermPlace) (m : Meaning) (word : List ℕ) → Means place m word → meaning_in place word ≡ Some m
unfolding meaning_in
meaning_in-of place meanings.Width word is = rw is refl
meaning_in-of place (meanings.Call Log2) word is = rw is refl
meaning_in-of place (meanings.Call Abs) word is = rw is refl
meaning_in-of place (meanings.Call Negate) word is = absurd is
meaning_in-of place (meanings.Call Not) word is = absurd is
meaning_in-of place meanings.Constant word is = constant_means place word is
meaning_in-of place (meanings.Choice k) word is = rw is.0 (choice_means word k is.1)
