-- Words of tables: the entry that is found is spelled by the word, and each word that is spelled is found.
use Rattle.ir_instructions.proofs.Common.{◌≡◌, ℕ, ◌≤◌, Bool, true, false, cond, not, eqb, leb, ◌&&◌, List, [], ◌∷◌, Option, Some, None, refl, sym, ap, subst, codes, find, list_all, bytes_eq, eqb-true, leb-true, le-leb, Flags, Opcode, Add, Sub, Mul, UDiv, SDiv, URem, SRem, Shl, LShr, AShr, And, Or, Xor, UMin, UMax, SMin, SMax, Trunc, ZExt, SExt, flag_in, is_intrinsic, same_word, found-passes, are_digits, decimal_value, Operation, NoTail, Ending, IsTypeWord, type_of_bits, type_in, operation_word, operations, operation_in, ending_word, ending_in}
use Rattle.ops.proofs.FlagSets.{both}
use Rattle.ir_instructions.specs.declared.word.TypeWord.TheVariants as types
use Rattle.ir_instructions.specs.declared.word.Operation.TheVariants.{Binary, Compare, Select, Convert, Freeze, Phi, Call, Tail}
use Rattle.ir_instructions.specs.declared.word.Ending.TheVariants.{Return, Unreachable, Branch, Switch}

-- ---- types

sized-is : (digits : List ℕ) (width : ℕ) (low high : Bool) → leb 1 (decimal_value digits) ≡ low → leb (decimal_value digits) 64 ≡ high → cond (low && high) (types.Integer (decimal_value digits)) types.OutOfRange ≡ types.Integer width → (decimal_value digits ≡ width) × (1 ≤ decimal_value digits) × (decimal_value digits ≤ 64)
sized-is digits width true true p q e = (cc, leb-true 1 (decimal_value digits) p, leb-true (decimal_value digits) 64 q)
sized-is digits width true false p q e = absurd cc
sized-is digits width false high p q e = absurd cc

pub type_in-is : (word : List ℕ) (width : ℕ) → type_in word ≡ types.Integer width → IsTypeWord word width
unfolding type_in
type_in-is [] width e = absurd cc
type_in-is (b ∷ digits) width e = typed (eqb b 105) (are_digits digits) refl refl e
  where
    typed : (i all : Bool) → eqb b 105 ≡ i → are_digits digits ≡ all → cond (i && all) (type_of_bits (decimal_value digits)) types.Other ≡ types.Integer width → IsTypeWord (b ∷ digits) width
    typed true true h a e =
        let s = sized-is digits width (leb 1 (decimal_value digits)) (leb (decimal_value digits) 64) refl refl e in
        (digits, ap (λ (c : ℕ). c ∷ digits) (eqb-true b 105 h), a, s.0, subst (λ (w : ℕ). 1 ≤ w) s.0 s.1, subst (λ (w : ℕ). w ≤ 64) s.0 s.2)
    typed true false h a e = absurd cc
    typed false all h a e = absurd cc

pub type_in-of : (word : List ℕ) (width : ℕ) → IsTypeWord word width → type_in word ≡ types.Integer width
unfolding type_in
type_in-of word width (digits, is, all, value, low, high) =
    let least : leb 1 (decimal_value digits) ≡ true = le-leb 1 (decimal_value digits) (subst (λ (w : ℕ). 1 ≤ w) (sym value) low) in
    let most : leb (decimal_value digits) 64 ≡ true = le-leb (decimal_value digits) 64 (subst (λ (w : ℕ). w ≤ 64) (sym value) high) in
    rw (is, all, least, most) (ap types.Integer value)

-- the word of a type is no flag and not `label`
pub type_is_no_flag : (taken : Flags) (word : List ℕ) (width : ℕ) → IsTypeWord word width → flag_in taken word ≡ None
unfolding flag_in
type_is_no_flag taken word width is = rw is.1 refl

pub type_is_no_label : (word : List ℕ) (width : ℕ) → IsTypeWord word width → bytes_eq word (codes "label") ≡ false
type_is_no_label word width is = rw is.1 refl

-- ---- words of tables

pub operation_in-is : (word : List ℕ) (operation : Operation) → operation_in word ≡ Some operation → word ≡ operation_word operation
unfolding operation_in
operation_in-is word operation e = same_word word (operation_word operation) (found-passes (λ (o : Operation). bytes_eq word (operation_word o)) operations operation e)

-- the first item that passes one test passes another that all items of the list pass
first_among : {A : Type 0} (q : A → Bool) (x y : A) (rest : Option A) (b : Bool) → q x ≡ true → (rest ≡ Some y → q y ≡ true) → cond b (Some x) rest ≡ Some y → q y ≡ true
first_among q x y rest true h others e = let same : x ≡ y = cc in subst (λ z. q z ≡ true) same h
first_among q x y rest false h others e = others e

pub found_among : {A : Type 0} (p q : A → Bool) (xs : List A) (y : A) → list_all q xs ≡ true → find p xs ≡ Some y → q y ≡ true
found_among p q [] y all e = absurd cc
found_among p q (x ∷ xs) y all e =
    let here = both (q x) (list_all q xs) all in
    first_among q x y (find p xs) (p x) here.0 (found_among p q xs y here.1) e

-- the operation has an opcode: it is no intrinsic
abbrev pub has_opcode : Operation → Bool
has_opcode (Binary op) = not (is_intrinsic op)
has_opcode operation = true

flipped : (b : Bool) → not b ≡ true → b ≡ false
flipped true h = absurd cc
flipped false h = refl

pub operation_in-of : (operation : Operation) → has_opcode operation ≡ true → operation_in (operation_word operation) ≡ Some operation
unfolding operation_in
operation_in-of (Binary Add) own = refl
operation_in-of (Binary Sub) own = refl
operation_in-of (Binary Mul) own = refl
operation_in-of (Binary UDiv) own = refl
operation_in-of (Binary SDiv) own = refl
operation_in-of (Binary URem) own = refl
operation_in-of (Binary SRem) own = refl
operation_in-of (Binary Shl) own = refl
operation_in-of (Binary LShr) own = refl
operation_in-of (Binary AShr) own = refl
operation_in-of (Binary And) own = refl
operation_in-of (Binary Or) own = refl
operation_in-of (Binary Xor) own = refl
operation_in-of (Binary UMin) own = absurd cc
operation_in-of (Binary UMax) own = absurd cc
operation_in-of (Binary SMin) own = absurd cc
operation_in-of (Binary SMax) own = absurd cc
operation_in-of Compare own = refl
operation_in-of Select own = refl
operation_in-of (Convert Trunc) own = refl
operation_in-of (Convert ZExt) own = refl
operation_in-of (Convert SExt) own = refl
operation_in-of Freeze own = refl
operation_in-of Phi own = refl
operation_in-of Call own = refl
operation_in-of Tail own = refl
operation_in-of NoTail own = refl

-- the operation that an opcode spells is no intrinsic
pub operation_is_no_intrinsic : (word : List ℕ) (op : Opcode) → operation_in word ≡ Some (Binary op) → is_intrinsic op ≡ false
unfolding operation_in
operation_is_no_intrinsic word op e =
    flipped (is_intrinsic op) (found_among (λ (o : Operation). bytes_eq word (operation_word o)) has_opcode operations (Binary op) refl e)

pub ending_in-is : (word : List ℕ) (ending : Ending) → ending_in word ≡ Some ending → word ≡ ending_word ending
unfolding ending_in
ending_in-is word ending e = same_word word (ending_word ending) (found-passes (λ (o : Ending). bytes_eq word (ending_word o)) (Return ∷ Unreachable ∷ Branch ∷ Switch ∷ []) ending e)

pub ending_in-of : (ending : Ending) → ending_in (ending_word ending) ≡ Some ending
unfolding ending_in
ending_in-of Return = refl
ending_in-of Unreachable = refl
ending_in-of Branch = refl
ending_in-of Switch = refl
