-- The operands of an instruction, told by their widths.
use Rattle.blast_value.proofs.Common.{◌≡◌, ◌<◌, ℕ, Bool, true, false, if◌then◌else◌, List, [], ◌∷◌, get_or, length, refl, sym, ap, subst, ◌∙◌, length-map, get_or-map, Poison, Pred, Flags, Cast, HasWidth, bits, comparison, conversion, Held, widths_of}

-- there is an operand for each width, and it has that width
pub operand_there : {L : Type 0} (operands : List (Held L)) (widths : List ℕ) (n : ℕ) → widths_of operands ≡ widths → n < length widths → n < length operands
operand_there operands widths n is = subst (λ m. n < m) (sym (ap length is) ∙ length-map operands (λ (h : Held _). length h.bits))

pub operand_width : {L : Type 0} (operands : List (Held L)) (widths : List ℕ) (n : ℕ) (x : Held L) → widths_of operands ≡ widths → x ≡ get_or operands n x → length x.bits ≡ get_or widths n (length x.bits)
operand_width operands widths n x is at =
    ap (λ (h : Held _). length h.bits) at ∙ sym (get_or-map (λ (h : Held _). length h.bits) operands n x) ∙ ap (λ ws. get_or ws n (length x.bits)) is

pub one_operand : {L : Type 0} (operands : List (Held L)) (k : ℕ) (x : Held L) → widths_of operands ≡ k ∷ [] → x ≡ get_or operands 0 x → operands ≡ x ∷ []
one_operand [] k x widths at_x = cc
one_operand (a ∷ []) k x widths at_x = rw at_x refl
one_operand (a ∷ b ∷ operands) k x widths at_x = cc

pub two_operands : {L : Type 0} (operands : List (Held L)) (k l : ℕ) (x y : Held L) → widths_of operands ≡ k ∷ l ∷ [] → x ≡ get_or operands 0 x → y ≡ get_or operands 1 y → operands ≡ x ∷ y ∷ []
two_operands [] k l x y widths at_x at_y = cc
two_operands (a ∷ []) k l x y widths at_x at_y = cc
two_operands (a ∷ b ∷ []) k l x y widths at_x at_y = cc
two_operands (a ∷ b ∷ d ∷ operands) k l x y widths at_x at_y = cc

pub three_operands : {L : Type 0} (operands : List (Held L)) (k l m : ℕ) (x y z : Held L) → widths_of operands ≡ k ∷ l ∷ m ∷ [] → x ≡ get_or operands 0 x → y ≡ get_or operands 1 y → z ≡ get_or operands 2 z → operands ≡ x ∷ y ∷ z ∷ []
three_operands [] k l m x y z widths at_x at_y at_z = cc
three_operands (a ∷ []) k l m x y z widths at_x at_y at_z = cc
three_operands (a ∷ b ∷ []) k l m x y z widths at_x at_y at_z = cc
three_operands (a ∷ b ∷ d ∷ []) k l m x y z widths at_x at_y at_z = cc
three_operands (a ∷ b ∷ d ∷ e ∷ operands) k l m x y z widths at_x at_y at_z = cc

-- whatever width m the operands' values have, the effect at m is the one at the width of their words
pub comparison_width : (x y : Bool) (pred : Pred) (samesign : Bool) (l k a b m : ℕ) → HasWidth (if x then Poison else bits l a) m → comparison pred samesign l (if x then Poison else bits l a) (if y then Poison else bits k b) ≡ comparison pred samesign m (if x then Poison else bits l a) (if y then Poison else bits k b)
unfolding comparison
comparison_width true y pred samesign l k a b m width = refl
comparison_width false true pred samesign l k a b m width = refl
comparison_width false false pred samesign l k a b m width = rw (← width) refl

pub conversion_width : (x : Bool) (cast : Cast) (flags : Flags) (l to a m : ℕ) → HasWidth (if x then Poison else bits l a) m → conversion cast flags l to (if x then Poison else bits l a) ≡ conversion cast flags m to (if x then Poison else bits l a)
unfolding conversion
conversion_width true cast flags l to a m width = refl
conversion_width false cast flags l to a m width = rw (← width) refl
