-- Names of intrinsics: the parser finds an intrinsic exactly where one is spelled.
use Rattle.ir_instructions.proofs.Common.{◌≡◌, ℕ, suc, ◌+◌, ◌<◌, Bool, true, false, cond, eqb, List, [], ◌∷◌, ◌++◌, length, take, drop, Option, Some, None, refl, ap, sym, ◌∙◌, append_assoc, arith, codes, option_and_then, option_map, before_first, after_first, position_or_len, bytes_eq, eqb-true, take-append-drop, same_word, found-passes, Intrinsic, TypeWord, intrinsic_keyword, is_called, IsPlainType, IsIntrinsicName, keyword_in, width_of, plain_width_in, named_in, intrinsic_in, type_in}
use Rattle.ops.specs.declared.opcode.Opcode.TheVariants as opcodes
use Rattle.ops.specs.declared.opcode.Unary.TheVariants as unaries
use Rattle.ir_instructions.specs.declared.intrinsic.Intrinsic.TheVariants as intrinsics
use Rattle.ir_instructions.specs.declared.word.TypeWord.TheVariants as types
use Rattle.ir_instructions.specs.Intrinsics.{intrinsics as all_intrinsics}
use Rattle.ir_instructions.proofs.WordLemmas.{type_in-is, type_in-of, found_among}

-- a text with a `.` is what stands before the first one, the `.`, and what stands behind it
dotted : (text : List ℕ) → 0 < length (after_first (λ b. eqb b 46) text) → text ≡ before_first (λ b. eqb b 46) text ++ 46 ∷ after_first (λ b. eqb b 46) text
dotted [] some = absurd (omega arith)
dotted (b ∷ text) some = first (eqb b 46) refl (dotted text)
  where
    first : (is : Bool) → eqb b 46 ≡ is
        → (0 < length (after_first (λ c. eqb c 46) text) → text ≡ before_first (λ c. eqb c 46) text ++ 46 ∷ after_first (λ c. eqb c 46) text)
        → b ∷ text ≡ before_first (λ c. eqb c 46) (b ∷ text) ++ 46 ∷ after_first (λ c. eqb c 46) (b ∷ text)
    first true e rest = rw e (ap (λ (c : ℕ). c ∷ text) (eqb-true b 46 e))
    first false e rest =
        let n : ℕ = position_or_len (λ c. eqb c 46) text in
        let one : 1 + n ≡ suc n = omega arith in
        let two : 1 + n + 1 ≡ suc (n + 1) = omega arith in
        rw (e, two, one) (ap (λ (ts : List ℕ). b ∷ ts) (rest (rw (e, two) at some)))

keyword_in-is : (word : List ℕ) (what : Intrinsic) → keyword_in word ≡ Some what → word ≡ intrinsic_keyword what
unfolding keyword_in
keyword_in-is word what e = same_word word (intrinsic_keyword what) (found-passes (λ (w : Intrinsic). bytes_eq word (intrinsic_keyword w)) all_intrinsics what e)

width_of-is : (found : TypeWord) (width : ℕ) → width_of found ≡ Some width → found ≡ types.Integer width
width_of-is types.Other width e = absurd cc
width_of-is types.OutOfRange width e = absurd cc
width_of-is (types.Integer n) width e = cc

plain_width_in-is : (word : List ℕ) (width : ℕ) → plain_width_in word ≡ Some width → IsPlainType word width
unfolding plain_width_in
plain_width_in-is word width e = asked (bytes_eq (take 2 word) (codes "i0")) refl e
  where
    asked : (b : Bool) → bytes_eq (take 2 word) (codes "i0") ≡ b → cond b None (width_of (type_in word)) ≡ Some width → IsPlainType word width
    asked true leading e = absurd cc
    asked false plain e = (type_in-is word width (width_of-is (type_in word) width e), plain)

-- if a keyword and a width give an intrinsic at a width, both are found
joined : (found : Option Intrinsic) (sized : Option ℕ) (named : Intrinsic × ℕ) → option_and_then (λ what. option_map (λ width. (what, width)) sized) found ≡ Some named
    → (found ≡ Some named.0) × (sized ≡ Some named.1)
joined (Some what) (Some width) named e = let same : (what, width) ≡ named = cc in (ap (λ n. Some n.0) same, ap (λ n. Some n.1) same)
joined (Some what) None named e = absurd cc
joined None sized named e = absurd cc

-- the part of a name behind `llvm.`
named_in-is : (rest : List ℕ) (named : Intrinsic × ℕ) → named_in rest ≡ Some named
    → (is_called named.0 ≡ true) × (word : List ℕ) × (rest ≡ intrinsic_keyword named.0 ++ 46 ∷ word) × IsPlainType word named.1
unfolding named_in keyword_in
named_in-is rest named e =
    let word : List ℕ = after_first (λ b. eqb b 46) rest in
    let stem : List ℕ = before_first (λ b. eqb b 46) rest in
    let found = joined (keyword_in stem) (plain_width_in word) named e in
    let type = plain_width_in-is word named.1 found.1 in
    let some : 0 < length word = omega (arith, ap length type.0.1) in (
      found_among (λ (w : Intrinsic). bytes_eq stem (intrinsic_keyword w)) is_called all_intrinsics named.0 refl found.0,
      word,
      dotted rest some ∙ ap (λ (ts : List ℕ). ts ++ 46 ∷ word) (keyword_in-is stem named.0 found.0),
      type,
    )

regrouped : (keyword word : List ℕ) → codes "llvm." ++ (keyword ++ 46 ∷ word) ≡ codes "llvm." ++ keyword ++ codes "." ++ word
regrouped keyword word = simp append_assoc

pub intrinsic_in-is : (name : List ℕ) (named : Intrinsic × ℕ) → intrinsic_in name ≡ Some named → IsIntrinsicName name named
unfolding intrinsic_in
intrinsic_in-is name named e = asked (bytes_eq (take 5 name) (codes "llvm.")) refl e
  where
    asked : (b : Bool) → bytes_eq (take 5 name) (codes "llvm.") ≡ b → cond b (named_in (drop 5 name)) None ≡ Some named → IsIntrinsicName name named
    asked true front e =
        let (called, word, rest, type) = named_in-is (drop 5 name) named e in
        (called, word, sym (take-append-drop 5 name) ∙ ap (λ (ts : List ℕ). ts ++ drop 5 name) (same_word (take 5 name) (codes "llvm.") front) ∙ ap (λ (ts : List ℕ). codes "llvm." ++ ts) rest ∙ regrouped (intrinsic_keyword named.0) word, type)
    asked false front e = absurd cc

-- ---- completeness

plain_width_in-of : (word : List ℕ) (width : ℕ) → IsPlainType word width → plain_width_in word ≡ Some width
unfolding plain_width_in
plain_width_in-of word width (type, plain) = rw (plain, type_in-of word width type) refl

named_of : (what : Intrinsic) (width : ℕ) (word : List ℕ) → is_called what ≡ true → plain_width_in word ≡ Some width → intrinsic_in (codes "llvm." ++ intrinsic_keyword what ++ codes "." ++ word) ≡ Some (what, width)
unfolding intrinsic_in named_in keyword_in
named_of (intrinsics.Binary opcodes.UMin) width word called sized = rw sized refl
named_of (intrinsics.Binary opcodes.UMax) width word called sized = rw sized refl
named_of (intrinsics.Binary opcodes.SMin) width word called sized = rw sized refl
named_of (intrinsics.Binary opcodes.SMax) width word called sized = rw sized refl
named_of (intrinsics.Binary opcodes.Add) width word called sized = absurd cc
named_of (intrinsics.Binary opcodes.Sub) width word called sized = absurd cc
named_of (intrinsics.Binary opcodes.Mul) width word called sized = absurd cc
named_of (intrinsics.Binary opcodes.UDiv) width word called sized = absurd cc
named_of (intrinsics.Binary opcodes.SDiv) width word called sized = absurd cc
named_of (intrinsics.Binary opcodes.URem) width word called sized = absurd cc
named_of (intrinsics.Binary opcodes.SRem) width word called sized = absurd cc
named_of (intrinsics.Binary opcodes.Shl) width word called sized = absurd cc
named_of (intrinsics.Binary opcodes.LShr) width word called sized = absurd cc
named_of (intrinsics.Binary opcodes.AShr) width word called sized = absurd cc
named_of (intrinsics.Binary opcodes.And) width word called sized = absurd cc
named_of (intrinsics.Binary opcodes.Or) width word called sized = absurd cc
named_of (intrinsics.Binary opcodes.Xor) width word called sized = absurd cc
named_of (intrinsics.Unary unaries.Abs) width word called sized = rw sized refl
named_of (intrinsics.Unary unaries.CtPop) width word called sized = rw sized refl
named_of (intrinsics.Unary unaries.CtLz) width word called sized = rw sized refl
named_of (intrinsics.Unary unaries.CtTz) width word called sized = rw sized refl

pub intrinsic_in-of : (name : List ℕ) (named : Intrinsic × ℕ) → IsIntrinsicName name named → intrinsic_in name ≡ Some named
intrinsic_in-of name named (called, word, same, type) = rw same (named_of named.0 named.1 word called (plain_width_in-of word named.1 type))
