-- Which kind of token the longest prefix is.
use Rattle.scan.proofs.Common.{◌≡◌, ◌≢◌, ℕ, zero, suc, ◌<◌, ◌≤◌, Bool, true, false, cond, ltb, ◌||◌, not, List, [], ◌∷◌, Option, Some, None, length, take, drop, refl, sym, ap, subst, ◌∙◌, ⊎_elim, arith, RuleKind, Head, Arrow, is_bad, begins_with, in_gap, IsLongest, IsLongestOf, is_mark, is_placed_operator, is_unsigned_operator, is_remainder, is_rule_word, is_negative, is_literal, kind_of}
use Rattle.std.proofs.lemmas.Bool.{ltb-true, ltb-false}
use Rattle.scan.specs.declared.rule_token.RuleKind.TheVariants.{End, Other, Register, Word, Number, Mark}
use Rattle.scan.specs.RuleTokens.{is_register, IsLongestToken, Begins}
use Rattle.scan.proofs.Fronts.{which}

abbrev Kinds : Type 0
Kinds = List ℕ → List ℕ → Option RuleKind

-- the longest prefix where only one kind is tested for
pub kind_last : (f : List ℕ → List ℕ → Bool) (kind : RuleKind) (text : List ℕ) (n : ℕ) → IsLongest f text n → IsLongestOf (λ bytes rest. cond (f bytes rest) (Some kind) None) text kind n
kind_last f kind text n h = record {
  within = h.within;
  found = λ k. ap (λ (b : Bool). cond b (Some kind) None) (h.found k);
  longest = λ m l some. ⊎_elim
      (λ (e : f (take m text) (drop m text) ≡ true). h.longest m l e)
      (λ (e : f (take m text) (drop m text) ≡ false). absurd (some (ap (λ (b : Bool). cond b (Some kind) None) e)))
      (which (f (take m text) (drop m text)));
}

-- the longest prefix where one kind is tested for before others
pub kind_first : (f : List ℕ → List ℕ → Bool) (g : Kinds) (kind : RuleKind) (text : List ℕ) (n : ℕ) (second r : RuleKind × ℕ) → IsLongest f text n → IsLongestOf g text second.0 second.1 → r ≡ cond (ltb n second.1) second (kind, n) → IsLongestOf (λ bytes rest. cond (f bytes rest) (Some kind) (g bytes rest)) text r.0 r.1
kind_first f g kind text n second r a b is = subst (λ (x : RuleKind × ℕ). IsLongestOf (λ bytes rest. cond (f bytes rest) (Some kind) (g bytes rest)) text x.0 x.1) (sym is) (⊎_elim
    (λ (e : ltb n second.1 ≡ true). rw e (record {
      within = b.within;
      found = λ k. ap (λ (t : Bool). cond t (Some kind) (g (take second.1 text) (drop second.1 text))) (fails e) ∙ b.found k;
      longest = λ m l some. ⊎_elim
          (λ (t : f (take m text) (drop m text) ≡ true). let le : m ≤ n = a.longest m l t in let lt : n < second.1 = ltb-true n second.1 e in omega arith)
          (λ (t : f (take m text) (drop m text) ≡ false). b.longest m l (λ none. some (ap (λ (t : Bool). cond t (Some kind) (g (take m text) (drop m text))) t ∙ none)))
          (which (f (take m text) (drop m text)));
    }))
    (λ (e : ltb n second.1 ≡ false). rw e (record {
      within = a.within;
      found = λ k. ap (λ (t : Bool). cond t (Some kind) (g (take n text) (drop n text))) (a.found k);
      longest = λ m l some. ⊎_elim
          (λ (t : f (take m text) (drop m text) ≡ true). a.longest m l t)
          (λ (t : f (take m text) (drop m text) ≡ false). let le : m ≤ second.1 = b.longest m l (λ none. some (ap (λ (t : Bool). cond t (Some kind) (g (take m text) (drop m text))) t ∙ none)) in let ge : second.1 ≤ n = ltb-false n second.1 e in omega arith)
          (which (f (take m text) (drop m text)));
    }))
    (which (ltb n second.1)))
  where
    fails : ltb n second.1 ≡ true → f (take second.1 text) (drop second.1 text) ≡ false
    fails e = ⊎_elim
        (λ (t : f (take second.1 text) (drop second.1 text) ≡ true). absurd (let le : second.1 ≤ n = a.longest second.1 b.within t in let lt : n < second.1 = ltb-true n second.1 e in omega arith))
        (λ (t : f (take second.1 text) (drop second.1 text) ≡ false). t)
        (which (f (take second.1 text) (drop second.1 text)))

-- the empty prefix is no token
pub kind_of-empty : (operator : Bool) (rest : List ℕ) → kind_of operator [] rest ≡ None
unfolding kind_of is_mark is_placed_operator is_unsigned_operator is_remainder is_register is_rule_word is_literal is_negative
kind_of-empty true rest = refl
kind_of-empty false rest = refl

-- ---- the kinds of tokens

-- a kind of proper tokens: neither the end nor a byte that begins none
abbrev pub IsProper : RuleKind → Type 0
IsProper End = ⊥
IsProper Other = ⊥
IsProper kind = Unit {0}

picked : (b : Bool) (k : RuleKind) (others : Option RuleKind) → IsProper k → ((kind : RuleKind) → others ≡ Some kind → IsProper kind) → (kind : RuleKind) → cond b (Some k) others ≡ Some kind → IsProper kind
picked true k others p q kind e = subst IsProper (some_is k kind e) p
  where
    some_is : (x y : RuleKind) → cond true (Some x) None ≡ Some y → x ≡ y
    some_is x y e = cc
picked false k others p q kind e = q kind e

abbrev no_kind : Option RuleKind
no_kind = None

none_proper : (kind : RuleKind) → no_kind ≡ Some kind → IsProper kind
none_proper kind e = absurd cc

pub kind_of-proper : (operator : Bool) (bytes rest : List ℕ) (kind : RuleKind) → kind_of operator bytes rest ≡ Some kind → IsProper kind
unfolding kind_of
kind_of-proper operator bytes rest = picked _ Mark _ tt (picked _ Head _ tt (picked _ Arrow _ tt (picked _ Register _ tt (picked _ Word _ tt (picked _ Number _ tt none_proper)))))

-- ---- what a text begins with

pub begins_token : (operator : Bool) (text : List ℕ) (kind : RuleKind) (n : ℕ) → IsLongestOf (kind_of operator) text kind n → n ≢ 0 → Begins operator text kind n
begins_token operator text kind n h some = of_kind kind (kind_of-proper operator (take n text) (drop n text) kind (h.found (omega arith))) (record { within = h.within; of_kind = h.found (omega arith); longest = h.longest })
  where
    of_kind : (kind : RuleKind) → IsProper kind → IsLongestToken operator text kind n → Begins operator text kind n
    of_kind End p t = absurd p
    of_kind Other p t = absurd p
    of_kind Head p t = t
    of_kind Register p t = t
    of_kind Word p t = t
    of_kind Number p t = t
    of_kind Arrow p t = t
    of_kind Mark p t = t

pub begins_other : (operator : Bool) (text : List ℕ) (kind : RuleKind) (n : ℕ) → IsLongestOf (kind_of operator) text kind n → n ≡ 0 → length text ≢ 0 → begins_with is_bad text ≡ false → begins_with in_gap text ≡ false → Begins operator text Other 1
begins_other operator text kind n h none some good no_gap = (record { visible = visible text some good no_gap; no_token = no_token }, refl)
  where
    visible : (text : List ℕ) → length text ≢ 0 → begins_with is_bad text ≡ false → begins_with in_gap text ≡ false → begins_with (λ b. not (is_bad b || in_gap b)) text ≡ true
    visible [] some good no_gap = absurd (some refl)
    visible (b ∷ text) some good no_gap = rw (good, no_gap) refl

    no_token : (m : ℕ) → m ≤ length text → kind_of operator (take m text) (drop m text) ≡ None
    no_token zero l = kind_of-empty operator text
    no_token (suc m) l = found_none (kind_of operator (take (suc m) text) (drop (suc m) text)) (λ some. let le : suc m ≤ n = h.longest (suc m) l some in omega arith)
      where
        found_none : (o : Option RuleKind) → ((o ≢ None) → ⊥) → o ≡ None
        found_none None no_some = refl
        found_none (Some k) no_some = absurd (no_some (λ e. cc))
