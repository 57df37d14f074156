-- Flags one behind the other at the end of tokens, and tokens that end otherwise.
use Rattle.rule_viable_prefixes.proofs.Common.{◌≡◌, ℕ, List, [], ◌∷◌, ◌++◌, map, refl, sym, subst, append_assoc, ◌⊎◌, inl, inr, append-nil, RuleFaultKind, LeftOut, Token, Line, Word, IsFlagWord, AreFlagWords, RepeatsFlag}

abbrev pub NoFlag : Token → Type 0
NoFlag token = (word : List ℕ) → IsFlagWord word → token ≡ Word word → ⊥

-- the last token, if there is one, is no flag
abbrev pub NoFlagLast : List Token → Type 0
NoFlagLast [] = Unit {0}
NoFlagLast (t ∷ []) = NoFlag t
NoFlagLast (t ∷ u ∷ tokens) = NoFlagLast (u ∷ tokens)

-- there is a first token, and it is no flag
abbrev pub OtherFirst : List Token → Type 0
OtherFirst [] = ⊥
OtherFirst (t ∷ tokens) = NoFlag t

-- a word that is left out repeats no flag
abbrev pub IsNew : List Token → RuleFaultKind → Type 0
IsNew front kind = (left : List ℕ) → kind ≡ LeftOut left → ¬ RepeatsFlag front left

-- ---- flags that stand last

abbrev AreFlags : List Token → Type 0
AreFlags [] = Unit {0}
AreFlags (t ∷ tokens) = ((word : List ℕ) × IsFlagWord word × (t ≡ Word word)) × AreFlags tokens

are_flags : (words : List (List ℕ)) → AreFlagWords words → AreFlags (map (λ w. Word w) words)
are_flags [] flags = tt
are_flags (w ∷ words) flags = ((w, flags.0, refl), are_flags words flags.1)

second_flags : (first front : List Token) → AreFlags (first ++ front) → AreFlags front
second_flags [] front flags = flags
second_flags (u ∷ first) front flags = second_flags first front flags.1

no_last : (u : Token) (first front : List Token) → AreFlags (u ∷ (first ++ front)) → NoFlagLast (u ∷ first) → ⊥
no_last u [] front flags none = none flags.0.0 flags.0.1 flags.0.2
no_last u (v ∷ first) front flags none = no_last v first front flags.1 none

no_first : (front : List Token) → AreFlags front → OtherFirst front → ⊥
no_first [] flags other = other
no_first (t ∷ front) flags other = other flags.0.0 flags.0.1 flags.0.2

last_tail : (u : Token) (first front : List Token) → NoFlagLast (u ∷ first) ⊎ OtherFirst front → NoFlagLast first ⊎ OtherFirst front
last_tail u [] front parted = inl tt
last_tail u (v ∷ first) front parted = parted

-- where the first tokens end with no flag, or the others begin with none, a word that repeats no flag behind the others
-- repeats none behind both
pub new_behind : (first front : List Token) (kind : RuleFaultKind) → NoFlagLast first ⊎ OtherFirst front → IsNew front kind → IsNew (first ++ front) kind
new_behind [] front kind parted new left is again = new left is again
new_behind (u ∷ first) front kind parted new left is ([], words, flags, whole) = by parted
  where
    all : AreFlags (u ∷ (first ++ front))
    all = subst AreFlags (sym whole) (are_flags (left ∷ words) flags)

    by : NoFlagLast (u ∷ first) ⊎ OtherFirst front → ⊥
    by (inl last) = no_last u first front all last
    by (inr other) = no_first front (second_flags (u ∷ first) front all) other
new_behind (u ∷ first) front kind parted new left is (v ∷ before, words, flags, whole) = new_behind first front kind (last_tail u first front parted) new left is (before, words, flags, cc)

pub none_new : (kind : RuleFaultKind) → IsNew [] kind
none_new kind left is ([], words, flags, whole) = cc
none_new kind left is (t ∷ before, words, flags, whole) = cc

pub last_both : (first : List Token) (u : Token) (front : List Token) → NoFlagLast (u ∷ front) → NoFlagLast (first ++ u ∷ front)
last_both [] u front last = last
last_both (v ∷ []) u front last = last
last_both (v ∷ w ∷ first) u front last = last_both (w ∷ first) u front last

pub last_of_both : (first front : List Token) → NoFlagLast first → NoFlagLast front → NoFlagLast (first ++ front)
last_of_both first [] one two = subst NoFlagLast (sym (append-nil first)) one
last_of_both first (u ∷ front) one two = last_both first u front two

-- what is new on a line is new behind others, since a line's number is no flag
pub new_on_line : (own : List Token) (number : ℕ) (front : List Token) (kind : RuleFaultKind) → IsNew front kind → IsNew (own ++ Line number ∷ front) kind
new_on_line own number front kind new =
    subst (λ (ts : List Token). IsNew ts kind) (append_assoc own (Line number ∷ []) front)
    (new_behind (own ++ Line number ∷ []) front kind (inl (last_both own (Line number) [] (λ word flag is. cc))) new)
