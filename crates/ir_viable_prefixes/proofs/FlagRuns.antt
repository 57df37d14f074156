-- Runs of flags, and parsers in sequence that split none.
use Rattle.ir_viable_prefixes.proofs.Common.{◌≡◌, ℕ, zero, suc, Bool, true, false, cond, List, [], ◌∷◌, ◌++◌, Ok, Err, refl, sym, ap, subst, ◌∙◌, ◌⊎◌, inl, inr, append_assoc, append-nil, Fault, Token, Placed, Word, IrFaultKind, Syntax, LeftOut, Is, Each, Read, Reader, fault, goes_on, ◌>>=◌, done, steps_at, repeat_at, repeat-is, bind_ok, read_as, Flag, flag_keyword}

-- the last tokens are keywords of flags, of which the first is this word
abbrev pub FollowsFlag : List Placed → List ℕ → Type 0
FollowsFlag front word =
    (before behind : List Placed) × (flag : Flag) × (flags : List Flag) × (front ≡ before ++ behind) × (word ≡ flag_keyword flag)
    × Each (λ f. Is (Word (flag_keyword f))) (flag ∷ flags) behind []

abbrev pub IsAgain : List Placed → Token → Type 0
IsAgain front token = (word : List ℕ) × (token ≡ Word word) × FollowsFlag front word

abbrev pub NoFlag : Token → Type 0
NoFlag t = (flag : Flag) → t ≡ Word (flag_keyword flag) → ⊥

-- the last token is no flag
abbrev pub NoFlagLast : List Placed → Type 0
NoFlagLast [] = Unit {0}
NoFlagLast (t ∷ []) = NoFlag t.1
NoFlagLast (t ∷ u ∷ tokens) = NoFlagLast (u ∷ tokens)

-- the first token is no flag
abbrev pub NoFlagNext : List Placed → Type 0
NoFlagNext [] = Unit {0}
NoFlagNext (t ∷ tokens) = NoFlag t.1

-- no run of flags goes across the border between the two
abbrev pub Parted : List Placed → List Placed → Type 0
Parted front rest = NoFlagLast front ⊎ NoFlagNext rest

-- ---- runs of flags at the end

abbrev AreFlags : List Placed → Type 0
AreFlags [] = Unit {0}
AreFlags (t ∷ tokens) = ((flag : Flag) × (t.1 ≡ Word (flag_keyword flag))) × AreFlags tokens

are_flags : (flags : List Flag) (run : List Placed) → Each (λ f. Is (Word (flag_keyword f))) flags run [] → AreFlags run
are_flags [] run same = subst AreFlags (sym same) tt
are_flags (f ∷ flags) run (between, (l, one), more) = subst AreFlags (sym one) ((f, refl), are_flags flags between more)

second_flags : (first front : List Placed) → AreFlags (first ++ front) → AreFlags front
second_flags [] front flags = flags
second_flags (u ∷ first) front flags = second_flags first front flags.1

-- among tokens that are all flags the last is one
no_last : (u : Placed) (first front : List Placed) → AreFlags (u ∷ (first ++ front)) → NoFlagLast (u ∷ first) → ⊥
no_last u [] front flags none = none flags.0.0 flags.0.1
no_last u (v ∷ first) front flags none = no_last v first front flags.1 none

no_next : (front : List Placed) (line : ℕ) (t : Token) (behind : List Placed) → AreFlags front → (flag : Flag) → t ≡ Word (flag_keyword flag) → NoFlagNext (front ++ (line, t) ∷ behind) → ⊥
no_next [] line t behind flags flag is none = none flag is
no_next (u ∷ front) line t behind flags flag is none = none flags.0.0 flags.0.1

parted_tail : (u : Placed) (first rest : List Placed) → Parted (u ∷ first) rest → Parted first rest
parted_tail u [] rest p = inl tt
parted_tail u (v ∷ first) rest p = p

-- a run of flags at the end is all behind a border across which no run goes
pub new_behind : (first front : List Placed) (line : ℕ) (t : Token) (behind : List Placed) → Parted first (front ++ (line, t) ∷ behind) → ¬ IsAgain front t → ¬ IsAgain (first ++ front) t
new_behind [] front line t behind parted new again = new again
new_behind (u ∷ first) front line t behind parted new (w, is, ([], run, flag, flags, same, word, each)) = by parted
  where
    all : AreFlags (u ∷ (first ++ front))
    all = subst AreFlags (sym same) (are_flags (flag ∷ flags) run each)

    by : Parted (u ∷ first) (front ++ (line, t) ∷ behind) → ⊥
    by (inl last) = no_last u first front all last
    by (inr next) = no_next front line t behind (second_flags (u ∷ first) front all) flag (is ∙ ap Word word) next
new_behind (u ∷ first) front line t behind parted new (w, is, (v ∷ before, run, flag, flags, same, word, each)) =
    new_behind first front line t behind (parted_tail u first (front ++ (line, t) ∷ behind) parted) new (w, is, (before, run, flag, flags, cc, word, each))

pub none_repeated : (t : Token) → ¬ IsAgain [] t
none_repeated t (w, is, (before, run, flag, flags, same, word, (between, (l, one), each))) = by before (same ∙ ap (λ (ts : List Placed). before ++ ts) one)
  where
    by : (before : List Placed) → [] ≡ before ++ (l, Word (flag_keyword flag)) ∷ between → ⊥
    by [] none = cc
    by (u ∷ before) none = cc

-- ---- readers

-- no run of flags goes across the border between what the parser reads and what it leaves
abbrev pub ReadsApart : {A : Type 0} → Reader A → Type 0
ReadsApart {A} R = (tokens : List Placed) (x : A × List Placed) → R tokens ≡ Ok x → (front : List Placed) × (tokens ≡ front ++ x.1) × Parted front x.1

-- what the parser reads is a prefix of the tokens
abbrev pub Splits : {A : Type 0} → Reader A → Type 0
Splits {A} R = (tokens : List Placed) (x : A × List Placed) → R tokens ≡ Ok x → (front : List Placed) × (tokens ≡ front ++ x.1)

pub apart_splits : {A : Type 0} {R : Reader A} → ReadsApart R → Splits R
apart_splits r tokens x is = let a = r tokens x is in (a.0, a.1)

pub both_splits : {A B : Type 0} (R : Reader A) (S : A → Reader B) → Splits R → ((x : A) → Splits (S x)) → Splits (R >>= S)
both_splits R S r s tokens y is =
    let one = bind_ok (R tokens) S y is in
    let a = r tokens one.0 one.1 in
    let b = s one.0.0 one.0.1 y one.2 in
    (a.0 ++ b.0, a.1 ∙ ap (λ (ts : List Placed). a.0 ++ ts) b.1 ∙ sym (append_assoc a.0 b.0 y.1))

pub loop_splits : {A : Type 0} (is_next : List Placed → Bool) (step : A → Reader A) → ((a : A) → Splits (step a)) → (a : A) → Splits (repeat_at is_next step a)
loop_splits {A} is_next step parts a tokens x is =
    (repeat-is is_next step (λ b ts c rest. (front : List Placed) × (ts ≡ front ++ rest)) (λ b ts. ([], refl)) (λ b ts y c rest next one more. another b ts y rest one more) _ a tokens x is).0
  where
    another : (b : A) (ts : List Placed) (y : A × List Placed) (rest : List Placed) → step b ts ≡ Ok y → (front : List Placed) × (y.1 ≡ front ++ rest) → (front : List Placed) × (ts ≡ front ++ rest)
    another b ts y rest one (front, there) = let a = parts b ts y one in (a.0 ++ front, a.1 ∙ ap (λ (us : List Placed). a.0 ++ us) there ∙ sym (append_assoc a.0 front rest))

last_both : (first : List Placed) (u : Placed) (front : List Placed) → NoFlagLast (u ∷ front) → NoFlagLast (first ++ u ∷ front)
last_both [] u front last = last
last_both (v ∷ []) u front last = last
last_both (v ∷ w ∷ first) u front last = last_both (w ∷ first) u front last

parted_both : (first front rest : List Placed) → Parted first (front ++ rest) → Parted front rest → Parted (first ++ front) rest
parted_both first [] rest one two = subst (λ (ts : List Placed). Parted ts rest) (sym (append-nil first)) one
parted_both first (u ∷ front) rest one (inl last) = inl (last_both first u front last)
parted_both first (u ∷ front) rest one (inr next) = inr next

-- the rest is left behind a prefix, and no run of flags goes across the border
abbrev pub Leaves : List Placed → List Placed → Type 0
Leaves tokens rest = (front : List Placed) × (tokens ≡ front ++ rest) × Parted front rest

pub leaves_all : (tokens : List Placed) → Leaves tokens tokens
leaves_all tokens = ([], refl, inl tt)

pub leaves_both : (tokens middle rest : List Placed) → Leaves tokens middle → Leaves middle rest → Leaves tokens rest
leaves_both tokens middle rest (first, one, parted) (front, two, parted_too) = (
  first ++ front,
  one ∙ ap (λ (ts : List Placed). first ++ ts) two ∙ sym (append_assoc first front rest),
  parted_both first front rest (subst (Parted first) two parted) parted_too,
)

pub done_apart : {A : Type 0} (x : A) → ReadsApart (done x)
done_apart x tokens y is = read_as (λ z. Leaves tokens z.1) (x, tokens) y is (leaves_all tokens)

pub both_apart : {A B : Type 0} (R : Reader A) (S : A → Reader B) → ReadsApart R → ((x : A) → ReadsApart (S x)) → ReadsApart (R >>= S)
both_apart R S r s tokens y is =
    let one = bind_ok (R tokens) S y is in
    leaves_both tokens one.0.1 y.1 (r tokens one.0 one.1) (s one.0.0 one.0.1 y one.2)

pub either_apart : {A : Type 0} (test : List Placed → Bool) (R S : Reader A) → ReadsApart R → ReadsApart S → ReadsApart (λ tokens. cond (test tokens) (R tokens) (S tokens))
either_apart {A} test R S r s tokens x = by (test tokens)
  where
    by : (b : Bool) → cond b (R tokens) (S tokens) ≡ Ok x → Leaves tokens x.1
    by true is = r tokens x is
    by false is = s tokens x is

pub loop_apart : {A : Type 0} (is_next : List Placed → Bool) (step : A → Reader A) → ((a : A) → ReadsApart (step a)) → (a : A) → ReadsApart (repeat_at is_next step a)
loop_apart {A} is_next step parts a tokens x is =
    (repeat-is is_next step (λ b ts c rest. Leaves ts rest) (λ b ts. leaves_all ts) (λ b ts y c rest next one more. leaves_both ts y.1 rest (parts b ts y one) more) _ a tokens x is).0

-- ---- parsers with no `LeftOut` faults

abbrev pub IsLeft : IrFaultKind → Type 0
IsLeft kind = (text : List ℕ) × (kind ≡ LeftOut text)

abbrev pub LeavesNothingOut : {A : Type 0} → Reader A → Type 0
LeavesNothingOut R = (tokens : List Placed) (found : Fault IrFaultKind) → R tokens ≡ Err found → ¬ IsLeft found.kind

abbrev the_read : {A : Type 0} → Read A → Read A
the_read r = r

-- the fault that is returned is this one
pub fault_left : {A : Type 0} (made found : Fault IrFaultKind) → the_read {A = A} (Err made) ≡ the_read (Err found) → ¬ IsLeft made.kind → ¬ IsLeft found.kind
fault_left made found same none = let is : made ≡ found = cc in subst (λ (e : Fault IrFaultKind). ¬ IsLeft e.kind) is none

pub done_nothing : {A : Type 0} (x : A) → LeavesNothingOut (done x)
done_nothing x tokens found is = absurd cc

pub both_nothing : {A B : Type 0} (R : Reader A) (S : A → Reader B) → LeavesNothingOut R → ((x : A) → LeavesNothingOut (S x)) → LeavesNothingOut (R >>= S)
both_nothing {A} {B} R S r s tokens found = by (R tokens) refl
  where
    by : (q : Read A) → R tokens ≡ q → goes_on q S ≡ Err found → ¬ IsLeft found.kind
    by (Ok x) read is = s x.0 x.1 found is
    by (Err e) read is = fault_left e found is (r tokens e read)

pub loop_nothing : {A : Type 0} (is_next : List Placed → Bool) (step : A → Reader A) → ((a : A) → LeavesNothingOut (step a)) → (n : ℕ) (a : A) → LeavesNothingOut (steps_at is_next step n a)
unfolding steps_at
loop_nothing is_next step s zero a tokens found = λ is. fault_left (fault 0 Syntax) found is (λ left. let both = left.1 in cc)
loop_nothing {A} is_next step s (suc n) a tokens found = by (is_next tokens) (λ x. loop_nothing is_next step s n x)
  where
    by : (b : Bool) → ((x : A) → LeavesNothingOut (steps_at is_next step n x)) → cond b ((step a >>= steps_at is_next step n) tokens) (Ok (a, tokens)) ≡ Err found → ¬ IsLeft found.kind
    by true more is = both_nothing (step a) (steps_at is_next step n) (s a) more tokens found is
    by false more is = absurd cc
