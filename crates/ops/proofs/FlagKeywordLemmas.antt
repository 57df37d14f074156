-- Keywords of flags: a flag that is found is spelled by its keyword, a flag that is spelled is found, and flags that
-- are read one by one are among those that the instruction takes.
use Rattle.ops.proofs.Common.{◌≡◌, ℕ, Bool, true, false, cond, ◌&&◌, List, [], ◌∷◌, None, Some, IsTrue, refl, sym, ap, subst, filter, bytes_eq, Flags, Pred, Eq, Ne, Ugt, Uge, Ult, Ule, Sgt, Sge, Slt, Sle, no_flags, AreWithin, flags_of_icmp, icmp_flags, Flag, Nuw, Nsw, Exact, NNeg, Disjoint, SameSign, flag_keyword, every_flag, has_flag, with_flag, flag_in, AddsFlags, predicate_keyword}
use Rattle.ops.proofs.FlagSets.{both, same_set}
use Rattle.ops.proofs.KeywordLemmas.{same_word, found-passes}

pub flag_in-is : (taken : Flags) (word : List ℕ) (flag : Flag) → flag_in taken word ≡ Some flag → (word ≡ flag_keyword flag) × (has_flag taken flag ≡ true)
unfolding flag_in
flag_in-is taken word flag e =
    let passes = found-passes (λ (f : Flag). bytes_eq word (flag_keyword f) && has_flag taken f) every_flag flag e in
    let p = both (bytes_eq word (flag_keyword flag)) (has_flag taken flag) passes in
    (same_word word (flag_keyword flag) p.0, p.1)

pub flag_in-of : (taken : Flags) (flag : Flag) → has_flag taken flag ≡ true → flag_in taken (flag_keyword flag) ≡ Some flag
unfolding flag_in
flag_in-of taken Nuw h = rw h refl
flag_in-of taken Nsw h = rw h refl
flag_in-of taken Exact h = rw h refl
flag_in-of taken NNeg h = rw h refl
flag_in-of taken Disjoint h = rw h refl
flag_in-of taken SameSign h = rw h refl

-- ---- flags that an instruction takes

with_taken : (taken before : Flags) (flag : Flag) → AreWithin before taken → IsTrue (has_flag taken flag) → AreWithin (with_flag before flag) taken
with_taken taken before Nuw fit own = same_set _ _ own (ap (λ (f : Flags). f.nsw) fit) (ap (λ (f : Flags). f.exact) fit) (ap (λ (f : Flags). f.nneg) fit) (ap (λ (f : Flags). f.disjoint) fit) (ap (λ (f : Flags). f.samesign) fit)
with_taken taken before Nsw fit own = same_set _ _ (ap (λ (f : Flags). f.nuw) fit) own (ap (λ (f : Flags). f.exact) fit) (ap (λ (f : Flags). f.nneg) fit) (ap (λ (f : Flags). f.disjoint) fit) (ap (λ (f : Flags). f.samesign) fit)
with_taken taken before Exact fit own = same_set _ _ (ap (λ (f : Flags). f.nuw) fit) (ap (λ (f : Flags). f.nsw) fit) own (ap (λ (f : Flags). f.nneg) fit) (ap (λ (f : Flags). f.disjoint) fit) (ap (λ (f : Flags). f.samesign) fit)
with_taken taken before NNeg fit own = same_set _ _ (ap (λ (f : Flags). f.nuw) fit) (ap (λ (f : Flags). f.nsw) fit) (ap (λ (f : Flags). f.exact) fit) own (ap (λ (f : Flags). f.disjoint) fit) (ap (λ (f : Flags). f.samesign) fit)
with_taken taken before Disjoint fit own = same_set _ _ (ap (λ (f : Flags). f.nuw) fit) (ap (λ (f : Flags). f.nsw) fit) (ap (λ (f : Flags). f.exact) fit) (ap (λ (f : Flags). f.nneg) fit) own (ap (λ (f : Flags). f.samesign) fit)
with_taken taken before SameSign fit own = same_set _ _ (ap (λ (f : Flags). f.nuw) fit) (ap (λ (f : Flags). f.nsw) fit) (ap (λ (f : Flags). f.exact) fit) (ap (λ (f : Flags). f.nneg) fit) (ap (λ (f : Flags). f.disjoint) fit) own

adds_taken : (taken before : Flags) (written : List Flag) (after : Flags) → AreWithin before taken → AddsFlags taken before written after → AreWithin after taken
adds_taken taken before [] after fit adds = subst (λ (f : Flags). AreWithin f taken) adds fit
adds_taken taken before (flag ∷ flags) after fit adds = adds_taken taken (with_flag before flag) flags after (with_taken taken before flag fit adds.0) adds.2

-- the flags of an instruction that is spelled are ones that it takes
pub taken_flags : (taken : Flags) (written : List Flag) (flags : Flags) → AddsFlags taken no_flags written flags → AreWithin flags taken
taken_flags taken written flags adds = adds_taken taken no_flags written flags refl adds

-- an `icmp` is spelled with `samesign` or with no flag
no_flag : (b : Bool) → (b && false) ≡ b → b ≡ false
no_flag true e = sym e
no_flag false e = refl

pub flags_are_icmp : (flags : Flags) → AreWithin flags flags_of_icmp → flags ≡ icmp_flags flags.samesign
flags_are_icmp flags fit =
    same_set flags (icmp_flags flags.samesign)
    (no_flag flags.nuw (ap (λ (f : Flags). f.nuw) fit))
    (no_flag flags.nsw (ap (λ (f : Flags). f.nsw) fit))
    (no_flag flags.exact (ap (λ (f : Flags). f.exact) fit))
    (no_flag flags.nneg (ap (λ (f : Flags). f.nneg) fit))
    (no_flag flags.disjoint (ap (λ (f : Flags). f.disjoint) fit))
    refl

pub icmp_flags-fit : (samesign : Bool) → AreWithin (icmp_flags samesign) flags_of_icmp
icmp_flags-fit true = refl
icmp_flags-fit false = refl

-- the keyword of a predicate is not that of a flag
pub predicate_is_no_flag : (taken : Flags) (pred : Pred) → flag_in taken (predicate_keyword pred) ≡ None
unfolding flag_in
predicate_is_no_flag taken Eq = refl
predicate_is_no_flag taken Ne = refl
predicate_is_no_flag taken Ugt = refl
predicate_is_no_flag taken Uge = refl
predicate_is_no_flag taken Ult = refl
predicate_is_no_flag taken Ule = refl
predicate_is_no_flag taken Sgt = refl
predicate_is_no_flag taken Sge = refl
predicate_is_no_flag taken Slt = refl
predicate_is_no_flag taken Sle = refl

-- ---- flags in the order of their list

-- flags, with this one set to `on`
set : Flags → Flag → Bool → Flags
set flags Nuw on = record flags { nuw = on }
set flags Nsw on = record flags { nsw = on }
set flags Exact on = record flags { exact = on }
set flags NNeg on = record flags { nneg = on }
set flags Disjoint on = record flags { disjoint = on }
set flags SameSign on = record flags { samesign = on }

set_on : (flags : Flags) (flag : Flag) → set flags flag true ≡ with_flag flags flag
unfolding set
set_on flags Nuw = refl
set_on flags Nsw = refl
set_on flags Exact = refl
set_on flags NNeg = refl
set_on flags Disjoint = refl
set_on flags SameSign = refl

set_off : (flags : Flags) (flag : Flag) → has_flag flags flag ≡ false → set flags flag false ≡ flags
unfolding set
set_off flags Nuw h = same_set _ _ (sym h) refl refl refl refl refl
set_off flags Nsw h = same_set _ _ refl (sym h) refl refl refl refl
set_off flags Exact h = same_set _ _ refl refl (sym h) refl refl refl
set_off flags NNeg h = same_set _ _ refl refl refl (sym h) refl refl
set_off flags Disjoint h = same_set _ _ refl refl refl refl (sym h) refl
set_off flags SameSign h = same_set _ _ refl refl refl refl refl (sym h)

one_more : (taken before : Flags) (flag : Flag) (on : Bool) (rest : List Flag) (after : Flags) → (on ≡ true → IsTrue (has_flag taken flag)) → has_flag before flag ≡ false → AddsFlags taken (set before flag on) rest after → AddsFlags taken before (cond on (flag ∷ rest) rest) after
one_more taken before flag true rest after own new adds = (own refl, new, subst (λ (f : Flags). AddsFlags taken f rest after) (set_on before flag) adds)
one_more taken before flag false rest after own new adds = subst (λ (f : Flags). AddsFlags taken f rest after) (set_off before flag new) adds

taken_where : (a b : Bool) → (a && b) ≡ a → a ≡ true → b ≡ true
taken_where true b e on = e
taken_where false b e on = absurd cc

-- flags that an instruction takes are spelled by their keywords in order
pub flags_in_order : (taken flags : Flags) → AreWithin flags taken → AddsFlags taken no_flags (filter (has_flag flags) every_flag) flags
unfolding set
flags_in_order taken flags fit =
    one_more taken _ Nuw flags.nuw _ flags (taken_where flags.nuw taken.nuw (ap (λ (f : Flags). f.nuw) fit)) refl
    (one_more taken _ Nsw flags.nsw _ flags (taken_where flags.nsw taken.nsw (ap (λ (f : Flags). f.nsw) fit)) refl
    (one_more taken _ Exact flags.exact _ flags (taken_where flags.exact taken.exact (ap (λ (f : Flags). f.exact) fit)) refl
    (one_more taken _ NNeg flags.nneg _ flags (taken_where flags.nneg taken.nneg (ap (λ (f : Flags). f.nneg) fit)) refl
    (one_more taken _ Disjoint flags.disjoint _ flags (taken_where flags.disjoint taken.disjoint (ap (λ (f : Flags). f.disjoint) fit)) refl
    (one_more taken _ SameSign flags.samesign [] flags (taken_where flags.samesign taken.samesign (ap (λ (f : Flags). f.samesign) fit)) refl refl)))))
