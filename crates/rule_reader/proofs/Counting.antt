-- Counts of choices and of nodes of terms before and behind statements and operands.
use Rattle.rule_reader.proofs.Common.{◌≡◌, ℕ, zero, suc, ◌+◌, ◌<◌, ◌≤◌, List, [], ◌∷◌, ◌++◌, length, Some, refl, sym, ap, subst, ◌∙◌, arith, take, drop, get_or, slice_get, AllZip, take_more, take_all, append-nil, take-append-drop, flat_map-append, fold-append, same_Some, RawRule, RawStatement, RawOp, RawArgument, Literal, Truth, Constant, Undef, Statement, Names, Counts, UseSite, arguments_of, arguments_among, past, past_all, counted_of, counted_among, no_counts, in_half, with_counts, StatementMeans, HalfMeans, Each, ArgumentIsBound, AreFew, IsWhole, AreReady}
use Rattle.rule_parse.specs.declared.raw.RawOp.TheVariants as raw_ops
use Rattle.rule_parse.specs.declared.raw.RawArgument.TheVariants.{Register, Term}
use Rattle.rule_reader.proofs.Places.{zip_push}

few_one : (c : Counts) (a : RawArgument) → AreFew (past c a) → AreFew c
few_one c (Register name) few = few
few_one c (Literal z) few = few
few_one c (Truth b) few = few
few_one c (Constant name) few = few
few_one c Undef few = (omega (arith, few.0), few.1)
few_one c (Term t) few = (few.0, omega (arith, few.1))

pub few_before : (c : Counts) (os : List RawArgument) → AreFew (past_all c os) → AreFew c
few_before c [] few = few
few_before c (a ∷ os) few = few_one c a (few_before (past c a) os few)

pub past_append : (c : Counts) (xs ys : List RawArgument) → past_all c (xs ++ ys) ≡ past_all (past_all c xs) ys
past_append c xs ys = fold-append past c xs ys

-- the operands of the statements up to k are those before k and k's own
pub arguments_more : (ss : List RawStatement) (k : ℕ) (s : RawStatement) → k < length ss → s ≡ get_or ss k s → arguments_among (take (k + 1) ss) ≡ arguments_among (take k ss) ++ arguments_of s.op
arguments_more ss k s within is =
    ap arguments_among (take_more ss k s within ∙ ap (λ x. take k ss ++ x ∷ []) (sym is)) ∙ flat_map-append (λ (x : RawStatement). arguments_of x.op) (take k ss) (s ∷ []) ∙ ap (λ l. arguments_among (take k ss) ++ l) (append-nil (arguments_of s.op))

-- the same for the operands as they are counted
counted_more : (ss : List RawStatement) (k : ℕ) (s : RawStatement) → k < length ss → s ≡ get_or ss k s → counted_among (take (k + 1) ss) ≡ counted_among (take k ss) ++ counted_of s.op
counted_more ss k s within is =
    ap counted_among (take_more ss k s within ∙ ap (λ x. take k ss ++ x ∷ []) (sym is)) ∙ flat_map-append (λ (x : RawStatement). counted_of x.op) (take k ss) (s ∷ []) ∙ ap (λ l. counted_among (take k ss) ++ l) (append-nil (counted_of s.op))

pub counts_more : (ss : List RawStatement) (k : ℕ) (s : RawStatement) (c : Counts) → k < length ss → s ≡ get_or ss k s → c ≡ past_all no_counts (counted_among (take k ss)) → past_all c (counted_of s.op) ≡ past_all no_counts (counted_among (take (k + 1) ss))
counts_more ss k s c within is before =
    ap (λ b. past_all b (counted_of s.op)) before ∙ sym (past_append no_counts (counted_among (take k ss)) (counted_of s.op)) ∙ ap (past_all no_counts) (sym (counted_more ss k s within is))

pub few_at : (ss : List RawStatement) (k : ℕ) (s : RawStatement) (c : Counts) → AreFew (in_half ss) → k < length ss → s ≡ get_or ss k s → c ≡ past_all no_counts (counted_among (take k ss)) → AreFew (past_all c (counted_of s.op))
few_at ss k s c few within is before =
    let parts : counted_among ss ≡ counted_among (take (k + 1) ss) ++ counted_among (drop (k + 1) ss) =
    ap counted_among (sym (take-append-drop (k + 1) ss)) ∙ flat_map-append (λ (x : RawStatement). counted_of x.op) (take (k + 1) ss) (drop (k + 1) ss) in
    let whole : in_half ss ≡ past_all (past_all no_counts (counted_among (take (k + 1) ss))) (counted_among (drop (k + 1) ss)) = ap (past_all no_counts) parts ∙ past_append no_counts (counted_among (take (k + 1) ss)) (counted_among (drop (k + 1) ss)) in
    subst AreFew (sym (counts_more ss k s c within is before)) (few_before (past_all no_counts (counted_among (take (k + 1) ss))) (counted_among (drop (k + 1) ss)) (subst AreFew whole few))

-- at the end of the loop all are counted
pub counts_all : (ss : List RawStatement) (k : ℕ) (c : Counts) → length ss ≤ k → c ≡ past_all no_counts (counted_among (take k ss)) → c ≡ in_half ss
counts_all ss k c past_end is = is ∙ ap in_half (take_all k ss past_end)

-- the operands of a statement are few where they and a freeze are
pub few_read : (c : Counts) (op : RawOp) → AreFew (past_all c (counted_of op)) → AreFew (past_all c (arguments_of op))
few_read c (raw_ops.Binary op flags a b) few = few
few_read c (raw_ops.Compare pred samesign a b) few = few
few_read c (raw_ops.Unary op truth a) few = few
few_read c (raw_ops.Select z a b) few = few
few_read c (raw_ops.Convert cast flags a to) few = few
few_read c (raw_ops.Freeze a) few = few_one (past c a.value) Undef few
few_read c (raw_ops.Copy a) few = few

-- operands can be resolved whose names may be used, whose terms are in order, and which are few
pub ready : (raw : RawRule) (place : UseSite) (c : Counts) (os : List RawArgument) → Each (ArgumentIsBound raw place) os → Each IsWhole os → AreFew (past_all c os) → AreReady raw place c os
ready raw place c [] bound whole few = tt
ready raw place c (a ∷ os) bound whole few = ((bound.0, whole.0, few_before (past c a) os few), ready raw place (past c a) os bound.1 whole.1 few)

-- ---- statements with the counts before them

pub with_counts_at : (c : Counts) (ss : List RawStatement) (k : ℕ) (x : Counts × RawStatement) → slice_get (with_counts c ss) k ≡ Some x → slice_get ss k ≡ Some x.1
with_counts_at c [] k x at = elim k as (λ j. slice_get [] j ≡ Some x → slice_get [] j ≡ Some x.1) [ zero ↦ λ h. cc | suc j ↦ λ h. cc ] at
with_counts_at c (s ∷ ss) zero x at = ap (λ (y : Counts × RawStatement). Some y.1) (same_Some (c, s) x at)
with_counts_at c (s ∷ ss) (suc k) x at = with_counts_at (past_all c (counted_of s.op)) ss k x at

with_counts_push : (c : Counts) (ss : List RawStatement) (s : RawStatement) → with_counts c (ss ++ s ∷ []) ≡ with_counts c ss ++ (past_all c (counted_among ss), s) ∷ []
with_counts_push c [] s = refl
with_counts_push c (t ∷ ss) s =
    let rest = with_counts_push (past_all c (counted_of t.op)) ss s in
    let same : past_all (past_all c (counted_of t.op)) (counted_among ss) ≡ past_all c (counted_of t.op ++ counted_among ss) = sym (past_append c (counted_of t.op) (counted_among ss)) in
    ap (λ l. (c, t) ∷ l) (rest ∙ ap (λ b. with_counts (past_all c (counted_of t.op)) ss ++ (b, s) ∷ []) same)

-- one more statement of a half is resolved
pub half_more : (raw : RawRule) (names : Names) (ws : List RawStatement) (k : ℕ) (w : RawStatement) (c : Counts) (ss zs : List Statement) (s : Statement) → k < length ws → w ≡ get_or ws k w → c ≡ past_all no_counts (counted_among (take k ws))
    → HalfMeans raw names (take k ws) ss → zs ≡ ss ++ s ∷ [] → StatementMeans raw names c w s → HalfMeans raw names (take (k + 1) ws) zs
half_more raw names ws k w c ss zs s within is before all more means =
    let R : Counts × RawStatement → Statement → Type 0 = λ x y. StatementMeans raw names x.0 x.1 y in
    let c' = past_all no_counts (counted_among (take k ws)) in
    subst (λ l. HalfMeans raw names l zs) (sym (take_more ws k w within ∙ ap (λ z. take k ws ++ z ∷ []) (sym is)))
    (subst (λ l. AllZip R l zs) (sym (with_counts_push no_counts (take k ws) w))
    (subst (AllZip R (with_counts no_counts (take k ws) ++ (c', w) ∷ [])) (sym more) (zip_push R (with_counts no_counts (take k ws)) ss (c', w) s all (subst (λ b. StatementMeans raw names b w s) before means))))

pub half_all : (raw : RawRule) (names : Names) (ws : List RawStatement) (k : ℕ) (ss : List Statement) → length ws ≤ k → HalfMeans raw names (take k ws) ss → HalfMeans raw names ws ss
half_all raw names ws k ss past_end all = subst (λ l. HalfMeans raw names l ss) (take_all k ws past_end) all
