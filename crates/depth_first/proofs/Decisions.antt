-- The decisions and the reasons of a trail, where it is looked through entry by entry.
use Rattle.depth_first.proofs.Common.{◌≡◌, ℕ, suc, ◌+◌, Bool, true, false, cond, List, [], ◌∷◌, ◌++◌, Some, None, Option, length, take, filter, get_or, ◌<◌, refl, sym, ap, ◌∙◌, arith, subst, slice_get, MatchOption, Lit, negation_of, negations_of, append-nil, map-append, slice_get-get_or, filter-append, filter_map-append, Entry, Cause, InputDecision, NonInputDecision, Reason, literals, decisions, reasons, is_decision, reason_of}
use Rattle.depth_first.proofs.Lists.{take_next}
use Rattle.depth_first.proofs.HeldLists.{literals-append}

pub decisions-append : (xs ys : List Entry) → decisions (xs ++ ys) ≡ decisions xs ++ decisions ys
decisions-append xs ys =
    ap literals (filter-append (λ (e : Entry). is_decision e.cause) xs ys)
    ∙ literals-append (filter (λ (e : Entry). is_decision e.cause) xs) (filter (λ (e : Entry). is_decision e.cause) ys)

pub reasons-append : (xs ys : List Entry) → reasons (xs ++ ys) ≡ reasons xs ++ reasons ys
reasons-append xs ys = filter_map-append (λ (e : Entry). reason_of e.cause) xs ys

decisions_one : (e : Entry) (b : Bool) → is_decision e.cause ≡ b → decisions (e ∷ []) ≡ cond b (e.literal ∷ []) []
decisions_one e true is = ap (λ c. literals (cond c (e ∷ []) [])) is
decisions_one e false is = ap (λ c. literals (cond c (e ∷ []) [])) is

-- the decisions up to and with the entry at a place
pub decisions_next : (entries : List Entry) (k : ℕ) (e : Entry) (b : Bool) → slice_get entries k ≡ Some e → is_decision e.cause ≡ b → decisions (take (k + 1) entries) ≡ decisions (take k entries) ++ cond b (e.literal ∷ []) []
decisions_next entries k e b at is =
    let next : k + 1 ≡ suc k = omega arith in
    ap (λ n. decisions (take n entries)) next
    ∙ ap decisions (take_next entries k e at)
    ∙ decisions-append (take k entries) (e ∷ [])
    ∙ ap (λ ls. decisions (take k entries) ++ ls) (decisions_one e b is)

-- the place of the last decision before a place of the trail, or that there is none
abbrev pub LastBefore : List Entry → ℕ → Option ℕ → Type 0
LastBefore entries n last =
    MatchOption last (decisions (take n entries) ≡ []) (λ place.
    (e : Entry) × (slice_get entries place ≡ Some e) × (is_decision e.cause ≡ true)
    × (decisions (take n entries) ≡ decisions (take place entries) ++ e.literal ∷ []))

pub LastBefore-decision : (entries : List Entry) (k : ℕ) (e : Entry) (last : Option ℕ) → slice_get entries k ≡ Some e → is_decision e.cause ≡ true → LastBefore entries (k + 1) (Some k)
LastBefore-decision entries k e last at is = (e, at, is, decisions_next entries k e true at is)

pub LastBefore-other : (entries : List Entry) (k : ℕ) (e : Entry) (last : Option ℕ) → slice_get entries k ≡ Some e → is_decision e.cause ≡ false → LastBefore entries k last → LastBefore entries (k + 1) last
LastBefore-other entries k e None at isnt h =
    decisions_next entries k e false at isnt ∙ append-nil (decisions (take k entries)) ∙ h
LastBefore-other entries k e (Some place) at isnt h =
    (h.0, h.1, h.2, decisions_next entries k e false at isnt ∙ append-nil (decisions (take k entries)) ∙ h.3)

pub read_at : (entries items : List Entry) (k : ℕ) (d : Entry) → items ≡ entries → k < length items → slice_get entries k ≡ Some (get_or items k d)
read_at entries items k d same within =
    ap (λ es. slice_get es k) (sym same) ∙ slice_get-get_or items k d within

-- a walk along the entries passes one more, which is the last decision so far where it is one
pub LastBefore-step : (entries items : List Entry) (k : ℕ) (d : Entry) (last next : Option ℕ) (b : Bool) → items ≡ entries → k < length items → b ≡ is_decision (get_or items k d).cause → LastBefore entries k last → next ≡ cond b (Some k) last → LastBefore entries (k + 1) next
LastBefore-step entries items k d last next true same within is h e =
    subst (LastBefore entries (k + 1)) (sym e)
    (LastBefore-decision entries k (get_or items k d) last (read_at entries items k d same within) (sym is))
LastBefore-step entries items k d last next false same within is h e =
    subst (LastBefore entries (k + 1)) (sym e)
    (LastBefore-other entries k (get_or items k d) last (read_at entries items k d same within) (sym is) h)

decided_without_reason : (cause : Cause) → reason_of cause ≡ None → is_decision cause ≡ true
decided_without_reason InputDecision none = refl
decided_without_reason NonInputDecision none = refl
decided_without_reason (Reason number) none = cc

not_decided : (cause : Cause) (n : ℕ) → reason_of cause ≡ Some n → is_decision cause ≡ false
not_decided InputDecision n some = cc
not_decided NonInputDecision n some = cc
not_decided (Reason number) n some = refl

-- the clause of one negated decision
pub clause_of_decision : (e : Entry) (n : Lit) → reason_of e.cause ≡ None → n ≡ negation_of e.literal → n ∷ [] ≡ negations_of (decisions (e ∷ []))
clause_of_decision e n none is = ap (λ l. l ∷ []) is ∙ sym (ap negations_of (decisions_one e true (decided_without_reason e.cause none)))

pub no_clause_of_reason : (e : Entry) (n : ℕ) → reason_of e.cause ≡ Some n → decisions (e ∷ []) ≡ []
no_clause_of_reason e n some = decisions_one e false (not_decided e.cause n some)

-- a walk along the entries adds the negation of one more, where that is a decision, to the learned clause
pub clause_more : (entries items : List Entry) (k : ℕ) (d : Entry) (clause next : List Lit) → items ≡ entries → k < length items → d ≡ get_or items k d → clause ≡ negations_of (decisions (take k entries)) → next ≡ clause ++ negations_of (decisions (d ∷ [])) → next ≡ negations_of (decisions (take (k + 1) entries))
clause_more entries items k d clause next same within read so_far e =
    let at : slice_get entries k ≡ Some d = read_at entries items k d same within ∙ ap Some (sym read) in
    let suc_k : k + 1 ≡ suc k = omega arith in
    e
    ∙ ap (λ c. c ++ negations_of (decisions (d ∷ []))) so_far
    ∙ sym (
    ap (λ n. negations_of (decisions (take n entries))) suc_k
    ∙ ap (λ es. negations_of (decisions es)) (take_next entries k d at)
    ∙ ap negations_of (decisions-append (take k entries) (d ∷ []))
    ∙ map-append negation_of (decisions (take k entries)) (decisions (d ∷ []))
    )
