-- A run of statements as literals, statement by statement.
use Rattle.blast_rule.proofs.Common.{◌≡◌, ℕ, zero, suc, ◌+◌, ◌-◌, ◌<◌, ◌≤◌, Bool, true, false, List, [], ◌∷◌, ◌++◌, length, map, take, Some, refl, sym, ap, subst, ◌∙◌, arith, get_or, slice_get, All, map-append, length-map, take_more, take_all, sum_by_push, sum_by-cons, pow_pos, same_Some, slice_get-get_or, slice_get_within, get_or_from_slice_get, IsValueOf, Ghosts, Keeps, Statement, Given, StatementGives, Follows, holding_source, holding_target, ValuesFit, ValuesFit-push, Blasted, held_value, effect_of, IsOwn, run_gates, statement_gates, shape, ending, holds, values-kept}
use Rattle.blast_value.specs.declared.held.Held.{Held}
use Rattle.blast_rule.proofs.Steps.{follows-push}

-- the literals of the register of a statement, after it
abbrev pub held_after : {L : Type 0} → Blasted L → Held L
held_after made = record { bits = made.bits; poison = made.poison }

-- the gates of the first statements, with one more; below, those of fewer statements are no more
pub run_gates-more : (typing : List ℕ) (statements : List Statement) (i : ℕ) (s : Statement) → i < length statements → s ≡ get_or statements i s → run_gates typing (take (i + 1) statements) ≡ run_gates typing (take i statements) + statement_gates typing s
run_gates-more typing statements i s within is =
    ap (λ xs. run_gates typing xs) (take_more statements i s within ∙ ap (λ x. take i statements ++ x ∷ []) (sym is)) ∙ sum_by_push (statement_gates typing) (take i statements) s

pub run_gates-fewer : (typing : List ℕ) (statements : List Statement) (i n : ℕ) → i ≤ n → run_gates typing (take i statements) ≤ run_gates typing (take n statements)
run_gates-fewer typing statements zero n fewer = omega arith
run_gates-fewer typing statements (suc i) zero fewer = absurd (omega arith)
run_gates-fewer typing [] (suc i) (suc n) fewer = omega arith
run_gates-fewer typing (s ∷ statements) (suc i) (suc n) fewer =
    omega (arith, sum_by-cons (statement_gates typing) s (take i statements), sum_by-cons (statement_gates typing) s (take n statements), run_gates-fewer typing statements i n (omega arith))

pub run_gates-within : (typing : List ℕ) (statements : List Statement) (i : ℕ) → i ≤ length statements → run_gates typing (take i statements) ≤ run_gates typing statements
run_gates-within typing statements i within =
    let whole = ap (λ xs. run_gates typing xs) (take_all (length statements) statements (omega arith)) in
    omega (arith, whole, run_gates-fewer typing statements i (length statements) within)

-- the gates of one turn of a loop over statements stay within those of the first n
pub run_gates-turn : (typing : List ℕ) (statements : List Statement) (i n : ℕ) (s : Statement) → i < n → n ≤ length statements → s ≡ get_or statements i s → run_gates typing (take i statements) + statement_gates typing s ≤ run_gates typing (take n statements)
run_gates-turn typing statements i n s inside within is = omega (arith, run_gates-more typing statements i s (omega arith) is, run_gates-fewer typing statements (i + 1) n (omega arith))

pub run_gates-turn_of_all : (typing : List ℕ) (statements : List Statement) (i : ℕ) (s : Statement) → i < length statements → s ≡ get_or statements i s → run_gates typing (take i statements) + statement_gates typing s ≤ run_gates typing statements
run_gates-turn_of_all typing statements i s inside is = omega (arith, run_gates-more typing statements i s inside is, run_gates-within typing statements (i + 1) (omega arith))

-- the shapes of what statements have assigned fit the statements' types, with one more statement
pub shapes_fit-push : {L : Type 0} (typing : List ℕ) (statements : List Statement) (items : List (Held L)) (i : ℕ) (s : Statement) (held : Held L)
    → ValuesFit typing statements (map shape items) → length items ≡ i → slice_get statements i ≡ Some s → slice_get typing s.class ≡ Some (length held.bits) → ValuesFit typing statements (map shape (items ++ held ∷ []))
shapes_fit-push typing statements items i s held fit count at width =
    let place : length (map shape items) ≡ i = length-map items shape ∙ count in
    let of_width : (N : ℕ) → slice_get typing s.class ≡ Some N → IsValueOf N (shape held) = λ N there. (same_Some (length held.bits) N (sym width ∙ there), pow_pos N) in
    rw (map-append shape items (held ∷ [])) (ValuesFit-push typing statements (map shape items) s (shape held) fit (ap (slice_get statements) place ∙ at) of_width)

pub stands : (statements slice : List Statement) (i : ℕ) (s : Statement) → slice ≡ statements → i < length statements → s ≡ get_or slice i s → slice_get statements i ≡ Some s
stands statements slice i s same within is = slice_get-get_or statements i s within ∙ ap (λ x. Some x) (sym (rw same at is))

module _ {C L : Type 0} {state : Ghosts C L} {now next : C} (keeps : Keeps state now next) (read : List Bool) (admitted : state.admits now read)
    (inputs source : List (Held L)) (own_inputs : All (IsOwn (state.has_literal now)) inputs) (own_source : All (IsOwn (state.has_literal now)) source) where
  pub holds-kept : (target : List (Held L)) → All (IsOwn (state.has_literal now)) target → holds (state.value next read) inputs source target ≡ holds (state.value now read) inputs source target
  holds-kept target own = rw (values-kept keeps read admitted inputs own_inputs, values-kept keeps read admitted source own_source, values-kept keeps read admitted target own) refl

-- no literals at all are a circuit's own
pub own_none : {L : Type 0} (P : L → Type 0) → All P []
own_none P k d within = absurd (omega arith)

pub own_last : {X : Type 0} (P : X → Type 0) (xs : List X) (x : X) → All P xs → slice_get xs (length xs - 1) ≡ Some x → P x
own_last P xs x all at = subst P (get_or_from_slice_get xs (length xs - 1) x x at) (all (length xs - 1) x (slice_get_within xs (length xs - 1) x at))

-- one more statement runs after those before
module _ {C L : Type 0} {state : Ghosts C L} {now next : C} (keeps : Keeps state now next) (read : List Bool) (admitted : state.admits now read)
    (typing : List ℕ) (given : Given) (statements : List Statement) (i : ℕ) (s : Statement) (within : i < length statements) (is : s ≡ get_or statements i s) (inputs items : List (Held L)) (before : L) (made : Blasted L)
    (own_inputs : All (IsOwn (state.has_literal now)) inputs) (own_items : All (IsOwn (state.has_literal now)) items)
    (stays : state.value now read before ≡ true → state.value next read made.undefined ≡ true) where
  more : take (i + 1) statements ≡ take i statements ++ s ∷ []
  more = take_more statements i s within ∙ ap (λ x. take i statements ++ x ∷ []) (sym is)

  pub source_more : Follows typing given holding_source (take i statements) (holds (state.value now read) inputs [] []) (ending (state.value now read before) (holds (state.value now read) inputs items []))
      → (state.value now read before ≡ false → StatementGives typing given (holds (state.value next read) inputs items []) s (effect_of (state.value next read) made))
      → Follows typing given holding_source (take (i + 1) statements) (holds (state.value next read) inputs [] []) (ending (state.value next read made.undefined) (holds (state.value next read) inputs (items ++ held_after made ∷ []) []))
  source_more ran gives =
      let ran' = rw (← holds-kept keeps read admitted inputs [] own_inputs (own_none (IsOwn (state.has_literal now))) [] (own_none (IsOwn (state.has_literal now))), ← holds-kept keeps read admitted inputs items own_inputs own_items [] (own_none (IsOwn (state.has_literal now)))) at ran in
      rw more
      (follows-push typing given holding_source (take i statements) s (holds (state.value next read) inputs [] []) (holds (state.value next read) inputs items []) (holds (state.value next read) inputs (items ++ held_after made ∷ []) [])
      (state.value now read before) (state.value next read made.undefined) (held_value (state.value next read) (held_after made)) ran' stays gives
      (rw (map-append (held_value (state.value next read)) items (held_after made ∷ [])) refl))

  pub target_more : (source : List (Held L)) → All (IsOwn (state.has_literal now)) source
      → Follows typing given holding_target (take i statements) (holds (state.value now read) inputs source []) (ending (state.value now read before) (holds (state.value now read) inputs source items))
      → (state.value now read before ≡ false → StatementGives typing given (holds (state.value next read) inputs source items) s (effect_of (state.value next read) made))
      → Follows typing given holding_target (take (i + 1) statements) (holds (state.value next read) inputs source []) (ending (state.value next read made.undefined) (holds (state.value next read) inputs source (items ++ held_after made ∷ [])))
  target_more source own_source ran gives =
      let ran' = rw (← holds-kept keeps read admitted inputs source own_inputs own_source [] (own_none (IsOwn (state.has_literal now))), ← holds-kept keeps read admitted inputs source own_inputs own_source items own_items) at ran in
      rw more
      (follows-push typing given holding_target (take i statements) s (holds (state.value next read) inputs source []) (holds (state.value next read) inputs source items) (holds (state.value next read) inputs source (items ++ held_after made ∷ []))
      (state.value now read before) (state.value next read made.undefined) (held_value (state.value next read) (held_after made)) ran' stays gives
      (rw (map-append (held_value (state.value next read)) items (held_after made ∷ [])) refl))
