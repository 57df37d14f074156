-- A chain of full adders, over the lowest bits of two words.
use Rattle.circuits.proofs.Common.{add-one, ◌≡◌, ℕ, ◌+◌, ◌*◌, ◌^◌, ◌<◌, Bool, ◌&&◌, ◌||◌, List, [], ◌∷◌, ◌++◌, map, length, take, drop, get_or, refl, sym, ap, ◌∙◌, append-nil, append_assoc, arith, xor, All, map-append, length-map, length_push, take_all, drop_more, drop_all, drop-map, All-push, pow-succ', Ghosts, KnownBit, Adds, known_xor, known_carry, known_sum, bit, number}
use Rattle.circuits.proofs.Truth.{adder_total}
use Rattle.circuits.proofs.Words.{number-push, number-take_more}
use Rattle.circuits.proofs.Kept.{own_at, All-kept, map-kept, map-known, Adds-trans, Adds-weaken}

-- after i full adders: the sum so far and 2 ^ i times the carry are the sum of the lowest i bits and the first carry,
-- and what is known of the sum so far and of what is left is what is known of the whole
pub record Chained {C L : Type 0} (state : Ghosts C L) (start now : C) (a b : List L) (first : L) (i : ℕ) (sum : List L) (carry : L) : Type 0 where
  pub adds : Adds state start now (5 * i)
  pub own_sum : All (state.has_literal now) sum
  pub own_carry : state.has_literal now carry
  pub width : length sum ≡ i
  pub total : (inputs : List Bool) → state.admits start inputs → number (map (state.value now inputs) sum) + 2 ^ i * bit (state.value now inputs carry) ≡ number (map (state.value start inputs) (take i a)) + number (map (state.value start inputs) (take i b)) + bit (state.value start inputs first)
  pub known : (inputs : List Bool) → map (state.known now inputs) sum ++ known_sum (state.known now inputs carry) (drop i (map (state.known start inputs) a)) (drop i (map (state.known start inputs) b)) ≡ known_sum (state.known start inputs first) (map (state.known start inputs) a) (map (state.known start inputs) b)

-- one step, over what is known
drop_at : {L K : Type 0} (known : L → K) (word : List L) (i : ℕ) (x : L) → i < length word → x ≡ get_or word i x → drop i (map known word) ≡ known x ∷ drop (i + 1) (map known word)
drop_at known word i x inside at =
    drop-map known i word ∙ ap (map known) (drop_more word i x inside) ∙ ap (λ y. known y ∷ map known (drop (i + 1) word)) (sym at) ∙ ap (λ rest. known x ∷ rest) (sym (drop-map known (i + 1) word))

step_known : (front p q rest_p rest_q : List KnownBit) (a b carry : KnownBit) → p ≡ a ∷ rest_p → q ≡ b ∷ rest_q → (front ++ known_xor (known_xor a b) carry ∷ []) ++ known_sum (known_carry a b carry) rest_p rest_q ≡ front ++ known_sum carry p q
step_known front p q rest_p rest_q a b carry p_is q_is =
    append_assoc front (known_xor (known_xor a b) carry ∷ []) (known_sum (known_carry a b carry) rest_p rest_q) ∙ rw (p_is, q_is) refl

-- one step, over numbers
step_total : (s p k na nb f ds k' da db : ℕ) → s + p * k ≡ na + nb + f → ds + 2 * k' ≡ da + db + k → s + p * ds + (2 * p) * k' ≡ (na + p * da) + (nb + p * db) + f
step_total s p k na nb f ds k' da db before digit = omega (arith, ap (λ t. p * t) digit)

-- one full adder more
pub chain_step : {C L : Type 0} {state : Ghosts C L} {start now next : C} {a b : List L} {first : L} {i : ℕ} {sum : List L} {carry : L} → Chained state start now a b first i sum carry → Adds state now next 5 → All (state.has_literal start) a → All (state.has_literal start) b → i < length a → i < length b → (x y digit further : L) → x ≡ get_or a i x → y ≡ get_or b i y → state.has_literal next digit → state.has_literal next further → ((inputs : List Bool) → state.admits now inputs → state.value next inputs digit ≡ xor (xor (state.value now inputs x) (state.value now inputs y)) (state.value now inputs carry)) → ((inputs : List Bool) → state.admits now inputs → state.value next inputs further ≡ ((state.value now inputs x && state.value now inputs y) || (state.value now inputs carry && xor (state.value now inputs x) (state.value now inputs y)))) → ((inputs : List Bool) → state.known next inputs digit ≡ known_xor (known_xor (state.known now inputs x) (state.known now inputs y)) (state.known now inputs carry)) → ((inputs : List Bool) → state.known next inputs further ≡ known_carry (state.known now inputs x) (state.known now inputs y) (state.known now inputs carry)) → Chained state start next a b first (i + 1) (sum ++ digit ∷ []) further
chain_step {state = state} {start = start} {now = now} {next = next} {a = a} {b = b} {i = i} {sum = sum} {carry = carry} before adds own_a own_b in_a in_b x y digit further at_x at_y own_digit own_further digit_is further_is digit_known further_known = record {
  adds = Adds-weaken (Adds-trans before.adds adds) (omega arith);
  own_sum = All-push (state.has_literal next) sum digit (All-kept adds.keeps sum before.own_sum) own_digit;
  own_carry = own_further;
  width = length_push sum digit ∙ ap (λ n. n + 1) before.width;
  total = λ inputs admitted.
      let now_admitted = before.adds.keeps.admitted inputs admitted in
      let x_kept = before.adds.keeps.values inputs x admitted (own_at (state.has_literal start) a i x own_a in_a at_x) in
      let y_kept = before.adds.keeps.values inputs y admitted (own_at (state.has_literal start) b i y own_b in_b at_y) in
      let digits : bit (state.value next inputs digit) + 2 * bit (state.value next inputs further) ≡ bit (state.value start inputs x) + bit (state.value start inputs y) + bit (state.value now inputs carry) =
      rw (digit_is inputs now_admitted, further_is inputs now_admitted, x_kept, y_kept) (adder_total (state.value start inputs x) (state.value start inputs y) (state.value now inputs carry)) in
      let sum_kept = map-kept adds.keeps inputs now_admitted sum before.own_sum in
      let sum_width : length (map (state.value now inputs) sum) ≡ i = length-map sum (state.value now inputs) ∙ before.width in
      let longer : number (map (state.value next inputs) (sum ++ digit ∷ [])) ≡ number (map (state.value now inputs) sum) + 2 ^ i * bit (state.value next inputs digit) =
      rw (map-append (state.value next inputs) sum (digit ∷ []), sum_kept, number-push (map (state.value now inputs) sum) (state.value next inputs digit), sum_width) refl in
      let doubled : 2 ^ (i + 1) ≡ 2 * 2 ^ i = ap (λ n. 2 ^ n) (add-one i) ∙ pow-succ' 2 i in
      rw (longer, number-take_more (state.value start inputs) a i x in_a at_x, number-take_more (state.value start inputs) b i y in_b at_y, doubled)
      (step_total _ (2 ^ i) (bit (state.value now inputs carry)) _ _ _ _ _ _ _ (before.total inputs admitted) digits);
  known = λ inputs.
      let start_known = state.known start inputs in
      let k = state.known now inputs carry in
      let x_kept = before.adds.keeps.known inputs x (own_at (state.has_literal start) a i x own_a in_a at_x) in
      let y_kept = before.adds.keeps.known inputs y (own_at (state.has_literal start) b i y own_b in_b at_y) in
      let digit_is_known : state.known next inputs digit ≡ known_xor (known_xor (start_known x) (start_known y)) k = digit_known inputs ∙ rw (x_kept, y_kept) refl in
      let carry_is_known : state.known next inputs further ≡ known_carry (start_known x) (start_known y) k = further_known inputs ∙ rw (x_kept, y_kept) refl in
      let longer : map (state.known next inputs) (sum ++ digit ∷ []) ≡ map (state.known now inputs) sum ++ known_xor (known_xor (start_known x) (start_known y)) k ∷ [] =
      map-append (state.known next inputs) sum (digit ∷ []) ∙ rw (map-known adds.keeps inputs sum before.own_sum, digit_is_known) refl in
      rw (longer, carry_is_known)
      (step_known (map (state.known now inputs) sum) _ _ _ _ (start_known x) (start_known y) k (drop_at start_known a i x in_a at_x) (drop_at start_known b i y in_b at_y) ∙ before.known inputs);
}

-- all full adders: the sum and the last carry are the whole sum
pub chain_end : {C L : Type 0} {state : Ghosts C L} {start now : C} {a b : List L} {first : L} {i : ℕ} {sum : List L} {carry : L} → Chained state start now a b first i sum carry → i ≡ length a → i ≡ length b → (inputs : List Bool) → state.admits start inputs → number (map (state.value now inputs) sum) + 2 ^ length a * bit (state.value now inputs carry) ≡ number (map (state.value start inputs) a) + number (map (state.value start inputs) b) + bit (state.value start inputs first)
chain_end {state = state} {start = start} {now = now} {a = a} {b = b} {first = first} {i = i} {sum = sum} {carry = carry} done width_a width_b inputs admitted =
    let whole_a : take i a ≡ a = take_all i a (omega arith) in
    let whole_b : take i b ≡ b = take_all i b (omega arith) in
    rw (← width_a) (rw (whole_a, whole_b) at (done.total inputs admitted))

-- all full adders: nothing is left
pub known_end : {C L : Type 0} {state : Ghosts C L} {start now : C} {a b : List L} {first : L} {i : ℕ} {sum : List L} {carry : L} → Chained state start now a b first i sum carry → i ≡ length a → i ≡ length b → (inputs : List Bool) → map (state.known now inputs) sum ≡ known_sum (state.known start inputs first) (map (state.known start inputs) a) (map (state.known start inputs) b)
known_end {state = state} {start = start} {now = now} {a = a} {b = b} {first = first} {i = i} {sum = sum} {carry = carry} done width_a width_b inputs =
    let none_a : drop i (map (state.known start inputs) a) ≡ [] = drop_all i (map (state.known start inputs) a) (omega (arith, length-map a (state.known start inputs))) in
    let all : map (state.known now inputs) sum ++ [] ≡ known_sum (state.known start inputs first) (map (state.known start inputs) a) (map (state.known start inputs) b) = rw none_a at (done.known inputs) in
    sym (append-nil (map (state.known now inputs) sum)) ∙ all
