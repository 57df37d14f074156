-- The inputs of a circuit, made one by one.
use Rattle.blast_setting.proofs.Common.{◌≡◌, ℕ, suc, ◌+◌, ◌<◌, ◌≤◌, Bool, false, List, [], ◌∷◌, ◌++◌, length, map, take, drop, Some, refl, sym, ap, subst, ◌∙◌, append_assoc, append-nil, arith, get_or, slice_get, sum_by, All, map-append, length-map, length_push, drop-drop, take_more, take_all, drop_all, sum_by_push, slice_get_within, get_or_from_slice_get, All-push, Ghosts, Keeps, number, number_of, All-kept, map-kept, Keeps-trans, number-push, held_value, Number, value_read, number_read, all_read, number_held}
use Rattle.blast_setting.proofs.Written.{all_read-next}
use Rattle.blast_setting.proofs.Words.{number-take_one, get_or-behind}

-- the first i bits of the word are the circuit's last i inputs
pub record Made {C L : Type 0} (state : Ghosts C L) (start now : C) (word : List L) (i : ℕ) : Type 0 where
  pub keeps : Keeps state start now
  pub gates : state.gates_made now ≡ state.gates_made start
  pub own : All (state.has_literal now) word
  pub width : length word ≡ i
  pub made : (inputs : List Bool) → state.admits start inputs → drop (state.inputs_made now) inputs ≡ drop i (drop (state.inputs_made start) inputs)
  pub number : (inputs : List Bool) → state.admits start inputs → number (map (state.value now inputs) word) ≡ number (take i (drop (state.inputs_made start) inputs))

module _ {C L : Type 0} {state : Ghosts C L} {start now next : C} {word : List L} {i : ℕ}
    (before : Made state start now word i) (keeps : Keeps state now next)
    (made : (inputs : List Bool) → state.admits now inputs → drop (state.inputs_made next) inputs ≡ drop (state.inputs_made now + 1) inputs) (l : L) (own : state.has_literal next l)
    (value_is : (inputs : List Bool) → state.admits now inputs → state.value next inputs l ≡ get_or inputs (state.inputs_made now) false) where
  -- the value of the next input is the next truth value of the list
  pub next_made : (inputs : List Bool) → state.admits start inputs → drop (state.inputs_made next) inputs ≡ drop (i + 1) (drop (state.inputs_made start) inputs)
  next_made inputs admitted =
      made inputs (before.keeps.admitted inputs admitted) ∙ sym (drop-drop 1 (state.inputs_made now) inputs) ∙ ap (drop 1) (before.made inputs admitted) ∙ drop-drop 1 i (drop (state.inputs_made start) inputs)

  pub next_value : (inputs : List Bool) → state.admits start inputs → state.value next inputs l ≡ get_or (drop (state.inputs_made start) inputs) i false
  next_value inputs admitted =
      value_is inputs (before.keeps.admitted inputs admitted) ∙ get_or-behind inputs (drop (state.inputs_made start) inputs) (state.inputs_made now) i (before.made inputs admitted)

  word_kept : (inputs : List Bool) → state.admits start inputs → number (map (state.value next inputs) word) ≡ number (take i (drop (state.inputs_made start) inputs))
  word_kept inputs admitted = ap number (map-kept keeps inputs (before.keeps.admitted inputs admitted) word before.own) ∙ before.number inputs admitted

  pub made_more : state.gates_made next ≡ state.gates_made now → Made state start next (word ++ l ∷ []) (i + 1)
  made_more gates = record {
    keeps = Keeps-trans before.keeps keeps;
    gates = gates ∙ before.gates;
    own = All-push (state.has_literal next) word l (All-kept keeps word before.own) own;
    width = length_push word l ∙ ap (λ n. n + 1) before.width;
    made = next_made;
    number = λ inputs admitted.
        let width : length (map (state.value next inputs) word) ≡ i = length-map word (state.value next inputs) ∙ before.width in
        rw (map-append (state.value next inputs) word (l ∷ []), number-push (map (state.value next inputs) word) (state.value next inputs l), width, word_kept inputs admitted, next_value inputs admitted)
        (sym (number-take_one (drop (state.inputs_made start) inputs) i));
  }

-- once all bits were made, the word has the number that is read
module _ {C L : Type 0} {state : Ghosts C L} {start now : C} {word : List L} {i : ℕ}
    (before : Made state start now word i) where
  pub made_number : (N : ℕ) → N ≡ i → (inputs : List Bool) → state.admits start inputs → number_held (state.value now inputs) word ≡ number_read N (drop (state.inputs_made start) inputs)
  made_number N same inputs admitted = rw (same, before.width, before.number inputs admitted) refl

-- the word of a number and the poison bit behind it stand for the value that is read
pub poison_made : {L : Type 0} (value : L → Bool) (word : List L) (poison : L) (N : ℕ) (read : List Bool) → number_held value word ≡ number_read N read → value poison ≡ get_or read N false
    → held_value value (record { bits = word; poison = poison }) ≡ value_read N read
poison_made value word poison N read is last =
    let width : length word ≡ N = ap (λ (n : Number). n.width) is in
    let same : number_of value word ≡ number (take N read) = ap (λ (n : Number). n.number) is in
    rw (last, width, same) refl

-- Things that are made one by one, each of literals that stand for what is read. These literals stand for the same when
-- the circuit grows.
module _ {C M X : Type 0} (admits : C → List Bool → Type 0) (inputs_made : C → ℕ) (keeps : C → C → Type 0) (admitted_by : (old new : C) → keeps old new → (inputs : List Bool) → admits old inputs → admits new inputs)
    (own : C → M → Type 0) (own_kept : (old new : C) → keeps old new → (m : M) → own old m → own new m)
    (stands : C → List Bool → M → X) (stands_kept : (old new : C) → keeps old new → (inputs : List Bool) → admits old inputs → (m : M) → own old m → stands new inputs m ≡ stands old inputs m)
    (one : ℕ → List Bool → X) (size : ℕ → ℕ) (width : M → ℕ) where
  -- the first k of them were made
  pub record AllMade (start now : C) (widths : List ℕ) (made : List M) (k : ℕ) : Type 0 where
    pub own_them : All (own now) made
    pub widths_are : map width made ≡ take k widths
    pub behind : (inputs : List Bool) → admits start inputs → drop (inputs_made now) inputs ≡ drop (sum_by size (take k widths)) (drop (inputs_made start) inputs)
    pub read : (inputs : List Bool) → admits start inputs → all_read one size widths (drop (inputs_made start) inputs) ≡ map (stands now inputs) made ++ all_read one size (drop k widths) (drop (inputs_made now) inputs)

  map-kept_all : (old new : C) → keeps old new → (inputs : List Bool) → admits old inputs → (made : List M) → All (own old) made → map (stands new inputs) made ≡ map (stands old inputs) made
  map-kept_all old new kept inputs admitted [] all = refl
  map-kept_all old new kept inputs admitted (m ∷ made) all =
      let first = stands_kept old new kept inputs admitted m (all 0 m (omega arith)) in
      let rest = map-kept_all old new kept inputs admitted made (λ k d below. all (suc k) d (omega arith)) in
      cc

  all_made_empty : (start : C) (widths : List ℕ) → AllMade start start widths [] 0
  all_made_empty start widths = record {
    own_them = λ k d below. absurd (omega arith);
    widths_are = refl;
    behind = λ inputs admitted. refl;
    read = λ inputs admitted. refl;
  }

  pub all_made_none : (start : C) (widths : List ℕ) (made : List M) → made ≡ [] → AllMade start start widths made 0
  all_made_none start widths made none = subst (λ xs. AllMade start start widths xs 0) (sym none) (all_made_empty start widths)

  pub all_made_more : (start now next : C) (widths : List ℕ) (made : List M) (k N : ℕ) (m : M) → AllMade start now widths made k → ((inputs : List Bool) → admits start inputs → admits now inputs) → keeps now next → slice_get widths k ≡ Some N → width m ≡ N → own next m
      → ((inputs : List Bool) → admits now inputs → drop (inputs_made next) inputs ≡ drop (size N) (drop (inputs_made now) inputs))
      → ((inputs : List Bool) → admits now inputs → stands next inputs m ≡ one N (drop (inputs_made now) inputs))
      → AllMade start next widths (made ++ m ∷ []) (k + 1)
  all_made_more start now next widths made k N m before still kept at is_wide own_m moved is =
      let within : k < length widths = slice_get_within widths k N at in
      let more : take (k + 1) widths ≡ take k widths ++ N ∷ [] = take_more widths k N within ∙ ap (λ n. take k widths ++ n ∷ []) (get_or_from_slice_get widths k N N at) in
      record {
        own_them = All-push (own next) made m (λ j d below. own_kept now next kept (get_or made j d) (before.own_them j d below)) own_m;
        widths_are = map-append width made (m ∷ []) ∙ rw (before.widths_are, is_wide) (sym more);
        behind = λ inputs admitted.
            moved inputs (still inputs admitted) ∙ ap (drop (size N)) (before.behind inputs admitted) ∙ drop-drop (size N) (sum_by size (take k widths)) (drop (inputs_made start) inputs)
            ∙ ap (λ n. drop n (drop (inputs_made start) inputs)) (sym (ap (sum_by size) more ∙ sum_by_push size (take k widths) N));
        read = λ inputs admitted.
            let a = still inputs admitted in
            before.read inputs admitted
            ∙ rw (all_read-next one size widths k N (drop (inputs_made now) inputs) at, ← is inputs a, ← moved inputs a, ← map-kept_all now next kept inputs a made before.own_them, map-append (stands next inputs) made (m ∷ []))
            (sym (append_assoc (map (stands next inputs) made) (stands next inputs m ∷ []) (all_read one size (drop (k + 1) widths) (drop (inputs_made next) inputs))));
      }

  pub all_made_widths : (start now : C) (widths : List ℕ) (made : List M) (k : ℕ) → AllMade start now widths made k → length widths ≤ k → map width made ≡ widths
  all_made_widths start now widths made k before all = before.widths_are ∙ take_all k widths all

  pub all_made_behind : (start now : C) (widths : List ℕ) (made : List M) (k : ℕ) → AllMade start now widths made k → length widths ≤ k → (inputs : List Bool) → admits start inputs → drop (inputs_made now) inputs ≡ drop (sum_by size widths) (drop (inputs_made start) inputs)
  all_made_behind start now widths made k before all inputs admitted = before.behind inputs admitted ∙ ap (λ ws. drop (sum_by size ws) (drop (inputs_made start) inputs)) (take_all k widths all)

  pub all_made_read : (start now : C) (widths : List ℕ) (made : List M) (k : ℕ) → AllMade start now widths made k → length widths ≤ k → (inputs : List Bool) → admits start inputs → map (stands now inputs) made ≡ all_read one size widths (drop (inputs_made start) inputs)
  all_made_read start now widths made k before all inputs admitted =
      let none : drop k widths ≡ [] = drop_all k widths all in
      sym (before.read inputs admitted ∙ rw none (append-nil (map (stands now inputs) made)))
