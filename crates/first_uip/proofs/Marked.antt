-- The table of the entries' places, and the marks of blocks of the trail.
use Rattle.first_uip.proofs.Common.{◌≡◌, ℕ, ◌+◌, ◌*◌, ◌/◌, ◌<◌, ◌≤◌, Bool, true, false, List, ◌++◌, Option, Some, length, take, set, get_or, sym, ap, ◌∙◌, arith, inl, inr, slice_get, cases_Bool, cases_eq, cases_order, true≢false, get_or-set_same, get_or-set_other, Entry, EachFresh, some_same, slice_get_below, slice_get_cases, slice_get_take, slice_get_in_take, Role, Unseen, is_seen, part_of, NoneSeen, IsPlaced, is_marked, EachMarked, IsMarked}
use Rattle.first_uip.proofs.RoleLemmas.{other_entry}

-- one more entry's place is noted
pub IsPlaced-next : (values : List (Option Bool)) (entries : List Entry) (places : List ℕ) (k : ℕ) (e : Entry) → EachFresh values entries → slice_get entries k ≡ Some e → e.literal.variable < length places → IsPlaced places entries k → IsPlaced (set places e.literal.variable k) entries (k + 1)
IsPlaced-next values entries places k e fresh at room so_far place f below there =
    let v = e.literal.variable in
    elim (cases_order place k) [
      | inl same ↦
          let es : f ≡ e = some_same f e (sym there ∙ ap (slice_get entries) same ∙ at) in
          ap (λ (g : Entry). get_or (set places v k) g.literal.variable 0) es ∙ get_or-set_same places v k 0 room ∙ sym same
      | inr (inl less) ↦
          let differ : f.literal.variable ≡ v → ⊥ = λ q. other_entry values entries place k f e fresh there at less q in
          get_or-set_other places v f.literal.variable k 0 differ ∙ so_far place f less there
      | inr (inr more) ↦ absurd (omega arith)
    ]

pub IsPlaced-grown : (places : List ℕ) (entries more : List Entry) (n : ℕ) → n ≤ length entries → IsPlaced places entries n → IsPlaced places (entries ++ more) n
IsPlaced-grown places entries more n within so_far place e below at =
    elim (slice_get_cases entries more place e at) [
      | inl before ↦ so_far place e below before
      | inr (j, is, later) ↦ absurd (omega arith)
    ]

pub IsPlaced-same : (places : List ℕ) (old new : List Entry) (m n : ℕ) → n ≤ m → take n new ≡ take n old → IsPlaced places old m → IsPlaced places new n
IsPlaced-same places old new m n within same so_far place e below at =
    let (there, less) = slice_get_take n old place e (sym (ap (λ es. slice_get es place) same) ∙ slice_get_in_take n new place e at below) in
    so_far place e (omega arith) there

-- a variable is given a role, and the block of its entry is marked
pub EachMarked-set : (before after : List Bool) (places : List ℕ) (roles : List Role) (v : ℕ) (r : Role) → ((k : ℕ) → is_marked before k ≡ true → is_marked after k ≡ true) → is_marked after (get_or places v 0) ≡ true → EachMarked before places roles → EachMarked after places (set roles v r)
EachMarked-set before after places roles v r still here so_far n seen =
    elim (cases_eq n v) [
      | inl same ↦ ap (λ k. is_marked after (get_or places k 0)) same ∙ here
      | inr differ ↦ still (get_or places n 0) (so_far n (sym (ap is_seen (get_or-set_other roles v n r Unseen differ)) ∙ seen))
    ]

pub IsMarked-placed : (places : List ℕ) (entries : List Entry) (roles : List Role) (blocks : List Bool) → IsPlaced places entries (length entries) → EachMarked blocks places roles → IsMarked entries roles blocks
IsMarked-placed places entries roles blocks placed marked place e at seen =
    sym (ap (is_marked blocks) (placed place e (slice_get_below entries place e at) at)) ∙ marked e.literal.variable seen

-- no entry of a block that isn't marked is seen
pub NoneSeen-block : (entries : List Entry) (roles : List Role) (blocks : List Bool) (place : ℕ) → IsMarked entries roles blocks → is_marked blocks place ≡ false → NoneSeen entries roles (place / 32 * 32) (place / 32 * 32 + 32)
NoneSeen-block entries roles blocks place marked none k e from below at =
    let same : k / 32 ≡ place / 32 = omega arith in
    elim (cases_Bool (is_seen (part_of roles e))) [
      | inl seen ↦ absurd (true≢false (sym (marked k e at seen) ∙ ap (λ n. get_or blocks n true) same ∙ none))
      | inr unseen ↦ unseen
    ]

-- two adjacent parts of the trail in which no entry is seen
pub NoneSeen-join : (entries : List Entry) (roles : List Role) (from middle to : ℕ) → NoneSeen entries roles from middle → NoneSeen entries roles middle to → NoneSeen entries roles from to
NoneSeen-join entries roles from middle to first later k e past below at =
    elim (cases_order k middle) [
      | inl same ↦ later k e (omega arith) below at
      | inr (inl less) ↦ first k e past less at
      | inr (inr more) ↦ later k e (omega arith) below at
    ]

-- one entry that isn't seen
pub NoneSeen-one : (entries : List Entry) (roles : List Role) (place : ℕ) (e : Entry) → slice_get entries place ≡ Some e → is_seen (part_of roles e) ≡ false → NoneSeen entries roles place (place + 1)
NoneSeen-one entries roles place e at unseen k f from below there =
    let same : k ≡ place = omega arith in
    ap (λ (g : Entry). is_seen (part_of roles g)) (some_same f e (sym there ∙ ap (slice_get entries) same ∙ at)) ∙ unseen
