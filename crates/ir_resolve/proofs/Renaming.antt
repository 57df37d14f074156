-- A key is in the table before exactly if its name was given before.
use Rattle.ir_resolve.proofs.Common.{◌≡◌, ◌↔◌, ℕ, ◌<◌, Bool, true, false, cond, IsTrue, List, take, map, Option, None, Some, refl, sym, ap, subst, ◌∙◌, arith, Contains, slice_get, option_map, false≢true, slice_get-map, Identifier, Named, Numbered, RawIdentifier, IsFirst, name_in, given, called_in, SomeHas, RepeatsHere, HasName, IsWrittenOn, Is}
use Rattle.ir_resolve.proofs.Places.{place_before, before_place}
use Rattle.ir_resolve.proofs.Series.{named_from, named_back, numbered_lt}

given_name : (w : Option RawIdentifier) (name : List ℕ) → HasName w name → given w ≡ Some name
given_name w name (r, is, named) = ap given is ∙ ap name_in named

name_of : (y : Identifier) (name : List ℕ) → name_in y ≡ Some name → y ≡ Named name
name_of (Named text) name h = cc
name_of (Numbered n) name h = cc

from_given : (w : Option RawIdentifier) (name : List ℕ) → given w ≡ Some name → HasName w name
from_given None name h = cc
from_given (Some r) name h = (r, refl, name_of r.identifier name h)

from_mapped : (o : Option (Option RawIdentifier)) (name : List ℕ) → option_map given o ≡ Some (Some name) → (w : Option RawIdentifier) × (o ≡ Some w) × HasName w name
from_mapped None name h = cc
from_mapped (Some w) name h = (w, refl, from_given w name (cc))

module _ (written : List (Option RawIdentifier)) where
  abbrev ids : List Identifier
  ids = called_in written

  id_of_name : (j : ℕ) (w : Option RawIdentifier) (name : List ℕ) → slice_get written j ≡ Some w → HasName w name → slice_get ids j ≡ Some (Named name)
  id_of_name j w name at has =
      named_from 0 (map given written) j name (slice_get-map given written j ∙ ap (option_map given) at ∙ ap Some (given_name w name has))

  pub name_of_id : (j : ℕ) (name : List ℕ) → slice_get ids j ≡ Some (Named name) → (w : Option RawIdentifier) × (slice_get written j ≡ Some w) × HasName w name
  name_of_id j name id = from_mapped (slice_get written j) name (sym (slice_get-map given written j) ∙ named_back 0 (map given written) j name id)

  module _ (i : ℕ) (w : Option RawIdentifier) (x : Identifier) (w_at : slice_get written i ≡ Some w) (x_at : slice_get ids i ≡ Some x) where
    -- a definition before with the same identifier has the same name, since numbers differ
    earlier_name : (z : Identifier) → slice_get ids i ≡ Some z → Contains (take i ids) z → (name : List ℕ) × HasName w name × SomeHas HasName (take i written) name
    earlier_name (Numbered m) z_at there =
        let (j, lt, j_at) = place_before i ids (Numbered m) there in
        let less : m < m = numbered_lt 0 (map given written) j i m m lt j_at z_at in
        absurd (omega arith)
    earlier_name (Named name) z_at there =
        let (j, lt, j_at) = place_before i ids (Named name) there in
        let (v, v_at, v_has) = name_of_id j name j_at in
        let (own, own_at, own_has) = name_of_id i name z_at in
        let one : own ≡ w = cc (own_at, w_at) in
        (name, subst (λ o. HasName o name) one own_has, (v, before_place i written v j lt v_at, v_has))

    earlier : SomeHas Is (take i ids) x → (name : List ℕ) × HasName w name × SomeHas HasName (take i written) name
    earlier (y, before, one) = earlier_name x x_at (subst (Contains (take i ids)) one before)

    later : (name : List ℕ) → HasName w name → SomeHas HasName (take i written) name → SomeHas Is (take i ids) x
    later name has (v, before, v_has) =
        let (j, lt, j_at) = place_before i written v before in
        let own : slice_get ids i ≡ Some (Named name) = id_of_name i w name w_at has in
        let one : Named name ≡ x = cc (own, x_at) in
        (Named name, before_place i ids (Named name) j lt (id_of_name j v name j_at v_has), one)

    there_again : (r : RawIdentifier) (name : List ℕ) → w ≡ Some r → HasName w name → SomeHas HasName (take i written) name → IsFirst (RepeatsHere HasName IsWrittenOn written i) (Some r.line)
    there_again r name is has before = (
      (w, name, w_at, has, before, (r, is, refl)),
      λ other (v, n, v_at, v_has, v_before, (s, v_is, on)).
          let one : s ≡ r = cc (v_at, w_at, v_is, is) in
          let line : s.line ≡ r.line = ap (λ (q : RawIdentifier). q.line) one in
          omega arith,
    )

    new_here : ¬ SomeHas Is (take i ids) x → (line : ℕ) → ¬ RepeatsHere HasName IsWrittenOn written i line
    new_here new line (v, name, v_at, v_has, v_before, on) =
        let one : v ≡ w = cc (v_at, w_at) in
        new (later name (subst (λ o. HasName o name) one v_has) v_before)

    pub repeat_here : (there : Bool) (here : Option ℕ) → (IsTrue there ↔ SomeHas Is (take i ids) x) → here ≡ cond there (option_map (λ r. r.line) w) None → IsFirst (RepeatsHere HasName IsWrittenOn written i) here
    repeat_here true here iff is =
        let (name, (r, w_is, named), before) = earlier (iff.0 refl) in
        let line : here ≡ Some r.line = is ∙ ap (option_map (λ (q : RawIdentifier). q.line)) w_is in
        rw line (there_again r name w_is (r, w_is, named) before)
    repeat_here false here iff is = rw is (new_here (λ some. false≢true (iff.1 some)))

    -- if no line is given, the key was not in the table before
    pub not_there : (there : Bool) (here : Option ℕ) → (IsTrue there ↔ SomeHas Is (take i ids) x) → here ≡ cond there (option_map (λ r. r.line) w) None → here ≡ None → there ≡ false
    not_there false here iff is none = refl
    not_there true here iff is none =
        let (name, (r, w_is, named), before) = earlier (iff.0 refl) in
        let line : here ≡ Some r.line = is ∙ ap (option_map (λ (q : RawIdentifier). q.line)) w_is in
        cc
