-- Tables with an entry for each register, of which one is written.
use Rattle.readers.proofs.Common.{◌≡◌, ◌↔◌, inl, inr, ℕ, ◌<◌, List, [], length, get_or, slice_set, refl, sym, ap, subst, ◌∙◌, arith, get_or-set_other, get_or-set_same, cases_eq, length-set, get_or_past, cases_lt, Register, HasNumber, count_of, Uses, IsSetTo, HasList, IsListSetTo, IsListed, IsListedAmong, listed_for, Place, Readers}
use Rattle.ir_core.specs.declared.operand.Register.TheVariants as registers

-- a row for the parameters, and one for the results of each block
module _ {A : Type 0} (d : A) where
  abbrev pub Has : List A → List (List A) → Register → Type 0
  Has parameters results (registers.Parameter p) = p < length parameters
  Has parameters results (registers.Result b n) = n < length (get_or results b [])

  abbrev pub at : List A → List (List A) → Register → A
  at parameters results (registers.Parameter p) = get_or parameters p d
  at parameters results (registers.Result b n) = get_or (get_or results b []) n d

  -- one entry is written
  pub record Writes (register : Register) (x : A) (parameters : List A) (results : List (List A)) (parameters' : List A) (results' : List (List A)) : Type 0 where
    pub there : (r : Register) → Has parameters results r ↔ Has parameters' results' r
    pub is : at parameters' results' register ≡ x
    pub others : (r : Register) → ¬ (r ≡ register) → at parameters' results' r ≡ at parameters results r

  pub row_within : (rows : List (List A)) (b n : ℕ) → n < length (get_or rows b []) → b < length rows
  row_within rows b n within = elim (cases_lt b (length rows)) [
    | inl less ↦ less
    | inr past ↦ absurd (omega (arith, ap length (get_or_past rows b [] past)))
  ]

  module _ (p : ℕ) (x : A) (parameters : List A) (results : List (List A)) (within : p < length parameters) where
    parameter_others : (r : Register) → ¬ (r ≡ registers.Parameter p) → at (slice_set parameters p x) results r ≡ at parameters results r
    parameter_others (registers.Parameter q) other = get_or-set_other parameters p q x d (λ e. other (ap (λ (n : ℕ). registers.Parameter n) e))
    parameter_others (registers.Result b n) other = refl

    parameter_there : (r : Register) → Has parameters results r ↔ Has (slice_set parameters p x) results r
    parameter_there (registers.Parameter q) =
        let same = length-set parameters p x in (λ h. omega arith, λ h. omega arith)
    parameter_there (registers.Result b n) = (λ h. h, λ h. h)

    pub writes_parameter : Writes (registers.Parameter p) x parameters results (slice_set parameters p x) results
    writes_parameter = record { there = parameter_there; is = get_or-set_same parameters p x d within; others = parameter_others }

  module _ (b n : ℕ) (x : A) (parameters : List A) (results : List (List A)) (within : n < length (get_or results b [])) where
    abbrev row : List A
    row = slice_set (get_or results b []) n x

    abbrev rows : List (List A)
    rows = slice_set results b row

    this_row : get_or rows b [] ≡ row
    this_row = get_or-set_same results b row [] (row_within results b n within)

    that_row : (c : ℕ) → (c ≡ b → ⊥) → get_or rows c [] ≡ get_or results c []
    that_row c apart = get_or-set_other results b c row [] apart

    result_others : (r : Register) → ¬ (r ≡ registers.Result b n) → at parameters rows r ≡ at parameters results r
    result_others (registers.Parameter q) other = refl
    result_others (registers.Result c m) other = elim (cases_eq c b) [
      | inl same ↦
          let other_number : m ≡ n → ⊥ = λ e. other cc in
          ap (λ (k : ℕ). get_or (get_or rows k []) m d) same ∙ ap (λ (l : List A). get_or l m d) this_row
          ∙ get_or-set_other (get_or results b []) n m x d other_number ∙ ap (λ (k : ℕ). get_or (get_or results k []) m d) (sym same)
      | inr apart ↦ ap (λ (l : List A). get_or l m d) (that_row c apart)
    ]

    row_length : (c : ℕ) → length (get_or rows c []) ≡ length (get_or results c [])
    row_length c = elim (cases_eq c b) [
      | inl same ↦ ap (λ (k : ℕ). length (get_or rows k [])) same ∙ ap length this_row ∙ length-set (get_or results b []) n x ∙ ap (λ (k : ℕ). length (get_or results k [])) (sym same)
      | inr apart ↦ ap length (that_row c apart)
    ]

    result_there : (r : Register) → Has parameters results r ↔ Has parameters rows r
    result_there (registers.Parameter q) = (λ h. h, λ h. h)
    result_there (registers.Result c m) = let same = row_length c in (λ h. omega arith, λ h. omega arith)

    pub writes_result : Writes (registers.Result b n) x parameters results parameters rows
    writes_result = record {
      there = result_there;
      is = ap (λ (l : List A). get_or l n d) this_row ∙ get_or-set_same (get_or results b []) n x d within;
      others = result_others;
    }

-- ---- the tables of counts and of readers are such tables

count_at : (uses : Uses) (r : Register) → count_of uses r ≡ at 0 uses.parameters uses.results.items r
count_at uses (registers.Parameter p) = refl
count_at uses (registers.Result b n) = refl

number_there : (uses : Uses) (r : Register) → HasNumber uses r ↔ Has 0 uses.parameters uses.results.items r
number_there uses (registers.Parameter p) = (λ h. h, λ h. h)
number_there uses (registers.Result b n) = (λ h. h, λ h. h)

pub set_to : (register : Register) (n : ℕ) (old new : Uses) → Writes 0 register n old.parameters old.results.items new.parameters new.results.items → IsSetTo register n old new
set_to register n old new writes = record {
  there = λ r. (
    λ h. (number_there new r).1 ((writes.there r).0 ((number_there old r).0 h)),
    λ h. (number_there old r).1 ((writes.there r).1 ((number_there new r).0 h)),
  );
  is = count_at new register ∙ writes.is;
  others = λ r other. count_at new r ∙ writes.others r other ∙ sym (count_at old r);
}

list_at : (readers : Readers) (r : Register) → listed_for readers r ≡ at {A = List Place} [] readers.parameters readers.results.items r
list_at readers (registers.Parameter p) = refl
list_at readers (registers.Result b n) = refl

list_there : (readers : Readers) (r : Register) → HasList readers r ↔ Has {A = List Place} [] readers.parameters readers.results.items r
list_there readers (registers.Parameter p) = (λ h. h, λ h. h)
list_there readers (registers.Result b n) = (λ h. h, λ h. h)

pub list_set_to : (register : Register) (places : List Place) (old new : Readers) → Writes {A = List Place} [] register places old.parameters old.results.items new.parameters new.results.items → IsListSetTo register places old new
list_set_to register places old new writes = record {
  there = λ r. (
    λ h. (list_there new r).1 ((writes.there r).0 ((list_there old r).0 h)),
    λ h. (list_there old r).1 ((writes.there r).1 ((list_there new r).0 h)),
  );
  is = list_at new register ∙ writes.is;
  others = λ r other. list_at new r ∙ writes.others r other ∙ sym (list_at old r);
}

pub listed_in : (register : Register) (place : Place) (places : List Place) (old new : Readers) → IsListedAmong place (listed_for old register) places → IsListSetTo register places old new → IsListed register place old new
listed_in register place places old new among set = record {
  there = λ r h. (set.there r).0 h;
  is = subst (λ (l : List Place). IsListedAmong place (listed_for old register) l) (sym set.is) among;
  others = set.others;
}

-- ---- by the rows that are written

module _ (n : ℕ) (old new : Uses) where
  pub parameter_set : (k : ℕ) → HasNumber old (registers.Parameter k) → new.parameters ≡ slice_set old.parameters k n → new.results.items ≡ old.results.items → IsSetTo (registers.Parameter k) n old new
  parameter_set k has parameters results = set_to (registers.Parameter k) n old new
      (subst (λ (l : List (List ℕ)). Writes 0 (registers.Parameter k) n old.parameters old.results.items new.parameters l) (sym results)
      (subst (λ (l : List ℕ). Writes 0 (registers.Parameter k) n old.parameters old.results.items l old.results.items) (sym parameters)
      (writes_parameter 0 k n old.parameters old.results.items has)))

  pub result_set : (b k : ℕ) → HasNumber old (registers.Result b k) → new.results.items ≡ slice_set old.results.items b (slice_set (get_or old.results.items b []) k n) → new.parameters ≡ old.parameters → IsSetTo (registers.Result b k) n old new
  result_set b k has results parameters = set_to (registers.Result b k) n old new
      (subst (λ (l : List ℕ). Writes 0 (registers.Result b k) n old.parameters old.results.items l new.results.items) (sym parameters)
      (subst (λ (l : List (List ℕ)). Writes 0 (registers.Result b k) n old.parameters old.results.items old.parameters l) (sym results)
      (writes_result 0 b k n old.parameters old.results.items has)))

module _ (places : List Place) (old new : Readers) where
  pub parameter_list_set : (k : ℕ) → HasList old (registers.Parameter k) → new.parameters ≡ slice_set old.parameters k places → new.results.items ≡ old.results.items → IsListSetTo (registers.Parameter k) places old new
  parameter_list_set k has parameters results = list_set_to (registers.Parameter k) places old new
      (subst (λ (l : List (List (List Place))). Writes {A = List Place} [] (registers.Parameter k) places old.parameters old.results.items new.parameters l) (sym results)
      (subst (λ (l : List (List Place)). Writes {A = List Place} [] (registers.Parameter k) places old.parameters old.results.items l old.results.items) (sym parameters)
      (writes_parameter {A = List Place} [] k places old.parameters old.results.items has)))

  pub result_list_set : (b k : ℕ) → HasList old (registers.Result b k) → new.results.items ≡ slice_set old.results.items b (slice_set (get_or old.results.items b []) k places) → new.parameters ≡ old.parameters → IsListSetTo (registers.Result b k) places old new
  result_list_set b k has results parameters = list_set_to (registers.Result b k) places old new
      (subst (λ (l : List (List Place)). Writes {A = List Place} [] (registers.Result b k) places old.parameters old.results.items l new.results.items) (sym parameters)
      (subst (λ (l : List (List (List Place))). Writes {A = List Place} [] (registers.Result b k) places old.parameters old.results.items old.parameters l) (sym results)
      (writes_result {A = List Place} [] b k places old.parameters old.results.items has)))
