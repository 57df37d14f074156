-- What is read at each place of an arena, and what becomes of its tables where the operands at one place change.
use Rattle.readers.proofs.Common.{◌≡◌, ◌⊎◌, ◌↔◌, inl, inr, ℕ, ◌+◌, ◌<◌, ◌≤◌, ◌^◌, List, length, get_or, Some, All, refl, sym, ap, subst, ◌∙◌, arith, Contains, option_map, slice_get, sum_by, cases_eq, get_or-le-sum_by, get_or_from_slice_get, slice_get-get_or, slice_get-map, slice_get_cases, slice_get_within, successors_of, AreFactsOf, FunctionFacts, IsBlock, IsKnown, Read, IsRead, reads_at, Block, Function, Inst, Operand, Register, operands_of, contained_at, contains_at, end_of-is, count_of, Uses, AreCounted, HasNumbers, operands_at, times, times_in, times_in_function, none, AreReadersOf, HasList, IsListed, IsPlaceIn, arena_place, listed_for, Place, Readers}
use Rattle.ir_core.specs.declared.operand.Operand.TheVariants as operands
use Rattle.readers.proofs.Changing.{HasAll, known_kept}
use Rattle.readers.proofs.Naming.{is_same_register}
use Rattle.readers.proofs.Reading.{arena_place_end, arena_place_inst, operands_at_inst, operands_at_terminator, read_at_written, read_in_block, read_in_inst, reads_written, same_place, written, written_reads}
use Rattle.readers.proofs.Totals.{counts_are_times, times_are_counts}

-- numbers of instructions are below the one that stands for a terminator
abbrev pub AreFew : Function → Type 0
AreFew f = (b : ℕ) (block : Block) → IsBlock f b block → length block.insts ≤ none

-- every register that is read at a place is one of the function
abbrev pub AreKnown : Function → Type 0
AreKnown f = (p : Place) (a : Operand) → IsPlaceIn f p → Contains (operands_at f p) a → IsKnown f a

module _ (f : Function) (few : AreFew f) where
  -- where an operand is read, there is a place
  pub place_of_read : (b k i : ℕ) (r : Read) → IsRead f b k i r → (p : Place) × IsPlaceIn f p × (p.block ≡ b) × (arena_place f p ≡ k)
  place_of_read b k i r at =
      let (block, here) = read_in_block f b k i r at in
      let less = few b block here in
      elim (read_in_inst f b k i r block here at) [
        | inl (inst, there) ↦
            let p : Place = record { block = b; number = k } in
            let within = slice_get_within block.insts k inst there in
            (p, (block, here, inl within), refl, arena_place_inst f p (omega arith))
        | inr last ↦
            let p : Place = record { block = b; number = none } in
            (p, (block, here, inr refl), refl, arena_place_end f p refl ∙ end_of-is f b block here ∙ sym last)
      ]

  pub reads_known : AreKnown f → (b k i : ℕ) (r : Read) → IsRead f b k i r → IsKnown f r.operand
  reads_known known b k i r at =
      let (p, inside, same_block, same_place) = place_of_read b k i r at in
      let there : slice_get (written f b k) i ≡ Some r.operand = slice_get-map (λ (x : Read). x.operand) (reads_at f b k) i ∙ ap (option_map (λ (x : Read). x.operand)) at in
      let is : written f b k ≡ operands_at f p = ap (λ (c : ℕ). written f c k) (sym same_block) ∙ ap (written f p.block) (sym same_place) in
      known p r.operand inside (subst (λ (l : List Operand). Contains l r.operand) is (contains_at (written f b k) r.operand i there))

pub known_reads : (f : Function) → ((b k i : ℕ) (r : Read) → IsRead f b k i r → IsKnown f r.operand) → AreKnown f
known_reads f known p a inside there =
    let at : (i : ℕ) × (slice_get (operands_at f p) i ≡ Some a) = contained_at (operands_at f p) a there in
    let (r, is_read, is) = read_at_written f p.block (arena_place f p) at.0 a at.1 in
    subst (IsKnown f) is (known p.block (arena_place f p) at.0 r is_read)

-- the lists of the registers among these operands have the place; no list loses a place, or gets another
pub record IsListedToo (p : Place) (reads : List Operand) (old new : Readers) : Type 0 where
  pub there : (r : Register) → HasList old r → HasList new r
  pub kept : (r : Register) (q : Place) → Contains (listed_for old r) q → Contains (listed_for new r) q
  pub listed : (r : Register) → Contains reads (operands.Register r) → Contains (listed_for new r) p
  pub came : (r : Register) (q : Place) → Contains (listed_for new r) q → Contains (listed_for old r) q ⊎ (q ≡ p)

-- where each has the place already
pub all_listed : (p : Place) (reads : List Operand) (readers : Readers) → ((r : Register) → Contains reads (operands.Register r) → Contains (listed_for readers r) p) → IsListedToo p reads readers readers
all_listed p reads readers listed = record {
  there = λ r h. h;
  kept = λ r q h. h;
  listed = listed;
  came = λ r q h. inl h;
}

-- where one register's list gets the place, and each other has it
pub one_listed : (p : Place) (reads : List Operand) (register : Register) (old new : Readers) → IsListed register p old new
    → ((r : Register) → Contains reads (operands.Register r) → Contains (listed_for old r) p ⊎ (r ≡ register)) → IsListedToo p reads old new
one_listed p reads register old new one listed = record {
  there = one.there;
  kept = λ r q h. elim (is_same_register r register) [
    | inl same ↦ subst (λ (s : Register). Contains (listed_for new s) q) (sym same) ((one.is q).1 (inl (subst (λ (s : Register). Contains (listed_for old s) q) same h)))
    | inr apart ↦ subst (λ (l : List Place). Contains l q) (sym (one.others r apart)) h
  ];
  listed = λ r there. elim (is_same_register r register) [
    | inl same ↦ subst (λ (s : Register). Contains (listed_for new s) p) (sym same) ((one.is p).1 (inr refl))
    | inr apart ↦ elim (listed r there) [
      | inl older ↦ subst (λ (l : List Place). Contains l p) (sym (one.others r apart)) older
      | inr same ↦ absurd (apart same)
    ]
  ];
  came = λ r q h. elim (is_same_register r register) [
    | inl same ↦ elim ((one.is q).0 (subst (λ (s : Register). Contains (listed_for new s) q) same h)) [
      | inl older ↦ inl (subst (λ (s : Register). Contains (listed_for old s) q) (sym same) older)
      | inr this ↦ inr this
    ]
    | inr apart ↦ inl (subst (λ (l : List Place). Contains l q) (one.others r apart) h)
  ];
}

-- ---- the operands at one place change

pub record DiffersAt (f f' : Function) (p : Place) : Type 0 where
  pub inside : IsPlaceIn f p
  pub to : HasAll f f'
  pub back : HasAll f' f
  pub places : (q : Place) → IsPlaceIn f' q ↔ IsPlaceIn f q
  pub flow : successors_of f' ≡ successors_of f
  pub elsewhere : (q : Place) → IsPlaceIn f q → ¬ (q ≡ p) → operands_at f' q ≡ operands_at f q
  pub times_differ : (r : Register) → times_in_function r f' + times r (operands_at f p) ≡ times_in_function r f + times r (operands_at f' p)

pub is_same_place : (p q : Place) → (p ≡ q) ⊎ ¬ (p ≡ q)
is_same_place p q = elim (cases_eq p.block q.block) [
  | inl block ↦ elim (cases_eq p.number q.number) [
    | inl number ↦ inl (same_place p q block number)
    | inr apart ↦ inr (λ e. apart (ap (λ (x : Place). x.number) e))
  ]
  | inr apart ↦ inr (λ e. apart (ap (λ (x : Place). x.block) e))
]

module _ (f f' : Function) (p : Place) (differs : DiffersAt f f' p) where
  pub still_known : AreKnown f → ((a : Operand) → Contains (operands_at f' p) a → IsKnown f a) → AreKnown f'
  still_known known new q a inside there = elim (is_same_place q p) [
    | inl same ↦ known_kept f f' differs.to a (new a (subst (λ (x : Place). Contains (operands_at f' x) a) same there))
    | inr apart ↦
        let was = (differs.places q).0 inside in
        known_kept f f' differs.to a (known q a was (subst (λ (l : List Operand). Contains l a) (differs.elsewhere q was apart) there))
  ]

  -- counts stay exact where those of the old operands are taken back and the new ones are counted
  pub still_facts : (old new : FunctionFacts) (mid : Uses) → AreFactsOf f old → new.flow ≡ old.flow → AreCounted (operands_at f p) mid old.uses → AreCounted (operands_at f' p) mid new.uses → AreFactsOf f' new
  still_facts old new mid facts flow forgotten counted = record {
    flow = flow ∙ facts.flow ∙ sym differs.flow;
    uses = times_are_counts f' new.uses
        (λ r known. (counted.there r).0 ((forgotten.there r).1 (facts.uses.there r (known_kept f' f differs.back (operands.Register r) known))))
        (λ r.
        let was = counts_are_times f old.uses facts.uses r in
        let less = forgotten.more r in
        let more = counted.more r in
        let change = differs.times_differ r in
        omega arith);
  }

  -- use lists stay complete where the place is listed for its new operands
  pub still_readers : (old new : Readers) → AreReadersOf f old → IsListedToo p (operands_at f' p) old new → AreReadersOf f' new
  still_readers old new are listed = record {
    there = λ r known. listed.there r (are.there r (known_kept f' f differs.back (operands.Register r) known));
    complete = λ r q inside reads.
        let reads_now = reads_written f' q.block (arena_place f' q) r reads in
        elim (is_same_place q p) [
          | inl same ↦ subst (λ (x : Place). Contains (listed_for new r) x) (sym same)
              (listed.listed r (subst (λ (x : Place). Contains (operands_at f' x) (operands.Register r)) same reads_now))
          | inr apart ↦
              let was = (differs.places q).0 inside in
              let read_before : Contains (operands_at f q) (operands.Register r) = subst (λ (l : List Operand). Contains l (operands.Register r)) (differs.elsewhere q was apart) reads_now in
              listed.kept r q (are.complete r q was (written_reads f q.block (arena_place f q) r read_before))
        ];
    places = λ r q there. elim (listed.came r q there) [
      | inl older ↦ (differs.places q).1 (are.places r q older)
      | inr same ↦ (differs.places q).1 (subst (IsPlaceIn f) (sym same) differs.inside)
    ];
  }

-- ---- tables have rows for what is read

pub numbers_for : (f : Function) (facts : FunctionFacts) (p : Place) → AreFactsOf f facts → AreKnown f → IsPlaceIn f p → HasNumbers facts.uses (operands_at f p)
numbers_for f facts p are known inside r there = are.uses.there r (known p (operands.Register r) inside there)

-- ---- the operands at a place are among all that are read

pub few_counted : (f : Function) → AreFew f → All (λ (b : Block). length b.insts < 2 ^ 32) f.blocks
few_counted f few k d within =
    let less = few k (get_or f.blocks k d) (slice_get-get_or f.blocks k d within) in
    omega arith

-- what one item adds to a sum is no more than the sum
one_of_all : {A : Type 0} (h : A → ℕ) (xs : List A) (k : ℕ) (x : A) → slice_get xs k ≡ Some x → h x ≤ sum_by h xs
one_of_all h xs k x at =
    let within = slice_get_within xs k x at in
    let less = get_or-le-sum_by h xs k x within in
    let is : h (get_or xs k x) ≡ h x = ap h (get_or_from_slice_get xs k x x at) in
    omega arith

pub times_within : (f : Function) → AreFew f → (p : Place) → IsPlaceIn f p → (r : Register) → times r (operands_at f p) ≤ times_in_function r f
times_within f few p (block, at, inside) r =
    let whole = one_of_all (times_in r) f.blocks p.block block at in
    let less = few p.block block at in
    elim inside [
      | inl within ↦ elim (slice_get_cases block.insts p.number).1 [
        | inl (inst, in_list, here, is) ↦
            let read = ap (times r) (operands_at_inst f p block inst at here (omega arith)) in
            let part = one_of_all (λ (i : Inst). times r (operands_of i.op)) block.insts p.number inst here in
            omega arith
        | inr (past, absent) ↦ absurd (omega arith)
      ]
      | inr end ↦
          let read = ap (times r) (operands_at_terminator f p block at end) in
          omega arith
    ]

-- so exact counts are at least as high as what is read at one place
pub times_counted : (f : Function) (facts : FunctionFacts) → AreFactsOf f facts → AreFew f → (p : Place) → IsPlaceIn f p → (r : Register) → times r (operands_at f p) ≤ count_of facts.uses r
times_counted f facts are few p inside r =
    let all = counts_are_times f facts.uses are.uses r in
    let part = times_within f few p inside r in
    omega arith
