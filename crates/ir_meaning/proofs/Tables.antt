-- Indices of registers in the table, and what a write to one of them changes.
use Rattle.ir_meaning.proofs.Common.{◌≡◌, ◌≢◌, ℕ, zero, suc, ◌+◌, ◌<◌, ◌≤◌, eqb, true, false, ◌&&◌, cond, List, [], ◌∷◌, ◌++◌, length, take, set, replicate, get_or, Option, None, Some, option_map, option_and_then, IsSome, refl, sym, ap, subst, ◌∙◌, inl, inr, ◌⊎◌, arith, append_assoc, add-one, zero-add, suc-add, length-append, slice_get, sum_by, fun_ext, cases_lt, eqb_tells, length-set, length-replicate, sum_by-cons, none-some, same_Some, slice_get_within, get_or_from_slice_get, IsValueOf, Value, IsBlock, HasInst, width_of, AreArguments, Registers, arguments, holding, Function, Block, Parameter, Inst, Register, first_of, held_of, Fits, IsTable}
use Rattle.ops.specs.declared.value.Value.TheVariants as values
use Rattle.ir_core.specs.declared.operand.Register.TheVariants as registers
use Rattle.ir_meaning.specs.Table.{place_of}
use Rattle.ir_meaning.proofs.Outcomes.{arguments_count}
use Rattle.ir_meaning.proofs.Pieces.{some_at}

-- ---- lists by place

abbrev sizes : List Block → ℕ → ℕ
sizes blocks b = sum_by (λ block. length block.insts) (take b blocks)

sizes_cons : (x : Block) (xs : List Block) (b : ℕ) → sizes (x ∷ xs) (suc b) ≡ length x.insts + sizes xs b
sizes_cons x xs b = sum_by-cons (λ block. length block.insts) x (take b xs)

-- the sizes of the blocks up to and with block b are those up to it, and its own
sizes_next : (blocks : List Block) (b : ℕ) (block : Block) → slice_get blocks b ≡ Some block → sizes blocks (suc b) ≡ sizes blocks b + length block.insts
sizes_next [] b block h = absurd (none-some block h)
sizes_next (x ∷ xs) zero block h =
    let same : length x.insts ≡ length block.insts = ap (λ (y : Block). length y.insts) (same_Some x block h) in
    sizes_cons x xs 0 ∙ omega arith
sizes_next (x ∷ xs) (suc b) block h = omega (arith, sizes_cons x xs (suc b), sizes_cons x xs b, sizes_next xs b block h)

sizes_nil : (b : ℕ) → sizes [] b ≡ 0
sizes_nil zero = refl
sizes_nil (suc b) = refl

sizes_le : (blocks : List Block) (b c : ℕ) → b ≤ c → sizes blocks b ≤ sizes blocks c
sizes_le [] b c h = omega (arith, sizes_nil b)
sizes_le (x ∷ xs) zero c h = omega arith
sizes_le (x ∷ xs) (suc b) zero h = absurd (omega arith)
sizes_le (x ∷ xs) (suc b) (suc c) h = omega (arith, sizes_cons x xs b, sizes_cons x xs c, sizes_le xs b c (omega arith))

get_set_same : {A : Type 0} (xs : List A) (i : ℕ) (v : A) → i < length xs → slice_get (set xs i v) i ≡ Some v
get_set_same [] i v h = absurd (omega arith)
get_set_same (x ∷ xs) zero v h = refl
get_set_same (x ∷ xs) (suc i) v h = get_set_same xs i v (omega arith)

get_set_other : {A : Type 0} (xs : List A) (i j : ℕ) (v : A) → j ≢ i → slice_get (set xs i v) j ≡ slice_get xs j
get_set_other [] i j v h = refl
get_set_other (x ∷ xs) zero zero v h = absurd (h refl)
get_set_other (x ∷ xs) zero (suc j) v h = refl
get_set_other (x ∷ xs) (suc i) zero v h = refl
get_set_other (x ∷ xs) (suc i) (suc j) v h = get_set_other xs i j v (λ e. h (ap suc e))

-- ---- indices

pub first_next : (f : Function) (b : ℕ) (block : Block) → IsBlock f b block → first_of f (suc b) ≡ first_of f b + length block.insts
unfolding first_of
first_next f b block is = omega (arith, sizes_next f.blocks b block is)

first_le : (f : Function) (b c : ℕ) → b ≤ c → first_of f b ≤ first_of f c
unfolding first_of
first_le f b c h = omega (arith, sizes_le f.blocks b c h)

parameters_first : (f : Function) (b : ℕ) → length f.parameters ≤ first_of f b
unfolding first_of
parameters_first f b = omega arith

-- the indices of a block's results are below those of a later block
inst_before : (f : Function) (b k c : ℕ) → HasInst f b k → b < c → first_of f b + k < first_of f c
inst_before f b k c has below = omega (arith, first_next f b has.0 has.1, first_le f (suc b) c (omega arith), has.2)

block_within : (f : Function) (b k : ℕ) → HasInst f b k → b < length f.blocks
block_within f b k has = slice_get_within f.blocks b has.0 has.1

pub inst_within : (f : Function) (firsts : List ℕ) (vs : List Value) (b k : ℕ) → IsTable f firsts vs → HasInst f b k → first_of f b + k < length vs
inst_within f firsts vs b k is has = omega (arith, is.size, inst_before f b k (length f.blocks) has (block_within f b k has))

pub read_first : (f : Function) (firsts : List ℕ) (vs : List Value) (b k x : ℕ) → IsTable f firsts vs → HasInst f b k → x ≡ get_or firsts b x → x ≡ first_of f b
read_first f firsts vs b k x is has at = at ∙ get_or_from_slice_get firsts b (first_of f b) x (is.starts b (block_within f b k has))

apart : (f : Function) (b k c j : ℕ) → HasInst f b k → HasInst f c j → first_of f c + j ≡ first_of f b + k → (c ≡ b) × (j ≡ k)
apart f b k c j has_b has_c same =
    elim (cases_lt b c) [
      | inl below ↦ absurd (omega (arith, inst_before f b k c has_b below))
      | inr above ↦ elim (cases_lt c b) [
        | inl below ↦ absurd (omega (arith, inst_before f c j b has_c below))
        | inr also ↦ let is : c ≡ b = omega arith in (is, let e = ap (λ n. first_of f n) is in omega arith)
      ]
    ]

some_and_then : {A B : Type 0} (o : Option A) (g : A → Option B) (y : B) → option_and_then g o ≡ Some y → (x : A) × (o ≡ Some x) × (g x ≡ Some y)
some_and_then None g y h = absurd (none-some y h)
some_and_then (Some x) g y h = (x, refl, h)

some_map : {A B : Type 0} (o : Option A) (g : A → B) (y : B) → option_map g o ≡ Some y → (x : A) × (o ≡ Some x) × (g x ≡ y)
some_map None g y h = absurd (none-some y h)
some_map (Some x) g y h = (x, refl, same_Some (g x) y h)

some_is : {A : Type 0} (o : Option A) → IsSome o → (x : A) × (o ≡ Some x)
some_is None h = absurd (cc)
some_is (Some x) h = (x, refl)

-- a result that has a width is one of the function
pub has_inst : (f : Function) (b k w : ℕ) → width_of f (registers.Result b k) ≡ Some w → HasInst f b k
has_inst f b k w h =
    let block = some_and_then (slice_get f.blocks b) (λ x. option_map (λ (i : Inst). i.width) (slice_get x.insts k)) w h in
    let inst = some_map (slice_get block.0.insts k) (λ i. i.width) w block.2 in
    (block.0, block.1, slice_get_within block.0.insts k inst.0 inst.1)

pub has_inst_some : (f : Function) (b k : ℕ) → IsSome (width_of f (registers.Result b k)) → HasInst f b k
has_inst_some f b k h = let w = some_is (width_of f (registers.Result b k)) h in has_inst f b k w.0 w.1

parameter_within : (f : Function) (p w : ℕ) → width_of f (registers.Parameter p) ≡ Some w → p < length f.parameters
parameter_within f p w h = let found = some_map (slice_get f.parameters p) (λ (x : Parameter). x.width) w h in slice_get_within f.parameters p found.0 found.1

pub parameter_within_some : (f : Function) (firsts : List ℕ) (vs : List Value) (p : ℕ) → IsTable f firsts vs → IsSome (width_of f (registers.Parameter p)) → p < length vs
parameter_within_some f firsts vs p is h =
    let w = some_is (width_of f (registers.Parameter p)) h in
    omega (arith, is.size, parameter_within f p w.0 w.1, parameters_first f (length f.blocks))

-- ---- what is held

read_held : (f : Function) (vs : List Value) (r : Register) (w : ℕ) (v : Value) → width_of f r ≡ Some w → slice_get vs (place_of f r) ≡ Some v → held_of f vs r ≡ Some v
unfolding held_of
read_held f vs r w v known is = ap (λ o. option_and_then (λ (width : ℕ). slice_get vs (place_of f r)) o) known ∙ is

held_read : (f : Function) (vs : List Value) (r : Register) (w : ℕ) (v : Value) → width_of f r ≡ Some w → held_of f vs r ≡ Some v → slice_get vs (place_of f r) ≡ Some v
unfolding held_of
held_read f vs r w v known is = ap (λ o. option_and_then (λ (width : ℕ). slice_get vs (place_of f r)) o) (sym known) ∙ is

pub parameter_held : (f : Function) (vs : List Value) (p : ℕ) (v : Value) → IsSome (width_of f (registers.Parameter p)) → slice_get vs p ≡ Some v → held_of f vs (registers.Parameter p) ≡ Some v
unfolding place_of
parameter_held f vs p v known is = let w = some_is (width_of f (registers.Parameter p)) known in read_held f vs (registers.Parameter p) w.0 v w.1 is

pub result_held : (f : Function) (vs : List Value) (b k : ℕ) (v : Value) → IsSome (width_of f (registers.Result b k)) → slice_get vs (first_of f b + k) ≡ Some v → held_of f vs (registers.Result b k) ≡ Some v
unfolding place_of
result_held f vs b k v known is = let w = some_is (width_of f (registers.Result b k)) known in read_held f vs (registers.Result b k) w.0 v w.1 is

same_and_then : {A : Type 0} (o : Option ℕ) (x y : Option A) → ((w : ℕ) → o ≡ Some w → x ≡ y) → option_and_then (λ (w : ℕ). x) o ≡ option_and_then (λ (w : ℕ). y) o
same_and_then None x y h = refl
same_and_then (Some w) x y h = h w refl

held_elsewhere : (f : Function) (vs : List Value) (place : ℕ) (v : Value) (r : Register) → ((w : ℕ) → width_of f r ≡ Some w → place_of f r ≢ place) → held_of f (set vs place v) r ≡ held_of f vs r
unfolding held_of
held_elsewhere f vs place v r other =
    same_and_then (width_of f r) (slice_get (set vs place v) (place_of f r)) (slice_get vs (place_of f r)) (λ w known. get_set_other vs place (place_of f r) v (other w known))

both_true : (c b j k : ℕ) → c ≡ b → j ≡ k → (eqb c b && eqb j k) ≡ true
both_true c b j k e g = grind arith

one_false : (c b j k : ℕ) → ((c ≡ b) × (j ≡ k) → ⊥) → (eqb c b && eqb j k) ≡ false
one_false c b j k h = elim (eqb_tells c b) [
  | inl same_c ↦ elim (eqb_tells j k) [
    | inl same_j ↦ absurd (h (same_c.1, same_j.1))
    | inr other ↦ rw (same_c.0, other.0) refl
  ]
  | inr other ↦ rw other.0 refl
]

same_pair : (c b j k : ℕ) → ((c ≡ b) × (j ≡ k)) ⊎ ((c ≡ b) × (j ≡ k) → ⊥)
same_pair c b j k = elim (eqb_tells c b) [
  | inl same_c ↦ elim (eqb_tells j k) [
    | inl same_j ↦ inl (same_c.1, same_j.1)
    | inr other ↦ inr (λ both. other.1 both.1)
  ]
  | inr other ↦ inr (λ both. other.1 both.0)
]

write_at : (f : Function) (firsts : List ℕ) (vs : List Value) (b k : ℕ) (v : Value) → IsTable f firsts vs → Fits f (registers.Result b k) v → (r : Register)
    → held_of f (set vs (first_of f b + k) v) r ≡ holding (held_of f vs) b k v r
unfolding place_of
write_at f firsts vs b k v is fits (registers.Parameter p) =
    held_elsewhere f vs (first_of f b + k) v (registers.Parameter p) (λ w known same. absurd (omega (arith, parameter_within f p w known, parameters_first f b)))
write_at f firsts vs b k v is fits (registers.Result c j) =
    let has = has_inst f b k fits.0 fits.1 in
    elim (same_pair c b j k) [
      | inl same ↦
          let at : slice_get (set vs (first_of f b + k) v) (first_of f b + k) ≡ Some v = get_set_same vs (first_of f b + k) v (inst_within f firsts vs b k is has) in
          let here : held_of f (set vs (first_of f b + k) v) (registers.Result b k) ≡ Some v = read_held f (set vs (first_of f b + k) v) (registers.Result b k) fits.0 v fits.1 at in
          let moved : held_of f (set vs (first_of f b + k) v) (registers.Result c j) ≡ Some v = subst (λ n. held_of f (set vs (first_of f b + k) v) (registers.Result n j) ≡ Some v) (sym same.0) (subst (λ n. held_of f (set vs (first_of f b + k) v) (registers.Result b n) ≡ Some v) (sym same.1) here) in
          moved ∙ ap (λ t. cond t (Some v) (held_of f vs (registers.Result c j))) (sym (both_true c b j k same.0 same.1))
      | inr other ↦
          held_elsewhere f vs (first_of f b + k) v (registers.Result c j) (λ w known same. other (apart f b k c j has (has_inst f c j w known) same))
          ∙ ap (λ t. cond t (Some v) (held_of f vs (registers.Result c j))) (sym (one_false c b j k other))
    ]

pub write_held : (f : Function) (firsts : List ℕ) (vs : List Value) (b k : ℕ) (v : Value) → IsTable f firsts vs → Fits f (registers.Result b k) v
    → held_of f (set vs (first_of f b + k) v) ≡ holding (held_of f vs) b k v
write_held f firsts vs b k v is fits = fun_ext (λ r. write_at f firsts vs b k v is fits r)

holding_width : (f : Function) (held : Registers) (b k : ℕ) (v : Value) → Fits f (registers.Result b k) v → ((r : Register) (w : ℕ) (u : Value) → width_of f r ≡ Some w → held r ≡ Some u → IsValueOf w u)
    → (r : Register) (w : ℕ) (u : Value) → width_of f r ≡ Some w → holding held b k v r ≡ Some u → IsValueOf w u
holding_width f held b k v fits widths (registers.Parameter p) w u known h = widths (registers.Parameter p) w u known h
holding_width f held b k v fits widths (registers.Result c j) w u known h =
    elim (same_pair c b j k) [
      | inl same ↦
          let is_v : v ≡ u = same_Some v u (ap (λ t. cond t (Some v) (held (registers.Result c j))) (sym (both_true c b j k same.0 same.1)) ∙ h) in
          let known_here : width_of f (registers.Result b k) ≡ Some w = subst (λ n. width_of f (registers.Result b n) ≡ Some w) same.1 (subst (λ n. width_of f (registers.Result n j) ≡ Some w) same.0 known) in
          let is_w : fits.0 ≡ w = same_Some fits.0 w (sym fits.1 ∙ known_here) in
          subst (λ x. IsValueOf w x) is_v (subst (λ n. IsValueOf n v) is_w fits.2)
      | inr other ↦ widths (registers.Result c j) w u known (ap (λ t. cond t (Some v) (held (registers.Result c j))) (sym (one_false c b j k other)) ∙ h)
    ]

pub write_table : (f : Function) (firsts : List ℕ) (vs : List Value) (b k : ℕ) (v : Value) → IsTable f firsts vs → Fits f (registers.Result b k) v → IsTable f firsts (set vs (first_of f b + k) v)
write_table f firsts vs b k v is fits = record {
  starts = is.starts;
  size = length-set vs (first_of f b + k) v ∙ is.size;
  widths = λ r w u known h. holding_width f (held_of f vs) b k v fits is.widths r w u known (ap (λ (g : Registers). g r) (sym (write_held f firsts vs b k v is fits)) ∙ h);
}

-- ---- the table at the start

-- the values at the start: the arguments, and poison for each result
abbrev pub started : List Value → ℕ → List Value
started args n = args ++ replicate n values.Poison

started_cases : (args : List Value) (n i : ℕ) (v : Value) → slice_get (started args n) i ≡ Some v → (slice_get args i ≡ Some v) ⊎ (v ≡ values.Poison)
started_cases [] zero i v h = absurd (none-some v h)
started_cases [] (suc n) zero v h = inr (sym (same_Some values.Poison v h))
started_cases [] (suc n) (suc i) v h = started_cases [] n i v h
started_cases (a ∷ args) n zero v h = inl h
started_cases (a ∷ args) n (suc i) v h = started_cases args n i v h

started_argument : (args : List Value) (n i : ℕ) (v : Value) → slice_get args i ≡ Some v → slice_get (started args n) i ≡ Some v
started_argument [] n i v h = absurd (none-some v h)
started_argument (a ∷ args) n zero v h = h
started_argument (a ∷ args) n (suc i) v h = started_argument args n i v h

argument_fits : (ps : List Parameter) (args : List Value) (i : ℕ) (p : Parameter) (v : Value) → AreArguments ps args → slice_get ps i ≡ Some p → slice_get args i ≡ Some v → IsValueOf p.width v
argument_fits [] args i p v are is_p is_v = absurd (none-some p is_p)
argument_fits (q ∷ ps) [] i p v are is_p is_v = absurd are
argument_fits (q ∷ ps) (u ∷ args) zero p v are is_p is_v =
    subst (λ (x : Parameter). IsValueOf x.width v) (same_Some q p is_p) (subst (λ x. IsValueOf q.width x) (same_Some u v is_v) are.0)
argument_fits (q ∷ ps) (u ∷ args) (suc i) p v are is_p is_v = argument_fits ps args i p v are.1 is_p is_v

started_widths : (f : Function) (args : List Value) (n : ℕ) → AreArguments f.parameters args → (r : Register) (w : ℕ) (v : Value) → width_of f r ≡ Some w → held_of f (started args n) r ≡ Some v → IsValueOf w v
unfolding place_of
started_widths f args n are (registers.Parameter p) w v known h =
    let found = some_map (slice_get f.parameters p) (λ (x : Parameter). x.width) w known in
    elim (started_cases args n p v (held_read f (started args n) (registers.Parameter p) w v known h)) [
      | inl argument ↦ subst (λ m. IsValueOf m v) found.2 (argument_fits f.parameters args p found.0 v are found.1 argument)
      | inr poison ↦ subst (λ x. IsValueOf w x) (sym poison) tt
    ]
started_widths f args n are (registers.Result b k) w v known h =
    elim (started_cases args n (first_of f b + k) v (held_read f (started args n) (registers.Result b k) w v known h)) [
      | inl argument ↦ absurd (omega (arith, slice_get_within args (first_of f b + k) v argument, parameters_first f b, arguments_count f.parameters args are))
      | inr poison ↦ subst (λ x. IsValueOf w x) (sym poison) tt
    ]

pub started_arguments : (f : Function) (args : List Value) (n : ℕ) → AreArguments f.parameters args → (r : Register) (v : Value) → arguments args r ≡ Some v → held_of f (started args n) r ≡ Some v
unfolding place_of
started_arguments f args n are (registers.Parameter p) v h =
    let q = some_at f.parameters p (omega (arith, slice_get_within args p v h, arguments_count f.parameters args are)) in
    read_held f (started args n) (registers.Parameter p) q.0.width v (ap (option_map (λ (x : Parameter). x.width)) q.1) (started_argument args n p v h)
started_arguments f args n are (registers.Result b k) v h = absurd (none-some v h)

-- the indices of the first results of the first n blocks
abbrev pub AreFirsts : Function → ℕ → List ℕ → Type 0
AreFirsts f n firsts = (length firsts ≡ n) × ((b : ℕ) → b < n → slice_get firsts b ≡ Some (first_of f b))

get_push_last : {A : Type 0} (xs : List A) (y : A) (i : ℕ) → i ≡ length xs → slice_get (xs ++ y ∷ []) i ≡ Some y
get_push_last [] y i h = rw h refl
get_push_last (x ∷ xs) y zero h = absurd (omega arith)
get_push_last (x ∷ xs) y (suc i) h = get_push_last xs y i (omega arith)

get_push_before : {A : Type 0} (xs : List A) (y : A) (i : ℕ) → i < length xs → slice_get (xs ++ y ∷ []) i ≡ slice_get xs i
get_push_before [] y i h = absurd (omega arith)
get_push_before (x ∷ xs) y zero h = refl
get_push_before (x ∷ xs) y (suc i) h = get_push_before xs y i (omega arith)

-- the values at the start up to block n are as many as the registers before it
pub started_count : (f : Function) (args : List Value) (n : ℕ) → AreArguments f.parameters args → length (started args (sum_by (λ block. length block.insts) (take n f.blocks))) ≡ first_of f n
unfolding first_of
started_count f args n are = simp (length-append, length-replicate) (omega (arith, arguments_count f.parameters args are))

pub firsts_more : (f : Function) (n first : ℕ) (firsts : List ℕ) → AreFirsts f n firsts → first ≡ first_of f n → AreFirsts f (n + 1) (firsts ++ first ∷ [])
firsts_more f n first firsts are is = (
  simp length-append (omega (arith, are.0)),
  λ b below. elim (cases_lt b n) [
    | inl earlier ↦ get_push_before firsts first b (omega (arith, are.0)) ∙ are.1 b earlier
    | inr last ↦
        let same : b ≡ n = omega arith in
        get_push_last firsts first b (omega (arith, are.0)) ∙ ap (λ (x : ℕ). Some x) (is ∙ ap (λ m. first_of f m) (sym same))
  ],
)

replicate_add : (m n : ℕ) → replicate (m + n) values.Poison ≡ replicate m values.Poison ++ replicate n values.Poison
replicate_add zero n = rw (zero-add n) refl
replicate_add (suc m) n = rw (suc-add m n) (ap (λ (xs : List Value). values.Poison ∷ xs) (replicate_add m n))

-- the values of one more block
pub started_more : (f : Function) (args : List Value) (n : ℕ) (block : Block) → IsBlock f n block
    → started args (sum_by (λ x. length x.insts) (take n f.blocks)) ++ replicate (length block.insts) values.Poison ≡ started args (sum_by (λ x. length x.insts) (take (n + 1) f.blocks))
started_more f args n block is =
    let next : sizes f.blocks (n + 1) ≡ sizes f.blocks n + length block.insts = rw add-one (sizes_next f.blocks n block is) in
    append_assoc args (replicate (sizes f.blocks n) values.Poison) (replicate (length block.insts) values.Poison)
    ∙ ap (λ (xs : List Value). args ++ xs) (sym (replicate_add (sizes f.blocks n) (length block.insts)))
    ∙ ap (λ m. started args m) (sym next)

pub started_table : (f : Function) (args : List Value) (n : ℕ) (firsts : List ℕ) → AreArguments f.parameters args → n ≡ length f.blocks → AreFirsts f n firsts → IsTable f firsts (started args (sum_by (λ block. length block.insts) (take n f.blocks)))
started_table f args n firsts are all is = record {
  starts = λ b below. is.1 b (omega arith);
  size = started_count f args n are ∙ ap (λ m. first_of f m) all;
  widths = λ r w v known h. started_widths f args (sizes f.blocks n) are r w v known h;
}
