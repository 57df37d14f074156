-- What the parsers of terms read of tokens with the sentinel.
use Rattle.rule_viable_prefixes.proofs.Common.{◌≡◌, ℕ, zero, suc, ◌+◌, ◌<◌, ◌≤◌, Bool, true, false, cond, eqb, List, [], ◌∷◌, ◌++◌, length, Option, Some, None, Result, Ok, Err, refl, sym, ap, subst, ◌∙◌, arith, ◌||◌, codes, bytes_eq, same_word, Refused, Function, Negate, Log2, Abs, is_constant, is_choice, ends_primary, RuleFaultKind, Syntax, TooMany, Limits, literal_value, fault, unexpected, name_within, RuleFault, ◌>>=◌, Token, Register, Word, Number, Mark, Excess, TermPlace, RawNode, Start, Leaf, Prefix, Parenthesis, Meaning, operator_mark, operator_in, level_of, loosest, IsCalled, IsChoice, meaning_in, mark_at, register_in, word_at, opening_in, start_at, of_level, operator_at, join, whole_chain_at, behind_at, add_unary, inside_at, measured_at, shallow_in, primary_at, term_at, operator_at-is, operator_at-of, meaning_in-is, operand_shorter, name_bytes, Role, mark_role, ends_operand, without_signs, open_with}
use Rattle.ops.specs.declared.opcode.Opcode.{Opcode}
use Rattle.ops.specs.declared.opcode.Opcode.TheVariants as opcodes
use Rattle.rule_core.specs.declared.rule.Function.TheVariants.{Not}
use Rattle.scan.specs.declared.rule_token.RuleKind.TheVariants as kinds
use Rattle.rule_terms.specs.declared.place.TermPlace.TheVariants as places
use Rattle.rule_terms.specs.declared.raw.RawNode.TheVariants as raw_nodes
use Rattle.rule_terms.specs.declared.start.Start.TheVariants.{Call, Width}
use Rattle.rule_terms.specs.declared.word.Meaning.TheVariants as meanings
use Rattle.rule_terms.specs.TermReaders.{Reader, opening_at, operand_at, begun_at}
use Rattle.rule_terms.proofs.Chains.{Shortens, chain-more, chain-fault, chain-done}
use Rattle.rule_viable_prefixes.specs.Passed.{Opens, Sign, Other}
use Rattle.rule_viable_prefixes.proofs.Marks.{IsMark, bad, excess, Marking, State, inline, step, bytes, levels, half, Marked, NoName, Next, passes, passes_name, goes_on, First, ends, stops, token, first, Same, read, failed, told, stands, Meets, refused, left, met, same_bind, meets_bind, mark_told, cut_told, mark_refused, unexpected_both, misplaced_both, syntax_both, short_name, long_name, fewer_signs}

-- ---- roles

-- the sentinel is no operator, and begins no operand
mark_operator : (m : Token) (kind : RuleFaultKind) → IsMark m kind → (level : ℕ) (rest : List Token) → operator_at level (m ∷ rest) ≡ None
unfolding operator_at
mark_operator m kind bad level rest = refl
mark_operator m kind excess level rest = refl

operator_end : (level : ℕ) → operator_at level [] ≡ None
unfolding operator_at
operator_end level = refl

mark_starts : (m : Token) (kind : RuleFaultKind) → IsMark m kind → (limits : Limits) (place : TermPlace) (line : ℕ) (rest : List Token) → start_at limits place line (m ∷ rest) ≡ Err (unexpected line (m ∷ rest))
unfolding start_at
mark_starts m kind bad limits place line rest = refl
mark_starts m kind excess limits place line rest = refl

mark_measured : (m : Token) (kind : RuleFaultKind) → IsMark m kind → (limits : Limits) (line : ℕ) (rest : List Token) → measured_at limits line (m ∷ rest) ≡ Err (unexpected line (m ∷ rest))
unfolding measured_at
mark_measured m kind bad limits line rest = refl
mark_measured m kind excess limits line rest = refl

mark_no_mark : (m : Token) (kind : RuleFaultKind) → IsMark m kind → (wanted : List ℕ) (line : ℕ) (rest : List Token) → mark_at wanted line (m ∷ rest) ≡ Err (unexpected line (m ∷ rest))
unfolding mark_at
mark_no_mark m kind bad wanted line rest = refl
mark_no_mark m kind excess wanted line rest = refl

-- a binary operator leaves the stack as it is
operator_role : (op : Opcode) → mark_role true (operator_mark op) ≡ Other
operator_role opcodes.Mul = refl
operator_role opcodes.SDiv = refl
operator_role opcodes.UDiv = refl
operator_role opcodes.SRem = refl
operator_role opcodes.URem = refl
operator_role opcodes.Add = refl
operator_role opcodes.Sub = refl
operator_role opcodes.Shl = refl
operator_role opcodes.AShr = refl
operator_role opcodes.LShr = refl
operator_role opcodes.And = refl
operator_role opcodes.Xor = refl
operator_role opcodes.Or = refl
operator_role opcodes.UMin = refl
operator_role opcodes.UMax = refl
operator_role opcodes.SMin = refl
operator_role opcodes.SMax = refl

-- constants and choices of the target are operands
pub constant_operand : (word : List ℕ) → is_constant word ≡ true → ends_primary kinds.Word word ≡ true
unfolding ends_primary
constant_operand word is = rw is refl

choice_operand : (word : List ℕ) (place : ℕ) → IsChoice word place → ends_primary kinds.Word word ≡ true
unfolding ends_primary is_choice
choice_operand word place (digits, is, run, first_digit, held) = rw is (by (is_constant (116 ∷ digits)) run)
  where
    by : (b : Bool) {c : Bool} → c ≡ true → (b || c) ≡ true
    by true e = refl
    by false e = e

-- words of functions are not
width_other : ends_primary kinds.Word (codes "width") ≡ false
unfolding ends_primary is_constant is_choice
width_other = refl

called_other : (function : Function) (word : List ℕ) → IsCalled function word → ends_primary kinds.Word word ≡ false
unfolding ends_primary is_constant is_choice
called_other Log2 word is = rw is refl
called_other Abs word is = rw is refl
called_other Negate word is = absurd is
called_other Not word is = absurd is

module _ (c : Marking) (statements line : ℕ) (few : statements ≤ c.limits.statements) where
  -- the state in a line, with this stack
  abbrev pub at : List Role → Bool → State
  at pending operand = inline statements line pending operand

  -- the sentinel is next
  abbrev pub Stand : {A : Type 0} → A × List Token → Type 0
  Stand x = (rest : List Token) × (x.1 ≡ c.mark ∷ rest)

  abbrev pub NoStand : {A : Type 0} → A → Type 0
  NoStand x = ⊥

  -- the same is read in both, with this stack behind it
  abbrev pub Behind : {A : Type 0} → List Role → Bool → A × List Token → A × List Token → Type 0
  Behind pending operand x y = (x.0 ≡ y.0) × Marked c (at pending operand) x.1 y.1

  -- ---- a token with which no limit is passed

  -- what is behind the token in both
  pub on : {s : State} (t : Token) (a b : List Token) → Next c s t a b → NoName t → name_bytes t ≡ 0 → length (step s t).pending ≤ c.limits.nested → (step s t).statements ≤ c.limits.statements → Marked c (step s t) a b
  on t a b (passes rest no_name (bytes more) le) named none_ less room = absurd (omega (arith, more, none_))
  on t a b (passes rest no_name (levels more) le) named none_ less room = absurd (omega (arith, more, less))
  on t a b (passes rest no_name (half more) le) named none_ less room = absurd (omega (arith, more, room))
  on t a b (passes_name text rest is ended long_ le) named none_ less room = absurd (subst NoName is named)
  on t a b (goes_on x y kept more) named none_ less room = more

  -- an operand of one token: its name is too long within the narrower limits, or within both limits
  pub data IsOperand (t : Token) (pending : List Role) : List Token → List Token → Type 0 where
    long : (rest : List Token) → c.limits.name_bytes < name_bytes t → name_bytes t ≤ c.wider.name_bytes → IsOperand t pending rest (c.mark ∷ rest)
    short : (a b : List Token) → name_bytes t ≤ c.limits.name_bytes → Marked c (at (without_signs pending) true) a b → IsOperand t pending a b

  pub operand : (pending : List Role) (p : Bool) (t : Token) (a b : List Token) → length pending ≤ c.limits.nested → NoName t → step (at pending p) t ≡ at (without_signs pending) true → Next c (at pending p) t a b → IsOperand t pending a b
  operand pending p t a b deep named is (passes rest no_name (bytes more) le) = long rest more le
  operand pending p t a b deep named is (passes rest no_name (levels more) le) =
      let less = fewer_signs pending in
      let same_levels : length (step (at pending p) t).pending ≡ length (without_signs pending) = ap (λ (s : State). length s.pending) is in
      absurd (omega (arith, more, less, same_levels, deep))
  operand pending p t a b deep named is (passes rest no_name (half more) le) =
      let same_half : (step (at pending p) t).statements ≡ statements = ap (λ (s : State). s.statements) is in
      absurd (omega (arith, more, same_half, few))
  operand pending p t a b deep named is (passes_name text rest is_name ended long_ le) = absurd (subst NoName is_name named)
  operand pending p t a b deep named is (goes_on x y kept more) = short x y kept.bytes (subst (λ (s : State). Marked c s x y) is more)

  -- ---- marks

  -- a wanted mark is next in both, and what is behind it in both
  pub mark_same : {R : List Token → List Token → Type 0} (wanted : List ℕ) (s : State) (a b : List Token) → Marked c s a b
      → ((x y : List Token) → Next c s (Mark wanted) x y → R x y) → Same c line R NoStand (mark_at wanted line a) (mark_at wanted line b)
  unfolding mark_at
  mark_same {R} wanted s a b marked h = by a b (first c s a b marked)
    where
      by : (u v : List Token) → First c s u v → Same c line R NoStand (mark_at wanted line u) (mark_at wanted line v)
      by u v ends = syntax_both
      by u v stops = subst (λ (r : Result (List Token) RuleFault). Same c line R NoStand (Err (fault line TooMany)) r) (sym (mark_no_mark c.mark c.kind c.is_mark wanted line [])) (cut_told [])
      by u v (token (Mark found) x y text next) = tried (bytes_eq found wanted) refl
        where
          tried : (t : Bool) → bytes_eq found wanted ≡ t → Same c line R NoStand (cond t (Ok x) (Err (fault line Syntax))) (cond t (Ok y) (Err (fault line Syntax)))
          tried true e = read x y (h x y (subst (λ (m : List ℕ). Next c s (Mark m) x y) (same_word found wanted e) next))
          tried false e = syntax_both
      by u v (token t x y text next) = unexpected_both t x y text

  pub mark_met : (wanted : List ℕ) (rest : List Token) → Meets c line NoStand (mark_at wanted line (c.mark ∷ rest))
  mark_met wanted rest = subst (λ (r : Result (List Token) RuleFault). Meets c line NoStand r) (sym (mark_no_mark c.mark c.kind c.is_mark wanted line rest)) (mark_refused rest)

  -- `)`
  pub close_same : (pending : List Role) (a b : List Token) → length pending ≤ c.limits.nested → Marked c (at (Opens ∷ pending) true) a b → Same c line (Marked c (at (without_signs pending) true)) NoStand (mark_at (codes ")") line a) (mark_at (codes ")") line b)
  close_same pending a b deep marked = mark_same (codes ")") (at (Opens ∷ pending) true) a b marked (λ x y next. let less = fewer_signs pending in on (Mark (codes ")")) x y next tt refl (omega (arith, less, deep)) few)

  -- `(` goes one level of nesting further in, or passes the limit within the narrower limits
  pub data Opened (pending : List Role) (nesting : ℕ) : List Token → List Token → Type 0 where
    inside : (a b : List Token) → 1 ≤ nesting → Marked c (at (Opens ∷ pending) false) a b → Opened pending nesting a b
    too_deep : (a : List Token) → nesting ≡ 0 → Opened pending nesting a (c.mark ∷ a)

  pub opened : (pending : List Role) (nesting : ℕ) (p : Bool) (a b : List Token) → length pending + nesting ≡ c.limits.nested → Next c (at pending p) (Mark (codes "(")) a b → Opened pending nesting a b
  opened pending nesting p a b deep (passes rest no_name (bytes more) le) = absurd (omega (arith, more))
  opened pending nesting p a b deep (passes rest no_name (levels more) le) = too_deep rest (omega (arith, more, deep))
  opened pending nesting p a b deep (passes rest no_name (half more) le) = absurd (omega (arith, more, few))
  opened pending nesting p a b deep (passes_name text rest is_name ended long_ le) = absurd cc
  opened pending nesting p a b deep (goes_on x y kept more) = let most = kept.levels in inside x y (omega (arith, most, deep)) more

  pub open_same : (pending : List Role) (nesting : ℕ) (p : Bool) (a b : List Token) → length pending + nesting ≡ c.limits.nested → Marked c (at pending p) a b → Same c line (Opened pending nesting) NoStand (mark_at (codes "(") line a) (mark_at (codes "(") line b)
  open_same pending nesting p a b deep marked = mark_same (codes "(") (at pending p) a b marked (λ x y next. opened pending nesting p x y deep next)

  -- ---- what an operand begins with

  -- a function or a parenthesis, behind which more is nested
  abbrev pub IsEntered : Start → Type 0
  IsEntered Parenthesis = Unit {0}
  IsEntered (Call function) = Unit {0}
  IsEntered Width = Unit {0}
  IsEntered start = ⊥

  abbrev pub IsNested : Start → Type 0
  IsNested (Leaf node) = ⊥
  IsNested start = Unit {0}

  pub data Begun (pending : List Role) (nesting : ℕ) : Start × List Token → Start × List Token → Type 0 where
    leaf : (node : RawNode) (a b : List Token) → Marked c (at (without_signs pending) true) a b → Begun pending nesting (Leaf node, a) (Leaf node, b)
    signed : (function : Function) (a b : List Token) → 1 ≤ nesting → Marked c (at (Sign ∷ pending) false) a b → Begun pending nesting (Prefix function, a) (Prefix function, b)
    entered : (start : Start) (a b : List Token) → IsEntered start → 1 ≤ nesting → Marked c (at (Opens ∷ pending) false) a b → Begun pending nesting (start, a) (start, b)
    over_deep : (start : Start) (a rest : List Token) → IsNested start → nesting ≡ 0 → Begun pending nesting (start, a) (start, c.mark ∷ rest)

  abbrev StartSame : List Role → ℕ → Result (Start × List Token) RuleFault → Result (Start × List Token) RuleFault → Type 0
  StartSame pending nesting r q = Same c line (Begun pending nesting) Stand r q

  entered_same : (pending : List Role) (nesting : ℕ) (start : Start) (a b : List Token) → IsEntered start → IsNested start → Opened pending nesting a b → Begun pending nesting (start, a) (start, b)
  entered_same pending nesting start a b is nests (inside x y more marked) = entered start x y is more marked
  entered_same pending nesting start a b is nests (too_deep x none_) = over_deep start x x nests none_

  -- a name: too long within the narrower limits, or within both limits
  pub data NameRead (name : List ℕ) (pending : List Role) : List Token → List Token → Type 0 where
    too_long : (rest : List Token) → name_within c.limits line name ≡ Err (fault line TooMany) → name_within c.wider line name ≡ Ok name → NameRead name pending rest (c.mark ∷ rest)
    fine : (a b : List Token) → name_within c.limits line name ≡ Ok name → name_within c.wider line name ≡ Ok name → Marked c (at (without_signs pending) true) a b → NameRead name pending a b

  pub name_read : (pending : List Role) (t : Token) (name : List ℕ) (a b : List Token) → name_bytes t ≡ length name → IsOperand t pending a b → NameRead name pending a b
  name_read pending t name a b is (long rest more le) = too_long rest (long_name c.limits line name (omega (arith, more, is))) (short_name c.wider line name (omega (arith, le, is)))
  name_read pending t name a b is (short x y le marked) = let wide = c.name_bytes in fine x y (short_name c.limits line name (omega (arith, le, is))) (short_name c.wider line name (omega (arith, le, is, wide))) marked

  pub register_read : (pending : List Role) (p : Bool) (name : List ℕ) (a b : List Token) → length pending ≤ c.limits.nested → Next c (at pending p) (Register name) a b → NameRead name pending a b
  register_read pending p name a b deep next = name_read pending (Register name) name a b refl (operand pending p (Register name) a b deep tt refl next)

  pub word_read : (pending : List Role) (p : Bool) (word : List ℕ) (a b : List Token) → ends_primary kinds.Word word ≡ true → length pending ≤ c.limits.nested → Next c (at pending p) (Word word) a b → NameRead word pending a b
  word_read pending p word a b is deep next = name_read pending (Word word) word a b (rw is refl) (operand pending p (Word word) a b deep tt (rw is refl) next)

  -- a word that is no operand
  pub word_other : (pending : List Role) (p : Bool) (word : List ℕ) (a b : List Token) → ends_primary kinds.Word word ≡ false → length pending ≤ c.limits.nested → Next c (at pending p) (Word word) a b → Marked c (at pending false) a b
  word_other pending p word a b is deep next =
      let stepped : step (at pending p) (Word word) ≡ at pending false = rw is refl in
      subst (λ (s : State). Marked c s a b) stepped (on (Word word) a b next tt (rw is refl) (rw is deep) few)

  -- ---- the beginning of an operand

  sign_same : (pending : List Role) (nesting : ℕ) (function : Function) (m : List ℕ) (a b : List Token) → length pending + nesting ≡ c.limits.nested → mark_role false m ≡ Sign → Next c (at pending false) (Mark m) a b → Begun pending nesting (Prefix function, a) (Prefix function, b)
  sign_same pending nesting function m a b deep is (passes rest no_name (bytes more) le) = absurd (omega (arith, more))
  sign_same pending nesting function m a b deep is (passes rest no_name (levels more) le) =
      let same_levels : length (open_with (mark_role false m) pending) ≡ suc (length pending) = ap (λ (r : Role). length (open_with r pending)) is in
      over_deep (Prefix function) rest rest tt (omega (arith, more, same_levels, deep))
  sign_same pending nesting function m a b deep is (passes rest no_name (half more) le) = absurd (omega (arith, more, few))
  sign_same pending nesting function m a b deep is (passes_name text rest is_name ended long_ le) = absurd cc
  sign_same pending nesting function m a b deep is (goes_on x y kept more) =
      let same_levels : length (open_with (mark_role false m) pending) ≡ suc (length pending) = ap (λ (r : Role). length (open_with r pending)) is in
      let most = kept.levels in
      signed function x y (omega (arith, most, same_levels, deep)) (subst (λ (r : Role). Marked c (at (open_with r pending) (ends_operand r)) x y) is more)

  parenthesis_is : (found : List ℕ) → bytes_eq found (codes "(") ≡ true → opening_in found ≡ Some Parenthesis
  unfolding opening_in
  parenthesis_is found h = rw h refl

  minus_is : (found : List ℕ) → bytes_eq found (codes "(") ≡ false → bytes_eq found (codes "-") ≡ true → opening_in found ≡ Some (Prefix Negate)
  unfolding opening_in
  minus_is found g h = rw (g, h) refl

  tilde_is : (found : List ℕ) → bytes_eq found (codes "(") ≡ false → bytes_eq found (codes "-") ≡ false → bytes_eq found (codes "~") ≡ true → opening_in found ≡ Some (Prefix Not)
  unfolding opening_in
  tilde_is found f g h = rw (f, g, h) refl

  no_opening : (found : List ℕ) → bytes_eq found (codes "(") ≡ false → bytes_eq found (codes "-") ≡ false → bytes_eq found (codes "~") ≡ false → opening_in found ≡ None
  unfolding opening_in
  no_opening found f g h = rw (f, g, h) refl

  module _ (place : TermPlace) (pending : List Role) (nesting : ℕ) (deep : length pending + nesting ≡ c.limits.nested) where
    less : length pending ≤ c.limits.nested
    less = omega (arith, deep)

    opening_same : (found : List ℕ) (x y : List Token) → Next c (at pending false) (Mark found) x y → StartSame pending nesting (opening_at line (opening_in found) x) (opening_at line (opening_in found) y)
    opening_same found x y next = parenthesis (bytes_eq found (codes "(")) refl
      where
        known : (start : Start) → opening_in found ≡ Some start → Begun pending nesting (start, x) (start, y) → StartSame pending nesting (opening_at line (opening_in found) x) (opening_at line (opening_in found) y)
        known start is begun = rw is (read (start, x) (start, y) begun)

        tilde : (b : Bool) → bytes_eq found (codes "(") ≡ false → bytes_eq found (codes "-") ≡ false → bytes_eq found (codes "~") ≡ b → StartSame pending nesting (opening_at line (opening_in found) x) (opening_at line (opening_in found) y)
        tilde true f g h = known (Prefix Not) (tilde_is found f g h) (sign_same pending nesting Not (codes "~") x y deep refl (subst (λ (m : List ℕ). Next c (at pending false) (Mark m) x y) (same_word found (codes "~") h) next))
        tilde false f g h = rw (no_opening found f g h) syntax_both

        minus : (b : Bool) → bytes_eq found (codes "(") ≡ false → bytes_eq found (codes "-") ≡ b → StartSame pending nesting (opening_at line (opening_in found) x) (opening_at line (opening_in found) y)
        minus true f g = known (Prefix Negate) (minus_is found f g) (sign_same pending nesting Negate (codes "-") x y deep refl (subst (λ (m : List ℕ). Next c (at pending false) (Mark m) x y) (same_word found (codes "-") g) next))
        minus false f g = tilde (bytes_eq found (codes "~")) f g refl

        parenthesis : (b : Bool) → bytes_eq found (codes "(") ≡ b → StartSame pending nesting (opening_at line (opening_in found) x) (opening_at line (opening_in found) y)
        parenthesis true f = known Parenthesis (parenthesis_is found f) (entered_same pending nesting Parenthesis x y tt tt (opened pending nesting false x y deep (subst (λ (m : List ℕ). Next c (at pending false) (Mark m) x y) (same_word found (codes "(") f) next)))
        parenthesis false f = minus (bytes_eq found (codes "-")) f refl

    leaf_same : (name : List ℕ) (node : List ℕ → RawNode) (x y : List Token) → NameRead name pending x y
        → StartSame pending nesting (name_within c.limits line name >>= λ held. Ok (Leaf (node held), x)) (name_within c.wider line name >>= λ held. Ok (Leaf (node held), y))
    leaf_same name node x y (too_long rest e w) = rw (e, w) (stands (Leaf (node name), c.mark ∷ rest) (rest, refl))
    leaf_same name node x y (fine u v e w marked) = rw (e, w) (read (Leaf (node name), u) (Leaf (node name), v) (leaf (node name) u v marked))

    register_same : (p : TermPlace) (name : List ℕ) (x y : List Token) → NameRead name pending x y
        → StartSame pending nesting (register_in c.limits p line name >>= λ start. Ok (start, x)) (register_in c.wider p line name >>= λ start. Ok (start, y))
    register_same places.Constant name x y named = syntax_both
    register_same places.Witness name x y (too_long rest e w) = rw (e, w) (stands (Leaf (raw_nodes.Register name), c.mark ∷ rest) (rest, refl))
    register_same places.Witness name x y (fine u v e w marked) = rw (e, w) (read (Leaf (raw_nodes.Register name), u) (Leaf (raw_nodes.Register name), v) (leaf (raw_nodes.Register name) u v marked))

    called_same : (start : Start) → IsEntered start → IsNested start → (word : List ℕ) (x y : List Token) → ends_primary kinds.Word word ≡ false → Next c (at pending false) (Word word) x y
        → StartSame pending nesting (mark_at (codes "(") line x >>= λ behind. Ok (start, behind)) (mark_at (codes "(") line y >>= λ behind. Ok (start, behind))
    called_same start is nests word x y plain next =
        same_bind (open_same pending nesting false x y deep (word_other pending false word x y plain less next)) (λ u v o. read (start, u) (start, v) (entered_same pending nesting start u v is nests o)) (λ u never. absurd never)

    word_same : (word : List ℕ) (x y : List Token) → Next c (at pending false) (Word word) x y → (found : Option Meaning) → meaning_in place word ≡ found → StartSame pending nesting (word_at c.limits line word found x) (word_at c.wider line word found y)
    word_same word x y next None is = misplaced_both word
    word_same word x y next (Some meanings.Width) is = let w : word ≡ codes "width" = meaning_in-is place word meanings.Width is in called_same Width tt tt word x y (ap (ends_primary kinds.Word) w ∙ width_other) next
    word_same word x y next (Some (meanings.Call function)) is = called_same (Call function) tt tt word x y (called_other function word (meaning_in-is place word (meanings.Call function) is)) next
    word_same word x y next (Some meanings.Constant) is = leaf_same word (λ held. raw_nodes.Constant held) x y (word_read pending false word x y (constant_operand word (meaning_in-is place word meanings.Constant is)) less next)
    word_same word x y next (Some (meanings.Choice k)) is = leaf_same word (λ held. raw_nodes.Choice k) x y (word_read pending false word x y (choice_operand word k (meaning_in-is place word (meanings.Choice k) is).1) less next)

    pub start_same : (a b : List Token) → Marked c (at pending false) a b → StartSame pending nesting (start_at c.limits place line a) (start_at c.wider place line b)
    unfolding start_at
    start_same a b marked = by a b (first c (at pending false) a b marked)
      where
        number : (t : List ℕ) (x y : List Token) → IsOperand (Number t) pending x y → StartSame pending nesting (Ok (Leaf (raw_nodes.Literal (literal_value t)), x)) (Ok (Leaf (raw_nodes.Literal (literal_value t)), y))
        number t x y (long rest more le) = absurd (omega (arith, more))
        number t x y (short u v le behind) = read (Leaf (raw_nodes.Literal (literal_value t)), u) (Leaf (raw_nodes.Literal (literal_value t)), v) (leaf (raw_nodes.Literal (literal_value t)) u v behind)

        by : (u v : List Token) → First c (at pending false) u v → StartSame pending nesting (start_at c.limits place line u) (start_at c.wider place line v)
        by u v ends = syntax_both
        by u v stops = subst (λ (r : Result (Start × List Token) RuleFault). StartSame pending nesting (Err (fault line TooMany)) r) (sym (mark_starts c.mark c.kind c.is_mark c.wider place line [])) (cut_told [])
        by u v (token (Number t) x y text next) = number t x y (operand pending false (Number t) x y less tt refl next)
        by u v (token (Register name) x y text next) = register_same place name x y (register_read pending false name x y less next)
        by u v (token (Word word) x y text next) = word_same word x y next (meaning_in place word) refl
        by u v (token (Mark found) x y text next) = opening_same found x y next
        by u v (token t x y text next) = unexpected_both t x y text

  -- ---- operators of two operands

  -- an operand with the binary operators behind it
  abbrev pub OperandSame : List Role → Result (List RawNode × List Token) RuleFault → Result (List RawNode × List Token) RuleFault → Type 0
  OperandSame pending r q = Same c line (Behind pending true) Stand r q

  no_operator : (level : ℕ) (t : Token) (a b : List Token) → operator_at level (t ∷ a) ≡ None → operator_at level (t ∷ b) ≡ None
  unfolding operator_at
  no_operator level (Mark m) a b none_ = by (operator_in m) none_
    where
      test : (d : Bool) (op : Opcode) → cond {A = Option (Opcode × List Token)} d (Some (op, a)) None ≡ None → cond {A = Option (Opcode × List Token)} d (Some (op, b)) None ≡ None
      test true op e = absurd cc
      test false op e = refl

      by : (found : Option Opcode) → of_level level found a ≡ None → of_level level found b ≡ None
      by None e = refl
      by (Some op) e = test (eqb (level_of op) level) op e
  no_operator level t a b none_ = refl

  chain_left : (wide : Reader) (level : ℕ) (left_ : List RawNode) (rest : List Token) → whole_chain_at wide level left_ (c.mark ∷ rest) ≡ Ok (left_, c.mark ∷ rest)
  chain_left wide level left_ rest = chain-done c.wider wide level left_ (c.mark ∷ rest) (mark_operator c.mark c.kind c.is_mark level rest)

  module _ (pending : List Role) (narrow wide : Reader) (level : ℕ) (fewer : Shortens c.limits narrow) (shorter : Shortens c.wider wide)
      (each : (before : List RawNode) (a b : List Token) → Marked c (at pending false) a b → OperandSame pending (narrow before a) (wide before b)) where
    abbrev ChainSame : List RawNode → List Token → List Token → Type 0
    ChainSame before a b = OperandSame pending (whole_chain_at narrow (suc level) before a) (whole_chain_at wide (suc level) before b)

    chain_ends : (before : List RawNode) (a b : List Token) → operator_at (suc level) a ≡ None → operator_at (suc level) b ≡ None → Marked c (at pending true) a b → ChainSame before a b
    chain_ends before a b p q marked =
        rw (chain-done c.limits narrow (suc level) before a p, chain-done c.wider wide (suc level) before b q) (read (before, a) (before, b) (refl, marked))

    operator_next : (op : Opcode) (a b : List Token) → length pending ≤ c.limits.nested → Next c (at pending true) (Mark (operator_mark op)) a b → Marked c (at pending false) a b
    operator_next op a b deep next =
        let is = operator_role op in
        let same_levels : length (open_with (mark_role true (operator_mark op)) pending) ≡ length pending = ap (λ (r : Role). length (open_with r pending)) is in
        subst (λ (r : Role). Marked c (at (open_with r pending) (ends_operand r)) a b) is (on (Mark (operator_mark op)) a b next tt refl (omega (arith, same_levels, deep)) few)

    -- one operator with its right operand
    chain_step : (op : Opcode) (before : List RawNode) (a b : List Token) → level_of op ≡ suc level → Marked c (at pending false) a b
        → ((after : List RawNode) (x y : List Token) → length x < length a → Marked c (at pending true) x y → ChainSame after x y)
        → ChainSame before (Mark (operator_mark op) ∷ a) (Mark (operator_mark op) ∷ b)
    chain_step op before a b of marked further = by (narrow before a) (wide before b) refl refl (each before a b marked)
      where
        found_a : operator_at (suc level) (Mark (operator_mark op) ∷ a) ≡ Some (op, a)
        found_a = operator_at-of level op a of

        found_b : operator_at (suc level) (Mark (operator_mark op) ∷ b) ≡ Some (op, b)
        found_b = operator_at-of level op b of

        by : (r q : Result (List RawNode × List Token) RuleFault) → narrow before a ≡ r → wide before b ≡ q → OperandSame pending r q → ChainSame before (Mark (operator_mark op) ∷ a) (Mark (operator_mark op) ∷ b)
        by r q e f (read x y (same_nodes, behind)) =
            let less : length x.1 < length a = fewer before a x e in
            rw (chain-more c.limits narrow (suc level) before (Mark (operator_mark op) ∷ a) (op, a) x fewer found_a e, chain-more c.wider wide (suc level) before (Mark (operator_mark op) ∷ b) (op, b) y shorter found_b f)
            (subst (λ (ns : List RawNode). OperandSame pending (whole_chain_at narrow (suc level) (join op before x.0) x.1) (whole_chain_at wide (suc level) (join op before ns) y.1)) same_nodes (further (join op before x.0) x.1 y.1 less behind))
        by r q e f (failed g other) =
            rw (chain-fault c.limits narrow (suc level) before (Mark (operator_mark op) ∷ a) (op, a) _ (Refused g) found_a e refl, chain-fault c.wider wide (suc level) before (Mark (operator_mark op) ∷ b) (op, b) _ (Refused g) found_b f refl)
            (failed g other)
        by r q e f told =
            rw (chain-fault c.limits narrow (suc level) before (Mark (operator_mark op) ∷ a) (op, a) _ (Refused (fault line TooMany)) found_a e refl, chain-fault c.wider wide (suc level) before (Mark (operator_mark op) ∷ b) (op, b) _ (Refused (fault line c.kind)) found_b f refl)
            told
        by r q e f (stands y (rest, is)) =
            rw (chain-fault c.limits narrow (suc level) before (Mark (operator_mark op) ∷ a) (op, a) _ (Refused (fault line TooMany)) found_a e refl, chain-more c.wider wide (suc level) before (Mark (operator_mark op) ∷ b) (op, b) y shorter found_b f)
            (rw (is, chain_left wide (suc level) (join op before y.0) rest) (stands (join op before y.0, c.mark ∷ rest) (rest, refl)))

    chain_same : (fuel : ℕ) (before : List RawNode) (a b : List Token) → length a < fuel → length pending ≤ c.limits.nested → Marked c (at pending true) a b → ChainSame before a b
    chain_same zero before a b few_ deep marked = absurd (omega (arith, few_))
    chain_same (suc fuel) before a b few_ deep marked = by a b few_ marked (first c (at pending true) a b marked) (λ after u v less more. chain_same fuel after u v less deep more)
      where
        found : (t : Token) (x y : List Token) → length (t ∷ x) < suc fuel → Marked c (at pending true) (t ∷ x) (t ∷ y) → Next c (at pending true) t x y → ((after : List RawNode) (u v : List Token) → length u < fuel → Marked c (at pending true) u v → ChainSame after u v)
            → (o : Option (Opcode × List Token)) → operator_at (suc level) (t ∷ x) ≡ o → ChainSame before (t ∷ x) (t ∷ y)
        found t x y small whole next again None e = chain_ends before (t ∷ x) (t ∷ y) e (no_operator (suc level) t x y e) whole
        found t x y small whole next again (Some o) e =
            let n = operator_at-is (suc level) (t ∷ x) o e in
            let is : t ≡ Mark (operator_mark o.0) = let h = n.whole in cc in
            subst (λ (u : Token). ChainSame before (u ∷ x) (u ∷ y)) (sym is)
            (chain_step o.0 before x y n.is_level (operator_next o.0 x y deep (subst (λ (u : Token). Next c (at pending true) u x y) is next))
            (λ after u v less more. again after u v (omega (arith, less, small)) more))

        by : (u v : List Token) → length u < suc fuel → Marked c (at pending true) u v → First c (at pending true) u v → ((after : List RawNode) (x y : List Token) → length x < fuel → Marked c (at pending true) x y → ChainSame after x y) → ChainSame before u v
        by u v small whole ends again = chain_ends before [] [] (operator_end (suc level)) (operator_end (suc level)) whole
        by u v small whole stops again = chain_ends before (Excess ∷ []) (c.mark ∷ []) (mark_operator Excess TooMany excess (suc level) []) (mark_operator c.mark c.kind c.is_mark (suc level) []) whole
        by u v small whole (token t x y text next) again = found t x y small whole next again (operator_at (suc level) (t ∷ x)) refl

  -- ---- binary operators behind an operand

  -- two parsers of operands, within the narrower and the wider limits, that read the same of the tokens with and
  -- without the sentinel
  pub record Primaries (pending : List Role) (narrow wide : Reader) : Type 0 where
    pub fewer : (level : ℕ) → Shortens c.limits (operand_at narrow level)
    pub shorter : (level : ℕ) → Shortens c.wider (operand_at wide level)
    pub each : (before : List RawNode) (a b : List Token) → Marked c (at pending false) a b → OperandSame pending (narrow before a) (wide before b)

  behind_left : (wide : Reader) (level : ℕ) (before : List RawNode) (rest : List Token) → behind_at wide level before (c.mark ∷ rest) ≡ Ok (before, c.mark ∷ rest)
  unfolding behind_at
  behind_left wide zero before rest = refl
  behind_left wide (suc level) before rest = rw (behind_left wide level before rest) (chain_left (λ ns ts. wide ns ts >>= λ x. behind_at wide level x.0 x.1) (suc level) before rest)

  behind_same : (pending : List Role) (narrow wide : Reader) → Primaries pending narrow wide → length pending ≤ c.limits.nested → (level : ℕ) (before : List RawNode) (a b : List Token) → Marked c (at pending true) a b → OperandSame pending (behind_at narrow level before a) (behind_at wide level before b)
  unfolding behind_at
  behind_same pending narrow wide both deep zero before a b marked = read (before, a) (before, b) (refl, marked)
  behind_same pending narrow wide both deep (suc level) before a b marked =
      same_bind (behind_same pending narrow wide both deep level before a b marked)
      (λ x y is. subst (λ (ns : List RawNode). OperandSame pending (whole_chain_at (operand_at narrow level) (suc level) x.0 x.1) (whole_chain_at (operand_at wide level) (suc level) ns y.1)) is.0
      (chain_same pending (operand_at narrow level) (operand_at wide level) level (both.fewer level) (both.shorter level)
      (λ ns s t more. same_bind (both.each ns s t more)
      (λ u v same_. subst (λ (ms : List RawNode). OperandSame pending (behind_at narrow level u.0 u.1) (behind_at wide level ms v.1)) same_.0 (behind_same pending narrow wide both deep level u.0 u.1 v.1 same_.1))
      (λ v s_. rw (s_.1, behind_left wide level v.0 s_.0) (left (v.0, c.mark ∷ s_.0) (s_.0, refl))))
      (suc (length x.1)) x.0 x.1 y.1 (omega arith) deep is.1))
      (λ y s_. rw (s_.1, chain_left (operand_at wide level) (suc level) y.0 s_.0) (left (y.0, c.mark ∷ s_.0) (s_.0, refl)))

  operand_same : (pending : List Role) (narrow wide : Reader) → Primaries pending narrow wide → length pending ≤ c.limits.nested → (level : ℕ) (before : List RawNode) (a b : List Token) → Marked c (at pending false) a b → OperandSame pending (operand_at narrow level before a) (operand_at wide level before b)
  operand_same pending narrow wide both deep level before a b marked =
      same_bind (both.each before a b marked)
      (λ u v same_. subst (λ (ms : List RawNode). OperandSame pending (behind_at narrow level u.0 u.1) (behind_at wide level ms v.1)) same_.0 (behind_same pending narrow wide both deep level u.0 u.1 v.1 same_.1))
      (λ v s_. rw (s_.1, behind_left wide level v.0 s_.0) (left (v.0, c.mark ∷ s_.0) (s_.0, refl)))

  -- ---- operands one level of nesting further in

  -- the parser has the sentinel's fault where that comes first
  abbrev pub Refuses : Reader → Type 0
  Refuses wide = (before : List RawNode) (rest : List Token) → wide before (c.mark ∷ rest) ≡ Err (fault line c.kind)

  primary_refuses : (place : TermPlace) (m : ℕ) → Refuses (primary_at c.wider place line m)
  unfolding primary_at
  primary_refuses place zero before rest = rw (mark_starts c.mark c.kind c.is_mark c.wider place line rest, mark_told c line rest) refl
  primary_refuses place (suc m) before rest = rw (mark_starts c.mark c.kind c.is_mark c.wider place line rest, mark_told c line rest) refl

  operand_refuses : (wide : Reader) → Refuses wide → (level : ℕ) (before : List RawNode) (rest : List Token) → operand_at wide level before (c.mark ∷ rest) ≡ Err (fault line c.kind)
  operand_refuses wide none_ level before rest = rw (none_ before rest) refl

  begun_refuses : (wide : Reader) → Refuses wide → (before : List RawNode) (start : Start) → IsNested start → (rest : List Token) → begun_at c.wider line wide before start (c.mark ∷ rest) ≡ Err (fault line c.kind)
  begun_refuses wide none_ before (Leaf node) nests rest = absurd nests
  begun_refuses wide none_ before (Prefix function) nests rest = rw (none_ before rest) refl
  begun_refuses wide none_ before Parenthesis nests rest = rw (none_ before rest) refl
  begun_refuses wide none_ before (Call function) nests rest = rw (none_ before rest) refl
  begun_refuses wide none_ before Width nests rest = rw (mark_measured c.mark c.kind c.is_mark c.wider line rest, mark_told c line rest) refl

  shallow_told : (start : Start) → IsNested start → (before : List RawNode) → shallow_in line before start ≡ Err (fault line TooMany)
  shallow_told (Leaf node) nests before = absurd nests
  shallow_told (Prefix function) nests before = refl
  shallow_told Parenthesis nests before = refl
  shallow_told (Call function) nests before = refl
  shallow_told Width nests before = refl

  -- in parentheses
  inside_same : (pending : List Role) (narrow wide : Reader) → Primaries (Opens ∷ pending) narrow wide → suc (length pending) ≤ c.limits.nested → (before : List RawNode) (a b : List Token) → Marked c (at (Opens ∷ pending) false) a b → OperandSame (without_signs pending) (inside_at line narrow before a) (inside_at line wide before b)
  inside_same pending narrow wide both deep before a b marked =
      same_bind (operand_same (Opens ∷ pending) narrow wide both (omega (arith, deep)) loosest before a b marked)
      (λ x y is. same_bind (close_same pending x.1 y.1 (omega (arith, deep)) is.1) (λ u v more. read (x.0, u) (y.0, v) (is.0, more)) (λ u never. absurd never))
      (λ y s_. rw s_.1 (meets_bind (mark_met (codes ")") s_.0) (λ u never. absurd never)))

  measured_same : (pending : List Role) (a b : List Token) → suc (length pending) ≤ c.limits.nested → Marked c (at (Opens ∷ pending) false) a b → Same c line (Behind {A = List ℕ} (without_signs pending) true) Stand (measured_at c.limits line a) (measured_at c.wider line b)
  unfolding measured_at
  measured_same pending a b deep marked = by a b (first c (at (Opens ∷ pending) false) a b marked)
    where
      register : (name : List ℕ) (x y : List Token) → NameRead name (Opens ∷ pending) x y → Same c line (Behind {A = List ℕ} (without_signs pending) true) Stand (measured_at c.limits line (Register name ∷ x)) (measured_at c.wider line (Register name ∷ y))
      register name x y (too_long rest e w) = rw (e, w) (met (meets_bind (mark_met (codes ")") rest) (λ u never. absurd never)))
      register name x y (fine u v e w more) = rw (e, w) (same_bind (close_same pending u v (omega (arith, deep)) more) (λ s t behind. read (name, s) (name, t) (refl, behind)) (λ u never. absurd never))

      by : (u v : List Token) → First c (at (Opens ∷ pending) false) u v → Same c line (Behind {A = List ℕ} (without_signs pending) true) Stand (measured_at c.limits line u) (measured_at c.wider line v)
      by u v ends = syntax_both
      by u v stops = subst (λ (r : Result (List ℕ × List Token) RuleFault). Same c line (Behind {A = List ℕ} (without_signs pending) true) Stand (Err (fault line TooMany)) r) (sym (mark_measured c.mark c.kind c.is_mark c.wider line [])) (cut_told [])
      by u v (token (Register name) x y text next) = register name x y (register_read (Opens ∷ pending) false name x y (omega (arith, deep)) next)
      by u v (token t x y text next) = unexpected_both t x y text

  -- the parsers of operands with this much nesting left
  pub record Reads (nesting : ℕ) (narrow wide : Reader) : Type 0 where
    pub fewer : (level : ℕ) → Shortens c.limits (operand_at narrow level)
    pub shorter : (level : ℕ) → Shortens c.wider (operand_at wide level)
    pub refuses : Refuses wide
    pub each : (pending : List Role) → length pending + nesting ≡ c.limits.nested → (before : List RawNode) (a b : List Token) → Marked c (at pending false) a b → OperandSame (without_signs pending) (narrow before a) (wide before b)

  -- where no unary operator is on top of the stack
  unsigned : (nesting : ℕ) (narrow wide : Reader) → Reads nesting narrow wide → (pending : List Role) → without_signs pending ≡ pending → length pending + nesting ≡ c.limits.nested → Primaries pending narrow wide
  unsigned nesting narrow wide both pending is deep = record {
    fewer = both.fewer;
    shorter = both.shorter;
    each = λ before a b marked. subst (λ (o : List Role). OperandSame o (narrow before a) (wide before b)) is (both.each pending deep before a b marked);
  }

  begun_same : (pending : List Role) (nesting : ℕ) (narrow wide : Reader) → Reads nesting narrow wide → length pending + suc nesting ≡ c.limits.nested → (before : List RawNode) (s t : Start × List Token) → Begun pending (suc nesting) s t
      → OperandSame (without_signs pending) (begun_at c.limits line narrow before s.0 s.1) (begun_at c.wider line wide before t.0 t.1)
  begun_same pending nesting narrow wide both deep before s t (leaf node a b marked) = read (before ++ node ∷ [], a) (before ++ node ∷ [], b) (refl, marked)
  begun_same pending nesting narrow wide both deep before s t (signed function a b more marked) =
      same_bind (both.each (Sign ∷ pending) (omega (arith, deep)) before a b marked) (λ x y same_. read (add_unary function x.0, x.1) (add_unary function y.0, y.1) (ap (add_unary function) same_.0, same_.1)) (λ y s_. left (add_unary function y.0, y.1) s_)
  begun_same pending nesting narrow wide both deep before s t (entered Parenthesis a b is more marked) =
      inside_same pending narrow wide (unsigned nesting narrow wide both (Opens ∷ pending) refl (omega (arith, deep))) (omega (arith, deep)) before a b marked
  begun_same pending nesting narrow wide both deep before s t (entered (Call function) a b is more marked) =
      same_bind (inside_same pending narrow wide (unsigned nesting narrow wide both (Opens ∷ pending) refl (omega (arith, deep))) (omega (arith, deep)) before a b marked)
      (λ x y same_. read (add_unary function x.0, x.1) (add_unary function y.0, y.1) (ap (add_unary function) same_.0, same_.1)) (λ y s_. left (add_unary function y.0, y.1) s_)
  begun_same pending nesting narrow wide both deep before s t (entered Width a b is more marked) =
      same_bind (measured_same pending a b (omega (arith, deep)) marked) (λ x y same_. read (before ++ raw_nodes.Width x.0 ∷ [], x.1) (before ++ raw_nodes.Width y.0 ∷ [], y.1) (ap (λ (n : List ℕ). before ++ raw_nodes.Width n ∷ []) same_.0, same_.1))
      (λ y s_. left (before ++ raw_nodes.Width y.0 ∷ [], y.1) s_)
  begun_same pending nesting narrow wide both deep before s t (entered (Leaf node) a b is more marked) = absurd is
  begun_same pending nesting narrow wide both deep before s t (entered (Prefix function) a b is more marked) = absurd is
  begun_same pending nesting narrow wide both deep before s t (over_deep start a rest nests none_) = absurd (omega (arith, none_))

  begun_meets : (wide : Reader) → Refuses wide → (before : List RawNode) (start : Start) (rest : List Token) → Meets c line (Stand {A = List RawNode}) (begun_at c.wider line wide before start (c.mark ∷ rest))
  begun_meets wide none_ before (Leaf node) rest = left (before ++ node ∷ [], c.mark ∷ rest) (rest, refl)
  begun_meets wide none_ before (Prefix function) rest = rw (none_ before rest) refused
  begun_meets wide none_ before Parenthesis rest = rw (none_ before rest) refused
  begun_meets wide none_ before (Call function) rest = rw (none_ before rest) refused
  begun_meets wide none_ before Width rest = rw (mark_measured c.mark c.kind c.is_mark c.wider line rest, mark_told c line rest) refused

  start_meets : (wide : Reader) → Refuses wide → (before : List RawNode) (y : Start × List Token) → Stand y → Meets c line (Stand {A = List RawNode}) (begun_at c.wider line wide before y.0 y.1)
  start_meets wide none_ before y (rest, is) = subst (λ (ts : List Token). Meets c line (Stand {A = List RawNode}) (begun_at c.wider line wide before y.0 ts)) (sym is) (begun_meets wide none_ before y.0 rest)

  -- where no level of nesting is left
  shallow_same : (pending : List Role) (wide : Reader) → Refuses wide → (before : List RawNode) (s t : Start × List Token) → Begun pending 0 s t
      → OperandSame (without_signs pending) (shallow_in line before s.0 >>= λ nodes. Ok (nodes, s.1)) (begun_at c.wider line wide before t.0 t.1)
  shallow_same pending wide none_ before s t (leaf node a b marked) = read (before ++ node ∷ [], a) (before ++ node ∷ [], b) (refl, marked)
  shallow_same pending wide none_ before s t (signed function a b more marked) = absurd (omega (arith, more))
  shallow_same pending wide none_ before s t (entered start a b is more marked) = absurd (omega (arith, more))
  shallow_same pending wide none_ before s t (over_deep start a rest nests zero_) = rw (shallow_told start nests before, begun_refuses wide none_ before start nests rest) told

  pub primary_same : (place : TermPlace) (n m : ℕ) → n < m → Reads n (primary_at c.limits place line n) (primary_at c.wider place line m)
  unfolding primary_at
  primary_same place n m less = record {
    fewer = λ level. operand_shorter c.limits place line n level;
    shorter = λ level. operand_shorter c.wider place line m level;
    refuses = primary_refuses place m;
    each = λ pending deep before a b marked. by n m less pending deep before a b marked;
  }
    where
      by : (n m : ℕ) → n < m → (pending : List Role) → length pending + n ≡ c.limits.nested → (before : List RawNode) (a b : List Token) → Marked c (at pending false) a b → OperandSame (without_signs pending) (primary_at c.limits place line n before a) (primary_at c.wider place line m before b)
      by n zero less pending deep before a b marked = absurd (omega (arith, less))
      by zero (suc m) less pending deep before a b marked =
          same_bind (start_same place pending zero deep a b marked) (λ s t begun. shallow_same pending (λ ns ts. primary_at c.wider place line m ns ts) (primary_refuses place m) before s t begun)
          (λ y s_. start_meets (λ ns ts. primary_at c.wider place line m ns ts) (primary_refuses place m) before y s_)
      by (suc n) (suc m) less pending deep before a b marked =
          same_bind (start_same place pending (suc n) deep a b marked)
          (λ s t begun. begun_same pending n (λ ns ts. primary_at c.limits place line n ns ts) (λ ns ts. primary_at c.wider place line m ns ts)
          (record {
            fewer = λ level. operand_shorter c.limits place line n level;
            shorter = λ level. operand_shorter c.wider place line m level;
            refuses = primary_refuses place m;
            each = λ o d before_ u v more. by n m (omega (arith, less)) o d before_ u v more;
          }) deep before s t begun)
          (λ y s_. start_meets (λ ns ts. primary_at c.wider place line m ns ts) (primary_refuses place m) before y s_)

  -- ---- terms

  pub term_same : (place : TermPlace) (n m : ℕ) → n < m → (pending : List Role) → without_signs pending ≡ pending → length pending + n ≡ c.limits.nested → (a b : List Token) → Marked c (at pending false) a b → OperandSame pending (term_at c.limits place n line a) (term_at c.wider place m line b)
  unfolding term_at
  term_same place n m less pending is deep a b marked =
      operand_same pending (primary_at c.limits place line n) (primary_at c.wider place line m) (unsigned n (primary_at c.limits place line n) (primary_at c.wider place line m) (primary_same place n m less) pending is deep) (omega (arith, deep)) loosest [] a b marked

  -- the sentinel comes first
  pub term_refuses : (place : TermPlace) (m : ℕ) (rest : List Token) → term_at c.wider place m line (c.mark ∷ rest) ≡ Err (fault line c.kind)
  unfolding term_at
  term_refuses place m rest = operand_refuses (primary_at c.wider place line m) (primary_refuses place m) loosest [] rest
