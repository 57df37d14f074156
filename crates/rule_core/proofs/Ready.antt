-- Each statement of a rule, and each node of its terms, can be evaluated once those before it have been.
use Rattle.rule_core.proofs.Common.{◌≡◌, ℕ, pos, ◌+◌, ◌<◌, List, [], ◌∷◌, ◌++◌, length, take, Option, Some, Bool, subst, refl, sym, ◌∙◌, arith, get_or, slice_get, Contains, take_all, slice_get-get_or, slice_get_within, get_or_from_slice_get, same_Some, Number, IsValueOf, CastFits, Flags, Cast, Trunc, ZExt, SExt, Value, Poison, Bits, Rule, Statement, Op, Binary, Compare, Unary, Select, Convert, Freeze, Copy, Operand, Argument, Term, Node, operands_of, operands_in, classes_of, choices_of, IsStatementOf, IsOperandAmong, Names, reads, reads_constant, source_assigns, target_assigns, term_constant, binary_left, binary_right, compared, one_operand, select_true, select_false, freeze, copy, name, term, operand, left, right, condition, truth, truncated, zero_extended, sign_extended, IsTyping, IsRule, SourceMayRead, TargetMayRead, MayBeTerm, FlagsFitOp, Held, Given, InputsFit, ConstantsFit, of_constants, values_of, constant_values, ChoiceIsReady, ArgumentIsReady, OpIsReady, StatementIsReady, ValuesFit, HeldFits, TermsFit, GivenFits, NodeIsReady, TermIsReady}
use Rattle.rule_core.specs.declared.rule.Argument.TheVariants as arguments
use Rattle.rule_core.specs.declared.rule.Register.TheVariants as registers
use Rattle.rule_core.specs.declared.rule.Name.TheVariants as names
use Rattle.rule_core.specs.declared.rule.Node.TheVariants as nodes
use Rattle.rule_core.specs.Positions.{unary, comparison}
use Rattle.rule_core.proofs.Members.{Contains-from_get, Contains-flat_map, source_statement, target_statement, operand_stands, class_stands, operand_class_stands, term_class_stands, measured_class_stands, constant_term, freeze_chosen, statement_open, operand_open}
use Rattle.rule_core.proofs.Fits.{NodeFits, Fit-none, Fit-push, first_fit, first_length, all_fit}

-- each class has a width
pub class_width : (rule : Rule) (typing : List ℕ) (c : ℕ) → IsTyping rule typing → Contains (classes_of rule) c → (N : ℕ) × (slice_get typing c ≡ Some N)
class_width rule typing c typed stands = (get_or typing c 0, slice_get-get_or typing c 0 (typed.classes c stands))

-- a constant has the width of each position that names it
pub constant_ready : (rule : Rule) (typing : List ℕ) (constants : List Number) (k c N : ℕ) → ConstantsFit rule typing constants → Names rule (names.Constant k) c → slice_get typing c ≡ Some N → k < length rule.constants
    → (n : Number) × (slice_get constants k ≡ Some n) × IsValueOf N (Bits n)
constant_ready rule typing constants k c N fits named width within =
    let zero_bits : Number = record { width = 0; number = 0 } in
    let n : Number = get_or constants k zero_bits in
    let at : slice_get constants k ≡ Some n = slice_get-get_or constants k zero_bits (omega (arith, fits.count)) in
    (n, at, fits.widths k c N n named width at)

-- what a register, a constant or a term gives has the width of each position that names it
module _ (rule : Rule) (typing : List ℕ) (half : List Statement) (given : Given) (held : Held) (typed : IsTyping rule typing) (given_fits : GivenFits rule typing half given) (fits : HeldFits rule typing held) (o : Operand) (N : ℕ) (stands : Contains (operands_in rule) o) (width : slice_get typing o.class ≡ Some N) where
  read_input : (i : ℕ) → o.value ≡ arguments.Register (registers.Input i) → i < length held.inputs → ArgumentIsReady given held N (arguments.Register (registers.Input i))
  read_input i is within =
      let v : Value = get_or held.inputs i Poison in
      let at : slice_get held.inputs i ≡ Some v = slice_get-get_or held.inputs i Poison within in
      (v, at, fits.inputs.widths i o.class N v (reads stands is) width at)

  read_source : (j : ℕ) (s : Statement) → o.value ≡ arguments.Register (registers.Source j) → slice_get rule.source j ≡ Some s → j < length held.source → ArgumentIsReady given held N (arguments.Register (registers.Source j))
  read_source j s is there within =
      let v : Value = get_or held.source j Poison in
      let at : slice_get held.source j ≡ Some v = slice_get-get_or held.source j Poison within in
      let same = typed.same s.class o.class (name {n = names.Register (registers.Source j)} (source_assigns there) (reads stands is)) in
      (v, at, fits.source j s v N there at (same ∙ width))

  read_target : (j : ℕ) (s : Statement) → o.value ≡ arguments.Register (registers.Target j) → slice_get rule.target j ≡ Some s → j < length held.target → ArgumentIsReady given held N (arguments.Register (registers.Target j))
  read_target j s is there within =
      let v : Value = get_or held.target j Poison in
      let at : slice_get held.target j ≡ Some v = slice_get-get_or held.target j Poison within in
      let same = typed.same s.class o.class (name {n = names.Register (registers.Target j)} (target_assigns there) (reads stands is)) in
      (v, at, fits.target j s v N there at (same ∙ width))

  read_term : (n : ℕ) → o.value ≡ arguments.Term n → n < length rule.terms → ArgumentIsReady given held N (arguments.Term n)
  read_term n is within =
      let literal : Term = record { class = 0; node = nodes.Literal (pos 0) } in
      let t : Term = get_or rule.terms n literal in
      let there : slice_get rule.terms n ≡ Some t = slice_get-get_or rule.terms n literal within in
      let v : Value = get_or given.terms n Poison in
      let at : slice_get given.terms n ≡ Some v = slice_get-get_or given.terms n Poison (omega (arith, given_fits.terms.0)) in
      let same : slice_get typing o.class ≡ slice_get typing t.class = typed.same o.class t.class (operand stands is there) in
      (v, at, given_fits.terms.1 n t v N there at (sym same ∙ width))

  -- `true` and `false` have the width 1
  truth_width : (b : Bool) → o.value ≡ arguments.Truth b → N ≡ 1
  truth_width b is = same_Some N 1 (sym width ∙ typed.fixed o.class 1 (truth stands is))

  -- what source statement k may read has a value once the statements before it have run
  source_argument : (k : ℕ) (s : Statement) (x : Argument) → k < length rule.source → length held.source ≡ k → IsOperandAmong half o → o.value ≡ x → SourceMayRead rule k x → ArgumentIsReady given held N x
  source_argument k s (arguments.Register (registers.Input i)) within so_far among is may = read_input i is (omega (arith, fits.inputs.count))
  source_argument k s (arguments.Register (registers.Source j)) within so_far among is may =
      read_source j (get_or rule.source j s) is (slice_get-get_or rule.source j s (omega arith)) (omega arith)
  source_argument k s (arguments.Register (registers.Target j)) within so_far among is may = absurd may
  source_argument k s (arguments.Literal z) within so_far among is may = tt
  source_argument k s (arguments.Truth b) within so_far among is may = truth_width b is
  source_argument k s (arguments.Constant j) within so_far among is may = constant_ready rule typing given.constants j o.class N given_fits.constants (reads_constant stands is) width may
  source_argument k s (arguments.Undef j) within so_far among is may = given_fits.choices j o.class N (operand_open half o j among is) width
  source_argument k s (arguments.Term n) within so_far among is may = absurd may

  -- and what target statement k may, once the source's temporaries and the target statements before it have
  target_argument : (k : ℕ) (s : Statement) (x : Argument) → k < length rule.target → length held.source + 1 ≡ length rule.source → length held.target ≡ k → IsOperandAmong half o → o.value ≡ x → TargetMayRead rule k x → ArgumentIsReady given held N x
  target_argument k s (arguments.Register (registers.Input i)) within before so_far among is may = read_input i is (omega (arith, fits.inputs.count))
  target_argument k s (arguments.Register (registers.Source j)) within before so_far among is may =
      read_source j (get_or rule.source j s) is (slice_get-get_or rule.source j s (omega arith)) (omega arith)
  target_argument k s (arguments.Register (registers.Target j)) within before so_far among is may =
      read_target j (get_or rule.target j s) is (slice_get-get_or rule.target j s (omega arith)) (omega arith)
  target_argument k s (arguments.Literal z) within before so_far among is may = tt
  target_argument k s (arguments.Truth b) within before so_far among is may = truth_width b is
  target_argument k s (arguments.Constant j) within before so_far among is may = constant_ready rule typing given.constants j o.class N given_fits.constants (reads_constant stands is) width may
  target_argument k s (arguments.Undef j) within before so_far among is may = given_fits.choices j o.class N (operand_open half o j among is) width
  target_argument k s (arguments.Term n) within before so_far among is may = read_term n is may

-- every operand of the operation can be read
AllReady : List ℕ → Given → Held → Op → Type 0
AllReady typing given held op = (o : Operand) (N : ℕ) → Contains (operands_of op) o → slice_get typing o.class ≡ Some N → ArgumentIsReady given held N o.value

-- every choice of the statement has a number
AllChosen : List ℕ → Given → Statement → Type 0
AllChosen typing given s = (k c N : ℕ) → Contains (choices_of s) (record { place = k; class = c }) → slice_get typing c ≡ Some N → ChoiceIsReady given N k

cast_fits : (rule : Rule) (typing : List ℕ) (s : Statement) (a : Operand) (to : Option ℕ) (cast : Cast) (flags : Flags) (M N : ℕ) → IsTyping rule typing → IsStatementOf rule s → s.op ≡ Convert cast flags a to → slice_get typing a.class ≡ Some M → slice_get typing s.class ≡ Some N → CastFits cast M N
cast_fits rule typing s a to Trunc flags M N typed stands is from width = typed.smaller s.class a.class N M (truncated stands is) width from
cast_fits rule typing s a to ZExt flags M N typed stands is from width = typed.smaller a.class s.class M N (zero_extended stands is) from width
cast_fits rule typing s a to SExt flags M N typed stands is from width = typed.smaller a.class s.class M N (sign_extended stands is) from width

op_ready : (rule : Rule) (typing : List ℕ) (given : Given) (held : Held) (s : Statement) (N : ℕ) (op : Op) → IsTyping rule typing → IsStatementOf rule s → slice_get typing s.class ≡ Some N → s.op ≡ op → FlagsFitOp op → AllReady typing given held op → AllChosen typing given s → OpIsReady typing given held N op
unfolding AllReady AllChosen
op_ready rule typing given held s N (Binary op flags a b) typed stands width is fit ready chosen =
    let left : slice_get typing a.class ≡ Some N = sym (typed.same s.class a.class (binary_left stands is)) ∙ width in
    let right : slice_get typing b.class ≡ Some N = sym (typed.same s.class b.class (binary_right stands is)) ∙ width in
    (fit, (left, ready a N (Contains-from_get (a ∷ b ∷ []) 0 a refl) left), (right, ready b N (Contains-from_get (a ∷ b ∷ []) 1 b refl) right))
op_ready rule typing given held s N (Compare pred samesign a b) typed stands width is fit ready chosen =
    let M = class_width rule typing a.class typed (operand_class_stands rule s a stands (subst (λ op. Contains (operands_of op) a) (sym is) (Contains-from_get (a ∷ b ∷ []) 0 a refl))) in
    let right : slice_get typing b.class ≡ Some M.0 = sym (typed.same a.class b.class (compared stands is)) ∙ M.1 in
    let one : N ≡ 1 = same_Some N 1 (sym width ∙ typed.fixed s.class 1 (comparison stands is)) in
    (M.0, (M.1, ready a M.0 (Contains-from_get (a ∷ b ∷ []) 0 a refl) M.1), (right, ready b M.0 (Contains-from_get (a ∷ b ∷ []) 1 b refl) right), one)
op_ready rule typing given held s N (Unary op truth_value a) typed stands width is fit ready chosen =
    let same : slice_get typing a.class ≡ Some N = sym (typed.same s.class a.class (one_operand stands is)) ∙ width in
    (same, ready a N (Contains-from_get (a ∷ []) 0 a refl) same)
op_ready rule typing given held s N (Select c a b) typed stands width is fit ready chosen =
    let one : slice_get typing c.class ≡ Some 1 = typed.fixed c.class 1 (condition stands is) in
    let yes : slice_get typing a.class ≡ Some N = sym (typed.same s.class a.class (select_true stands is)) ∙ width in
    let no : slice_get typing b.class ≡ Some N = sym (typed.same s.class b.class (select_false stands is)) ∙ width in
    let among = c ∷ a ∷ b ∷ [] in (
      (one, ready c 1 (Contains-from_get among 0 c refl) one),
      (yes, ready a N (Contains-from_get among 1 a refl) yes),
      (no, ready b N (Contains-from_get among 2 b refl) no),
    )
op_ready rule typing given held s N (Convert cast flags a to) typed stands width is fit ready chosen =
    let M = class_width rule typing a.class typed (operand_class_stands rule s a stands (subst (λ op. Contains (operands_of op) a) (sym is) (Contains-from_get (a ∷ []) 0 a refl))) in
    (M.0, (M.1, ready a M.0 (Contains-from_get (a ∷ []) 0 a refl) M.1), cast_fits rule typing s a to cast flags M.0 N typed stands is M.1 width)
op_ready rule typing given held s N (Freeze a k) typed stands width is fit ready chosen =
    let same : slice_get typing a.class ≡ Some N = sym (typed.same s.class a.class (freeze stands is)) ∙ width in
    ((same, ready a N (Contains-from_get (a ∷ []) 0 a refl) same), chosen k s.class N (freeze_chosen s a k is) width)
op_ready rule typing given held s N (Copy a) typed stands width is fit ready chosen =
    let same : slice_get typing a.class ≡ Some N = sym (typed.same s.class a.class (copy stands is)) ∙ width in
    (same, ready a N (Contains-from_get (a ∷ []) 0 a refl) same)

statement_ready : (rule : Rule) (typing : List ℕ) (given : Given) (held : Held) (s : Statement) → IsTyping rule typing → IsStatementOf rule s → FlagsFitOp s.op → AllReady typing given held s.op → AllChosen typing given s → StatementIsReady typing given held s
statement_ready rule typing given held s typed stands fit ready chosen =
    let w = class_width rule typing s.class typed (class_stands rule s stands) in
    (w.0, w.1, op_ready rule typing given held s w.0 s.op typed stands w.1 refl fit ready chosen)

-- source statement k is ready once those before it have run, where `given` fits some statements of which it is one
pub source_ready : (rule : Rule) (typing : List ℕ) (half : List Statement) (given : Given) (held : Held) (k : ℕ) (s : Statement) → IsRule rule → IsTyping rule typing → GivenFits rule typing half given → HeldFits rule typing held
    → slice_get rule.source k ≡ Some s → Contains half s → length held.source ≡ k → StatementIsReady typing given held s
unfolding AllReady AllChosen
source_ready rule typing half given held k s checked typed given_fits fits at here so_far =
    let stands = source_statement rule k s at in
    let within : k < length rule.source = slice_get_within rule.source k s at in
    statement_ready rule typing given held s typed stands (checked.source_flags k s at)
    (λ o N among width. source_argument rule typing half given held typed given_fits fits o N (operand_stands rule s o stands among) width k s o.value within so_far
    (Contains-flat_map (λ (s : Statement). operands_of s.op) half s o here among) refl (checked.source_reads k s o at among))
    (λ j c N among width. given_fits.choices j c N (statement_open half s (record { place = j; class = c }) here among) width)

-- target statement k is ready once the source's temporaries and those before it have run
pub target_ready : (rule : Rule) (typing : List ℕ) (given : Given) (held : Held) (k : ℕ) (s : Statement) → IsRule rule → IsTyping rule typing → GivenFits rule typing rule.target given → HeldFits rule typing held
    → slice_get rule.target k ≡ Some s → length held.source + 1 ≡ length rule.source → length held.target ≡ k → StatementIsReady typing given held s
unfolding AllReady AllChosen
target_ready rule typing given held k s checked typed given_fits fits at before so_far =
    let stands = target_statement rule k s at in
    let within : k < length rule.target = slice_get_within rule.target k s at in
    statement_ready rule typing given held s typed stands (checked.target_flags k s at)
    (λ o N among width. target_argument rule typing rule.target given held typed given_fits fits o N (operand_stands rule s o stands among) width k s o.value within before so_far
    (Contains-flat_map (λ (s : Statement). operands_of s.op) rule.target s o (Contains-from_get rule.target k s at) among) refl (checked.target_reads k s o at among))
    (λ j c N among width. given_fits.choices j c N (statement_open rule.target s (record { place = j; class = c }) (Contains-from_get rule.target k s at) among) width)

-- values stay of their widths where one of the next result's width is appended
pub ValuesFit-push : (typing : List ℕ) (statements : List Statement) (values : List Value) (s : Statement) (v : Value)
    → ValuesFit typing statements values → slice_get statements (length values) ≡ Some s → ((N : ℕ) → slice_get typing s.class ≡ Some N → IsValueOf N v) → ValuesFit typing statements (values ++ v ∷ [])
ValuesFit-push typing = Fit-push (λ (s : Statement). s.class) typing

pub ValuesFit-none : (typing : List ℕ) (statements : List Statement) → ValuesFit typing statements []
ValuesFit-none typing = Fit-none (λ (s : Statement). s.class) typing

-- the registers after the statements before source statement k, and before target statement k, let it run
pub source_next : (rule : Rule) (typing : List ℕ) (half : List Statement) (given : Given) (inputs values : List Value) (k : ℕ) (s : Statement)
    → IsRule rule → IsTyping rule typing → GivenFits rule typing half given → InputsFit rule typing inputs → ValuesFit typing rule.source values → length values ≡ k → slice_get rule.source k ≡ Some s → Contains half s
    → StatementIsReady typing given (record { inputs = inputs; source = values; target = [] }) s
source_next rule typing half given inputs values k s checked typed given_fits fit values_fit so_far at here =
    source_ready rule typing half given (record { inputs = inputs; source = values; target = [] }) k s checked typed given_fits
    (record { inputs = fit; source = values_fit; target = ValuesFit-none typing rule.target }) at here so_far

pub target_next : (rule : Rule) (typing : List ℕ) (given : Given) (inputs source values : List Value) (k : ℕ) (s : Statement)
    → IsRule rule → IsTyping rule typing → GivenFits rule typing rule.target given → InputsFit rule typing inputs → ValuesFit typing rule.source source → ValuesFit typing rule.target values
    → length source + 1 ≡ length rule.source → length values ≡ k → slice_get rule.target k ≡ Some s
    → StatementIsReady typing given (record { inputs = inputs; source = source; target = values }) s
target_next rule typing given inputs source values k s checked typed given_fits fit source_fit values_fit before so_far at =
    target_ready rule typing given (record { inputs = inputs; source = source; target = values }) k s checked typed given_fits
    (record { inputs = fit; source = source_fit; target = values_fit }) at before so_far

-- What the next node of the constant terms needs is there, once those before it have been evaluated.
module _ (rule : Rule) (typing : List ℕ) (constants : List Number) (checked : IsRule rule) (typed : IsTyping rule typing) (fits : ConstantsFit rule typing constants) where
  operand_ready : (before : List Value) (n a : ℕ) (t : Term) (N : ℕ) → TermsFit typing rule.terms before → length before ≡ n → n < length rule.terms → a < n → slice_get typing t.class ≡ Some N
      → ((x : Term) → slice_get rule.terms a ≡ Some x → slice_get typing t.class ≡ slice_get typing x.class) → (v : Value) × (slice_get before a ≡ Some v) × IsValueOf N v
  operand_ready before n a t N fit count within less width same =
      let v : Value = get_or before a Poison in
      let at : slice_get before a ≡ Some v = slice_get-get_or before a Poison (omega arith) in
      let x : Term = get_or rule.terms a t in
      let there : slice_get rule.terms a ≡ Some x = slice_get-get_or rule.terms a t (omega arith) in
      (v, at, fit a x v N there at (sym (same x there) ∙ width))

  node_ready : (n : ℕ) (t : Term) (before : List Value) (N : ℕ) (node : Node) → slice_get rule.terms n ≡ Some t → length before ≡ n → TermsFit typing rule.terms before → slice_get typing t.class ≡ Some N
      → t.node ≡ node → MayBeTerm rule n node → NodeIsReady typing constants before N node
  node_ready n t before N (nodes.Literal z) at count fit width is may = tt
  node_ready n t before N (nodes.Constant k) at count fit width is may = constant_ready rule typing constants k t.class N fits (term_constant (constant_term rule n t at) is) width may
  node_ready n t before N (nodes.Register r) at count fit width is may = may
  node_ready n t before N (nodes.Choice k) at count fit width is may = may
  node_ready n t before N (nodes.Width r c) at count fit width is may = class_width rule typing c typed (measured_class_stands rule t r c (constant_term rule n t at) is)
  node_ready n t before N (nodes.Unary function a) at count fit width is may =
      operand_ready before n a t N fit count (slice_get_within rule.terms n t at) may width
      (λ x there. typed.same t.class x.class (term (unary (Contains-from_get rule.terms n t at) is there)))
  node_ready n t before N (nodes.Binary op a b) at count fit width is may =
      let within = slice_get_within rule.terms n t at in
      let among : Contains rule.terms t = Contains-from_get rule.terms n t at in
      let x = operand_ready before n a t N fit count within may.0 width (λ x there. typed.same t.class x.class (term (left among is there))) in
      let y = operand_ready before n b t N fit count within may.1 width (λ x there. typed.same t.class x.class (term (right among is there))) in
      (x.0, y.0, x.1, y.1, x.2, y.2)

  ready_fits : (before : List Value) (N : ℕ) (node : Node) → NodeIsReady typing constants before N node → NodeFits (of_constants constants) before N node
  ready_fits before N (nodes.Literal z) ready = tt
  ready_fits before N (nodes.Constant k) (n, at, is) = rw at is
  ready_fits before N (nodes.Register r) ready = absurd ready
  ready_fits before N (nodes.Choice k) ready = absurd ready
  ready_fits before N (nodes.Width r c) ready = tt
  ready_fits before N (nodes.Unary function a) (v, at, is) = rw (get_or_from_slice_get before a v Poison at) is
  ready_fits before N (nodes.Binary op a b) (v, w, at, at', is, is') = (rw (get_or_from_slice_get before a v Poison at) is, rw (get_or_from_slice_get before b w Poison at') is')

  constant_node : (n : ℕ) (t : Term) (before : List Value) (N : ℕ) → slice_get rule.terms n ≡ Some t → length before ≡ n → TermsFit typing rule.terms before → slice_get typing t.class ≡ Some N → NodeFits (of_constants constants) before N t.node
  constant_node n t before N at count fit width =
      ready_fits before N t.node (node_ready n t before N t.node at count fit width refl (checked.terms n t at))

  -- the next node is ready
  pub term_next : (n : ℕ) (t : Term) → slice_get rule.terms n ≡ Some t → TermIsReady typing constants (values_of typing (of_constants constants) (take n rule.terms)) t
  term_next n t at =
      let within : n < length rule.terms = slice_get_within rule.terms n t at in
      let w = class_width rule typing t.class typed (term_class_stands rule t (constant_term rule n t at)) in
      let fit = first_fit typing (of_constants constants) rule.terms constant_node n (omega arith) in
      let count = first_length typing (of_constants constants) rule.terms constant_node n (omega arith) in
      (w.0, w.1, node_ready n t (values_of typing (of_constants constants) (take n rule.terms)) w.0 t.node at count fit w.1 refl (checked.terms n t at))

  -- and what all of them give are values of their widths
  pub constant_values_fit : (length (constant_values typing constants rule) ≡ length rule.terms) × TermsFit typing rule.terms (constant_values typing constants rule)
  constant_values_fit =
      let whole : take (length rule.terms) rule.terms ≡ rule.terms = take_all (length rule.terms) rule.terms (omega arith) in (
        rw whole at (first_length typing (of_constants constants) rule.terms constant_node (length rule.terms) (omega arith)),
        all_fit typing (of_constants constants) rule.terms constant_node,
      )
