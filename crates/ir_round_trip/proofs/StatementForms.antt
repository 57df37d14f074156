-- What the parser gives for tokens that have their forms has its forms: instructions and terminators.
use Rattle.ir_round_trip.proofs.Common.{◌≡◌, ℕ, Bool, true, false, cond, List, [], ◌∷◌, Option, Some, None, sym, subst, AllByRecursion, residue, Flags, flags_of, flags_of_cast, flags_of_icmp, icmp_flags, residue-lt, constant_of, is_in_range, number_of, Placed, Token, RawIdentifier, RawInst, RawArguments, RawCall, RawOp, Call, TypedOperand, RawOperand, RawValue, RawIncoming, RawTerminator, Return, Unreachable, Jump, Branch, Switch, RawCase, SpellsRegister, SpellsTarget, SpellsType, IsValueToken, SpellsOperand, SpellsTyped, Attachment, Tail, SpellsFlags, SpellsIncoming, IsOpcode, SpellsOp, SpellsInst, SpellsCase, SpellsCases, SpellsTerminator, Opcode, Intrinsic, Items, SpellsArgument, SpellsTruthOf, SpellsArguments, SpellsCallee, SpellsClose, SpellsMarker, unmarked, notail, SpellsCall, intrinsic_of, SpellsItem, of_word, of_word_and_group, of_number, of_group, of_quoted, of_key_and_value, Part, IsOn, Is, ◌⨾◌, Each, Comma, Separated, Repeated, IsWidth, NumberFits}
use Rattle.ops.specs.Number.{Number as OpsNumber}
use Rattle.ir_tokens.specs.declared.raw.RawArguments.TheVariants as arguments
use Rattle.ir_tokens.specs.declared.raw.RawOp.TheVariants.{Binary, Compare, Select, Convert, Freeze, Phi}
use Rattle.ir_tokens.specs.declared.raw.RawValue.TheVariants as values
use Rattle.ops.specs.declared.opcode.Unary.{Unary}
use Rattle.ir_instructions.specs.CallGrammar.{tail as tail_marker}
use Rattle.ir_round_trip.proofs.TokenForms.{CalledFormed, TokenFormed, Formed}

-- the tokens behind a production have their forms, and so does what it spells
abbrev pub Keeps : Part → Type 0
Keeps P = (tokens rest : List Placed) → P tokens rest → Formed tokens → Formed rest

abbrev pub Yields : Part → Type 0 → Type 0
Yields P X = (tokens rest : List Placed) → P tokens rest → Formed tokens → Formed rest × X

-- ---- one production behind another

module _ (P Q : Part) where
  pub keep_both : Keeps P → Keeps Q → Keeps (P ⨾ Q)
  keep_both p q tokens rest (middle, h, k) formed = q middle rest k (p tokens middle h formed)

  pub after : (Y : Type 0) → Keeps P → Yields Q Y → Yields (P ⨾ Q) Y
  after Y p q tokens rest (middle, h, k) formed = q middle rest k (p tokens middle h formed)

  pub before : (X : Type 0) → Yields P X → Keeps Q → Yields (P ⨾ Q) X
  before X p q tokens rest (middle, h, k) formed = let a = p tokens middle h formed in (q middle rest k a.0, a.1)

  pub both : (X Y : Type 0) → Yields P X → Yields Q Y → Yields (P ⨾ Q) (X × Y)
  both X Y p q tokens rest (middle, h, k) formed =
      let a = p tokens middle h formed in
      let b = q middle rest k a.0 in
      (b.0, (a.1, b.1))

pub on_line : (line : ℕ) (t : Token) (tokens rest : List Placed) → IsOn line t tokens rest → Formed tokens → TokenFormed t × Formed rest
on_line line t tokens rest is formed = subst Formed is formed

pub token : (t : Token) → Keeps (Is t)
token t tokens rest (line, is) formed = (on_line line t tokens rest is formed).1

pub word : (line : ℕ) (t : Token) → Keeps (IsOn line t)
word line t tokens rest is formed = (on_line line t tokens rest is formed).1

module _ {A : Type 0} (P : A → Part) where
  pub keep_each : ((x : A) → Keeps (P x)) → (xs : List A) → Keeps (Each P xs)
  keep_each p [] tokens rest same formed = subst Formed same formed
  keep_each p (x ∷ xs) tokens rest h formed = keep_both (P x) (Each P xs) (p x) (keep_each p xs) tokens rest h formed

  module _ (G : A → Type 0) (p : (x : A) → Yields (P x) (G x)) where
    pub each : (xs : List A) → Yields (Each P xs) (AllByRecursion G xs)
    each [] tokens rest same formed = (subst Formed same formed, tt)
    each (x ∷ xs) tokens rest h formed = both (P x) (Each P xs) (G x) (AllByRecursion G xs) (p x) (each xs) tokens rest h formed

-- at least one, with a comma between them
pub separated : {A : Type 0} (P : A → Part) (G : A → Type 0) → ((x : A) → Yields (P x) (G x)) → (xs : List A) → Yields (Separated P xs) (AllByRecursion G xs)
separated P G p [] tokens rest h formed = absurd h
separated P G p (x ∷ xs) tokens rest h formed =
    both (P x) (Each (λ y. Comma ⨾ P y) xs) (G x) (AllByRecursion G xs) (p x) (each (λ y. Comma ⨾ P y) G (λ y. after Comma (P y) (G y) (token _) (p y)) xs) tokens rest h formed

pub repeated : (P : Part) → Keeps P → Keeps (Repeated P)
repeated P p tokens rest (times, h) = keep_each (λ once. P) (λ once. p) times tokens rest h

-- ---- names, types and values

pub register : (r : RawIdentifier) → Yields (SpellsRegister r) (CalledFormed r.identifier)
register r tokens rest (written, same, is) formed = let h = on_line r.line _ tokens rest is formed in (h.1, subst CalledFormed (sym same) h.0)

pub a_register : (r : RawIdentifier) → Keeps (SpellsRegister r)
a_register r tokens rest h formed = (register r tokens rest h formed).0

target : (r : RawIdentifier) → Keeps (SpellsTarget r)
target r = keep_both _ _ (token _) (a_register r)

pub type : (width : ℕ) → Yields (SpellsType width) (IsWidth width)
type width tokens rest (w, is, one) formed = (token _ tokens rest one formed, (is.4, is.5))

-- if the value is a literal number, it is one of its width
abbrev pub ValueFormed : RawValue → Type 0
ValueFormed (values.Number n) = NumberFits n
ValueFormed (values.Register x) = Unit {0}
ValueFormed values.True = Unit {0}
ValueFormed values.False = Unit {0}
ValueFormed values.Undef = Unit {0}
ValueFormed values.Poison = Unit {0}

number_fits : (digits : List ℕ) (N : ℕ) (n : OpsNumber) → constant_of digits N ≡ Some n → NumberFits n
unfolding constant_of
number_fits digits N n is = by (is_in_range N (number_of digits)) is
  where
    by : (b : Bool) → cond b (Some (record { width = N; number = residue N (number_of digits) })) None ≡ Some n → NumberFits n
    by true e = let same : ◌≡◌ {A = OpsNumber} (record { width = N; number = residue N (number_of digits) }) n = cc in subst NumberFits same (residue-lt N (number_of digits))
    by false e = absurd cc

value_fits : (width : ℕ) (v : RawValue) (t : Token) → IsValueToken width v t → ValueFormed v
value_fits width (values.Number n) t (digits, is, same) = number_fits digits width n is
value_fits width (values.Register x) t h = tt
value_fits width values.True t h = tt
value_fits width values.False t h = tt
value_fits width values.Undef t h = tt
value_fits width values.Poison t h = tt

operand : (width : ℕ) (a : RawOperand) → Yields (SpellsOperand width a) (ValueFormed a.value)
operand width a tokens rest (t, value, is) formed = ((on_line a.line t tokens rest is formed).1, value_fits width a.value t value)

-- a width and a value of it
abbrev pub TypedFormed : ℕ → RawOperand → Type 0
TypedFormed width a = IsWidth width × ValueFormed a.value

typed_value : (width : ℕ) (a : RawOperand) → Yields (SpellsType width ⨾ SpellsOperand width a) (TypedFormed width a)
typed_value width a = both _ _ _ _ (type width) (operand width a)

typed : (t : TypedOperand) → Yields (SpellsTyped t) (TypedFormed t.width t.operand)
typed t = typed_value t.width t.operand

-- ---- attachments

pub attachment : Keeps Attachment
attachment tokens rest (name, number, n, m, two) = keep_both _ _ (token _) (token _) tokens rest two

pub tail : Keeps Tail
tail = repeated (Comma ⨾ Attachment) (keep_both Comma Attachment (token _) attachment)

-- ---- instructions

abbrev pub ArgumentsFormed : RawArguments → Type 0
ArgumentsFormed (arguments.Binary op a b) = TypedFormed a.width a.operand × TypedFormed b.width b.operand
ArgumentsFormed (arguments.Unary op a truth) = TypedFormed a.width a.operand

abbrev pub OpFormed : RawOp → Type 0
OpFormed (Binary op flags width a b) = IsWidth width × (ValueFormed a.value × ValueFormed b.value)
OpFormed (Compare pred samesign width a b) = IsWidth width × (ValueFormed a.value × ValueFormed b.value)
OpFormed (Call w) = IsWidth w.width × ArgumentsFormed w.arguments
OpFormed (Select c a b) = TypedFormed c.width c.operand × (TypedFormed a.width a.operand × TypedFormed b.width b.operand)
OpFormed (Convert cast flags from a to) = IsWidth from × (ValueFormed a.value × IsWidth to)
OpFormed (Freeze width a) = TypedFormed width a
OpFormed (Phi width incoming) = IsWidth width × AllByRecursion (λ i. ValueFormed i.value.value) incoming

abbrev pub InstFormed : RawInst → Type 0
InstFormed i = CalledFormed i.result.identifier × OpFormed i.op

flags : (taken fs : Flags) → Keeps (SpellsFlags taken fs)
flags taken fs tokens rest (written, adds, h) = keep_each _ (λ flag. token _) written tokens rest h

two_values : (width : ℕ) (a b : RawOperand) → Yields (SpellsType width ⨾ SpellsOperand width a ⨾ Comma ⨾ SpellsOperand width b) (IsWidth width × (ValueFormed a.value × ValueFormed b.value))
two_values width a b = both _ _ _ _ (type width) (both _ _ _ _ (operand width a) (after _ _ _ (token _) (operand width b)))

incoming : (width : ℕ) (i : RawIncoming) → Yields (SpellsIncoming width i) (ValueFormed i.value.value)
incoming width i = after _ _ _ (token _) (before _ _ _ (operand width i.value) (keep_both _ _ (token _) (keep_both _ _ (a_register i.block) (token _))))

-- ---- calls

kept_item : (i : List ℕ) → Keeps (SpellsItem i)
kept_item i tokens rest (of_word is one) formed = token _ tokens rest one formed
kept_item i tokens rest (of_word_and_group name group is same two) formed = keep_both _ _ (token _) (token _) tokens rest two formed
kept_item i tokens rest (of_number one) formed = token _ tokens rest one formed
kept_item i tokens rest (of_group one) formed = token _ tokens rest one formed
kept_item i tokens rest (of_quoted one) formed = token _ tokens rest one formed
kept_item i tokens rest (of_key_and_value key value same three) formed = keep_both _ _ (token _) (keep_both _ _ (token _) (token _)) tokens rest three formed

items : Keeps Items
items tokens rest (xs, h) formed = keep_each SpellsItem kept_item xs tokens rest h formed

argument : (t : TypedOperand) → Yields (SpellsArgument t) (TypedFormed t.width t.operand)
argument t = both _ _ _ _ (type t.width) (after _ _ _ items (operand t.width t.operand))

truth : (op : Unary) (t : Option TypedOperand) → Keeps (SpellsTruthOf op t)
truth op None tokens rest (own, same) formed = subst Formed same formed
truth op (Some t) tokens rest (own, (middle, comma, (value, h))) formed = (argument t middle rest h (token _ tokens middle comma formed)).0

call_arguments : (w : RawArguments) → Yields (SpellsArguments w) (ArgumentsFormed w)
call_arguments (arguments.Binary op a b) = both _ _ _ _ (argument a) (after _ _ _ (token _) (argument b))
call_arguments (arguments.Unary op a t) = before _ _ _ (argument a) (truth op t)

callee : (named : Intrinsic × ℕ) → Keeps (SpellsCallee named)
callee named tokens rest (written, name, called, intrinsic, one) formed = token _ tokens rest one formed

close : Keeps SpellsClose
close tokens rest (line, stop, (middle, one, (xs, taken, h, same, all))) formed = items middle rest (xs, h) (word line _ tokens middle one formed)

marker : Keeps SpellsMarker
marker tokens rest (unmarked same) formed = subst Formed same formed
marker tokens rest (tail_marker one) formed = token _ tokens rest one formed
marker tokens rest (notail one) formed = token _ tokens rest one formed

call : (w : RawCall) → Yields (SpellsCall w) (IsWidth w.width × ArgumentsFormed w.arguments)
call w =
    after _ _ _ marker (after _ _ _ (word w.line _) (after _ _ _ items (both _ _ _ _ (type w.width) (after _ _ _ (callee (intrinsic_of w.arguments, w.named))
    (after _ _ _ (token _) (before _ _ _ (call_arguments w.arguments) close))))))

an_opcode : (opcode : Opcode) → Keeps (IsOpcode opcode)
an_opcode opcode tokens rest (own, one) formed = token _ tokens rest one formed

op : (o : RawOp) → Yields (SpellsOp o) (OpFormed o)
op (Binary opcode fs width a b) = after _ _ _ (an_opcode opcode) (after _ _ _ (flags (flags_of opcode) fs) (two_values width a b))
op (Compare pred samesign width a b) = after _ _ _ (token _) (after _ _ _ (flags flags_of_icmp (icmp_flags samesign)) (after _ _ _ (token _) (two_values width a b)))
op (Call w) = call w
op (Select c a b) = after _ _ _ (token _) (both _ _ _ _ (typed c) (after _ _ _ (token _) (both _ _ _ _ (typed a) (after _ _ _ (token _) (typed b)))))
op (Convert cast fs from a to) = after _ _ _ (token _) (after _ _ _ (flags (flags_of_cast cast) fs) (both _ _ _ _ (type from) (both _ _ _ _ (operand from a) (after _ _ _ (token _) (type to)))))
op (Freeze width a) = after _ _ _ (token _) (typed_value width a)
op (Phi width incomings) = after _ _ _ (token _) (both _ _ _ _ (type width) (separated (SpellsIncoming width) (λ i. ValueFormed i.value.value) (incoming width) incomings))

inst : (i : RawInst) → Yields (SpellsInst i) (InstFormed i)
inst i = both _ _ _ _ (register i.result) (after _ _ _ (token _) (before _ _ _ (op i.op) tail))

pub insts : (is : List RawInst) → Yields (Each SpellsInst is) (AllByRecursion InstFormed is)
insts is = each SpellsInst InstFormed inst is

-- ---- terminators

abbrev pub CaseFormed : RawCase → Type 0
CaseFormed c = TypedFormed c.width c.value

abbrev pub EndFormed : RawTerminator → Type 0
EndFormed (Return width a) = TypedFormed width a
EndFormed Unreachable = Unit {0}
EndFormed (Jump to) = Unit {0}
EndFormed (Branch width a to other) = TypedFormed width a
EndFormed (Switch width a other cases) = IsWidth width × (ValueFormed a.value × AllByRecursion CaseFormed cases)

case_formed : (c : RawCase) → Yields (SpellsCase c) (CaseFormed c)
case_formed c tokens rest (value, h) = both _ _ _ _ (type c.width) (before _ _ _ (operand c.width c.value) (keep_both _ _ (token _) (target c.target))) tokens rest h

cases : (cs : List RawCase) → Yields (SpellsCases cs) (AllByRecursion CaseFormed cs)
cases cs = after _ _ _ (token _) (before _ _ _ (each SpellsCase CaseFormed case_formed cs) (token _))

pub terminator : (line : ℕ) (t : RawTerminator) → Yields (SpellsTerminator line t) (EndFormed t)
terminator line (Return width a) tokens rest h formed = after _ _ _ (word line _) (typed_value width a) tokens rest h formed
terminator line Unreachable tokens rest h formed = (word line _ tokens rest h formed, tt)
terminator line (Jump to) tokens rest h formed = (keep_both _ _ (word line _) (target to) tokens rest h formed, tt)
terminator line (Branch width a to other) tokens rest h formed =
    after _ _ _ (word line _) (both _ _ _ _ (type width) (before _ _ _ (operand width a) (keep_both _ _ (token _) (keep_both _ _ (target to) (keep_both _ _ (token _) (target other)))))) tokens rest h formed
terminator line (Switch width a other cs) tokens rest h formed =
    after _ _ _ (word line _) (both _ _ _ _ (type width) (both _ _ _ _ (operand width a) (after _ _ _ (token _) (after _ _ _ (target other) (cases cs))))) tokens rest h formed
