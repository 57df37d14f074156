-- Behind each production fewer tokens are left, or at least no more.
use Rattle.ir_instructions.proofs.Common.{◌≡◌, ◌<◌, ◌≤◌, ℕ, List, [], ◌∷◌, length, Option, Some, None, ap, arith, Flags, Opcode, flags_of, flags_of_cast, flags_of_icmp, icmp_flags, Unary, Token, Placed, Mark, RawIdentifier, RawInst, RawArguments, RawCall, RawOp, TypedOperand, RawOperand, RawIncoming, RawTerminator, Jump, RawCase, SpellsRegister, SpellsTarget, SpellsType, SpellsOperand, SpellsTyped, Attachment, SpellsFlags, SpellsIncoming, IsOpcode, SpellsOp, SpellsInst, SpellsCase, SpellsCases, SpellsTerminator, Intrinsic, SpellsItem, of_word, of_word_and_group, of_number, of_group, of_quoted, of_key_and_value, Items, SpellsArgument, SpellsTruthOf, SpellsArguments, SpellsCallee, SpellsClose, SpellsMarker, unmarked, notail, SpellsCall, intrinsic_of, Part, IsOn, Is, ◌⨾◌, Maybe, Each, Comma, Separated, Repeated}
use Rattle.ir_tokens.specs.declared.raw.RawArguments.TheVariants as arguments
use Rattle.ir_tokens.specs.declared.raw.RawOp.TheVariants.{Binary, Compare, Call, Select, Convert, Freeze, Phi}
use Rattle.ir_tokens.specs.declared.raw.RawTerminator.TheVariants.{Return, Unreachable, Branch, Switch}
use Rattle.ir_instructions.specs.Grammar.{Tail}
use Rattle.ir_instructions.specs.CallGrammar.{tail as tail_marker}
use Rattle.ir_instructions.specs.Punctuation as marks

abbrev pub Shorter : Part → Type 0
Shorter P = (tokens rest : List Placed) → P tokens rest → length rest < length tokens

abbrev pub NoLonger : Part → Type 0
NoLonger P = (tokens rest : List Placed) → P tokens rest → length rest ≤ length tokens

-- ---- one production behind another

pub weaker : (P : Part) → Shorter P → NoLonger P
weaker P p tokens rest h = let fewer : length rest < length tokens = p tokens rest h in omega arith

pub begins : (P Q : Part) → Shorter P → NoLonger Q → Shorter (P ⨾ Q)
begins P Q p q tokens rest (middle, h, k) =
    let fewer : length middle < length tokens = p tokens middle h in
    let more : length rest ≤ length middle = q middle rest k in omega arith

pub both : (P Q : Part) → NoLonger P → NoLonger Q → NoLonger (P ⨾ Q)
both P Q p q tokens rest (middle, h, k) =
    let fewer : length middle ≤ length tokens = p tokens middle h in
    let more : length rest ≤ length middle = q middle rest k in omega arith

pub on_line : (line : ℕ) (token : Token) → Shorter (IsOn line token)
on_line line token tokens rest is = omega (arith, ap length is)

pub token : (t : Token) → Shorter (Is t)
token t tokens rest (line, is) = on_line line t tokens rest is

pub a_token : (t : Token) → NoLonger (Is t)
a_token t = weaker (Is t) (token t)

pub no_part : NoLonger (λ tokens rest. tokens ≡ rest)
no_part tokens rest same = omega (arith, ap length same)

pub maybe : {A : Type 0} (P : A → Part) → ((x : A) → NoLonger (P x)) → (o : Option A) → NoLonger (Maybe P o)
maybe P p None = no_part
maybe P p (Some x) = p x

pub each : {A : Type 0} (P : A → Part) → ((x : A) → NoLonger (P x)) → (xs : List A) → NoLonger (Each P xs)
each P p [] = no_part
each P p (x ∷ xs) = both (P x) (Each P xs) (p x) (each P p xs)

pub repeated : (P : Part) → NoLonger P → NoLonger (Repeated P)
repeated P p tokens rest (times, h) = each (λ once. P) (λ once. p) times tokens rest h

-- ---- names, types and values

register : (r : RawIdentifier) → Shorter (SpellsRegister r)
register r tokens rest (written, same, is) = on_line r.line _ tokens rest is

pub a_register : (r : RawIdentifier) → NoLonger (SpellsRegister r)
a_register r = weaker (SpellsRegister r) (register r)

target : (r : RawIdentifier) → NoLonger (SpellsTarget r)
target r = both _ _ (a_token _) (a_register r)

type : (width : ℕ) → Shorter (SpellsType width)
type width tokens rest (word, is, one) = token _ tokens rest one

pub a_type : (width : ℕ) → NoLonger (SpellsType width)
a_type width = weaker (SpellsType width) (type width)

operand : (width : ℕ) (a : RawOperand) → NoLonger (SpellsOperand width a)
operand width a = weaker (SpellsOperand width a) (λ tokens rest (t, value, is). on_line a.line t tokens rest is)

typed : (t : TypedOperand) → NoLonger (SpellsTyped t)
typed t = both _ _ (a_type t.width) (operand t.width t.operand)

-- ---- attachments and items

pub attachment-shorter : Shorter Attachment
attachment-shorter tokens rest (name, number, n, m, both_tokens) = begins _ _ (token _) (a_token _) tokens rest both_tokens

pub tail_attachment-shorter : Shorter (Comma ⨾ Attachment)
tail_attachment-shorter = begins Comma Attachment (token _) (weaker Attachment attachment-shorter)

pub tail : NoLonger Tail
tail = repeated (Comma ⨾ Attachment) (weaker (Comma ⨾ Attachment) tail_attachment-shorter)

-- ---- instructions and terminators

flags : (taken fs : Flags) → NoLonger (SpellsFlags taken fs)
flags taken fs tokens rest (written, adds, h) = each _ (λ flag. a_token _) written tokens rest h

incoming : (width : ℕ) (i : RawIncoming) → NoLonger (SpellsIncoming width i)
incoming width i = both _ _ (a_token _) (both _ _ (operand width i.value) (both _ _ (a_token _) (both _ _ (a_register i.block) (a_token _))))

pub further_incoming-shorter : (width : ℕ) (i : RawIncoming) → Shorter (Comma ⨾ SpellsIncoming width i)
further_incoming-shorter width i = begins Comma (SpellsIncoming width i) (token _) (incoming width i)

pub separated : {A : Type 0} (P : A → Part) → ((x : A) → NoLonger (P x)) → (xs : List A) → NoLonger (Separated P xs)
separated P p [] tokens rest h = absurd h
separated P p (x ∷ xs) tokens rest h = both (P x) (Each (λ y. Comma ⨾ P y) xs) (p x) (each (λ y. Comma ⨾ P y) (λ y. both Comma (P y) (a_token _) (p y)) xs) tokens rest h

-- ---- calls

item : (i : List ℕ) → NoLonger (SpellsItem i)
item i tokens rest (of_word is one) = a_token _ tokens rest one
item i tokens rest (of_word_and_group name group is same two) = both _ _ (a_token _) (a_token _) tokens rest two
item i tokens rest (of_number one) = a_token _ tokens rest one
item i tokens rest (of_group one) = a_token _ tokens rest one
item i tokens rest (of_quoted one) = a_token _ tokens rest one
item i tokens rest (of_key_and_value key value same three) = both _ _ (a_token _) (both _ _ (a_token _) (a_token _)) tokens rest three

items : NoLonger Items
items tokens rest (is, h) = each SpellsItem item is tokens rest h

argument : (t : TypedOperand) → NoLonger (SpellsArgument t)
argument t = both _ _ (a_type t.width) (both _ _ items (operand t.width t.operand))

truth : (op : Unary) (t : Option TypedOperand) → NoLonger (SpellsTruthOf op t)
truth op None tokens rest (own, h) = no_part tokens rest h
truth op (Some t) tokens rest (own, (middle, comma, (value, h))) = both Comma (SpellsArgument t) (a_token _) (argument t) tokens rest (middle, comma, h)

call_arguments : (w : RawArguments) → NoLonger (SpellsArguments w)
call_arguments (arguments.Binary op a b) = both _ _ (argument a) (both _ _ (a_token _) (argument b))
call_arguments (arguments.Unary op a t) = both _ _ (argument a) (truth op t)

callee : (named : Intrinsic × ℕ) → NoLonger (SpellsCallee named)
callee named tokens rest (written, name, is, intrinsic, one) = a_token _ tokens rest one

close : NoLonger SpellsClose
close tokens rest (line, stops, (middle, one, (is, taken, h, same, on))) =
    both (IsOn line (Mark marks.close_paren)) Items (weaker _ (on_line line _)) items tokens rest (middle, one, (is, h))

marker : NoLonger SpellsMarker
marker tokens rest (unmarked h) = no_part tokens rest h
marker tokens rest (tail_marker h) = a_token _ tokens rest h
marker tokens rest (notail h) = a_token _ tokens rest h

call : (w : RawCall) → NoLonger (SpellsCall w)
call w =
    both _ _ marker (both _ _ (weaker _ (on_line w.line _)) (both _ _ items (both _ _ (a_type w.width) (both _ _ (callee (intrinsic_of w.arguments, w.named))
    (both _ _ (a_token _) (both _ _ (call_arguments w.arguments) close))))))

-- ---- instructions

an_opcode : (opcode : Opcode) → NoLonger (IsOpcode opcode)
an_opcode opcode tokens rest (own, one) = a_token _ tokens rest one

op : (o : RawOp) → NoLonger (SpellsOp o)
op (Binary opcode fs width a b) = both _ _ (an_opcode opcode) (both _ _ (flags (flags_of opcode) fs) (both _ _ (a_type width) (both _ _ (operand width a) (both _ _ (a_token _) (operand width b)))))
op (Compare pred samesign width a b) =
    both _ _ (a_token _) (both _ _ (flags flags_of_icmp (icmp_flags samesign)) (both _ _ (a_token _) (both _ _ (a_type width) (both _ _ (operand width a) (both _ _ (a_token _) (operand width b))))))
op (Call w) = call w
op (Select condition if_true if_false) = both _ _ (a_token _) (both _ _ (typed condition) (both _ _ (a_token _) (both _ _ (typed if_true) (both _ _ (a_token _) (typed if_false)))))
op (Convert cast fs from a to) =
    both _ _ (a_token _) (both _ _ (flags (flags_of_cast cast) fs) (both _ _ (a_type from) (both _ _ (operand from a) (both _ _ (a_token _) (a_type to)))))
op (Freeze width a) = both _ _ (a_token _) (both _ _ (a_type width) (operand width a))
op (Phi width incomings) = both _ _ (a_token _) (both _ _ (a_type width) (separated (SpellsIncoming width) (incoming width) incomings))

pub inst-shorter : (i : RawInst) → Shorter (SpellsInst i)
inst-shorter i = begins _ _ (register i.result) (both _ _ (a_token _) (both _ _ (op i.op) tail))

pub case-shorter : (c : RawCase) → Shorter (SpellsCase c)
case-shorter c tokens rest (value, h) = begins _ _ (type c.width) (both _ _ (operand c.width c.value) (both _ _ (a_token _) (target c.target))) tokens rest h

word : (line : ℕ) (t : Token) → NoLonger (IsOn line t)
word line t = weaker (IsOn line t) (on_line line t)

cases : (cs : List RawCase) → NoLonger (SpellsCases cs)
cases cs = both _ _ (a_token _) (both _ _ (each SpellsCase (λ c. weaker (SpellsCase c) (case-shorter c)) cs) (a_token _))

pub terminator : (line : ℕ) (t : RawTerminator) → NoLonger (SpellsTerminator line t)
terminator line (Return width a) = both _ _ (word line _) (both _ _ (a_type width) (operand width a))
terminator line Unreachable = word line _
terminator line (Jump to) = both _ _ (word line _) (target to)
terminator line (Branch width a if_true if_false) =
    both _ _ (word line _) (both _ _ (a_type width) (both _ _ (operand width a) (both _ _ (a_token _) (both _ _ (target if_true) (both _ _ (a_token _) (target if_false))))))
terminator line (Switch width a default cs) =
    both _ _ (word line _) (both _ _ (a_type width) (both _ _ (operand width a) (both _ _ (a_token _) (both _ _ (target default) (cases cs)))))

pub insts : (is : List RawInst) → NoLonger (Each SpellsInst is)
insts is = each SpellsInst (λ i. weaker (SpellsInst i) (inst-shorter i)) is
