-- Tokens that spell something spell it with more tokens behind them too.
use Rattle.ir_parse.proofs.Common.{ℕ, List, [], ◌∷◌, ◌++◌, Option, Some, None, ap, ◌∙◌, append_assoc, Flags, Opcode, flags_of, flags_of_cast, flags_of_icmp, icmp_flags, Unary, Token, Placed, End, Other, Bad, Kept, KeptGroup, Label, Word, Number, Register, Function, Group, Metadata, Quoted, Mark, RawArguments, RawCall, Intrinsic, Items, ItemsOn, StopsOn, SpellsArgument, SpellsTruthOf, SpellsArguments, SpellsCallee, SpellsClose, SpellsMarker, unmarked, notail, SpellsCall, intrinsic_of, RawEntry, RawFunction, RawParameter, RawIdentifier, RawBlock, RawInst, RawOp, Binary, Compare, Call, Select, Convert, Freeze, Phi, TypedOperand, RawOperand, RawIncoming, RawTerminator, Return, Unreachable, Jump, Branch, Switch, RawCase, Attachment, SpellsRegister, SpellsTarget, SpellsType, SpellsOperand, SpellsTyped, Tail, SpellsFlags, SpellsIncoming, IsOpcode, SpellsOp, SpellsInst, SpellsCase, SpellsCases, SpellsTerminator, Part, IsOn, Is, Nothing, ◌⨾◌, Maybe, Each, Comma, Separated, Repeated, SpellsLabel, SpellsBlock, SpellsLabelledBlock, SpellsBlocks, SpellsParameter, SpellsParameterList, SpellsParameters, SpellsName, SpellsBody, SpellsFunction, SpellsEntry, SpellsItem, of_word, of_word_and_group, of_number, of_group, of_quoted, of_key_and_value}
use Rattle.ir_tokens.specs.declared.raw.RawArguments.TheVariants as arguments
use Rattle.ir_instructions.specs.CallGrammar.{tail as tail_marker}
use Rattle.ir_instructions.specs.Punctuation as marks
use Rattle.ir_tokens.specs.declared.raw.RawEntry.TheVariants as entries

-- appending tokens to the rest leaves what the part spells
abbrev pub Frames : Part → Type 0
Frames P = (more tokens rest : List Placed) → P tokens rest → P (tokens ++ more) (rest ++ more)

-- ---- parts

on : (line : ℕ) (t : Token) → Frames (IsOn line t)
on line t more tokens rest same = ap (λ l. l ++ more) same

is : (t : Token) → Frames (Is t)
is t more tokens rest (line, same) = (line, on line t more tokens rest same)

none : Frames Nothing
none more tokens rest same = ap (λ l. l ++ more) same

both : (P Q : Part) → Frames P → Frames Q → Frames (P ⨾ Q)
both P Q p q more tokens rest (between, one, two) = (between ++ more, p more tokens between one, q more between rest two)

maybe : {A : Type 0} (P : A → Part) → ((x : A) → Frames (P x)) → (o : Option A) → Frames (Maybe P o)
maybe P p None = none
maybe P p (Some x) = p x

each : {A : Type 0} (P : A → Part) → ((x : A) → Frames (P x)) → (xs : List A) → Frames (Each P xs)
each P p [] = none
each P p (x ∷ xs) = both (P x) (Each P xs) (p x) (each P p xs)

separated : {A : Type 0} (P : A → Part) → ((x : A) → Frames (P x)) → (xs : List A) → Frames (Separated P xs)
separated P p [] more tokens rest h = absurd h
separated P p (x ∷ xs) more tokens rest h = both (P x) (Each (λ y. Comma ⨾ P y) xs) (p x) (each (λ y. Comma ⨾ P y) (λ y. both Comma (P y) (is _) (p y)) xs) more tokens rest h

repeated : (P : Part) → Frames P → Frames (Repeated P)
repeated P p more tokens rest (times, h) = (times, each (λ once. P) (λ once. p) times more tokens rest h)

-- ---- names, types and values

register : (r : RawIdentifier) → Frames (SpellsRegister r)
register r more tokens rest (written, same, h) = (written, same, on r.line _ more tokens rest h)

target : (t : RawIdentifier) → Frames (SpellsTarget t)
target t = both _ _ (is _) (register t)

type : (width : ℕ) → Frames (SpellsType width)
type width more tokens rest (word, w, h) = (word, w, is _ more tokens rest h)

operand : (width : ℕ) (a : RawOperand) → Frames (SpellsOperand width a)
operand width a more tokens rest (token, value, h) = (token, value, on a.line token more tokens rest h)

typed_value : (width : ℕ) (a : RawOperand) → Frames (SpellsType width ⨾ SpellsOperand width a)
typed_value width a = both _ _ (type width) (operand width a)

typed : (t : TypedOperand) → Frames (SpellsTyped t)
typed t = typed_value t.width t.operand

attachment : Frames Attachment
attachment more tokens rest (name, number, n, m, two) = (name, number, n, m, both _ _ (is _) (is _) more tokens rest two)

tail : Frames Tail
tail = repeated (Comma ⨾ Attachment) (both Comma Attachment (is _) attachment)

-- ---- calls

item : (x : List ℕ) → Frames (SpellsItem x)
item x more tokens rest (of_word word h) = of_word word (is _ more tokens rest h)
item x more tokens rest (of_word_and_group name group word same h) = of_word_and_group name group word same (both _ _ (is _) (is _) more tokens rest h)
item x more tokens rest (of_number h) = of_number (is _ more tokens rest h)
item x more tokens rest (of_group h) = of_group (is _ more tokens rest h)
item x more tokens rest (of_quoted h) = of_quoted (is _ more tokens rest h)
item x more tokens rest (of_key_and_value key value same h) = of_key_and_value key value same (both _ _ (is _) (both _ _ (is _) (is _)) more tokens rest h)

items_framed : Frames Items
items_framed more tokens rest (xs, h) = (xs, each SpellsItem item xs more tokens rest h)

argument : (t : TypedOperand) → Frames (SpellsArgument t)
argument t = both _ _ (type t.width) (both _ _ items_framed (operand t.width t.operand))

truth_of : (op : Unary) (t : Option TypedOperand) → Frames (SpellsTruthOf op t)
truth_of op None more tokens rest (own, h) = (own, none more tokens rest h)
truth_of op (Some t) more tokens rest (own, (middle, comma, (value, h))) = (own, (middle ++ more, is _ more tokens middle comma, (value, argument t more middle rest h)))

call_arguments : (w : RawArguments) → Frames (SpellsArguments w)
call_arguments (arguments.Binary op a b) = both _ _ (argument a) (both _ _ (is _) (argument b))
call_arguments (arguments.Unary op a t) = both _ _ (argument a) (truth_of op t)

callee : (named : Intrinsic × ℕ) → Frames (SpellsCallee named)
callee named more tokens rest (written, name, called, intrinsic, h) = (written, name, called, intrinsic, is _ more tokens rest h)

stops : (line : ℕ) (rest more : List Placed) → StopsOn line rest → StopsOn line (rest ++ more)
stops line [] more h = absurd h
stops line ((at, End) ∷ rest) more h = h
stops line ((at, Other) ∷ rest) more h = h
stops line ((at, Bad) ∷ rest) more h = h
stops line ((at, (Kept text)) ∷ rest) more h = h
stops line ((at, (KeptGroup text)) ∷ rest) more h = h
stops line ((at, (Label text)) ∷ rest) more h = h
stops line ((at, (Word text)) ∷ rest) more h = h
stops line ((at, (Number text)) ∷ rest) more h = h
stops line ((at, (Register text)) ∷ rest) more h = h
stops line ((at, (Function text)) ∷ rest) more h = h
stops line ((at, (Group text)) ∷ rest) more h = h
stops line ((at, (Metadata text)) ∷ rest) more h = h
stops line ((at, (Quoted text)) ∷ rest) more h = h
stops line ((at, (Mark byte)) ∷ rest) more h = h

items_on : (line : ℕ) → Frames (ItemsOn line)
items_on line more tokens rest (xs, taken, h, same, all) =
    (xs, taken, each SpellsItem item xs more tokens rest h, ap (λ l. l ++ more) same ∙ append_assoc taken rest more, all)

close : Frames SpellsClose
close more tokens rest (line, stop, h) = (line, stops line rest more stop, both (IsOn line (Mark marks.close_paren)) (ItemsOn line) (on line _) (items_on line) more tokens rest h)

marker : Frames SpellsMarker
marker more tokens rest (unmarked h) = unmarked (none more tokens rest h)
marker more tokens rest (tail_marker h) = tail_marker (is _ more tokens rest h)
marker more tokens rest (notail h) = notail (is _ more tokens rest h)

call : (w : RawCall) → Frames (SpellsCall w)
call w =
    both _ _ marker (both _ _ (on w.line _) (both _ _ items_framed (both _ _ (type w.width) (both _ _ (callee (intrinsic_of w.arguments, w.named))
    (both _ _ (is _) (both _ _ (call_arguments w.arguments) close))))))

-- ---- instructions

flags : (taken fs : Flags) → Frames (SpellsFlags taken fs)
flags taken fs more tokens rest (written, adds, h) = (written, adds, each _ (λ flag. is _) written more tokens rest h)

two_values : (width : ℕ) (a b : RawOperand) → Frames (SpellsType width ⨾ SpellsOperand width a ⨾ Comma ⨾ SpellsOperand width b)
two_values width a b = both _ _ (type width) (both _ _ (operand width a) (both _ _ (is _) (operand width b)))

incoming : (width : ℕ) (i : RawIncoming) → Frames (SpellsIncoming width i)
incoming width i = both _ _ (is _) (both _ _ (operand width i.value) (both _ _ (is _) (both _ _ (register i.block) (is _))))

an_opcode : (opcode : Opcode) → Frames (IsOpcode opcode)
an_opcode opcode more tokens rest (own, h) = (own, is _ more tokens rest h)

op : (o : RawOp) → Frames (SpellsOp o)
op (Binary opcode fs width a b) = both _ _ (an_opcode opcode) (both _ _ (flags (flags_of opcode) fs) (two_values width a b))
op (Compare pred samesign width a b) = both _ _ (is _) (both _ _ (flags flags_of_icmp (icmp_flags samesign)) (both _ _ (is _) (two_values width a b)))
op (Call w) = call w
op (Select c a b) = both _ _ (is _) (both _ _ (typed c) (both _ _ (is _) (both _ _ (typed a) (both _ _ (is _) (typed b)))))
op (Convert cast fs from a to) = both _ _ (is _) (both _ _ (flags (flags_of_cast cast) fs) (both _ _ (type from) (both _ _ (operand from a) (both _ _ (is _) (type to)))))
op (Freeze width a) = both _ _ (is _) (typed_value width a)
op (Phi width incomings) = both _ _ (is _) (both _ _ (type width) (separated (SpellsIncoming width) (incoming width) incomings))

inst : (i : RawInst) → Frames (SpellsInst i)
inst i = both _ _ (register i.result) (both _ _ (is _) (both _ _ (op i.op) tail))

-- ---- terminators

a_case : (c : RawCase) → Frames (SpellsCase c)
a_case c more tokens rest (value, h) = (value, both _ _ (type c.width) (both _ _ (operand c.width c.value) (both _ _ (is _) (target c.target))) more tokens rest h)

cases : (cs : List RawCase) → Frames (SpellsCases cs)
cases cs = both _ _ (is _) (both _ _ (each SpellsCase a_case cs) (is _))

terminator : (line : ℕ) (t : RawTerminator) → Frames (SpellsTerminator line t)
terminator line (Return width a) = both _ _ (on line _) (typed_value width a)
terminator line Unreachable = on line _
terminator line (Jump to) = both _ _ (on line _) (target to)
terminator line (Branch width a to other) = both _ _ (on line _) (both _ _ (type width) (both _ _ (operand width a) (both _ _ (is _) (both _ _ (target to) (both _ _ (is _) (target other))))))
terminator line (Switch width a other cs) = both _ _ (on line _) (both _ _ (type width) (both _ _ (operand width a) (both _ _ (is _) (both _ _ (target other) (cases cs)))))

-- ---- functions

label : (l : RawIdentifier) → Frames (SpellsLabel l)
label l more tokens rest (written, same, h) = (written, same, on l.line _ more tokens rest h)

block : (b : RawBlock) → Frames (SpellsBlock b)
block b = both _ _ (maybe SpellsLabel label b.label) (both _ _ (each SpellsInst inst b.insts) (both _ _ (terminator b.end_line b.end) tail))

labelled_block : (b : RawBlock) → Frames (SpellsLabelledBlock b)
labelled_block b more tokens rest (labelled, h) = (labelled, block b more tokens rest h)

blocks : (bs : List RawBlock) → Frames (SpellsBlocks bs)
blocks [] more tokens rest h = absurd h
blocks (b ∷ bs) more tokens rest h = both (SpellsBlock b) (Each SpellsLabelledBlock bs) (block b) (each SpellsLabelledBlock labelled_block bs) more tokens rest h

parameter : (p : RawParameter) → Frames (SpellsParameter p)
parameter p = both _ _ (type p.width) (both _ _ (each SpellsItem item p.items) (maybe SpellsRegister register p.name))

parameter_list : (ps : List RawParameter) → Frames (SpellsParameterList ps)
parameter_list [] = none
parameter_list (p ∷ ps) = separated SpellsParameter parameter (p ∷ ps)

parameters : (ps : List RawParameter) → Frames (SpellsParameters ps)
parameters ps = both _ _ (is _) (both _ _ (parameter_list ps) (is _))

name : (line : ℕ) (n : List ℕ) → Frames (SpellsName line n)
name line n more tokens rest (written, same, h) = (written, same, on line _ more tokens rest h)

body : (bs : List RawBlock) → Frames (SpellsBody bs)
body bs = both _ _ (repeated Attachment attachment) (both _ _ (is _) (both _ _ (blocks bs) (is _)))

function : (f : RawFunction) → Frames (SpellsFunction f)
function f = both _ _ (is _) (both _ _ (each SpellsItem item f.before) (both _ _ (type f.width) (both _ _ (name f.line f.name)
    (both _ _ (parameters f.parameters) (both _ _ (each SpellsItem item f.after) (body f.blocks))))))

pub entry : (e : RawEntry) → Frames (SpellsEntry e)
entry (entries.Kept text) = is _
entry (entries.Function f) = function f
