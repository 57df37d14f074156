-- Viable prefixes of instructions. A `,` behind a `phi` begins an incoming value or an attachment, and the token behind
-- the `,` decides which.
use Rattle.ir_viable_prefixes.proofs.Common.{◌≡◌, ◌<◌, ◌≤◌, ℕ, zero, suc, Bool, true, false, List, [], ◌∷◌, ◌++◌, length, Option, Some, None, Ok, Err, refl, sym, ap, subst, ◌∙◌, inl, inr, arith, length-append, Token, Placed, Word, Register, Mark, RawOp, Phi, RawIncoming, RawInst, Fault, IrFaultKind, codes, append_cancel_right, Operation, call_word_at, Read, Reader, goes_on, ◌>>=◌, done, repeat_at, another_at, operation_in, operation_word, same_behind, each-done, repeat-done, mark_at-is, bind_ok, read_as, operation_in-is, tail-takes, incoming-takes, inst-takes, CallStands}
use Rattle.ir_instructions.specs.declared.word.Operation.TheVariants as operations
use Rattle.ir_instructions.specs.InstructionReaders as parsing
use Rattle.ir_instructions.specs.Punctuation as marks
use Rattle.ir_instructions.proofs.Shorter.{token}
use Rattle.ir_viable_prefixes.proofs.Choices.{Tested, tested_next, And, Either, either_outcome, either_sample, reasons_transferred, same-good, same_open}
use Rattle.ir_viable_prefixes.specs.Calls as calls
use Rattle.ir_viable_prefixes.proofs.Calls.{CalleeOr, StandsTyped, StandsMarked, MarkedWhy, callee_second, callee_told, Called, called_sample, called_outcome, called_splits, call_from, marked_sample, marked_outcome, marked_splits, marked_from}
use Rattle.ir_viable_prefixes.proofs.Endings.{Ending, ending-good}
use Rattle.ir_viable_prefixes.proofs.Outcomes.{Follow, next_map, Anything, Ended, Sample, sample_both, Why, Reasons, reasons_first, reasons_second, IsReadIf, OutcomeIf, Outcome, outcome_both, apart_new, StaysNew, New, free_second, both, Good, GoodOpen, done-good, ◌then◌, ◌then_open◌}
use Rattle.ir_viable_prefixes.proofs.Repeats.{Steps, steps_of, loop_sample, loop_lifts, repeat_outcomes, another, one_step, another_takes, another_apart}
use Rattle.ir_viable_prefixes.proofs.FlagRuns.{NoFlagNext, new_behind, ReadsApart, Splits, apart_splits, both_splits, loop_splits, done_apart, both_apart, loop_apart}
use Rattle.ir_viable_prefixes.proofs.Statements.{NotComma, NotRegister, mark_shut, mark_open, metadata_shut, metadata_open, register_shut, register_open, mark_records, metadata_records, register_records, mark_next, metadata_next, register_next, attachment-good, binary-good, compare-good, select-good, convert-good, freeze-good, incoming-good}
use Rattle.ir_viable_prefixes.proofs.TokenReaders.{mark-good, a_register, register-good, type-good, placed_operation, opcode_at, opcode-good}

-- sequencing of parsers is associative
assoc : {A B C : Type 0} (r : Read A) (f : A → Reader B) (g : B → Reader C) → goes_on (goes_on r f) g ≡ goes_on r (λ x. f x >>= g)
assoc (Ok x) f g = refl
assoc (Err e) f g = refl

-- ---- further incoming values, and attachments

-- further incoming values behind those in front, and attachments
abbrev Others : {A : Type 0} → ℕ → (List RawIncoming → A) → List RawIncoming → Reader A
Others width f front = parsing.incomings_at width front >>= λ incomings. Ending (f incomings)

-- the same behind a `,`
abbrev BehindComma : {A : Type 0} → ℕ → (List RawIncoming → A) → List RawIncoming → Reader A
BehindComma width f front = Either parsing.is_metadata (parsing.attachment_at >>= λ u. Ending (f front)) (parsing.incoming_at width >>= λ i. Others width f (front ++ i ∷ []))

no_incoming : (tokens : List Placed) → parsing.is_mark marks.comma tokens ≡ false → parsing.begins_incoming tokens ≡ false
no_incoming ((line, Mark m) ∷ rest) none = rw none refl
no_incoming tokens none = refl

no_others : {A : Type 0} (width : ℕ) (f : List RawIncoming → A) (front : List RawIncoming) (tokens : List Placed) → parsing.is_mark marks.comma tokens ≡ false → Others width f front tokens ≡ done (f front) tokens
unfolding parsing.tail_at
no_others width f front tokens none =
    rw (each-done parsing.begins_incoming (parsing.further_incoming_at width) front tokens (no_incoming tokens none), repeat-done (parsing.is_mark marks.comma) (λ before. parsing.tail_attachment_at) tt tokens none) refl

others_behind : {A : Type 0} (width : ℕ) (f : List RawIncoming → A) (front : List RawIncoming) (tokens : List Placed) → parsing.is_mark marks.comma tokens ≡ true
    → Others width f front tokens ≡ (parsing.mark_at marks.comma >>= λ u. BehindComma width f front) tokens
unfolding parsing.tail_at parsing.tail_attachment_at parsing.further_incoming_at parsing.mark_at
others_behind {A} width f front ((line, Mark m) ∷ rest) next = by (parsing.is_metadata rest) refl
  where
    by : (b : Bool) → parsing.is_metadata rest ≡ b → Others width f front ((line, Mark m) ∷ rest) ≡ (parsing.mark_at marks.comma >>= λ u. BehindComma width f front) ((line, Mark m) ∷ rest)
    by true h =
        let none : parsing.begins_incoming ((line, Mark m) ∷ rest) ≡ false = rw (next, h) refl in
        rw (
          each-done parsing.begins_incoming (parsing.further_incoming_at width) front ((line, Mark m) ∷ rest) none,
          one_step (parsing.is_mark marks.comma) (λ before. parsing.tail_attachment_at) (λ before. tail-takes) tt ((line, Mark m) ∷ rest) next,
          next,
          h,
        ) (assoc (parsing.attachment_at rest) _ _)
    by false h =
        let more : parsing.begins_incoming ((line, Mark m) ∷ rest) ≡ true = rw (next, h) refl in
        rw (
          one_step parsing.begins_incoming (another_at (parsing.further_incoming_at width)) (another_takes parsing.begins_incoming (parsing.further_incoming_at width) (incoming-takes width)) front ((line, Mark m) ∷ rest) more,
          next,
          h,
        ) (incoming (parsing.incoming_at width rest))
      where
        incoming : (r : Read RawIncoming) → goes_on (goes_on (goes_on r (λ i. done (front ++ i ∷ []))) (parsing.incomings_at width)) (λ incomings. Ending (f incomings)) ≡ goes_on r (λ i. Others width f (front ++ i ∷ []))
        incoming (Ok i) = refl
        incoming (Err e) = refl
others_behind width f front tokens next = absurd cc

no_longer : {A : Type 0} {V W : Type 0} {E F : Follow} {R : Reader A} {tokens : List Placed} {x : A} {rest : List Placed} → IsReadIf V E R F W tokens x rest → length rest ≤ length tokens
no_longer {tokens = tokens} {rest = rest} o = let same : length tokens ≡ length (o.front ++ rest) = ap length o.there in omega (arith, same, length-append o.front rest)

read_less : {A : Type 0} (E F : Follow) (R : Reader A) (W : Why) (tokens : List Placed) (r : Read A) (y : A × List Placed) → r ≡ Ok y → Outcome E R F W tokens r → length y.1 ≤ length tokens
read_less {A} E F R W tokens (Ok x) y is o = let less : length x.1 ≤ length tokens = no_longer o in let same : x.1 ≡ y.1 = cc in rw (← same) less
read_less E F R W tokens (Err d) y is o = absurd cc

-- an attachment behind the `,`, and further ones
attached-good : {A : Type 0} (x : A) → Good (And Anything (Tested parsing.is_metadata true)) (parsing.attachment_at >>= λ u. Ending x) NotComma
attached-good x = attachment-good (tt, refl) then (λ u. ending-good x)

begun-good : (width : ℕ) → Good (And Anything (Tested parsing.is_metadata false)) (parsing.incoming_at width) Anything
begun-good width = incoming-good width (tt, refl)

comma-good : Good (Tested (parsing.is_mark marks.comma) true) (parsing.mark_at marks.comma) Anything
comma-good = mark-good marks.comma refl

further-good : (width : ℕ) → Good Anything (parsing.further_incoming_at width) Anything
unfolding parsing.further_incoming_at
further-good width = mark-good marks.comma tt then (λ u. incoming-good width tt)

others-good : {A : Type 0} (width : ℕ) (f : List RawIncoming → A) (front : List RawIncoming) → Good Anything (Others width f front) NotComma
others-good {A} width f front = record { sample = some front; outcome = λ tokens e. outcomes (suc (length tokens)) front tokens (omega arith) e; apart = apart }
  where
    apart : ReadsApart (Others width f front)
    apart =
        both_apart (parsing.incomings_at width front) (λ incomings. Ending (f incomings))
        (loop_apart parsing.begins_incoming (another_at (parsing.further_incoming_at width)) (another_apart (parsing.further_incoming_at width) (further-good width).apart) front) (λ incomings. (ending-good (f incomings)).apart)

    some : (front : List RawIncoming) → Sample Anything (Others width f front) NotComma
    some front =
        (f front, [], λ tokens next. (no_others width f front tokens (tested_next (parsing.is_mark marks.comma) (mark_next marks.comma) false tokens next), next_map NotComma Anything tokens (λ t is. tt) next))

    behind : (front : List RawIncoming) (tokens : List Placed) → Ended tokens
        → ((y : RawIncoming × List Placed) → length y.1 ≤ length tokens → Ended y.1 → Outcome Anything (Others width f (front ++ y.0 ∷ [])) NotComma (Reasons Anything (Others width f (front ++ y.0 ∷ [])) NotComma) y.1 (Others width f (front ++ y.0 ∷ []) y.1))
        → Outcome Anything (BehindComma width f front) NotComma (Reasons Anything (BehindComma width f front) NotComma) tokens (BehindComma width f front tokens)
    behind front tokens e more =
        either_outcome (Unit {0}) Anything NotComma (parsing.attachment_at >>= λ u. Ending (f front)) (parsing.incoming_at width >>= λ i. Others width f (front ++ i ∷ [])) parsing.is_metadata metadata_next metadata_open metadata_shut metadata_records tokens
        (λ next. (attached-good (f front)).outcome tokens e)
        (λ next.
        both (Unit {0}) (Unit {0}) (Unit {0}) (And Anything (Tested parsing.is_metadata false)) Anything NotComma (parsing.incoming_at width) (λ i. Others width f (front ++ i ∷ [])) (begun-good width).apart (λ i. some (front ++ i ∷ [])) tokens ((begun-good width).outcome tokens e)
        (λ y is ended.
        more y (read_less (And Anything (Tested parsing.is_metadata false)) Anything (parsing.incoming_at width) (Reasons (And Anything (Tested parsing.is_metadata false)) (parsing.incoming_at width) Anything) tokens (parsing.incoming_at width tokens) y is ((begun-good width).outcome tokens e)) ended))

    samples : (front : List RawIncoming) → Sample Anything (BehindComma width f front) NotComma
    samples front = either_sample Anything NotComma (parsing.attachment_at >>= λ u. Ending (f front)) (parsing.incoming_at width >>= λ i. Others width f (front ++ i ∷ [])) parsing.is_metadata metadata_next (attached-good (f front)).sample

    by : (front : List RawIncoming) (tokens : List Placed) → Ended tokens
        → ((front : List RawIncoming) (rest : List Placed) → length rest < length tokens → Ended rest → Outcome Anything (Others width f front) NotComma (Reasons Anything (Others width f front) NotComma) rest (Others width f front rest))
        → (b : Bool) → parsing.is_mark marks.comma tokens ≡ b → Outcome Anything (Others width f front) NotComma (Reasons Anything (Others width f front) NotComma) tokens (Others width f front tokens)
    by front tokens e more false none =
        let nothing : Good NotComma (done (f front)) NotComma = done-good (λ t n. n) (f front) in
        subst (Outcome Anything (Others width f front) NotComma (Reasons Anything (Others width f front) NotComma) tokens) (sym (no_others width f front tokens none))
        (reasons_transferred (parsing.is_mark marks.comma) (mark_next marks.comma) false (done (f front)) (Others width f front) (no_others width f front) (Unit {0}) (Unit {0}) (Unit {0}) (λ v. v) (mark_shut marks.comma) NotComma Anything NotComma (λ t begins says. let r = mark_records marks.comma refl false t begins says in (inr r.0, λ end. r.1)) (λ t d. d) (λ t d. tt) tokens none (Ok (f front, tokens)) (nothing.outcome tokens e))
    by front tokens e more true next =
        subst (Outcome Anything (Others width f front) NotComma (Reasons Anything (Others width f front) NotComma) tokens) (sym (others_behind width f front tokens next))
        (reasons_transferred (parsing.is_mark marks.comma) (mark_next marks.comma) true (parsing.mark_at marks.comma >>= λ u. BehindComma width f front) (Others width f front) (others_behind width f front) (Unit {0}) (Unit {0}) (Unit {0}) (λ v. v) (mark_open marks.comma refl) (Tested (parsing.is_mark marks.comma) true) Anything NotComma (λ t begins says. let r = mark_records marks.comma refl true t begins says in (inr r.0, λ end. r.1)) (λ t d. d) (λ t d. tt) tokens next
        ((parsing.mark_at marks.comma >>= λ u. BehindComma width f front) tokens)
        (both (Unit {0}) (Unit {0}) (Unit {0}) (Tested (parsing.is_mark marks.comma) true) Anything NotComma (parsing.mark_at marks.comma) (λ u. BehindComma width f front) comma-good.apart (λ u. samples front) tokens (comma-good.outcome tokens e)
        (λ x is ended_here.
        let fewer : length x.1 < length tokens = token (Mark marks.comma) tokens x.1 (mark_at-is marks.comma tokens x is) in
        behind front x.1 ended_here (λ y less ended_there. more (front ++ y.0 ∷ []) y.1 (omega arith) ended_there))))

    outcomes : (n : ℕ) (front : List RawIncoming) (tokens : List Placed) → length tokens < n → Ended tokens → Outcome Anything (Others width f front) NotComma (Reasons Anything (Others width f front) NotComma) tokens (Others width f front tokens)
    outcomes zero front tokens short e = absurd (omega arith)
    outcomes (suc n) front tokens short e = by front tokens e (λ others rest fewer ended. outcomes n others rest (omega arith) ended) (parsing.is_mark marks.comma tokens) refl

-- ---- instructions

-- a `phi` and its attachments
phi_ending : {A : Type 0} (f : RawOp → A) (tokens : List Placed)
    → (parsing.phi_at >>= λ op. Ending (f op)) tokens ≡ (parsing.type_at >>= λ width. parsing.incoming_at width >>= λ first. Others width (λ incomings. f (Phi width incomings)) (first ∷ [])) tokens
unfolding parsing.phi_at
phi_ending f tokens =
    assoc (parsing.type_at tokens) _ _
    ∙ same_behind (parsing.type_at tokens) _ _ (λ x is.
    assoc (parsing.incoming_at x.0 x.1) _ _ ∙ same_behind (parsing.incoming_at x.0 x.1) _ _ (λ y is_first. assoc (parsing.incomings_at x.0 (y.0 ∷ []) y.1) _ _))

phi-good : {A : Type 0} (f : RawOp → A) → Good Anything (parsing.phi_at >>= λ op. Ending (f op)) NotComma
phi-good f = same-good (phi_ending f) (type-good tt then (λ width. incoming-good width tt then (λ first. others-good width (λ incomings. f (Phi width incomings)) (first ∷ []))))

-- the parser of an operation behind its word, with attachments and the result mapped
abbrev pub Behind : {A : Type 0} → (RawOp → A) → ℕ → Operation → Reader A
Behind f line operations.Call = Called f line
Behind f line operations.Tail = call_word_at >>= Called f
Behind f line operations.NoTail = call_word_at >>= Called f
Behind f line operation = parsing.operation_at line operation >>= λ op. Ending (f op)

abbrev pub BehindWord : {A : Type 0} → (RawOp → A) → ℕ × Operation → Reader A
BehindWord f o = Behind f o.0 o.1

same_behind_word : {A : Type 0} (f : RawOp → A) (line : ℕ) (operation : Operation) (tokens : List Placed) → (parsing.operation_at line operation >>= λ op. Ending (f op)) tokens ≡ Behind f line operation tokens
same_behind_word f line operations.Call tokens = call_from f line tokens
same_behind_word f line operations.Tail tokens = marked_from f tokens
same_behind_word f line operations.NoTail tokens = marked_from f tokens
same_behind_word f line operation tokens = refl

-- the reason of a refusal behind the word of an operation
abbrev pub BehindWhy : {A : Type 0} → (RawOp → A) → ℕ → Operation → Why
BehindWhy f line operations.Call = CalleeOr (Called f line) NotComma line StandsTyped
BehindWhy f line operations.Tail = MarkedWhy f
BehindWhy f line operations.NoTail = MarkedWhy f
BehindWhy f line operation = Reasons Anything (Behind f line operation) NotComma

pub behind_open : {A : Type 0} (f : RawOp → A) (line : ℕ) (operation : Operation)
    → Sample Anything (Behind f line operation) NotComma × ((tokens : List Placed) → Ended tokens → OutcomeIf (Unit {0}) Anything (Behind f line operation) NotComma (Unit {0}) (BehindWhy f line operation) tokens (Behind f line operation tokens)) × Splits (Behind f line operation)
behind_open f line operations.Call = (called_sample f line, called_outcome f line, called_splits f line)
behind_open f line operations.Tail = (marked_sample f, marked_outcome f, marked_splits f)
behind_open f line operations.NoTail = (marked_sample f, marked_outcome f, marked_splits f)
behind_open f line (operations.Binary op) = let r = binary-good op then (λ o. ending-good (f o)) in (r.sample, r.outcome, apart_splits r.apart)
behind_open f line operations.Compare = let r = compare-good then (λ o. ending-good (f o)) in (r.sample, r.outcome, apart_splits r.apart)
behind_open f line operations.Select = let r = select-good then (λ o. ending-good (f o)) in (r.sample, r.outcome, apart_splits r.apart)
behind_open f line (operations.Convert cast) = let r = convert-good cast then (λ o. ending-good (f o)) in (r.sample, r.outcome, apart_splits r.apart)
behind_open f line operations.Freeze = let r = freeze-good then (λ o. ending-good (f o)) in (r.sample, r.outcome, apart_splits r.apart)
behind_open f line operations.Phi = let r = phi-good f in (r.sample, r.outcome, apart_splits r.apart)

pub behind_sample : {A : Type 0} (f : RawOp → A) (o : ℕ × Operation) → Sample Anything (BehindWord f o) NotComma
behind_sample f o = (behind_open f o.0 o.1).0

-- the word of an operation that was read
pub opcode_read : (tokens : List Placed) (x : (ℕ × Operation) × List Placed) → opcode_at tokens ≡ Ok x → tokens ≡ (x.0.0, Word (operation_word x.0.1)) ∷ x.1
opcode_read [] x is = absurd cc
opcode_read ((line, Word w) ∷ rest) x is = by (operation_in w) refl is
  where
    by : (operation : Option Operation) → operation_in w ≡ operation → placed_operation line w operation rest ≡ Ok x → (line, Word w) ∷ rest ≡ (x.0.0, Word (operation_word x.0.1)) ∷ x.1
    by (Some operation) h read = read_as (λ z. (line, Word w) ∷ rest ≡ (z.0.0, Word (operation_word z.0.1)) ∷ z.1) ((line, operation), rest) x read (ap (λ (v : List ℕ). (line, Word v) ∷ rest) (operation_in-is w operation h))
    by None h read = absurd cc
opcode_read ((line, t) ∷ rest) x is = absurd cc

-- `=`, and the word of an operation with its line
abbrev pub Opcode : Reader (ℕ × Operation)
Opcode = parsing.mark_at marks.equals >>= λ u. opcode_at

pub equals_opcode-good : Good Anything Opcode Anything
equals_opcode-good = mark-good marks.equals tt then (λ u. opcode-good)

equals_read : (tokens : List Placed) (x : (ℕ × Operation) × List Placed) → Opcode tokens ≡ Ok x → (l : ℕ) × (tokens ≡ (l, Mark marks.equals) ∷ (x.0.0, Word (operation_word x.0.1)) ∷ x.1)
equals_read tokens x is =
    let one = bind_ok (parsing.mark_at marks.equals tokens) (λ u. opcode_at) x is in
    let mark = mark_at-is marks.equals tokens one.0 one.1 in
    (mark.0, mark.1 ∙ ap (λ (ts : List Placed). (mark.0, Mark marks.equals) ∷ ts) (opcode_read one.0.1 x one.2))

-- the two tokens that are read so
begun_by : (tokens : List Placed) (line : ℕ) (operation : Operation) (rest : List Placed) → Opcode tokens ≡ Ok ((line, operation), rest) → (o : IsReadIf (Unit {0}) Anything Opcode Anything (Unit {0}) tokens (line, operation) rest)
    → (l : ℕ) × ((l, Mark marks.equals) ∷ (line, Word (operation_word operation)) ∷ [] ≡ o.front)
begun_by tokens line operation rest is o =
    let r = equals_read tokens ((line, operation), rest) is in
    (r.0, append_cancel_right ((r.0, Mark marks.equals) ∷ (line, Word (operation_word operation)) ∷ []) o.front rest (sym r.1 ∙ o.there))

op_lifts : {A : Type 0} (f : RawOp → A) (tokens : List Placed) (line : ℕ) (operation : Operation) (rest : List Placed) → Opcode tokens ≡ Ok ((line, operation), rest) → (o : IsReadIf (Unit {0}) Anything Opcode Anything (Unit {0}) tokens (line, operation) rest)
    → (front : List Placed) (t : Placed) (behind : List Placed) → rest ≡ front ++ t ∷ behind → (found : Fault IrFaultKind) → BehindWhy f line operation front t found → Reasons Anything (Opcode >>= BehindWord f) NotComma (o.front ++ front) t found
op_lifts f tokens line operations.Call rest is o front t behind there found why =
    let b = begun_by tokens line operations.Call rest is o in
    callee_told (Opcode >>= BehindWord f) NotComma line (o.front ++ front) t found
    (callee_second NotComma Opcode (BehindWord f) (behind_sample f) line StandsTyped (CallStands line) tokens ((line, operations.Call), rest) o
    (λ ts stands. subst (λ (first : List Placed). CallStands line (first ++ ts)) b.1 ([], (b.0, Mark marks.equals) ∷ (line, Word (codes "call")) ∷ [], ts, stands.0, calls.plain b.0, refl, stands.1))
    front t behind there found why)
op_lifts f tokens line operations.Tail rest is o front t behind there found why =
    let b = begun_by tokens line operations.Tail rest is o in
    callee_told (Opcode >>= BehindWord f) NotComma why.0 (o.front ++ front) t found
    (callee_second NotComma Opcode (BehindWord f) (behind_sample f) why.0 (StandsMarked why.0) (CallStands why.0) tokens ((line, operations.Tail), rest) o
    (λ ts stands.
    subst (λ (first : List Placed). CallStands why.0 (first ++ ts)) b.1 (
      [],
      (b.0, Mark marks.equals) ∷ (line, Word (codes "tail")) ∷ (why.0, Word (codes "call")) ∷ [],
      stands.0,
      stands.2.0,
      calls.tail b.0 line,
      ap (λ (us : List Placed). (b.0, Mark marks.equals) ∷ (line, Word (codes "tail")) ∷ us) stands.1,
      stands.2.1,
    ))
    front t behind there found why.1)
op_lifts f tokens line operations.NoTail rest is o front t behind there found why =
    let b = begun_by tokens line operations.NoTail rest is o in
    callee_told (Opcode >>= BehindWord f) NotComma why.0 (o.front ++ front) t found
    (callee_second NotComma Opcode (BehindWord f) (behind_sample f) why.0 (StandsMarked why.0) (CallStands why.0) tokens ((line, operations.NoTail), rest) o
    (λ ts stands.
    subst (λ (first : List Placed). CallStands why.0 (first ++ ts)) b.1 (
      [],
      (b.0, Mark marks.equals) ∷ (line, Word (codes "notail")) ∷ (why.0, Word (codes "call")) ∷ [],
      stands.0,
      stands.2.0,
      calls.no_tail b.0 line,
      ap (λ (us : List Placed). (b.0, Mark marks.equals) ∷ (line, Word (codes "notail")) ∷ us) stands.1,
      stands.2.1,
    ))
    front t behind there found why.1)
op_lifts f tokens line operation rest is o front t behind there found why =
    reasons_second (Unit {0}) (Unit {0}) Anything Anything NotComma Opcode (BehindWord f) (behind_sample f) tokens ((line, operation), rest) o front t behind there found why

pub op-open : {A : Type 0} (f : RawOp → A) → GoodOpen Anything (Opcode >>= BehindWord f) NotComma
op-open f = record {
  sample = sample_both Anything Anything NotComma Opcode (BehindWord f) equals_opcode-good.sample (behind_sample f);
  outcome = λ tokens e.
      outcome_both (Unit {0}) (Unit {0}) (Unit {0}) Anything Anything NotComma Opcode (BehindWord f) (Reasons Anything Opcode Anything) (λ o. BehindWhy f o.0 o.1) (Reasons Anything (Opcode >>= BehindWord f) NotComma) tokens
      (record {
        first = λ front t behind there found why. reasons_first (Unit {0}) Anything Anything NotComma Opcode (BehindWord f) (behind_sample f) front t found why;
        second = λ x is o front t behind there found why. op_lifts f tokens x.0.0 x.0.1 x.1 is o front t behind there found why;
      })
      (apart_new (Unit {0}) (Unit {0}) Anything Anything NotComma Opcode (BehindWord f) (λ o. BehindWhy f o.0 o.1) tokens equals_opcode-good.apart)
      (behind_sample f) (Opcode tokens) refl (equals_opcode-good.outcome tokens e) (λ x is ended. (behind_open f x.0.0 x.0.1).1 x.1 ended);
  splits = both_splits Opcode (BehindWord f) (apart_splits equals_opcode-good.apart) (λ o. (behind_open f o.0 o.1).2);
}

op_ending : {A : Type 0} (f : RawOp → A) (tokens : List Placed) → (parsing.op_at >>= λ op. Ending (f op)) tokens ≡ (opcode_at >>= BehindWord f) tokens
unfolding parsing.op_at
op_ending f ((line, Word w) ∷ rest) = by (operation_in w) refl
  where
    by : (operation : Option Operation) → operation_in w ≡ operation → (parsing.op_at >>= λ op. Ending (f op)) ((line, Word w) ∷ rest) ≡ (opcode_at >>= BehindWord f) ((line, Word w) ∷ rest)
    by (Some operation) h = rw h (same_behind_word f line operation rest)
    by None h = rw h refl
op_ending f tokens = refl

pub equals_ending : {A : Type 0} (f : RawOp → A) (tokens : List Placed) → (parsing.mark_at marks.equals >>= λ u. parsing.op_at >>= λ op. Ending (f op)) tokens ≡ (Opcode >>= BehindWord f) tokens
equals_ending f tokens =
    same_behind (parsing.mark_at marks.equals tokens) (λ u. parsing.op_at >>= λ op. Ending (f op)) (λ u. opcode_at >>= BehindWord f) (λ x is. op_ending f x.1) ∙ sym (assoc (parsing.mark_at marks.equals tokens) (λ u. opcode_at) (BehindWord f))

pub inst-open : {E : Follow} → E a_register → GoodOpen E parsing.inst_at NotComma
unfolding parsing.inst_at
inst-open e =
    register-good e then_open (λ result. same_open (equals_ending (λ op. record { result = result; op = op })) (op-open (λ op. record { result = result; op = op })))

pub register_is_no_comma : (t : Token) → Tested parsing.is_register true t → NotComma t
register_is_no_comma (Register name) next = refl
register_is_no_comma t next = absurd cc

-- ---- any number of instructions

abbrev pub Step : List RawInst → Reader (List RawInst)
Step = another_at parsing.inst_at

abbrev pub Loop : List RawInst → Reader (List RawInst)
Loop = repeat_at parsing.is_register Step

register_no_flag : (tokens : List Placed) → parsing.is_register tokens ≡ true → NoFlagNext tokens
register_no_flag [] next = tt
register_no_flag ((line, Register written) ∷ rest) next = λ flag same. cc
register_no_flag ((line, t) ∷ rest) next = absurd cc

pub insts-open : {E F : Follow} → ((t : Token) → F t → NotComma t) → ((t : Token) → F t → NotRegister t) → ((t : Token) → F t → E t) → ((t : Token) → Tested parsing.is_register true t → E t) → GoodOpen E parsing.insts_at F
unfolding parsing.insts_at
insts-open {E} {F} no_comma no_register enters next_enters = record {
  sample = loop_sample (Unit {0}) NotComma F (Unit {0}) parsing.is_register Step steps E enters [];
  outcome = λ tokens e.
      repeat_outcomes (Unit {0}) NotComma F (Unit {0}) parsing.is_register Step steps (λ a. Reasons (Tested parsing.is_register true) (Step a) NotComma) (λ G a. Reasons G (Loop a) F)
      (loop_lifts (Unit {0}) NotComma F (Unit {0}) parsing.is_register Step steps) (λ a ts. new a ts)
      (λ a ts ended next. another (Unit {0}) (Tested parsing.is_register true) NotComma parsing.inst_at a ts ((inst-open {E = Tested parsing.is_register true} refl).outcome ts ended)) (suc (length tokens)) E enters next_enters [] tokens (omega arith) e;
  splits = loop_splits parsing.is_register Step (λ a. both_splits parsing.inst_at (λ x. done (a ++ x ∷ [])) (inst-open {E = Anything} tt).splits (λ x. apart_splits (done_apart (a ++ x ∷ [])))) [];
}
  where
    steps : Steps (Unit {0}) NotComma F (Unit {0}) parsing.is_register Step
    steps = steps_of (record { asks = register_next; takes = inst-takes; ends = no_register; ends_part = no_comma; next_ends_part = register_is_no_comma; opens = register_open; shuts = register_shut; records = λ a b t begins h. let r = register_records b t begins h in (inr r.0, λ end. r.1) })

    -- where no register is next, nothing is refused; where one is, no flag is
    new : (a : List RawInst) (tokens : List Placed) → StaysNew (Unit {0}) (Unit {0}) (Tested parsing.is_register true) NotComma F (Step a) Loop (λ b. Reasons NotComma (Loop b) F) tokens
    new a tokens x is o found p failed left = by (parsing.is_register x.1) refl
      where
        the_read : Read (List RawInst) → Read (List RawInst)
        the_read r = r

        by : (b : Bool) → parsing.is_register x.1 ≡ b → New (Unit {0}) (Step a >>= Loop) (o.front ++ p.front) p.token.1
        by false none = let both : the_read (Ok (x.0, x.1)) ≡ the_read (Err found) = sym (repeat-done parsing.is_register Step x.0 x.1 none) ∙ failed in absurd cc
        by true next = of (p.new left)
          where
            of : New (Unit {0}) (Loop x.0) p.front p.token.1 → New (Unit {0}) (Step a >>= Loop) (o.front ++ p.front) p.token.1
            of (inl n) = inl (new_behind o.front p.front p.token.0 p.token.1 p.behind (inr (subst NoFlagNext p.there (register_no_flag x.1 next))) n)
            of (inr free) = inr (free_second (Unit {0}) (Unit {0}) (Tested parsing.is_register true) NotComma (Step a) Loop tokens x o p.front p.token p.behind p.there free)
