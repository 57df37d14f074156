-- Where modules read items: in the headers of functions, and in calls.
use Rattle.ir_viable_prefixes.proofs.Common.{◌≡◌, ◌<◌, ℕ, zero, suc, Bool, true, false, cond, List, [], ◌∷◌, ◌++◌, length, Option, Some, None, Ok, Err, refl, sym, ap, subst, ◌∙◌, inr, append_assoc, arith, length-append, codes, bytes_eq, Identifier, Named, Numbered, identifier_of, Token, Placed, Kept, Label, Word, Register, Function, Group, Mark, RawBlock, RawEntry, RawFunction, RawIdentifier, RawInst, RawParameter, RawTerminator, Fault, IrFaultKind, Syntax, LeftOut, attachments_at, identified, insts_at, inst_at, is_metadata, is_register, terminator_at, Read, Reader, fault, unexpected, goes_on, ◌>>=◌, done, another_at, each_at, repeat-done, each-done, read_as, block-takes, parameter-takes, EndsArgument, comma, close}
use Rattle.ir_tokens.specs.declared.raw.RawEntry.TheVariants as entries
use Rattle.ir_instructions.specs.declared.place.Expected.TheVariants as places
use Rattle.ir_instructions.specs.InstructionReaders.{attachment_at, is_mark, mark_at, tail_at, type_at}
use Rattle.ir_instructions.specs.Places.{misfit}
use Rattle.ir_instructions.specs.Punctuation as marks
use Rattle.ir_parse.specs.ModuleReaders as parsing
use Rattle.ir_viable_prefixes.proofs.CallPlaces.{last_items_ready, last_items_words, items_ready, header_then, type_closes, type_fares, type_places, type_follows, type_not_at_once, type_refuses_ends, mark_not_at_once, mark_then, done_not_at_once, insts_places}
use Rattle.ir_viable_prefixes.proofs.Closed.{Closes, closes_behind, closes_done, mark_closes}
use Rattle.ir_viable_prefixes.proofs.Entries.{entry_token_at, behind_entry, same_entry, IsFirst, entry_token_takes, behind_entry-good, Begins, OrFirst, entry_outcome, entry_steps, Loop, another_outcome, EndsText}
use Rattle.ir_viable_prefixes.proofs.Functions.{NotLabel, label_next, label_open, label_shut, label_records, label_is_no_comma, label-good, FollowsInsts, register_is_no_label, block_behind, block_behind-good, block-good, FollowsBlocks, blocks-good, parameter_name-good, FollowsParameter, parameter-good, further_parameter-good, mark_follows, parameter_list-good, parameters-good, function_name-good, FollowsAttachments, metadata_follows, body-good, function-good}
use Rattle.ir_viable_prefixes.proofs.Instructions.{insts-open}
use Rattle.ir_viable_prefixes.proofs.ItemPlaces.{Faring, fares, good, good_open, Ready, RefusesWords, IsPlace, parameter, place_moved, place_second, the_group, the_end, Whole, Goes, Places, places_same, goes_begun, none_at_once, none_left, then_goes, Rests, later, closed, reads_first, places_then, Placing, placing_then, more_than_end, placing_done, goes_through, no_through, places_none, loop_places}
use Rattle.ir_viable_prefixes.proofs.Items.{FollowsItems, items-good, FollowsLast, last_items-good}
use Rattle.ir_viable_prefixes.proofs.NoGroups.{Taken, none_taken, one_taken, Groupless, done_groupless, both_groupless, mark_groupless, type_groupless, tail_groupless, attachments_groupless, terminator_groupless}
use Rattle.ir_viable_prefixes.proofs.Outcomes.{Follow, Anything, Ended, Reasons, token_outcome, Good, GoodOpen, done-good, ◌then◌}
use Rattle.ir_viable_prefixes.proofs.Reasons.{a_type}
use Rattle.ir_viable_prefixes.proofs.Repeats.{Steps, steps_of, loop_sample, one_step, another, another_takes}
use Rattle.ir_viable_prefixes.proofs.Statements.{NotComma, mark_next, attachments-good, tail-good, terminator-good}
use Rattle.ir_viable_prefixes.proofs.TokenReaders.{mark-good, type-good}

assoc : {A B C : Type 0} (r : Read A) (f : A → Reader B) (g : B → Reader C) → goes_on (goes_on r f) g ≡ goes_on r (λ x. f x >>= g)
assoc (Ok x) f g = refl
assoc (Err e) f g = refl

-- ---- blocks

label_groupless : Groupless parsing.label_at
unfolding parsing.label_at
label_groupless [] x is = read_as (λ y. Taken [] y.1) (None, []) x is (none_taken [] [] refl)
label_groupless ((line, Label written) ∷ rest) x is = read_as (λ y. Taken ((line, Label written) ∷ rest) y.1) (Some (identified line written), rest) x is (one_taken line (Label written) ((line, Label written) ∷ rest) rest refl refl)
label_groupless ((line, t) ∷ rest) x is = read_as (λ y. Taken ((line, t) ∷ rest) y.1) (None, (line, t) ∷ rest) x is (none_taken ((line, t) ∷ rest) ((line, t) ∷ rest) refl)

-- a terminator and its attachments
ended-good : {A : Type 0} (f : ℕ × RawTerminator → A) → Good FollowsInsts (terminator_at >>= λ end. tail_at >>= λ u. done (f end)) NotComma
ended-good f = terminator-good (refl, refl, refl) then (λ end. tail-good then (λ u. done-good (λ t g. g) (f end)))

ended_placing : {A : Type 0} (text : List ℕ) (f : ℕ × RawTerminator → A) → Placing text FollowsInsts (terminator_at >>= λ end. tail_at >>= λ u. done (f end)) NotComma
ended_placing text f = record {
  sample = (ended-good f).sample;
  places = places_none text (good (ended-good f)) (both_groupless terminator_at _ terminator_groupless (λ end. both_groupless tail_at _ tail_groupless (λ u. done_groupless (f end)))) (Mark marks.open_paren) refl;
}

terminator_not_at_once : {B : Type 0} (text : List ℕ) (S : ℕ × RawTerminator → Reader B) → Goes text (terminator_at >>= S) [] → ⊥
unfolding terminator_at unexpected
terminator_not_at_once text S = none_at_once text (terminator_at >>= S) (fault 0 (misfit places.Instruction (Group text))) (λ more. refl)

insts : GoodOpen NotLabel insts_at FollowsInsts
insts = insts-open (λ t f. f.0) (λ t f. f.1) (λ t f. f.2) register_is_no_label

abbrev block_of : Option RawIdentifier → List RawInst → ℕ × RawTerminator → RawBlock
block_of label insts end = record { label = label; insts = insts; end = end.1; end_line = end.0 }

block_behind_placing : (text : List ℕ) (label : Option RawIdentifier) → Placing text NotLabel (block_behind label) NotComma
block_behind_placing text label = placing_then text insts.sample (good_open insts) (insts_places text (λ t f. f.0) (λ t f. f.1)) (λ insts. ended_placing text (block_of label insts)) (later (λ insts. terminator_not_at_once text _))

block_behind_not_at_once : (text : List ℕ) (label : Option RawIdentifier) → Goes text (block_behind label) [] → ⊥
unfolding insts_at
block_behind_not_at_once text label = none_left text (each_at is_register inst_at []) _ [] (λ more. each-done is_register inst_at [] (the_group text ∷ more) refl) (terminator_not_at_once text _)

block_places : (text : List ℕ) → Places text parsing.block_at NotComma
unfolding parsing.block_at
block_places text =
    places_then text (good label-good) (places_none text (good label-good) label_groupless a_type refl) (λ label. (block_behind_placing text label).places) (λ label. (block_behind-good label).sample) (later (block_behind_not_at_once text))

blocks_steps : Steps (Unit {0}) NotComma FollowsBlocks (Unit {0}) parsing.is_label (another_at parsing.block_at)
blocks_steps = steps_of (record { asks = label_next; takes = block-takes; ends = λ t f. f.0; ends_part = λ t f. f.1; next_ends_part = label_is_no_comma; opens = label_open; shuts = label_shut; records = λ a b t begins h. let r = label_records b t begins h in (inr r.0, λ end. r.1) })

others_placing : (text : List ℕ) (a : List RawBlock) → Placing text NotComma (each_at parsing.is_label parsing.block_at a) FollowsBlocks
others_placing text a = record {
  sample = loop_sample (Unit {0}) NotComma FollowsBlocks (Unit {0}) parsing.is_label (another_at parsing.block_at) blocks_steps NotComma (λ t f. f.1) a;
  places = λ front e goes.
      loop_places text (Unit {0}) NotComma FollowsBlocks (Unit {0}) parsing.is_label (another_at parsing.block_at) blocks_steps
      (λ b ts ended. fares (Unit {0}) Anything (another_at parsing.block_at b) NotComma (Unit {0}) (Reasons Anything (another_at parsing.block_at b) NotComma) ts (another (Unit {0}) Anything NotComma parsing.block_at b ts (block-good.outcome ts ended))) (λ b. another_places text b) (λ b. blocks_not_at_once text b) (suc (length front)) a front (omega arith) e goes;
}
  where
    another_places : (text : List ℕ) (b : List RawBlock) → Places text (another_at parsing.block_at b) NotComma
    another_places text b = places_then text (good block-good) (block_places text) (λ x. (placing_done {E = NotComma} text (λ t f. f) (b ++ x ∷ [])).places) (λ x. (done-good {V = Unit {0}} (λ t f. f) (b ++ x ∷ [])).sample) (later (λ x. done_not_at_once text (b ++ x ∷ [])))

    blocks_not_at_once : (text : List ℕ) (b : List RawBlock) → Goes text (each_at parsing.is_label parsing.block_at b) [] → ⊥
    blocks_not_at_once text b goes = more_than_end text [] (goes.read (b, Whole text []) (each-done parsing.is_label parsing.block_at b (Whole text []) refl))

others_not_at_once : (text : List ℕ) (a : List RawBlock) → Goes text (each_at parsing.is_label parsing.block_at a) [] → ⊥
others_not_at_once text a goes = more_than_end text [] (goes.read (a, Whole text []) (each-done parsing.is_label parsing.block_at a (Whole text []) refl))

blocks_places : (text : List ℕ) → Places text parsing.blocks_at FollowsBlocks
unfolding parsing.blocks_at
blocks_places text = places_then text (good block-good) (block_places text) (λ first. (others_placing text (first ∷ [])).places) (λ first. (others_placing text (first ∷ [])).sample) (later (λ first. others_not_at_once text (first ∷ [])))

-- ---- bodies

attachments : Good FollowsLast attachments_at FollowsAttachments
attachments = attachments-good (λ t f. f.1) (λ t f. f.0) metadata_follows

body_placing : (text : List ℕ) → Placing text FollowsLast parsing.body_at Anything
unfolding parsing.body_at
body_placing text =
    placing_then text attachments.sample (good attachments) (places_none text (good attachments) attachments_groupless (Mark marks.open_brace) (((refl, refl), refl), refl))
    (λ u. mark_then text marks.open_brace (((refl, refl), refl), refl)
    (λ v. placing_then text blocks-good.sample (good blocks-good) (blocks_places text) (λ blocks. mark_then {E = FollowsBlocks} text marks.close_brace (refl, refl) (λ w. placing_done text (λ t f. tt) blocks)) (later (λ blocks. mark_not_at_once text marks.close_brace _))))
    (later (λ u. mark_not_at_once text marks.open_brace _))

body_not_at_once : {B : Type 0} (text : List ℕ) (S : List RawBlock → Reader B) → Goes text (parsing.body_at >>= S) [] → ⊥
unfolding parsing.body_at attachments_at mark_at unexpected
body_not_at_once text S =
    none_at_once text (parsing.body_at >>= S) (fault 0 (misfit places.Fixed (Group text))) (λ more. rw (repeat-done is_metadata (λ before. attachment_at) tt (the_group text ∷ more) refl) refl)

body_refuses_ends : (end : Placed) (more : List Placed) → EndsArgument end.1 → (e : Fault IrFaultKind) × (parsing.body_at (end ∷ more) ≡ Err e)
unfolding parsing.body_at attachments_at mark_at
body_refuses_ends end more ends = by ends
  where
    by : {t : Token} → EndsArgument t → (e : Fault IrFaultKind) × (parsing.body_at ((end.0, t) ∷ more) ≡ Err e)
    by comma = (fault end.0 Syntax, rw (repeat-done is_metadata (λ before. attachment_at) tt ((end.0, Mark marks.comma) ∷ more) refl) refl)
    by close = (fault end.0 Syntax, rw (repeat-done is_metadata (λ before. attachment_at) tt ((end.0, Mark marks.close_paren) ∷ more) refl) refl)

-- ---- parameters

-- behind the front the items of a parameter stand
abbrev InParameter : {A : Type 0} → Reader A → List Placed → Type 0
InParameter R front = RefusesWords R front × Ready R front

abbrev Within : {A : Type 0} → List ℕ → Reader A → Type 0
Within text R = (front : List Placed) → Ended (Whole text front) → Goes text R front → InParameter R front

abbrev LeavesEnds : {A : Type 0} → Reader A → Type 0
LeavesEnds {A} R = (end : Placed) → EndsArgument end.1 → (x : A) × ((more : List Placed) → R (end ∷ more) ≡ Ok (x, end ∷ more))

in_first : {A B : Type 0} (R : Reader A) (S : A → Reader B) → ((x : A) → LeavesEnds (S x)) → (front : List Placed) → InParameter R front → InParameter (R >>= S) front
in_first R S s front (words, ready) = (
  λ line w more none. let r = words line w more none in (r.0, rw r.1 refl),
  λ t end next ends. let r = ready t end next ends in let q = s r.0 end ends in (q.0, λ more. rw (r.1 more) (q.1 more)),
)

in_second : {A B : Type 0} (R : Reader A) (S : A → Reader B) (x : A) (first f : List Placed) → ((tokens : List Placed) → R (first ++ (f ++ tokens)) ≡ Ok (x, f ++ tokens)) → InParameter (S x) f → InParameter (R >>= S) (first ++ f)
in_second R S x first f one (words, ready) = (
  λ line w more none. let r = words line w more none in (r.0, rw (append_assoc first f ((line, Word w) ∷ more), one ((line, Word w) ∷ more)) r.1),
  λ t end next ends. let r = ready t end next ends in (r.0, λ more. rw (append_assoc first f (t ∷ end ∷ more), one (t ∷ end ∷ more)) (r.1 more)),
)

in_then : {A B : Type 0} {F : Follow} {R : Reader A} {S : A → Reader B} (text : List ℕ) → Faring R F
    → Within text R → ((x : A) → Within text (S x)) → ((x : A) → LeavesEnds (S x)) → Rests text R S → Within text (R >>= S)
in_then {R = R} {S = S} text outcome r p s rests front e goes =
    then_goes text R S front (outcome (Whole text front) e) goes (λ first. in_first R S s front (r front e first))
    (λ x first f same is stopped ended second. subst (InParameter (R >>= S)) (sym same) (in_second R S x first f (reads_first text R S rests front first f x same e is stopped second) (p x f ended second)))

in_none : {A : Type 0} {F : Follow} {R : Reader A} (text : List ℕ) → Faring R F → Groupless R → (u : Token) → F u → Within text R
in_none {R = R} text outcome r u follows front e goes = absurd (no_through text R front r (goes_through text R front (outcome (Whole text front) e) goes u follows))

in_behind : {A B : Type 0} {F : Follow} {R : Reader A} {S : A → Reader B} (text : List ℕ) → Faring R F → Groupless R → (u : Token) → F u
    → ((x : A) → Within text (S x)) → Closes R → Within text (R >>= S)
in_behind {R = R} {S = S} text outcome r u follows p closes front e goes =
    then_goes text R S front (outcome (Whole text front) e) goes (λ first. absurd (no_through text R front r (goes_through text R front (outcome (Whole text front) e) first u follows)))
    (λ x first f same is stopped ended second. subst (InParameter (R >>= S)) (sym same) (in_second R S x first f (reads_first text R S (closed closes) front first f x same e is stopped second) (p x f ended second)))

name_groupless : Groupless parsing.parameter_name_at
unfolding parsing.parameter_name_at
name_groupless [] x is = read_as (λ y. Taken [] y.1) (None, []) x is (none_taken [] [] refl)
name_groupless ((line, Register written) ∷ rest) x is = read_as (λ y. Taken ((line, Register written) ∷ rest) y.1) (Some (identified line written), rest) x is (one_taken line (Register written) ((line, Register written) ∷ rest) rest refl refl)
name_groupless ((line, t) ∷ rest) x is = read_as (λ y. Taken ((line, t) ∷ rest) y.1) (None, (line, t) ∷ rest) x is (none_taken ((line, t) ∷ rest) ((line, t) ∷ rest) refl)

-- a parameter behind its items
abbrev Named_parameter : (Option RawIdentifier → RawParameter) → Reader RawParameter
Named_parameter f = parsing.parameter_name_at >>= λ name. done (f name)

named-good : (f : Option RawIdentifier → RawParameter) → Good FollowsLast (Named_parameter f) FollowsParameter
named-good f = parameter_name-good then (λ name. done-good (λ t g. g) (f name))

named_leaves : (f : Option RawIdentifier → RawParameter) → LeavesEnds (Named_parameter f)
unfolding parsing.parameter_name_at
named_leaves f end ends = by ends
  where
    by : {t : Token} → EndsArgument t → (x : RawParameter) × ((more : List Placed) → Named_parameter f ((end.0, t) ∷ more) ≡ Ok (x, (end.0, t) ∷ more))
    by comma = (f None, λ more. refl)
    by close = (f None, λ more. refl)

named_not_at_once : (text : List ℕ) (f : Option RawIdentifier → RawParameter) → Goes text (Named_parameter f) [] → ⊥
unfolding parsing.parameter_name_at
named_not_at_once text f = none_left text parsing.parameter_name_at (λ name. done (f name)) None (λ more. refl) (done_not_at_once text (f None))

abbrev parameter_of : ℕ → List (List ℕ) → Option RawIdentifier → RawParameter
parameter_of width items name = record { width = width; items = items; name = name }

parameter_within : (text : List ℕ) → Within text parsing.parameter_at
unfolding parsing.parameter_at
parameter_within text =
    in_behind text type_fares type_groupless a_type tt
    (λ width. in_then text (good last_items-good) (λ front e goes. (last_items_words text front e goes, last_items_ready text front e goes))
    (λ items. in_none text (good (named-good (parameter_of width items))) (both_groupless parsing.parameter_name_at _ name_groupless (λ name. done_groupless (parameter_of width items name))) (Mark marks.open_paren) (((refl, refl), refl), refl))
    (λ items. named_leaves (parameter_of width items)) (later (λ items. named_not_at_once text (parameter_of width items))))
    type_closes

further_within : (text : List ℕ) → Within text parsing.further_parameter_at
unfolding parsing.further_parameter_at
further_within text = in_behind text (good (mark-good {E = Anything} marks.comma tt)) (mark_groupless marks.comma) a_type tt (λ u. parameter_within text) (mark_closes marks.comma)

abbrev Further : List RawParameter → Reader (List RawParameter)
Further = another_at parsing.further_parameter_at

done_leaves : {A : Type 0} (x : A) → LeavesEnds (done x)
done_leaves x end ends = (x, λ more. refl)

another_fares : (ps : List RawParameter) → Faring (Further ps) FollowsParameter
another_fares ps tokens e =
    fares (Unit {0}) Anything (Further ps) FollowsParameter (Unit {0}) (Reasons Anything (Further ps) FollowsParameter) tokens (another (Unit {0}) Anything FollowsParameter parsing.further_parameter_at ps tokens ((further_parameter-good {E = Anything} tt).outcome tokens e))

another_within : (text : List ℕ) (ps : List RawParameter) → Within text (Further ps)
another_within text ps =
    in_then text (good (further_parameter-good {E = Anything} tt)) (further_within text) (λ x front e goes. absurd (more_than_end text front (goes.read (ps ++ x ∷ [], Whole text front) refl))) (λ x. done_leaves (ps ++ x ∷ [])) (later (λ x. done_not_at_once text (ps ++ x ∷ [])))

-- further parameters, and the `)`
abbrev Closed : List RawParameter → Reader (List RawParameter)
Closed ps = mark_at marks.close_paren >>= λ v. done ps

abbrev Listed : List RawParameter → Reader (List RawParameter)
Listed ps = each_at (is_mark marks.comma) parsing.further_parameter_at ps >>= Closed

listed_done : (ps : List RawParameter) (tokens : List Placed) → is_mark marks.comma tokens ≡ false → Listed ps tokens ≡ Closed ps tokens
listed_done ps tokens none = ap (λ (r : Read (List RawParameter)). goes_on r Closed) (each-done (is_mark marks.comma) parsing.further_parameter_at ps tokens none)

listed_more : (ps : List RawParameter) (tokens : List Placed) → is_mark marks.comma tokens ≡ true → Listed ps tokens ≡ (Further ps >>= Listed) tokens
listed_more ps tokens next =
    ap (λ (r : Read (List RawParameter)). goes_on r Closed) (one_step (is_mark marks.comma) Further (another_takes (is_mark marks.comma) parsing.further_parameter_at parameter-takes) ps tokens next)
    ∙ assoc (Further ps tokens) (each_at (is_mark marks.comma) parsing.further_parameter_at) Closed

-- behind each end of an argument the parameter list may go on or is closed
listed_ends : (ps : List RawParameter) (end : Token) → EndsArgument end → (y : List RawParameter) × (more : List Placed) × ((tokens : List Placed) → Listed ps ((0, end) ∷ (more ++ tokens)) ≡ Ok (y, tokens))
unfolding mark_at parsing.further_parameter_at
listed_ends ps end ends = by ends
  where
    by : {t : Token} → EndsArgument t → (y : List RawParameter) × (more : List Placed) × ((tokens : List Placed) → Listed ps ((0, t) ∷ (more ++ tokens)) ≡ Ok (y, tokens))
    by close = (ps, [], λ ts. listed_done ps ((0, Mark marks.close_paren) ∷ ts) refl)
    by comma =
        let s = (parameter-good {E = Anything} tt).sample in (
          ps ++ s.0 ∷ [],
          s.1 ++ (0, Mark marks.close_paren) ∷ [],
          λ ts.
              let read = (s.2 ((0, Mark marks.close_paren) ∷ ts) (mark_follows marks.close_paren marks.close_paren refl refl)).0 in
              let further : Further ps ((0, Mark marks.comma) ∷ (s.1 ++ (0, Mark marks.close_paren) ∷ ts)) ≡ Ok (ps ++ s.0 ∷ [], (0, Mark marks.close_paren) ∷ ts) = rw read refl in
              ap (λ (us : List Placed). Listed ps ((0, Mark marks.comma) ∷ us)) (append_assoc s.1 ((0, Mark marks.close_paren) ∷ []) ts)
              ∙ listed_more ps ((0, Mark marks.comma) ∷ (s.1 ++ (0, Mark marks.close_paren) ∷ ts)) refl
              ∙ ap (λ (r : Read (List RawParameter)). goes_on r Listed) further
              ∙ listed_done (ps ++ s.0 ∷ []) ((0, Mark marks.close_paren) ∷ ts) refl,
        )

listed_first : {A : Type 0} (R : Reader A) (f : A → List RawParameter) (front : List Placed) → InParameter R front → IsPlace (R >>= λ x. Listed (f x)) Anything front
listed_first R f front (words, ready) =
    parameter (λ line w more none. let r = words line w more none in (r.0, rw r.1 refl))
    (λ t end next ends. let r = ready t (0, end) next ends in let q = listed_ends (f r.0) end ends in (q.0, q.1, λ ts n. rw (r.1 (q.1 ++ ts)) (q.2 ts)))

listed_not_at_once : (text : List ℕ) (ps : List RawParameter) → Goes text (Listed ps) [] → ⊥
listed_not_at_once text ps = none_left text (each_at (is_mark marks.comma) parsing.further_parameter_at ps) Closed ps (λ more. each-done (is_mark marks.comma) parsing.further_parameter_at ps (the_group text ∷ more) refl) (mark_not_at_once text marks.close_paren _)

closed_places : (text : List ℕ) (ps : List RawParameter) → Places text (Closed ps) Anything
closed_places text ps = (mark_then {E = Anything} text marks.close_paren tt (λ v. placing_done text (λ t f. tt) ps)).places

listed_places : (text : List ℕ) (n : ℕ) (ps : List RawParameter) (front : List Placed) → length front < n → Ended (Whole text front) → Goes text (Listed ps) front → IsPlace (Listed ps) Anything front
listed_places text zero ps front short e goes = absurd (omega arith)
listed_places text (suc n) ps [] short e goes = absurd (listed_not_at_once text ps goes)
listed_places text (suc n) ps (v ∷ front) short e goes = by (λ qs f less ended others. listed_places text n qs f less ended others) (is_mark marks.comma (v ∷ [])) refl
  where
    by : ((qs : List RawParameter) (f : List Placed) → length f < n → Ended (Whole text f) → Goes text (Listed qs) f → IsPlace (Listed qs) Anything f) → (b : Bool) → is_mark marks.comma (v ∷ []) ≡ b → IsPlace (Listed ps) Anything (v ∷ front)
    by fewer false h =
        let agree : (ts : List Placed) → Listed ps (v ∷ ts) ≡ Closed ps (v ∷ ts) = λ ts. listed_done ps (v ∷ ts) (mark_next marks.comma v.0 v.0 v.1 ts [] ∙ h) in
        place_moved (Closed ps) (Listed ps) Anything (v ∷ front) (v ∷ front) (λ ts. agree (front ++ ts)) (closed_places text ps (v ∷ front) e (goes_begun text (Closed ps) (Listed ps) v front agree goes))
    by fewer true h =
        place_moved (Further ps >>= Listed) (Listed ps) Anything (v ∷ front) (v ∷ front) (λ ts. agree (front ++ ts))
        (then_goes text (Further ps) Listed (v ∷ front) (another_fares ps (Whole text (v ∷ front)) e) (goes_begun text (Further ps >>= Listed) (Listed ps) v front agree goes)
        (λ first. listed_first (Further ps) (λ qs. qs) (v ∷ front) (another_within text ps (v ∷ front) e first))
        (λ x first f same is stopped ended second.
        let less : length (Whole text f) < length (Whole text (v ∷ front)) = another_takes (is_mark marks.comma) parsing.further_parameter_at parameter-takes ps (Whole text (v ∷ front)) (x, Whole text f) next is in
        let short_rest : length f < n = omega (arith, length-append f (the_group text ∷ the_end ∷ []), length-append (v ∷ front) (the_group text ∷ the_end ∷ [])) in
        subst (IsPlace (Further ps >>= Listed) Anything) (sym same)
        (place_second Anything (Further ps) Listed x first f (reads_first text (Further ps) Listed (later (listed_not_at_once text)) (v ∷ front) first f x same e is stopped second) (fewer x f short_rest ended second))))
      where
        agree : (ts : List Placed) → Listed ps (v ∷ ts) ≡ (Further ps >>= Listed) (v ∷ ts)
        agree ts = listed_more ps (v ∷ ts) (mark_next marks.comma v.0 v.0 v.1 ts [] ∙ h)

        next : is_mark marks.comma (Whole text (v ∷ front)) ≡ true
        next = mark_next marks.comma v.0 v.0 v.1 (front ++ the_group text ∷ the_end ∷ []) [] ∙ h

-- some parameters, and the `)`
abbrev SomeListed : Reader (List RawParameter)
SomeListed = parsing.parameter_at >>= λ first. Listed (first ∷ [])

some_listed_places : (text : List ℕ) → Places text SomeListed Anything
some_listed_places text front e goes =
    then_goes text parsing.parameter_at (λ first. Listed (first ∷ [])) front (good (parameter-good {E = Anything} tt) (Whole text front) e) goes
    (λ first. listed_first parsing.parameter_at (λ p. p ∷ []) front (parameter_within text front e first))
    (λ x first f same is stopped ended second.
    subst (IsPlace SomeListed Anything) (sym same)
    (place_second Anything parsing.parameter_at (λ p. Listed (p ∷ [])) x first f (reads_first text parsing.parameter_at (λ p. Listed (p ∷ [])) (later (λ p. listed_not_at_once text (p ∷ []))) front first f x same e is stopped second)
    (listed_places text (suc (length f)) (x ∷ []) f (omega arith) ended second)))

-- a parameter list, maybe empty, and the `)`
abbrev List_and_close : Reader (List RawParameter)
List_and_close = parsing.parameter_list_at >>= Closed

list_some : (tokens : List Placed) → is_mark marks.close_paren tokens ≡ false → List_and_close tokens ≡ SomeListed tokens
unfolding parsing.parameter_list_at parsing.some_parameters_at
list_some tokens none = rw none (assoc (parsing.parameter_at tokens) (λ first. each_at (is_mark marks.comma) parsing.further_parameter_at (first ∷ [])) Closed)

list_none : (tokens : List Placed) → is_mark marks.close_paren tokens ≡ true → List_and_close tokens ≡ Closed [] tokens
unfolding parsing.parameter_list_at
list_none tokens next = rw next refl

list_not_at_once : (text : List ℕ) → Goes text List_and_close [] → ⊥
unfolding parsing.parameter_list_at parsing.some_parameters_at parsing.parameter_at type_at unexpected
list_not_at_once text = none_at_once text List_and_close (fault 0 (misfit places.Type (Group text))) (λ more. refl)

list_places : (text : List ℕ) → Places text List_and_close Anything
list_places text [] e goes = absurd (list_not_at_once text goes)
list_places text (v ∷ front) e goes = by (is_mark marks.close_paren (v ∷ [])) refl
  where
    by : (b : Bool) → is_mark marks.close_paren (v ∷ []) ≡ b → IsPlace List_and_close Anything (v ∷ front)
    by true h =
        let agree : (ts : List Placed) → List_and_close (v ∷ ts) ≡ Closed [] (v ∷ ts) = λ ts. list_none (v ∷ ts) (mark_next marks.close_paren v.0 v.0 v.1 ts [] ∙ h) in
        place_moved (Closed []) List_and_close Anything (v ∷ front) (v ∷ front) (λ ts. agree (front ++ ts)) (closed_places text [] (v ∷ front) e (goes_begun text (Closed []) List_and_close v front agree goes))
    by false h =
        let agree : (ts : List Placed) → List_and_close (v ∷ ts) ≡ SomeListed (v ∷ ts) = λ ts. list_some (v ∷ ts) (mark_next marks.close_paren v.0 v.0 v.1 ts [] ∙ h) in
        place_moved SomeListed List_and_close Anything (v ∷ front) (v ∷ front) (λ ts. agree (front ++ ts)) (some_listed_places text (v ∷ front) e (goes_begun text SomeListed List_and_close v front agree goes))

list-good : Good Anything List_and_close Anything
list-good = parameter_list-good then (λ ps. mark-good marks.close_paren refl then (λ v. done-good (λ t f. tt) ps))

list_placing : (text : List ℕ) → Placing text Anything List_and_close Anything
list_placing text = record { sample = list-good.sample; places = list_places text }

parameters_placing : (text : List ℕ) → Placing text Anything parsing.parameters_at Anything
unfolding parsing.parameters_at
parameters_placing text = mark_then text marks.open_paren tt (λ u. list_placing text)

parameters_closes : Closes parsing.parameters_at
unfolding parsing.parameters_at
parameters_closes = closes_behind (mark-good {E = Anything} marks.open_paren tt) (λ u. closes_behind parameter_list-good (λ ps. closes_done (mark_closes marks.close_paren) (λ v. ps)))

parameters_not_at_once : {B : Type 0} (text : List ℕ) (S : List RawParameter → Reader B) → Goes text (parsing.parameters_at >>= S) [] → ⊥
unfolding parsing.parameters_at mark_at unexpected
parameters_not_at_once text S = none_at_once text (parsing.parameters_at >>= S) (fault 0 (misfit places.Fixed (Group text))) (λ more. refl)

-- ---- functions

function_name_groupless : Groupless parsing.function_name_at
unfolding parsing.function_name_at
function_name_groupless [] x is = absurd cc
function_name_groupless ((line, Function written) ∷ rest) x is = by (identifier_of written) is
  where
    by : (called : Identifier) → parsing.named_function line called rest ≡ Ok x → Taken ((line, Function written) ∷ rest) x.1
    by (Named name) read = read_as (λ y. Taken ((line, Function written) ∷ rest) y.1) ((line, name), rest) x read (one_taken line (Function written) ((line, Function written) ∷ rest) rest refl refl)
    by (Numbered n) read = absurd cc
function_name_groupless ((line, t) ∷ rest) x is = absurd cc

-- what the first parser refuses is refused
refused_first : {A B : Type 0} (R : Reader A) (S : A → Reader B) (tokens : List Placed) → (e : Fault IrFaultKind) × (R tokens ≡ Err e) → (e : Fault IrFaultKind) × ((R >>= S) tokens ≡ Err e)
refused_first R S tokens (e, refused) = (e, rw refused refl)

function_placing : (text : List ℕ) → Placing text Anything parsing.function_at Anything
unfolding parsing.function_at
function_placing text =
    header_then text items-good.sample (good items-good) (items_ready text) (λ before end more ends. refused_first type_at _ (end ∷ more) (type_refuses_ends end more ends))
    (λ before. placing_then {E = FollowsItems} text (type-good {V = Unit {0}} type_follows).sample type_fares (type_places text)
    (λ width. placing_then text function_name-good.sample (good function_name-good) (places_none text (good function_name-good) function_name_groupless a_type tt)
    (λ name. placing_then text parameters-good.sample (good parameters-good) (parameters_placing text).places
    (λ parameters. header_then text last_items-good.sample (good last_items-good) (last_items_ready text) (λ after end more ends. refused_first parsing.body_at _ (end ∷ more) (body_refuses_ends end more ends))
    (λ after. placing_then text body-good.sample (good body-good) (body_placing text).places (λ blocks. placing_done text (λ t f. tt) _) (later (λ blocks. done_not_at_once text _)))
    (λ after. body_not_at_once text _))
    (closed parameters_closes))
    (later (λ name. parameters_not_at_once text _)))
    (closed type_closes))
    (λ before. type_not_at_once text _)

-- ---- entries

entry_token_groupless : Groupless entry_token_at
entry_token_groupless [] x is = absurd cc
entry_token_groupless ((line, Kept text) ∷ rest) x is = read_as (λ y. Taken ((line, Kept text) ∷ rest) y.1) (Some text, rest) x is (one_taken line (Kept text) ((line, Kept text) ∷ rest) rest refl refl)
entry_token_groupless ((line, Word w) ∷ rest) x is = by (bytes_eq w (codes "define")) is
  where
    the_read : Read (Option (List ℕ)) → Read (Option (List ℕ))
    the_read r = r

    by : (b : Bool) → cond b (the_read (Ok (None, rest))) (Err (fault line (LeftOut w))) ≡ Ok x → Taken ((line, Word w) ∷ rest) x.1
    by true read = read_as (λ y. Taken ((line, Word w) ∷ rest) y.1) (None, rest) x read (one_taken line (Word w) ((line, Word w) ∷ rest) rest refl refl)
    by false read = absurd cc
entry_token_groupless ((line, t) ∷ rest) x is = absurd cc

entry_token_closes : Closes entry_token_at
entry_token_closes [] x e is = absurd cc
entry_token_closes ((line, Kept text) ∷ rest) x e is =
    read_as (λ y. (t : Placed) × (front : List Placed) × ((line, Kept text) ∷ rest ≡ t ∷ (front ++ y.1)) × ((others : List Placed) → entry_token_at (t ∷ (front ++ others)) ≡ Ok (y.0, others))) (Some text, rest) x is ((line, Kept text), [], refl, λ others. refl)
entry_token_closes ((line, Word w) ∷ rest) x e is = by (bytes_eq w (codes "define")) refl is
  where
    the_read : Read (Option (List ℕ)) → Read (Option (List ℕ))
    the_read r = r

    by : (b : Bool) → bytes_eq w (codes "define") ≡ b → cond b (the_read (Ok (None, rest))) (Err (fault line (LeftOut w))) ≡ Ok x
        → (t : Placed) × (front : List Placed) × ((line, Word w) ∷ rest ≡ t ∷ (front ++ x.1)) × ((others : List Placed) → entry_token_at (t ∷ (front ++ others)) ≡ Ok (x.0, others))
    by true h read =
        read_as (λ y. (t : Placed) × (front : List Placed) × ((line, Word w) ∷ rest ≡ t ∷ (front ++ y.1)) × ((others : List Placed) → entry_token_at (t ∷ (front ++ others)) ≡ Ok (y.0, others))) (None, rest) x read ((line, Word w), [], refl, λ others. rw h refl)
    by false h read = absurd cc
entry_token_closes ((line, t) ∷ rest) x e is = absurd cc

behind_entry_places : (text : List ℕ) (begun : Option (List ℕ)) → Places text (behind_entry begun) Anything
behind_entry_places text (Some kept) = (placing_done {E = Anything} text (λ t f. tt) (entries.Kept kept)).places
behind_entry_places text None = places_then text (good function-good) (function_placing text).places (λ f. (made f).places) (λ f. (made f).sample) (later (λ f. done_not_at_once text (entries.Function f)))
  where
    made : (f : RawFunction) → Placing text Anything (done (entries.Function f)) Anything
    made f = placing_done text (λ t g. tt) (entries.Function f)

entry_token_fares : Faring entry_token_at Anything
entry_token_fares tokens e = fares (Unit {0}) Begins entry_token_at Anything (Unit {0}) IsFirst tokens (token_outcome (Unit {0}) Begins entry_token_at Anything (Unit {0}) IsFirst entry_token_takes tokens e)

entry_fares : Faring parsing.entry_at Anything
entry_fares tokens e = fares (Unit {0}) Begins parsing.entry_at Anything (Unit {0}) (OrFirst Begins parsing.entry_at Anything) tokens (entry_outcome tokens e)

entry_places : (text : List ℕ) → Places text parsing.entry_at Anything
entry_places text =
    places_same text same_entry
    (places_then text entry_token_fares (places_none text entry_token_fares entry_token_groupless a_type tt) (behind_entry_places text) (λ begun. (behind_entry-good begun).sample) (closed entry_token_closes))

another_places : (text : List ℕ) (a : List RawEntry) → Places text (another_at parsing.entry_at a) Anything
another_places text a = places_then text entry_fares (entry_places text) (λ x. (placing_done {E = Anything} text (λ t f. f) (a ++ x ∷ [])).places) (λ x. (done-good {V = Unit {0}} {E = Anything} (λ t f. f) (a ++ x ∷ [])).sample) (later (λ x. done_not_at_once text (a ++ x ∷ [])))

-- a group begins no entry
entries_not_at_once : (text : List ℕ) (a : List RawEntry) → Goes text (Loop a) [] → ⊥
unfolding unexpected
entries_not_at_once text a =
    none_at_once text (Loop a) (fault 0 (misfit places.Entry (Group text)))
    (λ more.
    let refused : entry_token_at (the_group text ∷ more) ≡ Err (fault 0 (misfit places.Entry (Group text))) = refl in
    one_step parsing.begins_entry (another_at parsing.entry_at) entry_steps.takes a (the_group text ∷ more) refl
    ∙ ap (λ (r : Read RawEntry). goes_on (goes_on r (λ x. done (a ++ x ∷ []))) Loop) (same_entry (the_group text ∷ more))
    ∙ ap (λ (r : Read (Option (List ℕ))). goes_on (goes_on (goes_on r behind_entry) (λ x. done (a ++ x ∷ []))) Loop) refused)

pub entries_places : (text : List ℕ) → Places text parsing.entries_at EndsText
unfolding parsing.entries_at
entries_places text front e goes =
    loop_places text (Unit {0}) Anything EndsText (Unit {0}) parsing.begins_entry (another_at parsing.entry_at) entry_steps
    (λ a ts ended. fares (Unit {0}) Begins (another_at parsing.entry_at a) Anything (Unit {0}) (OrFirst Begins (another_at parsing.entry_at a) Anything) ts (another_outcome a ts ended)) (another_places text)
    (entries_not_at_once text) (suc (length front)) [] front (omega arith) e goes
