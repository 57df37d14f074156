-- Soundness of the parser for terminators: what it gives is spelled so.
use Rattle.ir_instructions.proofs.Common.{sym, subst, ◌≡◌, ℕ, Bool, true, false, cond, List, [], ◌∷◌, Ok, refl, codes, Placed, Word, RawTerminator, Jump, Ending, SpellsCase, SpellsCases, SpellsTerminator, is_keyword, target_at, typed_at, case_value_at, return_at, jump_at, conditional_at, branch_at, begins_case, case_at, cases_at, switch_at, ending_at, terminator_at, Part, each_at, ◌>>=◌, or_left_out, ending_word, ending_in}
use Rattle.ir_tokens.specs.declared.raw.RawTerminator.TheVariants.{Return, Unreachable, Branch, Switch}
use Rattle.ir_instructions.specs.declared.word.Ending.TheVariants as endings
use Rattle.ir_instructions.specs.InstructionReaders.{mark_at, type_at}
use Rattle.ir_instructions.specs.Punctuation as marks
use Rattle.ir_instructions.proofs.Loops.{each-is, all_read}
use Rattle.ir_instructions.proofs.Readings.{mark_at-is, target_at-is, type_at-is, typed_at-is, case_value_at-is}
use Rattle.ir_instructions.proofs.Steps.{Reads, bind_ok, read_as, not_left_out, same_front}
use Rattle.ir_instructions.proofs.WordLemmas.{ending_in-is}

-- a terminator that is read behind its first word is spelled with that word
abbrev ReadsEnd : Ending → ℕ → List Placed → RawTerminator × List Placed → Type 0
ReadsEnd ending line tokens x = SpellsTerminator line x.0 ((line, Word (ending_word ending)) ∷ tokens) x.1

return_at-is : (line : ℕ) (tokens : List Placed) (x : RawTerminator × List Placed) → return_at tokens ≡ Ok x → ReadsEnd endings.Return line tokens x
unfolding return_at
return_at-is line tokens x e =
    let a = bind_ok (typed_at tokens) _ _ e in
    read_as (ReadsEnd endings.Return line tokens) (Return a.0.0.width a.0.0.operand, a.0.1) x a.2 (tokens, refl, typed_at-is tokens a.0 a.1)

jump_at-is : (line : ℕ) (tokens : List Placed) (x : RawTerminator × List Placed) → jump_at tokens ≡ Ok x → ReadsEnd endings.Branch line tokens x
unfolding jump_at
jump_at-is line tokens x e =
    let a = bind_ok (target_at tokens) _ _ e in
    read_as (ReadsEnd endings.Branch line tokens) (Jump a.0.0, a.0.1) x a.2 (tokens, refl, target_at-is tokens a.0 a.1)

conditional_at-is : (line : ℕ) (tokens : List Placed) (x : RawTerminator × List Placed) → conditional_at tokens ≡ Ok x → ReadsEnd endings.Branch line tokens x
unfolding conditional_at
conditional_at-is line tokens x e =
    let a = bind_ok (typed_at tokens) _ _ e in
    let b = bind_ok (mark_at marks.comma a.0.1) _ _ a.2 in
    let c = bind_ok (target_at b.0.1) _ _ b.2 in
    let d = bind_ok (mark_at marks.comma c.0.1) _ _ c.2 in
    let f = bind_ok (target_at d.0.1) _ _ d.2 in
    let typed = typed_at-is tokens a.0 a.1 in
    read_as (ReadsEnd endings.Branch line tokens) (Branch a.0.0.width a.0.0.operand c.0.0 f.0.0, f.0.1) x f.2
    (tokens, refl, (typed.0, typed.1, (a.0.1, typed.2, (b.0.1, mark_at-is marks.comma a.0.1 b.0 b.1, (c.0.1, target_at-is b.0.1 c.0 c.1, (d.0.1, mark_at-is marks.comma c.0.1 d.0 d.1, target_at-is d.0.1 f.0 f.1))))))

branch_at-is : (line : ℕ) (tokens : List Placed) (x : RawTerminator × List Placed) → branch_at tokens ≡ Ok x → ReadsEnd endings.Branch line tokens x
unfolding branch_at
branch_at-is line tokens x e = chosen (is_keyword (codes "label") tokens) e
  where
    chosen : (b : Bool) → cond b (jump_at tokens) (conditional_at tokens) ≡ Ok x → ReadsEnd endings.Branch line tokens x
    chosen true e = jump_at-is line tokens x e
    chosen false e = conditional_at-is line tokens x e

pub case_at-is : Reads case_at SpellsCase
unfolding case_at
case_at-is tokens x e =
    let a = bind_ok (type_at tokens) _ _ e in
    let b = bind_ok (case_value_at a.0.0 a.0.1) _ _ a.2 in
    let c = bind_ok (mark_at marks.comma b.0.1) _ _ b.2 in
    let d = bind_ok (target_at c.0.1) _ _ c.2 in
    let value = case_value_at-is a.0.0 a.0.1 b.0 b.1 in
    read_as (λ y. SpellsCase y.0 tokens y.1) (record { width = a.0.0; value = b.0.0; target = d.0.0 }, d.0.1) x d.2
    (value.0, (a.0.1, type_at-is tokens a.0 a.1, (b.0.1, value.1, (c.0.1, mark_at-is marks.comma b.0.1 c.0 c.1, target_at-is c.0.1 d.0 d.1))))

cases_at-is : Reads cases_at SpellsCases
unfolding cases_at
cases_at-is tokens x e =
    let a = bind_ok (mark_at marks.open_bracket tokens) _ _ e in
    let b = bind_ok (each_at begins_case case_at [] a.0.1) _ _ a.2 in
    let c = bind_ok (mark_at marks.close_bracket b.0.1) _ _ b.2 in
    let each = each-is begins_case case_at SpellsCase (λ ts y next f. case_at-is ts y f) [] a.0.1 b.0 b.1 in
    read_as (λ y. SpellsCases y.0 tokens y.1) (b.0.0, c.0.1) x c.2
    (a.0.1, mark_at-is marks.open_bracket tokens a.0 a.1, (b.0.1, all_read SpellsCase a.0.1 b.0.0 b.0.1 each.0, mark_at-is marks.close_bracket b.0.1 c.0 c.1))

switch_at-is : (line : ℕ) (tokens : List Placed) (x : RawTerminator × List Placed) → switch_at tokens ≡ Ok x → ReadsEnd endings.Switch line tokens x
unfolding switch_at
switch_at-is line tokens x e =
    let a = bind_ok (typed_at tokens) _ _ e in
    let b = bind_ok (mark_at marks.comma a.0.1) _ _ a.2 in
    let c = bind_ok (target_at b.0.1) _ _ b.2 in
    let d = bind_ok (cases_at c.0.1) _ _ c.2 in
    let typed = typed_at-is tokens a.0 a.1 in
    read_as (ReadsEnd endings.Switch line tokens) (Switch a.0.0.width a.0.0.operand c.0.0 d.0.0, d.0.1) x d.2
    (tokens, refl, (typed.0, typed.1, (a.0.1, typed.2, (b.0.1, mark_at-is marks.comma a.0.1 b.0 b.1, (c.0.1, target_at-is b.0.1 c.0 c.1, cases_at-is c.0.1 d.0 d.1)))))

ending_at-is : (ending : Ending) (line : ℕ) (tokens : List Placed) (x : RawTerminator × List Placed) → ending_at ending tokens ≡ Ok x → ReadsEnd ending line tokens x
ending_at-is endings.Return line tokens x e = return_at-is line tokens x e
ending_at-is endings.Unreachable line tokens x e = read_as (ReadsEnd endings.Unreachable line tokens) (Unreachable, tokens) x e refl
ending_at-is endings.Branch line tokens x e = branch_at-is line tokens x e
ending_at-is endings.Switch line tokens x e = switch_at-is line tokens x e

-- a terminator, with the line of its first word
abbrev pub SpellsEnd : ℕ × RawTerminator → Part
SpellsEnd end = SpellsTerminator end.0 end.1

pub terminator_at-is : Reads terminator_at SpellsEnd
unfolding terminator_at
terminator_at-is ((line, Word word) ∷ rest) x e =
    let a = bind_ok ((or_left_out line word (ending_in word) >>= ending_at) rest) _ _ e in
    let b = bind_ok (or_left_out line word (ending_in word) rest) _ _ a.1 in
    let named = not_left_out line word (ending_in word) rest b.0 b.1 in
    read_as (λ y. SpellsEnd y.0 ((line, Word word) ∷ rest) y.1) ((line, a.0.0), a.0.1) x a.2
    (subst (λ ts. SpellsTerminator line a.0.0 ts a.0.1) (sym (same_front line word (ending_word b.0.0) rest b.0.1 (ending_in-is word b.0.0 named.0) named.1)) (ending_at-is b.0.0 line b.0.1 a.0 b.2))
terminator_at-is tokens x e = absurd cc
