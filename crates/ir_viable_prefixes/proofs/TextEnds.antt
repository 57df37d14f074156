-- Where the text may end, the tokens are whole entries, and a token that is refused there begins none.
use Rattle.ir_viable_prefixes.proofs.Common.{append_cancel_right, ◌≡◌, ◌<◌, ℕ, zero, suc, true, false, List, [], ◌∷◌, ◌++◌, length, Option, Ok, Err, refl, sym, ap, subst, ◌∙◌, append_assoc, arith, length-append, codes, bytes_eq, Token, Placed, End, Other, Word, Number, Function, is_last, RawEntry, Syntax, LeftOut, Fault, IrFaultKind, leaves_out, Read, Reader, fault, unexpected, goes_on, ◌>>=◌, done, another_at, IsTypeWord, repeat-done, ok_is}
use Rattle.ir_tokens.specs.Tokens.{Bad as Bad_token}
use Rattle.ir_instructions.specs.declared.place.Expected.TheVariants as places
use Rattle.ir_instructions.specs.Places.{misfit}
use Rattle.ir_parse.specs.ModuleReaders as parsing
use Rattle.ir_viable_prefixes.proofs.Entries.{entry_token_at, behind_entry, same_entry, IsFirst, entry_token_takes, behind_entry-good, Begins, OrFirst, Loop, entry_steps, another_outcome, another-closes}
use Rattle.ir_viable_prefixes.proofs.Outcomes.{Anything, Ended, RefusesAt, RefusesPlaced, IsReadIf, Outcome, Takes, takes, refuses, refuses_by}
use Rattle.ir_viable_prefixes.proofs.Repeats.{one_step}

-- ---- lists of tokens that end with the end of the text

going : (u : Placed) (front : List Placed) (t : Placed) → Ended (u ∷ (front ++ t ∷ [])) → is_last u.1 ≡ false
going u [] t e = e.0
going u (v ∷ front) t e = e.0

-- the end behind a front
abbrev pub UpTo : List Placed → ℕ → List Placed
UpTo front l = front ++ (l, End) ∷ []

-- with the end of the text in place of a token, the tokens end there
pub ended_before : (front : List Placed) (t : Placed) (behind : List Placed) → Ended (front ++ t ∷ behind) → (l : ℕ) → Ended (UpTo front l)
ended_before [] t behind e l = refl
ended_before (u ∷ []) t behind e l = (e.0, refl, e.2)
ended_before (u ∷ v ∷ front) t behind e l = (e.0, ended_before (v ∷ front) t behind e.1 l, e.2)

-- what is left of such a list ends with the same token
left_over : (front first rest : List Placed) (t : Placed) → front ++ t ∷ [] ≡ first ++ rest → Ended rest → (others : List Placed) × (rest ≡ others ++ t ∷ []) × (front ≡ first ++ others)
left_over front [] rest t same e = (front, sym same, refl)
left_over [] (u ∷ first) rest t same e = absurd (nothing first rest e (sym cc))
  where
    nothing : (f r : List Placed) → Ended r → f ++ r ≡ [] → ⊥
    nothing [] r e none = subst Ended none e
    nothing (v ∷ f) r e none = absurd cc
left_over (v ∷ front) (u ∷ first) rest t same e =
    let heads : v ≡ u = cc in
    let tails : front ++ t ∷ [] ≡ first ++ rest = cc in
    let o = left_over front first rest t tails e in
    (o.0, o.1, ap (λ (w : Placed). w ∷ front) heads ∙ ap (λ (ts : List Placed). u ∷ ts) o.2)

-- ---- entries that are read up to the end

begins : (l : ℕ) (t : Token) (more : List Placed) → is_last t ≡ false → parsing.begins_entry ((l, t) ∷ more) ≡ true
begins l End more goes = absurd cc
begins l t more goes = refl

abbrev the_read : Read (List RawEntry) → Read (List RawEntry)
the_read r = r

first_is : (a b : List RawEntry) (s r : List Placed) → the_read (Ok (a, s)) ≡ the_read (Ok (b, r)) → a ≡ b
first_is a b s r same = ap (λ (p : List RawEntry × List Placed). p.0) (ok_is (a, s) (b, r) same)

abbrev One : List RawEntry → Reader (List RawEntry)
One = another_at parsing.entry_at

abbrev IsRead : List RawEntry → List Placed → List RawEntry × List Placed → Type 0
IsRead a tokens x = IsReadIf (Unit {0}) Begins (One a) Anything (Unit {0}) tokens x.0 x.1

step : (a : List RawEntry) (u : Placed) (tokens : List Placed) → is_last u.1 ≡ false → Loop a (u ∷ tokens) ≡ (One a >>= Loop) (u ∷ tokens)
step a u tokens goes = one_step parsing.begins_entry One entry_steps.takes a (u ∷ tokens) (begins u.0 u.1 tokens goes)

-- an entry is read the same whatever stands behind it
whatever_follows : (a : List RawEntry) (tokens : List Placed) (x : List RawEntry × List Placed) (o : IsRead a tokens x) → Ended tokens → One a tokens ≡ Ok x → (others : List Placed) → One a (o.front ++ others) ≡ Ok (x.0, others)
whatever_follows a tokens x o e is others =
    let c = another-closes a tokens x e is in
    let same : c.0 ∷ c.1 ≡ o.front = append_cancel_right (c.0 ∷ c.1) o.front x.1 (sym c.2 ∙ o.there) in
    subst (λ (f : List Placed). One a (f ++ others) ≡ Ok (x.0, others)) same (c.3 others)

-- the induction hypothesis, for fewer tokens
abbrev Follows : ℕ → ℕ → List RawEntry × List Placed → Placed → List Placed → Type 0
Follows n l x t more = (a : List RawEntry) (front : List Placed) → length front < n → Ended (UpTo front l) → Loop a (UpTo front l) ≡ Ok x → Loop a (front ++ t ∷ more) ≡ Loop x.0 (t ∷ more)

-- the step: an entry is read first
entry_follows : (n : ℕ) (l : ℕ) (x : List RawEntry × List Placed) (t : Placed) (more : List Placed) → Follows n l x t more → (a : List RawEntry) (u : Placed) (front : List Placed) → length (u ∷ front) < suc n → is_last u.1 ≡ false → Loop a (UpTo (u ∷ front) l) ≡ Ok x
    → (y : List RawEntry × List Placed) → One a (UpTo (u ∷ front) l) ≡ Ok y → IsRead a (UpTo (u ∷ front) l) y → Ended (UpTo (u ∷ front) l) → Loop a ((u ∷ front) ++ t ∷ more) ≡ Loop x.0 (t ∷ more)
entry_follows n l x t more follows a u front short goes read y is o e =
    let s = left_over (u ∷ front) o.front y.1 (l, End) o.there o.ended in
    let fewer : length y.1 < length (UpTo (u ∷ front) l) = entry_steps.takes a (UpTo (u ∷ front) l) y (begins u.0 u.1 (UpTo front l) goes) is in
    let left : length y.1 ≡ length (UpTo s.0 l) = ap length s.1 in
    let shorter : length s.0 < n = omega (arith, length-append s.0 ((l, End) ∷ []), length-append (u ∷ front) ((l, End) ∷ [])) in
    let rest : Loop y.0 (UpTo s.0 l) ≡ Ok x = ap (Loop y.0) (sym s.1) ∙ sym (ap (λ (r : Read (List RawEntry)). goes_on r Loop) is) ∙ sym (step a u (UpTo front l) goes) ∙ read in
    let same : (u ∷ front) ++ t ∷ more ≡ o.front ++ (s.0 ++ t ∷ more) = ap (λ (ts : List Placed). ts ++ t ∷ more) s.2 ∙ append_assoc o.front s.0 (t ∷ more) in
    let one : One a ((u ∷ front) ++ t ∷ more) ≡ Ok (y.0, s.0 ++ t ∷ more) = ap (One a) same ∙ whatever_follows a (UpTo (u ∷ front) l) y o e is (s.0 ++ t ∷ more) in
    step a u (front ++ t ∷ more) goes ∙ ap (λ (r : Read (List RawEntry)). goes_on r Loop) one ∙ follows y.0 s.0 shorter (subst Ended s.1 o.ended) rest

pub others_follow : (n : ℕ) (a : List RawEntry) (front : List Placed) (l : ℕ) (x : List RawEntry × List Placed) → length front < n → Ended (UpTo front l) → Loop a (UpTo front l) ≡ Ok x
    → (t : Placed) (more : List Placed) → Loop a (front ++ t ∷ more) ≡ Loop x.0 (t ∷ more)
others_follow zero a front l x short e read t more = absurd (omega arith)
others_follow (suc n) a [] l x short e read t more =
    let nothing : Loop a ((l, End) ∷ []) ≡ Ok (a, (l, End) ∷ []) = repeat-done parsing.begins_entry One a ((l, End) ∷ []) refl in
    ap (λ (b : List RawEntry). Loop b (t ∷ more)) (first_is a x.0 ((l, End) ∷ []) x.1 (sym nothing ∙ read))
others_follow (suc n) a (u ∷ front) l x short e read t more =
    by (λ b others shorter ended is. others_follow n b others l x shorter ended is t more) (One a (UpTo (u ∷ front) l)) refl (another_outcome a (UpTo (u ∷ front) l) e)
  where
    by : Follows n l x t more → (r : Read (List RawEntry)) → One a (UpTo (u ∷ front) l) ≡ r → Outcome Begins (One a) Anything (OrFirst Begins (One a) Anything) (UpTo (u ∷ front) l) r → Loop a ((u ∷ front) ++ t ∷ more) ≡ Loop x.0 (t ∷ more)
    by follows (Ok y) is o = entry_follows n l x t more follows a u front short (going u front (l, End) e) read y is o e
    by follows (Err f) is o =
        let failed : the_read (Err f) ≡ Ok x = sym (ap (λ (r : Read (List RawEntry)). goes_on r Loop) is) ∙ sym (step a u (UpTo front l) (going u front (l, End) e)) ∙ read in absurd cc

-- ---- tokens that are refused there

abbrev the_fault : Fault IrFaultKind → Read (List RawEntry)
the_fault f = Err f

fault_is : (f g : Fault IrFaultKind) → the_fault f ≡ the_fault g → f ≡ g
fault_is f g same = cc

-- behind entries, a token that begins none is refused as such
pub begins_none : (a : List RawEntry) (line : ℕ) (t : Token) (behind : List Placed) (found : Fault IrFaultKind) → is_last t ≡ false → ((more : List Placed) → (e : Fault IrFaultKind) × (Loop a ((line, t) ∷ more) ≡ Err e)) → Loop a ((line, t) ∷ behind) ≡ Err found
    → (found.line ≡ line) × (found.kind ≡ misfit places.Entry t)
begins_none a line t behind found goes refused is = by (entry_token_takes line t)
  where
    read : (more : List Placed) → Loop a ((line, t) ∷ more) ≡ goes_on (goes_on (goes_on (entry_token_at ((line, t) ∷ more)) behind_entry) (λ x. done (a ++ x ∷ []))) Loop
    read more =
        step a (line, t) more goes
        ∙ ap (λ (r : Read RawEntry). goes_on (goes_on r (λ x. done (a ++ x ∷ []))) Loop) (same_entry ((line, t) ∷ more))

    of : (given : Fault IrFaultKind) → IsFirst [] (line, t) given → entry_token_at ((line, t) ∷ behind) ≡ Err given → (found.line ≡ line) × (found.kind ≡ misfit places.Entry t)
    of given why h =
        let failed : Loop a ((line, t) ∷ behind) ≡ Err given = read behind ∙ rw h refl in
        let same : found ≡ given = fault_is found given (sym is ∙ failed) in
        (ap (λ (f : Fault IrFaultKind). f.line) same ∙ why.1, ap (λ (f : Fault IrFaultKind). f.kind) same ∙ why.2)

    by : Takes entry_token_at IsFirst line t → (found.line ≡ line) × (found.kind ≡ misfit places.Entry t)
    by (takes x going_on h) =
        let s = (behind_entry-good x).sample in
        let end : List Placed = (0, End) ∷ [] in
        let entry : behind_entry x (s.1 ++ end) ≡ Ok (s.0, end) = (s.2 end tt).0 in
        let done_here : Loop (a ++ s.0 ∷ []) end ≡ Ok (a ++ s.0 ∷ [], end) = repeat-done parsing.begins_entry One (a ++ s.0 ∷ []) end refl in
        let all : Loop a ((line, t) ∷ (s.1 ++ end)) ≡ Ok (a ++ s.0 ∷ [], end) = read (s.1 ++ end) ∙ rw (h (s.1 ++ end), entry) done_here in
        let r = refused (s.1 ++ end) in
        let both : the_fault r.0 ≡ Ok (a ++ s.0 ∷ [], end) = sym r.1 ∙ all in absurd cc
    by (refuses given why h) = of given why (h behind)
    by (refuses_by h) = let r = h behind in of r.0 r.1 r.2

-- no such token is refused as `Syntax`
pub is_left_out : (t : Token) → is_last t ≡ false → Syntax ≡ misfit places.Entry t → ⊥
unfolding misfit leaves_out
is_left_out End goes is = absurd cc
is_left_out Other goes is = absurd cc
is_left_out Bad_token goes is = absurd cc
is_left_out t goes is = absurd cc

-- a token that is refused where the text may end
pub refused_at_end : (front : List Placed) (l : ℕ) (t : Placed) (behind : List Placed) (x : List RawEntry × List Placed) (found : Fault IrFaultKind) → Ended (UpTo front l) → parsing.entries_at (UpTo front l) ≡ Ok x → is_last t.1 ≡ false
    → RefusesPlaced parsing.entries_at front t → parsing.entries_at (front ++ t ∷ behind) ≡ Err found → (found.line ≡ t.0) × (found.kind ≡ misfit places.Entry t.1)
unfolding parsing.entries_at
refused_at_end front l t behind x found e read goes refused is =
    let follows : (more : List Placed) → Loop x.0 (t ∷ more) ≡ parsing.entries_at (front ++ t ∷ more) = λ more. sym (others_follow (suc (length front)) [] front l x (omega arith) e read t more) in
    begins_none x.0 t.0 t.1 behind found goes (λ more. let r = refused more in (r.0, follows more ∙ r.1)) (follows behind ∙ is)

-- no type begins an entry
no_type_begins : (a : List RawEntry) (line : ℕ) (w : List ℕ) (width : ℕ) → IsTypeWord w width → (more : List Placed) → (e : Fault IrFaultKind) × (Loop a ((line, Word w) ∷ more) ≡ Err e)
no_type_begins a line w width is more =
    let no_define : bytes_eq w (codes "define") ≡ false = rw is.1 refl in
    let refused : entry_token_at ((line, Word w) ∷ more) ≡ Err (fault line (LeftOut w)) = rw no_define refl in (
      fault line (LeftOut w),
      step a (line, Word w) more refl
          ∙ ap (λ (r : Read RawEntry). goes_on (goes_on r (λ x. done (a ++ x ∷ []))) Loop) (same_entry ((line, Word w) ∷ more))
          ∙ ap (λ (r : Read (Option (List ℕ))). goes_on (goes_on (goes_on r behind_entry) (λ x. done (a ++ x ∷ []))) Loop) refused,
    )

pub types_refused_at_end : (front : List Placed) (l : ℕ) (x : List RawEntry × List Placed) → Ended (UpTo front l) → parsing.entries_at (UpTo front l) ≡ Ok x → (w : List ℕ) (width : ℕ) → IsTypeWord w width → RefusesAt parsing.entries_at front (Word w)
unfolding parsing.entries_at
types_refused_at_end front l x e read w width is more =
    let r = no_type_begins x.0 0 w width is more in (r.0, others_follow (suc (length front)) [] front l x (omega arith) e read (0, Word w) more ∙ r.1)

-- nor does a number
no_number_begins : (a : List RawEntry) (line : ℕ) (digits : List ℕ) (more : List Placed) → (e : Fault IrFaultKind) × (Loop a ((line, Number digits) ∷ more) ≡ Err e)
no_number_begins a line digits more =
    let found : Fault IrFaultKind = unexpected places.Entry ((line, Number digits) ∷ more) in
    let refused : entry_token_at ((line, Number digits) ∷ more) ≡ Err found = refl in (
      found,
      step a (line, Number digits) more refl
          ∙ ap (λ (r : Read RawEntry). goes_on (goes_on r (λ x. done (a ++ x ∷ []))) Loop) (same_entry ((line, Number digits) ∷ more))
          ∙ ap (λ (r : Read (Option (List ℕ))). goes_on (goes_on (goes_on r behind_entry) (λ x. done (a ++ x ∷ []))) Loop) refused,
    )

pub numbers_refused_at_end : (front : List Placed) (l : ℕ) (x : List RawEntry × List Placed) → Ended (UpTo front l) → parsing.entries_at (UpTo front l) ≡ Ok x → (digits : List ℕ) → RefusesAt parsing.entries_at front (Number digits)
unfolding parsing.entries_at
numbers_refused_at_end front l x e read digits more =
    let r = no_number_begins x.0 0 digits more in (r.0, others_follow (suc (length front)) [] front l x (omega arith) e read (0, Number digits) more ∙ r.1)

-- nor does a function
no_function_begins : (a : List RawEntry) (line : ℕ) (written : List ℕ) (more : List Placed) → (e : Fault IrFaultKind) × (Loop a ((line, Function written) ∷ more) ≡ Err e)
no_function_begins a line written more =
    let found : Fault IrFaultKind = unexpected places.Entry ((line, Function written) ∷ more) in
    let refused : entry_token_at ((line, Function written) ∷ more) ≡ Err found = refl in (
      found,
      step a (line, Function written) more refl
          ∙ ap (λ (r : Read RawEntry). goes_on (goes_on r (λ x. done (a ++ x ∷ []))) Loop) (same_entry ((line, Function written) ∷ more))
          ∙ ap (λ (r : Read (Option (List ℕ))). goes_on (goes_on (goes_on r behind_entry) (λ x. done (a ++ x ∷ []))) Loop) refused,
    )

pub functions_refused_at_end : (front : List Placed) (l : ℕ) (x : List RawEntry × List Placed) → Ended (UpTo front l) → parsing.entries_at (UpTo front l) ≡ Ok x → (written : List ℕ) → RefusesAt parsing.entries_at front (Function written)
unfolding parsing.entries_at
functions_refused_at_end front l x e read written more =
    let r = no_function_begins x.0 0 written more in (r.0, others_follow (suc (length front)) [] front l x (omega arith) e read (0, Function written) more ∙ r.1)
