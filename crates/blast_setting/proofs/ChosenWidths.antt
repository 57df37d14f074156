-- The choices of statements: the place and the width of each, and those of a list of statements.
use Rattle.blast_setting.proofs.Common.{◌≡◌, ℕ, ◌+◌, ◌<◌, List, [], ◌∷◌, ◌++◌, length, map, take, Some, sym, ap, subst, ◌∙◌, arith, append-nil, get_or, slice_get, slice_index, Contains, option_map, get_or-map, map-append, take_more, flat_map-cons, get_or-range_with_len, flat_map-append, slice_get-get_or, slice_get-map, get_or_from_slice_get, Rule, Statement, ChoicesInOrder, Choice, choices_of, choices_among, classes_of, IsStatementOf, LeavesOpen, IsTyping, Contains-from_get, Contains-flat_map, flat_map-from, target_statement, class_stands, operand_class_stands, choice_opens, reads_undef, freezes, widths_chosen, HaveWidths}

-- choice k of the statements stands at place k among them
pub choice_at : (statements : List Statement) (k : ℕ) → ChoicesInOrder statements → k < length (choices_among statements)
    → (c : ℕ) × (slice_get (choices_among statements) k ≡ Some (record { place = k; class = c }))
choice_at statements k order within =
    let none : Choice = record { place = 0; class = 0 } in
    let choices = choices_among statements in
    let choice : Choice = get_or choices k none in
    let ranged : get_or (map (λ (other : Choice). other.place) choices) k 0 ≡ k =
    ap (λ (places : List ℕ). get_or places k 0) order ∙ get_or-range_with_len 0 (length choices) k 0 within ∙ omega arith in
    let place : choice.place ≡ k = sym (get_or-map (λ (other : Choice). other.place) choices k none 0 within) ∙ ranged in
    let placed : ℕ → Choice = λ n. record { place = n; class = choice.class } in
    (choice.class, slice_get-get_or choices k none within ∙ ap (λ n. Some (placed n)) place)

pub choice_open : (statements : List Statement) (k c : ℕ) → slice_get (choices_among statements) k ≡ Some (record { place = k; class = c }) → LeavesOpen statements k c
choice_open statements k c at = Contains-from_get (choices_among statements) k (record { place = k; class = c }) at

-- the width of a choice is that of its class
pub choice_width : (typing : List ℕ) (statements : List Statement) (k c N : ℕ) → slice_get (choices_among statements) k ≡ Some (record { place = k; class = c })
    → slice_get typing c ≡ Some N → slice_get (widths_chosen typing (choices_among statements)) k ≡ Some N
choice_width typing statements k c N at width =
    slice_get-map (λ (choice : Choice). slice_index typing choice.class) (choices_among statements) k
    ∙ ap (option_map (λ (choice : Choice). slice_index typing choice.class)) at
    ∙ ap (λ M. Some M) (get_or_from_slice_get typing c N 0 width)

-- the class of each choice of a rule's statement is one of the rule's classes
choice_class : (rule : Rule) (s : Statement) (choice : Choice) → IsStatementOf rule s → Contains (choices_of s) choice → Contains (classes_of rule) choice.class
choice_class rule s choice stands among =
    elim (choice_opens s choice among) [
      | reads_undef o here is same ↦ subst (Contains (classes_of rule)) same (operand_class_stands rule s o stands here)
      | freezes a is same ↦ subst (Contains (classes_of rule)) same (class_stands rule s stands)
    ]

-- the class of each choice of the target has a width
pub open_class : (rule : Rule) (typing : List ℕ) (k c : ℕ) → IsTyping rule typing → LeavesOpen rule.target k c → c < length typing
open_class rule typing k c typed left_open =
    let choice : Choice = record { place = k; class = c } in
    let at = flat_map-from choices_of rule.target choice left_open in
    typed.classes c (choice_class rule at.1 choice (target_statement rule at.0 at.1 at.2) at.3)

pub have_widths : (rule : Rule) (typing : List ℕ) → IsTyping rule typing → HaveWidths typing (choices_among rule.target)
have_widths rule typing typed k d within =
    let choice : Choice = get_or (choices_among rule.target) k d in
    open_class rule typing choice.place choice.class typed (Contains-from_get (choices_among rule.target) k choice (slice_get-get_or (choices_among rule.target) k d within))

-- the choices of each statement have widths, where all choices have
pub statement_widths : (typing : List ℕ) (statements : List Statement) (i : ℕ) (s : Statement) → i < length statements → s ≡ get_or statements i s
    → HaveWidths typing (choices_among statements) → HaveWidths typing (choices_of s)
statement_widths typing statements i s within is all k d below =
    let choice : Choice = get_or (choices_of s) k d in
    let at = slice_get-get_or (choices_of s) k d below in
    let here = Contains-flat_map choices_of statements s choice (i, within, sym is) (Contains-from_get (choices_of s) k choice at) in
    subst (λ (other : Choice). other.class < length typing) here.2 (all here.0 choice here.1)

-- a class has the width that stands at its place in the typing
pub width_indexed : (typing : List ℕ) (c N : ℕ) → c < length typing → N ≡ get_or typing c N → slice_index typing c ≡ N
width_indexed typing c N within is = get_or_from_slice_get typing c N 0 (slice_get-get_or typing c N within ∙ ap (λ M. Some M) (sym is))

-- the widths with one more choice, and below, with those of one more statement
pub widths-one_more : (typing : List ℕ) (choices : List Choice) (i : ℕ) (d : Choice) → i < length choices
    → widths_chosen typing (take (i + 1) choices) ≡ widths_chosen typing (take i choices) ++ slice_index typing (get_or choices i d).class ∷ []
widths-one_more typing choices i d within =
    ap (widths_chosen typing) (take_more choices i d within) ∙ map-append (λ (other : Choice). slice_index typing other.class) (take i choices) (get_or choices i d ∷ [])

pub widths-more : (typing : List ℕ) (statements : List Statement) (i : ℕ) (s : Statement) → i < length statements → s ≡ get_or statements i s
    → widths_chosen typing (choices_among (take (i + 1) statements)) ≡ widths_chosen typing (choices_among (take i statements)) ++ widths_chosen typing (choices_of s)
widths-more typing statements i s within is =
    let parts : take (i + 1) statements ≡ take i statements ++ s ∷ [] = take_more statements i s within ∙ ap (λ other. take i statements ++ other ∷ []) (sym is) in
    let all : choices_among (take i statements ++ s ∷ []) ≡ choices_among (take i statements) ++ choices_of s =
    flat_map-append choices_of (take i statements) (s ∷ [])
    ∙ ap (λ choices. choices_among (take i statements) ++ choices) (flat_map-cons choices_of s [] ∙ append-nil (choices_of s)) in
    ap (λ ys. widths_chosen typing (choices_among ys)) parts ∙ ap (widths_chosen typing) all
    ∙ map-append (λ (other : Choice). slice_index typing other.class) (choices_among (take i statements)) (choices_of s)
