-- Widths are a typing of a classified rule exactly where there is one for each class, each class may have its own, and
-- casts are met.
use Rattle.rule_typing.proofs.Common.{◌≡◌, ◌↔◌, inl, inr, ℕ, suc, ◌+◌, ◌<◌, List, ◌++◌, length, map, get_or, Some, refl, sym, ap, subst, ◌∙◌, arith, add-zero, length-append, slice_get, Contains, flat_map, cases_lt, slice_get-get_or, get_or_from_slice_get, same_Some, Rule, Statement, Op, Binary, Compare, Unary, Select, Convert, Freeze, Copy, Term, Node, operands_of, classes_of_statement, classes_of_node, classes_of_term, classes_of, Line, Fixed, Smaller, IsTyping, Contains-from_get, mapped_op, mapped_statement, mapped_term, mapped, numbered_op, numbered_statement, numbered_statements, numbered_term, numbered_terms, numbered, IsClassified, HasClasses, line, MayHaveWidth, MeetsSmaller}
use Rattle.rule_core.specs.declared.rule.Node.TheVariants as nodes
use Rattle.rule_typing.proofs.NumberedLists.{Gives, gives_left, gives_right, restored_list}
use Rattle.rule_typing.proofs.Relabelled.{classes_apart, class_is_position, count_positions}
use Rattle.rule_typing.proofs.MappedLines.{from_line_map, line_classes}
use Rattle.rule_typing.proofs.FixedLines.{fixed_class}

-- mapping each position of the numbered rule to the class that it had gives the rule
restored_op : (f : ℕ → ℕ) (n : ℕ) (op : Op) → ((k c : ℕ) → slice_get (map (λ o. o.class) (operands_of op)) k ≡ Some c → f (n + k) ≡ c) → mapped_op f (numbered_op n op) ≡ op
restored_op f n (Binary op flags a b) gives =
    let left : f n ≡ a.class = ap f (sym (add-zero n)) ∙ gives 0 a.class refl in
    let right : f (n + 1) ≡ b.class = gives 1 b.class refl in
    rw (left, right) refl
restored_op f n (Compare pred samesign a b) gives =
    let left : f n ≡ a.class = ap f (sym (add-zero n)) ∙ gives 0 a.class refl in
    let right : f (n + 1) ≡ b.class = gives 1 b.class refl in
    rw (left, right) refl
restored_op f n (Unary op truth a) gives = let left : f n ≡ a.class = ap f (sym (add-zero n)) ∙ gives 0 a.class refl in rw left refl
restored_op f n (Select z a b) gives =
    let first : f n ≡ z.class = ap f (sym (add-zero n)) ∙ gives 0 z.class refl in
    let second : f (n + 1) ≡ a.class = gives 1 a.class refl in
    let third : f (n + 2) ≡ b.class = gives 2 b.class refl in
    rw (first, second, third) refl
restored_op f n (Convert cast flags a to) gives = let left : f n ≡ a.class = ap f (sym (add-zero n)) ∙ gives 0 a.class refl in rw left refl
restored_op f n (Freeze a j) gives = let left : f n ≡ a.class = ap f (sym (add-zero n)) ∙ gives 0 a.class refl in rw left refl
restored_op f n (Copy a) gives = let left : f n ≡ a.class = ap f (sym (add-zero n)) ∙ gives 0 a.class refl in rw left refl

restored_statement : (f : ℕ → ℕ) (n : ℕ) (s : Statement) → ((k c : ℕ) → slice_get (classes_of_statement s) k ≡ Some c → f (n + k) ≡ c) → mapped_statement f (numbered_statement n s) ≡ s
restored_statement f n s gives =
    let result : f n ≡ s.class = ap f (sym (add-zero n)) ∙ gives 0 s.class refl in
    let op : mapped_op f (numbered_op (n + 1) s.op) ≡ s.op
    = restored_op f (n + 1) s.op (λ k c at. let same : n + 1 + k ≡ n + suc k = omega arith in ap f same ∙ gives (suc k) c at) in
    rw (result, op) refl

restored_node : (f : ℕ → ℕ) (n c : ℕ) (node : Node) → Gives f n (classes_of_node c node) → mapped_term f (numbered_term n (record { class = c; node = node })) ≡ record { class = c; node = node }
restored_node f n c (nodes.Literal z) gives = let own : f n ≡ c = ap f (sym (add-zero n)) ∙ gives 0 c refl in rw own refl
restored_node f n c (nodes.Constant k) gives = let own : f n ≡ c = ap f (sym (add-zero n)) ∙ gives 0 c refl in rw own refl
restored_node f n c (nodes.Register r) gives = let own : f n ≡ c = ap f (sym (add-zero n)) ∙ gives 0 c refl in rw own refl
restored_node f n c (nodes.Choice k) gives = let own : f n ≡ c = ap f (sym (add-zero n)) ∙ gives 0 c refl in rw own refl
restored_node f n c (nodes.Width r d) gives =
    let own : f n ≡ c = ap f (sym (add-zero n)) ∙ gives 0 c refl in
    let other : f (n + 1) ≡ d = gives 1 d refl in
    rw (own, other) refl
restored_node f n c (nodes.Unary function a) gives = let own : f n ≡ c = ap f (sym (add-zero n)) ∙ gives 0 c refl in rw own refl
restored_node f n c (nodes.Binary op a b) gives = let own : f n ≡ c = ap f (sym (add-zero n)) ∙ gives 0 c refl in rw own refl

restored_statements : (f : ℕ → ℕ) (n : ℕ) (xs : List Statement) → Gives f n (flat_map classes_of_statement xs) → map (mapped_statement f) (numbered_statements n xs) ≡ xs
restored_statements f n xs gives = restored_list Statement classes_of_statement numbered_statement (mapped_statement f) f (restored_statement f) n xs gives

restored_terms : (f : ℕ → ℕ) (n : ℕ) (xs : List Term) → Gives f n (flat_map classes_of_term xs) → map (mapped_term f) (numbered_terms n xs) ≡ xs
restored_terms f n xs gives = restored_list Term classes_of_term numbered_term (mapped_term f) f (λ m t. restored_node f m t.class t.node) n xs gives

class_at : Rule → ℕ → ℕ
class_at rule k = get_or (classes_of rule) k 0

restored : (rule : Rule) → mapped (class_at rule) (numbered rule) ≡ rule
unfolding class_at
restored rule =
    let f = class_at rule in
    let source = flat_map classes_of_statement rule.source in
    let target = flat_map classes_of_statement rule.target in
    let terms = flat_map classes_of_term rule.terms in
    let witness = flat_map classes_of_term rule.witness_terms in
    let all : Gives f 0 ((source ++ target) ++ (terms ++ witness))
    = λ k c at. let same : 0 + k ≡ k = omega arith in ap f same ∙ get_or_from_slice_get (classes_of rule) k c 0 (ap (λ l. slice_get l k) (classes_apart rule) ∙ at) in
    let behind : length (source ++ target) ≡ length source + length target = length-append source target in
    let halves : Gives f 0 (source ++ target) = gives_left f 0 (source ++ target) (terms ++ witness) all in
    let nodes_give : Gives f (length source + length target) (terms ++ witness) = gives_right f 0 (length source + length target) (source ++ target) (terms ++ witness) (omega arith) all in
    let first = restored_statements f 0 rule.source (gives_left f 0 source target halves) in
    let second = restored_statements f (length source) rule.target (gives_right f 0 (length source) source target (omega arith) halves) in
    let third = restored_terms f (length source + length target) rule.terms (gives_left f (length source + length target) terms witness nodes_give) in
    let fourth = restored_terms f (length source + length target + length terms) rule.witness_terms (gives_right f (length source + length target) (length source + length target + length terms) terms witness refl nodes_give) in
    rw (first, second, third, fourth) refl

-- a class of the numbered rule is a position, and the rule has a class at it
kept_at : (rule : Rule) (p : ℕ) → Contains (classes_of (numbered rule)) p → slice_get (classes_of rule) p ≡ Some (class_at rule p)
unfolding class_at
kept_at rule p (k, within, is) =
    let same : p ≡ k = class_is_position rule k p (slice_get-get_or (classes_of (numbered rule)) k p within ∙ ap (λ x. Some x) is) in
    slice_get-get_or (classes_of rule) p 0 (omega (arith, count_positions rule))

pub on_one_line : (rule : Rule) → IsClassified rule → (c d : ℕ) → Line rule c d → c ≡ d
on_one_line rule classified c d on =
    let (p, q, before, c_is, d_is) = from_line_map (class_at rule) (numbered rule) c d (subst (λ r. Line r c d) (sym (restored rule)) on) in
    let ends = line_classes (numbered rule) p q before in
    c_is ∙ (classified.classes p q (class_at rule p) (class_at rule q) (kept_at rule p ends.0) (kept_at rule q ends.1)).1 (line before) ∙ sym d_is

-- a width that is fixed for a class is the one given to it, where it is one that the class may have
fixed_at : (rule : Rule) (widths : List ℕ) (n : ℕ) → HasClasses rule n → length widths ≡ n → ((c N : ℕ) → slice_get widths c ≡ Some N → MayHaveWidth rule c N) → (c N : ℕ) → Fixed rule c N → slice_get widths c ≡ Some N
fixed_at rule widths n counted same may c N fixed =
    let less : c < n = (counted c).0 (fixed_class rule c N fixed) in
    let at : slice_get widths c ≡ Some (get_or widths c 0) = slice_get-get_or widths c 0 (omega arith) in
    at ∙ ap (λ x. Some x) (sym ((may c (get_or widths c 0) at).fixed N fixed))

pub typed : (rule : Rule) (widths : List ℕ) (n : ℕ) → IsClassified rule → HasClasses rule n → length widths ≡ n → ((c N : ℕ) → slice_get widths c ≡ Some N → MayHaveWidth rule c N)
    → ((c d N M : ℕ) → Smaller rule c d → slice_get widths c ≡ Some N → slice_get widths d ≡ Some M → N < M) → IsTyping rule widths
typed rule widths n classified counted same may below =
    record {
      widths = λ N (c, within, is). (may c N (slice_get-get_or widths c N within ∙ ap (λ x. Some x) is)).within;
      classes = λ c among. let less = (counted c).0 among in omega arith;
      no_more = λ c less. (counted c).1 (omega arith);
      same = λ c d on. ap (slice_get widths) (on_one_line rule classified c d on);
      fixed = fixed_at rule widths n counted same may;
      smaller = below;
      literals = λ o z N among is at. (may o.class N at).literals o z among refl is;
      term_literals = λ t z N among is at. (may t.class N at).term_literals t z among refl is;
    }

pub count_widths : (rule : Rule) (widths : List ℕ) (n : ℕ) → HasClasses rule n → IsTyping rule widths → length widths ≡ n
count_widths rule widths n counted typing =
    elim (cases_lt (length widths) n) [
      | inl less ↦ let h = typing.classes (length widths) ((counted (length widths)).1 less) in omega arith
      | inr most ↦ elim (cases_lt n (length widths)) [
        | inl less ↦ let h = (counted n).0 (typing.no_more n less) in omega arith
        | inr most' ↦ omega arith
      ]
    ]

pub may_have : (rule : Rule) (widths : List ℕ) → IsTyping rule widths → (c N : ℕ) → slice_get widths c ≡ Some N → MayHaveWidth rule c N
may_have rule widths typing c N at =
    record {
      within = typing.widths N (Contains-from_get widths c N at);
      fixed = λ M fixed. same_Some M N (sym (typing.fixed c M fixed) ∙ at);
      literals = λ o z among class is. typing.literals o z N among is (subst (λ k. slice_get widths k ≡ Some N) (sym class) at);
      term_literals = λ t z among class is. typing.term_literals t z N among is (subst (λ k. slice_get widths k ≡ Some N) (sym class) at);
    }

-- the tests of the code: each class may have its width, and all casts are met
pub both_tests : (rule : Rule) (widths : List ℕ) (n : ℕ) → IsClassified rule → HasClasses rule n → length widths ≡ n → (((c N : ℕ) → slice_get widths c ≡ Some N → MayHaveWidth rule c N) × MeetsSmaller rule widths) ↔ IsTyping rule widths
both_tests rule widths n classified counted same = (λ h. typed rule widths n classified counted same h.0 h.1, λ typing. (may_have rule widths typing, typing.smaller))
