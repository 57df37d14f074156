-- The circuit of a rule has few inputs, since the rule has few inputs, constants and choices of the target, of at most
-- 64 bits each.
use Rattle.verdict.proofs.Common.{ℕ, ◌*◌, ◌≤◌, List, length, get_or, inl, inr, arith, slice_index, sum_by, map, All, Option, None, Some, range_with_len, option_map_or, cases_lt, get_or_past, length-map, All-map, Contains-get_or, length-map-range_with_len, sum_by-le, Rule, Operand, IsRule, Choice, choices_among, IsTyping, Input, Constant, input_widths, constant_widths, widths_chosen, value_bits, number_bits, few_named, few_in_target}
use Rattle.blast_setting.specs.Inputs.{input_bits}

-- the width of each class is at most 64, and so is that of each operand
class_width : (rule : Rule) (typing : List ℕ) → IsTyping rule typing → (c : ℕ) → slice_index typing c ≤ 64
class_width rule typing typed c =
    elim (cases_lt c (length typing)) [
      | inl within ↦ (typed.widths (get_or typing c 0) (Contains-get_or typing c 0 within)).1
      | inr past ↦ omega (arith, get_or_past typing c 0 past)
    ]

width_among : (rule : Rule) (typing : List ℕ) → IsTyping rule typing → (found : Option Operand) → option_map_or (λ o. slice_index typing o.class) found 0 ≤ 64
width_among rule typing typed None = omega arith
width_among rule typing typed (Some o) = class_width rule typing typed o.class

-- `count` things, each of the width of an operand, have few bits together
sum_few : (rule : Rule) (typing : List ℕ) → IsTyping rule typing → (teller : ℕ → Option Operand) (count : ℕ) (bits : ℕ → ℕ) → ((N : ℕ) → N ≤ 64 → bits N ≤ 65)
    → sum_by bits (map (λ k. option_map_or (λ o. slice_index typing o.class) (teller k) 0) (range_with_len 0 count)) ≤ count * 65
sum_few rule typing typed teller count bits few =
    let width : ℕ → ℕ = λ k. option_map_or (λ o. slice_index typing o.class) (teller k) 0 in
    let places = range_with_len 0 count in
    let each : All (λ N. bits N ≤ 65) (map width places) =
    All-map (λ N. bits N ≤ 65) width places (λ k d within. few (width (get_or places k d)) (width_among rule typing typed (teller (get_or places k d)))) in
    omega (arith, sum_by-le bits 65 (map width places) each, length-map-range_with_len width 0 count)

-- choices have few bits together
choices_few : (rule : Rule) (typing : List ℕ) → IsTyping rule typing → (choices : List Choice) → sum_by number_bits (widths_chosen typing choices) ≤ length choices * 65
choices_few rule typing typed choices =
    let width : Choice → ℕ = λ choice. slice_index typing choice.class in
    let each : All (λ N. number_bits N ≤ 65) (map width choices) =
    All-map (λ N. number_bits N ≤ 65) width choices (λ k d within. omega (arith, class_width rule typing typed (get_or choices k d).class)) in
    omega (arith, sum_by-le number_bits 65 (map width choices) each, length-map choices width)

pub input_bits_few : (rule : Rule) (typing : List ℕ) → IsRule rule → IsTyping rule typing → input_bits rule typing ≤ 288 * 65
input_bits_few rule typing checked typed =
    let inputs : sum_by value_bits (input_widths rule typing) ≤ length rule.inputs * 65 = sum_few rule typing typed _ _ _ (λ N h. omega arith) in
    let constants : sum_by number_bits (constant_widths rule typing) ≤ length rule.constants * 65 = sum_few rule typing typed _ _ _ (λ N h. omega arith) in
    let choices = choices_few rule typing typed (choices_among rule.target) in
    omega (arith, few_named rule Input checked, few_named rule Constant checked, few_in_target rule checked, inputs, constants, choices)
