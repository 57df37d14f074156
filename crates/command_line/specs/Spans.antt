-- The span of widths that an item of a list names.
use Rattle.std.specs.Prelude.{ℕ, ◌==◌, ◌&&◌, ◌||◌, slice_index, Bool, List, Option, Some, None, if◌then◌else◌, nat_le}
use Rattle.std.specs.List.{list_any}
use Rattle.command_line.specs.Widths.{number, is_width, is_item, first_of_item, last_of_item}
use Rattle.command_line.specs.declared.widths.Span.{Span}

abbrev pub begins_with_zero_or_plus : List ℕ → Bool
begins_with_zero_or_plus text = (slice_index text 0 == 48) || (slice_index text 0 == 43)

-- the width that a text is, and below the span that an item is, where they are well-formed
abbrev pub width_of : List ℕ → Option ℕ
width_of text = if is_width text then Some (number text) else None

abbrev pub span_in : List ℕ → Span
span_in item = record { first = number (first_of_item item); last = number (last_of_item item) }

abbrev pub span_of : List ℕ → Option Span
span_of item = if is_item item then Some (span_in item) else None

-- the width is in a span, and in one of several
abbrev pub is_in : ℕ → Span → Bool
is_in width span = nat_le span.first width && nat_le width span.last

abbrev pub is_in_some : List Span → ℕ → Bool
is_in_some spans width = list_any (is_in width) spans
