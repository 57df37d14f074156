-- The entries of a trail that conflict analysis has seen.
use Rattle.std.specs.Prelude.{ℕ, ◌<◌, List, All, filter}
use Rattle.depth_first.specs.declared.trail.Entry.{Entry}
use Rattle.first_uip.specs.declared.roles.Role.{Role}
use Rattle.first_uip.specs.Conflict.{is_seen, part_of}

-- the entries that are seen
abbrev pub shown_entries : List Role → List Entry → List Entry
shown_entries roles entries = filter (λ (e : Entry). is_seen (part_of roles e)) entries

-- the variables of the entries are below this number
abbrev pub VariablesBelow : ℕ → List Entry → Type 0
VariablesBelow n entries = All (λ (e : Entry). e.literal.variable < n) entries
