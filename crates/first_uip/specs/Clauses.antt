-- The clauses of an arena, the literals that each of them watches, and the clauses of a watch list.
use Rattle.std.specs.Prelude.{◌≡◌, ℕ, ◌-◌, List, if◌then◌else◌, map, take, drop}
use Rattle.clauses.specs.Literal.{Lit, is_same}
use Rattle.first_uip.specs.declared.arena.Arena.{Arena}
use Rattle.first_uip.specs.declared.arena.Header.{Header}
use Rattle.first_uip.specs.declared.arena.Watched.{Watched}
use Rattle.first_uip.specs.declared.arena.Watched.TheVariants.{Alone, Two}
use Rattle.first_uip.specs.declared.watchers.Watcher.{Watcher}

-- the literals of a clause: those of the arena from where it begins up to where it ends
abbrev pub literals_of : List Lit → Header → List Lit
literals_of literals h = take (h.end - h.start) (drop h.start literals)

-- a clause watches the two literals of its header, or none where they are the same
abbrev pub watched_of : Header → Watched
watched_of h = if is_same h.first h.second then Alone else Two h.first h.second

abbrev pub clauses_in : Arena → List (List Lit)
clauses_in arena = map (literals_of arena.literals.items) arena.headers.items

abbrev pub watched_in : Arena → List Watched
watched_in arena = map watched_of arena.headers.items

-- the two watched literals differ, if there are two
abbrev pub IsPair : Watched → Type 0
IsPair Alone = Unit {0}
IsPair (Two first second) = (first ≡ second) → ⊥

abbrev pub numbers_in : List Watcher → List ℕ
numbers_in watchers = map (λ (w : Watcher). w.number) watchers
