-- the keys so far, the first line of a name that was given before, and the table if there is none
use Rattle.ir_resolve.proofs.Common.{◌≡◌, ◌↔◌, map, take, None, IsTrue, zip, Identifier, IsFirst, SomeHas, RepeatsHere, HasName, IsWrittenOn, seen, seen_written, known_by, knows, Is}
use Rattle.ir_resolve.proofs.Firsts.{Before}
use Rattle.ir_resolve.proofs.names.table.names.Given as goal

abbrev pub invariant-loop-place : goal.invariant-loop-place
invariant-loop-place l = record {
  known : (x : Identifier) → IsTrue (knows (known_by l.names) x) ↔ SomeHas Is (take l.place (map seen l.keys)) x;
  first : IsFirst (Before (RepeatsHere HasName IsWrittenOn (map seen_written l.definitions)) l.place) l.found;
  table : l.found ≡ None → known_by l.names ≡ zip (take l.place (map seen l.keys)) (take l.place (map (λ d. d.entity) l.definitions));
}
