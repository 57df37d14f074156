use Rattle.places.proofs.Common.{◌≡◌, ◌+◌, ◌*◌, get_or, none, place_in, numbers_in}
use Rattle.places.proofs.Spacing.{AreSpaced}
use Rattle.places.proofs.links.Links.label_anew.Given as goal

-- as many numbers as there were turns have their labels
abbrev pub invariant-loop-place : goal.invariant-loop-place
invariant-loop-place l =
    record {
      label : l.label ≡ l.spacing.low + l.place * l.spacing.gap;
      number : l.number ≡ get_or (numbers_in l.initial.self) (place_in (numbers_in l.initial.self) l.spacing.first + l.place) none;
      first : l.self.first ≡ l.initial.self.first;
      spaced : AreSpaced l.initial.self.nodes.items l.self.nodes.items (numbers_in l.initial.self) l.spacing l.place;
    }
