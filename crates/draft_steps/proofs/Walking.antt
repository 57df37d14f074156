-- A search forgets what it found, place by place.
use Rattle.draft_steps.proofs.Common.{ℕ, List, Contains, Place, Rows, Has}

-- all that is marked is among these places
abbrev pub AreListed : Rows → List Place → Type 0
AreListed rows places = (b n : ℕ) → Has rows b n → Contains places (record { block = b; number = n })
