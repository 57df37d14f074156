-- The laws of matches in drafts.
use Rattle.draft_steps.proofs.Common.{◌≡◌, ℕ, suc, ◌<◌, ◌≤◌, Bool, Read, IsRead, TemporariesStandBefore, Draft, Reaches, Stands, numbers_of, arena_of, AreArranged, MatchesOfTheArena, MatchesOfTheUntouched, IsReached, Operand, AskBits, IsInScope}
use Rattle.ir_core.specs.declared.operand.Operand.TheVariants as operands
use Rattle.ir_core.specs.declared.operand.Register.TheVariants as registers
use Rattle.draft_steps.proofs.PlacedMatches.{placed_matches}
use Rattle.draft_steps.proofs.Reaching.{and_on, itself, within_more}
use Rattle.draft_steps.proofs.Arranged.{is_arranged, once_or_not}
use Rattle.draft_steps.proofs.Untouched.{IsSameInst, StillThere, still_there}

pub of_the_arena : TemporariesStandBefore → MatchesOfTheArena
of_the_arena stand_before across known rules d b n matches ready settled checks stands knows found =
    placed_matches across stand_before known rules ready (arena_of d) (numbers_of d) (is_arranged d settled) checks b n stands knows matches found

-- instruction p of block c stands, and a chain of at most so many operands leads to it
abbrev Come : Bool → Draft → ℕ → ℕ → ℕ → ℕ → ℕ → Type 0
Come across d b n t c p = Reaches across d t b n c p × Stands d c p

pub of_the_untouched : MatchesOfTheUntouched
of_the_untouched across was now rules old new touched depth b n matches ready few settled are_touched reached stands away knows found =
    (still.matches, still.are, still.were)
  where
    are : AreArranged (arena_of new) (numbers_of new)
    are = is_arranged new settled

    more : (t c p e q i : ℕ) (r : Read) → t < depth → Come across new b n t c p → IsRead (arena_of new) c p i r → r.operand ≡ operands.Register (registers.Result e q) → IsInScope across e q c p → Come across new b n (suc t) e q
    more t c p e q i r less come is_read reads scope = (and_on across new t b n c p e q i r come.0 come.1 is_read reads scope, are.read_stands c p i e q r is_read reads)

    same : (t c p : ℕ) → t ≤ depth → Come across new b n t c p → IsSameInst (arena_of old) (arena_of new) c p
    same t c p within come =
        let u = are_touched c p come.1 (away c p (within_more across new t depth b n c p within come.0)) in
        record { inst = u.inst; was = u.was; is = u.is; once = u.once }

    bits : AskBits rules → IsReached (arena_of new) b → (x : Operand) → ((p : ℕ) → x ≡ operands.Register (registers.Result b p) → (t : ℕ) × (t ≤ depth) × Come across new b n t b p) → was b n x ≡ now b n x
    bits asks is_reached x come = knows asks is_reached x (λ p is. let (t, within, there) = come p is in (there.1, away b p (within_more across new t depth b n b p within there.0)))

    still : StillThere across was now rules ready (arena_of old) (arena_of new) b n depth few reached.0 reached.1 (Come across new b n) (itself across new 0 b n, stands) more same (λ c p. once_or_not new settled (registers.Result c p)) bits matches
    still = still_there across was now rules ready (arena_of old) (arena_of new) b n depth few reached.0 reached.1 (Come across new b n) (itself across new 0 b n, stands) more same (λ c p. once_or_not new settled (registers.Result c p)) bits matches found
