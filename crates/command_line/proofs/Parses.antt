-- What parsing by the program's definition says of the words.
use Rattle.command_line.proofs.Common.{◌≡◌, Bool, true, false, List, [], ap, refl, sym, subst, ◌∙◌, digits, HasMatchesOf, fault_of, is_simple_and_free, subcommand_of, subcommand_rows_of, takes, ErrorKind, OutOfMemory, ArgMatches, clap_on_literals, program, IsUntaken, are_taken, command_and_rows, CommandError, Usage, NoMemory}
use Rattle.clap.specs.Words.{App, Text, is_simple}
use Rattle.command_line.proofs.FaultFree.{no_fault_takes}

module _ (a : App) (words : List Text) (is : a ≡ program) where
  pub taken_by : (is_simple_and_free a ≡ true → fault_of a words ≡ []) → are_taken words ≡ true
  unfolding are_taken clap_on_literals digits
  taken_by h = no_fault_takes program words refl refl (ap (λ a. fault_of a words) (sym is) ∙ h (ap is_simple_and_free is))

  pub rows_by : (m : ArgMatches) → HasMatchesOf a words m → subcommand_rows_of m ≡ command_and_rows words
  unfolding command_and_rows clap_on_literals
  rows_by m h = (h (ap is_simple is)).1 ∙ ap (λ a. subcommand_of a words) is

  pub untaken_by : (e : CommandError) (k : ErrorKind) → (takes a words ≡ true → k ≡ OutOfMemory) → (k ≡ OutOfMemory → e ≡ NoMemory) → IsUntaken words e
  unfolding are_taken
  untaken_by e k memory then = go (takes program words) refl
    where
      cases : (e : CommandError) → takes program words ≡ false → IsUntaken words e
      cases NoMemory h = tt
      cases (Usage text) h = h

      go : (b : Bool) → takes program words ≡ b → IsUntaken words e
      go true h = subst (IsUntaken words) (sym (then (memory (ap (λ a. takes a words) is ∙ h)))) tt
      go false h = cases e h
