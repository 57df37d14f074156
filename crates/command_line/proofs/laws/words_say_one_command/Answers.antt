use Rattle.command_line.proofs.Common.{◌≡◌, ◌∙◌, ◌==◌, ℕ, Bool, true, false, List, Option, Some, None, ap, ap₂, sym, slice_index, codes, refl, arith, if◌then◌else◌, nat_tests, widths_named, SaysOf, command_and_rows, SameCommand, OptimiseOptions, RecheckOptions, RunOptions, VerifyOptions, Verify, Optimise, Run, Load, Recheck}
use Rattle.clap.specs.Words.{Row, Text}
use Rattle.command_line.specs.declared.command.Command.{Command}
use Rattle.command_line.proofs.laws.words_say_one_command.Goals as goal

same : {A : Type 0} {o : Option A} {x y : A} → o ≡ Some x → o ≡ Some y → x ≡ y
same e h = let both : Some _ ≡ Some _ = sym e ∙ h in cc

-- texts that begin with different bytes are different
names_differ : {A : Type 0} (x y : List ℕ) (m n : ℕ) → slice_index x 0 ≡ m → slice_index y 0 ≡ n → (m == n) ≡ false → x ≡ y → A
names_differ x y m n first second other e = absurd (differ (sym first ∙ (ap (λ (t : List ℕ). slice_index t 0) e ∙ second)))
  where
    differ : m ≡ n → ⊥
    differ same = grind (arith, nat_tests)

verify_optimise : {A : Type 0} → codes "verify" ≡ codes "optimise" → A
verify_optimise e = names_differ (codes "verify") (codes "optimise") 118 111 refl refl refl e

verify_run : {A : Type 0} → codes "verify" ≡ codes "run" → A
verify_run e = names_differ (codes "verify") (codes "run") 118 114 refl refl refl e

optimise_run : {A : Type 0} → codes "optimise" ≡ codes "run" → A
optimise_run e = names_differ (codes "optimise") (codes "run") 111 114 refl refl refl e

verify_load : {A : Type 0} → codes "verify" ≡ codes "load" → A
verify_load e = names_differ (codes "verify") (codes "load") 118 108 refl refl refl e

optimise_load : {A : Type 0} → codes "optimise" ≡ codes "load" → A
optimise_load e = names_differ (codes "optimise") (codes "load") 111 108 refl refl refl e

run_load : {A : Type 0} → codes "run" ≡ codes "load" → A
run_load e = names_differ (codes "run") (codes "load") 114 108 refl refl refl e

recheck_other : {A : Type 0} (x : List ℕ) (m : ℕ) → slice_index x 0 ≡ m → (m == 114) ≡ false → x ≡ codes "recheck" → A
recheck_other x m first other e = names_differ x (codes "recheck") m 114 first refl other e

-- `run` and `recheck` differ in their second byte
run_recheck : {A : Type 0} → codes "run" ≡ codes "recheck" → A
run_recheck e = absurd (let second : slice_index (codes "run") 1 ≡ slice_index (codes "recheck") 1 = ap (λ (t : List ℕ). slice_index t 1) e in let differ : 117 ≡ 101 = second in omega arith)

-- the flag is the same where its text is
same_flag : (x y : Bool) → (if x then codes "true" else codes "false") ≡ (if y then codes "true" else codes "false") → x ≡ y
same_flag true true e = refl
same_flag false false e = refl
same_flag true false e = names_differ (codes "true") (codes "false") 116 102 refl refl refl e
same_flag false true e = names_differ (codes "false") (codes "true") 102 116 refl refl refl e

verify_options : (x y : VerifyOptions) → x.widths ≡ y.widths → x.conflicts ≡ y.conflicts → x.logs ≡ y.logs → x ≡ y
verify_options x y widths conflicts logs =
    ap₂ (λ (w : List ℕ) (n : ℕ). record { widths = w; conflicts = n; logs = x.logs }) widths conflicts ∙ ap (λ (b : Bool). record { widths = y.widths; conflicts = y.conflicts; logs = b }) logs

recheck_options : (x y : RecheckOptions) → x.conflicts ≡ y.conflicts → x ≡ y
recheck_options x y conflicts = ap (λ (n : ℕ). record { conflicts = n }) conflicts

optimise_options : (x y : OptimiseOptions) → x.conflicts ≡ y.conflicts → x.steps ≡ y.steps → x.fold ≡ y.fold → x.across ≡ y.across → x ≡ y
optimise_options x y conflicts steps fold across =
    ap₂ (λ (m n : ℕ). record { conflicts = m; steps = n; fold = x.fold; across = x.across }) conflicts steps
    ∙ ap₂ (λ (b c : Bool). record { conflicts = y.conflicts; steps = y.steps; fold = b; across = c }) fold across

run_options : (x y : RunOptions) → x.blocks ≡ y.blocks → x ≡ y
run_options x y blocks = ap (λ (n : ℕ). record { blocks = n }) blocks

one : (said : Option (Text × List Row)) (a b : Command) → SaysOf said a → SaysOf said b → SameCommand a b
one None a b h k = absurd h
one (Some said) (Verify rules options) (Verify rules' options') h k =
    let x = h.1.width_list in
    let y = k.1.width_list in
    (same h.1.rules_file k.1.rules_file, verify_options options options' (x.2.1 ∙ (ap widths_named (same x.1 y.1) ∙ sym y.2.1)) (same h.1.most_conflicts k.1.most_conflicts) (same_flag options.logs options'.logs (same h.1.asks_logs k.1.asks_logs)))
one (Some said) (Optimise rules source logs options) (Optimise rules' source' logs' options') h k =
    (same h.1.rules_file k.1.rules_file, same h.1.module_file k.1.module_file, sym h.1.logs_file ∙ k.1.logs_file, optimise_options options options' (same h.1.most_conflicts k.1.most_conflicts) (same h.1.most_steps k.1.most_steps) (same_flag options.fold options'.fold (same h.1.asks_fold k.1.asks_fold)) (same_flag options.across options'.across (same h.1.asks_across k.1.asks_across)))
one (Some said) (Run source name arguments options) (Run source' name' arguments' options') h k =
    (same h.1.module_file k.1.module_file, same h.1.function_name k.1.function_name, sym h.1.function_arguments ∙ k.1.function_arguments, run_options options options' (same h.1.most_blocks k.1.most_blocks))
one (Some said) (Load number) (Load number') h k = same h.1 k.1
one (Some said) (Recheck rules logs options) (Recheck rules' logs' options') h k =
    (same h.1.rules_file k.1.rules_file, same h.1.logs_file k.1.logs_file, recheck_options options options' (same h.1.most_conflicts k.1.most_conflicts))
one (Some said) (Verify rules options) (Optimise rules' source' logs' options') h k = verify_optimise (sym h.0 ∙ k.0)
one (Some said) (Optimise rules source logs options) (Verify rules' options') h k = verify_optimise (sym k.0 ∙ h.0)
one (Some said) (Verify rules options) (Run source name arguments options') h k = verify_run (sym h.0 ∙ k.0)
one (Some said) (Run source name arguments options) (Verify rules' options') h k = verify_run (sym k.0 ∙ h.0)
one (Some said) (Optimise rules source logs options) (Run source' name arguments options') h k = optimise_run (sym h.0 ∙ k.0)
one (Some said) (Run source name arguments options) (Optimise rules source' logs options') h k = optimise_run (sym k.0 ∙ h.0)
one (Some said) (Verify rules options) (Load number) h k = verify_load (sym h.0 ∙ k.0)
one (Some said) (Load number) (Verify rules options) h k = verify_load (sym k.0 ∙ h.0)
one (Some said) (Optimise rules source logs options) (Load number) h k = optimise_load (sym h.0 ∙ k.0)
one (Some said) (Load number) (Optimise rules source logs options) h k = optimise_load (sym k.0 ∙ h.0)
one (Some said) (Run source name arguments options) (Load number) h k = run_load (sym h.0 ∙ k.0)
one (Some said) (Load number) (Run source name arguments options) h k = run_load (sym k.0 ∙ h.0)
one (Some said) (Verify rules options) (Recheck rules' logs options') h k = recheck_other (codes "verify") 118 refl refl (sym h.0 ∙ k.0)
one (Some said) (Recheck rules logs options) (Verify rules' options') h k = recheck_other (codes "verify") 118 refl refl (sym k.0 ∙ h.0)
one (Some said) (Optimise rules source asked options) (Recheck rules' logs options') h k = recheck_other (codes "optimise") 111 refl refl (sym h.0 ∙ k.0)
one (Some said) (Recheck rules logs options) (Optimise rules' source asked options') h k = recheck_other (codes "optimise") 111 refl refl (sym k.0 ∙ h.0)
one (Some said) (Load number) (Recheck rules logs options) h k = recheck_other (codes "load") 108 refl refl (sym h.0 ∙ k.0)
one (Some said) (Recheck rules logs options) (Load number) h k = recheck_other (codes "load") 108 refl refl (sym k.0 ∙ h.0)
one (Some said) (Run source name arguments options) (Recheck rules logs options') h k = run_recheck (sym h.0 ∙ k.0)
one (Some said) (Recheck rules logs options) (Run source name arguments options') h k = run_recheck (sym k.0 ∙ h.0)

pub returns : goal.returns
returns c = record { one = λ words a b h k. one (command_and_rows words) a b h k }
