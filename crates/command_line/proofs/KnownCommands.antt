-- Where `clap` takes the words, they name one of the five commands, and each of its arguments has its value.
use Rattle.command_line.proofs.Common.{◌≡◌, Bool, true, false, ◌||◌, List, [], Option, Some, None, ap, refl, sym, ◌∙◌, codes, inl, inr, subst, not, is_some, if◌then◌else◌, IsSomeAnd, list_all, list_any, option_map, option_map_or, bytes_eq, bytes_eq-Decides, Unsigned, explicit_source, first_of, one_of, answers_to, finished, nothing_held, rows_after, stop_after, walk, walk_from, argument_words, built, built_leaf, entered, inherited, label_of, names_of, rows_at, clap_on_literals, accepts-Accepts, both, program, verify_shape, optimise_shape, run_shape, load_shape, recheck_shape, HasTruth, HasVerify, HasOptimise, HasRun, HasLoad, HasRecheck, IsKnown, most_conflicts, most_steps, most_blocks, most_number, are_taken, command_and_rows}
use Rattle.clap.specs.Walk.{Row, Text}
use Rattle.clap.specs.Simple.{Shape, is_simple}
use Rattle.clap.specs.Takes as pass
use Rattle.command_line.proofs.RowsFit.{ArePlain, leaf_values}

-- the five commands as `clap` has built them
abbrev verify_leaf : Shape
verify_leaf = built_leaf (inherited program.top verify_shape)

abbrev optimise_leaf : Shape
optimise_leaf = built_leaf (inherited program.top optimise_shape)

abbrev run_leaf : Shape
run_leaf = built_leaf (inherited program.top run_shape)

abbrev load_leaf : Shape
load_leaf = built_leaf (inherited program.top load_shape)

abbrev recheck_leaf : Shape
recheck_leaf = built_leaf (inherited program.top recheck_shape)

verify_plain : ArePlain verify_leaf.rules
unfolding clap_on_literals
verify_plain = (record { first = refl; plain = refl }, (record { first = refl; plain = refl }, (record { first = refl; plain = refl }, (record { first = refl; plain = refl }, (record { first = refl; plain = refl }, tt)))))

optimise_plain : ArePlain optimise_leaf.rules
unfolding clap_on_literals
optimise_plain = (record { first = refl; plain = refl }, (record { first = refl; plain = refl }, (record { first = refl; plain = refl }, (record { first = refl; plain = refl }, (record { first = refl; plain = refl }, (record { first = refl; plain = refl }, (record { first = refl; plain = refl }, (record { first = refl; plain = refl }, tt))))))))

run_plain : ArePlain run_leaf.rules
unfolding clap_on_literals
run_plain = (record { first = refl; plain = refl }, (record { first = refl; plain = refl }, (record { first = refl; plain = refl }, (record { first = refl; plain = refl }, (record { first = refl; plain = refl }, tt)))))

load_plain : ArePlain load_leaf.rules
unfolding clap_on_literals
load_plain = (record { first = refl; plain = refl }, (record { first = refl; plain = refl }, tt))

recheck_plain : ArePlain recheck_leaf.rules
unfolding clap_on_literals
recheck_plain = (record { first = refl; plain = refl }, (record { first = refl; plain = refl }, (record { first = refl; plain = refl }, (record { first = refl; plain = refl }, tt))))

-- a text that a flag's parser takes is `true` or `false`
truth_of : (rows : List Row) (argument text : Text) → first_of argument rows ≡ Some text → one_of argument rows ≡ Some text → (bytes_eq text (codes "true") || bytes_eq text (codes "false")) ≡ true → HasTruth rows argument
truth_of rows argument text first one ok = go (bytes_eq text (codes "true")) refl ok
  where
    go : (b : Bool) → bytes_eq text (codes "true") ≡ b → (b || bytes_eq text (codes "false")) ≡ true → HasTruth rows argument
    go true is ok = (true, first ∙ ap (λ (t : Text). Some t) ((bytes_eq-Decides text (codes "true")).0 is), one ∙ sym first)
    go false is ok = (false, first ∙ ap (λ (t : Text). Some t) ((bytes_eq-Decides text (codes "false")).0 ok), one ∙ sym first)

verify_values : (words : List Text) → pass.level_passes verify_leaf [] nothing_held words false ≡ true → HasVerify (rows_after verify_leaf.rules [] words)
verify_values words ok =
    let values = leaf_values verify_leaf words verify_plain ok in
    let rules = values.0 refl in
    let widths = values.1.0 refl in
    let conflicts = values.1.1.0 refl in
    let logs = values.1.1.1.0 refl in
    record {
      rules_file = ap is_some rules.first;
      width_list = ap is_some widths.first;
      most_conflicts = (conflicts.text, conflicts.first, conflicts.one, accepts-Accepts false (Unsigned 0 most_conflicts) conflicts.text conflicts.pass);
      asks_logs = truth_of (rows_after verify_leaf.rules [] words) (codes "logs") logs.text logs.first logs.one logs.pass;
    }

optimise_values : (words : List Text) → pass.level_passes optimise_leaf [] nothing_held words false ≡ true → HasOptimise (rows_after optimise_leaf.rules [] words)
optimise_values words ok =
    let values = leaf_values optimise_leaf words optimise_plain ok in
    let rules = values.0 refl in
    let module_file = values.1.0 refl in
    let conflicts = values.1.1.0 refl in
    let steps = values.1.1.1.0 refl in
    let fold = values.1.1.1.1.1.0 refl in
    let across = values.1.1.1.1.1.1.0 refl in
    record {
      rules_file = ap is_some rules.first;
      module_file = ap is_some module_file.first;
      most_conflicts = (conflicts.text, conflicts.first, conflicts.one, accepts-Accepts false (Unsigned 0 most_conflicts) conflicts.text conflicts.pass);
      most_steps = (steps.text, steps.first, steps.one, accepts-Accepts false (Unsigned 0 most_steps) steps.text steps.pass);
      asks_fold = truth_of (rows_after optimise_leaf.rules [] words) (codes "fold") fold.text fold.first fold.one fold.pass;
      asks_across = truth_of (rows_after optimise_leaf.rules [] words) (codes "across") across.text across.first across.one across.pass;
    }

run_values : (words : List Text) → pass.level_passes run_leaf [] nothing_held words false ≡ true → HasRun (rows_after run_leaf.rules [] words)
run_values words ok =
    let values = leaf_values run_leaf words run_plain ok in
    let module_file = values.0 refl in
    let name = values.1.0 refl in
    let blocks = values.1.1.1.0 refl in
    record {
      module_file = ap is_some module_file.first;
      function_name = ap is_some name.first;
      most_blocks = (blocks.text, blocks.first, blocks.one, accepts-Accepts false (Unsigned 0 most_blocks) blocks.text blocks.pass);
    }

load_values : (words : List Text) → pass.level_passes load_leaf [] nothing_held words false ≡ true → HasLoad (rows_after load_leaf.rules [] words)
load_values words ok =
    let values = leaf_values load_leaf words load_plain ok in
    let number = values.0 refl in
    record { number = (number.text, number.first, number.one, accepts-Accepts false (Unsigned 0 most_number) number.text number.pass) }

recheck_values : (words : List Text) → pass.level_passes recheck_leaf [] nothing_held words false ≡ true → HasRecheck (rows_after recheck_leaf.rules [] words)
recheck_values words ok =
    let values = leaf_values recheck_leaf words recheck_plain ok in
    let rules = values.0 refl in
    let logs = values.1.0 refl in
    let conflicts = values.1.1.0 refl in
    record {
      rules_file = ap is_some rules.first;
      logs_file = ap is_some logs.first;
      most_conflicts = (conflicts.text, conflicts.first, conflicts.one, accepts-Accepts false (Unsigned 0 most_conflicts) conflicts.text conflicts.pass);
    }

-- a command is named, and it is known
abbrev pub IsKnownIn : Option (Text × List Row) → Type 0
IsKnownIn said = IsSomeAnd said IsKnown

entered_known : (stop : Option (Text × List Text)) → pass.entered_passes (built program) stop ≡ true → is_some (entered (built program) stop) ≡ true → IsKnownIn (entered (built program) stop)
entered_known None ok some = cc
entered_known (Some p) ok some = go (answers_to p.0 (label_of verify_leaf)) (answers_to p.0 (label_of optimise_leaf)) (answers_to p.0 (label_of run_leaf)) (answers_to p.0 (label_of load_leaf)) (answers_to p.0 (label_of recheck_leaf)) ok some
  where
    go : (v o r l k : Bool)
        → option_map_or (λ s. pass.level_passes s [] nothing_held p.1 false) (if v then Some verify_leaf else (if o then Some optimise_leaf else (if r then Some run_leaf else (if l then Some load_leaf else (if k then Some recheck_leaf else None))))) true ≡ true
        → is_some (option_map (λ s. rows_at s p.1) (if v then Some verify_leaf else (if o then Some optimise_leaf else (if r then Some run_leaf else (if l then Some load_leaf else (if k then Some recheck_leaf else None)))))) ≡ true
        → IsKnownIn (option_map (λ s. rows_at s p.1) (if v then Some verify_leaf else (if o then Some optimise_leaf else (if r then Some run_leaf else (if l then Some load_leaf else (if k then Some recheck_leaf else None))))))
    go true o r l k ok some = inl (refl, verify_values p.1 ok)
    go false true r l k ok some = inr (inl (refl, optimise_values p.1 ok))
    go false false true l k ok some = inr (inr (inl (refl, run_values p.1 ok)))
    go false false false true k ok some = inr (inr (inr (inl (refl, load_values p.1 ok))))
    go false false false false true ok some = inr (inr (inr (inr (refl, recheck_values p.1 ok))))
    go false false false false false ok some = cc

pub taken_known : (words : List Text) → are_taken words ≡ true → IsKnownIn (command_and_rows words)
unfolding are_taken command_and_rows
taken_known words ok =
    let b = built program in
    let rest = argument_words program words in
    let stop = stop_after b.top.rules (names_of b) rest in
    let parts = both (pass.entered_passes b stop) _ (both (is_simple program) _ ok).1 in
    let first = both (pass.walk_passes b.top (names_of b) (walk_from nothing_held) rest) _ parts.1 in
    let end = (walk b.top.rules (names_of b) nothing_held rest).held in
    let second = both (pass.settle_passes b.top.rules b.top.args_override_self end) _ first.1 in
    let third = both (list_all pass.default_passes b.top.rules) _ second.1 in
    let valid = both (not b.top.arg_required_else_help || (is_some (entered b stop) || list_any (λ r. explicit_source r.source) (finished b.top.rules end))) _ third.1 in
    let wanted = both (not b.top.subcommand_required || is_some (entered b stop)) _ valid.1 in
    entered_known stop parts.0 wanted.0

pub some_known : (o : Option (Text × List Row)) → IsKnownIn o → is_some o ≡ true
some_known None h = absurd h
some_known (Some said) h = refl

pub known_at : (o : Option (Text × List Row)) (said : Text × List Row) → IsKnownIn o → o ≡ Some said → IsKnown said
known_at o said h e = subst IsKnownIn e h
