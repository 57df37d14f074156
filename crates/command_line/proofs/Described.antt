-- What `clap` makes of arguments and commands that are described.
use Rattle.command_line.proofs.Common.{◌≡◌, ℕ, ◌+◌, ◌<◌, List, [], ◌∷◌, ◌++◌, map, fold, take, length, get_or, append_assoc, sym, ap, ap₂, subst, ◌∙◌, AllZip, append-nil, take_more, all_zipped_more, AddsInTurn, AddsArg, AddsSubcommand, app_of, with_rule, with_subcommand, new_shape, Arg, plain_fields, Argument, Described, rule_described, shape_described, IsDescribedArgument, IsLeaf}
use Rattle.clap.specs.Words.{App, Rule, Shape, Text}
use Rattle.clap.specs.declared.builder.Command.{Command}

-- one more element goes with its description
pub zip_more : {X Y : Type 0} (R : X → Y → Type 0) (xs : List X) (ys : List Y) (i : ℕ) (x : X) (y : Y) → i < length xs → AllZip R (take i xs) ys → R (get_or xs i x) y
    → AllZip R (take (i + 1) xs) (ys ++ y ∷ [])
zip_more {X} R xs ys i x y within so_far new =
    subst (λ (zs : List X). AllZip R zs (ys ++ y ∷ [])) (sym (take_more xs i x within)) (all_zipped_more R (take i xs) ys (get_or xs i x) y so_far new)

-- a command with this name and these arguments, and no subcommands
abbrev leaf : Text → List Rule → App
leaf name rules = record { top = record (new_shape name) { rules = rules }; subs = [] }

-- arguments that are added one by one come behind those that the command has
pub rules_in_turn : (described : List Argument) (arguments : List Arg) (name : Text) (before : List Rule) (old new : Command) → app_of old ≡ leaf name before
    → AllZip IsDescribedArgument described arguments → AddsInTurn AddsArg old arguments new → app_of new ≡ leaf name (before ++ map rule_described described)
rules_in_turn [] [] name before old new e are adds = ap app_of (sym adds) ∙ e ∙ ap (leaf name) (sym (append-nil before))
rules_in_turn [] (x ∷ xs) name before old new e are adds = absurd are
rules_in_turn (d ∷ ds) [] name before old new e are adds = absurd are
rules_in_turn (d ∷ ds) (x ∷ xs) name before old new e are (m, step, adds) =
    let one : app_of m ≡ leaf name (before ++ rule_described d ∷ []) = step.shape are.0.1 ∙ ap₂ with_rule e are.0.0 in
    rules_in_turn ds xs name (before ++ rule_described d ∷ []) m new one are.1 adds ∙ ap (leaf name) (append_assoc before (rule_described d ∷ []) (map rule_described ds))

abbrev pub with_described : App → Described → App
with_described app described = with_subcommand app (shape_described described)

-- the same of subcommands
pub subs_in_turn : (described : List Described) (commands : List Command) (old new : Command) → AllZip (λ one. IsLeaf (shape_described one)) described commands
    → AddsInTurn AddsSubcommand old commands new → app_of new ≡ fold with_described (app_of old) described
subs_in_turn [] [] old new are adds = ap app_of (sym adds)
subs_in_turn [] (x ∷ xs) old new are adds = absurd are
subs_in_turn (d ∷ ds) [] old new are adds = absurd are
subs_in_turn (d ∷ ds) (x ∷ xs) old new are (m, step, adds) =
    let top = ap (λ (a : App). a.top) are.0 in
    let fields = plain_fields x (ap (λ (s : Shape). s.is_plain) top) in
    let one : app_of m ≡ with_described (app_of old) d = step.shape fields.globals ∙ ap (with_subcommand (app_of old)) top in
    subs_in_turn ds xs m new are.1 adds ∙ ap (λ (a : App). fold with_described a ds) one
