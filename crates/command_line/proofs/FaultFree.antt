-- Where the model of `clap` finds no fault in the words, it takes them.
use Rattle.command_line.proofs.Common.{◌≡◌, ℕ, zero, suc, ◌≤◌, Bool, true, false, ◌&&◌, ◌||◌, List, [], ◌∷◌, Option, Some, None, length, ap, ap₂, refl, sym, ◌∙◌, arith, nat_lt, ◌==◌, drop, codes, not, is_some, find, if◌then◌else◌, slice_get, encode_utf8, list_all, list_any, option_map_or, bytes_eq, chars, le-leb, nat_tests, ArgAction, Set, Append, SetTrue, SetFalse, Count, Help, HelpShort, HelpLong, Version, ValueParser, ErrorKind, explicit_source, parser_of_value, unwrap_or_range, Kinds, or_else, range_kinds, value_kinds, values_kinds, long_of, short_of, accepts, Held, Names, Step, Walk, action_of, answers_to, arg_by_id, arg_by_index, arg_by_long, arg_by_short, attached_value, finished, has_row, is_pending, most_values, next, nothing_held, reacted, settled, subcommand, subcommand_met, takes_several, takes_values, trailing, value, values_or_missing, walk, walk_from, walked, word_met, argument_words, built, entered, label_of, names_of, both}
use Rattle.clap.specs.Walk.{Row, Rule, Text}
use Rattle.clap.specs.Simple.{App, Shape, is_simple}
use Rattle.clap.specs.Faults as fault
use Rattle.clap.specs.Takes as pass

-- ---- tests, and lists of kinds of errors

both_hold : (a b : Bool) → a ≡ true → b ≡ true → (a && b) ≡ true
both_hold a b p q = ap₂ (λ x y. x && y) p q

neither : (a b : Kinds) → or_else a b ≡ [] → (a ≡ []) × (b ≡ [])
neither [] b e = (refl, e)
neither (k ∷ ks) b e = cc

else_holds : (b : Bool) (k : ErrorKind) (ks rest : Kinds) → (if b then k ∷ ks else rest) ≡ [] → (b ≡ false) × (rest ≡ [])
else_holds true k ks rest e = cc
else_holds false k ks rest e = (refl, e)

then_holds : (b : Bool) (k : ErrorKind) (ks : Kinds) → (if b then [] else k ∷ ks) ≡ [] → b ≡ true
then_holds true k ks e = refl
then_holds false k ks e = cc

either_holds : (b : Bool) (f f' : Kinds) (g g' : Bool) → (f ≡ [] → g ≡ true) → (f' ≡ [] → g' ≡ true) → (if b then f else f') ≡ [] → (if b then g else g') ≡ true
either_holds true f f' g g' left right e = left e
either_holds false f f' g g' left right e = right e

or_holds : (b : Bool) (f : Kinds) (g : Bool) → (f ≡ [] → g ≡ true) → (if b then [] else f) ≡ [] → (b || g) ≡ true
or_holds true f g h e = refl
or_holds false f g h e = h e

option_holds : {X : Type 0} (f : X → Kinds) (g : X → Bool) → ((x : X) → f x ≡ [] → g x ≡ true) → (o : Option X) → option_map_or f o [] ≡ [] → option_map_or g o true ≡ true
option_holds f g each None e = refl
option_holds f g each (Some x) e = each x e

-- ---- the values of one occurrence of an argument

values_pass : (ic : Bool) (p : ValueParser) (vs : List Text) → values_kinds ic p vs ≡ [] → list_all (accepts ic p) vs ≡ true
values_pass ic p [] e = refl
values_pass ic p (v ∷ vs) e =
    let parts = neither (value_kinds ic p v) (values_kinds ic p vs) e in
    both_hold _ _ (then_holds (accepts ic p v) _ _ parts.0) (values_pass ic p vs parts.1)

count_passes : (a : Rule) (vs : List Text) (rows : List Row) → fault.count_fault a vs rows ≡ [] → pass.count_passes a vs rows ≡ true
count_passes a [] rows e = then_holds _ _ _ e
count_passes a (v ∷ vs) rows e = values_pass a.ignore_case (parser_of_value a.parser) (v ∷ vs) e

once : (has again : Bool) → (has && not again) ≡ false → (not has || again) ≡ true
once true true e = refl
once true false e = sym e
once false again e = refl

set_passes : (again : Bool) (a : Rule) (vs : List Text) (rows : List Row) → fault.set_fault again a vs rows ≡ [] → pass.set_passes again a vs rows ≡ true
set_passes again a vs rows e =
    let parts = neither (fault.repeat_fault again a.id rows) (fault.values_fault a vs) e in
    both_hold _ _ (once (has_row a.id rows) again (else_holds (has_row a.id rows && not again) _ _ _ parts.0).0) (values_pass a.ignore_case (parser_of_value a.parser) vs parts.1)

action_passes : (x : ArgAction) (again : Bool) (a : Rule) (vs : List Text) (rows : List Row) → fault.action_fault x again a vs rows ≡ [] → pass.action_passes x again a vs rows ≡ true
action_passes Set again a vs rows e = set_passes again a vs rows e
action_passes SetTrue again a vs rows e = set_passes again a vs rows e
action_passes SetFalse again a vs rows e = set_passes again a vs rows e
action_passes Append again a vs rows e = values_pass a.ignore_case (parser_of_value a.parser) vs e
action_passes Count again a vs rows e = count_passes a vs rows e
action_passes Help again a vs rows e = cc
action_passes HelpShort again a vs rows e = cc
action_passes HelpLong again a vs rows e = cc
action_passes Version again a vs rows e = cc

range_passes : (least most n : ℕ) → range_kinds least most n ≡ [] → (least ≤ n) × (n ≤ most)
range_passes least most n e = go (least == most) refl _ _ _ (else_holds (nat_lt 0 least && n == 0) _ _ _ e).1
  where
    go : (b : Bool) → (least == most) ≡ b → (k j l : ErrorKind) → (if b then (if least == n then [] else k ∷ []) else (if nat_lt n least then j ∷ [] else (if nat_lt most n then l ∷ [] else []))) ≡ []
        → (least ≤ n) × (n ≤ most)
    go true same k j l h =
        let is : (least == n) ≡ true = then_holds _ _ _ h in
        (grind (arith, nat_tests), grind (arith, nat_tests))
    go false same k j l h =
        let low = else_holds (nat_lt n least) _ _ _ h in
        let high = else_holds (nat_lt most n) _ _ _ low.1 in
        let at_least : nat_lt n least ≡ false = low.0 in
        let at_most : nat_lt most n ≡ false = high.0 in
        (grind (arith, nat_tests), grind (arith, nat_tests))

use_passes : (again : Bool) (a : Rule) (vs : List Text) (rows : List Row) → fault.use_fault again a vs rows ≡ [] → pass.use_passes again a vs rows ≡ true
use_passes again a vs rows e =
    let parts = neither (range_kinds (unwrap_or_range a.range).start_inclusive (most_values a) (length vs)) _ e in
    let range = range_passes (unwrap_or_range a.range).start_inclusive (most_values a) (length vs) parts.0 in
    both_hold _ _ (le-leb _ _ range.0) (both_hold _ _ (le-leb _ _ range.1) (action_passes (action_of a) again a (values_or_missing a vs) rows parts.1))

-- ---- the loop over the words

settle_passes : (c : List Rule) (again : Bool) (h : Held) → fault.settle_fault c again h ≡ [] → pass.settle_passes c again h ≡ true
settle_passes c again h e = option_holds _ _ (λ p. option_holds _ _ (λ a. use_passes again a p.1 h.rows) (arg_by_id c p.0)) h.pending e

react_passes : (c : List Rule) (again : Bool) (a : Rule) (vs : List Text) (h : Held) → fault.react_fault c again a vs h ≡ [] → pass.react_passes c again a vs h ≡ true
react_passes c again a vs h e =
    let parts = neither (fault.settle_fault c again h) _ e in
    both_hold _ _ (settle_passes c again h parts.0) (use_passes again a vs (settled c h).rows parts.1)

option_passes : (c : List Rule) (again : Bool) (a : Rule) (v : Option Text) (h : Held) → fault.option_fault c again a v h ≡ [] → pass.option_passes c again a v h ≡ true
option_passes c again a (Some v) h e = react_passes c again a (v ∷ []) h e
option_passes c again a None h e = settle_passes c again h e

no_value : (b : Bool) → b ≡ false → not b ≡ true
no_value b e = ap not e

long_passes : (c : List Rule) (again : Bool) (o : Option Rule) (v : Option Text) (h : Held) → fault.long_fault c again o v h ≡ [] → pass.long_passes c again o v h ≡ true
long_passes c again None v h e = cc
long_passes c again (Some a) v h e = either_holds (takes_values a) _ _ _ _ (option_passes c again a v h)
    (λ k. let parts = else_holds (is_some v) _ _ _ k in both_hold _ _ (no_value (is_some v) parts.0) (react_passes c again a [] h parts.1)) e

short_passes : (c : List Rule) (again : Bool) (o : Option Rule) (rest : Text) (h : Held) (f : Held → Kinds) (g : Held → Bool) → ((x : Held) → f x ≡ [] → g x ≡ true)
    → fault.short_fault c again o rest h f ≡ [] → pass.short_passes c again o rest h g ≡ true
short_passes c again None rest h f g each e = cc
short_passes c again (Some a) rest h f g each e = either_holds (takes_values a) _ _ _ _ (option_passes c again a (attached_value rest) h)
    (λ k. let parts = neither (fault.react_fault c again a [] h) _ k in both_hold _ _ (react_passes c again a [] h parts.0) (each (reacted c a [] h) parts.1)) e

flags_pass : (c : List Rule) (again : Bool) (k : ℕ) (flags : Text) (skip : ℕ) (h : Held) → fault.flags_fault c again k flags skip h ≡ [] → pass.flags_pass c again k flags skip h ≡ true
unfolding fault.flags_fault pass.flags_pass
flags_pass c again zero flags skip h e = refl
flags_pass c again (suc k) flags skip h e = go (flags_pass c again k) (slice_get (chars flags) 0) skip e
  where
    go : ((rest : Text) (n : ℕ) (x : Held) → fault.flags_fault c again k rest n x ≡ [] → pass.flags_pass c again k rest n x ≡ true)
        → (o : Option ℕ) (n : ℕ) → fault.bundle_step_fault c again o flags n h (fault.flags_fault c again k) ≡ [] → pass.bundle_step_passes c again o flags n h (pass.flags_pass c again k) ≡ true
    go more None n e = refl
    go more (Some x) zero e =
        let rest = drop (length (encode_utf8 x)) flags in
        short_passes c again (arg_by_short c x) rest h (fault.flags_fault c again k rest 0) (pass.flags_pass c again k rest 0) (more rest 0) e
    go more (Some x) (suc n) e = more (drop (length (encode_utf8 x)) flags) n h e

flag_word_passes : (c : List Rule) (again : Bool) (o : Option (Text × Option Text)) (word : Text) (h : Held) → fault.flag_word_fault c again o word h ≡ [] → pass.flag_word_passes c again o word h ≡ true
flag_word_passes c again (Some p) word h e = long_passes c again (arg_by_long c p.0) p.1 h e
flag_word_passes c again None word h e = option_holds _ _ (λ flags. flags_pass c again (length flags) flags h.skip (record h { skip = 0 })) (short_of word) e

no_help : (named disabled : Bool) → (named && not disabled) ≡ false → (not named || disabled) ≡ true
no_help named disabled e = once named disabled e

other_passes : (s : Shape) (o : Option Text) (word : Text) (h : Held) → fault.other_fault s o word h ≡ [] → pass.other_passes s o word h ≡ true
other_passes s (Some name) word h e = no_help (bytes_eq name (codes "help")) s.disable_help_subcommand (else_holds (bytes_eq name (codes "help") && not s.disable_help_subcommand) _ _ _ e).0
other_passes s None word h e = or_holds (bytes_eq word (45 ∷ 45 ∷ [])) _ _ (flag_word_passes s.rules s.args_override_self (long_of word) word h) e

step_passes : (s : Shape) (position : ℕ) (h : Held) (k : Step) → fault.step_fault s position h k ≡ [] → pass.step_passes s position h k ≡ true
step_passes s position h value e = go (arg_by_index s.rules position) e
  where
    stray : (b : Bool) (k : ErrorKind) (j : Kinds) → (if b then k ∷ [] else k ∷ j) ≡ [] → false ≡ true
    stray true k j e = cc
    stray false k j e = cc

    go : (o : Option Rule) → option_map_or (λ a. fault.positional_fault s.rules s.args_override_self a h) o (fault.stray_fault s) ≡ []
        → option_map_or (λ a. pass.positional_passes s.rules s.args_override_self a h) o false ≡ true
    go None e = stray s.is_leaf _ _ e
    go (Some a) e = or_holds (is_pending a h.pending && takes_several a) _ _ (settle_passes s.rules s.args_override_self h) e
step_passes s position h (next w) e = refl
step_passes s position h (trailing p) e = refl
step_passes s position h (subcommand n) e = refl

abbrev met : Shape → Names → Walk → Text → Held × Step
met s names w word = word_met s.rules names w.is_trailing w.waiting w.position word w.held

turn_passes : (s : Shape) (names : Names) (w : Walk) (word : Text) → fault.turn_fault s names w word ≡ [] → pass.turn_passes s names w word ≡ true
turn_passes s names w word e = or_holds (is_some w.stopped) _ _ (λ k.
    let parts = neither (fault.word_fault s names w.is_trailing w.waiting word w.held) _ k in
    both_hold _ _ (or_holds w.is_trailing _ _ (other_passes s (subcommand_met names w.waiting word) word w.held) parts.0)
    (step_passes s w.position (met s names w word).0 (met s names w word).1 parts.1)) e

walk_passes : (s : Shape) (names : Names) (w : Walk) (words : List Text) → fault.walk_fault s names w words ≡ [] → pass.walk_passes s names w words ≡ true
unfolding fault.walk_fault pass.walk_passes
walk_passes s names w [] e = refl
walk_passes s names w (word ∷ rest) e =
    let parts = neither (fault.turn_fault s names w word) _ e in
    both_hold _ _ (turn_passes s names w word parts.0) (walk_passes s names (walked s.rules names w word) rest parts.1)

-- ---- checks behind the loop

-- the checks of a definition that concern its arguments alone
abbrev pub has_sound_rules : Shape → Bool
has_sound_rules s = list_all pass.default_passes s.rules && list_all (λ a. a.is_free) s.rules

abbrev pub is_sound : App → Bool
is_sound a = has_sound_rules a.top && list_all has_sound_rules a.subs

all_given : (p q : Rule → Bool) (c : List Rule) → list_any (λ a. p a && not (q a)) c ≡ false → list_all (λ a. not (p a) || q a) c ≡ true
all_given p q [] e = refl
all_given p q (a ∷ c) e = go (p a && not (q a)) refl (all_given p q c) e
  where
    go : (b : Bool) → (p a && not (q a)) ≡ b → (list_any (λ x. p x && not (q x)) c ≡ false → list_all (λ x. not (p x) || q x) c ≡ true)
        → (b || list_any (λ x. p x && not (q x)) c) ≡ false → list_all (λ x. not (p x) || q x) (a ∷ c) ≡ true
    go true is rest h = cc
    go false is rest h = both_hold _ _ (once (p a) (q a) is) (rest h)

check_passes : (s : Shape) (rows : List Row) (has : Bool) → list_all (λ a. a.is_free) s.rules ≡ true → fault.check_fault s rows has ≡ [] → pass.is_valid s rows has ≡ true
check_passes s rows has free e =
    let help = else_holds (not has && (s.arg_required_else_help && not (list_any (λ r. explicit_source r.source) rows))) _ _ _ e in
    let wanted = else_holds (not has && s.subcommand_required) _ _ _ help.1 in
    let argument = else_holds (not (s.subcommand_negates_reqs && has) && list_any (λ a. a.required && not (pass.is_given a.id rows)) s.rules) _ _ _ wanted.1 in
    both_hold _ _ (helped has s.arg_required_else_help _ help.0) (both_hold _ _ (asked has s.subcommand_required wanted.0) (both_hold _ _ free
    (given (s.subcommand_negates_reqs && has) _ argument.0 (all_given (λ a. a.required) (λ a. pass.is_given a.id rows) s.rules))))
  where
    helped : (has wants any : Bool) → (not has && (wants && not any)) ≡ false → (not wants || (has || any)) ≡ true
    helped has false any e = refl
    helped true true any e = refl
    helped false true true e = refl
    helped false true false e = sym e

    asked : (has wants : Bool) → (not has && wants) ≡ false → (not wants || has) ≡ true
    asked has false e = refl
    asked true true e = refl
    asked false true e = sym e

    given : (b any : Bool) {all : Bool} → (not b && any) ≡ false → (any ≡ false → all ≡ true) → (b || all) ≡ true
    given true any e h = refl
    given false any e h = h e

level_passes : (s : Shape) (names : Names) (h : Held) (words : List Text) (has : Bool) (below : Kinds) → has_sound_rules s ≡ true
    → fault.level_fault s names h words has below ≡ [] → (pass.level_passes s names h words has ≡ true) × (below ≡ [])
level_passes s names h words has below sound e =
    let end = (walk s.rules names h words).held in
    let rules = both (list_all pass.default_passes s.rules) _ sound in
    let first = neither (fault.walk_fault s names (walk_from h) words) _ e in
    let second = neither below _ first.1 in
    let third = neither (fault.settle_fault s.rules s.args_override_self end) _ second.1 in
    let fourth = neither (fault.defaults_fault (settled s.rules end).rows s.rules) _ third.1 in (
      both_hold _ _ (walk_passes s names (walk_from h) words first.0) (both_hold _ _ (settle_passes s.rules s.args_override_self end third.0)
          (both_hold _ _ rules.0 (check_passes s (finished s.rules end) has rules.1 fourth.1))),
      second.0,
    )

found_passes : (p q : Shape → Bool) (xs : List Shape) (x : Shape) → find p xs ≡ Some x → list_all q xs ≡ true → q x ≡ true
found_passes p q [] x e h = cc
found_passes p q (y ∷ ys) x e h = go (p y) (λ k. found_passes p q ys x k (both (q y) _ h).1) e
  where
    go : (b : Bool) → (find p ys ≡ Some x → q x ≡ true) → (if b then Some y else find p ys) ≡ Some x → q x ≡ true
    go true rest e = let same : y ≡ x = cc in ap q (sym same) ∙ (both (q y) _ h).0
    go false rest e = rest e

-- where no kind of error is possible, the words are taken
pub no_fault_takes : (a : App) (words : List Text) → is_simple a ≡ true → is_sound (built a) ≡ true → fault.fault_of a words ≡ [] → pass.takes a words ≡ true
no_fault_takes a words simple sound e =
    let b = built a in
    let stop = (walk b.top.rules (names_of b) nothing_held (argument_words a words)).stopped in
    let parts = both (has_sound_rules b.top) _ sound in
    let level = level_passes b.top (names_of b) nothing_held (argument_words a words) (is_some (entered b stop)) (fault.entered_fault b stop) parts.0 e in
    both_hold _ _ simple (both_hold _ _ (below b parts.1 stop level.1) level.0)
  where
    below : (b : App) → list_all has_sound_rules b.subs ≡ true → (stop : Option (Text × List Text)) → fault.entered_fault b stop ≡ [] → pass.entered_passes b stop ≡ true
    below b sound stop e = option_holds _ _ (λ p. go p (find (λ s. answers_to p.0 (label_of s)) b.subs) refl) stop e
      where
        go : (p : Text × List Text) (o : Option Shape) → find (λ s. answers_to p.0 (label_of s)) b.subs ≡ o
            → option_map_or (λ s. fault.level_fault s [] nothing_held p.1 false []) o [] ≡ [] → option_map_or (λ s. pass.level_passes s [] nothing_held p.1 false) o true ≡ true
        go p None is e = refl
        go p (Some s) is e = (level_passes s [] nothing_held p.1 false [] (found_passes _ has_sound_rules b.subs s is sound) e).0
