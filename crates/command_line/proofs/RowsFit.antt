-- Where `clap` takes the words, each row of its matches has values that passed their argument's value parser.
use Rattle.command_line.proofs.Common.{◌≡◌, ℕ, zero, suc, ◌<◌, Bool, true, false, ◌&&◌, ◌||◌, List, [], ◌∷◌, ◌++◌, Option, Some, None, length, ap, ap₂, refl, sym, ◌∙◌, arith, nat_le, drop, subst, not, is_some, find, fold, if◌then◌else◌, slice_get, encode_utf8, AllByRecursion, list_all, list_any, option_map, option_map_or, bytes_eq, chars, list_all-append, bytes_eq-Decides, nat_tests, leb-true, ArgAction, Set, Append, SetTrue, SetFalse, Count, Help, HelpShort, HelpLong, Version, Reading, ValueSource, DefaultValue, CommandLine, explicit_source, unwrap_or_range, long_of, short_of, is_request, read_as, Held, Outcome, Names, Step, Waiting, Walk, action_of, after_flag, after_step, arg_by_id, arg_by_index, arg_by_long, arg_by_short, at_row, attached_value, bundle_met, bundle_step, default_rows, bundle, done, finished, flag_met, first_of, has_row, idle, is_empty, is_pending, long_met, long_or_other, more_values, most_values, next, nothing_held, one_of, option, option_met, option_word, plain, plain_word, positional, reacted, reading_by, refused, row_text, rows_after, settled, settled_rows, short_met, short_or_plain, subcommand, subcommand_met, subcommand_or_other, takes_several, takes_values, to_positional, trailing, used, used_as, used_by_id, values_or_missing, value, waits, walk, walk_from, walked, walked_from, with_default, with_values, without, word_met, both}
use Rattle.clap.specs.Walk.{Row, Rule, Text}
use Rattle.clap.specs.Simple.{Shape}
use Rattle.clap.specs.Takes as pass

-- ---- rows

-- the row has values that passed the argument's value parser, and are read as that says
pub record IsOf (a : Rule) (r : Row) : Type 0 where
  pub some : 0 < length r.values
  pub pass : pass.values_pass a r.values ≡ true
  pub reading : r.reading ≡ reading_by a

-- the same for the argument whose name the row has
abbrev pub Fits : List Rule → Row → Type 0
Fits c r = (a : Rule) → arg_by_id c r.id ≡ Some a → IsOf a r

abbrev pub AllFit : List Rule → List Row → Type 0
AllFit c rows = AllByRecursion (Fits c) rows

all_append : (P : Row → Type 0) (xs ys : List Row) → AllByRecursion P xs → AllByRecursion P ys → AllByRecursion P (xs ++ ys)
all_append P [] ys h k = k
all_append P (x ∷ xs) ys h k = (h.0, all_append P xs ys h.1 k)

same_text : (a b : Text) → bytes_eq a b ≡ true → a ≡ b
same_text a b e = (bytes_eq-Decides a b).0 e

at_row_all : (P : Row → Type 0) (id : Text) (change : Row → List Row) (missing : List Row) → AllByRecursion P missing
    → ((r : Row) → bytes_eq r.id id ≡ true → P r → AllByRecursion P (change r)) → (rows : List Row) → AllByRecursion P rows → AllByRecursion P (at_row id change missing rows)
at_row_all P id change missing absent each [] h = absent
at_row_all P id change missing absent each (r ∷ rs) h = go (bytes_eq r.id id) refl (at_row_all P id change missing absent each rs h.1)
  where
    go : (b : Bool) → bytes_eq r.id id ≡ b → AllByRecursion P (at_row id change missing rs) → AllByRecursion P (if b then change r ++ rs else r ∷ at_row id change missing rs)
    go true is rest = all_append P (change r) rs (each r is h.0) h.1
    go false is rest = (h.0, rest)

-- ---- one occurrence of an argument

-- what is required of an argument: it is the first of its name, and takes one value or more where it occurs, or has one
-- that stands for it
abbrev takes_some : ArgAction → Rule → Bool
takes_some Set a = nat_le 1 (unwrap_or_range a.range).start_inclusive
takes_some Append a = nat_le 1 (unwrap_or_range a.range).start_inclusive
takes_some SetTrue a = not (is_empty a.missing)
takes_some x a = is_request x

abbrev pub is_plain_rule : Rule → Bool
is_plain_rule a = takes_some (action_of a) a

pub record IsPlainIn (c : List Rule) (a : Rule) : Type 0 where
  pub first : arg_by_id c a.id ≡ Some a
  pub plain : is_plain_rule a ≡ true

abbrev pub ArePlain : List Rule → Type 0
ArePlain c = AllByRecursion (IsPlainIn c) c

found_holds : (P : Rule → Type 0) (p : Rule → Bool) (xs : List Rule) (a : Rule) → find p xs ≡ Some a → AllByRecursion P xs → P a
found_holds P p [] a e h = cc
found_holds P p (x ∷ xs) a e h = go (p x) (λ k. found_holds P p xs a k h.1) e
  where
    go : (b : Bool) → (find p xs ≡ Some a → P a) → (if b then Some x else find p xs) ≡ Some a → P a
    go true rest e = let same : x ≡ a = cc in subst P same h.0
    go false rest e = rest e

longer : (xs ys : List Text) → 0 < length xs → 0 < length (xs ++ ys)
longer [] ys h = absurd (omega arith)
longer (x ∷ xs) ys h = omega arith

module _ (c : List Rule) where
  values_fit : (a : Rule) (s : ValueSource) (v : Text) (vs : List Text) (rows : List Row) → arg_by_id c a.id ≡ Some a → pass.values_pass a (v ∷ vs) ≡ true → AllFit c rows
      → AllFit c (with_values a.id (reading_by a) s (v ∷ vs) rows)
  values_fit a s v vs rows first ok fit = at_row_all (Fits c) a.id (more_values s (v ∷ vs)) _ (new, tt) more rows fit
    where
      new : (b : Rule) → arg_by_id c a.id ≡ Some b → IsOf b (record { id = a.id; values = v ∷ vs; count = None; source = Some s; reading = reading_by a })
      new b e = let same : a ≡ b = let is : Some a ≡ Some b = sym first ∙ e in cc in
          subst (λ b. IsOf b (record { id = a.id; values = v ∷ vs; count = None; source = Some s; reading = reading_by a })) same (record { some = omega arith; pass = ok; reading = refl })

      more : (r : Row) → bytes_eq r.id a.id ≡ true → Fits c r → AllByRecursion (Fits c) (more_values s (v ∷ vs) r)
      more r is fits = (
        λ b e.
            let old = fits b e in
            let same : a ≡ b = let is : Some a ≡ Some b = sym first ∙ (ap (arg_by_id c) (sym (same_text r.id a.id is)) ∙ e) in cc in
            let ok' : pass.values_pass b (v ∷ vs) ≡ true = subst (λ b. pass.values_pass b (v ∷ vs) ≡ true) same ok in
            record {
              some = longer r.values (v ∷ vs) old.some;
              pass = list_all-append (pass.value_passes b) r.values (v ∷ vs) ∙ ap₂ (λ x y. x && y) old.pass ok';
              reading = old.reading;
            },
        tt,
      )

  without_fit : (id : Text) (rows : List Row) → AllFit c rows → AllFit c (without id rows)
  without_fit id rows fit = at_row_all (Fits c) id (λ _. []) [] tt (λ r is h. tt) rows fit

  used_fit : (again : Bool) (a : Rule) (vs : List Text) (rows : List Row) → IsPlainIn c a → pass.use_passes again a vs rows ≡ true → AllFit c rows → AllFit c (used a vs rows)
  used_fit again a vs rows is ok fit =
      let parts = both (nat_le (unwrap_or_range a.range).start_inclusive (length vs)) _ ok in
      go (action_of a) is.plain vs parts.0 (both (nat_le (length vs) (most_values a)) _ parts.1).1
    where
      go : (x : ArgAction) → takes_some x a ≡ true → (vs : List Text) → nat_le (unwrap_or_range a.range).start_inclusive (length vs) ≡ true
          → pass.action_passes x again a (values_or_missing a vs) rows ≡ true → AllFit c (used_as x a.id (reading_by a) (values_or_missing a vs) rows)
      go Set t [] least ok =
          let one = leb-true _ _ t in
          let none = leb-true _ _ least in
          absurd (omega arith)
      go Set t (v ∷ vs) least ok = values_fit a CommandLine v vs (without a.id rows) is.first (both (not (has_row a.id rows) || again) _ ok).1 (without_fit a.id rows fit)
      go Append t [] least ok =
          let one = leb-true _ _ t in
          let none = leb-true _ _ least in
          absurd (omega arith)
      go Append t (v ∷ vs) least ok = values_fit a CommandLine v vs rows is.first ok fit
      go SetTrue t [] least ok = by a.missing t ok
        where
          by : (vs : List Text) → not (is_empty vs) ≡ true → pass.set_passes again a vs rows ≡ true → AllFit c (with_values a.id (reading_by a) CommandLine vs (without a.id rows))
          by [] t ok = cc
          by (v ∷ vs) t ok = values_fit a CommandLine v vs (without a.id rows) is.first (both (not (has_row a.id rows) || again) _ ok).1 (without_fit a.id rows fit)
      go SetTrue t (v ∷ vs) least ok = values_fit a CommandLine v vs (without a.id rows) is.first (both (not (has_row a.id rows) || again) _ ok).1 (without_fit a.id rows fit)
      go SetFalse t vs least ok = cc
      go Count t vs least ok = cc
      go Help t vs least ok = cc
      go HelpShort t vs least ok = cc
      go HelpLong t vs least ok = cc
      go Version t vs least ok = cc

-- ---- the loop over the words

module _ (c : List Rule) (are : ArePlain c) (again : Bool) where
  plain_in : (p : Rule → Bool) (a : Rule) → find p c ≡ Some a → IsPlainIn c a
  plain_in p a e = found_holds (IsPlainIn c) p c a e are

  settled_fit : (h : Held) → pass.settle_passes c again h ≡ true → AllFit c h.rows → AllFit c (settled c h).rows
  settled_fit h ok fit = go h.pending ok
    where
      by_rule : (p : Text × List Text) (o : Option Rule) → arg_by_id c p.0 ≡ o → option_map_or (λ a. pass.use_passes again a p.1 h.rows) o true ≡ true → AllFit c (used_by_id o p.1 h.rows)
      by_rule p None is ok = fit
      by_rule p (Some a) is ok = used_fit c again a p.1 h.rows (plain_in _ a is) ok fit

      go : (p : Option (Text × List Text)) → option_map_or (λ p. option_map_or (λ a. pass.use_passes again a p.1 h.rows) (arg_by_id c p.0) true) p true ≡ true → AllFit c (settled_rows c p h.rows)
      go None ok = fit
      go (Some p) ok = by_rule p (arg_by_id c p.0) refl ok

  reacted_fit : (a : Rule) (vs : List Text) (h : Held) → IsPlainIn c a → pass.react_passes c again a vs h ≡ true → AllFit c h.rows → AllFit c (reacted c a vs h).rows
  reacted_fit a vs h is ok fit =
      let parts = both (pass.settle_passes c again h) _ ok in
      used_fit c again a vs (settled c h).rows is parts.1 (settled_fit h parts.0 fit)

  option_fit : (a : Rule) (v : Option Text) (h : Held) → IsPlainIn c a → pass.option_passes c again a v h ≡ true → AllFit c h.rows → AllFit c (option_met c a v h).0.rows
  option_fit a (Some v) h is ok fit = reacted_fit a (v ∷ []) h is ok fit
  option_fit a None h is ok fit = settled_fit h ok fit

  -- a flag or an option by its long name
  long_fit : (o : Option Rule) (v : Option Text) (h : Held) → ((a : Rule) → o ≡ Some a → IsPlainIn c a) → pass.long_passes c again o v h ≡ true → AllFit c h.rows → AllFit c (long_met c o v h).0.rows
  long_fit None v h is ok fit = fit
  long_fit (Some a) v h is ok fit = go (takes_values a) v ok
    where
      go : (b : Bool) (v : Option Text) → (if b then pass.option_passes c again a v h else (not (is_some v) && pass.react_passes c again a [] h)) ≡ true
          → AllFit c (if b then option_met c a v h else flag_met c a v h).0.rows
      go true v ok = option_fit a v h (is a refl) ok fit
      go false None ok = reacted_fit a [] h (is a refl) (both true (pass.react_passes c again a [] h) ok).1 fit
      go false (Some v) ok = fit

  short_fit : (o : Option Rule) (rest : Text) (h : Held) (f : Held → Held × Outcome) (g : Held → Bool) → ((a : Rule) → o ≡ Some a → IsPlainIn c a)
      → ((x : Held) → g x ≡ true → AllFit c x.rows → AllFit c (f x).0.rows) → pass.short_passes c again o rest h g ≡ true → AllFit c h.rows → AllFit c (short_met c o rest h f).0.rows
  short_fit None rest h f g is each ok fit = fit
  short_fit (Some a) rest h f g is each ok fit = go (takes_values a) ok
    where
      go : (b : Bool) → (if b then pass.option_passes c again a (attached_value rest) h else (pass.react_passes c again a [] h && g (reacted c a [] h))) ≡ true
          → AllFit c (if b then option_met c a (attached_value rest) h else f (reacted c a [] h)).0.rows
      go true ok = option_fit a (attached_value rest) h (is a refl) ok fit
      go false ok = let parts = both (pass.react_passes c again a [] h) _ ok in each (reacted c a [] h) parts.1 (reacted_fit a [] h (is a refl) parts.0 fit)

  bundle_fit : (k : ℕ) (flags : Text) (skip : ℕ) (so_far : Outcome) (h : Held) → pass.flags_pass c again k flags skip h ≡ true → AllFit c h.rows → AllFit c (bundle_met c k flags skip so_far h).0.rows
  unfolding bundle_met pass.flags_pass
  bundle_fit zero flags skip so_far h ok fit = fit
  bundle_fit (suc k) flags skip so_far h ok fit = go (bundle_fit k) (slice_get (chars flags) 0) skip ok
    where
      go : ((rest : Text) (n : ℕ) (o : Outcome) (x : Held) → pass.flags_pass c again k rest n x ≡ true → AllFit c x.rows → AllFit c (bundle_met c k rest n o x).0.rows)
          → (o : Option ℕ) (n : ℕ) → pass.bundle_step_passes c again o flags n h (pass.flags_pass c again k) ≡ true → AllFit c (bundle_step c o flags n so_far h (bundle_met c k)).0.rows
      go more None n ok = fit
      go more (Some x) zero ok =
          let rest = drop (length (encode_utf8 x)) flags in
          short_fit (arg_by_short c x) rest h (bundle_met c k rest 0 done) (pass.flags_pass c again k rest 0) (λ a e. plain_in _ a e) (more rest 0 done) ok fit
      go more (Some x) (suc n) ok = more (drop (length (encode_utf8 x)) flags) n so_far h ok fit

  -- a plain word, whatever argument it is a value of, changes no row yet
  plain_word_rows : (w : Waiting) (word : Text) (h : Held) → (plain_word c w word h).0.rows ≡ h.rows
  plain_word_rows idle word h = refl
  plain_word_rows positional word h = refl
  plain_word_rows (option id) word h = go (arg_by_id c id)
    where
      go : (o : Option Rule) → (option_word o id word h).0.rows ≡ h.rows
      go None = refl
      go (Some a) = refl

  after_flag_rows : (w : Waiting) (word : Text) (h : Held) (o : Outcome) → (after_flag c w word h o).0.rows ≡ h.rows
  after_flag_rows w word h done = refl
  after_flag_rows w word h (waits id) = refl
  after_flag_rows w word h plain = plain_word_rows w word h
  after_flag_rows w word h refused = plain_word_rows w word h

  kept_by : (a b : List Row) → a ≡ b → AllFit c b → AllFit c a
  kept_by a b e fit = subst (AllFit c) (sym e) fit

  flag_word_fit : (w : Waiting) (word : Text) (o : Option (Text × Option Text)) (h : Held) → pass.flag_word_passes c again o word h ≡ true → AllFit c h.rows → AllFit c (long_or_other c w word o h).0.rows
  flag_word_fit w word (Some p) h ok fit = kept_by _ _ (after_flag_rows w word (long_met c (arg_by_long c p.0) p.1 h).0 (long_met c (arg_by_long c p.0) p.1 h).1)
      (long_fit (arg_by_long c p.0) p.1 h (λ a e. plain_in _ a e) ok fit)
  flag_word_fit w word None h ok fit = go (short_of word) ok
    where
      go : (o : Option Text) → option_map_or (λ flags. pass.bundle_passes c again flags h) o true ≡ true → AllFit c (short_or_plain c w word o h).0.rows
      go None ok = kept_by _ _ (plain_word_rows w word h) fit
      go (Some flags) ok = kept_by _ _ (after_flag_rows w word (bundle c flags h).0 (bundle c flags h).1) (bundle_fit (length flags) flags h.skip plain (record h { skip = 0 }) ok fit)

-- ---- one subcommand's level

module _ (s : Shape) (are : ArePlain s.rules) where
  abbrev rows_of_word : Names → Walk → Text → List Row
  rows_of_word names w word = (word_met s.rules names w.is_trailing w.waiting w.position word w.held).0.rows

  word_fit : (names : Names) (w : Walk) (word : Text) → pass.word_passes s names w.is_trailing w.waiting word w.held ≡ true → AllFit s.rules w.held.rows → AllFit s.rules (rows_of_word names w word)
  word_fit names w word ok fit = go w.is_trailing ok
    where
      other : (b : Bool) → (b || pass.flag_word_passes s.rules s.args_override_self (long_of word) word w.held) ≡ true
          → AllFit s.rules (if b then (w.held, trailing w.position) else long_or_other s.rules w.waiting word (long_of word) w.held).0.rows
      other true ok = fit
      other false ok = flag_word_fit s.rules are s.args_override_self w.waiting word (long_of word) w.held ok fit

      met : (o : Option Text) → pass.other_passes s o word w.held ≡ true → AllFit s.rules (subcommand_or_other s.rules o w.waiting w.position word w.held).0.rows
      met (Some name) ok = fit
      met None ok = other (bytes_eq word (45 ∷ 45 ∷ [])) ok

      go : (b : Bool) → (b || pass.other_passes s (subcommand_met names w.waiting word) word w.held) ≡ true → AllFit s.rules (word_met s.rules names b w.waiting w.position word w.held).0.rows
      go true ok = fit
      go false ok = met (subcommand_met names w.waiting word) ok

  step_fit : (word : Text) (w : Walk) (h : Held) (k : Step) → pass.step_passes s w.position h k ≡ true → AllFit s.rules h.rows → AllFit s.rules (after_step s.rules word w h k).held.rows
  step_fit word w h (next x) ok fit = fit
  step_fit word w h (trailing p) ok fit = fit
  step_fit word w h (subcommand n) ok fit = fit
  step_fit word w h value ok fit = go (arg_by_index s.rules w.position) ok
    where
      held : (a : Rule) (b : Bool) → (b || pass.settle_passes s.rules s.args_override_self h) ≡ true → AllFit s.rules (if b then h else settled s.rules h).rows
      held a true ok = fit
      held a false ok = settled_fit s.rules are s.args_override_self h ok fit

      go : (o : Option Rule) → option_map_or (λ a. pass.positional_passes s.rules s.args_override_self a h) o false ≡ true → AllFit s.rules (to_positional s.rules o word w h).held.rows
      go None ok = fit
      go (Some a) ok = held a (is_pending a h.pending && takes_several a) ok

  turn_fit : (names : Names) (w : Walk) (word : Text) → pass.turn_passes s names w word ≡ true → AllFit s.rules w.held.rows → AllFit s.rules (walked s.rules names w word).held.rows
  unfolding walked
  turn_fit names w word ok fit = go w.stopped ok
    where
      go : (o : Option (Text × List Text)) → (is_some o || (pass.word_passes s names w.is_trailing w.waiting word w.held
          && pass.step_passes s w.position (word_met s.rules names w.is_trailing w.waiting w.position word w.held).0 (word_met s.rules names w.is_trailing w.waiting w.position word w.held).1)) ≡ true
          → AllFit s.rules (walked_from s.rules names o w word).held.rows
      go (Some p) ok = fit
      go None ok =
          let parts = both (pass.word_passes s names w.is_trailing w.waiting word w.held) _ ok in
          step_fit word w (word_met s.rules names w.is_trailing w.waiting w.position word w.held).0 (word_met s.rules names w.is_trailing w.waiting w.position word w.held).1 parts.1 (word_fit names w word parts.0 fit)

  walk_fit : (names : Names) (words : List Text) (w : Walk) → pass.walk_passes s names w words ≡ true → AllFit s.rules w.held.rows → AllFit s.rules (fold (walked s.rules names) w words).held.rows
  unfolding pass.walk_passes
  walk_fit names [] w ok fit = fit
  walk_fit names (word ∷ rest) w ok fit =
      let parts = both (pass.turn_passes s names w word) _ ok in
      walk_fit names rest (walked s.rules names w word) parts.1 (turn_fit names w word parts.0 fit)

-- ---- defaults behind the loop

default_fit : (c : List Rule) (a : Rule) (rows : List Row) → IsPlainIn c a → pass.default_passes a ≡ true → AllFit c rows → AllFit c (with_default rows a)
default_fit c a rows is ok fit = go (has_row a.id rows)
  where
    from : (vs : List Text) → (is_empty vs || (not (is_request (action_of a)) && pass.values_pass a vs)) ≡ true → AllFit c (default_rows a.id (reading_by a) vs rows)
    from [] ok = fit
    from (v ∷ vs) ok =
        let some : is_empty (v ∷ vs) ≡ false = grind (arith, nat_tests) in
        let rest : (not (is_request (action_of a)) && pass.values_pass a (v ∷ vs)) ≡ true = rw some at ok in
        values_fit c a DefaultValue v vs rows is.first (both (not (is_request (action_of a))) _ rest).1 fit

    go : (b : Bool) → AllFit c (if b then rows else default_rows a.id (reading_by a) a.defaults rows)
    go true = fit
    go false = from a.defaults ok

defaults_fit : (c xs : List Rule) (rows : List Row) → AllByRecursion (IsPlainIn c) xs → list_all pass.default_passes xs ≡ true → AllFit c rows → AllFit c (fold with_default rows xs)
defaults_fit c [] rows are ok fit = fit
defaults_fit c (a ∷ xs) rows are ok fit =
    let parts = both (pass.default_passes a) _ ok in
    defaults_fit c xs (with_default rows a) are.1 parts.1 (default_fit c a rows are.0 parts.0 fit)

-- a row of this name is there from then on
has_new : (id : Text) (how : Reading) (s : ValueSource) (vs : List Text) (rows : List Row) → has_row id (with_values id how s vs rows) ≡ true
has_new id how s vs [] = rw ((bytes_eq-Decides id id).1 refl) refl
has_new id how s vs (r ∷ rs) = go (bytes_eq r.id id) refl (has_new id how s vs rs)
  where
    go : (b : Bool) → bytes_eq r.id id ≡ b → has_row id (with_values id how s vs rs) ≡ true
        → has_row id (if b then more_values s vs r ++ rs else r ∷ with_values id how s vs rs) ≡ true
    go true is rest = rw is refl
    go false is rest = rw is rest

has_kept : (id at : Text) (how : Reading) (s : ValueSource) (vs : List Text) (rows : List Row) → has_row id rows ≡ true → has_row id (with_values at how s vs rows) ≡ true
has_kept id at how s vs [] h = cc
has_kept id at how s vs (r ∷ rs) h = go (bytes_eq r.id at) (bytes_eq r.id id) refl h (has_kept id at how s vs rs)
  where
    go : (b k : Bool) → bytes_eq r.id id ≡ k → (k || has_row id rs) ≡ true → (has_row id rs ≡ true → has_row id (with_values at how s vs rs) ≡ true)
        → has_row id (if b then more_values s vs r ++ rs else r ∷ with_values at how s vs rs) ≡ true
    go true k is h rest = rw is h
    go false true is h rest = rw is refl
    go false false is h rest = rw is (rest h)

default_keeps : (id : Text) (a : Rule) (rows : List Row) → has_row id rows ≡ true → has_row id (with_default rows a) ≡ true
default_keeps id a rows h = go (has_row a.id rows)
  where
    from : (vs : List Text) → has_row id (default_rows a.id (reading_by a) vs rows) ≡ true
    from [] = h
    from (v ∷ vs) = has_kept id a.id (reading_by a) DefaultValue (v ∷ vs) rows h

    go : (b : Bool) → has_row id (if b then rows else default_rows a.id (reading_by a) a.defaults rows) ≡ true
    go true = h
    go false = from a.defaults

defaults_keep : (id : Text) (xs : List Rule) (rows : List Row) → has_row id rows ≡ true → has_row id (fold with_default rows xs) ≡ true
defaults_keep id [] rows h = h
defaults_keep id (a ∷ xs) rows h = defaults_keep id xs (with_default rows a) (default_keeps id a rows h)

default_gives : (a : Rule) (rows : List Row) → is_empty a.defaults ≡ false → has_row a.id (with_default rows a) ≡ true
default_gives a rows some = go (has_row a.id rows) refl
  where
    from : (vs : List Text) → is_empty vs ≡ false → has_row a.id (default_rows a.id (reading_by a) vs rows) ≡ true
    from [] e = cc
    from (v ∷ vs) e = has_new a.id (reading_by a) DefaultValue (v ∷ vs) rows

    go : (b : Bool) → has_row a.id rows ≡ b → has_row a.id (if b then rows else default_rows a.id (reading_by a) a.defaults rows) ≡ true
    go true is = is
    go false is = from a.defaults some

abbrev HasDefault : List Row → Rule → Type 0
HasDefault rows a = is_empty a.defaults ≡ false → has_row a.id rows ≡ true

defaults_give : (xs : List Rule) (rows : List Row) → AllByRecursion (HasDefault (fold with_default rows xs)) xs
defaults_give [] rows = tt
defaults_give (a ∷ xs) rows = (λ some. defaults_keep a.id xs (with_default rows a) (default_gives a rows some), defaults_give xs (with_default rows a))

given_has : (id : Text) (rows : List Row) → pass.is_given id rows ≡ true → has_row id rows ≡ true
given_has id [] h = cc
given_has id (r ∷ rs) h = go (bytes_eq r.id id) h (given_has id rs)
  where
    go : (b : Bool) → option_map_or (λ r. explicit_source r.source) (if b then Some r else find (λ r. bytes_eq r.id id) rs) false ≡ true
        → (pass.is_given id rs ≡ true → has_row id rs ≡ true) → (b || has_row id rs) ≡ true
    go true h rest = refl
    go false h rest = rest h

-- ---- the values of an argument

-- the argument has a value that passed its value parser
pub record HasValueOf (rows : List Row) (a : Rule) : Type 0 where
  pub text : Text
  pub first : first_of a.id rows ≡ Some text
  pub one : one_of a.id rows ≡ Some (read_as (reading_by a) text)
  pub pass : pass.value_passes a text ≡ true

row_value : (a : Rule) (r : Row) → IsOf a r → (text : Text) × (slice_get r.values 0 ≡ Some text) × (row_text r ≡ Some (read_as (reading_by a) text)) × (pass.value_passes a text ≡ true)
row_value a r is = go r.values is.some is.pass
  where
    go : (vs : List Text) → 0 < length vs → pass.values_pass a vs ≡ true
        → (text : Text) × (slice_get vs 0 ≡ Some text) × (option_map (read_as r.reading) (slice_get vs 0) ≡ Some (read_as (reading_by a) text)) × (pass.value_passes a text ≡ true)
    go [] h ok = absurd (omega arith)
    go (v ∷ vs) h ok = (v, refl, ap (λ how. Some (read_as how v)) is.reading, (both (pass.value_passes a v) _ ok).0)

value_there : (c : List Rule) (a : Rule) (rows : List Row) → arg_by_id c a.id ≡ Some a → AllFit c rows → has_row a.id rows ≡ true → HasValueOf rows a
value_there c a [] first fit h = cc
value_there c a (r ∷ rs) first fit h = go (bytes_eq r.id a.id) refl h (value_there c a rs first fit.1)
  where
    go : (b : Bool) → bytes_eq r.id a.id ≡ b → (b || has_row a.id rs) ≡ true → (has_row a.id rs ≡ true → HasValueOf rs a) → HasValueOf (r ∷ rs) a
    go true is h rest =
        let same : r.id ≡ a.id = same_text r.id a.id is in
        let v = row_value a r (fit.0 a (ap (arg_by_id c) same ∙ first)) in
        record { text = v.0; first = rw is v.1; one = rw is v.2; pass = v.3 }
    go false is h rest = let v = rest h in record { text = v.text; first = rw is v.first; one = rw is v.one; pass = v.pass }

-- the argument is required or has a default
abbrev pub is_always_there : Rule → Bool
is_always_there a = a.required || not (is_empty a.defaults)

each_there : (c : List Rule) (rows : List Row) → AllFit c rows → (xs : List Rule) → AllByRecursion (IsPlainIn c) xs → AllByRecursion (HasDefault rows) xs
    → list_all (λ a. not a.required || pass.is_given a.id rows) xs ≡ true → AllByRecursion (λ a. is_always_there a ≡ true → HasValueOf rows a) xs
each_there c rows fit [] are defaults asked = tt
each_there c rows fit (a ∷ xs) are defaults asked =
    let parts = both (not a.required || pass.is_given a.id rows) _ asked in
    (λ there. value_there c a rows are.0.first fit (has a.required (is_empty a.defaults) there parts.0 defaults.0), each_there c rows fit xs are.1 defaults.1 parts.1)
  where
    has : (needed empty : Bool) → (needed || not empty) ≡ true → (not needed || pass.is_given a.id rows) ≡ true → (empty ≡ false → has_row a.id rows ≡ true) → has_row a.id rows ≡ true
    has true empty t h d = given_has a.id rows h
    has false false t h d = d refl
    has false true t h d = cc

-- where a subcommand takes the words, each such argument has a value
pub leaf_values : (s : Shape) (words : List Text) → ArePlain s.rules → pass.level_passes s [] nothing_held words false ≡ true
    → AllByRecursion (λ a. is_always_there a ≡ true → HasValueOf (rows_after s.rules [] words) a) s.rules
leaf_values s words are ok =
    let c = s.rules in
    let end = (walk c [] nothing_held words).held in
    let first = both (pass.walk_passes s [] (walk_from nothing_held) words) _ ok in
    let second = both (pass.settle_passes c s.args_override_self end) _ first.1 in
    let third = both (list_all pass.default_passes c) _ second.1 in
    let walked : AllFit c end.rows = walk_fit s are [] words (walk_from nothing_held) first.0 tt in
    let fit : AllFit c (finished c end) = defaults_fit c c (settled c end).rows are third.0 (settled_fit c are s.args_override_self end second.0 walked) in
    each_there c (finished c end) fit c are (defaults_give c (settled c end).rows) (required (finished c end) third.1)
  where
    required : (rows : List Row) → pass.is_valid s rows false ≡ true → list_all (λ a. not a.required || pass.is_given a.id rows) s.rules ≡ true
    required rows h =
        let a = both (not s.arg_required_else_help || (false || list_any (λ r. explicit_source r.source) rows)) _ h in
        let b = both (not s.subcommand_required || false) _ a.1 in
        let d = both (list_all (λ a. a.is_free) s.rules) _ b.1 in
        go s.subcommand_negates_reqs d.1
      where
        go : (b : Bool) → ((b && false) || list_all (λ a. not a.required || pass.is_given a.id rows) s.rules) ≡ true → list_all (λ a. not a.required || pass.is_given a.id rows) s.rules ≡ true
        go true h = h
        go false h = h
