-- Where a parser reads a group of attributes, items stand. Which items these are is told by what the parser makes of a
-- value or a word in the group's place.
use Rattle.ir_viable_prefixes.proofs.Common.{◌≡◌, ◌<◌, ℕ, zero, suc, Bool, true, false, List, [], ◌∷◌, ◌++◌, length, Ok, Err, refl, sym, ap, subst, ◌∙◌, ◌⊎◌, inl, inr, append_assoc, arith, length-append, append_cancel_right, Token, Placed, End, Word, Group, RawOperand, Fault, IrFaultKind, begins_inner_item, ends_argument, SpellsItem, MayFollowItem, begins_item, is_item_word, Each, Read, Reader, goes_on, ◌>>=◌, done, repeat_at, repeat-done, ok_is, EndsArgument}
use Rattle.ir_viable_prefixes.proofs.Closed.{Closes}
use Rattle.ir_viable_prefixes.proofs.NoGroups.{Free, not_free, Groupless}
use Rattle.ir_viable_prefixes.proofs.Outcomes.{Follow, Next, Ended, StopsBefore, stops, stops_same, Completes, CompletesBegun, Sample, sample_both, RefusesPlaced, a_truth, Why, Reasons, ReasonsIf, OutcomeIf, GoodIf, GoodOpen, done-good}
use Rattle.ir_viable_prefixes.proofs.Repeats.{Steps, loop_sample, one_step}
use Rattle.ir_viable_prefixes.proofs.Values.{ReadsValue}

-- ---- which items stand there

-- behind the front and `true`, each end of an argument is refused
abbrev pub RefusesEnds : {A : Type 0} → Reader A → List Placed → Type 0
RefusesEnds R front = (end : Placed) (more : List Placed) → EndsArgument end.1 → (e : Fault IrFaultKind) × (R (front ++ (0, a_truth) ∷ end ∷ more) ≡ Err e)

-- behind the front, such a token, each end of an argument and some more tokens are read
abbrev pub ReadsEnds : {A : Type 0} → Reader A → Follow → List Placed → Type 0
ReadsEnds {A} R F front =
    (t : Placed) (end : Token) → begins_item (t ∷ []) ≡ true → EndsArgument end
    → (y : A) × (more : List Placed) × ((tokens : List Placed) → Next F tokens → R (front ++ t ∷ (0, end) ∷ (more ++ tokens)) ≡ Ok (y, tokens))

-- behind the front, words that are no items are refused
abbrev pub RefusesWords : {A : Type 0} → Reader A → List Placed → Type 0
RefusesWords R front = (line : ℕ) (w : List ℕ) (more : List Placed) → is_item_word w ≡ false → (e : Fault IrFaultKind) × (R (front ++ (line, Word w) ∷ more) ≡ Err e)

-- behind the front and a token that is an item by itself, the parser stops before each end of an argument
abbrev pub Ready : {A : Type 0} → Reader A → List Placed → Type 0
Ready {A} R front = (t end : Placed) → begins_item (t ∷ []) ≡ true → EndsArgument end.1 → (x : A) × ((more : List Placed) → R (front ++ t ∷ end ∷ more) ≡ Ok (x, end ∷ more))

-- Behind the front the parser reads the items of an argument, as long as the next token isn't its value, then the
-- value, and then a rest that begins with the end of an argument.
pub record Argument {A : Type 0} (Q : Reader RawOperand) (R : Reader A) (F : Follow) (front : List Placed) : Type 0 where
  pub rest : RawOperand → Reader A
  pub reads : (items : List (List ℕ)) (tokens value : List Placed) → Each SpellsItem items tokens value → begins_inner_item value ≡ false → ends_argument value ≡ false → MayFollowItem value → R (front ++ tokens) ≡ goes_on (Q value) rest
  pub ends : (x : RawOperand) → (y : A) × (more : List Placed) × ((tokens : List Placed) → Next F tokens → (rest x (more ++ tokens) ≡ Ok (y, tokens)) × Next EndsArgument (more ++ tokens))

-- behind the front stand items before a type or a body, or those of a parameter, or those of an argument
pub data IsPlace {A : Type 0} (R : Reader A) (F : Follow) (front : List Placed) : Type 0 where
  header : RefusesEnds R front → IsPlace R F front
  parameter : RefusesWords R front → ReadsEnds R F front → IsPlace R F front
  argument : (Q : Reader RawOperand) (width : ℕ) → ReadsValue Q width → Argument Q R F front → IsPlace R F front

pub place_moved : {A : Type 0} (R S : Reader A) (F : Follow) (front other : List Placed) → ((tokens : List Placed) → S (other ++ tokens) ≡ R (front ++ tokens)) → IsPlace R F front → IsPlace S F other
place_moved R S F front other same (header refused) = header (λ end more ends. let r = refused end more ends in (r.0, same ((0, a_truth) ∷ end ∷ more) ∙ r.1))
place_moved R S F front other same (parameter words reads) =
    parameter (λ line w more none. let r = words line w more none in (r.0, same ((line, Word w) ∷ more) ∙ r.1))
    (λ t end next ends. let c = reads t end next ends in (c.0, c.1, λ ts n. same (t ∷ (0, end) ∷ (c.1 ++ ts)) ∙ c.2 ts n))
place_moved R S F front other same (argument Q width q a) =
    argument Q width q (record { rest = a.rest; reads = λ items tokens value each none going may. same tokens ∙ a.reads items tokens value each none going may; ends = a.ends })

assoc : {A B C : Type 0} (r : Read A) (f : A → Reader B) (g : B → Reader C) → goes_on (goes_on r f) g ≡ goes_on r (λ x. f x >>= g)
assoc (Ok x) f g = refl
assoc (Err e) f g = refl

-- a place of the first parser is one of the sequence
pub place_first : {A B : Type 0} (F G : Follow) (R : Reader A) (S : A → Reader B) → ((x : A) → Sample F (S x) G) → (front : List Placed) → IsPlace R F front → IsPlace (R >>= S) G front
place_first F G R S s front (header refused) = header (λ end more ends. let r = refused end more ends in (r.0, rw r.1 refl))
place_first F G R S s front (parameter words reads) =
    parameter (λ line w more none. let r = words line w more none in (r.0, rw r.1 refl))
    (λ t end next ends.
    let c = reads t end next ends in
    let q = s c.0 in
    (q.0, c.1 ++ q.1, λ ts n. let second = q.2 ts n in rw (append_assoc c.1 q.1 ts, c.2 (q.1 ++ ts) second.1) second.0))
place_first F G R S s front (argument Q width q a) =
    argument Q width q (record {
      rest = λ x. a.rest x >>= S;
      reads = λ items tokens value each none going may. ap (λ r. goes_on r S) (a.reads items tokens value each none going may) ∙ assoc (Q value) a.rest S;
      ends = λ x.
          let c = a.ends x in
          let q = s c.0 in
          (q.0, c.1 ++ q.1, λ ts n. let second = q.2 ts n in let first = c.2 (q.1 ++ ts) second.1 in rw (append_assoc c.1 q.1 ts) (rw first.0 second.0, first.1));
    })

-- and so is one of the second, behind what the first reads
pub place_second : {A B : Type 0} (G : Follow) (R : Reader A) (S : A → Reader B) (x : A) (first front : List Placed) → ((tokens : List Placed) → R (first ++ (front ++ tokens)) ≡ Ok (x, front ++ tokens)) → IsPlace (S x) G front → IsPlace (R >>= S) G (first ++ front)
place_second G R S x first front one place = place_moved (S x) (R >>= S) G front (first ++ front) (λ ts. rw (append_assoc first front ts, one ts) refl) place

-- ---- parsers that read a group behind a front

abbrev pub the_group : List ℕ → Placed
the_group text = (0, Group text)

abbrev pub the_end : Placed
the_end = (0, End)

-- the front, the group and the end of the text
abbrev pub Whole : List ℕ → List Placed → List Placed
Whole text front = front ++ the_group text ∷ the_end ∷ []

-- the parser reads up to the end, or refuses nothing before that whatever stands behind
pub record Goes {A : Type 0} (text : List ℕ) (R : Reader A) (front : List Placed) : Type 0 where
  pub read : (x : A × List Placed) → R (Whole text front) ≡ Ok x → x.1 ≡ the_end ∷ []
  pub refused : (first : List Placed) (t : Placed) (behind : List Placed) → Whole text front ≡ first ++ t ∷ behind → RefusesPlaced R first t → behind ≡ []

-- where that is so, behind the front items are read
abbrev pub Places : {A : Type 0} → List ℕ → Reader A → Follow → Type 0
Places text R F = (front : List Placed) → Ended (Whole text front) → Goes text R front → IsPlace R F front

pub places_same : {A : Type 0} {F : Follow} {R S : Reader A} (text : List ℕ) → ((tokens : List Placed) → S tokens ≡ R tokens) → Places text R F → Places text S F
places_same {A} {F} {R} {S} text same r front e goes =
    place_moved R S F front front (λ ts. same (front ++ ts))
    (r front e (record {
      read = λ x is. goes.read x (same (Whole text front) ∙ is);
      refused = λ first t behind there refused. goes.refused first t behind there (λ more. let r = refused more in (r.0, same (first ++ t ∷ more) ∙ r.1));
    }))

-- a parser that refuses the group does not read it
pub none_at_once : {A : Type 0} (text : List ℕ) (R : Reader A) (found : Fault IrFaultKind) → ((more : List Placed) → R (the_group text ∷ more) ≡ Err found) → Goes text R [] → ⊥
none_at_once text R found refused goes = let none : the_end ∷ [] ≡ [] = goes.refused [] (the_group text) (the_end ∷ []) refl (λ more. (found, refused more)) in cc

-- nor does one that leaves it, if the next one does not read it
pub none_left : {A B : Type 0} (text : List ℕ) (R : Reader A) (S : A → Reader B) (x : A) → ((more : List Placed) → R (the_group text ∷ more) ≡ Ok (x, the_group text ∷ more)) → (Goes text (S x) [] → ⊥) → Goes text (R >>= S) [] → ⊥
none_left text R S x left none goes = none (record { read = λ y is. goes.read y (rw (left (the_end ∷ [])) is); refused = λ first t behind there refused. by first t behind there refused })
  where
    by : (first : List Placed) (t : Placed) (behind : List Placed) → Whole text [] ≡ first ++ t ∷ behind → RefusesPlaced (S x) first t → behind ≡ []
    by [] t behind there refused =
        let same : the_group text ≡ t = cc in
        goes.refused [] t behind there
        (λ more.
        let r = refused more in (r.0, subst (λ (u : Placed). (R >>= S) (u ∷ more) ≡ Err r.0) same (rw (left more) (subst (λ (u : Placed). S x (u ∷ more) ≡ Err r.0) (sym same) r.1))))
    by (u ∷ first) t behind there refused =
        let same : the_group text ≡ u = cc in
        goes.refused (u ∷ first) t behind there
        (λ more.
        let r = refused more in
        (r.0, subst (λ (v : Placed). (R >>= S) (v ∷ (first ++ t ∷ more)) ≡ Err r.0) same (rw (left (first ++ t ∷ more)) (subst (λ (v : Placed). S x (v ∷ (first ++ t ∷ more)) ≡ Err r.0) (sym same) r.1))))

-- ---- parsers in sequence

nothing_ended : (first rest : List Placed) → [] ≡ first ++ rest → Ended rest → ⊥
nothing_ended [] [] same e = e
nothing_ended [] (t ∷ rest) same e = cc
nothing_ended (t ∷ first) rest same e = cc

-- what is left is the end alone, or the group is left too
pub left_of : (text : List ℕ) (front first rest : List Placed) → Whole text front ≡ first ++ rest → Ended rest → (rest ≡ the_end ∷ []) ⊎ ((f : List Placed) × (front ≡ first ++ f) × (rest ≡ Whole text f))
left_of text front [] rest same e = inr (front, refl, sym same)
left_of text [] (u ∷ []) rest same e = inl (sym cc)
left_of text [] (u ∷ v ∷ first) rest same e = absurd (nothing_ended first rest (cc) e)
left_of text (v ∷ front) (u ∷ first) rest same e = by (left_of text front first rest (cc) e)
  where
    heads : v ≡ u
    heads = cc

    by : (rest ≡ the_end ∷ []) ⊎ ((f : List Placed) × (front ≡ first ++ f) × (rest ≡ Whole text f)) → (rest ≡ the_end ∷ []) ⊎ ((f : List Placed) × (v ∷ front ≡ u ∷ (first ++ f)) × (rest ≡ Whole text f))
    by (inl ended) = inl ended
    by (inr (f, same_front, whole)) = inr (f, ap (λ (w : Placed). w ∷ front) heads ∙ ap (λ (ts : List Placed). u ∷ ts) same_front, whole)

goes_behind : {A B : Type 0} (text : List ℕ) (R : Reader A) (S : A → Reader B) (front first f : List Placed) (x : A) → R (Whole text front) ≡ Ok (x, Whole text f) → Whole text front ≡ first ++ Whole text f → StopsBefore R first x (Whole text f) → Goes text (R >>= S) front → Goes text (S x) f
goes_behind text R S front first f x is whole stopped goes = record {
  read = λ y read. goes.read y (rw is read);
  refused = λ a t behind same refused.
      goes.refused (first ++ a) t behind (whole ∙ ap (λ (ts : List Placed). first ++ ts) same ∙ sym (append_assoc first a (t ∷ behind)))
      (λ more.
      let r = refused more in
      (r.0, rw (append_assoc first a (t ∷ more), stops R first x (a ++ t ∷ more) (stops_same R first x a t behind more (subst (StopsBefore R first x) same stopped))) r.1));
}

abbrev the_read : {A : Type 0} → Read A → Read A
the_read r = r

-- What the parser makes of tokens: it reads a prefix whatever stands further behind, or refuses the token behind a
-- front which other tokens can complete.
pub data Fares {A : Type 0} (R : Reader A) (F : Follow) (tokens : List Placed) : Type 0 where
  reads : (x : A) (front rest : List Placed) → R tokens ≡ Ok (x, rest) → tokens ≡ front ++ rest → Ended rest → StopsBefore R front x rest → Fares R F tokens
  fails : (found : Fault IrFaultKind) (front : List Placed) (t : Placed) (behind : List Placed) → R tokens ≡ Err found → tokens ≡ front ++ t ∷ behind → RefusesPlaced R front t → CompletesBegun R F front → Fares R F tokens

abbrev pub Faring : {A : Type 0} → Reader A → Follow → Type 0
Faring R F = (tokens : List Placed) → Ended tokens → Fares R F tokens

pub fares : {A : Type 0} (V : Type 0) (E : Follow) (R : Reader A) (F : Follow) (W : Type 0) (Y : Why) (tokens : List Placed) → OutcomeIf V E R F W Y tokens (R tokens) → Fares R F tokens
fares {A} V E R F W Y tokens o = by (R tokens) refl o
  where
    by : (r : Read A) → R tokens ≡ r → OutcomeIf V E R F W Y tokens r → Fares R F tokens
    by (Ok x) is o = reads x.0 o.front x.1 is o.there o.ended o.stopped
    by (Err e) is o = fails e o.front o.token o.behind is o.there o.refused o.completes

pub good : {A : Type 0} {V : Type 0} {E : Follow} {R : Reader A} {F : Follow} {W : Type 0} → GoodIf V E R F W → Faring R F
good {A} {V} {E} {R} {F} {W} r tokens e = fares V E R F W (ReasonsIf V E R F) tokens (r.outcome tokens e)

pub good_open : {A : Type 0} {E : Follow} {R : Reader A} {F : Follow} → GoodOpen E R F → Faring R F
good_open {A} {E} {R} {F} r tokens e = fares (Unit {0}) E R F (Unit {0}) (Reasons E R F) tokens (r.outcome tokens e)

-- the first parser reads the group, or the second does behind it
pub then_goes : {A B D : Type 0} {F : Follow} (text : List ℕ) (R : Reader A) (S : A → Reader B) (front : List Placed) → Fares R F (Whole text front) → Goes text (R >>= S) front
    → (Goes text R front → D) → ((x : A) (first f : List Placed) → front ≡ first ++ f → R (Whole text front) ≡ Ok (x, Whole text f) → StopsBefore R first x (Whole text f) → Ended (Whole text f) → Goes text (S x) f → D) → D
then_goes {A} {B} {D} {F} text R S front (reads x taken rest is there ended stopped) goes first second = by (left_of text front taken rest there ended)
  where
    by : (rest ≡ the_end ∷ []) ⊎ ((f : List Placed) × (front ≡ taken ++ f) × (rest ≡ Whole text f)) → D
    by (inl last) =
        first (record {
          read = λ y read. let same : rest ≡ y.1 = let both : the_read (Ok (x, rest)) ≡ Ok y = sym is ∙ read in ap (λ (p : A × List Placed). p.1) (ok_is (x, rest) y both) in sym same ∙ last;
          refused = λ a t behind same refused. let r = refused behind in let both : the_read (Ok (x, rest)) ≡ Err r.0 = sym is ∙ ap R same ∙ r.1 in absurd cc;
        })
    by (inr (f, same, whole)) =
        let read : R (Whole text front) ≡ Ok (x, Whole text f) = is ∙ ap (λ (ts : List Placed). the_read (Ok (x, ts))) whole in
        let stops_there : StopsBefore R taken x (Whole text f) = subst (StopsBefore R taken x) whole stopped in
        second x taken f same read stops_there (subst Ended whole ended) (goes_behind text R S front taken f x read (there ∙ ap (λ (ts : List Placed). taken ++ ts) whole) stops_there goes)
then_goes text R S front (fails found taken t behind is there refused completes) goes first second =
    first (record {
      read = λ y read. let both : the_read (Err found) ≡ Ok y = sym is ∙ read in absurd cc;
      refused = λ a u rest same refused_too. goes.refused a u rest same (λ more. let r = refused_too more in (r.0, rw r.1 refl));
    })

-- the second parser does not read the group first, or the first reads the same whatever stands behind
pub data Rests {A B : Type 0} (text : List ℕ) (R : Reader A) (S : A → Reader B) : Type 0 where
  later : ((x : A) → Goes text (S x) [] → ⊥) → Rests text R S
  closed : Closes R → Rests text R S

-- so the first parser reads the same with whatever may stand in the group's place and behind
pub reads_first : {A B : Type 0} (text : List ℕ) (R : Reader A) (S : A → Reader B) → Rests text R S → (front first f : List Placed) (x : A) → front ≡ first ++ f → Ended (Whole text front) → R (Whole text front) ≡ Ok (x, Whole text f) → StopsBefore R first x (Whole text f) → Goes text (S x) f
    → (tokens : List Placed) → R (first ++ (f ++ tokens)) ≡ Ok (x, f ++ tokens)
reads_first text R S (later none) front first [] x same e is stopped goes tokens = absurd (none x goes)
reads_first text R S (later none) front first (v ∷ f) x same e is stopped goes tokens = stopped (f ++ tokens)
reads_first text R S (closed c) front first f x same e is stopped goes tokens =
    let (t, taken, whole, others) = c (Whole text front) (x, Whole text f) e is in
    let fronts : t ∷ taken ≡ first = append_cancel_right (t ∷ taken) first (Whole text f) (sym whole ∙ ap (Whole text) same ∙ append_assoc first f (the_group text ∷ the_end ∷ [])) in
    subst (λ (ts : List Placed). R (ts ++ (f ++ tokens)) ≡ Ok (x, f ++ tokens)) fronts (others (f ++ tokens))

pub places_then : {A B : Type 0} {F G : Follow} {R : Reader A} {S : A → Reader B} (text : List ℕ) → Faring R F
    → Places text R F → ((x : A) → Places text (S x) G) → ((x : A) → Sample F (S x) G) → Rests text R S → Places text (R >>= S) G
places_then {A} {B} {F} {G} {R} {S} text outcome r p s rests front e goes =
    then_goes text R S front (outcome (Whole text front) e) goes (λ first. place_first F G R S s front (r front e first))
    (λ x first f same is stopped ended second. subst (IsPlace (R >>= S) G) (sym same) (place_second G R S x first f (reads_first text R S rests front first f x same e is stopped second) (p x f ended second)))

-- a parser with a sample of what it reads, and with its places of items
pub record Placing {A : Type 0} (text : List ℕ) (E : Follow) (R : Reader A) (F : Follow) : Type 0 where
  pub sample : Sample E R F
  pub places : Places text R F

pub placing_then : {A B : Type 0} {E F G : Follow} {R : Reader A} {S : A → Reader B} (text : List ℕ) → Sample E R F → Faring R F
    → Places text R F → ((x : A) → Placing text F (S x) G) → Rests text R S → Placing text E (R >>= S) G
placing_then {A} {B} {E} {F} {G} {R} {S} text sample outcome r p rests = record {
  sample = sample_both E F G R S sample (λ x. (p x).sample);
  places = places_then text outcome r (λ x. (p x).places) (λ x. (p x).sample) rests;
}

pub more_than_end : (text : List ℕ) (front : List Placed) → Whole text front ≡ the_end ∷ [] → ⊥
more_than_end text [] same = cc
more_than_end text (t ∷ []) same = cc
more_than_end text (t ∷ u ∷ front) same = cc

pub placing_done : {A : Type 0} {E F : Follow} (text : List ℕ) → ((t : Token) → F t → E t) → (x : A) → Placing text E (done x) F
placing_done text enters x = record {
  sample = (done-good {V = Unit {0}} enters x).sample;
  places = λ front e goes. absurd (more_than_end text front (goes.read (x, Whole text front) refl));
}

-- ---- parsers that read no group

pub last_is : (a b : List Placed) (s t : Placed) → a ++ s ∷ [] ≡ b ++ t ∷ [] → (a ≡ b) × (s ≡ t)
last_is [] [] s t same = (refl, cc)
last_is [] (u ∷ []) s t same = absurd cc
last_is [] (u ∷ v ∷ b) s t same = absurd cc
last_is (u ∷ []) [] s t same = absurd cc
last_is (u ∷ v ∷ a) [] s t same = absurd cc
last_is (u ∷ a) (v ∷ b) s t same =
    let heads : u ≡ v = cc in
    let (others, last) = last_is a b s t cc in
    (ap (λ (w : Placed). w ∷ a) heads ∙ ap (λ (ts : List Placed). v ∷ ts) others, last)

-- behind these tokens the parser can read the group
abbrev pub Through : {A : Type 0} → List ℕ → Reader A → List Placed → Type 0
Through {A} text R front = (x : A) × (more : List Placed) × (rest : List Placed) × (R (front ++ the_group text ∷ (more ++ rest)) ≡ Ok (x, rest))

pub goes_through : {A : Type 0} {F : Follow} (text : List ℕ) (R : Reader A) (front : List Placed) → Fares R F (Whole text front) → Goes text R front → (u : Token) → F u → Through text R front
goes_through text R front (reads x taken rest is there ended stopped) goes u follows = (x, [], the_end ∷ [], is ∙ ap (λ (ts : List Placed). the_read (Ok (x, ts))) (goes.read (x, rest) is))
goes_through {A} {F} text R front (fails found taken t behind is there refused completes) goes u follows =
    let none : behind ≡ [] = goes.refused taken t behind there refused in
    let whole : (front ++ the_group text ∷ []) ++ the_end ∷ [] ≡ taken ++ t ∷ [] =
    append_assoc front (the_group text ∷ []) (the_end ∷ []) ∙ there ∙ ap (λ (ts : List Placed). taken ++ t ∷ ts) none in
    let same = (last_is (front ++ the_group text ∷ []) taken the_end t whole).0 in
    let c = begun front (subst (CompletesBegun R F) (sym same) completes) in
    (c.0, c.1, (0, u) ∷ [], ap R (sym (append_assoc front (the_group text ∷ []) (c.1 ++ (0, u) ∷ []))) ∙ c.2 ((0, u) ∷ []) follows)
  where
    begun : (f : List Placed) → CompletesBegun R F (f ++ the_group text ∷ []) → Completes R F (f ++ the_group text ∷ [])
    begun [] c = c
    begun (t ∷ f) c = c

pub no_through : {A : Type 0} (text : List ℕ) (R : Reader A) (front : List Placed) → Groupless R → Through text R front → ⊥
no_through text R front r (x, more, rest, is) =
    let (taken, same, free) = r (front ++ the_group text ∷ (more ++ rest)) (x, rest) is in
    let fronts : taken ≡ front ++ the_group text ∷ more = append_cancel_right taken (front ++ the_group text ∷ more) rest (sym same ∙ sym (append_assoc front (the_group text ∷ more) rest)) in
    not_free front text more (subst Free fronts free)

pub places_none : {A : Type 0} {F : Follow} {R : Reader A} (text : List ℕ) → Faring R F → Groupless R → (u : Token) → F u → Places text R F
places_none {R = R} text outcome r u follows front e goes = absurd (no_through text R front r (goes_through text R front (outcome (Whole text front) e) goes u follows))

-- ---- parsers that do the same from a token on

pub goes_begun : {A : Type 0} (text : List ℕ) (R S : Reader A) (v : Placed) (front : List Placed) → ((tokens : List Placed) → S (v ∷ tokens) ≡ R (v ∷ tokens)) → Goes text S (v ∷ front) → Goes text R (v ∷ front)
goes_begun text R S v front agree goes = record {
  read = λ x is. goes.read x (agree (front ++ the_group text ∷ the_end ∷ []) ∙ is);
  refused = λ first t behind same refused. goes.refused first t behind same (λ more. let r = refused more in (r.0, at first t behind same more ∙ r.1));
}
  where
    at : (first : List Placed) (t : Placed) (behind : List Placed) → Whole text (v ∷ front) ≡ first ++ t ∷ behind → (more : List Placed) → S (first ++ t ∷ more) ≡ R (first ++ t ∷ more)
    at [] t behind same more = let head : v ≡ t = cc in subst (λ (u : Placed). S (u ∷ more) ≡ R (u ∷ more)) head (agree more)
    at (u ∷ first) t behind same more = let head : v ≡ u = cc in subst (λ (w : Placed). S (w ∷ (first ++ t ∷ more)) ≡ R (w ∷ (first ++ t ∷ more))) head (agree (first ++ t ∷ more))

-- ---- loops

pub loop_places : {A : Type 0} (text : List ℕ) (V : Type 0) (D F : Follow) (W : Type 0) (is_next : List Placed → Bool) (step : A → Reader A) → Steps V D F W is_next step → ((a : A) → Faring (step a) D)
    → ((a : A) → Places text (step a) D) → ((a : A) → Goes text (repeat_at is_next step a) [] → ⊥) → (n : ℕ) (a : A) (front : List Placed) → length front < n → Ended (Whole text front) → Goes text (repeat_at is_next step a) front → IsPlace (repeat_at is_next step a) F front
loop_places text V D F W is_next step s outcome p none zero a front short e goes = absurd (omega arith)
loop_places text V D F W is_next step s outcome p none (suc n) a [] short e goes = absurd (none a goes)
loop_places {A} text V D F W is_next step s outcome p none (suc n) a (v ∷ front) short e goes =
    by (λ b f less ended others. loop_places text V D F W is_next step s outcome p none n b f less ended others) (is_next (Whole text (v ∷ front))) refl
  where
    Loop : A → Reader A
    Loop = repeat_at is_next step

    by : ((b : A) (f : List Placed) → length f < n → Ended (Whole text f) → Goes text (Loop b) f → IsPlace (Loop b) F f) → (b : Bool) → is_next (Whole text (v ∷ front)) ≡ b → IsPlace (Loop a) F (v ∷ front)
    by fewer false h = absurd (more_than_end text (v ∷ front) (goes.read (a, Whole text (v ∷ front)) (repeat-done is_next step a (Whole text (v ∷ front)) h)))
    by fewer true h =
        let agree : (ts : List Placed) → Loop a (v ∷ ts) ≡ (step a >>= Loop) (v ∷ ts) = λ ts. one_step is_next step s.takes a (v ∷ ts) (s.asks v.0 v.0 v.1 ts (front ++ the_group text ∷ the_end ∷ []) ∙ h) in
        place_moved (step a >>= Loop) (Loop a) F (v ∷ front) (v ∷ front) (λ ts. agree (front ++ ts))
        (then_goes text (step a) Loop (v ∷ front) (outcome a (Whole text (v ∷ front)) e) (goes_begun text (step a >>= Loop) (Loop a) v front agree goes)
        (λ first. place_first D F (step a) Loop (λ x. loop_sample V D F W is_next step s D s.ends_step x) (v ∷ front) (p a (v ∷ front) e first))
        (λ x first f same is stopped ended second.
        let less : length (Whole text f) < length (Whole text (v ∷ front)) = s.takes a (Whole text (v ∷ front)) (x, Whole text f) h is in
        let short_rest : length f < n = omega (arith, length-append f (the_group text ∷ the_end ∷ []), length-append (v ∷ front) (the_group text ∷ the_end ∷ [])) in
        subst (IsPlace (step a >>= Loop) F) (sym same)
        (place_second F (step a) Loop x first f (reads_first text (step a) Loop (later none) (v ∷ front) first f x same e is stopped second) (fewer x f short_rest ended second))))
