-- Texts that are read as parts of a module wherever they may be written, and how they are concatenated.
use Rattle.ir_text.proofs.Common.{◌≡◌, ℕ, suc, ◌+◌, Bool, true, false, List, [], ◌∷◌, ◌++◌, Option, Some, None, refl, sym, subst, append_assoc, slice_get, list_all, AllZip, add_assoc, begins_with, is_space, feeds, Section, AtEntry, InHeader, InBody, place_behind, Placed, Token, Part, Is, Nothing, ◌⨾◌, Each, goes_on, bytes_of, takes_line, HasForm, MayStand}
use Rattle.std.specs.List.{flat_map}
use Rattle.ir_text.proofs.Streams.{Streams, streams_as, behind_gap, with_token}

-- ---- contexts

-- the context in which a text goes on: between entries, on a line without a token (Fresh) or behind one (Used); in the
-- header of a function, or directly behind its name (Called); in a body, or directly behind the name of a callee
pub data Mode : Type 0 where
  Fresh : Mode
  Used : Mode
  Header : Mode
  Called : Mode
  Body : Mode
  Callee : Mode

abbrev pub Stands : Mode → Section → ℕ → Type 0
Stands Fresh place line = (n : ℕ) → takes_line place (line + n) ≡ true
Stands Used place line = place ≡ AtEntry (Some line)
Stands Header place line = (word : Option ℕ) × (place ≡ InHeader word)
Stands Called place line = place ≡ InHeader None
Stands Body place line = (word : Option ℕ) × (place ≡ InBody word)
Stands Callee place line = place ≡ InBody None

-- a gap may follow there
abbrev pub TakesGap : Mode → Type 0
TakesGap Used = ⊥
TakesGap mode = Unit {0}

stands_later : (mode : Mode) (place : Section) (line n : ℕ) → TakesGap mode → Stands mode place line → Stands mode place (line + n)
stands_later Fresh place line n takes stands = λ k. rw (add_assoc line n k) (stands (n + k))
stands_later Used place line n takes stands = absurd takes
stands_later Header place line n takes stands = stands
stands_later Called place line n takes stands = stands
stands_later Body place line n takes stands = stands
stands_later Callee place line n takes stands = stands

-- ---- what follows a text

-- no byte at the start of the rest continues a name, a word or a number before it
abbrev pub Stop : List ℕ → Type 0
Stop rest = begins_with goes_on rest ≡ false

-- what may follow a text: anything if it is lone, that is, ends by itself, and else what doesn't continue it
abbrev pub Follows : Bool → List ℕ → Type 0
Follows true rest = Unit {0}
Follows false rest = Stop rest

-- the text may follow any other: it doesn't continue what is before it
pub record Opens (lone : Bool) (text : List ℕ) : Type 0 where
  pub opens : (rest : List ℕ) → Follows lone rest → Stop (text ++ rest)

pub opens_with : {lone : Bool} (c : ℕ) (text : List ℕ) → goes_on c ≡ false → Opens lone (c ∷ text)
opens_with c text is = record { opens = λ rest follows. is }

pub opens_none : Opens false []
opens_none = record { opens = λ rest stop. stop }

opens_first : {lone : Bool} (s t : List ℕ) → Opens false s → Opens lone t → Opens lone (s ++ t)
opens_first s t first second = record { opens = λ rest follows. rw (append_assoc s t rest) (first.opens (t ++ rest) (second.opens rest follows)) }

pub opens_each : {X : Type 0} (text : X → List ℕ) → ((x : X) → Opens false (text x)) → (xs : List X) → Opens false (flat_map text xs)
opens_each text each [] = opens_none
opens_each text each (x ∷ xs) = opens_first (text x) (flat_map text xs) (each x) (opens_each text each xs)

-- ---- texts that are read as parts

-- in this context the text is read as the part, and what follows it goes on in another context
pub record Leads (to : Mode) (lone : Bool) (P : Part) (text : List ℕ) (place : Section) (line : ℕ) : Type 0 where
  pub next_place : Section
  pub next_line : ℕ
  pub stands : Stands to next_place next_line
  pub streams : (last : ℕ) (rest : List ℕ) (tokens : List Placed) → Follows lone rest → Streams last next_place next_line rest tokens
      → (all : List Placed) × Streams last place line (text ++ rest) all × P all tokens

pub record Prints (from to : Mode) (lone : Bool) (P : Part) (text : List ℕ) : Type 0 where
  pub leads : (place : Section) (line : ℕ) → Stands from place line → Leads to lone P text place line

-- the same for an equal text, and for a part that follows from the part
pub prints_as : {from to : Mode} {lone : Bool} {P : Part} {text other : List ℕ} → other ≡ text → Prints from to lone P text → Prints from to lone P other
prints_as {from} {to} {lone} {P} same p = subst (λ (t : List ℕ). Prints from to lone P t) (sym same) p

pub prints_map : {from to : Mode} {lone : Bool} {P : Part} {text : List ℕ} (Q : Part) → ((tokens rest : List Placed) → P tokens rest → Q tokens rest) → Prints from to lone P text → Prints from to lone Q text
prints_map Q follows p = record {
  leads = λ place line stands.
      let l = p.leads place line stands in
      record {
        next_place = l.next_place;
        next_line = l.next_line;
        stands = l.stands;
        streams = λ last rest tokens stop s. let r = l.streams last rest tokens stop s in (r.0, r.1, follows r.0 tokens r.2);
      };
}

-- what may follow a text that doesn't end by itself may follow one that does
pub prints_weak : {from to : Mode} {P : Part} {text : List ℕ} → Prints from to true P text → Prints from to false P text
prints_weak p = record {
  leads = λ place line stands.
      let l = p.leads place line stands in
      record { next_place = l.next_place; next_line = l.next_line; stands = l.stands; streams = λ last rest tokens stop s. l.streams last rest tokens tt s };
}

-- the empty text
pub prints_nothing : (mode : Mode) (lone : Bool) → Prints mode mode lone Nothing []
prints_nothing mode lone = record { leads = λ place line stands. record { next_place = place; next_line = line; stands = stands; streams = λ last rest tokens stop s. (tokens, s, refl) } }

-- two texts in sequence, if the second may follow the first
joined : {from between to : Mode} {before lone : Bool} {P Q : Part} {s t : List ℕ} → ((rest : List ℕ) → Follows lone rest → Follows before (t ++ rest)) → Prints from between before P s → Prints between to lone Q t
    → Prints from to lone (P ⨾ Q) (s ++ t)
joined {from} {between} {to} {before} {lone} {P} {Q} {s} {t} may first second = record {
  leads = λ place line stands.
      let l = first.leads place line stands in
      let m = second.leads l.next_place l.next_line l.stands in
      record {
        next_place = m.next_place;
        next_line = m.next_line;
        stands = m.stands;
        streams = λ last rest tokens stop k.
            let behind = m.streams last rest tokens stop k in
            let all = l.streams last (t ++ rest) behind.0 (may rest stop) behind.1 in
            (all.0, streams_as (append_assoc s t rest) all.1, (behind.0, all.2, behind.2));
      };
}

pub prints_then : {from between to : Mode} {lone : Bool} {P Q : Part} {s t : List ℕ} → Prints from between false P s → Prints between to lone Q t → Opens lone t → Prints from to lone (P ⨾ Q) (s ++ t)
prints_then first second clear = joined (λ rest follows. clear.opens rest follows) first second

pub prints_next : {from between to : Mode} {lone : Bool} {P Q : Part} {s t : List ℕ} → Prints from between true P s → Prints between to lone Q t → Prints from to lone (P ⨾ Q) (s ++ t)
prints_next first second = joined (λ rest follows. tt) first second

-- a gap before a text, and behind it
pub behind_space : {from to : Mode} {lone : Bool} {P : Part} {text : List ℕ} (g : List ℕ) → list_all is_space g ≡ true → TakesGap from → Prints from to lone P text → Prints from to lone P (g ++ text)
behind_space {from} {to} {lone} {P} {text} g all takes p = record {
  leads = λ place line stands.
      let l = p.leads place (line + feeds g) (stands_later from place line (feeds g) takes stands) in
      record {
        next_place = l.next_place;
        next_line = l.next_line;
        stands = l.stands;
        streams = λ last rest tokens stop k.
            let r = l.streams last rest tokens stop k in
            (r.0, streams_as (append_assoc g text rest) (behind_gap g all r.1), r.2);
      };
}

-- with a gap behind it, every text ends
pub before_space : {from to : Mode} {lone : Bool} {P : Part} {text : List ℕ} (g : List ℕ) → list_all is_space g ≡ true → ((rest : List ℕ) → Follows lone (g ++ rest)) → TakesGap to → Prints from to lone P text
    → Prints from to true P (text ++ g)
before_space {from} {to} {lone} {P} {text} g all ends takes p = record {
  leads = λ place line stands.
      let l = p.leads place line stands in
      record {
        next_place = l.next_place;
        next_line = l.next_line + feeds g;
        stands = stands_later to l.next_place l.next_line (feeds g) takes l.stands;
        streams = λ last rest tokens stop k.
            let r = l.streams last (g ++ rest) tokens (ends rest) (behind_gap g all k) in
            (r.0, streams_as (append_assoc text g rest) r.1, r.2);
      };
}

-- a token
pub prints_token : (from to : Mode) (lone : Bool) (token : Token) → HasForm token
    → ((place : Section) (line : ℕ) → Stands from place line → Stands to (place_behind place (line, token)) line)
    → ((place : Section) (line : ℕ) (rest : List ℕ) → Stands from place line → Follows lone rest → MayStand place line token rest)
    → Prints from to lone (Is token) (bytes_of token)
prints_token from to lone token form goes may = record {
  leads = λ place line stands. record {
    next_place = place_behind place (line, token);
    next_line = line;
    stands = goes place line stands;
    streams = λ last rest tokens stop k. ((line, token) ∷ tokens, with_token token form (may place line rest stands stop) k, (line, refl));
  };
}

-- ---- texts of things

-- the tokens spell a syntax tree that is written for the thing
abbrev pub Reads : {A X : Type 0} → (A → Part) → (A → X → Type 0) → X → Part
Reads {A} {X} Spells Writes x tokens rest = (written : A) × Spells written tokens rest × Writes written x

-- the texts of a list of things, one behind the other
pub prints_each : {A X : Type 0} (Spells : A → Part) (Writes : A → X → Type 0) (mode : Mode) (text : X → List ℕ) → ((x : X) → Opens false (text x)) → (xs : List X)
    → ((k : ℕ) (x : X) → slice_get xs k ≡ Some x → Prints mode mode false (Reads Spells Writes x) (text x))
    → Prints mode mode false (Reads (Each Spells) (AllZip Writes) xs) (flat_map text xs)
prints_each Spells Writes mode text opens [] each = prints_map _ (λ tokens rest same. ([], same, tt)) (prints_nothing mode false)
prints_each Spells Writes mode text opens (x ∷ xs) each =
    prints_map _ (λ tokens rest (between, (written, spells, writes), (others, spell, write)). (written ∷ others, (between, spells, spell), (writes, write)))
    (prints_then (each 0 x refl) (prints_each Spells Writes mode text opens xs (λ k y is. each (suc k) y is)) (opens_each text opens xs))

-- the same for texts that end by themselves
pub prints_lines : {A X : Type 0} (Spells : A → Part) (Writes : A → X → Type 0) (mode : Mode) (text : X → List ℕ) → (xs : List X)
    → ((k : ℕ) (x : X) → slice_get xs k ≡ Some x → Prints mode mode true (Reads Spells Writes x) (text x))
    → Prints mode mode true (Reads (Each Spells) (AllZip Writes) xs) (flat_map text xs)
prints_lines Spells Writes mode text [] each = prints_map _ (λ tokens rest same. ([], same, tt)) (prints_nothing mode true)
prints_lines Spells Writes mode text (x ∷ xs) each =
    prints_map _ (λ tokens rest (between, (written, spells, writes), (others, spell, write)). (written ∷ others, (between, spells, spell), (writes, write)))
    (prints_next (each 0 x refl) (prints_lines Spells Writes mode text xs (λ k y is. each (suc k) y is)))
