-- What a parser does with the tokens of a line, in a form that composes: it reads the first tokens, whatever is behind
-- the next one, or it refuses what is behind a viable prefix.
use Rattle.rule_viable_prefixes.proofs.Common.{◌≡◌, ℕ, suc, ◌+◌, ◌≤◌, List, [], ◌∷◌, ◌++◌, map, Result, Ok, Err, refl, sym, ap, subst, ◌∙◌, append_assoc, ◌⊎◌, inl, inr, arith, append-nil, RuleFault, ◌>>=◌, Token, Line, Word, Mark, EndsLine, line_behind, Fitting, IsNoun, IsFlagWord, RepeatsFlag, Limits}
use Rattle.rule_viable_prefixes.proofs.Reasons.{openings}
use Rattle.rule_viable_prefixes.proofs.FlagRuns.{NoFlag, NoFlagLast, IsNew, new_behind, none_new, last_of_both}
use Rattle.rule_viable_prefixes.proofs.Tolds.{SaysFirst, says_wider, says_carried}

-- ---- tokens that a parser with one token of lookahead can't tell apart

-- the first token is the same, or the line ends in both
pub data Alike : List Token → List Token → Type 0 where
  same : (token : Token) (a b : List Token) → Alike (token ∷ a) (token ∷ b)
  ended : (a b : List Token) → EndsLine a → EndsLine b → Alike a b

pub alike_itself : (a : List Token) → Alike a a
alike_itself [] = ended [] [] tt tt
alike_itself (token ∷ a) = same token a a

pub alike_behind : (own a b : List Token) → Alike a b → Alike (own ++ a) (own ++ b)
alike_behind [] a b alike = alike
alike_behind (token ∷ own) a b alike = same token (own ++ a) (own ++ b)

-- the first token is the same, or a noun is in the place of a word, or the line ends in both
pub data Akin : List Token → List Token → Type 0 where
  same_next : (token : Token) (a b : List Token) → Akin (token ∷ a) (token ∷ b)
  noun_next : (word noun : List ℕ) (a b : List Token) → IsNoun noun → Akin (Word word ∷ a) (Word noun ∷ b)
  ended_next : (a b : List Token) → EndsLine a → EndsLine b → Akin a b

pub akin : {a b : List Token} → Alike a b → Akin a b
akin (same token a b) = same_next token a b
akin (ended a b p q) = ended_next a b p q

pub akin_behind : (own a b : List Token) → Akin a b → Akin (own ++ a) (own ++ b)
akin_behind [] a b h = h
akin_behind (token ∷ own) a b h = same_next token (own ++ a) (own ++ b)

pub akin_noun : (front behind : List Token) (word : List ℕ) (rest : List Token) → behind ≡ Word word ∷ rest → (noun : List ℕ) → IsNoun noun → (more : List Token) → Akin (front ++ behind) (front ++ Word noun ∷ more)
akin_noun front behind word rest is noun is_noun more = akin_behind front behind (Word noun ∷ more) (subst (λ (ts : List Token). Akin ts (Word noun ∷ more)) (sym is) (noun_next word noun rest more is_noun))

-- how many of the tokens, which are on one line, open a level of nesting
abbrev pub opened : List Token → ℕ
opened [] = 0
opened (token ∷ tokens) = openings token + opened tokens

-- a token that opens one counts
pub opens_one : (mark : List ℕ) (nesting : ℕ) → openings (Mark mark) ≡ 1 → (front : List Token) → nesting ≤ opened front → suc nesting ≤ openings (Mark mark) + opened front
opens_one mark nesting is front far = rw is (omega (arith, far))

-- more tokens in front open as many or more
pub more_opened : (before front : List Token) → opened front ≤ opened (before ++ front)
more_opened [] front = omega arith
more_opened (token ∷ before) front = let le = more_opened before front in omega (arith, le)

module _ (limits : Limits) where
  -- ---- tokens on one line

  abbrev pub Inline : List Token → Type 0
  Inline own = (line : ℕ) (more : List Token) → line_behind line (own ++ more) ≡ line_behind line more

  abbrev pub NoLine : Token → Type 0
  NoLine (Line number) = ⊥
  NoLine token = Unit {0}

  -- a token that is neither a line's number nor a flag
  abbrev pub IsOwn : Token → Type 0
  IsOwn (Line number) = ⊥
  IsOwn (Word word) = IsFlagWord word → ⊥
  IsOwn token = Unit {0}

  own_line : (token : Token) → IsOwn token → NoLine token
  own_line (Line number) own = own
  own_line token own = tt

  own_flag : (token : Token) → IsOwn token → NoFlag token
  own_flag (Word word) own = λ w flag is. own (subst IsFlagWord (let same_word_ : w ≡ word = cc in same_word_) flag)
  own_flag token own = λ w flag is. cc

  pub own_last : (token : Token) (own : List Token) → IsOwn token → NoFlagLast own → NoFlagLast (token ∷ own)
  own_last token [] is last = own_flag token is
  own_last token (t ∷ own) is last = last

  pub inline_none : Inline []
  inline_none = λ line more. refl

  pub none_behind : (line : ℕ) → line_behind line [] ≡ line
  unfolding line_behind
  none_behind line = refl

  pub inline_token : (token : Token) (own : List Token) → NoLine token → Inline own → Inline (token ∷ own)
  unfolding line_behind
  inline_token (Line number) own stays inline line more = absurd stays
  inline_token token own stays inline line more = inline line more

  pub inline_both : (front back : List Token) → Inline front → Inline back → Inline (front ++ back)
  inline_both front back one two = λ line more. ap (line_behind line) (append_assoc front back more) ∙ one line (back ++ more) ∙ two line more

  -- ---- what parsers do

  -- which tokens spell which value
  abbrev pub Spelling : Type 0 → Type 1
  Spelling A = A → List Token → Type 0

  -- the tokens are a viable prefix of what is spelled
  abbrev pub Begins : {A : Type 0} → Spelling A → List Token → Type 0
  Begins {A} L front = (x : A) × (more : List Token) × L x (front ++ more)

  -- the tokens that fit behind a prefix
  abbrev pub Takes : {A : Type 0} → Spelling A → List Token → Fitting
  Takes L front token = Begins L (front ++ token ∷ [])

  abbrev pub Sample : {A : Type 0} → Spelling A → Type 0
  Sample {A} L = (x : A) × (own : List Token) × L x own

  -- what the parser gives, of the value and the tokens that are left
  abbrev pub Shape : Type 0 → Type 0 → Type 0
  Shape A X = A → List Token → X

  abbrev pub pair : {A : Type 0} → Shape A (A × List Token)
  pair x rest = (x, rest)

  abbrev pub bare : Shape (Unit {0}) (List Token)
  bare x rest = rest

  abbrev pub Reader : Type 0 → Type 0
  Reader X = List Token → Result X RuleFault

  abbrev pub IsErr : {X : Type 0} → Result X RuleFault → Type 0
  IsErr r = (e : RuleFault) × (r ≡ Err e)

  -- the parser reads no noun behind the prefix
  abbrev pub NoNoun : {X : Type 0} → Reader X → List Token → Type 0
  NoNoun R front = (noun : List ℕ) → IsNoun noun → (more : List Token) → IsErr (R (front ++ Word noun ∷ more))

  -- a word isn't read behind the prefix as it would repeat a flag, or as no noun would be
  abbrev pub Lack : {X : Type 0} → Reader X → List Token → List ℕ → Type 0
  Lack R front word = RepeatsFlag front word ⊎ NoNoun R front

  pub repeats_behind : (before front all : List Token) (word : List ℕ) → all ≡ before ++ front → RepeatsFlag front word → RepeatsFlag all word
  repeats_behind before front all word whole (first, words, flags, stands) = (before ++ first, words, flags, whole ∙ ap (λ (ts : List Token). before ++ ts) stands ∙ sym (append_assoc before first (map (λ w. Word w) (word ∷ words))))

  pub lack_wider : {A B : Type 0} (before front all : List Token) (word : List ℕ) → all ≡ before ++ front → (A → B) → RepeatsFlag front word ⊎ A → RepeatsFlag all word ⊎ B
  lack_wider before front all word whole f (inl repeats) = inl (repeats_behind before front all word whole repeats)
  lack_wider before front all word whole f (inr none) = inr (f none)

  abbrev pub IsErrOn : {X : Type 0} → Fitting → (List ℕ → Type 0) → ℕ → List Token → Result X RuleFault → Type 0
  IsErrOn fits none line tokens r = (e : RuleFault) × (r ≡ Err e) × (e.line ≡ line) × SaysFirst limits 0 fits none tokens e.kind

  -- ---- the two outcomes

  pub record IsRead {A X : Type 0} (C : List Token → List Token → Type 0) (shape : Shape A X) (R : Reader X) (L : Spelling A) (tokens : List Token) (found : X) : Type 0 where
    pub value : A
    pub own : List Token
    pub rest : List Token
    pub is_own : L value own
    pub inline : Inline own
    pub there : tokens ≡ own ++ rest
    pub is : found ≡ shape value rest
    pub kept : (more : List Token) → Akin rest more → R (own ++ more) ≡ Ok (shape value more)
    pub apart : C own rest

  pub record IsRefused {A X : Type 0} (R : Reader X) (L : Spelling A) (line : ℕ) (tokens : List Token) (found : RuleFault) : Type 0 where
    pub front : List Token
    pub behind : List Token
    pub there : tokens ≡ front ++ behind
    pub begins : Begins L front
    pub inline : Inline front
    pub refused : (more : List Token) → Alike behind more → IsErr (R (front ++ more))
    pub here : found.line ≡ line
    pub says : SaysFirst limits (opened front) (Takes L front) (Lack R front) behind found.kind
    pub new : IsNew front found.kind

  -- either outcome, where C holds of the tokens that are read and of those that are left
  abbrev pub OutcomeBy : {A X : Type 0} → (List Token → List Token → Type 0) → Shape A X → Reader X → Spelling A → ℕ → List Token → Result X RuleFault → Type 0
  OutcomeBy C shape R L line tokens (Ok x) = IsRead C shape R L tokens x
  OutcomeBy C shape R L line tokens (Err e) = IsRefused R L line tokens e

  -- the last token that is read is no flag
  abbrev pub EndsOther : List Token → List Token → Type 0
  EndsOther own rest = NoFlagLast own

  abbrev pub Outcome : {A X : Type 0} → Shape A X → Reader X → Spelling A → ℕ → List Token → Result X RuleFault → Type 0
  Outcome shape R L line tokens r = OutcomeBy EndsOther shape R L line tokens r

  pub record Good {A X : Type 0} (shape : Shape A X) (R : Reader X) (L : Spelling A) (line : ℕ) : Type 0 where
    pub sample : Sample L
    pub outcome : (tokens : List Token) → Outcome shape R L line tokens (R tokens)

  -- ---- one parser behind another

  abbrev pub Joins : {A B : Type 0} → Spelling A → (A → Spelling B) → Spelling B → Type 0
  Joins {A} {B} L M N = (x : A) (y : B) (front back : List Token) → L x front → M x y back → N y (front ++ back)

  abbrev pub Samples : {A B : Type 0} → Spelling A → (A → Spelling B) → Type 0
  Samples {A} {B} L M = (x : A) (own : List Token) → L x own → Sample (M x)

  -- where C holds of what the first one reads, the second one's fault repeats no flag, and its last token is none
  pub record Parts {A B X Y : Type 0} (C : List Token → List Token → Type 0) (s : Shape A X) (S : X → Result Y RuleFault) (M : A → Spelling B) (line : ℕ) : Type 0 where
    pub new : (own rest : List Token) → C own rest → (x : A) (found : RuleFault) (p : IsRefused (λ ts. S (s x ts)) (M x) line rest found) → IsNew (own ++ p.front) found.kind
    pub last : (own rest : List Token) → C own rest → (x : A) (y : B) (more : List Token) → M x y more → NoFlagLast more → NoFlagLast (own ++ more)

  parts : {A B X Y : Type 0} (s : Shape A X) (S : X → Result Y RuleFault) (M : A → Spelling B) (line : ℕ) → Parts EndsOther s S M line
  parts s S M line = record { new = λ own rest last x found p. new_behind own p.front found.kind (inl last) p.new; last = λ own rest last x y more is last_too. last_of_both own more last last_too }

  pub then_by : {A B X Y : Type 0} (C : List Token → List Token → Type 0) (s : Shape A X) (t : Shape B Y) (R : Reader X) (S : X → Result Y RuleFault) (L : Spelling A) (M : A → Spelling B) (N : Spelling B) (line : ℕ) (tokens : List Token)
      → Joins L M N → Samples L M → Parts C s S M line → OutcomeBy C s R L line tokens (R tokens)
      → ((x : A) (rest : List Token) → R tokens ≡ Ok (s x rest) → Outcome t (λ ts. S (s x ts)) (M x) line rest (S (s x rest)))
      → Outcome t (λ ts. R ts >>= S) N line tokens (R tokens >>= S)
  then_by {A} {B} {X} {Y} C s t R S L M N line tokens join sample parted one two = by (R tokens) refl one
    where
      begun : (front : List Token) → Begins L front → Begins N front
      begun front b =
          let other = sample b.0 (front ++ b.1) b.2 in
          (other.0, b.1 ++ other.1, subst (N other.0) (append_assoc front b.1 other.1) (join b.0 other.0 (front ++ b.1) other.1 b.2 other.2))

      by : (r : Result X RuleFault) → R tokens ≡ r → OutcomeBy C s R L line tokens r → Outcome t (λ ts. R ts >>= S) N line tokens (r >>= S)
      by (Err e) is o = record {
        front = o.front;
        behind = o.behind;
        there = o.there;
        begins = begun o.front o.begins;
        inline = o.inline;
        refused = λ more alike. let f = o.refused more alike in (f.0, rw f.1 refl);
        here = o.here;
        says = says_wider limits (opened o.front) (opened o.front) (omega arith) (Takes L o.front) (Takes N o.front) (λ token. begun (o.front ++ token ∷ [])) o.behind
            (λ word rest is_word. lack_wider [] o.front o.front word refl (λ n noun is_noun more. let f = n noun is_noun more in (f.0, rw f.1 refl))) e.kind o.says;
        new = o.new;
      }
      by (Ok x) is o = behind (S x) (subst (λ (y : X). Outcome t (λ ts. S (s o.value ts)) (M o.value) line o.rest (S y)) (sym o.is) (two o.value o.rest (is ∙ ap Ok o.is)))
        where
          read : (own more rest : List Token) (y : Y) → Akin (own ++ rest) (own ++ more) → o.rest ≡ own ++ rest → S (s o.value (own ++ more)) ≡ Ok y → (R ((o.own ++ own) ++ more) >>= S) ≡ Ok y
          read own more rest y alike there h = rw (append_assoc o.own own more, o.kept (own ++ more) (subst (λ (ts : List Token). Akin ts (own ++ more)) (sym there) alike)) h

          failed : (own more rest : List Token) → Akin (own ++ rest) (own ++ more) → o.rest ≡ own ++ rest → IsErr (S (s o.value (own ++ more))) → IsErr (R ((o.own ++ own) ++ more) >>= S)
          failed own more rest alike there (f, h) = (f, rw (append_assoc o.own own more, o.kept (own ++ more) (subst (λ (ts : List Token). Akin ts (own ++ more)) (sym there) alike)) h)

          own_begun : (front : List Token) → Begins (M o.value) front → Begins N (o.own ++ front)
          own_begun front b = (b.0, b.1, subst (N b.0) (sym (append_assoc o.own front b.1)) (join o.value b.0 o.own (front ++ b.1) o.is_own b.2))

          behind : (q : Result Y RuleFault) → Outcome t (λ ts. S (s o.value ts)) (M o.value) line o.rest q → Outcome t (λ ts. R ts >>= S) N line tokens q
          behind (Ok y) p = record {
            value = p.value;
            own = o.own ++ p.own;
            rest = p.rest;
            is_own = join o.value p.value o.own p.own o.is_own p.is_own;
            inline = inline_both o.own p.own o.inline p.inline;
            there = o.there ∙ ap (λ (ts : List Token). o.own ++ ts) p.there ∙ sym (append_assoc o.own p.own p.rest);
            is = p.is;
            kept = λ more alike. read p.own more p.rest (t p.value more) (akin_behind p.own p.rest more alike) p.there (p.kept more alike);
            apart = parted.last o.own o.rest o.apart o.value p.value p.own p.is_own p.apart;
          }
          behind (Err e) p = record {
            front = o.own ++ p.front;
            behind = p.behind;
            there = o.there ∙ ap (λ (ts : List Token). o.own ++ ts) p.there ∙ sym (append_assoc o.own p.front p.behind);
            begins = own_begun p.front p.begins;
            inline = inline_both o.own p.front o.inline p.inline;
            refused = λ more alike. failed p.front more p.behind (akin_behind p.front p.behind more (akin alike)) p.there (p.refused more alike);
            here = p.here;
            says = says_wider limits (opened p.front) (opened (o.own ++ p.front)) (more_opened o.own p.front) (Takes (M o.value) p.front) (Takes N (o.own ++ p.front))
                (λ token is. subst (Begins N) (sym (append_assoc o.own p.front (token ∷ []))) (own_begun (p.front ++ token ∷ []) is)) p.behind
                (λ word rest is_word. lack_wider o.own p.front (o.own ++ p.front) word refl (λ n noun is_noun more. failed p.front (Word noun ∷ more) p.behind (akin_noun p.front p.behind word rest is_word noun is_noun more) p.there (n noun is_noun more))) e.kind p.says;
            new = parted.new o.own o.rest o.apart o.value e p;
          }

  pub then_at : {A B X Y : Type 0} (s : Shape A X) (t : Shape B Y) (R : Reader X) (S : X → Result Y RuleFault) (L : Spelling A) (M : A → Spelling B) (N : Spelling B) (line : ℕ) (tokens : List Token)
      → Joins L M N → Samples L M → Outcome s R L line tokens (R tokens)
      → ((x : A) (rest : List Token) → R tokens ≡ Ok (s x rest) → Outcome t (λ ts. S (s x ts)) (M x) line rest (S (s x rest)))
      → Outcome t (λ ts. R ts >>= S) N line tokens (R tokens >>= S)
  then_at s t R S L M N line tokens join sample one two = then_by EndsOther s t R S L M N line tokens join sample (parts s S M line) one two

  pub then : {A B X Y : Type 0} {s : Shape A X} {t : Shape B Y} {R : Reader X} (S : X → Result Y RuleFault) {L : Spelling A} {M : A → Spelling B} {N : Spelling B} {line : ℕ}
      → Joins L M N → Good s R L line → ((x : A) → Good t (λ ts. S (s x ts)) (M x) line) → Good t (λ ts. R ts >>= S) N line
  then {A} {B} {X} {Y} {s} {t} {R} S {L} {M} {N} {line} join one two = record {
    sample =
        let a = one.sample in
        let b = (two a.0).sample in
        (b.0, a.1 ++ b.1, join a.0 b.0 a.1 b.1 a.2 b.2);
    outcome = λ tokens. then_at s t R S L M N line tokens join (λ x own is. (two x).sample) (one.outcome tokens) (λ x rest e. (two x).outcome rest);
  }

  -- ---- the first token

  -- nothing is read, and the first token is refused, or the end of the line
  pub refused_here : {A X : Type 0} (shape : Shape A X) (R : Reader X) (L : Spelling A) (line : ℕ) (tokens : List Token) → Sample L → ((more : List Token) → Alike tokens more → IsErrOn (Takes L []) (Lack R []) line more (R more)) → Outcome shape R L line tokens (R tokens)
  refused_here {A} {X} shape R L line tokens sample h =
      let f = h tokens (alike_itself tokens) in
      subst (Outcome shape R L line tokens) (sym f.1)
      (record {
        front = [];
        behind = tokens;
        there = refl;
        begins = sample;
        inline = inline_none;
        refused = λ more alike. let g = h more alike in (g.0, g.1);
        here = f.2;
        says = f.3;
        new = none_new f.0.kind;
      })

  -- nothing is read and no token is taken
  pub passed : {A X : Type 0} (shape : Shape A X) (R : Reader X) (L : Spelling A) (line : ℕ) (tokens : List Token) (x : A) → L x [] → ((more : List Token) → Akin tokens more → R more ≡ Ok (shape x more)) → Outcome shape R L line tokens (R tokens)
  passed shape R L line tokens x is h =
      subst (Outcome shape R L line tokens) (sym (h tokens (akin (alike_itself tokens))))
      (record { value = x; own = []; rest = tokens; is_own = is; inline = inline_none; there = refl; is = refl; kept = h; apart = tt })

  -- the first token is read alone
  pub took : {A X : Type 0} (shape : Shape A X) (R : Reader X) (L : Spelling A) (line : ℕ) (token : Token) (rest : List Token) (x : A) → IsOwn token → L x (token ∷ []) → ((more : List Token) → R (token ∷ more) ≡ Ok (shape x more)) → Outcome shape R L line (token ∷ rest) (R (token ∷ rest))
  took shape R L line token rest x stays is h =
      subst (Outcome shape R L line (token ∷ rest)) (sym (h rest))
      (record { value = x; own = token ∷ []; rest = rest; is_own = is; inline = inline_token token [] (own_line token stays) inline_none; there = refl; is = refl; kept = λ more alike. h more; apart = own_flag token stays })

-- behind the first token another parser goes on, maybe one level of nesting further in
module _ (inner limits : Limits) (bytes : inner.name_bytes ≡ limits.name_bytes) (token : Token) (deep : (front : List Token) → inner.nested ≤ opened front → limits.nested ≤ openings token + opened front) where
  pub led_in : {A X : Type 0} (shape : Shape limits A X) (R S : Reader limits X) (L : Spelling limits A) (line : ℕ) (rest : List Token) → IsOwn limits token → ((more : List Token) → R (token ∷ more) ≡ S more)
      → Outcome inner shape S (λ x own. L x (token ∷ own)) line rest (S rest) → Outcome limits shape R L line (token ∷ rest) (R (token ∷ rest))
  led_in {A} {X} shape R S L line rest stays h o = subst (Outcome limits shape R L line (token ∷ rest)) (sym (h rest)) (by (S rest) o)
    where
      by : (r : Result X RuleFault) → Outcome inner shape S (λ x own. L x (token ∷ own)) line rest r → Outcome limits shape R L line (token ∷ rest) r
      by (Ok x) o = record {
        value = o.value;
        own = token ∷ o.own;
        rest = o.rest;
        is_own = o.is_own;
        inline = inline_token limits token o.own (own_line limits token stays) o.inline;
        there = ap (λ (ts : List Token). token ∷ ts) o.there;
        is = o.is;
        kept = λ more alike. h (o.own ++ more) ∙ o.kept more alike;
        apart = own_last limits token o.own stays o.apart;
      }
      by (Err e) o = record {
        front = token ∷ o.front;
        behind = o.behind;
        there = ap (λ (ts : List Token). token ∷ ts) o.there;
        begins = o.begins;
        inline = inline_token limits token o.front (own_line limits token stays) o.inline;
        refused = λ more alike. let f = o.refused more alike in (f.0, h (o.front ++ more) ∙ f.1);
        here = o.here;
        says = says_carried inner limits (opened o.front) (opened (token ∷ o.front)) bytes (λ far. deep o.front far) (Takes limits L (token ∷ o.front)) (Takes limits L (token ∷ o.front)) (λ t fits. fits) o.behind (λ word r is_word. lack_wider limits (token ∷ []) o.front (token ∷ o.front) word refl (λ n noun is_noun more. let f = n noun is_noun more in (f.0, h (o.front ++ Word noun ∷ more) ∙ f.1))) e.kind o.says;
        new = new_behind (token ∷ []) o.front e.kind (inl (own_flag limits token stays)) o.new;
      }

module _ (limits : Limits) where
  pub led : {A X : Type 0} (shape : Shape limits A X) (R S : Reader limits X) (L : Spelling limits A) (line : ℕ) (token : Token) (rest : List Token) → IsOwn limits token → ((more : List Token) → R (token ∷ more) ≡ S more)
      → Outcome limits shape S (λ x own. L x (token ∷ own)) line rest (S rest) → Outcome limits shape R L line (token ∷ rest) (R (token ∷ rest))
  led shape R S L line token rest stays h o = led_in limits limits refl token (λ front far. omega (arith, far)) shape R S L line rest stays h o

  -- ---- the outcome of a parser is that of an equal one

  pub same_as : {A X : Type 0} (shape : Shape limits A X) (R S : Reader limits X) (L : Spelling limits A) (line : ℕ) (tokens : List Token) → ((more : List Token) → R more ≡ S more) → Outcome limits shape S L line tokens (S tokens) → Outcome limits shape R L line tokens (R tokens)
  same_as {A} {X} shape R S L line tokens h o = subst (Outcome limits shape R L line tokens) (sym (h tokens)) (by (S tokens) o)
    where
      by : (r : Result X RuleFault) → Outcome limits shape S L line tokens r → Outcome limits shape R L line tokens r
      by (Ok x) o = record { value = o.value; own = o.own; rest = o.rest; is_own = o.is_own; inline = o.inline; there = o.there; is = o.is; kept = λ more alike. h (o.own ++ more) ∙ o.kept more alike; apart = o.apart }
      by (Err e) o = record {
        front = o.front;
        behind = o.behind;
        there = o.there;
        begins = o.begins;
        inline = o.inline;
        refused = λ more alike. let f = o.refused more alike in (f.0, h (o.front ++ more) ∙ f.1);
        here = o.here;
        says = says_wider limits (opened o.front) (opened o.front) (omega arith) (Takes limits L o.front) (Takes limits L o.front) (λ t fits. fits) o.behind (λ word r is_word. lack_wider limits [] o.front o.front word refl (λ n noun is_noun more. let f = n noun is_noun more in (f.0, h (o.front ++ Word noun ∷ more) ∙ f.1))) e.kind o.says;
        new = o.new;
      }

  -- the same where the first token is equal: the other parser reads something there, and some noun
  pub alike_as : {A X : Type 0} (shape : Shape limits A X) (R S : Reader limits X) (L : Spelling limits A) (line : ℕ) (tokens : List Token) → ((x : A) → L x [] → ⊥) → (NoNoun limits S [] → ⊥) → ((more : List Token) → Alike tokens more → R more ≡ S more)
      → Outcome limits shape S L line tokens (S tokens) → Outcome limits shape R L line tokens (R tokens)
  alike_as {A} {X} shape R S L line tokens some reads h o = subst (Outcome limits shape R L line tokens) (sym (h tokens (alike_itself tokens))) (by (S tokens) o)
    where
      alike_front : (own rest more : List Token) → tokens ≡ own ++ rest → Alike rest more → Alike tokens (own ++ more)
      alike_front own rest more there alike = subst (λ (ts : List Token). Alike ts (own ++ more)) (sym there) (alike_behind own rest more alike)

      alike_own : (own rest more : List Token) → tokens ≡ own ++ rest → (own ≡ [] → ⊥) → Alike tokens (own ++ more)
      alike_own [] rest more there none = absurd (none refl)
      alike_own (t ∷ own) rest more there none = subst (λ (ts : List Token). Alike ts (t ∷ own ++ more)) (sym there) (same t (own ++ rest) (own ++ more))

      no_noun : (front rest : List Token) → tokens ≡ front ++ rest → NoNoun limits S front → NoNoun limits R front
      no_noun [] rest there n = absurd (reads n)
      no_noun (t ∷ front) rest there n = λ noun is more. let f = n noun is more in (f.0, h (t ∷ front ++ Word noun ∷ more) (alike_own (t ∷ front) rest (Word noun ∷ more) there (λ none. absurd cc)) ∙ f.1)

      by : (r : Result X RuleFault) → Outcome limits shape S L line tokens r → Outcome limits shape R L line tokens r
      by (Ok x) o = record {
        value = o.value;
        own = o.own;
        rest = o.rest;
        is_own = o.is_own;
        inline = o.inline;
        there = o.there;
        is = o.is;
        kept = λ more alike. h (o.own ++ more) (alike_own o.own o.rest more o.there (λ none. some o.value (subst (L o.value) none o.is_own))) ∙ o.kept more alike;
        apart = o.apart;
      }
      by (Err e) o = record {
        front = o.front;
        behind = o.behind;
        there = o.there;
        begins = o.begins;
        inline = o.inline;
        refused = λ more alike. let f = o.refused more alike in (f.0, h (o.front ++ more) (alike_front o.front o.behind more o.there alike) ∙ f.1);
        here = o.here;
        says = says_wider limits (opened o.front) (opened o.front) (omega arith) (Takes limits L o.front) (Takes limits L o.front) (λ t fits. fits) o.behind (λ word r is_word. lack_wider limits [] o.front o.front word refl (no_noun o.front o.behind o.there)) e.kind o.says;
        new = o.new;
      }

  -- what spells more
  pub widen : {A X : Type 0} (shape : Shape limits A X) (R : Reader limits X) (L N : Spelling limits A) (line : ℕ) (tokens : List Token) → ((x : A) (own : List Token) → L x own → N x own) → (r : Result X RuleFault) → Outcome limits shape R L line tokens r → Outcome limits shape R N line tokens r
  widen shape R L N line tokens f (Ok x) o = record { value = o.value; own = o.own; rest = o.rest; is_own = f o.value o.own o.is_own; inline = o.inline; there = o.there; is = o.is; kept = o.kept; apart = o.apart }
  widen shape R L N line tokens f (Err e) o = record { front = o.front; behind = o.behind; there = o.there; begins = (o.begins.0, o.begins.1, f o.begins.0 (o.front ++ o.begins.1) o.begins.2); inline = o.inline; refused = o.refused; here = o.here; says = says_wider limits (opened o.front) (opened o.front) (omega arith) (Takes limits L o.front) (Takes limits N o.front) (λ token b. (b.0, b.1, f b.0 ((o.front ++ token ∷ []) ++ b.1) b.2)) o.behind (λ word r is_word n. n) e.kind o.says; new = o.new }

  -- ---- parsers that decide by the first token

  -- the parser takes the first token, refuses it, or goes on behind it
  pub data Branch {A X : Type 0} (shape : Shape limits A X) (R : Reader limits X) (L : Spelling limits A) (line : ℕ) (token : Token) : Type 0 where
    takes : (x : A) → IsOwn limits token → L x (token ∷ []) → ((more : List Token) → R (token ∷ more) ≡ Ok (shape x more)) → Branch shape R L line token
    refuses : ((more : List Token) → IsErrOn limits (Takes limits L []) (Lack limits R []) line (token ∷ more) (R (token ∷ more))) → Branch shape R L line token
    knows : IsOwn limits token → ((rest : List Token) → Outcome limits shape R L line (token ∷ rest) (R (token ∷ rest))) → Branch shape R L line token
    goes : (S : Reader limits X) → IsOwn limits token → ((more : List Token) → R (token ∷ more) ≡ S more) → Good limits shape S (λ x own. L x (token ∷ own)) line → Branch shape R L line token

  -- it goes on one level of nesting further in
  pub goes_in : {A X : Type 0} {shape : Shape limits A X} {R : Reader limits X} {L : Spelling limits A} {line : ℕ} {token : Token} (inner : Limits) → inner.name_bytes ≡ limits.name_bytes → ((front : List Token) → inner.nested ≤ opened front → limits.nested ≤ openings token + opened front) → (S : Reader limits X) → IsOwn limits token
      → ((more : List Token) → R (token ∷ more) ≡ S more) → Good inner shape S (λ x own. L x (token ∷ own)) line → Branch shape R L line token
  goes_in {A} {X} {shape} {R} {L} {line} {token} inner bytes deep S stays h good = knows stays (λ rest. led_in inner limits bytes token deep shape R S L line rest stays h (good.outcome rest))

  -- it refuses the end of the line
  pub refused_at_end : {A X : Type 0} (shape : Shape limits A X) (R : Reader limits X) (L : Spelling limits A) (line : ℕ) → ((token : Token) → Branch shape R L line token) → IsErrOn limits (Takes limits L []) (Lack limits R []) line [] (R []) → (more : List Token) → EndsLine more → IsErrOn limits (Takes limits L []) (Lack limits R []) line more (R more)
  refused_at_end {A} {X} shape R L line branch none [] ends = none
  refused_at_end {A} {X} shape R L line branch none (Line number ∷ more) ends = by (branch (Line number))
    where
      by : Branch shape R L line (Line number) → IsErrOn limits (Takes limits L []) (Lack limits R []) line (Line number ∷ more) (R (Line number ∷ more))
      by (takes x stays is h) = absurd stays
      by (refuses h) = h more
      by (knows stays h) = absurd stays
      by (goes S stays h good) = absurd stays
  refused_at_end {A} {X} shape R L line branch none more ends = absurd ends

  pub by_token : {A X : Type 0} {shape : Shape limits A X} {R : Reader limits X} {L : Spelling limits A} {line : ℕ} → Sample limits L → ((token : Token) → Branch shape R L line token) → IsErrOn limits (Takes limits L []) (Lack limits R []) line [] (R []) → Good limits shape R L line
  by_token {A} {X} {shape} {R} {L} {line} sample branch none = record { sample = sample; outcome = outcome }
    where
      at_end : (more : List Token) → Alike [] more → IsErrOn limits (Takes limits L []) (Lack limits R []) line more (R more)
      at_end more alike = ends [] more tt alike
        where
          ends : (tokens more : List Token) → EndsLine tokens → Alike tokens more → IsErrOn limits (Takes limits L []) (Lack limits R []) line more (R more)
          ends tokens more e (same (Line number) a b) = refused_at_end shape R L line branch none (Line number ∷ b) tt
          ends tokens more e (same token a b) = absurd e
          ends tokens more e (ended a b p q) = refused_at_end shape R L line branch none more q

      first_refused : (token : Token) (rest : List Token) → ((more : List Token) → IsErrOn limits (Takes limits L []) (Lack limits R []) line (token ∷ more) (R (token ∷ more))) → (more : List Token) → Alike (token ∷ rest) more → IsErrOn limits (Takes limits L []) (Lack limits R []) line more (R more)
      first_refused token rest h more (same t a b) = h b
      first_refused token rest h more (ended a b p q) = refused_at_end shape R L line branch none more q

      by : (token : Token) (rest : List Token) → Branch shape R L line token → Outcome limits shape R L line (token ∷ rest) (R (token ∷ rest))
      by token rest (takes x stays is h) = took limits shape R L line token rest x stays is h
      by token rest (refuses h) = refused_here limits shape R L line (token ∷ rest) sample (first_refused token rest h)
      by token rest (knows stays h) = h rest
      by token rest (goes S stays h good) = led shape R S L line token rest stays h (good.outcome rest)

      outcome : (tokens : List Token) → Outcome limits shape R L line tokens (R tokens)
      outcome [] = refused_here limits shape R L line [] sample at_end
      outcome (token ∷ rest) = by token rest (branch token)

  -- ---- a parser behind which nothing more is read

  -- ---- small steps

  pub with_none : (P : List Token → Type 0) (front back : List Token) → back ≡ [] → P front → P (front ++ back)
  with_none P front back none is = subst P (sym (ap (λ (ts : List Token). front ++ ts) none ∙ append-nil front)) is

  pub widened : {A X : Type 0} {shape : Shape limits A X} {R : Reader limits X} {L N : Spelling limits A} {line : ℕ} → ((x : A) (own : List Token) → L x own → N x own) → Good limits shape R L line → Good limits shape R N line
  widened {A} {X} {shape} {R} {L} {N} {line} f good = record {
    sample = let s = good.sample in (s.0, s.1, f s.0 s.1 s.2);
    outcome = λ tokens. widen shape R L N line tokens f (R tokens) (good.outcome tokens);
  }

  -- a parser's faults are on its line
  pub on_line : {A X : Type 0} {shape : Shape limits A X} {R : Reader limits X} {L : Spelling limits A} {line : ℕ} → Good limits shape R L line → (tokens : List Token) (e : RuleFault) → R tokens ≡ Err e → e.line ≡ line
  on_line {A} {X} {shape} {R} {L} {line} good tokens e is = by (subst (Outcome limits shape R L line tokens) is (good.outcome tokens))
    where
      by : Outcome limits shape R L line tokens (Err e) → e.line ≡ line
      by o = o.here

  -- another value is made of the one that is read
  pub then_done : {A B X : Type 0} {s : Shape limits A X} {R : Reader limits X} {L : Spelling limits A} {N : Spelling limits B} {line : ℕ} (f : A → B) (S : X → Result (B × List Token) RuleFault)
      → ((x : A) (rest : List Token) → S (s x rest) ≡ Ok (f x, rest)) → ((x : A) (own : List Token) → L x own → N (f x) own) → Good limits s R L line → Good limits (pair limits) (λ ts. R ts >>= S) N line
  then_done {A} {B} {X} {s} {R} {L} {N} {line} f S is join good =
      then limits {s = s} {t = (pair limits)} {R = R} S {L = L} {M = λ x y own. (y ≡ f x) × (own ≡ [])} {N = N}
      (λ x y front back one two. with_none (N y) front back two.1 (subst (λ (z : B). N z front) (sym two.0) (join x front one)))
      good
      (λ x. record { sample = (f x, [], (refl, refl)); outcome = λ tokens. passed limits (pair limits) (λ ts. S (s x ts)) (λ y own. (y ≡ f x) × (own ≡ [])) line tokens (f x) (refl, refl) (λ more alike. is x more) })

  pub bind_named : {A B : Type 0} (r : Result (List Token) RuleFault) (x : A) (g : A × List Token → Result B RuleFault) → ((r >>= λ rest. Ok (x, rest)) >>= g) ≡ (r >>= λ rest. g (x, rest))
  bind_named (Ok rest) x g = refl
  bind_named (Err e) x g = refl
