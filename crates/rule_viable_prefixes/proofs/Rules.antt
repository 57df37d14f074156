-- What the parsers of lines do: each reads its part, or refuses a token in it, or misses a line at the end of the text.
use Rattle.rule_viable_prefixes.proofs.Common.{◌≡◌, ℕ, ◌+◌, List, [], ◌∷◌, ◌++◌, Result, Ok, Err, refl, sym, ap, subst, ◌∙◌, append_assoc, ◌⊎◌, inl, inr, arith, append-nil, Syntax, RuleFault, ◌>>=◌, Part, ◌⨾◌, Token, Line, Word, EndsLine, line_behind, Fitting, IsNoun, Limits}
use Rattle.rule_viable_prefixes.proofs.Reasons.{openings, openings_behind, openings_on_line}
use Rattle.rule_viable_prefixes.proofs.FlagRuns.{IsNew, new_on_line}
use Rattle.rule_viable_prefixes.proofs.Outcomes.{opened, Lack, lack_wider, Akin, same_next, akin, akin_behind, akin_noun, NoNoun, Takes, Alike, Inline, Shape, Reader, IsErr, Begins, Outcome}
use Rattle.rule_viable_prefixes.proofs.Tolds.{says_wider, SaysFirst}
use Rattle.rule_viable_prefixes.proofs.Parts.{Spelled}

module _ (limits : Limits) where
  -- ---- what parsers of lines do

  -- the tokens are a viable prefix of the part with what may follow it
  abbrev pub Completes : Part → Part → List Token → Type 0
  Completes L F front = (more : List Token) × (L ⨾ F) (front ++ more)

  -- what may follow begins a line, with any number
  abbrev pub Opens : Part → Type 0
  Opens F = (number : ℕ) → (more : List Token) × F (Line number ∷ more)

  -- the tokens that fit on this line behind the prefix
  abbrev pub GoesOn : Part → Part → ℕ → List Token → Fitting
  GoesOn L F number front token = Completes L F (Line number ∷ front ++ token ∷ [])

  pub record Whole {A X : Type 0} (shape : Shape limits A X) (R : Reader limits X) (L : Part) (tokens : List Token) (found : X) : Type 0 where
    pub value : A
    pub own : List Token
    pub rest : List Token
    pub is_own : L own
    pub there : tokens ≡ own ++ rest
    pub ends : EndsLine rest
    pub is : found ≡ shape value rest
    pub kept : (number : ℕ) (a b : List Token) → rest ≡ Line number ∷ a → Akin a b → R (own ++ Line number ∷ b) ≡ Ok (shape value (Line number ∷ b))

  -- refused: the fault is behind a viable prefix that begins with a line's number
  pub record Within {X : Type 0} (R : Reader limits X) (L F : Part) (tokens : List Token) (found : RuleFault) : Type 0 where
    pub number : ℕ
    pub front : List Token
    pub behind : List Token
    pub there : tokens ≡ Line number ∷ front ++ behind
    pub begins : Completes L F (Line number ∷ front)
    pub refused : (more : List Token) → Alike behind more → IsErr limits (R (Line number ∷ front ++ more))
    pub here : found.line ≡ line_behind number front
    pub says : SaysFirst limits (openings_on_line front) (GoesOn L F number front) (Lack limits (λ ts. R (Line number ∷ ts)) front) behind found.kind
    pub new : IsNew front found.kind

  -- missed: the fault is at the end of the text, where another line may begin
  pub record Missed (L F : Part) (last : ℕ) (tokens : List Token) (found : RuleFault) : Type 0 where
    pub begins : (number : ℕ) → Completes L F (tokens ++ Line number ∷ [])
    pub here : found.line ≡ last
    pub says : found.kind ≡ Syntax

  abbrev pub Verdict : {A X : Type 0} → Shape limits A X → Reader limits X → Part → Part → ℕ → List Token → Result X RuleFault → Type 0
  Verdict shape R L F last tokens (Ok x) = Whole shape R L tokens x
  Verdict shape R L F last tokens (Err e) = Within R L F tokens e ⊎ Missed L F last tokens e

  -- ---- tokens and lines

  lines_of : (a b : List Token) (line : ℕ) → line_behind line (a ++ b) ≡ line_behind (line_behind line a) b
  unfolding line_behind
  lines_of [] b line = refl
  lines_of (Line number ∷ a) b line = lines_of a b number
  lines_of (token ∷ a) b line = lines_of a b line

  pub begins_line : (number line : ℕ) (tokens : List Token) → line_behind line (Line number ∷ tokens) ≡ line_behind number tokens
  unfolding line_behind
  begins_line number line tokens = refl

  -- marks that may open a level count from the beginning of their line
  pub on_new_line : (own front : List Token) (before number : ℕ) → openings_behind before (own ++ Line number ∷ front) ≡ openings_on_line front
  on_new_line [] front before number = refl
  on_new_line (Line other ∷ own) front before number = on_new_line own front 0 number
  on_new_line (token ∷ own) front before number = on_new_line own front (before + openings token) number

  -- and on one line they add up
  on_one_line : (front : List Token) (before : ℕ) → Inline limits front → openings_behind before front ≡ before + opened front
  unfolding line_behind
  on_one_line [] before inline = omega arith
  on_one_line (Line number ∷ front) before inline = let zero_line = inline 0 [] in let one_line = inline 1 [] in let both = sym zero_line ∙ one_line in absurd (omega (arith, both))
  on_one_line (token ∷ front) before inline = let rest = on_one_line front (before + openings token) inline in omega (arith, rest)

  -- the line that tokens end on does not depend on the lines before theirs
  pub line_of_both : (own front : List Token) (line number : ℕ) → line_behind line (own ++ Line number ∷ front) ≡ line_behind number front
  line_of_both own front line number = lines_of own (Line number ∷ front) line ∙ begins_line number (line_behind line own) front

  led_both : (front own behind : List Token) (token second : Token) → token ≡ second → (front ++ (token ∷ own)) ++ behind ≡ front ++ second ∷ (own ++ behind)
  led_both front own behind token second is = append_assoc front (token ∷ own) behind ∙ ap (λ (u : Token). front ++ u ∷ (own ++ behind)) is

  pub starts_line : (token : Token) (own rest : List Token) → EndsLine (token ∷ own ++ rest) → (number : ℕ) × (token ≡ Line number)
  starts_line (Line number) own rest ends = (number, refl)
  starts_line token own rest ends = absurd ends

  -- ---- one parser behind another

  completes_first : (L M F : Part) (front : List Token) → Completes L (M ⨾ F) front → Completes (L ⨾ M) F front
  completes_first L M F front (more, (a, rest, l, (b, c, m, f, second), first)) =
      (more, (a ++ b, c, (a, b, l, m, refl), f, first ∙ ap (λ (ts : List Token). a ++ ts) second ∙ sym (append_assoc a b c)))

  pub completes_second : (L M F : Part) (own front : List Token) → L own → Completes M F front → Completes (L ⨾ M) F (own ++ front)
  completes_second L M F own front l (more, (b, c, m, f, all)) =
      (more, (own ++ b, c, (own, b, l, m, refl), f, append_assoc own front more ∙ ap (λ (ts : List Token). own ++ ts) all ∙ sym (append_assoc own b c)))

  pub verdict_both : {A B X Y : Type 0} (s : Shape limits A X) (t : Shape limits B Y) (R : Reader limits X) (S : X → Result Y RuleFault) (L M F : Part) (last : ℕ) (tokens : List Token)
      → EndsLine tokens → Verdict s R L (M ⨾ F) last tokens (R tokens)
      → ((x : A) (rest : List Token) → R tokens ≡ Ok (s x rest) → EndsLine rest → Verdict t (λ ts. S (s x ts)) M F last rest (S (s x rest)))
      → Verdict t (λ ts. R ts >>= S) (L ⨾ M) F last tokens (R tokens >>= S)
  verdict_both {A} {B} {X} {Y} s t R S L M F last tokens ends one two = by (R tokens) refl one
    where
      by : (r : Result X RuleFault) → R tokens ≡ r → Verdict s R L (M ⨾ F) last tokens r → Verdict t (λ ts. R ts >>= S) (L ⨾ M) F last tokens (r >>= S)
      by (Err e) is (inl w) = inl (record {
        number = w.number;
        front = w.front;
        behind = w.behind;
        there = w.there;
        begins = completes_first L M F (Line w.number ∷ w.front) w.begins;
        refused = λ more alike. let f = w.refused more alike in (f.0, rw f.1 refl);
        here = w.here;
        says = says_wider limits (openings_on_line w.front) (openings_on_line w.front) (omega arith) (GoesOn L (M ⨾ F) w.number w.front) (GoesOn (L ⨾ M) F w.number w.front) (λ token. completes_first L M F (Line w.number ∷ w.front ++ token ∷ [])) w.behind
            (λ word rest is_word. lack_wider limits [] w.front w.front word refl (λ n noun is_noun more. let f = n noun is_noun more in (f.0, rw f.1 refl))) e.kind w.says;
        new = w.new;
      })
      by (Err e) is (inr m) = inr (record { begins = λ number. completes_first L M F (tokens ++ Line number ∷ []) (m.begins number); here = m.here; says = m.says })
      by (Ok x) is o = behind (S x) (subst (λ (y : X). Verdict t (λ ts. S (s o.value ts)) M F last o.rest (S y)) (sym o.is) (two o.value o.rest (is ∙ ap Ok o.is) o.ends))
        where
          -- what the first parser reads is the same with other tokens behind, where the second one's first token is
          kept : (number : ℕ) (a b : List Token) → o.rest ≡ Line number ∷ a → Akin a b → (R (o.own ++ Line number ∷ b) >>= S) ≡ S (s o.value (Line number ∷ b))
          kept number a b there alike = rw (o.kept number a b there alike) refl

          read : (own rest : List Token) (y : B) → o.rest ≡ own ++ rest → ((number : ℕ) (a b : List Token) → rest ≡ Line number ∷ a → Akin a b → S (s o.value (own ++ Line number ∷ b)) ≡ Ok (t y (Line number ∷ b)))
              → (number : ℕ) (a b : List Token) → rest ≡ Line number ∷ a → Akin a b → (R ((o.own ++ own) ++ Line number ∷ b) >>= S) ≡ Ok (t y (Line number ∷ b))
          read [] rest y there h number a b is_rest alike = rw (append-nil o.own) (kept number a b (there ∙ is_rest) alike ∙ h number a b is_rest alike)
          read (token ∷ own) rest y there h number a b is_rest alike =
              let start = starts_line token own rest (subst EndsLine there o.ends) in
              let as_line : o.rest ≡ Line start.0 ∷ (own ++ Line number ∷ a) = there ∙ ap (λ (ts : List Token). token ∷ own ++ ts) is_rest ∙ ap (λ (u : Token). u ∷ own ++ Line number ∷ a) start.1 in
              ap (λ (ts : List Token). R ts >>= S) (led_both o.own own (Line number ∷ b) token (Line start.0) start.1) ∙ kept start.0 (own ++ Line number ∷ a) (own ++ Line number ∷ b) as_line (akin_behind own (Line number ∷ a) (Line number ∷ b) (same_next (Line number) a b))
              ∙ ap (λ (u : Token). S (s o.value (u ∷ own ++ Line number ∷ b))) (sym start.1) ∙ h number a b is_rest alike

          behind : (q : Result Y RuleFault) → Verdict t (λ ts. S (s o.value ts)) M F last o.rest q → Verdict t (λ ts. R ts >>= S) (L ⨾ M) F last tokens q
          behind (Ok y) p = record {
            value = p.value;
            own = o.own ++ p.own;
            rest = p.rest;
            is_own = (o.own, p.own, o.is_own, p.is_own, refl);
            there = o.there ∙ ap (λ (ts : List Token). o.own ++ ts) p.there ∙ sym (append_assoc o.own p.own p.rest);
            ends = p.ends;
            is = p.is;
            kept = read p.own p.rest p.value p.there p.kept;
          }
          behind (Err e) (inl w) = inl (by_own o.own refl)
            where
              failed : (more : List Token) → Alike w.behind more → IsErr limits (R (o.own ++ Line w.number ∷ (w.front ++ more)) >>= S)
              failed more alike =
                  let f = w.refused more alike in
                  (f.0, kept w.number (w.front ++ w.behind) (w.front ++ more) w.there (akin_behind w.front w.behind more (akin alike)) ∙ f.1)

              no_noun : (word : List ℕ) (rest : List Token) → w.behind ≡ Word word ∷ rest → NoNoun limits (λ ts. S (s o.value (Line w.number ∷ ts))) w.front → (noun : List ℕ) → IsNoun noun → (more : List Token) → IsErr limits (R (o.own ++ Line w.number ∷ (w.front ++ Word noun ∷ more)) >>= S)
              no_noun word rest is_word n noun is_noun more =
                  let f = n noun is_noun more in
                  (f.0, kept w.number (w.front ++ w.behind) (w.front ++ Word noun ∷ more) w.there (akin_noun w.front w.behind word rest is_word noun is_noun more) ∙ f.1)

              begun : Completes (L ⨾ M) F (o.own ++ Line w.number ∷ w.front)
              begun = completes_second L M F o.own (Line w.number ∷ w.front) o.is_own w.begins

              goes_on : (token : Token) → GoesOn M F w.number w.front token → Completes (L ⨾ M) F (o.own ++ Line w.number ∷ (w.front ++ token ∷ []))
              goes_on token = completes_second L M F o.own (Line w.number ∷ (w.front ++ token ∷ [])) o.is_own

              all : tokens ≡ o.own ++ Line w.number ∷ (w.front ++ w.behind)
              all = o.there ∙ ap (λ (ts : List Token). o.own ++ ts) w.there

              by_own : (own : List Token) → o.own ≡ own → Within (λ ts. R ts >>= S) (L ⨾ M) F tokens e
              by_own [] none = record {
                number = w.number;
                front = w.front;
                behind = w.behind;
                there = all ∙ ap (λ (ts : List Token). ts ++ Line w.number ∷ (w.front ++ w.behind)) none;
                begins = subst (λ (ts : List Token). Completes (L ⨾ M) F (ts ++ Line w.number ∷ w.front)) none begun;
                refused = λ more alike. subst (λ (ts : List Token). IsErr limits (R (ts ++ Line w.number ∷ (w.front ++ more)) >>= S)) none (failed more alike);
                here = w.here;
                says = says_wider limits (openings_on_line w.front) (openings_on_line w.front) (omega arith) (GoesOn M F w.number w.front) (GoesOn (L ⨾ M) F w.number w.front)
                    (λ token is. subst (λ (ts : List Token). Completes (L ⨾ M) F (ts ++ Line w.number ∷ (w.front ++ token ∷ []))) none (goes_on token is)) w.behind
                    (λ word rest is_word. lack_wider limits [] w.front w.front word refl (λ n noun is_noun more. subst (λ (ts : List Token). IsErr limits (R (ts ++ Line w.number ∷ (w.front ++ Word noun ∷ more)) >>= S)) none (no_noun word rest is_word n noun is_noun more))) e.kind w.says;
                new = w.new;
              }
              by_own (token ∷ own) is_own =
                  let start = starts_line token own o.rest (subst EndsLine (o.there ∙ ap (λ (ts : List Token). ts ++ o.rest) is_own) ends) in
                  let as_line : o.own ≡ Line start.0 ∷ own = is_own ∙ ap (λ (u : Token). u ∷ own) start.1 in
                  record {
                    number = start.0;
                    front = own ++ Line w.number ∷ w.front;
                    behind = w.behind;
                    there = all ∙ ap (λ (ts : List Token). ts ++ Line w.number ∷ (w.front ++ w.behind)) as_line ∙ ap (λ (ts : List Token). Line start.0 ∷ ts) (sym (append_assoc own (Line w.number ∷ w.front) w.behind));
                    begins = subst (λ (ts : List Token). Completes (L ⨾ M) F (ts ++ Line w.number ∷ w.front)) as_line begun;
                    refused = λ more alike.
                        subst (λ (ts : List Token). IsErr limits (R (Line start.0 ∷ ts) >>= S)) (sym (append_assoc own (Line w.number ∷ w.front) more))
                        (subst (λ (ts : List Token). IsErr limits (R (ts ++ Line w.number ∷ (w.front ++ more)) >>= S)) as_line (failed more alike));
                    here = w.here ∙ sym (line_of_both own w.front start.0 w.number);
                    says = says_wider limits (openings_on_line w.front) (openings_on_line (own ++ Line w.number ∷ w.front)) (let same_line = on_new_line own w.front 0 w.number in omega (arith, same_line)) (GoesOn M F w.number w.front) (GoesOn (L ⨾ M) F start.0 (own ++ Line w.number ∷ w.front))
                        (λ token is.
                        subst (λ (ts : List Token). Completes (L ⨾ M) F (Line start.0 ∷ ts)) (sym (append_assoc own (Line w.number ∷ w.front) (token ∷ [])))
                        (subst (λ (ts : List Token). Completes (L ⨾ M) F (ts ++ Line w.number ∷ (w.front ++ token ∷ []))) as_line (goes_on token is))) w.behind
                        (λ word rest is_word. lack_wider limits (own ++ Line w.number ∷ []) w.front (own ++ Line w.number ∷ w.front) word (sym (append_assoc own (Line w.number ∷ []) w.front)) (λ n noun is_noun more.
                        subst (λ (ts : List Token). IsErr limits (R (Line start.0 ∷ ts) >>= S)) (sym (append_assoc own (Line w.number ∷ w.front) (Word noun ∷ more)))
                        (subst (λ (ts : List Token). IsErr limits (R (ts ++ Line w.number ∷ (w.front ++ Word noun ∷ more)) >>= S)) as_line (no_noun word rest is_word n noun is_noun more)))) e.kind w.says;
                    new = new_on_line own w.number w.front e.kind w.new;
                  }
          behind (Err e) (inr m) = inr (record {
            begins = λ number. subst (Completes (L ⨾ M) F) (sym (ap (λ (ts : List Token). ts ++ Line number ∷ []) o.there ∙ append_assoc o.own o.rest (Line number ∷ []))) (completes_second L M F o.own (o.rest ++ Line number ∷ []) o.is_own (m.begins number));
            here = m.here;
            says = m.says;
          })

  -- ---- a parser of one line

  -- behind a line's number the parser of that line reads, to its end
  pub on_a_line : {A X : Type 0} (shape : Shape limits A X) (R : Reader limits X) (L F : Part) (last number : ℕ) (tokens : List Token) → (more : List Token) × F more
      → ((x : A) (rest : List Token) → R (Line number ∷ tokens) ≡ Ok (shape x rest) → EndsLine rest)
      → Outcome limits shape (λ ts. R (Line number ∷ ts)) (Spelled limits (λ own. L (Line number ∷ own)) {A = A}) number tokens (R (Line number ∷ tokens)) → Verdict shape R L F last (Line number ∷ tokens) (R (Line number ∷ tokens))
  on_a_line {A} {X} shape R L F last number tokens sample ends o = by (R (Line number ∷ tokens)) refl o
    where
      by : (r : Result X RuleFault) → R (Line number ∷ tokens) ≡ r → Outcome limits shape (λ ts. R (Line number ∷ ts)) (Spelled limits (λ own. L (Line number ∷ own)) {A = A}) number tokens r → Verdict shape R L F last (Line number ∷ tokens) r
      by (Ok x) is o = record {
        value = o.value;
        own = Line number ∷ o.own;
        rest = o.rest;
        is_own = o.is_own;
        there = ap (λ (ts : List Token). Line number ∷ ts) o.there;
        ends = ends o.value o.rest (is ∙ ap Ok o.is);
        is = o.is;
        kept = λ n a b there alike. o.kept (Line n ∷ b) (subst (λ (ts : List Token). Akin ts (Line n ∷ b)) (sym there) (same_next (Line n) a b));
      }
      by (Err e) is o = inl (record {
        number = number;
        front = o.front;
        behind = o.behind;
        there = ap (λ (ts : List Token). Line number ∷ ts) o.there;
        begins = completed o.front o.begins;
        refused = o.refused;
        here = o.here ∙ sym (ap (line_behind number) (sym (append-nil o.front)) ∙ o.inline number [] ∙ nothing_behind number);
        says = says_wider limits (opened o.front) (openings_on_line o.front) (let same_line = on_one_line o.front 0 o.inline in omega (arith, same_line)) (Takes limits (Spelled limits (λ own. L (Line number ∷ own)) {A = A}) o.front) (GoesOn L F number o.front) (λ token. completed (o.front ++ token ∷ [])) o.behind (λ word rest is_word n. n) e.kind o.says;
        new = o.new;
      })
        where
          completed : (front : List Token) → Begins limits (Spelled limits (λ own. L (Line number ∷ own)) {A = A}) front → Completes L F (Line number ∷ front)
          completed front b = (b.1 ++ sample.0, (Line number ∷ front ++ b.1, sample.0, b.2, sample.1, ap (λ (ts : List Token). Line number ∷ ts) (sym (append_assoc front b.1 sample.0))))

          nothing_behind : (n : ℕ) → line_behind n [] ≡ n
          nothing_behind n = Rattle.rule_viable_prefixes.proofs.Outcomes.none_behind limits n

  -- what spells more
  pub verdict_wider : {A X : Type 0} (shape : Shape limits A X) (R : Reader limits X) (L N F : Part) (last : ℕ) (tokens : List Token) → ((own : List Token) → L own → N own) → (r : Result X RuleFault) → Verdict shape R L F last tokens r → Verdict shape R N F last tokens r
  verdict_wider shape R L N F last tokens f (Ok x) o = record { value = o.value; own = o.own; rest = o.rest; is_own = f o.own o.is_own; there = o.there; ends = o.ends; is = o.is; kept = o.kept }
  verdict_wider shape R L N F last tokens f (Err e) (inl w) = inl (record {
    number = w.number;
    front = w.front;
    behind = w.behind;
    there = w.there;
    begins = let c = w.begins in (c.0, (c.1.0, c.1.1, f c.1.0 c.1.2, c.1.3, c.1.4));
    refused = w.refused;
    here = w.here;
    says = says_wider limits (openings_on_line w.front) (openings_on_line w.front) (omega arith) (GoesOn L F w.number w.front) (GoesOn N F w.number w.front) (λ token c. (c.0, (c.1.0, c.1.1, f c.1.0 c.1.2, c.1.3, c.1.4))) w.behind (λ word rest is_word n. n) e.kind w.says;
    new = w.new;
  })
  verdict_wider shape R L N F last tokens f (Err e) (inr m) = inr (record { begins = λ number. let c = m.begins number in (c.0, (c.1.0, c.1.1, f c.1.0 c.1.2, c.1.3, c.1.4)); here = m.here; says = m.says })
