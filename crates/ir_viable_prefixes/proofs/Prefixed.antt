-- A parser that reads some tokens first, and then does what another does.
use Rattle.ir_viable_prefixes.proofs.Common.{◌≡◌, ℕ, Bool, true, false, List, [], ◌∷◌, ◌++◌, Ok, Err, refl, sym, ap, subst, ◌∙◌, ◌⊎◌, inl, inr, append_assoc, append-nil, Token, Placed, KeptGroup, Word, Number, Function, Group, Mark, Fault, IrFaultKind, begins_record, ending_word, Read, Reader}
use Rattle.ir_viable_prefixes.proofs.FlagRuns.{IsLeft}
use Rattle.ir_viable_prefixes.proofs.Outcomes.{Again, Follow, Next, Anything, StopsBefore, Halts, Completes, CompletesBegun, Fit, FitsEnd, RefusesAt, RefusesEnd, Bad, a_truth, no_truth, NoValue, no_number, no_word, no_truth_value, no_group, no_quoted, InCall, of_callee, of_value, of_truth, Why, ReasonsIf, Reasons, New, IsRefused, OutcomeIf, repeats_behind, stands_behind}
use Rattle.ir_viable_prefixes.proofs.Reasons.{a_type, a_pred, a_group, Like, like_word, like_type, like_function, like_width, like_number, NoRecord, NoGroup, Maps, reason_map}

-- a token that is neither a mark nor a kept group, with which an item may go on or an argument may end
abbrev pub is_plain : Token → Bool
is_plain (KeptGroup group) = false
is_plain (Mark m) = false
is_plain t = true

like_plain : {W : Type 0} {t u : Token} → Like W t u → is_plain u ≡ true
like_plain (like_word w v other noun) = refl
like_plain (like_type m other width begins is) = refl
like_plain (like_function written other) = refl
like_plain (like_width w other width out is) = refl
like_plain (like_number digits other) = refl

-- The parser R reads these tokens first and then does what S does, both before the token that is next and before tokens
-- of Own. S refuses other tokens as its first.
pub record Prefixed {A : Type 0} (R S : Reader A) (F Own : Follow) (first : Placed) (others : List Placed) (next : Placed) (rest : List Placed) : Type 0 where
  pub agree : (more : List Placed) → R (first ∷ (others ++ next ∷ more)) ≡ S (next ∷ more)
  pub agree_own : (u : Token) → Own u → (more : List Placed) → R (first ∷ (others ++ (0, u) ∷ more)) ≡ S ((0, u) ∷ more)
  pub plain : (u : Token) → is_plain u ≡ true → Own u
  pub out : (u : Token) → Own u ⊎ RefusesAt S [] u
  pub nothing : (x : A × List Placed) → S (next ∷ rest) ≡ Ok x → x.1 ≡ next ∷ rest → (u : Token) → F u → Own u
  pub completes : Completes R F (first ∷ others)
  pub end : Token
  pub may_end : F end

abbrev the_read : {A : Type 0} → Read A → Read A
the_read r = r

module _ {A : Type 0} (R S : Reader A) (V : Type 0) (E F Own : Follow) (first : Placed) (others : List Placed) (next : Placed) (rest : List Placed) (h : Prefixed R S F Own first others next rest) where
  abbrev Behind : List Placed → List Placed
  Behind front = first ∷ (others ++ front)

  -- behind a token of its own
  begun : (v : Placed) (front tail : List Placed) → next ∷ rest ≡ v ∷ (front ++ tail) → (ts : List Placed) → R (Behind (v ∷ front) ++ ts) ≡ S (v ∷ (front ++ ts))
  begun v front tail there ts =
      let same : next ≡ v = cc in
      ap (λ (us : List Placed). R (first ∷ us)) (append_assoc others (v ∷ front) ts)
      ∙ subst (λ (w : Placed). R (first ∷ (others ++ w ∷ (front ++ ts))) ≡ S (w ∷ (front ++ ts))) same (h.agree (front ++ ts))

  own : (u : Token) → Own u → (more : List Placed) → R (Behind [] ++ (0, u) ∷ more) ≡ S ((0, u) ∷ more)
  own u o more = ap (λ (us : List Placed). R (first ∷ us)) (append_assoc others [] ((0, u) ∷ more)) ∙ h.agree_own u o more

  -- before the token that stands there
  at : (front : List Placed) (t : Placed) (tail : List Placed) → next ∷ rest ≡ front ++ t ∷ tail → (more : List Placed) → R (Behind front ++ t ∷ more) ≡ S (front ++ t ∷ more)
  at [] t tail there more =
      let same : next ≡ t = cc in
      ap (λ (us : List Placed). R (first ∷ us)) (append_assoc others [] (t ∷ more)) ∙ subst (λ (w : Placed). R (first ∷ (others ++ w ∷ more)) ≡ S (w ∷ more)) same (h.agree more)
  at (v ∷ front) t tail there more = begun v front (t ∷ tail) there (t ∷ more)

  -- before another on a line of its own
  moved : (front tail : List Placed) → next ∷ rest ≡ front ++ tail → (u : Token) → (front ≡ [] → Own u) → (more : List Placed) → R (Behind front ++ (0, u) ∷ more) ≡ S (front ++ (0, u) ∷ more)
  moved [] tail there u o more = own u (o refl) more
  moved (v ∷ front) tail there u o more = begun v front tail there ((0, u) ∷ more)

  -- ---- tokens that fit, and tokens that are refused

  none_own : (u : Token) (x : A) (more : List Placed) → RefusesAt S [] u → ((tokens : List Placed) → Next F tokens → S ((0, u) ∷ (more ++ tokens)) ≡ Ok (x, tokens)) → ⊥
  none_own u x more refused read =
      let r = refused (more ++ (0, h.end) ∷ []) in
      let both : the_read (Err r.0) ≡ Ok (x, (0, h.end) ∷ []) = sym r.1 ∙ read ((0, h.end) ∷ []) h.may_end in cc

  fits : (front tail : List Placed) → next ∷ rest ≡ front ++ tail → (u : Token) → Fit Anything S F front u → Fit E R F (Behind front) u
  fits [] tail there u (c, enters) = by (h.out u)
    where
      by : Own u ⊎ RefusesAt S [] u → Fit E R F (Behind []) u
      by (inl o) = ((c.0, c.1, λ ts n. own u o (c.1 ++ ts) ∙ c.2 ts n), λ none. absurd cc)
      by (inr refused) = absurd (none_own u c.0 c.1 refused c.2)
  fits (v ∷ front) tail there u (c, enters) = ((c.0, c.1, λ ts n. begun v front tail there ((0, u) ∷ (c.1 ++ ts)) ∙ c.2 ts n), λ none. absurd cc)

  fits_end : (front tail : List Placed) → next ∷ rest ≡ front ++ tail → (v : Token) → FitsEnd Anything S F front v → FitsEnd E R F (Behind front) v
  fits_end [] tail there v (c, enters) = by (h.out v)
    where
      by : Own v ⊎ RefusesAt S [] v → FitsEnd E R F (Behind []) v
      by (inl o) = ((c.0, c.1, λ ts n. let end = c.2 ts n in (own v o (c.1 ++ ts) ∙ end.0, end.1)), λ none. absurd cc)
      by (inr refused) = absurd (none_own v c.0 c.1 refused (λ ts n. (c.2 ts n).0))
  fits_end (w ∷ front) tail there v (c, enters) = ((c.0, c.1, λ ts n. let end = c.2 ts n in (begun w front tail there ((0, v) ∷ (c.1 ++ ts)) ∙ end.0, end.1)), λ none. absurd cc)

  bad : (front tail : List Placed) → next ∷ rest ≡ front ++ tail → (t u : Token) → Bad (Unit {0}) S front t u → Bad V R (Behind front) t u
  bad front tail there t u (refused, like) = (λ more. let r = refused more in (r.0, moved front tail there u (λ none. h.plain u (like_plain (like none))) more ∙ r.1), λ none. absurd cc)

  refuses_end : (front tail : List Placed) → next ∷ rest ≡ front ++ tail → (t v : Token) → RefusesEnd (Unit {0}) S front t v → RefusesEnd V R (Behind front) t v
  refuses_end front tail there t v (refused, like) =
      (λ end more ends. let r = refused end more ends in (r.0, moved front tail there v (λ none. h.plain v (like_plain (like none))) (end ∷ more) ∙ r.1), λ none. absurd cc)

  records : (front tail : List Placed) → next ∷ rest ≡ front ++ tail → NoRecord (Fit Anything S F front) (RefusesAt S front) → NoRecord (Fit E R F (Behind front)) (RefusesAt R (Behind front))
  records front tail there (inl fit) = inl (fits front tail there a_group fit)
  records front tail there (inr refused) = inr (λ ending more. let r = refused ending more in (r.0, moved front tail there (Word (ending_word ending)) (λ none. h.plain (Word (ending_word ending)) refl) more ∙ r.1))

  groups : (front tail : List Placed) → next ∷ rest ≡ front ++ tail → NoGroup (RefusesAt S front) → NoGroup (RefusesAt R (Behind front))
  groups front tail there refused text more = let r = refused text more in (r.0, moved front tail there (Group text) (λ none. h.plain (Group text) refl) more ∙ r.1)

  -- ---- reasons of refusals

  maps : (front tail : List Placed) → next ∷ rest ≡ front ++ tail → (t : Token)
      → Maps (Fit Anything S F front) (Fit E R F (Behind front)) (Bad (Unit {0}) S front) (Bad V R (Behind front)) (Again Anything S F front) (Again E R F (Behind front)) (RefusesAt S front) (RefusesAt R (Behind front)) t
  maps front tail there t = record {
    fits = λ u fit. fits front tail there u fit;
    bad = λ u b. bad front tail there t u b;
    repeats = λ w again. (repeats_behind (first ∷ others) front w again.0, go_on again.1);
    records = λ begins none. records front tail there none;
    groups = λ begins end none. groups front tail there none;
  }
    where
      go_on : Fit Anything S F front a_type ⊎ Fit Anything S F front a_pred → Fit E R F (Behind front) a_type ⊎ Fit E R F (Behind front) a_pred
      go_on (inl fit) = inl (fits front tail there a_type fit)
      go_on (inr fit) = inr (fits front tail there a_pred fit)

  no_value : (front : List Placed) (l : ℕ) {t : Token} (tail : List Placed) → next ∷ rest ≡ front ++ (l, t) ∷ tail → {kind : IrFaultKind} → NoValue (Unit {0}) Anything S F front t kind → NoValue V E R F (Behind front) t kind
  no_value front l tail there (no_number digits width out fit b) =
      no_number digits width out (λ other number is. fits_end front ((l, Number digits) ∷ tail) there (Number other) (fit other number is)) (λ other is. refuses_end front ((l, Number digits) ∷ tail) there (Number digits) (Number other) (b other is))
  no_value front l tail there (no_word w fit) = no_word w (fits_end front ((l, Word w) ∷ tail) there no_truth fit)
  no_value front l tail there (no_truth_value w b) = no_truth_value w (refuses_end front ((l, Word w) ∷ tail) there (Word w) no_truth b)
  no_value front l tail there (no_group text) = no_group text
  no_value front l tail there (no_quoted text) = no_quoted text

  not_empty : (front before : List Placed) (last : Placed) → front ≡ before ++ last ∷ [] → front ≡ [] → ⊥
  not_empty front [] last same none = let both : last ∷ [] ≡ [] = sym same ∙ none in cc
  not_empty front (u ∷ before) last same none = let both : u ∷ (before ++ last ∷ []) ≡ [] = sym same ∙ none in cc

  -- behind a front that is not empty
  behind : (front tail : List Placed) → next ∷ rest ≡ front ++ tail → (front ≡ [] → ⊥) → (ts : List Placed) → R (Behind front ++ ts) ≡ S (front ++ ts)
  behind [] tail there some ts = absurd (some refl)
  behind (v ∷ front) tail there some ts = begun v front tail there ts

  call : (front : List Placed) {t : Placed} (tail : List Placed) → next ∷ rest ≡ front ++ t ∷ tail → {found : Fault IrFaultKind} → InCall (Unit {0}) Anything S F front t found → InCall V E R F (Behind front) t found
  call front tail there (of_callee line at written one stands fit b) =
      of_callee line at written one (stands_behind (first ∷ others) front line stands) (fits front ((at, Function written) ∷ tail) there (Function one) fit)
      (λ other is. bad front ((at, Function written) ∷ tail) there (Function written) (Function other) (b other is))
  call front tail there (of_value before line last end kind same ends none item fit why) =
      let whole : next ∷ rest ≡ before ++ (line, last) ∷ (end ∷ tail) = there ∙ ap (λ (ts : List Placed). ts ++ end ∷ tail) same ∙ append_assoc before ((line, last) ∷ []) (end ∷ tail) in
      of_value (Behind before) line last end kind (ap Behind same ∙ ap (λ (ts : List Placed). first ∷ ts) (sym (append_assoc others before ((line, last) ∷ [])))) ends
      (λ other is more. let r = none other is more in (r.0, behind front (end ∷ tail) there (not_empty front before (line, last) same) (other ∷ more) ∙ r.1))
      (fits before ((line, last) ∷ (end ∷ tail)) whole a_group item) (fits_end before ((line, last) ∷ (end ∷ tail)) whole a_truth fit) (no_value before line (end ∷ tail) whole why)
  call front tail there (of_truth line w item fit b) =
      of_truth line w (fits front ((line, Word w) ∷ tail) there a_group item) (fits_end front ((line, Word w) ∷ tail) there a_truth fit) (refuses_end front ((line, Word w) ∷ tail) there (Word w) no_truth b)

  pub reasons_behind : (front : List Placed) (t : Placed) (tail : List Placed) → next ∷ rest ≡ front ++ t ∷ tail → (found : Fault IrFaultKind) → Reasons Anything S F front t found → ReasonsIf V E R F (Behind front) t found
  reasons_behind front t tail there found (inl (line, why)) = inl (line, reason_map _ _ _ _ _ _ _ _ t.1 (maps front (t ∷ tail) there t.1) found.kind why)
  reasons_behind front t tail there found (inr told) = inr (call front tail there told)

  -- ---- the outcome

  completes_behind : (front tail : List Placed) → next ∷ rest ≡ front ++ tail → CompletesBegun S F front → Completes R F (Behind front)
  completes_behind [] tail there c = subst (λ (ts : List Placed). Completes R F (first ∷ ts)) (sym (append-nil others)) h.completes
  completes_behind (v ∷ front) tail there c = (c.0, c.1, λ ts n. begun v front tail there (c.1 ++ ts) ∙ c.2 ts n)

  stops_behind : (front tail : List Placed) (x : A) → next ∷ rest ≡ front ++ tail → StopsBefore S front x tail → StopsBefore R (Behind front) x tail
  stops_behind front [] x there s = absurd s
  stops_behind front (t ∷ tail) x there s = λ more. at front t tail there more ∙ s more

  halts_moved : (front tail : List Placed) (x : A) → next ∷ rest ≡ front ++ tail → (u : Token) → (front ≡ [] → Own u) → Halts S front x u → Halts R (Behind front) x u
  halts_moved front tail x there u o halts more = by (halts more)
    where
      by : (S (front ++ (0, u) ∷ more) ≡ Ok (x, (0, u) ∷ more)) ⊎ ((e : Fault IrFaultKind) × (S (front ++ (0, u) ∷ more) ≡ Err e))
          → (R (Behind front ++ (0, u) ∷ more) ≡ Ok (x, (0, u) ∷ more)) ⊎ ((e : Fault IrFaultKind) × (R (Behind front ++ (0, u) ∷ more) ≡ Err e))
      by (inl read) = inl (moved front tail there u o more ∙ read)
      by (inr (e, failed)) = inr (e, moved front tail there u o more ∙ failed)

  halts_behind : (W : Type 0) (front tail : List Placed) (x : A) → next ∷ rest ≡ front ++ tail → Next (λ t. (u : Token) → Like W t u → Halts S front x u) tail → Next (λ t. (u : Token) → Like W t u → Halts R (Behind front) x u) tail
  halts_behind W front [] x there k = absurd k
  halts_behind W front ((l, t) ∷ tail) x there k = λ u like. halts_moved front ((l, t) ∷ tail) x there u (λ none. h.plain u (like_plain like)) (k u like)

  records_behind : (front tail : List Placed) (x : A) → next ∷ rest ≡ front ++ tail → Next (λ t. begins_record t ≡ true → NoRecord (Fit Anything S F front) (Halts S front x)) tail → Next (λ t. begins_record t ≡ true → NoRecord (Fit E R F (Behind front)) (Halts R (Behind front) x)) tail
  records_behind front [] x there k = absurd k
  records_behind front ((l, t) ∷ tail) x there k = λ begins. by (k begins)
    where
      by : NoRecord (Fit Anything S F front) (Halts S front x) → NoRecord (Fit E R F (Behind front)) (Halts R (Behind front) x)
      by (inl fit) = inl (fits front ((l, t) ∷ tail) there a_group fit)
      by (inr halts) = inr (λ ending. halts_moved front ((l, t) ∷ tail) x there (Word (ending_word ending)) (λ none. h.plain (Word (ending_word ending)) refl) (halts ending))

  groups_behind : (front tail : List Placed) (x : A) → next ∷ rest ≡ front ++ tail → Next (λ t. begins_record t ≡ true → NoGroup (Halts S front x)) tail → Next (λ t. begins_record t ≡ true → NoGroup (Halts R (Behind front) x)) tail
  groups_behind front [] x there k = absurd k
  groups_behind front ((l, t) ∷ tail) x there k = λ begins text. halts_moved front ((l, t) ∷ tail) x there (Group text) (λ none. h.plain (Group text) refl) (k begins text)

  empty : (front tail : List Placed) → next ∷ rest ≡ front ++ tail → front ≡ [] → tail ≡ next ∷ rest
  empty [] tail there none = sym there
  empty (v ∷ front) tail there none = absurd cc

  pub prefixed : (W : Type 0) (X Y : Why) → ((front : List Placed) (t : Placed) (tail : List Placed) → next ∷ rest ≡ front ++ t ∷ tail → (found : Fault IrFaultKind) → X front t found → Y (Behind front) t found)
      → ((found : Fault IrFaultKind) → S (next ∷ rest) ≡ Err found → (o : IsRefused (Unit {0}) S F X (next ∷ rest) found) → IsLeft found.kind → New V R (Behind o.front) o.token.1)
      → (r : Read A) → S (next ∷ rest) ≡ r → OutcomeIf (Unit {0}) Anything S F W X (next ∷ rest) r → OutcomeIf V E R F W Y (first ∷ (others ++ next ∷ rest)) r
  prefixed W X Y lift new (Ok x) is o = record {
    front = Behind o.front;
    there = ap (λ (ts : List Placed). first ∷ (others ++ ts)) o.there ∙ ap (λ (ts : List Placed). first ∷ ts) (sym (append_assoc others o.front x.1));
    ended = o.ended;
    stopped = stops_behind o.front x.1 x.0 o.there o.stopped;
    halts = halts_behind W o.front x.1 x.0 o.there o.halts;
    records = records_behind o.front x.1 x.0 o.there o.records;
    groups = λ end. groups_behind o.front x.1 x.0 o.there (o.groups end);
    follows = λ u f more. moved o.front x.1 o.there u (λ none. h.nothing x is (empty o.front x.1 o.there none) u f) more ∙ o.follows u f more;
    completes = completes_behind o.front x.1 o.there o.completes;
    nothing = λ none. absurd cc;
    words = λ none. absurd cc;
  }
  prefixed W X Y lift new (Err e) is o = record {
    front = Behind o.front;
    token = o.token;
    behind = o.behind;
    there = ap (λ (ts : List Placed). first ∷ (others ++ ts)) o.there ∙ ap (λ (ts : List Placed). first ∷ ts) (sym (append_assoc others o.front (o.token ∷ o.behind)));
    refused = λ more. let r = o.refused more in (r.0, at o.front o.token o.behind o.there more ∙ r.1);
    completes = completes_behind o.front (o.token ∷ o.behind) o.there o.completes;
    why = lift o.front o.token o.behind o.there e o.why;
    new = new e is o;
  }
