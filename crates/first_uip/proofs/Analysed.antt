-- What conflict analysis shows.
use Rattle.first_uip.proofs.Common.{◌≡◌, ℕ, zero, suc, ◌+◌, ◌<◌, ◌≤◌, Bool, true, false, cond, List, [], ◌∷◌, ◌++◌, Option, Some, None, length, take, set, get_or, refl, sym, ap, ◌∙◌, arith, inl, inr, subst, slice_get, remove, ◌⊎◌, cases_order, cases_lt, or_cases, or_left, or_right, true≢false, get_or-set_same, get_or-set_other, Cnf, Step, Lit, negation_of, is_same, IsVariable, IsWithin, HintsRefute, NamesFalse, is_held, is_false, negations_of, StepFollows, IsNew, clauses_with, is_same-self, is_same-true, negation-negation, falsified_each, held_at_place, HeldWithin, IsClosed, IsNew-from_closed, Entry, literals, reasons, IsOpen, EachFresh, some_same, slice_get_below, slice_get_last, slice_get_take, slice_get_in_take, take_take_below, Consistent, both_held, held_left, held_last, held_cases, held_one_same, not_held_nil, literal_at, HeldWithin-take, open_within, open_not_false, remove_last, kept_literal, EachForced, Role, Unseen, Kept, role_of, part_of, is_seen, is_kept, kept_entries, resolved_entries, IsResolution, Sees, NoneSeen, SameKeptFrom, IsAnalysis, IsJump, IsAsserting, IsOther}
use Rattle.first_uip.proofs.RoleLemmas.{IsResolution-keep, IsResolution-unseen, other_entry}
use Rattle.first_uip.proofs.Resolved.{held_place, kept_refuted}

-- A conflict rests on some entry of the last level: all levels before it are closed under unit propagation.
pub last_level_seen : (clauses : List (List Lit)) (entries : List Entry) (start conflict : ℕ) (clause : List Lit) (old roles : List Role) → slice_get clauses conflict ≡ Some clause → NamesFalse clauses (literals entries) conflict → IsClosed clauses (literals (take start entries)) → Sees clause old roles → NoneSeen entries roles start (length entries) → ⊥
last_level_seen clauses entries start conflict clause old roles at (named, there, none) closed sees unseen =
    let same : named ≡ clause = some_same named clause (sym there ∙ at) in
    let (l, stands, free) = kept_literal (literals (take start entries)) clause (closed.none_false conflict clause at) in
    let closed_now : is_false (literals entries) l ≡ true = falsified_each (literals entries) named l none (ap (λ ls. is_held ls l) same ∙ stands) in
    let (place, e, here, is) = held_place entries (negation_of l) closed_now in
    let seen : is_seen (part_of roles e) ≡ true = ap (λ (m : Lit). is_seen (role_of roles m.variable)) is ∙ sees.all l stands in
    elim (cases_lt place start) [
      | inl before ↦
          both_held (literals (take start entries)) (negation_of l)
          (sym (ap (is_held (literals (take start entries))) is) ∙ literal_at (take start entries) place e (slice_get_in_take start entries place e here before)) free
      | inr later ↦ true≢false (sym seen ∙ unseen place e later (slice_get_below entries place e here) here)
    ]

-- The first implication point is kept: no earlier entry of its level is seen, so the whole level is resolved but for
-- the point.
pub point_kept : (clauses : List (List Lit)) (values : List (Option Bool)) (entries : List Entry) (roles : List Role) (conflict start point : ℕ) (e : Entry) → EachFresh values entries → slice_get entries point ≡ Some e → e.literal.variable < length roles → start ≤ point → NoneSeen entries roles start point → IsResolution clauses entries conflict (point + 1) roles → IsResolution clauses entries conflict start (set roles e.literal.variable Kept)
point_kept clauses values entries roles conflict start point e fresh at room first none so_far =
    let v = e.literal.variable in
    let new = set roles v Kept in
    IsResolution-unseen clauses entries conflict start point new
    (λ k f from below there.
    let differ : f.literal.variable ≡ v → ⊥ = λ q. other_entry values entries k point f e fresh there at below q in
    ap is_seen (get_or-set_other roles v f.literal.variable Kept Unseen differ) ∙ none k f from below there)
    (IsResolution-keep clauses values entries conflict point e roles fresh at room so_far)

pub IsAnalysis-from : (clauses : List (List Lit)) (values : List (Option Bool)) (entries : List Entry) (before new : List Role) (conflict start point : ℕ) (e : Entry) → EachFresh values entries → slice_get entries point ≡ Some e → e.literal.variable < length before → start ≤ point → ((n : ℕ) → is_kept (role_of before n) ≡ false) → SameKeptFrom entries (set before e.literal.variable Kept) new start → IsResolution clauses entries conflict 0 new → IsAnalysis clauses entries new conflict start point
IsAnalysis-from clauses values entries before new conflict start point e fresh at room first none same resolution =
    let v = e.literal.variable in
    let mid = set before v Kept in
    record {
      resolution = resolution;
      entry = e;
      at = at;
      first = first;
      kept = same point e first at ∙ ap is_kept (get_or-set_same before v Kept Unseen room);
      only = λ k f from there kept.
          let kept_before : is_kept (part_of mid f) ≡ true = sym (same k f from there) ∙ kept in
          let unkept : (f.literal.variable ≡ v → ⊥) → ⊥ =
          λ differ. true≢false (sym kept_before ∙ ap is_kept (get_or-set_other before v f.literal.variable Kept Unseen differ) ∙ none f.literal.variable) in
          elim (cases_order k point) [
            | inl is ↦ is
            | inr (inl less) ↦ absurd (unkept (λ q. other_entry values entries k point f e fresh there at less q))
            | inr (inr more) ↦ absurd (unkept (λ q. other_entry values entries point k e f fresh at there more (sym q)))
          ];
    }

-- what some entries hold, these with one more before them hold too
keep_one : (b : Bool) (e : Entry) (es : List Entry) (l : Lit) → is_held (literals es) l ≡ true → is_held (literals (cond b (e ∷ es) es)) l ≡ true
keep_one true e es l h = or_right (is_same l e.literal) (is_held (literals es) l) h
keep_one false e es l h = h

keep_here : (b : Bool) (e : Entry) (es : List Entry) → b ≡ true → is_held (literals (cond b (e ∷ es) es)) e.literal ≡ true
keep_here true e es is = or_left (is_same e.literal e.literal) (is_held (literals es) e.literal) (is_same-self e.literal)
keep_here false e es is = absurd (true≢false (sym is))

kept_held : (roles : List Role) (entries : List Entry) (k : ℕ) (e : Entry) → slice_get entries k ≡ Some e → is_kept (part_of roles e) ≡ true → is_held (literals (kept_entries roles entries)) e.literal ≡ true
kept_held roles [] k e at kept = cc
kept_held roles (f ∷ fs) zero e at kept =
    let same : f ≡ e = cc in
    ap (is_held (literals (kept_entries roles (f ∷ fs)))) (ap (λ (g : Entry). g.literal) (sym same))
    ∙ keep_here (is_kept (part_of roles f)) f (kept_entries roles fs) (ap (λ (g : Entry). is_kept (part_of roles g)) same ∙ kept)
kept_held roles (f ∷ fs) (suc k) e at kept = keep_one (is_kept (part_of roles f)) f (kept_entries roles fs) e.literal (kept_held roles fs k e at kept)

-- the literal of a kept entry among these
abbrev KeptAmong : List Role → List Entry → Lit → Type 0
KeptAmong roles entries l = (k : ℕ) × (e : Entry) × (slice_get entries k ≡ Some e) × (is_kept (part_of roles e) ≡ true) × (e.literal ≡ l)

kept_by_part : (roles : List Role) (f : Entry) (fs : List Entry) (l : Lit) (b : Bool) → is_kept (part_of roles f) ≡ b → (is_held (literals (kept_entries roles fs)) l ≡ true → KeptAmong roles fs l) → is_held (literals (cond b (f ∷ kept_entries roles fs) (kept_entries roles fs))) l ≡ true → KeptAmong roles (f ∷ fs) l
kept_by_part roles f fs l true is later g =
    elim (or_cases (is_same l f.literal) (is_held (literals (kept_entries roles fs)) l) g) [
      | inl same ↦ (0, f, refl, is, sym (is_same-true l f.literal same))
      | inr rest ↦ let (k, e, at, kept, same) = later rest in (suc k, e, at, kept, same)
    ]
kept_by_part roles f fs l false is later g = let (k, e, at, kept, same) = later g in (suc k, e, at, kept, same)

kept_place : (roles : List Role) (entries : List Entry) (l : Lit) → is_held (literals (kept_entries roles entries)) l ≡ true → KeptAmong roles entries l
kept_place roles [] l h = absurd (not_held_nil l h)
kept_place roles (f ∷ fs) l h = kept_by_part roles f fs l (is_kept (part_of roles f)) refl (kept_place roles fs l) h

negated_held : (xs : List Lit) (m : Lit) → is_held (negations_of xs) m ≡ true → is_held xs (negation_of m) ≡ true
negated_held [] m h = absurd (not_held_nil m h)
negated_held (x ∷ xs) m h =
    elim (or_cases (is_same m (negation_of x)) (is_held (negations_of xs) m) h) [
      | inl same ↦
          let is : negation_of m ≡ x = ap negation_of (is_same-true m (negation_of x) same) ∙ negation-negation x in
          or_left (is_same (negation_of m) x) (is_held xs (negation_of m)) (ap (λ y. is_same y x) is ∙ is_same-self x)
      | inr rest ↦ or_right (is_same (negation_of m) x) (is_held xs (negation_of m)) (negated_held xs m rest)
    ]

held_negated : (xs : List Lit) (m : Lit) → is_held xs m ≡ true → is_held (negations_of xs) (negation_of m) ≡ true
held_negated [] m h = absurd (not_held_nil m h)
held_negated (x ∷ xs) m h =
    elim (or_cases (is_same m x) (is_held xs m) h) [
      | inl same ↦
          or_left (is_same (negation_of m) (negation_of x)) (is_held (negations_of xs) (negation_of m))
          (ap (λ y. is_same (negation_of y) (negation_of x)) (is_same-true m x same) ∙ is_same-self (negation_of x))
      | inr rest ↦ or_right (is_same (negation_of m) (negation_of x)) (is_held (negations_of xs) (negation_of m)) (held_negated xs m rest)
    ]

twice_negated : (xs : List Lit) → negations_of (negations_of xs) ≡ xs
twice_negated [] = refl
twice_negated (x ∷ xs) = ap (λ ys. negation_of (negation_of x) ∷ ys) (twice_negated xs) ∙ ap (λ y. y ∷ xs) (negation-negation x)

not_nil : {X : Type 0} (xs : List X) (x : X) → xs ++ x ∷ [] ≡ [] → ⊥
not_nil [] x e = cc
not_nil (y ∷ ys) x e = cc

-- the learned clause: the negations of the kept entries before the last level, and then this literal
abbrev pub learned_clause : List Role → List Entry → ℕ → Lit → List Lit
learned_clause roles entries start u = negations_of (literals (kept_entries roles (take start entries))) ++ u ∷ []

pub learned_clause-not_empty : (roles : List Role) (entries : List Entry) (start : ℕ) (u : Lit) → learned_clause roles entries start u ≡ [] → ⊥
learned_clause-not_empty roles entries start u empty = not_nil (negations_of (literals (kept_entries roles (take start entries)))) u empty

module _ (set : Cnf) (log : List Step) (values : List (Option Bool)) (entries : List Entry) (roles : List Role) (conflict start point : ℕ) (fresh : EachFresh values entries) (ok : Consistent (literals entries)) (size : length values ≡ set.count + 1) (analysis : IsAnalysis (clauses_with set log) entries roles conflict start point) where
  abbrev pub e : Entry
  e = analysis.entry

  -- each literal of the learned clause is the negation of a kept entry's literal
  clause_literal : (m : Lit) → is_held (learned_clause roles entries start (negation_of e.literal)) m ≡ true → (k : ℕ) × (f : Entry) × (slice_get entries k ≡ Some f) × (is_kept (part_of roles f) ≡ true) × (m ≡ negation_of f.literal) × ((k < start) ⊎ (m ≡ negation_of e.literal))
  clause_literal m h =
      let first = take start entries in
      elim (held_cases (negations_of (literals (kept_entries roles first))) (negation_of e.literal ∷ []) m h) [
        | inl earlier ↦
            let (k, f, at, kept, is) = kept_place roles first (negation_of m) (negated_held (literals (kept_entries roles first)) m earlier) in
            let (there, below) = slice_get_take start entries k f at in
            (k, f, there, kept, sym (negation-negation m) ∙ ap negation_of (sym is), inl below)
        | inr last ↦
            let is = held_one_same (negation_of e.literal) m last in
            (point, e, analysis.at, analysis.kept, is, inr is)
      ]

  -- the negation of each kept entry's literal stands in the learned clause
  stands_in : (k : ℕ) (f : Entry) → slice_get entries k ≡ Some f → is_kept (part_of roles f) ≡ true → is_held (learned_clause roles entries start (negation_of e.literal)) (negation_of f.literal) ≡ true
  stands_in k f at kept =
      let first = take start entries in
      let others = negations_of (literals (kept_entries roles first)) in
      elim (cases_lt k start) [
        | inl before ↦
            held_left others (negation_of e.literal ∷ []) (negation_of f.literal)
            (held_negated (literals (kept_entries roles first)) f.literal (kept_held roles first k f (slice_get_in_take start entries k f at before) kept))
        | inr later ↦
            let same : e ≡ f = some_same e f (sym analysis.at ∙ ap (slice_get entries) (sym (analysis.only k f later at kept)) ∙ at) in
            ap (λ (g : Entry). is_held (others ++ negation_of e.literal ∷ []) (negation_of g.literal)) (sym same) ∙ held_last others (negation_of e.literal)
      ]

  entry_variable : (k : ℕ) (f : Entry) → slice_get entries k ≡ Some f → IsVariable set.count f.literal.variable
  entry_variable k f at = let h = fresh k f at in (h.0, omega (arith, h.1, size))

  clause_within : IsWithin set.count (learned_clause roles entries start (negation_of e.literal))
  clause_within i d inside =
      let clause = learned_clause roles entries start (negation_of e.literal) in
      let (k, f, at, kept, is, where_is) = clause_literal (get_or clause i d) (held_at_place clause i d inside) in
      subst (λ (m : Lit). IsVariable set.count m.variable) (sym is) (entry_variable k f at)

  negated : negations_of (learned_clause roles entries start (negation_of e.literal)) ≡ literals (kept_entries roles (take start entries)) ++ e.literal ∷ []
  negated = push_negated (literals (kept_entries roles (take start entries))) e.literal
    where
      push_negated : (xs : List Lit) (l : Lit) → negations_of (negations_of xs ++ negation_of l ∷ []) ≡ xs ++ l ∷ []
      push_negated [] l = ap (λ y. y ∷ []) (negation-negation l)
      push_negated (x ∷ xs) l = ap (λ ys. negation_of (negation_of x) ∷ ys) (push_negated xs l) ∙ ap (λ y. y ∷ (xs ++ l ∷ [])) (negation-negation x)

  -- the learned step follows by reverse unit propagation
  pub learned_follows : (hints : List ℕ) (step : Step) → EachForced (clauses_with set log) entries → NamesFalse (clauses_with set log) (literals entries) conflict → hints ≡ reasons (resolved_entries roles entries) ++ conflict ∷ [] → step.clause ≡ learned_clause roles entries start (negation_of e.literal) → step.hints ≡ hints → StepFollows set (clauses_with set log) step
  learned_follows hints step forced falsified hints_are clause_is hints_is =
      let cs = clauses_with set log in
      let first = take start entries in
      let others = literals (kept_entries roles first) in
      let given = others ++ e.literal ∷ [] in
      let given_kept : (k : ℕ) (f : Entry) → slice_get entries k ≡ Some f → is_kept (part_of roles f) ≡ true → is_held given f.literal ≡ true =
      λ k f at kept.
      elim (cases_lt k start) [
        | inl before ↦ held_left others (e.literal ∷ []) f.literal (kept_held roles first k f (slice_get_in_take start entries k f at before) kept)
        | inr later ↦
            let same : e ≡ f = some_same e f (sym analysis.at ∙ ap (slice_get entries) (sym (analysis.only k f later at kept)) ∙ at) in
            ap (λ (g : Entry). is_held given g.literal) (sym same) ∙ held_last others e.literal
      ] in
      let given_within : HeldWithin given (literals entries) =
      record {
        each = λ l h.
            elim (held_cases others (e.literal ∷ []) l h) [
              | inl earlier ↦
                  let (k, f, at, kept, is) = kept_place roles first l earlier in
                  let (there, below) = slice_get_take start entries k f at in
                  sym (ap (is_held (literals entries)) is) ∙ literal_at entries k f there
              | inr last ↦ ap (is_held (literals entries)) (held_one_same e.literal l last) ∙ literal_at entries point e analysis.at
            ];
      } in
      let refuted : HintsRefute cs given (reasons (resolved_entries roles entries) ++ conflict ∷ []) =
      kept_refuted cs entries roles given conflict forced ok analysis.resolution given_kept given_within falsified in (
        subst (IsWithin set.count) (sym clause_is) clause_within,
        subst (λ ns. HintsRefute cs (negations_of step.clause) ns) (sym (hints_is ∙ hints_are))
            (subst (λ ls. HintsRefute cs ls (reasons (resolved_entries roles entries) ++ conflict ∷ [])) (sym (ap negations_of clause_is ∙ negated)) refuted),
      )

  -- the learned clause is new, since the levels before the conflict's are closed under unit propagation
  pub learned_is_new : IsClosed (clauses_with set log) (literals (take start entries)) → IsNew (clauses_with set log) (learned_clause roles entries start (negation_of e.literal))
  learned_is_new closed =
      let first = take start entries in
      let all = literals first in
      let others = negations_of (literals (kept_entries roles first)) in
      let u = negation_of e.literal in
      let unset : IsOpen all e.literal.variable =
      open_within all (literals (take point entries)) e.literal.variable
      (subst (λ es. HeldWithin (literals es) (literals (take point entries))) (take_take_below start point entries analysis.first) (HeldWithin-take start (take point entries)))
      (fresh point e analysis.at).2 in
      let within : HeldWithin (negations_of (remove (others ++ u ∷ []) (length others))) all =
      record {
        each = λ l h.
            let kept : is_held (literals (kept_entries roles first)) l ≡ true =
            sym (ap (λ ls. is_held ls l) (ap negations_of (remove_last others u) ∙ twice_negated (literals (kept_entries roles first)))) ∙ h in
            let (k, f, at, is_in, is) = kept_place roles first l kept in
            sym (ap (is_held all) is) ∙ literal_at first k f at;
      } in
      IsNew-from_closed (clauses_with set log) all (others ++ u ∷ []) (length others) u closed (slice_get_last others u) within (open_not_false all e.literal unset)

  -- after the backjump the learned clause is unit
  pub learned_asserts : (place : ℕ) (below : Option ℕ) → IsJump entries roles start place below → IsAsserting entries place (learned_clause roles entries start (negation_of e.literal)) (negation_of e.literal)
  learned_asserts place below jump =
      let first = take place entries in
      record {
        decided = jump.decided;
        stands = held_last (negations_of (literals (kept_entries roles (take start entries)))) (negation_of e.literal);
        unset =
            open_within (literals first) (literals (take point entries)) e.literal.variable
            (subst (λ es. HeldWithin (literals es) (literals (take point entries))) (take_take_below place point entries (omega (arith, jump.within, analysis.first))) (HeldWithin-take place (take point entries)))
            (fresh point e analysis.at).2;
        others = λ m stands differ.
            let (k, f, at, kept, is, where_is) = clause_literal m stands in
            elim where_is [
              | inl before ↦
                  elim (cases_lt k place) [
                    | inl earlier ↦
                        ap (is_held (literals first)) (ap negation_of is ∙ negation-negation f.literal)
                        ∙ literal_at first k f (slice_get_in_take place entries k f at earlier)
                    | inr later ↦ absurd (true≢false (sym kept ∙ jump.none_kept k f later before at))
                  ]
              | inr same ↦ absurd (differ same)
            ];
      }

  -- where no entry below the backjump is kept, the learned clause has no second literal to watch
  pub none_other : (place : ℕ) → IsJump entries roles start place None → IsOther entries place (learned_clause roles entries start (negation_of e.literal)) (negation_of e.literal) None
  none_other place jump = (
    λ m stands.
        let (k, f, at, kept, is, where_is) = clause_literal m stands in
        elim where_is [
          | inl before ↦
              elim (cases_lt k place) [
                | inl earlier ↦ absurd (true≢false (sym kept ∙ jump.kept_below.0 k f (omega arith) earlier at))
                | inr later ↦ absurd (true≢false (sym kept ∙ jump.none_kept k f later before at))
              ]
          | inr same ↦ same
        ],
    jump.kept_below.1,
  )

  pub some_other : (place below : ℕ) (f : Entry) → IsJump entries roles start place (Some below) → slice_get entries below ≡ Some f → IsOther entries place (learned_clause roles entries start (negation_of e.literal)) (negation_of e.literal) (Some (negation_of f.literal))
  some_other place below f jump at =
      let (within, none, (g, there, kept)) = jump.kept_below in
      let same : g ≡ f = some_same g f (sym there ∙ at) in
      let kept_f : is_kept (part_of roles f) ≡ true = sym (ap (λ (h : Entry). is_kept (part_of roles h)) same) ∙ kept in
      let earlier : below < point = omega (arith, within, jump.within, analysis.first) in (
        stands_in below f at kept_f,
        λ q. other_entry values entries below point f e fresh at analysis.at earlier (ap (λ (l : Lit). l.variable) (sym q)),
        λ k before (d, found, decides).
            let up_to : k ≤ below =
            elim (cases_lt below k) [ inl after ↦ absurd (true≢false (sym decides ∙ none k d (omega arith) before found)) | inr up_to ↦ up_to ] in
            let unset : IsOpen (literals (take k entries)) f.literal.variable =
            open_within (literals (take k entries)) (literals (take below entries)) f.literal.variable
            (subst (λ es. HeldWithin (literals es) (literals (take below entries))) (take_take_below k below entries up_to) (HeldWithin-take k (take below entries)))
            (fresh below f at).2 in
            open_not_false (literals (take k entries)) (negation_of f.literal) unset,
      )
