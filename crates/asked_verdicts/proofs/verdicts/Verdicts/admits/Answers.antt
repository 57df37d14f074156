use Rattle.asked_verdicts.proofs.Common.{◌≡◌, ℕ, ◌<◌, true, List, [], ◌∷◌, length, map, Some, refl, sym, ap, subst, ◌∙◌, arith, slice_get, IfSome, length-map, slice_get_within, some_at, Row, Verdicts, Pair, pair_in, pair_of, Asks, IsUnrefutedBy, IsUnrefutedIn, Key, log_of, pair_of_key, StoredLogs}
use Rattle.asked_verdicts.proofs.Storing.{key_eq}
use Rattle.asked_verdicts.proofs.Keeping.{stored, lacked, had, asked_found, asked_new, answered, on_err, taken_out}
use Rattle.asked_verdicts.proofs.verdicts.Verdicts.admits.Goals as goal
use Rattle.asked_verdicts.proofs.verdicts.Verdicts.admits.Goals.{After-as_slice, then-is_new+in_ok-decide_last, else-is_new}

abbrev key_of : (c : After-as_slice) → Key
key_of c = (c.args.asking.now.rule, c.in_ok-widths_of.field-0)

same_pair : (c : After-as_slice) → pair_of_key (key_of c) ≡ pair_of c.args.asking.now
same_pair c = ap (λ (l : List ℕ). (c.args.asking.now.rule, l)) c.in_ok-widths_of.ensures

same_keys : (c : After-as_slice) → c.if-is_new.self.pairs.keys ≡ c.insert_full.new.self.keys
same_keys c = elim c.if-is_new.branch [
  | then-is_new+in_ok-decide_last w ↦ ap (λ (v : Verdicts). v.pairs.keys) w.self-is ∙ w.in_ok-decide_last.ensures.pairs
  | else-is_new w ↦ ap (λ (v : Verdicts). v.pairs.keys) w.self-is
]

unrefuted_row : (logs : StoredLogs) (row : Row) (pair : Pair) → pair_in row ≡ pair → IfSome (log_of logs pair) (λ log. IsUnrefutedBy log row.verdict) → IsUnrefutedIn logs row
unrefuted_row logs row pair is unrefuted = subst (λ (p : Pair). IfSome (log_of logs p) (λ log. IsUnrefutedBy log row.verdict)) (sym is) unrefuted

asked : (c : After-as_slice) → Asks c.args.rules.now c.args.conflicts (pair_of c.args.asking.now ∷ []) c.args.self.now c.if-is_new.self
asked c =
    let rules = c.args.rules.now in
    let conflicts = c.args.conflicts in
    let old = c.args.self.now in
    let new = c.if-is_new.self in
    let keys = same_keys c ∙ c.in_ok-place.ensures.keys in
    subst (λ (p : Pair). Asks rules conflicts (p ∷ []) old new) (same_pair c)
    (elim c.if-is_new.branch [
      | then-is_new+in_ok-decide_last w ↦
          let (row, is, pair, honest, unrefuted) = w.in_ok-decide_last.ensures.row in
          asked_new rules conflicts old new (key_of c) row (ap (λ (v : Verdicts). v.table) w.self-is ∙ is) (ap (λ (v : Verdicts). v.logs) w.self-is ∙ w.in_ok-decide_last.ensures.logs) keys (lacked _ _ c.in_ok-place.ensures.added w.if-is_new.true)
          (pair ∙ sym (same_pair c)) honest (unrefuted_row c.args.self.now.logs row (pair_of c.args.asking.now) pair unrefuted)
      | else-is_new w ↦ asked_found rules conflicts old new (key_of c) (ap (λ (v : Verdicts). v.table) w.self-is) (ap (λ (v : Verdicts). v.logs) w.self-is) keys (had _ _ c.in_ok-place.ensures.added w.if-is_new.false)
    ])

pair_there : (c : After-as_slice) → slice_get (map pair_in c.if-is_new.self.table) c.in_ok-place.place ≡ Some (pair_of c.args.asking.now)
pair_there c =
    let place = c.in_ok-place.place in
    let before = c.requires.verdicts in
    let after = (asked c).asked before.0 before.1 in
    let there = subst (λ (keys : List Key). (key : Key) × (slice_get keys place ≡ Some key) × (key_eq (key_of c) key ≡ true)) (sym (same_keys c)) c.in_ok-place.ensures.stored in
    stored (key_of c) c.if-is_new.self.pairs.keys c.if-is_new.self.table place after.pairs there ∙ ap Some (same_pair c)

within_table : (c : After-as_slice) → c.in_ok-place.place < length c.if-is_new.self.table
within_table c =
    let table = c.if-is_new.self.table in
    omega (arith, slice_get_within (map pair_in table) c.in_ok-place.place (pair_of c.args.asking.now) (pair_there c), length-map table pair_in)

pub is_admitted_at-requires : goal.is_admitted_at-requires
is_admitted_at-requires c = (let d = (goal.at.is_admitted_at-requires c).After-as_slice in omega (arith, within_table d, ap length c.as_slice.ensures))

pub returns-clause-asks : goal.returns-clause-asks
returns-clause-asks c = asked (goal.at.returns-clause-asks c).After-as_slice

pub returns-clause-answer : goal.returns-clause-answer
returns-clause-answer c =
    let d = (goal.at.returns-clause-answer c).After-as_slice in
    let table = c.if-is_new.self.table in
    let place = c.in_ok-place.place in
    let row = some_at table place (within_table d) in
    answered table place row.0 (pair_of c.args.asking.now) c.is_admitted_at.result (pair_there d) row.1
    (c.is_admitted_at.ensures row.0 (subst (λ (l : List Row). slice_get l place ≡ Some row.0) (sym c.as_slice.ensures) row.1))

pub returns-in_err-decide_last-clause-refused : goal.returns-in_err-decide_last-clause-refused
returns-in_err-decide_last-clause-refused c =
    on_err c.from_residual-in_err-decide_last.result _ (record {
      table = c.in_err-decide_last.ensures.table;
      pairs = c.in_err-decide_last.ensures.taken_out
          ∙ taken_out c.args.self.now.table c.args.self.now.pairs.keys (c.args.asking.now.rule, c.in_ok-widths_of.field-0) c.insert_full.new.self.keys c.requires.verdicts.1.pairs (lacked _ _ c.in_ok-place.ensures.added c.if-is_new.true) c.in_ok-place.ensures.keys;
      logs = c.in_err-decide_last.ensures.logs;
    })

pub returns-in_err-place-clause-refused : goal.returns-in_err-place-clause-refused
returns-in_err-place-clause-refused c = on_err c.from_residual-in_err-place.result _ (record { table = refl; pairs = c.in_err-place.ensures.err; logs = refl })
