use Rattle.proof_reader.proofs.Common.{◌≡◌, ℕ, List, sym, subst, ap, ◌∙◌, refl, slice_get_within, same_Some, Rule, IsTyping, IsClassified, IsNamed, HasNameAt, unknown, badly_typed}
use Rattle.proof_reader.proofs.RuleNames.{read_at, same_rule}
use Rattle.proof_reader.proofs.reader.typed.Goals as goal

pub returns-in_default-clause-refused : goal.returns-in_default-clause-refused
returns-in_default-clause-refused c =
    let none : IsNamed c.args.rules.now c.args.proof.now.name → ⊥ = subst (λ (n : List ℕ). IsNamed c.args.rules.now n → ⊥) c.as_slice.ensures c.in_default.ensures in
    rw c.refused.ensures (λ earlier. record { bad = unknown none; line_is = refl })

pub bounds-rules-rule : goal.bounds-rules-rule
bounds-rules-rule c = slice_get_within c.args.rules.now c.in-Some.rule c.in-Some.ensures.0 c.in-Some.ensures.1

pub typing_of-requires : goal.typing_of-requires
typing_of-requires c =
    let within = slice_get_within c.args.rules.now c.in-Some.rule c.in-Some.ensures.0 c.in-Some.ensures.1 in
    subst IsClassified (sym c.index-rules-rule.is) (c.requires.classes c.in-Some.rule c.index-rules-rule.result within)

pub returns-in_default-2-clause-refused : goal.returns-in_default-2-clause-refused
returns-in_default-2-clause-refused c =
    let rules = c.args.rules.now in
    let place = c.in-Some.rule in
    let rule = c.index-rules-rule.result in
    let within = slice_get_within rules place c.in-Some.ensures.0 c.in-Some.ensures.1 in
    let named : HasNameAt rules place c.args.proof.now.name = subst (λ (n : List ℕ). HasNameAt rules place n) c.as_slice.ensures c.in-Some.ensures in
    let untyped = rw c.in_default-2.is at c.in_ok-typing.ensures in
    let at = read_at rules place rule within c.index-rules-rule.is in
    rw c.refused-in_default-2.ensures (λ earlier. record {
      bad = badly_typed (place, named) (λ other is typed.
          let same : named.0 ≡ other = same_rule rules c.args.proof.now place named.0 other c.requires.names named.1 named.2 is in
          let same' : other ≡ rule = sym same ∙ sym (let e = sym at ∙ named.1 in cc) in
          untyped (subst (λ (ws : List ℕ). IsTyping rule ws) (sym c.as_slice-2.ensures) (subst (λ (r : Rule). IsTyping r c.args.proof.now.widths) same' typed)));
      line_is = refl;
    })

pub returns-clause-ok : goal.returns-clause-ok
returns-clause-ok c =
    let rules = c.args.rules.now in
    let place = c.in-Some.rule in
    let rule = c.index-rules-rule.result in
    let within = slice_get_within rules place c.in-Some.ensures.0 c.in-Some.ensures.1 in
    let named : HasNameAt rules place c.args.proof.now.name = subst (λ (n : List ℕ). HasNameAt rules place n) c.as_slice.ensures c.in-Some.ensures in
    let typed = rw c.in-Some-2.is at c.in_ok-typing.ensures in
    let at = read_at rules place rule within c.index-rules-rule.is in
    let same : named.0 ≡ rule = same_Some named.0 rule (sym named.1 ∙ at) in
    record { rule = rule; is = at; named = ap (λ (r : Rule). r.name) (sym same) ∙ named.2; widths = typed.0 ∙ c.as_slice-2.ensures; typed = typed.1 }
