use Rattle.draft.proofs.Common.{◌≡◌, ◌∙◌, [], List, ap, get_or, sym, subst, Contains, get_or_default, Register, HasList, listed_for, Place, row_within}
use Rattle.draft.proofs.draft.Draft.readers_of.Goals as goal

pub returns-in-Parameter-clause-readers : goal.returns-in-Parameter-clause-readers
returns-in-Parameter-clause-readers c = λ p inside reads.
    let readers = c.args.self.now.readers in
    let k = c.in-Parameter.k in
    let has = subst (λ (r : Register). HasList readers r) c.in-Parameter.is (c.requires.whole.readers.there c.args.register c.requires.known) in
    let same : c.as_slice-in-Parameter.result.now ≡ listed_for readers c.args.register =
    c.as_slice-in-Parameter.ensures ∙ c.index-as_slice-k.is ∙ ap (λ (l : List (List Place)). get_or l k c.index-as_slice-k.result) c.as_slice.ensures
    ∙ get_or_default readers.parameters k c.index-as_slice-k.result [] has ∙ ap (listed_for readers) (sym c.in-Parameter.is) in
    subst (λ (l : List Place). Contains l p) (sym same) (c.requires.whole.readers.complete c.args.register p inside reads)

pub returns-in-Parameter-clause-places : goal.returns-in-Parameter-clause-places
returns-in-Parameter-clause-places c = λ p there.
    let readers = c.args.self.now.readers in
    let k = c.in-Parameter.k in
    let has = subst (λ (r : Register). HasList readers r) c.in-Parameter.is (c.requires.whole.readers.there c.args.register c.requires.known) in
    let same : c.as_slice-in-Parameter.result.now ≡ listed_for readers c.args.register =
    c.as_slice-in-Parameter.ensures ∙ c.index-as_slice-k.is ∙ ap (λ (l : List (List Place)). get_or l k c.index-as_slice-k.result) c.as_slice.ensures
    ∙ get_or_default readers.parameters k c.index-as_slice-k.result [] has ∙ ap (listed_for readers) (sym c.in-Parameter.is) in
    c.requires.whole.readers.places c.args.register p (subst (λ (l : List Place). Contains l p) same there)

pub returns-in-Result-clause-readers : goal.returns-in-Result-clause-readers
returns-in-Result-clause-readers c = λ p inside reads.
    let readers = c.args.self.now.readers in
    let b = c.in-Result.block in
    let n = c.in-Result.number in
    let has = subst (λ (r : Register). HasList readers r) c.in-Result.is (c.requires.whole.readers.there c.args.register c.requires.known) in
    let row : c.as_slice-in-Result.result.now ≡ get_or readers.results.items b [] =
    c.as_slice-in-Result.ensures ∙ c.index.ensures ∙ get_or_default readers.results.items b c.index.result.now [] (row_within [] readers.results.items b n has) in
    let same : c.as_slice-in-Result-2.result.now ≡ listed_for readers c.args.register =
    c.as_slice-in-Result-2.ensures ∙ c.index-as_slice-number.is ∙ ap (λ (l : List (List Place)). get_or l n c.index-as_slice-number.result) row
    ∙ get_or_default (get_or readers.results.items b []) n c.index-as_slice-number.result [] has ∙ ap (listed_for readers) (sym c.in-Result.is) in
    subst (λ (l : List Place). Contains l p) (sym same) (c.requires.whole.readers.complete c.args.register p inside reads)

pub returns-in-Result-clause-places : goal.returns-in-Result-clause-places
returns-in-Result-clause-places c = λ p there.
    let readers = c.args.self.now.readers in
    let b = c.in-Result.block in
    let n = c.in-Result.number in
    let has = subst (λ (r : Register). HasList readers r) c.in-Result.is (c.requires.whole.readers.there c.args.register c.requires.known) in
    let row : c.as_slice-in-Result.result.now ≡ get_or readers.results.items b [] =
    c.as_slice-in-Result.ensures ∙ c.index.ensures ∙ get_or_default readers.results.items b c.index.result.now [] (row_within [] readers.results.items b n has) in
    let same : c.as_slice-in-Result-2.result.now ≡ listed_for readers c.args.register =
    c.as_slice-in-Result-2.ensures ∙ c.index-as_slice-number.is ∙ ap (λ (l : List (List Place)). get_or l n c.index-as_slice-number.result) row
    ∙ get_or_default (get_or readers.results.items b []) n c.index-as_slice-number.result [] has ∙ ap (listed_for readers) (sym c.in-Result.is) in
    c.requires.whole.readers.places c.args.register p (subst (λ (l : List Place). Contains l p) same there)
