use Rattle.aig.proofs.Common.{Bool, List, ◌&&◌, if◌then◌else◌, refl, sym, subst, xor, IfOk-weaker, value_of, Stands}
use Rattle.aig.proofs.Standing.{nodes_of, same_table, negated_table}
use Rattle.aig.proofs.graph.Aig.chosen.Goals as goal

pub both-requires-clause-own_a : goal.both-requires-clause-own_a
both-requires-clause-own_a c = (c.in-Both.ensures.1 _ _ c.requires.own_condition c.requires.own_yes c.requires.own_no).0

pub both-requires-clause-own_b : goal.both-requires-clause-own_b
both-requires-clause-own_b c = (c.in-Both.ensures.1 _ _ c.requires.own_condition c.requires.own_yes c.requires.own_no).1

pub both-requires-in-NotBoth-clause-own_a : goal.both-requires-in-NotBoth-clause-own_a
both-requires-in-NotBoth-clause-own_a c = (c.in-NotBoth.ensures.1 _ _ c.requires.own_condition c.requires.own_yes c.requires.own_no).0

pub both-requires-in-NotBoth-clause-own_b : goal.both-requires-in-NotBoth-clause-own_b
both-requires-in-NotBoth-clause-own_b c = (c.in-NotBoth.ensures.1 _ _ c.requires.own_condition c.requires.own_yes c.requires.own_no).1

pub one_of-requires-clause-own_a : goal.one_of-requires-clause-own_a
one_of-requires-clause-own_a c = (c.in-OneOf.ensures.1 _ _ c.requires.own_condition c.requires.own_yes c.requires.own_no).0

pub one_of-requires-clause-own_b : goal.one_of-requires-clause-own_b
one_of-requires-clause-own_b c = (c.in-OneOf.ensures.1 _ _ c.requires.own_condition c.requires.own_yes c.requires.own_no).1

pub returns-in-Known-clause-stands : goal.returns-in-Known-clause-stands
returns-in-Known-clause-stands c =
    let graph = c.args.self.now in
    record {
      own = (c.in-Known.ensures.1 _ _ c.requires.own_condition c.requires.own_yes c.requires.own_no).0;
      value = λ inputs. c.in-Known.ensures.0 (nodes_of graph inputs) refl;
    }

pub returns-in-Both-clause-stands : goal.returns-in-Both-clause-stands
returns-in-Both-clause-stands c =
    let old = c.args.self.now in
    let new = c.both.new.self in
    let v = value_of old in
    let t : List Bool → Bool = λ inputs. v inputs c.in-Both.a && v inputs c.in-Both.b in
    let u : List Bool → Bool = λ inputs. if v inputs c.args.condition then v inputs c.args.yes else v inputs c.args.no in
    IfOk-weaker c.both.result (Stands new t) (Stands new u)
    (λ l. same_table new t u l (λ inputs. c.in-Both.ensures.0 (nodes_of old inputs) refl)) c.both.ensures.stands

pub returns-in-OneOf-clause-stands : goal.returns-in-OneOf-clause-stands
returns-in-OneOf-clause-stands c =
    let old = c.args.self.now in
    let new = c.one_of.new.self in
    let v = value_of old in
    let t : List Bool → Bool = λ inputs. xor (v inputs c.in-OneOf.a) (v inputs c.in-OneOf.b) in
    let u : List Bool → Bool = λ inputs. if v inputs c.args.condition then v inputs c.args.yes else v inputs c.args.no in
    IfOk-weaker c.one_of.result (Stands new t) (Stands new u)
    (λ l. same_table new t u l (λ inputs. c.in-OneOf.ensures.0 (nodes_of old inputs) refl)) c.one_of.ensures.stands

pub returns-in_ok-both-in-NotBoth-clause-stands : goal.returns-in_ok-both-in-NotBoth-clause-stands
returns-in_ok-both-in-NotBoth-clause-stands c =
    let old = c.args.self.now in
    let new = c.both-in-NotBoth.new.self in
    let v = value_of old in
    let t : List Bool → Bool = λ inputs. v inputs c.in-NotBoth.a && v inputs c.in-NotBoth.b in
    let u : List Bool → Bool = λ inputs. if v inputs c.args.condition then v inputs c.args.yes else v inputs c.args.no in
    subst (Stands new u) (sym c.negation.ensures)
    (negated_table new t u c.in_ok-both-in-NotBoth.field-0 (λ inputs. c.in-NotBoth.ensures.0 (nodes_of old inputs) refl)
    c.in_ok-both-in-NotBoth.ensures.stands)
