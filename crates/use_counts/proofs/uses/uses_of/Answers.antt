use Rattle.use_counts.proofs.Common.{rules, ◌≡◌, count_of}
use Rattle.use_counts.proofs.Rows.{exact_at}
use Rattle.use_counts.proofs.uses.uses_of.Goals as goal

pub returns-in-Parameter-clause-count : goal.returns-in-Parameter-clause-count
returns-in-Parameter-clause-count c f =
    let is : c.number_in.result ≡ count_of c.args.uses.now c.args.register = search rules in exact_at f c.args.uses.now c.args.register c.number_in.result is

pub returns-in-Some-clause-count : goal.returns-in-Some-clause-count
returns-in-Some-clause-count c f =
    let is : c.number_in-in-Some.result ≡ count_of c.args.uses.now c.args.register = search rules in exact_at f c.args.uses.now c.args.register c.number_in-in-Some.result is

pub returns-in-None-clause-count : goal.returns-in-None-clause-count
returns-in-None-clause-count c f =
    let is : 0 ≡ count_of c.args.uses.now c.args.register = search rules in exact_at f c.args.uses.now c.args.register 0 is
