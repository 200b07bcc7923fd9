use Rattle.std.proofs.Common.{◌≡◌, Some, None, sym}
use Rattle.gql_base.specs.Pairs.{under}
use Rattle.gql_request.proofs.DefinedLemmas.{defined_at, not_defined}
use Rattle.gql_request.proofs.defined.Defined.get.Goals as goal

pub returns-in-None : goal.returns-in-None
returns-in-None c =
    let none : under c.args.name.now c.self.inside.places.now ≡ None = sym c.in-None.ensures in
    not_defined c.args.name.now c.self.inside.definitions.now c.self.inside.places.now c.args.self.now c.self.invariant c.self.view_is none

pub returns-in-Some : goal.returns-in-Some
returns-in-Some c =
    let found : under c.args.name.now c.self.inside.places.now ≡ Some c.in-Some.place.now = sym c.in-Some.ensures in
    defined_at c.args.name.now c.self.inside.definitions.now c.self.inside.places.now c.args.self.now c.self.invariant c.self.view_is
    c.in-Some.place.now c.get-in-Some.result found c.get-in-Some.ensures.lookup
