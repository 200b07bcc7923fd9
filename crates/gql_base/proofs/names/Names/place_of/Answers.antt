use Rattle.std.proofs.Common.{rules}
use Rattle.gql_base.proofs.NamesLemmas.{within_if}
use Rattle.gql_base.proofs.names.Names.place_of.Goals as goal

pub returns-in-Own-clause-within : goal.returns-in-Own-clause-within
returns-in-Own-clause-within c = within_if c.args.name.now c.args.self.now c.place_in.result (search rules)

pub returns-in-Shared-clause-within : goal.returns-in-Shared-clause-within
returns-in-Shared-clause-within c = within_if c.args.name.now c.args.self.now c.place_in-in-Shared.result (search rules)

pub returns-in-Many-clause-within : goal.returns-in-Many-clause-within
returns-in-Many-clause-within c = within_if c.args.name.now c.args.self.now c.get.result (search rules)
