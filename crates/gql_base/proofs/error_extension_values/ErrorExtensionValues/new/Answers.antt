use Rattle.gql_base.proofs.InOrderLemmas.{empty-in-order}
use Rattle.gql_base.proofs.error_extension_values.ErrorExtensionValues.new.Goals as goal

pub invariant_of-result : goal.invariant_of-result
invariant_of-result c = empty-in-order _ c.new.result.items c.new.ensures.items
