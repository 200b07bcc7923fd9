-- Requests with a value for their root.
use Rattle.gql_base.specs.declared.value.Value.TheVariants.{Null}
use Rattle.gql_exec.specs.declared.dynamic_request.DynamicRequest.{DynamicRequest}
use Rattle.gql_request.specs.declared.request.Request.{Request}
use Rattle.gql_resolve.specs.declared.field_value.FieldValue.{FieldValue}
use Rattle.gql_resolve.specs.declared.field_value.FieldValue.TheVariants as given

-- a request whose root has this value
abbrev pub rooted : {V : Type 0} → Request → FieldValue V → DynamicRequest V
rooted request value = record { inner = request; root_value = value }

-- a request whose root has the value null
abbrev pub unrooted : {V : Type 0} → Request → DynamicRequest V
unrooted request = rooted request (given.Value Null)
