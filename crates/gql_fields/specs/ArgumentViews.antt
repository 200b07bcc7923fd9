-- What has arguments, and where.
use Rattle.gql_schema.specs.TableReading.{TypeTable}
use Rattle.gql_fields.specs.Arguments.{Bearing, DirectiveOf, FieldOf, Owner}
use Rattle.gql_fields.specs.Walk.{terms_in}
use Rattle.gql_fields.specs.declared.arguments.Bearing as bearing
use Rattle.gql_fields.specs.declared.arguments.Owner as owner
use Rattle.gql_fields.specs.declared.arguments.Owner.TheVariants as owners

abbrev pub owner_behind : owner.Owner → Owner
owner_behind (owners.Field name parent) = FieldOf name.now parent.now
owner_behind (owners.Directive name) = DirectiveOf name.now

abbrev pub bearing_behind : bearing.Bearing → Bearing
bearing_behind bearing = record {
  owner = owner_behind bearing.owner;
  pos = bearing.pos;
  declared = bearing.declared.now;
}

-- the types that the arguments are checked over
abbrev pub table_behind : bearing.Bearing → TypeTable
table_behind bearing = (terms_in bearing.against.now).table
