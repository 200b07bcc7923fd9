use Rattle.std.proofs.Common.{◌≡◌, true, take}
use Rattle.std.specs.List.{list_all}
use Rattle.gql_base.specs.Pairs.{under}
use Rattle.gql_schema.specs.Fits.{fits_declared}
use Rattle.gql_schema.specs.InputObject.{input_fields}
use Rattle.gql_schema.specs.Table.{types_of}
use Rattle.gql_fields.specs.Literals.{literal_fits, literal_fitting}
use Rattle.gql_fields.proofs.literals.+fitting.Given as goal

abbrev pub invariant-items_fit-loop-value : goal.invariant-items_fit-loop-value
invariant-items_fit-loop-value l = list_all (λ v. literal_fits (types_of l.types) v l.item) (take l.value-index l.items) ≡ true

abbrev pub invariant-members_are_declared-loop-place : goal.invariant-members_are_declared-loop-place
invariant-members_are_declared-loop-place l =
    list_all (λ m. fits_declared (types_of l.types) (literal_fitting (types_of l.types) m.1) (under m.0 (input_fields l.input)))
    (take l.place l.members) ≡ true
