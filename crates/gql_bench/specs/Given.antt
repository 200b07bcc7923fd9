-- What a bench answers, as a resolver gives it.
use Rattle.std.specs.Prelude.{ℤ}
use Rattle.gql_form.specs.declared.answered.Answered.{Answered}
use Rattle.gql_form.specs.declared.answered.Answered.TheOpen.{Answered-F}
use Rattle.gql_form.specs.declared.answered.Answered.TheFolds.{fold-Answered}
use Rattle.gql_resolve.specs.declared.field_value.FieldValue.{FieldValue}
use Rattle.gql_resolve.specs.declared.field_value.FieldValue.TheVariants as given

-- one level of it, with what is given for each part in the part's place
abbrev pub given_step : Answered-F (FieldValue ℤ) → FieldValue ℤ
given_step (Answered-F.Value value) = given.Value value
given_step (Answered-F.Own own) = given.Own own
given_step (Answered-F.List items) = given.List items
given_step (Answered-F.Typed ty value) = given.WithType value ty

-- the same on all levels: each kind of what a bench answers is a kind of what resolvers give
abbrev pub given_of : Answered → FieldValue ℤ
given_of = fold-Answered (FieldValue ℤ) given_step
