-- Interfaces and unions, the types that can be several objects (GraphQL, October 2021, sections 3.7
-- and 3.8).
use Rattle.std.specs.Prelude.{ℕ, List}
use Rattle.gql_meaning.specs.Completion.{AbstractTexts, interface_texts, union_texts}
use Rattle.gql_complete.specs.declared.complete_abstract.AbstractKind.{AbstractKind}
use Rattle.gql_complete.specs.declared.complete_abstract.AbstractKind.TheVariants.{Interface, Union}

-- the texts of the faults at a type of this kind and name
abbrev pub texts_of : AbstractKind → List ℕ → AbstractTexts
texts_of Interface = interface_texts
texts_of Union = union_texts
