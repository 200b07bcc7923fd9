-- What the definitions of a document come to, one after another.
use Rattle.std.specs.Prelude.{true, false, [], Option, Some, None, if◌then◌else◌, Result}
use Rattle.std.specs.Option.{option_or, option_map}
use Rattle.gql_base.specs.Pairs.{names_of}
use Rattle.gql_base.specs.declared.pos.Pos.{Pos}
use Rattle.gql_doc.specs.declared.document.ExecutableDocument.{ExecutableDocument}
use Rattle.gql_doc.specs.declared.document.FragmentDefinition.{FragmentDefinition}
use Rattle.gql_doc.specs.declared.document.OperationDefinition.{OperationDefinition}
use Rattle.gql_doc.specs.declared.document.Positioned.{Positioned}
use Rattle.gql_doc.specs.declared.draft.Draft.{Draft}
use Rattle.gql_doc.specs.declared.fault.ParseFault.{ParseFault}
use Rattle.gql_doc.specs.declared.gathering.DefinitionDraft.{DefinitionDraft}
use Rattle.gql_doc.specs.declared.gathering.DefinitionDraft.TheVariants.{Operation, Fragment}
use Rattle.gql_doc.specs.declared.gathering.Gathering.{Gathering}
use Rattle.gql_doc.specs.Building.{placed, operations_of}
use Rattle.gql_doc.specs.Drafts.{with_fresh}
use Rattle.gql_doc.specs.NameRules.{if_among}
use Rattle.gql_doc.specs.Ruled.{ruled_by}
use Rattle.gql_doc.specs.Spelled.{rule_fault_by}
use Rattle.gql_doc.specs.Words.{PlacedName}

-- no definition
abbrev pub nothing_gathered : Gathering
nothing_gathered =
    record {
      first = None;
      any = false;
      several = false;
      doubled = None;
      anonymous = None;
      named = [];
      fragments = [];
    }

-- an operation without a name; the first one counts
abbrev pub with_anonymous : Gathering → Positioned OperationDefinition → Option Pos → Gathering
with_anonymous before operation doubled =
    record {
      first = before.first;
      any = before.any;
      several = before.several;
      doubled = option_or before.doubled doubled;
      anonymous = option_or before.anonymous (Some operation);
      named = before.named;
      fragments = before.fragments;
    }

-- one more operation
abbrev pub with_operation : Gathering → Pos → Option PlacedName → Draft OperationDefinition
    → Gathering
with_operation before pos None operation =
    record {
      first = option_or before.first (Some pos);
      any = true;
      several = before.any;
      doubled = option_or before.doubled operation.doubled;
      anonymous = option_or before.anonymous (Some (placed pos operation.part));
      named = before.named;
      fragments = before.fragments;
    }
with_operation before pos (Some name) operation =
    record {
      first = option_or before.first (Some pos);
      any = true;
      several = before.any;
      doubled = option_or before.doubled
          (option_or (if_among (names_of before.named) name.node pos) operation.doubled);
      anonymous = before.anonymous;
      named = with_fresh before.named name.node (placed pos operation.part);
      fragments = before.fragments;
    }

-- one more fragment
abbrev pub with_fragment : Gathering → Pos → PlacedName → Draft FragmentDefinition → Gathering
with_fragment before pos name fragment =
    record {
      first = option_or before.first (Some pos);
      any = before.any;
      several = before.several;
      doubled = option_or before.doubled
          (option_or (if_among (names_of before.fragments) name.node pos) fragment.doubled);
      anonymous = before.anonymous;
      named = before.named;
      fragments = with_fresh before.fragments name.node (placed pos fragment.part);
    }

-- one more definition
abbrev pub gathered : Gathering → DefinitionDraft → Gathering
gathered before (Operation pos name operation) = with_operation before pos name operation
gathered before (Fragment pos name fragment) = with_fragment before pos name fragment

-- the place of the first operation that stands wrongly, or of the first definition where there is
-- no operation
abbrev pub wrong_of : Gathering → Option Pos
wrong_of all =
    if all.any
    then (if all.several then option_map (λ operation. operation.pos) all.anonymous else None)
    else all.first

abbrev pub document_in : Gathering → ExecutableDocument
document_in all =
    record { operations = operations_of all.anonymous all.named; fragments = all.fragments }

abbrev pub outcome_of : Gathering → Result ExecutableDocument ParseFault
outcome_of all = ruled_by (rule_fault_by (wrong_of all) all.doubled) (document_in all)
