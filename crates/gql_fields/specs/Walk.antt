-- What the walk over the places of a document tells.
use Rattle.std.specs.Prelude.{List, ◌∷◌, ◌++◌, Option, true, false, not}
use Rattle.gql_doc.specs.Depth.{field_set, fragment_set, selections_of}
use Rattle.gql_doc.specs.declared.document.Field.{Field, out-Field}
use Rattle.gql_doc.specs.declared.document.FragmentDefinition.{FragmentDefinition}
use Rattle.gql_doc.specs.declared.document.FragmentSpread.{FragmentSpread}
use Rattle.gql_doc.specs.declared.document.Positioned.{Positioned}
use Rattle.gql_schema.specs.TableReading.{Declared}
use Rattle.gql_schema.specs.declared.schema_type.SchemaType.{SchemaType}
use Rattle.gql_fields.specs.Breaches.{told, told_of_field}
use Rattle.gql_fields.specs.Places.{FieldPlace, OnSpread, Place, directive_places, is_nil, on_named}
use Rattle.gql_fields.specs.Places.{set_places}
use Rattle.gql_fields.specs.Terms.{Terms, terms_of}
use Rattle.gql_fields.specs.declared.breach.Breach.{Breach}
use Rattle.gql_fields.specs.declared.against.Against.{Against}

-- the terms that a walk goes by
abbrev pub terms_in : Against → Terms
terms_in against = terms_of against.site.now

-- the rules that are broken at some places
abbrev pub tells : Against → List Place → List Breach
tells against places = told against.built.now (terms_in against) against.fragments.now places

-- the place of a field on a type
abbrev pub field_place : SchemaType → Positioned Field → FieldPlace
field_place ty field = record {
  parent = ty;
  pos = field.pos;
  name = (out-Field field.node).name.node;
  arguments = (out-Field field.node).arguments;
  has_set = not (is_nil (selections_of (field_set field)));
}

-- what is told of a field on a type
abbrev pub tells_field : Against → SchemaType → Positioned Field → Option Declared → List Breach
tells_field against ty field known =
    told_of_field against.built.now (terms_in against) (field_place ty field) known

-- the place of a spread
abbrev pub spread_place : Positioned FragmentSpread → Place
spread_place spread = OnSpread spread.pos spread.node.fragment_name.node

-- the same, and those of its directives
abbrev pub spread_places : Positioned FragmentSpread → List Place
spread_places spread =
    spread_place spread ∷ directive_places true spread.node.directives

-- the places of a fragment after its condition
abbrev pub inner_places : Terms → Positioned FragmentDefinition → List Place
inner_places terms fragment =
    directive_places false fragment.node.directives
    ++ on_named terms fragment.node.type_condition.node
    (set_places terms (fragment_set fragment).node)
