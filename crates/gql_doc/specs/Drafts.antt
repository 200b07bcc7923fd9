-- Drafts of the parts of a document: a part as it was read, with the place of the first doubled name
-- in it.
use Rattle.std.specs.Prelude.{ℕ, List, [], ◌∷◌, ◌++◌, None, if◌then◌else◌}
use Rattle.std.specs.Option.{option_or}
use Rattle.gql_base.specs.Pairs.{names_of}
use Rattle.gql_base.specs.declared.value.Value.{Value}
use Rattle.gql_base.specs.declared.value.Value.TheVariants as constant
use Rattle.gql_doc.specs.declared.document.DocValue.{DocValue}
use Rattle.gql_doc.specs.declared.document.DocValue.TheOpen.{DocValue-F}
use Rattle.gql_doc.specs.declared.document.DocValue.TheFolds.{fold-DocValue}
use Rattle.gql_doc.specs.declared.draft.Draft.{Draft}
use Rattle.gql_doc.specs.NameRules.{is_among, if_among}
use Rattle.gql_doc.specs.Words.{PlacedName}

-- a part in which no name is doubled
abbrev pub plain : {A : Type 0} → A → Draft A
plain part = record { part = part; doubled = None }

-- another part that is made of it
abbrev pub remade : {A B : Type 0} → (A → B) → Draft A → Draft B
remade make draft = record { part = make draft.part; doubled = draft.doubled }

-- one more after those of a list
abbrev pub added : {A : Type 0} → Draft (List A) → Draft A → Draft (List A)
added list item =
    record { part = list.part ++ item.part ∷ []; doubled = option_or list.doubled item.doubled }

-- the list of one
abbrev pub first_item : {A : Type 0} → Draft A → Draft (List A)
first_item item = record { part = item.part ∷ []; doubled = item.doubled }

-- the pairs with one more, unless its name is taken
abbrev pub with_fresh : {A : Type 0} → List (List ℕ × A) → List ℕ → A → List (List ℕ × A)
with_fresh pairs name part =
    if is_among name (names_of pairs) then pairs else pairs ++ (name, part) ∷ []

-- one more member after those of an object
abbrev pub with_member : {A : Type 0} → Draft (List (List ℕ × A)) → PlacedName × Draft A
    → Draft (List (List ℕ × A))
with_member members member =
    record {
      part = with_fresh members.part member.0.node member.1.part;
      doubled = option_or members.doubled
          (option_or (if_among (names_of members.part) member.0.node member.0.pos) member.1.doubled);
    }

-- what is left once all were taken in, one after another
abbrev pub folded : {S A : Type 0} → (S → A → S) → S → List A → S
folded step start [] = start
folded step start (x ∷ xs) = folded step (step start x) xs

-- The constant that a value is, where no variable stands in it; what a variable gives here is no
-- matter.
abbrev pub constant_step : DocValue-F Value → Value
constant_step (DocValue-F.Variable name) = constant.Null
constant_step DocValue-F.Null = constant.Null
constant_step (DocValue-F.Boolean holds) = constant.Boolean holds
constant_step (DocValue-F.Number number) = constant.Number number
constant_step (DocValue-F.String text) = constant.String text
constant_step (DocValue-F.Enum name) = constant.Enum name
constant_step (DocValue-F.List values) = constant.List values
constant_step (DocValue-F.Object members) = constant.Object members

abbrev pub constant_in : DocValue → Value
constant_in = fold-DocValue Value constant_step

abbrev pub constant_member : List ℕ × DocValue → List ℕ × Value
constant_member member = (member.0, constant_in member.1)
