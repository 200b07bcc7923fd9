-- What the definitions of a document come to is what the document of their trees is, or its fault against the rules.
use Rattle.std.proofs.Common.{◌≡◌, ℕ, Bool, true, false, List, [], ◌∷◌, ◌++◌, map, Option, Some, None, Result, Ok, Err, ◌⊎◌, inl, inr, refl, sym, ap, ◌∙◌, subst, append_assoc, append-nil}
use Rattle.std.specs.Prelude.{if◌then◌else◌}
use Rattle.std.specs.List.{flat_map}
use Rattle.std.proofs.lemmas.List.{map-append}
use Rattle.std.specs.Option.{option_or, option_map}
use Rattle.gql_base.specs.Pairs.{names_of}
use Rattle.gql_base.specs.declared.pos.Pos.{Pos}
use Rattle.gql_doc.specs.declared.document.ExecutableDocument.{ExecutableDocument}
use Rattle.gql_doc.specs.declared.document.FragmentDefinition.{FragmentDefinition}
use Rattle.gql_doc.specs.declared.document.OperationDefinition.{OperationDefinition}
use Rattle.gql_doc.specs.declared.document.Positioned.{Positioned}
use Rattle.gql_doc.specs.declared.draft.Draft.{Draft}
use Rattle.gql_doc.specs.declared.fault.ParseFault.{ParseFault}
use Rattle.gql_doc.specs.declared.gathering.DefinitionDraft.{DefinitionDraft}
use Rattle.gql_doc.specs.declared.gathering.DefinitionDraft.TheVariants as drafted
use Rattle.gql_doc.specs.declared.gathering.Gathering.{Gathering}
use Rattle.gql_doc.specs.declared.tree.OperationTree.{OperationTree}
use Rattle.gql_doc.specs.declared.tree.DefinitionTree.{DefinitionTree}
use Rattle.gql_doc.specs.declared.tree.DefinitionTree.TheVariants.{Operation, Fragment}
use Rattle.gql_doc.specs.First.{first_in}
use Rattle.gql_doc.specs.Words.{PlacedName}
use Rattle.gql_doc.specs.NameRules.{operations, anonymous, if_unnamed, wrong_among, wrong_operations, if_among, if_named_among, name_in, doubled_in_operation, doubled_in_fragment, doubled_in_definition, doubled_among}
use Rattle.gql_doc.specs.Building.{placed, operation_of, fragment_of, if_with_name, if_without_name, anonymous_of, named_of, fragments_of, operations_of}
use Rattle.gql_doc.specs.Drafts.{folded}
use Rattle.gql_doc.specs.Gathered.{nothing_gathered, gathered, with_operation, with_fragment, wrong_of, outcome_of}
use Rattle.gql_doc.specs.Ruled.{ruled_by, ruled}
use Rattle.gql_doc.specs.Spelled.{rule_fault_by}
use Rattle.gql_doc.proofs.Builds.{first_pos}
use Rattle.gql_doc.proofs.DraftLaws.{Judged, judged, shown, one_shown, both_shown, named_shown, first_same, others_same, no_more, option_or_later, option_or_none}

abbrev Op : Type 0
Op = Positioned OperationDefinition

abbrev Fr : Type 0
Fr = Positioned FragmentDefinition

-- What is known of a definition.
abbrev pub Seen : Type 0
Seen = (Pos × Option PlacedName × Judged OperationDefinition) ⊎ (Pos × PlacedName × Judged FragmentDefinition)

abbrev pub seen : DefinitionDraft → Seen
seen (drafted.Operation pos name operation) = inl (pos, name, shown operation)
seen (drafted.Fragment pos name fragment) = inr (pos, name, shown fragment)

abbrev pub told : DefinitionTree → Seen
told (Operation operation) = inl (operation.pos, operation.name, judged (doubled_in_operation operation) (operation_of operation).node)
told (Fragment fragment) = inr (fragment.pos, fragment.name, judged (doubled_in_fragment fragment) (fragment_of fragment).node)

-- one more definition of a tree, whose parts are kept even where a name is doubled
abbrev grown_operation : Gathering → Pos → Option PlacedName → Option Pos → OperationDefinition → Gathering
grown_operation before pos name doubled node =
    record {
      first = option_or before.first (Some pos);
      any = true;
      several = before.any;
      doubled = option_or before.doubled (option_or (if_named_among (names_of before.named) name pos) doubled);
      anonymous = option_or before.anonymous (if_without_name name (placed pos node));
      named = before.named ++ if_with_name name (placed pos node);
      fragments = before.fragments;
    }

abbrev grown_fragment : Gathering → Pos → PlacedName → Option Pos → FragmentDefinition → Gathering
grown_fragment before pos name doubled node =
    record {
      first = option_or before.first (Some pos);
      any = before.any;
      several = before.several;
      doubled = option_or before.doubled (option_or (if_among (names_of before.fragments) name.node pos) doubled);
      anonymous = before.anonymous;
      named = before.named;
      fragments = before.fragments ++ (name.node, placed pos node) ∷ [];
    }

abbrev grown : Gathering → DefinitionTree → Gathering
grown before (Operation operation) = grown_operation before operation.pos operation.name (doubled_in_operation operation) (operation_of operation).node
grown before (Fragment fragment) = grown_fragment before fragment.pos fragment.name (doubled_in_fragment fragment) (fragment_of fragment).node

-- What is known of definitions that were gathered.

abbrev Parts : Type 0
Parts = Option Op × List (List ℕ × Op) × List (List ℕ × Fr)

abbrev parts_by : Option Op → List (List ℕ × Op) → List (List ℕ × Fr) → Parts
parts_by anonymous named fragments = (anonymous, named, fragments)

abbrev parts_of : Gathering → Parts
parts_of all = parts_by all.anonymous all.named all.fragments

-- the parts with another operation without a name, other operations with names, and other fragments
abbrev put_anonymous : Pos → Parts → OperationDefinition → Parts
put_anonymous pos p node = parts_by (option_or p.0 (Some (placed pos node))) p.1 p.2

abbrev put_named : Parts → List (List ℕ × Op) → Parts
put_named p named = parts_by p.0 named p.2

abbrev put_fragments : Parts → List (List ℕ × Fr) → Parts
put_fragments p fragments = parts_by p.0 p.1 fragments

abbrev place_of : Option Op → Option Pos
place_of o = option_map (λ operation. operation.pos) o

record Same (one other : Gathering) : Type 0 where
  first : one.first ≡ other.first
  any : one.any ≡ other.any
  several : one.several ≡ other.several
  unnamed : place_of one.anonymous ≡ place_of other.anonymous
  parts : judged one.doubled (parts_of one) ≡ judged other.doubled (parts_of other)

abbrev outcome_by : Option Pos → Option Pos → Parts → Result ExecutableDocument ParseFault
outcome_by wrong doubled parts =
    ruled_by (rule_fault_by wrong doubled) (record { operations = operations_of parts.0 parts.1; fragments = parts.2 })

abbrev judged_outcome : Option Pos → Judged Parts → Result ExecutableDocument ParseFault
judged_outcome wrong (Ok parts) = outcome_by wrong None parts
judged_outcome wrong (Err pos) = ruled_by (rule_fault_by wrong (Some pos)) (record { operations = operations_of None []; fragments = [] })

outcome_is : (wrong doubled : Option Pos) (parts : Parts) → outcome_by wrong doubled parts ≡ judged_outcome wrong (judged doubled parts)
outcome_is (Some pos) None parts = refl
outcome_is (Some pos) (Some place) parts = refl
outcome_is None None parts = refl
outcome_is None (Some place) parts = refl

abbrev wrong_by : Option Pos → Bool → Bool → Option Pos → Option Pos
wrong_by first any several unnamed = if any then (if several then unnamed else None) else first

same_outcome : (one other : Gathering) → Same one other → outcome_of one ≡ outcome_of other
same_outcome one other same =
    outcome_is (wrong_of one) one.doubled (parts_of one)
    ∙ (λ i. judged_outcome (wrong_by (same.first i) (same.any i) (same.several i) (same.unnamed i)) (same.parts i))
    ∙ sym (outcome_is (wrong_of other) other.doubled (parts_of other))

-- One more definition.

place_behind : (a b : Option Op) → place_of (option_or a b) ≡ option_or (place_of a) (place_of b)
place_behind None b = refl
place_behind (Some o) b = refl

operation_step : (one other : Gathering) (pos : Pos) (name : Option PlacedName) (operation : Draft OperationDefinition) (d : Option Pos) (node : OperationDefinition) → Same one other → shown operation ≡ judged d node
    → Same (with_operation one pos name operation) (grown_operation other pos name d node)
operation_step one other pos None operation d node same e = record {
  first = ap (λ f. option_or f (Some pos)) same.first;
  any = refl;
  several = same.any;
  unnamed = place_behind one.anonymous (Some (placed pos operation.part)) ∙ ap (λ o. option_or o (Some pos)) same.unnamed ∙ sym (place_behind other.anonymous (Some (placed pos node)));
  parts = both_shown (put_anonymous pos) one.doubled other.doubled operation.doubled d (parts_of one) (parts_of other) operation.part node same.parts e
      ∙ (λ i. judged (option_or other.doubled d) (parts_by (option_or other.anonymous (Some (placed pos node))) (sym (append-nil other.named) i) other.fragments));
}
operation_step one other pos (Some name) operation d node same e = record {
  first = ap (λ f. option_or f (Some pos)) same.first;
  any = refl;
  several = same.any;
  unnamed = same.unnamed ∙ ap place_of (sym (option_or_none other.anonymous));
  parts = named_shown (λ (p : Parts). p.1) put_named name.node pos operation.doubled d (placed pos operation.part) (placed pos node)
      (one_shown (placed pos) operation.doubled d operation.part node e) one.doubled other.doubled (parts_of one) (parts_of other) same.parts
      ∙ (λ i. judged (option_or other.doubled (option_or (if_among (names_of other.named) name.node pos) d)) (parts_by (sym (option_or_none other.anonymous) i) (other.named ++ (name.node, placed pos node) ∷ []) other.fragments));
}

fragment_step : (one other : Gathering) (pos : Pos) (name : PlacedName) (fragment : Draft FragmentDefinition) (d : Option Pos) (node : FragmentDefinition) → Same one other → shown fragment ≡ judged d node
    → Same (with_fragment one pos name fragment) (grown_fragment other pos name d node)
fragment_step one other pos name fragment d node same e = record {
  first = ap (λ f. option_or f (Some pos)) same.first;
  any = same.any;
  several = same.several;
  unnamed = same.unnamed;
  parts = named_shown (λ (p : Parts). p.2) put_fragments name.node pos fragment.doubled d (placed pos fragment.part) (placed pos node)
      (one_shown (placed pos) fragment.doubled d fragment.part node e) one.doubled other.doubled (parts_of one) (parts_of other) same.parts;
}

abbrev SeenOperation : Type 0
SeenOperation = Pos × Option PlacedName × Judged OperationDefinition

abbrev SeenFragment : Type 0
SeenFragment = Pos × PlacedName × Judged FragmentDefinition

abbrev operation_or : SeenOperation → Seen → SeenOperation
operation_or o (inl other) = other
operation_or o (inr other) = o

abbrev fragment_or : SeenFragment → Seen → SeenFragment
fragment_or o (inl other) = o
fragment_or o (inr other) = other

abbrev is_operation : Seen → Bool
is_operation (inl other) = true
is_operation (inr other) = false

step_same : (one other : Gathering) (x : DefinitionDraft) (t : DefinitionTree) → Same one other → seen x ≡ told t → Same (gathered one x) (grown other t)
step_same one other (drafted.Operation pos name operation) (Operation tree) same e =
    let known = ap (operation_or (pos, name, shown operation)) e in
    subst (λ (p : Pos × Option PlacedName). Same (gathered one (drafted.Operation p.0 p.1 operation)) (grown other (Operation tree))) (λ i. (sym (ap (λ o. o.0) known) i, sym (ap (λ o. o.1) known) i))
    (operation_step one other tree.pos tree.name operation (doubled_in_operation tree) (operation_of tree).node same (ap (λ o. o.2) known))
step_same one other (drafted.Operation pos name operation) (Fragment tree) same e = absurd (let k : true ≡ false = ap is_operation e in cc)
step_same one other (drafted.Fragment pos name fragment) (Operation tree) same e = absurd (let k : false ≡ true = ap is_operation e in cc)
step_same one other (drafted.Fragment pos name fragment) (Fragment tree) same e =
    let known = ap (fragment_or (pos, name, shown fragment)) e in
    subst (λ (p : Pos × PlacedName). Same (gathered one (drafted.Fragment p.0 p.1 fragment)) (grown other (Fragment tree))) (λ i. (sym (ap (λ o. o.0) known) i, sym (ap (λ o. o.1) known) i))
    (fragment_step one other tree.pos tree.name fragment (doubled_in_fragment tree) (fragment_of tree).node same (ap (λ o. o.2) known))

all_same : (one other : Gathering) (xs : List DefinitionDraft) (ts : List DefinitionTree) → Same one other → map seen xs ≡ map told ts → Same (folded gathered one xs) (folded grown other ts)
all_same one other [] [] same e = same
all_same one other [] (t ∷ ts) same e = no_more _ _ e
all_same one other (x ∷ xs) [] same e = no_more _ _ (sym e)
all_same one other (x ∷ xs) (t ∷ ts) same e = all_same (gathered one x) (grown other t) xs ts (step_same one other x t same (first_same _ _ _ _ e)) (others_same _ _ _ _ e)

-- What the definitions of trees come to, part by part.

names_with : {A : Type 0} → (name : Option PlacedName) (x : A) → names_of (if_with_name name x) ≡ name_in name
names_with None x = refl
names_with (Some name) x = refl

grown_first : (r : Gathering) (ds : List DefinitionTree) → (folded grown r ds).first ≡ option_or r.first (first_pos ds)
grown_first r [] = sym (option_or_none r.first)
grown_first r (Operation operation ∷ ds) = grown_first (grown r (Operation operation)) ds ∙ option_or_later r.first (Some operation.pos) (first_pos ds)
grown_first r (Fragment fragment ∷ ds) = grown_first (grown r (Fragment fragment)) ds ∙ option_or_later r.first (Some fragment.pos) (first_pos ds)

abbrev any_by : Bool → List OperationTree → Bool
any_by b [] = b
any_by b (o ∷ os) = true

any_sure : (os : List OperationTree) → any_by true os ≡ true
any_sure [] = refl
any_sure (o ∷ os) = refl

grown_any : (r : Gathering) (ds : List DefinitionTree) → (folded grown r ds).any ≡ any_by r.any (operations ds)
grown_any r [] = refl
grown_any r (Operation operation ∷ ds) = grown_any (grown r (Operation operation)) ds ∙ any_sure (operations ds)
grown_any r (Fragment fragment ∷ ds) = grown_any (grown r (Fragment fragment)) ds

abbrev several_by : Bool → Bool → List OperationTree → Bool
several_by several any [] = several
several_by several any (o ∷ []) = any
several_by several any (o ∷ p ∷ os) = true

one_more : (several any : Bool) (o : OperationTree) (os : List OperationTree) → several_by any true os ≡ several_by several any (o ∷ os)
one_more several any o [] = refl
one_more several any o (p ∷ []) = refl
one_more several any o (p ∷ q ∷ os) = refl

grown_several : (r : Gathering) (ds : List DefinitionTree) → (folded grown r ds).several ≡ several_by r.several r.any (operations ds)
grown_several r [] = refl
grown_several r (Operation operation ∷ ds) = grown_several (grown r (Operation operation)) ds ∙ one_more r.several r.any operation (operations ds)
grown_several r (Fragment fragment ∷ ds) = grown_several (grown r (Fragment fragment)) ds

grown_doubled : (r : Gathering) (ds : List DefinitionTree) → (folded grown r ds).doubled ≡ option_or r.doubled (doubled_among (names_of r.named) (names_of r.fragments) ds)
grown_doubled r [] = sym (option_or_none r.doubled)
grown_doubled r (Operation operation ∷ ds) =
    let queries : names_of (r.named ++ if_with_name operation.name (operation_of operation)) ≡ names_of r.named ++ name_in operation.name
    = map-append (λ p. p.0) r.named (if_with_name operation.name (operation_of operation)) ∙ ap (λ ns. names_of r.named ++ ns) (names_with operation.name (operation_of operation)) in
    grown_doubled (grown r (Operation operation)) ds
    ∙ (λ i. option_or (option_or r.doubled (doubled_in_definition (names_of r.named) (names_of r.fragments) (Operation operation))) (doubled_among (queries i) (sym (append-nil (names_of r.fragments)) i) ds))
    ∙ option_or_later r.doubled (doubled_in_definition (names_of r.named) (names_of r.fragments) (Operation operation)) (doubled_among (names_of r.named ++ name_in operation.name) (names_of r.fragments ++ []) ds)
grown_doubled r (Fragment fragment ∷ ds) =
    grown_doubled (grown r (Fragment fragment)) ds
    ∙ (λ i. option_or (option_or r.doubled (doubled_in_definition (names_of r.named) (names_of r.fragments) (Fragment fragment))) (doubled_among (sym (append-nil (names_of r.named)) i) (map-append (λ p. p.0) r.fragments ((fragment.name.node, fragment_of fragment) ∷ []) i) ds))
    ∙ option_or_later r.doubled (doubled_in_definition (names_of r.named) (names_of r.fragments) (Fragment fragment)) (doubled_among (names_of r.named ++ []) (names_of r.fragments ++ fragment.name.node ∷ []) ds)

grown_anonymous : (r : Gathering) (ds : List DefinitionTree) → (folded grown r ds).anonymous ≡ option_or r.anonymous (first_in anonymous_of ds)
grown_anonymous r [] = sym (option_or_none r.anonymous)
grown_anonymous r (Operation operation ∷ ds) =
    grown_anonymous (grown r (Operation operation)) ds ∙ option_or_later r.anonymous (anonymous_of (Operation operation)) (first_in anonymous_of ds)
grown_anonymous r (Fragment fragment ∷ ds) = grown_anonymous (grown r (Fragment fragment)) ds

grown_named : (r : Gathering) (ds : List DefinitionTree) → (folded grown r ds).named ≡ r.named ++ flat_map named_of ds
grown_named r [] = sym (append-nil r.named)
grown_named r (Operation operation ∷ ds) = grown_named (grown r (Operation operation)) ds ∙ append_assoc r.named (named_of (Operation operation)) (flat_map named_of ds)
grown_named r (Fragment fragment ∷ ds) = grown_named (grown r (Fragment fragment)) ds

grown_fragments : (r : Gathering) (ds : List DefinitionTree) → (folded grown r ds).fragments ≡ r.fragments ++ flat_map fragments_of ds
grown_fragments r [] = sym (append-nil r.fragments)
grown_fragments r (Operation operation ∷ ds) = grown_fragments (grown r (Operation operation)) ds
grown_fragments r (Fragment fragment ∷ ds) =
    grown_fragments (grown r (Fragment fragment)) ds ∙ append_assoc r.fragments (fragments_of (Fragment fragment)) (flat_map fragments_of ds)

-- The rule on operations.

unnamed_by : (name : Option PlacedName) (o : Op) → place_of (if_without_name name o) ≡ if_unnamed name o.pos
unnamed_by None o = refl
unnamed_by (Some name) o = refl

unnamed_is : (ds : List DefinitionTree) → place_of (first_in anonymous_of ds) ≡ first_in anonymous (operations ds)
unnamed_is [] = refl
unnamed_is (Operation operation ∷ ds) =
    place_behind (anonymous_of (Operation operation)) (first_in anonymous_of ds) ∙ (λ i. option_or (unnamed_by operation.name (operation_of operation) i) (unnamed_is ds i))
unnamed_is (Fragment fragment ∷ ds) = unnamed_is ds

wrong_cases : (os : List OperationTree) (ds : List DefinitionTree) (unnamed : Option Pos) → unnamed ≡ first_in anonymous os
    → wrong_by (first_pos ds) (any_by false os) (several_by false false os) unnamed ≡ wrong_among os ds
wrong_cases [] [] unnamed e = refl
wrong_cases [] (d ∷ ds) unnamed e = refl
wrong_cases (o ∷ []) ds unnamed e = refl
wrong_cases (o ∷ p ∷ os) ds unnamed e = e

grown_wrong : (ds : List DefinitionTree) → wrong_of (folded grown nothing_gathered ds) ≡ wrong_operations ds
grown_wrong ds =
    (λ i. wrong_by (grown_first nothing_gathered ds i) (grown_any nothing_gathered ds i) (grown_several nothing_gathered ds i) (place_of (grown_anonymous nothing_gathered ds i)))
    ∙ wrong_cases (operations ds) ds (place_of (first_in anonymous_of ds)) (unnamed_is ds)

grown_is : (ds : List DefinitionTree) → outcome_of (folded grown nothing_gathered ds) ≡ ruled ds
grown_is ds =
    λ i. outcome_by (grown_wrong ds i) (grown_doubled nothing_gathered ds i) (parts_by (grown_anonymous nothing_gathered ds i) (grown_named nothing_gathered ds i) (grown_fragments nothing_gathered ds i))

-- what definitions come to that mean what those of a tree mean
pub gathered_is : (x : DefinitionDraft) (t : DefinitionTree) (xs : List DefinitionDraft) (ts : List DefinitionTree) → seen x ≡ told t → map seen xs ≡ map told ts
    → outcome_of (folded gathered (gathered nothing_gathered x) xs) ≡ ruled (t ∷ ts)
gathered_is x t xs ts first others =
    same_outcome _ _ (all_same nothing_gathered nothing_gathered (x ∷ xs) (t ∷ ts) (record { first = refl; any = refl; several = refl; unnamed = refl; parts = refl }) (λ i. first i ∷ others i))
    ∙ grown_is (t ∷ ts)
