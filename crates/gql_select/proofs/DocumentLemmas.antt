-- A document's sets are read as their parts are.
use Rattle.std.proofs.Common.{◌≡◌, ℕ, zero, suc, ◌&&◌, List, ◌++◌, refl, ap, sym, ◌∙◌}
use Rattle.std.proofs.lemmas.List.{append_assoc}
use Rattle.std.proofs.lemmas.Grind.{flat_map-append}
use Rattle.std.specs.Str.{bytes_eq}
use Rattle.gql_doc.specs.declared.document.Field.{Field, out-Field, roll-Field, out-roll-Field}
use Rattle.gql_doc.specs.declared.document.Positioned.{Positioned}
use Rattle.gql_doc.specs.declared.document.Selection.{Selection, out-Selection}
use Rattle.gql_doc.specs.declared.document.SelectionSet.{out-SelectionSet, roll-SelectionSet, out-roll-SelectionSet}
use Rattle.gql_select.specs.Alike.{arguments_of, name_of, same_arguments}
use Rattle.gql_select.specs.Collected.{Setting, collect_within, fields_of, own_selections}
use Rattle.gql_select.specs.Documents.{both, reading, with_selections}
use Rattle.gql_select.specs.Reading.{IsReading}
use Rattle.gql_select.proofs.AlikeLemmas.{alike_through, alike_turned, alike_says}

out-with : (field : Field) (selections : List (Positioned Selection))
    → out-Field (with_selections field selections)
    ≡ record (out-Field field) { selection_set = record { pos = (out-Field field).selection_set.pos; node = roll-SelectionSet (record { items = selections }) } }
out-with field selections = out-roll-Field _

selections_with : (field : Field) (selections : List (Positioned Selection))
    → (out-SelectionSet (out-Field (with_selections field selections)).selection_set.node).items ≡ selections
selections_with field selections =
    ap (λ layer. (out-SelectionSet layer.selection_set.node).items) (out-with field selections)
    ∙ ap (λ set. set.items) (out-roll-SelectionSet (record { items = selections }))

pub set_of_both : (f g : Positioned Field) → own_selections (both f g) ≡ own_selections f ++ own_selections g
set_of_both f g = selections_with f.node (own_selections f ++ own_selections g)

pub name_of_both : (f g : Positioned Field) → name_of (both f g) ≡ name_of f
name_of_both f g = ap (λ layer. layer.name.node) (out-with f.node (own_selections f ++ own_selections g))

pub arguments_of_both : (f g : Positioned Field) → arguments_of (both f g) ≡ arguments_of f
arguments_of_both f g = ap (λ layer. layer.arguments) (out-with f.node (own_selections f ++ own_selections g))

with-with : (field : Field) (xs ys : List (Positioned Selection)) → with_selections (with_selections field xs) ys ≡ with_selections field ys
with-with field xs ys =
    ap (λ layer. roll-Field (record layer { selection_set = record { pos = layer.selection_set.pos; node = roll-SelectionSet (record { items = ys }) } })) (out-with field xs)

both_of_both : (f g h : Positioned Field) → both (both f g) h ≡ both f (both g h)
both_of_both f g h =
    let node : with_selections (with_selections f.node (own_selections f ++ own_selections g)) (own_selections (both f g) ++ own_selections h)
    ≡ with_selections f.node (own_selections f ++ own_selections (both g h))
    = with-with f.node (own_selections f ++ own_selections g) (own_selections (both f g) ++ own_selections h)
    ∙ ap (with_selections f.node)
    (ap (λ xs. xs ++ own_selections h) (set_of_both f g) ∙ append_assoc (own_selections f) (own_selections g) (own_selections h)
    ∙ ap (λ xs. own_selections f ++ xs) (sym (set_of_both g h))) in
    λ i. record { pos = f.pos; node = node i }

collect_both : (setting : Setting) (n : ℕ) (o : List ℕ) (xs ys : List (Positioned Selection))
    → collect_within setting n o (xs ++ ys) ≡ collect_within setting n o xs ++ collect_within setting n o ys
collect_both setting zero o xs ys = refl
collect_both setting (suc n) o xs ys =
    flat_map-append (λ selection. fields_of setting o (collect_within setting n o) (out-Selection selection.node)) xs ys

pub is_reading : (setting : Setting) → IsReading (reading setting)
is_reading setting = record {
  fields_of_both = collect_both setting setting.levels;
  set_of_both = set_of_both;
  both_of_both = both_of_both;
  objects_of_both = λ o f g. ap (setting.beneath o) (name_of_both f g);
  objects_of_alike = λ o f g same. ap (setting.beneath o) (alike_says f g same).0;
  alike_both = λ f g h. λ i. bytes_eq (name_of_both f g i) (name_of h) && same_arguments (arguments_of_both f g i) (arguments_of h);
  both_alike = λ f g h. λ i. bytes_eq (name_of f) (name_of_both g h i) && same_arguments (arguments_of f) (arguments_of_both g h i);
  alike_turned = alike_turned;
  alike_through = alike_through;
}
