-- One field for several occurrences.
use Rattle.std.proofs.Common.{◌≡◌, ℕ, ◌+◌, ◌<◌, ◌==◌, true, false, List, [], ◌∷◌, ◌++◌, length, Some, None, take, get_or, refl, ap, sym, ◌∙◌, arith, eqb-true}
use Rattle.std.proofs.lemmas.List.{take_more}
use Rattle.std.specs.Borrow.{Bor}
use Rattle.gql_doc.specs.declared.document.Field.{Field, out-roll-Field}
use Rattle.gql_doc.specs.declared.document.Positioned.{Positioned}
use Rattle.gql_doc.specs.Document.{alias_or}
use Rattle.gql_collect.specs.KeyNames.{key_text}
use Rattle.gql_select.specs.Collected.{own_selections}
use Rattle.gql_select.specs.Documents.{both, with_others, with_selections}
use Rattle.gql_select.specs.Behind.{all_behind}
use Rattle.gql_collect.specs.Groups.{item_among, item_of, own_items, united}
use Rattle.gql_collect.specs.declared.group.Group.{Group}
use Rattle.gql_select.proofs.OccurrenceLemmas.{behind_append, with_one_more}

-- one more occurrence is added
pub item_more : (first : Positioned Field) (more : List (Bor (Positioned Field))) (i : ℕ) (occurrence : Bor (Positioned Field)) (old new : Field)
    → i < length more → occurrence ≡ get_or more i occurrence
    → old ≡ (with_others first (all_behind (take i more))).node
    → new ≡ with_selections old (own_items old ++ own_selections occurrence.now)
    → new ≡ (with_others first (all_behind (take (i + 1) more))).node
item_more first more i occurrence old new within read before added =
    let front = all_behind (take i more) in
    let next : all_behind (take (i + 1) more) ≡ front ++ occurrence.now ∷ []
    = ap all_behind (take_more more i occurrence within ∙ ap (λ o. take i more ++ o ∷ []) (sym read)) ∙ behind_append (take i more) (occurrence ∷ []) in
    added
    ∙ ap (λ f. with_selections f (own_items f ++ own_selections occurrence.now)) before
    ∙ ap (λ (f : Positioned Field). f.node) (sym (with_one_more first front occurrence.now))
    ∙ ap (λ fs. (with_others first fs).node) (sym next)

-- a group of one occurrence needs no other field
pub item_none : (group : Group) (more : List (Bor (Positioned Field))) → more ≡ group.more.items → (length more == 0) ≡ true → None ≡ item_of group
item_none group more same is = by more is ∙ ap (λ bs. item_among group.first.now (all_behind bs)) same
  where
    by : (more : List (Bor (Positioned Field))) → (length more == 0) ≡ true → None ≡ item_among group.first.now (all_behind more)
    by [] h = refl
    by (x ∷ more) h = absurd (omega (arith, eqb-true (length (x ∷ more)) 0 h))

-- one of several is that of all
pub item_some : (group : Group) (more : List (Bor (Positioned Field))) (item : Field) → more ≡ group.more.items → (length more == 0) ≡ false
    → item ≡ (with_others group.first.now (all_behind more)).node → Some item ≡ item_of group
item_some group more item same is item_is = ap Some item_is ∙ by more is ∙ ap (λ bs. item_among group.first.now (all_behind bs)) same
  where
    by : (more : List (Bor (Positioned Field))) → (length more == 0) ≡ false → Some (with_others group.first.now (all_behind more)).node ≡ item_among group.first.now (all_behind more)
    by [] h = absurd (cc)
    by (x ∷ more) h = refl

-- the field that stands for all occurrences is the one that is kept, or the first
pub item_first : (group : Group) → None ≡ item_of group → group.first.now.node ≡ (united group).node
item_first group is = by group.more.items is
  where
    by : (more : List (Bor (Positioned Field))) → None ≡ item_among group.first.now (all_behind more)
        → group.first.now.node ≡ (with_others group.first.now (all_behind more)).node
    by [] h = refl
    by (x ∷ more) h = absurd (cc)

pub item_united : (group : Group) (item : Field) → Some item ≡ item_of group → item ≡ (united group).node
item_united group item is = by group.more.items is
  where
    by : (more : List (Bor (Positioned Field))) → Some item ≡ item_among group.first.now (all_behind more)
        → item ≡ (with_others group.first.now (all_behind more)).node
    by [] h = absurd (cc)
    by (x ∷ more) h = cc

key_of_both : (f g : Positioned Field) → key_text (both f g) ≡ key_text f
key_of_both f g = ap (λ layer. (alias_or layer.alias layer.name).node) (out-roll-Field _)

-- a united field has the key of its first occurrence
pub key_with_others : (f : Positioned Field) (gs : List (Positioned Field)) → key_text (with_others f gs) ≡ key_text f
key_with_others f [] = refl
key_with_others f (g ∷ gs) = key_with_others (both f g) gs ∙ key_of_both f g
