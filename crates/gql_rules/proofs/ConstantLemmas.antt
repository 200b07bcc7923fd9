-- Nothing is told of a value in which no variable stands.
use Rattle.std.proofs.Common.{◌≡◌, ℕ, Bool, true, false, ◌&&◌, List, [], ◌∷◌, ◌++◌, map, Option, refl, sym, subst, ◌∙◌, ap}
use Rattle.std.specs.List.{flat_map, list_all}
use Rattle.gql_doc.specs.declared.document.Argument.{Argument}
use Rattle.gql_doc.specs.declared.document.DocValue.{DocValue, roll-DocValue}
use Rattle.gql_doc.specs.declared.document.DocValue.TheOpen.{DocValue-F}
use Rattle.gql_doc.specs.declared.document.DocValue.TheFolds.{fold-roll-DocValue, ind-DocValue, map-DocValue}
use Rattle.gql_doc.specs.declared.document.Positioned.{Positioned}
use Rattle.gql_doc.specs.declared.document.VariableDefinition.{VariableDefinition}
use Rattle.gql_schema.specs.TableReading.{TypeTable}
use Rattle.gql_fields.specs.UsePlaces.{constant_step, is_constant}
use Rattle.gql_rules.specs.VariableUses.{TellsIn, ValuePlace, items_place, member_place, told_in_value, value_step}

never : {A : Type 0} → false ≡ true → A
never e = cc

both-so : (a b : Bool) → (a && b) ≡ true → (a ≡ true) × (b ≡ true)
both-so true b e = (refl, e)
both-so false b e = cc

module _ (table : TypeTable) (definitions : List (Positioned VariableDefinition)) (argument : Argument) where
  IsSilent : DocValue → Type 0
  IsSilent value = is_constant value ≡ true → (place : Option ValuePlace) → told_in_value table definitions argument value place ≡ []

  module _ (E : Type 0) (t : E → DocValue) (is : (e : E) → IsSilent (t e)) where
    items : (es : List E) → list_all (λ constant. constant) (map is_constant (map t es)) ≡ true → (place : Option ValuePlace)
        → flat_map (λ (tells : TellsIn). tells place) (map (told_in_value table definitions argument) (map t es)) ≡ []
    unfolding IsSilent
    items [] h place = refl
    items (e ∷ es) h place =
        let parts = both-so (is_constant (t e)) _ h in
        λ i. is e parts.0 place i ++ items es parts.1 place i

    members : (ms : List (List ℕ × E))
        → list_all (λ (m : List ℕ × Bool). m.1) (map (λ (p : List ℕ × DocValue). (p.0, is_constant p.1)) (map (λ (p : List ℕ × E). (p.0, t p.1)) ms)) ≡ true
        → (place : Option ValuePlace)
        → flat_map (λ (m : List ℕ × TellsIn). m.1 (member_place table m.0 place))
        (map (λ (p : List ℕ × DocValue). (p.0, told_in_value table definitions argument p.1)) (map (λ (p : List ℕ × E). (p.0, t p.1)) ms)) ≡ []
    unfolding IsSilent
    members [] h place = refl
    members (m ∷ ms) h place =
        let parts = both-so (is_constant (t m.1)) _ h in
        λ i. is m.1 parts.0 (member_place table m.0 place) i ++ members ms parts.1 place i

    middle : (y : DocValue-F E) → constant_step (map-DocValue DocValue Bool is_constant (map-DocValue E DocValue t y)) ≡ true → (place : Option ValuePlace)
        → value_step table definitions argument (map-DocValue DocValue TellsIn (told_in_value table definitions argument) (map-DocValue E DocValue t y)) place ≡ []
    middle (DocValue-F.Variable name) h place = never h
    middle (DocValue-F.Null) h place = refl
    middle (DocValue-F.Boolean truth) h place = refl
    middle (DocValue-F.Number number) h place = refl
    middle (DocValue-F.String text) h place = refl
    middle (DocValue-F.Enum name) h place = refl
    middle (DocValue-F.List es) h place = items es h (items_place place)
    middle (DocValue-F.Object ms) h place = members ms h place

    layer : (y : DocValue-F E) → IsSilent (roll-DocValue (map-DocValue E DocValue t y))
    unfolding IsSilent
    layer y h place =
        let x : DocValue-F DocValue = map-DocValue E DocValue t y in
        let constant = sym (fold-roll-DocValue Bool constant_step x) ∙ h in
        ap (λ (tells : TellsIn). tells place) (fold-roll-DocValue TellsIn (value_step table definitions argument) x) ∙ middle y constant place

  value_silent : (value : DocValue) → IsSilent value
  value_silent = ind-DocValue IsSilent (λ x y is. subst (λ z. IsSilent (roll-DocValue z)) is (layer _ (λ e. e.0) (λ e. e.1) y))

  pub constant_silent : (value : DocValue) → is_constant value ≡ true → (place : Option ValuePlace)
      → told_in_value table definitions argument value place ≡ []
  unfolding IsSilent
  constant_silent value h place = value_silent value h place
