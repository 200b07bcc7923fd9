-- Errors with values that a callback adds.
use Rattle.std.specs.Prelude.{◌≡◌, ℕ, List, [], ◌∷◌, Option, Some, None, Result, Ok, Err}
use Rattle.std.specs.Fn.{Once}
use denote.Ref.{Bor, MutBor}
use Rattle.gql_base.specs.ErrorExtensionValues.{set_in_order}
use Rattle.gql_base.specs.declared.error.Error.{Error}
use Rattle.gql_base.specs.declared.value.Value.{Value}

-- values under names, as contracts see `ErrorExtensionValues`
abbrev pub Values : Type 0
Values = List (List ℕ × Value)

-- the first values, with the others in place of those of the same names
abbrev pub overlaid : Values → Values → Values
overlaid values [] = values
overlaid values (pair ∷ pairs) = overlaid (set_in_order values pair.0 pair.1) pairs

abbrev pub values_or_none : Option Values → Values
values_or_none None = []
values_or_none (Some values) = values

-- an error with these values over its own
abbrev pub extended : Error → Values → Error
extended error values =
    record error { extensions = Some (overlaid (values_or_none error.extensions) values) }

-- the error with a message alone
abbrev pub bare : List ℕ → Error
bare text = record { message = text; extensions = None }

module _ {C S E : Type 0}
    (g : Once C (Bor S × (MutBor Values × Unit {0}))
    (Result (Unit {0}) E × (MutBor Values × Unit {0})))
    (callback : C) (value : S) where
  -- a callback may be called on a value and any extensions
  abbrev pub IsCallableOn : Type 0
  IsCallableOn =
      (seen : Bor S) (given : MutBor Values) → seen.now ≡ value → g.pre callback (seen, (given, tt))

  -- a call of it on this value and on no extensions may succeed and leave these
  pub record Leaves (values : Values) : Type 0 where
    pub seen : Bor S
    pub given : MutBor Values
    pub left : MutBor Values
    pub shows : seen.now ≡ value
    pub empty : given.now ≡ []
    pub met : g.post callback (seen, (given, tt)) (Ok tt, (left, tt))
    pub leaves : left.now ≡ values

  -- the error of a value, with what a callback adds on it
  pub record IsExtended (plain made : Error) : Type 0 where
    pub values : Values
    pub added : Leaves values
    pub is : made ≡ extended plain values

-- a result whose error is told with what a callback adds
abbrev pub IsExtendedResult : {C T S E : Type 0}
    (g : Once C (Bor S × (MutBor Values × Unit {0}))
    (Result (Unit {0}) E × (MutBor Values × Unit {0})))
    → C → (S → Error) → Result T S → Result T Error → Type 0
IsExtendedResult g callback told (Ok value) (Ok other) = other ≡ value
IsExtendedResult g callback told (Ok value) (Err error) = ⊥
IsExtendedResult g callback told (Err value) (Ok other) = ⊥
IsExtendedResult g callback told (Err value) (Err error) =
    IsExtended g callback value (told value) error

-- a result whose error is told as it is
abbrev pub told_result : {T S : Type 0} → (S → Error) → Result T S → Result T Error
told_result told (Ok value) = Ok value
told_result told (Err value) = Err (told value)
