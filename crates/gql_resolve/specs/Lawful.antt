-- What the calls of a resolver set promise, and what makes them lawful.
use Rattle.std.specs.Prelude.{◌≡◌, ℕ, ◌<◌, [], Option, Result, Ok, Err, IsTrue}
use Rattle.gql_resolve.specs.declared.field_value.FieldValue.{FieldValue}
use Rattle.gql_resolve.specs.declared.field_future.FieldFuture.{FieldFuture}
use Rattle.gql_resolve.specs.declared.field_future.FieldFuture.TheVariants.{Value, Future}
use Rattle.gql_resolve.specs.declared.answer.Answer.{Answer}
use Rattle.gql_resolve.specs.declared.answer.Polled.{Polled}
use Rattle.gql_resolve.specs.declared.answer.Polled.TheVariants.{Ready, Pending}
use Rattle.gql_resolve.specs.Call.{Call}

module _ {V F : Type 0} (is_for : F → Call V → Type 0) where
  -- for every set: a future that a start gives is for its call
  abbrev pub PromisesStart : Call V → FieldFuture V F → Type 0
  PromisesStart call (Value value) = Unit {0}
  PromisesStart call (Future future) = is_for future call

  -- for every set: a pending poll leaves the future for its call, and lowers its number
  abbrev pub PromisesPoll : (F → ℕ) → Call V → F → F → Polled V → Type 0
  PromisesPoll number call old new (Ready answer) = Unit {0}
  PromisesPoll number call old new Pending = is_for new call × (number new < number old)

-- the answer with a value, if any, and nothing beside it
abbrev pub plain_answer : {V : Type 0} → Option (FieldValue V) → Answer V
plain_answer value = record { result = Ok value; added = []; headers = [] }

module _ {V W E : Type 0} (answer : Call V → W → Answer V) where
  -- a value is the answer in the world, which stays; at a root key of a mutation its effect is none
  abbrev pub StartsLawfully : {F : Type 0} → (Call V → W → W) → Call V → W → W
      → Result (FieldFuture V F) E → Type 0
  StartsLawfully effect call old new (Ok (Value value)) =
      (new ≡ old) × (plain_answer value ≡ answer call old)
      × (IsTrue call.is_root → effect call old ≡ old)
  StartsLawfully effect call old new (Ok (Future future)) = new ≡ old
  StartsLawfully effect call old new (Err want) = new ≡ old

  -- a completed poll gives the answer in the world, which stays
  abbrev pub PollsLawfully : Call V → W → W → Result (Polled V) E → Type 0
  PollsLawfully call old new (Ok (Ready given)) = (new ≡ old) × (given ≡ answer call old)
  PollsLawfully call old new (Ok Pending) = new ≡ old
  PollsLawfully call old new (Err want) = new ≡ old

  -- a completed poll of a root gives the answer in the world before it, and the world becomes the
  -- effect
  abbrev pub PollsRootLawfully : (Call V → W → W) → Call V → W → W → Result (Polled V) E → Type 0
  PollsRootLawfully effect call old new (Ok (Ready given)) =
      (new ≡ effect call old) × (given ≡ answer call old)
  PollsRootLawfully effect call old new (Ok Pending) = new ≡ old
  PollsRootLawfully effect call old new (Err want) = new ≡ old
