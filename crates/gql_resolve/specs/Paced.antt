-- Futures that take as many pending polls as the delay of their resolver.
use Rattle.std.specs.Prelude.{◌≡◌, ℕ, suc}
use Rattle.gql_resolve.specs.declared.field_future.FieldFuture.{FieldFuture}
use Rattle.gql_resolve.specs.declared.field_future.FieldFuture.TheVariants.{Value, Future}
use Rattle.gql_resolve.specs.declared.answer.Polled.{Polled}
use Rattle.gql_resolve.specs.declared.answer.Polled.TheVariants.{Ready, Pending}

module _ {V F : Type 0} (number : F → ℕ) where
  -- a future begins with the delay as its number, and a value comes at once only where the delay is
  -- 0
  abbrev pub StartsPaced : ℕ → FieldFuture V F → Type 0
  StartsPaced delay (Value value) = delay ≡ 0
  StartsPaced delay (Future future) = number future ≡ delay

  -- a poll is ready exactly where the number is 0; else it lowers the number by one
  abbrev pub PollsPaced : F → F → Polled V → Type 0
  PollsPaced old new (Ready answer) = number old ≡ 0
  PollsPaced old new Pending = number old ≡ suc (number new)
