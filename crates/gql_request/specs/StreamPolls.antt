-- What one poll of a stream of responses does to what the stream and its executor tell.
use Rattle.std.specs.Prelude.{◌≡◌, ◌⊎◌, ℕ, ◌+◌, ◌<◌, ◌≤◌, ◌^◌, ◌-◌, List, Option, Some, None}
use Rattle.gql_base.specs.declared.server_error.ServerError.{ServerError}
use Rattle.gql_request.specs.declared.response.Response.{Response}
use Rattle.gql_request.specs.declared.stream_poll.StreamPoll.{StreamPoll}
use Rattle.gql_request.specs.declared.stream_poll.StreamPoll.TheVariants as poll

-- the greatest number that a count can be kept as
abbrev pub limit : ℕ
limit = 2 ^ 64 - 1

-- a count that rises by so much, or stands at its end
abbrev pub RisesBy : ℕ → ℕ → ℕ → Type 0
RisesBy more old new = (new ≡ old + more) ⊎ (limit ≤ new)

-- a count that rose, or stands at its end
abbrev pub HasRisen : ℕ → ℕ → Type 0
HasRisen old new = (old < new) ⊎ (limit ≤ new)

-- a count that is told, or not, and that rises by so much
abbrev pub Counts : ℕ → Option ℕ → Option ℕ → Type 0
Counts more None new = new ≡ None
Counts more (Some old) None = ⊥
Counts more (Some old) (Some new) = RisesBy more old new

-- the counts of responses, of refusals and of ends rise by so much
pub record Tallies {S : Type 0} (items refusals ends : S → Option ℕ)
    (given refused ended : ℕ) (before later : S) : Type 0 where
  pub of_items : Counts given (items before) (items later)
  pub of_refusals : Counts refused (refusals before) (refusals later)
  pub of_ends : Counts ended (ends before) (ends later)

module _ {E S W : Type 0} (world : E → W) (is_steady : E → Type 0) (pendings : S → ℕ)
    (items refusals ends : S → Option ℕ) (gives : W → S → Response → Type 0)
    (refuses : W → S → List ServerError → Type 0) (leaves : W → S → Response → W → Type 0)
    (becomes : W → S → StreamPoll → S → Type 0) where
  -- a steady executor has the world that it had
  abbrev pub StaysIn : E → E → Type 0
  StaysIn old new = is_steady old → world new ≡ world old

  -- what one answer does: a response comes as the stream may give it and leaves a world that may
  -- stand then, and without a response the world of a steady executor stays; the count of its kind
  -- rises by one, and the others don't
  abbrev pub PollsStream : E → E → S → S → StreamPoll → Type 0
  PollsStream old new before later (poll.Item response) =
      gives (world old) before response
      × leaves (world old) before response (world new)
      × Tallies items refusals ends 1 0 0 before later
      × becomes (world old) before (poll.Item response) later
  PollsStream old new before later (poll.Refused errors) =
      refuses (world old) before errors
      × StaysIn old new
      × Tallies items refusals ends 0 1 0 before later
      × becomes (world old) before (poll.Refused errors) later
  PollsStream old new before later poll.Ended =
      StaysIn old new
      × Tallies items refusals ends 0 0 1 before later
      × becomes (world old) before poll.Ended later
  PollsStream old new before later poll.Pending =
      HasRisen (pendings before) (pendings later)
      × StaysIn old new
      × Tallies items refusals ends 0 0 0 before later
      × becomes (world old) before poll.Pending later
