-- What was written into a guest book.
use Rattle.std.proofs.Common.{◌≡◌, ◌<◌, ◌^◌, ◌++◌, ℕ, Bool, true, false, [], ◌∷◌, length, subst}
use Rattle.gql_tickets_tests.specs.Signing.{Wrote}
use Rattle.gql_tickets_tests.specs.declared.guestbook.Guestbook.{Guestbook}
use Rattle.gql_tickets_tests.specs.declared.guestbook.Line.{Line}

module _ (guest : ℕ) (old new : Guestbook) (wrote : Bool) where
  pub wrote_one : wrote ≡ true → Wrote guest old new wrote → (line : Line) × (line.guest ≡ guest)
      × (new.lines.items ≡ old.lines.items ++ line ∷ []) × (length new.lines.items < 2 ^ 63)
  wrote_one is w = subst (λ b. Wrote guest old new b) is w

  pub wrote_none : wrote ≡ false → Wrote guest old new wrote → new.lines.items ≡ old.lines.items
  wrote_none is w = subst (λ b. Wrote guest old new b) is w
