-- The turn has come.
use Rattle.std.proofs.Common.{◌≡◌, ◌≢◌, ◌+◌, ◌++◌, inl, inr, ℕ, List, [], ◌∷◌, length, Option, Some, true, false, refl, sym, subst, ap}
use Rattle.std.proofs.Common.{◌∙◌, arith}
use Rattle.atomic_table.specs.Table.{Me}
use Rattle.gql_tickets.specs.declared.view.Part.{Part}
use Rattle.gql_tickets.specs.declared.view.View.{View}
use Rattle.gql_tickets.specs.Turns.{draws, Has, Looks}

pub one_part : {O E : Type 0} (ps : List (Part O E)) → length ps ≡ 1 → (p : Part O E) × (ps ≡ p ∷ [])
one_part [] e = absurd (omega arith)
one_part (p ∷ []) e = (p, refl)
one_part (p ∷ q ∷ qs) e = absurd (omega arith)

pub no_items : {A : Type 0} (xs : List A) → length xs ≡ 0 → xs ≡ []
no_items [] e = refl
no_items (x ∷ xs) e = absurd (omega arith)

module _ {O E A : Type 0} (by : E → ℕ) (IsAt : O → List E → A → Type 0) where
  drawn_has : (start n : Me (Option A) (View O E)) (ticket found : ℕ) → length start.1 ≡ 0
      → Looks by IsAt (draws start.0 ticket, start.1) found n → found ≡ ticket
      → (p : Part O E) × (start.0.parts ≡ p ∷ []) × Has by IsAt p start.0 n
  drawn_has start n ticket found empty (inl (own, (p, t))) same = (
    p,
    t.parts,
    record {
      taken = t.taken;
      between = t.between;
      is = t.is ∙ (ap (λ k. (
        record start.0 {
          drew = start.0.drew + 1;
          waits = true;
          ticket = k;
          out = true;
          counted = false;
          parts =
              record p { seen = p.seen ++ t.between } ∷ [];
        },
        (0, Some t.taken) ∷ start.1,
      )) (sym (ap (λ x. x.0.ticket) t.is))
          ∙ ap (λ l. (
            record start.0 {
              drew = start.0.drew + 1;
              waits = true;
              ticket = n.0.ticket;
              out = true;
              counted = false;
              parts =
                  record p { seen = p.seen ++ t.between } ∷ [];
            },
            (0, Some t.taken) ∷ l,
          )) (no_items start.1 empty));
      kept = t.kept;
      others = t.others;
    },
  )
  drawn_has start n ticket found empty (inr (other, same')) same = absurd (other same)

  pub takes_has : (start m n : Me (Option A) (View O E)) (ticket found : ℕ) → length start.1 ≡ 0 → m ≡ (draws start.0 ticket, start.1)
      → Looks by IsAt m found n → found ≡ ticket → (p : Part O E) × (start.0.parts ≡ p ∷ []) × Has by IsAt p start.0 n
  takes_has start m n ticket found empty e looks same = drawn_has start n ticket found empty (subst
      (λ x. Looks by IsAt x found n) e looks) same

  -- a look that finds another's turn changes nothing
  pub looks_on : (start m n : Me (Option A) (View O E)) (ticket found : ℕ) → m ≡ (draws start.0 ticket, start.1)
      → Looks by IsAt m found n → found ≢ ticket → n ≡ (draws start.0 ticket, start.1)
  looks_on start m n ticket found e (inl (own, _)) other = absurd (other (own ∙ ap (λ x. x.0.ticket) e))
  looks_on start m n ticket found e (inr (_, same)) other = same ∙ e
