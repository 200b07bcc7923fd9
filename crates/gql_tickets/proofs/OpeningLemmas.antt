-- The table of a desk at its start, and its seats.
use Rattle.std.proofs.Common.{◌≡◌, ◌<◌, ◌≤◌, ◌+◌, ◌++◌, inl, ℕ, zero, suc, false, List, [], ◌∷◌, Option, Some, refl, sym, subst, ap, ◌∙◌}
use Rattle.std.proofs.Common.{arith, length}
use Rattle.std.proofs.lemmas.Bool.{true≢false}
use mathlib.Core.Option.{some-injective, some-ne-none}
use Rattle.atomic_table.specs.Seated.{TableId}
use Rattle.atomic_table.specs.Table.{Me, opening}
use Rattle.gql_tickets.specs.declared.desk_seat.DeskSeat.{DeskSeat}
use Rattle.gql_tickets.specs.declared.view.View.{View}
use Rattle.gql_tickets.specs.Desks.{AreNew, ArePlacedAt, IsNew, IsPlacedAt}
use Rattle.gql_tickets.specs.Turns.{AreParts, At, from, idle_view, Kept, Knows, left_of, maker, right_of}
use Rattle.gql_tickets.proofs.TotalLemmas.{from_length, from_once}

module _ {O E A : Type 0} (by : E → ℕ) (IsAt : O → List E → A → Type 0) (origin : O) (seats : ℕ) where
  from_parts : (start count : ℕ) → start + count ≤ seats → AreParts by IsAt origin seats [] (from {O = O} {E = E} origin start count)
  from_parts start zero few = tt
  from_parts start (suc count) few = (
    record { origin_is = refl; below = omega arith; rest = []; seen = refl; others = refl },
    from_parts (start + 1) count (omega arith),
  )

  maker_knows : (id : ℕ) (v : View O E) → At (maker {O = O} {E = E} origin seats ∷ []) id v → Knows by IsAt origin seats 0 0 [] v
  maker_knows zero v at = subst (Knows by IsAt origin seats 0 0 []) (some-injective _ v at) (record {
    parts = from_parts 0 seats (omega arith);
    one = λ w. absurd (true≢false (sym w));
    waiting = λ w. absurd (true≢false (sym w));
    has = λ o. absurd (true≢false (sym o));
    drew = omega arith;
  })
  maker_knows (suc id) v at = absurd (some-ne-none v (sym at))

  maker_waits : (id : ℕ) (v : View O E) → At (maker {O = O} {E = E} origin seats ∷ []) id v → (v.waits ≡ false) × (v.out ≡ false)
  maker_waits zero v at =
      (sym (ap (λ x. x.waits) (some-injective _ v at)), sym (ap (λ x. x.out) (some-injective _ v at)))
  maker_waits (suc id) v at = absurd (some-ne-none v (sym at))

  -- the rule holds at the start
  pub opens : (held : A) → IsAt origin [] held → seats ≤ 65536
      → Kept by IsAt origin seats (opening (0 ∷ 0 ∷ 0 ∷ []) (Some held ∷ []) (maker origin seats))
  opens held is few = record {
    ticket = 0;
    turn = 0;
    log = [];
    words = refl;
    ordered = omega arith;
    drawn = refl;
    few = few;
    seated = let l = from_length E origin 0 seats in omega arith;
    once = λ n. let l = from_once E origin n 0 seats in omega arith;
    callers = tt;
    fits = maker_knows;
    tickets = λ j j' u u' there there' waits waits' same. absurd (true≢false (sym waits ∙ (maker_waits j u there).0));
    held = λ t from to. absurd (omega arith);
    lies = inl (held, refl, is, λ j u there. (maker_waits j u there).1);
  }

  pub opens_with : (slots : List (Option A)) (held : A) → slots ≡ Some held ∷ [] → IsAt origin [] held → seats ≤ 65536
      → Kept by IsAt origin seats (opening (0 ∷ 0 ∷ 0 ∷ []) slots (maker origin seats))
  opens_with slots held e is few =
      subst (λ xs. Kept by IsAt origin seats (opening (0 ∷ 0 ∷ 0 ∷ []) xs (maker origin seats))) (sym e) (opens held is few)

module _ {A E : Type 0} where
  pub placed_snoc : (table : TableId) (first : A) (seats : List (DeskSeat A E)) (seat : DeskSeat A E)
      → ArePlacedAt table first seats → IsPlacedAt table first seat → ArePlacedAt table first (seats ++ seat ∷ [])
  placed_snoc table first [] seat all one = (one, tt)
  placed_snoc table first (x ∷ xs) seat all one = (all.0, placed_snoc table first xs seat all.1 one)

  -- one more, of the next number
  pub new_snoc : (start n : ℕ) (seats : List (DeskSeat A E)) (seat : DeskSeat A E) → start + length seats ≡ n
      → AreNew start seats → IsNew n seat → AreNew start (seats ++ seat ∷ [])
  new_snoc start n [] seat many all one = (subst (λ k. IsNew k seat) (let e : n ≡ start = omega arith in e) one, tt)
  new_snoc start n (x ∷ xs) seat many all one =
      (all.0, new_snoc (start + 1) n xs seat (let e : (start + 1) + length xs ≡ n = omega arith in e) all.1 one)

-- one more seat is dealt
pub record Dealt {O E S : Type 0} (first : O) (n seats : ℕ) (left right : Me S (View O E)) : Type 0 where
  pub rest : ℕ
  pub sum : rest + (n + 1) ≡ seats
  pub left_is : left ≡ (idle_view (from first (n + 1) rest) 0, [])
  pub right_is : right ≡ (idle_view (record { origin = first; number = n; seen = [] } ∷ []) 0, [])

pub next : {O E S : Type 0} (first : O) (n m seats : ℕ) (old left right : Me S (View O E)) → m + n ≡ seats → n < seats
    → old ≡ (idle_view (from first n m) 0, []) → left ≡ (left_of old.0, old.1) → right ≡ (right_of old.0, [])
    → Dealt first n seats left right
next first n zero seats old left right sum less e l r = absurd (omega arith)
next first n (suc m) seats old left right sum less e l r = record {
  rest = m;
  sum = omega arith;
  left_is = l ∙ ap (λ x. (left_of x.0, x.1)) e;
  right_is = r ∙ ap (λ x. (right_of x.0, [])) e;
}
