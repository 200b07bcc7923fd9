-- What all seats together know at the end.
use Rattle.std.proofs.Common.{◌≡◌, ◌≢◌, ◌++◌, ⊎_elim, ℕ, Bool, true, false, List, [], ◌∷◌, length, Option, Some, None}
use Rattle.std.proofs.Common.{append-nil, sym, subst, ap, ◌∙◌, arith}
use Rattle.std.proofs.lemmas.Bool.{true≢false}
use mathlib.Core.Option.{some, some-injective}
use lib.ListN.{get_elem?}
use Rattle.atomic_table.specs.Seated.{TableId}
use Rattle.atomic_table.specs.Table.{Final, Seen}
use Rattle.gql_tickets.specs.declared.desk_seat.DeskSeat.{DeskSeat}
use Rattle.gql_tickets.specs.declared.view.Part.{Part}
use Rattle.gql_tickets.specs.declared.view.View.{View}
use Rattle.gql_tickets.specs.Desks.{AreAllTold, ArePlacedAt, IsPlacedAt, parts_at}
use Rattle.gql_tickets.specs.Turns.{AllBelow, AreAll, AreParts, entries_by, IsQuiet, Kept, number_in, seen_in}
use Rattle.gql_tickets.proofs.EntryLemmas.{entries_append}
use Rattle.gql_tickets.proofs.TakingLemmas.{one_part}
use Rattle.gql_tickets.proofs.TotalLemmas.{total_two}

module _ {A E : Type 0} (by : E → ℕ) (log : List E) where
  all_append : (ps qs : List (Part A E)) → AreAll by log ps → AreAll by log qs → AreAll by log (ps ++ qs)
  all_append [] qs a b = b
  all_append (p ∷ ps) qs a b = (a.0, all_append ps qs a.1 b)

  pub all_left : (ps qs : List (Part A E)) → AreAll by log (ps ++ qs) → AreAll by log ps
  all_left [] qs a = tt
  all_left (p ∷ ps) qs a = (a.0, all_left ps qs a.1)

  pub all_right : (ps qs : List (Part A E)) → AreAll by log (ps ++ qs) → AreAll by log qs
  all_right [] qs a = a
  all_right (p ∷ ps) qs a = all_right ps qs a.1

  pub all_snoc : (seats : List (DeskSeat A E)) (seat : DeskSeat A E)
      → AreAll by log (parts_at seats) → AreAll by log seat.place.me.0.parts → AreAll by log (parts_at (seats ++ seat ∷ []))
  all_snoc [] seat a b = all_append seat.place.me.0.parts [] b tt
  all_snoc (x ∷ xs) seat a b = all_append x.place.me.0.parts (parts_at (xs ++ seat ∷ []))
      (all_left x.place.me.0.parts (parts_at xs) a)
      (all_snoc xs seat (all_right x.place.me.0.parts (parts_at xs) a) b)

  -- what the one part of a seat says, by the seat's number
  part_told : (n : ℕ) (ps : List (Part A E)) → length ps ≡ 1 → number_in ps ≡ n → AreAll by log ps
      → entries_by by n log ≡ entries_by by n (seen_in ps)
  part_told n [] one is a = absurd (omega arith)
  part_told n (p ∷ ps) one is a = subst (λ k. entries_by by k log ≡ entries_by by k p.seen) is a.0

  -- the same by the seats
  pub all_told : (seats : List (DeskSeat A E)) → AreAll by log (parts_at seats) → AreAllTold by log seats
  all_told [] a = tt
  all_told (x ∷ xs) a = (
    part_told x.number x.place.me.0.parts x.one x.number_is (all_left x.place.me.0.parts (parts_at xs) a),
    all_told xs (all_right x.place.me.0.parts (parts_at xs) a),
  )

module _ {A E : Type 0} (table : TableId) (first : A) where
  pub placed_front : (seats : List (DeskSeat A E)) (seat : DeskSeat A E) → ArePlacedAt table first (seats ++ seat ∷ [])
      → ArePlacedAt table first seats
  placed_front [] seat a = tt
  placed_front (x ∷ xs) seat a = (a.0, placed_front xs seat a.1)

  pub placed_last : (seats : List (DeskSeat A E)) (seat : DeskSeat A E) → ArePlacedAt table first (seats ++ seat ∷ [])
      → IsPlacedAt table first seat
  placed_last [] seat a = a.0
  placed_last (x ∷ xs) seat a = placed_last xs seat a.1

module _ {O E A : Type 0} (by : E → ℕ) (IsAt : O → List E → A → Type 0) (first : O) (seats : ℕ) where
  all_parts : (log : List E) (ps : List (Part O E)) → AreParts by IsAt first seats log ps → AreAll by log ps
  all_parts log [] k = tt
  all_parts log (p ∷ ps) k = (
    ap (entries_by by p.number) k.0.seen ∙ (entries_append by p.number p.seen k.0.rest
        ∙ (ap (λ l. entries_by by p.number p.seen ++ l) k.0.others ∙ append-nil _)),
    all_parts log ps k.1,
  )

  -- where one seat has all numbers and waits for nothing, the thing is at home
  pub record Ends (slots : List (Option A)) (v : View O E) : Type 0 where
    pub thing : A
    pub there : get_elem? slots 0 ≡ some (Some thing)
    pub log : List E
    pub is : IsAt first log thing
    pub below : AllBelow by seats log
    pub all : AreAll by log v.parts

  pub ends : (id : ℕ) (v : View O E) (words : List ℕ) (slots : List (Option A)) → IsQuiet v → length v.parts ≡ seats
      → Final (Seen (Kept by IsAt first seats) id v) words slots → Ends slots v
  ends id v words slots quiet many f =
      let s = f.0 in let kept = f.1.0 in let at = f.1.1 in
      ⊎_elim (λ (thing, home, is, none_out). record {
        thing = thing;
        there = f.4 0 (Some thing) (ap (λ hs. get_elem? hs 0) home);
        log = kept.log;
        is = is;
        below = kept.callers;
        all = all_parts kept.log v.parts (kept.fits id v at).parts;
      })
      (λ (away, by', u, there, out, seen).
      let k = kept.fits by' u there in let waits = (k.has out).0 in let one = k.one waits in
      let other : id ≢ by' = (λ e. true≢false (sym waits
      ∙ (ap (λ x. x.waits) (some-injective u v (sym there ∙ (ap (λ j. get_elem? s.views j) (sym e) ∙ at))) ∙ quiet.waits))) in
      let two = total_two (λ x. length x.parts) s.views id by' v u other at there in
      let seated = kept.seated in absurd (omega arith))
      kept.lies

pub taken_is : {A : Type 0} (slots : List (Option A)) (x : A) (r : Option A) → get_elem? slots 0 ≡ some (Some x)
    → get_elem? slots 0 ≡ some r → r ≡ Some x
taken_is slots x r e f = some-injective r (Some x) (sym f ∙ e)

held : {A : Type 0} → A → Option A → A
held d (Some a) = a
held d None = d

pub some_same : {A : Type 0} (a b : A) → Some a ≡ Some b → a ≡ b
unfolding held
some_same a b e = ap (held a) e

is_some : {A : Type 0} → Option A → Bool
is_some (Some a) = true
is_some None = false

pub not_none : {A : Type 0} (a : A) → Some a ≡ None → ⊥
unfolding is_some
not_none a e = true≢false (ap is_some e)
