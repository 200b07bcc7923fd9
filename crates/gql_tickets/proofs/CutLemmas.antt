-- Splits and joins of seats that wait for nothing keep the rule.
use Rattle.std.proofs.Common.{◌≡◌, ◌≤◌, ◌+◌, ◌++◌, ⊎_elim, inl, inr, ℕ, List, [], ◌∷◌, length, set, length-append, refl, sym, subst, ap}
use Rattle.std.proofs.Common.{◌∙◌, arith}
use Rattle.std.proofs.lemmas.Bool.{true≢false}
use mathlib.Core.Option.{some-injective}
use lib.ListN.{get_elem?}
use Rattle.atomic_table.proofs.Lists.{at_set, at_snoc, at_longer, set_else}
use Rattle.atomic_table.specs.Table.{Joins, Splits}
use Rattle.gql_tickets.specs.declared.view.Part.{Part}
use Rattle.gql_tickets.specs.declared.view.View.{View}
use Rattle.gql_tickets.specs.Turns.{At, both_of, first_part, idle_view, IsQuiet, Kept, Knows, left_of, other_parts, right_of, spent_one}
use Rattle.gql_tickets.specs.Turns.{times}
use Rattle.gql_tickets.proofs.TotalLemmas.{times_append, total_set, total_snoc}
use Rattle.gql_tickets.proofs.TurnLemmas.{knows_idle, kept_quiet, parts_append, parts_first, parts_other}

module _ {O E A : Type 0} (by : E → ℕ) (IsAt : O → List E → A → Type 0) where
  length_cut : (ps : List (Part O E)) → length (other_parts ps) + length (first_part ps) ≡ length ps
  length_cut [] = refl
  length_cut (p ∷ ps) = omega arith

  times_cut : (n : ℕ) (ps : List (Part O E)) → times n (other_parts ps) + times n (first_part ps) ≡ times n ps
  times_cut n [] = refl
  times_cut n (p ∷ ps) = omega arith

  quiet_idle : (ps : List (Part O E)) (drew : ℕ) → IsQuiet (idle_view ps drew)
  quiet_idle ps drew = record { waits = refl; out = refl }

  -- a new seat gets the first number of one that has drawn no ticket
  pub split_moves : (origin : O) (seats id : ℕ) (v : View O E) → IsQuiet v → v.drew ≡ 0
      → Splits (Kept by IsAt origin seats) id v (left_of v) (right_of v)
  split_moves origin seats id v quiet drew s kept at =
      let mine = kept.fits id v at in
      let l : View O E = left_of v in let r : View O E = right_of v in
      let cut : List (View O E) = set s.views id l in
      let views' : List (View O E) = cut ++ r ∷ [] in
      kept_quiet by IsAt origin seats s.words s.homes s.views kept views'
      (let a = total_set (λ u. u.drew) s.views id v l at in let b = total_snoc (λ u. u.drew) cut r in omega arith)
      (let a = total_set (λ u. length u.parts) s.views id v l at in let b = total_snoc (λ u. length u.parts) cut r in
      let c = length_cut v.parts in omega arith)
      (λ n. let a = total_set (λ u. times n u.parts) s.views id v l at in let b = total_snoc (λ u. times n u.parts) cut r in
      let c = times_cut n v.parts in omega arith)
      (λ j u there. ⊎_elim
      (λ old. ⊎_elim
      (λ here. inr (
        subst IsQuiet here.1 (quiet_idle _ 0),
        subst (Knows by IsAt origin seats kept.ticket kept.turn kept.log) here.1
            (knows_idle by IsAt origin seats kept.ticket kept.turn kept.log (other_parts v.parts) 0
            (parts_other by IsAt origin seats kept.log v.parts mine.parts) (omega arith)),
      ))
      (λ other. inl other.1) (at_set s.views id j l u old))
      (λ new. inr (
        subst IsQuiet new (quiet_idle _ 0),
        subst (Knows by IsAt origin seats kept.ticket kept.turn kept.log) new
            (knows_idle by IsAt origin seats kept.ticket kept.turn kept.log (first_part v.parts) 0
            (parts_first by IsAt origin seats kept.log v.parts mine.parts) (omega arith)),
      ))
      (at_snoc cut r u j there))
      (λ j u there waits. at_longer cut (r ∷ []) j u
      (set_else s.views id j l (λ own. true≢false (sym waits ∙ (ap (λ x. x.waits) (some-injective u v (sym there
      ∙ (ap (λ k. get_elem? s.views k) own ∙ at))) ∙ quiet.waits))) ∙ there))

  -- a seat takes in another's numbers
  pub join_moves : (origin : O) (seats id : ℕ) (v : View O E) (other : ℕ) (w : View O E) → IsQuiet v → IsQuiet w
      → Joins (Kept by IsAt origin seats) id v other w (both_of v w) spent_one
  join_moves origin seats id v other w quiet quiet' s kept at apart at' =
      let b : View O E = both_of v w in let e : View O E = spent_one in
      let one : List (View O E) = set s.views id b in
      let views' : List (View O E) = set one other e in
      let there' : At s.views other w = sym (set_else s.views id other b apart) ∙ at' in
      let mine = kept.fits id v at in
      let its = kept.fits other w there' in
      let few = mine.drew in let few' = its.drew in
      let length_both : length (v.parts ++ w.parts) ≡ length v.parts + length w.parts = length-append v.parts w.parts in
      kept_quiet by IsAt origin seats s.words s.homes s.views kept views'
      (let a = total_set (λ u. u.drew) s.views id v b at in let c = total_set (λ u. u.drew) one other w e at' in omega arith)
      (let a = total_set (λ u. length u.parts) s.views id v b at in let c = total_set (λ u. length u.parts) one other w e at' in
      omega arith)
      (λ n. let a = total_set (λ u. times n u.parts) s.views id v b at in
      let c = total_set (λ u. times n u.parts) one other w e at' in let d = times_append n v.parts w.parts in omega arith)
      (λ j u there. ⊎_elim
      (λ here. inr (
        subst IsQuiet here.1 (quiet_idle [] 0),
        subst (Knows by IsAt origin seats kept.ticket kept.turn kept.log) here.1
            (knows_idle by IsAt origin seats kept.ticket kept.turn kept.log [] 0 tt (omega arith)),
      ))
      (λ old. ⊎_elim
      (λ here. inr (
        subst IsQuiet here.1 (quiet_idle _ _),
        subst (Knows by IsAt origin seats kept.ticket kept.turn kept.log) here.1
            (knows_idle by IsAt origin seats kept.ticket kept.turn kept.log (v.parts ++ w.parts) (v.drew + w.drew)
            (parts_append by IsAt origin seats kept.log v.parts w.parts mine.parts its.parts) (omega arith)),
      ))
      (λ older. inl older.1) (at_set s.views id j b u old.1))
      (at_set one other j e u there))
      (λ j u there waits.
      set_else one other j e (λ own. true≢false (sym waits ∙ (ap (λ x. x.waits) (some-injective u w (sym there
      ∙ (ap (λ k. get_elem? s.views k) own ∙ there'))) ∙ quiet'.waits)))
      ∙ (set_else s.views id j b (λ own. true≢false (sym waits ∙ (ap (λ x. x.waits) (some-injective u v (sym there
      ∙ (ap (λ k. get_elem? s.views k) own ∙ at))) ∙ quiet.waits))) ∙ there))
