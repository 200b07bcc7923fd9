-- What keeps the rule: a step of one seat, by what it does to its own view and what is left to the others; and seats that
-- wait for nothing, which come, go and change.
use Rattle.std.proofs.Common.{◌≡◌, ◌≢◌, ◌<◌, ◌≤◌, ◌+◌, ◌*◌, ◌++◌, ◌⊎◌, ⊎_elim, inl, inr, ℕ, true, false, List, [], ◌∷◌, length, set}
use Rattle.std.proofs.Common.{Option}
use Rattle.std.proofs.Common.{append_assoc, refl, sym, subst, ap, ◌∙◌, arith}
use Rattle.std.proofs.lemmas.Bool.{true≢false}
use mathlib.Core.Option.{none, some, some-injective}
use mathlib.Core.Option as maybe
use lib.ListN.{get_elem?}
use mathlib.Core.Logic.{dite}
use native.Mathlib.Decide.{ℕ_discrete}
use Rattle.atomic_table.proofs.Lists.{at_set, set_else}
use Rattle.gql_tickets.specs.declared.view.Part.{Part}
use Rattle.gql_tickets.specs.declared.view.View.{View}
use Rattle.gql_tickets.specs.Turns.{AllBelow, AreParts, At, entries_by, first_part, idle_view, IsPart, IsQuiet, Kept, Knows, Lies}
use Rattle.gql_tickets.specs.Turns.{other_parts, seen_in, times, total}
use Rattle.gql_tickets.proofs.EntryLemmas.{entries_append, entries_other}
use Rattle.gql_tickets.proofs.TotalLemmas.{set_at, times_own, total_set}

module _ {O E A : Type 0} (by : E → ℕ) (IsAt : O → List E → A → Type 0) where
  -- parts know as much of a longer history, if the entry isn't theirs
  part_more : (origin : O) (seats : ℕ) (log : List E) (e : E) (p : Part O E) → by e ≢ p.number → IsPart by IsAt origin seats log p
      → IsPart by IsAt origin seats (log ++ e ∷ []) p
  part_more origin seats log e p other k = record {
    origin_is = k.origin_is;
    below = k.below;
    rest = k.rest ++ e ∷ [];
    seen = ap (λ l. l ++ e ∷ []) k.seen ∙ append_assoc p.seen k.rest (e ∷ []);
    others = entries_append by p.number k.rest (e ∷ []) ∙ (ap (λ l. l ++ entries_by by p.number (e ∷ [])) k.others
        ∙ entries_other by p.number e other);
  }

  pub parts_more : (origin : O) (seats : ℕ) (log : List E) (e : E) (ps : List (Part O E)) → times (by e) ps ≡ 0
      → AreParts by IsAt origin seats log ps → AreParts by IsAt origin seats (log ++ e ∷ []) ps
  parts_more origin seats log e [] none_own k = tt
  parts_more origin seats log e (p ∷ ps) none_own k = (
    part_more origin seats log e p (λ own. let l = times_own p ps (by e) (sym own) in omega arith) k.0,
    parts_more origin seats log e ps (omega arith) k.1,
  )

  pub parts_append : (origin : O) (seats : ℕ) (log : List E) (ps qs : List (Part O E)) → AreParts by IsAt origin seats log ps
      → AreParts by IsAt origin seats log qs → AreParts by IsAt origin seats log (ps ++ qs)
  parts_append origin seats log [] qs k l = l
  parts_append origin seats log (p ∷ ps) qs k l = (k.0, parts_append origin seats log ps qs k.1 l)

  pub parts_first : (origin : O) (seats : ℕ) (log : List E) (ps : List (Part O E)) → AreParts by IsAt origin seats log ps
      → AreParts by IsAt origin seats log (first_part ps)
  parts_first origin seats log [] k = tt
  parts_first origin seats log (p ∷ ps) k = (k.0, tt)

  pub parts_other : (origin : O) (seats : ℕ) (log : List E) (ps : List (Part O E)) → AreParts by IsAt origin seats log ps
      → AreParts by IsAt origin seats log (other_parts ps)
  parts_other origin seats log [] k = tt
  parts_other origin seats log (p ∷ ps) k = k.1

  -- a seat that waits for nothing knows what its parts know
  pub knows_idle : (origin : O) (seats ticket turn : ℕ) (log : List E) (ps : List (Part O E)) (drew : ℕ)
      → AreParts by IsAt origin seats log ps → drew ≤ length ps * 4294967296
      → Knows by IsAt origin seats ticket turn log (idle_view ps drew)
  knows_idle origin seats ticket turn log ps drew parts few = record {
    parts = parts;
    one = λ w. absurd (true≢false (sym w));
    waiting = λ w. absurd (true≢false (sym w));
    has = λ o. absurd (true≢false (sym o));
    drew = few;
  }

  module _ (origin : O) (seats : ℕ) (words : List ℕ) (homes : List (maybe.Option (Option A))) (views : List (View O E))
      (kept : Kept by IsAt origin seats record { words = words; homes = homes; views = views }) where
    -- a step of one seat, by what it does to its own view and what is left to the others
    pub kept_step : (id : ℕ) (v w : View O E) → At views id v
        → (ticket turn : ℕ) (log : List E) (words' : List ℕ) (homes' : List (maybe.Option (Option A)))
        → words' ≡ ticket ∷ turn ∷ length log ∷ [] → turn ≤ ticket → kept.ticket + w.drew ≡ ticket + v.drew
        → length w.parts ≡ length v.parts → ((n : ℕ) → times n w.parts ≡ times n v.parts) → AllBelow by seats log
        → Knows by IsAt origin seats ticket turn log w
        → ((j : ℕ) (u : View O E) → j ≢ id → At views j u → Knows by IsAt origin seats ticket turn log u)
        → ((j : ℕ) (u : View O E) → j ≢ id → At views j u → w.waits ≡ true → u.waits ≡ true → w.ticket ≢ u.ticket)
        → ((t : ℕ) → turn ≤ t → t < ticket → ((w.waits ≡ true) × (w.ticket ≡ t)) ⊎ ((j : ℕ) × (u : View O E) ×
        (j ≢ id) × At views j u × (u.waits ≡ true) × (u.ticket ≡ t)))
        → Lies by IsAt origin log homes' (set views id w)
        → Kept by IsAt origin seats record { words = words'; homes = homes'; views = set views id w }
    kept_step id v w at ticket turn log words' homes' is ordered drew many same_times below own others apart held lies = record {
      ticket = ticket;
      turn = turn;
      log = log;
      words = is;
      ordered = ordered;
      drawn = let t = total_set (λ u. u.drew) views id v w at in let d = kept.drawn in omega arith;
      few = kept.few;
      seated = let t = total_set (λ u. length u.parts) views id v w at in let d = kept.seated in omega arith;
      once = λ n. let t = total_set (λ u. times n u.parts) views id v w at in let d = kept.once n in let s = same_times n in omega arith;
      callers = below;
      fits = λ j u there. ⊎_elim (λ here. subst (Knows by IsAt origin seats ticket turn log) here.1 own)
          (λ other. others j u other.0 other.1)
          (at_set views id j w u there);
      tickets = λ j j' u u' there there' waits waits' same.
          ⊎_elim (λ here. ⊎_elim (λ here'. here.0 ∙ sym here'.0)
          (λ other'. absurd (apart j' u' other'.0 other'.1 (ap (λ x. x.waits) here.1 ∙ waits) waits' (ap (λ x. x.ticket) here.1 ∙ same)))
          (at_set views id j' w u' there'))
          (λ other. ⊎_elim (λ here'. absurd (apart j u other.0 other.1 (ap (λ x. x.waits) here'.1
          ∙ waits') waits (ap (λ x. x.ticket) here'.1 ∙ sym same)))
          (λ other'. kept.tickets j j' u u' other.1 other'.1 waits waits' same)
          (at_set views id j' w u' there'))
          (at_set views id j w u there);
      held = λ t from to. ⊎_elim (λ own'. (id, w, set_at views id v w at, own'.0, own'.1))
          (λ (j, u, other, there, waits, is'). (j, u, set_else views id j w other ∙ there, waits, is'))
          (held t from to);
      lies = lies;
    }

    -- who holds a ticket still does, where the seat keeps its own
    pub held_same : (id : ℕ) (v w : View O E) → At views id v → w.waits ≡ v.waits → w.ticket ≡ v.ticket → (t : ℕ) → kept.turn ≤ t
        → t < kept.ticket
        → ((w.waits ≡ true) × (w.ticket ≡ t)) ⊎ ((j : ℕ) × (u : View O E) × (j ≢ id) × At views j u × (u.waits ≡ true) × (u.ticket ≡ t))
    held_same id v w at waits ticket t from to = let h = kept.held t from to in
        dite (ℕ_discrete h.0 id)
        (λ own. let same : v ≡ h.1 = some-injective v h.1 (sym at ∙ (ap (λ k. get_elem? views k) (sym own) ∙ h.2)) in
        inl (waits ∙ (ap (λ x. x.waits) same ∙ h.3), ticket ∙ (ap (λ x. x.ticket) same ∙ h.4)))
        (λ other. inr (h.0, h.1, other, h.2, h.3, h.4))

    -- who has the book stays so where a seat that hasn't it goes on
    pub lies_step : (log : List E) (id : ℕ) (v w : View O E) → At views id v → v.out ≡ false → w.out ≡ false
        → Lies by IsAt origin log homes views → Lies by IsAt origin log homes (set views id w)
    lies_step log id v w at free free' (inl (book, home, is, none_out)) =
        inl (
          book,
          home,
          is,
          λ j u there. ⊎_elim (λ here. sym (ap (λ x. x.out) here.1)
              ∙ free') (λ other. none_out j u other.1) (at_set views id j w u there),
        )
    lies_step log id v w at free free' (inr (away, by', u, there, out, seen)) =
        let other : by' ≢ id = (λ e. true≢false (sym out ∙ (ap (λ x. x.out) (some-injective u v (sym there
        ∙ (ap (λ k. get_elem? views k) e ∙ at))) ∙ free))) in
        inr (away, by', u, set_else views id by' w other ∙ there, out, seen)

    -- seats that wait for nothing come, go and change
    pub kept_quiet : (views' : List (View O E))
        → total (λ u. u.drew) views' ≡ total (λ u. u.drew) views
        → total (λ u. length u.parts) views' ≡ total (λ u. length u.parts) views
        → ((n : ℕ) → total (λ u. times n u.parts) views' ≡ total (λ u. times n u.parts) views)
        → ((j : ℕ) (u : View O E) → At views' j u → (At views j u) ⊎
        (IsQuiet u × Knows by IsAt origin seats kept.ticket kept.turn kept.log u))
        → ((j : ℕ) (u : View O E) → At views j u → u.waits ≡ true → At views' j u)
        → Kept by IsAt origin seats record { words = words; homes = homes; views = views' }
    kept_quiet views' drew many numbers each stays = record {
      ticket = kept.ticket;
      turn = kept.turn;
      log = kept.log;
      words = kept.words;
      ordered = kept.ordered;
      drawn = drew ∙ kept.drawn;
      few = kept.few;
      seated = many ∙ kept.seated;
      once = λ n. let o = kept.once n in let e = numbers n in omega arith;
      callers = kept.callers;
      fits = λ j u there. ⊎_elim (λ old. kept.fits j u old) (λ new. new.1) (each j u there);
      tickets = λ j j' u u' there there' waits waits' same.
          ⊎_elim (λ old. ⊎_elim (λ old'. kept.tickets j j' u u' old old' waits waits' same)
          (λ new'. absurd (true≢false (sym waits' ∙ new'.0.waits))) (each j' u' there'))
          (λ new. absurd (true≢false (sym waits ∙ new.0.waits))) (each j u there);
      held = λ t from to. let h = kept.held t from to in (h.0, h.1, stays h.0 h.1 h.2 h.3, h.3, h.4);
      lies = ⊎_elim (λ (book, home, is, none_out). inl (
        book,
        home,
        is,
        λ j u there. ⊎_elim (λ old. none_out j u old)
            (λ new. new.0.out) (each j u there),
      ))
          (λ (away, by', u, there, out, seen). inr (away, by', u, stays by' u there ((kept.fits by' u there).has out).0, out, seen))
          kept.lies;
    }
