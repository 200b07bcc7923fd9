-- The four steps that a seat makes on a word keep the rule.
use Rattle.std.proofs.Common.{◌≡◌, ◌≢◌, ◌<◌, ◌≤◌, ◌+◌, ◌*◌, ◌%◌, ◌^◌, ◌++◌, ◌⊎◌, ⊎_elim, inl, inr, ℕ, true, false, List, [], ◌∷◌, length}
use Rattle.std.proofs.Common.{slice_index, slice_set, Option, Some, append-nil, length-append, lt_of_not-le, refl, sym, subst, ap, ◌∙◌}
use Rattle.std.proofs.Common.{arith}
use Rattle.std.proofs.lemmas.Bool.{true≢false, false_from_ne_true as false_of}
use Rattle.std.proofs.Math.Nat.{mod-eq_of_lt}
use mathlib.Core.Option.{none, some, some-injective}
use mathlib.Core.Option as maybe
use lib.ListN.{get_elem?}
use mathlib.Core.Logic.{dite}
use native.Mathlib.Decide.{dec_le, ℕ_discrete}
use Rattle.atomic_table.proofs.Lists.{at_set}
use Rattle.atomic_table.specs.Table.{State, Act, Allows, Valid, stepped, carried_after, keeps, takes, gives, put_back, rest as rest_of}
use Rattle.gql_tickets.specs.declared.view.Part.{Part}
use Rattle.gql_tickets.specs.declared.view.View.{View}
use Rattle.gql_tickets.specs.Turns.{AreParts, At, Counts, Draws, draws, IsOneMore, IsPart, Kept, Lies, Looks, passes, Passes, seen_in}
use Rattle.gql_tickets.specs.Turns.{times}
use Rattle.gql_tickets.proofs.EntryLemmas.{below_snoc}
use Rattle.gql_tickets.proofs.TotalLemmas.{set_at, times_own, total_most, total_two}
use Rattle.gql_tickets.proofs.TurnLemmas.{held_same, kept_step, lies_step, parts_more}

dec_next : (a b : ℕ) → a ≤ b → (a ≡ b → ⊥) → Dec (a + 1 ≤ b) → a + 1 ≤ b
dec_next a b le ne (yes d) = d
dec_next a b le ne (no d) = absurd (ne (let l = lt_of_not-le d in omega arith))

le_next : (a b : ℕ) → a ≤ b → (a ≡ b → ⊥) → a + 1 ≤ b
le_next a b le ne = dec_next a b le ne (dec_le (a + 1) b)

module _ {O E A : Type 0} (by : E → ℕ) (IsAt : O → List E → A → Type 0) where
  other_number : (p : Part O E) (ps qs : List (Part O E)) (n : ℕ) → ps ≡ p ∷ [] → n ≡ p.number → times n ps + times n qs ≤ 1
      → times n qs ≡ 0
  other_number p ps qs n one own less = let l : 1 ≤ times n ps = subst (λ l. 1 ≤ times n l) (sym one) (times_own p [] n (sym own)) in
      omega arith

  small_ticket : (origin : O) (seats : ℕ) (s : State (Option A) (View O E)) → (kept : Kept by IsAt origin seats s)
      → kept.ticket ≤ 281474976710656
  small_ticket origin seats s kept =
      let most = total_most (λ u. u.drew) (λ u. length u.parts) s.views (λ j u there. (kept.fits j u there).drew) in
      let seated = kept.seated in let few = kept.few in let drawn = kept.drawn in omega arith

  -- a ticket is drawn
  pub draw_moves : (origin : O) (seats slots id : ℕ) (v : View O E) (out : List (ℕ × Option A)) (p : Part O E) → v.parts ≡ p ∷ []
      → v.waits ≡ false → v.drew < 4294967296
      → Allows (Kept by IsAt origin seats) slots id (v, out) 0 (λ n. (n + 1) % 2 ^ 64) (Draws (v, out))
  draw_moves origin seats slots id v out p one free drew s kept sized at fits =
      let found = slice_index s.words 0 in
      let e : found ≡ kept.ticket = ap (λ ws. slice_index ws 0) kept.words in
      let mine = kept.fits id v at in
      let most = small_ticket origin seats s kept in
      let small : kept.ticket + 1 < 18446744073709551616 = omega arith in
      let idle : v.out ≡ true → ⊥ = λ o. true≢false (sym ((mine.has o).0) ∙ free) in
      let single : length v.parts ≡ 1 = ap length one in
      let w = draws v found in (
        w,
        keeps,
        tt,
        kept_step by IsAt origin seats s.words s.homes s.views kept id v w at (kept.ticket + 1) kept.turn kept.log
            _ s.homes
            (ap (λ ws. slice_set ws 0 ((slice_index ws 0 + 1) % 2 ^ 64)) kept.words
            ∙ ap (λ x. x ∷ kept.turn ∷ length kept.log ∷ []) (mod-eq_of_lt small))
            (let o = kept.ordered in omega arith) (omega arith) refl (λ n. refl) kept.callers
            (record {
              parts = mine.parts;
              one = λ waits. single;
              waiting = λ waits. let o = kept.ordered in
                  (omega arith, omega arith);
              has = λ o. absurd (idle o);
              drew = omega arith;
            })
            (λ j u other there. let k = kept.fits j u there in
            record {
              parts = k.parts;
              one = k.one;
              waiting = λ waits. let p = k.waiting waits in let a = p.0 in let b = p.1 in
                  (a, omega arith);
              has = k.has;
              drew = k.drew;
            })
            (λ j u other there waits waits' same. let p = (kept.fits j u there).waiting waits' in let b = p.1 in absurd (omega arith))
            (λ t from to. dite (ℕ_discrete found t) (λ own. inl (refl, own))
            (λ other. let h = kept.held t from (omega arith) in
            inr (
              h.0,
              h.1,
              (λ k. true≢false (sym h.3 ∙ (ap (λ x. x.waits) (some-injective h.1 v (sym h.2
                  ∙ (ap (λ j. get_elem? s.views j) k ∙ at))) ∙ free))),
              h.2,
              h.3,
              h.4,
            )))
            (lies_step by IsAt origin seats s.words s.homes s.views kept kept.log id v w at (false_of v.out idle)
            (false_of v.out idle) kept.lies),
        refl,
      )

  -- a seat looks whose turn it is: another's, and nothing changes
  module _ (origin : O) (seats slots id : ℕ) (v : View O E) (out : List (ℕ × Option A)) (p : Part O E) (one : v.parts ≡ p ∷ [])
      (waits : v.waits ≡ true) (free : v.out ≡ false)
      (words : List ℕ) (homes : List (maybe.Option (Option A))) (views : List (View O E))
      (kept : Kept by IsAt origin seats record { words = words; homes = homes; views = views }) (at : At views id v) where
    abbrev found : ℕ
    found = slice_index words 1

    same_words : slice_set words 1 found ≡ kept.ticket ∷ kept.turn ∷ length kept.log ∷ []
    same_words = ap (λ ws. slice_set ws 1 (slice_index ws 1)) kept.words

    is_turn : found ≡ kept.turn
    is_turn = ap (λ ws. slice_index ws 1) kept.words

    look_else : found ≢ v.ticket
        → (w : View O E) × (a : Act (Option A)) × Valid homes out a
        × Kept by IsAt origin seats (stepped record { words = words; homes = homes; views = views } 1 found id out w a) × Looks by IsAt
        (v, out) found (w, carried_after out a)
    look_else other = let mine = kept.fits id v at in (
      v,
      keeps,
      tt,
      kept_step by IsAt origin seats words homes views kept id v v at kept.ticket kept.turn kept.log _ homes same_words kept.ordered
          refl refl (λ n. refl) kept.callers mine
          (λ j u o there. kept.fits j u there)
          (λ j u o there wj wu same. o (sym (kept.tickets id j v u at there wj wu same)))
          (held_same by IsAt origin seats words homes views kept id v v at refl refl)
          (lies_step by IsAt origin seats words homes views kept kept.log id v v at free free kept.lies),
      inr (other, refl),
    )

    -- its own, and it takes the book, which is at home
    look_own : found ≡ v.ticket → Lies by IsAt origin kept.log homes views
        → (w : View O E) × (a : Act (Option A)) × Valid homes out a
        × Kept by IsAt origin seats (stepped record { words = words; homes = homes; views = views } 1 found id out w a) × Looks by IsAt
        (v, out) found (w, carried_after out a)
    look_own own (inr (away, by', u, there, has, seen)) =
        let k = kept.fits by' u there in let h = k.has has in
        let same : by' ≡ id = kept.tickets by' id u v there at h.0 waits (h.1 ∙ (sym is_turn ∙ own)) in
        absurd (true≢false (sym has ∙ (ap (λ x. x.out) (some-injective u v (sym there ∙ (ap (λ j. get_elem? views j) same ∙ at)))
        ∙ free)))
    look_own own (inl (book, home, is, none_out)) =
        let mine = kept.fits id v at in
        let part : IsPart by IsAt origin seats kept.log p = (subst (λ ps. AreParts by IsAt origin seats kept.log ps) one mine.parts).0 in
        let between = part.rest in
        let q : Part O E = record p { seen = p.seen ++ between } in
        let w : View O E = record v { out = true; counted = false; parts = q ∷ [] } in
        let single : length v.parts ≡ 1 = ap length one in (
          w,
          takes 0 (Some book),
          ap (λ hs. get_elem? hs 0) home,
          kept_step by IsAt origin seats words homes views kept id v w at kept.ticket kept.turn kept.log _ _ same_words kept.ordered
              refl (sym single)
              (λ n. sym (ap (times n) one)) kept.callers
              (record {
                parts = (
                  record {
                    origin_is = part.origin_is;
                    below = part.below;
                    rest = [];
                    seen = part.seen
                        ∙ sym (append-nil (p.seen ++ between));
                    others = refl;
                  },
                  tt,
                );
                one = λ o. refl;
                waiting = mine.waiting;
                has = λ o. (waits, sym own ∙ is_turn);
                drew = subst (λ n. v.drew ≤ n * 4294967296) single mine.drew;
              })
              (λ j u o there. kept.fits j u there)
              (λ j u o there wj wu same. o (sym (kept.tickets id j v u at there wj wu same)))
              (held_same by IsAt origin seats words homes views kept id v w at refl refl)
              (inr (ap (λ hs. slice_set hs 0 none) home, id, w, set_at views id v w at, refl, sym part.seen)),
          inl (
            own,
            (
              p,
              record {
                taken = book;
                between = between;
                parts = one;
                is = refl;
                kept = subst (λ o. IsAt o (p.seen ++ between) book) (sym part.origin_is) (subst (λ l. IsAt origin l book) part.seen is);
                others = part.others;
              },
            ),
          ),
        )

  pub look_moves : (origin : O) (seats slots id : ℕ) (v : View O E) (out : List (ℕ × Option A)) (p : Part O E) → v.parts ≡ p ∷ []
      → v.waits ≡ true → v.out ≡ false
      → Allows (Kept by IsAt origin seats) slots id (v, out) 1 (λ n. n) (Looks by IsAt (v, out))
  look_moves origin seats slots id v out p one waits free s kept sized at fits =
      dite (ℕ_discrete (slice_index s.words 1) v.ticket)
      (λ own. look_own origin seats slots id v out p one waits free s.words s.homes s.views kept at own kept.lies)
      (λ other. look_else origin seats slots id v out p one waits free s.words s.homes s.views kept at other)

  -- who has the book has seen the whole history
  module _ (origin : O) (seats id : ℕ) (v : View O E) (words : List ℕ) (homes : List (maybe.Option (Option A))) (views : List (View O E))
      (kept : Kept by IsAt origin seats record { words = words; homes = homes; views = views }) (at : At views id v)
      (has : v.out ≡ true) where
    pub alone : (j : ℕ) (u : View O E) → At views j u → u.out ≡ true → j ≡ id
    alone j u there out =
        let h = (kept.fits j u there).has out in let k = (kept.fits id v at).has has in
        kept.tickets j id u v there at h.0 k.0 (h.1 ∙ sym k.1)

    pub is_whole : Lies by IsAt origin kept.log homes views → (homes ≡ none ∷ []) × (seen_in v.parts ≡ kept.log)
    is_whole (inl (book, home, is, none_out)) = absurd (true≢false (sym has ∙ none_out id v at))
    is_whole (inr (away, by', u, there, out, seen)) = (
      away,
      ap (λ x. seen_in x.parts) (some-injective v u (sym at ∙ (ap (λ j. get_elem? views j) (sym (alone by' u there out))
          ∙ there))) ∙ seen,
    )

  -- the entry of who has the book is counted
  pub count_moves : (origin : O) (seats slots id : ℕ) (v : View O E) (out : List (ℕ × Option A)) (p : Part O E) (e : E)
      → v.parts ≡ p ∷ [] → v.out ≡ true → IsOneMore by IsAt p e out
      → Allows (Kept by IsAt origin seats) slots id (v, out) 2 (λ n. (n + 1) % 2 ^ 64) (Counts by IsAt (v, out))
  count_moves origin seats slots id v out p e one has more s kept sized at within =
      let mine = kept.fits id v at in
      let part : IsPart by IsAt origin seats kept.log p = (subst (λ ps. AreParts by IsAt origin seats kept.log ps) one mine.parts).0 in
      let whole = is_whole origin seats id v s.words s.homes s.views kept at has kept.lies in
      let seen : p.seen ≡ kept.log = sym (ap seen_in one) ∙ whole.1 in
      let q : Part O E = record p { seen = p.seen ++ e ∷ [] } in
      let w : View O E = record v { counted = true; parts = q ∷ [] } in
      let single : length v.parts ≡ 1 = ap length one in
      let longer : length (kept.log ++ e ∷ []) ≡ length kept.log + 1 = omega (arith, length-append kept.log (e ∷ [])) in
      let small : length kept.log + 1 < 18446744073709551616 = let f : length (kept.log ++ e ∷ []) < 2 ^ 63 = subst (λ l. length
      (l ++ e ∷ []) < 2 ^ 63) seen more.fits in omega arith in (
        w,
        keeps,
        tt,
        kept_step by IsAt origin seats s.words s.homes s.views kept id v w at kept.ticket kept.turn (kept.log ++ e ∷ [])
            _ s.homes
            (ap (λ ws. slice_set ws 2 ((slice_index ws 2 + 1) % 2 ^ 64)) kept.words
            ∙ ap (λ x. kept.ticket ∷ kept.turn ∷ x ∷ []) (mod-eq_of_lt small ∙ sym longer))
            kept.ordered refl (sym single) (λ n. sym (ap (times n) one))
            (below_snoc by seats kept.log e kept.callers (subst (λ n. n < seats) (sym more.caller) part.below))
            (record {
              parts = (
                record {
                  origin_is = part.origin_is;
                  below = part.below;
                  rest = [];
                  seen = ap (λ l. l ++ e ∷ []) (sym seen)
                      ∙ sym (append-nil (p.seen ++ e ∷ []));
                  others = refl;
                },
                tt,
              );
              one = λ o. refl;
              waiting = mine.waiting;
              has = mine.has;
              drew = subst (λ n. v.drew ≤ n * 4294967296) single mine.drew;
            })
            (λ j u other there. let k = kept.fits j u there in record {
              parts = parts_more by IsAt origin seats kept.log e u.parts
                  (let two = total_two (λ x. times (by e) x.parts) s.views id j v u (λ k. other (sym k)) at there in
                  let o = kept.once (by e) in
                  other_number p v.parts u.parts (by e) one more.caller (omega arith)) k.parts;
              one = k.one;
              waiting = k.waiting;
              has = k.has;
              drew = k.drew;
            })
            (λ j u o there wj wu same. o (sym (kept.tickets id j v u at there wj wu same)))
            (held_same by IsAt origin seats s.words s.homes s.views kept id v w at refl refl)
            (inr (whole.0, id, w, set_at s.views id v w at, has, ap (λ l. l ++ e ∷ []) seen)),
        record { part = p; entry = e; parts = one; more = more; is = refl },
      )

  -- the book comes back, and the turn is the next one's
  pub pass_moves : (origin : O) (seats slots id : ℕ) (v : View O E) (out : List (ℕ × Option A)) (p : Part O E) → v.parts ≡ p ∷ []
      → v.out ≡ true
      → (book : A) → out ≡ (0, Some book) ∷ [] → IsAt p.origin p.seen book
      → Allows (Kept by IsAt origin seats) slots id (v, out) 1 (λ n. (n + 1) % 2 ^ 64) (Passes (v, out))
  pass_moves origin seats slots id v out p one has book holds is s kept sized at within =
      let mine = kept.fits id v at in
      let part : IsPart by IsAt origin seats kept.log p = (subst (λ ps. AreParts by IsAt origin seats kept.log ps) one mine.parts).0 in
      let h = mine.has has in
      let turn = h.1 in
      let before = (mine.waiting h.0).1 in
      let whole = is_whole origin seats id v s.words s.homes s.views kept at has kept.lies in
      let seen : p.seen ≡ kept.log = sym (ap seen_in one) ∙ whole.1 in
      let most = small_ticket origin seats s kept in
      let small : kept.turn + 1 < 18446744073709551616 = omega arith in
      let w : View O E = passes v in (
        w,
        gives,
        tt,
        kept_step by IsAt origin seats s.words s.homes s.views kept id v w at kept.ticket (kept.turn + 1) kept.log
            _ _
            (ap (λ ws. slice_set ws 1 ((slice_index ws 1 + 1) % 2 ^ 64)) kept.words
            ∙ ap (λ x. kept.ticket ∷ x ∷ length kept.log ∷ []) (mod-eq_of_lt small))
            (omega arith) refl refl (λ n. refl) kept.callers
            (record {
              parts = mine.parts;
              one = λ f. absurd (true≢false (sym f));
              waiting = λ f. absurd (true≢false
                  (sym f));
              has = λ f. absurd (true≢false (sym f));
              drew = mine.drew;
            })
            (λ j u other there. let k = kept.fits j u there in
            record {
              parts = k.parts;
              one = k.one;
              waiting = λ waits. let p = k.waiting waits in let a = p.0 in let b = p.1 in
                  let apart : kept.turn ≡ u.ticket → ⊥ = λ e. other (kept.tickets j id u v there at waits h.0 (sym e ∙ sym turn)) in
                  (le_next kept.turn u.ticket a apart, b);
              has = λ o. absurd (other (alone origin seats id v s.words s.homes s.views kept at has j u there o));
              drew = k.drew;
            })
            (λ j u o there wj wu same. true≢false (sym wj))
            (λ t from to. let g = kept.held t (omega arith) to in
            let other : g.0 ≢ id = (λ k. let e : g.1.ticket ≡ v.ticket = ap (λ x. x.ticket) (some-injective g.1 v (sym g.2
            ∙ (ap (λ j. get_elem? s.views j) k ∙ at))) in
            let f : t ≡ kept.turn = sym g.4 ∙ (e ∙ turn) in omega arith) in
            inr (g.0, g.1, other, g.2, g.3, g.4))
            (inl (
              book,
              ap (λ c. put_back s.homes c) holds ∙ ap (λ hs. slice_set hs 0 (some (Some book))) whole.0,
              subst (λ o. IsAt o kept.log book) part.origin_is (subst (λ l. IsAt p.origin l book) seen is),
              λ j u there. ⊎_elim (λ here. sym (ap (λ x. x.out) here.1))
                  (λ other. false_of u.out (λ o. other.0 (alone origin seats id v s.words s.homes s.views kept at has j u other.1 o)))
                  (at_set s.views id j w u there),
            )),
        ap (λ c. (w, rest_of c)) holds,
      )
