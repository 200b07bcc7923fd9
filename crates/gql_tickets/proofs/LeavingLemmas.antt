-- What a seat has in its hand between taking a thing and giving it back, and what it has seen then.
use Rattle.std.proofs.Common.{◌≡◌, ◌<◌, ◌+◌, ◌^◌, ◌++◌, ℕ, true, List, [], ◌∷◌, length, Option, Some, None, refl, sym, subst, ap, ◌∙◌}
use Rattle.atomic_table.specs.Table.{Me}
use Rattle.gql_tickets.specs.declared.journaled.Journaled.{Ghosts as Journaling}
use Rattle.gql_tickets.specs.declared.view.Part.{Part}
use Rattle.gql_tickets.specs.declared.view.View.{View}
use Rattle.gql_tickets.specs.Journals.{IsAt}
use Rattle.gql_tickets.specs.Turns.{Counts, Has, IsOneMore, Leaves, Passes, passes, seen_in}

module _ {O E A : Type 0} (by : E → ℕ) (IsAt : O → List E → A → Type 0) (m n : Me (Option A) (View O E)) (found : ℕ)
    (counts : Counts by IsAt m found n) where
  -- once its entry is counted, a seat can give the thing back
  pub give_back : (part : Part O E) × (thing : A) × (n.0.parts ≡ part ∷ []) × (n.1 ≡ (0, Some thing) ∷ [])
      × IsAt part.origin part.seen thing
  give_back = (
    record counts.part { seen = counts.part.seen ++ counts.entry ∷ [] },
    counts.more.taken,
    ap (λ x. x.0.parts) counts.is,
    ap (λ x. x.1) counts.is ∙ counts.more.is,
    counts.more.kept,
  )

  pub leaves : (q : Me (Option A) (View O E)) (after : ℕ) → Passes n after q → Leaves by IsAt m q
  leaves q after passed = record {
    part = counts.part;
    entry = counts.entry;
    parts = counts.parts;
    more = counts.more;
    is = passed ∙ ap (λ x. (passes x.0, [])) counts.is;
  }

module _ {A : Type 0} where
  taken : A → List (ℕ × Option A) → A
  taken d ((k, Some a) ∷ xs) = a
  taken d ((k, None) ∷ xs) = d
  taken d [] = d

  same_taken : (m : List (ℕ × Option A)) (a b : A) → m ≡ (0, Some a) ∷ [] → m ≡ (0, Some b) ∷ [] → a ≡ b
  unfolding taken
  same_taken m a b p q = sym (ap (taken a) p) ∙ ap (taken a) q

-- a seat took the thing, which was a then, and changed it to b
module _ {A E : Type 0} (journals : Journaling A E) (p : Part A E) (old : View A E) (m m' : Me (Option A) (View A E))
    (has : Has journals.caller (IsAt journals) p old m) (view : m'.0 ≡ m.0) (a b : A)
    (before : m.1 ≡ (0, Some a) ∷ []) (behind : m'.1 ≡ (0, Some b) ∷ []) where
  is_taken : a ≡ has.taken
  is_taken = same_taken m.1 a has.taken before (ap (λ n. n.1) has.is)

  -- the journal as it was found, and of what the thing came
  pub log_before : journals.journal a ≡ p.seen ++ has.between
  log_before = ap journals.journal is_taken ∙ has.kept.log_is

  pub from_before : journals.is_from p.origin a
  from_before = subst (λ x. journals.is_from p.origin x) (sym is_taken) has.kept.from

  -- what the seat knows meanwhile
  pub parts_now : m'.0.parts ≡ record p { seen = p.seen ++ has.between } ∷ []
  parts_now = ap (λ v. v.parts) view ∙ ap (λ n. n.0.parts) has.is

  pub out_now : m'.0.out ≡ true
  out_now = ap (λ v. v.out) view ∙ ap (λ n. n.0.out) has.is

  pub drew_now : m'.0.drew ≡ old.drew + 1
  drew_now = ap (λ v. v.drew) view ∙ ap (λ n. n.0.drew) has.is

  -- there is one entry more, of its own
  pub one_more : (e : E) → journals.caller e ≡ p.number → journals.is_from p.origin b
      → journals.journal b ≡ journals.journal a ++ e ∷ [] → length (journals.journal b) < 2 ^ 63
      → (part : Part A E) × (entry : E) × (m'.0.parts ≡ part ∷ []) × IsOneMore journals.caller (IsAt journals) part entry m'.1
  one_more e own from more room =
      let whole : journals.journal b ≡ (p.seen ++ has.between) ++ e ∷ [] = more ∙ ap (λ l. l ++ e ∷ []) log_before in (
        record p { seen = p.seen ++ has.between },
        e,
        parts_now,
        record {
          taken = b;
          is = behind;
          kept = record { from = from; log_is = whole };
          caller = own;
          fits = subst (λ l. length l < 2 ^ 63) whole room;
        },
      )

  -- there is none more
  pub none_more : journals.is_from p.origin b → journals.journal b ≡ journals.journal a
      → (part : Part A E) × (thing : A) × (m'.0.parts ≡ part ∷ []) × (m'.1 ≡ (0, Some thing) ∷ [])
      × IsAt journals part.origin part.seen thing
  none_more from same = (
    record p { seen = p.seen ++ has.between },
    b,
    parts_now,
    behind,
    record { from = from; log_is = same ∙ log_before },
  )

  -- at the end it has seen the whole journal
  module _ (n : Me (Option A) (View A E)) where
    pub seen_counted : Leaves journals.caller (IsAt journals) m' n → seen_in n.0.parts ≡ journals.journal b
    seen_counted left = ap (λ x. seen_in x.0.parts) left.is
        ∙ (sym left.more.kept.log_is ∙ ap journals.journal (same_taken m'.1 left.more.taken b left.more.is behind))

    pub seen_same : n ≡ (passes m'.0, []) → journals.journal b ≡ journals.journal a → seen_in n.0.parts ≡ journals.journal b
    seen_same left same = ap (λ x. seen_in x.0.parts) left ∙ (ap seen_in parts_now ∙ sym (same ∙ log_before))
