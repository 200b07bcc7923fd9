-- Pairs that are united under their keys: what one more value comes to, and when the values of united pairs are the united values.
use Rattle.std.proofs.Common.{◌≡◌, ℕ, Bool, true, false, List, [], ◌∷◌, ◌++◌, Some, None, refl, ap, sym, subst, ◌∙◌}
use Rattle.std.specs.List.{AllByRecursion}
use Rattle.std.specs.Str.{bytes_eq}
use Rattle.std.specs.Cmp.Lexicographic.{bytes_decides}
use Rattle.gql_base.specs.Pairs.{under, unite, unite_all, HasDistinctNames}
use Rattle.gql_select.specs.Reading.{over}

pub same_itself : (a : List ℕ) → bytes_eq a a ≡ true
same_itself a = (bytes_decides a a).1 refl

-- a test that fails of two equal names
never_differs : (a b : List ℕ) → a ≡ b → bytes_eq a b ≡ false → ⊥
never_differs a b e f = let t : bytes_eq a b ≡ true = (bytes_decides a b).1 e in cc

pub either : (b : Bool) (P : Type 0) → (b ≡ true → P) → (b ≡ false → P) → P
either true P when_true when_false = when_true refl
either false P when_true when_false = when_false refl

-- whether a key stands among pairs
abbrev pub Stands : {T : Type 0} → List ℕ → List (List ℕ × T) → Type 0
Stands k [] = ⊥
Stands k (p ∷ ps) = (bytes_eq k p.0 ≡ false) → Stands k ps

module _ {T : Type 0} (j : T → T → T) where
  pub unite_here : (p : List ℕ × T) (ps : List (List ℕ × T)) (k : List ℕ) (v : T) → bytes_eq k p.0 ≡ true
      → unite j (p ∷ ps) k v ≡ (p.0, j p.1 v) ∷ ps
  unite_here p ps k v e = rw e refl

  pub unite_past : (p : List ℕ × T) (ps : List (List ℕ × T)) (k : List ℕ) (v : T) → bytes_eq k p.0 ≡ false
      → unite j (p ∷ ps) k v ≡ p ∷ unite j ps k v
  unite_past p ps k v e = rw e refl

  pub unite_all-append : (ps qs rs : List (List ℕ × T)) → unite_all j ps (qs ++ rs) ≡ unite_all j (unite_all j ps qs) rs
  unite_all-append ps [] rs = refl
  unite_all-append ps (q ∷ qs) rs = unite_all-append (unite j ps q.0 q.1) qs rs

  -- a key stands once a value came under it, and goes on standing
  stands_put : (ps : List (List ℕ × T)) (k : List ℕ) (v : T) → Stands k (unite j ps k v)
  stands_put [] k v = λ differs. never_differs k k refl differs
  stands_put (p ∷ ps) k v =
      either (bytes_eq k p.0) (Stands k (unite j (p ∷ ps) k v))
      (λ e. subst (Stands k) (sym (unite_here p ps k v e)) (λ differs. let same : bytes_eq k p.0 ≡ true = e in cc))
      (λ e. subst (Stands k) (sym (unite_past p ps k v e)) (λ differs. stands_put ps k v))

  stands_on : (ps : List (List ℕ × T)) (m k : List ℕ) (v : T) → Stands m ps → Stands m (unite j ps k v)
  stands_on [] m k v s = absurd s
  stands_on (p ∷ ps) m k v s =
      either (bytes_eq k p.0) (Stands m (unite j (p ∷ ps) k v))
      (λ e. subst (Stands m) (sym (unite_here p ps k v e)) s)
      (λ e. subst (Stands m) (sym (unite_past p ps k v e)) (λ differs. stands_on ps m k v (s differs)))

  -- two values under one key, one after another
  pub unite_twice : ((a b c : T) → j (j a b) c ≡ j a (j b c)) → (ps : List (List ℕ × T)) (k : List ℕ) (v w : T)
      → unite j (unite j ps k v) k w ≡ unite j ps k (j v w)
  unite_twice assoc [] k v w = unite_here (k, v) [] k w (same_itself k)
  unite_twice assoc (p ∷ ps) k v w =
      either (bytes_eq k p.0) (unite j (unite j (p ∷ ps) k v) k w ≡ unite j (p ∷ ps) k (j v w))
      (λ e. ap (λ qs. unite j qs k w) (unite_here p ps k v e) ∙ unite_here (p.0, j p.1 v) ps k w e
      ∙ ap (λ a. (p.0, a) ∷ ps) (assoc p.1 v w) ∙ sym (unite_here p ps k (j v w) e))
      (λ e. ap (λ qs. unite j qs k w) (unite_past p ps k v e) ∙ unite_past p (unite j ps k v) k w e
      ∙ ap (λ qs. p ∷ qs) (unite_twice assoc ps k v w) ∙ sym (unite_past p ps k (j v w) e))

  -- values under two keys, the second of which stands already
  unite_swap : (ps : List (List ℕ × T)) (a b : List ℕ) (x y : T) → bytes_eq a b ≡ false → Stands b ps
      → unite j (unite j ps a x) b y ≡ unite j (unite j ps b y) a x
  unite_swap [] a b x y apart s = absurd s
  unite_swap (p ∷ ps) a b x y apart s =
      let G : Type 0 = unite j (unite j (p ∷ ps) a x) b y ≡ unite j (unite j (p ∷ ps) b y) a x in
      either (bytes_eq a p.0) G
      (λ e. either (bytes_eq b p.0) G
      (λ f. absurd (never_differs a b ((bytes_decides a p.0).0 e ∙ sym ((bytes_decides b p.0).0 f)) apart))
      (λ f. ap (λ qs. unite j qs b y) (unite_here p ps a x e) ∙ unite_past (p.0, j p.1 x) ps b y f
      ∙ sym (ap (λ qs. unite j qs a x) (unite_past p ps b y f) ∙ unite_here p (unite j ps b y) a x e)))
      (λ e. either (bytes_eq b p.0) G
      (λ f. ap (λ qs. unite j qs b y) (unite_past p ps a x e) ∙ unite_here p (unite j ps a x) b y f
      ∙ sym (ap (λ qs. unite j qs a x) (unite_here p ps b y f) ∙ unite_past (p.0, j p.1 y) ps a x e))
      (λ f. ap (λ qs. unite j qs b y) (unite_past p ps a x e) ∙ unite_past p (unite j ps a x) b y f
      ∙ ap (λ qs. p ∷ qs) (unite_swap ps a b x y apart (s f))
      ∙ sym (ap (λ qs. unite j qs a x) (unite_past p ps b y f) ∙ unite_past p (unite j ps b y) a x e)))

  -- what is under no name of a list isn't its head's, and isn't in its tail
  absent_head : (k : List ℕ) (p : List ℕ × T) (ps : List (List ℕ × T)) → under k (p ∷ ps) ≡ None → bytes_eq k p.0 ≡ false
  absent_head k p ps none =
      either (bytes_eq k p.0) (bytes_eq k p.0 ≡ false)
      (λ e. let found : under k (p ∷ ps) ≡ Some p.1 = rw e refl in cc)
      (λ e. e)

  absent_tail : (k : List ℕ) (p : List ℕ × T) (ps : List (List ℕ × T)) → under k (p ∷ ps) ≡ None → under k ps ≡ None
  absent_tail k p ps none =
      let past : under k (p ∷ ps) ≡ under k ps = rw (absent_head k p ps none) refl in sym past ∙ none

  absent_past : (k : List ℕ) (p : List ℕ × T) (ps : List (List ℕ × T)) → bytes_eq k p.0 ≡ false → under k ps ≡ None → under k (p ∷ ps) ≡ None
  absent_past k p ps e none = rw e none

  flip_differs : (a b : List ℕ) → bytes_eq a b ≡ false → bytes_eq b a ≡ false
  flip_differs a b apart =
      either (bytes_eq b a) (bytes_eq b a ≡ false) (λ e. absurd (never_differs a b (sym ((bytes_decides b a).0 e)) apart)) (λ e. e)

  -- a value under a standing key may come before others under other keys
  unite_late : (ps rs : List (List ℕ × T)) (k : List ℕ) (c : T) → Stands k ps → under k rs ≡ None
      → unite_all j (unite j ps k c) rs ≡ unite j (unite_all j ps rs) k c
  unite_late ps [] k c s none = refl
  unite_late ps (r ∷ rs) k c s none =
      ap (λ qs. unite_all j qs rs) (sym (unite_swap ps r.0 k r.1 c (flip_differs k r.0 (absent_head k r rs none)) s))
      ∙ unite_late (unite j ps r.0 r.1) rs k c (stands_on ps k r.0 r.1 s) (absent_tail k r rs none)

  pub absent_united : (m : List ℕ) (rs : List (List ℕ × T)) (k : List ℕ) (v : T) → bytes_eq m k ≡ false → under m rs ≡ None → under m (unite j rs k v) ≡ None
  absent_united m [] k v apart none = absent_past m (k, v) [] apart none
  absent_united m (r ∷ rs) k v apart none =
      let first : bytes_eq m r.0 ≡ false = absent_head m r rs none in
      let rest : under m rs ≡ None = absent_tail m r rs none in
      either (bytes_eq k r.0) (under m (unite j (r ∷ rs) k v) ≡ None)
      (λ e. ap (under m) (unite_here r rs k v e) ∙ absent_past m (r.0, j r.1 v) rs first rest)
      (λ e. ap (under m) (unite_past r rs k v e) ∙ absent_past m r (unite j rs k v) first (absent_united m rs k v apart rest))

  -- united pairs have distinct names
  pub distinct_unite : (rs : List (List ℕ × T)) (k : List ℕ) (v : T) → HasDistinctNames rs → HasDistinctNames (unite j rs k v)
  distinct_unite [] k v d = (refl, tt)
  distinct_unite (r ∷ rs) k v d =
      either (bytes_eq k r.0) (HasDistinctNames (unite j (r ∷ rs) k v))
      (λ e. subst HasDistinctNames (sym (unite_here r rs k v e)) (d.0, d.1))
      (λ e. subst HasDistinctNames (sym (unite_past r rs k v e))
      (absent_united r.0 rs k v (flip_differs k r.0 e) d.0, distinct_unite rs k v d.1))

  pub distinct_united : (rs qs : List (List ℕ × T)) → HasDistinctNames rs → HasDistinctNames (unite_all j rs qs)
  distinct_united rs [] d = d
  distinct_united rs (q ∷ qs) d = distinct_united (unite j rs q.0 q.1) qs (distinct_unite rs q.0 q.1 d)

  -- pairs that don't have the first name leave the first pair as it is
  behind_first : (p : List ℕ × T) (ps qs : List (List ℕ × T)) → under p.0 qs ≡ None → unite_all j (p ∷ ps) qs ≡ p ∷ unite_all j ps qs
  behind_first p ps [] none = refl
  behind_first p ps (q ∷ qs) none =
      ap (λ rs. unite_all j rs qs) (unite_past p ps q.0 q.1 (flip_differs p.0 q.0 (absent_head p.0 q qs none)))
      ∙ behind_first p (unite j ps q.0 q.1) qs (absent_tail p.0 q qs none)

  -- pairs of distinct names have nothing to be joined
  pub united_distinct : (qs : List (List ℕ × T)) → HasDistinctNames qs → unite_all j [] qs ≡ qs
  united_distinct [] d = refl
  united_distinct (q ∷ qs) d = behind_first q [] qs d.0 ∙ ap (λ rs. q ∷ rs) (united_distinct qs d.1)

  module _ (assoc : (a b c : T) → j (j a b) c ≡ j a (j b c)) where
    unite_into : (ps rs : List (List ℕ × T)) (k : List ℕ) (c : T) → HasDistinctNames rs
        → unite_all j ps (unite j rs k c) ≡ unite j (unite_all j ps rs) k c
    unite_into ps [] k c d = refl
    unite_into ps (r ∷ rs) k c d =
        let G : Type 0 = unite_all j ps (unite j (r ∷ rs) k c) ≡ unite j (unite_all j ps (r ∷ rs)) k c in
        either (bytes_eq k r.0) G
        (λ e. let same : k ≡ r.0 = (bytes_decides k r.0).0 e in
        ap (unite_all j ps) (unite_here r rs k c e)
        ∙ ap (λ qs. unite_all j qs rs) (sym (unite_twice assoc ps r.0 r.1 c) ∙ ap (λ m. unite j (unite j ps r.0 r.1) m c) (sym same))
        ∙ unite_late (unite j ps r.0 r.1) rs k c (subst (λ m. Stands m (unite j ps r.0 r.1)) (sym same) (stands_put ps r.0 r.1))
        (ap (λ m. under m rs) same ∙ d.0))
        (λ e. ap (unite_all j ps) (unite_past r rs k c e) ∙ unite_into (unite j ps r.0 r.1) rs k c d.1)

    -- pairs may be united among themselves before they come to others
    pub unite_all_into : (ps rs qs : List (List ℕ × T)) → HasDistinctNames rs
        → unite_all j ps (unite_all j rs qs) ≡ unite_all j (unite_all j ps rs) qs
    unite_all_into ps rs [] d = refl
    unite_all_into ps rs (q ∷ qs) d =
        unite_all_into ps (unite j rs q.0 q.1) qs (distinct_unite rs q.0 q.1 d)
        ∙ ap (λ xs. unite_all j xs qs) (unite_into ps rs q.0 q.1 d)

module _ {A B : Type 0} (h : A → B) where
  absent_over : (m : List ℕ) (ps : List (List ℕ × A)) → under m ps ≡ None → under m (over h ps) ≡ None
  absent_over m [] none = refl
  absent_over m (p ∷ ps) none =
      either (bytes_eq m p.0) (under m (over h (p ∷ ps)) ≡ None)
      (λ e. let found : under m (p ∷ ps) ≡ Some p.1 = rw e refl in cc)
      (λ e. let past : under m (p ∷ ps) ≡ under m ps = rw e refl in
      let rest : under m (over h ps) ≡ None = absent_over m ps (sym past ∙ none) in rw e rest)

  -- changed values stand under the same names
  pub distinct_over : (ps : List (List ℕ × A)) → HasDistinctNames ps → HasDistinctNames (over h ps)
  distinct_over [] d = tt
  distinct_over (p ∷ ps) d = (absent_over p.0 ps d.0, distinct_over ps d.1)

-- a fact on each pair whose key is this one
abbrev pub EachUnder : {T : Type 0} → List ℕ → (T → Type 0) → List (List ℕ × T) → Type 0
EachUnder k P ps = AllByRecursion (λ p. bytes_eq p.0 k ≡ true → P p.1) ps

-- values of the two lists that meet under a key are related
abbrev pub Meet : {T : Type 0} → (T → T → Type 0) → List (List ℕ × T) → List (List ℕ × T) → Type 0
Meet R ps qs = AllByRecursion (λ p. EachUnder p.0 (R p.1) qs) ps

-- each value is related to the later ones under its key
abbrev pub Among : {T : Type 0} → (T → T → Type 0) → List (List ℕ × T) → Type 0
Among R [] = Unit {0}
Among R (q ∷ qs) = EachUnder q.0 (R q.1) qs × Among R qs

module _ {X : Type 0} {P Q : X → Type 0} where
  pub each_weaker : ((x : X) → P x → Q x) → (xs : List X) → AllByRecursion P xs → AllByRecursion Q xs
  each_weaker h [] all = tt
  each_weaker h (x ∷ xs) all = (h x all.0, each_weaker h xs all.1)

module _ {T : Type 0} (j : T → T → T) where
  -- a fact that goes from two values that meet to both in one holds of all that is united
  module _ (S : List ℕ × T → Type 0) (R : T → T → Type 0)
      (closed : (p q : List ℕ × T) → bytes_eq q.0 p.0 ≡ true → R p.1 q.1 → S p → S q → S (p.0, j p.1 q.1)) where
    pub each_unite : (ps : List (List ℕ × T)) (q : List ℕ × T) → AllByRecursion (λ p. bytes_eq q.0 p.0 ≡ true → R p.1 q.1) ps
        → AllByRecursion S ps → S q → AllByRecursion S (unite j ps q.0 q.1)
    each_unite [] q meets all one = (one, tt)
    each_unite (p ∷ ps) q meets all one =
        either (bytes_eq q.0 p.0) (AllByRecursion S (unite j (p ∷ ps) q.0 q.1))
        (λ e. subst (AllByRecursion S) (sym (unite_here j p ps q.0 q.1 e)) (closed p q e (meets.0 e) all.0 one, all.1))
        (λ e. subst (AllByRecursion S) (sym (unite_past j p ps q.0 q.1 e)) (all.0, each_unite ps q meets.1 all.1 one))

  module _ (R : T → T → Type 0) where
    meets_first : (ps : List (List ℕ × T)) (q : List ℕ × T) (qs : List (List ℕ × T)) → Meet R ps (q ∷ qs)
        → AllByRecursion (λ p. bytes_eq q.0 p.0 ≡ true → R p.1 q.1) ps
    meets_first ps q qs meet = each_weaker (λ p all. all.0) ps meet

    meets_rest : (ps : List (List ℕ × T)) (q : List ℕ × T) (qs : List (List ℕ × T)) → Meet R ps (q ∷ qs) → Meet R ps qs
    meets_rest ps q qs meet = each_weaker (λ p all. all.1) ps meet

    each_under_same : (k m : List ℕ) (P : T → Type 0) (qs : List (List ℕ × T)) → bytes_eq k m ≡ true → EachUnder k P qs → EachUnder m P qs
    each_under_same k m P qs e all = subst (λ n. EachUnder n P qs) ((bytes_decides k m).0 e) all

    both_under : (a b : T) (k : List ℕ) (qs : List (List ℕ × T)) → ((c : T) → R a c → R b c → R (j a b) c)
        → EachUnder k (R a) qs → EachUnder k (R b) qs → EachUnder k (R (j a b)) qs
    both_under a b k [] left one two = tt
    both_under a b k (q ∷ qs) left one two = ((λ e. left q.1 (one.0 e) (two.0 e)), both_under a b k qs left one.1 two.1)

    module _ (left : (a b c : T) → R a b → R a c → R b c → R (j a b) c) where
      -- what meets the later ones goes on meeting them once it is united
      pub meet_unite : (ps : List (List ℕ × T)) (q : List ℕ × T) (qs : List (List ℕ × T)) → Meet R ps (q ∷ qs) → EachUnder q.0 (R q.1) qs
          → Meet R (unite j ps q.0 q.1) qs
      meet_unite ps q qs meet next =
          each_unite (λ p. EachUnder p.0 (R p.1) qs) R
          (λ p r e related one two. both_under p.1 r.1 p.0 qs (λ c f g. left p.1 r.1 c related f g) one (each_under_same r.0 p.0 (R r.1) qs e two))
          ps q (meets_first ps q qs meet) (meets_rest ps q qs meet) next

      pub each_united : (S : List ℕ × T → Type 0)
          → ((p q : List ℕ × T) → bytes_eq q.0 p.0 ≡ true → R p.1 q.1 → S p → S q → S (p.0, j p.1 q.1))
          → (ps qs : List (List ℕ × T)) → Meet R ps qs → Among R qs → AllByRecursion S ps → AllByRecursion S qs
          → AllByRecursion S (unite_all j ps qs)
      each_united S closed ps [] meet among one two = one
      each_united S closed ps (q ∷ qs) meet among one two =
          each_united S closed (unite j ps q.0 q.1) qs (meet_unite ps q qs meet among.0) among.1
          (each_unite S R closed ps q (meets_first ps q qs meet) one two.0) two.1

      -- what meets each of some pairs meets them united
      module _ (right : (a b c : T) → R a b → R a c → R b c → R a (j b c)) where
        pub meet_united : (ps qs : List (List ℕ × T)) → Meet R ps qs → Among R qs → Meet R ps (unite_all j [] qs)
        meet_united [] qs meet among = tt
        meet_united (p ∷ ps) qs meet among = (
          (each_united (λ q. bytes_eq q.0 p.0 ≡ true → R p.1 q.1)
              (λ q r e related one two f. right p.1 q.1 r.1 (one f) (two (ap (λ n. bytes_eq n p.0) ((bytes_decides r.0 q.0).0 e) ∙ f)) related)
              [] qs tt among tt meet.0),
          meet_united ps qs meet.1 among,
        )

      -- what meets some pairs meets them once it is united
      pub meet_united_left : (qs rs : List (List ℕ × T)) → Meet R qs rs → Among R qs → Meet R (unite_all j [] qs) rs
      meet_united_left qs rs meet among =
          each_united (λ p. EachUnder p.0 (R p.1) rs)
          (λ p q e related one two. both_under p.1 q.1 p.0 rs (λ c f g. left p.1 q.1 c related f g) one (each_under_same q.0 p.0 (R q.1) rs e two))
          [] qs tt among tt meet

      module _ {V : Type 0} (j' : V → V → V) (v : T → V) (fits : (a b : T) → R a b → v (j a b) ≡ j' (v a) (v b)) where
        over_unite : (ps : List (List ℕ × T)) (q : List ℕ × T) → AllByRecursion (λ p. bytes_eq q.0 p.0 ≡ true → R p.1 q.1) ps
            → over v (unite j ps q.0 q.1) ≡ unite j' (over v ps) q.0 (v q.1)
        over_unite [] q meets = refl
        over_unite (p ∷ ps) q meets =
            let G : Type 0 = over v (unite j (p ∷ ps) q.0 q.1) ≡ unite j' (over v (p ∷ ps)) q.0 (v q.1) in
            either (bytes_eq q.0 p.0) G
            (λ e. ap (over v) (unite_here j p ps q.0 q.1 e) ∙ ap (λ a. (p.0, a) ∷ over v ps) (fits p.1 q.1 (meets.0 e))
            ∙ sym (unite_here j' (p.0, v p.1) (over v ps) q.0 (v q.1) e))
            (λ e. ap (over v) (unite_past j p ps q.0 q.1 e) ∙ ap (λ qs. (p.0, v p.1) ∷ qs) (over_unite ps q meets.1)
            ∙ sym (unite_past j' (p.0, v p.1) (over v ps) q.0 (v q.1) e))

        -- the values of united pairs are the united values
        pub over_united : (ps qs : List (List ℕ × T)) → Meet R ps qs → Among R qs
            → over v (unite_all j ps qs) ≡ unite_all j' (over v ps) (over v qs)
        over_united ps [] meet among = refl
        over_united ps (q ∷ qs) meet among =
            over_united (unite j ps q.0 q.1) qs (meet_unite ps q qs meet among.0) among.1
            ∙ ap (λ xs. unite_all j' xs (over v qs)) (over_unite ps q (meets_first ps q qs meet))

-- pairs of distinct names have none to relate
module _ {T : Type 0} (R : T → T → Type 0) where
  none_under : (k : List ℕ) (a : T) (qs : List (List ℕ × T)) → under k qs ≡ None → EachUnder k (R a) qs
  none_under k a [] none = tt
  none_under k a (q ∷ qs) none = (
    (λ e. absurd (never_differs k q.0 (sym ((bytes_decides q.0 k).0 e)) (absent_head (λ x y. x) k q qs none))),
    none_under k a qs (absent_tail (λ x y. x) k q qs none),
  )

  pub among_distinct : (qs : List (List ℕ × T)) → HasDistinctNames qs → Among R qs
  among_distinct [] d = tt
  among_distinct (q ∷ qs) d = (none_under q.0 q.1 qs d.0, among_distinct qs d.1)
