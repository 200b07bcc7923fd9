-- Answering each occurrence apart and joining the places is answering each key once.
use Rattle.std.proofs.Common.{◌≡◌, ℕ, zero, suc, true, List, [], ◌∷◌, ◌++◌, refl, ap, sym, subst, ◌∙◌, arith}
use Rattle.std.specs.List.{Contains}
use Rattle.std.specs.Cmp.Lexicographic.{bytes_decides}
use Rattle.std.proofs.lemmas.List.Elements.{Contains-append_right}
use Rattle.gql_base.specs.Pairs.{unite_all}
use Rattle.gql_select.specs.Reading.{Reading, IsReading, over, keyed, merged}
use Rattle.gql_select.specs.Grouped.{grouped, respond, IsPlacing, Placing}
use Rattle.gql_select.specs.Conflicts.{Agree}
use Rattle.gql_select.proofs.UnitingLemmas.{EachUnder, Meet, Among, over_united, meet_united, meet_united_left, among_distinct, distinct_united, unite_all_into, unite_all-append}
use Rattle.gql_select.proofs.AgreeLemmas.{in_left, in_right, agree_left_one, agree_left_two, agree_right_one, agree_right_two, agree_left, agree_right, agree_whole}

pub first_in : {A : Type 0} (x : A) (xs : List A) → Contains (x ∷ xs) x
first_in x xs = (0, omega arith, refl)

pub later_in : {A : Type 0} (x y : A) (xs : List A) → Contains xs y → Contains (x ∷ xs) y
later_in x y xs h = Contains-append_right (x ∷ []) xs y h

module _ {O F X : Type 0} (reading : Reading O F X) (is : IsReading reading) where
  keyed-append : (fs gs : List F) → keyed reading (fs ++ gs) ≡ keyed reading fs ++ keyed reading gs
  keyed-append [] gs = refl
  keyed-append (f ∷ fs) gs = ap (λ ps. (reading.key f, f) ∷ ps) (keyed-append fs gs)

  -- two fields fit at a level: they ask the same, and under both all agrees
  pub record Fit (n : ℕ) (o : O) (f g : F) : Type 0 where
    pub alike : reading.alike f g ≡ true
    pub beneath : (inner : O) → Contains (reading.objects o f) inner → Agree reading n inner (reading.set f ++ reading.set g) (reading.set f ++ reading.set g)

  module _ (n : ℕ) (o : O) where
    fit_from : (f g : F) → reading.alike f g ≡ true
        → ((inner : O) → Contains (reading.objects o f) inner → (Agree reading n inner (reading.set f) (reading.set f) × Agree reading n inner (reading.set f) (reading.set g))
        × (Agree reading n inner (reading.set g) (reading.set f) × Agree reading n inner (reading.set g) (reading.set g)))
        → Fit n o f g
    fit_from f g same beneath = record {
      alike = same;
      beneath = λ inner at. let h = beneath inner at in
          agree_whole reading is n inner (reading.set f) (reading.set g) h.0.0 h.0.1 h.1.0 h.1.1;
    }

    fit_parts : (f g : F) → Fit n o f g → (inner : O) → Contains (reading.objects o f) inner
        → (Agree reading n inner (reading.set f) (reading.set f) × Agree reading n inner (reading.set f) (reading.set g))
        × (Agree reading n inner (reading.set g) (reading.set f) × Agree reading n inner (reading.set g) (reading.set g))
    fit_parts f g fit inner at =
        let xs : List X = reading.set f in let ys : List X = reading.set g in
        let h : Agree reading n inner (xs ++ ys) (xs ++ ys) = fit.beneath inner at in
        let one : Agree reading n inner xs (xs ++ ys) = agree_left_one reading is n inner xs ys (xs ++ ys) h in
        let two : Agree reading n inner ys (xs ++ ys) = agree_left_two reading is n inner xs ys (xs ++ ys) h in (
          (agree_right_one reading is n inner xs ys xs one, agree_right_two reading is n inner xs ys xs one),
          (agree_right_one reading is n inner xs ys ys two, agree_right_two reading is n inner xs ys ys two),
        )

    at_alike : (f g : F) (inner : O) → reading.alike f g ≡ true → Contains (reading.objects o f) inner → Contains (reading.objects o g) inner
    at_alike f g inner same at = subst (λ os. Contains os inner) (is.objects_of_alike o f g same) at

    at_both : (f g : F) (inner : O) → Contains (reading.objects o (reading.both f g)) inner → Contains (reading.objects o f) inner
    at_both f g inner at = subst (λ os. Contains os inner) (is.objects_of_both o f g) at

    pub fit_left : (a b c : F) → Fit n o a b → Fit n o a c → Fit n o b c → Fit n o (reading.both a b) c
    fit_left a b c ab ac bc =
        fit_from (reading.both a b) c (is.alike_both a b c ∙ ac.alike)
        (λ inner at'. let at : Contains (reading.objects o a) inner = at_both a b inner at' in
        let xy = fit_parts a b ab inner at in let xz = fit_parts a c ac inner at in let yz = fit_parts b c bc inner (at_alike a b inner ab.alike at) in
        let xs : List X = reading.set a in let ys : List X = reading.set b in let zs : List X = reading.set c in
        let G : List X → Type 0 = λ ws. (Agree reading n inner ws ws × Agree reading n inner ws zs) × (Agree reading n inner zs ws × Agree reading n inner zs zs) in
        subst G (sym (is.set_of_both a b)) (
          (agree_whole reading is n inner xs ys xy.0.0 xy.0.1 xy.1.0 xy.1.1, agree_left reading is n inner xs ys zs xz.0.1 yz.0.1),
          (agree_right reading is n inner xs ys zs xz.1.0 yz.1.0, xz.1.1),
        ))

    fit_right : (a b c : F) → Fit n o a b → Fit n o a c → Fit n o b c → Fit n o a (reading.both b c)
    fit_right a b c ab ac bc =
        fit_from a (reading.both b c) (is.both_alike a b c ∙ ab.alike)
        (λ inner at.
        let xy = fit_parts a b ab inner at in let xz = fit_parts a c ac inner at in let yz = fit_parts b c bc inner (at_alike a b inner ab.alike at) in
        let xs : List X = reading.set a in let ys : List X = reading.set b in let zs : List X = reading.set c in
        let G : List X → Type 0 = λ ws. (Agree reading n inner xs xs × Agree reading n inner xs ws) × (Agree reading n inner ws xs × Agree reading n inner ws ws) in
        subst G (sym (is.set_of_both b c)) (
          (xy.0.0, agree_right reading is n inner ys zs xs xy.0.1 xz.0.1),
          (agree_left reading is n inner ys zs xs xy.1.0 xz.1.0, agree_whole reading is n inner ys zs yz.0.0 yz.0.1 yz.1.0 yz.1.1),
        ))

    -- fields of a set that agrees with itself fit where they have one key
    fit_in : (set : List X) → Agree reading (suc n) o set set → (f g : F) → Contains (reading.fields o set) f → Contains (reading.fields o set) g
        → reading.key f ≡ reading.key g → Fit n o f g
    fit_in set agree f g in_f in_g same =
        let fg = agree f g in_f in_g same in
        let gf = agree g f in_g in_f (sym same) in
        fit_from f g fg.0
        (λ inner at. let at' : Contains (reading.objects o g) inner = at_alike f g inner fg.0 at in
        (((agree f f in_f in_f refl).1 inner at, fg.1 inner at), (gf.1 inner at', (agree g g in_g in_g refl).1 inner at')))

    -- all that stands in a list fits with this field where it has its key
    each_fits : (set : List X) → Agree reading (suc n) o set set → (f : F) → Contains (reading.fields o set) f → (gs : List F)
        → ((g : F) → Contains gs g → Contains (reading.fields o set) g) → EachUnder (reading.key f) (Fit n o f) (keyed reading gs)
    each_fits set agree f in_f [] within = tt
    each_fits set agree f in_f (g ∷ gs) within = (
      (λ e. fit_in set agree f g in_f (within g (first_in g gs)) (sym ((bytes_decides (reading.key g) (reading.key f)).0 e))),
      each_fits set agree f in_f gs (λ h at. within h (later_in g h gs at)),
    )

    pub among_in : (set : List X) → Agree reading (suc n) o set set → (fs : List F) → ((f : F) → Contains fs f → Contains (reading.fields o set) f)
        → Among (Fit n o) (keyed reading fs)
    among_in set agree [] within = tt
    among_in set agree (f ∷ fs) within = (
      each_fits set agree f (within f (first_in f fs)) fs (λ g at. within g (later_in f g fs at)),
      among_in set agree fs (λ g at. within g (later_in f g fs at)),
    )

    meet_in : (set : List X) → Agree reading (suc n) o set set → (fs gs : List F) → ((f : F) → Contains fs f → Contains (reading.fields o set) f)
        → ((g : F) → Contains gs g → Contains (reading.fields o set) g) → Meet (Fit n o) (keyed reading fs) (keyed reading gs)
    meet_in set agree [] gs one other = tt
    meet_in set agree (f ∷ fs) gs one other =
        (each_fits set agree f (one f (first_in f fs)) gs other, meet_in set agree fs gs (λ h at. one h (later_in f h fs at)) other)

module _ {O P F X Pl : Type 0} (placing : Placing O P F X Pl) (is : IsReading placing.reading) (join : Pl → Pl → Pl)
    (law : IsPlacing placing join) where
  -- the place of a field, and what is under it merged
  place_at : ℕ → O → P → F → Pl
  place_at n o p f = placing.place o p f (λ inner parent. grouped placing n inner parent (placing.reading.set f))

  module _ (n : ℕ) (o : O) (p : P)
      (below : (inner : O) (parent : P) (xs ys : List X) → Agree placing.reading n inner (xs ++ ys) (xs ++ ys)
      → grouped placing n inner parent (xs ++ ys) ≡ unite_all join (grouped placing n inner parent xs) (grouped placing n inner parent ys)) where
    -- the place of two fields that fit is that of each, joined
    place_both : (f g : F) → Fit placing.reading is n o f g → place_at n o p (placing.reading.both f g) ≡ join (place_at n o p f) (place_at n o p g)
    unfolding place_at
    place_both f g fit =
        law.same o p (placing.reading.both f g) _ _
        (λ inner parent at. ap (grouped placing n inner parent) (is.set_of_both f g)
        ∙ below inner parent (placing.reading.set f) (placing.reading.set g) (fit.beneath inner (subst (λ os. Contains os inner) (is.objects_of_both o f g) at)))
        ∙ sym (law.joins o p f g _ _ fit.alike)

    -- the places of merged fields are the joined places of the fields
    places_united : (ps qs : List (List ℕ × F)) → Meet (Fit placing.reading is n o) ps qs → Among (Fit placing.reading is n o) qs
        → over (place_at n o p) (unite_all placing.reading.both ps qs) ≡ unite_all join (over (place_at n o p) ps) (over (place_at n o p) qs)
    places_united ps qs meet among = over_united placing.reading.both (Fit placing.reading is n o) (fit_left placing.reading is n o) join (place_at n o p) place_both ps qs meet among

    places_both : (xs ys : List X) → Agree placing.reading (suc n) o (xs ++ ys) (xs ++ ys)
        → grouped placing (suc n) o p (xs ++ ys) ≡ unite_all join (grouped placing (suc n) o p xs) (grouped placing (suc n) o p ys)
    unfolding place_at
    places_both xs ys agree =
        let v : F → Pl = place_at n o p in
        let one : List F = placing.reading.fields o xs in let two : List F = placing.reading.fields o ys in
        let R : F → F → Type 0 = Fit placing.reading is n o in
        let in_one : (f : F) → Contains one f → Contains (placing.reading.fields o (xs ++ ys)) f = in_left placing.reading is o xs ys in
        let in_two : (f : F) → Contains two f → Contains (placing.reading.fields o (xs ++ ys)) f = in_right placing.reading is o xs ys in
        let among_one : Among R (keyed placing.reading one) = among_in placing.reading is n o (xs ++ ys) agree one in_one in
        let among_two : Among R (keyed placing.reading two) = among_in placing.reading is n o (xs ++ ys) agree two in_two in
        let meet : Meet R (merged placing.reading one) (keyed placing.reading two)
        = meet_united_left placing.reading.both R (fit_left placing.reading is n o) (keyed placing.reading one) (keyed placing.reading two) (meet_in placing.reading is n o (xs ++ ys) agree one two in_one in_two) among_one in
        let meets : Meet R (merged placing.reading one) (merged placing.reading two)
        = meet_united placing.reading.both R (fit_left placing.reading is n o) (fit_right placing.reading is n o) (merged placing.reading one) (keyed placing.reading two) meet among_two in
        ap (λ fs. over v (merged placing.reading fs)) (is.fields_of_both o xs ys)
        ∙ ap (λ ps. over v (unite_all placing.reading.both [] ps)) (keyed-append placing.reading is one two)
        ∙ ap (over v) (unite_all-append placing.reading.both [] (keyed placing.reading one) (keyed placing.reading two)
        ∙ sym (unite_all_into placing.reading.both is.both_of_both (merged placing.reading one) [] (keyed placing.reading two) tt))
        ∙ places_united (merged placing.reading one) (merged placing.reading two) meets (among_distinct R (merged placing.reading two) (distinct_united placing.reading.both [] (keyed placing.reading two) tt))

  -- merged execution of two sets that agree is that of each, joined
  pub grouped_both : (n : ℕ) (o : O) (p : P) (xs ys : List X) → Agree placing.reading n o (xs ++ ys) (xs ++ ys)
      → grouped placing n o p (xs ++ ys) ≡ unite_all join (grouped placing n o p xs) (grouped placing n o p ys)
  grouped_both zero o p xs ys agree = refl
  grouped_both (suc n) o p xs ys agree = places_both n o p (grouped_both n) xs ys agree

  over_same : {A : Type 0} (v w : F → A) (fs : List F) → ((f : F) → Contains fs f → v f ≡ w f) → over v (keyed placing.reading fs) ≡ over w (keyed placing.reading fs)
  over_same v w [] same = refl
  over_same v w (f ∷ fs) same =
      (λ i. (placing.reading.key f, same f (first_in f fs) i) ∷ over_same v w fs (λ g at. same g (later_in f g fs at)) i)

  -- each occurrence answered apart and joined is each key answered once
  pub respond_grouped : (n : ℕ) (o : O) (p : P) (set : List X) → Agree placing.reading n o set set → respond placing join n o p set ≡ grouped placing n o p set
  unfolding place_at
  respond_grouped zero o p set agree = refl
  respond_grouped (suc n) o p set agree =
      let fs : List F = placing.reading.fields o set in
      ap (unite_all join [])
      (over_same (λ f. placing.place o p f (λ inner parent. respond placing join n inner parent (placing.reading.set f))) (place_at n o p) fs
      (λ f in_f. law.same o p f _ _ (λ inner parent at. respond_grouped n inner parent (placing.reading.set f) ((agree f f in_f in_f refl).1 inner at))))
      ∙ sym (places_united n o p (grouped_both n) [] (keyed placing.reading fs) tt (among_in placing.reading is n o set agree fs (λ f at. at)))
