-- What is known of a draft: its part, or the place of the first doubled name.
use Rattle.std.proofs.Common.{◌≡◌, ℕ, Bool, true, false, cond, List, [], ◌∷◌, ◌++◌, map, Option, Some, None, Result, Ok, Err, refl, sym, ap, ◌∙◌, append_assoc, append-nil}
use Rattle.std.proofs.lemmas.List.{map-append}
use Rattle.std.specs.Option.{option_or}
use Rattle.gql_base.specs.Pairs.{names_of}
use Rattle.gql_base.specs.declared.pos.Pos.{Pos}
use Rattle.gql_doc.specs.declared.document.DocValue.{DocValue}
use Rattle.gql_doc.specs.declared.draft.Draft.{Draft}
use Rattle.gql_doc.specs.declared.tree.MemberTree.{MemberTree}
use Rattle.gql_doc.specs.First.{first_in}
use Rattle.gql_doc.specs.Words.{PlacedName}
use Rattle.gql_doc.specs.NameRules.{is_among, if_among, doubled_in_value}
use Rattle.gql_doc.specs.Building.{value_of}
use Rattle.gql_doc.specs.Drafts.{added, folded, with_fresh, with_member}
use Rattle.gql_doc.proofs.Builds.{member_of, doubled_in_member, doubled_among_members}

abbrev pub Judged : Type 0 → Type 0
Judged A = Result A Pos

abbrev pub judged : {A : Type 0} → Option Pos → A → Judged A
judged None part = Ok part
judged (Some pos) part = Err pos

abbrev pub shown : {A : Type 0} → Draft A → Judged A
shown draft = judged draft.doubled draft.part

-- what a part of a tree gives
abbrev pub given : {T A : Type 0} → (T → A) → (T → Option Pos) → T → Judged A
given part doubled tree = judged (doubled tree) (part tree)

abbrev over : {A B : Type 0} → (A → B) → Judged A → Judged B
over make (Ok a) = Ok (make a)
over make (Err pos) = Err pos

abbrev both : {A B C : Type 0} → (A → B → C) → Judged A → Judged B → Judged C
both make (Err pos) other = Err pos
both make (Ok a) (Ok b) = Ok (make a b)
both make (Ok a) (Err pos) = Err pos

over_judged : {A B : Type 0} → (make : A → B) (d : Option Pos) (a : A) → judged d (make a) ≡ over make (judged d a)
over_judged make None a = refl
over_judged make (Some pos) a = refl

both_judged : {A B C : Type 0} → (make : A → B → C) (d e : Option Pos) (a : A) (b : B) → judged (option_or d e) (make a b) ≡ both make (judged d a) (judged e b)
both_judged make None None a b = refl
both_judged make None (Some pos) a b = refl
both_judged make (Some pos) e a b = refl

-- what is made of one part, and of two, is known where they are
pub one_shown : {A B : Type 0} → (make : A → B) (d d' : Option Pos) (a a' : A) → judged d a ≡ judged d' a' → judged d (make a) ≡ judged d' (make a')
one_shown make d d' a a' same = over_judged make d a ∙ ap (over make) same ∙ sym (over_judged make d' a')

pub both_shown : {A B C : Type 0} → (make : A → B → C) (d d' e e' : Option Pos) (a a' : A) (b b' : B) → judged d a ≡ judged d' a' → judged e b ≡ judged e' b'
    → judged (option_or d e) (make a b) ≡ judged (option_or d' e') (make a' b')
both_shown make d d' e e' a a' b b' same other = both_judged make d e a b ∙ (λ i. both make (same i) (other i)) ∙ sym (both_judged make d' e' a' b')

abbrev pair : {A B : Type 0} → A → B → A × B
pair a b = (a, b)

pub three_shown : {A B C D : Type 0} → (make : A → B → C → D) (d d' e e' f f' : Option Pos) (a a' : A) (b b' : B) (c c' : C) → judged d a ≡ judged d' a' → judged e b ≡ judged e' b' → judged f c ≡ judged f' c'
    → judged (option_or d (option_or e f)) (make a b c) ≡ judged (option_or d' (option_or e' f')) (make a' b' c')
three_shown {A} {B} {C} make d d' e e' f f' a a' b b' c c' one two three =
    both_shown (λ (x : A) (p : B × C). make x p.0 p.1) d d' (option_or e f) (option_or e' f') a a' (pair b c) (pair b' c') one
    (both_shown (λ (x : B) (y : C). pair x y) e e' f f' b b' c c' two three)

-- Options.

pub option_or_later : {A : Type 0} → (a b c : Option A) → option_or (option_or a b) c ≡ option_or a (option_or b c)
option_or_later None b c = refl
option_or_later (Some x) b c = refl

pub option_or_none : {A : Type 0} → (a : Option A) → option_or a None ≡ a
option_or_none None = refl
option_or_none (Some x) = refl

-- Lists.

abbrev head_or : {A : Type 0} → A → List A → A
head_or a [] = a
head_or a (x ∷ xs) = x

abbrev behind : {A : Type 0} → List A → List A
behind [] = []
behind (x ∷ xs) = xs

abbrev is_empty : {A : Type 0} → List A → Bool
is_empty [] = true
is_empty (x ∷ xs) = false

pub first_same : {A : Type 0} → (x y : A) (xs ys : List A) → x ∷ xs ≡ y ∷ ys → x ≡ y
first_same x y xs ys e = ap (head_or x) e

pub others_same : {A : Type 0} → (x y : A) (xs ys : List A) → x ∷ xs ≡ y ∷ ys → xs ≡ ys
others_same x y xs ys e = ap behind e

pub no_more : {A X : Type 0} → (x : A) (xs : List A) → [] ≡ x ∷ xs → X
no_more x xs e = absurd (let k : true ≡ false = ap is_empty e in cc)

module _ {A T : Type 0} (part : T → A) (doubled : T → Option Pos) where
  -- drafts that were added to a list
  pub items_shown : (start : Draft (List A)) (d : Option Pos) (before : List A) (xs : List (Draft A)) (ts : List T) → shown start ≡ judged d before → map shown xs ≡ map (given part doubled) ts
      → shown (folded added start xs) ≡ judged (option_or d (first_in doubled ts)) (before ++ map part ts)
  items_shown start d before [] [] here same = here ∙ (λ i. judged (sym (option_or_none d) i) (sym (append-nil before) i))
  items_shown start d before [] (t ∷ ts) here same = no_more _ _ same
  items_shown start d before (x ∷ xs) [] here same = no_more _ _ (sym same)
  items_shown start d before (x ∷ xs) (t ∷ ts) here same =
      items_shown (added start x) (option_or d (doubled t)) (before ++ part t ∷ []) xs ts
      (both_shown (λ l y. l ++ y ∷ []) start.doubled d x.doubled (doubled t) start.part before x.part (part t) here (first_same _ _ _ _ same))
      (others_same _ _ _ _ same)
      ∙ (λ i. judged (option_or_later d (doubled t) (first_in doubled ts) i) (append_assoc before (part t ∷ []) (map part ts) i))

-- Members.

abbrev pub seen_member : PlacedName × Draft DocValue → PlacedName × Judged DocValue
seen_member member = (member.0, shown member.1)

abbrev pub told_member : MemberTree → PlacedName × Judged DocValue
told_member member = (member.name, given value_of doubled_in_value member.value)

-- A part that was added under its name among others of what was gathered, unless the name was taken.
module _ {A P Q : Type 0} (list : P → List (List ℕ × A)) (put : P → List (List ℕ × A) → Q) (name : List ℕ) (pos : Pos) (d e : Option Pos) (a a' : A) (same : judged d a ≡ judged e a') where
  named_by : (b : Bool) (before : P)
      → judged (option_or (cond b (Some pos) None) d) (put before (cond b (list before) (list before ++ (name, a) ∷ []))) ≡ judged (option_or (cond b (Some pos) None) e) (put before (list before ++ (name, a') ∷ []))
  named_by true before = refl
  named_by false before = one_shown (λ y. put before (list before ++ (name, y) ∷ [])) d e a a' same

  abbrev known : P → Judged P → P
  known p (Ok q) = q
  known p (Err place) = p

  abbrev place_or : Pos → Judged P → Pos
  place_or p (Ok q) = p
  place_or p (Err q) = q

  pub named_shown : (c c' : Option Pos) (old before : P) → judged c old ≡ judged c' before
      → judged (option_or c (option_or (if_among (names_of (list old)) name pos) d)) (put old (with_fresh (list old) name a))
      ≡ judged (option_or c' (option_or (if_among (names_of (list before)) name pos) e)) (put before (list before ++ (name, a') ∷ []))
  named_shown None None old before here =
      let is : old ≡ before = ap (known old) here in
      (λ i. judged (option_or (if_among (names_of (list (is i))) name pos) d) (put (is i) (with_fresh (list (is i)) name a))) ∙ named_by (is_among name (names_of (list before))) before
  named_shown None (Some p) old before here = absurd (cc here)
  named_shown (Some p) None old before here = absurd (cc here)
  named_shown (Some p) (Some q) old before here = ap (λ o. Err (place_or p o)) here

pub members_shown : (start : Draft (List (List ℕ × DocValue))) (d : Option Pos) (before : List (List ℕ × DocValue)) (xs : List (PlacedName × Draft DocValue)) (ts : List MemberTree)
    → shown start ≡ judged d before → map seen_member xs ≡ map told_member ts
    → shown (folded with_member start xs) ≡ judged (option_or d (doubled_among_members (names_of before) ts)) (before ++ map member_of ts)
members_shown start d before [] [] here same = here ∙ (λ i. judged (sym (option_or_none d) i) (sym (append-nil before) i))
members_shown start d before [] (t ∷ ts) here same = no_more _ _ same
members_shown start d before (x ∷ xs) [] here same = no_more _ _ (sym same)
members_shown start d before (x ∷ xs) (t ∷ ts) here same =
    let first = first_same (seen_member x) (told_member t) _ _ same in
    let name : x.0 ≡ t.name = ap (λ p. p.0) first in
    members_shown (with_member start x) (option_or d (doubled_in_member (names_of before) t)) (before ++ member_of t ∷ []) xs ts
    (named_shown (λ ms. ms) (λ _ ms. ms) x.0.node x.0.pos x.1.doubled (doubled_in_value t.value) x.1.part (value_of t.value) (ap (λ p. p.1) first) start.doubled d start.part before here
    ∙ (λ i. judged (option_or d (option_or (if_among (names_of before) (name i).node (name i).pos) (doubled_in_value t.value))) (before ++ ((name i).node, value_of t.value) ∷ [])))
    (others_same _ _ _ _ same)
    ∙ (λ i. judged (option_or_later d (doubled_in_member (names_of before) t) (doubled_among_members (map-append (λ p. p.0) before (member_of t ∷ []) i) ts) i) (append_assoc before (member_of t ∷ []) (map member_of ts) i))
