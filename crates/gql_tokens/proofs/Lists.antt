-- Lists that are cut in two ways, and the runs that they begin with.
use Rattle.std.proofs.Common.{◌≡◌, ℕ, Bool, true, false, cond, ◌⊎◌, List, [], ◌∷◌, ◌++◌, refl, sym, ap, ◌∙◌, inl, inr, arith, subst, ◌+◌, ◌-◌, ◌<◌, length, take, drop, drop-drop, get_or, one-add, suc, zero}
use Rattle.std.proofs.lemmas.List.{drop_more, take_more, take_rest}
use Rattle.std.specs.List.{AllByRecursion, prefix_len}
use Rattle.gql_tokens.specs.Characters.{begins}

pub head_is : {A : Type 0} {c d : A} {cs ds : List A} → c ∷ cs ≡ d ∷ ds → c ≡ d
head_is e = cc

pub tail_is : {A : Type 0} {c d : A} {cs ds : List A} → c ∷ cs ≡ d ∷ ds → cs ≡ ds
tail_is e = cc

-- two lists with one head and one tail, beside what follows
pub with_head : {A : Type 0} {c d : A} {a b x y : List A} → c ≡ d → (a ≡ b) × (x ≡ y) → (c ∷ a ≡ d ∷ b) × (x ≡ y)
with_head h (same, rest) = ((cc), rest)

-- of two fronts of a list one is a front of the other
pub fronts : {A : Type 0} (a b x y : List A) → a ++ x ≡ b ++ y
    → ((m : List A) × (b ≡ a ++ m) × (x ≡ m ++ y)) ⊎ ((c : A) × (m : List A) × (a ≡ b ++ c ∷ m) × (y ≡ c ∷ m ++ x))
fronts [] b x y e = inl (b, refl, e)
fronts (c ∷ a) [] x y e = inr (c, a, refl, sym e)
fronts (c ∷ a) (d ∷ b) x y e =
    elim (fronts a b x y (tail_is e)) [
      | inl w ↦ inl (w.0, (let h = head_is e in let t = w.1 in cc), w.2)
      | inr w ↦ inr (w.0, w.1, (let h = head_is e in let t = w.2 in cc), w.3)
    ]

-- what doesn't begin so begins with another character
pub begins_not : (test : ℕ → Bool) (text : List ℕ) (c : ℕ) (cs : List ℕ) → begins test text ≡ false → text ≡ c ∷ cs → test c ≡ false
begins_not test text c cs h e = sym (ap (begins test) e) ∙ h

-- what begins so has a first character
pub begins_so : (test : ℕ → Bool) (text : List ℕ) → begins test text ≡ true → (c : ℕ) × (cs : List ℕ) × (text ≡ c ∷ cs) × (test c ≡ true)
begins_so test [] h = let k : false ≡ true = h in absurd cc
begins_so test (c ∷ cs) h = (c, cs, refl, h)

pub begins_front : (test : ℕ → Bool) (a b : List ℕ) → begins test a ≡ true → begins test (a ++ b) ≡ true
begins_front test [] b h = let k : false ≡ true = h in cc
begins_front test (c ∷ a) b h = h

-- each character of a list passes
abbrev pub Each : (ℕ → Bool) → List ℕ → Type 0
Each test cs = AllByRecursion (λ c. test c ≡ true) cs

pub each_weaker : (p q : ℕ → Bool) (cs : List ℕ) → ((c : ℕ) → p c ≡ true → q c ≡ true) → Each p cs → Each q cs
each_weaker p q [] f h = tt
each_weaker p q (c ∷ cs) f h = (f c h.0, each_weaker p q cs f h.1)

pub each_front : (p : ℕ → Bool) (a b : List ℕ) → Each p (a ++ b) → Each p a
each_front p [] b h = tt
each_front p (c ∷ a) b h = (h.0, each_front p a b h.1)

pub each_back : (p : ℕ → Bool) (a b : List ℕ) → Each p (a ++ b) → Each p b
each_back p [] b h = h
each_back p (c ∷ a) b h = each_back p a b h.1

pub each_append : (p : ℕ → Bool) (a b : List ℕ) → Each p a → Each p b → Each p (a ++ b)
each_append p [] b h k = k
each_append p (c ∷ a) b h k = (h.0, each_append p a b h.1 k)

pub each_same : (p : ℕ → Bool) {a b : List ℕ} → a ≡ b → Each p a → Each p b
each_same p e h = subst (Each p) e h

-- a run of characters that pass, as long as can be, is one
pub run_unique : (test : ℕ → Bool) (a b x y : List ℕ) → Each test a → Each test b → begins test x ≡ false → begins test y ≡ false
    → a ++ x ≡ b ++ y → (a ≡ b) × (x ≡ y)
run_unique test [] [] x y p q r s e = (refl, e)
run_unique test [] (d ∷ b) x y p q r s e = let h = begins_not test x d (b ++ y) r e in let t = q.0 in cc
run_unique test (c ∷ a) [] x y p q r s e = let h = begins_not test y c (a ++ x) s (sym e) in let t = p.0 in cc
run_unique test (c ∷ a) (d ∷ b) x y p q r s e =
    let (same, rest) = run_unique test a b x y p.1 q.1 r s (tail_is e) in
    ((let h = head_is e in cc), rest)

-- the run at a list's front
pub run_passes : (test : ℕ → Bool) (cs : List ℕ) → Each test (take (prefix_len test cs) cs)
run_passes test [] = tt
run_passes test (c ∷ cs) =
    elim (test c) as (λ b. test c ≡ b → Each test (take (cond b (1 + prefix_len test cs) 0) (c ∷ cs))) [
      | true ↦ λ e. rw one-add (e, run_passes test cs)
      | false ↦ λ e. tt
    ] refl

pub run_stops : (test : ℕ → Bool) (cs : List ℕ) → begins test (drop (prefix_len test cs) cs) ≡ false
run_stops test [] = refl
run_stops test (c ∷ cs) =
    elim (test c) as (λ b. test c ≡ b → begins test (drop (cond b (1 + prefix_len test cs) 0) (c ∷ cs)) ≡ false) [
      | true ↦ λ e. rw one-add (run_stops test cs)
      | false ↦ λ e. e
    ] refl

-- after a run no character passes
pub run_stops_behind : (test : ℕ → Bool) (text : List ℕ) (at k : ℕ) → k ≡ prefix_len test (drop at text) → begins test (drop (at + k) text) ≡ false
run_stops_behind test text at k e =
    ap (begins test) (sym (drop-drop k at text) ∙ ap (λ n. drop n (drop at text)) e) ∙ run_stops test (drop at text)

-- the slice after a place, of a list that equals another
pub rest_is : (text bytes : List ℕ) (at : ℕ) → bytes ≡ text → take (length bytes - at) (drop at bytes) ≡ drop at text
rest_is text bytes at same = take_rest bytes at ∙ ap (drop at) same

-- what a list begins with after its first elements
pub drop_at_item : (text : List ℕ) (i c : ℕ) → i < length text → c ≡ get_or text i c → drop i text ≡ c ∷ drop (i + 1) text
drop_at_item text i c h e = drop_more text i c h ∙ ap (λ d. d ∷ drop (i + 1) text) (sym e)

pub take_at_item : (text : List ℕ) (i c : ℕ) → i < length text → c ≡ get_or text i c → take (i + 1) text ≡ take i text ++ c ∷ []
take_at_item text i c h e = take_more text i c h ∙ ap (λ d. take i text ++ d ∷ []) (sym e)

pub begins_at : (test : ℕ → Bool) (text : List ℕ) (i c : ℕ) → i < length text → c ≡ get_or text i c → begins test (drop i text) ≡ test c
begins_at test text i c h e = ap (begins test) (drop_at_item text i c h e)

-- a run that isn't empty begins with a character that passes
pub run_begins : (test : ℕ → Bool) (cs : List ℕ) → (prefix_len test cs ≡ 0 → ⊥) → begins test (take (prefix_len test cs) cs) ≡ true
run_begins test [] some = absurd (some refl)
run_begins test (c ∷ cs) some = go (test c) refl
  where
    go : (b : Bool) → test c ≡ b → begins test (take (cond (test c) (1 + prefix_len test cs) 0) (c ∷ cs)) ≡ true
    go true e = rw e (rw one-add e)
    go false e = absurd (some (rw e refl))

pub run_empty : (test : ℕ → Bool) (cs : List ℕ) → prefix_len test cs ≡ 0 → begins test cs ≡ false
run_empty test [] none = refl
run_empty test (c ∷ cs) none = go (test c) refl
  where
    go : (b : Bool) → test c ≡ b → test c ≡ false
    go true e = let k : cond (test c) (1 + prefix_len test cs) 0 ≡ 1 + prefix_len test cs = rw e refl in let l = none in absurd (omega arith)
    go false e = e

pub run_length : (test : ℕ → Bool) (cs rest : List ℕ) → Each test cs → begins test rest ≡ false → prefix_len test (cs ++ rest) ≡ length cs
run_length test [] [] h ends = refl
run_length test [] (d ∷ rest) h ends = rw ends refl
run_length test (c ∷ cs) rest h ends = rw h.0 (rw one-add (ap suc (run_length test cs rest h.1 ends)))

-- a front that isn't empty begins as the whole does
pub begins_take : (test : ℕ → Bool) (n : ℕ) (text : List ℕ) → begins test text ≡ true → 0 < n → begins test (take n text) ≡ true
begins_take test zero text h some = absurd (omega arith)
begins_take test (suc n) [] h some = h
begins_take test (suc n) (c ∷ cs) h some = h

pub run_some : (test : ℕ → Bool) (text : List ℕ) → begins test text ≡ true → 0 < prefix_len test text
run_some test [] h = let k : false ≡ true = h in absurd cc
run_some test (c ∷ cs) h = rw h (omega arith)
