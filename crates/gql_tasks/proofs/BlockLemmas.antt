-- Places in blocks.
use Rattle.std.proofs.Common.{ℕ, zero, suc, ◌≡◌, ◌+◌, ◌-◌, ◌<◌, ◌≤◌, List, [], ◌∷◌, ◌++◌, Some, length, take, drop, slice_get, slice_set, refl, sym, ap, subst, ◌∙◌, arith, append_assoc, append-nil, length-append}
use Rattle.std.proofs.lemmas.Bool.Decides.{nat_tests}
use Rattle.std.proofs.lemmas.List.Edits.{remove-append_left, remove-append_right}
use Rattle.std.proofs.lemmas.List.FromFn.{length-range_with_len}
use Rattle.std.specs.List.{remove, range_with_len}
use Rattle.std.specs.Prelude.{true, ◌==◌}
use Rattle.gql_tasks.specs.Waiting.{Block, all_in, numbers_between, IsSpot}

get-left : {X : Type 0} (xs ys : List X) (i : ℕ) → i < length xs → slice_get (xs ++ ys) i ≡ slice_get xs i
get-left [] ys i within = absurd (omega arith)
get-left (x ∷ xs) ys zero within = refl
get-left (x ∷ xs) ys (suc i) within = get-left xs ys i (omega arith)

get-right : {X : Type 0} (xs ys : List X) (i : ℕ) → slice_get (xs ++ ys) (length xs + i) ≡ slice_get ys i
get-right [] ys i = let e : 0 + i ≡ i = omega arith in ap (slice_get ys) e
get-right (x ∷ xs) ys i =
    let e : suc (length xs) + i ≡ suc (length xs + i) = omega arith in
    ap (slice_get (x ∷ (xs ++ ys))) e ∙ get-right xs ys i

-- what stands at a spot
pub get-spot : (bs : List Block) (place block index : ℕ) (b : Block) → slice_get bs block ≡ Some b → IsSpot bs place block index
    → slice_get (all_in bs) place ≡ slice_get b.items index
get-spot [] place block index b is spot = cc
get-spot (c ∷ bs) place zero index b is spot =
    let same : c ≡ b = cc in
    let here : place ≡ index = spot.place_is ∙ omega arith in
    ap (slice_get (c.items ++ all_in bs)) here ∙ get-left c.items (all_in bs) index (spot.within c refl) ∙ ap (λ (d : Block). slice_get d.items index) same
get-spot (c ∷ bs) place (suc block) index b is spot =
    let front = all_in (take block bs) in
    let there : place ≡ length c.items + (length front + index) = spot.place_is ∙ ap (λ n. n + index) (length-append c.items front) ∙ omega arith in
    let deeper : IsSpot bs (length front + index) block index = record { there = let h = spot.there in omega arith; place_is = refl; within = spot.within } in
    ap (slice_get (c.items ++ all_in bs)) there ∙ get-right c.items (all_in bs) (length front + index)
    ∙ get-spot bs (length front + index) block index b is deeper

-- a block without the number at a spot
pub remove-spot : (bs : List Block) (place block index : ℕ) (b new : Block) → slice_get bs block ≡ Some b → IsSpot bs place block index
    → new.items ≡ remove b.items index → all_in (slice_set bs block new) ≡ remove (all_in bs) place
remove-spot [] place block index b new is spot less = cc
remove-spot (c ∷ bs) place zero index b new is spot less =
    let same : c ≡ b = cc in
    let here : place ≡ index = spot.place_is ∙ omega arith in
    ap (λ xs. xs ++ all_in bs) (less ∙ ap (λ (d : Block). remove d.items index) (sym same))
    ∙ sym (ap (remove (c.items ++ all_in bs)) here ∙ remove-append_left c.items (all_in bs) index (spot.within c refl))
remove-spot (c ∷ bs) place (suc block) index b new is spot less =
    let front = all_in (take block bs) in
    let there : place ≡ length c.items + (length front + index) = spot.place_is ∙ ap (λ n. n + index) (length-append c.items front) ∙ omega arith in
    let deeper : IsSpot bs (length front + index) block index = record { there = let h = spot.there in omega arith; place_is = refl; within = spot.within } in
    let past : place - length c.items ≡ length front + index = omega arith in
    ap (λ xs. c.items ++ xs) (remove-spot bs (length front + index) block index b new is deeper less)
    ∙ sym (remove-append_right c.items (all_in bs) (length c.items) place refl (omega arith) ∙ ap (λ k. c.items ++ remove (all_in bs) k) past)

-- the first block has no numbers
pub drop-first : (bs : List Block) (b : Block) → slice_get bs 0 ≡ Some b → b.items ≡ [] → all_in (drop 1 bs) ≡ all_in bs
drop-first [] b is none = refl
drop-first (c ∷ bs) b is none = let same : c ≡ b = cc in sym (ap (λ (d : Block). d.items ++ all_in bs) same ∙ ap (λ xs. xs ++ all_in bs) none)

-- other numbers in the last block
pub last-grows : (bs : List Block) (last : ℕ) (b new : Block) (more : List ℕ) → length bs ≡ suc last → slice_get bs last ≡ Some b → new.items ≡ b.items ++ more
    → all_in (slice_set bs last new) ≡ all_in bs ++ more
last-grows [] last b new more size is grown = cc
last-grows (c ∷ []) zero b new more size is grown =
    let same : c ≡ b = cc in
    append-nil new.items ∙ grown ∙ (λ i. (sym same i).items ++ more) ∙ ap (λ xs. xs ++ more) (sym (append-nil c.items))
last-grows (c ∷ []) (suc last) b new more size is grown = absurd (omega arith)
last-grows (c ∷ d ∷ bs) zero b new more size is grown = absurd (omega arith)
last-grows (c ∷ d ∷ bs) (suc last) b new more size is grown =
    ap (λ xs. c.items ++ xs) (last-grows (d ∷ bs) last b new more (omega arith) is grown) ∙ sym (append_assoc c.items (all_in (d ∷ bs)) more)

-- the way to a spot: the place is after the blocks that were passed, and what is left is more than the index
pub record IsSought (blocks : List Block) (place block index : ℕ) : Type 0 where
  pub place_is : place ≡ length (all_in (take block blocks)) + index
  pub left : index < length (all_in (drop block blocks))

pub sought-first : (bs : List Block) (place : ℕ) → place < length (all_in bs) → IsSought bs place 0 place
sought-first bs place within = record { place_is = omega arith; left = within }

pub sought-there : (bs : List Block) (place block index : ℕ) → IsSought bs place block index → block < length bs
sought-there [] place block index sought = let h = sought.left in absurd (nothing block h)
  where
    nothing : (n : ℕ) → index < length (all_in (drop n [])) → ⊥
    nothing zero h = omega arith
    nothing (suc n) h = omega arith
sought-there (b ∷ bs) place zero index sought = omega arith
sought-there (b ∷ bs) place (suc block) index sought =
    let h = sought-there bs (length (all_in (take block bs)) + index) block index (record { place_is = refl; left = sought.left }) in omega arith

pub sought-spot : (bs : List Block) (place block index : ℕ) (b : Block) → slice_get bs block ≡ Some b → index < length b.items
    → IsSought bs place block index → IsSpot bs place block index
sought-spot bs place block index b is within sought = record {
  there = sought-there bs place block index sought;
  place_is = sought.place_is;
  within = λ c same. let e : b ≡ c = cc in subst (λ (d : Block). index < length d.items) e within;
}

-- one block is passed
pub sought-next : (bs : List Block) (place block index : ℕ) (b : Block) → slice_get bs block ≡ Some b → length b.items ≤ index
    → IsSought bs place block index → IsSought bs place (suc block) (index - length b.items)
sought-next [] place block index b is past sought = cc
sought-next (c ∷ bs) place zero index b is past sought =
    let same : b ≡ c = cc in
    let size : length b.items ≡ length c.items = ap (λ (d : Block). length d.items) same in
    let both = length-append c.items (all_in bs) in
    let at = sought.place_is in
    let left = sought.left in
    record {
      place_is = let e : length (c.items ++ []) ≡ length c.items = ap length (append-nil c.items) in omega arith;
      left = omega arith;
    }
sought-next (c ∷ bs) place (suc block) index b is past sought =
    let deeper : IsSought bs (length (all_in (take block bs)) + index) block index = record { place_is = refl; left = sought.left } in
    let next = sought-next bs (length (all_in (take block bs)) + index) block index b is past deeper in
    let one = length-append c.items (all_in (take block bs)) in
    let other = length-append c.items (all_in (take (suc block) bs)) in
    let at = sought.place_is in
    let step = next.place_is in
    record { place_is = omega arith; left = next.left }

pub no-items : (xs : List ℕ) → length xs ≡ 0 → xs ≡ []
no-items [] none = refl
no-items (x ∷ xs) none = cc

pub is-zero : (n : ℕ) → true ≡ (n == 0) → n ≡ 0
is-zero n none = grind (arith, nat_tests)

split-numbers : (first m n : ℕ) → range_with_len first m ++ range_with_len (first + m) n ≡ range_with_len first (m + n)
split-numbers first zero n = let e : first + 0 ≡ first = omega arith in let f : 0 + n ≡ n = omega arith in ap (λ k. range_with_len k n) e ∙ ap (range_with_len first) (sym f)
split-numbers first (suc m) n =
    let e : first + suc m ≡ first + 1 + m = omega arith in
    let f : suc (m + n) ≡ suc m + n = omega arith in
    ap (λ k. first ∷ (range_with_len (first + 1) m ++ range_with_len k n)) e ∙ ap (λ ns. first ∷ ns) (split-numbers (first + 1) m n) ∙ ap (range_with_len first) f

-- numbers, and those after them
between-more : (first next stop : ℕ) → first ≤ next → next ≤ stop → numbers_between first next ++ numbers_between next stop ≡ numbers_between first stop
between-more first next stop start more =
    let e : first + (next - first) ≡ next = omega arith in
    let f : (next - first) + (stop - next) ≡ stop - first = omega arith in
    ap (λ k. numbers_between first next ++ range_with_len k (stop - next)) (sym e)
    ∙ split-numbers first (next - first) (stop - next) ∙ ap (range_with_len first) f

-- numbers and those after them are added
pub numbers_added : (old now new : List ℕ) (first next stop : ℕ) → first ≤ next → next ≤ stop → now ≡ old ++ numbers_between first next
    → new ≡ now ++ numbers_between next stop → new ≡ old ++ numbers_between first stop
numbers_added old now new first next stop start more front back =
    back ∙ ap (λ ns. ns ++ numbers_between next stop) front ∙ append_assoc old (numbers_between first next) (numbers_between next stop)
    ∙ ap (λ ns. old ++ ns) (between-more first next stop start more)

-- and one number more
pub number_added : (old now new : List ℕ) (first next : ℕ) → first ≤ next → now ≡ old ++ numbers_between first next → new ≡ now ++ next ∷ []
    → new ≡ old ++ numbers_between first (next + 1)
number_added old now new first next start front back =
    let one : next + 1 - next ≡ 1 = omega arith in
    numbers_added old now new first next (next + 1) start (omega arith) front (back ∙ ap (λ k. now ++ range_with_len next k) (sym one))

pub between-length : (next stop : ℕ) → length (numbers_between next stop) ≡ stop - next
between-length next stop = length-range_with_len next (stop - next)
