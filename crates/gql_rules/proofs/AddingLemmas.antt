-- Breaches that are added one after another.
use Rattle.std.proofs.Common.{◌≡◌, ◌⊎◌, inl, inr, List, ◌++◌, sym, subst}
use Rattle.std.specs.List.{Contains}
use Rattle.std.proofs.lemmas.List.Elements.{Contains-append_cases, Contains-append_left, Contains-append_right}
use Rattle.gql_fields.specs.declared.breach.Breach.{Breach}
use Rattle.gql_fields.specs.BreachOrder.{Lists}
use Rattle.gql_rules.specs.Adds.{Adds, HoldsSame}

-- what is put after others is added
pub adds_told : (old told new : List Breach) → new ≡ old ++ told → Adds (Contains told) old new
adds_told old told new is = record {
  kept = λ found there. subst (λ xs. Contains xs found) (sym is) (Contains-append_left old told found there);
  has = λ found there. subst (λ xs. Contains xs found) (sym is) (Contains-append_right old told found there);
  only = λ found there. Contains-append_cases old told found (subst (λ xs. Contains xs found) is there);
}

-- what is added by two steps
pub adds_then : (P Q R : Breach → Type 0) (old now new : List Breach) → ((found : Breach) → P found → R found) → ((found : Breach) → Q found → R found)
    → ((found : Breach) → R found → P found ⊎ Q found) → Adds P old now → Adds Q now new → Adds R old new
adds_then P Q R old now new one other either first second = record {
  kept = λ found there. second.kept found (first.kept found there);
  has = λ found meant.
      elim (either found meant) [
        | inl h ↦ second.kept found (first.has found h)
        | inr h ↦ second.has found h
      ];
  only = λ found there.
      elim (second.only found there) [
        | inl h ↦ elim (first.only found h) [ inl before ↦ inl before | inr h ↦ inr (one found h) ]
        | inr h ↦ inr (other found h)
      ];
}

-- what is added, in other words
pub adds_same : (P Q : Breach → Type 0) (old new : List Breach) → ((found : Breach) → P found → Q found) → ((found : Breach) → Q found → P found)
    → Adds P old new → Adds Q old new
adds_same P Q old new to back adds = record {
  kept = adds.kept;
  has = λ found meant. adds.has found (back found meant);
  only = λ found there. elim (adds.only found there) [ inl before ↦ inl before | inr h ↦ inr (to found h) ];
}

-- the same breaches, in another list
pub holds_itself : (found : List Breach) → HoldsSame found found
holds_itself found = record { same = λ one. (λ there. there, λ there. there) }

pub holds_listed : (old list new : List Breach) → Lists (Contains old) list → new ≡ list → HoldsSame old new
holds_listed old list new lists is = rw is (record { same = λ one. lists.exact one })

pub adds_held : (P : Breach → Type 0) (old now new : List Breach) → Adds P old now → HoldsSame now new → Adds P old new
adds_held P old now new adds held = record {
  kept = λ found there. (held.same found).1 (adds.kept found there);
  has = λ found meant. (held.same found).1 (adds.has found meant);
  only = λ found there. adds.only found ((held.same found).0 there);
}
