-- Tests of lists, pairs and options decide equality where those of their parts do.
use Rattle.std.proofs.Common.{◌≡◌, Bool, true, false, ◌&&◌, Option, Some, refl, ap, sym, ◌∙◌, subst, Decides}

pub told : {A : Type 0} (result test : Bool) (x y : A) → result ≡ test → Decides test (x ≡ y) → Decides result (x ≡ y)
told result test x y same decides = subst (λ b. Decides b (x ≡ y)) (sym same) decides

both-so : (a b : Bool) → (a && b) ≡ true → (a ≡ true) × (b ≡ true)
both-so true b e = (refl, e)
both-so false b e = cc

so-both : (a b : Bool) → a ≡ true → b ≡ true → (a && b) ≡ true
so-both true b p q = q
so-both false b p q = p

pub pair-decides : {A B : Type 0} {E : A → A → Bool} {F : B → B → Bool} → ((x y : A) → Decides (E x y) (x ≡ y))
    → ((x y : B) → Decides (F x y) (x ≡ y))
    → (p q : A × B) → Decides (E p.0 q.0 && F p.1 q.1) (p ≡ q)
pair-decides {A} {B} {E} {F} first second p q = (
  λ e. let parts = both-so (E p.0 q.0) (F p.1 q.1) e in λ i. ((first p.0 q.0).0 parts.0 i, (second p.1 q.1).0 parts.1 i),
  λ e. so-both (E p.0 q.0) (F p.1 q.1) ((first p.0 q.0).1 (ap (λ r. r.0) e)) ((second p.1 q.1).1 (ap (λ r. r.1) e)),
)

pub some-decides : {A : Type 0} (result : Bool) (x y : A) (a b : Option A) → Decides result (x ≡ y) → a ≡ Some x → b ≡ Some y
    → Decides result (a ≡ b)
some-decides result x y a b decides one two =
    (λ e. one ∙ ap Some (decides.0 e) ∙ sym two, λ e. let same : Some x ≡ Some y = sym one ∙ e ∙ two in decides.1 (cc))
