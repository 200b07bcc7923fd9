-- Two readers that read the same, with values that mean the same: what `h` makes of the one's is what `k` makes of the
-- other's.
use Rattle.std.proofs.Common.{◌≡◌, ℕ, zero, suc, ◌<◌, Bool, true, false, [], ◌∷◌, length, map, Some, None, Result, Ok, Err, refl, sym, ap, ◌∙◌, subst}
use Rattle.gql_base.specs.declared.pos.Pos.{Pos}
use Rattle.gql_tokens.specs.declared.token.Token.{Token}
use Rattle.gql_tokens.specs.declared.token.Punctuator.{Punctuator}
use Rattle.gql_doc.specs.declared.trouble.Trouble.{Trouble}
use Rattle.gql_doc.specs.declared.trouble.Trouble.TheVariants.{Unexpected, TooDeep}
use Rattle.gql_doc.specs.Words.{Tokens}
use Rattle.gql_doc.specs.Readers.{Reading, Reader, go_on, begins, behind_first, branch, choose, ended, gives, many, many_at, mapped, place_of, too_deep, ◌then◌}
use Rattle.gql_doc.specs.Reading.{is_sign, take_sign}
use Rattle.gql_doc.specs.Drafting.{taken_if, opening, behind, stopped}
use Rattle.gql_doc.proofs.CursorLaws.{sign_taken}
use Rattle.gql_doc.proofs.LevelLaws.{then_same}
use Rattle.gql_doc.proofs.ReaderLaws.{Shrinks}

abbrev pub Alike : {A B C : Type 0} → (A → C) → (B → C) → Reader A → Reader B → Type 0
Alike h k f g = (tokens : Tokens) → mapped h f tokens ≡ mapped k g tokens

abbrev value_or : {C : Type 0} → C → Result C Trouble → C
value_or c (Ok d) = d
value_or c (Err trouble) = c

abbrev recast : {C D : Type 0} → Trouble → Result C Trouble → Result D Trouble
recast trouble (Ok c) = Err trouble
recast trouble (Err other) = Err other

same_value : {C : Type 0} → (c d : C) (s t : Tokens) → gives c s ≡ gives d t → c ≡ d
same_value c d s t e = ap (λ reading. value_or c reading.0) e

abbrev is_value : {C : Type 0} → Result C Trouble → Bool
is_value (Ok d) = true
is_value (Err other) = false

never : {C X : Type 0} → (c : C) (trouble : Trouble) (s t : Tokens) → gives c s ≡ stopped trouble t → X
never c trouble s t e = absurd (let k : true ≡ false = ap (λ reading. is_value reading.0) e in cc)

-- what is made of what two readers read, one after the other
pub regroup : {A B C : Type 0} → (f : Reader A) (g : A → Reader B) (u : B → C) (tokens : Tokens) → mapped u (f then g) tokens ≡ (f then (λ a. mapped u (g a))) tokens
regroup {A} {B} {C} f g u tokens = go (f tokens).0 (f tokens).1
  where
    go : (o : Result A Trouble) (rest : Tokens) → go_on (go_on o rest g).0 (go_on o rest g).1 (λ b. gives (u b)) ≡ go_on o rest (λ a. mapped u (g a))
    go (Ok a) rest = refl
    go (Err trouble) rest = refl

module _ {A B C : Type 0} (h : A → C) (k : B → C) where
  module _ {Z : Type 0} (F : A → Reader Z) (G : B → Reader Z) (same : (a : A) (b : B) (rest : Tokens) → h a ≡ k b → F a rest ≡ G b rest) where
    go : (o : Result A Trouble) (s : Tokens) (p : Result B Trouble) (t : Tokens) → go_on o s (λ a. gives (h a)) ≡ go_on p t (λ b. gives (k b)) → go_on o s F ≡ go_on p t G
    go (Ok a) s (Ok b) t e = same a b s (same_value (h a) (k b) s t e) ∙ ap (G b) (ap (λ reading. reading.1) e)
    go (Ok a) s (Err trouble) t e = never (h a) trouble s t e
    go (Err trouble) s (Ok b) t e = never (k b) trouble t s (sym e)
    go (Err trouble) s (Err other) t e = ap (λ (reading : Reading C). (recast trouble reading.0, reading.1)) e

    pub then_alike : (f : Reader A) (g : Reader B) (tokens : Tokens) → mapped h f tokens ≡ mapped k g tokens → (f then F) tokens ≡ (g then G) tokens
    then_alike f g tokens e = go (f tokens).0 (f tokens).1 (g tokens).0 (g tokens).1 e

  module _ {X Y Z : Type 0} (u : X → Z) (v : Y → Z) where
    -- one reader after another
    pub bind_alike : (f : Reader A) (g : Reader B) (F : A → Reader X) (G : B → Reader Y) (tokens : Tokens) → mapped h f tokens ≡ mapped k g tokens
        → ((a : A) (b : B) (rest : Tokens) → h a ≡ k b → mapped u (F a) rest ≡ mapped v (G b) rest) → mapped u (f then F) tokens ≡ mapped v (g then G) tokens
    bind_alike f g F G tokens e same =
        regroup f F u tokens ∙ then_alike (λ a. mapped u (F a)) (λ b. mapped v (G b)) same f g tokens e ∙ sym (regroup g G v tokens)

    -- what is made of a value
    pub map_alike : (f : Reader A) (g : Reader B) (F : A → X) (G : B → Y) (tokens : Tokens) → mapped h f tokens ≡ mapped k g tokens
        → ((a : A) (b : B) → h a ≡ k b → u (F a) ≡ v (G b)) → mapped u (mapped F f) tokens ≡ mapped v (mapped G g) tokens
    map_alike f g F G tokens e same = bind_alike f g (λ a. gives (F a)) (λ b. gives (G b)) tokens e (λ a b rest i. ap (λ z. (Ok z, rest)) (same a b i))

  -- what is made of the one's value alone
  pub left_alike : {X Z : Type 0} → (u : X → Z) (v : B → Z) (f : Reader A) (g : Reader B) (F : A → X) (tokens : Tokens) → mapped h f tokens ≡ mapped k g tokens
      → ((a : A) (b : B) → h a ≡ k b → u (F a) ≡ v b) → mapped u (mapped F f) tokens ≡ mapped v g tokens
  left_alike u v f g F tokens e same =
      regroup f (λ a. gives (F a)) u tokens
      ∙ then_alike (λ a. gives (u (F a))) (λ b. gives (v b)) (λ a b rest i. ap (λ z. (Ok z, rest)) (same a b i)) f g tokens e

  -- with a close after
  pub ended_alike : {D : Type 0} → (f : Reader A) (g : Reader B) (closes : Reader D) (tokens : Tokens) → mapped h f tokens ≡ mapped k g tokens
      → mapped h (ended f closes) tokens ≡ mapped k (ended g closes) tokens
  ended_alike f g closes tokens e =
      bind_alike h k f g (λ a. mapped (λ _. a) closes) (λ b. mapped (λ _. b) closes) tokens e
      (λ a b rest same. regroup closes (λ _. gives a) h rest ∙ then_same closes (λ _. gives (h a)) (λ _. gives (k b)) (λ d left. ap (λ z. (Ok z, left)) same) rest ∙ sym (regroup closes (λ _. gives b) k rest))

  shrinks_at : (f : Reader A) (g : Reader B) (tokens : Tokens) (a : A) (rest : Tokens) (p : Result B Trouble) (t : Tokens) → gives (h a) rest ≡ go_on p t (λ b. gives (k b))
      → ((b : B) → p ≡ Ok b → length t < length tokens) → length rest < length tokens
  shrinks_at f g tokens a rest (Ok b) t e less = subst (λ ts. length ts < length tokens) (sym (ap (λ reading. reading.1) e)) (less b refl)
  shrinks_at f g tokens a rest (Err trouble) t e less = never (h a) trouble rest t e

  -- what reads as another that takes a token does so, too
  pub shrinks_alike : (f : Reader A) (g : Reader B) → Alike h k f g → Shrinks g → Shrinks f
  shrinks_alike f g alike shrinks tokens a rest e =
      shrinks_at f g tokens a rest (g tokens).0 (g tokens).1 (sym (ap (λ reading. go_on reading.0 reading.1 (λ v. gives (h v))) e) ∙ alike tokens)
      (λ b is. shrinks tokens b (g tokens).1 (λ i. (is i, (g tokens).1)))

-- the same reader first
pub bind_same : {A X Y Z : Type 0} → (u : X → Z) (v : Y → Z) (f : Reader A) (F : A → Reader X) (G : A → Reader Y) (tokens : Tokens)
    → ((a : A) (rest : Tokens) → mapped u (F a) rest ≡ mapped v (G a) rest) → mapped u (f then F) tokens ≡ mapped v (f then G) tokens
bind_same u v f F G tokens same = regroup f F u tokens ∙ then_same f (λ a. mapped u (F a)) (λ a. mapped v (G a)) same tokens ∙ sym (regroup f G v tokens)

-- As often as a test passes.

module _ {A B C : Type 0} (h : A → C) (k : B → C) (test : Token → Bool) (f : Reader A) (g : Reader B) (alike : Alike h k f g) where
  many_step_alike : (n : ℕ) → Alike (map h) (map k) (many_at n test f) (many_at n test g) → (tokens : Tokens) (b : Bool)
      → mapped (map h) (choose b (f then (λ a. mapped (λ more. a ∷ more) (many_at n test f))) (gives [])) tokens
      ≡ mapped (map k) (choose b (g then (λ a. mapped (λ more. a ∷ more) (many_at n test g))) (gives [])) tokens
  many_step_alike n others tokens true =
      bind_alike h k (map h) (map k) f g (λ a. mapped (λ more. a ∷ more) (many_at n test f)) (λ b. mapped (λ more. b ∷ more) (many_at n test g)) tokens (alike tokens)
      (λ a b rest same. map_alike (map h) (map k) (map h) (map k) (many_at n test f) (many_at n test g) (λ more. a ∷ more) (λ more. b ∷ more) rest (others rest) (λ xs ys es i. same i ∷ es i))
  many_step_alike n others tokens false = refl

  many_at_alike : (n : ℕ) → Alike (map h) (map k) (many_at n test f) (many_at n test g)
  unfolding many_at
  many_at_alike zero = λ tokens. refl
  many_at_alike (suc n) = λ tokens. many_step_alike n (many_at_alike n) tokens (begins test tokens)

  pub many_alike : Alike (map h) (map k) (many test f) (many test g)
  unfolding many
  many_alike tokens = many_at_alike (length tokens) tokens

-- Choices.

module _ {A B C : Type 0} (u : A → C) (v : B → C) where
  pub choose_alike : (b : Bool) (f f' : Reader A) (g g' : Reader B) (tokens : Tokens) → mapped u f tokens ≡ mapped v g tokens → mapped u f' tokens ≡ mapped v g' tokens
      → mapped u (choose b f f') tokens ≡ mapped v (choose b g g') tokens
  choose_alike true f f' g g' tokens one other = one
  choose_alike false f f' g g' tokens one other = other

  module _ (sign : Punctuator) where
    -- after a sign
    pub sign_first : (g : Pos → Reader B) (tokens : Tokens) → begins (is_sign sign) tokens ≡ true → mapped v (take_sign sign then g) tokens ≡ mapped v (g (place_of tokens)) (behind_first tokens)
    sign_first g tokens next = regroup (take_sign sign) g v tokens ∙ ap (λ reading. go_on reading.0 reading.1 (λ pos. mapped v (g pos))) (sign_taken sign tokens next)

    taken_by : (b : Bool) (f f' : Reader A) (g g' : Reader B) (tokens : Tokens) → (b ≡ true → mapped u f (behind_first tokens) ≡ mapped v g tokens) → mapped u f' tokens ≡ mapped v g' tokens
        → mapped u (choose b (λ here. (Ok true, behind_first here)) (λ here. (Ok false, here)) then (λ taken. choose taken f f')) tokens ≡ mapped v (choose b g g') tokens
    taken_by true f f' g g' tokens one other = one refl
    taken_by false f f' g g' tokens one other = other

    -- a sign that is taken if it is there
    pub taken_alike : (f f' : Reader A) (g g' : Reader B) (tokens : Tokens) → (begins (is_sign sign) tokens ≡ true → mapped u f (behind_first tokens) ≡ mapped v g tokens)
        → mapped u f' tokens ≡ mapped v g' tokens → mapped u (taken_if (is_sign sign) then (λ taken. choose taken f f')) tokens ≡ mapped v (branch (is_sign sign) g g') tokens
    unfolding taken_if
    taken_alike f f' g g' tokens one other = taken_by (begins (is_sign sign) tokens) f f' g g' tokens one other

    opens_by : (b : Bool) (f : Pos → Reader A) (f' : Reader A) (g g' : Reader B) (tokens : Tokens)
        → (b ≡ true → mapped u (f (place_of tokens)) (behind_first tokens) ≡ mapped v g tokens) → mapped u f' tokens ≡ mapped v g' tokens
        → mapped u (choose b (behind (Some f)) f') tokens ≡ mapped v (choose b g g') tokens
    opens_by true f f' g g' tokens one other = one refl
    opens_by false f f' g g' tokens one other = other

    -- a bracket that may open
    pub opens_alike : (f : Pos → Reader A) (f' : Reader A) (g : Pos → Reader B) (g' : Reader B) (tokens : Tokens) → ((pos : Pos) → Alike u v (f pos) (g pos)) → mapped u f' tokens ≡ mapped v g' tokens
        → mapped u (opening sign (Some f) f') tokens ≡ mapped v (branch (is_sign sign) (take_sign sign then g) g') tokens
    opens_alike f f' g g' tokens one other =
        opens_by (begins (is_sign sign) tokens) f f' (take_sign sign then g) g' tokens (λ next. one (place_of tokens) (behind_first tokens) ∙ sym (sign_first g tokens next)) other

    deep_by : (b : Bool) (f' : Reader A) (g' : Reader B) (tokens : Tokens) → begins (is_sign sign) tokens ≡ b → mapped u f' tokens ≡ mapped v g' tokens
        → mapped u (choose b (behind None) f') tokens ≡ mapped v (choose b (too_deep (is_sign sign)) g') tokens
    deep_by true f' g' tokens next other =
        sym (ap (λ c. go_on (choose c (stopped {A = B} TooDeep) (stopped {A = B} Unexpected) tokens).0 (choose c (stopped {A = B} TooDeep) (stopped {A = B} Unexpected) tokens).1 (λ b. gives (v b))) next)
    deep_by false f' g' tokens next other = other

    -- a bracket that lies too deep
    pub deep_alike : (f' : Reader A) (g' : Reader B) (tokens : Tokens) → mapped u f' tokens ≡ mapped v g' tokens
        → mapped u (opening sign None f') tokens ≡ mapped v (branch (is_sign sign) (too_deep (is_sign sign)) g') tokens
    deep_alike f' g' tokens other = deep_by (begins (is_sign sign) tokens) f' g' tokens refl other
