-- Which bytes and characters stand for themselves in a JSON string.
use Rattle.std.proofs.Common.{rules, map, codes, ◌≡◌, ℕ, ◌+◌, ◌/◌, ◌%◌, ◌≤◌, Bool, true, false, cond, ltb, List, [], ◌∷◌, ◌++◌}
use Rattle.std.proofs.Common.{refl, ap, arith, append-nil, append_assoc, sym, ◌∙◌}
use Rattle.std.proofs.Math.Utf8.{encode, encodes}
use Rattle.std.proofs.lemmas.Bool.Decides.{nat_tests}
use Rattle.std.proofs.lemmas.List.Elements.{All-head, All-tail, All-from_recursion}
use Rattle.std.specs.List.{All, AllByRecursion, flat_map}
use Rattle.gql_base.specs.Json.{escaped, IsPlain, quoted, member, comma_of, value_text, json}
use Rattle.gql_base.specs.declared.json.Style.{Style}
use Rattle.gql_base.specs.declared.json.Style.TheVariants.{Json}
use Rattle.gql_base.specs.Separated.{separated}
use Rattle.gql_base.specs.declared.value.Value.{Value, the_lemmas}
use Rattle.gql_base.specs.declared.value.Value.TheVariants as value

pub escaped-plain : (byte : ℕ) → IsPlain byte → escaped byte ≡ byte ∷ []
escaped-plain byte plain = grind (arith, nat_tests)

pub plain-high : (byte : ℕ) → 128 ≤ byte → IsPlain byte
plain-high byte high = (omega arith, omega arith, omega arith)

pub flat_map-plain : (bytes : List ℕ) → All IsPlain bytes → flat_map escaped bytes ≡ bytes
flat_map-plain [] plain = refl
flat_map-plain (b ∷ bs) plain =
    λ i. escaped-plain b (All-head IsPlain b bs plain) i ++ flat_map-plain bs (All-tail IsPlain b bs plain) i

plain-either : (b : Bool) (xs ys : List ℕ) → AllByRecursion IsPlain xs → AllByRecursion IsPlain ys → AllByRecursion IsPlain (cond b xs ys)
plain-either b xs ys first second = elim b as (λ c. AllByRecursion IsPlain (cond c xs ys)) [ true ↦ first | false ↦ second ]

-- the bytes of a character by how many there are
abbrev two : ℕ → List ℕ
two c = (192 + c / 64) ∷ (128 + c % 64) ∷ []

abbrev three : ℕ → List ℕ
three c = (224 + c / 4096) ∷ (128 + c / 64 % 64) ∷ (128 + c % 64) ∷ []

abbrev four : ℕ → List ℕ
four c = (240 + c / 262144) ∷ (128 + c / 4096 % 64) ∷ (128 + c / 64 % 64) ∷ (128 + c % 64) ∷ []

abbrev either-three : ℕ → List ℕ
either-three c = cond (ltb c 65536) (three c) (four c)

abbrev either-two : ℕ → List ℕ
either-two c = cond (ltb c 2048) (two c) (either-three c)

-- a plain character stands for itself: above U+007F each of its bytes is plain
pub flat_map-encode : (c : ℕ) → IsPlain c → flat_map escaped (encode c) ≡ encode c
unfolding encode
flat_map-encode c plain =
    let high : (n m : ℕ) → 128 ≤ n → IsPlain (n + m) = λ n m h. plain-high (n + m) (omega arith) in
    flat_map-plain (encode c)
    (All-from_recursion IsPlain (encode c)
    (plain-either _ (c ∷ []) (either-two c) (plain, tt)
    (plain-either _ (two c) (either-three c) (high 192 _ (omega arith), (high 128 _ (omega arith), tt))
    (plain-either _ (three c) (four c) (high 224 _ (omega arith), (high 128 _ (omega arith), (high 128 _ (omega arith), tt)))
    (high 240 _ (omega arith), (high 128 _ (omega arith), (high 128 _ (omega arith), (high 128 _ (omega arith), tt))))))))

pub encodes-push : (cs : List ℕ) (c : ℕ) → encodes (cs ++ c ∷ []) ≡ encodes cs ++ encode c
encodes-push [] c = append-nil (encode c)
encodes-push (d ∷ cs) c = ap (λ rest. encode d ++ rest) (encodes-push cs c) ∙ sym (append_assoc (encode d) (encodes cs) (encode c))

module _ (style : Style) where
  members-texts : (ms : List (List ℕ × Value))
      → map (member style) (map (λ p. (p.0, value_text style p.1)) ms) ≡ map (λ p. member style (p.0, value_text style p.1)) ms
  members-texts [] = refl
  members-texts (m ∷ ms) = ap (λ rest. member style (m.0, value_text style m.1) ∷ rest) (members-texts ms)

  pub text-object : (ms : List (List ℕ × Value)) → value_text style (value.Object ms)
      ≡ codes "{" ++ (separated (comma_of style) (map (λ p. member style (p.0, value_text style p.1)) ms) ++ codes "}")
  text-object ms = search (rules, the_lemmas, members-texts)

-- the JSON text of an object, member by member
pub json-object : (ms : List (List ℕ × Value))
    → json (value.Object ms) ≡ codes "{" ++ (separated (codes ",") (map (λ p. quoted p.0 ++ (codes ":" ++ json p.1)) ms) ++ codes "}")
json-object ms = text-object Json ms
