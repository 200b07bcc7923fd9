use Rattle.std.proofs.Common.{◌≡◌, [], ◌∷◌, ℕ, List, MatchOption, length, string_bytes, subst, arith}
use Rattle.gql_cli.specs.Command.{IsLoad}
use Rattle.gql_cli.specs.Run.{IsOfLoad}
use Rattle.gql_cli.proofs.Words.{map-two}
use Rattle.gql_cli.proofs.decision.load_of.Goals as goal

pub returns-in-len2 : goal.returns-in-len2
returns-in-len2 c =
    let size : length c.args.words.now ≡ 2 = omega arith in
    let Is : List ℕ → List ℕ → Type 0 = λ word count. MatchOption c.load_named.result (¬ IsOfLoad (word ∷ count ∷ []))
    (λ rows. IsLoad rows (word ∷ count ∷ [])) in
    rw (map-two string_bytes c.args.words.now c.word-item.result c.count-item.result size c.word-item.is c.count-item.is)
    (subst (λ word. Is word (string_bytes c.count-item.result)) c.as_str.ensures.value
    (subst (Is c.as_str.result.now) c.as_str-in-len2.ensures.value c.load_named.ensures))
