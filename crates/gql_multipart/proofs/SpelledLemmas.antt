-- What is spelled so is read.
use Rattle.std.proofs.Common.{◌≡◌, ◌∙◌, ℕ, zero, suc, ◌+◌, ◌<◌, ◌≤◌, ◌==◌, true, false, List, [], ◌∷◌}
use Rattle.std.proofs.Common.{◌++◌, Option, Some, refl, sym, ap, subst, arith, cond, take, drop, inl, inr}
use Rattle.std.proofs.Common.{length, length-append, take_at, drop_at, append_assoc, add-one, ne_eqb}
use Rattle.std.specs.Option.{option_map}
use Rattle.gql_multipart.proofs.FrontLemmas as front
use Rattle.gql_multipart.specs.Grammar.{AreBlanks, AreParameters, IsParameter, IsQuoted, IsRange, IsToken, IsValue}
use Rattle.gql_multipart.specs.MediaRange.{MediaRange, range_of}
use Rattle.gql_multipart.specs.Parameter.{Given, parameter_at, parameters_in}
use Rattle.gql_multipart.specs.Quoted.{closing, said, string_at, unescaped, value_at}
use Rattle.gql_multipart.specs.Step.{◌>>=◌}
use Rattle.gql_multipart.specs.Token.{behind, is_token_character, token_at, unspaced}

-- one further
abbrev further : Option ℕ → Option ℕ
further o = option_map (λ n. n + 1) o

-- the quote after a text between quotes is found, and what the text says
quoted_again : (text value rest : List ℕ) → IsQuoted text value →
    (closing false (text ++ (34 ∷ rest)) ≡ Some (length text)) × (said text ≡ value)
quoted_again text [] rest e =
    (ap (λ t. closing false (t ++ (34 ∷ rest))) e ∙ ap (λ t. Some (length t)) (sym e), ap said e)
quoted_again text (c ∷ others) rest (tail, inl e, q) =
    behind_escape (quoted_again tail others rest q)
  where
    behind_escape : (closing false (tail ++ (34 ∷ rest)) ≡ Some (length tail)) × (said tail ≡ others) →
        (closing false (text ++ (34 ∷ rest)) ≡ Some (length text)) × (said text ≡ c ∷ others)
    behind_escape h = (
      ap (λ t. closing false (t ++ (34 ∷ rest))) e
          ∙ (ap (λ o. further (further o)) h.0
          ∙ (ap Some (ap (λ n. n + 1) (add-one (length tail)) ∙ add-one (suc (length tail)))
          ∙ ap (λ t. Some (length t)) (sym e))),
      ap said e ∙ ap (λ t. c ∷ t) h.1,
    )
quoted_again text (c ∷ others) rest (tail, inr w, q) =
    behind_plain (quoted_again tail others rest q)
  where
    behind_plain : (closing false (tail ++ (34 ∷ rest)) ≡ Some (length tail)) × (said tail ≡ others) →
        (closing false (text ++ (34 ∷ rest)) ≡ Some (length text)) × (said text ≡ c ∷ others)
    behind_plain h = (
      ap (λ t. closing false (t ++ (34 ∷ rest))) w.0
          ∙ (ap (λ b. cond b (Some 0) (further (closing (c == 92) (tail ++ (34 ∷ rest))))) (ne_eqb c 34 w.1)
          ∙ (ap (λ b. further (closing b (tail ++ (34 ∷ rest)))) (ne_eqb c 92 w.2)
          ∙ (ap further h.0 ∙ (ap Some (add-one (length tail)) ∙ ap (λ t. Some (length t)) (sym w.0))))),
      ap said w.0
          ∙ (ap (λ b. cond b (unescaped true tail) (c ∷ unescaped false tail)) (ne_eqb c 92 w.2)
          ∙ ap (λ t. c ∷ t) h.1),
    )

-- a quoted string is read
string_again : (text value rest : List ℕ) → IsQuoted text value →
    string_at (text ++ (34 ∷ rest)) ≡ Some (value, rest)
string_again text value rest q = go (quoted_again text value rest q)
  where
    past : drop (length text + 1) (text ++ (34 ∷ rest)) ≡ rest
    past =
        ap (drop (length text + 1)) (sym (append_assoc text (34 ∷ []) rest))
        ∙ drop_at (text ++ 34 ∷ []) rest (length text + 1) (length-append text (34 ∷ []))

    go : (closing false (text ++ (34 ∷ rest)) ≡ Some (length text)) × (said text ≡ value) →
        string_at (text ++ (34 ∷ rest)) ≡ Some (value, rest)
    go h =
        ap (option_map (λ end. (said (take end (text ++ (34 ∷ rest))), drop (end + 1) (text ++ (34 ∷ rest))))) h.0
        ∙ (ap (λ t. Some (said t, drop (length text + 1) (text ++ (34 ∷ rest))))
        (take_at text (34 ∷ rest) (length text) refl)
        ∙ (ap (λ t. Some (t, drop (length text + 1) (text ++ (34 ∷ rest)))) h.1 ∙ ap (λ t. Some (value, t)) past))

-- a value that is a token is read
token_value_again : (value rest : List ℕ) → IsToken value → front.begins is_token_character rest ≡ false →
    value_at (value ++ rest) ≡ Some (value, rest)
token_value_again [] rest is stop = absurd (is.0 refl)
token_value_again (c ∷ cs) rest is stop =
    ap (λ b. cond b (string_at (cs ++ rest)) (token_at (c ∷ (cs ++ rest)))) (front.token_no_quote c is.1.0)
    ∙ front.token_again (c ∷ cs) rest is stop

-- a value is read
value_again : (spelled value rest : List ℕ) → IsValue spelled value →
    front.begins is_token_character rest ≡ false → value_at (spelled ++ rest) ≡ Some (value, rest)
value_again spelled value rest (inl w) stop =
    ap (λ t. value_at (t ++ rest)) w.0 ∙ token_value_again value rest w.1 stop
value_again spelled value rest (inr (text, e, q)) stop =
    ap (λ t. value_at (t ++ rest)) e
    ∙ (ap string_at (append_assoc text (34 ∷ []) rest) ∙ string_again text value rest q)

-- what is read of a parameter, step by step
abbrev pub with_value : List ℕ → List ℕ × List ℕ → Option (Given × List ℕ)
with_value name value = Some (record { name = name; value = value.0 }, value.1)

abbrev pub with_spelled : List ℕ → List ℕ → Option (Given × List ℕ)
with_spelled name spelled = value_at spelled >>= with_value name

abbrev pub with_name : List ℕ × List ℕ → Option (Given × List ℕ)
with_name name = behind 61 name.1 >>= with_spelled name.0

abbrev pub with_more : List ℕ → Option (Given × List ℕ)
with_more more = token_at (unspaced more) >>= with_name

-- the parts of a parameter are read, one after another
parts_again : (before after name spelled value rest : List ℕ) →
    AreBlanks before → AreBlanks after → IsToken name → IsValue spelled value →
    front.begins is_token_character rest ≡ false →
    parameter_at (before ++ (59 ∷ (after ++ (name ++ (61 ∷ (spelled ++ rest))))))
    ≡ Some (record { name = name; value = value }, rest)
unfolding parameter_at
parts_again before after name spelled value rest blanks more is spells stop =
    ap (λ t. behind 59 t >>= with_more)
    (front.unspaced_again before (59 ∷ (after ++ (name ++ (61 ∷ (spelled ++ rest))))) blanks refl)
    ∙ (ap (λ t. token_at t >>= with_name)
    (front.unspaced_again after (name ++ (61 ∷ (spelled ++ rest))) more
    (front.token_begins name (61 ∷ (spelled ++ rest)) is))
    ∙ (ap (λ o. o >>= with_name) (front.token_again name (61 ∷ (spelled ++ rest)) is front.tokens_no_equals)
    ∙ ap (λ o. o >>= with_value name) (value_again spelled value rest spells stop)))

-- what stands after a parameter stands after its last part
pub regrouped : (before after name spelled rest : List ℕ) →
    (before ++ (59 ∷ (after ++ (name ++ (61 ∷ spelled))))) ++ rest
    ≡ before ++ (59 ∷ (after ++ (name ++ (61 ∷ (spelled ++ rest)))))
regrouped before after name spelled rest =
    append_assoc before (59 ∷ (after ++ (name ++ (61 ∷ spelled)))) rest
    ∙ (ap (λ t. before ++ (59 ∷ t)) (append_assoc after (name ++ (61 ∷ spelled)) rest)
    ∙ ap (λ t. before ++ (59 ∷ (after ++ t))) (append_assoc name (61 ∷ spelled) rest))

-- a parameter is read
parameter_again : (text rest : List ℕ) (p : Given) → IsParameter text p →
    front.begins is_token_character rest ≡ false → parameter_at (text ++ rest) ≡ Some (p, rest)
parameter_again text rest p is stop =
    ap parameter_at (ap (λ t. t ++ rest) is.parts ∙ regrouped is.before is.after p.name is.spelled rest)
    ∙ parts_again is.before is.after p.name is.spelled p.value rest
    is.blanks_before is.blanks_after is.name is.value stop

-- no character of a token stands where a parameter begins
blanks_begin : (before more : List ℕ) → AreBlanks before →
    front.begins is_token_character (before ++ (59 ∷ more)) ≡ false
blanks_begin [] more all = front.tokens_no_semicolon
blanks_begin (c ∷ cs) more all = front.blank_no_token c all.0

parameters_begin : (text : List ℕ) (ps : List Given) → AreParameters text ps →
    front.begins is_token_character text ≡ false
parameters_begin text [] e = ap (front.begins is_token_character) e
parameters_begin text (p ∷ ps) (first, rest, e, is, others) =
    ap (front.begins is_token_character)
    (e ∙ (ap (λ t. t ++ rest) is.parts ∙ regrouped is.before is.after p.name is.spelled rest))
    ∙ blanks_begin is.before (is.after ++ (p.name ++ (61 ∷ (is.spelled ++ rest)))) is.blanks_before

-- a parameter is at least a semicolon
parameter_length : (text : List ℕ) (p : Given) → IsParameter text p → 0 < length text
parameter_length text p is =
    let e = ap length is.parts in
    let n = length-append is.before (59 ∷ (is.after ++ (p.name ++ (61 ∷ is.spelled)))) in
    omega (arith, e, n)

-- what is read where one parameter was
abbrev pub with_others : ℕ → Given × List ℕ → Option (List Given)
with_others most found = option_map (λ others. found.0 ∷ others) (parameters_in most found.1)

abbrev after_one : ℕ → Option (Given × List ℕ) → Option (List Given)
after_one most found = found >>= with_others most

pub nothing_again : (most : ℕ) → parameters_in most [] ≡ Some []
nothing_again zero = refl
nothing_again (suc most) = refl

-- one parameter, and then others
one_again : (most : ℕ) (first rest : List ℕ) (p : Given) (ps : List Given) →
    IsParameter first p → AreParameters rest ps → length (first ++ rest) ≤ most →
    ((m : ℕ) → length rest ≤ m → parameters_in m rest ≡ Some ps) →
    parameters_in most (first ++ rest) ≡ Some (p ∷ ps)
one_again most first rest p ps is others enough again =
    go most (first ++ rest) enough shorter (parameter_again first rest p is (parameters_begin rest ps others))
  where
    shorter : length rest < length (first ++ rest)
    shorter =
        let some : 0 < length first = parameter_length first p is in
        let both : length (first ++ rest) ≡ length first + length rest = length-append first rest in
        omega arith

    go : (most : ℕ) (text : List ℕ) → length text ≤ most → length rest < length text →
        parameter_at text ≡ Some (p, rest) → parameters_in most text ≡ Some (p ∷ ps)
    go most [] within less read = absurd (omega arith)
    go zero (c ∷ cs) within less read = absurd (omega arith)
    go (suc most) (c ∷ cs) within less read =
        let room : length rest ≤ most = omega arith in
        ap (after_one most) read ∙ ap (option_map (λ others. p ∷ others)) (again most room)

-- parameters are read
pub parameters_again : (ps : List Given) (text : List ℕ) (most : ℕ) → AreParameters text ps →
    length text ≤ most → parameters_in most text ≡ Some ps
parameters_again [] text most e enough = ap (parameters_in most) e ∙ nothing_again most
parameters_again (p ∷ ps) text most (first, rest, e, is, others) enough =
    ap (parameters_in most) e
    ∙ one_again most first rest p ps is others (subst (λ t. length t ≤ most) e enough)
    (λ m room. parameters_again ps rest m others room)

-- what is read of a range, step by step
abbrev pub with_parameters : List ℕ → List ℕ × List ℕ → Option MediaRange
with_parameters kind subtype =
    option_map (λ parameters. record { kind = kind; subtype = subtype.0; parameters = parameters })
    (parameters_in (length subtype.1) subtype.1)

abbrev pub with_slash : List ℕ → List ℕ → Option MediaRange
with_slash kind more = token_at more >>= with_parameters kind

abbrev pub with_kind : List ℕ × List ℕ → Option MediaRange
with_kind kind = behind 47 kind.1 >>= with_slash kind.0

-- a range is read
pub range_again : (text : List ℕ) (range : MediaRange) → IsRange text range → range_of text ≡ Some range
unfolding range_of
range_again text range is =
    let all : length is.rest ≤ length is.rest = omega arith in
    ap range_of is.parts
    ∙ (ap (λ o. o >>= with_kind)
    (front.token_again range.kind (47 ∷ (range.subtype ++ is.rest)) is.kind front.tokens_no_slash)
    ∙ (ap (λ o. o >>= with_parameters range.kind)
    (front.token_again range.subtype is.rest is.subtype (parameters_begin is.rest range.parameters is.parameters))
    ∙ ap (option_map (λ parameters. record { kind = range.kind; subtype = range.subtype; parameters = parameters }))
    (parameters_again range.parameters is.rest (length is.rest) is.parameters all)))
