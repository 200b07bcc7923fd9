-- What is read is spelled so.
use Rattle.std.proofs.Common.{◌≡◌, ◌∙◌, ◌↔◌, ℕ, zero, suc, ◌+◌, ◌==◌, Bool, true, false, List, [], ◌∷◌, ◌++◌}
use Rattle.std.proofs.Common.{Option, Some, None, refl, sym, ap, ap₂, subst, cond, take, drop, inl, inr}
use Rattle.std.proofs.Common.{length, take-append-drop, add-one, append_assoc, eqb-true, eq-eqb}
use Rattle.std.proofs.lemmas.Bool.{false≢true}
use Rattle.std.proofs.lemmas.List.Folds.{length-prefix_len}
use Rattle.std.proofs.lemmas.Option.{none-some, same_Some, some_pair_parts}
use Rattle.std.specs.List.{prefix_len, take_while}
use Rattle.std.specs.Option.{option_map}
use Rattle.gql_multipart.proofs.FrontLemmas.{Pass, front_passes}
use Rattle.gql_multipart.proofs.SpelledLemmas.{with_kind, with_more, with_name, with_parameters, with_slash}
use Rattle.gql_multipart.proofs.SpelledLemmas.{with_others, nothing_again, range_again, regrouped}
use Rattle.gql_multipart.proofs.SpelledLemmas.{with_spelled, with_value}
use Rattle.gql_multipart.specs.Grammar.{AreParameters, IsParameter, IsQuoted, IsRange, IsToken, IsValue}
use Rattle.gql_multipart.specs.MediaRange.{MediaRange, range_of}
use Rattle.gql_multipart.specs.Parameter.{Given, parameter_at, parameters_in}
use Rattle.gql_multipart.specs.Quoted.{closing, ends, said, string_at, unescaped, value_at}
use Rattle.gql_multipart.specs.Step.{◌>>=◌}
use Rattle.gql_multipart.specs.Token.{behind, is_blank, is_token_character, token_at, unspaced}

-- where something is read after another, the first was read
bind_ok : {A B : Type 0} (r : Option A) (f : A → Option B) (y : B) → (r >>= f) ≡ Some y →
    (x : A) × (r ≡ Some x) × (f x ≡ Some y)
bind_ok None f y h = absurd (none-some y h)
bind_ok (Some x) f y h = (x, refl, h)

-- where something is made of another, the other is there
pub map_ok : {A B : Type 0} (f : A → B) (r : Option A) (y : B) → option_map f r ≡ Some y →
    (x : A) × (r ≡ Some x) × (f x ≡ y)
map_ok f None y h = absurd (none-some y h)
map_ok f (Some x) y h = (x, refl, same_Some (f x) y h)

-- a front and what is after it
fronts : (p : ℕ → Bool) (text : List ℕ) → text ≡ take_while p text ++ drop (prefix_len p text) text
fronts p text = sym (take-append-drop (prefix_len p text) text)

-- a front that isn't empty is a token
front_token : (text token rest : List ℕ) → (prefix_len is_token_character text == 0) ≡ false →
    (take_while is_token_character text ≡ token) × (drop (prefix_len is_token_character text) text ≡ rest) →
    (text ≡ token ++ rest) × IsToken token
front_token text token rest some same = (
  fronts is_token_character text ∙ ap₂ (λ a b. a ++ b) same.0 same.1,
  (
    λ none. false≢true (sym some ∙ eq-eqb (prefix_len is_token_character text) 0
        (sym (length-prefix_len is_token_character text) ∙ ap length (same.0 ∙ none))),
    subst (Pass is_token_character) same.0 (front_passes is_token_character text),
  ),
)

-- a token that is read
token_read : (text token rest : List ℕ) → token_at text ≡ Some (token, rest) →
    (text ≡ token ++ rest) × IsToken token
token_read text token rest h = go (prefix_len is_token_character text == 0) refl h
  where
    go : (z : Bool) → (prefix_len is_token_character text == 0) ≡ z →
        cond {A = Option (List ℕ × List ℕ)} z None
        (Some (take_while is_token_character text, drop (prefix_len is_token_character text) text))
        ≡ Some (token, rest) → (text ≡ token ++ rest) × IsToken token
    go true e found = absurd (none-some _ found)
    go false e found = front_token text token rest e (some_pair_parts _ _ _ _ found)

-- a character that is read
behind_read : (c : ℕ) (text more : List ℕ) → behind c text ≡ Some more → text ≡ c ∷ more
behind_read c [] more h = absurd (none-some more h)
behind_read c (d ∷ ds) more h = go (d == c) refl h
  where
    go : (b : Bool) → (d == c) ≡ b → cond b (Some ds) None ≡ Some more → d ∷ ds ≡ c ∷ more
    go true e found = ap₂ (λ a b. a ∷ b) (eqb-true d c e) (same_Some ds more found)
    go false e found = absurd (none-some more found)

-- up to a place a text is between quotes, and there is the quote that ends it
abbrev Ends : List ℕ → ℕ → Type 0
Ends text n = (text ≡ take n text ++ (34 ∷ drop (suc n) text)) × IsQuoted (take n text) (said (take n text))

ends_here : (c : ℕ) (cs : List ℕ) (n : ℕ) → c ≡ 34 → 0 ≡ n → Ends (c ∷ cs) n
ends_here c cs n e z = subst (Ends (c ∷ cs)) z (ap (λ x. x ∷ cs) e, refl)

-- a plain character more
ends_behind : (c : ℕ) (cs : List ℕ) (m : ℕ) → (c == 34) ≡ false → (c == 92) ≡ false → Ends cs m →
    Ends (c ∷ cs) (m + 1)
ends_behind c cs m no_quote no_backslash that =
    subst (Ends (c ∷ cs)) (sym (add-one m)) (
      ap (λ t. c ∷ t) that.0,
      subst (IsQuoted (c ∷ take m cs)) (sym plain)
          (take m cs, inr (refl, differs 34 no_quote, differs 92 no_backslash), that.1),
    )
  where
    plain : said (c ∷ take m cs) ≡ c ∷ said (take m cs)
    plain = ap (λ b. cond b (unescaped true (take m cs)) (c ∷ unescaped false (take m cs))) no_backslash

    differs : (d : ℕ) → (c == d) ≡ false → c ≡ d → ⊥
    differs d h e = false≢true (sym h ∙ eq-eqb c d e)

-- a backslash and the character after it more
ends_behind_two : (c d : ℕ) (ds : List ℕ) (k : ℕ) → (c == 92) ≡ true → Ends ds k →
    Ends (c ∷ d ∷ ds) ((k + 1) + 1)
ends_behind_two c d ds k backslash that =
    subst (Ends (c ∷ d ∷ ds)) (sym (add-one (k + 1) ∙ ap (λ n. suc n) (add-one k))) (
      ap (λ t. c ∷ d ∷ t) that.0,
      subst (IsQuoted (c ∷ d ∷ take k ds)) (sym escaped)
          (take k ds, inl (ap (λ x. x ∷ d ∷ take k ds) (eqb-true c 92 backslash)), that.1),
    )
  where
    escaped : said (c ∷ d ∷ take k ds) ≡ d ∷ said (take k ds)
    escaped =
        ap (λ b. cond b (unescaped true (d ∷ take k ds)) (c ∷ unescaped false (d ∷ take k ds))) backslash

-- after a backslash and a character
two_further : (c d : ℕ) (ds : List ℕ) (m : ℕ) → (c == 92) ≡ true →
    (k : ℕ) × (closing false ds ≡ Some k) × (k + 1 ≡ m) →
    ((k : ℕ) → closing false ds ≡ Some k → Ends ds k) → Ends (c ∷ d ∷ ds) (m + 1)
two_further c d ds m e (k, found, same) again =
    subst (λ n. Ends (c ∷ d ∷ ds) (n + 1)) same (ends_behind_two c d ds k e (again k found))

-- one character before others, of which each end is known
ends_step : (c : ℕ) (cs : List ℕ) (n : ℕ) → closing false (c ∷ cs) ≡ Some n →
    ((m : ℕ) → closing false cs ≡ Some m → Ends cs m) →
    ((m : ℕ) → (c == 92) ≡ true → closing true cs ≡ Some m → Ends (c ∷ cs) (m + 1)) → Ends (c ∷ cs) n
ends_step c cs n h plain escaped = go (c == 34) refl h
  where
    other : (b : Bool) → (c == 92) ≡ b → (c == 34) ≡ false → (m : ℕ) → closing b cs ≡ Some m → Ends (c ∷ cs) (m + 1)
    other true e f m found = escaped m e found
    other false e f m found = ends_behind c cs m f e (plain m found)

    further : (c == 34) ≡ false → (m : ℕ) × (closing (c == 92) cs ≡ Some m) × (m + 1 ≡ n) → Ends (c ∷ cs) n
    further f (m, found, e) = subst (Ends (c ∷ cs)) e (other (c == 92) refl f m found)

    go : (b : Bool) → (c == 34) ≡ b →
        cond b (Some 0) (option_map (λ n. n + 1) (closing (c == 92) cs)) ≡ Some n → Ends (c ∷ cs) n
    go true e found = ends_here c cs n (eqb-true c 34 e) (same_Some 0 n found)
    go false e found = further e (map_ok (λ n. n + 1) (closing (c == 92) cs) n found)

-- up to the quote that ends it, a text is between quotes
quoted_read : (text : List ℕ) (n : ℕ) → closing false text ≡ Some n → Ends text n
quoted_read [] n h = absurd (none-some n h)
quoted_read (c ∷ []) n h =
    ends_step c [] n h (λ m found. absurd (none-some m found)) (λ m e found. absurd (none-some m found))
quoted_read (c ∷ d ∷ ds) n h =
    ends_step c (d ∷ ds) n h (λ m found. quoted_read (d ∷ ds) m found)
    (λ m e found. two_further c d ds m e (map_ok (λ n. n + 1) (closing false ds) m found)
    (λ k last. quoted_read ds k last))

-- a text says this between quotes, and this is after them
abbrev SaysThen : List ℕ → List ℕ → List ℕ → Type 0
SaysThen text value rest = (inner : List ℕ) × (text ≡ inner ++ (34 ∷ rest)) × IsQuoted inner value

said_then : (text value rest : List ℕ) (n : ℕ) →
    ◌≡◌ {A = List ℕ × List ℕ} (said (take n text), drop (n + 1) text) (value, rest) → Ends text n → SaysThen text value rest
said_then text value rest n same ends = (
  take n text,
  ends.0 ∙ ap (λ t. take n text ++ (34 ∷ t)) (ap (λ k. drop k text) (sym (add-one n)) ∙ ap (λ (p : List ℕ × List ℕ). p.1) same),
  subst (IsQuoted (take n text)) (ap (λ (p : List ℕ × List ℕ). p.0) same) ends.1,
)

-- a quoted string that is read
string_read : (text value rest : List ℕ) → string_at text ≡ Some (value, rest) → SaysThen text value rest
string_read text value rest h =
    go (map_ok (λ end. (said (take end text), drop (end + 1) text)) (closing false text) (value, rest) h)
  where
    go : (n : ℕ) × (closing false text ≡ Some n)
        × (◌≡◌ {A = List ℕ × List ℕ} (said (take n text), drop (n + 1) text) (value, rest)) → SaysThen text value rest
    go (n, found, same) = said_then text value rest n same (quoted_read text n found)

-- a value that is read
value_read : (text value rest : List ℕ) → value_at text ≡ Some (value, rest) →
    (spelled : List ℕ) × (text ≡ spelled ++ rest) × IsValue spelled value
value_read [] value rest h = absurd (none-some _ h)
value_read (c ∷ cs) value rest h = go (c == 34) refl h
  where
    quoted : c ≡ 34 → (inner : List ℕ) × (cs ≡ inner ++ (34 ∷ rest)) × IsQuoted inner value →
        (spelled : List ℕ) × (c ∷ cs ≡ spelled ++ rest) × IsValue spelled value
    quoted e (inner, f, q) = (
      34 ∷ (inner ++ 34 ∷ []),
      ap₂ (λ a b. a ∷ b) e (f ∙ sym (append_assoc inner (34 ∷ []) rest)),
      inr (inner, refl, q),
    )

    plain : (c ∷ cs ≡ value ++ rest) × IsToken value →
        (spelled : List ℕ) × (c ∷ cs ≡ spelled ++ rest) × IsValue spelled value
    plain w = (value, w.0, inl (refl, w.1))

    go : (b : Bool) → (c == 34) ≡ b → cond b (string_at cs) (token_at (c ∷ cs)) ≡ Some (value, rest) →
        (spelled : List ℕ) × (c ∷ cs ≡ spelled ++ rest) × IsValue spelled value
    go true e found = quoted (eqb-true c 34 e) (string_read cs value rest found)
    go false e found = plain (token_read (c ∷ cs) value rest found)

-- a text begins with a parameter, and this is after it
abbrev BeginsWith : List ℕ → Given → List ℕ → Type 0
BeginsWith text p rest = (first : List ℕ) × (text ≡ first ++ rest) × IsParameter first p

-- the parts of a parameter, one after another
parts_read : (text more name others spelled value rest : List ℕ) → unspaced text ≡ 59 ∷ more →
    (unspaced more ≡ name ++ others) × IsToken name → others ≡ 61 ∷ spelled →
    (shown : List ℕ) × (spelled ≡ shown ++ rest) × IsValue shown value →
    BeginsWith text (record { name = name; value = value }) rest
parts_read text more name others spelled value rest mark token equals (shown, e, is) = (
  take_while is_blank text ++ (59 ∷ (take_while is_blank more ++ (name ++ (61 ∷ shown)))),
  fronts is_blank text
      ∙ (ap (λ t. take_while is_blank text ++ t) mark
      ∙ (ap (λ t. take_while is_blank text ++ (59 ∷ t)) (fronts is_blank more)
      ∙ (ap (λ t. take_while is_blank text ++ (59 ∷ (take_while is_blank more ++ t)))
      (token.0 ∙ ap (λ t. name ++ t) (equals ∙ ap (λ t. 61 ∷ t) e))
      ∙ sym (regrouped (take_while is_blank text) (take_while is_blank more) name shown rest)))),
  record {
    before = take_while is_blank text;
    after = take_while is_blank more;
    spelled = shown;
    parts = refl;
    blanks_before = front_passes is_blank text;
    blanks_after = front_passes is_blank more;
    name = token.1;
    value = is;
  },
)

-- a parameter that is read
parameter_read : (text : List ℕ) (p : Given) (rest : List ℕ) → parameter_at text ≡ Some (p, rest) →
    BeginsWith text p rest
unfolding parameter_at
parameter_read text p rest h = from_more (bind_ok (behind 59 (unspaced text)) with_more (p, rest) h)
  where
    from_value : (more name others spelled : List ℕ) → unspaced text ≡ 59 ∷ more →
        token_at (unspaced more) ≡ Some (name, others) → others ≡ 61 ∷ spelled →
        (value : List ℕ × List ℕ) × (value_at spelled ≡ Some value) × (with_value name value ≡ Some (p, rest)) →
        BeginsWith text p rest
    from_value more name others spelled mark token equals (value, e, same) =
        subst (λ (q : Given × List ℕ). BeginsWith text q.0 q.1)
        (same_Some (record { name = name; value = value.0 }, value.1) (p, rest) same)
        (parts_read text more name others spelled value.0 value.1 mark (token_read (unspaced more) name others token)
        equals (value_read spelled value.0 value.1 e))

    from_spelled : (more name others : List ℕ) → unspaced text ≡ 59 ∷ more →
        token_at (unspaced more) ≡ Some (name, others) →
        (spelled : List ℕ) × (behind 61 others ≡ Some spelled) × (with_spelled name spelled ≡ Some (p, rest)) →
        BeginsWith text p rest
    from_spelled more name others mark token (spelled, e, read) =
        from_value more name others spelled mark token (behind_read 61 others spelled e)
        (bind_ok (value_at spelled) (with_value name) (p, rest) read)

    from_name : (more : List ℕ) → unspaced text ≡ 59 ∷ more →
        (name : List ℕ × List ℕ) × (token_at (unspaced more) ≡ Some name) × (with_name name ≡ Some (p, rest)) →
        BeginsWith text p rest
    from_name more mark (name, e, read) =
        from_spelled more name.0 name.1 mark e (bind_ok (behind 61 name.1) (with_spelled name.0) (p, rest) read)

    from_more : (more : List ℕ) × (behind 59 (unspaced text) ≡ Some more) × (with_more more ≡ Some (p, rest)) →
        BeginsWith text p rest
    from_more (more, e, read) =
        from_name more (behind_read 59 (unspaced text) more e)
        (bind_ok (token_at (unspaced more)) with_name (p, rest) read)

-- one parameter that is read, and then others
one_read : (most : ℕ) (text : List ℕ) (ps : List Given) →
    (found : Given × List ℕ) × (parameter_at text ≡ Some found)
    × (option_map (λ others. found.0 ∷ others) (parameters_in most found.1) ≡ Some ps) →
    ((rest : List ℕ) (others : List Given) → parameters_in most rest ≡ Some others → AreParameters rest others) →
    AreParameters text ps
one_read most text ps (found, e, h) again =
    joined (map_ok (λ others. found.0 ∷ others) (parameters_in most found.1) ps h)
    (parameter_read text found.0 found.1 e)
  where
    joined : (others : List Given) × (parameters_in most found.1 ≡ Some others) × (found.0 ∷ others ≡ ps) →
        BeginsWith text found.0 found.1 → AreParameters text ps
    joined (others, read, same) (first, parts, is) =
        subst (AreParameters text) same (first, found.1, parts, is, again found.1 others read)

-- parameters that are read
parameters_read : (most : ℕ) (text : List ℕ) (ps : List Given) → parameters_in most text ≡ Some ps →
    AreParameters text ps
parameters_read most [] ps h =
    subst (AreParameters []) (same_Some [] ps (sym (nothing_again most) ∙ h)) refl
parameters_read zero (c ∷ cs) ps h = absurd (none-some ps h)
parameters_read (suc most) (c ∷ cs) ps h =
    one_read most (c ∷ cs) ps (bind_ok (parameter_at (c ∷ cs)) (with_others most) ps h)
    (λ rest others read. parameters_read most rest others read)

-- the parts of a range, one after another
range_parts : (text kind more subtype rest : List ℕ) (ps : List Given) (others : List ℕ) →
    (text ≡ kind ++ others) × IsToken kind → others ≡ 47 ∷ more →
    (more ≡ subtype ++ rest) × IsToken subtype → AreParameters rest ps →
    IsRange text (record { kind = kind; subtype = subtype; parameters = ps })
range_parts text kind more subtype rest ps others first slash second are = record {
  rest = rest;
  parts = first.0 ∙ ap (λ t. kind ++ t) (slash ∙ ap (λ t. 47 ∷ t) second.0);
  kind = first.1;
  subtype = second.1;
  parameters = are;
}

-- a range that is read
range_read : (text : List ℕ) (range : MediaRange) → range_of text ≡ Some range → IsRange text range
unfolding range_of
range_read text range h = from_kind (bind_ok (token_at text) with_kind range h)
  where
    from_parameters : (kind subtype : List ℕ × List ℕ) (more : List ℕ) → token_at text ≡ Some kind →
        kind.1 ≡ 47 ∷ more → token_at more ≡ Some subtype →
        (ps : List Given) × (parameters_in (length subtype.1) subtype.1 ≡ Some ps)
        × (record { kind = kind.0; subtype = subtype.0; parameters = ps } ≡ range) →
        IsRange text range
    from_parameters kind subtype more first slash second (ps, read, same) =
        subst (IsRange text) same
        (range_parts text kind.0 more subtype.0 subtype.1 ps kind.1 (token_read text kind.0 kind.1 first) slash
        (token_read more subtype.0 subtype.1 second) (parameters_read (length subtype.1) subtype.1 ps read))

    from_subtype : (kind : List ℕ × List ℕ) (more : List ℕ) → token_at text ≡ Some kind → kind.1 ≡ 47 ∷ more →
        (subtype : List ℕ × List ℕ) × (token_at more ≡ Some subtype) × (with_parameters kind.0 subtype ≡ Some range) →
        IsRange text range
    from_subtype kind more first slash (subtype, e, read) =
        from_parameters kind subtype more first slash e
        (map_ok (λ ps. record { kind = kind.0; subtype = subtype.0; parameters = ps })
        (parameters_in (length subtype.1) subtype.1) range read)

    from_slash : (kind : List ℕ × List ℕ) → token_at text ≡ Some kind →
        (more : List ℕ) × (behind 47 kind.1 ≡ Some more) × (with_slash kind.0 more ≡ Some range) → IsRange text range
    from_slash kind first (more, e, read) =
        from_subtype kind more first (behind_read 47 kind.1 more e)
        (bind_ok (token_at more) (with_parameters kind.0) range read)

    from_kind : (kind : List ℕ × List ℕ) × (token_at text ≡ Some kind) × (with_kind kind ≡ Some range) →
        IsRange text range
    from_kind (kind, e, read) = from_slash kind e (bind_ok (behind 47 kind.1) (with_slash kind.0) range read)

-- a text is read as a range where it spells that range
pub ranges : (text : List ℕ) (range : MediaRange) → (range_of text ≡ Some range) ↔ IsRange text range
ranges text range = (range_read text range, range_again text range)
