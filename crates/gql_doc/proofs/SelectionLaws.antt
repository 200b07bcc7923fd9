-- The readers of selections and their sets.
use Rattle.std.proofs.Common.{◌≡◌, ◌≢◌, ℕ, zero, suc, pred, Bool, true, false, not, ◌&&◌, List, [], ◌∷◌, ◌++◌, Option, Some, None, inl, inr, refl, sym, ap, ◌∙◌, subst, append-nil}
use Rattle.std.specs.Prelude.{codes}
use mathlib.Core.Former.{Count}
use denote.Hole.Carrier.{out}
use Rattle.gql_base.specs.declared.pos.Pos.{Pos}
use Rattle.gql_tokens.specs.declared.token.Lexeme.{Lexeme}
use Rattle.gql_tokens.specs.declared.token.Lexeme.TheVariants as lexeme
use Rattle.gql_tokens.specs.declared.token.Punctuator.{Punctuator}
use Rattle.gql_tokens.specs.declared.token.Punctuator.TheVariants as sign
use Rattle.gql_doc.specs.declared.tree.Variables.TheVariants.{Allowed}
use Rattle.gql_doc.specs.declared.tree.ArgumentTree.{ArgumentTree}
use Rattle.gql_doc.specs.declared.tree.DirectiveTree.{DirectiveTree}
use Rattle.gql_doc.specs.declared.tree.SelectionTree.{SelectionTree, Field, Field', Spread, Inline, Inline', Row_of-SelectionTree, end_of-SelectionTree, more_of-SelectionTree, items-the_row-SelectionTree, items_hidden-the_row-SelectionTree-0, items_shown-the_row-SelectionTree-0, out-SelectionTree, roll-SelectionTree, roll-out-SelectionTree}
use Rattle.gql_doc.specs.declared.tree.SelectionTree.TheBlock.{hidden-the_row-SelectionTree-0}
use Rattle.gql_doc.specs.declared.tree.SelectionTree.TheViews.{rolls-Field, rolls-Inline}
use Rattle.gql_doc.specs.declared.tree.SetTree.{SetTree}
use Rattle.gql_doc.specs.Words.{Tokens, Word, Language, tokens_of, ◌▸◌, Each, Maybe, SignAt, OpensAt, KeywordAt, plain}
use Rattle.gql_doc.specs.Grammar.{IsName, IsFragmentName, IsCondition, IsHead, head_pos, AreArguments, AreDirectives, IsSelection, IsSetOrNone, IsSetOf, AreSelections, IsNonEmpty}
use Rattle.gql_doc.specs.Readers.{Reader, begins, mapped, past, ended, branch, some, optional, gives, too_deep, ◌then◌}
use Rattle.gql_doc.specs.Reading.{is_sign, says_word, says_name, is_word, is_fragment_name, other_than, take_sign, take_word, take_name, take_fragment_name, arguments, directives, head, condition, set_or_none, field_by, spread_behind, inline_behind, spread_by, selection_by, selection_at, set_by, set_at}
use Rattle.gql_doc.proofs.ReaderLaws.{Reads, Always, Pure, Seq, Map, Either, SomeOf, SomeWord, Starts, EachOfSome, convert, seq, mapped_reads, past_reads, ended_reads, choice, gives_any, some_reads, optional_reads}
use Rattle.gql_doc.proofs.TokenLaws.{start, sign_is, sign_reads, word_reads, name_reads, fragment_name_reads, text_differs}
use Rattle.gql_doc.proofs.Follows.{NextIs, NextIsName, Never, Before, joined, never_next, never_name, none_is, other_is, name_is_other, sign_next, opens_next, before_name, before_seq, before_map}
use Rattle.gql_doc.proofs.ArgumentLaws.{arguments_reads, directives_reads, before_directives, before_parentheses}
use Rattle.gql_doc.proofs.Deep.{deep_reads}
use Rattle.gql_doc.specs.Words.{PlacedName}

-- Heads and conditions.

pub condition_reads : Reads condition IsCondition Always
unfolding condition
condition_reads = past_reads (take_word (codes "on")) (KeywordAt (codes "on")) take_name IsName Always Always (word_reads (codes "on")) name_reads (λ v y rest q g. tt)

abbrev Head : Type 0
Head = Option PlacedName × PlacedName

abbrev BehindName : PlacedName → Head → Language
BehindName first =
    Either (λ h. SomeOf (SignAt sign.Colon) ▸ Map (λ name. (Some first, name)) IsName h) (Pure (None, first))

abbrev IsHeadOf : Head → Language
IsHeadOf h = IsHead h.0 h.1

head_to : (v : Head) (ms : Word) → Seq IsName BehindName v ms → IsHeadOf v ms
head_to v ms (first, x, y, e, n, inl (a, b, h, colon, (name, k, m))) = subst (λ w. IsHeadOf w ms) (sym k) (x, y, e, n, (a, b, h, colon, m))
head_to v ms (first, x, y, e, n, inr (k, nil)) =
    subst (λ w. IsHeadOf w ms) (sym k) (subst (IsName first) (sym (append-nil x) ∙ ap (λ w. x ++ w) (sym nil) ∙ sym e) n)

head_from : (v : Head) (ms : Word) → IsHeadOf v ms → Seq IsName BehindName v ms
head_from (None, name) ms n = (name, ms, [], sym (append-nil ms), n, inr (refl, refl))
head_from (Some alias, name) ms (x, y, e, n, (a, b, h, colon, m)) = (alias, x, y, e, n, inl (a, b, h, colon, (name, refl, m)))

behind_name : (first : PlacedName) → Reads (branch (is_sign sign.Colon) (past (take_sign sign.Colon) (mapped (λ name. (Some first, name)) take_name)) (gives (None, first))) (BehindName first) (Never (sign.Colon ∷ []))
behind_name first =
    choice (is_sign sign.Colon) (past (take_sign sign.Colon) (mapped (λ name. (Some first, name)) take_name)) (gives (None, first)) (λ h. SomeOf (SignAt sign.Colon) ▸ Map (λ name. (Some first, name)) IsName h) (Pure (None, first)) Always (Never (sign.Colon ∷ [])) (Never (sign.Colon ∷ []))
    (past_reads (take_sign sign.Colon) (SignAt sign.Colon) (mapped (λ name. (Some first, name)) take_name) (Map (λ name. (Some first, name)) IsName) Always Always (sign_reads sign.Colon) (mapped_reads (λ name. (Some first, name)) take_name IsName Always name_reads) (λ v y rest q g. tt))
    (gives_any (None, first) (Never (sign.Colon ∷ [])))
    (λ v ms rest (x, y, e, (pos, colon), h). joined (NextIs sign.Colon) ms x y rest e (sign_next sign.Colon Always pos x (tokens_of y ++ rest) colon tt))
    (λ v ms rest (k, nil) g. subst (λ w. begins (is_sign sign.Colon) (tokens_of w ++ rest) ≡ false) (sym nil) g.0) (λ rest g. tt) (λ rest g. g)

pub head_reads : Reads head IsHeadOf (Never (sign.Colon ∷ []))
unfolding head
head_reads =
    convert head (Seq IsName BehindName) IsHeadOf (Never (sign.Colon ∷ [])) (Never (sign.Colon ∷ []))
    (seq take_name IsName (λ first. branch (is_sign sign.Colon) (past (take_sign sign.Colon) (mapped (λ name. (Some first, name)) take_name)) (gives (None, first))) BehindName Always (Never (sign.Colon ∷ [])) name_reads behind_name (λ a v y rest q g. tt))
    head_to head_from (λ rest g. g)

pub head_next : (v : Head) (ms : Word) (rest : Tokens) → IsHeadOf v ms → NextIsName (tokens_of ms ++ rest)
head_next v ms rest h = let s = head_from v ms h in joined NextIsName ms s.1 s.2 rest s.3 (before_name Always s.0 s.1 (tokens_of s.2 ++ rest) s.4 tt)

-- Sets, with so many levels left.

abbrev pub IsSetTree : ℕ → SetTree → Language
IsSetTree levels set ms =
    IsNonEmpty set.selections × (OpensAt levels sign.OpenBrace set.pos ▸ (Each (IsSelection (pred levels)) set.selections ▸ SomeOf (SignAt sign.CloseBrace))) ms

selections_of_row : (levels : ℕ) (m : Count) (row : Row_of-SelectionTree m) (ms : Word) → AreSelections levels row ms → Each (IsSelection levels) (items-the_row-SelectionTree m row) ms
selections_of_row levels _ end_of-SelectionTree ms nil = nil
selections_of_row levels _ (more_of-SelectionTree v row) ms (x, y, e, d, ds) = (x, y, e, d, selections_of_row levels _ row y ds)

row_of_selections : (levels : ℕ) (m : Count) (row : Row_of-SelectionTree m) (ms : Word) → Each (IsSelection levels) (items-the_row-SelectionTree m row) ms → AreSelections levels row ms
row_of_selections levels _ end_of-SelectionTree ms nil = nil
row_of_selections levels _ (more_of-SelectionTree v row) ms (x, y, e, d, ds) = (x, y, e, d, row_of_selections levels _ row y ds)

abbrev tree : Pos → List SelectionTree → SetTree
tree pos selections = record { pos = pos; selections = selections }

set_of_row : (levels : ℕ) (set : Pos) (m : Count) (row : Row_of-SelectionTree m) (ms : Word) → IsSetOf levels set row ms → IsSetTree levels (tree set (items-the_row-SelectionTree m row)) ms
set_of_row levels set _ end_of-SelectionTree ms none = absurd none
set_of_row levels set _ (more_of-SelectionTree v row) ms (x, y, e, o, (a, b, h, (c, d, f, s, ss), close)) =
    (tt, (x, y, e, o, (a, b, h, (c, d, f, s, selections_of_row (pred levels) _ row d ss), close)))

row_of_set : (levels : ℕ) (set : Pos) (m : Count) (row : Row_of-SelectionTree m) (ms : Word) → IsSetTree levels (tree set (items-the_row-SelectionTree m row)) ms → IsSetOf levels set row ms
row_of_set levels set _ end_of-SelectionTree ms (none, h) = absurd none
row_of_set levels set _ (more_of-SelectionTree v row) ms (_, (x, y, e, o, (a, b, h, (c, d, f, s, ss), close))) =
    (x, y, e, o, (a, b, h, (c, d, f, s, row_of_selections (pred levels) _ row d ss), close))

-- a set, or none at the field's place
abbrev IsSetIfAny : ℕ → Pos → SetTree → Language
IsSetIfAny levels field = Either (IsSetTree levels) (Pure (tree field []))

if_any_of_row : (levels : ℕ) (field set : Pos) (m : Count) (row : Row_of-SelectionTree m) (ms : Word) → IsSetOrNone levels field set row ms → IsSetIfAny levels field (tree set (items-the_row-SelectionTree m row)) ms
if_any_of_row levels field set _ end_of-SelectionTree ms (k, nil) = inr (ap (λ p. tree p []) k, nil)
if_any_of_row levels field set _ (more_of-SelectionTree v row) ms (x, y, e, o, (a, b, h, (c, d, f, s, ss), close)) =
    inl (tt, (x, y, e, o, (a, b, h, (c, d, f, s, selections_of_row (pred levels) _ row d ss), close)))

row_of_if_any : (levels : ℕ) (field set : Pos) (m : Count) (row : Row_of-SelectionTree m) (ms : Word) → IsSetIfAny levels field (tree set (items-the_row-SelectionTree m row)) ms → IsSetOrNone levels field set row ms
row_of_if_any levels field set _ end_of-SelectionTree ms (inl (none, h)) = absurd none
row_of_if_any levels field set _ end_of-SelectionTree ms (inr (k, nil)) = (ap (λ t. t.pos) k, nil)
row_of_if_any levels field set _ (more_of-SelectionTree v row) ms (inl (_, (x, y, e, o, (a, b, h, (c, d, f, s, ss), close)))) =
    (x, y, e, o, (a, b, h, (c, d, f, s, row_of_selections (pred levels) _ row d ss), close))
row_of_if_any levels field set _ (more_of-SelectionTree v row) ms (inr (k, nil)) = absurd (cc (ap (λ t. t.selections) k))

-- A selection in its parts.

field_whole : (alias : Option PlacedName) (name : PlacedName) (arguments : List ArgumentTree) (directives : List DirectiveTree) (set : Pos) (s : _) (row : Row_of-SelectionTree _) → Field' alias name arguments directives set s row ≡ Field alias name arguments directives set (items-the_row-SelectionTree _ row)
unfolding out-SelectionTree roll-SelectionTree out
field_whole alias name arguments directives set s row =
    sym (roll-out-SelectionTree (Field' alias name arguments directives set s row)) ∙ rolls-Field alias name arguments directives set _ ∙ ap (Field alias name arguments directives set) (items_shown-the_row-SelectionTree-0 s row)

inline_whole : (pos : Pos) (condition : Option PlacedName) (directives : List DirectiveTree) (set : Pos) (s : _) (row : Row_of-SelectionTree _) → Inline' pos condition directives set s row ≡ Inline pos condition directives set (items-the_row-SelectionTree _ row)
unfolding out-SelectionTree roll-SelectionTree out
inline_whole pos condition directives set s row =
    sym (roll-out-SelectionTree (Inline' pos condition directives set s row)) ∙ rolls-Inline pos condition directives set _ ∙ ap (Inline pos condition directives set) (items_shown-the_row-SelectionTree-0 s row)

abbrev make_field : Head → List ArgumentTree → List DirectiveTree → SetTree → SelectionTree
make_field h arguments directives set = Field h.0 h.1 arguments directives set.pos set.selections

abbrev make_inline : Pos → Option PlacedName → List DirectiveTree → SetTree → SelectionTree
make_inline pos condition directives set = Inline pos condition directives set.pos set.selections

abbrev pub says_some_sign : Lexeme → Bool
says_some_sign (lexeme.Punctuator sign) = true
says_some_sign _ = false

-- the next token is a sign
abbrev pub NextIsSign : Tokens → Type 0
NextIsSign rest = begins (λ token. says_some_sign token.lexeme) rest ≡ true

pub next_sign : (sign : Punctuator) (rest : Tokens) → NextIs sign rest → NextIsSign rest
next_sign sign [] next = absurd (cc next)
next_sign sign (t ∷ rest) next = ap says_some_sign (sign_is sign t.lexeme next)

sign_no_word : (word : List ℕ) (l : Lexeme) → says_some_sign l ≡ true → says_word word l ≡ false
sign_no_word word (lexeme.Punctuator sign) e = refl
sign_no_word word (lexeme.Name text) e = absurd (cc e)
sign_no_word word (lexeme.Number number) e = absurd (cc e)
sign_no_word word (lexeme.String text) e = absurd (cc e)
sign_no_word word lexeme.End e = absurd (cc e)
sign_no_word word lexeme.Unexpected e = absurd (cc e)
sign_no_word word lexeme.Unsupported e = absurd (cc e)

pub sign_no_name : (l : Lexeme) → says_some_sign l ≡ true → says_name l ≡ false
sign_no_name (lexeme.Punctuator sign) e = refl
sign_no_name (lexeme.Name text) e = absurd (cc e)
sign_no_name (lexeme.Number number) e = absurd (cc e)
sign_no_name (lexeme.String text) e = absurd (cc e)
sign_no_name lexeme.End e = absurd (cc e)
sign_no_name lexeme.Unexpected e = absurd (cc e)
sign_no_name lexeme.Unsupported e = absurd (cc e)

no_word : (word : List ℕ) (rest : Tokens) → NextIsSign rest → begins (is_word word) rest ≡ false
no_word word [] next = refl
no_word word (t ∷ rest) next = sign_no_word word t.lexeme next

on_next : Starts (is_word (codes "on")) IsCondition
on_next v ms rest (x, y, e, (pos, on), n) =
    joined (λ ts. begins (is_word (codes "on")) ts ≡ true) ms x y rest e (subst (λ w. begins (is_word (codes "on")) (tokens_of w ++ (tokens_of y ++ rest)) ≡ true) (sym on) refl)

fragment_name_next : (name : PlacedName) (ms : Word) (rest : Tokens) → IsFragmentName name ms → begins is_fragment_name (tokens_of ms ++ rest) ≡ true
fragment_name_next name ms rest (other, n) =
    subst (λ w. begins is_fragment_name (tokens_of w ++ rest) ≡ true) (sym n) (ap not (text_differs name.node (codes "on") other))

sign_no_fragment : (rest : Tokens) → NextIsSign rest → begins is_fragment_name rest ≡ false
sign_no_fragment [] next = refl
sign_no_fragment (t ∷ rest) next = ap (λ b. b && not (is_word (codes "on") t)) (sign_no_name t.lexeme next)

condition_no_fragment : (v : PlacedName) (ms : Word) (rest : Tokens) → IsCondition v ms → begins is_fragment_name (tokens_of ms ++ rest) ≡ false
condition_no_fragment v ms rest (x, y, e, (pos, on), n) =
    joined (λ ts. begins is_fragment_name ts ≡ false) ms x y rest e (subst (λ w. begins is_fragment_name (tokens_of w ++ (tokens_of y ++ rest)) ≡ false) (sym on) refl)

-- what may not follow a selection
abbrev pub AfterSelection : Tokens → Type 0
AfterSelection = Never (sign.OpenBrace ∷ sign.At ∷ sign.OpenParen ∷ sign.Colon ∷ [])

module _ (levels : ℕ) where
  abbrev BehindDirectives : Head → List ArgumentTree → List DirectiveTree → SelectionTree → Language
  BehindDirectives h arguments directives = Map (make_field h arguments directives) (IsSetIfAny levels (head_pos h.0 h.1))

  abbrev BehindArguments : Head → List ArgumentTree → SelectionTree → Language
  BehindArguments h arguments = Seq (AreDirectives Allowed) (BehindDirectives h arguments)

  abbrev BehindHead : Head → SelectionTree → Language
  BehindHead h = Seq (AreArguments Allowed) (BehindArguments h)

  abbrev IsField : SelectionTree → Language
  IsField = Seq IsHeadOf BehindHead

  abbrev IsSpreadBehind : Pos → SelectionTree → Language
  IsSpreadBehind pos = Seq IsFragmentName (λ name. Map (λ directives. Spread pos name directives) (AreDirectives Allowed))

  abbrev BehindCondition : Pos → Option PlacedName → SelectionTree → Language
  BehindCondition pos condition = Seq (AreDirectives Allowed) (λ directives. Map (make_inline pos condition directives) (IsSetTree levels))

  abbrev IsInlineBehind : Pos → SelectionTree → Language
  IsInlineBehind pos = Seq (Maybe IsCondition) (BehindCondition pos)

  abbrev IsSpread : SelectionTree → Language
  IsSpread = Seq (SignAt sign.Spread) (λ pos. Either (IsSpreadBehind pos) (IsInlineBehind pos))

  selection_to : (v : SelectionTree) (ms : Word) → Either IsSpread IsField v ms → IsSelection levels v ms
  selection_to v ms (inl (pos, x, y, e, dots, inl (name, a, b, h, n, (ds, k, dirs)))) =
      subst (λ w. IsSelection levels w ms) (sym k) (x, y, e, dots, (a, b, h, n, dirs))
  selection_to v ms (inl (pos, x, y, e, dots, inr (c, a, b, h, cond', (ds, d, f, g, dirs, (set, k, body))))) =
      subst (λ w. IsSelection levels w ms) (sym k)
      (x, y, e, dots, (a, b, h, cond', (d, f, g, dirs, row_of_set levels set.pos _ (hidden-the_row-SelectionTree-0 set.selections) f (subst (λ us. IsSetTree levels (tree set.pos us) f) (sym (items_hidden-the_row-SelectionTree-0 set.selections)) body))))
  selection_to v ms (inr (hd, x, y, e, h, (args, a, b, f, as', (ds, c, d, g, dirs, (set, k, body))))) =
      subst (λ w. IsSelection levels w ms) (sym k)
      (x, y, e, h, (a, b, f, as', (c, d, g, dirs, row_of_if_any levels (head_pos hd.0 hd.1) set.pos _ (hidden-the_row-SelectionTree-0 set.selections) d (subst (λ us. IsSetIfAny levels (head_pos hd.0 hd.1) (tree set.pos us) d) (sym (items_hidden-the_row-SelectionTree-0 set.selections)) body))))

  selection_from : (v : SelectionTree) (ms : Word) → IsSelection levels v ms → Either IsSpread IsField v ms
  selection_from (Field' alias name arguments directives set s row) ms (x, y, e, h, (a, b, f, as', (c, d, g, dirs, body))) =
      inr ((alias, name), x, y, e, h, (arguments, a, b, f, as', (directives, c, d, g, dirs, (tree set (items-the_row-SelectionTree _ row), field_whole alias name arguments directives set s row, if_any_of_row levels (head_pos alias name) set _ row d body))))
  selection_from (Spread pos name directives) ms (x, y, e, dots, (a, b, h, n, dirs)) =
      inl (pos, x, y, e, dots, inl (name, a, b, h, n, (directives, refl, dirs)))
  selection_from (Inline' pos condition directives set s row) ms (x, y, e, dots, (a, b, h, c, (d, f, g, dirs, body))) =
      inl (pos, x, y, e, dots, inr (condition, a, b, h, c, (directives, d, f, g, dirs, (tree set (items-the_row-SelectionTree _ row), inline_whole pos condition directives set s row, set_of_row levels set _ row f body))))

  -- Fields.

  pub brace_next : (v : SetTree) (ms : Word) (rest : Tokens) → IsSetTree levels v ms → NextIs sign.OpenBrace (tokens_of ms ++ rest)
  brace_next v ms rest (_, (x, y, e, o, h)) = joined (NextIs sign.OpenBrace) ms x y rest e (opens_next levels sign.OpenBrace v.pos x (tokens_of y ++ rest) o)

  -- a set, or what follows
  before_set : (field : Pos) (F : Tokens → Type 0) → ((rest : Tokens) → NextIs sign.OpenBrace rest → F rest) → Before (IsSetIfAny levels field) F F
  before_set field F opens v ms rest (inl h) g = opens (tokens_of ms ++ rest) (brace_next v ms rest h)
  before_set field F opens v ms rest (inr (k, nil)) g = subst (λ w. F (tokens_of w ++ rest)) (sym nil) g

  dots_next : (v : SelectionTree) (ms : Word) (rest : Tokens) → IsSpread v ms → NextIs sign.Spread (tokens_of ms ++ rest)
  dots_next v ms rest (pos, x, y, e, dots, h) = joined (NextIs sign.Spread) ms x y rest e (sign_next sign.Spread Always pos x (tokens_of y ++ rest) dots tt)

  module _ (set : Reader SetTree) (sets : Reads set (IsSetTree levels) Always) where
    if_any_reads : (field : Pos) → Reads (set_or_none field set) (IsSetIfAny levels field) (Never (sign.OpenBrace ∷ []))
    if_any_reads field =
        choice (is_sign sign.OpenBrace) set (gives (tree field [])) (IsSetTree levels) (Pure (tree field [])) Always (Never (sign.OpenBrace ∷ [])) (Never (sign.OpenBrace ∷ [])) sets (gives_any (tree field []) (Never (sign.OpenBrace ∷ []))) brace_next
        (λ v ms rest (k, nil) g. subst (λ w. begins (is_sign sign.OpenBrace) (tokens_of w ++ rest) ≡ false) (sym nil) g.0) (λ rest g. tt) (λ rest g. g)

    module _ (h : Head) where
      behind_directives : (args : List ArgumentTree) (ds : List DirectiveTree) → Reads (mapped (make_field h args ds) (set_or_none (head_pos h.0 h.1) set)) (BehindDirectives h args ds) AfterSelection
      behind_directives args ds =
          convert (mapped (make_field h args ds) (set_or_none (head_pos h.0 h.1) set)) (BehindDirectives h args ds) (BehindDirectives h args ds) (Never (sign.OpenBrace ∷ [])) AfterSelection
          (mapped_reads (make_field h args ds) (set_or_none (head_pos h.0 h.1) set) (IsSetIfAny levels (head_pos h.0 h.1)) (Never (sign.OpenBrace ∷ [])) (if_any_reads (head_pos h.0 h.1))) (λ v ms k. k) (λ v ms k. k) (λ rest g. (g.0, tt))

      before_directives_of : (args : List ArgumentTree) (ds : List DirectiveTree) → Before (BehindDirectives h args ds) AfterSelection (Never (sign.At ∷ sign.OpenParen ∷ sign.Colon ∷ []))
      before_directives_of args ds =
          before_map (make_field h args ds) (IsSetIfAny levels (head_pos h.0 h.1)) AfterSelection (Never (sign.At ∷ sign.OpenParen ∷ sign.Colon ∷ []))
          (λ v ms rest k g. before_set (head_pos h.0 h.1) (Never (sign.At ∷ sign.OpenParen ∷ sign.Colon ∷ [])) (λ rest. never_next (sign.At ∷ sign.OpenParen ∷ sign.Colon ∷ []) sign.OpenBrace rest (refl, (refl, (refl, tt)))) v ms rest k g.1)

      behind_arguments : (args : List ArgumentTree) → Reads (directives Allowed then (λ ds. mapped (make_field h args ds) (set_or_none (head_pos h.0 h.1) set))) (BehindArguments h args) AfterSelection
      behind_arguments args =
          seq (directives Allowed) (AreDirectives Allowed) (λ ds. mapped (make_field h args ds) (set_or_none (head_pos h.0 h.1) set)) (BehindDirectives h args) (Never (sign.At ∷ sign.OpenParen ∷ [])) AfterSelection (directives_reads Allowed) (behind_directives args)
          (λ ds v y rest q g. let k = before_directives_of args ds v y rest q g in (k.0, (k.1.0, tt)))

      before_arguments : (args : List ArgumentTree) → Before (BehindArguments h args) AfterSelection (Never (sign.OpenParen ∷ sign.Colon ∷ []))
      before_arguments args =
          before_seq (AreDirectives Allowed) (BehindDirectives h args) AfterSelection (Never (sign.OpenParen ∷ sign.Colon ∷ [])) (Never (sign.OpenParen ∷ sign.Colon ∷ []))
          (before_directives Allowed (Never (sign.OpenParen ∷ sign.Colon ∷ [])) (λ rest. never_next (sign.OpenParen ∷ sign.Colon ∷ []) sign.At rest (refl, (refl, tt))))
          (λ ds v ms rest k g. (before_directives_of args ds v ms rest k g).1)

      behind_head : Reads (arguments Allowed then (λ args. directives Allowed then (λ ds. mapped (make_field h args ds) (set_or_none (head_pos h.0 h.1) set)))) (BehindHead h) AfterSelection
      behind_head =
          seq (arguments Allowed) (AreArguments Allowed) (λ args. directives Allowed then (λ ds. mapped (make_field h args ds) (set_or_none (head_pos h.0 h.1) set))) (BehindArguments h) (Never (sign.OpenParen ∷ [])) AfterSelection (arguments_reads Allowed) behind_arguments
          (λ args v y rest q g. let k = before_arguments args v y rest q g in (k.0, tt))

      before_head : Before (BehindHead h) AfterSelection (Never (sign.Colon ∷ []))
      before_head =
          before_seq (AreArguments Allowed) (BehindArguments h) AfterSelection (Never (sign.Colon ∷ [])) (Never (sign.Colon ∷ []))
          (before_parentheses _ (Never (sign.Colon ∷ [])) (λ rest. never_next (sign.Colon ∷ []) sign.OpenParen rest (refl, tt)))
          (λ args v ms rest k g. (before_arguments args v ms rest k g).1)

    field_reads : Reads (field_by set) IsField AfterSelection
    field_reads = seq head IsHeadOf (λ h. arguments Allowed then (λ args. directives Allowed then (λ ds. mapped (make_field h args ds) (set_or_none (head_pos h.0 h.1) set)))) BehindHead (Never (sign.Colon ∷ [])) AfterSelection head_reads behind_head before_head

    -- Spreads and inline fragments.

    spread_behind_reads : (pos : Pos) → Reads (spread_behind pos) (IsSpreadBehind pos) (Never (sign.At ∷ sign.OpenParen ∷ []))
    spread_behind_reads pos =
        seq take_fragment_name IsFragmentName (λ name. mapped (λ ds. Spread pos name ds) (directives Allowed)) (λ name. Map (λ ds. Spread pos name ds) (AreDirectives Allowed)) Always (Never (sign.At ∷ sign.OpenParen ∷ [])) fragment_name_reads
        (λ name. mapped_reads (λ ds. Spread pos name ds) (directives Allowed) (AreDirectives Allowed) (Never (sign.At ∷ sign.OpenParen ∷ [])) (directives_reads Allowed)) (λ a v y rest q g. tt)

    behind_condition : (pos : Pos) (c : Option PlacedName) → Reads (directives Allowed then (λ ds. mapped (make_inline pos c ds) set)) (BehindCondition pos c) Always
    behind_condition pos c =
        seq (directives Allowed) (AreDirectives Allowed) (λ ds. mapped (make_inline pos c ds) set) (λ ds. Map (make_inline pos c ds) (IsSetTree levels)) (Never (sign.At ∷ sign.OpenParen ∷ [])) Always (directives_reads Allowed)
        (λ ds. mapped_reads (make_inline pos c ds) set (IsSetTree levels) Always sets)
        (λ ds v y rest (s, k, h) g. never_next (sign.At ∷ sign.OpenParen ∷ []) sign.OpenBrace (tokens_of y ++ rest) (refl, (refl, tt)) (brace_next s y rest h))

    before_condition : (pos : Pos) (c : Option PlacedName) → Before (BehindCondition pos c) Always NextIsSign
    before_condition pos c =
        before_seq (AreDirectives Allowed) (λ ds. Map (make_inline pos c ds) (IsSetTree levels)) Always NextIsSign NextIsSign
        (before_directives Allowed NextIsSign (λ rest. next_sign sign.At rest))
        (λ ds v ms rest (s, k, h) g. next_sign sign.OpenBrace (tokens_of ms ++ rest) (brace_next s ms rest h))

    no_fragment_name : (pos : Pos) (c : Option PlacedName) (v : SelectionTree) (x y : Word) (rest : Tokens) → Maybe IsCondition c x → BehindCondition pos c v y → begins is_fragment_name (tokens_of x ++ (tokens_of y ++ rest)) ≡ false
    no_fragment_name pos None v x y rest nil h = subst (λ w. begins is_fragment_name (tokens_of w ++ (tokens_of y ++ rest)) ≡ false) (sym nil) (sign_no_fragment (tokens_of y ++ rest) (before_condition pos None v y rest h tt))
    no_fragment_name pos (Some c) v x y rest on h = condition_no_fragment c x (tokens_of y ++ rest) on

    inline_reads : (pos : Pos) → Reads (inline_behind pos set) (IsInlineBehind pos) Always
    inline_reads pos =
        seq (optional (is_word (codes "on")) condition) (Maybe IsCondition) (λ c. directives Allowed then (λ ds. mapped (make_inline pos c ds) set)) (BehindCondition pos) NextIsSign Always
        (optional_reads (is_word (codes "on")) condition IsCondition Always NextIsSign condition_reads on_next (λ rest g. tt) (no_word (codes "on"))) (behind_condition pos) (before_condition pos)

    behind_dots : (pos : Pos) → Reads (branch is_fragment_name (spread_behind pos) (inline_behind pos set)) (Either (IsSpreadBehind pos) (IsInlineBehind pos)) (Never (sign.At ∷ sign.OpenParen ∷ []))
    behind_dots pos =
        choice is_fragment_name (spread_behind pos) (inline_behind pos set) (IsSpreadBehind pos) (IsInlineBehind pos) (Never (sign.At ∷ sign.OpenParen ∷ [])) Always (Never (sign.At ∷ sign.OpenParen ∷ [])) (spread_behind_reads pos) (inline_reads pos)
        (λ v ms rest (name, x, y, e, n, h). joined (λ ts. begins is_fragment_name ts ≡ true) ms x y rest e (fragment_name_next name x (tokens_of y ++ rest) n))
        (λ v ms rest (c, x, y, e, k, h) g. joined (λ ts. begins is_fragment_name ts ≡ false) ms x y rest e (no_fragment_name pos c v x y rest k h)) (λ rest g. g) (λ rest g. tt)

    spread_reads : Reads (spread_by set) IsSpread (Never (sign.At ∷ sign.OpenParen ∷ []))
    spread_reads =
        seq (take_sign sign.Spread) (SignAt sign.Spread) (λ pos. branch is_fragment_name (spread_behind pos) (inline_behind pos set)) (λ pos. Either (IsSpreadBehind pos) (IsInlineBehind pos)) Always (Never (sign.At ∷ sign.OpenParen ∷ [])) (sign_reads sign.Spread) behind_dots (λ a v y rest q g. tt)

    pub selection_reads : Reads (selection_by set) (IsSelection levels) AfterSelection
    selection_reads =
        convert (selection_by set) (Either IsSpread IsField) (IsSelection levels) AfterSelection AfterSelection
        (choice (is_sign sign.Spread) (spread_by set) (field_by set) IsSpread IsField (Never (sign.At ∷ sign.OpenParen ∷ [])) AfterSelection AfterSelection spread_reads field_reads
        (λ v ms rest. dots_next v ms rest)
        (λ v ms rest (h, x, y, e, hd, k) g. (never_name (sign.Spread ∷ []) (tokens_of ms ++ rest) (joined NextIsName ms x y rest e (head_next h x (tokens_of y ++ rest) hd))).0)
        (λ rest g. (g.1.0, (g.1.1.0, tt))) (λ rest g. g))
        selection_to selection_from (λ rest g. g)

  -- The first token of a selection.

  before_selection : (F : Tokens → Type 0) → ((rest : Tokens) → NextIs sign.Spread rest → F rest) → ((rest : Tokens) → NextIsName rest → F rest) → (v : SelectionTree) (ms : Word) (rest : Tokens) → IsSelection levels v ms → F (tokens_of ms ++ rest)
  before_selection F dots name v ms rest h = first (selection_from v ms h)
    where
      first : Either IsSpread IsField v ms → F (tokens_of ms ++ rest)
      first (inl spread) = dots (tokens_of ms ++ rest) (dots_next v ms rest spread)
      first (inr (hd, x, y, e, h, k)) = name (tokens_of ms ++ rest) (joined NextIsName ms x y rest e (head_next hd x (tokens_of y ++ rest) h))

-- Sets.

abbrev IsInBraces : (List SelectionTree → Language) → List SelectionTree → Language
IsInBraces Selections selections ms = ((λ w. IsNonEmpty selections × Selections selections w) ▸ SomeOf (SignAt sign.CloseBrace)) ms

module _ (levels : ℕ) where
  -- what stands behind the brace of a set
  abbrev SetRest : Pos → SetTree → Language
  SetRest pos = Map (tree pos) (IsInBraces (Each (IsSelection (pred levels))))

  set_to : (v : SetTree) (ms : Word) → Seq (OpensAt levels sign.OpenBrace) SetRest v ms → IsSetTree levels v ms
  set_to v ms (pos, x, y, e, o, (ss, k, (a, b, h, (some, each), close))) =
      subst (λ w. IsSetTree levels w ms) (sym k) (some, (x, y, e, o, (a, b, h, each, close)))

  set_from : (v : SetTree) (ms : Word) → IsSetTree levels v ms → Seq (OpensAt levels sign.OpenBrace) SetRest v ms
  set_from v ms (some, (x, y, e, o, (a, b, h, each, close))) = (v.pos, x, y, e, o, (v.selections, refl, (a, b, h, (some, each), close)))

selections_reads : (n : ℕ) (selection : Reader SelectionTree) → Reads selection (IsSelection n) AfterSelection → Reads (ended (some (other_than sign.CloseBrace) selection) (take_sign sign.CloseBrace)) (IsInBraces (Each (IsSelection n))) Always
selections_reads n selection reads =
    ended_reads (some (other_than sign.CloseBrace) selection) (EachOfSome (other_than sign.CloseBrace) selection (IsSelection n)) (take_sign sign.CloseBrace) (SignAt sign.CloseBrace) (NextIs sign.CloseBrace) Always
    (some_reads (other_than sign.CloseBrace) selection (IsSelection n) AfterSelection (NextIs sign.CloseBrace) reads
    (before_selection n (λ ts. begins (other_than sign.CloseBrace) ts ≡ true) (λ rest. none_is sign.Spread sign.CloseBrace rest refl) (name_is_other sign.CloseBrace))
    (before_selection n AfterSelection (λ rest. never_next (sign.OpenBrace ∷ sign.At ∷ sign.OpenParen ∷ sign.Colon ∷ []) sign.Spread rest (refl, (refl, (refl, (refl, tt))))) (never_name (sign.OpenBrace ∷ sign.At ∷ sign.OpenParen ∷ sign.Colon ∷ [])))
    (λ rest. never_next (sign.OpenBrace ∷ sign.At ∷ sign.OpenParen ∷ sign.Colon ∷ []) sign.CloseBrace rest (refl, (refl, (refl, (refl, tt))))) (other_is sign.CloseBrace))
    (sign_reads sign.CloseBrace) (sign_next sign.CloseBrace Always)

some_set : (pos : Pos) → SomeWord (SetRest 0 pos)
some_set pos =
    let dots : Word = plain (record { lexeme = lexeme.Punctuator sign.Spread; pos = start }) ∷ [] in
    let name : Word = plain (record { lexeme = lexeme.Name []; pos = start }) ∷ [] in
    let close : Word = plain (record { lexeme = lexeme.Punctuator sign.CloseBrace; pos = start }) ∷ [] in
    let spread : SelectionTree = Spread start (record { pos = start; node = [] }) [] in
    let other : [] ≢ codes "on" = λ e. cc e in
    let written : IsSelection 0 spread (dots ++ name) = (dots, name, refl, refl, (name, [], refl, (other, refl), refl)) in
    (tree pos (spread ∷ []), (dots ++ name) ++ close, (spread ∷ [], refl, (dots ++ name, close, refl, (tt, (dots ++ name, [], refl, written, refl)), (start, refl))))

pub set_reads : (levels : ℕ) → Reads (set_at levels) (IsSetTree levels) Always
unfolding set_at
set_reads zero =
    convert (too_deep (is_sign sign.OpenBrace)) (Seq (OpensAt 0 sign.OpenBrace) (SetRest 0)) (IsSetTree 0) Always Always (deep_reads sign.OpenBrace (SetRest 0) some_set) (set_to 0) (set_from 0) (λ rest g. g)
set_reads (suc n) =
    convert (set_by (selection_by (set_at n))) (Seq (OpensAt (suc n) sign.OpenBrace) (SetRest (suc n))) (IsSetTree (suc n)) Always Always
    (seq (take_sign sign.OpenBrace) (SignAt sign.OpenBrace) (λ pos. mapped (tree pos) (ended (some (other_than sign.CloseBrace) (selection_by (set_at n))) (take_sign sign.CloseBrace))) (SetRest (suc n)) Always Always (sign_reads sign.OpenBrace)
    (λ pos. mapped_reads (tree pos) (ended (some (other_than sign.CloseBrace) (selection_by (set_at n))) (take_sign sign.CloseBrace)) (IsInBraces (Each (IsSelection n))) Always (selections_reads n (selection_by (set_at n)) (selection_reads n (set_at n) (set_reads n))))
    (λ a v y rest q g. tt))
    (set_to (suc n)) (set_from (suc n)) (λ rest g. g)

pub selection_at_reads : (levels : ℕ) → Reads (selection_at levels) (IsSelection levels) AfterSelection
unfolding selection_at
selection_at_reads levels = selection_reads levels (set_at levels) (set_reads levels)

pub selection_starts : (levels : ℕ) → Starts (other_than sign.CloseBrace) (IsSelection levels)
selection_starts levels = before_selection levels (λ ts. begins (other_than sign.CloseBrace) ts ≡ true) (λ rest. none_is sign.Spread sign.CloseBrace rest refl) (name_is_other sign.CloseBrace)
