-- The readers at a number of levels, and at a token that may be there, step by step as the code goes.
use Rattle.std.proofs.Common.{◌≡◌, ℕ, zero, suc, Bool, true, false, [], Option, Some, None, Result, Ok, Err, refl, ap, ◌∙◌}
use Rattle.std.specs.Prelude.{codes}
use Rattle.gql_base.specs.declared.pos.Pos.{Pos}
use Rattle.gql_base.specs.declared.type_ref.TypeRef as type
use Rattle.gql_base.specs.declared.type_ref.TypeRef.{TypeRef}
use Rattle.gql_tokens.specs.declared.token.Punctuator.{Punctuator}
use Rattle.gql_tokens.specs.declared.token.Punctuator.TheVariants as sign
use Rattle.gql_doc.specs.declared.cursor.Opened.{Opened}
use Rattle.gql_doc.specs.declared.document.DocValue.{DocValue}
use Rattle.gql_doc.specs.declared.draft.Draft.{Draft}
use Rattle.gql_doc.specs.declared.tree.Variables.{Variables}
use Rattle.gql_doc.specs.declared.trouble.Trouble.{Trouble}
use Rattle.gql_doc.specs.declared.trouble.Trouble.TheVariants.{Unexpected, TooDeep}
use Rattle.gql_doc.specs.Words.{Tokens}
use Rattle.gql_doc.specs.Building.{set_of}
use Rattle.gql_doc.specs.Drafts.{plain}
use Rattle.gql_doc.specs.Drafting.{taken_if, opened, open_at, if_open, opening, behind, stopped, plain_value, list_by, object_by, value_draft, values_draft, list_draft, member_draft, members_draft, object_draft, list_type_behind, inner_at, set_behind, set_draft, set_or_none_draft, selections_draft, selection_by, behind_brace, selection_draft, field_draft, spread_draft, inline_behind}
use Rattle.gql_doc.specs.Readers.{Reader, begins, behind_first, choose, branch, gives, go_on, mapped, optional, past, too_deep, ◌then◌}
use Rattle.gql_doc.specs.Reading.{is_sign, is_word, take_sign, take_word, take_name, type_at, bare_type_by, list_type_at, null_or_not, head, condition}
use Rattle.gql_doc.proofs.CursorLaws.{sign_taken, word_taken}

-- A bracket that may be next.

module _ {A : Type 0} (mark : Punctuator) (inner : Opened → Reader A) (other : Reader A) where
  none_behind : (b : Bool) (tokens : Tokens) → choose b (behind None) other tokens
      ≡ (choose b (opened zero) (gives None) then (λ here. if_open here inner other)) tokens
  none_behind true tokens = refl
  none_behind false tokens = refl

  one_behind : (n : ℕ) (f : Pos → Reader A) → ((pos : Pos) (tokens : Tokens) → f pos tokens ≡ inner (record { pos = pos; levels = n }) tokens) → (b : Bool) (tokens : Tokens)
      → choose b (behind (Some f)) other tokens ≡ (choose b (opened (suc n)) (gives None) then (λ here. if_open here inner other)) tokens
  one_behind n f same true tokens = same _ _
  one_behind n f same false tokens = refl

  pub opens_none : (tokens : Tokens) → opening mark None other tokens ≡ (open_at mark zero then (λ here. if_open here inner other)) tokens
  unfolding open_at
  opens_none tokens = none_behind (begins (is_sign mark) tokens) tokens

  pub opens_one : (n : ℕ) (f : Pos → Reader A) → ((pos : Pos) (tokens : Tokens) → f pos tokens ≡ inner (record { pos = pos; levels = n }) tokens) → (tokens : Tokens)
      → opening mark (Some f) other tokens ≡ (open_at mark (suc n) then (λ here. if_open here inner other)) tokens
  unfolding open_at
  opens_one n f same tokens = one_behind n f same (begins (is_sign mark) tokens) tokens

-- the same with another reader where no bracket is
other_of : {A : Type 0} → (mark : Punctuator) (inner : Option (Pos → Reader A)) (f g : Reader A) → ((tokens : Tokens) → f tokens ≡ g tokens) → (tokens : Tokens)
    → opening mark inner f tokens ≡ opening mark inner g tokens
other_of {A} mark inner f g same tokens = go (begins (is_sign mark) tokens)
  where
    go : (b : Bool) → choose b (behind inner) f tokens ≡ choose b (behind inner) g tokens
    go true = refl
    go false = same tokens

-- Values.

module _ (variables : Variables) where
  abbrev ValueReader : Type 0
  ValueReader = Reader (Draft DocValue)

  abbrev no_bracket : ValueReader
  no_bracket = mapped plain (plain_value variables)

  abbrev list_inner : Opened → ValueReader
  list_inner here = list_draft variables here.levels

  abbrev object_inner : Opened → ValueReader
  object_inner here = object_draft variables here.levels

  abbrev no_list : ℕ → ValueReader
  no_list levels = open_at sign.OpenBrace levels then (λ object. if_open object object_inner no_bracket)

  pub value_step : (levels : ℕ) (tokens : Tokens) → value_draft variables levels tokens
      ≡ (open_at sign.OpenBracket levels
      then (λ list. if_open list (λ here. list_draft variables here.levels)
      (open_at sign.OpenBrace levels
      then (λ object. if_open object (λ here. object_draft variables here.levels) (mapped plain (plain_value variables)))))) tokens
  unfolding value_draft values_draft list_draft member_draft members_draft object_draft
  value_step zero tokens =
      other_of sign.OpenBracket None (opening sign.OpenBrace None no_bracket) (no_list zero) (opens_none sign.OpenBrace object_inner no_bracket) tokens
      ∙ opens_none sign.OpenBracket list_inner (no_list zero) tokens
  value_step (suc n) tokens =
      other_of sign.OpenBracket (Some (λ _. list_by (value_draft variables n))) (opening sign.OpenBrace (Some (λ _. object_by (value_draft variables n))) no_bracket) (no_list (suc n))
      (opens_one sign.OpenBrace object_inner no_bracket n (λ _. object_by (value_draft variables n)) (λ pos ts. refl)) tokens
      ∙ opens_one sign.OpenBracket list_inner (no_list (suc n)) n (λ _. list_by (value_draft variables n)) (λ pos ts. refl) tokens

-- Types.

pub type_step : (levels : ℕ) (tokens : Tokens) → type_at levels tokens ≡ (bare_type_by (list_type_at levels) then null_or_not) tokens
unfolding type_at list_type_at
type_step zero tokens = refl
type_step (suc n) tokens = refl

-- One reader after another, where the second is the same.
pub then_same : {A B : Type 0} → (f : Reader A) (g h : A → Reader B) → ((a : A) (rest : Tokens) → g a rest ≡ h a rest) → (tokens : Tokens) → (f then g) tokens ≡ (f then h) tokens
then_same {A} {B} f g h same tokens = go (f tokens).0 (f tokens).1
  where
    go : (o : Result A Trouble) (rest : Tokens) → go_on o rest g ≡ go_on o rest h
    go (Ok a) rest = same a rest
    go (Err trouble) rest = refl

-- A sign that may be next.

module _ {A : Type 0} (mark : Punctuator) where
  pub then_behind : (f : Pos → Reader A) (other : Reader A) (b : Bool) (tokens : Tokens) → begins (is_sign mark) tokens ≡ b
      → choose b (take_sign mark then f) other tokens ≡ choose b (behind (Some f)) other tokens
  then_behind f other true tokens e = ap (λ reading. go_on reading.0 reading.1 f) (sign_taken mark tokens e)
  then_behind f other false tokens e = refl

  pub deep_behind : (other : Reader A) (b : Bool) (tokens : Tokens) → begins (is_sign mark) tokens ≡ b
      → choose b (too_deep (is_sign mark)) other tokens ≡ choose b (behind None) other tokens
  deep_behind other true tokens e = ap (λ c. choose c (λ here. (Err TooDeep, here)) (λ here. (Err Unexpected, here)) tokens) e
  deep_behind other false tokens e = refl

  taken_or_not : (f g : Reader A) (b : Bool) (tokens : Tokens) → begins (is_sign mark) tokens ≡ b
      → choose b (past (take_sign mark) f) g tokens ≡ (choose b (λ here. (Ok true, behind_first here)) (λ here. (Ok false, here)) then (λ taken. choose taken f g)) tokens
  taken_or_not f g true tokens e = ap (λ reading. go_on reading.0 reading.1 (λ _. f)) (sign_taken mark tokens e)
  taken_or_not f g false tokens e = refl

  pub sign_or_not : (f g : Reader A) (tokens : Tokens) → branch (is_sign mark) (past (take_sign mark) f) g tokens ≡ (taken_if (is_sign mark) then (λ taken. choose taken f g)) tokens
  unfolding taken_if
  sign_or_not f g tokens = taken_or_not f g (begins (is_sign mark) tokens) tokens refl

pub bang_step : (bare : TypeRef) (tokens : Tokens) → null_or_not bare tokens ≡ (taken_if (is_sign sign.Bang) then (λ taken. choose taken (gives (type.NonNull bare)) (gives bare))) tokens
bang_step bare tokens = sign_or_not sign.Bang (gives (type.NonNull bare)) (gives bare) tokens

pub bare_type_step : (levels : ℕ) (tokens : Tokens) → bare_type_by (list_type_at levels) tokens
    ≡ (open_at sign.OpenBracket levels then (λ list. if_open list (λ here. list_type_behind (type_at here.levels)) (mapped (λ name. type.Named name.node) take_name))) tokens
unfolding list_type_at
bare_type_step zero tokens =
    deep_behind sign.OpenBracket (mapped (λ name. type.Named name.node) take_name) (begins (is_sign sign.OpenBracket) tokens) tokens refl
    ∙ opens_none sign.OpenBracket (λ here. list_type_behind (type_at here.levels)) (mapped (λ name. type.Named name.node) take_name) tokens
bare_type_step (suc n) tokens =
    then_behind sign.OpenBracket (λ _. list_type_behind (type_at n)) (mapped (λ name. type.Named name.node) take_name) (begins (is_sign sign.OpenBracket) tokens) tokens refl
    ∙ opens_one sign.OpenBracket (λ here. list_type_behind (type_at here.levels)) (mapped (λ name. type.Named name.node) take_name) n (λ _. list_type_behind (type_at n)) (λ pos ts. refl) tokens

-- Selections.

pub head_step : (tokens : Tokens) → head tokens
    ≡ (take_name then (λ first. taken_if (is_sign sign.Colon) then (λ taken. choose taken (mapped (λ name. (Some first, name)) take_name) (gives (None, first))))) tokens
unfolding head
head_step tokens =
    then_same take_name (λ first. branch (is_sign sign.Colon) (past (take_sign sign.Colon) (mapped (λ name. (Some first, name)) take_name)) (gives (None, first)))
    (λ first. taken_if (is_sign sign.Colon) then (λ taken. choose taken (mapped (λ name. (Some first, name)) take_name) (gives (None, first))))
    (λ first rest. sign_or_not sign.Colon (mapped (λ name. (Some first, name)) take_name) (gives (None, first)) rest) tokens

pub condition_step : (tokens : Tokens) → optional (is_word (codes "on")) condition tokens
    ≡ (taken_if (is_word (codes "on")) then (λ taken. choose taken (mapped Some take_name) (gives None))) tokens
unfolding taken_if condition
condition_step tokens = go (begins (is_word (codes "on")) tokens) refl
  where
    go : (b : Bool) → begins (is_word (codes "on")) tokens ≡ b → choose b (mapped Some (past (take_word (codes "on")) take_name)) (gives None) tokens
        ≡ (choose b (λ here. (Ok true, behind_first here)) (λ here. (Ok false, here)) then (λ taken. choose taken (mapped Some take_name) (gives None))) tokens
    go true e = ap (λ reading. go_on (go_on reading.0 reading.1 (λ _. take_name)).0 (go_on reading.0 reading.1 (λ _. take_name)).1 (λ name. gives (Some name))) (word_taken (codes "on") tokens e)
    go false e = refl

pub set_step : (levels : ℕ) (tokens : Tokens) → set_draft levels tokens
    ≡ (open_at sign.OpenBrace levels then (λ set. if_open set (λ here. set_behind here.levels here.pos) (stopped Unexpected))) tokens
unfolding set_draft inner_at set_behind selections_draft selection_draft spread_draft inline_behind field_draft set_or_none_draft
set_step zero tokens = opens_none sign.OpenBrace (λ here. set_behind here.levels here.pos) (stopped Unexpected) tokens
set_step (suc n) tokens =
    opens_one sign.OpenBrace (λ here. set_behind here.levels here.pos) (stopped Unexpected) n (behind_brace (selection_by (inner_at n))) (λ pos ts. refl) tokens

pub set_or_none_step : (levels : ℕ) (field : Pos) (tokens : Tokens) → set_or_none_draft levels field tokens
    ≡ (open_at sign.OpenBrace levels then (λ set. if_open set (λ here. set_behind here.levels here.pos) (gives (plain (set_of field []))))) tokens
unfolding set_draft inner_at set_behind selections_draft selection_draft spread_draft inline_behind field_draft set_or_none_draft
set_or_none_step zero field tokens = opens_none sign.OpenBrace (λ here. set_behind here.levels here.pos) (gives (plain (set_of field []))) tokens
set_or_none_step (suc n) field tokens =
    opens_one sign.OpenBrace (λ here. set_behind here.levels here.pos) (gives (plain (set_of field []))) n (behind_brace (selection_by (inner_at n))) (λ pos ts. refl) tokens
