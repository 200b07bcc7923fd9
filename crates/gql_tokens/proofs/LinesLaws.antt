-- The lines of a text, and those that a block string keeps.
use Rattle.std.proofs.Common.{◌≡◌, ℕ, ◌+◌, ◌-◌, ◌<◌, ◌≤◌, Bool, true, false, cond, ◌==◌, ◌⊎◌, List, [], ◌∷◌, ◌++◌, length, take, drop, reverse, Some, None, refl, sym, ap, ◌∙◌, inl, inr, arith, append_assoc, length-append, length-drop, take-append-drop, drop-drop, take_all, subst, le_refl, map, get_or}
use Rattle.std.specs.List.{prefix_len, join_with_byte}
use Rattle.std.proofs.lemmas.Bool.Decides.{nat_tests}
use Rattle.std.proofs.lemmas.Bool.{cases_lt}
use Rattle.std.proofs.lemmas.List.{reverse-append, reverse-reverse, take-append-le, take_rest, get_or_append_left, get_or-append_right}
use Rattle.std.proofs.lemmas.Str.{IsCharBoundary-end}
use Rattle.std.specs.Str.{IsCharBoundary}
use Rattle.gql_tokens.specs.Characters.{line_feed, carriage_return, is_line_character, begins}
use Rattle.gql_tokens.specs.Lines.{with_first, lines_of, is_blank_line, without_first_blank, without_last_blank}
use Rattle.gql_tokens.specs.Parts.{IsFirstLine, IsKept}
use Rattle.gql_tokens.proofs.Lists.{head_is, Each, each_same, run_passes, run_stops}

-- a character within a line
pub plain_character : (c : ℕ) (rest : List ℕ) → is_line_character c ≡ true → lines_of (c ∷ rest) ≡ with_first c (lines_of rest)
plain_character c rest h =
    let no_feed : c == line_feed ≡ false = grind (arith, nat_tests) in
    let no_return : c == carriage_return ≡ false = grind (arith, nat_tests) in
    rw (no_feed, no_return) refl

-- the characters of a line stand at the front of the first line
line_front : (line text : List ℕ) (lines : List (List ℕ)) → Each is_line_character line → lines_of text ≡ [] ∷ lines → lines_of (line ++ text) ≡ line ∷ lines
line_front [] text lines h e = e
line_front (c ∷ line) text lines h e = plain_character c (line ++ text) h.0 ∙ ap (with_first c) (line_front line text lines h.1 e)

module _ (text : List ℕ) (n : ℕ) (e : n ≡ prefix_len is_line_character text) (within : n ≤ length text) where
  line_is : Each is_line_character (take n text)
  line_is = each_same is_line_character (ap (λ k. take k text) (sym e)) (run_passes is_line_character text)

  pub line_stops : begins is_line_character (take (length text - n) (drop n text)) ≡ false
  line_stops = ap (begins is_line_character) (take_rest text n ∙ ap (λ k. drop k text) e) ∙ run_stops is_line_character text

  pub first_line_ends : take (length text - n) (drop n text) ≡ [] → IsFirstLine text n None
  first_line_ends ends =
      let none = sym (take_rest text n) ∙ ends in
      (within, ap lines_of (sym (take-append-drop n text)) ∙ line_front (take n text) (drop n text) [] line_is (ap lines_of none))

  pub first_line_more : (m : ℕ) → 0 < m → m ≤ length (take (length text - n) (drop n text))
      → lines_of (take (length text - n) (drop n text)) ≡ [] ∷ lines_of (drop m (take (length text - n) (drop n text)))
      → IsFirstLine text n (Some (n + m))
  first_line_more m some fits is =
      let whole = take_rest text n in
      let more = subst (λ l. lines_of l ≡ [] ∷ lines_of (drop m l)) whole is in (
        within,
        (
          omega arith,
          omega (arith, ap length whole, length-drop n text),
          ap lines_of (sym (take-append-drop n text)) ∙ line_front (take n text) (drop n text) (lines_of (drop m (drop n text))) line_is more
              ∙ ap (λ l. take n text ∷ lines_of l) (drop-drop m n text),
        ),
      )

-- one line more, after blank ones
first_blank-more : (lines : List (List ℕ)) (line : List ℕ) → without_first_blank lines ≡ [] → without_first_blank (lines ++ line ∷ []) ≡ without_first_blank (line ∷ [])
first_blank-more [] line e = refl
first_blank-more (l ∷ lines) line e = go (is_blank_line l) e (first_blank-more lines line)
  where
    go : (b : Bool) → cond b (without_first_blank lines) (l ∷ lines) ≡ []
        → (without_first_blank lines ≡ [] → without_first_blank (lines ++ line ∷ []) ≡ without_first_blank (line ∷ []))
        → cond b (without_first_blank (lines ++ line ∷ [])) (l ∷ lines ++ line ∷ []) ≡ without_first_blank (line ∷ [])
    go true none more = more none
    go false none more = absurd cc

-- one line more, after one that isn't blank
first_kept-more : (lines kept : List (List ℕ)) (first line : List ℕ) → without_first_blank lines ≡ first ∷ kept
    → without_first_blank (lines ++ line ∷ []) ≡ first ∷ kept ++ line ∷ []
first_kept-more [] kept first line e = cc
first_kept-more (l ∷ lines) kept first line e = go (is_blank_line l) e (first_kept-more lines kept first line)
  where
    go : (b : Bool) → cond b (without_first_blank lines) (l ∷ lines) ≡ first ∷ kept
        → (without_first_blank lines ≡ first ∷ kept → without_first_blank (lines ++ line ∷ []) ≡ first ∷ kept ++ line ∷ [])
        → cond b (without_first_blank (lines ++ line ∷ [])) (l ∷ lines ++ line ∷ []) ≡ first ∷ kept ++ line ∷ []
    go true some more = more some
    go false some more = ap (λ ls. ls ++ line ∷ []) some

-- the first line that is kept isn't blank
first_kept : (lines kept : List (List ℕ)) (first : List ℕ) → without_first_blank lines ≡ first ∷ kept → is_blank_line first ≡ false
first_kept [] kept first e = cc
first_kept (l ∷ lines) kept first e = go (is_blank_line l) refl e (first_kept lines kept first)
  where
    go : (b : Bool) → is_blank_line l ≡ b → cond b (without_first_blank lines) (l ∷ lines) ≡ first ∷ kept
        → (without_first_blank lines ≡ first ∷ kept → is_blank_line first ≡ false) → is_blank_line first ≡ false
    go true is some more = more some
    go false is some more = ap is_blank_line (sym (head_is some)) ∙ is

blank_front : (line : List ℕ) (lines : List (List ℕ)) → is_blank_line line ≡ true → without_first_blank (line ∷ lines) ≡ without_first_blank lines
blank_front line lines h = rw h refl

full_front : (line : List ℕ) (lines : List (List ℕ)) → is_blank_line line ≡ false → without_first_blank (line ∷ lines) ≡ line ∷ lines
full_front line lines h = rw h refl

last_blank-more : (lines : List (List ℕ)) (line : List ℕ) → is_blank_line line ≡ true → without_last_blank (lines ++ line ∷ []) ≡ without_last_blank lines
last_blank-more lines line h = ap (λ ls. reverse (without_first_blank ls)) (reverse-append lines (line ∷ [])) ∙ ap reverse (blank_front line (reverse lines) h)

last_kept-more : (lines : List (List ℕ)) (line : List ℕ) → is_blank_line line ≡ false → without_last_blank (lines ++ line ∷ []) ≡ lines ++ line ∷ []
last_kept-more lines line h =
    ap (λ ls. reverse (without_first_blank ls)) (reverse-append lines (line ∷ [])) ∙ ap reverse (full_front line (reverse lines) h)
    ∙ reverse-append (line ∷ []) (reverse lines) ∙ ap (λ ls. ls ++ line ∷ []) (reverse-reverse lines)

join-more : (lines : List (List ℕ)) (first line : List ℕ) → join_with_byte line_feed (first ∷ lines ++ line ∷ []) ≡ join_with_byte line_feed (first ∷ lines) ++ line_feed ∷ line
join-more [] first line = refl
join-more (l ∷ lines) first line =
    ap (λ k. first ++ line_feed ∷ k) (join-more lines l line) ∙ sym (append_assoc first (line_feed ∷ join_with_byte line_feed (l ∷ lines)) (line_feed ∷ line))

-- a line that isn't blank makes a text that isn't empty
join_some : (lines : List (List ℕ)) (first : List ℕ) → is_blank_line first ≡ false → join_with_byte line_feed (first ∷ lines) ≡ [] → ⊥
join_some lines [] h e = let yes : is_blank_line [] ≡ true = refl in cc
join_some [] (c ∷ first) h e = cc
join_some (l ∷ lines) (c ∷ first) h e = cc

-- the lines that are kept, where some are
kept_lines : (lines : List (List ℕ)) → (without_first_blank lines ≡ []) ⊎ ((first : List ℕ) × (kept : List (List ℕ)) × (without_first_blank lines ≡ first ∷ kept))
kept_lines lines = go (without_first_blank lines) refl
  where
    go : (k : List (List ℕ)) → without_first_blank lines ≡ k → (without_first_blank lines ≡ []) ⊎ ((first : List ℕ) × (kept : List (List ℕ)) × (without_first_blank lines ≡ first ∷ kept))
    go [] e = inl e
    go (first ∷ kept) e = inr (first, kept, e)

-- a text that may be cut at a place may be, whatever lines follow it
boundary_more : (text : List ℕ) (n : ℕ) (line : List ℕ) → IsCharBoundary text n → IsCharBoundary (text ++ line_feed ∷ line) n
boundary_more text n line h = (
  omega (arith, h.0, length-append text (line_feed ∷ line)),
  λ within wide. elim (cases_lt n (length text)) [
    | inl less ↦ (
        let same = get_or_append_left text (line_feed ∷ line) 0 n less in
        let old : 128 ≤ get_or text n 0 = omega (arith, same, wide) in
        omega (arith, same, h.1 less old)
        )
    | inr more ↦ (
        let last : length text ≡ n = omega (arith, h.0, more) in
        absurd (omega (arith, wide, get_or-append_right text (line_feed ∷ line) n n 0 last (le_refl n), ap (λ k. get_or (line_feed ∷ line) k 0) (nothing_more n)))
        )
  ],
)
  where
    nothing_more : (k : ℕ) → k - k ≡ 0
    nothing_more k = omega arith

module _ (text : List ℕ) (n : ℕ) (lines : List (List ℕ)) (line : List ℕ) (h : IsKept text n lines) where
  none_kept : text ≡ [] → without_first_blank lines ≡ []
  none_kept e = elim (kept_lines lines) [
    | inl none ↦ none
    | inr some ↦ absurd (join_some some.1 some.0 (first_kept lines some.1 some.0 some.2) (ap (join_with_byte line_feed) (sym some.2) ∙ sym h.text_is ∙ e))
  ]

  some_kept : (text ≡ [] → ⊥) → (first : List ℕ) × (kept : List (List ℕ)) × (without_first_blank lines ≡ first ∷ kept)
  some_kept some = elim (kept_lines lines) [
    | inl none ↦ absurd (some (h.text_is ∙ ap (join_with_byte line_feed) none))
    | inr k ↦ k
  ]

  -- a blank line after none that is kept
  pub kept_none : text ≡ [] → is_blank_line line ≡ true → IsKept text n (lines ++ line ∷ [])
  kept_none e blank =
      let none = none_kept e in
      let same : without_first_blank (lines ++ line ∷ []) ≡ without_first_blank lines =
      first_blank-more lines line none ∙ blank_front line [] blank ∙ sym none in
      record {
        text_is = h.text_is ∙ ap (join_with_byte line_feed) (sym same);
        within = h.within;
        front_is = h.front_is ∙ ap (λ ls. join_with_byte line_feed (without_last_blank ls)) (sym same);
        boundary = h.boundary;
      }

  -- the first line that isn't blank
  pub kept_first : text ≡ [] → is_blank_line line ≡ false → IsKept line (length line) (lines ++ line ∷ [])
  kept_first e some =
      let one : without_first_blank (lines ++ line ∷ []) ≡ line ∷ [] =
      first_blank-more lines line (none_kept e) ∙ full_front line [] some in
      record {
        text_is = ap (join_with_byte line_feed) (sym one);
        within = le_refl (length line);
        front_is =
            take_all (length line) line (le_refl (length line)) ∙ ap (join_with_byte line_feed) (sym (last_kept-more [] line some))
            ∙ ap (λ ls. join_with_byte line_feed (without_last_blank ls)) (sym one);
        boundary = IsCharBoundary-end line;
      }

  longer : (text ≡ [] → ⊥) → text ++ line_feed ∷ line ≡ join_with_byte line_feed (without_first_blank (lines ++ line ∷ []))
  longer some =
      let (first, kept, is) = some_kept some in
      ap (λ t. t ++ line_feed ∷ line) (h.text_is ∙ ap (join_with_byte line_feed) is) ∙ sym (join-more kept first line)
      ∙ ap (join_with_byte line_feed) (sym (first_kept-more lines kept first line is))

  more_kept : (text ≡ [] → ⊥) → without_first_blank (lines ++ line ∷ []) ≡ without_first_blank lines ++ line ∷ []
  more_kept some =
      let (first, kept, is) = some_kept some in
      first_kept-more lines kept first line is ∙ ap (λ ls. ls ++ line ∷ []) (sym is)

  -- a blank line after others
  pub kept_blank : (text ≡ [] → ⊥) → is_blank_line line ≡ true → IsKept (text ++ line_feed ∷ line) n (lines ++ line ∷ [])
  kept_blank some blank = record {
    text_is = longer some;
    within = omega (arith, h.within, length-append text (line_feed ∷ line));
    front_is =
        take-append-le n text (line_feed ∷ line) h.within ∙ h.front_is
        ∙ ap (join_with_byte line_feed) (sym (last_blank-more (without_first_blank lines) line blank) ∙ ap without_last_blank (sym (more_kept some)));
    boundary = boundary_more text n line h.boundary;
  }

  -- a line that isn't blank after others
  pub kept_more : (text ≡ [] → ⊥) → is_blank_line line ≡ false → (m : ℕ) → m ≡ length (text ++ line_feed ∷ line) → IsKept (text ++ line_feed ∷ line) m (lines ++ line ∷ [])
  kept_more some full m e = record {
    text_is = longer some;
    within = omega arith;
    front_is =
        take_all m (text ++ line_feed ∷ line) (omega arith) ∙ longer some
        ∙ ap (join_with_byte line_feed) (more_kept some ∙ sym (last_kept-more (without_first_blank lines) line full) ∙ ap without_last_blank (sym (more_kept some)));
    boundary = subst (IsCharBoundary (text ++ line_feed ∷ line)) (sym e) (IsCharBoundary-end (text ++ line_feed ∷ line));
  }

-- after the first line that is left, the others are
pub others_step : (n start line next : ℕ) (text : List ℕ) (done : List (List ℕ)) → IsFirstLine (drop start text) line (Some next)
    → done ++ map (drop n) (lines_of (drop start text)) ≡ map (drop n) (lines_of text)
    → (done ++ drop n (take line (drop start text)) ∷ []) ++ map (drop n) (lines_of (drop (start + next) text)) ≡ map (drop n) (lines_of text)
others_step n start line next text done first h =
    let piece = take line (drop start text) in
    let lines = first.1.2 ∙ ap (λ l. piece ∷ lines_of l) (drop-drop next start text) in
    append_assoc done (drop n piece ∷ []) (map (drop n) (lines_of (drop (start + next) text))) ∙ ap (λ ls. done ++ map (drop n) ls) (sym lines) ∙ h

-- where it is the last, no other is
pub others_end : (n start line : ℕ) (text : List ℕ) (done : List (List ℕ)) → IsFirstLine (drop start text) line None
    → done ++ map (drop n) (lines_of (drop start text)) ≡ map (drop n) (lines_of text)
    → done ++ drop n (take line (drop start text)) ∷ [] ≡ map (drop n) (lines_of text)
others_end n start line text done first h = ap (λ ls. done ++ map (drop n) ls) (sym first.1) ∙ h

pub nothing_kept : (text : List ℕ) → text ≡ [] → IsKept text 0 []
nothing_kept text e = record { text_is = e; within = omega arith; front_is = refl; boundary = (omega arith, λ within wide. absurd (omega (arith, ap length e))) }
