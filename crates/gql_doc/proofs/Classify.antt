-- A reader of texts settles tokens: it answers the tree that they spell, or their first fault, and nothing else fits.
use Rattle.std.proofs.Common.{◌≡◌, Bool, true, false, cond, [], ◌∷◌, ◌++◌, length, get_or, ◌⊎◌, inl, inr, IfOk, Result, Ok, Err, refl, sym, ap, ◌∙◌, subst, append_assoc, append-nil, length-append, arith}
use mathlib.Core.List.{tail-eq_of_cons-eq}
use Rattle.gql_base.specs.declared.pos.Pos.{Pos}
use Rattle.gql_tokens.specs.declared.token.Token.{Token}
use Rattle.gql_tokens.specs.Token.{is_final}
use Rattle.gql_tokens.specs.declared.token.Lexeme.{Lexeme}
use Rattle.gql_tokens.specs.declared.token.Lexeme.TheVariants as lexeme
use Rattle.gql_doc.specs.declared.trouble.Trouble.{Trouble}
use Rattle.gql_doc.specs.declared.trouble.Trouble.TheVariants.{Unexpected, TooDeep}
use Rattle.gql_doc.specs.declared.fault.ParseKind.{ParseKind}
use Rattle.gql_doc.specs.declared.fault.ParseKind.TheVariants as kind
use Rattle.gql_doc.specs.declared.fault.ParseFault.{ParseFault}
use Rattle.gql_tokens.specs.Lexer.{EndFinally, EndFinallyFrom}
use Rattle.gql_doc.specs.Words.{Tokens, Word, Language, tokens_of, NoneDeep, plain}
use Rattle.gql_doc.specs.Spelling.{Spells, Begins, OpensTooDeep, kind_of, IsWrong, IsFault, Settles}
use Rattle.gql_doc.specs.Readers.{Reading, Reader, place_of}
use Rattle.gql_doc.specs.Reading.{kind_at, parsed, parsed_by}
use Rattle.gql_doc.proofs.ReaderLaws.{Explains, Ends, EndsBehind, deep_token, tokens_of-append, outcome, outcome-none_deep, outcome-deep}
use Rattle.gql_doc.proofs.TextLaws.{ReadsText}

-- Lists of tokens.

ends_behind : (t : Token) (ts : Tokens) → EndFinallyFrom t ts → EndsBehind t ts
ends_behind t [] final = final
ends_behind t (u ∷ us) (other, more) = ends_behind u us more

pub are_end : (ts : Tokens) → EndFinally ts → Ends ts
are_end [] none = absurd none
are_end (t ∷ ts) more = ends_behind t ts more

-- nothing stands after a final token
pub final_last : (front : Tokens) (t : Token) (rest : Tokens) → EndFinally (front ++ t ∷ rest) → is_final t.lexeme ≡ true → rest ≡ []
final_last [] t [] are final = refl
final_last [] t (u ∷ us) (other, more) final = absurd (cc (other, final))
final_last (s ∷ []) t rest (other, more) final = final_last [] t rest more final
final_last (s ∷ u ∷ front) t rest (other, more) final = final_last (u ∷ front) t rest more final

-- Where two lists of tokens are one, which of two places comes first.
abbrev Ordered : Tokens → Token → Tokens → Token → Type 0
Ordered x t c u = ((y : Tokens) × (c ≡ x ++ t ∷ y)) ⊎ ((x ≡ c) × (t ≡ u)) ⊎ ((y : Tokens) × (x ≡ c ++ u ∷ y))

ordered : (x : Tokens) (t : Token) (s : Tokens) (c : Tokens) (u : Token) (r : Tokens) → x ++ t ∷ s ≡ c ++ u ∷ r → Ordered x t c u
ordered [] t s [] u r e = inr (inl (refl, ap (λ l. get_or l 0 t) e))
ordered [] t s (v ∷ c) u r e = inl (c, ap (λ w. w ∷ c) (sym (ap (λ l. get_or l 0 t) e)))
ordered (v ∷ x) t s [] u r e = inr (inr (x, ap (λ w. w ∷ x) (ap (λ l. get_or l 0 v) e)))
ordered (v ∷ x) t s (w ∷ c) u r e =
    longer (ap (λ l. get_or l 0 v) e) (ordered x t s c u r (tail-eq_of_cons-eq e))
  where
    longer : v ≡ w → Ordered x t c u → Ordered (v ∷ x) t (w ∷ c) u
    longer h (inl (y, k)) = inl (y, λ i. sym h i ∷ k i)
    longer h (inr (inl (k, l))) = inr (inl ((λ i. h i ∷ k i), l))
    longer h (inr (inr (y, k))) = inr (inr (y, λ i. h i ∷ k i))

not_deep : {A : Type 0} → (b : Bool) (w left : Tokens) (reading : Reading A) → cond b (Err TooDeep, w) reading ≡ (Err Unexpected, left) → reading ≡ (Err Unexpected, left)
not_deep true w left reading e = absurd (cc (ap (λ r. r.0) e))
not_deep false w left reading e = e

never_unexpected : {A : Type 0} → (v : A) (ms : Word) (rest left : Tokens) → outcome v ms rest ≡ (Err Unexpected, left) → ⊥
never_unexpected v [] rest left e = cc (ap (λ r. r.0) e)
never_unexpected v (m ∷ ms) rest left e =
    never_unexpected v ms rest left (not_deep m.deep (m.token ∷ (tokens_of ms ++ rest)) left (outcome v ms rest) e)

wrong_here : {A : Type 0} → (D : A → Language) (front : Tokens) (t : Token) → (Begins D (front ++ t ∷ []) → ⊥) → (l : Lexeme) → t.lexeme ≡ l → IsWrong D front t (kind_of l)
wrong_here D front t none (lexeme.Punctuator found) e = (ap kind_of (sym e), none)
wrong_here D front t none (lexeme.Name text) e = (ap kind_of (sym e), none)
wrong_here D front t none (lexeme.Number number) e = (ap kind_of (sym e), none)
wrong_here D front t none (lexeme.String text) e = (ap kind_of (sym e), none)
wrong_here D front t none lexeme.End e = (ap kind_of (sym e), none)
wrong_here D front t none lexeme.Unexpected e = (ap kind_of (sym e), none)
wrong_here D front t none lexeme.Unsupported e = (ap kind_of (sym e), none)

module _ {A : Type 0} (f : Reader A) (D : A → Language) (reads : ReadsText f D) where
  -- a token that opens too deep is where the reading stops, whatever follows
  deep_here : (x : Tokens) (t : Token) (s : Tokens) → OpensTooDeep D x t → f (x ++ t ∷ s) ≡ (Err TooDeep, t ∷ s)
  deep_here x t s o =
      let w = o.before ++ deep_token t ∷ o.after in
      let same : tokens_of w ++ [] ≡ x ++ t ∷ (tokens_of o.after ++ []) =
      ap (λ ts. ts ++ []) (tokens_of-append o.before (deep_token t ∷ o.after)) ∙ append_assoc (tokens_of o.before) (t ∷ tokens_of o.after) [] ∙ ap (λ ts. ts ++ t ∷ (tokens_of o.after ++ [])) o.same in
      let one : f (tokens_of w ++ []) ≡ (Err TooDeep, t ∷ (tokens_of o.after ++ [])) = reads.complete o.tree w [] o.derived tt ∙ outcome-deep o.tree o.before o.after t [] o.within in
      reads.local x t (tokens_of o.after ++ []) s [] (Err TooDeep) (ap f (sym same) ∙ one)

  -- nothing begins with the tokens up to an unexpected one
  unexpected_here : (c : Tokens) (t : Token) (r : Tokens) → f (c ++ t ∷ r) ≡ (Err Unexpected, t ∷ r) → Begins D (c ++ t ∷ []) → ⊥
  unexpected_here c t r e b =
      let same : tokens_of b.word ++ [] ≡ c ++ t ∷ (b.more ++ []) =
      ap (λ ts. ts ++ []) b.same ∙ append_assoc (c ++ t ∷ []) b.more [] ∙ append_assoc c (t ∷ []) (b.more ++ []) in
      never_unexpected b.tree b.word [] (t ∷ (b.more ++ [])) (sym (reads.complete b.tree b.word [] b.derived tt) ∙ ap f same ∙ reads.local c t r (b.more ++ []) [] (Err Unexpected) e)

  -- where the reading stops, nothing before opens too deep
  shallow_before : (tokens c : Tokens) (t : Token) (r : Tokens) (trouble : Trouble) → f tokens ≡ (Err trouble, t ∷ r) → tokens ≡ c ++ t ∷ r → (x : Tokens) (u : Token) (y : Tokens) → c ≡ x ++ u ∷ y → OpensTooDeep D x u → ⊥
  shallow_before tokens c t r trouble e here x u y k o =
      let same : tokens ≡ x ++ u ∷ (y ++ t ∷ r) = here ∙ ap (λ ts. ts ++ t ∷ r) k ∙ append_assoc x (u ∷ y) (t ∷ r) in
      let two : (Err trouble, t ∷ r) ≡ (Err TooDeep, u ∷ (y ++ t ∷ r)) = sym e ∙ ap f same ∙ deep_here x u (y ++ t ∷ r) o in
      omega (arith, ap (λ reading. length reading.1) two, length-append y (t ∷ r))

  begun_by : (c more : Word) (v : A) → D v (c ++ more) → Begins D (tokens_of c)
  begun_by c more v d = record { tree = v; word = c ++ more; more = tokens_of more; derived = d; same = tokens_of-append c more }

  -- The fault where a reading stops.
  fault_here : (tokens : Tokens) (trouble : Trouble) (t : Token) (r : Tokens) → f tokens ≡ (Err trouble, t ∷ r) → Explains D tokens (Err trouble) (t ∷ r) → IsFault D tokens (record { kind = kind_at trouble (t ∷ r); pos = t.pos })
  fault_here tokens Unexpected t r e (c, same, n, v, more, d) = record {
    front = tokens_of c;
    token = t;
    rest = r;
    here = same;
    place = refl;
    wrong = wrong_here D (tokens_of c) t (unexpected_here (tokens_of c) t r (ap f (sym same) ∙ e)) t.lexeme refl;
    begun = begun_by c more v d;
    shallow = shallow_before tokens (tokens_of c) t r Unexpected e same;
  }
  fault_here tokens TooDeep t r e (c, u, s, k, same, n, v, more, d) =
      let h : u ≡ t = ap (λ l. get_or l 0 u) (sym k) in
      record {
        front = tokens_of c;
        token = t;
        rest = r;
        here = same;
        place = refl;
        wrong = subst (OpensTooDeep D (tokens_of c)) h (record { tree = v; before = c; after = more; derived = d; same = refl; within = n });
        begun = begun_by c (deep_token u ∷ more) v d;
        shallow = shallow_before tokens (tokens_of c) t r TooDeep e same;
      }

  explained : (tokens : Tokens) (o : Result A Trouble) (rest : Tokens) → f tokens ≡ (o, rest) → Explains D tokens o rest
  explained tokens o rest e = subst (λ reading. Explains D tokens reading.0 reading.1) e (reads.sound tokens)

  fault_of : (tokens : Tokens) (trouble : Trouble) (rest : Tokens) → EndFinally tokens → f tokens ≡ (Err trouble, rest) → IsFault D tokens (record { kind = kind_at trouble rest; pos = place_of rest })
  fault_of tokens trouble [] are e =
      absurd (subst Ends (ap (λ reading. reading.1) e) (reads.stops tokens trouble (are_end tokens are) (ap (λ reading. reading.0) e)))
  fault_of tokens trouble (t ∷ r) are e = fault_here tokens trouble t r e (explained tokens (Err trouble) (t ∷ r) e)

  -- a value has all the tokens for its word
  all_read : (tokens : Tokens) (v : A) (rest : Tokens) → EndFinally tokens → Explains D tokens (Ok v) rest → Spells D tokens v
  all_read tokens v rest are (c, same, n, d) =
      let last = reads.ends v c d in
      let end : Token = record { lexeme = lexeme.End; pos = last.1 } in
      let whole : tokens ≡ tokens_of last.0 ++ end ∷ rest = same ∙ ap (λ w. tokens_of w ++ rest) last.2 ∙ ap (λ ts. ts ++ rest) (tokens_of-append last.0 (plain end ∷ [])) ∙ append_assoc (tokens_of last.0) (end ∷ []) rest in
      let none : rest ≡ [] = final_last (tokens_of last.0) end rest (subst EndFinally whole are) refl in
      record { word = c; derived = d; same = sym (same ∙ ap (λ ts. tokens_of c ++ ts) none ∙ append-nil (tokens_of c)); within = n }

  settled_at : (tokens : Tokens) → EndFinally tokens → (o : Result A Trouble) (rest : Tokens) → f tokens ≡ (o, rest) → Settles D tokens (parsed o rest)
  settled_at tokens are (Ok v) rest e = all_read tokens v rest are (explained tokens (Ok v) rest e)
  settled_at tokens are (Err trouble) rest e = fault_of tokens trouble rest are e

  -- what is answered is the tree that the tokens spell, or their first fault
  pub settled : (tokens : Tokens) → EndFinally tokens → Settles D tokens (parsed_by f tokens)
  settled tokens are = settled_at tokens are (f tokens).0 (f tokens).1 refl

  -- the tree that the tokens spell is answered
  pub spelled : (tokens : Tokens) (v : A) → Spells D tokens v → parsed_by f tokens ≡ Ok v
  spelled tokens v s =
      let one : f tokens ≡ (Ok v, []) = ap f (sym s.same ∙ sym (append-nil (tokens_of s.word))) ∙ reads.complete v s.word [] s.derived tt ∙ outcome-none_deep v s.word [] s.within in
      ap (λ reading. parsed reading.0 reading.1) one

  -- The first fault is answered.

  begins_longer : (front : Tokens) (t : Token) (y tokens : Tokens) → Begins D tokens → tokens ≡ front ++ t ∷ y → Begins D (front ++ t ∷ [])
  begins_longer front t y tokens b e =
      record { tree = b.tree; word = b.word; more = y ++ b.more; derived = b.derived; same = b.same ∙ ap (λ ts. ts ++ b.more) e ∙ append_assoc front (t ∷ y) b.more ∙ sym (append_assoc front (t ∷ []) (y ++ b.more)) }

  -- the fault of an unexpected token is answered, wherever the reading stops
  module _ (front : Tokens) (t : Token) (left : Tokens) (fault : ParseFault) (k : fault.kind ≡ kind_of t.lexeme) (p : fault.pos ≡ t.pos) (none : Begins D (front ++ t ∷ []) → ⊥) (begun : Begins D front) (shallow : (x : Tokens) (u : Token) (y : Tokens) → front ≡ x ++ u ∷ y → OpensTooDeep D x u → ⊥) where
    at_unexpected : (c more : Word) (v : A) (u : Token) (r : Tokens) → D v (c ++ more) → f (tokens_of c ++ u ∷ r) ≡ (Err Unexpected, u ∷ r) → Ordered front t (tokens_of c) u → parsed {A = A} (Err Unexpected) (u ∷ r) ≡ Err fault
    at_unexpected c more v u r d e (inl (y, h)) = absurd (none (begins_longer front t y (tokens_of c) (begun_by c more v d) h))
    at_unexpected c more v u r d e (inr (inl (h, l))) = λ i. Err (record { kind = (ap (λ (w : Token). kind_of w.lexeme) (sym l) ∙ sym k) i; pos = (ap (λ (w : Token). w.pos) (sym l) ∙ sym p) i })
    at_unexpected c more v u r d e (inr (inr (y, h))) =
        absurd (unexpected_here (tokens_of c) u r e (begins_longer (tokens_of c) u y front begun h))

    at_deep : (c more : Word) (v : A) (u : Token) (r : Tokens) → NoneDeep c → D v (c ++ deep_token u ∷ more) → Ordered front t (tokens_of c) u → parsed {A = A} (Err TooDeep) (u ∷ r) ≡ Err fault
    at_deep c more v u r n d (inl (y, h)) = absurd (none (begins_longer front t y (tokens_of c) (begun_by c (deep_token u ∷ more) v d) h))
    at_deep c more v u r n d (inr (inl (h, l))) =
        absurd (none (begins_longer front t (tokens_of more) (tokens_of (c ++ deep_token u ∷ more)) (record { tree = v; word = c ++ deep_token u ∷ more; more = []; derived = d; same = sym (append-nil (tokens_of (c ++ deep_token u ∷ more))) }) (tokens_of-append c (deep_token u ∷ more) ∙ (λ i. sym h i ++ sym l i ∷ tokens_of more))))
    at_deep c more v u r n d (inr (inr (y, h))) = absurd (shallow (tokens_of c) u y h (record { tree = v; before = c; after = more; derived = d; same = refl; within = n }))

    at_value : (tokens : Tokens) (v : A) (rest : Tokens) → tokens ≡ front ++ t ∷ left → EndFinally tokens → Explains D tokens (Ok v) rest → parsed (Ok v) rest ≡ Err fault
    at_value tokens v rest here are x =
        let s = all_read tokens v rest are x in
        absurd (none (record { tree = v; word = s.word; more = left; derived = s.derived; same = s.same ∙ here ∙ sym (append_assoc front (t ∷ []) left) }))

    stopped : (tokens : Tokens) → tokens ≡ front ++ t ∷ left → EndFinally tokens → (o : Result A Trouble) (rest : Tokens) → f tokens ≡ (o, rest) → Explains D tokens o rest → parsed o rest ≡ Err fault
    stopped tokens here are (Ok v) rest e x = at_value tokens v rest here are x
    stopped tokens here are (Err trouble) [] e x =
        absurd (subst Ends (ap (λ reading. reading.1) e) (reads.stops tokens trouble (are_end tokens are) (ap (λ reading. reading.0) e)))
    stopped tokens here are (Err Unexpected) (u ∷ r) e (c, same, n, v, more, d) =
        at_unexpected c more v u r d (ap f (sym same) ∙ e) (ordered front t left (tokens_of c) u r (sym here ∙ same))
    stopped tokens here are (Err TooDeep) (u ∷ r) e (c, w, q, h, same, n, v, more, d) =
        let l : w ≡ u = ap (λ ts. get_or ts 0 w) (sym h) in
        at_deep c more v u r n (subst (λ (z : Token). D v (c ++ deep_token z ∷ more)) l d) (ordered front t left (tokens_of c) u r (sym here ∙ same))

  answered : (tokens : Tokens) → EndFinally tokens → (k : ParseKind) (p : Pos) → IsFault D tokens (record { kind = k; pos = p }) → parsed_by f tokens ≡ Err (record { kind = k; pos = p })
  answered tokens are kind.Nesting p h =
      let one : f tokens ≡ (Err TooDeep, h.token ∷ h.rest) = ap f h.here ∙ deep_here h.front h.token h.rest h.wrong in
      ap (λ reading. parsed reading.0 reading.1) one ∙ (λ i. Err (record { kind = kind.Nesting; pos = sym h.place i }))
  answered tokens are kind.Operations p h = absurd h.wrong
  answered tokens are kind.Doubled p h = absurd h.wrong
  answered tokens are k p h =
      stopped h.front h.token h.rest (record { kind = k; pos = p }) h.wrong.0 h.place h.wrong.1 h.begun h.shallow tokens h.here are (f tokens).0 (f tokens).1 refl (reads.sound tokens)

  -- a fault that is the first of the tokens is answered
  pub first_fault : (tokens : Tokens) (fault : ParseFault) → EndFinally tokens → IsFault D tokens fault → parsed_by f tokens ≡ Err fault
  first_fault tokens fault are h = answered tokens are fault.kind fault.pos h

-- what holds of the one value that a call can give
pub if_ok_is : {X E : Type 0} → (r : Result X E) (x : X) (Q : X → Type 0) → IfOk r (λ y. y ≡ x) → Q x → IfOk r Q
if_ok_is (Ok y) x Q e q = subst Q (sym e) q
if_ok_is (Err error) x Q e q = tt
