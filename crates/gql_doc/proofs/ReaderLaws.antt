-- The laws of a reader of a language, as one bundle, and their closure under sequence, choice and repetition.
use Rattle.std.proofs.Common.{◌≡◌, ℕ, zero, suc, ◌+◌, ◌≤◌, ◌<◌, Bool, true, false, cond, List, [], ◌∷◌, ◌++◌, length, Option, Some, None, Result, Ok, Err, ◌⊎◌, inl, inr, refl, sym, ap, ◌∙◌, subst, ⊎_elim, append_assoc, append-nil, length-append, arith}
use Rattle.std.proofs.lemmas.List.{append_cancel_right}
use Rattle.gql_base.specs.declared.pos.Pos.{Pos}
use Rattle.gql_tokens.specs.declared.token.Token.{Token}
use Rattle.gql_tokens.specs.Token.{is_final}
use Rattle.gql_doc.specs.declared.trouble.Trouble.{Trouble}
use Rattle.gql_doc.specs.declared.trouble.Trouble.TheVariants.{Unexpected, TooDeep}
use Rattle.gql_doc.specs.Words.{Tokens, Marked, Word, Language, tokens_of, NoneDeep, FirstAt, plain, ◌▸◌, Each, Maybe, Nothing}
use Rattle.gql_doc.specs.Grammar.{IsNonEmpty}
use Rattle.gql_doc.specs.Readers.{Reading, Reader, go_on, ◌then◌, gives, mapped, past, ended, begins, picked, take_one, choose, branch, many_at, many, some, optional, place_of, placed, too_deep}

abbrev pub deep_token : Token → Marked
deep_token token = record { token = token; deep = true }

-- The tokens up to the rest are the front of a word, in which nothing is too deep; a value has them for its word, an
-- unexpected token stands after them, and a token that opens too deep goes on in a word.
abbrev pub Explains : {A : Type 0} → (A → Language) → Tokens → Result A Trouble → Tokens → Type 0
Explains D tokens (Ok v) rest = (c : Word) × (tokens ≡ tokens_of c ++ rest) × NoneDeep c × D v c
Explains {A} D tokens (Err Unexpected) rest =
    (c : Word) × (tokens ≡ tokens_of c ++ rest) × NoneDeep c × (v : A) × (more : Word) × D v (c ++ more)
Explains {A} D tokens (Err TooDeep) rest =
    (c : Word) × (t : Token) × (r : Tokens) × (rest ≡ t ∷ r) × (tokens ≡ tokens_of c ++ rest) × NoneDeep c × (v : A) × (more : Word) × D v (c ++ deep_token t ∷ more)

-- what is read is in the language
abbrev pub Sound : {A : Type 0} → Reader A → (A → Language) → Type 0
Sound f D = (tokens : Tokens) → Explains D tokens (f tokens).0 (f tokens).1

-- the reading of a word: its value, or the first token that opens too deep
abbrev pub outcome : {A : Type 0} → A → Word → Tokens → Reading A
outcome v [] rest = (Ok v, rest)
outcome v (m ∷ ms) rest = cond m.deep (Err TooDeep, m.token ∷ (tokens_of ms ++ rest)) (outcome v ms rest)

-- what is in the language is read, where what follows it doesn't go on with it
abbrev pub Complete : {A : Type 0} → Reader A → (A → Language) → (Tokens → Type 0) → Type 0
Complete {A} f D F = (v : A) (ms : Word) (rest : Tokens) → D v ms → F rest → f (tokens_of ms ++ rest) ≡ outcome v ms rest

-- what stands behind the token of sight doesn't count
abbrev pub Local : {A : Type 0} → Reader A → Type 0
Local {A} f = (x : Tokens) (t : Token) (r s d : Tokens) (o : Result A Trouble) → f (x ++ t ∷ r) ≡ (o, d ++ t ∷ r) → f (x ++ t ∷ s) ≡ (o, d ++ t ∷ s)

abbrev pub EndsBehind : Token → Tokens → Type 0
EndsBehind t [] = is_final t.lexeme ≡ true
EndsBehind t (u ∷ us) = EndsBehind u us

-- the last token is a final one
abbrev pub Ends : Tokens → Type 0
Ends [] = ⊥
Ends (t ∷ ts) = EndsBehind t ts

-- a final token is never taken
abbrev pub Live : {A : Type 0} → Reader A → Type 0
Live f = (tokens : Tokens) → Ends tokens → Ends (f tokens).1

pub record Reads {A : Type 0} (f : Reader A) (D : A → Language) (F : Tokens → Type 0) : Type 0 where
  pub sound : Sound f D
  pub complete : Complete f D F
  pub local : Local f
  pub live : Live f

abbrev pub Always : Tokens → Type 0
Always rest = Unit {0}

-- Words.

pub tokens_of-append : (c d : Word) → tokens_of (c ++ d) ≡ tokens_of c ++ tokens_of d
tokens_of-append [] d = refl
tokens_of-append (m ∷ c) d = ap (λ ts. m.token ∷ ts) (tokens_of-append c d)

pub NoneDeep-append : (c d : Word) → NoneDeep c → NoneDeep d → NoneDeep (c ++ d)
NoneDeep-append [] d n k = k
NoneDeep-append (m ∷ c) d n k = (n.0, NoneDeep-append c d n.1 k)

pub outcome-none_deep : {A : Type 0} → (v : A) (ms : Word) (rest : Tokens) → NoneDeep ms → outcome v ms rest ≡ (Ok v, rest)
outcome-none_deep v [] rest n = refl
outcome-none_deep {A} v (m ∷ ms) rest n =
    let e : outcome v (m ∷ ms) rest ≡ outcome v ms rest = ap (λ b. cond b (Err TooDeep, m.token ∷ (tokens_of ms ++ rest)) (outcome v ms rest)) n.0 in
    e ∙ outcome-none_deep v ms rest n.1

pub outcome-deep : {A : Type 0} → (v : A) (before after : Word) (t : Token) (rest : Tokens) → NoneDeep before → outcome v (before ++ deep_token t ∷ after) rest ≡ (Err TooDeep, t ∷ (tokens_of after ++ rest))
outcome-deep v [] after t rest n = refl
outcome-deep v (m ∷ before) after t rest n =
    let e : outcome v (m ∷ (before ++ deep_token t ∷ after)) rest ≡ outcome v (before ++ deep_token t ∷ after) rest = ap (λ b. cond b (Err TooDeep, m.token ∷ (tokens_of (before ++ deep_token t ∷ after) ++ rest)) (outcome v (before ++ deep_token t ∷ after) rest)) n.0 in
    e ∙ outcome-deep v before after t rest n.1

-- Explanations.

pub Explains-map : {A : Type 0} → (D E : A → Language) → ((v : A) (ms : Word) → D v ms → E v ms) → (tokens : Tokens) (o : Result A Trouble) (rest : Tokens) → Explains D tokens o rest → Explains E tokens o rest
Explains-map D E h tokens (Ok v) rest (c, e, n, d) = (c, e, n, h v c d)
Explains-map D E h tokens (Err Unexpected) rest (c, e, n, v, more, d) = (c, e, n, v, more, h v _ d)
Explains-map D E h tokens (Err TooDeep) rest (c, t, r, l, e, n, v, more, d) = (c, t, r, l, e, n, v, more, h v _ d)

-- some word of a language
abbrev pub SomeWord : {A : Type 0} → (A → Language) → Type 0
SomeWord {A} D = (v : A) × (ms : Word) × D v ms

pub word_of : {A : Type 0} → (D : A → Language) (tokens : Tokens) (o : Result A Trouble) (rest : Tokens) → Explains D tokens o rest → SomeWord D
word_of D tokens (Ok v) rest (c, e, n, d) = (v, c, d)
word_of D tokens (Err Unexpected) rest (c, e, n, v, more, d) = (v, c ++ more, d)
word_of D tokens (Err TooDeep) rest (c, t, r, l, e, n, v, more, d) = (v, c ++ deep_token t ∷ more, d)

pub some_word : {A : Type 0} → (f : Reader A) (D : A → Language) → Sound f D → SomeWord D
some_word f D sound = word_of D [] (f []).0 (f []).1 (sound [])

-- the rest is a tail of the tokens
pub tail_of : {A : Type 0} → (D : A → Language) (tokens : Tokens) (o : Result A Trouble) (rest : Tokens) → Explains D tokens o rest → (c : Tokens) × (tokens ≡ c ++ rest)
tail_of D tokens (Ok v) rest (c, e, n, d) = (tokens_of c, e)
tail_of D tokens (Err Unexpected) rest (c, e, n, v, more, d) = (tokens_of c, e)
tail_of D tokens (Err TooDeep) rest (c, t, r, l, e, n, v, more, d) = (tokens_of c, e)

-- Conversion: another language of the same words, and a stronger demand on what follows.

pub convert : {A : Type 0} → (f : Reader A) (D E : A → Language) (F G : Tokens → Type 0) → Reads f D F → ((v : A) (ms : Word) → D v ms → E v ms) → ((v : A) (ms : Word) → E v ms → D v ms) → ((rest : Tokens) → G rest → F rest) → Reads f E G
convert f D E F G reads to from weaker = record {
  sound = λ tokens. Explains-map D E to tokens (f tokens).0 (f tokens).1 (reads.sound tokens);
  complete = λ v ms rest e g. reads.complete v ms rest (from v ms e) (weaker rest g);
  local = reads.local;
  live = reads.live;
}

-- Nothing taken.

abbrev pub Pure : {A : Type 0} → A → A → Language
Pure a v ms = (v ≡ a) × Nothing ms

pub gives_reads : {A : Type 0} → (a : A) → Reads (gives a) (Pure a) Always
gives_reads a = record {
  sound = λ tokens. ([], refl, tt, (refl, refl));
  complete = λ v ms rest (e, nil) _. subst (λ w. gives a (tokens_of w ++ rest) ≡ outcome v w rest) (sym nil) (ap (λ w. (Ok w, rest)) (sym e));
  local = λ x t r s d o e. let k : x ≡ d = append_cancel_right x d (t ∷ r) (ap (λ reading. reading.1) e) in λ i. ((e i).0, k i ++ t ∷ s);
  live = λ tokens ends. ends;
}

-- Sequence.

abbrev pub Seq : {A B : Type 0} → (A → Language) → (A → B → Language) → B → Language
Seq {A} P Q v ms = (a : A) × (x y : Word) × (ms ≡ x ++ y) × P a x × Q a v y

module _ {A B : Type 0} (f : Reader A) (P : A → Language) (g : A → Reader B) (Q : A → B → Language) where
  regroup : (tokens rest left : Tokens) (c d : Word) → tokens ≡ tokens_of c ++ rest → rest ≡ tokens_of d ++ left → tokens ≡ tokens_of (c ++ d) ++ left
  regroup tokens rest left c d e k = e ∙ ap (λ ts. tokens_of c ++ ts) k ∙ sym (append_assoc (tokens_of c) (tokens_of d) left) ∙ ap (λ ts. ts ++ left) (sym (tokens_of-append c d))

  both : (tokens rest : Tokens) (a : A) (c : Word) → tokens ≡ tokens_of c ++ rest → NoneDeep c → P a c → (o : Result B Trouble) (left : Tokens) → Explains (Q a) rest o left → Explains (Seq P Q) tokens o left
  both tokens rest a c e n p (Ok v) left (d, k, m, q) =
      (c ++ d, regroup tokens rest left c d e k, NoneDeep-append c d n m, (a, c, d, refl, p, q))
  both tokens rest a c e n p (Err Unexpected) left (d, k, m, v, more, q) =
      (c ++ d, regroup tokens rest left c d e k, NoneDeep-append c d n m, v, more, (a, c, d ++ more, append_assoc c d more, p, q))
  both tokens rest a c e n p (Err TooDeep) left (d, t, r, l, k, m, v, more, q) =
      (c ++ d, t, r, l, regroup tokens rest left c d e k, NoneDeep-append c d n m, v, more, (a, c, d ++ deep_token t ∷ more, append_assoc c d (deep_token t ∷ more), p, q))

  first : ((a : A) → Sound (g a) (Q a)) → (tokens : Tokens) (o : Result A Trouble) (rest : Tokens) → Explains P tokens o rest → Explains (Seq P Q) tokens (go_on o rest g).0 (go_on o rest g).1
  first sound tokens (Ok a) rest (c, e, n, p) = both tokens rest a c e n p (g a rest).0 (g a rest).1 (sound a rest)
  first sound tokens (Err Unexpected) rest (c, e, n, a, more, p) =
      let w = some_word (g a) (Q a) (sound a) in
      (c, e, n, w.0, more ++ w.1, (a, c ++ more, w.1, sym (append_assoc c more w.1), p, w.2))
  first sound tokens (Err TooDeep) rest (c, t, r, l, e, n, a, more, p) =
      let w = some_word (g a) (Q a) (sound a) in
      (c, t, r, l, e, n, w.0, more ++ w.1, (a, c ++ deep_token t ∷ more, w.1, sym (append_assoc c (deep_token t ∷ more) w.1), p, w.2))

  pub seq_sound : Sound f P → ((a : A) → Sound (g a) (Q a)) → Sound (f then g) (Seq P Q)
  seq_sound sound sounds tokens = first sounds tokens (f tokens).0 (f tokens).1 (sound tokens)

  stops : (b : Bool) (w u : Tokens) (X : Reading A) (Y : Reading B) → w ≡ u → go_on X.0 X.1 g ≡ Y → go_on (cond b (Err TooDeep, w) X).0 (cond b (Err TooDeep, w) X).1 g ≡ cond b (Err TooDeep, u) Y
  stops true w u X Y e k = ap (λ ts. (Err TooDeep, ts)) e
  stops false w u X Y e k = k

  passes : (a : A) (v : B) (x y : Word) (rest : Tokens) → g a (tokens_of y ++ rest) ≡ outcome v y rest → go_on (outcome a x (tokens_of y ++ rest)).0 (outcome a x (tokens_of y ++ rest)).1 g ≡ outcome v (x ++ y) rest
  passes a v [] y rest h = h
  passes a v (m ∷ x) y rest h = stops m.deep (m.token ∷ (tokens_of x ++ (tokens_of y ++ rest))) (m.token ∷ (tokens_of (x ++ y) ++ rest)) (outcome a x (tokens_of y ++ rest)) (outcome v (x ++ y) rest) (ap (λ ts. m.token ∷ ts) (sym (append_assoc (tokens_of x) (tokens_of y) rest) ∙ ap (λ ts. ts ++ rest) (sym (tokens_of-append x y)))) (passes a v x y rest h)

  pub seq_complete : (F G : Tokens → Type 0) → Complete f P F → ((a : A) → Complete (g a) (Q a) G) → ((a : A) (v : B) (y : Word) (rest : Tokens) → Q a v y → G rest → F (tokens_of y ++ rest)) → Complete (f then g) (Seq P Q) G
  seq_complete F G complete completes follow v ms rest (a, x, y, e, p, q) after =
      let same : tokens_of ms ++ rest ≡ tokens_of x ++ (tokens_of y ++ rest) = ap (λ w. tokens_of w ++ rest) e ∙ ap (λ ts. ts ++ rest) (tokens_of-append x y) ∙ append_assoc (tokens_of x) (tokens_of y) rest in
      let one : f (tokens_of ms ++ rest) ≡ outcome a x (tokens_of y ++ rest) = ap f same ∙ complete a x (tokens_of y ++ rest) p (follow a v y rest q after) in
      ap (λ reading. go_on reading.0 reading.1 g) one ∙ passes a v x y rest (completes a v y rest q after) ∙ ap (λ w. outcome v w rest) (sym e)

  -- the part before the token of sight was read already
  stepped : ((a : A) → Sound (g a) (Q a)) → Local f → ((a : A) → Local (g a)) → (x : Tokens) (t : Token) (r s d : Tokens) (o : Result B Trouble) (first : Result A Trouble) (rest : Tokens) → f (x ++ t ∷ r) ≡ (first, rest) → go_on first rest g ≡ (o, d ++ t ∷ r) → (f then g) (x ++ t ∷ s) ≡ (o, d ++ t ∷ s)
  stepped sounds local locals x t r s d o (Err k) rest e h =
      let here : rest ≡ d ++ t ∷ r = ap (λ reading. reading.1) h in
      let one : f (x ++ t ∷ s) ≡ (Err k, d ++ t ∷ s) = local x t r s d (Err k) (e ∙ ap (λ ts. (Err k, ts)) here) in
      ap (λ reading. go_on reading.0 reading.1 g) one ∙ (λ i. ((h i).0, d ++ t ∷ s))
  stepped sounds local locals x t r s d o (Ok a) rest e h =
      let tail = tail_of (Q a) rest (g a rest).0 (g a rest).1 (sounds a rest) in
      let here : rest ≡ (tail.0 ++ d) ++ t ∷ r = tail.1 ∙ ap (λ reading. tail.0 ++ reading.1) h ∙ sym (append_assoc tail.0 d (t ∷ r)) in
      let one : f (x ++ t ∷ s) ≡ (Ok a, (tail.0 ++ d) ++ t ∷ s) = local x t r s (tail.0 ++ d) (Ok a) (e ∙ ap (λ ts. (Ok a, ts)) here) in
      ap (λ reading. go_on reading.0 reading.1 g) one ∙ locals a (tail.0 ++ d) t r s d o (ap (g a) (sym here) ∙ h)

  pub seq_local : ((a : A) → Sound (g a) (Q a)) → Local f → ((a : A) → Local (g a)) → Local (f then g)
  seq_local sounds local locals x t r s d o e =
      stepped sounds local locals x t r s d o (f (x ++ t ∷ r)).0 (f (x ++ t ∷ r)).1 refl e

  lives : ((a : A) → Live (g a)) → (first : Result A Trouble) (rest : Tokens) → Ends rest → Ends (go_on first rest g).1
  lives live (Ok a) rest ends = live a rest ends
  lives live (Err k) rest ends = ends

  pub seq_live : Live f → ((a : A) → Live (g a)) → Live (f then g)
  seq_live live each tokens ends = lives each (f tokens).0 (f tokens).1 (live tokens ends)

  pub seq : (F G : Tokens → Type 0) → Reads f P F → ((a : A) → Reads (g a) (Q a) G) → ((a : A) (v : B) (y : Word) (rest : Tokens) → Q a v y → G rest → F (tokens_of y ++ rest)) → Reads (f then g) (Seq P Q) G
  seq F G one other follow = record {
    sound = seq_sound one.sound (λ a. (other a).sound);
    complete = seq_complete F G one.complete (λ a. (other a).complete) follow;
    local = seq_local (λ a. (other a).sound) one.local (λ a. (other a).local);
    live = seq_live one.live (λ a. (other a).live);
  }

pub gives_any : {A : Type 0} → (a : A) (F : Tokens → Type 0) → Reads (gives a) (Pure a) F
gives_any a F = convert (gives a) (Pure a) (Pure a) Always F (gives_reads a) (λ v ms p. p) (λ v ms p. p) (λ rest f. tt)

-- A value made of what is read.

abbrev pub Map : {A B : Type 0} → (A → B) → (A → Language) → B → Language
Map {A} h P v ms = (a : A) × (v ≡ h a) × P a ms

module _ {A B : Type 0} (h : A → B) (f : Reader A) where
  made : (P : A → Language) (tokens : Tokens) (o : Result A Trouble) (rest : Tokens) → Explains P tokens o rest → Explains (Map h P) tokens (go_on o rest (λ a. gives (h a))).0 (go_on o rest (λ a. gives (h a))).1
  made P tokens (Ok a) rest (c, e, n, p) = (c, e, n, (a, refl, p))
  made P tokens (Err Unexpected) rest (c, e, n, a, more, p) = (c, e, n, h a, more, (a, refl, p))
  made P tokens (Err TooDeep) rest (c, t, r, l, e, n, a, more, p) = (c, t, r, l, e, n, h a, more, (a, refl, p))

  remade : (a : A) (ms : Word) (rest : Tokens) → go_on (outcome a ms rest).0 (outcome a ms rest).1 (λ v. gives (h v)) ≡ outcome (h a) ms rest
  remade a [] rest = refl
  remade a (m ∷ ms) rest = stops f (λ v w. Unit {0}) (λ v. gives (h v)) (λ v. Pure (h v)) m.deep (m.token ∷ (tokens_of ms ++ rest)) (m.token ∷ (tokens_of ms ++ rest)) (outcome a ms rest) (outcome (h a) ms rest) refl (remade a ms rest)

  pub mapped_outcome : (a : A) (ms : Word) (rest tokens : Tokens) → f tokens ≡ outcome a ms rest → mapped h f tokens ≡ outcome (h a) ms rest
  mapped_outcome a ms rest tokens e = ap (λ reading. go_on reading.0 reading.1 (λ v. gives (h v))) e ∙ remade a ms rest

  pub mapped_sound : (P : A → Language) → Sound f P → Sound (mapped h f) (Map h P)
  mapped_sound P sound tokens = made P tokens (f tokens).0 (f tokens).1 (sound tokens)

  pub mapped_local : Local f → Local (mapped h f)
  mapped_local local =
      seq_local f (λ a ms. Unit {0}) (λ a. gives (h a)) (λ a. Pure (h a)) (λ a. (gives_reads (h a)).sound) local (λ a. (gives_reads (h a)).local)

  pub mapped_live : Live f → Live (mapped h f)
  mapped_live live = seq_live f (λ a ms. Unit {0}) (λ a. gives (h a)) (λ a. Pure (h a)) live (λ a tokens ends. ends)

behind_nothing : (F : Tokens → Type 0) (y : Word) (rest : Tokens) → y ≡ [] → F rest → F (tokens_of y ++ rest)
behind_nothing F y rest nil after = subst (λ w. F (tokens_of w ++ rest)) (sym nil) after

pub mapped_reads : {A B : Type 0} → (h : A → B) (f : Reader A) (P : A → Language) (F : Tokens → Type 0) → Reads f P F → Reads (mapped h f) (Map h P) F
mapped_reads {A} {B} h f P F reads =
    convert (mapped h f) (Seq P (λ a. Pure (h a))) (Map h P) F F (seq f P (λ a. gives (h a)) (λ a. Pure (h a)) F F reads (λ a. gives_any (h a) F) (λ a v y rest q after. behind_nothing F y rest q.1 after))
    (λ v ms (a, x, y, e, p, (q, nil)). (a, q, subst (P a) (sym (append-nil x) ∙ ap (λ w. x ++ w) (sym nil) ∙ sym e) p))
    (λ v ms (a, q, p). (a, ms, [], sym (append-nil ms), p, (q, refl))) (λ rest after. after)

-- The words of some value.
abbrev pub SomeOf : {A : Type 0} → (A → Language) → Language
SomeOf {A} P ms = (a : A) × P a ms

pub past_reads : {A B : Type 0} → (f : Reader A) (P : A → Language) (g : Reader B) (Q : B → Language) (F G : Tokens → Type 0) → Reads f P F → Reads g Q G → ((v : B) (y : Word) (rest : Tokens) → Q v y → G rest → F (tokens_of y ++ rest)) → Reads (past f g) (λ v. SomeOf P ▸ Q v) G
past_reads f P g Q F G one other follow =
    convert (past f g) (Seq P (λ _. Q)) (λ v. SomeOf P ▸ Q v) G G (seq f P (λ _. g) (λ _. Q) F G one (λ _. other) (λ a. follow)) (λ v ms (a, x, y, e, p, q). (x, y, e, (a, p), q)) (λ v ms (x, y, e, (a, p), q). (a, x, y, e, p, q))
    (λ rest after. after)

pub ended_reads : {A B : Type 0} → (f : Reader A) (P : A → Language) (g : Reader B) (Q : B → Language) (F G : Tokens → Type 0) → Reads f P F → Reads g Q G → ((v : B) (y : Word) (rest : Tokens) → Q v y → G rest → F (tokens_of y ++ rest)) → Reads (ended f g) (λ v. P v ▸ SomeOf Q) G
ended_reads f P g Q F G one other follow =
    convert (ended f g) (Seq P (λ a. Map (λ _. a) Q)) (λ v. P v ▸ SomeOf Q) G G (seq f P (λ a. mapped (λ _. a) g) (λ a. Map (λ _. a) Q) F G one (λ a. mapped_reads (λ _. a) g Q G other) (λ a v y rest (b, e, q) after. follow b y rest q after))
    (λ v ms (a, x, y, e, p, (b, k, q)). (x, y, e, subst (λ w. P w x) (sym k) p, (b, q))) (λ v ms (x, y, e, p, (b, q)). (v, x, y, e, p, (b, refl, q))) (λ rest after. after)

-- Choice by the next token.

abbrev pub Either : {A : Type 0} → (A → Language) → (A → Language) → A → Language
Either D E v ms = D v ms ⊎ E v ms

-- each word begins with a token that passes the test
abbrev pub Starts : {A : Type 0} → (Token → Bool) → (A → Language) → Type 0
Starts {A} test D = (v : A) (ms : Word) (rest : Tokens) → D v ms → begins test (tokens_of ms ++ rest) ≡ true

-- no word begins so, with what may follow it
abbrev pub Apart : {A : Type 0} → (Token → Bool) → (A → Language) → (Tokens → Type 0) → Type 0
Apart {A} test E H = (v : A) (ms : Word) (rest : Tokens) → E v ms → H rest → begins test (tokens_of ms ++ rest) ≡ false

begins_local : (test : Token → Bool) (x : Tokens) (t : Token) (r s : Tokens) → begins test (x ++ t ∷ r) ≡ begins test (x ++ t ∷ s)
begins_local test [] t r s = refl
begins_local test (u ∷ x) t r s = refl

module _ {A : Type 0} (test : Token → Bool) (f g : Reader A) where
  chosen_sound : (D : A → Language) (b : Bool) (tokens : Tokens) → Sound f D → Sound g D → Explains D tokens (choose b f g tokens).0 (choose b f g tokens).1
  chosen_sound D true tokens one other = one tokens
  chosen_sound D false tokens one other = other tokens

  pub branch_sound : (D : A → Language) → Sound f D → Sound g D → Sound (branch test f g) D
  branch_sound D one other tokens = chosen_sound D (begins test tokens) tokens one other

  chosen_local : (b : Bool) → Local f → Local g → Local (choose b f g)
  chosen_local true one other = one
  chosen_local false one other = other

  pub branch_local : Local f → Local g → Local (branch test f g)
  branch_local one other x t r s d o e =
      let same = begins_local test x t r s in
      ap (λ b. choose b f g (x ++ t ∷ s)) (sym same) ∙ chosen_local (begins test (x ++ t ∷ r)) one other x t r s d o e

  chosen_live : (b : Bool) → Live f → Live g → Live (choose b f g)
  chosen_live true one other = one
  chosen_live false one other = other

  pub branch_live : Live f → Live g → Live (branch test f g)
  branch_live one other tokens = chosen_live (begins test tokens) one other tokens

  pub choice : (D E : A → Language) (F G H : Tokens → Type 0) → Reads f D F → Reads g E G → Starts test D → Apart test E H → ((rest : Tokens) → H rest → F rest) → ((rest : Tokens) → H rest → G rest) → Reads (branch test f g) (Either D E) H
  choice D E F G H one other starts apart first second = record {
    sound = branch_sound (Either D E) (λ tokens. Explains-map D (Either D E) (λ v ms. inl) tokens (f tokens).0 (f tokens).1 (one.sound tokens)) (λ tokens. Explains-map E (Either D E) (λ v ms. inr) tokens (g tokens).0 (g tokens).1 (other.sound tokens));
    complete = λ v ms rest. ⊎_elim
        (λ d h. ap (λ b. choose b f g (tokens_of ms ++ rest)) (starts v ms rest d) ∙ one.complete v ms rest d (first rest h))
        (λ e h. ap (λ b. choose b f g (tokens_of ms ++ rest)) (apart v ms rest e h) ∙ other.complete v ms rest e (second rest h));
    local = branch_local one.local other.local;
    live = branch_live one.live other.live;
  }

-- Repetition.

module _ {A : Type 0} (test : Token → Bool) (f : Reader A) where
  -- one more, and those after it
  another : ℕ → Reader (List A)
  another n = f then (λ a. mapped (λ more. a ∷ more) (many_at n test f))

-- what is read takes a token at least
abbrev pub Shrinks : {A : Type 0} → Reader A → Type 0
Shrinks {A} f = (tokens : Tokens) (a : A) (rest : Tokens) → f tokens ≡ (Ok a, rest) → length rest < length tokens

module _ {A : Type 0} (test : Token → Bool) (f : Reader A) where
  same_behind : (n m : ℕ) (o : Result A Trouble) (rest : Tokens) → ((a : A) → o ≡ Ok a → many_at n test f rest ≡ many_at m test f rest) → go_on o rest (λ a. mapped (λ more. a ∷ more) (many_at n test f)) ≡ go_on o rest (λ a. mapped (λ more. a ∷ more) (many_at m test f))
  same_behind n m (Ok a) rest same = ap (λ reading. go_on reading.0 reading.1 (λ more. gives (a ∷ more))) (same a refl)
  same_behind n m (Err k) rest same = refl

  same_choice : (n m : ℕ) (b : Bool) (tokens : Tokens) → another test f n tokens ≡ another test f m tokens → choose b (another test f n) (gives []) tokens ≡ choose b (another test f m) (gives []) tokens
  same_choice n m true tokens same = same
  same_choice n m false tokens same = refl

  -- any number that is enough gives the same
  pub many_fuel : Shrinks f → (n m : ℕ) (tokens : Tokens) → length tokens ≤ n → length tokens ≤ m → many_at n test f tokens ≡ many_at m test f tokens
  unfolding many_at another same_choice
  many_fuel shrinks zero zero tokens = λ h k. refl
  many_fuel shrinks zero (suc m) [] = λ h k. refl
  many_fuel shrinks zero (suc m) (t ∷ tokens) = λ h k. absurd (omega arith)
  many_fuel shrinks (suc n) zero [] = λ h k. refl
  many_fuel shrinks (suc n) zero (t ∷ tokens) = λ h k. absurd (omega arith)
  many_fuel shrinks (suc n) (suc m) tokens = λ h k. same_choice n m (begins test tokens) tokens (same_behind n m (f tokens).0 (f tokens).1 (λ a e. let less = shrinks tokens a (f tokens).1 (λ i. (e i, (f tokens).1)) in many_fuel shrinks n m (f tokens).1 (omega arith) (omega arith)))

  step_behind : (n : ℕ) (o : Result A Trouble) (rest : Tokens) → ((a : A) → o ≡ Ok a → many_at n test f rest ≡ many test f rest) → go_on o rest (λ a. mapped (λ more. a ∷ more) (many_at n test f)) ≡ go_on o rest (λ a. mapped (λ more. a ∷ more) (many test f))
  step_behind n (Ok a) rest same = ap (λ reading. go_on reading.0 reading.1 (λ more. gives (a ∷ more))) (same a refl)
  step_behind n (Err k) rest same = refl

  step_choice : (n : ℕ) (b : Bool) (tokens : Tokens) → another test f n tokens ≡ (f then (λ a. mapped (λ more. a ∷ more) (many test f))) tokens → choose b (another test f n) (gives []) tokens ≡ choose b (f then (λ a. mapped (λ more. a ∷ more) (many test f))) (gives []) tokens
  step_choice n true tokens same = same
  step_choice n false tokens same = refl

  -- one step of a repetition
  pub many_step : Shrinks f → (tokens : Tokens) → many test f tokens ≡ choose (begins test tokens) (f then (λ a. mapped (λ more. a ∷ more) (many test f))) (gives []) tokens
  unfolding many many_at another
  many_step shrinks tokens =
      many_fuel shrinks (length tokens) (suc (length tokens)) tokens (omega arith) (omega arith)
      ∙ step_choice (length tokens) (begins test tokens) tokens (step_behind (length tokens) (f tokens).0 (f tokens).1 (λ a e. let less = shrinks tokens a (f tokens).1 (λ i. (e i, (f tokens).1)) in many_fuel shrinks (length tokens) (length (f tokens).1) (f tokens).1 (omega arith) (omega arith)))

module _ {A : Type 0} (test : Token → Bool) (f : Reader A) (D : A → Language) where
  each_of : (v : List A) (ms : Word) → Seq D (λ a. Map (λ more. a ∷ more) (Each D)) v ms → Each D v ms
  each_of v ms (a, x, y, e, d, (more, k, ds)) = subst (λ w. Each D w ms) (sym k) (x, y, e, d, ds)

  pub many_at_sound : Sound f D → (n : ℕ) → Sound (many_at n test f) (Each D)
  unfolding many_at another
  many_at_sound sound zero = λ tokens. ([], refl, tt, refl)
  many_at_sound sound (suc n) =
      branch_sound test (another test f n) (gives []) (Each D)
      (λ tokens. Explains-map (Seq D (λ a. Map (λ more. a ∷ more) (Each D))) (Each D) each_of tokens (another test f n tokens).0 (another test f n tokens).1 (seq_sound f D (λ a. mapped (λ more. a ∷ more) (many_at n test f)) (λ a. Map (λ more. a ∷ more) (Each D)) sound (λ a. mapped_sound (λ more. a ∷ more) (many_at n test f) (Each D) (many_at_sound sound n)) tokens))
      (λ tokens. ([], refl, tt, refl))

  pub many_at_local : Sound f D → Local f → (n : ℕ) → Local (many_at n test f)
  unfolding many_at another
  many_at_local sound local zero = (gives_reads []).local
  many_at_local sound local (suc n) =
      branch_local test (another test f n) (gives [])
      (seq_local f D (λ a. mapped (λ more. a ∷ more) (many_at n test f)) (λ a. Map (λ more. a ∷ more) (Each D)) (λ a. mapped_sound (λ more. a ∷ more) (many_at n test f) (Each D) (many_at_sound sound n)) local (λ a. mapped_local (λ more. a ∷ more) (many_at n test f) (many_at_local sound local n)))
      (gives_reads []).local

  pub many_at_live : Live f → (n : ℕ) → Live (many_at n test f)
  unfolding many_at another
  many_at_live live zero = λ tokens ends. ends
  many_at_live live (suc n) =
      branch_live test (another test f n) (gives [])
      (seq_live f D (λ a. mapped (λ more. a ∷ more) (many_at n test f)) (λ a. Map (λ more. a ∷ more) (Each D)) live (λ a. mapped_live (λ more. a ∷ more) (many_at n test f) (many_at_live live n)))
      (λ tokens ends. ends)

  not_empty : Starts test D → (v : A) (ms : Word) → D v ms → 0 < length (tokens_of ms)
  not_empty starts v [] d = absurd (cc (starts v [] [] d))
  not_empty starts v (m ∷ ms) d = grind arith

  -- a value takes a token at least
  pub shrinks : Starts test D → (tokens : Tokens) (o : Result A Trouble) (rest : Tokens) → Explains D tokens o rest → (a : A) → o ≡ Ok a → length rest < length tokens
  shrinks starts tokens (Ok v) rest (c, e, n, d) a k =
      let more = not_empty starts v c d in
      omega (arith, ap length e, length-append (tokens_of c) rest)
  shrinks starts tokens (Err w) rest x a k = absurd (cc k)

  pub shrinking : Sound f D → Starts test D → Shrinks f
  shrinking sound starts tokens a rest e =
      subst (λ ts. length ts < length tokens) (ap (λ reading. reading.1) e) (shrinks starts tokens (f tokens).0 (f tokens).1 (sound tokens) a (ap (λ reading. reading.0) e))

  follows : (F G : Tokens → Type 0) → ((v : A) (ms : Word) (rest : Tokens) → D v ms → F (tokens_of ms ++ rest)) → ((rest : Tokens) → G rest → F rest) → (vs : List A) (ms : Word) (rest : Tokens) → Each D vs ms → G rest → F (tokens_of ms ++ rest)
  follows F G apart weaker [] ms rest nil after = behind_nothing F ms rest nil (weaker rest after)
  follows F G apart weaker (v ∷ vs) ms rest (x, y, e, d, ds) after =
      subst F (sym (ap (λ w. tokens_of w ++ rest) e ∙ ap (λ ts. ts ++ rest) (tokens_of-append x y) ∙ append_assoc (tokens_of x) (tokens_of y) rest)) (apart v x (tokens_of y ++ rest) d)

  module _ (F G : Tokens → Type 0) (complete : Complete f D F) (starts : Starts test D) (apart : (v : A) (ms : Word) (rest : Tokens) → D v ms → F (tokens_of ms ++ rest)) (weaker : (rest : Tokens) → G rest → F rest) (ends : (rest : Tokens) → G rest → begins test rest ≡ false) where
    complete_at : (vs : List A) (n : ℕ) (ms : Word) (rest : Tokens) → length (tokens_of ms ++ rest) ≤ n → Each D vs ms → G rest → many_at n test f (tokens_of ms ++ rest) ≡ outcome vs ms rest
    unfolding many_at another
    complete_at [] zero ms rest = λ h nil after. subst (λ w. many_at zero test f (tokens_of w ++ rest) ≡ outcome [] w rest) (sym nil) refl
    complete_at [] (suc n) ms rest = λ h nil after. subst (λ w. many_at (suc n) test f (tokens_of w ++ rest) ≡ outcome [] w rest) (sym nil) (ap (λ b. choose b (another test f n) (gives []) rest) (ends rest after))
    complete_at (v ∷ vs) zero ms rest = λ h (x, y, e, d, ds) after.
        let more = not_empty starts v x d in
        absurd (omega (arith, ap (λ w. length (tokens_of w ++ rest)) e, ap length (tokens_of-append x y), length-append (tokens_of (x ++ y)) rest, length-append (tokens_of x) (tokens_of y)))
    complete_at (v ∷ vs) (suc n) ms rest = λ h (x, y, e, d, ds) after.
        let more = not_empty starts v x d in
        let same : tokens_of ms ++ rest ≡ tokens_of x ++ (tokens_of y ++ rest) = ap (λ w. tokens_of w ++ rest) e ∙ ap (λ ts. ts ++ rest) (tokens_of-append x y) ∙ append_assoc (tokens_of x) (tokens_of y) rest in
        let enough : length (tokens_of y ++ rest) ≤ n = omega (arith, ap length same, length-append (tokens_of x) (tokens_of y ++ rest)) in
        let goes : begins test (tokens_of ms ++ rest) ≡ true = ap (begins test) same ∙ starts v x (tokens_of y ++ rest) d in
        let one : f (tokens_of ms ++ rest) ≡ outcome v x (tokens_of y ++ rest) = ap f same ∙ complete v x (tokens_of y ++ rest) d (follows F G apart weaker vs y rest ds after) in
        let others = mapped_outcome (λ more. v ∷ more) (many_at n test f) vs y rest (tokens_of y ++ rest) (complete_at vs n y rest enough ds after) in
        ap (λ b. choose b (another test f n) (gives []) (tokens_of ms ++ rest)) goes
        ∙ ap (λ reading. go_on reading.0 reading.1 (λ a. mapped (λ more. a ∷ more) (many_at n test f))) one
        ∙ passes f D (λ a. mapped (λ more. a ∷ more) (many_at n test f)) (λ a. Map (λ more. a ∷ more) (Each D)) v (v ∷ vs) x y rest others
        ∙ ap (λ w. outcome (v ∷ vs) w rest) (sym e)

    pub many_complete : Complete (many test f) (Each D) G
    unfolding many
    many_complete vs ms rest ds after = complete_at vs (length (tokens_of ms ++ rest)) ms rest (omega arith) ds after

  pub many_local : Sound f D → Starts test D → Local f → Local (many test f)
  unfolding many
  many_local sound starts local x t r s d o e =
      let n = length (x ++ t ∷ r) + length (x ++ t ∷ s) in
      many_fuel test f (shrinking sound starts) (length (x ++ t ∷ s)) n (x ++ t ∷ s) (omega arith) (omega arith)
      ∙ many_at_local sound local n x t r s d o (many_fuel test f (shrinking sound starts) n (length (x ++ t ∷ r)) (x ++ t ∷ r) (omega arith) (omega arith) ∙ e)

  pub many_reads : (F G : Tokens → Type 0) → Reads f D F → Starts test D → ((v : A) (ms : Word) (rest : Tokens) → D v ms → F (tokens_of ms ++ rest)) → ((rest : Tokens) → G rest → F rest) → ((rest : Tokens) → G rest → begins test rest ≡ false) → Reads (many test f) (Each D) G
  unfolding many
  many_reads F G reads starts apart weaker ends = record {
    sound = λ tokens. many_at_sound reads.sound (length tokens) tokens;
    complete = many_complete F G reads.complete starts apart weaker ends;
    local = many_local reads.sound starts reads.local;
    live = λ tokens. many_at_live reads.live (length tokens) tokens;
  }

  -- one at least
  abbrev pub EachOfSome : List A → Language
  EachOfSome vs ms = IsNonEmpty vs × Each D vs ms

  pub some_reads : (F G : Tokens → Type 0) → Reads f D F → Starts test D → ((v : A) (ms : Word) (rest : Tokens) → D v ms → F (tokens_of ms ++ rest)) → ((rest : Tokens) → G rest → F rest) → ((rest : Tokens) → G rest → begins test rest ≡ false) → Reads (some test f) EachOfSome G
  some_reads F G reads starts apart weaker ends =
      convert (some test f) (Seq D (λ a. Map (λ more. a ∷ more) (Each D))) EachOfSome G G
      (seq f D (λ a. mapped (λ more. a ∷ more) (many test f)) (λ a. Map (λ more. a ∷ more) (Each D)) F G reads (λ a. mapped_reads (λ more. a ∷ more) (many test f) (Each D) G (many_reads F G reads starts apart weaker ends)) (λ a v y rest (vs, k, ds) after. follows F G apart weaker vs y rest ds after))
      (λ v ms (a, x, y, e, d, (more, k, ds)). subst (λ w. EachOfSome w ms) (sym k) (tt, (x, y, e, d, ds))) from_some (λ rest after. after)
    where
      from_some : (v : List A) (ms : Word) → EachOfSome v ms → Seq D (λ a. Map (λ more. a ∷ more) (Each D)) v ms
      from_some [] ms (none, ds) = absurd none
      from_some (a ∷ more) ms (_, (x, y, e, d, ds)) = (a, x, y, e, d, (more, refl, ds))

-- What may be absent.

pub optional_reads : {A : Type 0} → (test : Token → Bool) (f : Reader A) (D : A → Language) (F G : Tokens → Type 0) → Reads f D F → Starts test D → ((rest : Tokens) → G rest → F rest) → ((rest : Tokens) → G rest → begins test rest ≡ false) → Reads (optional test f) (Maybe D) G
optional_reads {A} test f D F G reads starts weaker ends =
    convert (optional test f) (Either (Map Some D) (Pure None)) (Maybe D) G G
    (choice test (mapped Some f) (gives None) (Map Some D) (Pure None) F G G (mapped_reads Some f D F reads) (gives_any None G) (λ v ms rest (a, k, d). starts a ms rest d)
    (λ v ms rest (k, nil) after. subst (λ w. begins test (tokens_of w ++ rest) ≡ false) (sym nil) (ends rest after)) weaker (λ rest after. after))
    to from (λ rest after. after)
  where
    to : (v : Option A) (ms : Word) → Either (Map Some D) (Pure None) v ms → Maybe D v ms
    to v ms (inl (a, k, d)) = subst (λ w. Maybe D w ms) (sym k) d
    to v ms (inr (k, nil)) = subst (λ w. Maybe D w ms) (sym k) nil

    from : (v : Option A) (ms : Word) → Maybe D v ms → Either (Map Some D) (Pure None) v ms
    from None ms nil = inr (refl, nil)
    from (Some a) ms d = inl (a, refl, d)

-- One token.

-- a token that is picked for a value
abbrev pub Taken : {A : Type 0} → (Token → Option A) → A → Language
Taken pick a ms = (t : Token) × (pick t ≡ Some a) × (ms ≡ plain t ∷ [])

module _ {A : Type 0} (pick : Token → Option A) where
  taken_sound : (t : Token) (a : A) → pick t ≡ Some a → (u : Token) (tokens : Tokens) (o : Option A) → pick u ≡ o → Explains (Taken pick) (u ∷ tokens) (picked o u tokens).0 (picked o u tokens).1
  taken_sound t a e u tokens (Some v) k = (plain u ∷ [], refl, (refl, tt), (u, k, refl))
  taken_sound t a e u tokens None k = ([], refl, tt, a, plain t ∷ [], (t, e, refl))

  pub one_sound : (t : Token) (a : A) → pick t ≡ Some a → Sound (take_one pick) (Taken pick)
  one_sound t a e [] = ([], refl, tt, a, plain t ∷ [], (t, e, refl))
  one_sound t a e (u ∷ tokens) = taken_sound t a e u tokens (pick u) refl

  taken_local : (u : Token) (x : Tokens) (t : Token) (r s d : Tokens) (o : Result A Trouble) (p : Option A) → picked p u (x ++ t ∷ r) ≡ (o, d ++ t ∷ r) → picked p u (x ++ t ∷ s) ≡ (o, d ++ t ∷ s)
  taken_local u x t r s d o (Some a) e =
      let k : x ≡ d = append_cancel_right x d (t ∷ r) (ap (λ reading. reading.1) e) in
      λ i. ((e i).0, k i ++ t ∷ s)
  taken_local u x t r s d o None e =
      let k : u ∷ x ≡ d = append_cancel_right (u ∷ x) d (t ∷ r) (ap (λ reading. reading.1) e) in
      λ i. ((e i).0, k i ++ t ∷ s)

  here_local : (t : Token) (r s d : Tokens) (o : Result A Trouble) (p : Option A) → picked p t r ≡ (o, d ++ t ∷ r) → picked p t s ≡ (o, d ++ t ∷ s)
  here_local t r s d o (Some a) e =
      absurd (omega (arith, ap (λ reading. length reading.1) e, length-append d (t ∷ r)))
  here_local t r s d o None e =
      let k : [] ≡ d = append_cancel_right [] d (t ∷ r) (ap (λ reading. reading.1) e) in
      λ i. ((e i).0, k i ++ t ∷ s)

  pub one_local : Local (take_one pick)
  one_local [] t r s d o e = here_local t r s d o (pick t) e
  one_local (u ∷ x) t r s d o e = taken_local u x t r s d o (pick u) e

  taken_live : (t u : Token) (tokens : Tokens) (p : Option A) → EndsBehind u tokens → Ends (picked p t (u ∷ tokens)).1
  taken_live t u tokens (Some a) ends = ends
  taken_live t u tokens None ends = ends

  one_live : ((t : Token) → is_final t.lexeme ≡ true → pick t ≡ None) → Live (take_one pick)
  one_live final [] ends = absurd ends
  one_live final (t ∷ []) ends = subst (λ p. Ends (picked p t []).1) (sym (final t ends)) ends
  one_live final (t ∷ u ∷ tokens) ends = taken_live t u tokens (pick t) ends

  -- a token that may be picked is named, and a final token isn't picked
  pub one_reads : (t : Token) (a : A) → pick t ≡ Some a → ((t : Token) → is_final t.lexeme ≡ true → pick t ≡ None) → Reads (take_one pick) (Taken pick) Always
  one_reads t a e final = record {
    sound = one_sound t a e;
    complete = λ v ms rest (u, k, here) _. subst (λ w. take_one pick (tokens_of w ++ rest) ≡ outcome v w rest) (sym here) (ap (λ p. picked p u rest) k);
    local = one_local;
    live = one_live final;
  }

-- Places.

-- with the place of the first token
abbrev pub PlacedBy : {A B : Type 0} → (Pos → A → B) → (A → Language) → B → Language
PlacedBy {A} make D b ms = (p : Pos) × (a : A) × (b ≡ make p a) × D a ms × FirstAt p ms

pub some_place : (ms : Word) → 0 < length (tokens_of ms) → (p : Pos) × FirstAt p ms
some_place [] h = absurd (omega arith)
some_place (m ∷ ms) h = (m.token.pos, refl)

pub place_is : (p : Pos) (ms : Word) (rest : Tokens) → FirstAt p ms → place_of (tokens_of ms ++ rest) ≡ p
place_is p [] rest h = absurd h
place_is p (m ∷ ms) rest h = h

pub first_is : (tokens : Tokens) (c : Word) (rest : Tokens) → 0 < length (tokens_of c) → tokens ≡ tokens_of c ++ rest → FirstAt (place_of tokens) c
first_is tokens [] rest h e = absurd (omega arith)
first_is tokens (m ∷ c) rest h e = sym (ap place_of e)

place_local : (x : Tokens) (t : Token) (r s : Tokens) → place_of (x ++ t ∷ r) ≡ place_of (x ++ t ∷ s)
place_local [] t r s = refl
place_local (u ∷ x) t r s = refl

front_not_empty : (c more : Word) (t : Token) → 0 < length (tokens_of (c ++ deep_token t ∷ more))
front_not_empty [] more t = grind arith
front_not_empty (m ∷ c) more t = grind arith

module _ {A B : Type 0} (make : Pos → A → B) (test : Token → Bool) (f : Reader A) (D : A → Language) (starts : Starts test D) where
  placed_step : (tokens : Tokens) (o : Result A Trouble) (rest : Tokens) → Explains D tokens o rest → Explains (PlacedBy make D) tokens (go_on o rest (λ a. gives (make (place_of tokens) a))).0 (go_on o rest (λ a. gives (make (place_of tokens) a))).1
  placed_step tokens (Ok a) rest (c, e, n, d) =
      (c, e, n, (place_of tokens, a, refl, d, first_is tokens c rest (not_empty test f D starts a c d) e))
  placed_step tokens (Err Unexpected) rest (c, e, n, a, more, d) =
      let p = some_place (c ++ more) (not_empty test f D starts a (c ++ more) d) in
      (c, e, n, make p.0 a, more, (p.0, a, refl, d, p.1))
  placed_step tokens (Err TooDeep) rest (c, t, r, l, e, n, a, more, d) =
      let p = some_place (c ++ deep_token t ∷ more) (front_not_empty c more t) in
      (c, t, r, l, e, n, make p.0 a, more, (p.0, a, refl, d, p.1))

  pub placed_reads : (F : Tokens → Type 0) → Reads f D F → Reads (placed make f) (PlacedBy make D) F
  placed_reads F reads = record {
    sound = λ tokens. placed_step tokens (f tokens).0 (f tokens).1 (reads.sound tokens);
    complete = λ b ms rest (p, a, k, d, first) after. ap (λ q. mapped (make q) f (tokens_of ms ++ rest)) (place_is p ms rest first)
        ∙ mapped_outcome (make p) f a ms rest (tokens_of ms ++ rest) (reads.complete a ms rest d after)
        ∙ ap (λ w. outcome w ms rest) (sym k);
    local = λ x t r s d o e. ap (λ q. mapped (make q) f (x ++ t ∷ s)) (sym (place_local x t r s)) ∙ mapped_local (make (place_of (x ++ t ∷ r))) f reads.local x t r s d o e;
    live = λ tokens. mapped_live (make (place_of tokens)) f reads.live tokens;
  }

-- Where no level is left.

module _ {A : Type 0} (opens : Token → Bool) (D : A → Language) where
  -- each word begins with a deep opening token
  abbrev pub StartsDeep : Type 0
  StartsDeep = (v : A) (ms : Word) → D v ms → (t : Token) × (more : Word) × (ms ≡ deep_token t ∷ more) × (opens t ≡ true)

  -- an opening token begins a word
  abbrev pub GoesOnDeep : Type 0
  GoesOnDeep = (t : Token) → opens t ≡ true → (v : A) × (more : Word) × D v (deep_token t ∷ more)

  deep_sound : SomeWord D → GoesOnDeep → (b : Bool) (tokens : Tokens) → begins opens tokens ≡ b → Explains D tokens (choose {A = A} b (λ here. (Err TooDeep, here)) (λ here. (Err Unexpected, here)) tokens).0 (choose {A = A} b (λ here. (Err TooDeep, here)) (λ here. (Err Unexpected, here)) tokens).1
  deep_sound word more true [] e = absurd (cc e)
  deep_sound word more true (t ∷ tokens) e = let m = more t e in ([], t, tokens, refl, refl, tt, m.0, m.1, m.2)
  deep_sound word more false tokens e = ([], refl, tt, word.0, word.1, word.2)

  here_local_deep : (k : Trouble) → Local {A = A} (λ here. (Err k, here))
  here_local_deep k x t r s d o e =
      let h : x ≡ d = append_cancel_right x d (t ∷ r) (ap (λ reading. reading.1) e) in
      λ i. ((e i).0, h i ++ t ∷ s)

  pub too_deep_reads : SomeWord D → GoesOnDeep → StartsDeep → Reads (too_deep opens) D Always
  too_deep_reads word more starts = record {
    sound = λ tokens. deep_sound word more (begins opens tokens) tokens refl;
    complete = λ v ms rest d _. let s = starts v ms d in
        subst (λ w. too_deep opens (tokens_of w ++ rest) ≡ outcome v w rest) (sym s.2) (ap (λ b. choose b (λ here. (Err TooDeep, here)) (λ here. (Err Unexpected, here)) (s.0 ∷ (tokens_of s.1 ++ rest))) s.3);
    local = branch_local opens (λ here. (Err TooDeep, here)) (λ here. (Err Unexpected, here)) (here_local_deep TooDeep) (here_local_deep Unexpected);
    live = branch_live opens (λ here. (Err TooDeep, here)) (λ here. (Err Unexpected, here)) (λ tokens ends. ends) (λ tokens ends. ends);
  }
