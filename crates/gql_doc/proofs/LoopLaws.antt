-- A loop that reads one after the other, and takes each in as it was read.
use Rattle.std.proofs.Common.{◌≡◌, Bool, true, false, List, [], ◌∷◌, Result, Ok, Err, refl, sym, ap, ◌∙◌}
use Rattle.gql_tokens.specs.declared.token.Token.{Token}
use Rattle.gql_doc.specs.declared.trouble.Trouble.{Trouble}
use Rattle.gql_doc.specs.declared.trouble.ReadError.{ReadError}
use Rattle.gql_doc.specs.declared.trouble.ReadError.TheVariants.{Memory, Stopped}
use Rattle.gql_doc.specs.Drafts.{folded}
use Rattle.gql_doc.specs.Words.{Tokens}
use Rattle.gql_doc.specs.Readers.{Reading, Reader, go_on, begins, choose, gives, mapped, many, Leaves, ◌then◌}
use Rattle.gql_doc.proofs.ReaderLaws.{Shrinks, many_step}

module _ {S A : Type 0} (step : S → A → S) (test : Token → Bool) (f : Reader A) where
  -- what the loop comes to from here on
  abbrev pub ahead : S → Reader S
  ahead start = mapped (folded step start) (many test f)

  one_more : (start : S) (a : A) (o : Result (List A) Trouble) (rest : Tokens)
      → go_on (go_on o rest (λ more. gives (a ∷ more))).0 (go_on o rest (λ more. gives (a ∷ more))).1 (λ xs. gives (folded step start xs))
      ≡ go_on o rest (λ xs. gives (folded step (step start a) xs))
  one_more start a (Ok more) rest = refl
  one_more start a (Err trouble) rest = refl

  module _ (shrinks : Shrinks f) where
    go : (tokens : Tokens) (b : Bool) → begins test tokens ≡ b → many test f tokens ≡ choose b (f then (λ a. mapped (λ more. a ∷ more) (many test f))) (gives []) tokens
    go tokens b e = many_step test f shrinks tokens ∙ ap (λ c. choose c (f then (λ a. mapped (λ more. a ∷ more) (many test f))) (gives []) tokens) e

    goes_to : (start : S) (reading : Reading (List A)) (tokens : Tokens) → many test f tokens ≡ reading → ahead start tokens ≡ go_on reading.0 reading.1 (λ xs. gives (folded step start xs))
    goes_to start reading tokens e = ap (λ r. go_on r.0 r.1 (λ xs. gives (folded step start xs))) e

    pub loop_goes : (start : S) (a : A) (tokens rest : Tokens) (total : Reading S) → begins test tokens ≡ true → f tokens ≡ (Ok a, rest) → ahead start tokens ≡ total → ahead (step start a) rest ≡ total
    loop_goes start a tokens rest total next e so_far =
        sym (one_more start a (many test f rest).0 (many test f rest).1)
        ∙ sym (goes_to start (go_on (many test f rest).0 (many test f rest).1 (λ more. gives (a ∷ more))) tokens
        (go tokens true next ∙ ap (λ reading. go_on reading.0 reading.1 (λ v. mapped (λ more. v ∷ more) (many test f))) e))
        ∙ so_far

    pub loop_stops : (start : S) (error : ReadError) (tokens rest : Tokens) (total : Reading S) → begins test tokens ≡ true → Leaves {A = A} (Err error) rest (f tokens) → ahead start tokens ≡ total → Leaves {A = S} (Err error) rest total
    loop_stops start Memory tokens rest total next e so_far = tt
    loop_stops start (Stopped trouble) tokens rest total next e so_far =
        sym so_far ∙ goes_to start (Err trouble, rest) tokens (go tokens true next ∙ ap (λ reading. go_on reading.0 reading.1 (λ v. mapped (λ more. v ∷ more) (many test f))) e)

    pub loop_ends : (start : S) (tokens : Tokens) (total : Reading S) → begins test tokens ≡ false → ahead start tokens ≡ total → total ≡ (Ok start, tokens)
    loop_ends start tokens total next so_far = sym so_far ∙ goes_to start (Ok [], tokens) tokens (go tokens false next)

  -- the first of some, and the others
  pub loop_first : (first : A → S) (a : A) (tokens rest : Tokens) → f tokens ≡ (Ok a, rest) → ahead (first a) rest ≡ (f then (λ x. ahead (first x))) tokens
  loop_first first a tokens rest e = sym (ap (λ reading. go_on reading.0 reading.1 (λ x. ahead (first x))) e)

  -- where the first isn't read, none is
  pub loop_fails : (first : A → S) (error : ReadError) (tokens rest : Tokens) → Leaves {A = A} (Err error) rest (f tokens) → Leaves {A = S} (Err error) rest ((f then (λ x. ahead (first x))) tokens)
  loop_fails first Memory tokens rest e = tt
  loop_fails first (Stopped trouble) tokens rest e = ap (λ reading. go_on reading.0 reading.1 (λ x. ahead (first x))) e
