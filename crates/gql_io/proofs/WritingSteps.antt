-- A writing, write by write.
use Rattle.std.proofs.Common.{ℕ, ◌+◌, ◌-◌, List, ◌++◌, length, take, drop, sym, ◌∙◌, ap, append_assoc}
use Rattle.std.specs.Prelude.{Option, Some, None}
use Rattle.std.proofs.lemmas.List.{take-append-drop, take_rest}
use Rattle.std.proofs.Math.Seq.{take-add}
use Rattle.std.specs.Io.KnownBytes.{Appends, Keeps}
use Rattle.gql_io.specs.Writing.{AppendsStart}

-- one text after another
pub Appends-append : (old mid new : Option (List ℕ)) (front back : List ℕ) → Appends old mid front → Appends mid new back → Appends old new (front ++ back)
Appends-append None mid new front back grew grows = tt
Appends-append (Some xs) None new front back grew grows = absurd grew
Appends-append (Some xs) (Some ys) None front back grew grows = absurd grows
Appends-append (Some xs) (Some ys) (Some zs) front back grew grows = grows ∙ ap (λ bytes. bytes ++ back) grew ∙ append_assoc xs front back

-- the next `count` bytes of a text after its first `place`
pub Appends-more : (old mid new : Option (List ℕ)) (text : List ℕ) (place count : ℕ) → Appends old mid (take place text)
    → Appends mid new (take count (take (length text - place) (drop place text))) → Appends old new (take (place + count) text)
Appends-more old mid new text place count grew grows =
    let grows_on = rw take_rest at grows in
    rw take-add (Appends-append old mid new (take place text) (take count (drop place text)) grew grows_on)

Appends-Keeps : (old mid new : Option (List ℕ)) (text : List ℕ) → Appends old mid text → Keeps mid new → Appends old new text
Appends-Keeps None mid new text grew keeps = tt
Appends-Keeps (Some xs) None new text grew keeps = absurd grew
Appends-Keeps (Some xs) (Some ys) None text grew keeps = absurd keeps
Appends-Keeps (Some xs) (Some ys) (Some zs) text grew keeps = keeps ∙ grew

-- a refusal after the first `place` bytes leaves the front of the text
pub AppendsStart-refused : (old mid new : Option (List ℕ)) (text : List ℕ) (place : ℕ) → Appends old mid (take place text) → Keeps mid new → AppendsStart old new text
AppendsStart-refused old mid new text place grew keeps = record {
  front = take place text;
  rest = drop place text;
  split = sym (take-append-drop place text);
  grown = Appends-Keeps old mid new (take place text) grew keeps;
}

pub ruleset writing_steps = (Appends-more, AppendsStart-refused)
