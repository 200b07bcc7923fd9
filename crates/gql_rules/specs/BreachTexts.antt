-- What is told of variables, of fragments that reach themselves, and of fields that conflict.
use Rattle.std.specs.Prelude.{ℕ, List, ◌++◌, codes}

-- a fragment that reaches itself
unfoldable pub circular_text : List ℕ → List ℕ
circular_text name = codes "Fragment \"" ++ (name ++ codes "\" contains itself.")

-- the faults of definitions of variables
unfoldable pub twice_text : List ℕ → List ℕ
twice_text name = codes "Variable \"$" ++ (name ++ codes "\" is defined twice.")

unfoldable pub no_input_text : List ℕ → List ℕ
no_input_text name = codes "Variable \"$" ++ (name ++ codes "\" has no input type.")

unfoldable pub default_text : List ℕ → List ℕ
default_text name = codes "Default of variable \"$" ++ (name ++ codes "\" does not fit.")

unfoldable pub no_value_text : List ℕ → List ℕ
no_value_text name = codes "Variable \"$" ++ (name ++ codes "\" has no fitting value.")

-- a variable that an operation doesn't define, and one that doesn't fit its argument
unfoldable pub undefined_text : List ℕ → List ℕ
undefined_text name = codes "Variable \"$" ++ (name ++ codes "\" is not defined.")

unfoldable pub misplaced_text : (name argument : List ℕ) → List ℕ
misplaced_text name argument =
    codes "Variable \"$"
    ++ (name ++ (codes "\" does not fit argument \"" ++ (argument ++ codes "\".")))

-- a field that can't be merged with the first one of its key
unfoldable pub conflict_text : List ℕ → List ℕ
conflict_text key = codes "Fields \"" ++ (key ++ codes "\" conflict.")
