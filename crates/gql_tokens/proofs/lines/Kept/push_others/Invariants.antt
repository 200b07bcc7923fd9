use Rattle.std.proofs.Common.{◌≡◌, ◌++◌, ◌-◌, ℕ, List, length, drop, map, string_bytes}
use Rattle.std.specs.Str.{IsCharBoundary}
use Rattle.gql_tokens.specs.Lines.{lines_of}
use Rattle.gql_tokens.specs.Parts.{IsKept}
use Rattle.gql_tokens.proofs.LinesCuts.{AllFit}
use Rattle.gql_tokens.proofs.lines.Kept.push_others.Given as goal

-- the lines so far are kept, and those that are left are the others, with the indent that is left out
abbrev pub invariant-loop-n : goal.invariant-loop-n
invariant-loop-n l = record {
  cut : IsCharBoundary l.text l.start;
  fits : AllFit l.indent (lines_of (drop l.start l.text));
  so_far :
      (done : List (List ℕ)) × (done ++ map (drop l.indent) (lines_of (drop l.start l.text)) ≡ map (drop l.indent) (lines_of l.text))
      × ((lines : List (List ℕ)) → IsKept (string_bytes l.fn.self.text) l.fn.self.length lines → IsKept (string_bytes l.self.text) l.self.length (lines ++ done));
}

abbrev pub decreases-loop-n : goal.decreases-loop-n
decreases-loop-n l = length l.text - l.start
