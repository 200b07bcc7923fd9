use Rattle.std.proofs.Common.{◌≡◌, ◌++◌, take, string_bytes}
use Rattle.gql_bench.specs.RecordText.{record_lines}
use Rattle.gql_bench.proofs.record_text.push_lines.Given as goal

abbrev pub invariant-loop-entry : goal.invariant-loop-entry
invariant-loop-entry l = string_bytes l.out ≡ string_bytes l.initial.out ++ record_lines (take l.entry-index l.entries)
