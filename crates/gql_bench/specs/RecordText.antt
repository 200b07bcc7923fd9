-- The lines that tell a record.
use Rattle.std.specs.Prelude.{ℕ, Bool, true, false, List, ◌++◌, codes}
use Rattle.std.specs.Fmt.{decimal}
use Rattle.std.specs.List.{flat_map}
use Rattle.gql_resolve.specs.declared.record_entry.RecordEntry.{RecordEntry}

-- how a poll went
abbrev pub poll_word : Bool → List ℕ
poll_word true = codes "ready"
poll_word false = codes "pending"

-- the line of an entry: its task, the text of its path, and how the poll went
abbrev pub entry_line : RecordEntry → List ℕ
entry_line entry =
    decimal entry.task
    ++ (codes " " ++ (entry.path ++ (codes " " ++ (poll_word entry.ready ++ codes "\n"))))

-- the lines of all entries
abbrev pub record_lines : List RecordEntry → List ℕ
record_lines entries = flat_map entry_line entries
