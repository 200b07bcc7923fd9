-- The statuses of the program, as numbers.
use Rattle.std.specs.Prelude.{ℕ}
use Rattle.gql_cli.specs.declared.status.Status.{Status}
use Rattle.gql_cli.specs.declared.status.Status.TheVariants.{Done, HasErrors, Usage, Refused}
use Rattle.gql_cli.specs.declared.status.Status.TheVariants.{ReadFault, WriteFault, NoMemory}
use Rattle.gql_cli.specs.declared.status.Status.TheVariants.{TooLong}

abbrev pub code_of : Status → ℕ
code_of Done = 0
code_of HasErrors = 1
code_of Usage = 2
code_of Refused = 3
code_of ReadFault = 4
code_of WriteFault = 5
code_of NoMemory = 6
code_of TooLong = 7
