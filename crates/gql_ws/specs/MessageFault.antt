-- Why a message of a client is none that a session knows.
use Rattle.std.specs.Prelude.{ℕ, List, codes}
use Rattle.gql_ws.specs.declared.message_fault.MessageFault.{MessageFault}
use Rattle.gql_ws.specs.declared.message_fault.MessageFault.TheVariants.{NotJson, Number}
use Rattle.gql_ws.specs.declared.message_fault.MessageFault.TheVariants.{Shape, Unknown}

-- the fault in words
abbrev pub fault_text : MessageFault → List ℕ
fault_text NotJson = codes "Invalid message: not JSON"
fault_text Number = codes "Invalid message: number"
fault_text Shape = codes "Invalid message: bad shape"
fault_text Unknown = codes "Invalid message: unknown type"
