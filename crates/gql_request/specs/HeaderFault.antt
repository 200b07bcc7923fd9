-- Why there is no map of headers.
use Rattle.gql_request.specs.declared.header_fault.HeaderFault.{HeaderFault}
use Rattle.gql_request.specs.declared.header_fault.HeaderFault.TheVariants as fault
use Rattle.http_header.specs.declared.map.HeaderMapError.{HeaderMapError}
use Rattle.http_header.specs.declared.map.HeaderMapError.TheVariants.{MaxSizeReached, OutOfMemory}

-- what a map's own refusal is here
abbrev pub fault_of : HeaderMapError → HeaderFault
fault_of MaxSizeReached = fault.MaxSizeReached
fault_of OutOfMemory = fault.NoMemory
