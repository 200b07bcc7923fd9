-- The texts of the faults of accessors.
use Rattle.std.specs.Prelude.{ℕ, List, ◌++◌, codes}
use Rattle.std.specs.Fmt.{decimal}
use Rattle.gql_input.specs.declared.access_fault.AccessFault.{AccessFault}
use Rattle.gql_input.specs.declared.access_fault.AccessFault.TheVariants as faults

abbrev pub fault_text : AccessFault → List ℕ
fault_text faults.NotBoolean = codes "internal: not a boolean"
fault_text faults.NotEnumName = codes "internal: not an enum name"
fault_text faults.NotSigned = codes "internal: not an signed integer"
fault_text faults.NotUnsigned = codes "internal: not an unsigned integer"
fault_text faults.NotString = codes "internal: not a string"
fault_text faults.NotObject = codes "internal: not an object"
fault_text faults.NotList = codes "internal: not a list"
fault_text (faults.NoKey key) = codes "internal: key \"" ++ key.now ++ codes "\" not found"
fault_text (faults.NoIndex place) =
    codes "internal: index \"" ++ decimal place ++ codes "\" not found"
fault_text faults.BadSlice = codes "internal: invalid slice indices"
fault_text faults.NotValue = codes "internal: not a Value"
fault_text faults.NotFieldList = codes "internal: not a List"
fault_text faults.NotOwn = codes "internal: not an own value"
