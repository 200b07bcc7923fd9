use Rattle.std.proofs.lemmas.Str.{IsUtf8-had}
use Rattle.gql_base.proofs.short.Short.as_str.Goals as goal

-- src/short.rt: the front of the bytes is UTF-8
pub from_utf8_unchecked-requires : goal.from_utf8_unchecked-requires
from_utf8_unchecked-requires c = IsUtf8-had _ (c.self.invariant.1)
