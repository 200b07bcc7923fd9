-- The source and the sink in memory that never fail.
use Rattle.std.specs.Prelude.{ℕ, List, drop}
use Rattle.gql_io.specs.declared.sure.SureSource.{SureSource}
use Rattle.gql_io.specs.declared.sure.SureSink.{SureSink}

-- the bytes that are left
abbrev pub rest_of : SureSource → List ℕ
rest_of source = drop source.given source.bytes

-- how many bytes were given
abbrev pub given_of : SureSource → ℕ
given_of source = source.given

-- how many bytes one read gives at most
abbrev pub read_step : SureSource → ℕ
read_step source = source.step

-- the bytes that are held
abbrev pub held_by : SureSink → List ℕ
held_by sink = sink.held.items

-- how many bytes one write takes at most
abbrev pub write_step : SureSink → ℕ
write_step sink = sink.step
