-- The source and the sink in memory that fail at listed calls.
use Rattle.std.specs.Prelude.{ℕ, List}
use Rattle.gql_io.specs.Sure as sure
use Rattle.gql_io.specs.declared.memory.MemorySource.{MemorySource}
use Rattle.gql_io.specs.declared.memory.MemorySink.{MemorySink}

-- the bytes that are left
abbrev pub rest_of : MemorySource → List ℕ
rest_of source = sure.rest_of source.source

-- how many bytes were given
abbrev pub given_of : MemorySource → ℕ
given_of source = sure.given_of source.source

-- how many bytes one read gives at most
abbrev pub read_step : MemorySource → ℕ
read_step source = sure.read_step source.source

-- the numbers of the reads that fail
abbrev pub failing_reads : MemorySource → List ℕ
failing_reads source = source.schedule.failing

-- how many reads were made
abbrev pub reads : MemorySource → ℕ
reads source = source.schedule.calls

-- how many reads failed
abbrev pub read_faults : MemorySource → ℕ
read_faults source = source.schedule.faults

-- the bytes that are held
abbrev pub held_by : MemorySink → List ℕ
held_by sink = sure.held_by sink.sink

-- how many bytes one write takes at most
abbrev pub write_step : MemorySink → ℕ
write_step sink = sure.write_step sink.sink

-- the numbers of the writes that fail
abbrev pub failing_writes : MemorySink → List ℕ
failing_writes sink = sink.schedule.failing

-- how many writes were made
abbrev pub writes : MemorySink → ℕ
writes sink = sink.schedule.calls

-- how many writes failed
abbrev pub write_faults : MemorySink → ℕ
write_faults sink = sink.schedule.faults
