-- How many polls are pending before an answer or an event.
use Rattle.std.specs.Prelude.{ℕ, codes, Option, Some, None, Ok}
use Rattle.serde_json.specs.Data.{Data}
use Rattle.gql_base.specs.ReadJson.{Reading}
use Rattle.gql_form.specs.declared.delay.Delay.{Delay}
use Rattle.gql_form.specs.Plain.{count_within, ◌>>=◌}
use Rattle.gql_form.specs.Read.{optional}

abbrev pub longest_delay : ℕ
longest_delay = 1000000

abbrev pub delay_of : Data → Reading Delay
delay_of json = do
  polls ← count_within longest_delay json
  Ok (record { polls = polls })

abbrev pub delay_or_none : Option Delay → Delay
delay_or_none None = record { polls = 0 }
delay_or_none (Some delay) = delay

-- the member `delay`; without one there is none
abbrev pub delay_in : Data → Reading Delay
delay_in json = do
  found ← optional (codes "delay") delay_of json
  Ok (delay_or_none found)
