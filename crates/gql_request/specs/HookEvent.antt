-- What the events of hooks are called.
use Rattle.std.specs.Prelude.{ℕ, Bool, List, ◌++◌, codes, if◌then◌else◌}
use Rattle.gql_request.specs.declared.hook_event.HookEvent.{HookEvent}
use Rattle.gql_request.specs.declared.hook_event.HookStage.{HookStage}
use Rattle.gql_request.specs.declared.hook_event.HookStage.TheVariants as stages

abbrev pub stage_text : HookStage → List ℕ
stage_text stages.Request = codes "request"
stage_text stages.Subscribe = codes "subscribe"
stage_text stages.PrepareRequest = codes "prepare_request"
stage_text stages.ParseQuery = codes "parse_query"
stage_text stages.Validation = codes "validation"
stage_text stages.Execute = codes "execute"
stage_text stages.Resolve = codes "resolve"

-- the stage, and whether it begins or is over
abbrev pub event_text : HookEvent → List ℕ
event_text event = stage_text event.stage ++ (if event.ended then codes "_end" else codes "_start")
