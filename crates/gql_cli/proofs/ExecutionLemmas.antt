-- What was executed over a set of a bench is what the bench's rules, cells and turns give.
use Rattle.std.proofs.Common.{◌≡◌, ℕ, ℤ, Bool, true, false, List, [], ◌∷◌, ◌++◌, Some, Result, Ok, Err, option_map, append-nil, refl, ap, sym, ◌∙◌, subst}
use Rattle.std.proofs.lemmas.List.{append_assoc}
use Rattle.gql_bench.specs.ListTurns.{list_turns}
use Rattle.gql_bench.specs.Table.{table_answer, table_delay, table_effect}
use Rattle.gql_bench.specs.TableMaker.{ServesBy}
use Rattle.gql_bench.specs.contracts.list_turns.ListTurnsTurns.TheImpl.{ghosts}
use Rattle.gql_bench.specs.declared.bench.Bench.{Bench}
use Rattle.gql_bench.specs.declared.list_turns.ListTurns.{ListTurns}
use Rattle.gql_cli.specs.Execution.{answers_of, bench_served, bench_serving, Between, ExecutedInOrder, IsExecuted, IsRecordAtOnce, IsRecordInTurn, IsRecordOf, none_told, of_refused, of_scene, RecordBy, story}
use Rattle.gql_tasks.specs.Pace.{EachPaced}
use Rattle.gql_tasks.specs.Parts.{due_by}
use Rattle.gql_tasks.specs.Phases.{IsPhase, Phases, RunsInTurn, Serving, after_root, serving_by, story_in}
use Rattle.gql_tasks.specs.Progress.{RunsWhole, Seen, stage_of, story_of}
use Rattle.gql_tasks.specs.Record.{Choice, Made, Stage, Story, Turned, fresh, made_at, state_at, waiting}
use Rattle.gql_engine.specs.declared.scene.Scene.{Scene}
use Rattle.gql_exec.specs.Batch.{ExecutesAll, ExecutesOne}
use Rattle.gql_exec.specs.Execution.{Ask, asks, RanAs, TellsAs, tells_none, tells_of}
use Rattle.gql_exec.specs.Joined.{mutates}
use Rattle.gql_exec.specs.Response.{IsResponseTo, IsWorldAfter}
use Rattle.gql_exec.specs.declared.dynamic_request.DynamicRequest.{DynamicRequest}
use Rattle.gql_exec.specs.declared.schema.Schema.{Schema}
use Rattle.gql_objects.specs.Jobs.{Job}
use Rattle.gql_engine.specs.ExecuteQuery.{job_subject, merged_work, root_jobs}
use Rattle.gql_engine.specs.ExecuteMutation.{key_jobs, key_work}
use Rattle.gql_collect.specs.declared.basis.Grouping.TheVariants as grouping
use Rattle.gql_meaning.specs.Served.{Served, served_by}
use Rattle.gql_request.specs.declared.response.Response.{Response}
use Rattle.gql_resolve.specs.Call.{Call}
use Rattle.gql_resolve.specs.Record.{with_more}
use Rattle.gql_resolve.specs.declared.answer.Answer.{Answer}
use Rattle.gql_resolve.specs.declared.record_entry.RecordEntry.{RecordEntry}
use Rattle.gql_resolve.specs.declared.resolver_set.ResolverSet.{Ghosts as Resolving}

-- a set that serves for a bench, and turns, as a request finds them: in these cells, at this state of the turns, and with these entries told before
pub record Stands {S F : Type 0} (set : Resolving S ℤ (List ℤ) F) (bench : Bench) (earlier : List RecordEntry) (before : Between) (start : Seen S ListTurns) : Type 0
  where
    pub lawful : set.is_lawful start.set
    pub paced : set.is_paced start.set
    pub serves : ServesBy bench.rules (serving_by set start.set)
    pub told : set.told start.set ≡ Some earlier
    pub world : set.world start.set ≡ before.cells
    pub turns : ghosts.state start.turns ≡ Some before.turns

-- calls that are served alike, whatever it is to keep to the delays
abbrev serving_so : (answer : Call ℤ → List ℤ → Answer ℤ) (effect : Call ℤ → List ℤ → List ℤ) (delay : ℕ → ℕ) (paced : Type 0) → Serving ℤ (List ℤ)
serving_so answer effect delay paced = record { answer = answer; effect = effect; delay = delay; paced = paced }

module _ (answer : Call ℤ → List ℤ → Answer ℤ) (effect : Call ℤ → List ℤ → List ℤ) (delay : ℕ → ℕ) (paced : Type 0) (keeps : paced)
    {State : Type 0} (choice : Choice State) where
  -- phases of what keeps to the delays are paced
  kept : (world : List ℤ) (roots : List (Job ℤ)) (old new : Stage (Job ℤ) State)
      → Phases (serving_so answer effect delay paced) job_subject choice world roots old new
      → Phases (serving_so answer effect delay (Unit {0})) job_subject choice world roots old new
  kept world [] old new is = is
  kept world (root ∷ roots) old new (middle, phase, rest) = (
    middle,
    record { ran = phase.ran; whole = phase.whole; paces = λ unit. phase.paces keeps },
    kept (effect root.asking.call world) roots middle new rest,
  )

-- what the record sees of a moment, where these entries are told
abbrev telling : {Task State : Type 0} → Stage Task State → List RecordEntry → Stage Task State
telling stage entries = record { made = stage.made; told = Some entries; starts = stage.starts; turns = stage.turns }

module _ (serving : Serving ℤ (List ℤ)) {State : Type 0} (choice : Choice State) where
  -- after phases the state of the turns is known where it was known before
  turns_past : (world : List ℤ) (roots : List (Job ℤ)) (old new : Stage (Job ℤ) State) → Phases serving job_subject choice world roots old new
      → (state : State) → old.turns ≡ Some state → (later : State) × (new.turns ≡ Some later)
  turns_past world [] old new is state known = (state, ap (λ (s : Stage (Job ℤ) State). s.turns) is ∙ known)
  turns_past world (root ∷ roots) old new (middle, phase, rest) state known =
      let next : State → State
      = λ s. state_at choice (story_in serving job_subject world root) s (after_root old.made root) phase.ran.entries in
      turns_past (serving.effect root.asking.call world) roots middle new rest (next state) (phase.ran.state_is ∙ ap (option_map next) known)

  module _ (earlier : List RecordEntry) where
    -- phases are the same whatever was told before them
    told_alike : (world : List ℤ) (roots : List (Job ℤ)) (old new : Stage (Job ℤ) State) (own : List RecordEntry)
        → Phases serving job_subject choice world roots (telling old (earlier ++ own)) new
        → (all : List RecordEntry) × (new.told ≡ Some (earlier ++ all)) × Phases serving job_subject choice world roots (telling old own) (telling new all)
    told_alike world [] old new own is = (own, ap (λ (s : Stage (Job ℤ) State). s.told) is, ap (λ (s : Stage (Job ℤ) State). telling s own) is)
    told_alike world (root ∷ roots) old new own (middle, phase, rest) =
        let its = phase.ran.entries in
        let told : middle.told ≡ Some (earlier ++ (own ++ its)) = phase.ran.told_is ∙ ap Some (append_assoc earlier own its) in
        let same : middle ≡ telling middle (earlier ++ (own ++ its))
        = λ i. record { made = middle.made; told = told i; starts = middle.starts; turns = middle.turns } in
        let next = serving.effect root.asking.call world in
        let (all, is, phases) = told_alike next roots middle new (own ++ its)
        (subst (λ (s : Stage (Job ℤ) State). Phases serving job_subject choice next roots s new) same rest) in
        let alone : IsPhase serving job_subject choice world root (telling old own) (telling middle (own ++ its)) = record {
          ran = record {
            entries = its;
            told_is = refl;
            starts_is = phase.ran.starts_is;
            waits = phase.ran.waits;
            turned = phase.ran.turned;
            state_is = phase.ran.state_is;
            made_is = phase.ran.made_is;
          };
          whole = phase.whole;
          paces = λ keeps before is. phase.paces keeps (earlier ++ own) refl;
        } in
        (all, is, (telling middle (own ++ its), alone, phases))

module _ {S F : Type 0} (set : Resolving S ℤ (List ℤ) F) (bench : Bench) (earlier : List RecordEntry) (before : Between) (start new : Seen S ListTurns)
    (at : Stands set bench earlier before start) where
  answer-is : set.answer (set.rules start.set) ≡ table_answer bench.rules
  answer-is = λ i call cells. at.serves.answers call cells i

  effect-is : set.effect (set.rules start.set) ≡ table_effect bench.rules
  effect-is = λ i call cells. at.serves.effects call cells i

  delay-is : set.delay (set.rules start.set) ≡ table_delay bench.rules
  delay-is = λ i resolver. at.serves.delays resolver i

  due-is : due_by set start.set ≡ answers_of bench before
  due-is = λ i call. (at.serves.answers call (set.world start.set) ∙ ap (table_answer bench.rules call) at.world) i

  story-is : story_of job_subject (λ (job : Job ℤ). due_by set start.set job.asking.call) ≡ story bench before
  story-is = ap (λ (answer : Call ℤ → _). story_of job_subject (λ (job : Job ℤ). answer job.asking.call)) due-is

  abbrev set_delay : Job ℤ → ℕ
  set_delay job = set.delay (set.rules start.set) job.asking.call.resolver

  abbrev bench_delay : Job ℤ → ℕ
  bench_delay job = table_delay bench.rules job.asking.call.resolver

  delays-are : set_delay ≡ bench_delay
  delays-are = λ i job. delay-is i job.asking.call.resolver

  -- what was told is more by a record, which comes with this state of the turns
  abbrev Told : (List RecordEntry → List ℕ × ℕ → Type 0) → Type 0
  Told Comes = (entries : List RecordEntry) × (turns : List ℕ × ℕ) × (set.told new.set ≡ Some (earlier ++ entries))
      × (ghosts.state new.turns ≡ Some turns) × Comes entries turns

  -- what a request leaves, with its record
  abbrev Leaves : (List RecordEntry → Between → Type 0) → Type 0
  Leaves Comes = (entries : List RecordEntry) × (after : Between) × (set.told new.set ≡ Some (earlier ++ entries))
      × (set.world new.set ≡ after.cells) × (ghosts.state new.turns ≡ Some after.turns) × Comes entries after

  served-is : served_by set start.set ≡ bench_served bench before
  served-is = λ i. record { answer = answer-is i; effect = effect-is i; world = at.world i }

  module _ (scene : Scene ℤ) where
    -- a whole execution that isn't a mutation's
    at-once : RunsWhole set ghosts (merged_work scene) start new → Told (IsRecordAtOnce bench before scene)
    at-once runs =
        let entries = runs.ran.entries in
        let made = runs.ran.made_is ∙ ap (λ (st : Story (Job ℤ)). made_at st (fresh (root_jobs scene)) entries) story-is in
        let past : Story (Job ℤ) → List ℕ × ℕ → List ℕ × ℕ
        = λ st s. state_at list_turns st s (fresh (root_jobs scene)) entries in (
          entries,
          past (story bench before) before.turns,
          runs.ran.told_is ∙ ap (λ told. with_more told entries) at.told,
          runs.ran.state_is ∙ (λ i. option_map (past (story-is i)) (at.turns i)),
          record {
            turned = subst (λ (st : Story (Job ℤ)). Turned list_turns st before.turns (fresh (root_jobs scene)) entries) story-is
                (runs.ran.turned before.turns at.turns);
            whole = ap waiting (sym made) ∙ runs.whole;
            paced = subst (λ (m : Made (Job ℤ)). EachPaced bench_delay m.tasks entries) made
                (subst (λ (delay : Job ℤ → ℕ). EachPaced delay runs.made.tasks entries) delays-are (runs.paces at.paced earlier at.told));
            leaves = refl;
          },
        )

    -- that of a mutation
    in-turn : RunsInTurn set ghosts (key_work scene) start new → Told (IsRecordInTurn bench before scene)
    in-turn runs =
        let behind = stage_of set ghosts runs.made new in
        let starts = set.begun start.set in
        let begins : stage_of set ghosts (fresh []) start ≡ telling (none_told bench before starts) (earlier ++ [])
        = λ i. record { made = fresh []; told = (at.told ∙ ap Some (sym (append-nil earlier))) i; starts = starts; turns = at.turns i } in
        let served : Phases (serving_so (table_answer bench.rules) (table_effect bench.rules) (table_delay bench.rules) (set.is_paced start.set)) job_subject list_turns
        (set.world start.set) (key_jobs scene) (stage_of set ghosts (fresh []) start) behind
        = subst (λ (s : Serving ℤ (List ℤ)). Phases s job_subject list_turns (set.world start.set) (key_jobs scene) (stage_of set ghosts (fresh []) start) behind)
        (λ i. serving_so (answer-is i) (effect-is i) (delay-is i) (set.is_paced start.set)) runs.phases in
        let phases = kept (table_answer bench.rules) (table_effect bench.rules) (table_delay bench.rules) (set.is_paced start.set) at.paced list_turns
        (set.world start.set) (key_jobs scene) (stage_of set ghosts (fresh []) start) behind served in
        let own : Phases (bench_serving bench) job_subject list_turns before.cells (key_jobs scene) (telling (none_told bench before starts) (earlier ++ [])) behind
        = subst (λ world. Phases (bench_serving bench) job_subject list_turns world (key_jobs scene) (telling (none_told bench before starts) (earlier ++ [])) behind) at.world
        (subst (λ old. Phases (bench_serving bench) job_subject list_turns (set.world start.set) (key_jobs scene) old behind) begins phases) in
        let (entries, told, alone) = told_alike (bench_serving bench) list_turns earlier before.cells (key_jobs scene) (none_told bench before starts) behind [] own in
        let (turns, known) = turns_past (bench_serving bench) list_turns before.cells (key_jobs scene) (telling (none_told bench before starts) (earlier ++ [])) behind own
        before.turns refl in
        (entries, turns, told, known, record { starts = starts; behind = telling behind entries; phases = alone; told = refl; leaves = known })

    ran-by : (mutation : Bool) → RanAs set ghosts start new grouping.ByKey mutation scene → Told (RecordBy bench before mutation scene)
    ran-by true runs = in-turn runs
    ran-by false runs = at-once runs

  -- the record of a request
  recorded : (ask : Ask ℤ) → TellsAs set ghosts start new ask grouping.ByKey → Told (IsRecordOf bench before ask)
  recorded ask (tells_none response is same) = (
    [],
    before.turns,
    ap (λ (seen : Seen S ListTurns). set.told seen.set) same ∙ at.told ∙ ap Some (sym (append-nil earlier)),
    ap (λ (seen : Seen S ListTurns). ghosts.state seen.turns) same ∙ at.turns,
    of_refused response is refl refl,
  )
  recorded ask (tells_of scene of_it runs) =
      let (entries, turns, told, state, is) = ran-by scene (mutates scene) runs in
      (entries, turns, told, state, of_scene scene of_it is)

  executed : (schema : Schema) (request : DynamicRequest ℤ) (response : Response) → ExecutesOne set ghosts schema request response start new
      → Leaves (IsExecuted bench before (asks schema request) response)
  executed schema request response one =
      let (entries, turns, told, state, is) = recorded (asks schema request) (one.tells at.lawful) in (
        entries,
        record { cells = set.world new.set; turns = turns },
        told,
        refl,
        state,
        record {
          responds = subst (λ (served : Served ℤ (List ℤ)). IsResponseTo schema request served response) served-is (one.responds at.lawful);
          cells = subst (λ (served : Served ℤ (List ℤ)). IsWorldAfter schema request served (set.world new.set)) served-is (one.world at.lawful);
          records = is;
        },
      )

  -- the next request finds what one has left
  stands-next : (schema : Schema) (request : DynamicRequest ℤ) (response : Response) → ExecutesOne set ghosts schema request response start new
      → (entries : List RecordEntry) (after : Between) → set.told new.set ≡ Some (earlier ++ entries) → set.world new.set ≡ after.cells
      → ghosts.state new.turns ≡ Some after.turns → Stands set bench (earlier ++ entries) after new
  stands-next schema request response one entries after told world turns = record {
    lawful = one.keeps.lawful_is at.lawful;
    paced = one.keeps.paced_is at.paced;
    serves = record {
      answers = λ call cells. ap (λ (rules : set.Rules). set.answer rules call cells) one.keeps.rules_is ∙ at.serves.answers call cells;
      effects = λ call cells. ap (λ (rules : set.Rules). set.effect rules call cells) one.keeps.rules_is ∙ at.serves.effects call cells;
      delays = λ resolver. ap (λ (rules : set.Rules). set.delay rules resolver) one.keeps.rules_is ∙ at.serves.delays resolver;
    };
    told = told;
    world = world;
    turns = turns;
  }

module _ {S F : Type 0} (set : Resolving S ℤ (List ℤ) F) (bench : Bench) (schema : Schema) where
  -- requests that were executed one after another over such a set
  pub all_executed : (requests : List (DynamicRequest ℤ)) (responses : List Response) (earlier : List RecordEntry) (before : Between) (start new : Seen S ListTurns)
      → Stands set bench earlier before start → ExecutesAll set ghosts schema requests responses start new
      → (entries : List RecordEntry) × (set.told new.set ≡ Some (earlier ++ entries)) × ExecutedInOrder bench schema requests responses entries before
  all_executed [] [] earlier before start new at same =
      ([], ap (λ (seen : Seen S ListTurns). set.told seen.set) same ∙ at.told ∙ ap Some (sym (append-nil earlier)), refl)
  all_executed [] (response ∷ responses) earlier before start new at all = absurd all
  all_executed (request ∷ requests) [] earlier before start new at all = absurd all
  all_executed (request ∷ requests) (response ∷ responses) earlier before start new at (next, one, all) =
      let (own, after, told, world, turns, is) = executed set bench earlier before start next at schema request response one in
      let there = stands-next set bench earlier before start next at schema request response one own after told world turns in
      let (others, all_told, in_order) = all_executed requests responses (earlier ++ own) after next new there all in
      (own ++ others, all_told ∙ ap Some (append_assoc earlier own others), (own, others, after, is, refl, in_order))
