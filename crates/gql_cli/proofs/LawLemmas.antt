-- The bytes of a bench give one thing to a command.
use Rattle.std.proofs.Common.{◌≡◌, ℕ, ℤ, Bool, true, false, List, [], ◌∷◌, ◌++◌, length, Option, Some, None, Result, Ok, Err, refl, ap, sym, ◌∙◌, subst}
use Rattle.std.proofs.Props.{props}
use mathlib.Core.HLevel.{is_prop→PathP}
use Rattle.serde_json.specs.Data.{Data}
use Rattle.gql_bench.specs.Bench.{IsBenchOf}
use Rattle.gql_bench.specs.Built.{is_built}
use Rattle.gql_bench.specs.Cells.{AreBelow}
use Rattle.gql_bench.specs.Found.{HasTables, IsBadAt, IsReadAs}
use Rattle.gql_bench.specs.ListTurns.{list_turns}
use Rattle.gql_bench.specs.Table.{table_delay}
use Rattle.gql_bench.specs.declared.bench.Bench.{Bench}
use Rattle.gql_cli.proofs.RecordLaws.{IsWhole, one-record, one-record-in-turn}
use Rattle.gql_cli.proofs.RefusalLemmas.{never-sound, one-refusal}
use Rattle.gql_cli.specs.Answer.{IsRefusedTable, IsResponseToBench}
use Rattle.gql_cli.specs.Execution.{bench_served, bench_serving, Between, ExecutedInOrder, first_of, IsExecuted, IsRecordAtOnce, IsRecordOf, of_refused, of_scene, RecordBy, story}
use Rattle.gql_cli.specs.Gives.{BenchGives, errors_in, Gives, IfResponse, IsAnswer, IsBadShape, IsUnbuilt, IsUnsound, JsonGives, json_of, outcome_for, response_text, schema_line, shape_line}
use Rattle.gql_cli.specs.Request.{AreAlike, requests_for}
use Rattle.gql_form.specs.declared.command.Command.{Command}
use Rattle.gql_cli.specs.declared.outcome.Outcome.{Outcome}
use Rattle.gql_cli.specs.declared.outcome.Outcome.TheVariants.{Answered, BadSchema, BadShape, HasErrors, Loaded, NotBuilt, NotJson, ReadFault, TooLong, Usage}
use Rattle.gql_engine.specs.declared.scene.Scene.{Scene}
use Rattle.gql_cli.proofs.SchemaLemmas.{one_builder}
use Rattle.gql_exec.proofs.SchemaLemmas.{one_schema}
use Rattle.gql_exec.proofs.AdmittedLemmas.{never_both, one_response, one_scene, one_world}
use Rattle.gql_exec.proofs.JoinedLemmas.{kept_is_written}
use Rattle.gql_exec.specs.Builder.{IsSchemaOf, whole_table}
use Rattle.gql_tasks.specs.Record.{fresh, state_at}
use Rattle.gql_exec.specs.Admitted.{IsRefused}
use Rattle.gql_exec.specs.Execution.{Ask, asks}
use Rattle.gql_exec.specs.Joined.{mutates}
use Rattle.gql_exec.specs.Scene.{IsSceneOf}
use Rattle.gql_exec.specs.Schema.{settings_of as schema_settings, types_in}
use Rattle.gql_exec.specs.declared.dynamic_request.DynamicRequest.{DynamicRequest}
use Rattle.gql_exec.specs.declared.schema.Schema.{Schema}
use Rattle.gql_form.specs.declared.bench_form.BenchForm.{BenchForm}
use Rattle.gql_objects.specs.Jobs.{Job}
use Rattle.gql_engine.specs.ExecuteQuery.{job_subject, root_jobs}
use Rattle.gql_engine.specs.ExecuteMutation.{key_jobs}
use Rattle.gql_request.specs.BatchResponse.{responses_of}
use Rattle.gql_request.specs.declared.batch_request.BatchRequest.{BatchRequest}
use Rattle.gql_request.specs.declared.batch_request.BatchRequest.TheVariants as batch
use Rattle.gql_request.specs.declared.batch_response.BatchResponse.{BatchResponse}
use Rattle.gql_request.specs.declared.batch_response.BatchResponse.TheVariants as responding
use Rattle.gql_request.specs.declared.response.Response.{Response}
use Rattle.gql_resolve.specs.declared.record_entry.RecordEntry.{RecordEntry}
use Rattle.gql_schema.specs.Table.{types_of}
use Rattle.gql_schema.specs.declared.schema_error.SchemaError.{SchemaError}

-- two things are one, and two others
abbrev AreOne : {A B : Type 0} → A → A → B → B → Type 0
AreOne one other here there = (one ≡ other) × (here ≡ there)

-- two responses are one, with their records and what they leave
abbrev SameRun : Response → Response → List RecordEntry → List RecordEntry → Between → Between → Type 0
SameRun r s es fs after behind = (r ≡ s) × (es ≡ fs) × (after ≡ behind)

-- responses that stand alike to requests are one where their lists are
alike-same : (requests : BatchRequest) (one other : BatchResponse) → AreAlike requests one → AreAlike requests other → responses_of one ≡ responses_of other
    → one ≡ other
alike-same (batch.Single request) (responding.Single r) (responding.Single s) a b same = let alone : r ≡ s = cc in ap responding.Single alone
alike-same (batch.Single request) (responding.Single r) (responding.Batch ss) a b same = absurd b
alike-same (batch.Single request) (responding.Batch rs) other a b same = absurd a
alike-same (batch.Batch requests) (responding.Single r) other a b same = absurd a
alike-same (batch.Batch requests) (responding.Batch rs) (responding.Single s) a b same = absurd b
alike-same (batch.Batch requests) (responding.Batch rs) (responding.Batch ss) a b same = ap responding.Batch same

module _ (bench : Bench) where
  abbrev delay : Job ℤ → ℕ
  delay job = table_delay bench.rules job.asking.call.resolver

  module _ (before : Between) (scene : Scene ℤ) where
    whole-record : (told : List RecordEntry) (turns : List ℕ × ℕ) → IsRecordAtOnce bench before scene told turns
        → IsWhole list_turns (story bench before) delay before.turns (root_jobs scene) told
    whole-record told turns is = record { turned = is.turned; whole = is.whole; paced = is.paced }

    -- a scene has one record, and leaves the turns in one state
    pub record-by : (mutation : Bool) (one other : List RecordEntry) (t u : List ℕ × ℕ) → RecordBy bench before mutation scene one t
        → RecordBy bench before mutation scene other u → AreOne one other t u
    record-by true one other t u a b =
        let (told, turns) = one-record-in-turn (bench_serving bench) tt job_subject list_turns before.cells (key_jobs scene) (fresh []) [] before.turns a.starts
        b.starts a.behind b.behind a.phases b.phases in
        let records : Some one ≡ Some other = sym a.told ∙ told ∙ b.told in
        let states : Some t ≡ Some u = sym a.leaves ∙ turns ∙ b.leaves in
        (cc, cc)
    record-by false one other t u a b =
        let same = one-record list_turns (story bench before) delay before.turns (root_jobs scene) one other (whole-record one t a) (whole-record other u b) in
        (same, a.leaves ∙ ap (state_at list_turns (story bench before) before.turns (fresh (root_jobs scene))) same ∙ sym b.leaves)

  module _ (before : Between) (ask : Ask ℤ) where
    -- a request that is refused has no scene
    never-scene : (refusal : Response) → IsRefused ask.schema ask.request.inner refusal → (scene : Scene ℤ) → IsSceneOf ask.schema ask.request scene → ⊥
    never-scene refusal is scene of_it =
        never_both ask.schema ask.request.inner refusal is (kept_is_written ask.schema ask.request scene (bench_served bench before) of_it).0

    records-same : (es fs : List RecordEntry) (t u : List ℕ × ℕ) → IsRecordOf bench before ask es t → IsRecordOf bench before ask fs u → AreOne es fs t u
    records-same es fs t u (of_refused r is none same) (of_refused s is' none' same') = (none ∙ sym none', same ∙ sym same')
    records-same es fs t u (of_refused r is none same) (of_scene scene of_it run) = absurd (never-scene r is scene of_it)
    records-same es fs t u (of_scene scene of_it run) (of_refused s is' none' same') = absurd (never-scene s is' scene of_it)
    records-same es fs t u (of_scene scene of_it run) (of_scene scene' of_it' run') =
        record-by before scene' (mutates scene') es fs t u
        (subst (λ (s : Scene ℤ). RecordBy bench before (mutates s) s es t) (one_scene ask.schema ask.request scene scene' of_it of_it') run) run'

    -- a request over a schema has one response and one record
    pub executed-same : (r s : Response) (es fs : List RecordEntry) (after behind : Between) → IsExecuted bench before ask r es after
        → IsExecuted bench before ask s fs behind → SameRun r s es fs after behind
    executed-same r s es fs after behind a b =
        let (entries, turns) = records-same es fs after.turns behind.turns a.records b.records in
        let cells = one_world ask.schema ask.request (bench_served bench before) after.cells behind.cells a.cells b.cells in (
          one_response ask.schema ask.request (bench_served bench before) r s a.responds b.responds,
          entries,
          λ i. record { cells = cells i; turns = turns i },
        )

  -- and so have requests one after another
  in-order-same : (schema : Schema) (requests : List (DynamicRequest ℤ)) (rs ss : List Response) (es fs : List RecordEntry) (before : Between)
      → ExecutedInOrder bench schema requests rs es before → ExecutedInOrder bench schema requests ss fs before → AreOne rs ss es fs
  in-order-same schema [] [] [] es fs before a b = (refl, a ∙ sym b)
  in-order-same schema [] [] (s ∷ ss) es fs before a b = absurd b
  in-order-same schema [] (r ∷ rs) ss es fs before a b = absurd a
  in-order-same schema (request ∷ requests) [] ss es fs before a b = absurd a
  in-order-same schema (request ∷ requests) (r ∷ rs) [] es fs before a b = absurd b
  in-order-same schema (request ∷ requests) (r ∷ rs) (s ∷ ss) es fs before (own, others, after, one, told, all) (own', others', after', one', told', all') =
      let (response, entries, left) = executed-same before (asks schema request) r s own own' after after' one one' in
      let (responses, rest) = in-order-same schema requests rs ss others others' after' (subst (λ (b : Between). ExecutedInOrder bench schema requests rs others b) left all) all' in
      ((λ i. response i ∷ responses i), told ∙ (λ i. entries i ++ rest i) ∙ sym told')

  -- a bench has one schema at most
  schemas-same : (one other : Schema) → IsSchemaOf bench.builder one → IsSchemaOf bench.builder other → one ≡ other
  schemas-same one other a b =
      let table : types_of (types_in one) ≡ types_of (types_in other) = a.table ∙ sym b.table in
      let settings : schema_settings one ≡ schema_settings other = a.settings ∙ sym b.settings in
      one_schema one other table settings

  pub response-same : (told said : Option (List RecordEntry)) (r s : BatchResponse) → (a : IsResponseToBench bench told r) → (b : IsResponseToBench bench said s)
      → AreOne r s a.entries b.entries
  response-same told said r s a b =
      let schema = schemas-same a.schema b.schema a.is b.is in
      let (responses, entries) = in-order-same b.schema (requests_for bench) (responses_of r) (responses_of s) a.entries b.entries (first_of bench)
      (subst (λ known. ExecutedInOrder bench known (requests_for bench) (responses_of r) a.entries (first_of bench)) schema a.executed) b.executed in
      (alike-same bench.requests r s a.alike b.alike responses, entries)

  -- a table that is refused has no schema
  never-schema : (text : List ℕ) → IsRefusedTable bench text → (schema : Schema) → IsSchemaOf bench.builder schema → ⊥
  never-schema text (error, refused, is) schema made = never-sound (whole_table bench.builder) error refused made.sound

pub if-response : (outcome : Outcome) (P : Type 0) → P → IfResponse outcome P
if-response (Answered text) P p = p
if-response (HasErrors text) P p = p
if-response (Loaded text) P p = p
if-response Usage P p = tt
if-response ReadFault P p = tt
if-response TooLong P p = tt
if-response NotJson P p = tt
if-response (BadShape text) P p = tt
if-response NotBuilt P p = tt
if-response (BadSchema text) P p = tt

-- two things that are given are one, and where that is a response, so are their records
abbrev Same : Outcome → Outcome → List RecordEntry → List RecordEntry → Type 0
Same one other entries others = (one ≡ other) × IfResponse one (entries ≡ others)

-- where one is none with a record
same-plain : (one other plain : Outcome) (entries others : List RecordEntry) → one ≡ plain → other ≡ plain
    → IfResponse plain (entries ≡ others) → Same one other entries others
same-plain one other plain entries others a b none = (a ∙ sym b, subst (λ o. IfResponse o (entries ≡ others)) (sym a) none)

module _ (command : Command) (bench : Bench) where
  -- what a bench gives, by its three ways
  data Way (outcome : Outcome) (entries : List RecordEntry) : Type 0 where
    later : outcome ≡ NotBuilt → IsUnbuilt bench → Way outcome entries
    unsound : (text : List ℕ) → outcome ≡ BadSchema text → IsUnsound bench text → Way outcome entries
    answer : IsAnswer command bench outcome entries → Way outcome entries

  way : (outcome : Outcome) (entries : List RecordEntry) → BenchGives command bench outcome entries → Way outcome entries
  way NotBuilt entries gives = later refl gives
  way (BadSchema text) entries gives = unsound text refl gives
  way (Answered text) entries gives = answer gives
  way (HasErrors text) entries gives = answer gives
  way (Loaded text) entries gives = absurd gives
  way Usage entries gives = absurd gives
  way ReadFault entries gives = absurd gives
  way TooLong entries gives = absurd gives
  way NotJson entries gives = absurd gives
  way (BadShape text) entries gives = absurd gives

  answer-same : (one other : Outcome) (entries others : List RecordEntry) → IsAnswer command bench one entries → IsAnswer command bench other others
      → Same one other entries others
  answer-same one other entries others a b =
      let (response, told) = response-same bench (Some entries) (Some others) a.response b.response a.answered b.answered in
      let mine : entries ≡ a.answered.entries = let is = a.answered.is_told in cc in
      let yours : others ≡ b.answered.entries = let is = b.answered.is_told in cc in
      let es : entries ≡ others = mine ∙ told ∙ sym yours in (
        a.is ∙ (λ i. outcome_for (errors_in (responses_of (response i))) (response_text command (es i) (response i))) ∙ sym b.is,
        if-response one (entries ≡ others) es,
      )

  -- a bench that is built isn't unbuilt
  never-unbuilt : is_built bench ≡ true → IsUnbuilt bench → ⊥
  never-unbuilt built none = let both = sym built ∙ none in cc

  by-ways : (one other : Outcome) (entries others : List RecordEntry) → Way one entries → Way other others → Same one other entries others
  by-ways one other entries others (later a un) (later b un') = same-plain one other NotBuilt entries others a b tt
  by-ways one other entries others (later a un) (unsound text b why) =
      absurd (never-unbuilt why.built un)
  by-ways one other entries others (later a un) (answer b) =
      absurd (never-unbuilt b.built un)
  by-ways one other entries others (unsound text a why) (later b un) =
      absurd (never-unbuilt why.built un)
  by-ways one other entries others (unsound text a why) (unsound said b why') =
      let (error, refused, is) = why.refused in
      let (error', refused', is') = why'.refused in
      let texts = is ∙ ap (λ (e : SchemaError). e.text) (one-refusal (whole_table bench.builder) error error' refused refused') ∙ sym is' in
      let lines = why.is ∙ ap schema_line texts ∙ sym why'.is in
      same-plain one other (BadSchema said) entries others (a ∙ ap BadSchema lines) b tt
  by-ways one other entries others (unsound text a why) (answer b) =
      absurd (never-schema bench why.why why.refused b.answered.schema b.answered.is)
  by-ways one other entries others (answer a) (later b un) =
      absurd (never-unbuilt a.built un)
  by-ways one other entries others (answer a) (unsound text b why) =
      absurd (never-schema bench why.why why.refused a.answered.schema a.answered.is)
  by-ways one other entries others (answer a) (answer b) = answer-same one other entries others a b

  pub bench-gives-same : (one other : Outcome) (entries others : List RecordEntry) → BenchGives command bench one entries
      → BenchGives command bench other others → Same one other entries others
  bench-gives-same one other entries others a b = by-ways one other entries others (way one entries a) (way other others b)

module _ (form : BenchForm) where
  -- a form is read as one bench
  pub bench-same : (one other : Bench) → IsBenchOf form one → IsBenchOf form other → one ≡ other
  bench-same one other a b =
      let table = a.table ∙ sym b.table in
      let settings = a.settings ∙ sym b.settings in
      let builder = one_builder one.builder other.builder table settings in
      let rules = a.rules ∙ sym b.rules in
      let cells = a.cells ∙ sym b.cells in
      λ i. record {
        builder = builder i;
        rules = rules i;
        sources = (a.sources ∙ sym b.sources) i;
        cells = cells i;
        root = (a.root ∙ sym b.root) i;
        turns = (a.turns ∙ sym b.turns) i;
        log = (a.log ∙ sym b.log) i;
        requests = (a.requests ∙ sym b.requests) i;
        ws = (a.ws ∙ sym b.ws) i;
        built = (a.built ∙ sym b.built) i;
        placed = is_prop→PathP (λ j. AreBelow (length (cells j)) (rules j)) (λ j. hlevel props) one.placed other.placed i;
      }

module _ (command : Command) (json : Data) where
  -- what a JSON value gives, by its two ways
  data JsonWay (outcome : Outcome) (entries : List RecordEntry) : Type 0 where
    bad : (text : List ℕ) → outcome ≡ BadShape text → IsBadShape command json text → JsonWay outcome entries
    of_bench : (bench : Bench) → HasTables command json bench → BenchGives command bench outcome entries → JsonWay outcome entries

  json-way : (outcome : Outcome) (entries : List RecordEntry) → JsonGives command json outcome entries → JsonWay outcome entries
  json-way (BadShape text) entries gives = bad text refl gives
  json-way NotBuilt entries (bench, tables, gives) = of_bench bench tables gives
  json-way (BadSchema text) entries (bench, tables, gives) = of_bench bench tables gives
  json-way (Answered text) entries (bench, tables, gives) = of_bench bench tables gives
  json-way (HasErrors text) entries (bench, tables, gives) = of_bench bench tables gives
  json-way (Loaded text) entries (bench, tables, gives) = absurd gives
  json-way Usage entries (bench, tables, gives) = absurd gives
  json-way ReadFault entries (bench, tables, gives) = absurd gives
  json-way TooLong entries (bench, tables, gives) = absurd gives
  json-way NotJson entries (bench, tables, gives) = absurd gives

  never-both : (place : List ℕ) → IsBadAt command json place → (form : BenchForm) → IsReadAs command json form → ⊥
  never-both place here form read = let wrong : Err place ≡ Ok form = sym here ∙ read in cc

  benches-same : (one other : Bench) (form : BenchForm) → IsReadAs command json form → IsBenchOf form one → (other_form : BenchForm)
      → IsReadAs command json other_form → IsBenchOf other_form other → one ≡ other
  benches-same one other form read is other_form also is' =
      let both : Ok form ≡ Ok other_form = sym read ∙ also in
      let same : form ≡ other_form = cc in
      bench-same other_form one other (subst (λ f. IsBenchOf f one) same is) is'

  by-json-ways : (one other : Outcome) (entries others : List RecordEntry) → JsonWay one entries → JsonWay other others → Same one other entries others
  by-json-ways one other entries others (bad text a (place, here, is)) (bad said b (place', here', is')) =
      let both : Err place ≡ Err place' = sym here ∙ here' in
      let places : place ≡ place' = cc in
      let lines = is ∙ ap shape_line places ∙ sym is' in
      same-plain one other (BadShape said) entries others (a ∙ ap BadShape lines) b tt
  by-json-ways one other entries others (bad text a (place, here, is)) (of_bench bench (form, read, tables) gives) = absurd (never-both place here form read)
  by-json-ways one other entries others (of_bench bench (form, read, tables) gives) (bad said b (place, here, is)) = absurd (never-both place here form read)
  by-json-ways one other entries others (of_bench bench (form, read, tables) gives) (of_bench bench' (form', read', tables') gives') =
      let same = benches-same bench bench' form read tables form' read' tables' in
      bench-gives-same command bench' one other entries others
      (subst (λ b. BenchGives command b one entries) same gives) gives'

  json-same : (one other : Outcome) (entries others : List RecordEntry) → JsonGives command json one entries → JsonGives command json other others
      → Same one other entries others
  json-same one other entries others a b = by-json-ways one other entries others (json-way one entries a) (json-way other others b)

module _ (command : Command) (bytes : List ℕ) where
  -- what bytes give, by their two ways
  data BytesWay (outcome : Outcome) (entries : List RecordEntry) : Type 0 where
    no_json : outcome ≡ NotJson → json_of bytes ≡ None → BytesWay outcome entries
    of_json : (json : Data) → json_of bytes ≡ Some json → JsonGives command json outcome entries → BytesWay outcome entries

  bytes-way : (outcome : Outcome) (entries : List RecordEntry) → Gives command bytes outcome entries → BytesWay outcome entries
  bytes-way NotJson entries gives = no_json refl gives
  bytes-way (BadShape text) entries (json, is, gives) = of_json json is gives
  bytes-way NotBuilt entries (json, is, gives) = of_json json is gives
  bytes-way (BadSchema text) entries (json, is, gives) = of_json json is gives
  bytes-way (Answered text) entries (json, is, gives) = of_json json is gives
  bytes-way (HasErrors text) entries (json, is, gives) = of_json json is gives
  bytes-way (Loaded text) entries (json, is, gives) = of_json json is gives
  bytes-way Usage entries (json, is, gives) = of_json json is gives
  bytes-way ReadFault entries (json, is, gives) = of_json json is gives
  bytes-way TooLong entries (json, is, gives) = of_json json is gives

  by-bytes-ways : (one other : Outcome) (entries others : List RecordEntry) → BytesWay one entries → BytesWay other others → Same one other entries others
  by-bytes-ways one other entries others (no_json a is) (no_json b is') = same-plain one other NotJson entries others a b tt
  by-bytes-ways one other entries others (no_json a is) (of_json json is' gives) = let wrong : None ≡ Some json = sym is ∙ is' in cc
  by-bytes-ways one other entries others (of_json json is gives) (no_json b is') = let wrong : None ≡ Some json = sym is' ∙ is in cc
  by-bytes-ways one other entries others (of_json json is gives) (of_json json' is' gives') =
      let both : Some json ≡ Some json' = sym is ∙ is' in
      let same : json ≡ json' = cc in
      json-same command json' one other entries others (subst (λ j. JsonGives command j one entries) same gives) gives'

  -- the bytes of a bench give one thing
  pub one-result : (one other : Outcome) (entries others : List RecordEntry) → Gives command bytes one entries → Gives command bytes other others
      → Same one other entries others
  one-result one other entries others a b = by-bytes-ways one other entries others (bytes-way one entries a) (bytes-way other others b)
