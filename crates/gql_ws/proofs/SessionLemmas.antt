-- Each step of a session is safe, and its state tells what went before.
use Rattle.std.proofs.Common.{◌≡◌, ℕ, ◌+◌, Bool, true, false, not, ◌&&◌, ◌||◌, List, [], ◌∷◌, refl, sym, ap, ◌∙◌, subst, inl, inr, rules}
use Rattle.std.specs.Prelude.{◌==◌, nat_le, Option, Some, None, Result, Ok, Err, bytes_eq, option_map, is_some}
use Rattle.std.proofs.lemmas.Bool.{cases_Bool, cond-true, cond-false, both_ways, eqb-true, eq-eqb, or_cases, and_parts}
use Rattle.gql_base.specs.declared.error.Error.{Error}
use Rattle.gql_base.specs.declared.server_error.ServerError.{ServerError}
use Rattle.gql_base.specs.declared.value.Value.{Value}
use Rattle.gql_protocols.specs.declared.protocols.Protocols.{Protocols}
use Rattle.gql_protocols.specs.declared.protocols.Protocols.TheVariants as protocol
use Rattle.gql_request.specs.declared.request.Request.{Request}
use Rattle.gql_request.specs.declared.response.Response.{Response}
use Rattle.gql_ws.specs.Found.{has_id, has_number, found, without, live_start}
use Rattle.gql_ws.specs.Frames.{Frame}
use Rattle.gql_ws.specs.Frames as frame
use Rattle.gql_ws.specs.Lives.{IsSingle}
use Rattle.gql_ws.specs.MessageFault.{fault_text}
use Rattle.gql_ws.specs.Safe.{starts_id, Moment, is_ack, is_delivery, is_last, is_start_job, starts_as, is_start_event, is_goodbye}
use Rattle.gql_ws.specs.Safe.{is_end, starts, acknowledged, closes, closed, is_live, Answers, IsOfLive, IsSafe, SafeAfter}
use Rattle.gql_ws.specs.Safe.{DataOnceAcknowledged, EverySessionIsSafe, past_after}
use Rattle.gql_ws.specs.Session.{Held, says, limit, delivery, refusal, Outcome, step_of, quiet, shut, refuses, on_init}
use Rattle.gql_ws.specs.Session.{on_init_answered, on_accepted, on_start, on_stop, on_ping_answered, on_item, on_end, on_message, in_open}
use Rattle.gql_ws.specs.Session.{ws_step, new_core, steps_from, is_graphql, unready, taken_id, begins, on_allowed, failed}
use Rattle.gql_ws.specs.Session.{refused_message, on_refused, or_null, after, session_at}
use Rattle.gql_ws.specs.declared.client_message.ClientMessage.{ClientMessage}
use Rattle.gql_ws.specs.declared.client_message.ClientMessage.TheVariants as message
use Rattle.gql_ws.specs.declared.job.Job.{Job}
use Rattle.gql_ws.specs.declared.job.Job.TheVariants as job
use Rattle.gql_ws.specs.declared.live.Live.{Live}
use Rattle.gql_ws.specs.declared.session.Stage.{Stage}
use Rattle.gql_ws.specs.declared.session.Stage.TheVariants as stage
use Rattle.gql_ws.specs.declared.session.WsCore.{WsCore}
use Rattle.gql_ws.specs.declared.ws_event.WsEvent.{WsEvent}
use Rattle.gql_ws.specs.declared.ws_event.WsEvent.TheVariants as event
use Rattle.gql_ws.proofs.FoundLemmas.{and_false, some_same, bytes_same, bytes_equal}
use Rattle.gql_ws.proofs.StartLemmas.{has, IsBelow, or_true, or_false, tests_id, tests_number, Tests, has_without, has_placed, found_has}
use Rattle.gql_ws.proofs.StartLemmas.{has_found, single_without, below_without, below_placed, single_ids_placed, single_numbers_placed}

abbrev number_in : Option Live → Option ℕ
number_in = option_map (λ (start : Live). start.number)

abbrev pub is_acknowledged : Stage → Bool
is_acknowledged stage.Acknowledged = true
is_acknowledged stage.New = false
is_acknowledged stage.Initialising = false

-- a state that tells what went before
pub record Tells (spoken : Protocols) (past : List Moment) (core : WsCore) : Type 0 where
  pub speaks : core.protocol ≡ spoken
  pub lives : (n : ℕ) → (i : List ℕ) → has n i core.live ≡ is_live spoken n i past
  pub acks : is_acknowledged core.stage ≡ acknowledged past
  pub counts : core.starts ≡ starts past
  pub shuts : core.closed ≡ closed past
  pub empties : core.closed ≡ true → core.live ≡ []
  pub waits : is_acknowledged core.stage ≡ false → core.live ≡ []
  pub ids : (i : List ℕ) → IsSingle (has_id i) core.live
  pub numbers : (n : ℕ) → IsSingle (has_number n) core.live
  pub below : IsBelow core.starts core.live

-- an outcome that is safe, and whose state tells what went before with it
abbrev Right : Protocols → List Moment → WsEvent → Outcome → Type 0
Right spoken past now outcome = IsSafe spoken past now outcome.1 × Tells spoken ((now, outcome.1) ∷ past) outcome.0

abbrev false_true : {A : Type 0} → false ≡ true → A
false_true e = absurd (both_ways false refl e)

-- where nothing is live, nothing is owed
none_owed : (spoken : Protocols) (past : List Moment) (now : WsEvent) (out : Option Frame)
    → ((n : ℕ) → (i : List ℕ) → is_live spoken n i past ≡ false) → Answers spoken past now out
none_owed spoken past (event.Item number response) out h = λ i e. absurd (both_ways _ (h number i) e)
none_owed spoken past (event.Ended number) out h = λ i e. absurd (both_ways _ (h number i) e)
none_owed spoken past (event.Refused number errors) out h = λ i e. absurd (both_ways _ (h number i) e)
none_owed spoken past (event.Message (Ok (message.Stop id))) out h = λ n e. absurd (both_ways _ (h n id) e)
none_owed spoken past (event.Message (Ok (message.Start id request))) out h = tt
none_owed spoken past (event.Message (Ok (message.ConnectionInit payload))) out h = tt
none_owed spoken past (event.Message (Ok message.ConnectionTerminate)) out h = tt
none_owed spoken past (event.Message (Ok (message.Ping payload))) out h = tt
none_owed spoken past (event.Message (Ok (message.Pong payload))) out h = tt
none_owed spoken past (event.Message (Err wrong)) out h = tt
none_owed spoken past event.InboxEnded out h = tt
none_owed spoken past (event.Init answer) out h = tt
none_owed spoken past (event.Ping answer) out h = tt
none_owed spoken past event.Timeout out h = tt

none_some : {A : Type 0} {x : A} → None ≡ Some x → ⊥
none_some {A} {x} h = Prim.search (rules, h)

no_id : (j : Job) → is_start_job j ≡ false → (i : List ℕ) → starts_id i j ≡ false
no_id (job.Start number id request replaced) e i = absurd (both_ways true e refl)
no_id job.Nothing e i = refl
no_id (job.Init payload) e i = refl
no_id (job.Ping payload) e i = refl
no_id (job.Drop number) e i = refl

and_to_false : (a b : Bool) → b ≡ false → (a && b) ≡ false
and_to_false a b e = ap (λ c. a && c) e ∙ and_false a

or_to_true : (a b : Bool) → b ≡ true → (a || b) ≡ true
or_to_true a b e = ap (λ c. a || c) e ∙ or_true a

module _ (spoken : Protocols) (past : List Moment) (core : WsCore) (told : Tells spoken past core) where
  -- a closed session
  right_closed : (now : WsEvent) → core.closed ≡ true → Right spoken past now (quiet core)
  right_closed now h =
      let empty : (n : ℕ) → (i : List ℕ) → is_live spoken n i past ≡ false = λ n i. sym (told.lives n i)
      ∙ ap (has n i) (told.empties h) in (
        record {
          one_acknowledgement = λ e. false_true e;
          acknowledged_first = λ e. false_true e;
          numbered = λ n i e. false_true e;
          fresh = λ z i w. false_true w;
          answered = none_owed spoken past now None empty;
          nothing_else = λ e. false_true e;
          silent_after_close = λ e. (refl, refl);
        },
        record {
          speaks = told.speaks;
          lives = λ n i. told.lives n i
              ∙ (empty n i ∙ sym (and_to_false (not (is_end spoken n i now || (false || closes past (now, step_of None job.Nothing))))
              (is_live spoken n i past) (empty n i)));
          acks = told.acks;
          counts = told.counts;
          shuts = h ∙ sym (or_to_true (closes past (now, step_of None job.Nothing)) (closed past) (sym told.shuts ∙ h));
          empties = told.empties;
          waits = told.waits;
          ids = told.ids;
          numbers = told.numbers;
          below = told.below;
        },
      )

  module _ (is_open : core.closed ≡ false) where
    open_past : closed past ≡ false
    open_past = sym told.shuts ∙ is_open

    -- a step that closes
    right_shut : (now : WsEvent) (out : Option Frame) → is_ack out ≡ false → is_delivery out ≡ false
        → closes past (now, step_of out job.Nothing) ≡ true → Answers spoken past now out
        → Right spoken past now (shut core, step_of out job.Nothing)
    right_shut now out no_ack no_delivery last owed = (
      record {
        one_acknowledgement = λ e. absurd (both_ways (is_ack out) no_ack e);
        acknowledged_first = λ e. absurd (both_ways (is_delivery out || false) (or_false (is_delivery out) ∙ no_delivery) e);
        numbered = λ n i e. false_true e;
        fresh = λ z i w. false_true w;
        answered = owed;
        nothing_else = λ e. absurd (both_ways (is_delivery out) no_delivery e);
        silent_after_close = λ e. absurd (both_ways (closed past) open_past e);
      },
      record {
        speaks = told.speaks;
        lives = λ n i. sym (ap (λ b. not b && is_live spoken n i past)
            (or_to_true (is_end spoken n i now) (false || closes past (now, step_of out job.Nothing)) last));
        acks = told.acks ∙ sym (ap (λ b. b || acknowledged past) no_ack);
        counts = told.counts;
        shuts = sym (ap (λ b. b || closed past) last);
        empties = λ e. refl;
        waits = λ e. refl;
        ids = λ i. tt;
        numbers = λ n. tt;
        below = tt;
      },
    )

    -- a step without acknowledgement, delivery, start and close, after which the same starts are live
    right_plain : (now : WsEvent) (later : WsCore) (out : Option Frame) (wanted : Job)
        → later.protocol ≡ core.protocol → later.live ≡ core.live → is_acknowledged later.stage ≡ is_acknowledged core.stage
        → later.starts ≡ core.starts → later.closed ≡ core.closed
        → is_ack out ≡ false → is_delivery out ≡ false → is_start_job wanted ≡ false
        → ((n : ℕ) → (i : List ℕ) → starts_as n i wanted ≡ false)
        → closes past (now, step_of out wanted) ≡ false
        → ((n : ℕ) → (i : List ℕ) → is_live spoken n i ((now, step_of out wanted) ∷ past) ≡ is_live spoken n i past)
        → Answers spoken past now out
        → Right spoken past now (later, step_of out wanted)
    right_plain now later out wanted same_protocol same_live same_stage same_starts same_closed no_ack no_delivery no_start
        no_number goes_on same_lives owed = (
          record {
            one_acknowledgement = λ e. absurd (both_ways (is_ack out) no_ack e);
            acknowledged_first = λ e. absurd (elim (or_cases (is_delivery out) (is_start_job wanted) e) [
              | inl f ↦ both_ways (is_delivery out) no_delivery f
              | inr f ↦ both_ways (is_start_job wanted) no_start f
            ]);
            numbered = λ n i e. absurd (both_ways (starts_as n i wanted) (no_number n i) e);
            fresh = λ z i w. absurd (both_ways (starts_id i wanted) (no_id wanted no_start i) w);
            answered = owed;
            nothing_else = λ e. absurd (both_ways (is_delivery out) no_delivery e);
            silent_after_close = λ e. absurd (both_ways (closed past) open_past e);
          },
          record {
            speaks = same_protocol ∙ told.speaks;
            lives = λ n i. ap (has n i) same_live ∙ (told.lives n i ∙ sym (same_lives n i));
            acks = same_stage ∙ (told.acks ∙ sym (ap (λ b. b || acknowledged past) no_ack));
            counts = same_starts ∙ (told.counts ∙ sym (cond-false (is_start_job wanted) (starts past + 1) (starts past) no_start));
            shuts = same_closed ∙ (told.shuts ∙ sym (ap (λ b. b || closed past) goes_on));
            empties = λ e. absurd (both_ways core.closed is_open (sym same_closed ∙ e));
            waits = λ e. same_live ∙ told.waits (sym same_stage ∙ e);
            ids = λ i. subst (IsSingle (has_id i)) (sym same_live) (told.ids i);
            numbers = λ n. subst (IsSingle (has_number n)) (sym same_live) (told.numbers n);
            below = subst (λ k. IsBelow k later.live) (sym same_starts) (subst (IsBelow core.starts) (sym same_live) told.below);
          },
        )

    refusal_is : (text : List ℕ) (code : ℕ) (p : Protocols) → (is_ack (Some (refusal p text code)) ≡ false)
        × (is_delivery (Some (refusal p text code)) ≡ false) × (is_last (Some (refusal p text code)) ≡ true)
    refusal_is text code protocol.SubscriptionsTransportWS = (refl, refl, refl)
    refusal_is text code protocol.GraphQLWS = (refl, refl, refl)

    right_refusal : (now : WsEvent) (text : List ℕ) (code : ℕ) → Answers spoken past now (Some (refusal core.protocol text code))
        → Right spoken past now (refuses core text code)
    right_refusal now text code owed =
        let is : (is_ack (Some (refusal core.protocol text code)) ≡ false)
        × (is_delivery (Some (refusal core.protocol text code)) ≡ false) × (is_last (Some (refusal core.protocol text code)) ≡ true) =
        refusal_is text code core.protocol in
        right_shut now (Some (refusal core.protocol text code)) is.0 is.1
        (ap (λ b. b || (is_goodbye now || (is_start_event now && nat_le limit (starts past)))) is.2) owed

    right_init : (payload : Option Value) (s : Stage) → core.stage ≡ s
        → Right spoken past (event.Message (Ok (message.ConnectionInit payload))) (on_init core s payload)
    right_init payload stage.New e =
        right_plain _ _ None (job.Init (or_null payload)) refl refl (sym (ap is_acknowledged e)) refl refl refl refl refl
        (λ n i. refl) refl (λ n i. refl) tt
    right_init payload stage.Initialising e = right_refusal _ _ _ tt
    right_init payload stage.Acknowledged e = right_refusal _ _ _ tt

    right_init_answered : (answer : Result Held Error) (s : Stage) → core.stage ≡ s
        → Right spoken past (event.Init answer) (on_init_answered core s answer)
    right_init_answered (Ok answer) stage.Initialising e =
        let none : acknowledged past ≡ false = sym told.acks ∙ ap is_acknowledged e in (
          record {
            one_acknowledgement = λ f. none;
            acknowledged_first = λ f. false_true f;
            numbered = λ n i f. false_true f;
            fresh = λ z i w. false_true w;
            answered = tt;
            nothing_else = λ f. false_true f;
            silent_after_close = λ f. absurd (both_ways (closed past) open_past f);
          },
          record {
            speaks = told.speaks;
            lives = told.lives;
            acks = refl;
            counts = told.counts;
            shuts = told.shuts;
            empties = told.empties;
            waits = λ f. false_true (sym f);
            ids = told.ids;
            numbers = told.numbers;
            below = told.below;
          },
        )
    right_init_answered (Err error) stage.Initialising e = right_refusal _ _ _ tt
    right_init_answered answer stage.New e =
        right_plain _ _ None job.Nothing refl refl refl refl refl refl refl refl (λ n i. refl) refl (λ n i. refl) tt
    right_init_answered answer stage.Acknowledged e =
        right_plain _ _ None job.Nothing refl refl refl refl refl refl refl refl (λ n i. refl) refl (λ n i. refl) tt

    right_ping_answered : (answer : Result (Option Value) Error) (waits : Bool)
        → Right spoken past (event.Ping answer) (on_ping_answered core waits answer)
    right_ping_answered answer false =
        right_plain _ _ None job.Nothing refl refl refl refl refl refl refl refl (λ n i. refl) refl (λ n i. refl) tt
    right_ping_answered (Ok payload) true =
        right_plain _ _ (Some (frame.Pong payload)) job.Nothing refl refl refl refl refl refl refl refl (λ n i. refl) refl
        (λ n i. refl) tt
    right_ping_answered (Err error) true = right_refusal _ _ _ tt

    -- something live tells of an acknowledgement
    acknowledged_where_live : (n : ℕ) (i : List ℕ) → has n i core.live ≡ true → acknowledged past ≡ true
    acknowledged_where_live n i h = elim (cases_Bool (is_acknowledged core.stage)) [
      | inl e ↦ sym told.acks ∙ e
      | inr e ↦ absurd (both_ways (has n i core.live) (ap (has n i) (told.waits e)) h)
    ]

    -- a step that gives a live start one message
    right_delivery : (now : WsEvent) (live : List Live) (out : Option Frame) (wanted : Job) (number : ℕ) (id : List ℕ)
        → has number id core.live ≡ true
        → is_ack out ≡ false → is_start_job wanted ≡ false
        → ((n : ℕ) → (i : List ℕ) → starts_as n i wanted ≡ false)
        → closes past (now, step_of out wanted) ≡ false
        → ((n : ℕ) → (i : List ℕ) → has n i live ≡ is_live spoken n i ((now, step_of out wanted) ∷ past))
        → ((i : List ℕ) → IsSingle (has_id i) live) → ((n : ℕ) → IsSingle (has_number n) live) → IsBelow core.starts live
        → Answers spoken past now out → IsOfLive spoken past now
        → Right spoken past now (record core { live = live }, step_of out wanted)
    right_delivery now live out wanted number id has_it no_ack no_start no_number goes_on later_lives
        later_ids later_numbers later_below owed of_live = (
          record {
            one_acknowledgement = λ e. absurd (both_ways (is_ack out) no_ack e);
            acknowledged_first = λ e. acknowledged_where_live number id has_it;
            numbered = λ n i e. absurd (both_ways (starts_as n i wanted) (no_number n i) e);
            fresh = λ z i w. absurd (both_ways (starts_id i wanted) (no_id wanted no_start i) w);
            answered = owed;
            nothing_else = λ e. of_live;
            silent_after_close = λ e. absurd (both_ways (closed past) open_past e);
          },
          record {
            speaks = told.speaks;
            lives = later_lives;
            acks = told.acks ∙ sym (ap (λ b. b || acknowledged past) no_ack);
            counts = told.counts ∙ sym (cond-false (is_start_job wanted) (starts past + 1) (starts past) no_start);
            shuts = told.shuts ∙ sym (ap (λ b. b || closed past) goes_on);
            empties = λ e. absurd (both_ways core.closed is_open e);
            waits = λ e. absurd (both_ways (has number id core.live) (ap (has number id) (told.waits e)) has_it);
            ids = later_ids;
            numbers = later_numbers;
            below = later_below;
          },
        )

    -- what is found, and what is not
    found_number : (number : ℕ) (start : Live) → found (has_number number) core.live ≡ Some start → has number start.id core.live ≡ true
    found_number number start e =
        let both : (has start.number start.id core.live ≡ true) × (has_number number start ≡ true) =
        found_has (has_number number) core.live start e in
        subst (λ n. has n start.id core.live ≡ true) (eqb-true start.number number both.1) both.0

    found_id : (id : List ℕ) (start : Live) → found (has_id id) core.live ≡ Some start → has start.number id core.live ≡ true
    found_id id start e =
        let both : (has start.number start.id core.live ≡ true) × (has_id id start ≡ true) = found_has (has_id id) core.live start e in
        subst (λ i. has start.number i core.live ≡ true) (bytes_equal start.id id both.1) both.0

    number_at : (number : ℕ) (i : List ℕ) → is_live spoken number i past ≡ true
        → found (has_number number) core.live ≡ Some (live_start i number)
    number_at number i h =
        has_found (has_number number) number i core.live (λ s e. tests_number number number i s e
        ∙ eq-eqb number number refl) (told.numbers number) (told.lives number i ∙ h)

    id_at : (number : ℕ) (id : List ℕ) → is_live spoken number id past ≡ true → found (has_id id) core.live ≡ Some (live_start id number)
    id_at number id h =
        has_found (has_id id) number id core.live (λ s e. tests_id id number id s e ∙ bytes_same id) (told.ids id) (told.lives number id
        ∙ h)

    kept : (t : Live → Bool) (n : ℕ) (i : List ℕ) (b : Bool) → Tests t n i b → IsSingle t core.live → found t core.live ≡ None
        → (not (b || false) && is_live spoken n i past) ≡ is_live spoken n i past
    kept t n i true agree single e = elim (cases_Bool (is_live spoken n i past)) [
      | inl h ↦ absurd (none_some (sym e ∙ has_found t n i core.live agree single (told.lives n i ∙ h)))
      | inr h ↦ sym h
    ]
    kept t n i false agree single e = refl

    gone : (t : Live → Bool) (n : ℕ) (i : List ℕ) (b : Bool) → Tests t n i b → IsSingle t core.live
        → has n i (without t core.live) ≡ (not (b || false) && is_live spoken n i past)
    gone t n i b agree single = has_without t n i b core.live agree single
        ∙ (ap (λ x. not b && x) (told.lives n i) ∙ sym (ap (λ c. not c && is_live spoken n i past) (or_false b)))

    delivery_is : (i : List ℕ) (response : Response) (p : Protocols) → (is_ack (Some (delivery p i response)) ≡ false)
        × (is_last (Some (delivery p i response)) ≡ false)
    delivery_is i response protocol.SubscriptionsTransportWS = (refl, refl)
    delivery_is i response protocol.GraphQLWS = (refl, refl)

    right_item : (number : ℕ) (response : Response) (o : Option Live) → found (has_number number) core.live ≡ o
        → Right spoken past (event.Item number response) (on_item core response o)
    right_item number response None e =
        right_plain _ _ None job.Nothing refl refl refl refl refl refl refl refl (λ n i. refl) refl (λ n i. refl)
        (λ i h. absurd (none_some (sym e ∙ number_at number i h)))
    right_item number response (Some start) e =
        let is : (is_ack (Some (delivery core.protocol start.id response)) ≡ false)
        × (is_last (Some (delivery core.protocol start.id response)) ≡ false) = delivery_is start.id response core.protocol in
        let goes_on : (is_last (Some (delivery core.protocol start.id response)) || false) ≡ false = ap (λ b. b || false) is.1 in
        right_delivery (event.Item number response) core.live
        (Some (delivery core.protocol start.id response)) job.Nothing number start.id (found_number number start e)
        is.0 refl (λ n i. refl) goes_on (λ n i. told.lives n i
        ∙ sym (ap (λ b. not b && is_live spoken n i past) goes_on)) told.ids told.numbers told.below
        (λ i h. ap (λ p. Some (delivery p start.id response)) told.speaks
        ∙ ap (λ j. Some (delivery spoken j response)) (ap (λ s. s.id) (some_same (sym e ∙ number_at number i h))))
        (start.id, sym (told.lives number start.id) ∙ found_number number start e)

    right_end : (number : ℕ) (o : Option Live) → found (has_number number) core.live ≡ o
        → Right spoken past (event.Ended number) (on_end core number o)
    right_end number None e = right_plain _ _ None job.Nothing refl refl refl refl refl refl refl refl (λ n i. refl) refl
        (λ n i. kept (has_number number) n i (number == n) (tests_number number n i) (told.numbers number) e)
        (λ i h. absurd (none_some (sym e ∙ number_at number i h)))
    right_end number (Some start) e =
        right_delivery (event.Ended number) (without (has_number number) core.live)
        (Some (frame.Complete start.id)) job.Nothing number start.id (found_number number start e)
        refl refl (λ n i. refl) refl (λ n i. gone (has_number number) n i (number == n) (tests_number number n i) (told.numbers number))
        (λ i. single_without (has_id i) (has_number number) core.live (told.ids i))
        (λ n. single_without (has_number n) (has_number number) core.live (told.numbers n))
        (below_without core.starts (has_number number) core.live told.below)
        (λ i h. ap (λ j. Some (frame.Complete j)) (ap (λ s. s.id) (some_same (sym e ∙ number_at number i h))))
        (start.id, sym (told.lives number start.id) ∙ found_number number start e)

    right_stop : (id : List ℕ) (o : Option Live) → found (has_id id) core.live ≡ o
        → Right spoken past (event.Message (Ok (message.Stop id))) (on_stop core id (number_in o))
    right_stop id None e = right_plain _ _ None job.Nothing refl refl refl refl refl refl refl refl (λ n i. refl) refl
        (λ n i. kept (has_id id) n i (bytes_eq id i) (tests_id id n i) (told.ids id) e)
        (λ n h. absurd (none_some (sym e ∙ id_at n id h)))
    right_stop id (Some start) e =
        right_delivery (event.Message (Ok (message.Stop id))) (without (has_id id) core.live) (Some (frame.Complete id))
        (job.Drop start.number) start.number id (found_id id start e)
        refl refl (λ n i. refl) refl (λ n i. gone (has_id id) n i (bytes_eq id i) (tests_id id n i) (told.ids id))
        (λ i. single_without (has_id i) (has_id id) core.live (told.ids i))
        (λ n. single_without (has_number n) (has_id id) core.live (told.numbers n))
        (below_without core.starts (has_id id) core.live told.below)
        (λ n h. refl)
        (start.number, sym (told.lives start.number id) ∙ found_id id start e)

    right_begins : (id : List ℕ) (request : Request) → core.stage ≡ stage.Acknowledged → nat_le limit core.starts ≡ false
        → (is_graphql spoken ≡ true → found (has_id id) core.live ≡ None)
        → Right spoken past (event.Message (Ok (message.Start id request))) (begins core id request)
    right_begins id request e f free =
        let within : nat_le limit (starts past) ≡ false = ap (nat_le limit) (sym told.counts) ∙ f in (
          record {
            one_acknowledgement = λ g. false_true g;
            acknowledged_first = λ g. sym told.acks ∙ ap is_acknowledged e;
            numbered = λ n i g. let both : ((core.starts == n) ≡ true) × (bytes_eq id i ≡ true) = and_parts _ _ g in
                sym (eqb-true core.starts n both.0) ∙ told.counts;
            fresh = λ z i w n. elim (cases_Bool (is_live spoken n i past)) [
              | inl l ↦
                  absurd (none_some (sym (free z) ∙ id_at n id
                  (subst (λ j. is_live spoken n j past ≡ true) (sym (bytes_equal id i w)) l)))
              | inr l ↦ l
            ];
            answered = tt;
            nothing_else = λ g. false_true g;
            silent_after_close = λ g. absurd (both_ways (closed past) open_past g);
          },
          record {
            speaks = told.speaks;
            lives = λ n i. has_placed id core.starts n i core.live (told.ids id)
                ∙ (ap (λ x. ((core.starts == n) && bytes_eq id i) || (not (bytes_eq id i) && x)) (told.lives n i)
                ∙ sym (ap (λ c. ((core.starts == n) && bytes_eq id i) || (not c && is_live spoken n i past))
                (ap (λ c. bytes_eq id i || c) within ∙ or_false (bytes_eq id i))));
            acks = told.acks;
            counts = ap (λ k. k + 1) told.counts;
            shuts = told.shuts ∙ sym (ap (λ b. b || closed past) within);
            empties = λ g. absurd (both_ways core.closed is_open g);
            waits = λ g. absurd (both_ways (is_acknowledged core.stage) g (ap is_acknowledged e));
            ids = λ i. single_ids_placed i id core.starts core.live (told.ids i);
            numbers = λ n. single_numbers_placed n id core.starts core.live told.below (told.numbers n);
            below = below_placed id core.starts core.live told.below;
          },
        )

    unready_is : (p : Protocols) → (is_ack (Some (unready p)) ≡ false) × (is_delivery (Some (unready p)) ≡ false)
        × (is_last (Some (unready p)) ≡ true)
    unready_is protocol.SubscriptionsTransportWS = (refl, refl, refl)
    unready_is protocol.GraphQLWS = (refl, refl, refl)

    right_unready : (id : List ℕ) (request : Request)
        → Right spoken past (event.Message (Ok (message.Start id request))) (says (shut core) (unready core.protocol))
    right_unready id request =
        let is : (is_ack (Some (unready core.protocol)) ≡ false) × (is_delivery (Some (unready core.protocol)) ≡ false)
        × (is_last (Some (unready core.protocol)) ≡ true) = unready_is core.protocol in
        right_shut (event.Message (Ok (message.Start id request))) (Some (unready core.protocol)) is.0 is.1
        (ap (λ b. b || (false || (true && nat_le limit (starts past)))) is.2) tt

    right_allowed : (id : List ℕ) (request : Request) (p : Protocols) (o : Option Live) → core.stage ≡ stage.Acknowledged
        → nat_le limit core.starts ≡ false
        → core.protocol ≡ p → found (has_id id) core.live ≡ o
        → Right spoken past (event.Message (Ok (message.Start id request))) (on_allowed core p id request (number_in o))
    right_allowed id request protocol.GraphQLWS (Some old) e f q r =
        right_shut (event.Message (Ok (message.Start id request))) (Some (taken_id id)) refl refl refl tt
    right_allowed id request protocol.GraphQLWS None e f q r = right_begins id request e f (λ z. r)
    right_allowed id request protocol.SubscriptionsTransportWS o e f q r =
        right_begins id request e f (λ z. absurd (both_ways (is_graphql spoken) (ap is_graphql (sym told.speaks ∙ q)) z))

    right_accepted : (id : List ℕ) (request : Request) (s : Stage) → core.stage ≡ s → nat_le limit core.starts ≡ false
        → Right spoken past (event.Message (Ok (message.Start id request))) (on_accepted core s id request)
    right_accepted id request stage.New e f = right_unready id request
    right_accepted id request stage.Initialising e f = right_unready id request
    right_accepted id request stage.Acknowledged e f = right_allowed id request core.protocol (found (has_id id) core.live) e f refl refl

    spoken_is : (p : Protocols) → core.protocol ≡ p → is_graphql spoken ≡ is_graphql p
    spoken_is p q = ap is_graphql (sym told.speaks ∙ q)

    right_refused : (number : ℕ) (errors : List ServerError) (p : Protocols) (o : Option Live) → core.protocol ≡ p
        → found (has_number number) core.live ≡ o → Right spoken past (event.Refused number errors) (on_refused core p number errors o)
    right_refused number errors p None q e = right_plain _ _ None job.Nothing refl refl refl refl refl refl refl refl (λ n i. refl) refl
        (λ n i. elim (cases_Bool (is_graphql spoken)) [
          | inl g ↦ ap (λ b. not ((b && (number == n)) || false) && is_live spoken n i past) g
              ∙ kept (has_number number) n i (number == n) (tests_number number n i) (told.numbers number) e
          | inr g ↦ ap (λ b. not ((b && (number == n)) || false) && is_live spoken n i past) g
        ])
        (λ i h. absurd (none_some (sym e ∙ number_at number i h)))
    right_refused number errors protocol.SubscriptionsTransportWS (Some start) q e =
        right_delivery (event.Refused number errors) core.live (Some (frame.Data start.id (failed errors))) job.Nothing number start.id
        (found_number number start e)
        refl refl (λ n i. refl) refl
        (λ n i. told.lives n i
        ∙ sym (ap (λ b. not ((b && (number == n)) || false) && is_live spoken n i past)
        (spoken_is protocol.SubscriptionsTransportWS q)))
        told.ids told.numbers told.below
        (λ i h. ap (λ j. Some (frame.Data j (failed errors))) (ap (λ s. s.id) (some_same (sym e ∙ number_at number i h)))
        ∙ ap (λ p. Some (refused_message p i errors)) (sym q ∙ told.speaks))
        (start.id, sym (told.lives number start.id) ∙ found_number number start e)
    right_refused number errors protocol.GraphQLWS (Some start) q e =
        right_delivery (event.Refused number errors) (without (has_number number) core.live) (Some (frame.Error start.id errors))
        (job.Drop number) number start.id (found_number number start e)
        refl refl (λ n i. refl) refl
        (λ n i. gone (has_number number) n i (number == n) (tests_number number n i) (told.numbers number)
        ∙ sym (ap (λ b. not ((b && (number == n)) || false) && is_live spoken n i past) (spoken_is protocol.GraphQLWS q)))
        (λ i. single_without (has_id i) (has_number number) core.live (told.ids i))
        (λ n. single_without (has_number n) (has_number number) core.live (told.numbers n))
        (below_without core.starts (has_number number) core.live told.below)
        (λ i h. ap (λ j. Some (frame.Error j errors)) (ap (λ s. s.id) (some_same (sym e ∙ number_at number i h)))
        ∙ ap (λ p. Some (refused_message p i errors)) (sym q ∙ told.speaks))
        (start.id, sym (told.lives number start.id) ∙ found_number number start e)

    right_start : (id : List ℕ) (request : Request)
        → Right spoken past (event.Message (Ok (message.Start id request))) (on_start core id request)
    right_start id request = elim (cases_Bool (nat_le limit core.starts)) [
      | inl h ↦
          subst (Right spoken past (event.Message (Ok (message.Start id request))))
          (sym (cond-true (nat_le limit core.starts) (quiet (shut core)) (on_accepted core core.stage id request) h))
          (right_shut (event.Message (Ok (message.Start id request))) None refl refl (sym (ap (nat_le limit) told.counts) ∙ h) tt)
      | inr h ↦
          subst (Right spoken past (event.Message (Ok (message.Start id request))))
          (sym (cond-false (nat_le limit core.starts) (quiet (shut core)) (on_accepted core core.stage id request) h))
          (right_accepted id request core.stage refl h)
    ]

    right_message : (said : ClientMessage) → Right spoken past (event.Message (Ok said)) (on_message core said)
    right_message (message.ConnectionInit payload) = right_init payload core.stage refl
    right_message (message.Start id request) = right_start id request
    right_message (message.Stop id) = right_stop id (found (has_id id) core.live) refl
    right_message message.ConnectionTerminate = right_shut _ None refl refl refl tt
    right_message (message.Ping payload) =
        right_plain _ _ None (job.Ping payload) refl refl refl refl refl refl refl refl (λ n i. refl) refl (λ n i. refl) tt
    right_message (message.Pong payload) =
        right_plain _ _ None job.Nothing refl refl refl refl refl refl refl refl (λ n i. refl) refl (λ n i. refl) tt

    right_open : (now : WsEvent) → Right spoken past now (in_open core now)
    right_open (event.Message (Ok said)) = right_message said
    right_open (event.Message (Err wrong)) = right_shut _ (Some (frame.Close 1002 (fault_text wrong))) refl refl refl tt
    right_open event.InboxEnded = right_shut _ None refl refl refl tt
    right_open (event.Init answer) = right_init_answered answer core.stage refl
    right_open (event.Ping answer) = right_ping_answered answer core.ping
    right_open (event.Item number response) = right_item number response _ refl
    right_open (event.Ended number) = right_end number _ refl
    right_open (event.Refused number errors) = right_refused number errors core.protocol _ refl refl
    right_open event.Timeout = right_refusal _ _ _ tt

  right_step : (now : WsEvent) → Right spoken past now (ws_step core now)
  right_step now = elim (cases_Bool core.closed) [
    | inl h ↦ subst (Right spoken past now) (sym (cond-true core.closed (quiet core) (in_open core now) h)) (right_closed now h)
    | inr h ↦ subst (Right spoken past now) (sym (cond-false core.closed (quiet core) (in_open core now) h)) (right_open h now)
  ]

safe_after : (spoken : Protocols) (events : List WsEvent) (past : List Moment) (core : WsCore) → Tells spoken past core
    → SafeAfter spoken past events (steps_from core events)
safe_after spoken [] past core told = tt
safe_after spoken (now ∷ events) past core told =
    let right : Right spoken past now (ws_step core now) = right_step spoken past core told now in
    (right.0, safe_after spoken events ((now, (ws_step core now).1) ∷ past) (ws_step core now).0 right.1)

pub tells_new : (spoken : Protocols) (connection : Held) → Tells spoken [] (new_core spoken connection)
tells_new spoken connection = record {
  speaks = refl;
  lives = λ n i. refl;
  acks = refl;
  counts = refl;
  shuts = refl;
  empties = λ e. refl;
  waits = λ e. refl;
  ids = λ i. tt;
  numbers = λ n. tt;
  below = tt;
}

pub every_session : EverySessionIsSafe
every_session spoken connection events = safe_after spoken events [] (new_core spoken connection) (tells_new spoken connection)

told_after : (spoken : Protocols) (events : List WsEvent) (past : List Moment) (core : WsCore) → Tells spoken past core
    → Tells spoken (past_after past core events) (after core events)
told_after spoken [] past core told = told
told_after spoken (now ∷ events) past core told =
    let right : Right spoken past now (ws_step core now) = right_step spoken past core told now in
    told_after spoken events ((now, (ws_step core now).1) ∷ past) (ws_step core now).0 right.1

data_at : (core : WsCore) (s : Stage) → is_some (session_at core s) ≡ is_acknowledged s
data_at core stage.Acknowledged = refl
data_at core stage.New = refl
data_at core stage.Initialising = refl

pub data_acknowledged : DataOnceAcknowledged
data_acknowledged spoken connection events =
    let core : WsCore = after (new_core spoken connection) events in
    data_at core core.stage ∙ (told_after spoken events [] (new_core spoken connection) (tells_new spoken connection)).acks
