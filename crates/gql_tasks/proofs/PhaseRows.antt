-- A mutation computed, phase after phase: each root key adds a number to the world.
use Rattle.std.proofs.Common.{◌≡◌, ◌≤◌, ◌<◌, ◌+◌, ◌==◌, ℕ, zero, suc, Bool, true, false, if◌then◌else◌, List, [], ◌∷◌, refl, ap, arith}
use Rattle.std.specs.Prelude.{Some, None, Ok, codes, slice_get}
use Rattle.gql_base.specs.declared.value.Value.TheVariants as value
use Rattle.gql_resolve.specs.declared.field_value.FieldValue.TheVariants as kind
use Rattle.gql_resolve.specs.declared.record_entry.RecordEntry.{RecordEntry}
use Rattle.gql_tasks.specs.Arena.{Subject}
use Rattle.gql_tasks.specs.Pace.{pending_then_ready, told_of}
use Rattle.gql_tasks.specs.Phases.{IsPhase, Phases, Serving, world_past}
use Rattle.gql_tasks.specs.Record.{Choice, Mark, Stage, ready}
use Rattle.gql_tasks.proofs.RecordLemmas.{some_is}

-- turns that choose the first of those that wait, and count
abbrev first_always : Choice ℕ
first_always = record { place = λ state n. 0; after = λ state n. suc state }

-- `mutation { bump(by: 1) x: bump(by: 2) cell }`: the tasks are 0, 1 and 2, and the numbers of their resolvers are what they add
abbrev added : ℕ → ℕ
added zero = 1
added (suc zero) = 2
added (suc (suc n)) = 0

abbrev key : ℕ → List ℕ
key zero = codes "bump"
key (suc zero) = codes "x"
key (suc (suc n)) = codes "cell"

abbrev keys : Subject ℕ ℕ
keys = record {
  call = λ task. record { is_root = true; resolver = added task; parent = kind.Value value.Null; arguments = []; layers = [] };
  path = key;
  beneath = λ task answer. [];
}

-- the second of them is pending once
abbrev pace : ℕ → ℕ
pace resolver = if resolver == 2 then 1 else 0

abbrev cells : Serving ℕ ℕ
cells = record {
  answer = λ call world. record { result = Ok None; added = []; headers = [] };
  effect = λ call world. world + call.resolver;
  delay = pace;
  paced = Unit {0};
}

-- the world after all three, and after two
last_world : world_past cells keys 0 (0 ∷ 1 ∷ 2 ∷ []) ≡ 3
last_world = refl

world_between : world_past cells keys 0 (0 ∷ []) ≡ 1
world_between = refl

abbrev entry : ℕ → Bool → RecordEntry
entry task done = record { task = task; path = key task; resolver = added task; ready = done }

abbrev at_stage : List ℕ → List Mark → List RecordEntry → ℕ → Stage ℕ ℕ
at_stage tasks marks told state = record {
  made = record { tasks = tasks; marks = marks };
  told = Some told;
  starts = Some tasks;
  turns = Some state;
}

abbrev none_yet : Stage ℕ ℕ
none_yet = at_stage [] [] [] 0

abbrev bumped : Stage ℕ ℕ
bumped = at_stage (0 ∷ []) (ready ∷ []) (entry 0 true ∷ []) 1

abbrev bumped_again : Stage ℕ ℕ
bumped_again = at_stage (0 ∷ 1 ∷ []) (ready ∷ ready ∷ []) (entry 0 true ∷ entry 1 false ∷ entry 1 true ∷ []) 3

abbrev all_told : Stage ℕ ℕ
all_told = at_stage (0 ∷ 1 ∷ 2 ∷ []) (ready ∷ ready ∷ ready ∷ []) (entry 0 true ∷ entry 1 false ∷ entry 1 true ∷ entry 2 true ∷ []) 4

abbrev delay : ℕ → ℕ
delay task = pace (added task)

first_phase : IsPhase cells keys first_always 0 0 none_yet bumped
first_phase = record {
  ran = record {
    entries = entry 0 true ∷ [];
    told_is = refl;
    starts_is = refl;
    waits = (tt, tt);
    turned = λ s is. (refl, (refl, refl), tt);
    state_is = refl;
    made_is = refl;
  };
  whole = refl;
  paces = λ keeps before some. record { earlier = λ k within. absurd (omega (arith, within)); paced = paced };
}
  where
    paced : (k task : ℕ) → 0 ≤ k → slice_get (0 ∷ []) k ≡ Some task → told_of k (entry 0 true ∷ []) ≡ pending_then_ready (delay task)
    paced zero task within is = ap (λ t. pending_then_ready (delay t)) (some_is is)
    paced (suc k) task within is = absurd (cc)

second_phase : IsPhase cells keys first_always 1 1 bumped bumped_again
second_phase = record {
  ran = record {
    entries = entry 1 false ∷ entry 1 true ∷ [];
    told_is = refl;
    starts_is = refl;
    waits = (tt, (tt, tt));
    turned = λ s is. (refl, (refl, refl), (refl, (refl, refl), tt));
    state_is = refl;
    made_is = refl;
  };
  whole = refl;
  paces = λ keeps before some. record { earlier = earlier; paced = paced };
}
  where
    earlier : (k : ℕ) → k < 1 → told_of k (entry 1 false ∷ entry 1 true ∷ []) ≡ []
    earlier zero within = refl
    earlier (suc k) within = absurd (omega (arith, within))

    paced : (k task : ℕ) → 1 ≤ k → slice_get (0 ∷ 1 ∷ []) k ≡ Some task
        → told_of k (entry 1 false ∷ entry 1 true ∷ []) ≡ pending_then_ready (delay task)
    paced zero task within is = absurd (omega (arith, within))
    paced (suc zero) task within is = ap (λ t. pending_then_ready (delay t)) (some_is is)
    paced (suc (suc k)) task within is = absurd (cc)

third_phase : IsPhase cells keys first_always 3 2 bumped_again all_told
third_phase = record {
  ran = record {
    entries = entry 2 true ∷ [];
    told_is = refl;
    starts_is = refl;
    waits = (tt, tt);
    turned = λ s is. (refl, (refl, refl), tt);
    state_is = refl;
    made_is = refl;
  };
  whole = refl;
  paces = λ keeps before some. record { earlier = earlier; paced = paced };
}
  where
    earlier : (k : ℕ) → k < 2 → told_of k (entry 2 true ∷ []) ≡ []
    earlier zero within = refl
    earlier (suc zero) within = refl
    earlier (suc (suc k)) within = absurd (omega (arith, within))

    paced : (k task : ℕ) → 2 ≤ k → slice_get (0 ∷ 1 ∷ 2 ∷ []) k ≡ Some task
        → told_of k (entry 2 true ∷ []) ≡ pending_then_ready (delay task)
    paced zero task within is = absurd (omega (arith, within))
    paced (suc zero) task within is = absurd (omega (arith, within))
    paced (suc (suc zero)) task within is = ap (λ t. pending_then_ready (delay t)) (some_is is)
    paced (suc (suc (suc k))) task within is = absurd (cc)

-- each root key is asked after the one before it has its answer, also where that one was pending
in_turn : Phases cells keys first_always 0 (0 ∷ 1 ∷ 2 ∷ []) none_yet all_told
in_turn = (bumped, first_phase, (bumped_again, second_phase, (all_told, third_phase, refl)))
