use Rattle.std.proofs.Common.{◌≡◌, true, false, List, [], ◌∷◌, ◌++◌, length, sym, ap, ◌∙◌}
use Rattle.gql_tasks.specs.Arena.{marks_of}
use Rattle.gql_tasks.specs.Parts.{at}
use Rattle.gql_tasks.specs.Record.{waiting_from}
use Rattle.gql_tasks.proofs.RunLemmas.{first_sound}
use Rattle.gql_tasks_tests.proofs.NumberLemmas.{first_of, one_root}
use Rattle.gql_tasks_tests.specs.declared.numbers.Number.{Number}
use Rattle.gql_tasks_tests.proofs.tests.root.Goals as goal

pub run_phase-requires-clause-sound : goal.run_phase-requires-clause-sound
run_phase-requires-clause-sound g c =
    let are : c.push.new.self.tasks.items ≡ first_of c.args.ground 1 ∷ []
    = c.in_ok-push.ensures ∙ ap (λ (ts : List Number). ts ++ first_of c.args.ground 1 ∷ []) c.new-plan.ensures in
    first_sound (at c.push.new.self c.in_ok-arena.arena c.over-run.result) 1
    c.in_ok-arena.ensures.states (ap length (sym are)) c.in_ok-arena.ensures.waits
    (one_root c.args.ground true 1 c.push.new.self.tasks.items c.requires.mutation are)

pub run_phase-requires-clause-alone : goal.run_phase-requires-clause-alone
run_phase-requires-clause-alone g c =
    ap length (c.in_ok-arena.ensures.waits ∙ ap (λ ss. waiting_from 0 (marks_of ss)) c.in_ok-arena.ensures.states)
