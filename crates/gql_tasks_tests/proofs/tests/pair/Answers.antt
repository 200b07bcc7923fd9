use Rattle.std.proofs.Common.{◌≡◌, false, List, [], ◌∷◌, ◌++◌, length, sym, ap, ◌∙◌}
use Rattle.gql_tasks.specs.Parts.{at}
use Rattle.gql_tasks.proofs.RunLemmas.{first_sound}
use Rattle.gql_tasks_tests.proofs.NumberLemmas.{first_of, two_roots}
use Rattle.gql_tasks_tests.specs.declared.numbers.Number.{Number}
use Rattle.gql_tasks_tests.proofs.tests.pair.Goals as goal

pub finish-requires : goal.finish-requires
finish-requires g c =
    let are : c.push-2.new.self.tasks.items ≡ first_of c.args.ground 0 ∷ first_of c.args.ground 1 ∷ []
    = c.in_ok-push-2.ensures ∙ ap (λ (ts : List Number). ts ++ first_of c.args.ground 1 ∷ [])
    (c.in_ok-push.ensures ∙ ap (λ (ts : List Number). ts ++ first_of c.args.ground 0 ∷ []) c.new-plan.ensures) in
    record {
      sound = first_sound (at c.push-2.new.self c.in_ok-arena.arena c.over-run.result) 2
          c.in_ok-arena.ensures.states (ap length (sym are)) c.in_ok-arena.ensures.waits
          (two_roots c.args.ground false 0 1 c.push-2.new.self.tasks.items c.requires.query are);
    }
