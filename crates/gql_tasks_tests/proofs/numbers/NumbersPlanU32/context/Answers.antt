use Rattle.std.proofs.Common.{◌≡◌, ◌<◌, List, length, refl, sym, ap, subst, ◌∙◌}
use Rattle.std.proofs.lemmas.Option.{slice_get_read}
use Rattle.std.specs.Prelude.{Some}
use Rattle.gql_base.specs.declared.path_segment.PathSegment.{PathSegment}
use Rattle.gql_resolve.specs.Layers.{layers_of}
use Rattle.gql_tasks_tests.proofs.NumberLemmas.{aimed_some, call_is}
use Rattle.gql_tasks_tests.specs.declared.numbers.Number.{Number}
use Rattle.gql_tasks_tests.proofs.numbers.NumbersPlanU32.context.Goals as goal

pub invariant_of-result : goal.invariant_of-result
invariant_of-result c = record {
  not_empty = subst (λ (p : List PathSegment). 0 < length p) (sym c.as_slice.ensures.value)
      (aimed_some c.args.self.now.tasks.items c.args.self.now.path.items c.args.number c.requires.within c.requires.aimed);
}

pub returns : goal.returns
returns c = λ task is.
    let here = c.index-task.result.now in
    let read = slice_get_read c.args.self.now.tasks.items (length c.args.self.now.tasks.items) c.args.number here refl c.requires.within c.index-task.ensures in
    let same : here ≡ task = (let e : Some here ≡ Some task = sym read ∙ is in cc) in
    let segments = c.as_slice.ensures.value ∙ c.requires.aimed task is in
    record {
      call_is = call_is here task same c.as_slice.result.now segments c.from.result c.from.ensures c.new.result.members.now c.new.ensures (layers_of c.layers.result) c.layers.ensures;
      task_is = refl;
      segments_is = segments;
      item_is = ap (λ (t : Number). t.ground.now.field) same;
      env_is = ap (λ (t : Number). t.ground.now.env) same;
    }
