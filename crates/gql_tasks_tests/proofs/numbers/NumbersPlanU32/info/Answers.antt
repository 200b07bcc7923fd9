use Rattle.std.proofs.Common.{◌≡◌, ◌<◌, List, length, refl, sym, ap, subst, ◌∙◌}
use Rattle.std.proofs.lemmas.Option.{slice_get_read}
use Rattle.std.specs.Prelude.{Some}
use Rattle.gql_base.specs.declared.path_segment.PathSegment.{PathSegment}
use Rattle.gql_tasks.specs.Plan.{alias_in, name_in}
use Rattle.gql_tasks_tests.proofs.NumberLemmas.{aimed_some}
use Rattle.gql_tasks_tests.specs.declared.numbers.Number.{Number}
use Rattle.gql_tasks_tests.proofs.numbers.NumbersPlanU32.info.Goals as goal

pub invariant_of-result : goal.invariant_of-result
invariant_of-result c = record {
  not_empty = subst (λ (p : List PathSegment). 0 < length p) (sym c.as_slice.ensures.value)
      (aimed_some c.args.self.now.tasks.items c.args.self.now.path.items c.args.number c.requires.within c.requires.aimed);
}

pub returns : goal.returns
returns c = λ task is.
    let here = c.index.result.now in
    let read = slice_get_read c.args.self.now.tasks.items (length c.args.self.now.tasks.items) c.args.number here refl c.requires.within c.index.ensures in
    let same : here ≡ task = (let e : Some here ≡ Some task = sym read ∙ is in cc) in
    record {
      segments_is = c.as_slice.ensures.value ∙ c.requires.aimed task is;
      parent_is = c.as_str.ensures ∙ ap (λ (t : Number). t.ground.now.object) same;
      type_is = ap (λ (t : Number). t.ground.now.ty) same;
      name_is = c.as_str-2.ensures ∙ ap (λ (t : Number). name_in t.ground.now.field) same;
      alias_is = c.alias_of.ensures ∙ ap (λ (t : Number). alias_in t.ground.now.field) same;
      field_is = ap (λ (t : Number). t.ground.now.field) same;
    }
