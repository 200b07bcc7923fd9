use Rattle.std.proofs.Common.{length, refl, ap, ◌∙◌}
use Rattle.std.specs.Prelude.{not}
use Rattle.std.proofs.lemmas.Option.{slice_get_read}
use Rattle.gql_objects.proofs.GatheredLemmas.{put_if_none, put_if_some}
use Rattle.gql_objects.proofs.assembly.assemble.put_if_open.Goals as goal

pub returns-then-is_none : goal.returns-then-is_none
returns-then-is_none c =
    let read = slice_get_read c.args.places.now.items (length c.args.places.now.items) c.args.number c.index.result.now refl c.requires
    c.index.ensures in
    put_if_none c.args.place c.args.places.now.items c.args.number c.index.result.now read (c.is_none.ensures ∙ ap not c.if-is_none.true)

pub returns-else-is_none : goal.returns-else-is_none
returns-else-is_none c =
    let read = slice_get_read c.args.places.now.items (length c.args.places.now.items) c.args.number c.index.result.now refl c.requires
    c.index.ensures in
    put_if_some c.args.place c.args.places.now.items c.args.number c.index.result.now read (c.is_none.ensures ∙ ap not c.if-is_none.false)
