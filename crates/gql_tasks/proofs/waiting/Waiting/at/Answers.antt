use Rattle.std.proofs.Common.{length, slice_get, refl, sym, ◌∙◌, ap}
use Rattle.std.proofs.lemmas.Option.{slice_get_read}
use Rattle.gql_tasks.proofs.BlockLemmas.{get-spot}
use Rattle.gql_tasks.proofs.waiting.Waiting.at.Goals as goal

pub returns : goal.returns
returns c =
    let bs = c.self.inside.blocks.items in
    let spot = c.find-spot.result in
    let block = c.index.result.now in
    let is = slice_get_read bs (length bs) spot.block block refl c.find-spot.ensures.there c.index.ensures in
    let within = c.find-spot.ensures.within block is in
    ap (λ ns. slice_get ns c.args.place) (sym c.self.view_is) ∙ get-spot bs c.args.place spot.block spot.index block is c.find-spot.ensures
    ∙ slice_get_read block.items (length block.items) spot.index c.index-2.result.now refl within c.index-2.ensures
