use Rattle.std.proofs.Common.{◌≡◌, ◌+◌, ◌*◌, length}
use Rattle.gql_tokens.specs.declared.token.Punctuator.TheVariants.{CloseBrace}
use Rattle.gql_doc.specs.Drafts.{added}
use Rattle.gql_doc.specs.Drafting.{selection_draft, selections_draft}
use Rattle.gql_doc.specs.Reading.{other_than}
use Rattle.gql_doc.proofs.LoopLaws.{ahead}
use Rattle.gql_doc.proofs.selections.+set.Given as goal

abbrev pub decreases-read_set : goal.decreases-read_set
decreases-read_set l = 6 * l.levels

abbrev pub decreases-read_set_or_none : goal.decreases-read_set_or_none
decreases-read_set_or_none l = 6 * l.levels + 1

abbrev pub decreases-read_inline_behind : goal.decreases-read_inline_behind
decreases-read_inline_behind l = 6 * l.levels + 1

abbrev pub decreases-read_spread : goal.decreases-read_spread
decreases-read_spread l = 6 * l.levels + 2

abbrev pub decreases-read_field : goal.decreases-read_field
decreases-read_field l = 6 * l.levels + 2

abbrev pub decreases-read_selection : goal.decreases-read_selection
decreases-read_selection l = 6 * l.levels + 3

abbrev pub decreases-read_selections : goal.decreases-read_selections
decreases-read_selections l = 6 * l.levels + 4

abbrev pub decreases-read_set_behind : goal.decreases-read_set_behind
decreases-read_set_behind l = 6 * l.levels + 5

abbrev pub invariant-read_selections-more : goal.invariant-read_selections-more
invariant-read_selections-more l = ahead added (other_than CloseBrace) (selection_draft l.levels) l.selections l.cursor ≡ selections_draft l.levels l.fn.cursor

abbrev pub decreases-read_selections-more : goal.decreases-read_selections-more
decreases-read_selections-more l = length l.cursor
