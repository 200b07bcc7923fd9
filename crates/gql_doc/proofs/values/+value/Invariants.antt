use Rattle.std.proofs.Common.{◌≡◌, ◌+◌, ◌*◌, length}
use Rattle.gql_tokens.specs.declared.token.Punctuator.TheVariants.{CloseBracket, CloseBrace}
use Rattle.gql_doc.specs.Drafts.{added, with_member}
use Rattle.gql_doc.specs.Drafting.{value_draft, member_draft, values_draft, members_draft}
use Rattle.gql_doc.specs.Reading.{other_than}
use Rattle.gql_doc.proofs.LoopLaws.{ahead}
use Rattle.gql_doc.proofs.values.+value.Given as goal

abbrev pub decreases-read_list : goal.decreases-read_list
decreases-read_list l = 5 * l.levels + 4

abbrev pub decreases-read_member : goal.decreases-read_member
decreases-read_member l = 5 * l.levels + 2

abbrev pub decreases-read_members : goal.decreases-read_members
decreases-read_members l = 5 * l.levels + 3

abbrev pub decreases-read_object : goal.decreases-read_object
decreases-read_object l = 5 * l.levels + 4

abbrev pub decreases-read_value : goal.decreases-read_value
decreases-read_value l = 5 * l.levels + 1

abbrev pub decreases-read_values : goal.decreases-read_values
decreases-read_values l = 5 * l.levels + 2

abbrev pub invariant-read_members-members : goal.invariant-read_members-members
invariant-read_members-members l =
    ahead with_member (other_than CloseBrace) (member_draft l.variables l.levels) l.members l.cursor ≡ members_draft l.variables l.levels l.fn.cursor

abbrev pub decreases-read_members-members : goal.decreases-read_members-members
decreases-read_members-members l = length l.cursor

abbrev pub invariant-read_values-values : goal.invariant-read_values-values
invariant-read_values-values l =
    ahead added (other_than CloseBracket) (value_draft l.variables l.levels) l.values l.cursor ≡ values_draft l.variables l.levels l.fn.cursor

abbrev pub decreases-read_values-values : goal.decreases-read_values-values
decreases-read_values-values l = length l.cursor
