-- Which rules are plain, on examples.
use Rattle.std.proofs.Common.{[], ◌∷◌, refl}
use Rattle.std.specs.Prelude.{codes}
use Rattle.gql_bench.specs.Bump.{IsPlainRule}
use Rattle.gql_bench.specs.declared.rule.Rule.{Rule}
use Rattle.gql_bench.specs.declared.rule.RuleKind.{RuleKind}
use Rattle.gql_bench.specs.declared.rule.RuleKind.TheVariants as kinds

abbrev at_once : RuleKind → Rule
at_once kind = record { delay = 0; added = []; headers = []; kind = kind }

a_member_is_plain : IsPlainRule (at_once (kinds.Member (codes "id")))
a_member_is_plain = record { at_once = refl; none_added = refl; no_headers = refl; stays = refl }

a_raised_cell_is_not : IsPlainRule (at_once (kinds.Bump 0)) → ⊥
a_raised_cell_is_not plain = (let e = plain.stays in cc)

a_delay_is_not : IsPlainRule (record { delay = 1; added = []; headers = []; kind = kinds.Member (codes "id") }) → ⊥
a_delay_is_not plain = (let e = plain.at_once in cc)

an_added_error_is_not : IsPlainRule (record { delay = 0; added = codes "beside" ∷ []; headers = []; kind = kinds.Member (codes "id") }) → ⊥
an_added_error_is_not plain = (let e = plain.none_added in cc)
