-- A rule that isn't `bump` changes no cell.
use Rattle.std.proofs.Common.{◌≡◌, ℤ, false, List, refl}
use Rattle.gql_resolve.specs.Call.{Call}
use Rattle.gql_bench.specs.Built.{is_bump}
use Rattle.gql_bench.specs.Bump.{kind_effect}
use Rattle.gql_bench.specs.declared.rule.RuleKind.{RuleKind}
use Rattle.gql_bench.specs.declared.rule.RuleKind.TheVariants as kinds

pub kind_stays : (kind : RuleKind) (call : Call ℤ) (cells : List ℤ) → is_bump kind ≡ false → kind_effect kind call cells ≡ cells
kind_stays (kinds.Const given) call cells is = refl
kind_stays kinds.None call cells is = refl
kind_stays (kinds.Fail message) call cells is = refl
kind_stays (kinds.Member name) call cells is = refl
kind_stays (kinds.Arg name) call cells is = refl
kind_stays (kinds.Sum paths) call cells is = refl
kind_stays kinds.Entities call cells is = refl
kind_stays (kinds.Read place) call cells is = refl
kind_stays (kinds.Bump place) call cells is = absurd (cc)
