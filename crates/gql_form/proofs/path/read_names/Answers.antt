use Rattle.std.proofs.Common.{◌≡◌, true, false, ap, ◌∙◌, arith, rules}
use Rattle.std.proofs.lemmas.Grind.{common_steps}
use Rattle.std.proofs.lemmas.Str.Pattern.{split_parts}
use Rattle.std.specs.List.{list_all}
use Rattle.gql_base.specs.Letters.{is_name}
use Rattle.gql_form.specs.Path.{parts}
use Rattle.gql_form.proofs.PathLemmas.{parts_cut, parts_last, all_cut, all_last}
use Rattle.gql_form.proofs.path.read_names.Goals as goal

pub returns-then-not-is_name : goal.returns-then-not-is_name
returns-then-not-is_name c =
    let l = c.loop-front in
    let cut = rw c.in-Some.is at (split_parts 46 l.left.now c.split_once.result c.split_once.ensures.cases (omega arith)) in
    let all = all_cut _ _ _ cut.0 cut.1 in
    let refused : list_all is_name (parts c.args.text.now) ≡ false = grind (arith, common_steps, all) in
    rw refused c.bad.ensures

pub loop-front-preserved : goal.loop-front-preserved
loop-front-preserved c =
    let l = c.loop-front in
    let cut = rw c.in-Some.is at (split_parts 46 l.left.now c.split_once.result c.split_once.ensures.cases (omega arith)) in
    let all = all_cut _ _ _ cut.0 cut.1 in
    let turned = ap parts cut.0 ∙ parts_cut c.in-Some.front.now c.in-Some.behind.now cut.1 in
    (grind (arith, common_steps, turned), grind (arith, common_steps, all), search rules)

pub returns-then-not-is_name-2 : goal.returns-then-not-is_name-2
returns-then-not-is_name-2 c =
    let l = c.loop-front in
    let none = rw c.in_default.is at (split_parts 46 l.left.now c.split_once.result c.split_once.ensures.cases (omega arith)) in
    let all = all_last l.left.now none in
    let refused : list_all is_name (parts c.args.text.now) ≡ false = grind (arith, common_steps, all) in
    rw refused c.bad-then-not-is_name-2.ensures

pub returns : goal.returns
returns c =
    let l = c.loop-front in
    let none = rw c.in_default.is at (split_parts 46 l.left.now c.split_once.result c.split_once.ensures.cases (omega arith)) in
    let all = all_last l.left.now none in
    let last = parts_last l.left.now none in
    let taken : list_all is_name (parts c.args.text.now) ≡ true = grind (arith, common_steps, all) in
    rw taken (grind (arith, common_steps, last))
