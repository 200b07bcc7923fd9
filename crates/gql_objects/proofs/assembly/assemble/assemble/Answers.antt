use Rattle.std.proofs.Common.{subst, sym, ◌∙◌}
use Rattle.gql_objects.proofs.AssemblyLemmas.{IsPart, no_length, part_first, part_last, part_length, part_less, part_number, part_within}
use Rattle.gql_objects.proofs.assembly.assemble.assemble.Goals as goal

pub kept-init : goal.kept-init
kept-init g c = part_first c.args.roots c.args.kept.items c.args.places.now.items c.requires

pub put_place-requires-clause-number : goal.put_place-requires-clause-number
put_place-requires-clause-number g c =
    part_number c.args.roots c.args.kept.items c.args.places.now.items c.kept.kept.items c.pop.new.self.items c.in-Some.last
    c.kept.places.items
    c.in-Some.ensures.items c.kept.invariant

pub put_place-requires-clause-first : goal.put_place-requires-clause-first
put_place-requires-clause-first g c =
    part_within c.args.roots c.args.kept.items c.args.places.now.items c.kept.kept.items c.pop.new.self.items c.in-Some.last
    c.kept.places.items
    c.in-Some.ensures.items c.kept.invariant

pub kept-preserved : goal.kept-preserved
kept-preserved g c =
    subst (λ left. IsPart c.args.roots c.args.kept.items c.args.places.now.items left c.put_place.new.places.items)
    (sym c.give_back.ensures)
    (part_less c.args.roots c.args.kept.items c.args.places.now.items c.kept.kept.items c.pop.new.self.items c.in-Some.last
    c.kept.places.items
    c.put_place.new.places.items c.in-Some.ensures.items c.in_ok-put_place.ensures c.kept.invariant)

pub returns-clause-length : goal.returns-clause-length
returns-clause-length g c =
    let none = no_length c.kept.kept.items (sym c.kept.kept.ok.0 ∙ c.in_default.ensures.cases.0) in
    part_length c.args.roots c.args.kept.items c.args.places.now.items c.kept.kept.items c.kept.places.items none c.kept.invariant

pub returns-clause-placed : goal.returns-clause-placed
returns-clause-placed g c = λ base jobs answer early same held.
    let none = no_length c.kept.kept.items (sym c.kept.kept.ok.0 ∙ c.in_default.ensures.cases.0) in
    part_last c.args.roots c.args.kept.items c.args.places.now.items c.kept.kept.items c.kept.places.items none c.kept.invariant base jobs
    answer early same held
