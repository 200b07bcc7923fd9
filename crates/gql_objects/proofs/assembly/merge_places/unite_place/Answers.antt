-- A place comes under its key.
use Rattle.std.proofs.Common.{◌≡◌, OnOk, sym, subst}
use Rattle.gql_base.specs.Pairs.{put, unite}
use Rattle.gql_place.specs.Join.{join as joined}
use Rattle.gql_objects.proofs.JoiningLemmas.{put_joined}
use Rattle.gql_objects.proofs.assembly.merge_places.unite_place.Goals as goal

pub returns-in-Some : goal.returns-in-Some
returns-in-Some c =
    let old = c.args.members.now in
    let new = put old c.as_str.result.now c.join_onto.new.first in
    subst (λ key. OnOk c.join_onto.result (new ≡ unite joined old key c.args.place)) c.as_str.ensures
    (put_joined joined c.join_onto.result old c.as_str.result.now c.in-Some.member.now c.args.place c.join_onto.new.first
    (sym c.in-Some.ensures.value) c.join_onto.ensures)
