-- What is kept, one stretch after another.
use Rattle.std.proofs.Common.{refl, ◌∙◌}
use Rattle.gql_resolve.specs.declared.resolver_set.ResolverSet.{Ghosts as Resolving}
use Rattle.gql_tasks.specs.declared.rounds.Rounds.{Ghosts as Hooking}
use Rattle.gql_tasks.specs.declared.run.Run.{Run}
use Rattle.gql_tasks.specs.Keeps.{Keeps, KeepsSet, Lent, SameLent, lent_to}
use Rattle.gql_tasks.proofs.StepLemmas.{none_counted, counted_on}

pub lent_none : (lent : Lent) → SameLent lent lent
lent_none lent = record { set_is = refl; hooks_is = refl; turns_is = refl; steps_is = refl }

pub lent_trans : {old middle new : Lent} → SameLent old middle → SameLent middle new → SameLent old new
lent_trans one other = record {
  set_is = other.set_is ∙ one.set_is;
  hooks_is = other.hooks_is ∙ one.hooks_is;
  turns_is = other.turns_is ∙ one.turns_is;
  steps_is = other.steps_is ∙ one.steps_is;
}

module _ {R Own World Future : Type 0} {set : Resolving R Own World Future} where
  pub set_none : (old : R) → KeepsSet set old old
  set_none old = record { rules_is = refl; lawful_is = λ law. law; paced_is = λ pace. pace }

  pub set_trans : {old middle new : R} → KeepsSet set old middle → KeepsSet set middle new → KeepsSet set old new
  set_trans one other = record {
    rules_is = other.rules_is ∙ one.rules_is;
    lawful_is = λ law. other.lawful_is (one.lawful_is law);
    paced_is = λ pace. other.paced_is (one.paced_is pace);
  }

module _ {R H P S Own World Future : Type 0} {set : Resolving R Own World Future} {hooks : Hooking H} where
  pub keeps_none : (old : Run R H P S Own World Future) → Keeps set hooks old old
  keeps_none old = record {
    lent_is = lent_none (lent_to old);
    set_is = set_none old.set.now;
    quiet_is = λ calm. calm;
    counted = none_counted _ _ _ _ refl refl;
  }

  pub keeps_trans : {old middle new : Run R H P S Own World Future} → Keeps set hooks old middle → Keeps set hooks middle new → Keeps set hooks old new
  keeps_trans one other = record {
    lent_is = lent_trans one.lent_is other.lent_is;
    set_is = set_trans one.set_is other.set_is;
    quiet_is = λ calm. other.quiet_is (one.quiet_is calm);
    counted = counted_on one.counted other.counted;
  }
