-- Laws on journals.
use Rattle.std.specs.Prelude.{◌≡◌}
use Rattle.gql_resolve.specs.declared.resolver_set.ResolverSet.{Ghosts as Resolving}
use Rattle.gql_serve.specs.Journal.{Journal, LeadsTo}

-- a journal leads from its origin to at most one world
abbrev pub LeadsToOne : {R V W F : Type 0} → Resolving R V W F → Type 0
LeadsToOne {V = V} {W = W} set =
    (rules : set.Rules) (journal : Journal V) (origin one other : W)
    → LeadsTo set rules journal origin one → LeadsTo set rules journal origin other → one ≡ other
