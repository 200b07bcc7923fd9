use Rattle.std.proofs.Common.{◌≡◌, ◌<◌, slice_index_or, rules, refl}
use Rattle.std.proofs.Common.{length}
use Rattle.std.proofs.lemmas.Option.{slice_get_read}
use Rattle.gql_base.specs.Chains.{chain_of}
use Rattle.gql_base.proofs.ChainLemmas.{linked_added}
use Rattle.gql_base.proofs.chains.Chains.add.Goals as goal

pub returns-clause-ok : goal.returns-clause-ok
returns-clause-ok c =
    let chained : c.chain_of-chain.result ≡ chain_of c.args.name.now (length c.args.self.now.heads.items) = search rules in
    let within : c.chain_of-chain.result < length c.args.self.now.heads.items = search rules in
    let read : c.replace-last.result ≡ slice_index_or c.args.self.now.heads.items c.chain_of-chain.result c.replace-last.result = search rules in
    let first =
    slice_get_read c.args.self.now.heads.items (length c.args.self.now.heads.items) c.chain_of-chain.result c.replace-last.result refl within read in
    linked_added c.args.self.now.heads.items c.args.self.now.before.items _ _ c.args.names.now c.args.name.now c.chain_of-chain.result c.replace-last.result
    c.replace-last.new.dest c.requires chained first refl (search rules) (search rules)
