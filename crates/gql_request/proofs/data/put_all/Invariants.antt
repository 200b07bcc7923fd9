use Rattle.std.proofs.Common.{◌≡◌, ◌+◌, ◌*◌, ◌≤◌, length, drop, vec_len, vec_capacity}
use Rattle.std.specs.List.{zip}
use Rattle.std.specs.Vec.Iter.{into_iter_items}
use Rattle.gql_request.specs.Data.{put_keys}
use Rattle.gql_request.specs.KeyTree.{IsKeyTree}
use Rattle.gql_request.proofs.data.put_all.Given as goal

abbrev pub invariant-loop-value : goal.invariant-loop-value
invariant-loop-value l =
    let rest = into_iter_items l.value-iterator in
    record {
      tree : IsKeyTree l.tree.keys.items l.tree.links.items;
      same : length l.values.items ≡ length l.tree.keys.items;
      others : l.place + length rest ≡ length l.other_keys;
      room : vec_len l.values + length rest ≤ vec_capacity l.values;
      key_room : vec_len l.tree.keys + length rest ≤ vec_capacity l.tree.keys;
      link_room : vec_len l.tree.links + 2 * length rest ≤ vec_capacity l.tree.links;
      pairs : put_keys (zip l.tree.keys.items l.values.items) (zip (drop l.place l.other_keys) rest) ≡ put_keys (zip l.fn.tree.keys.items l.fn.values.items) (zip l.other_keys l.fn.other_values.items);
    }
