-- The fields of an object as its nodes are made.
use Rattle.std.proofs.Common.{◌≡◌, ℕ, List, [], ◌∷◌, ◌++◌, map, refl, ap, sym, ◌∙◌, append_assoc, ◌+◌, length, arith}
use Rattle.std.specs.List.{zip}
use Rattle.std.specs.declared.alloc.Global.{Global}
use Rattle.std.specs.declared.rc.Rc.{Rc}
use Rattle.gql_doc.specs.declared.document.Field.{Field}
use Rattle.gql_doc.specs.declared.document.Positioned.{Positioned}
use Rattle.gql_collect.specs.Execution.{Execution}
use Rattle.gql_select.specs.Alike.{arguments_of, name_of}
use Rattle.gql_select.specs.Documents.{both, with_others}
use Rattle.gql_select.proofs.DocumentLemmas.{arguments_of_both}
use Rattle.gql_collect.proofs.OccurrenceLemmas.{name_with_others}
use Rattle.gql_collect.specs.Asks.{asks_of}
use Rattle.gql_collect.specs.Basis.{execution_of}
use Rattle.gql_select.specs.Behind.{all_behind}
use Rattle.gql_collect.specs.Groups.{united}
use Rattle.gql_collect.specs.Levels.{Asked, asked_behind, asked_of, asked_on, members_of}
use Rattle.gql_collect.specs.declared.asks.Asks.{Asks}
use Rattle.gql_collect.specs.declared.basis.Basis.{Basis}
use Rattle.gql_collect.specs.declared.group.Group.{Group}
use Rattle.gql_collect.specs.declared.level.Node.{Node}
use Rattle.std.proofs.lemmas.List.{length-map}
use Rattle.gql_base.specs.Pairs.{names_of, values_of}
use Rattle.gql_collect.specs.KeyNames.{names_in}
use Rattle.gql_collect.specs.declared.level.Level.{Level}

arguments_with_others : (f : Positioned Field) (gs : List (Positioned Field)) → arguments_of (with_others f gs) ≡ arguments_of f
arguments_with_others f [] = refl
arguments_with_others f (g ∷ gs) = arguments_with_others (both f g) gs ∙ arguments_of_both f g

-- a field asks what another of its name and arguments asks
asks_alike : (execution : Execution) (object : List ℕ) (f g : Positioned Field) → name_of f ≡ name_of g → arguments_of f ≡ arguments_of g
    → asks_of execution object f ≡ asks_of execution object g
asks_alike execution object f g named argued = rw (named, argued) refl

-- a group asks what its first occurrence asks
pub asked_first : (basis : Basis) (object : List ℕ) (group : Group) (asks : Asks) → asks ≡ asks_of (execution_of basis) object group.first.now
    → (let asked : Asked = record { basis = basis; field = united group; asks = asks } in asked) ≡ asked_of basis object (united group)
asked_first basis object group asks is =
    let others = all_behind group.more.items in
    let same = is ∙ sym (asks_alike (execution_of basis) object (with_others group.first.now others) group.first.now (name_with_others group.first.now others) (arguments_with_others group.first.now others)) in
    λ i. record { basis = basis; field = united group; asks = same i }

-- fields under their keys, each with what it asks
pub asked_zipped : (basis : Basis) (object : List ℕ) (keys : List (List ℕ)) (fields : List (Positioned Field))
    → asked_on basis object (zip keys fields) ≡ zip keys (map (asked_of basis object) fields)
asked_zipped basis object [] fields = refl
asked_zipped basis object (key ∷ keys) [] = refl
asked_zipped basis object (key ∷ keys) (field ∷ fields) = ap (λ ms. (key, asked_of basis object field) ∷ ms) (asked_zipped basis object keys fields)

-- a united field stands where its first occurrence does
pub pos_with_others : (f : Positioned Field) (gs : List (Positioned Field)) → (with_others f gs).pos ≡ f.pos
pos_with_others f [] = refl
pos_with_others f (g ∷ gs) = pos_with_others (both f g) gs

asked_append : (nodes : List (Rc Node Global)) (node : Rc Node Global) → map asked_behind (nodes ++ node ∷ []) ≡ map asked_behind nodes ++ asked_behind node ∷ []
asked_append [] node = refl
asked_append (x ∷ nodes) node = ap (λ xs. asked_behind x ∷ xs) (asked_append nodes node)

-- one more group has a node
pub nodes_more : (basis : Basis) (object : List ℕ) (nodes nodes' : List (Rc Node Global)) (node : Rc Node Global) (its rest : List Group) (group : Group) (all : List Asked)
    → its ≡ group ∷ rest → nodes' ≡ nodes ++ node ∷ [] → asked_behind node ≡ asked_of basis object (united group)
    → map asked_behind nodes ++ map (asked_of basis object) (map united its) ≡ all
    → map asked_behind nodes' ++ map (asked_of basis object) (map united rest) ≡ all
nodes_more basis object nodes nodes' node its rest group all is added asks before =
    let others = map (asked_of basis object) (map united rest) in
    ap (λ ns. map asked_behind ns ++ others) added
    ∙ ap (λ xs. xs ++ others) (asked_append nodes node)
    ∙ append_assoc (map asked_behind nodes) (asked_behind node ∷ []) others
    ∙ ap (λ a. map asked_behind nodes ++ a ∷ others) asks
    ∙ ap (λ gs. map asked_behind nodes ++ map (asked_of basis object) (map united gs)) (sym is)
    ∙ before

pub zip_values : {T : Type 0} (names : List (List ℕ)) (values : List T) → length values ≡ length names → values_of (zip names values) ≡ values
zip_values [] [] long = refl
zip_values [] (v ∷ values) long = absurd (omega arith)
zip_values (n ∷ names) [] long = absurd (omega arith)
zip_values (n ∷ names) (v ∷ values) long = ap (λ vs. v ∷ vs) (zip_values names values (let e : length values ≡ length names = omega arith in e))

zip_names : {T : Type 0} (names : List (List ℕ)) (values : List T) → length values ≡ length names → names_of (zip names values) ≡ names
zip_names [] [] long = refl
zip_names [] (v ∷ values) long = absurd (omega arith)
zip_names (n ∷ names) [] long = absurd (omega arith)
zip_names (n ∷ names) (v ∷ values) long = ap (λ ns. n ∷ ns) (zip_names names values (let e : length values ≡ length names = omega arith in e))

level_long : (level : Level) → length (map asked_behind level.nodes.items) ≡ length (names_in level.keys)
level_long level = length-map level.nodes.items asked_behind ∙ level.paired

-- the fields of a level, without their keys
pub members_values : (level : Level) → values_of (members_of level) ≡ map asked_behind level.nodes.items
members_values level = zip_values (names_in level.keys) (map asked_behind level.nodes.items) (level_long level)

-- the keys of a level
pub members_names : (level : Level) → names_of (members_of level) ≡ names_in level.keys
members_names level = zip_names (names_in level.keys) (map asked_behind level.nodes.items) (level_long level)
