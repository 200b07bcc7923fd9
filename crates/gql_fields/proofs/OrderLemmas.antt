-- The order of breaches is total, and breaches that tie are the same.
use Rattle.std.proofs.Common.{◌≡◌, Equal, ℕ, zero, suc, true, refl, ap, sym, ◌∙◌}
use Rattle.std.specs.Ordering.{eq_by_cmp, nat_cmp}
use Rattle.gql_base.specs.declared.pos.Pos.{Pos}
use Rattle.gql_lists.proofs.OrderLemmas.{first_ties, is_equal, number_ties, second_ties, text_ties}
use Rattle.gql_fields.specs.declared.breach.Breach.{Breach}
use Rattle.gql_fields.specs.declared.breach.BreachKind.{BreachKind}
use Rattle.gql_fields.specs.declared.breach.BreachKind.TheVariants as kinds
use Rattle.gql_fields.specs.BreachOrder.{breach_order, kind_place, pos_order, text_order}

pos_ties : (one other : Pos) → pos_order one other ≡ Equal → one ≡ other
pos_ties one other tied =
    let line = number_ties one.line other.line (first_ties (nat_cmp one.line other.line) (nat_cmp one.column other.column) tied) in
    let column = number_ties one.column other.column (second_ties (nat_cmp one.line other.line) (nat_cmp one.column other.column) tied) in
    λ i. record { line = line i; column = column i }

-- the kind at a place among the rules
abbrev kind_at : ℕ → BreachKind
kind_at zero = kinds.Condition
kind_at (suc zero) = kinds.UnknownField
kind_at (suc (suc zero)) = kinds.Selection
kind_at (suc (suc (suc zero))) = kinds.Directive
kind_at (suc (suc (suc (suc zero)))) = kinds.UnknownArgument
kind_at (suc (suc (suc (suc (suc zero))))) = kinds.MissingArgument
kind_at (suc (suc (suc (suc (suc (suc zero)))))) = kinds.DoubledArgument
kind_at (suc (suc (suc (suc (suc (suc (suc zero))))))) = kinds.Value
kind_at (suc (suc (suc (suc (suc (suc (suc (suc zero)))))))) = kinds.UnknownFragment
kind_at (suc (suc (suc (suc (suc (suc (suc (suc (suc zero))))))))) = kinds.CircularFragment
kind_at (suc (suc (suc (suc (suc (suc (suc (suc (suc (suc zero)))))))))) = kinds.Variable
kind_at (suc (suc (suc (suc (suc (suc (suc (suc (suc (suc (suc zero))))))))))) = kinds.Definition
kind_at (suc (suc (suc (suc (suc (suc (suc (suc (suc (suc (suc (suc k)))))))))))) = kinds.Conflict

kind_back : (kind : BreachKind) → kind_at (kind_place kind) ≡ kind
kind_back kinds.Condition = refl
kind_back kinds.UnknownField = refl
kind_back kinds.Selection = refl
kind_back kinds.Directive = refl
kind_back kinds.UnknownArgument = refl
kind_back kinds.MissingArgument = refl
kind_back kinds.DoubledArgument = refl
kind_back kinds.Value = refl
kind_back kinds.UnknownFragment = refl
kind_back kinds.CircularFragment = refl
kind_back kinds.Variable = refl
kind_back kinds.Definition = refl
kind_back kinds.Conflict = refl

kind_ties : (one other : BreachKind) → kind_place one ≡ kind_place other → one ≡ other
kind_ties one other same = sym (kind_back one) ∙ ap kind_at same ∙ kind_back other

pub same_ties : (one other : Breach) → breach_order one other ≡ Equal → one ≡ other
same_ties one other tied =
    let behind_pos = second_ties (pos_order one.pos other.pos) _ tied in
    let behind_kind = second_ties (nat_cmp (kind_place one.kind) (kind_place other.kind)) _ behind_pos in
    let pos = pos_ties one.pos other.pos (first_ties (pos_order one.pos other.pos) _ tied) in
    let kind = kind_ties one.kind other.kind
    (number_ties _ _ (first_ties (nat_cmp (kind_place one.kind) (kind_place other.kind)) _ behind_pos)) in
    let name = text_ties one.name other.name (first_ties (text_order one.name other.name) (text_order one.text other.text) behind_kind) in
    let text = text_ties one.text other.text (second_ties (text_order one.name other.name) (text_order one.text other.text) behind_kind) in
    λ i. record { pos = pos i; kind = kind i; name = name i; text = text i }

pub equal_is : (one other : Breach) → eq_by_cmp breach_order one other ≡ true → one ≡ other
equal_is one other h = same_ties one other (is_equal (breach_order one other) h)
