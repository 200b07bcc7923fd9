use Rattle.std.proofs.Common.{arith, ℕ, List, refl, ap, sym, ◌∙◌, length}
use Rattle.std.proofs.lemmas.Option.{slice_get_read}
use Rattle.gql_base.specs.Pairs.{under}
use Rattle.gql_doc.specs.declared.document.DocValue.{DocValue}
use Rattle.gql_schema.specs.Fits.{Fitting, fits_declared, is_non_null}
use Rattle.gql_schema.specs.InputObject.{input_fields}
use Rattle.gql_schema.specs.Table.{types_of}
use Rattle.gql_lists.proofs.AllLemmas.{all_fails, all_mapped, all_more, all_passed, three_first, three_second, three_third}
use Rattle.gql_fields.specs.Literals.{fitting_member, literal_fits, literal_fitting}
use Rattle.gql_fields.proofs.LiteralLemmas.{given_fittings, one_member}
use Rattle.gql_fields.proofs.literals.+fitting.Goals as goal

pub is_one_member-returns : goal.is_one_member-returns
is_one_member-returns t c =
    let table = types_of c.args.types.now in
    c.is_non_null_member.ensures ∙ ap (is_non_null (literal_fitting table c.at.result.1.now)) c.get.ensures
    ∙ sym (one_member table c.args.input.now c.args.members.now c.at.result.0.now c.at.result.1.now
    (sym c.len.ensures.length ∙ c.if-len-ne1.false) c.at.ensures)

pub items_fit-returns-then-not-literal_fits : goal.items_fit-returns-then-not-literal_fits
items_fit-returns-then-not-literal_fits t c =
    let table = types_of c.args.types.now in
    let item = c.args.item.now in
    all_fails (λ (v : DocValue). literal_fits table v item) c.args.items.now c.loop-value.value-index _ c.literal_fits.result
    (slice_get_read c.args.items.now (length c.args.items.now) c.loop-value.value-index c.value-item.result refl (omega arith)
    c.value-item.is)
    c.literal_fits.ensures c.if-not-literal_fits.true
    ∙ sym (all_mapped (λ (f : Fitting). f.at item) (literal_fitting table) c.args.items.now)

pub items_fit-loop-value-preserved : goal.items_fit-loop-value-preserved
items_fit-loop-value-preserved t c =
    let table = types_of c.args.types.now in
    let item = c.args.item.now in
    all_more (λ (v : DocValue). literal_fits table v item) c.args.items.now c.loop-value.value-index _ c.literal_fits.result
    c.loop-value.invariant
    (slice_get_read c.args.items.now (length c.args.items.now) c.loop-value.value-index c.value-item.result refl (omega arith)
    c.value-item.is)
    c.literal_fits.ensures c.if-not-literal_fits.false

pub items_fit-returns : goal.items_fit-returns
items_fit-returns t c =
    let table = types_of c.args.types.now in
    let item = c.args.item.now in
    all_passed (λ (v : DocValue). literal_fits table v item) c.args.items.now c.loop-value.value-index c.loop-value.invariant (omega arith)
    ∙ sym (all_mapped (λ (f : Fitting). f.at item) (literal_fitting table) c.args.items.now)

pub members_are_declared-returns-then-not-member_fits : goal.members_are_declared-returns-then-not-member_fits
members_are_declared-returns-then-not-member_fits t c =
    let table = types_of c.args.types.now in
    let fields = input_fields c.args.input.now in
    all_fails (λ (m : List ℕ × DocValue). fits_declared table (literal_fitting table m.1) (under m.0 fields)) c.args.members.now
    c.loop-place.place _ c.member_fits.result
    c.at.ensures (c.member_fits.ensures ∙ ap (fits_declared table (literal_fitting table c.at.result.1.now)) c.get.ensures)
    c.if-not-member_fits.true
    ∙ sym (all_mapped (λ (m : List ℕ × Fitting). fits_declared table m.1 (under m.0 fields)) (fitting_member table) c.args.members.now)

pub members_are_declared-loop-place-preserved : goal.members_are_declared-loop-place-preserved
members_are_declared-loop-place-preserved t c =
    let table = types_of c.args.types.now in
    let fields = input_fields c.args.input.now in
    all_more (λ (m : List ℕ × DocValue). fits_declared table (literal_fitting table m.1) (under m.0 fields)) c.args.members.now
    c.loop-place.place _ c.member_fits.result
    c.loop-place.invariant c.at.ensures (c.member_fits.ensures
    ∙ ap (fits_declared table (literal_fitting table c.at.result.1.now)) c.get.ensures)
    c.if-not-member_fits.false

pub members_are_declared-returns : goal.members_are_declared-returns
members_are_declared-returns t c =
    let table = types_of c.args.types.now in
    let fields = input_fields c.args.input.now in
    all_passed (λ (m : List ℕ × DocValue). fits_declared table (literal_fitting table m.1) (under m.0 fields)) c.args.members.now
    c.loop-place.place
    c.loop-place.invariant (omega arith)
    ∙ sym (all_mapped (λ (m : List ℕ × Fitting). fits_declared table m.1 (under m.0 fields)) (fitting_member table) c.args.members.now)

pub members_fit-returns-then-not-members_are_declared : goal.members_fit-returns-then-not-members_are_declared
members_fit-returns-then-not-members_are_declared t c =
    three_first _ _ _ c.members_are_declared.result c.members_are_declared.ensures c.if-not-members_are_declared.true

pub members_fit-returns-then-not-fields_are_given : goal.members_fit-returns-then-not-fields_are_given
members_fit-returns-then-not-fields_are_given t c =
    let table = types_of c.args.types.now in
    three_second _ _ _ c.members_are_declared.result c.fields_are_given.result c.members_are_declared.ensures
    c.if-not-members_are_declared.false
    (c.fields_are_given.ensures ∙ sym (given_fittings table c.args.members.now c.args.input.now)) c.if-not-fields_are_given.true

pub members_fit-returns : goal.members_fit-returns
members_fit-returns t c =
    let table = types_of c.args.types.now in
    three_third _ _ _ c.members_are_declared.result c.fields_are_given.result c.has_its_number.result c.members_are_declared.ensures
    c.if-not-members_are_declared.false (c.fields_are_given.ensures ∙ sym (given_fittings table c.args.members.now c.args.input.now))
    c.if-not-fields_are_given.false c.has_its_number.ensures
