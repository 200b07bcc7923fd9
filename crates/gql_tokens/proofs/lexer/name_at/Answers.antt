use Rattle.std.proofs.Common.{◌≡◌, ◌-◌, take, sym, ap, ◌∙◌, subst, arith}
use Rattle.std.specs.List.{prefix_len}
use Rattle.gql_base.specs.Letters.{is_name_part}
use Rattle.gql_tokens.specs.declared.token.Lexeme.TheVariants as lexemes
use Rattle.gql_tokens.specs.Cut.{StandsIn}
use Rattle.gql_tokens.proofs.CutStands.{name_cut, name_in}
use Rattle.gql_tokens.proofs.lexer.name_at.Goals as goal

pub range-requires-clause-end_boundary : goal.range-requires-clause-end_boundary
range-requires-clause-end_boundary c =
    (name_cut c.args.text.now c.name_length-length.result c.utf8.text (c.name_length-length.ensures ∙ ap (prefix_len is_name_part) c.as_bytes.ensures.value)).boundary

pub returns : goal.returns
returns c =
    let text = c.args.text.now in
    let n = c.name_length-length.result in
    let whole : n - 0 ≡ n = omega arith in
    subst (λ name. StandsIn (lexemes.Name name) n text) (sym (c.in_ok-name.ensures ∙ c.range.ensures.value ∙ ap (λ k. take k text) whole))
    (name_in text n c.utf8.text (c.name_length-length.ensures ∙ ap (prefix_len is_name_part) c.as_bytes.ensures.value) c.requires)
