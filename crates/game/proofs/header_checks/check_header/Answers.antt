-- The checks hold one after the other (`Left`), and the first that does not gives the answer.
use mathlib.Core.Path.{refl, ap, ◌∙◌}
use lib.ListN.{drop}
use Rattle.model.specs.Checks.{header_rows}
use Rattle.checks.specs.declared.Refusal.TheVariants.{NoHeader, WrongEdition, ZeroCount, WrongLength}
use Rattle.checks.specs.Answers.{number_of}
use Rattle.checks.proofs.Chains.{Left, begin, passes}
use Rattle.checks.proofs.AnswerLaws.{passed_on}
use Rattle.game.proofs.Parts.{stops_as, ends_as}
use Rattle.game.proofs.header_checks.check_header.Goals as goal
use Rattle.game.proofs.header_checks.check_header.Goals.{In_ok-has_header, In_ok-has_edition}

left_2 : (c : In_ok-has_header) → Left header_rows (drop 1 header_rows) c.args.bytes.now
unfolding header_rows
left_2 c = passes _ (begin header_rows _) c.has_header.ensures c.in_ok-has_header.was

left_3 : (c : In_ok-has_edition) → Left header_rows (drop 2 header_rows) c.args.bytes.now
unfolding header_rows
left_3 c =
    passes _ (passes _ (begin header_rows _) c.has_header.ensures c.in_ok-has_header.was) c.has_edition.ensures c.in_ok-has_edition.was

pub returns-in_err-has_header : goal.returns-in_err-has_header
unfolding header_rows
returns-in_err-has_header c = ap number_of (passed_on c.from_residual.ensures.1) ∙ stops_as NoHeader (begin header_rows _) refl c.has_header.ensures c.in_err-has_header.was

pub returns-in_err-has_edition : goal.returns-in_err-has_edition
unfolding header_rows
returns-in_err-has_edition c = ap number_of (passed_on c.from_residual-in_err-has_edition.ensures.1) ∙ stops_as WrongEdition (left_2 (goal.at.returns-in_err-has_edition c).In_ok-has_header) refl c.has_edition.ensures c.in_err-has_edition.was

pub returns-in_err-counts_positive : goal.returns-in_err-counts_positive
unfolding header_rows
returns-in_err-counts_positive c = ap number_of (passed_on c.from_residual-in_err-counts_positive.ensures.1) ∙ stops_as ZeroCount (left_3 (goal.at.returns-in_err-counts_positive c).In_ok-has_edition) refl c.counts_positive.ensures c.in_err-counts_positive.was

pub returns : goal.returns
unfolding header_rows
returns c = ends_as WrongLength (passes _ (left_3 (goal.at.returns c).In_ok-has_edition) c.counts_positive.ensures c.in_ok-counts_positive.was) refl c.has_length.ensures
