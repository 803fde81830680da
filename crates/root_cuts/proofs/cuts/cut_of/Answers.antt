use Rattle.std.proofs.Common.{◌∙◌, sym}
use Rattle.dictionary.specs.Table.{dictionary_of}
use Rattle.root_cuts.proofs.MadeRootCuts.{is_basic_true, kept_cut, of_some, rates_known, numbers_known, best_cut}
use Rattle.root_cuts.proofs.cuts.cut_of.Goals as goal

pub cut-requires-clause-rates : goal.cut-requires-clause-rates
cut-requires-clause-rates c =
    let best = c.args.best.now in
    rates_known c.args.problem.now c.root_is_over_columns.ensures best.point best.weights best.dictionary.places c.args.places.now (dictionary_of best.dictionary) c.requires.relaxed c.requires.places
    c.deref.result.now c.args.column (c.deref.ensures.value ∙ c.in_ok-rates.ensures)

pub cut-requires-clause-numbers : goal.cut-requires-clause-numbers
cut-requires-clause-numbers c =
    let best = c.args.best.now in
    numbers_known c.args.problem.now c.root_is_over_columns.ensures best.point best.weights best.dictionary.places c.args.places.now (dictionary_of best.dictionary) c.requires.relaxed c.requires.places
    c.args.numbers.now c.requires.numbers

pub returns-in-Ok-Some : goal.returns-in-Ok-Some
returns-in-Ok-Some c =
    let best = c.args.best.now in
    kept_cut c.if_small.result c.in-Ok-Some.found _ c.if_small.ensures
    (best_cut c.args.problem.now c.root_is_over_columns.ensures best.point best.weights best.dictionary.places c.args.places.now (dictionary_of best.dictionary) c.requires.relaxed c.requires.places
    c.args.column c.deref.result.now c.args.numbers.now c.in-Ok-Some.found (is_basic_true best.dictionary.places c.args.column (sym c.is_basic.ensures ∙ c.if-not-is_basic.false)) (c.deref.ensures.value ∙ c.in_ok-rates.ensures) c.requires.numbers
    (of_some c.in-Ok-Some.field-0 c.in-Ok-Some.found _ c.in-Ok-Some.field-0-is c.in-Ok-Some.ensures.has) (of_some c.in-Ok-Some.field-0 c.in-Ok-Some.found _ c.in-Ok-Some.field-0-is c.in-Ok-Some.ensures.cut))
