use Rattle.std.proofs.Common.{◌+◌, List, length, IfSome, ap, sym, subst, arith}
use Rattle.verdicts.specs.Certificate.{Derived}
use Rattle.basis.specs.declared.Place.{Place}
use Rattle.dictionary.specs.Table.{dictionary_of}
use Rattle.root_cuts.specs.RootBasis.{AreSettled, numbers_of}
use Rattle.root_cuts.specs.RootCuts.{IsCutOf}
use Rattle.root_cuts.proofs.CutsBelow.{AreCutsBelow, next_there, count_below}
use Rattle.root_cuts.proofs.MadeRootCuts.{numbers_of_columns, are_root_cuts}
use Rattle.root_cuts.proofs.cuts.cuts_at.Goals as goal

pub numbers_at-requires : goal.numbers_at-requires
numbers_at-requires c =
    let best = c.args.best.now in
    record { size = numbers_of_columns c.args.problem.now best.point best.weights best.dictionary.places (dictionary_of best.dictionary) c.requires }

pub add_cut-requires : goal.add_cut-requires
add_cut-requires c =
    let best = c.args.best.now in
    let places = c.in_ok-places.places.items in
    let count = count_below c.args.problem.now places (numbers_of c.args.problem.now places best.point) (dictionary_of best.dictionary) c.loop-column.column 0 c.loop-column.cuts c.loop-column.invariant in
    let inside = c.loop-column-test.true in
    let few = c.keeps_its_limits.ensures.limits.columns in
    let same = ap length c.columns-column-end.ensures in
    record { few = omega (arith, count, inside, few, same) }

pub loop-column-preserved : goal.loop-column-preserved
loop-column-preserved c =
    let p = c.args.problem.now in
    let best = c.args.best.now in
    let d = dictionary_of best.dictionary in
    let places = c.in_ok-places.places.items in
    let P : List Place → Type 0 = λ l. IfSome c.in_ok-cut.cut (IsCutOf p l (numbers_of p l best.point) d c.loop-column.column) in
    let is : P places = subst P c.deref.ensures.value c.in_ok-cut.ensures in
    let Q : List Derived → Type 0 = AreCutsBelow p places (numbers_of p places best.point) d (c.loop-column.column + 1) 0 in
    subst Q (sym c.in_ok-add_cut.ensures) (next_there p places (numbers_of p places best.point) d c.loop-column.column c.loop-column.cuts c.in_ok-cut.cut c.loop-column.invariant is)

pub returns : goal.returns
returns c =
    let p = c.args.problem.now in
    let best = c.args.best.now in
    let places = c.in_ok-places.places.items in
    let settled : AreSettled p best.dictionary.places places = subst (λ (l : List Place). AreSettled p l places) c.places.ensures c.in_ok-places.ensures in
    are_root_cuts p c.root_is_over_columns.ensures best.point best.weights best.dictionary.places places (dictionary_of best.dictionary) c.requires settled
    c.loop-column.column c.loop-column.cuts c.loop-column.invariant
