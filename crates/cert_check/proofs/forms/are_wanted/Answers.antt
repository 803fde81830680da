use Rattle.std.proofs.Common.{◌≡◌, ◌≤◌, ℕ, List, length, true, false, Ok, subst, arith, rules}
use Rattle.rational.specs.Rational.{Rational}
use Rattle.rational.specs.Compare.{is_same}
use Rattle.milp.specs.Problem.{Column}
use Rattle.verdicts.specs.WeightedSums.{coefficient_of}
use Rattle.cert_check.specs.Sums.{Product, are_forms}
use Rattle.cert_check.specs.Totals.{AreTotals}
use Rattle.cert_check.specs.Parts.{signed_by}
use Rattle.cert_check.proofs.ColumnTotals.{totals_differ, totals_agree, totals_end}
use Rattle.cert_check.proofs.forms.are_wanted.Goals as goal

pub returns-then-ne : goal.returns-then-ne
returns-then-ne c =
    let cs = c.columns-columns.result.now in
    let wanted : ℕ → Rational = λ j. signed_by c.args.sign (coefficient_of c.args.wanted.now j) in
    let test : is_same c.index-totals-j.result (wanted c.loop-j.j) ≡ false = search rules in
    let here : (f : ℕ → List Product) → AreTotals (length cs) f c.args.totals.now → Ok false ≡ are_forms f wanted 0 cs =
    λ f are. totals_differ f wanted cs c.loop-j.j c.index-columns-j.result c.args.totals.now c.index-totals-j.result _ are c.loop-j-test.true c.index-columns-j.is c.index-totals-j.is test (c.loop-j.invariant f are) in
    subst (λ (xs : List Column). (f : ℕ → List Product) → AreTotals (length xs) f c.args.totals.now → Ok false ≡ are_forms f wanted 0 xs) c.columns-columns.ensures here

pub loop-j-preserved : goal.loop-j-preserved
loop-j-preserved c =
    let cs = c.columns-columns.result.now in
    let wanted : ℕ → Rational = λ j. signed_by c.args.sign (coefficient_of c.args.wanted.now j) in
    let test : is_same c.index-totals-j.result (wanted c.loop-j.j) ≡ true = search rules in
    λ f are. totals_agree f wanted cs c.loop-j.j c.index-columns-j.result c.args.totals.now c.index-totals-j.result _ are c.loop-j-test.true c.index-columns-j.is c.index-totals-j.is test (c.loop-j.invariant f are)

pub returns : goal.returns
returns c =
    let cs = c.columns-columns.result.now in
    let wanted : ℕ → Rational = λ j. signed_by c.args.sign (coefficient_of c.args.wanted.now j) in
    let past : length cs ≤ c.loop-j.j = omega (arith, c.loop-j-test.false) in
    let here : (f : ℕ → List Product) → AreTotals (length cs) f c.args.totals.now → Ok true ≡ are_forms f wanted 0 cs =
    λ f are. totals_end f wanted cs c.loop-j.j _ past (c.loop-j.invariant f are) in
    subst (λ (xs : List Column). (f : ℕ → List Product) → AreTotals (length xs) f c.args.totals.now → Ok true ≡ are_forms f wanted 0 xs) c.columns-columns.ensures here
