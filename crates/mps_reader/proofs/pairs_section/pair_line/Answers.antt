-- Fewer than two fields and more than five are no pairs.
use Rattle.std.proofs.Common.{◌<◌, ◌≤◌, List, ℕ, map, length, ap, arith}
use Rattle.std.proofs.lemmas.List.{length-map}
use Rattle.mps_reader.specs.RhsRangesBounds.{pairs_line, step_of}
use Rattle.mps_reader.proofs.Pairs.{too-few, too-many}
use Rattle.mps_reader.proofs.pairs_section.pair_line.Goals as goal

pub returns-in_default : goal.returns-in_default
returns-in_default c =
    let fields : List (List ℕ) = map (λ f. f.now) c.args.fields.now in
    let few : length fields < 2 = omega (arith, length-map c.args.fields.now (λ f. f.now), c.in_default.len_below) in
    ap (λ p. pairs_line (step_of c.args.section) c.args.draft.now p) (too-few fields few)

pub returns-in_default-2 : goal.returns-in_default-2
returns-in_default-2 c =
    let fields : List (List ℕ) = map (λ f. f.now) c.args.fields.now in
    let many : 6 ≤ length fields = omega (arith, length-map c.args.fields.now (λ f. f.now), c.in_default.len_at_least) in
    ap (λ p. pairs_line (step_of c.args.section) c.args.draft.now p) (too-many fields many)
