-- What the code owes to the type of partial certificates.
use Rattle.std.proofs.Common.{◌≡◌, ℕ, List, true, Option, Some, None, Ok, IfSome, subst}
use Rattle.std.specs.Prelude.{codes}
use Rattle.rational.specs.Rational.{Rational}
use Rattle.verdicts.specs.Certificate.{Derived}
use Rattle.partial_certificate.specs.Partial.{Best, PartialNode, shape}
use Rattle.partial_certificate.specs.Written.{is_whole, HasSize}
use Rattle.certificate_lines.specs.Fields.{◌>>=◌}
use Rattle.certificate_lines.specs.Lines.{Rest, line_by}
use Rattle.certificate_lines.proofs.Taken.{bind_ok}
use Rattle.certificate_reader.specs.Reading.{point_in, word_in, counted_rows_at}
use Rattle.certificate_reader.proofs.LinesTaken.{made_is, point_size, nodes_fill}
use Rattle.partial_reader.specs.Reading.{best_in, best_from, best_at, partial_node_in, partial_nodes_at, partial_shown_at}

-- a best point has a number for each column
best_size_from : (columns : ℕ) (value : Option Rational) (start : Rest) (x : Option Best × Rest) → best_from columns value start ≡ Ok x → IfSome x.0 (HasSize columns)
best_size_from columns None start x h = subst (λ (y : Option Best × Rest). IfSome y.0 (HasSize columns)) (made_is {A = Option Best × Rest} (None, start) x h) tt
best_size_from columns (Some value) start x h =
    let a = bind_ok (line_by (point_in (codes "point") columns) start) (λ point. Ok (Some (record { point = point.0; value = value }), point.1)) x h in
    let best : Best = record { point = a.0.0; value = value } in
    subst (λ (y : Option Best × Rest). IfSome y.0 (HasSize columns)) (made_is {A = Option Best × Rest} (Some best, a.0.1) x a.2) (point_size (codes "point") columns start a.0.0 a.0.1 a.1)

pub best_size : (columns : ℕ) (start : Rest) (x : Option Best × Rest) → best_at columns start ≡ Ok x → IfSome x.0 (HasSize columns)
unfolding best_at
best_size columns start x h =
    let a = bind_ok (line_by best_in start) (λ value. best_from columns value.0 value.1) x h in
    best_size_from columns a.0.0 a.0.1 x a.2

pub shown_whole : (start : Rest) (x : (List Derived × List PartialNode) × Rest) → partial_shown_at start ≡ Ok x → is_whole x.0.1 ≡ true
unfolding partial_shown_at
shown_whole start x h =
    let a = bind_ok (counted_rows_at start) (λ rows. line_by (word_in (codes "tree")) rows.1 >>= λ mark. partial_nodes_at 1 mark.1 >>= λ nodes. Ok ((rows.0, nodes.0), nodes.1)) x h in
    let b = bind_ok (line_by (word_in (codes "tree")) a.0.1) (λ mark. partial_nodes_at 1 mark.1 >>= λ nodes. Ok ((a.0.0, nodes.0), nodes.1)) x a.2 in
    let c = bind_ok (partial_nodes_at 1 b.0.1) (λ nodes. Ok ((a.0.0, nodes.0), nodes.1)) x b.2 in
    subst (λ (y : (List Derived × List PartialNode) × Rest). is_whole y.0.1 ≡ true) (made_is {A = (List Derived × List PartialNode) × Rest} ((a.0.0, c.0.0), c.0.1) x c.2) (nodes_fill partial_node_in shape 1 b.0.1.line b.0.1.pieces c.0 c.1)
