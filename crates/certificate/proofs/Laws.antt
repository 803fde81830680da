-- What other crates may cite of lists, and of splits of one column.
pub use Rattle.certificate.proofs.Elements.{back, element_at, same_length, stands_for}
pub use Rattle.certificate.proofs.Splits.{column_is_whole, column_narrows, column_value}
