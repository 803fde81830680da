-- The laws of the simplex crate that other crates cite.

-- the forms of a well-formed problem are over its columns
pub use Rattle.simplex.proofs.OverColumns.{over_columns}
