-- The laws of the tests at a node that other crates cite.

-- the test of weights at a point's own value
pub use Rattle.search_tree.proofs.OwnValues.{own_test}
-- a number that is read by its place
pub use Rattle.search_tree.proofs.NodePoints.{number_is}
