-- The laws that readers of tokens cite.
pub use Rattle.cplex_lp_draft.proofs.Changed.{All-changed}
