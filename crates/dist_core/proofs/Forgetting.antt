-- Forgetting takes away no end.
pub use Rattle.dist_core_ends.proofs.Forgotten.{forgotten-length as length_forgotten}
