-- The door of this crate's proofs: what crates above may cite. All other proof files are the crate's own, and may change.

-- The controls that are put at the places of new lattices.
pub use Rattle.lattice_compose.proofs.CellLaws.{read_has}
