-- The door of this crate's proofs: what crates above may cite. All other proof files are the crate's own, and may change.

-- How what one call let pass and what the next one did come to what both did.
pub use Rattle.wire_io.proofs.PassingLaws.{GainsFront-emptied, GainsFront-first, GainsFront-passed, IsPassed, IsPassed-done, IsPassed-more, IsPassed-none, IsPassed-stop, Passes-all, Passes-all_front, Passes-append, Passes-flat_map, Passes-flat_map_front, Passes-flushed, Passes-front, Passes-given, Passes-none}
