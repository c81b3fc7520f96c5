-- The door of this crate's proofs: what crates above may cite. All other proof files are the crate's own, and may change.

-- Clauses as numbers in base three: new steps have different ones.
pub use Rattle.lrat_replay.proofs.BudgetLaws.{fewer_than_sets}
-- The tests of a clause before its hints.
pub use Rattle.lrat_replay.proofs.DenyLaws.{fits_over, has-at, some_flip-some}
-- A literal that is forced has a mark.
pub use Rattle.lrat_replay.proofs.HintsLaws.{has_all}
-- Steps that come one after the other.
pub use Rattle.lrat_replay.proofs.LearnedLaws.{AllTellPropagation-append, AreAccepted-append, AreNew-append, Learns-append, Learns-none, after_steps-append, count_full-append, deleted-after_steps, end_sound, formula-after_steps, steps-after_steps}
-- A replay stands where accepted lines led it.
pub use Rattle.lrat_replay.proofs.ReplayLaws.{ok_part}
-- What lists of hints can come to: nothing, where a set of literals rests; and acceptance, where each hint forces the next literal.
pub use Rattle.lrat_replay.proofs.Runs.{IsConsistent, IsWithin, run-conflict, run-forces, stays}
-- Each accepted step holds under every valuation that satisfies the formula.
pub use Rattle.lrat_replay.proofs.Sound.{Contains-cases, Contains-head, addition-none, addition-passed, refutation_sound}
-- What a status tells of the literals of its clause, and how to show a status.
pub use Rattle.lrat_replay.proofs.StatusLaws.{conflict-is, forces-is, is-conflict, is-forces, satisfied-is, unresolved-is}
-- A written step is read as that step.
pub use Rattle.lrat_replay.proofs.StepLaws.{kind-is_step, kind-line}
-- A ledger's identifiers tell whether a step was kept.
pub use Rattle.lrat_replay.proofs.TallyLaws.{added, fits}
-- Lines, one after the other.
pub use Rattle.lrat_replay.proofs.ReadLaws.{behind-line, behind-none, behind_lines}
