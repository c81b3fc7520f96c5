-- How the ways in which `synth`, `map` and `trial` end make a run that finishes so.
use Rattle.std.proofs.Common.{◌≡◌, ℕ, ◌≤◌, List, Bool, true, false, refl, inl, inr}
use Rattle.std.specs.Prelude.{if◌then◌else◌}
use Rattle.std.specs.declared.option.Option.{Option}
use Rattle.wire_io.specs.Told.{LosesUpTo}
use Rattle.four_lattice.specs.Devices.{Change}
use Rattle.four_lattice.specs.Judge.{Task, Judgement, Accepted}
use Rattle.four_lattice.specs.Lattices.{ending_of_fault}
use Rattle.four_lattice.specs.Minima.{is_open, tally_ending, WroteAll, StoppedWriting}
use Rattle.four_lattice.specs.Run.{AreSpent, Began, Works, Finishes}
use Rattle.four_lattice.specs.Uses.{Uses, most_side_bytes}
use Rattle.four_lattice.specs.Work.{Does, Begins}
use Rattle.four_lattice.specs.declared.lattices.WorkFault.{WorkFault}
use Rattle.four_lattice.specs.declared.lattices.WorkFault.TheVariants as work
use Rattle.four_lattice.specs.declared.tally.Tally.{Tally}
use Rattle.four_lattice.specs.declared.ending.Ending.TheVariants.{Done, Undecided}

module _ (J : Judgement → Type 0) (u : Uses) (most : ℕ) (pla side out journal : Change) (Holds : Tally → List ℕ → Option (List ℕ) → Type 0) (Stands : List ℕ → Option (List ℕ) → Type 0) (task : Task)
    (accepted : J (Accepted task)) (does : (t : Tally) (o : List ℕ) (j : Option (List ℕ)) → Holds t o j → Does task (record { out = o; journal = j; undecided = is_open t }))
    (begins : (o : List ℕ) (j : Option (List ℕ)) → Stands o j → Begins task o j)
    (named : u.journal ≡ true) (spent : AreSpent u (record { pla = pla; side = side; out = out; journal = journal })) (pla_later : pla.old.faults ≤ pla.new.faults) (side_later : side.old.faults ≤ side.new.faults) where
  works : (t : Tally) (undecided : Bool) → is_open t ≡ undecided → WroteAll (Holds t) out journal → Works J undecided (record { pla = pla; side = side; out = out; journal = journal })
  works t undecided is w = record {
    task = task;
    accepted = accepted;
    written = record { out = w.bytes; journal = w.told; undecided = is_open t };
    does = does t w.bytes w.told w.holds;
    decided = is;
    out = w.out_gained;
    journal = w.journal_gained;
  }

  pub answers_done : (t : Tally) → WroteAll (Holds t) out journal → Finishes J u most (tally_ending t) (record { pla = pla; side = side; out = out; journal = journal })
  answers_done t w = go (is_open t) refl where
    go : (undecided : Bool) → is_open t ≡ undecided → Finishes J u most (if undecided then Undecided else Done) (record { pla = pla; side = side; out = out; journal = journal })
    go false is = record { ends = works t false is w; read = spent; later = record { pla = pla_later; side = side_later; out = w.later.of_out; journal = w.later.of_journal } }
    go true is = record { ends = works t true is w; read = spent; later = record { pla = pla_later; side = side_later; out = w.later.of_out; journal = w.later.of_journal } }

  began : (fault : WorkFault) → StoppedWriting Stands fault out journal → Began J (record { pla = pla; side = side; out = out; journal = journal })
  began fault st = record {
    task = task;
    accepted = accepted;
    out = st.bytes;
    journal = st.told;
    begins = begins st.bytes st.told st.stands;
    out_gained = st.out_gained;
    journal_gained = st.journal_gained;
  }

  pub answers_stopped : LosesUpTo pla.old.told pla.new.told most → LosesUpTo side.old.told side.new.told most_side_bytes → (fault : WorkFault) → StoppedWriting Stands fault out journal
      → Finishes J u most (ending_of_fault fault) (record { pla = pla; side = side; out = out; journal = journal })
  answers_stopped first second work.Write st = record {
    ends = (elim st.cause [ inl o ↦ inl o | inr j ↦ inr (named, j) ], began work.Write st);
    read = spent;
    later = record { pla = pla_later; side = side_later; out = st.later.of_out; journal = st.later.of_journal };
  }
  answers_stopped first second work.NoMemory st = record {
    ends = inr (began work.NoMemory st);
    read = (first, second);
    later = record { pla = pla_later; side = side_later; out = st.later.of_out; journal = st.later.of_journal };
  }
