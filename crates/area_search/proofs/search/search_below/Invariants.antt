use Rattle.std.proofs.Common.{◌≡◌, ◌≤◌, ℕ, List, false}
use Rattle.std.specs.declared.option.Option.{Option}
use Rattle.area_search.specs.Progress.{IsKnown, HasWritten, left_to_ask}
use Rattle.area_search.proofs.search.search_below.Given as goal

abbrev pub invariant-loop-progress : goal.invariant-loop-progress
invariant-loop-progress g l = record {
  whole : l.writer.failed ≡ false;
  known : IsKnown l.rails l.spec l.progress;
  written : (first : Option (List ℕ)) → HasWritten l.rails l.output l.spec l.budget first (g.K.Sink.got l.fn.writer.sink) l.fn.progress → HasWritten l.rails l.output l.spec l.budget first (g.K.Sink.got l.writer.sink) l.progress;
  later : g.K.Sink.faults l.fn.writer.sink ≤ g.K.Sink.faults l.writer.sink;
}

abbrev pub decreases-loop-progress : goal.decreases-loop-progress
decreases-loop-progress g l = left_to_ask l.progress
