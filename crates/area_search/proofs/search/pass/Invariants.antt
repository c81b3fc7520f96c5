use Rattle.std.proofs.Common.{◌≡◌, ◌≤◌, ℕ, List, false, take}
use Rattle.std.specs.Prelude.{All}
use Rattle.std.specs.declared.option.Option.{Option}
use Rattle.shape_list.specs.Shapes.{IsHeld}
use Rattle.area_search.specs.Progress.{IsKnown, HasWritten}
use Rattle.area_search.proofs.search.pass.Given as goal

abbrev pub invariant-loop-shape : goal.invariant-loop-shape
invariant-loop-shape g l = record {
  whole : l.writer.failed ≡ false;
  known : IsKnown l.rails l.spec l.progress;
  held : All (IsHeld l.progress.refuted) (take l.shape-index l.shape-items);
  best : l.progress.best ≡ l.fn.progress.best;
  least : l.progress.least ≡ l.fn.progress.least;
  given_up : l.progress.given_up ≡ l.fn.progress.given_up;
  written : (first : Option (List ℕ)) → HasWritten l.rails l.output l.spec l.budget first (g.K.Sink.got l.fn.writer.sink) l.fn.progress → HasWritten l.rails l.output l.spec l.budget first (g.K.Sink.got l.writer.sink) l.progress;
  later : g.K.Sink.faults l.fn.writer.sink ≤ g.K.Sink.faults l.writer.sink;
}
