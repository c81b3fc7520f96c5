use Rattle.std.proofs.Common.{drop}
use Rattle.std.specs.List.{flat_map}
use Rattle.report_text.specs.Report.{block_text, parts_of_block}
use Rattle.report_text.proofs.PutLaws.{IsPut}
use Rattle.report_text.proofs.write.put_blocks.Given as goal

abbrev pub invariant-loop-block : goal.invariant-loop-block
invariant-loop-block g l =
    IsPut (g.K.Sink.got l.initial.sink) (g.K.Sink.got l.sink) l.initial.buffer l.buffer (g.K.Sink.faults l.initial.sink) (g.K.Sink.faults l.sink) (flat_map (λ b. block_text l.version (parts_of_block b)) (drop l.block-index l.blocks))
    (flat_map (λ b. block_text l.version (parts_of_block b)) l.blocks)
