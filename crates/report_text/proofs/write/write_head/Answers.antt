use Rattle.std.proofs.Common.{map}
use Rattle.pla_reader.specs.Names.{bytes_of}
use Rattle.report_text.specs.Report.{head_text}
use Rattle.report_text.specs.declared.answer.Version.TheVariants.{Two}
use Rattle.report_text.proofs.PutLaws.{flushed_front}
use Rattle.report_text.proofs.write.write_head.Goals as goal

pub returns-clause-front : goal.returns-clause-front
returns-clause-front g c =
    let put = rw c.as_slice.ensures.keys at c.in_ok-put_head.ensures in
    flushed_front _ _ _ _ _ (head_text Two c.args.rails (map bytes_of c.args.names.now.keys)) _ _ tt c.new-buffer.ensures put c.flush.ensures.front
