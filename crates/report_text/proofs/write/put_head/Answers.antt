use Rattle.std.proofs.Common.{Err, refl, ◌++◌, map}
use Rattle.pla_reader.specs.Names.{bytes_of}
use Rattle.report_text.specs.Report.{text_of, words_text, title_line, inputs_line, rails_lines}
use Rattle.report_text.proofs.PutLaws.{puts_then, puts_stop, puts_as, head_parts}
use Rattle.report_text.proofs.write.put_head.Goals as goal

pub returns-in_err-put_title : goal.returns-in_err-put_title
returns-in_err-put_title g c =
    let names = map bytes_of c.args.names.now in
    puts_as _ _ _ _ _ _ _ _ _ (head_parts c.args.version c.args.rails names)
    (puts_stop _ _ _ _ _ _ (Err c.in_err-put_title.field-0.0) c.from_residual.result (words_text (title_line c.args.version).words) (words_text (inputs_line names).words ++ text_of (rails_lines c.args.version c.args.rails)) refl
    c.from_residual.ensures.0 c.in_err-put_title.ensures)

pub returns-in_err-put_line : goal.returns-in_err-put_line
returns-in_err-put_line g c =
    let names = map bytes_of c.args.names.now in
    puts_as _ _ _ _ _ _ _ _ _ (head_parts c.args.version c.args.rails names)
    (puts_then _ _ _ _ _ _ _ _ _ tt c.from_residual-in_err-put_line.result (words_text (title_line c.args.version).words) (words_text (inputs_line names).words ++ text_of (rails_lines c.args.version c.args.rails))
    (puts_stop _ _ _ _ _ _ (Err c.in_err-put_line.field-0.0) c.from_residual-in_err-put_line.result (words_text (inputs_line names).words) (text_of (rails_lines c.args.version c.args.rails)) refl c.from_residual-in_err-put_line.ensures.0
    c.in_err-put_line.ensures) c.in_ok-put_title.ensures)

pub returns : goal.returns
returns g c =
    let names = map bytes_of c.args.names.now in
    puts_as _ _ _ _ _ _ _ _ _ (head_parts c.args.version c.args.rails names)
    (puts_then _ _ _ _ _ _ _ _ _ tt c.put_rails.result (words_text (title_line c.args.version).words) (words_text (inputs_line names).words ++ text_of (rails_lines c.args.version c.args.rails))
    (puts_then _ _ _ _ _ _ _ _ _ tt c.put_rails.result (words_text (inputs_line names).words) (text_of (rails_lines c.args.version c.args.rails)) c.put_rails.ensures c.in_ok-put_line.ensures) c.in_ok-put_title.ensures)
