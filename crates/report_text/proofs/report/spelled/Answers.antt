use Rattle.std.proofs.Common.{map}
use Rattle.std.proofs.lemmas.Result.{err_from_is_err_and}
use Rattle.pla_reader.specs.Names.{bytes_of}
use Rattle.report_text.specs.Report.{parts_of_block}
use Rattle.report_text.proofs.ReportLaws.{inputs_fault, rails_fault, blocks_refused, report_read, head_room}
use Rattle.report_text.proofs.report.spelled.Goals as goal

pub returns-in_err-input_names : goal.returns-in_err-input_names
returns-in_err-input_names c =
    let p = err_from_is_err_and c.from_residual-in_err-input_names.result c.from_residual-in_err-input_names.ensures.1 in
    rw (p.1, p.2) (inputs_fault c.in_ok-version.version _ _ c.in_err-input_names.field-0.0 c.in_ok-version.ensures c.in_err-input_names.ensures)

pub returns-in_err-rails : goal.returns-in_err-rails
returns-in_err-rails c =
    let p = err_from_is_err_and c.from_residual-in_err-rails.result c.from_residual-in_err-rails.ensures.1 in
    rw (p.1, p.2) (rails_fault c.in_ok-version.version (map bytes_of c.in_ok-input_names.input_names.items) _ _ _ c.in_err-rails.field-0.0 c.in_ok-version.ensures c.in_ok-input_names.ensures.0 c.in_ok-input_names.ensures.1 c.in_err-rails.ensures)

pub blocks_at-requires : goal.blocks_at-requires
blocks_at-requires c =
    head_room c.in_ok-version.version c.in_ok-rails.rails (map bytes_of c.in_ok-input_names.input_names.items) _ _ _ _ _ c.in_ok-version.ensures c.in_ok-input_names.ensures.1 c.in_ok-rails.ensures.1 c.first_line.ensures c.requires

pub returns-in_err-blocks : goal.returns-in_err-blocks
returns-in_err-blocks c =
    let p = err_from_is_err_and c.from_residual-in_err-blocks.result c.from_residual-in_err-blocks.ensures.1 in
    rw (p.1, p.2) (blocks_refused c.in_ok-version.version c.in_ok-rails.rails (map bytes_of c.in_ok-input_names.input_names.items) _ _ _ _ _ c.in_err-blocks.field-0.0 c.in_ok-version.ensures c.in_ok-input_names.ensures.0 c.in_ok-input_names.ensures.1
    c.in_ok-rails.ensures.0 c.in_ok-rails.ensures.1 c.first_line.ensures c.in_err-blocks.ensures)

pub returns : goal.returns
returns c =
    report_read c.in_ok-version.version c.in_ok-rails.rails (map bytes_of c.in_ok-input_names.input_names.items) (map parts_of_block c.in_ok-blocks.blocks.items) _ _ _ _ c.in_ok-version.ensures c.in_ok-input_names.ensures.0
    c.in_ok-input_names.ensures.1 c.in_ok-rails.ensures.0 c.in_ok-rails.ensures.1 c.in_ok-blocks.ensures
