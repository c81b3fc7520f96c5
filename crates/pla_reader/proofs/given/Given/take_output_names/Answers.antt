use Rattle.std.proofs.Common.{◌≡◌, map, ap, sym, ◌∙◌, nat_lt, Some}
use Rattle.std.proofs.lemmas.List.{length-map}
use Rattle.std.specs.Prelude.{is_some, unwrap_or}
use Rattle.pla_reader.specs.Names.{bytes_of}
use Rattle.pla_reader.specs.Lines.{words_of}
use Rattle.pla_reader.specs.Faults.{names_fault}
use Rattle.pla_reader.specs.State.{state_of}
use Rattle.pla_reader.proofs.StateLaws.{Takes-output_names, is_some-option_map}
use Rattle.pla_reader.proofs.given.Given.take_output_names.Goals as goal

pub returns-in-Ok : goal.returns-in-Ok
returns-in-Ok c =
    let stood : is_some (state_of c.args.self.now).output_names ≡ c.is_some-stood.result = is_some-option_map (λ names. map bytes_of names.keys) c.args.self.now.output_names ∙ sym c.is_some-stood.ensures in
    Takes-output_names (state_of c.args.self.now) (map bytes_of c.in-Ok.names.keys) (words_of c.args.text.now) c.requires.state
    (ap (λ b. names_fault b (nat_lt 0 c.args.self.now.rows) (is_some c.args.self.now.outputs) (unwrap_or c.args.self.now.outputs 0) (words_of c.args.text.now)) stood ∙ c.in-Ok.ensures.0) c.in-Ok.ensures.1.0
    (c.in-Ok.ensures.1.1 ∙ ap (λ n. Some n) (sym (length-map c.in-Ok.names.keys bytes_of)))
