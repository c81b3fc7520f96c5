use Rattle.std.proofs.Common.{rules, ◌≡◌, ◌<◌, length, arith, ap, refl, Some}
use Rattle.std.specs.Prelude.{slice_get}
use Rattle.std.proofs.lemmas.List.{length-map}
use Rattle.std.proofs.lemmas.Option.{slice_get_read}
use Rattle.pla_reader.specs.Names.{bytes_of}
use Rattle.report_text.specs.Report.{parts_of_block}
use Rattle.wire_io.specs.Told.{Gains}
use Rattle.report_text.specs.Report.{block_text}
use Rattle.report_text.specs.declared.answer.Version.TheVariants.{Two}
use Rattle.four_lattice.proofs.SynthLaws.{asked_on-of, name-at, block-of, cuts-none, cuts-searched, cuts-answer, answers-output}
use Rattle.four_lattice.proofs.map.answer_output.Goals as goal

pub returns-in_default-clause-cuts : goal.returns-in_default-clause-cuts
returns-in_default-clause-cuts g c = rw c.into_sink.ensures (cuts-none _ c.args.output _ (asked_on-of c.args.pla.now c.args.array c.args.conflicts c.requires.pla) c.requires.there)

pub returns-in-Err-clause-cuts : goal.returns-in-Err-clause-cuts
returns-in-Err-clause-cuts g c = cuts-searched _ c.args.output _ _ _ (asked_on-of c.args.pla.now c.args.array c.args.conflicts c.requires.pla) c.requires.there c.in-Err.ensures.stopped

pub returns-then-is_err-clause-cuts : goal.returns-then-is_err-clause-cuts
returns-then-is_err-clause-cuts g c =
    let h = asked_on-of c.args.pla.now c.args.array c.args.conflicts c.requires.pla in
    let placed = c.in-Ok-place.ensures in
    let many = length-map c.args.pla.now.output_names.keys bytes_of in
    let names = c.requires.pla.output_names in
    let there = c.requires.there in
    let keys = ap length c.as_slice.ensures.keys in
    let within : c.args.output < length c.as_slice.result.now = omega (arith, many, names, there, keys) in
    let named = name-at c.args.pla.now.output_names.keys c.as_slice.result.now c.args.output c.index-as_slice-number.result c.in-Ok.name c.as_slice.ensures.keys within c.index-as_slice-number.is c.in-Ok.ensures in
    let of = block-of _ c.args.output c.index.result.now (bytes_of c.in-Ok.name) c.in-Ok-place.placed.0 c.in-Ok-place.placed.1.items h there named c.in-Ok.name.named placed.holds placed.answer placed.proofs placed.unlisted in
    rw c.into_sink-then-is_err.ensures (cuts-answer _ c.args.output c.index.result.now _ _ (record { told = g.K.Sink.got c.in-Ok-place.placed.2.sink; faults = 0 }) _ of placed.searched c.answer.ensures.front)

pub returns-clause-answers : goal.returns-clause-answers
returns-clause-answers g c =
    let h = asked_on-of c.args.pla.now c.args.array c.args.conflicts c.requires.pla in
    let placed = c.in-Ok-place.ensures in
    let many = length-map c.args.pla.now.output_names.keys bytes_of in
    let names = c.requires.pla.output_names in
    let there = c.requires.there in
    let keys = ap length c.as_slice.ensures.keys in
    let within : c.args.output < length c.as_slice.result.now = omega (arith, many, names, there, keys) in
    let named = name-at c.args.pla.now.output_names.keys c.as_slice.result.now c.args.output c.index-as_slice-number.result c.in-Ok.name c.as_slice.ensures.keys within c.index-as_slice-number.is c.in-Ok.ensures in
    let of = block-of _ c.args.output c.index.result.now (bytes_of c.in-Ok.name) c.in-Ok-place.placed.0 c.in-Ok-place.placed.1.items h there named c.in-Ok.name.named placed.holds placed.answer placed.proofs placed.unlisted in
    let gained : Gains (g.K.Sink.got c.in-Ok-place.placed.2.sink) (g.K.Sink.got c.answer.new.self.sink) (block_text Two (parts_of_block record { output = c.args.output; name = c.in-Ok.name; answer = c.in-Ok-place.placed.0; proofs = c.in-Ok-place.placed.1 })) = search rules in
    let function : slice_get c.args.pla.now.specs.items c.args.output ≡ Some c.index.result.now = let same = c.requires.pla.functions in let inside : c.args.output < length c.args.pla.now.specs.items = omega (arith, same, there) in
    slice_get_read c.args.pla.now.specs.items (length c.args.pla.now.specs.items) c.args.output c.index.result.now refl inside c.index.ensures in
    answers-output _ c.args.output c.index.result.now _ _ (record { told = g.K.Sink.got c.in-Ok-place.placed.2.sink; faults = 0 }) _ of function placed.holds placed.searched gained
