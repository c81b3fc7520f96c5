use Rattle.std.proofs.Common.{rules, ◌≡◌, ◌<◌, ◌≤◌, length, arith, ap, refl, Some}
use Rattle.std.specs.Prelude.{slice_get}
use Rattle.std.proofs.lemmas.List.{length-map}
use Rattle.std.proofs.lemmas.Option.{slice_get_read}
use Rattle.pla_reader.specs.Names.{bytes_of}
use Rattle.report_text.specs.Report.{parts_of_block}
use Rattle.wire_io.specs.Told.{Gains}
use Rattle.report_text.specs.Report.{block_text}
use Rattle.report_text.specs.declared.answer.Version.TheVariants.{Two}
use Rattle.four_lattice.proofs.SynthLaws.{asked-of, name-at, block-of, cuts-none, cuts-searched, cuts-written, cuts-answer, answers-output}
use Rattle.four_lattice.proofs.synth.answer_output.Goals as goal

pub returns-in_default-clause-cuts : goal.returns-in_default-clause-cuts
returns-in_default-clause-cuts g c =
    let few : c.args.rails ≤ 1048575 = search rules in
    rw c.into_sink.ensures (cuts-none _ c.args.output _ (asked-of c.args.pla.now c.args.rails c.args.conflicts c.requires.pla few) c.requires.there)

pub returns-in-Err-clause-cuts : goal.returns-in-Err-clause-cuts
returns-in-Err-clause-cuts g c =
    let few : c.args.rails ≤ 1048575 = search rules in
    cuts-searched _ c.args.output _ _ _ (asked-of c.args.pla.now c.args.rails c.args.conflicts c.requires.pla few) c.requires.there c.in-Err.ensures.stopped

pub returns-then-is_err-clause-cuts : goal.returns-then-is_err-clause-cuts
returns-then-is_err-clause-cuts g c =
    let few : c.args.rails ≤ 1048575 = search rules in
    rw c.into_sink-then-is_err.ensures (cuts-written _ c.args.output c.index.result.now _ _ _ _ (asked-of c.args.pla.now c.args.rails c.args.conflicts c.requires.pla few) c.requires.there c.in-Ok-search.ensures.searched)

pub returns-then-is_err-2-clause-cuts : goal.returns-then-is_err-2-clause-cuts
returns-then-is_err-2-clause-cuts g c =
    let few : c.args.rails ≤ 1048575 = search rules in
    let h = asked-of c.args.pla.now c.args.rails c.args.conflicts c.requires.pla few in
    let found = c.in-Ok-search.ensures in
    let many = length-map c.args.pla.now.output_names.keys bytes_of in
    let names = c.requires.pla.output_names in
    let there = c.requires.there in
    let keys = ap length c.as_slice.ensures.keys in
    let within : c.args.output < length c.as_slice.result.now = omega (arith, many, names, there, keys) in
    let named = name-at c.args.pla.now.output_names.keys c.as_slice.result.now c.args.output c.index-as_slice-place.result c.in-Ok.name c.as_slice.ensures.keys within c.index-as_slice-place.is c.in-Ok.ensures in
    let of = block-of _ c.args.output c.index.result.now (bytes_of c.in-Ok.name) c.in-Ok-search.found.0 c.in-Ok-search.found.2.items h there named c.in-Ok.name.named found.holds found.answer found.proofs found.unlisted in
    rw c.into_sink-then-is_err-2.ensures (cuts-answer _ c.args.output c.index.result.now _ _ (record { told = g.K.Sink.got c.in-Ok-search.found.3.sink; faults = 0 }) _ of found.searched c.answer.ensures.front)

pub returns-clause-answers : goal.returns-clause-answers
returns-clause-answers g c =
    let few : c.args.rails ≤ 1048575 = search rules in
    let h = asked-of c.args.pla.now c.args.rails c.args.conflicts c.requires.pla few in
    let found = c.in-Ok-search.ensures in
    let many = length-map c.args.pla.now.output_names.keys bytes_of in
    let names = c.requires.pla.output_names in
    let there = c.requires.there in
    let keys = ap length c.as_slice.ensures.keys in
    let within : c.args.output < length c.as_slice.result.now = omega (arith, many, names, there, keys) in
    let named = name-at c.args.pla.now.output_names.keys c.as_slice.result.now c.args.output c.index-as_slice-place.result c.in-Ok.name c.as_slice.ensures.keys within c.index-as_slice-place.is c.in-Ok.ensures in
    let of = block-of _ c.args.output c.index.result.now (bytes_of c.in-Ok.name) c.in-Ok-search.found.0 c.in-Ok-search.found.2.items h there named c.in-Ok.name.named found.holds found.answer found.proofs found.unlisted in
    let gained : Gains (g.K.Sink.got c.in-Ok-search.found.3.sink) (g.K.Sink.got c.answer.new.self.sink) (block_text Two (parts_of_block record { output = c.args.output; name = c.in-Ok.name; answer = c.in-Ok-search.found.0; proofs = c.in-Ok-search.found.2 })) = search rules in
    let function : slice_get c.args.pla.now.specs.items c.args.output ≡ Some c.index.result.now = let same = c.requires.pla.functions in let inside : c.args.output < length c.args.pla.now.specs.items = omega (arith, same, there) in
    slice_get_read c.args.pla.now.specs.items (length c.args.pla.now.specs.items) c.args.output c.index.result.now refl inside c.index.ensures in
    answers-output _ c.args.output c.index.result.now _ _ (record { told = g.K.Sink.got c.in-Ok-search.found.3.sink; faults = 0 }) _ of function found.holds found.searched gained

pub returns-clause-used : goal.returns-clause-used
returns-clause-used g c =
    let there = c.requires.there in
    let function : slice_get c.args.pla.now.specs.items c.args.output ≡ Some c.index.result.now = let same = c.requires.pla.functions in let inside : c.args.output < length c.args.pla.now.specs.items = omega (arith, same, there) in
    slice_get_read c.args.pla.now.specs.items (length c.args.pla.now.specs.items) c.args.output c.index.result.now refl inside c.index.ensures in
    record { function = c.index.result.now; of_output = function; dropped = c.in-Ok-search.found.1.items; used = c.in-Ok-search.ensures.used; added = search rules }
