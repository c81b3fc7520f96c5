use Rattle.std.proofs.Common.{◌≢◌, length, sym, subst, inr}
use Rattle.std.proofs.lemmas.Result.{err_from_is_err_and}
use Rattle.pla_reader.specs.Given.{rows_of}
use Rattle.pla_reader.specs.Marking.{AreFunctions, IsClash}
use Rattle.pla_reader.specs.Reading.{said_in, Refused}
use Rattle.pla_reader.specs.declared.pla.PlaRefusal.TheVariants.{NoMemory}
use Rattle.pla_reader.specs.State.{state_of}
use Rattle.pla_reader.proofs.FinalLaws.{sets_read, sets_count, sets_below, Reads-finished, IsConflict-clash, IsPla-finished}
use Rattle.pla_reader.proofs.pla.read_text.Goals as goal

pub functions-requires-clause-below : goal.functions-requires-clause-below
functions-requires-clause-below c = sets_below (said_in c.args.bytes.now) (state_of c.take_lines.new.given) c.in-Some-Some.inputs c.in-Some-Some.outputs c.deref.result.now c.in_ok-end.ensures.ok.keeps c.in-Some-Some.is-0 c.in-Some-Some.is-1 c.deref.ensures.value

pub returns-in_err-specs-clause-refused : goal.returns-in_err-specs-clause-refused
returns-in_err-specs-clause-refused c =
    let p = err_from_is_err_and c.from_residual-in_err-specs.result c.from_residual-in_err-specs.ensures.1 in
    let are = sets_read (said_in c.args.bytes.now) (state_of c.take_lines.new.given) c.in-Some-Some.inputs c.in-Some-Some.outputs c.unwrap_or.result c.deref.result.now c.in_ok-end.ensures.ok.keeps c.in-Some-Some.is-0 c.in-Some-Some.is-1 c.unwrap_or.ensures c.deref.ensures.value in
    let many = sets_count (said_in c.args.bytes.now) (state_of c.take_lines.new.given) c.in-Some-Some.inputs c.in-Some-Some.outputs c.deref.result.now c.in_ok-end.ensures.ok.keeps c.in-Some-Some.is-0 c.in-Some-Some.is-1 c.deref.ensures.value in
    let refused : c.in_err-specs.field-0.0 ≢ NoMemory → Refused c.args.bytes.now c.in_err-specs.field-0.0 = λ ne.
    inr (
      c.if-bytes-gt-MOST_BYTES.false,
      inr (inr (IsConflict-clash c.args.bytes.now (state_of c.take_lines.new.given) c.in_ok-end.end.line c.in_ok-end.end.place c.in-Some-Some.inputs c.in-Some-Some.outputs (length c.deref.result.now) c.in_err-specs.field-0.0 c.in_ok-end.ensures.ok c.in-Some-Some.is-0 c.in-Some-Some.is-1 many
          (subst (λ k. IsClash k c.in-Some-Some.inputs (length c.deref.result.now) (rows_of (said_in c.args.bytes.now)) c.in_err-specs.field-0.0) c.unwrap_or.ensures (c.in_err-specs.ensures.clash ne (rows_of (said_in c.args.bytes.now)) are)))),
    ) in
    rw p.1 (subst (λ r. r ≢ NoMemory → Refused c.args.bytes.now r) (sym p.2) refused)

pub returns-clause-found : goal.returns-clause-found
returns-clause-found c =
    let are = sets_read (said_in c.args.bytes.now) (state_of c.take_lines.new.given) c.in-Some-Some.inputs c.in-Some-Some.outputs c.unwrap_or.result c.deref.result.now c.in_ok-end.ensures.ok.keeps c.in-Some-Some.is-0 c.in-Some-Some.is-1 c.unwrap_or.ensures c.deref.ensures.value in
    let fs = c.in_ok-specs.ensures.found (rows_of (said_in c.args.bytes.now)) are in
    Reads-finished c.args.bytes.now (state_of c.take_lines.new.given) c.in_ok-end.end.line c.in_ok-end.end.place c.in-Some-Some.inputs c.in-Some-Some.outputs (length c.deref.result.now) c.in_ok-specs.specs.items _ _ c.if-bytes-gt-MOST_BYTES.false
    c.in_ok-end.ensures.ok c.in-Some-Some.is-0 c.in-Some-Some.is-1
    (sets_count (said_in c.args.bytes.now) (state_of c.take_lines.new.given) c.in-Some-Some.inputs c.in-Some-Some.outputs c.deref.result.now c.in_ok-end.ensures.ok.keeps c.in-Some-Some.is-0 c.in-Some-Some.is-1 c.deref.ensures.value)
    (subst (λ k. AreFunctions k c.in-Some-Some.inputs (length c.deref.result.now) (rows_of (said_in c.args.bytes.now)) c.in_ok-specs.specs.items) c.unwrap_or.ensures fs) c.in_ok-names_or.ensures c.in_ok-names_or-2.ensures

pub returns-clause-whole : goal.returns-clause-whole
returns-clause-whole c =
    let are = sets_read (said_in c.args.bytes.now) (state_of c.take_lines.new.given) c.in-Some-Some.inputs c.in-Some-Some.outputs c.unwrap_or.result c.deref.result.now c.in_ok-end.ensures.ok.keeps c.in-Some-Some.is-0 c.in-Some-Some.is-1 c.unwrap_or.ensures c.deref.ensures.value in
    IsPla-finished (state_of c.take_lines.new.given) c.in-Some-Some.inputs c.in-Some-Some.outputs c.in_ok-end.end.place (length c.deref.result.now) c.unwrap_or.result (rows_of (said_in c.args.bytes.now)) c.in_ok-specs.specs.items _ _ c.in_ok-end.ensures.ok.state c.in-Some-Some.is-0
    c.in-Some-Some.is-1
    (sets_count (said_in c.args.bytes.now) (state_of c.take_lines.new.given) c.in-Some-Some.inputs c.in-Some-Some.outputs c.deref.result.now c.in_ok-end.ensures.ok.keeps c.in-Some-Some.is-0 c.in-Some-Some.is-1 c.deref.ensures.value)
    (c.in_ok-specs.ensures.found (rows_of (said_in c.args.bytes.now)) are) c.in_ok-names_or.ensures c.in_ok-names_or-2.ensures
