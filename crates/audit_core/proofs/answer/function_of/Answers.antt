use Rattle.std.proofs.Common.{arith, sym, ◌∙◌, length, ap, refl}
use Rattle.std.specs.Prelude.{slice_get}
use Rattle.std.proofs.lemmas.Option.{slice_get_read}
use Rattle.audit_core.proofs.NameLaws.{same_name, other_name}
use Rattle.audit_core.proofs.answer.function_of.Goals as goal

pub returns-then-eq : goal.returns-then-eq
returns-then-eq c = record {
  later = let not_below = c.if-block-least.false in omega (arith, not_below);
  name = same_name c.as_slice.result.now c.args.pla.now.output_names.keys c.args.block.now.output c.in_ok-name.name.now c.bytes.result.now c.bytes-2.result.now _ c.as_slice.ensures.keys
      c.in_ok-name.ensures.lookup.3.0 c.in_ok-name.ensures.lookup.1 c.bytes.ensures.same c.bytes-2.ensures.same (sym c.if-eq.true ∙ c.eq.ensures);
  function = ap (λ l. slice_get l c.args.block.now.output) (sym c.deref.ensures.value)
      ∙ slice_get_read c.deref.result.now (length c.deref.result.now) c.args.block.now.output c.in_ok-spec.spec.now refl c.in_ok-spec.ensures.lookup.3.0 c.in_ok-spec.ensures.lookup.1;
}

pub returns-else-eq : goal.returns-else-eq
returns-else-eq c f h =
    other_name c.as_slice.result.now c.args.pla.now.output_names.keys c.args.block.now.output c.in_ok-name.name.now c.bytes.result.now c.bytes-2.result.now _ c.as_slice.ensures.keys
    c.in_ok-name.ensures.lookup.3.0 c.in_ok-name.ensures.lookup.1 c.bytes.ensures.same c.bytes-2.ensures.same (sym c.if-eq.false ∙ c.eq.ensures) h.name
