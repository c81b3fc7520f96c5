use Rattle.std.proofs.Common.{◌≡◌, Some, length, refl, sym, ap, ◌∙◌}
use Rattle.std.specs.Prelude.{slice_get}
use Rattle.std.proofs.lemmas.Option.{slice_get_read}
use Rattle.std.proofs.lemmas.Result.{on_ok_weaker, IfErr-weaker}
use Rattle.audit_core.specs.Tested.{basis_in}
use Rattle.audit_core.proofs.ReplayLaws.{right_section, section_refused}
use Rattle.audit_core.proofs.section.test_section.Goals as goal

pub returns-clause-right : goal.returns-clause-right
returns-clause-right c =
    let of : slice_get c.args.basis.now.pla.now.specs.items c.args.section.now.output ≡ Some c.in-Some.spec.now =
    ap (λ l. slice_get l c.args.section.now.output) (sym c.deref.ensures.value)
    ∙ slice_get_read c.deref.result.now (length c.deref.result.now) c.args.section.now.output c.in-Some.spec.now refl c.in-Some.ensures.lookup.3.0 c.in-Some.ensures.lookup.1 in
    on_ok_weaker c.replay_section.result (λ h. right_section (basis_in c.args.basis.now) c.args.section.now c.in-Some.spec.now of h) c.replay_section.ensures.right

pub returns-clause-refused : goal.returns-clause-refused
returns-clause-refused c =
    let of : slice_get c.args.basis.now.pla.now.specs.items c.args.section.now.output ≡ Some c.in-Some.spec.now =
    ap (λ l. slice_get l c.args.section.now.output) (sym c.deref.ensures.value)
    ∙ slice_get_read c.deref.result.now (length c.deref.result.now) c.args.section.now.output c.in-Some.spec.now refl c.in-Some.ensures.lookup.3.0 c.in-Some.ensures.lookup.1 in
    IfErr-weaker c.replay_section.result _ _ (λ r h other. section_refused (basis_in c.args.basis.now) c.args.line c.args.section.now c.in-Some.spec.now r of (h other)) c.replay_section.ensures.refused
