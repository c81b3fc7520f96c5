use Rattle.std.proofs.Common.{[], ◌∷◌, ◌++◌, sym, ap, ◌∙◌, subst}
use Rattle.journal_text.specs.Parts.{Question, kind_of, section_of}
use Rattle.audit_core.specs.Audit.{AreRight}
use Rattle.audit_core.specs.Bare.{asked_in}
use Rattle.audit_core.specs.Confirmed.{confirmed_from}
use Rattle.audit_core.specs.Sought.{IsNext}
use Rattle.audit_core.specs.Tested.{basis_in}
use Rattle.audit_core.proofs.AskedLaws.{asked_question}
use Rattle.audit_core.proofs.SeenLaws.{right_more, next_question, confirmed_question, one_more_part}
use Rattle.audit_core.proofs.part.Seen.take_question.Goals as goal

pub returns-clause-ok : goal.returns-clause-ok
returns-clause-ok c before seen = record {
  right = subst (λ p. AreRight (basis_in c.args.basis.now) (before ++ p ∷ [])) (sym (ap kind_of c.requires.what)) (right_more (basis_in c.args.basis.now) before (Question (section_of c.args.section.now)) seen.right c.in_default.ensures.right);
  next = subst (λ p. IsNext (before ++ p ∷ []) c.args.self.now.least) (sym (ap kind_of c.requires.what)) (next_question before c.args.self.now.least (section_of c.args.section.now) seen.next);
  kept = c.in_ok-keep.ensures before c.args.basis.now.pla.now.outputs seen.kept;
  asked = c.in_ok-push.ensures.items ∙ ap (λ l. l ++ c.in_ok-without_steps.field-0 ∷ []) seen.asked ∙ ap (λ a. asked_in before ++ a ∷ []) c.in_ok-without_steps.ensures
      ∙ sym (ap (λ p. asked_in (before ++ p ∷ [])) (ap kind_of c.requires.what) ∙ asked_question before (section_of c.args.section.now));
  many = one_more_part before _ c.args.self.now.many seen.many;
  confirmed = seen.confirmed ∙ sym (ap (λ p. confirmed_from 0 (before ++ p ∷ [])) (ap kind_of c.requires.what) ∙ confirmed_question 0 before (section_of c.args.section.now));
}
