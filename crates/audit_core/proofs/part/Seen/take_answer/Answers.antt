use Rattle.std.proofs.Common.{[], ◌∷◌, ◌++◌, ◌+◌, refl, sym, ap, ◌∙◌, subst}
use Rattle.journal_text.specs.Parts.{Answered, kind_of}
use Rattle.report_text.specs.Report.{parts_of_block}
use Rattle.audit_core.specs.Audit.{AreRight, IsKindRefused}
use Rattle.audit_core.specs.Bare.{asked_in}
use Rattle.audit_core.specs.Confirmed.{confirmed_from}
use Rattle.audit_core.specs.Sought.{IsNext, AreKept}
use Rattle.audit_core.specs.Tested.{basis_in}
use Rattle.audit_core.proofs.AskedLaws.{asked_answered}
use Rattle.audit_core.proofs.SeenLaws.{right_more, next_answer, kept_answer, answer_confirmed, one_more_part, all_of}
use Rattle.audit_core.proofs.part.Seen.take_answer.Goals as goal

pub returns-in-Err-clause-refused : goal.returns-in-Err-clause-refused
returns-in-Err-clause-refused c other before seen =
    subst (λ k. IsKindRefused (basis_in c.args.basis.now) before c.args.part.now.line k c.in-Err.refusal) (sym c.requires.what) (c.in-Err.ensures.refused other before seen.next (all_of (basis_in c.args.basis.now) before c.args.self.now c.deref.result.now c.deref-2.result.now c.deref.ensures.value c.deref-2.ensures.value seen))

pub returns-clause-ok : goal.returns-clause-ok
returns-clause-ok c before seen =
    let right = c.in_default.ensures.right before seen.next (all_of (basis_in c.args.basis.now) before c.args.self.now c.deref.result.now c.deref-2.result.now c.deref.ensures.value c.deref-2.ensures.value seen) in
    record {
      right = subst (λ p. AreRight (basis_in c.args.basis.now) (before ++ p ∷ [])) (sym (ap kind_of c.requires.what)) (right_more (basis_in c.args.basis.now) before (Answered (parts_of_block c.args.block.now)) seen.right right);
      next = subst (λ p. IsNext (before ++ p ∷ []) (c.args.block.now.output + 1)) (sym (ap kind_of c.requires.what)) (next_answer before c.args.self.now.least (parts_of_block c.args.block.now) seen.next right.of_output.later);
      kept = subst (λ p. AreKept (before ++ p ∷ []) c.args.basis.now.pla.now.outputs c.args.self.now.refuted.items) (sym (ap kind_of c.requires.what)) (kept_answer before (parts_of_block c.args.block.now) c.args.basis.now.pla.now.outputs c.args.self.now.refuted.items seen.kept);
      asked = seen.asked ∙ sym (ap (λ p. asked_in (before ++ p ∷ [])) (ap kind_of c.requires.what) ∙ asked_answered before (parts_of_block c.args.block.now));
      many = one_more_part before _ c.args.self.now.many seen.many;
      confirmed = answer_confirmed before (parts_of_block c.args.block.now) c.args.self.now.confirmed.items c.push.new.self.items _ seen.confirmed c.in_ok-push.ensures.items refl seen.many
          ∙ sym (ap (λ p. confirmed_from 0 (before ++ p ∷ [])) (ap kind_of c.requires.what));
    }
