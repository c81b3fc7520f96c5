-- What replay of a section comes to, in words of the section.
use Rattle.std.proofs.Common.{◌≡◌, ℕ, Bool, true, false, length, map, refl, sym, ap, ◌∙◌, subst, inl, inr, Some}
use Rattle.std.specs.Prelude.{slice_get}
use Rattle.std.proofs.lemmas.List.{length-map}
use Rattle.clause_core.specs.Formula.{Formula}
use Rattle.cube_core.specs.Function.{Function}
use Rattle.lrat_replay.specs.Book.{Book, Accepts, after_lines, start, some_empty}
use Rattle.lrat_replay.specs.Learned.{AreWrittenNew, SpentWritten}
use Rattle.lrat_replay.specs.declared.line.LineKind.TheVariants.{Add}
use Rattle.journal_text.specs.Parts.{section_of}
use Rattle.journal_text.specs.Proved.{formula_of}
use Rattle.journal_text.specs.declared.journal.SectionText.{SectionText}
use Rattle.journal_text.specs.declared.journal.StepLine.{StepLine}
use Rattle.journal_text.specs.declared.target.Close.{Close}
use Rattle.journal_text.specs.declared.target.Close.TheVariants.{Refuted, Spent, Satisfied}
use Rattle.audit_core.specs.Audit.{Basis, adds_of, Closes, IsRightSection, IsMisclosed, IsSectionRefused}
use Rattle.audit_core.specs.Replayed.{steps_of, IsReplayRight, IsMiscount, IsReplayRefused}
use Rattle.audit_core.specs.declared.refusal.AuditRefusal.{AuditRefusal}
use Rattle.audit_core.specs.declared.refusal.AuditRefusal.TheVariants as refusals
use Rattle.audit_core.proofs.StepLaws.{adds_steps, reached_empty, not_reached}

-- ---- from replay to the section

module _ (formula : Formula) (book : Book) (s : SectionText) (same : book ≡ start formula) where
  from_start : Accepts book (adds_of s.steps.items) → Accepts (start formula) (map Add (steps_of s.steps.items))
  from_start h = subst (Accepts (start formula)) (adds_steps s.steps.items) (subst (λ (b : Book). Accepts b (adds_of s.steps.items)) same h)

  closes_as : (c : Close) → s.close ≡ c → Closes formula (steps_of s.steps.items) c → Closes formula (steps_of s.steps.items) s.close
  closes_as c e h = subst (Closes formula (steps_of s.steps.items)) (sym e) h

  closed_as : (c : Close) → s.close ≡ c → Closes formula (steps_of s.steps.items) s.close → Closes formula (steps_of s.steps.items) c
  closed_as c e h = subst (Closes formula (steps_of s.steps.items)) e h

  module _ (now : Book) (reached : Bool) (accepted : Accepts book (adds_of s.steps.items)) (after : now ≡ after_lines book (adds_of s.steps.items)) (is : reached ≡ some_empty now.steps) (close : s.close ≡ Refuted) where
    after_start : now ≡ after_lines (start formula) (adds_of s.steps.items)
    after_start = after ∙ ap (λ (b : Book). after_lines b (adds_of s.steps.items)) same

    pub finished : reached ≡ true → IsReplayRight formula (section_of s)
    finished shown = record { accepted = from_start accepted; closes = closes_as Refuted close (reached_empty formula s.steps.items now reached after_start is shown) }

    pub unfinished : reached ≡ false → IsReplayRefused formula s (refusals.Unfinished s.close_line)
    unfinished shown = inr (record {
      accepted = from_start accepted;
      closes_not = λ h. not_reached formula s.steps.items now reached after_start is shown (closed_as Refuted close h);
      told = inl (close, refl);
    })

  module _ (budget : ℕ) (accepted : Accepts book (adds_of s.steps.items)) (close : s.close ≡ Spent budget) where
    pub counted : AreWrittenNew book (steps_of s.steps.items) → length s.steps.items ≡ budget → IsReplayRight formula (section_of s)
    counted fresh many = record {
      accepted = from_start accepted;
      closes = closes_as (Spent budget) close (record { count = length-map s.steps.items (λ (l : StepLine). l.step) ∙ many; each = subst (λ (b : Book). AreWrittenNew b (steps_of s.steps.items)) same fresh });
    }

    pub miscounted : (AreWrittenNew book (steps_of s.steps.items) → length s.steps.items ≡ budget → ⊥) → IsReplayRefused formula s (refusals.Count s.close_line)
    miscounted not = inr (record {
      accepted = from_start accepted;
      closes_not = λ h.
          let spent : SpentWritten formula (steps_of s.steps.items) budget = closed_as (Spent budget) close h in
          not (subst (λ (b : Book). AreWrittenNew b (steps_of s.steps.items)) (sym same) spent.each) (sym (length-map s.steps.items (λ (l : StepLine). l.step)) ∙ spent.count);
      told = inr (budget, close, refl);
    })

  pub satisfied : Accepts book (adds_of s.steps.items) → s.close ≡ Satisfied → IsReplayRight formula (section_of s)
  satisfied accepted close = record { accepted = from_start accepted; closes = closes_as Satisfied close tt }

-- ---- from the section to the PLA

pub right_section : (basis : Basis) (s : SectionText) (f : Function) → slice_get basis.parts.functions s.output ≡ Some f → IsReplayRight (formula_of basis.rails f (section_of s)) (section_of s) → IsRightSection basis (section_of s)
right_section basis s f of h = record { function = f; replayed = record { of_output = of; accepted = h.accepted }; closes = h.closes }

missed : (basis : Basis) (begins : ℕ) (s : SectionText) (r : AuditRefusal) → IsMisclosed basis (section_of s) → IsMiscount s r → IsSectionRefused basis begins s r
missed basis begins s r not (inl h) = subst (IsSectionRefused basis begins s) (sym h.1) (refl, h.0, not)
missed basis begins s r not (inr h) = subst (IsSectionRefused basis begins s) (sym h.2) (refl, h.0, h.1, not)

pub section_refused : (basis : Basis) (begins : ℕ) (s : SectionText) (f : Function) (r : AuditRefusal) → slice_get basis.parts.functions s.output ≡ Some f → IsReplayRefused (formula_of basis.rails f (section_of s)) s r → IsSectionRefused basis begins s r
section_refused basis begins s f r of (inl h) = subst (IsSectionRefused basis begins s) (sym h.is) (f, of, h.first)
section_refused basis begins s f r of (inr h) = missed basis begins s r (record { function = f; replayed = record { of_output = of; accepted = h.accepted }; closes_not = h.closes_not }) h.told
