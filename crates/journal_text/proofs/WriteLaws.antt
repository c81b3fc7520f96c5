-- The text of a journal in pieces, as it is written.
use Rattle.std.proofs.Common.{◌≡◌, ℕ, ℤ, ◌+◌, ◌<◌, List, [], ◌∷◌, ◌++◌, length, get_or, drop, map, refl, sym, ap, ◌∙◌, append_assoc, codes}
use Rattle.std.specs.List.{flat_map}
use Rattle.std.specs.Fmt.{decimal}
use Rattle.clause_core.specs.Literal.{Literal}
use Rattle.lrat_replay.specs.LratText.{step_text}
use Rattle.report_text.proofs.Tools.{blanks_next}
use Rattle.report_text.specs.declared.answer.Version.{Version}
use Rattle.report_text.specs.declared.answer.Version.TheVariants.{One, Two}
use Rattle.journal_text.specs.Lines.{line_text}
use Rattle.journal_text.specs.Parts.{section_of, part_of, parts_of_journal}
use Rattle.journal_text.specs.Text.{question_text, steps_text, close_text, section_text, part_text, parts_text, head_text, front_text, journal_text}
use Rattle.journal_text.specs.declared.journal.Journal.{Journal}
use Rattle.journal_text.specs.declared.journal.Part.{Part as PartRead}
use Rattle.journal_text.specs.declared.journal.SectionText.{SectionText}
use Rattle.journal_text.specs.declared.journal.StepLine.{StepLine}

pub mapped_steps : (lines : List StepLine) → flat_map line_text lines ≡ steps_text (map (λ (l : StepLine). l.step) lines)
mapped_steps [] = refl
mapped_steps (l ∷ lines) = ap (λ z. line_text l ++ z) (mapped_steps lines)

pub mapped_parts : (v : Version) (parts : List PartRead) → flat_map (λ p. part_text v (part_of p)) parts ≡ parts_text v (map part_of parts)
mapped_parts v [] = refl
mapped_parts v (p ∷ parts) = ap (λ z. part_text v (part_of p) ++ z) (mapped_parts v parts)

pub section_lines : (s : SectionText) → question_text s.output s.target ++ (steps_text (section_of s).steps ++ close_text s.close) ≡ section_text (section_of s)
unfolding section_text
section_lines s = refl

pub journal_lines : (j : Journal) → head_text j.version j.rails ++ (parts_text j.version (parts_of_journal j).parts ++ codes "end\n") ≡ journal_text (parts_of_journal j)
unfolding journal_text front_text
journal_lines j = sym (append_assoc (head_text j.version j.rails) (parts_text j.version (parts_of_journal j).parts) (codes "end\n"))

pub head_of_one : (v : Version) (rails : ℕ) → v ≡ One → codes "lattice journal 1\n" ≡ head_text v rails
unfolding head_text
head_of_one v rails e = ap (λ w. head_text w rails) (sym e)

pub head_of_two : (v : Version) (rails : ℕ) → v ≡ Two → codes "lattice journal 2\nrails " ++ (decimal rails ++ codes "\n") ≡ head_text v rails
unfolding head_text
head_of_two v rails e = ap (λ w. head_text w rails) (sym e)

-- the line of the next step, and those behind it
pub line_next : (lines : List StepLine) (i : ℕ) (l : StepLine) (clause : List Literal) (hints : List ℤ) → i < length lines → l ≡ get_or lines i l → clause ≡ l.step.clause → hints ≡ l.step.hints
    → flat_map line_text (drop i lines) ≡ step_text l.step.id clause hints ++ flat_map line_text (drop (i + 1) lines)
line_next lines i l clause hints within is same same' =
    blanks_next line_text lines i l l within is ∙ ap (λ z. z ++ flat_map line_text (drop (i + 1) lines)) (sym (ap (λ x. step_text l.step.id x hints) same ∙ ap (step_text l.step.id l.step.clause) same'))
