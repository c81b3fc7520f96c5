-- Texts of a journal by their parts.
use Rattle.std.proofs.Common.{◌≡◌, ℕ, List, [], ◌∷◌, ◌++◌, refl, sym, ap, ◌∙◌, append_assoc, codes}
use Rattle.std.specs.Fmt.{decimal}
use Rattle.std.proofs.lemmas.List.{append-nil}
use Rattle.std.proofs.lemmas.List.Concat.{flat_map-append}
use Rattle.report_text.specs.declared.answer.Version.{Version}
use Rattle.report_text.specs.declared.answer.Version.TheVariants.{Two}
use Rattle.journal_text.specs.declared.target.Target.{Target}
use Rattle.journal_text.specs.Parts.{Section, Part, Question, Answered}
use Rattle.journal_text.specs.Laws.{BeginsJournal, AddsSection, BeginsSection, AddsAnswer, JoinsParts, JoinsFront, EndsJournal}
use Rattle.journal_text.specs.Text.{head_text, target_text, question_text, steps_text, close_text, section_text, part_text, parts_text, front_text, journal_text}

pub question_parts : (output : ℕ) (target : Target) → (codes "question " ++ decimal output) ++ (codes " " ++ (target_text target ++ codes "\n")) ≡ question_text output target
unfolding question_text
question_parts output target = append_assoc (codes "question ") (decimal output) (codes " " ++ (target_text target ++ codes "\n"))

pub head_joined : (rails : ℕ) (number : List ℕ) → number ≡ decimal rails → codes "lattice journal 2\nrails " ++ (number ++ codes "\n") ≡ head_text Two rails
unfolding head_text
head_joined rails number e = ap (λ z. codes "lattice journal 2\nrails " ++ (z ++ codes "\n")) e

pub joins_parts : JoinsParts
joins_parts version earlier later = flat_map-append (part_text version) earlier later

pub joins_front : JoinsFront
unfolding front_text
joins_front version rails parts more =
    ap (λ z. head_text version rails ++ z) (joins_parts version parts more) ∙ sym (append_assoc (head_text version rails) (parts_text version parts) (parts_text version more))

-- one more part
pub front-more : (version : Version) (rails : ℕ) (parts : List Part) (part : Part) → front_text version rails (parts ++ part ∷ []) ≡ front_text version rails parts ++ part_text version part
front-more version rails parts part = joins_front version rails parts (part ∷ []) ∙ ap (λ z. front_text version rails parts ++ z) (append-nil (part_text version part))

-- no parts
pub front-none : (version : Version) (rails : ℕ) → front_text version rails [] ≡ head_text version rails
unfolding front_text
front-none version rails = append-nil (head_text version rails)

-- a section behind the others
pub front-section : (version : Version) (rails : ℕ) (parts : List Part) (s : Section) (bytes : List ℕ)
    → bytes ≡ (front_text version rails parts ++ question_text s.output s.target) ++ (steps_text s.steps ++ close_text s.close) → bytes ≡ front_text version rails (parts ++ Question s ∷ [])
unfolding section_text
front-section version rails parts s bytes e =
    e ∙ append_assoc (front_text version rails parts) (question_text s.output s.target) (steps_text s.steps ++ close_text s.close) ∙ sym (front-more version rails parts (Question s))

pub begins_journal : BeginsJournal
begins_journal version rails = sym (front-none version rails)

pub adds_section : AddsSection
adds_section version rails parts section bytes origin e text =
    front-section version rails parts section bytes (text ∙ ap (λ z. z ++ (steps_text section.steps ++ close_text section.close)) e)

pub begins_section : BeginsSection
begins_section version rails parts section bytes front rest origin e lines text = (
  rest ++ close_text section.close,
  adds_section version rails parts section (bytes ++ (rest ++ close_text section.close)) origin e
      (ap (λ z. z ++ (rest ++ close_text section.close)) text ∙ append_assoc origin front (rest ++ close_text section.close)
      ∙ ap (λ z. origin ++ z) (sym (append_assoc front rest (close_text section.close)) ∙ ap (λ z. z ++ close_text section.close) (sym lines))),
)

pub adds_answer : AddsAnswer
adds_answer version rails parts block = sym (front-more version rails parts (Answered block))

pub ends_journal : EndsJournal
unfolding journal_text
ends_journal version rails parts = refl
