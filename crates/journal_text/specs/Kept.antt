-- What a writer and a section keep, and how the bytes that the sink got spell it.
use Rattle.std.specs.Prelude.{◌≡◌, ℕ, ◌-◌, ◌+◌, ◌^◌, ◌≤◌, min, Bool, true, false, List, [], ◌∷◌, ◌++◌, ⊤, length, map, All, IfSome, refl}
use Rattle.std.specs.declared.option.Option.{Option}
use Rattle.std.specs.Coded.{Coded, code_by, coded×, coded_ℕ, coded_bool}
use Rattle.std.specs.FinSet as set
use Rattle.lrat_replay.specs.Book.{Book, Accepts, last_id, start}
use Rattle.lrat_replay.specs.Learned.{without_hints}
use Rattle.lrat_replay.specs.LratText.{step_text}
use Rattle.lrat_replay.specs.Store.{coded_book}
use Rattle.lrat_replay.specs.declared.line.LineKind.TheVariants.{Add}
use Rattle.lrat_replay.specs.declared.line.Step.{Step}
use Rattle.report_text.specs.Bounds.{AreRails}
use Rattle.report_text.specs.declared.answer.Version.TheVariants.{Two}
use Rattle.journal_text.specs.Bounds.{IsTarget, IsWritten, IsPart}
use Rattle.journal_text.specs.Parts.{Part, Question, Answered}
use Rattle.journal_text.specs.Text.{front_text, question_text, steps_text}
use Rattle.journal_text.specs.declared.target.Target.{Target}

-- a sink to which a journal is written, how many step lines its closed sections have, and whether an answer failed
pub record Writing (K : Type 0) : Type 0 where
  pub sink : K
  pub steps : ℕ
  pub failed : Bool

-- a sink to which a section is written, the formula with the steps that were learned, whether a step failed, and how many step lines stood before
pub record Learning (K : Type 0) : Type 0 where
  pub sink : K
  pub book : Book
  pub broken : Bool
  pub before : ℕ

abbrev pub writing_code : {K : Type 0} → Coded K → Coded (Writing K)
writing_code {K} code = code_by (K × (ℕ × Bool)) (coded× code (coded× coded_ℕ coded_bool)) (λ w. (w.sink, (w.steps, w.failed))) (λ p. record { sink = p.0; steps = p.1.0; failed = p.1.1 }) (λ _. refl)

abbrev pub learning_code : {K : Type 0} → Coded K → Coded (Learning K)
learning_code {K} code =
    code_by (K × (Book × (Bool × ℕ))) (coded× code (coded× coded_book (coded× coded_bool coded_ℕ))) (λ s. (s.sink, (s.book, (s.broken, s.before))))
    (λ p. record { sink = p.0; book = p.1.0; broken = p.1.1.0; before = p.1.1.1 }) (λ _. refl)

-- how many step lines the sections have
abbrev pub steps_in : List Part → ℕ
steps_in [] = 0
steps_in (Question s ∷ parts) = length s.steps + steps_in parts
steps_in (Answered block ∷ parts) = steps_in parts

-- the number, or the greatest `u64` where it is larger
abbrev pub capped : ℕ → ℕ
capped n = min n (2 ^ 64 - 1)

-- The bytes are the lines of some parts, each within its bounds, with so many step lines.
pub record SpellsParts (bytes : List ℕ) (steps : ℕ) : Type 0 where
  pub rails : ℕ
  pub parts : List Part
  pub text : bytes ≡ front_text Two rails parts
  pub count : steps ≡ capped (steps_in parts)
  pub rails_are : AreRails Two rails
  pub are : All (IsPart Two) parts

-- The bytes are the lines of some parts with so many step lines, and a question's line, each within its bounds.
pub record SpellsQuestion (bytes : List ℕ) (steps : ℕ) : Type 0 where
  pub rails : ℕ
  pub parts : List Part
  pub output : ℕ
  pub target : Target
  pub text : bytes ≡ front_text Two rails parts ++ question_text output target
  pub count : steps ≡ capped (steps_in parts)
  pub rails_are : AreRails Two rails
  pub are : All (IsPart Two) parts
  pub asked_output : output ≤ 63
  pub asked : IsTarget target

-- Each step is accepted by its own hints after those before it, and without their hints they are the steps of the book.
pub record AreOf (book : Book) (steps : List Step) : Type 0 where
  pub accepted : Accepts (start book.formula) (map Add steps)
  pub same : without_hints steps ≡ book.steps

-- Each step can be written; what stands of the last one's line is a front of it.
pub record LastInPart (bytes start : List ℕ) (steps : List Step) : Type 0 where
  pub earlier : List Step
  pub last : Step
  pub all : steps ≡ earlier ++ last ∷ []
  pub front : List ℕ
  pub rest : List ℕ
  pub line : step_text last.id last.clause last.hints ≡ front ++ rest
  pub text : bytes ≡ start ++ (steps_text earlier ++ front)
  pub written : All IsWritten steps

-- behind the question stand the lines of the steps, each of which can be written; where a step failed, its line may be cut short
abbrev pub HasLines : Bool → List ℕ → List ℕ → List Step → Type 0
HasLines false bytes start steps = (bytes ≡ start ++ steps_text steps) × All IsWritten steps
HasLines true bytes start steps = LastInPart bytes start steps

-- What a section's bytes spell: parts and a question, and the lines of the steps that were learned.
pub record SpellsSection (bytes : List ℕ) (book : Book) (broken : Bool) (before : ℕ) : Type 0 where
  pub start : List ℕ
  pub question : SpellsQuestion start before
  pub steps : List Step
  pub are : AreOf book steps
  pub lines : HasLines broken bytes start steps

-- What is true of a writer: where the sink tells and no answer failed, its bytes spell parts.
abbrev pub IsWriter : Option (List ℕ) → ℕ → Bool → Type 0
IsWriter told steps true = ⊤
IsWriter told steps false = IfSome told (λ bytes. SpellsParts bytes steps)

-- What is true of a section: it has no more steps than its last identifier, which is at most 2,147,483,647.
pub record IsSection (told : Option (List ℕ)) (book : Book) (broken : Bool) (before learned : ℕ) : Type 0 where
  pub count : learned ≡ length book.steps
  pub few : learned ≤ last_id book
  pub counted : last_id book ≤ 2147483647
  pub whole : book.deleted ≡ set.empty
  pub spelled : IfSome told (λ bytes. SpellsSection bytes book broken before)
