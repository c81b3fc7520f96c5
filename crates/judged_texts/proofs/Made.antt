-- What a text says has a value as it is read, with the numbers of the text's lines.
use Rattle.std.proofs.Common.{◌≡◌, ℕ, ◌+◌, ◌≤◌, List, [], ◌∷◌, map, length, refl, ap, arith}
use Rattle.std.specs.Global.{Vec}
use denote.RawPtr.{null_ptr}
use Rattle.journal_text.specs.Bounds.{IsJournal}
use Rattle.journal_text.specs.Parts.{Part, Question, Answered, JournalParts, kind_of, part_of, parts_of_journal}
use Rattle.journal_text.specs.Reading.{AreNumbered, IsNumbered, AreLined, HasLineNumbers}
use Rattle.journal_text.specs.Text.{head_text, part_text, journal_text}
use Rattle.journal_text.specs.declared.journal.Journal.{Journal}
use Rattle.journal_text.specs.declared.journal.Part.{Part as PartRead}
use Rattle.journal_text.specs.declared.journal.PartKind.{PartKind}
use Rattle.journal_text.specs.declared.journal.PartKind.TheVariants as kinds
use Rattle.journal_text.specs.declared.journal.StepLine.{StepLine}
use Rattle.lrat_replay.specs.declared.line.Step.{Step}
use Rattle.report_text.specs.Pieces.{feeds}
use Rattle.report_text.specs.declared.answer.Version.{Version}
use Rattle.judged_texts.proofs.Audit.{IsAnswered, AreAnswered}
use Rattle.judged_texts.proofs.Lengths.{IsShort, IsSmall, AreSmall, journal_small}

-- a list in memory
abbrev vec_of : {X : Type 0} (xs : List X) → IsShort xs → Vec X
vec_of xs few = record { ptr = null_ptr; len = length xs; cap = length xs; alloc = record { memory = record { seal = tt } }; items = xs; ok = (refl, omega arith); small = omega (arith, few) }

-- ---- steps on lines one after another

abbrev steps_from : ℕ → List Step → List StepLine
steps_from here [] = []
steps_from here (s ∷ steps) = record { line = here; step = s } ∷ steps_from (here + 1) steps

same_steps : (here : ℕ) (steps : List Step) → map (λ (l : StepLine). l.step) (steps_from here steps) ≡ steps
same_steps here [] = refl
same_steps here (s ∷ steps) = ap (λ l. s ∷ l) (same_steps (here + 1) steps)

many_steps : (here : ℕ) (steps : List Step) → length (steps_from here steps) ≡ length steps
many_steps here [] = refl
many_steps here (s ∷ steps) = let more = many_steps (here + 1) steps in omega (arith, more)

steps_numbered : (here : ℕ) (steps : List Step) → AreNumbered here (steps_from here steps)
steps_numbered here [] = tt
steps_numbered here (s ∷ steps) = (refl, steps_numbered (here + 1) steps)

-- ---- parts

short_steps : (here : ℕ) (steps : List Step) → IsShort steps → IsShort (steps_from here steps)
short_steps here steps few = let same = many_steps here steps in omega (arith, same, few)

abbrev kind_from : (here : ℕ) (p : Part) → IsSmall p → PartKind
kind_from here (Question s) few = kinds.Question (record {
  output = s.output;
  target = s.target;
  steps = vec_of (steps_from here s.steps) (short_steps here s.steps few);
  close = s.close;
  close_line = here + length (steps_from here s.steps);
})
kind_from here (Answered block) few = kinds.Answer (record {
  output = block.output;
  name = record { bytes = vec_of block.name few.2; named = few.0 };
  answer = block.answer;
  proofs = vec_of block.proofs few.3;
})

same_kind : (here : ℕ) (p : Part) (few : IsSmall p) → kind_of (kind_from here p few) ≡ p
same_kind here (Question s) few = let e = same_steps here s.steps in λ i. Question (record { output = s.output; target = s.target; steps = e i; close = s.close })
same_kind here (Answered block) few = refl

kind_numbered : (here : ℕ) (p : Part) (few : IsSmall p) → IsNumbered here (kind_from here p few)
kind_numbered here (Question s) few = (steps_numbered here s.steps, refl)
kind_numbered here (Answered block) few = tt

kind_answered : (here : ℕ) (p : Part) (few : IsSmall p) → IsAnswered (kind_of (kind_from here p few))
kind_answered here (Question s) few = tt
kind_answered here (Answered block) few = few.1

abbrev part_from : (here : ℕ) (p : Part) → IsSmall p → PartRead
part_from here p few = record { line = here; what = kind_from (here + 1) p few }

abbrev parts_from : (version : Version) (here : ℕ) (parts : List Part) → AreSmall parts → List PartRead
parts_from version here [] few = []
parts_from version here (p ∷ parts) few = part_from here p few.0 ∷ parts_from version (here + feeds (part_text version (part_of (part_from here p few.0)))) parts few.1

same_parts : (version : Version) (here : ℕ) (parts : List Part) (few : AreSmall parts) → map part_of (parts_from version here parts few) ≡ parts
same_parts version here [] few = refl
same_parts version here (p ∷ parts) few =
    let first : part_of (part_from here p few.0) ≡ p = same_kind (here + 1) p few.0 in
    let rest = same_parts version (here + feeds (part_text version (part_of (part_from here p few.0)))) parts few.1 in
    λ i. first i ∷ rest i

many_parts : (version : Version) (here : ℕ) (parts : List Part) (few : AreSmall parts) → length (parts_from version here parts few) ≡ length parts
many_parts version here [] few = refl
many_parts version here (p ∷ parts) few = let more = many_parts version (here + feeds (part_text version (part_of (part_from here p few.0)))) parts few.1 in omega (arith, more)

parts_lined : (version : Version) (here : ℕ) (parts : List Part) (few : AreSmall parts) → AreLined version here (parts_from version here parts few)
parts_lined version here [] few = tt
parts_lined version here (p ∷ parts) few = (refl, kind_numbered (here + 1) p few.0, parts_lined version (here + feeds (part_text version (part_of (part_from here p few.0)))) parts few.1)

parts_answered : (version : Version) (here : ℕ) (parts : List Part) (few : AreSmall parts) → AreAnswered (parts_from version here parts few)
parts_answered version here [] few = tt
parts_answered version here (p ∷ parts) few = (kind_answered (here + 1) p few.0, parts_answered version (here + feeds (part_text version (part_of (part_from here p few.0)))) parts few.1)

-- The journal as it is read, with the numbers of its lines.
pub record IsMade (journal : JournalParts) : Type 0 where
  pub read : Journal
  pub same : parts_of_journal read ≡ journal
  pub lines : HasLineNumbers read
  pub answered : AreAnswered read.parts.items

pub made : (journal : JournalParts) → IsJournal journal → length (journal_text journal) ≤ 536870912 → IsMade journal
made journal is few = record {
  read = record {
    version = journal.version;
    rails = journal.rails;
    parts = vec_of parts (let same = many_parts journal.version first journal.parts small.0 in let most = small.1 in omega (arith, same, most));
  };
  same = (let e = same_parts journal.version first journal.parts small.0 in λ i. record { version = journal.version; rails = journal.rails; parts = e i });
  lines = parts_lined journal.version first journal.parts small.0;
  answered = parts_answered journal.version first journal.parts small.0;
} where
  first : ℕ
  first = 1 + feeds (head_text journal.version journal.rails)

  small : AreSmall journal.parts × IsShort journal.parts
  small = journal_small journal is few

  parts : List PartRead
  parts = parts_from journal.version first journal.parts small.0
