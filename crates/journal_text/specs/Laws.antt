-- How what the calls write comes to the text of a journal.
use Rattle.std.specs.Prelude.{◌≡◌, ℕ, List, [], ◌∷◌, ◌++◌, codes}
use Rattle.report_text.specs.Report.{BlockParts, block_text}
use Rattle.report_text.specs.declared.answer.Version.{Version}
use Rattle.journal_text.specs.Parts.{Section, Part, Question, Answered}
use Rattle.journal_text.specs.Text.{head_text, question_text, steps_text, close_text, parts_text, front_text, journal_text}

-- the lines before the parts are a journal's beginning
abbrev pub BeginsJournal : Type 0
BeginsJournal = (version : Version) (rails : ℕ) → head_text version rails ≡ front_text version rails []

-- a section that is closed behind parts and its question's line is one more part
abbrev pub AddsSection : Type 0
AddsSection =
    (version : Version) (rails : ℕ) (parts : List Part) (section : Section) (bytes origin : List ℕ) → origin ≡ front_text version rails parts ++ question_text section.output section.target
    → bytes ≡ origin ++ (steps_text section.steps ++ close_text section.close) → bytes ≡ front_text version rails (parts ++ Question section ∷ [])

-- a section that is begun behind parts and never closed is a front of the parts with it, however it would close
abbrev pub BeginsSection : Type 0
BeginsSection =
    (version : Version) (rails : ℕ) (parts : List Part) (section : Section) (bytes front rest origin : List ℕ) → origin ≡ front_text version rails parts ++ question_text section.output section.target
    → steps_text section.steps ≡ front ++ rest → bytes ≡ origin ++ front → (more : List ℕ) × (bytes ++ more ≡ front_text version rails (parts ++ Question section ∷ []))

-- an answer behind parts is one more part
abbrev pub AddsAnswer : Type 0
AddsAnswer = (version : Version) (rails : ℕ) (parts : List Part) (block : BlockParts) → front_text version rails parts ++ block_text version block ≡ front_text version rails (parts ++ Answered block ∷ [])

-- the text of parts is that of the earlier ones and that of the later ones
abbrev pub JoinsParts : Type 0
JoinsParts = (version : Version) (earlier later : List Part) → parts_text version (earlier ++ later) ≡ parts_text version earlier ++ parts_text version later

-- more parts stand behind those before them
abbrev pub JoinsFront : Type 0
JoinsFront = (version : Version) (rails : ℕ) (parts more : List Part) → front_text version rails (parts ++ more) ≡ front_text version rails parts ++ parts_text version more

-- the last line behind parts ends a journal
abbrev pub EndsJournal : Type 0
EndsJournal = (version : Version) (rails : ℕ) (parts : List Part) → front_text version rails parts ++ codes "end\n" ≡ journal_text (record { version = version; rails = rails; parts = parts })
