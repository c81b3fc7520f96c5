-- How the steps of one call and of the next come together.
use Rattle.std.specs.Prelude.{◌≡◌, ◌+◌, ℕ, List, ◌++◌}
use Rattle.clause_core.specs.Formula.{Formula, HasNoSolution}
use Rattle.lrat_replay.specs.declared.line.Step.{Step}
use Rattle.lrat_replay.specs.Book.{Book, Numbered, start}
use Rattle.lrat_replay.specs.New.{AreAccepted, AllTellPropagation, Spent}
use Rattle.lrat_replay.specs.Learned.{after_steps, count_full, Learns, EndsEmpty, SpentWritten, without_hints}

-- what two calls learned, one after the other, is as if one call had learned it
abbrev pub LearnTogether : Type 0
LearnTogether = (first middle last : Book) (a b : List Numbered) → Learns first middle a → Learns middle last b → Learns first last (a ++ b)

abbrev pub CountTogether : Type 0
CountTogether = (a b : List Numbered) → count_full (a ++ b) ≡ count_full a + count_full b

abbrev pub TellTogether : Type 0
TellTogether = (book : Book) (a b : List Numbered) → AllTellPropagation book a → AllTellPropagation (after_steps book a) b → AllTellPropagation book (a ++ b)

-- a budget that is spent on written steps, each by its own hints, is spent
abbrev pub IsSpentByWriting : Type 0
IsSpentByWriting = (formula : Formula) (steps : List Step) (budget : ℕ) → SpentWritten formula steps budget → Spent formula (without_hints steps) budget

-- accepted steps that end with the empty clause leave the formula no solution
abbrev pub IsEndSound : Type 0
IsEndSound = (formula : Formula) (steps : List Numbered) → AreAccepted (start formula) steps → EndsEmpty steps → HasNoSolution formula
