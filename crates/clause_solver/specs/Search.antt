-- What a search keeps, and what it adds to its ledger.
use Rattle.std.specs.Prelude.{◌≡◌, ℕ, ◌+◌, ◌*◌, ◌<◌, ◌≤◌, Bool, false, List, [], length, All}
use Rattle.clause_core.specs.Literal.{Literal}
use Rattle.clause_core.specs.Formula.{IsOver}
use Rattle.lrat_replay.specs.Book.{Book, Numbered, after_addition}
use Rattle.lrat_replay.specs.New.{AreAccepted, AreNew, AllTellPropagation, IsUndecided}
use Rattle.lrat_replay.specs.Learned.{after_steps, count_full, Learns, EndsEmpty}
use Rattle.clause_solver.specs.declared.search.Round.{Round}
use Rattle.clause_solver.specs.declared.search.Round.TheVariants.{Learned, Decided, Satisfied, Refuted, Spent}
use Rattle.clause_solver.specs.declared.search.Ending.{Ending}
use Rattle.clause_solver.specs.declared.search.Ending.TheVariants as ends
use Rattle.clause_solver.specs.Trail.{Track, known_by, unassigned, AreValued}
use Rattle.clause_solver.specs.Plain.{AllRest, HaveReasons}
use Rattle.clause_solver.specs.Copy.{IsCopy}

-- a search that can go on: its clauses are those of its ledger, which is not broken, and it has a mark for each literal
pub record IsReady (book : Book) (broken : Bool) (clauses : List (List Literal)) (track : Track) (width : ℕ) : Type 0 where
  pub whole : broken ≡ false
  pub copy : IsCopy book clauses
  pub over : All (IsOver track.vars) clauses
  pub vars : track.vars ≡ book.formula.vars
  pub room : 2 * track.vars + 2 ≤ width

-- exactly so many steps came to the ledger: each is accepted and new after those before it, and tells propagation something
pub record LearnsNew (old new : Book) (count : ℕ) : Type 0 where
  pub learned : List Numbered
  pub grown : new ≡ after_steps old learned
  pub accepted : AreAccepted old learned
  pub are_new : AreNew old learned
  pub tell : AllTellPropagation old learned
  pub many : length learned ≡ count

-- at most so many steps that are not empty came to the ledger: each step is accepted, and new where it is not empty
pub record LearnsUpTo (old new : Book) (budget : ℕ) : Type 0 where
  pub learned : List Numbered
  pub learns : Learns old new learned
  pub few : count_full learned ≤ budget

-- what a search works on, and its ledger, at one moment
pub record Moment : Type 0 where
  pub book : Book
  pub broken : Bool
  pub clauses : List (List Literal)
  pub track : Track
  pub width : ℕ

-- the search can go on, and each value has its reason
pub record Goes (now : Moment) : Type 0 where
  pub ready : IsReady now.book now.broken now.clauses now.track now.width
  pub reasons : HaveReasons now.clauses now.track.values

-- each variable has a value, and propagation is complete
pub record HasModel (now : Moment) : Type 0 where
  pub rest : AllRest now.clauses (known_by now.track.values)
  pub valued : AreValued now.track.vars (known_by now.track.values)

-- a clause was learned
pub record LearnsRound (old new : Moment) (left : ℕ) : Type 0 where
  pub some : 0 < left
  pub goes : Goes new
  pub learns : LearnsNew old.book new.book 1
  pub grown : length new.clauses ≡ length old.clauses + 1
  pub vars : new.track.vars ≡ old.track.vars

-- one more variable has a value
pub record DecidesRound (old new : Moment) : Type 0 where
  pub goes : Goes new
  pub book : new.book ≡ old.book
  pub clauses : new.clauses ≡ old.clauses
  pub vars : new.track.vars ≡ old.track.vars
  pub fewer : unassigned new.track < unassigned old.track

pub record SatisfiesRound (old new : Moment) : Type 0 where
  pub goes : Goes new
  pub book : new.book ≡ old.book
  pub model : HasModel new

pub record RefutesRound (old new : Moment) : Type 0 where
  pub whole : new.broken ≡ false
  pub id : ℕ
  pub book : new.book ≡ after_addition old.book id []

pub record SpendsRound (old new : Moment) (left : ℕ) : Type 0 where
  pub none : left ≡ 0
  pub goes : Goes new
  pub book : new.book ≡ old.book
  pub undecided : IsUndecided new.book

-- what one round of a search comes to
abbrev pub RoundSo : Round → Moment → Moment → ℕ → Type 0
RoundSo Learned old new left = LearnsRound old new left
RoundSo Decided old new left = DecidesRound old new
RoundSo Satisfied old new left = SatisfiesRound old new
RoundSo Refuted old new left = RefutesRound old new
RoundSo Spent old new left = SpendsRound old new left

pub record SatisfiesSearch (old new : Moment) (budget : ℕ) : Type 0 where
  pub count : ℕ
  pub few : count ≤ budget
  pub learns : LearnsNew old.book new.book count
  pub goes : Goes new
  pub model : HasModel new

pub record RefutesSearch (old new : Moment) : Type 0 where
  pub whole : new.broken ≡ false
  pub ends : EndsEmpty new.book.steps

pub record SpendsSearch (old new : Moment) (budget : ℕ) : Type 0 where
  pub learns : LearnsNew old.book new.book budget
  pub goes : Goes new
  pub undecided : IsUndecided new.book

-- what a search comes to
abbrev pub SearchSo : Ending → Moment → Moment → ℕ → Type 0
SearchSo ends.Satisfied old new budget = SatisfiesSearch old new budget
SearchSo ends.Refuted old new budget = RefutesSearch old new
SearchSo ends.Spent old new budget = SpendsSearch old new budget
