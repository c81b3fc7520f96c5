-- For the crate's own proofs: what is known in a search.
use Rattle.std.specs.Prelude.{◌≡◌, ℕ, ◌*◌, ◌+◌, ◌-◌, ◌<◌, ◌≤◌, List, [], ◌∷◌, ◌++◌, All, IfSome, None, Some}
use Rattle.std.specs.declared.option.Option.{Option}
use Rattle.std.specs.List.{Contains}
use Rattle.cube_core.specs.Function.{Function}
use Rattle.lattice_grid.specs.Lattice.{Lattice}
use Rattle.lattice_grid.specs.Rectangle.{Size}
use Rattle.path_meaning.specs.Defective.{IsRealisedIn}
use Rattle.report_text.specs.Bounds.{IsProof}
use Rattle.report_text.specs.declared.answer.Answer.{Answer}
use Rattle.report_text.specs.declared.answer.Answer.TheVariants.{Minimum, Undecided}
use Rattle.report_text.specs.declared.answer.Version.TheVariants.{Two}
use Rattle.shape_list.specs.Shapes.{area_of, IsHeld, IsCoveredBelow}
use Rattle.wire_io.specs.Told.{Gains}
use Rattle.journal_text.specs.Good.{Lists, IsRefutedWhole}
use Rattle.journal_text.specs.Least.{area, IsRight, IsNoLarger}
use Rattle.journal_text.specs.Parts.{Section, Part, Question, size_of, array_of}
use Rattle.journal_text.specs.Proved.{IsRefuted, IsSpent, IsLeftOpen, ShowsClose, HasWhole}
use Rattle.journal_text.specs.Text.{parts_text}
use Rattle.journal_text.specs.declared.target.Close.TheVariants.{Satisfied}
use Rattle.lattice_question.specs.Asked.{IsExcluded}
use Rattle.lattice_question.specs.Written.{IsSectionOf}
use Rattle.area_search.specs.declared.progress.Progress.{Progress}
use Rattle.area_search.specs.declared.progress.Turn.{Turn}
use Rattle.area_search.specs.declared.progress.Turn.TheVariants as turn
use Rattle.area_search.specs.declared.search.Passed.{Passed}
use Rattle.area_search.specs.declared.search.Passed.TheVariants as passed

-- What is known of lattices: the best one so far is right, those of the refuted sizes are none, and these cover the sizes below the least area.
pub record IsKnown (rails : ℕ) (f : Function) (p : Progress) : Type 0 where
  pub right : IsRight rails f p.best
  pub no_larger : IsNoLarger rails f p.best
  pub small : area p.best ≤ 32768
  pub some : 1 ≤ p.least
  pub excluded : All (IsExcluded rails f) p.refuted
  pub covered : IsCoveredBelow p.refuted p.least
  pub proofs : All IsProof p.proofs.items

-- a spent section that was left open
abbrev pub IsSpentOpen : ℕ → Function → ℕ → Section → Type 0
IsSpentOpen rails f budget section = IsSpent rails f budget section × IsLeftOpen rails f section

-- What the sections so far show of it: each refuted size has its section, the list names them in order, satisfied sections are no smaller than the best lattice; and each shows what it closes with.
pub record AreShowing (rails output : ℕ) (f : Function) (budget : ℕ) (p : Progress) (more : List Part) : Type 0 where
  pub held : All (λ s. HasWhole more output s (IsRefuted rails f)) p.refuted
  pub listed : Lists (IsRefutedWhole rails output f) more p.proofs.items
  pub satisfied : (s : Section) → Contains more (Question s) → s.close ≡ Satisfied
      → IsRealisedIn f.inputs rails f (size_of s.target) (array_of s.target) × (area p.best ≤ (size_of s.target).rows * (size_of s.target).cols)
  pub left_open : IfSome p.given_up (λ s. HasWhole more output s (IsSpentOpen rails f budget))
  pub replayed : (s : Section) → Contains more (Question s) → ShowsClose rails f s s.close

-- What was written so far.
pub record HasWritten (rails output : ℕ) (f : Function) (budget : ℕ) (got got' : Option (List ℕ)) (p : Progress) : Type 0 where
  pub more : List Part
  pub are : All (IsSectionOf output) more
  pub gained : Gains got got' (parts_text Two more)
  pub shows : IfSome got' (λ _. AreShowing rails output f budget p more)

-- what a turn changed
abbrev pub TurnSo : Turn → Size → Progress → Progress → Type 0
TurnSo turn.Refuted s old new = (new.refuted ≡ old.refuted ++ s ∷ []) × (new.best ≡ old.best) × (new.least ≡ old.least) × (new.given_up ≡ old.given_up)
TurnSo turn.Better s old new = (new.best.size ≡ s) × (new.refuted ≡ old.refuted) × (new.least ≡ old.least) × (new.given_up ≡ old.given_up)
TurnSo turn.GivenUp s old new = (new.given_up ≡ Some s) × (new.refuted ≡ old.refuted) × (new.best ≡ old.best) × (new.least ≡ old.least)

-- what a pass over the shapes of an area changed
abbrev pub PassedSo : Passed → ℕ → Progress → Progress → Type 0
PassedSo passed.All most old new = IsCoveredBelow new.refuted (most + 1) × (new.best ≡ old.best) × (new.least ≡ old.least) × (new.given_up ≡ old.given_up)
PassedSo passed.Better most old new = (area new.best < area old.best) × (new.least ≡ old.least) × (new.given_up ≡ old.given_up)
PassedSo (passed.GivenUp s) most old new = (new.given_up ≡ Some s) × (area_of s ≤ most) × (IsHeld new.refuted s → ⊥) × (new.best ≡ old.best) × (new.least ≡ old.least)

-- how a search ended: each size of smaller area than the best lattice's is covered, or this question of the least area was given up
abbrev pub EndedSo : Option Size → Progress → Type 0
EndedSo None p = area p.best ≤ p.least
EndedSo (Some s) p = (p.given_up ≡ Some s) × (area_of s ≡ p.least) × (p.least < area p.best)

-- how much there is to ask at most: areas that are not excluded, and that a question may be given up
abbrev pub waiting : Option Size → ℕ
waiting None = 1
waiting (Some s) = 0

abbrev pub left_to_ask : Progress → ℕ
left_to_ask p = (area p.best - p.least) + waiting p.given_up

-- what the next questions come to
abbrev pub AdvancedSo : Option Size → Progress → Progress → Type 0
AdvancedSo None old new = left_to_ask new < left_to_ask old
AdvancedSo (Some s) old new = EndedSo (Some s) new

-- the answer of a search that ended so
abbrev pub answer_of : Lattice → ℕ → Option Size → ℕ → Answer
answer_of g least None budget = Minimum g
answer_of g least (Some s) budget = Undecided g least s budget
