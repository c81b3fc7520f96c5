-- When an answer is good after the parts before it: one line for each answer.
use Rattle.std.specs.Prelude.{◌≡◌, ◌⊎◌, ℕ, ◌*◌, ◌<◌, ◌≤◌, List, [], ◌∷◌, length, Some, None}
use Rattle.std.specs.List.{Contains}
use Rattle.cube_core.specs.Function.{Function}
use Rattle.lattice_grid.specs.Defects.{Defects}
use Rattle.lattice_grid.specs.Lattice.{Lattice}
use Rattle.lattice_grid.specs.Rectangle.{Size, IsSize, FitsInside}
use Rattle.lattice_grid.specs.Start.{NeverRealised}
use Rattle.lattice_grid.specs.declared.start.Start.TheVariants.{Lacking}
use Rattle.path_meaning.specs.Defective.{IsRealisedIn}
use Rattle.report_text.specs.declared.answer.Answer.{Answer}
use Rattle.report_text.specs.declared.answer.Answer.TheVariants.{Found, Minimum, Undecided, Mapped, NoneMapped, MapUndecided, NoRails}
use Rattle.report_text.specs.declared.answer.Proof.{Proof}
use Rattle.journal_text.specs.declared.target.Close.TheVariants.{Satisfied}
use Rattle.journal_text.specs.Least.{area, IsRight, IsRightOn, NoneBelow, IsStart, IsNoLarger}
use Rattle.journal_text.specs.Parts.{Section, Part, Question, Answered, size_of, array_of}
use Rattle.journal_text.specs.Proved.{IsRefuted, IsSpent, IsLeftOpen, HasWhole, HasMarked}

-- Each size of smaller area fits inside that of a section of the output, without array, that is refuted.
abbrev pub IsCovered : ℕ → ℕ → Function → List Part → ℕ → Type 0
IsCovered rails output f parts least =
    (s : Size) → IsSize s → s.rows * s.cols < least → (t : Size) × FitsInside s t × HasWhole parts output t (IsRefuted rails f)

-- A right lattice, no larger than where the search began, and no right one below this area; and the journal shows it.
pub record IsBound (rails output : ℕ) (f : Function) (parts : List Part) (g : Lattice) (least : ℕ) : Type 0 where
  pub right : IsRight rails f g
  pub no_larger : IsNoLarger rails f g
  pub none_below : NoneBelow rails f least
  pub covered : IsCovered rails output f parts least

pub record IsUndecided (rails output : ℕ) (f : Function) (parts : List Part) (g : Lattice) (least : ℕ) (at : Size) (after : ℕ) : Type 0 where
  pub bound : IsBound rails output f parts g least
  pub area_is : at.rows * at.cols ≡ least
  pub spent : HasWhole parts output at (IsSpent rails f after)

-- No lattice of allowed literals realises the function on the array, and the journal refutes that one does.
pub record IsNoneMapped (rails output : ℕ) (f : Function) (parts : List Part) (a : Defects) : Type 0 where
  pub none : (g : Lattice) → IsRightOn rails f a g → ⊥
  pub refuted : HasMarked parts output a (IsRefuted rails f)

-- No allowed literal tells the two assignments apart, the first such two, and so no lattice of allowed literals realises the function.
pub record LacksRails (rails : ℕ) (f : Function) (x y : ℕ) : Type 0 where
  pub start : IsStart rails f (Lacking x y)
  pub never : NeverRealised f rails

-- the parts are those before the answer
abbrev pub Good : ℕ → ℕ → Function → List Part → Answer → Type 0
Good rails output f parts (Found g) = IsRight rails f g
Good rails output f parts (Minimum g) = IsBound rails output f parts g (area g)
Good rails output f parts (Undecided g least at after) = IsUndecided rails output f parts g least at after
Good rails output f parts (Mapped g a) = IsRightOn rails f a g
Good rails output f parts (NoneMapped a) = IsNoneMapped rails output f parts a
Good rails output f parts (MapUndecided a after) = HasMarked parts output a (IsSpent rails f after)
Good rails output f parts (NoRails x y) = LacksRails rails f x y

-- Each section of the output that closes as satisfied has a lattice of its size, of allowed literals, that realises the function, on its array where it has one.
abbrev pub AreSatisfied : ℕ → ℕ → Function → List Part → Type 0
AreSatisfied rails output f parts =
    (s : Section) → Contains parts (Question s) → s.output ≡ output → s.close ≡ Satisfied → IsRealisedIn f.inputs rails f (size_of s.target) (array_of s.target)

-- An undecided answer names the whole budget, spent on a question that it left open; its bound lies below its lattice, than which no question was satisfied of a smaller area.
pub record IsLicensedBound (rails output : ℕ) (f : Function) (parts : List Part) (budget : ℕ) (g : Lattice) (least : ℕ) (at : Size) (after : ℕ) : Type 0 where
  pub after_is : after ≡ budget
  pub left_open : HasWhole parts output at (λ s. IsSpent rails f after s × IsLeftOpen rails f s)
  pub below : least < area g
  pub no_smaller : (s : Section) → Contains parts (Question s) → s.output ≡ output → array_of s.target ≡ None → s.close ≡ Satisfied
      → area g ≤ (size_of s.target).rows * (size_of s.target).cols

pub record IsLicensedStop (rails output : ℕ) (f : Function) (parts : List Part) (budget : ℕ) (a : Defects) (after : ℕ) : Type 0 where
  pub after_is : after ≡ budget
  pub left_open : HasMarked parts output a (λ s. IsSpent rails f after s × IsLeftOpen rails f s)

abbrev pub HasLicence : ℕ → ℕ → Function → List Part → ℕ → Answer → Type 0
HasLicence rails output f parts budget (Found g) = Unit {0}
HasLicence rails output f parts budget (Minimum g) = Unit {0}
HasLicence rails output f parts budget (Undecided g least at after) = IsLicensedBound rails output f parts budget g least at after
HasLicence rails output f parts budget (Mapped g a) = Unit {0}
HasLicence rails output f parts budget (NoneMapped a) = Unit {0}
HasLicence rails output f parts budget (MapUndecided a after) = IsLicensedStop rails output f parts budget a after
HasLicence rails output f parts budget (NoRails x y) = Unit {0}

abbrev pub Licensed : ℕ → ℕ → Function → List Part → ℕ → Answer → Type 0
Licensed rails output f parts budget answer = HasLicence rails output f parts budget answer × AreSatisfied rails output f parts

-- Of these parts the sections that count are those of this list, in order, each by its size and how many steps it has.
abbrev pub Lists : (Section → Type 0) → List Part → List Proof → Type 0
Lists Counts [] proofs = proofs ≡ []
Lists Counts (Answered block ∷ parts) proofs = Lists Counts parts proofs
Lists Counts (Question s ∷ parts) proofs =
    (Counts s × (later : List Proof) × (proofs ≡ record { shape = size_of s.target; steps = length s.steps } ∷ later) × Lists Counts parts later)
    ⊎ ((Counts s → ⊥) × Lists Counts parts proofs)

-- a refuted section of the output without array
abbrev pub IsRefutedWhole : ℕ → ℕ → Function → Section → Type 0
IsRefutedWhole rails output f s = (s.output ≡ output) × (array_of s.target ≡ None) × IsRefuted rails f s

-- a refuted section of the output with this array
abbrev pub IsRefutedOn : ℕ → ℕ → Function → Defects → Section → Type 0
IsRefutedOn rails output f a s = (s.output ≡ output) × (array_of s.target ≡ Some a) × IsRefuted rails f s

-- The first of them alone.
pub record ListsFirst (Counts : Section → Type 0) (parts : List Part) (proofs : List Proof) : Type 0 where
  pub proof : Proof
  pub later : List Proof
  pub all : Lists Counts parts (proof ∷ later)
  pub one : proofs ≡ proof ∷ []

-- the list of proofs of an answer
abbrev pub Listed : ℕ → ℕ → Function → List Part → Answer → List Proof → Type 0
Listed rails output f parts (Found g) proofs = proofs ≡ []
Listed rails output f parts (Minimum g) proofs = Lists (IsRefutedWhole rails output f) parts proofs
Listed rails output f parts (Undecided g least at after) proofs = Lists (IsRefutedWhole rails output f) parts proofs
Listed rails output f parts (Mapped g a) proofs = proofs ≡ []
Listed rails output f parts (NoneMapped a) proofs = ListsFirst (IsRefutedOn rails output f a) parts proofs
Listed rails output f parts (MapUndecided a after) proofs = proofs ≡ []
Listed rails output f parts (NoRails x y) proofs = proofs ≡ []
