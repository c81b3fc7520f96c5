-- What a run does with the finders that it was lent.
use Rattle.std.specs.Prelude.{◌≡◌, ◌⊎◌, ℕ, ◌+◌, List, [], ◌∷◌, ◌++◌, All, length, map, slice_get, None, Some}
use Rattle.std.specs.List.{Contains}
use Rattle.std.specs.declared.option.Option.{Option}
use Rattle.cube_core.specs.Function.{Function}
use Rattle.dual_product.specs.Dual.{dual_of}
use Rattle.finder_set.specs.Finders.{IsLeast, IsWrongProposal}
use Rattle.finder_set.specs.declared.improve.Dropped.{Dropped}
use Rattle.journal_text.specs.Least.{area}
use Rattle.lattice_grid.specs.Rails.{IsFull}
use Rattle.pla_reader.specs.Parts.{Parts}
use Rattle.wire_io.specs.Causes.{Rose}
use Rattle.area_search.specs.Answer.{AreUsed}
use Rattle.four_lattice.specs.Judge.{Judgement, Accepted, Minima, Tried}
use Rattle.four_lattice.specs.Synth.{chosen_outputs}
use Rattle.four_lattice.specs.declared.ending.Ending.{Ending}
use Rattle.four_lattice.specs.declared.ending.Ending.TheVariants.{Done, Undecided}
use Rattle.four_lattice.specs.declared.status.Status.{Status}
use Rattle.four_lattice.specs.declared.status.Status.TheVariants as status
use Rattle.four_lattice.specs.declared.synth.Rejected.{Rejected}

-- The proposal was made for one of these outputs; it has fewer cells than the output's dual product, and names another input than the output's or does not realise it.
pub record IsRejected (parts : Parts) (outputs : List ℕ) (r : Rejected) : Type 0 where
  pub chosen : Contains outputs r.output
  pub function : Function
  pub of_output : slice_get parts.functions r.output ≡ Some function
  pub wrong : IsWrongProposal function (area (dual_of function)) r.proposal

-- Finders were dropped for these proposals; the others were begun and asked until nothing was left.
pub record AreAskedFor {F : Type 0} (begun left : F → ℕ) (parts : Parts) (outputs : List ℕ) (old new : List F) (dropped : List Rejected) : Type 0 where
  pub wrong : All (IsRejected parts outputs) dropped
  pub stay : length new + length dropped ≡ length old
  pub spent : All (λ finder. left finder ≡ 0) new
  pub rose : (least : ℕ) → IsLeast least (map begun old) → All (λ finder. Rose least (begun finder)) new

-- The list of finders is as it was, and none was dropped.
pub record AreLeftAlone {F : Type 0} (old new : List F) (dropped : List Rejected) : Type 0 where
  pub same : new ≡ old
  pub none : dropped ≡ []

-- Where all literals of the inputs are allowed the finders are asked for lattices of these outputs; else, and for no output, they are left alone.
abbrev pub AreAskedWhereFull : {F : Type 0} → (F → ℕ) → (F → ℕ) → ℕ → Parts → List ℕ → List F → List F → List Rejected → Type 0
AreAskedWhereFull begun left rails parts [] old new dropped = AreLeftAlone old new dropped
AreAskedWhereFull begun left rails parts (k ∷ outputs) old new dropped =
    (IsFull parts.inputs rails × AreAskedFor begun left parts (k ∷ outputs) old new dropped) ⊎ ((IsFull parts.inputs rails → ⊥) × AreLeftAlone old new dropped)

-- a proposal for which a finder was dropped, with the output for which it was made
abbrev pub rejected_for : ℕ → Dropped → Rejected
rejected_for output entry = record { output = output; proposal = entry.proposal }

-- The finders were asked for lattices of one output, and those that were dropped are added to the list.
pub record AreUsedOnce {F : Type 0} (begun left : F → ℕ) (rails : ℕ) (parts : Parts) (output : ℕ) (old new : List F) (before after : List Rejected) : Type 0 where
  pub function : Function
  pub of_output : slice_get parts.functions output ≡ Some function
  pub dropped : List Dropped
  pub used : AreUsed begun left rails function old new dropped
  pub added : after ≡ before ++ map (rejected_for output) dropped

-- a status of work that was done
abbrev pub IsStatusOfWork : Status → Type 0
IsStatusOfWork s = (s ≡ status.Done) ⊎ (s ≡ status.Undecided)

-- the work was done
abbrev pub IsWorkDone : Ending → Type 0
IsWorkDone e = (e ≡ Done) ⊎ (e ≡ Undecided)

-- The task asks finders for lattices of chosen outputs of a PLA: those of least area, or all of a trial.
abbrev pub AsksFinders : (Judgement → Type 0) → (rails : ℕ) → Option ℕ → Parts → Type 0
AsksFinders J rails output parts =
    ((budget : ℕ) × J (Accepted (Minima rails budget output parts)))
    ⊎ ((number : ℕ) × (budget : ℕ) × J (Accepted (Tried number budget parts)) × (rails ≡ 1048575) × (output ≡ None))

-- The texts are accepted as such a task, and the finders were used for its outputs.
pub record UsesFinders {F : Type 0} (J : Judgement → Type 0) (begun left : F → ℕ) (old new : List F) (dropped : List Rejected) : Type 0 where
  pub rails : ℕ
  pub output : Option ℕ
  pub parts : Parts
  pub accepted : AsksFinders J rails output parts
  pub asked : AreAskedWhereFull begun left rails parts (chosen_outputs output parts.outputs) old new dropped
