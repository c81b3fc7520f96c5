-- What refuted sections show of lattices.
use Rattle.std.specs.Prelude.{ℕ, List, All}
use Rattle.cube_core.specs.Function.{Function, IsFunction}
use Rattle.lattice_grid.specs.Defects.{Defects}
use Rattle.lattice_grid.specs.Lattice.{Lattice}
use Rattle.report_text.specs.declared.answer.Version.{Version}
use Rattle.journal_text.specs.Bounds.{IsPart}
use Rattle.journal_text.specs.Good.{IsCovered}
use Rattle.journal_text.specs.Least.{IsRightOn, NoneBelow}
use Rattle.journal_text.specs.Parts.{Part}
use Rattle.journal_text.specs.Proved.{IsRefuted, HasMarked}

-- Where refuted sections cover the sizes below an area, no lattice of allowed literals that realises the function has a smaller area.
abbrev pub ExcludesBelow : Type 0
ExcludesBelow = (version : Version) (rails output : ℕ) (f : Function) (parts : List Part) (least : ℕ) → IsFunction f → All (IsPart version) parts → IsCovered rails output f parts least → NoneBelow rails f least

-- Where a section of an array is refuted, no such lattice realises the function on it.
abbrev pub ExcludesOnArray : Type 0
ExcludesOnArray =
    (version : Version) (rails output : ℕ) (f : Function) (parts : List Part) (a : Defects) → IsFunction f → All (IsPart version) parts → HasMarked parts output a (IsRefuted rails f) → (g : Lattice) → IsRightOn rails f a g → ⊥
