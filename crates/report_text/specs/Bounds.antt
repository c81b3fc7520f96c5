-- What a report may say.
use Rattle.std.specs.Prelude.{◌≡◌, ℕ, ◌*◌, ◌<◌, ◌≤◌, List, [], length, All, false}
use Rattle.lattice_grid.specs.Defects.{IsArray}
use Rattle.lattice_grid.specs.Lattice.{IsLattice}
use Rattle.lattice_grid.specs.Rectangle.{Size, IsSize}
use Rattle.pla_reader.specs.Name.{IsName}
use Rattle.report_text.specs.Form.{form_of, lists, Has}
use Rattle.report_text.specs.Report.{BlockParts, ReportParts}
use Rattle.report_text.specs.declared.answer.Answer.{Answer}
use Rattle.report_text.specs.declared.answer.Answer.TheVariants.{Found, Minimum, Undecided, Mapped, NoneMapped, MapUndecided, NoRails}
use Rattle.report_text.specs.declared.answer.Proof.{Proof}
use Rattle.report_text.specs.declared.answer.Version.{Version}
use Rattle.report_text.specs.declared.answer.Version.TheVariants.{One, Two}

-- What is known of smaller lattices: the least area is that of the shape that was given up, after at most 200,000 steps.
pub record IsBound (least : ℕ) (at : Size) (after : ℕ) : Type 0 where
  pub size : IsSize at
  pub area : least ≡ at.rows * at.cols
  pub few : after ≤ 200000

abbrev pub IsAnswer : Answer → Type 0
IsAnswer (Found g) = IsLattice g
IsAnswer (Minimum g) = IsLattice g
IsAnswer (Undecided g least at after) = IsLattice g × IsBound least at after
IsAnswer (Mapped g a) = IsLattice g × IsArray a × (g.size ≡ a.size)
IsAnswer (NoneMapped a) = IsArray a
IsAnswer (MapUndecided a after) = IsArray a × (after ≤ 200000)
IsAnswer (NoRails on off) = (on < 1024) × (off < 1024)

pub record IsProof (p : Proof) : Type 0 where
  pub size : IsSize p.shape
  pub some : 1 ≤ p.steps
  pub few : p.steps ≤ 2147483647

-- What a block of a version may say: proofs only where a line of them follows.
pub record IsBlock (version : Version) (block : BlockParts) : Type 0 where
  pub output : block.output ≤ 63
  pub name : IsName block.name
  pub answer : IsAnswer block.answer
  pub has : Has version (form_of block.answer)
  pub each : All IsProof block.proofs
  pub none : lists version (form_of block.answer) ≡ false → block.proofs ≡ []

-- one to ten names
pub record AreNames (names : List (List ℕ)) : Type 0 where
  pub some : 1 ≤ length names
  pub few : length names ≤ 10
  pub each : All IsName names

-- version 1 allows all literals
abbrev pub AreRails : Version → ℕ → Type 0
AreRails One rails = rails ≡ 1048575
AreRails Two rails = rails ≤ 1048575

pub record IsReport (report : ReportParts) : Type 0 where
  pub rails : AreRails report.version report.rails
  pub names : AreNames report.input_names
  pub blocks : All (IsBlock report.version) report.blocks
