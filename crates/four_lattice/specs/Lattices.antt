-- What `pairs` and `dual` answer: a report of the lattices of the chosen outputs.
use Rattle.std.specs.Prelude.{ℕ, suc, ◌<◌, List, [], ◌∷◌, take, drop, Some, None}
use Rattle.std.specs.declared.option.Option.{Option}
use Rattle.wire_io.specs.Causes.{Rose}
use Rattle.cube_core.specs.Function.{Function}
use Rattle.lattice_grid.specs.Lattice.{Lattice}
use Rattle.lattice_grid.specs.Pairs.{pairs_of}
use Rattle.dual_product.specs.Dual.{dual_of}
use Rattle.pla_reader.specs.Parts.{Parts}
use Rattle.report_text.specs.declared.answer.Answer.TheVariants.{Found}
use Rattle.report_text.specs.declared.answer.Version.TheVariants.{Two}
use Rattle.report_text.specs.Report.{BlockParts, ReportParts}
use Rattle.four_lattice.specs.declared.ending.Ending.{Ending}
use Rattle.four_lattice.specs.declared.ending.Ending.TheVariants as ending
use Rattle.four_lattice.specs.declared.lattices.Construction.{Construction}
use Rattle.four_lattice.specs.declared.lattices.Construction.TheVariants.{Pairs, Dual}
use Rattle.four_lattice.specs.declared.lattices.WorkFault.{WorkFault}
use Rattle.four_lattice.specs.declared.lattices.WorkFault.TheVariants.{Write, NoMemory}

-- the lattice that a construction makes for a function
abbrev pub made_by : Construction → Function → Lattice
made_by Pairs f = pairs_of f
made_by Dual f = dual_of f

-- the blocks of the outputs from this one on, with these names and functions
abbrev pub blocks_by : Construction → ℕ → List (List ℕ) → List Function → List BlockParts
blocks_by how k [] fs = []
blocks_by how k (name ∷ names) [] = []
blocks_by how k (name ∷ names) (f ∷ fs) = record { output = k; name = name; answer = Found (made_by how f); proofs = [] } ∷ blocks_by how (suc k) names fs

-- the block of the chosen output, or those of all
abbrev pub chosen : Option ℕ → List BlockParts → List BlockParts
chosen None blocks = blocks
chosen (Some k) blocks = take 1 (drop k blocks)

-- There is the chosen output among so many.
abbrev pub IsThere : Option ℕ → ℕ → Type 0
IsThere None many = Unit {0}
IsThere (Some k) many = k < many

-- the report of the lattices of the chosen outputs, with all literals allowed
abbrev pub report_by : Construction → Option ℕ → Parts → ReportParts
report_by how output parts = record { version = Two; rails = 1048575; input_names = parts.input_names; blocks = chosen output (blocks_by how 0 parts.output_names parts.functions) }

-- A fault of writing comes only where the count of faults rose.
abbrev pub IsWriteCause : ℕ → ℕ → WorkFault → Type 0
IsWriteCause before now Write = Rose before now
IsWriteCause before now NoMemory = Unit {0}

-- how a run ends whose work stopped so
abbrev pub ending_of_fault : WorkFault → Ending
ending_of_fault Write = ending.WriteFault
ending_of_fault NoMemory = ending.NoMemory
