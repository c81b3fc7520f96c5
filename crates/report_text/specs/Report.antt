-- The text of a report: its lines, and their words.
use Rattle.std.specs.Prelude.{ℕ, ◌+◌, List, [], ◌∷◌, ◌++◌, Bool, true, false, map, codes, length, Some, None}
use Rattle.std.specs.declared.option.Option.{Option}
use Rattle.std.specs.List.{flat_map, join_with_byte}
use Rattle.std.specs.Fmt.{decimal}
use Rattle.lattice_grid.specs.Lattice.{Lattice}
use Rattle.pla_reader.specs.Names.{bytes_of}
use Rattle.report_text.specs.Cells.{control_text, proof_text, rows_of}
use Rattle.report_text.specs.Form.{form_words, form_of, lattice_of, lists}
use Rattle.report_text.specs.declared.answer.Answer.{Answer}
use Rattle.report_text.specs.declared.answer.Block.{Block}
use Rattle.report_text.specs.declared.answer.Proof.{Proof}
use Rattle.report_text.specs.declared.answer.Report.{Report}
use Rattle.report_text.specs.declared.answer.Version.{Version}
use Rattle.report_text.specs.declared.answer.Version.TheVariants.{One, Two}
use Rattle.report_text.specs.declared.form.Form.{Form}

-- a block, and a report, without where they lie in memory
pub record BlockParts : Type 0 where
  pub output : ℕ
  pub name : List ℕ
  pub answer : Answer
  pub proofs : List Proof

pub record ReportParts : Type 0 where
  pub version : Version
  pub rails : ℕ
  pub input_names : List (List ℕ)
  pub blocks : List BlockParts

abbrev pub parts_of_block : Block → BlockParts
parts_of_block block = record { output = block.output; name = bytes_of block.name; answer = block.answer; proofs = block.proofs.items }

abbrev pub parts_of_report : Report → ReportParts
parts_of_report report = record {
  version = report.version;
  rails = report.rails;
  input_names = map bytes_of report.input_names.items;
  blocks = map parts_of_block report.blocks.items;
}

-- what a line is for: for each there is one refusal
pub data Kind : Type 0 where
  OfTitle : Kind
  OfInputs : Kind
  OfRails : Kind
  OfHeading : Kind
  OfCells : Kind
  OfProofs : Kind

pub record Line : Type 0 where
  pub kind : Kind
  pub words : List (List ℕ)

abbrev pub line : Kind → List (List ℕ) → Line
line kind words = record { kind = kind; words = words }

-- the words, one blank between each two, and a line feed
abbrev pub words_text : List (List ℕ) → List ℕ
words_text words = join_with_byte 32 words ++ 10 ∷ []

abbrev pub text_of : List Line → List ℕ
text_of lines = flat_map (λ l. words_text l.words) lines

-- ---- the lines before the blocks

abbrev pub title_words : Version → List (List ℕ)
title_words One = codes "lattice" ∷ codes "report" ∷ codes "1" ∷ []
title_words Two = codes "lattice" ∷ codes "report" ∷ codes "2" ∷ []

abbrev pub rails_lines : Version → ℕ → List Line
rails_lines One rails = []
rails_lines Two rails = line OfRails (codes "rails" ∷ decimal rails ∷ []) ∷ []

abbrev pub title_line : Version → Line
title_line version = line OfTitle (title_words version)

abbrev pub inputs_line : List (List ℕ) → Line
inputs_line names = line OfInputs (codes "inputs" ∷ names)

abbrev pub head_lines : Version → ℕ → List (List ℕ) → List Line
head_lines version rails names = title_line version ∷ inputs_line names ∷ rails_lines version rails

-- ---- the lines of a block

-- all but the cells of the lattice and the proofs
pub record HeadingParts : Type 0 where
  pub output : ℕ
  pub name : List ℕ
  pub form : Form

abbrev pub heading_words : HeadingParts → List (List ℕ)
heading_words h = codes "output" ∷ decimal h.output ∷ h.name ∷ form_words h.form

abbrev pub heading_of : BlockParts → HeadingParts
heading_of block = record { output = block.output; name = block.name; form = form_of block.answer }

-- a line for each row, from the top
abbrev pub lattice_lines : Option Lattice → List Line
lattice_lines None = []
lattice_lines (Some g) = map (λ row. line OfCells (map control_text row)) (rows_of g.size.cols g.size.rows g.cells)

abbrev pub proofs_lines : Bool → List Proof → List Line
proofs_lines false proofs = []
proofs_lines true proofs = line OfProofs (codes "refuted" ∷ map proof_text proofs) ∷ []

unfoldable pub block_lines : Version → BlockParts → List Line
block_lines version block = line OfHeading (heading_words (heading_of block))
    ∷ (lattice_lines (lattice_of block.answer) ++ proofs_lines (lists version (form_of block.answer)) block.proofs)

-- how many lines a block has
abbrev pub lines_in : Version → BlockParts → ℕ
lines_in version block = length (block_lines version block)

-- ---- the whole

abbrev pub end_line : Line
end_line = line OfHeading (codes "end" ∷ [])

unfoldable pub report_lines : ReportParts → List Line
report_lines r = head_lines r.version r.rails r.input_names ++ (flat_map (block_lines r.version) r.blocks ++ end_line ∷ [])

unfoldable pub head_text : Version → ℕ → List (List ℕ) → List ℕ
head_text version rails names = text_of (head_lines version rails names)

unfoldable pub block_text : Version → BlockParts → List ℕ
block_text version block = text_of (block_lines version block)

abbrev pub blocks_text : Version → List BlockParts → List ℕ
blocks_text version blocks = flat_map (block_text version) blocks

unfoldable pub report_text : ReportParts → List ℕ
report_text r = head_text r.version r.rails r.input_names ++ (blocks_text r.version r.blocks ++ codes "end\n")
