-- For the crate's own proofs: what must stand on the next lines, by the lines before: what the private parts of reading speak of.
use Rattle.std.specs.Prelude.{◌≡◌, ◌≢◌, ℕ, ◌+◌, ◌*◌, ◌<◌, ◌≤◌, ◌⊎◌, List, [], ◌∷◌, ◌++◌, Bool, true, false, length, map, All, codes, replicate, Some, None}
use Rattle.std.specs.declared.option.Option.{Option}
use Rattle.std.specs.Fmt.{decimal}
use Rattle.lattice_grid.specs.declared.control.Control.{Control}
use Rattle.lattice_grid.specs.Control.{NamesBelow}
use Rattle.lattice_grid.specs.Defects.{IsArray}
use Rattle.lattice_grid.specs.Lattice.{IsLattice}
use Rattle.lattice_grid.specs.Rectangle.{Size, IsSize}
use Rattle.pla_reader.specs.Name.{IsName}
use Rattle.pla_reader.specs.Names.{bytes_of}
use Rattle.report_text.specs.Bounds.{AreNames, IsBound, IsBlock, IsProof}
use Rattle.report_text.specs.Cells.{control_text, proof_text}
use Rattle.report_text.specs.Form.{lists, lattice_size, Has}
use Rattle.report_text.specs.Pieces.{Without, words}
use Rattle.report_text.specs.Report.{BlockParts, HeadingParts, Kind, Line, text_of, blocks_text, heading_words, lattice_lines, proofs_lines, title_words}
use Rattle.report_text.specs.Report.Kind.{OfTitle, OfInputs, OfRails, OfHeading, OfCells, OfProofs}
use Rattle.report_text.specs.declared.answer.Answer.{Answer}
use Rattle.report_text.specs.declared.answer.Answer.TheVariants as answers
use Rattle.report_text.specs.declared.answer.Proof.{Proof}
use Rattle.report_text.specs.declared.answer.Version.{Version}
use Rattle.report_text.specs.declared.answer.Version.TheVariants as versions
use Rattle.report_text.specs.declared.block.BlockFault.{BlockFault}
use Rattle.report_text.specs.declared.block.BlockFault.TheVariants as faults
use Rattle.report_text.specs.declared.form.Form.{Form}
use Rattle.report_text.specs.declared.form.Form.TheVariants.{Found, Minimum, Undecided, Mapped, NoneMapped, MapUndecided, NoRails}
use Rattle.report_text.specs.declared.heading.Heading.{Heading as ReadHeading}
use Rattle.report_text.specs.declared.report.ReportRefusal.{ReportRefusal}
use Rattle.report_text.specs.declared.report.ReportRefusal.TheVariants as refusals

-- ---- first lines of blocks

abbrev pub IsForm : Form → Type 0
IsForm (Found s) = IsSize s
IsForm (Minimum s) = IsSize s
IsForm (Undecided s least at after) = IsSize s × IsBound least at after
IsForm (Mapped a) = IsArray a
IsForm (NoneMapped a) = IsArray a
IsForm (MapUndecided a after) = IsArray a × (after ≤ 200000)
IsForm (NoRails on off) = (on < 1024) × (off < 1024)

pub record IsHeading (version : Version) (h : HeadingParts) : Type 0 where
  pub output : h.output ≤ 63
  pub name : IsName h.name
  pub form : IsForm h.form
  pub has : Has version h.form

abbrev pub parts_of_heading : ReadHeading → HeadingParts
parts_of_heading h = record { output = h.output; name = bytes_of h.name; form = h.form }

-- the answer of this form with these cells
abbrev pub answer_with : Form → List Control → Answer
answer_with (Found s) cells = answers.Found (record { size = s; cells = cells })
answer_with (Minimum s) cells = answers.Minimum (record { size = s; cells = cells })
answer_with (Undecided s least at after) cells = answers.Undecided (record { size = s; cells = cells }) least at after
answer_with (Mapped a) cells = answers.Mapped (record { size = a.size; cells = cells }) a
answer_with (NoneMapped a) cells = answers.NoneMapped a
answer_with (MapUndecided a after) cells = answers.MapUndecided a after
answer_with (NoRails on off) cells = answers.NoRails on off

abbrev pub block_with : HeadingParts → List Control → List Proof → BlockParts
block_with h cells proofs = record { output = h.output; name = h.name; answer = answer_with h.form cells; proofs = proofs }

-- ---- what must stand

-- so many cells, each an input from 0 to 9 or a constant
pub record IsRow (cols : ℕ) (row : List Control) : Type 0 where
  pub many : length row ≡ cols
  pub inputs : All (NamesBelow 10) row

pub data Expected : Type 0 where
  Title : Expected
  Inputs : Expected
  Rails : Expected
  Heading : Version → Expected
  HeadingOrEnd : Version → Expected
  Cells : ℕ → Expected
  Proofs : Expected

abbrev pub kind_of : Expected → Kind
kind_of Title = OfTitle
kind_of Inputs = OfInputs
kind_of Rails = OfRails
kind_of (Heading version) = OfHeading
kind_of (HeadingOrEnd version) = OfHeading
kind_of (Cells cols) = OfCells
kind_of Proofs = OfProofs

abbrev pub rows_expected : Size → List Expected
rows_expected s = replicate s.rows (Cells s.cols)

abbrev pub cells_expected : Option Size → List Expected
cells_expected None = []
cells_expected (Some s) = rows_expected s

abbrev pub proofs_expected : Bool → List Expected
proofs_expected false = []
proofs_expected true = Proofs ∷ []

abbrev pub inputs_expected : List Expected
inputs_expected = Inputs ∷ []

abbrev pub rails_expected : Version → List Expected
rails_expected versions.One = []
rails_expected versions.Two = Rails ∷ []

abbrev pub block_expected : Version → List Expected
block_expected version = Heading version ∷ []

abbrev pub blocks_expected : Version → List Expected
blocks_expected version = HeadingOrEnd version ∷ []

abbrev pub report_expected : List Expected
report_expected = Title ∷ []

abbrev pub after_title : Version → List Expected
after_title version = inputs_expected ++ (rails_expected version ++ blocks_expected version)

abbrev pub after_heading : Version → Form → List Expected
after_heading version form = cells_expected (lattice_size form) ++ proofs_expected (lists version form)

-- The words are those of a block's first line, after which these must stand.
pub record Opens (version : Version) (words : List (List ℕ)) (more : List Expected) : Type 0 where
  pub heading : HeadingParts
  pub is_heading : IsHeading version heading
  pub words_are : words ≡ heading_words heading
  pub more_is : more ≡ after_heading version heading.form

-- The words are as expected, and before all else these must stand now.
abbrev pub Meets : Expected → List (List ℕ) → List Expected → Type 0
Meets Title words more = (version : Version) × (words ≡ title_words version) × (more ≡ after_title version)
Meets Inputs words more = (names : List (List ℕ)) × AreNames names × (words ≡ codes "inputs" ∷ names) × (more ≡ [])
Meets Rails words more = (rails : ℕ) × (rails ≤ 1048575) × (words ≡ codes "rails" ∷ decimal rails ∷ []) × (more ≡ [])
Meets (Heading version) words more = Opens version words more
Meets (HeadingOrEnd version) words more =
    ((words ≡ codes "end" ∷ []) × (more ≡ [])) ⊎ ((inner : List Expected) × Opens version words inner × (more ≡ inner ++ blocks_expected version))
Meets (Cells cols) words more = (row : List Control) × IsRow cols row × (words ≡ map control_text row) × (more ≡ [])
Meets Proofs words more = (proofs : List Proof) × All IsProof proofs × (words ≡ codes "refuted" ∷ map proof_text proofs) × (more ≡ [])

-- The lines are as expected, and these are expected after them.
abbrev pub Leads : List Expected → List Line → List Expected → Type 0
Leads es [] after = es ≡ after
Leads [] (l ∷ lines) after = ⊥
Leads (e ∷ es) (l ∷ lines) after = (more : List Expected) × (l.kind ≡ kind_of e) × Meets e l.words more × Leads (more ++ es) lines after

-- ---- where lines stop being as expected

-- After lines that are as expected comes one that is not.
pub record Misses (es : List Expected) (kind : Kind) (text : List ℕ) (first number : ℕ) : Type 0 where
  pub front : List Line
  pub expected : Expected
  pub later : List Expected
  pub other : List ℕ
  pub rest : List ℕ
  pub leads : Leads es front (expected ∷ later)
  pub kind_is : kind ≡ kind_of expected
  pub text_is : text ≡ text_of front ++ (other ++ 10 ∷ rest)
  pub one_line : Without 10 other
  pub unmet : (more : List Expected) → Meets expected (words other) more → ⊥
  pub number_is : number ≡ first + length front

-- After lines that are as expected no line feed is left.
pub record RunsOut (es : List Expected) (text : List ℕ) (first number : ℕ) : Type 0 where
  pub front : List Line
  pub expected : Expected
  pub later : List Expected
  pub last : List ℕ
  pub leads : Leads es front (expected ∷ later)
  pub text_is : text ≡ text_of front ++ last
  pub no_feed : Without 10 last
  pub number_is : number ≡ first + length front

-- After all lines that are expected there is more.
pub record GoesOn (es : List Expected) (text : List ℕ) (first number : ℕ) : Type 0 where
  pub lines : List Line
  pub more : List ℕ
  pub leads : Leads es lines []
  pub text_is : text ≡ text_of lines ++ more
  pub some : more ≢ []
  pub number_is : number ≡ first + length lines

-- Where such lines are expected the text is refused so; nothing is said of want of memory.
abbrev pub Stops : List Expected → List ℕ → ℕ → ReportRefusal → Type 0
Stops es text first (refusals.Header n) = Misses es OfTitle text first n
Stops es text first (refusals.Inputs n) = Misses es OfInputs text first n
Stops es text first (refusals.Rails n) = Misses es OfRails text first n
Stops es text first (refusals.Block n) = Misses es OfHeading text first n
Stops es text first (refusals.Grid n) = Misses es OfCells text first n
Stops es text first (refusals.Proofs n) = Misses es OfProofs text first n
Stops es text first (refusals.Trailing n) = GoesOn es text first n
Stops es text first (refusals.Truncated n) = RunsOut es text first n
Stops es text first refusals.NoMemory = Unit {0}

abbrev pub refusal_of : BlockFault → ReportRefusal
refusal_of (faults.Block n) = refusals.Block n
refusal_of (faults.Grid n) = refusals.Grid n
refusal_of (faults.Proofs n) = refusals.Proofs n
refusal_of (faults.Truncated n) = refusals.Truncated n
refusal_of faults.NoMemory = refusals.NoMemory

-- ---- what stands at the front of bytes

-- the lines of a lattice of this size
pub record HasLattice (size : Size) (bytes : List ℕ) (cells : List Control) (rest : List ℕ) : Type 0 where
  pub is_lattice : IsLattice (record { size = size; cells = cells })
  pub text : bytes ≡ text_of (lattice_lines (Some (record { size = size; cells = cells }))) ++ rest

-- those of a lattice, where one is to follow
abbrev pub HasCells : Option Size → List ℕ → List Control → List ℕ → Type 0
HasCells None bytes cells rest = (cells ≡ []) × (bytes ≡ rest)
HasCells (Some size) bytes cells rest = HasLattice size bytes cells rest

-- a line of proofs, where one is to follow
pub record HasProofs (follows : Bool) (bytes : List ℕ) (proofs : List Proof) (rest : List ℕ) : Type 0 where
  pub each : All IsProof proofs
  pub none : follows ≡ false → proofs ≡ []
  pub text : bytes ≡ text_of (proofs_lines follows proofs) ++ rest

-- blocks and the last line, and nothing else
pub record AreBlocks (version : Version) (bytes : List ℕ) (blocks : List BlockParts) : Type 0 where
  pub each : All (IsBlock version) blocks
  pub text : bytes ≡ blocks_text version blocks ++ codes "end\n"
