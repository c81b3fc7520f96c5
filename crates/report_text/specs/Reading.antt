-- What reading gives.
use Rattle.std.specs.Prelude.{◌≡◌, ◌≢◌, ℕ, ◌+◌, List, [], ◌∷◌, ◌++◌, length, Result, Ok, Err}
use Rattle.std.specs.List.{join_with_byte}
use Rattle.report_text.specs.Bounds.{IsBlock, IsReport}
use Rattle.report_text.specs.Pieces.{Without, feeds}
use Rattle.report_text.specs.Report.{BlockParts, ReportParts, Kind, Line, text_of, block_lines, block_text, report_lines, report_text, parts_of_report}
use Rattle.report_text.specs.Report.Kind.{OfTitle, OfInputs, OfRails, OfHeading, OfCells, OfProofs}
use Rattle.report_text.specs.declared.answer.Report.{Report}
use Rattle.report_text.specs.declared.answer.Version.{Version}
use Rattle.report_text.specs.declared.block.BlockFault.{BlockFault}
use Rattle.report_text.specs.declared.block.BlockFault.TheVariants as faults
use Rattle.report_text.specs.declared.report.ReportRefusal.{ReportRefusal}
use Rattle.report_text.specs.declared.report.ReportRefusal.TheVariants.{Header, Inputs, Rails, Block, Grid, Proofs, Trailing, Truncated, NoMemory}

-- Some such lines begin with these, and then comes this one.
pub record Comes (Whole : List Line → Type 0) (front : List Line) (next : Line) : Type 0 where
  pub more : List Line
  pub whole : Whole (front ++ next ∷ more)

-- The text begins with lines of such a whole, after which a line of this kind comes; but it has another line there, that comes
-- in none. The line has this number, where the text begins at the line `first`.
pub record IsFaulty (Whole : List Line → Type 0) (kind : Kind) (text : List ℕ) (first number : ℕ) : Type 0 where
  pub front : List Line
  pub next : Line
  pub other : List ℕ
  pub rest : List ℕ
  pub comes : Comes Whole front next
  pub kind_is : kind ≡ next.kind
  pub text_is : text ≡ text_of front ++ (other ++ 10 ∷ rest)
  pub one_line : Without 10 other
  pub in_none : (l : Line) → Comes Whole front l → other ≢ join_with_byte 32 l.words
  pub number_is : number ≡ first + length front

-- The text begins with lines of such a whole, after which a line comes; but no line feed is left.
pub record IsCutShort (Whole : List Line → Type 0) (text : List ℕ) (first number : ℕ) : Type 0 where
  pub front : List Line
  pub next : Line
  pub last : List ℕ
  pub comes : Comes Whole front next
  pub text_is : text ≡ text_of front ++ last
  pub no_feed : Without 10 last
  pub number_is : number ≡ first + feeds text

-- ---- blocks

-- The lines are those of a block.
abbrev pub AreBlockLines : Version → List Line → Type 0
AreBlockLines version lines = (block : BlockParts) × IsBlock version block × (lines ≡ block_lines version block)

-- The block is within its bounds, and its text stands at the front of the bytes.
pub record HasBlock (version : Version) (bytes : List ℕ) (block : BlockParts) (rest : List ℕ) : Type 0 where
  pub is_block : IsBlock version block
  pub text : bytes ≡ block_text version block ++ rest

-- The first faulty line, where the bytes begin at the line `first`. Want of memory is never a fault of the bytes.
abbrev pub IsBlockFault : Version → List ℕ → ℕ → BlockFault → Type 0
IsBlockFault version bytes first (faults.Block n) = IsFaulty (AreBlockLines version) OfHeading bytes first n
IsBlockFault version bytes first (faults.Grid n) = IsFaulty (AreBlockLines version) OfCells bytes first n
IsBlockFault version bytes first (faults.Proofs n) = IsFaulty (AreBlockLines version) OfProofs bytes first n
IsBlockFault version bytes first (faults.Truncated n) = IsCutShort (AreBlockLines version) bytes first n
IsBlockFault version bytes first faults.NoMemory = ⊥

-- ---- reports

-- The lines are those of a report.
abbrev pub AreReportLines : List Line → Type 0
AreReportLines lines = (report : ReportParts) × IsReport report × (lines ≡ report_lines report)

-- Bytes follow a whole report, at the line of this number.
pub record IsTrailing (text : List ℕ) (number : ℕ) : Type 0 where
  pub report : ReportParts
  pub more : List ℕ
  pub is_report : IsReport report
  pub text_is : text ≡ report_text report ++ more
  pub some : more ≢ []
  pub number_is : number ≡ 1 + length (report_lines report)

-- The text is refused so: by its first faulty line, by what follows a whole report, or because it ends where a line must
-- still come. Want of memory is never a refusal of the text.
abbrev pub IsRefused : List ℕ → ReportRefusal → Type 0
IsRefused text (Header n) = IsFaulty AreReportLines OfTitle text 1 n
IsRefused text (Inputs n) = IsFaulty AreReportLines OfInputs text 1 n
IsRefused text (Rails n) = IsFaulty AreReportLines OfRails text 1 n
IsRefused text (Block n) = IsFaulty AreReportLines OfHeading text 1 n
IsRefused text (Grid n) = IsFaulty AreReportLines OfCells text 1 n
IsRefused text (Proofs n) = IsFaulty AreReportLines OfProofs text 1 n
IsRefused text (Trailing n) = IsTrailing text n
IsRefused text (Truncated n) = IsCutShort AreReportLines text 1 n
IsRefused text NoMemory = ⊥

-- What the text gives: the report that it spells, or its refusal.
abbrev pub Gives : List ℕ → Result ReportParts ReportRefusal → Type 0
Gives text (Ok report) = IsReport report × (text ≡ report_text report)
Gives text (Err refusal) = IsRefused text refusal

-- what was answered, without where it lies in memory
abbrev pub seen : Result Report ReportRefusal → Result ReportParts ReportRefusal
seen (Ok report) = Ok (parts_of_report report)
seen (Err refusal) = Err refusal
