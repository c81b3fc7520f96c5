-- Reading a block line by line.
use Rattle.std.proofs.Common.{◌≡◌, ◌≢◌, ℕ, suc, zero, ◌+◌, ◌-◌, ◌*◌, ◌<◌, ◌≤◌, ◌⊎◌, inl, inr, Bool, true, false, List, [], ◌∷◌, ◌++◌, length, take, drop, map, refl, sym, ap, ◌∙◌, subst, arith, append_assoc, length-append, codes, Some, None}
use Rattle.std.specs.Prelude.{All, replicate, IfSome}
use Rattle.std.specs.declared.option.Option.{Option}
use Rattle.std.specs.List.{flat_map}
use Rattle.std.specs.Option.{option_map}
use Rattle.std.proofs.lemmas.List.{append-nil, length-map, length-replicate, take_rest, drop_at, take-append-drop}
use Rattle.std.proofs.lemmas.List.Concat.{flat_map-append}
use Rattle.std.proofs.lemmas.List.Elements.{All-nil, All-push}
use Rattle.lattice_grid.specs.Control.{NamesBelow}
use Rattle.lattice_grid.specs.declared.control.Control.{Control}
use Rattle.lattice_grid.specs.Lattice.{Lattice, IsLattice}
use Rattle.lattice_grid.specs.Rectangle.{Size, IsSize}
use Rattle.report_text.specs.Bounds.{IsBlock, IsProof}
use Rattle.report_text.specs.Cells.{control_text}
use Rattle.report_text.specs.Expected.{Expected, Meets, Leads, Opens, Stops, Misses, RunsOut, HasLattice, HasCells, HasProofs, IsHeading, IsRow, IsForm, answer_with, block_with, rows_expected, cells_expected, proofs_expected, block_expected, blocks_expected, after_heading, refusal_of}
use Rattle.report_text.specs.Expected.Expected.{Heading, HeadingOrEnd, Cells, Proofs}
use Rattle.report_text.specs.Form.{form_of, lattice_of, lattice_size, lists}
use Rattle.report_text.specs.Pieces.{Without, Cuts, words}
use Rattle.report_text.specs.Reading.{HasBlock}
use Rattle.report_text.specs.Report.{BlockParts, HeadingParts, Line, line, text_of, words_text, heading_words, lattice_lines, proofs_lines, block_lines, block_text}
use Rattle.report_text.specs.Report.Kind.{OfHeading, OfCells, OfProofs}
use Rattle.report_text.specs.declared.answer.Answer.{Answer}
use Rattle.report_text.specs.declared.answer.Proof.{Proof}
use Rattle.report_text.specs.declared.answer.Version.{Version}
use Rattle.report_text.specs.declared.block.BlockFault.{BlockFault}
use Rattle.report_text.specs.declared.block.BlockFault.TheVariants as faults
use Rattle.report_text.specs.declared.report.ReportRefusal.{ReportRefusal}
use Rattle.report_text.proofs.LeadLaws.{leads_append}
use Rattle.report_text.proofs.MemberLaws.{row_line, rows_lead, lattice_of_rows, lines_of_rows, lattice_lead, form_of-with, lattice_of-with, IsMade, Fill, made_block, made_lines, sized, text_of-append, text_of-block}
use Rattle.report_text.proofs.RowsLaws.{cells_of}
use Rattle.report_text.proofs.StopLaws.{stops_later, stops_here, runs_out_here, line_read, text_before}

-- ---- rows

-- so many rows were read, and their cells kept
pub record RowsRead (size : Size) (bytes : List ℕ) (cells : List Control) (rest : List ℕ) (many : ℕ) : Type 0 where
  pub rows : List (List Control)
  pub many_are : length rows ≡ many
  pub each : All (IsRow size.cols) rows
  pub text : bytes ≡ text_of (map row_line rows) ++ rest
  pub cells_are : cells ≡ cells_of rows

pub RowsRead-none : (size : Size) (bytes : List ℕ) (cells : List Control) → cells ≡ [] → RowsRead size bytes cells bytes 0
RowsRead-none size bytes cells e = record { rows = []; many_are = refl; each = All-nil (IsRow size.cols); text = refl; cells_are = e }

map_more : (rows : List (List Control)) (row : List Control) → map row_line (rows ++ row ∷ []) ≡ map row_line rows ++ row_line row ∷ []
map_more [] row = refl
map_more (r ∷ rows) row = ap (λ z. row_line r ∷ z) (map_more rows row)

pub RowsRead-push : (size : Size) (bytes rest text after : List ℕ) (cells more : List Control) (many : ℕ) → RowsRead size bytes cells rest many → Cuts 10 rest text after → (row : List Control) → IsRow size.cols row
    → words text ≡ map control_text row → more ≡ cells ++ row → RowsRead size bytes more after (many + 1)
RowsRead-push size bytes rest text after cells more many h cut row is e grown = record {
  rows = h.rows ++ row ∷ [];
  many_are = (let count = h.many_are in omega (arith, length-append h.rows (row ∷ []), count));
  each = All-push (IsRow size.cols) h.rows row h.each is;
  text = h.text ∙ ap (λ z. text_of (map row_line h.rows) ++ z) (line_read rest text after OfCells cut ∙ ap (λ ws. (words_text ws ++ []) ++ after) e)
      ∙ sym (text_before (map row_line h.rows) (row_line row ∷ []) after) ∙ ap (λ ls. text_of ls ++ after) (sym (map_more h.rows row));
  cells_are = grown ∙ ap (λ z. z ++ row) h.cells_are ∙ ap (λ z. cells_of h.rows ++ z) (sym (append-nil row)) ∙ sym (flat_map-append (λ r. r) h.rows (row ∷ []));
}

more_rows : (cols many rows : ℕ) (later : List Expected) → many < rows → replicate many (Cells cols) ++ (Cells cols ∷ (replicate (rows - (many + 1)) (Cells cols) ++ later)) ≡ replicate rows (Cells cols) ++ later
more_rows cols zero zero later h = absurd (omega (arith, h))
more_rows cols zero (suc rows) later h = let none : suc rows - (0 + 1) ≡ rows = omega arith in ap (λ n. Cells cols ∷ (replicate n (Cells cols) ++ later)) none
more_rows cols (suc many) zero later h = absurd (omega (arith, h))
more_rows cols (suc many) (suc rows) later h =
    let same : suc rows - (suc many + 1) ≡ rows - (many + 1) = omega arith in
    ap (λ z. Cells cols ∷ z) (ap (λ n. replicate many (Cells cols) ++ (Cells cols ∷ (replicate n (Cells cols) ++ later))) same ∙ more_rows cols many rows later (omega (arith, h)))

-- what is wrong behind rows
rows_stop : (size : Size) (bytes rest : List ℕ) (cells : List Control) (many first second : ℕ) (later : List Expected) (refusal : ReportRefusal) → RowsRead size bytes cells rest many → many < size.rows → second ≡ first + many
    → Stops (Cells size.cols ∷ (replicate (size.rows - (many + 1)) (Cells size.cols) ++ later)) rest second refusal → Stops (rows_expected size ++ later) bytes first refusal
rows_stop size bytes rest cells many first second later refusal h few number stops =
    let after : List Expected = Cells size.cols ∷ (replicate (size.rows - (many + 1)) (Cells size.cols) ++ later) in
    let lead = rows_lead size.cols h.rows (Cells size.cols ∷ (replicate (size.rows - (many + 1)) (Cells size.cols) ++ later)) h.each in
    let long : length (map row_line h.rows) ≡ many = length-map h.rows row_line ∙ h.many_are in
    stops_later (rows_expected size ++ later) (Cells size.cols ∷ (replicate (size.rows - (many + 1)) (Cells size.cols) ++ later)) (map row_line h.rows) bytes rest first second refusal
    (subst (λ z. Leads z (map row_line h.rows) (Cells size.cols ∷ (replicate (size.rows - (many + 1)) (Cells size.cols) ++ later)))
    (ap (λ n. replicate n (Cells size.cols) ++ (Cells size.cols ∷ (replicate (size.rows - (many + 1)) (Cells size.cols) ++ later))) h.many_are ∙ more_rows size.cols many size.rows later few) lead)
    h.text (omega (arith, number, long)) stops

pub other_row : (size : Size) (bytes rest text after : List ℕ) (cells : List Control) (many first : ℕ) → RowsRead size bytes cells rest many → many < size.rows → Cuts 10 rest text after
    → ((row : List Control) → IsRow size.cols row → words text ≢ map control_text row) → (later : List Expected) → Stops (rows_expected size ++ later) bytes first (refusal_of (faults.Grid (first + many)))
other_row size bytes rest text after cells many first h few cut none later =
    rows_stop size bytes rest cells many first (first + many) later (refusal_of (faults.Grid (first + many))) h few refl
    (stops_here (Cells size.cols) (replicate (size.rows - (many + 1)) (Cells size.cols) ++ later) rest text after (first + many) cut (λ more (row, is, e, nothing). none row is e))

pub lacks_row : (size : Size) (bytes rest : List ℕ) (cells : List Control) (many first : ℕ) → RowsRead size bytes cells rest many → many < size.rows → Without 10 rest
    → (later : List Expected) → Stops (rows_expected size ++ later) bytes first (refusal_of (faults.Truncated (first + many)))
lacks_row size bytes rest cells many first h few none later =
    rows_stop size bytes rest cells many first (first + many) later (refusal_of (faults.Truncated (first + many))) h few refl
    (runs_out_here (Cells size.cols) (replicate (size.rows - (many + 1)) (Cells size.cols) ++ later) rest (first + many) none)

pub all_rows : (size : Size) (bytes rest : List ℕ) (cells : List Control) (many : ℕ) → IsSize size → RowsRead size bytes cells rest many → many ≡ size.rows → HasLattice size bytes cells rest
all_rows size bytes rest cells many is h e =
    let count : length h.rows ≡ size.rows = h.many_are ∙ e in
    subst (λ cs. HasLattice size bytes cs rest) (sym h.cells_are) (record {
      is_lattice = lattice_of_rows size h.rows is count h.each;
      text = h.text ∙ ap (λ ls. text_of ls ++ rest) (sym (lines_of_rows size h.rows count h.each));
    })

-- ---- cells, where they follow

pub cells_text : (o : Option Size) (bytes : List ℕ) (cells : List Control) (rest : List ℕ) → HasCells o bytes cells rest → bytes ≡ text_of (lattice_lines (option_map (sized cells) o)) ++ rest
cells_text None bytes cells rest h = h.1
cells_text (Some s) bytes cells rest h = h.text

cells_lead : (o : Option Size) (bytes : List ℕ) (cells : List Control) (rest : List ℕ) (later : List Expected) → HasCells o bytes cells rest → Leads (cells_expected o ++ later) (lattice_lines (option_map (sized cells) o)) later
cells_lead None bytes cells rest later h = refl
cells_lead (Some s) bytes cells rest later h = lattice_lead (record { size = s; cells = cells }) later h.is_lattice

cells_fill : (o : Option Size) (bytes : List ℕ) (cells : List Control) (rest : List ℕ) → HasCells o bytes cells rest → Fill cells o
cells_fill None bytes cells rest h = tt
cells_fill (Some s) bytes cells rest h = h.is_lattice

pub cells_many : (o : Option Size) (bytes : List ℕ) (cells : List Control) (rest : List ℕ) → HasCells o bytes cells rest → IfSome o (λ size. length cells ≡ size.rows * size.cols)
cells_many None bytes cells rest h = tt
cells_many (Some s) bytes cells rest h = h.is_lattice.whole

pub cells_inputs : (o : Option Size) (bytes : List ℕ) (cells : List Control) (rest : List ℕ) → HasCells o bytes cells rest → All (NamesBelow 10) cells
cells_inputs None bytes cells rest h = subst (All (NamesBelow 10)) (sym h.0) (All-nil (NamesBelow 10))
cells_inputs (Some s) bytes cells rest h = h.is_lattice.inputs

-- ---- blocks

abbrev first_line : HeadingParts → Line
first_line h = line OfHeading (heading_words h)

opened : (v : Version) (h : HeadingParts) → IsHeading v h → Leads (block_expected v) (first_line h ∷ []) (after_heading v h.form ++ [])
opened v h is = (after_heading v h.form, refl, record { heading = h; is_heading = is; words_are = refl; more_is = refl }, refl)

after_parts : (v : Version) (h : HeadingParts) → after_heading v h.form ++ [] ≡ cells_expected (lattice_size h.form) ++ (proofs_expected (lists v h.form) ++ [])
after_parts v h = append_assoc (cells_expected (lattice_size h.form)) (proofs_expected (lists v h.form)) []

heading_text : (bytes text rest : List ℕ) (h : HeadingParts) → Cuts 10 bytes text rest → words text ≡ heading_words h → bytes ≡ text_of (first_line h ∷ []) ++ rest
heading_text bytes text rest h cut e = line_read bytes text rest OfHeading cut ∙ ap (λ ws. (words_text ws ++ []) ++ rest) e

pub cells_fault : (v : Version) (bytes text rest : List ℕ) (first : ℕ) (h : HeadingParts) (fault : BlockFault) → Cuts 10 bytes text rest → IsHeading v h → words text ≡ heading_words h
    → ((later : List Expected) → Stops (cells_expected (lattice_size h.form) ++ later) rest (first + 1) (refusal_of fault)) → Stops (block_expected v) bytes first (refusal_of fault)
cells_fault v bytes text rest first h fault cut is e stops =
    stops_later (block_expected v) (after_heading v h.form ++ []) (first_line h ∷ []) bytes rest first (first + 1) (refusal_of fault) (opened v h is) (heading_text bytes text rest h cut e) refl
    (subst (λ es. Stops es rest (first + 1) (refusal_of fault)) (sym (after_parts v h)) (stops (proofs_expected (lists v h.form) ++ [])))

body_opened : (v : Version) (h : HeadingParts) (bytes : List ℕ) (cells : List Control) (rest : List ℕ) → IsHeading v h → HasCells (lattice_size h.form) bytes cells rest
    → Leads (block_expected v) (first_line h ∷ lattice_lines (option_map (sized cells) (lattice_size h.form))) (proofs_expected (lists v h.form) ++ [])
body_opened v h bytes cells rest is has =
    leads_append (block_expected v) (after_heading v h.form ++ []) (proofs_expected (lists v h.form) ++ []) (first_line h ∷ []) (lattice_lines (option_map (sized cells) (lattice_size h.form))) (opened v h is)
    (subst (λ es. Leads es (lattice_lines (option_map (sized cells) (lattice_size h.form))) (proofs_expected (lists v h.form) ++ [])) (sym (after_parts v h))
    (cells_lead (lattice_size h.form) bytes cells rest (proofs_expected (lists v h.form) ++ []) has))

body_text : (bytes text rest : List ℕ) (h : HeadingParts) (cells : List Control) (after : List ℕ) → Cuts 10 bytes text rest → words text ≡ heading_words h → HasCells (lattice_size h.form) rest cells after
    → bytes ≡ text_of (first_line h ∷ lattice_lines (option_map (sized cells) (lattice_size h.form))) ++ after
body_text bytes text rest h cells after cut e has =
    heading_text bytes text rest h cut e ∙ ap (λ z. text_of (first_line h ∷ []) ++ z) (cells_text (lattice_size h.form) rest cells after has) ∙ sym (text_before (first_line h ∷ []) (lattice_lines (option_map (sized cells) (lattice_size h.form))) after)

pub proofs_fault : (v : Version) (bytes text rest after : List ℕ) (first rows number : ℕ) (h : HeadingParts) (cells : List Control) (answer : Answer) (follow : Bool) (fault : BlockFault) → Cuts 10 bytes text rest → IsHeading v h → words text ≡ heading_words h
    → HasCells (lattice_size h.form) rest cells after → answer ≡ answer_with h.form cells → follow ≡ lists v (form_of answer) → rows ≡ length (lattice_lines (lattice_of answer)) → number ≡ first + 1 + rows
    → ((later : List Expected) → Stops (proofs_expected follow ++ later) after number (refusal_of fault)) → Stops (block_expected v) bytes first (refusal_of fault)
proofs_fault v bytes text rest after first rows number h cells answer follow fault cut is e has a f r n stops =
    let form : form_of answer ≡ h.form = ap form_of a ∙ form_of-with h.form cells in
    let lattice : lattice_of answer ≡ option_map (sized cells) (lattice_size h.form) = ap lattice_of a ∙ lattice_of-with h.form cells in
    let many : rows ≡ length (lattice_lines (option_map (sized cells) (lattice_size h.form))) = r ∙ ap (λ o. length (lattice_lines o)) lattice in
    stops_later (block_expected v) (proofs_expected (lists v h.form) ++ []) (first_line h ∷ lattice_lines (option_map (sized cells) (lattice_size h.form))) bytes after first number (refusal_of fault)
    (body_opened v h rest cells after is has) (body_text bytes text rest h cells after cut e has) (omega (arith, many, n))
    (subst (λ b. Stops (proofs_expected b ++ []) after number (refusal_of fault)) (f ∙ ap (lists v) form) (stops []))

pub block_read : (v : Version) (bytes text rest after last : List ℕ) (h : HeadingParts) (cells : List Control) (answer : Answer) (follow : Bool) (ps : List Proof) → Cuts 10 bytes text rest → IsHeading v h → words text ≡ heading_words h
    → HasCells (lattice_size h.form) rest cells after → answer ≡ answer_with h.form cells → follow ≡ lists v (form_of answer) → HasProofs follow after ps last
    → HasBlock v bytes (record { output = h.output; name = h.name; answer = answer; proofs = ps }) last
block_read v bytes text rest after last h cells answer follow ps cut is e has a f proofs =
    let form : form_of answer ≡ h.form = ap form_of a ∙ form_of-with h.form cells in
    let same : follow ≡ lists v h.form = f ∙ ap (lists v) form in
    let made : IsMade v h cells ps = record { is_heading = is; fill = cells_fill (lattice_size h.form) rest cells after has; each = proofs.each; none = λ none. proofs.none (same ∙ none) } in
    let lines : List Line = first_line h ∷ lattice_lines (option_map (sized cells) (lattice_size h.form)) in
    let text-is : bytes ≡ block_text v (block_with h cells ps) ++ last =
    body_text bytes text rest h cells after cut e has ∙ ap (λ z. text_of (first_line h ∷ lattice_lines (option_map (sized cells) (lattice_size h.form))) ++ z) (proofs.text ∙ ap (λ b. text_of (proofs_lines b ps) ++ last) same)
    ∙ sym (text_before (first_line h ∷ lattice_lines (option_map (sized cells) (lattice_size h.form))) (proofs_lines (lists v h.form) ps) last)
    ∙ ap (λ ls. text_of ls ++ last) (sym (made_lines v h cells ps)) ∙ ap (λ z. z ++ last) (text_of-block v (block_with h cells ps)) in
    subst (λ z. HasBlock v bytes (record { output = h.output; name = h.name; answer = z; proofs = ps }) last) (sym a) (record { is_block = made_block v h cells ps made; text = text-is })

-- the place after a block
pub block_place : (v : Version) (bytes after : List ℕ) (at : ℕ) (block : BlockParts) → HasBlock v (take (length bytes - at) (drop at bytes)) block after → HasBlock v (drop at bytes) block (drop (length bytes - length after) bytes)
block_place v bytes after at block h =
    let before : List ℕ = take at bytes ++ block_text v block in
    let here : drop at bytes ≡ block_text v block ++ after = sym (take_rest bytes at) ∙ h.text in
    let whole : bytes ≡ before ++ after = sym (take-append-drop at bytes) ∙ ap (λ w. take at bytes ++ w) here ∙ sym (append_assoc (take at bytes) (block_text v block) after) in
    let long : length bytes ≡ length before + length after = ap length whole ∙ length-append before after in
    let place : length before ≡ length bytes - length after = omega (arith, long) in
    let rest : drop (length bytes - length after) bytes ≡ after = ap (drop (length bytes - length after)) whole ∙ drop_at before after (length bytes - length after) place in
    record { is_block = h.is_block; text = here ∙ ap (λ w. block_text v block ++ w) (sym rest) }
