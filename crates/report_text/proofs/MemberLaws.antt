-- The lines of blocks and of reports are those that are expected, and no others are.
use Rattle.std.proofs.Common.{◌≡◌, ◌≢◌, ℕ, suc, zero, ◌+◌, ◌*◌, ◌≤◌, ◌<◌, ◌⊎◌, inl, inr, Bool, true, false, List, [], ◌∷◌, ◌++◌, length, map, refl, sym, ap, ◌∙◌, subst, arith, append_assoc, length-append, codes, Some, None}
use Rattle.std.specs.Prelude.{All, replicate}
use Rattle.std.specs.declared.option.Option.{Option}
use Rattle.std.specs.Fmt.{decimal}
use Rattle.std.specs.List.{flat_map, join_with_byte}
use Rattle.std.specs.Option.{option_map}
use Rattle.std.proofs.lemmas.List.{append-nil}
use Rattle.std.proofs.lemmas.List.Concat.{flat_map-append}
use Rattle.std.proofs.lemmas.List.Elements.{All-nil, All-cons, All-head, All-tail}
use Rattle.lattice_grid.specs.Control.{NamesBelow}
use Rattle.lattice_grid.specs.declared.control.Control.{Control}
use Rattle.lattice_grid.specs.Lattice.{Lattice, IsLattice}
use Rattle.lattice_grid.specs.Rectangle.{Size, IsSize}
use Rattle.report_text.specs.Bounds.{AreNames, AreRails, IsAnswer, IsBlock, IsBound, IsProof, IsReport}
use Rattle.report_text.specs.Cells.{control_text, proof_text, rows_of}
use Rattle.report_text.specs.Expected.{Expected, IsForm, IsHeading, IsRow, Meets, Leads, Opens, answer_with, block_with, kind_of, rows_expected, cells_expected, proofs_expected, rails_expected, inputs_expected, block_expected, blocks_expected, report_expected, after_title, after_heading}
use Rattle.report_text.specs.Expected.Expected.{Title, Inputs, Rails, Heading, HeadingOrEnd, Cells, Proofs}
use Rattle.report_text.specs.Form.{form_of, form_words, lattice_of, lattice_size, lists, Has}
use Rattle.report_text.specs.Report.{BlockParts, ReportParts, HeadingParts, Line, line, text_of, words_text, heading_of, heading_words, lattice_lines, proofs_lines, block_lines, block_text, blocks_text, head_lines, head_text, rails_lines, title_line, inputs_line, end_line, report_lines, report_text, title_words}
use Rattle.report_text.specs.Report.Kind.{OfTitle, OfInputs, OfRails, OfHeading, OfCells, OfProofs}
use Rattle.report_text.specs.Reading.{AreBlockLines, AreReportLines}
use Rattle.report_text.specs.declared.answer.Answer.{Answer}
use Rattle.report_text.specs.declared.answer.Answer.TheVariants as answers
use Rattle.report_text.specs.declared.answer.Proof.{Proof}
use Rattle.report_text.specs.declared.answer.Version.{Version}
use Rattle.report_text.specs.declared.answer.Version.TheVariants as versions
use Rattle.report_text.specs.declared.form.Form.{Form}
use Rattle.report_text.specs.declared.form.Form.TheVariants.{Found, Minimum, Undecided, Mapped, NoneMapped, MapUndecided, NoRails}
use Rattle.report_text.proofs.LeadLaws.{leads_append, leads_parts}
use Rattle.report_text.proofs.MeetsLaws.{IsWide}
use Rattle.report_text.proofs.RowsLaws.{AreRows, cells_of, rows_of-are, cells-rows_of, rows_of-cells, length-cells, All-cells}
use Rattle.report_text.proofs.WholeLaws.{IsSaid}
use Rattle.report_text.proofs.WordLaws.{size_of_array}

-- ---- lattices

abbrev pub row_line : List Control → Line
row_line row = line OfCells (map control_text row)

pub rows_lead : (cols : ℕ) (rows : List (List Control)) (later : List Expected) → All (IsRow cols) rows → Leads (replicate (length rows) (Cells cols) ++ later) (map row_line rows) later
rows_lead cols [] later each = refl
rows_lead cols (row ∷ rows) later each = ([], refl, (row, All-head (IsRow cols) row rows each, refl, refl), rows_lead cols rows later (All-tail (IsRow cols) row rows each))

as_rows : (cols : ℕ) (rows : List (List Control)) → All (λ row. length row ≡ cols) rows → All (All (NamesBelow 10)) rows → All (IsRow cols) rows
as_rows cols [] p q = All-nil (IsRow cols)
as_rows cols (row ∷ rows) p q =
    All-cons (IsRow cols) row rows (record { many = All-head (λ r. length r ≡ cols) row rows p; inputs = All-head (All (NamesBelow 10)) row rows q })
    (as_rows cols rows (All-tail (λ r. length r ≡ cols) row rows p) (All-tail (All (NamesBelow 10)) row rows q))

pub wide_of : (cols : ℕ) (rows : List (List Control)) → All (IsRow cols) rows → All (λ row. length row ≡ cols) rows
wide_of cols [] p = All-nil _
wide_of cols (row ∷ rows) p = All-cons (λ r. length r ≡ cols) row rows (All-head (IsRow cols) row rows p).many (wide_of cols rows (All-tail (IsRow cols) row rows p))

pub inputs_of : (cols : ℕ) (rows : List (List Control)) → All (IsRow cols) rows → All (All (NamesBelow 10)) rows
inputs_of cols [] p = All-nil _
inputs_of cols (row ∷ rows) p = All-cons (All (NamesBelow 10)) row rows (All-head (IsRow cols) row rows p).inputs (inputs_of cols rows (All-tail (IsRow cols) row rows p))

pub lattice_lead : (g : Lattice) (later : List Expected) → IsLattice g → Leads (rows_expected g.size ++ later) (lattice_lines (Some g)) later
lattice_lead g later h =
    let are = rows_of-are (NamesBelow 10) g.size.cols g.size.rows g.cells h.whole h.inputs in
    let rows : List (List Control) = rows_of g.size.cols g.size.rows g.cells in
    subst (λ n. Leads (replicate n (Cells g.size.cols) ++ later) (map row_line rows) later) are.many_are (rows_lead g.size.cols rows later (as_rows g.size.cols rows are.wide are.each))

-- the lattice of rows
pub lattice_of_rows : (size : Size) (rows : List (List Control)) → IsSize size → length rows ≡ size.rows → All (IsRow size.cols) rows → IsLattice (record { size = size; cells = cells_of rows })
lattice_of_rows size rows is many each = record {
  size = is;
  whole = length-cells size.cols rows (wide_of size.cols rows each) ∙ ap (λ n. n * size.cols) many;
  inputs = All-cells (NamesBelow 10) rows (inputs_of size.cols rows each);
}

pub lines_of_rows : (size : Size) (rows : List (List Control)) → length rows ≡ size.rows → All (IsRow size.cols) rows → lattice_lines (Some (record { size = size; cells = cells_of rows })) ≡ map row_line rows
lines_of_rows size rows many each = ap (map row_line) (ap (λ n. rows_of size.cols n (cells_of rows)) (sym many) ∙ rows_of-cells size.cols rows (wide_of size.cols rows each))

-- rows where they are expected
rows_led : (cols n : ℕ) (lines : List Line) → Leads (replicate n (Cells cols)) lines [] → (rows : List (List Control)) × (length rows ≡ n) × All (IsRow cols) rows × (lines ≡ map row_line rows)
rows_led cols zero [] x = ([], refl, All-nil (IsRow cols), refl)
rows_led cols zero (l ∷ lines) x = absurd x
rows_led cols (suc n) [] x = absurd cc
rows_led cols (suc n) (l ∷ lines) (m, k, (row, is, e, none), x) =
    let more = rows_led cols n lines (subst (λ z. Leads (z ++ replicate n (Cells cols)) lines []) none x) in
    (row ∷ more.0, ap suc more.1, All-cons (IsRow cols) row more.0 is more.2, (λ i. record { kind = k i; words = e i } ∷ more.3 i))

-- ---- proofs

pub proofs_lead : (follow : Bool) (ps : List Proof) (later : List Expected) → All IsProof ps → Leads (proofs_expected follow ++ later) (proofs_lines follow ps) later
proofs_lead false ps later each = refl
proofs_lead true ps later each = ([], refl, (ps, each, refl, refl), refl)

proofs_led : (follow : Bool) (lines : List Line) → Leads (proofs_expected follow) lines [] → (ps : List Proof) × All IsProof ps × (follow ≡ false → ps ≡ []) × (lines ≡ proofs_lines follow ps)
proofs_led false [] x = ([], All-nil IsProof, (λ e. refl), refl)
proofs_led false (l ∷ lines) x = absurd x
proofs_led true [] x = absurd cc
proofs_led true (l ∷ []) (m, k, (ps, is, e, none), x) = (ps, is, (λ f. absurd cc), (λ i. record { kind = k i; words = e i } ∷ []))
proofs_led true (l ∷ k ∷ lines) (m, j, (ps, is, e, none), x) = absurd (subst (λ z. Leads (z ++ []) (k ∷ lines) []) none x)

-- ---- answers by their forms

pub form_of-with : (form : Form) (cells : List Control) → form_of (answer_with form cells) ≡ form
form_of-with (Found s) cells = refl
form_of-with (Minimum s) cells = refl
form_of-with (Undecided s l a n) cells = refl
form_of-with (Mapped a) cells = refl
form_of-with (NoneMapped a) cells = refl
form_of-with (MapUndecided a n) cells = refl
form_of-with (NoRails x y) cells = refl

abbrev pub sized : List Control → Size → Lattice
sized cells s = record { size = s; cells = cells }

pub lattice_of-with : (form : Form) (cells : List Control) → lattice_of (answer_with form cells) ≡ option_map (sized cells) (lattice_size form)
lattice_of-with (Found s) cells = refl
lattice_of-with (Minimum s) cells = refl
lattice_of-with (Undecided s l a n) cells = refl
lattice_of-with (Mapped a) cells = refl
lattice_of-with (NoneMapped a) cells = refl
lattice_of-with (MapUndecided a n) cells = refl
lattice_of-with (NoRails x y) cells = refl

-- the cells are those of the lattice, where there is one
abbrev pub Fill : List Control → Option Size → Type 0
Fill cells None = Unit {0}
Fill cells (Some s) = IsLattice (record { size = s; cells = cells })

pub is_answer_with : (form : Form) (cells : List Control) → IsForm form → Fill cells (lattice_size form) → IsAnswer (answer_with form cells)
is_answer_with (Found s) cells p q = q
is_answer_with (Minimum s) cells p q = q
is_answer_with (Undecided s l a n) cells p q = (q, p.1)
is_answer_with (Mapped a) cells p q = (q, p, refl)
is_answer_with (NoneMapped a) cells p q = p
is_answer_with (MapUndecided a n) cells p q = p
is_answer_with (NoRails x y) cells p q = p

is_form_of : (a : Answer) → IsAnswer a → IsForm (form_of a)
is_form_of (answers.Found g) p = p.size
is_form_of (answers.Minimum g) p = p.size
is_form_of (answers.Undecided g l a n) p = (p.0.size, p.1)
is_form_of (answers.Mapped g a) p = p.1
is_form_of (answers.NoneMapped a) p = p
is_form_of (answers.MapUndecided a n) p = p
is_form_of (answers.NoRails x y) p = p

pub answer_lead : (a : Answer) (later : List Expected) → IsAnswer a → Leads (cells_expected (lattice_size (form_of a)) ++ later) (lattice_lines (lattice_of a)) later
answer_lead (answers.Found g) later p = lattice_lead g later p
answer_lead (answers.Minimum g) later p = lattice_lead g later p
answer_lead (answers.Undecided g l a n) later p = lattice_lead g later p.0
answer_lead (answers.Mapped g a) later p = subst (λ s. Leads (rows_expected s ++ later) (lattice_lines (Some g)) later) p.2 (lattice_lead g later p.0)
answer_lead (answers.NoneMapped a) later p = refl
answer_lead (answers.MapUndecided a n) later p = refl
answer_lead (answers.NoRails x y) later p = refl

-- ---- blocks

pub heading_of_block : (v : Version) (b : BlockParts) → IsBlock v b → IsHeading v (heading_of b)
heading_of_block v b is = record { output = is.output; name = is.name; form = is_form_of b.answer is.answer; has = is.has }

body_lead : (v : Version) (b : BlockParts) (later : List Expected) → IsBlock v b → Leads (after_heading v (form_of b.answer) ++ later) (lattice_lines (lattice_of b.answer) ++ proofs_lines (lists v (form_of b.answer)) b.proofs) later
body_lead v b later is =
    let form = form_of b.answer in
    let follow = lists v (form_of b.answer) in
    subst (λ z. Leads z (lattice_lines (lattice_of b.answer) ++ proofs_lines (lists v (form_of b.answer)) b.proofs) later)
    (sym (append_assoc (cells_expected (lattice_size (form_of b.answer))) (proofs_expected (lists v (form_of b.answer))) later))
    (leads_append (cells_expected (lattice_size (form_of b.answer)) ++ (proofs_expected (lists v (form_of b.answer)) ++ later)) (proofs_expected (lists v (form_of b.answer)) ++ later) later
    (lattice_lines (lattice_of b.answer)) (proofs_lines (lists v (form_of b.answer)) b.proofs)
    (answer_lead b.answer (proofs_expected (lists v (form_of b.answer)) ++ later) is.answer) (proofs_lead (lists v (form_of b.answer)) b.proofs later is.each))

pub opens_block : (v : Version) (b : BlockParts) → IsBlock v b → Opens v (heading_words (heading_of b)) (after_heading v (form_of b.answer))
opens_block v b is = record { heading = heading_of b; is_heading = heading_of_block v b is; words_are = refl; more_is = refl }

pub block_lead : (v : Version) (b : BlockParts) → IsBlock v b → Leads (block_expected v) (block_lines v b) []
unfolding block_lines
block_lead v b is = (after_heading v (form_of b.answer), refl, opens_block v b is, body_lead v b [] is)

-- a block of a first line, rows and proofs
pub record IsMade (v : Version) (h : HeadingParts) (cells : List Control) (ps : List Proof) : Type 0 where
  pub is_heading : IsHeading v h
  pub fill : Fill cells (lattice_size h.form)
  pub each : All IsProof ps
  pub none : lists v h.form ≡ false → ps ≡ []

pub made_block : (v : Version) (h : HeadingParts) (cells : List Control) (ps : List Proof) → IsMade v h cells ps → IsBlock v (block_with h cells ps)
made_block v h cells ps m =
    let same = form_of-with h.form cells in
    record {
      output = m.is_heading.output;
      name = m.is_heading.name;
      answer = is_answer_with h.form cells m.is_heading.form m.fill;
      has = subst (Has v) (sym same) m.is_heading.has;
      each = m.each;
      none = λ e. m.none (ap (lists v) (sym same) ∙ e);
    }

pub made_lines : (v : Version) (h : HeadingParts) (cells : List Control) (ps : List Proof)
    → block_lines v (block_with h cells ps) ≡ line OfHeading (heading_words h) ∷ (lattice_lines (option_map (sized cells) (lattice_size h.form)) ++ proofs_lines (lists v h.form) ps)
unfolding block_lines
made_lines v h cells ps =
    let form = form_of-with h.form cells in
    let lattice = lattice_of-with h.form cells in
    λ i. line OfHeading (codes "output" ∷ decimal h.output ∷ h.name ∷ form_words (form i)) ∷ (lattice_lines (lattice i) ++ proofs_lines (lists v (form i)) ps)

-- the rows that follow a first line
pub record IsFilled (o : Option Size) (lines : List Line) : Type 0 where
  pub cells : List Control
  pub fill : Fill cells o
  pub lines_are : lines ≡ lattice_lines (option_map (sized cells) o)

filled : (o : Option Size) (lines : List Line) → ((s : Size) → o ≡ Some s → IsSize s) → Leads (cells_expected o) lines [] → IsFilled o lines
filled None [] is x = record { cells = []; fill = tt; lines_are = refl }
filled None (l ∷ lines) is x = absurd x
filled (Some s) lines is x =
    let found = rows_led s.cols s.rows lines x in
    record { cells = cells_of found.0; fill = lattice_of_rows s found.0 (is s refl) found.1 found.2; lines_are = found.3 ∙ sym (lines_of_rows s found.0 found.1 found.2) }

sizes_of_form : (form : Form) → IsForm form → (s : Size) → lattice_size form ≡ Some s → IsSize s
sizes_of_form (Found t) p s e = let same : t ≡ s = cc in subst IsSize same p
sizes_of_form (Minimum t) p s e = let same : t ≡ s = cc in subst IsSize same p
sizes_of_form (Undecided t l a n) p s e = let same : t ≡ s = cc in subst IsSize same p.0
sizes_of_form (Mapped a) p s e = let same : a.size ≡ s = cc in subst IsSize same (size_of_array a p)
sizes_of_form (NoneMapped a) p s e = absurd cc
sizes_of_form (MapUndecided a n) p s e = absurd cc
sizes_of_form (NoRails x y) p s e = absurd cc

body_of_lines : (v : Version) (l : Line) (lines : List Line) (inner : List Expected) → l.kind ≡ OfHeading → Opens v l.words inner → Leads inner lines [] → AreBlockLines v (l ∷ lines)
body_of_lines v l lines inner k x leads =
    let h = x.heading in
    let parts = leads_parts (cells_expected (lattice_size x.heading.form)) (proofs_expected (lists v x.heading.form)) lines (subst (λ z. Leads z lines []) x.more_is leads) in
    let cells = filled (lattice_size x.heading.form) parts.0 (sizes_of_form x.heading.form x.is_heading.form) parts.3 in
    let ps = proofs_led (lists v x.heading.form) parts.1 parts.4 in
    let made : IsMade v x.heading cells.cells ps.0 = record { is_heading = x.is_heading; fill = cells.fill; each = ps.1; none = ps.2 } in
    let first : l ≡ line OfHeading (heading_words x.heading) = (λ i. record { kind = k i; words = x.words_are i }) in
    let more : lines ≡ lattice_lines (option_map (sized cells.cells) (lattice_size x.heading.form)) ++ proofs_lines (lists v x.heading.form) ps.0 =
    parts.2 ∙ ap (λ z. z ++ parts.1) cells.lines_are ∙ ap (λ z. lattice_lines (option_map (sized cells.cells) (lattice_size x.heading.form)) ++ z) ps.3 in
    (block_with x.heading cells.cells ps.0, made_block v x.heading cells.cells ps.0 made, (λ i. first i ∷ more i) ∙ sym (made_lines v x.heading cells.cells ps.0))

block_of_lines : (v : Version) (lines : List Line) → Leads (block_expected v) lines [] → AreBlockLines v lines
block_of_lines v [] x = absurd cc
block_of_lines v (l ∷ lines) (m, k, x, p) = body_of_lines v l lines m k x (subst (λ z. Leads z lines []) (append-nil m) p)

pub said_block : (v : Version) → IsSaid (AreBlockLines v) (block_expected v)
said_block v = record { to = λ lines (b, is, e). subst (λ z. Leads (block_expected v) z []) (sym e) (block_lead v b is); of = block_of_lines v; wide = All-cons IsWide (Heading v) [] tt (All-nil IsWide) }

-- ---- blocks and the last line

pub blocks_lead : (v : Version) (blocks : List BlockParts) → All (IsBlock v) blocks → Leads (blocks_expected v) (flat_map (block_lines v) blocks) (blocks_expected v)
unfolding block_lines
blocks_lead v [] each = refl
blocks_lead v (b ∷ blocks) each =
    let is = All-head (IsBlock v) b blocks each in
    leads_append (blocks_expected v) (blocks_expected v) (blocks_expected v) (block_lines v b) (flat_map (block_lines v) blocks) (
      after_heading v (form_of b.answer) ++ blocks_expected v,
      refl,
      inr (after_heading v (form_of b.answer), opens_block v b is, refl),
      subst (λ z. Leads z (lattice_lines (lattice_of b.answer) ++ proofs_lines (lists v (form_of b.answer)) b.proofs) (blocks_expected v)) (sym (append-nil (after_heading v (form_of b.answer) ++ blocks_expected v)))
          (body_lead v b (blocks_expected v) is),
    )
    (blocks_lead v blocks (All-tail (IsBlock v) b blocks each))

pub end_lead : (v : Version) → Leads (blocks_expected v) (end_line ∷ []) []
end_lead v = ([], refl, inl (refl, refl), refl)

pub record AreEnded (v : Version) (lines : List Line) : Type 0 where
  pub blocks : List BlockParts
  pub each : All (IsBlock v) blocks
  pub lines_are : lines ≡ flat_map (block_lines v) blocks ++ end_line ∷ []

ended_after : (v : Version) (b : BlockParts) (first later lines : List Line) → IsBlock v b → first ≡ block_lines v b → lines ≡ first ++ later → AreEnded v later → AreEnded v lines
ended_after v b first later lines is e f more = record {
  blocks = b ∷ more.blocks;
  each = All-cons (IsBlock v) b more.blocks is more.each;
  lines_are = f ∙ ap (λ z. z ++ later) e ∙ ap (λ z. block_lines v b ++ z) more.lines_are ∙ sym (append_assoc (block_lines v b) (flat_map (block_lines v) more.blocks) (end_line ∷ []));
}

ended_of : (fuel : ℕ) (v : Version) (lines : List Line) → length lines ≤ fuel → Leads (blocks_expected v) lines [] → AreEnded v lines
ended_of fuel v [] few x = absurd cc
ended_of zero v (l ∷ lines) few x = absurd (omega (arith, few))
ended_of (suc fuel) v (l ∷ lines) few (m, k, inl (e, none), p) = record { blocks = []; each = All-nil (IsBlock v); lines_are = last lines (subst (λ z. Leads (z ++ []) lines []) none p) } where
  last : (lines : List Line) → Leads [] lines [] → l ∷ lines ≡ end_line ∷ []
  last [] q = λ i. record { kind = k i; words = e i } ∷ []
  last (n ∷ lines) q = absurd q
ended_of (suc fuel) v (l ∷ lines) few (m, k, inr (inner, x, e), p) =
    let parts = leads_parts inner (blocks_expected v) lines (subst (λ z. Leads z lines []) (append-nil (inner ++ blocks_expected v)) (subst (λ z. Leads (z ++ []) lines []) e p)) in
    let block = body_of_lines v l parts.0 inner k x parts.3 in
    let shorter : length parts.1 ≤ fuel = let long = ap length parts.2 in omega (arith, few, long, length-append parts.0 parts.1) in
    ended_after v block.0 (l ∷ parts.0) parts.1 (l ∷ lines) block.1 block.2 (ap (λ z. l ∷ z) parts.2) (ended_of fuel v parts.1 shorter parts.4)

-- ---- reports

rails_lead : (v : Version) (rails : ℕ) (later : List Expected) → AreRails v rails → Leads (rails_expected v ++ later) (rails_lines v rails) later
rails_lead versions.One rails later is = refl
rails_lead versions.Two rails later is = ([], refl, (rails, is, refl, refl), refl)

pub head_lead : (v : Version) (rails : ℕ) (names : List (List ℕ)) → AreRails v rails → AreNames names → Leads report_expected (head_lines v rails names) (blocks_expected v)
head_lead v rails names is are = (
  after_title v,
  refl,
  (v, refl, refl),
  subst (λ z. Leads z (inputs_line names ∷ rails_lines v rails) (blocks_expected v)) (sym (append-nil (after_title v)))
      ([], refl, (names, are, refl, refl), rails_lead v rails (blocks_expected v) is),
)

pub report_lead : (r : ReportParts) → IsReport r → Leads report_expected (report_lines r) []
unfolding report_lines
report_lead r is =
    leads_append report_expected (blocks_expected r.version) [] (head_lines r.version r.rails r.input_names) (flat_map (block_lines r.version) r.blocks ++ end_line ∷ [])
    (head_lead r.version r.rails r.input_names is.rails is.names)
    (leads_append (blocks_expected r.version) (blocks_expected r.version) [] (flat_map (block_lines r.version) r.blocks) (end_line ∷ []) (blocks_lead r.version r.blocks is.blocks) (end_lead r.version))

rails_led : (v : Version) (lines : List Line) → Leads (rails_expected v) lines [] → (rails : ℕ) × AreRails v rails × (lines ≡ rails_lines v rails)
rails_led versions.One [] x = (1048575, refl, refl)
rails_led versions.One (l ∷ lines) x = absurd x
rails_led versions.Two [] x = absurd cc
rails_led versions.Two (l ∷ []) (m, k, (n, few, e, none), x) = (n, few, (λ i. record { kind = k i; words = e i } ∷ []))
rails_led versions.Two (l ∷ j ∷ lines) (m, k, (n, few, e, none), x) = absurd (subst (λ z. Leads (z ++ []) (j ∷ lines) []) none x)

names_led : (lines : List Line) → Leads inputs_expected lines [] → (names : List (List ℕ)) × AreNames names × (lines ≡ inputs_line names ∷ [])
names_led [] x = absurd cc
names_led (l ∷ []) (m, k, (ns, are, e, none), x) = (ns, are, (λ i. record { kind = k i; words = e i } ∷ []))
names_led (l ∷ j ∷ lines) (m, k, (ns, are, e, none), x) = absurd (subst (λ z. Leads (z ++ []) (j ∷ lines) []) none x)

report_of_lines : (lines : List Line) → Leads report_expected lines [] → AreReportLines lines
unfolding report_lines
report_of_lines [] x = absurd cc
report_of_lines (l ∷ lines) (m, k, (v, e, after), p) =
    let one = leads_parts inputs_expected (rails_expected v ++ blocks_expected v) lines (subst (λ z. Leads z lines []) (append-nil m ∙ after) p) in
    let two = leads_parts (rails_expected v) (blocks_expected v) one.1 one.4 in
    let names = names_led one.0 one.3 in
    let rails = rails_led v two.0 two.3 in
    let blocks = ended_of (length two.1) v two.1 (omega arith) two.4 in
    let title : l ≡ title_line v = (λ i. record { kind = k i; words = e i }) in
    let more : lines ≡ (inputs_line names.0 ∷ []) ++ (rails_lines v rails.0 ++ (flat_map (block_lines v) blocks.blocks ++ end_line ∷ [])) =
    one.2 ∙ ap (λ z. z ++ one.1) names.2 ∙ ap (λ z. (inputs_line names.0 ∷ []) ++ z) (two.2 ∙ ap (λ z. z ++ two.1) rails.2 ∙ ap (λ z. rails_lines v rails.0 ++ z) blocks.lines_are) in
    (record { version = v; rails = rails.0; input_names = names.0; blocks = blocks.blocks }, record { rails = rails.1; names = names.1; blocks = blocks.each }, (λ i. title i ∷ more i))

pub said_report : IsSaid AreReportLines report_expected
said_report = record { to = λ lines (r, is, e). subst (λ z. Leads report_expected z []) (sym e) (report_lead r is); of = report_of_lines; wide = All-cons IsWide Title [] tt (All-nil IsWide) }

-- ---- texts

pub text_of-append : (xs ys : List Line) → text_of (xs ++ ys) ≡ text_of xs ++ text_of ys
text_of-append xs ys = flat_map-append (λ l. words_text l.words) xs ys

pub text_of-block : (v : Version) (b : BlockParts) → text_of (block_lines v b) ≡ block_text v b
unfolding block_text
text_of-block v b = refl

pub text_of-blocks : (v : Version) (blocks : List BlockParts) → text_of (flat_map (block_lines v) blocks) ≡ blocks_text v blocks
text_of-blocks v [] = refl
text_of-blocks v (b ∷ blocks) = text_of-append (block_lines v b) (flat_map (block_lines v) blocks) ∙ ap (λ z. z ++ text_of (flat_map (block_lines v) blocks)) (text_of-block v b) ∙ ap (λ z. block_text v b ++ z) (text_of-blocks v blocks)

pub text_of-head : (v : Version) (rails : ℕ) (names : List (List ℕ)) → text_of (head_lines v rails names) ≡ head_text v rails names
unfolding head_text
text_of-head v rails names = refl

pub text_of-report : (r : ReportParts) → text_of (report_lines r) ≡ report_text r
unfolding report_lines report_text
text_of-report r =
    text_of-append (head_lines r.version r.rails r.input_names) (flat_map (block_lines r.version) r.blocks ++ end_line ∷ [])
    ∙ ap (λ z. z ++ text_of (flat_map (block_lines r.version) r.blocks ++ end_line ∷ [])) (text_of-head r.version r.rails r.input_names)
    ∙ ap (λ z. head_text r.version r.rails r.input_names ++ z) (text_of-append (flat_map (block_lines r.version) r.blocks) (end_line ∷ []) ∙ ap (λ z. z ++ codes "end\n") (text_of-blocks r.version r.blocks))
