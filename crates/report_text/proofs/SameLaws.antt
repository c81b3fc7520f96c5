-- Equal lines are of equal values.
use Rattle.std.proofs.Common.{◌≡◌, ◌≢◌, ℕ, suc, ◌+◌, ◌*◌, ◌≤◌, ◌<◌, Bool, true, false, List, [], ◌∷◌, ◌++◌, length, get_or, map, refl, sym, ap, ◌∙◌, subst, arith, append_assoc, codes, Some, None}
use Rattle.std.specs.Prelude.{All}
use Rattle.std.specs.declared.option.Option.{Option}
use Rattle.std.specs.Fmt.{decimal}
use Rattle.std.specs.List.{flat_map}
use Rattle.std.proofs.lemmas.List.{append-nil, length-map}
use Rattle.std.proofs.lemmas.List.Elements.{All-head, All-tail}
use Rattle.lattice_grid.specs.Control.{NamesBelow}
use Rattle.lattice_grid.specs.declared.control.Control.{Control}
use Rattle.lattice_grid.specs.Lattice.{Lattice, IsLattice}
use Rattle.report_text.specs.Bounds.{AreRails, IsAnswer, IsBlock, IsProof, IsReport}
use Rattle.report_text.specs.Cells.{control_text, proof_text, rows_of}
use Rattle.report_text.specs.Expected.{Expected, Leads, Meets, answer_with, block_expected, blocks_expected, report_expected, proofs_expected, cells_expected, after_heading}
use Rattle.report_text.specs.Form.{form_of, lattice_of, lattice_size, lists}
use Rattle.report_text.specs.Report.{BlockParts, ReportParts, HeadingParts, Line, line, heading_of, heading_words, lattice_lines, proofs_lines, block_lines, head_lines, rails_lines, title_line, inputs_line, end_line, report_lines}
use Rattle.report_text.specs.Report.Kind.{OfHeading, OfProofs, OfRails}
use Rattle.report_text.specs.declared.answer.Answer.{Answer}
use Rattle.report_text.specs.declared.answer.Answer.TheVariants as answers
use Rattle.report_text.specs.declared.answer.Proof.{Proof}
use Rattle.report_text.specs.declared.answer.Version.{Version}
use Rattle.report_text.specs.declared.answer.Version.TheVariants as versions
use Rattle.report_text.proofs.FormLaws.{headings}
use Rattle.report_text.proofs.MeetsLaws.{meets_same, same_title, end_apart}
use Rattle.report_text.proofs.MemberLaws.{row_line, answer_lead, proofs_lead, block_lead, heading_of_block}
use Rattle.report_text.proofs.NumberLaws.{same_number}
use Rattle.report_text.proofs.RowsLaws.{cells_of, AreRows, rows_of-are, cells-rows_of}
use Rattle.report_text.proofs.SpellLaws.{SpellsLine, each}
use Rattle.report_text.proofs.WordLaws.{controls, proofs}

pub headed : {X : Type 0} (x y : X) (xs ys : List X) → x ∷ xs ≡ y ∷ ys → (x ≡ y) × (xs ≡ ys)
headed x y xs ys e = (cc, cc)

-- what leads to the end is parted from what follows in one way
pub parted : (es : List Expected) (a b x y : List Line) → Leads es a [] → Leads es b [] → a ++ x ≡ b ++ y → (a ≡ b) × (x ≡ y)
parted es [] [] x y p q e = (refl, e)
parted [] [] (k ∷ b) x y p q e = absurd q
parted (d ∷ es) [] (k ∷ b) x y p q e = absurd cc
parted [] (l ∷ a) b x y p q e = absurd p
parted (d ∷ es) (l ∷ a) [] x y p q e = absurd cc
parted (d ∷ es) (l ∷ a) (k ∷ b) x y (m, i, meets, p) (n, j, meets', q) e =
    let parts = headed l k (a ++ x) (b ++ y) e in
    let next = meets_same d k.words m n (subst (λ z. Meets d z.words m) parts.0 meets) meets' in
    let more = parted (n ++ es) a b x y (subst (λ z. Leads (z ++ es) a []) next p) q parts.1 in
    ((λ h. parts.0 h ∷ more.0 h), more.1)

-- ---- lattices

same_row_lines : (xs ys : List (List Control)) → All (All (NamesBelow 10)) xs → All (All (NamesBelow 10)) ys → map row_line xs ≡ map row_line ys → xs ≡ ys
same_row_lines [] [] p q e = refl
same_row_lines [] (y ∷ ys) p q e = absurd cc
same_row_lines (x ∷ xs) [] p q e = absurd cc
same_row_lines (x ∷ xs) (y ∷ ys) p q e =
    let parts = headed (row_line x) (row_line y) (map row_line xs) (map row_line ys) e in
    let first = (each controls).same x y (All-head (All (NamesBelow 10)) x xs p) (All-head (All (NamesBelow 10)) y ys q) (ap (λ l. l.words) parts.0) in
    let more = same_row_lines xs ys (All-tail (All (NamesBelow 10)) x xs p) (All-tail (All (NamesBelow 10)) y ys q) parts.1 in
    λ i. first i ∷ more i

abbrev lattice_cells : Option Lattice → List Control
lattice_cells None = []
lattice_cells (Some g) = g.cells

abbrev IsOf : Option Lattice → Type 0
IsOf None = Unit {0}
IsOf (Some g) = IsLattice g

some_lines : (g : Lattice) → IsLattice g → 0 < length (lattice_lines (Some g))
some_lines g h =
    let many = (rows_of-are (NamesBelow 10) g.size.cols g.size.rows g.cells h.whole h.inputs).many_are in
    let some = h.size.some_rows in
    omega (arith, many, some, length-map (rows_of g.size.cols g.size.rows g.cells) row_line)

same_cells : (o p : Option Lattice) → IsOf o → IsOf p → lattice_lines o ≡ lattice_lines p → lattice_cells o ≡ lattice_cells p
same_cells None None x y e = refl
same_cells None (Some g) x y e = let none = ap length e in let some = some_lines g y in absurd (omega (arith, none, some))
same_cells (Some g) None x y e = let none = ap length e in let some = some_lines g x in absurd (omega (arith, none, some))
same_cells (Some g) (Some h) x y e =
    let one = rows_of-are (NamesBelow 10) g.size.cols g.size.rows g.cells x.whole x.inputs in
    let two = rows_of-are (NamesBelow 10) h.size.cols h.size.rows h.cells y.whole y.inputs in
    let same = same_row_lines (rows_of g.size.cols g.size.rows g.cells) (rows_of h.size.cols h.size.rows h.cells) one.each two.each e in
    sym (cells-rows_of g.size.cols g.size.rows g.cells x.whole) ∙ ap cells_of same ∙ cells-rows_of h.size.cols h.size.rows h.cells y.whole

is_of_answer : (a : Answer) → IsAnswer a → IsOf (lattice_of a)
is_of_answer (answers.Found g) p = p
is_of_answer (answers.Minimum g) p = p
is_of_answer (answers.Undecided g l a n) p = p.0
is_of_answer (answers.Mapped g a) p = p.0
is_of_answer (answers.NoneMapped a) p = tt
is_of_answer (answers.MapUndecided a n) p = tt
is_of_answer (answers.NoRails x y) p = tt

answer_by : (a : Answer) → IsAnswer a → a ≡ answer_with (form_of a) (lattice_cells (lattice_of a))
answer_by (answers.Found g) p = refl
answer_by (answers.Minimum g) p = refl
answer_by (answers.Undecided g l a n) p = refl
answer_by (answers.Mapped g a) p = let same = p.2 in λ i. answers.Mapped (record { size = same i; cells = g.cells }) a
answer_by (answers.NoneMapped a) p = refl
answer_by (answers.MapUndecided a n) p = refl
answer_by (answers.NoRails x y) p = refl

-- ---- blocks

same_proofs : (follow : Bool) (ps qs : List Proof) → All IsProof ps → All IsProof qs → (follow ≡ false → ps ≡ []) → (follow ≡ false → qs ≡ []) → proofs_lines follow ps ≡ proofs_lines follow qs → ps ≡ qs
same_proofs false ps qs p q none none' e = none refl ∙ sym (none' refl)
same_proofs true ps qs p q none none' e =
    let one = headed (line OfProofs (codes "refuted" ∷ map proof_text ps)) (line OfProofs (codes "refuted" ∷ map proof_text qs)) [] [] e in
    let words = headed (codes "refuted") (codes "refuted") (map proof_text ps) (map proof_text qs) (ap (λ l. l.words) one.0) in
    (each proofs).same ps qs p q words.1

pub same_block : (v : Version) (b c : BlockParts) → IsBlock v b → IsBlock v c → block_lines v b ≡ block_lines v c → b ≡ c
unfolding block_lines
same_block v b c p q e =
    let one = headed _ _ _ _ e in
    let heading = (headings v).same (heading_of b) (heading_of c) (heading_of_block v b p) (heading_of_block v c q) (ap (λ l. l.words) one.0) in
    let form : form_of b.answer ≡ form_of c.answer = ap (λ h. h.form) heading in
    let lead : Leads (cells_expected (lattice_size (form_of c.answer))) (lattice_lines (lattice_of b.answer)) [] =
    subst (λ f. Leads (cells_expected (lattice_size f)) (lattice_lines (lattice_of b.answer)) []) form
    (subst (λ z. Leads z (lattice_lines (lattice_of b.answer)) []) (append-nil (cells_expected (lattice_size (form_of b.answer)))) (answer_lead b.answer [] p.answer)) in
    let lead' : Leads (cells_expected (lattice_size (form_of c.answer))) (lattice_lines (lattice_of c.answer)) [] =
    subst (λ z. Leads z (lattice_lines (lattice_of c.answer)) []) (append-nil (cells_expected (lattice_size (form_of c.answer)))) (answer_lead c.answer [] q.answer) in
    let parts = parted (cells_expected (lattice_size (form_of c.answer))) (lattice_lines (lattice_of b.answer)) (lattice_lines (lattice_of c.answer)) (proofs_lines (lists v (form_of b.answer)) b.proofs) (proofs_lines (lists v (form_of c.answer)) c.proofs)
    lead lead' one.1 in
    let cells = same_cells (lattice_of b.answer) (lattice_of c.answer) (is_of_answer b.answer p.answer) (is_of_answer c.answer q.answer) parts.0 in
    let answer : b.answer ≡ c.answer = answer_by b.answer p.answer ∙ ap (λ f. answer_with f (lattice_cells (lattice_of b.answer))) form ∙ ap (answer_with (form_of c.answer)) cells ∙ sym (answer_by c.answer q.answer) in
    let listed : proofs_lines (lists v (form_of c.answer)) b.proofs ≡ proofs_lines (lists v (form_of c.answer)) c.proofs = ap (λ f. proofs_lines (lists v f) b.proofs) (sym form) ∙ parts.1 in
    let ps = same_proofs (lists v (form_of c.answer)) b.proofs c.proofs p.each q.each (λ f. p.none (ap (lists v) form ∙ f)) q.none listed in
    λ i. record { output = (heading i).output; name = (heading i).name; answer = answer i; proofs = ps i }

end_block : (v : Version) (b : BlockParts) (later : List Line) → end_line ∷ [] ≡ block_lines v b ++ later → ⊥
unfolding block_lines
end_block v b later e = end_apart (codes "end" ∷ []) (heading_of b) refl (ap (λ l. l.words) (headed end_line (line OfHeading (heading_words (heading_of b))) [] _ e).0)

same_blocks : (v : Version) (xs ys : List BlockParts) → All (IsBlock v) xs → All (IsBlock v) ys → flat_map (block_lines v) xs ++ end_line ∷ [] ≡ flat_map (block_lines v) ys ++ end_line ∷ [] → xs ≡ ys
same_blocks v [] [] p q e = refl
same_blocks v [] (y ∷ ys) p q e = absurd (end_block v y (flat_map (block_lines v) ys ++ end_line ∷ []) (e ∙ append_assoc (block_lines v y) (flat_map (block_lines v) ys) (end_line ∷ [])))
same_blocks v (x ∷ xs) [] p q e = absurd (end_block v x (flat_map (block_lines v) xs ++ end_line ∷ []) (sym e ∙ append_assoc (block_lines v x) (flat_map (block_lines v) xs) (end_line ∷ [])))
same_blocks v (x ∷ xs) (y ∷ ys) p q e =
    let is = All-head (IsBlock v) x xs p in
    let is' = All-head (IsBlock v) y ys q in
    let parts = parted (block_expected v) (block_lines v x) (block_lines v y) (flat_map (block_lines v) xs ++ end_line ∷ []) (flat_map (block_lines v) ys ++ end_line ∷ []) (block_lead v x is) (block_lead v y is')
    (sym (append_assoc (block_lines v x) (flat_map (block_lines v) xs) (end_line ∷ [])) ∙ e ∙ append_assoc (block_lines v y) (flat_map (block_lines v) ys) (end_line ∷ [])) in
    let first = same_block v x y is is' parts.0 in
    let more = same_blocks v xs ys (All-tail (IsBlock v) x xs p) (All-tail (IsBlock v) y ys q) parts.1 in
    λ i. first i ∷ more i

-- ---- reports

same_rails : (v : Version) (m n : ℕ) (xs ys : List Line) → AreRails v m → AreRails v n → rails_lines v m ++ xs ≡ rails_lines v n ++ ys → (m ≡ n) × (xs ≡ ys)
same_rails versions.One m n xs ys p q e = (p ∙ sym q, e)
same_rails versions.Two m n xs ys p q e =
    let parts = headed (line OfRails (codes "rails" ∷ decimal m ∷ [])) (line OfRails (codes "rails" ∷ decimal n ∷ [])) xs ys e in
    let words : codes "rails" ∷ decimal m ∷ [] ≡ codes "rails" ∷ decimal n ∷ [] = ap (λ l. l.words) parts.0 in
    let digits : decimal m ≡ decimal n = ap (λ ws. get_or ws 1 []) words in
    (same_number m n (omega (arith, p)) (omega (arith, q)) digits, parts.1)

pub same_report : (r s : ReportParts) → IsReport r → IsReport s → report_lines r ≡ report_lines s → r ≡ s
unfolding report_lines
same_report r s p q e =
    let one = headed (title_line r.version) (title_line s.version) _ _ e in
    let version = same_title r.version s.version (ap (λ l. l.words) one.0) in
    let two = headed (inputs_line r.input_names) (inputs_line s.input_names) _ _ one.1 in
    let names = (headed (codes "inputs") (codes "inputs") r.input_names s.input_names (ap (λ l. l.words) two.0)).1 in
    let later : rails_lines s.version r.rails ++ (flat_map (block_lines s.version) r.blocks ++ end_line ∷ []) ≡ rails_lines s.version s.rails ++ (flat_map (block_lines s.version) s.blocks ++ end_line ∷ []) =
    ap (λ v. rails_lines v r.rails ++ (flat_map (block_lines v) r.blocks ++ end_line ∷ [])) (sym version) ∙ two.1 in
    let rails = same_rails s.version r.rails s.rails _ _ (subst (λ v. AreRails v r.rails) version p.rails) q.rails later in
    let blocks = same_blocks s.version r.blocks s.blocks (subst (λ v. All (IsBlock v) r.blocks) version p.blocks) q.blocks rails.1 in
    λ i. record { version = version i; rails = rails.0 i; input_names = names i; blocks = blocks i }
