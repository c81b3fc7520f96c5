-- The blocks of a report, by the one that is written next.
use Rattle.std.proofs.Common.{◌≡◌, ℕ, suc, zero, ◌+◌, ◌-◌, ◌<◌, List, [], ◌∷◌, ◌++◌, length, get_or, take, drop, map, refl, sym, ap, ◌∙◌, arith, drop-cons, add-one, add-zero, zero-add, codes, Some}
use Rattle.std.specs.declared.option.Option.{Option}
use Rattle.std.proofs.lemmas.List.{length-map, drop-map, take-map}
use Rattle.cube_core.specs.Function.{Function}
use Rattle.lattice_grid.specs.Lattice.{Lattice}
use Rattle.pla_reader.specs.declared.name.Name.{Name}
use Rattle.pla_reader.specs.Names.{bytes_of}
use Rattle.report_text.specs.declared.answer.Answer.TheVariants.{Found}
use Rattle.report_text.specs.declared.answer.Proof.{Proof}
use Rattle.report_text.specs.declared.answer.Version.TheVariants.{Two}
use Rattle.report_text.specs.Report.{ReportParts, block_text, blocks_text, head_text, report_text}
use Rattle.std.specs.Prelude.{All}
use Rattle.std.proofs.lemmas.List.Elements.{All-nil, All-cons}
use Rattle.pla_reader.specs.Name.{IsName}
use Rattle.pla_reader.specs.Parts.{parts_of, IsPla}
use Rattle.pla_reader.specs.declared.pla.Pla.{Pla}
use Rattle.report_text.specs.Bounds.{AreNames}
use Rattle.wire_io.specs.Told.{Gains, GainsFront}
use Rattle.wire_io.specs.Laws.{Gains-append, GainsFront-append, GainsFront-more}
use Rattle.four_lattice.specs.Lattices.{made_by, blocks_by, chosen}
use Rattle.four_lattice.specs.declared.lattices.Construction.{Construction}

-- the text of the blocks from place i of these lists on, which is output first + i
abbrev pub blocks_after : Construction → ℕ → ℕ → List Name → List Function → List ℕ
blocks_after how first i names specs = blocks_text Two (blocks_by how (first + i) (map bytes_of (drop i names)) (drop i specs))

pub blocks_after-next : (how : Construction) (first : ℕ) (names : List Name) (specs : List Function) (i : ℕ) (name copy : Name) (f : Function) (grid : Lattice) (proofs : List Proof)
    → i < length names → i < length specs
    → name ≡ get_or names i name → bytes_of copy ≡ bytes_of name → f ≡ get_or specs i f → grid ≡ made_by how f → proofs ≡ []
    → blocks_after how first i names specs ≡ block_text Two (record { output = first + i; name = bytes_of copy; answer = Found grid; proofs = proofs }) ++ blocks_after how first (i + 1) names specs
blocks_after-next how first names specs i name copy f grid proofs p q name_is same f_is made none =
    let k = first + i in
    let next : suc (first + i) ≡ first + (i + 1) = omega arith in
    ap (λ ns. blocks_text Two (blocks_by how k (map bytes_of ns) (drop i specs))) (drop-cons names i name p)
    ∙ ap (λ fs. blocks_text Two (blocks_by how k (bytes_of (get_or names i name) ∷ map bytes_of (drop (suc i) names)) fs)) (drop-cons specs i f q)
    ∙ ap (λ n. block_text Two (record { output = k; name = bytes_of n; answer = Found (made_by how (get_or specs i f)); proofs = [] }) ++ blocks_text Two (blocks_by how (suc k) (map bytes_of (drop (suc i) names)) (drop (suc i) specs))) (sym name_is)
    ∙ ap (λ n. block_text Two (record { output = k; name = n; answer = Found (made_by how (get_or specs i f)); proofs = [] }) ++ blocks_text Two (blocks_by how (suc k) (map bytes_of (drop (suc i) names)) (drop (suc i) specs))) (sym same)
    ∙ ap (λ g. block_text Two (record { output = k; name = bytes_of copy; answer = Found (made_by how g); proofs = [] }) ++ blocks_text Two (blocks_by how (suc k) (map bytes_of (drop (suc i) names)) (drop (suc i) specs))) (sym f_is)
    ∙ ap (λ g. block_text Two (record { output = k; name = bytes_of copy; answer = Found g; proofs = [] }) ++ blocks_text Two (blocks_by how (suc k) (map bytes_of (drop (suc i) names)) (drop (suc i) specs))) (sym made)
    ∙ ap (λ n. block_text Two (record { output = k; name = bytes_of copy; answer = Found grid; proofs = [] }) ++ blocks_text Two (blocks_by how n (map bytes_of (drop (suc i) names)) (drop (suc i) specs))) next
    ∙ ap (λ n. block_text Two (record { output = k; name = bytes_of copy; answer = Found grid; proofs = [] }) ++ blocks_text Two (blocks_by how (first + (i + 1)) (map bytes_of (drop n names)) (drop n specs))) (sym (add-one i))
    ∙ ap (λ ps. block_text Two (record { output = k; name = bytes_of copy; answer = Found grid; proofs = ps }) ++ blocks_after how first (i + 1) names specs) (sym none)

-- the blocks from output k on are those of the names and functions from there on
drop-blocks : (how : Construction) (i k : ℕ) (names : List (List ℕ)) (specs : List Function) → length names ≡ length specs → drop k (blocks_by how i names specs) ≡ blocks_by how (i + k) (drop k names) (drop k specs)
drop-blocks how i zero names specs same = ap (λ n. blocks_by how n names specs) (sym (add-zero i))
drop-blocks how i (suc k) [] [] same = refl
drop-blocks how i (suc k) [] (f ∷ specs) same = absurd (omega (arith, same))
drop-blocks how i (suc k) (name ∷ names) [] same = absurd (omega (arith, same))
drop-blocks how i (suc k) (name ∷ names) (f ∷ specs) same =
    drop-blocks how (suc i) k names specs (omega (arith, same)) ∙ ap (λ n. blocks_by how n (drop k names) (drop k specs)) (omega arith)

take-blocks : (how : Construction) (k : ℕ) (names : List (List ℕ)) (specs : List Function) → take 1 (blocks_by how k names specs) ≡ blocks_by how k (take 1 names) (take 1 specs)
take-blocks how k [] specs = refl
take-blocks how k (name ∷ names) [] = refl
take-blocks how k (name ∷ names) (f ∷ specs) = refl

-- the block of one output is made from its name and its function
pub chosen-one : (how : Construction) (k : ℕ) (names : List Name) (specs : List Function) → length names ≡ length specs
    → chosen (Some k) (blocks_by how 0 (map bytes_of names) specs) ≡ blocks_by how k (map bytes_of (take 1 (drop k names))) (take 1 (drop k specs))
chosen-one how k names specs same =
    ap (take 1) (drop-blocks how 0 k (map bytes_of names) specs (length-map names bytes_of ∙ same) ∙ ap (λ n. blocks_by how n (drop k (map bytes_of names)) (drop k specs)) (zero-add k))
    ∙ take-blocks how k (drop k (map bytes_of names)) (drop k specs)
    ∙ ap (λ ns. blocks_by how k (take 1 ns) (take 1 (drop k specs))) (drop-map bytes_of k names)
    ∙ ap (λ ns. blocks_by how k ns (take 1 (drop k specs))) (take-map bytes_of 1 (drop k names))

pub report-head : (report : ReportParts) (a b : Option (List ℕ)) → GainsFront a b (head_text report.version report.rails report.input_names) → GainsFront a b (report_text report)
unfolding report_text
report-head report a b h = GainsFront-more a b (head_text report.version report.rails report.input_names) (blocks_text report.version report.blocks ++ codes "end\n") h

pub report-blocks : (report : ReportParts) (a b c : Option (List ℕ)) → Gains a b (head_text report.version report.rails report.input_names) → GainsFront b c (blocks_text report.version report.blocks) → GainsFront a c (report_text report)
unfolding report_text
report-blocks report a b c h now =
    GainsFront-append a b c (head_text report.version report.rails report.input_names) (blocks_text report.version report.blocks ++ codes "end\n") h (GainsFront-more b c (blocks_text report.version report.blocks) (codes "end\n") now)

pub report-end : (report : ReportParts) (a b c d : Option (List ℕ)) → Gains a b (head_text report.version report.rails report.input_names) → Gains b c (blocks_text report.version report.blocks) → GainsFront c d (codes "end\n") → GainsFront a d (report_text report)
unfolding report_text
report-end report a b c d h h2 now =
    GainsFront-append a b d (head_text report.version report.rails report.input_names) (blocks_text report.version report.blocks ++ codes "end\n") h (GainsFront-append b c d (blocks_text report.version report.blocks) (codes "end\n") h2 now)

pub report-whole : (report : ReportParts) (a b c d : Option (List ℕ)) → Gains a b (head_text report.version report.rails report.input_names) → Gains b c (blocks_text report.version report.blocks) → Gains c d (codes "end\n") → Gains a d (report_text report)
unfolding report_text
report-whole report a b c d h h2 now =
    Gains-append a b d (head_text report.version report.rails report.input_names) (blocks_text report.version report.blocks ++ codes "end\n") h (Gains-append b c d (blocks_text report.version report.blocks) (codes "end\n") h2 now)

-- the text of the block of the chosen output, by slices of one name and one function
pub chosen-slices : (how : Construction) (output : Option ℕ) (k : ℕ) (names keys : List Name) (specs items : List Function) → output ≡ Some k → names ≡ keys → specs ≡ items
    → length (map bytes_of keys) ≡ length items
    → blocks_text Two (blocks_by how k (map bytes_of (take (k + 1 - k) (drop k names))) (take (k + 1 - k) (drop k specs))) ≡ blocks_text Two (chosen output (blocks_by how 0 (map bytes_of keys) items))
chosen-slices how output k names keys specs items is names_are specs_are same =
    let one : k + 1 - k ≡ 1 = omega arith in
    ap (λ n. blocks_text Two (blocks_by how k (map bytes_of (take n (drop k names))) (take n (drop k specs)))) one
    ∙ ap (λ ns. blocks_text Two (blocks_by how k (map bytes_of (take 1 (drop k ns))) (take 1 (drop k specs)))) names_are
    ∙ ap (λ fs. blocks_text Two (blocks_by how k (map bytes_of (take 1 (drop k keys))) (take 1 (drop k fs)))) specs_are
    ∙ ap (blocks_text Two) (sym (chosen-one how k keys items (sym (length-map keys bytes_of) ∙ same)))
    ∙ ap (λ o. blocks_text Two (chosen o (blocks_by how 0 (map bytes_of keys) items))) (sym is)

-- the names of a PLA's inputs are those of a report
pub names_are : (names : List Name) → All IsName (map bytes_of names)
names_are [] = All-nil IsName
names_are (name ∷ names) = All-cons IsName (bytes_of name) (map bytes_of names) name.named (names_are names)

pub input_names_are : (pla : Pla) → IsPla (parts_of pla) → AreNames (map bytes_of pla.input_names.keys)
input_names_are pla h =
    let many = h.input_names in
    let some = h.some_inputs in
    let few = h.few_inputs in
    record { some = omega (arith, many, some); few = omega (arith, many, few); each = names_are pla.input_names.keys }
