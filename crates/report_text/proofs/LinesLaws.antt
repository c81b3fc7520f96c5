-- How many lines a block has.
use Rattle.std.proofs.Common.{◌≡◌, ℕ, suc, ◌+◌, Bool, true, false, List, [], ◌∷◌, ◌++◌, length, ap, ◌∙◌, refl, arith, length-append, cond, Some}
use Rattle.std.proofs.lemmas.List.{length-map}
use Rattle.lattice_grid.specs.Lattice.{Lattice}
use Rattle.report_text.specs.Cells.{rows_of}
use Rattle.report_text.specs.Form.{form_of, lattice_of, lists}
use Rattle.report_text.specs.Report.{BlockParts, lattice_lines, proofs_lines, block_lines, heading_of, heading_words, line}
use Rattle.report_text.specs.Report.Kind.{OfHeading}
use Rattle.report_text.specs.declared.answer.Proof.{Proof}
use Rattle.report_text.specs.declared.answer.Version.{Version}
use Rattle.report_text.proofs.MemberLaws.{row_line}
use Rattle.report_text.proofs.RowsLaws.{length-rows_of}

pub length-lattice_lines : (g : Lattice) → g.size.rows ≡ length (lattice_lines (Some g))
length-lattice_lines g = let many = length-rows_of g.size.cols g.size.rows g.cells in let mapped = length-map (rows_of g.size.cols g.size.rows g.cells) row_line in omega (arith, many, mapped)

pub length-block_lines : (v : Version) (b : BlockParts) → length (block_lines v b) ≡ suc (length (lattice_lines (lattice_of b.answer)) + length (proofs_lines (lists v (form_of b.answer)) b.proofs))
unfolding block_lines
length-block_lines v b = ap suc (length-append (lattice_lines (lattice_of b.answer)) (proofs_lines (lists v (form_of b.answer)) b.proofs))
