-- Lines, one after the other.
use Rattle.std.proofs.Common.{◌≡◌, List, [], ◌∷◌, ◌++◌, refl, sym, ap, ◌∙◌, append_assoc, Result, Ok, Err}
use Rattle.std.proofs.lemmas.List.{append-nil}
use Rattle.clause_core.specs.Text.{Row}
use Rattle.lrat_replay.specs.declared.line.Line.{Line}
use Rattle.lrat_replay.specs.declared.refusal.LratRefusal.{LratRefusal}
use Rattle.lrat_replay.specs.LratRead.{before, line_of, lines_say}

-- what is read later, behind these lines
abbrev pub behind_lines : List Line → Result (List Line) LratRefusal → Result (List Line) LratRefusal
behind_lines lines (Err refusal) = Err refusal
behind_lines lines (Ok later) = Ok (lines ++ later)

pub behind-none : (o : Result (List Line) LratRefusal) → o ≡ behind_lines [] o
behind-none (Err refusal) = refl
behind-none (Ok lines) = refl

pub behind-line : (lines : List Line) (line : Line) (o : Result (List Line) LratRefusal) → behind_lines lines (before (Ok line) o) ≡ behind_lines (lines ++ line ∷ []) o
behind-line lines line (Err refusal) = refl
behind-line lines line (Ok later) = ap Ok (sym (append_assoc lines (line ∷ []) later))

pub behind-more : (lines : List Line) (row : Row) (line : Line) (rows : List Row) → line_of row ≡ Ok line → behind_lines lines (lines_say (row ∷ rows)) ≡ behind_lines (lines ++ line ∷ []) (lines_say rows)
behind-more lines row line rows e = ap (λ o. behind_lines lines (before o (lines_say rows))) e ∙ behind-line lines line (lines_say rows)

pub behind-refused : (lines : List Line) (row : Row) (rows : List Row) (refusal : LratRefusal) → line_of row ≡ Err refusal → behind_lines lines (lines_say (row ∷ rows)) ≡ Err refusal
behind-refused lines row rows refusal e = ap (λ o. behind_lines lines (before o (lines_say rows))) e

pub behind-end : (lines : List Line) (rows : List Row) → rows ≡ [] → behind_lines lines (lines_say rows) ≡ Ok lines
behind-end lines rows e = ap (λ r. behind_lines lines (lines_say r)) e ∙ ap Ok (append-nil lines)
