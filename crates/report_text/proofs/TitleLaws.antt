-- The lines before the blocks.
use Rattle.std.proofs.Common.{◌≡◌, ◌≢◌, ℕ, List, [], ◌∷◌, ◌++◌, sym, ap, ◌∙◌, codes}
use Rattle.std.specs.List.{join_with_byte}
use Rattle.report_text.specs.Pieces.{words}
use Rattle.report_text.specs.Report.{title_words}
use Rattle.report_text.specs.declared.answer.Version.{Version}
use Rattle.report_text.specs.declared.answer.Version.TheVariants.{One, Two}
use Rattle.report_text.proofs.JoinLaws.{join-pieces}

-- a line is its words
pub line_of_words : (line : List ℕ) (ws : List (List ℕ)) → words line ≡ ws → line ≡ join_with_byte 32 ws
line_of_words line ws e = sym (join-pieces 32 line) ∙ ap (join_with_byte 32) e

pub no_title : (line : List ℕ) → line ≢ codes "lattice report 1" → line ≢ codes "lattice report 2" → (v : Version) → words line ≢ title_words v
no_title line one two One e = one (line_of_words line (title_words One) e)
no_title line one two Two e = two (line_of_words line (title_words Two) e)
