-- What stands behind the name of an output: the form of the answer.
use Rattle.std.specs.Prelude.{ℕ, List, [], ◌∷◌, Bool, true, false, codes, Some, None}
use Rattle.std.specs.declared.option.Option.{Option}
use Rattle.std.specs.Fmt.{decimal}
use Rattle.lattice_grid.specs.declared.control.Control.{Control}
use Rattle.lattice_grid.specs.Lattice.{Lattice}
use Rattle.lattice_grid.specs.Rectangle.{Size}
use Rattle.report_text.specs.Cells.{size_text, array_text}
use Rattle.report_text.specs.declared.answer.Answer.{Answer}
use Rattle.report_text.specs.declared.answer.Answer.TheVariants as answers
use Rattle.report_text.specs.declared.answer.Version.{Version}
use Rattle.report_text.specs.declared.answer.Version.TheVariants as versions
use Rattle.report_text.specs.declared.form.Form.{Form}
use Rattle.report_text.specs.declared.form.Form.TheVariants.{Found, Minimum, Undecided, Mapped, NoneMapped, MapUndecided, NoRails}

-- the words of each form
abbrev pub form_words : Form → List (List ℕ)
form_words (Found s) = codes "found" ∷ size_text s ∷ []
form_words (Minimum s) = codes "minimum" ∷ size_text s ∷ []
form_words (Undecided s least at after) = codes "undecided" ∷ size_text s ∷ codes "least" ∷ decimal least ∷ codes "at" ∷ size_text at ∷ codes "after" ∷ decimal after ∷ []
form_words (Mapped a) = codes "mapped" ∷ size_text a.size ∷ array_text a ∷ []
form_words (NoneMapped a) = codes "none" ∷ size_text a.size ∷ array_text a ∷ []
form_words (MapUndecided a after) = codes "stopped" ∷ size_text a.size ∷ array_text a ∷ codes "after" ∷ decimal after ∷ []
form_words (NoRails on off) = codes "norails" ∷ decimal on ∷ decimal off ∷ []

-- the size of the lattice that follows, where one does
abbrev pub lattice_size : Form → Option Size
lattice_size (Found s) = Some s
lattice_size (Minimum s) = Some s
lattice_size (Undecided s least at after) = Some s
lattice_size (Mapped a) = Some a.size
lattice_size (NoneMapped a) = None
lattice_size (MapUndecided a after) = None
lattice_size (NoRails on off) = None

-- whether a line of proofs follows
abbrev pub lists : Version → Form → Bool
lists versions.One form = false
lists versions.Two (Found s) = false
lists versions.Two (Minimum s) = true
lists versions.Two (Undecided s least at after) = true
lists versions.Two (Mapped a) = false
lists versions.Two (NoneMapped a) = true
lists versions.Two (MapUndecided a after) = false
lists versions.Two (NoRails on off) = false

-- The version has the form.
abbrev pub Has : Version → Form → Type 0
Has versions.Two form = Unit {0}
Has versions.One (Found s) = Unit {0}
Has versions.One (Minimum s) = Unit {0}
Has versions.One (Undecided s least at after) = Unit {0}
Has versions.One (Mapped a) = Unit {0}
Has versions.One (NoneMapped a) = Unit {0}
Has versions.One (MapUndecided a after) = Unit {0}
Has versions.One (NoRails on off) = ⊥

-- the form of an answer: all but the cells of its lattice
abbrev pub form_of : Answer → Form
form_of (answers.Found g) = Found g.size
form_of (answers.Minimum g) = Minimum g.size
form_of (answers.Undecided g least at after) = Undecided g.size least at after
form_of (answers.Mapped g a) = Mapped a
form_of (answers.NoneMapped a) = NoneMapped a
form_of (answers.MapUndecided a after) = MapUndecided a after
form_of (answers.NoRails on off) = NoRails on off

-- the lattice of an answer, where it has one
abbrev pub lattice_of : Answer → Option Lattice
lattice_of (answers.Found g) = Some g
lattice_of (answers.Minimum g) = Some g
lattice_of (answers.Undecided g least at after) = Some g
lattice_of (answers.Mapped g a) = Some g
lattice_of (answers.NoneMapped a) = None
lattice_of (answers.MapUndecided a after) = None
lattice_of (answers.NoRails on off) = None
