-- Within a block no line of a report's head is expected.
use Rattle.std.proofs.Common.{◌≡◌, ◌≢◌, ℕ, ◌≤◌, ◌⊎◌, inl, inr, Bool, true, false, List, [], ◌∷◌, ◌++◌, length, sym, ap, ◌∙◌, subst, Some, None}
use Rattle.std.specs.Prelude.{All, replicate}
use Rattle.std.specs.declared.option.Option.{Option}
use Rattle.std.proofs.lemmas.List.Elements.{All-nil, All-cons, All-head, All-tail, All-append, All-replicate}
use Rattle.lattice_grid.specs.Rectangle.{Size}
use Rattle.report_text.specs.Expected.{Expected, Opens, Meets, Leads, Misses, kind_of, cells_expected, proofs_expected, block_expected}
use Rattle.report_text.specs.Expected.Expected.{Title, Inputs, Rails, Heading, HeadingOrEnd, Cells, Proofs}
use Rattle.report_text.specs.Form.{lists, lattice_size}
use Rattle.report_text.specs.Report.{Kind, Line}
use Rattle.report_text.specs.Report.Kind.{OfTitle, OfInputs, OfRails, OfHeading, OfCells, OfProofs}
use Rattle.report_text.specs.declared.answer.Version.{Version}

abbrev IsInner : Expected → Type 0
IsInner Title = ⊥
IsInner Inputs = ⊥
IsInner Rails = ⊥
IsInner (Heading v) = Unit {0}
IsInner (HeadingOrEnd v) = ⊥
IsInner (Cells cols) = Unit {0}
IsInner Proofs = Unit {0}

inner_cells : (o : Option Size) → All IsInner (cells_expected o)
inner_cells None = All-nil IsInner
inner_cells (Some s) = All-replicate IsInner s.rows (Cells s.cols) tt

inner_proofs : (follow : Bool) → All IsInner (proofs_expected follow)
inner_proofs false = All-nil IsInner
inner_proofs true = All-cons IsInner Proofs [] tt (All-nil IsInner)

inner_none : (more : List Expected) → more ≡ [] → All IsInner more
inner_none more e = subst (All IsInner) (sym e) (All-nil IsInner)

inner_meets : (e : Expected) (ws : List (List ℕ)) (more : List Expected) → IsInner e → Meets e ws more → All IsInner more
inner_meets Title ws more h x = absurd h
inner_meets Inputs ws more h x = absurd h
inner_meets Rails ws more h x = absurd h
inner_meets (Heading v) ws more h x =
    subst (All IsInner) (sym x.more_is) (All-append IsInner (cells_expected (lattice_size x.heading.form)) (proofs_expected (lists v x.heading.form)) (inner_cells (lattice_size x.heading.form)) (inner_proofs (lists v x.heading.form)))
inner_meets (HeadingOrEnd v) ws more h x = absurd h
inner_meets (Cells cols) ws more h x = inner_none more x.3
inner_meets Proofs ws more h x = inner_none more x.3

inner_leads : (es fs : List Expected) (lines : List Line) → All IsInner es → Leads es lines fs → All IsInner fs
inner_leads es fs [] h x = subst (All IsInner) x h
inner_leads [] fs (l ∷ lines) h x = absurd x
inner_leads (e ∷ es) fs (l ∷ lines) h (m, k, x, p) =
    inner_leads (m ++ es) fs lines (All-append IsInner m es (inner_meets e l.words m (All-head IsInner e es h) x) (All-tail IsInner e es h)) p

-- the kinds of lines within a block
abbrev pub IsOuter : Kind → Type 0
IsOuter OfTitle = Unit {0}
IsOuter OfInputs = Unit {0}
IsOuter OfRails = Unit {0}
IsOuter OfHeading = ⊥
IsOuter OfCells = ⊥
IsOuter OfProofs = ⊥

inner_kind : (e : Expected) → IsInner e → IsOuter (kind_of e) → ⊥
inner_kind Title h k = h
inner_kind Inputs h k = h
inner_kind Rails h k = h
inner_kind (Heading v) h k = k
inner_kind (HeadingOrEnd v) h k = h
inner_kind (Cells cols) h k = k
inner_kind Proofs h k = k

pub not_title : (v : Version) (kind : Kind) (n : ℕ) (text : List ℕ) (first : ℕ) → IsOuter kind → Misses (block_expected v) kind text first n → ⊥
not_title v kind n text first outer m =
    let inner = inner_leads (block_expected v) (m.expected ∷ m.later) m.front (All-cons IsInner (Heading v) [] tt (All-nil IsInner)) m.leads in
    inner_kind m.expected (All-head IsInner m.expected m.later inner) (subst IsOuter m.kind_is outer)
