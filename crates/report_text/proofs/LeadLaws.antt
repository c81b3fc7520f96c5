-- Lines as they are expected, one after another.
use Rattle.std.proofs.Common.{◌≡◌, ◌≢◌, ℕ, suc, zero, ◌+◌, ◌≤◌, ◌<◌, ◌⊎◌, inl, inr, Bool, true, false, List, [], ◌∷◌, ◌++◌, length, refl, sym, ap, ◌∙◌, subst, arith, append_assoc, length-append, codes, Some, None}
use Rattle.std.specs.Prelude.{All, replicate}
use Rattle.std.specs.declared.option.Option.{Option}
use Rattle.std.specs.List.{AllByRecursion, flat_map, join_with_byte}
use Rattle.std.proofs.lemmas.List.{append-nil}
use Rattle.std.proofs.lemmas.List.Concat.{flat_map-append}
use Rattle.std.proofs.lemmas.List.Elements.{All-nil, All-cons, All-head, All-tail, All-append, All-replicate}
use Rattle.lattice_grid.specs.Rectangle.{Size, IsSize}
use Rattle.report_text.specs.Expected.{Expected, IsForm, Opens, Meets, Leads, kind_of, rows_expected, cells_expected, proofs_expected, rails_expected, after_title, after_heading, blocks_expected}
use Rattle.report_text.specs.Expected.Expected.{Title, Inputs, Rails, Heading, HeadingOrEnd, Cells, Proofs}
use Rattle.report_text.specs.Form.{lists, lattice_size}
use Rattle.report_text.specs.Pieces.{Without, words}
use Rattle.report_text.specs.Report.{Line, text_of, words_text}
use Rattle.report_text.specs.declared.answer.Version.{Version}
use Rattle.report_text.specs.declared.answer.Version.TheVariants as versions
use Rattle.report_text.specs.declared.form.Form.{Form}
use Rattle.report_text.specs.declared.form.Form.TheVariants.{Found, Minimum, Undecided, Mapped, NoneMapped, MapUndecided, NoRails}
use Rattle.report_text.proofs.JoinLaws.{pieces-join, join-pieces, Without-join}
use Rattle.report_text.proofs.MeetsLaws.{IsClean, IsWide, meets_same, meets_clean}
use Rattle.report_text.proofs.PiecesLaws.{same_cut}
use Rattle.report_text.proofs.WordLaws.{size_of_array}

-- ---- rows have cells

wide_rows : (s : Size) → IsSize s → All IsWide (rows_expected s)
wide_rows s h = All-replicate IsWide s.rows (Cells s.cols) h.some_cols

wide_cells : (form : Form) → IsForm form → All IsWide (cells_expected (lattice_size form))
wide_cells (Found s) h = wide_rows s h
wide_cells (Minimum s) h = wide_rows s h
wide_cells (Undecided s l a n) h = wide_rows s h.0
wide_cells (Mapped a) h = wide_rows a.size (size_of_array a h)
wide_cells (NoneMapped a) h = All-nil IsWide
wide_cells (MapUndecided a n) h = All-nil IsWide
wide_cells (NoRails x y) h = All-nil IsWide

wide_proofs : (follow : Bool) → All IsWide (proofs_expected follow)
wide_proofs false = All-nil IsWide
wide_proofs true = All-cons IsWide Proofs [] tt (All-nil IsWide)

wide_opens : (v : Version) (ws : List (List ℕ)) (more : List Expected) → Opens v ws more → All IsWide more
wide_opens v ws more x =
    subst (All IsWide) (sym x.more_is) (All-append IsWide (cells_expected (lattice_size x.heading.form)) (proofs_expected (lists v x.heading.form)) (wide_cells x.heading.form x.is_heading.form) (wide_proofs (lists v x.heading.form)))

wide_title : (v : Version) → All IsWide (after_title v)
wide_title versions.One =
    All-cons IsWide Inputs (HeadingOrEnd versions.One ∷ []) tt (All-cons IsWide (HeadingOrEnd versions.One) [] tt (All-nil IsWide))
wide_title versions.Two =
    All-cons IsWide Inputs (Rails ∷ HeadingOrEnd versions.Two ∷ []) tt
    (All-cons IsWide Rails (HeadingOrEnd versions.Two ∷ []) tt (All-cons IsWide (HeadingOrEnd versions.Two) [] tt (All-nil IsWide)))

wide_none : (more : List Expected) → more ≡ [] → All IsWide more
wide_none more e = subst (All IsWide) (sym e) (All-nil IsWide)

meets_wide : (e : Expected) (ws : List (List ℕ)) (more : List Expected) → Meets e ws more → All IsWide more
meets_wide Title ws more (v, x, p) = subst (All IsWide) (sym p) (wide_title v)
meets_wide Inputs ws more x = wide_none more x.3
meets_wide Rails ws more x = wide_none more x.3
meets_wide (Heading v) ws more x = wide_opens v ws more x
meets_wide (HeadingOrEnd v) ws more (inl x) = wide_none more x.1
meets_wide (HeadingOrEnd v) ws more (inr x) =
    subst (All IsWide) (sym x.2) (All-append IsWide x.0 (blocks_expected v) (wide_opens v ws x.0 x.1) (All-cons IsWide (HeadingOrEnd v) [] tt (All-nil IsWide)))
meets_wide (Cells cols) ws more x = wide_none more x.3
meets_wide Proofs ws more x = wide_none more x.3

pub wide_next : (e : Expected) (es : List Expected) (ws : List (List ℕ)) (more : List Expected) → All IsWide (e ∷ es) → Meets e ws more → All IsWide (more ++ es)
wide_next e es ws more wide x = All-append IsWide more es (meets_wide e ws more x) (All-tail IsWide e es wide)

-- ---- runs

pub leads_same : (es : List Expected) (lines : List Line) (a b : List Expected) → Leads es lines a → Leads es lines b → a ≡ b
leads_same es [] a b x y = sym x ∙ y
leads_same [] (l ∷ lines) a b x y = absurd x
leads_same (e ∷ es) (l ∷ lines) a b (m, k, x, p) (n, j, y, q) =
    let same = meets_same e l.words m n x y in
    leads_same (n ++ es) lines a b (subst (λ z. Leads (z ++ es) lines a) same p) q

pub leads_append : (es ms fs : List Expected) (xs ys : List Line) → Leads es xs ms → Leads ms ys fs → Leads es (xs ++ ys) fs
leads_append es ms fs [] ys x y = subst (λ z. Leads z ys fs) (sym x) y
leads_append [] ms fs (l ∷ xs) ys x y = absurd x
leads_append (e ∷ es) ms fs (l ∷ xs) ys (m, k, x, p) y = (m, k, x, leads_append (m ++ es) ms fs xs ys p y)

pub leads_split : (es fs : List Expected) (xs ys : List Line) → Leads es (xs ++ ys) fs → (ms : List Expected) × Leads es xs ms × Leads ms ys fs
leads_split es fs [] ys x = (es, refl, x)
leads_split [] fs (l ∷ xs) ys x = absurd x
leads_split (e ∷ es) fs (l ∷ xs) ys (m, k, x, p) = let found = leads_split (m ++ es) fs xs ys p in (found.0, (m, k, x, found.1), found.2)

pub leads_wider : (es fs later : List Expected) (lines : List Line) → Leads es lines fs → Leads (es ++ later) lines (fs ++ later)
leads_wider es fs later [] x = ap (λ z. z ++ later) x
leads_wider [] fs later (l ∷ lines) x = absurd x
leads_wider (e ∷ es) fs later (l ∷ lines) (m, k, x, p) =
    (m, k, x, subst (λ z. Leads z lines (fs ++ later)) (append_assoc m es later) (leads_wider (m ++ es) fs later lines p))

-- what two expectations lead through comes in two parts
pub leads_parts : (es later : List Expected) (lines : List Line) → Leads (es ++ later) lines [] → (a : List Line) × (b : List Line) × (lines ≡ a ++ b) × Leads es a [] × Leads later b []
leads_parts [] later lines x = ([], lines, refl, refl, x)
leads_parts (e ∷ es) later [] x = absurd cc
leads_parts (e ∷ es) later (l ∷ lines) (m, k, x, p) =
    let found = leads_parts (m ++ es) later lines (subst (λ z. Leads z lines []) (sym (append_assoc m es later)) p) in
    (l ∷ found.0, found.1, ap (λ z. l ∷ z) found.2, (m, k, x, found.3), found.4)

-- ---- texts

pub line_behind : (l : Line) (lines : List Line) (rest : List ℕ) → text_of (l ∷ lines) ++ rest ≡ join_with_byte 32 l.words ++ 10 ∷ (text_of lines ++ rest)
line_behind l lines rest = append_assoc (words_text l.words) (text_of lines) rest ∙ append_assoc (join_with_byte 32 l.words) (10 ∷ []) (text_of lines ++ rest)

pub clean_line : (ws : List (List ℕ)) → IsClean ws → Without 10 (join_with_byte 32 ws)
clean_line ws h = Without-join 10 32 ws (λ e. omega (arith, e)) (h.plain 10 (omega arith))

pub clean_words : (ws : List (List ℕ)) → IsClean ws → words (join_with_byte 32 ws) ≡ ws
clean_words ws h = pieces-join 32 ws h.some (h.plain 32 (omega arith))

pub same_words : (us vs : List (List ℕ)) → IsClean us → IsClean vs → join_with_byte 32 us ≡ join_with_byte 32 vs → us ≡ vs
same_words us vs p q e = sym (clean_words us p) ∙ ap words e ∙ clean_words vs q

-- the lines of one are those of the other and more, or the other way round
pub record IsBehind (xs ys : List Line) (s t : List ℕ) : Type 0 where
  pub next : Line
  pub more : List Line
  pub lines : ys ≡ xs ++ next ∷ more
  pub text : s ≡ text_of (next ∷ more) ++ t

pub record IsSame (xs ys : List Line) (s t : List ℕ) : Type 0 where
  pub lines : xs ≡ ys
  pub text : s ≡ t

same_line : (x y : Line) → x.kind ≡ y.kind → x.words ≡ y.words → x ≡ y
same_line x y e f = λ i. record { kind = e i; words = f i }

pub compare : (es p q : List Expected) (xs ys : List Line) (s t : List ℕ) → All IsWide es → Leads es xs p → Leads es ys q → text_of xs ++ s ≡ text_of ys ++ t
    → IsSame xs ys s t ⊎ (IsBehind xs ys s t ⊎ IsBehind ys xs t s)
compare es p q [] [] s t w x y e = inl (record { lines = refl; text = e })
compare es p q [] (l ∷ ys) s t w x y e = inr (inl (record { next = l; more = ys; lines = refl; text = e }))
compare es p q (l ∷ xs) [] s t w x y e = inr (inr (record { next = l; more = xs; lines = refl; text = sym e }))
compare [] p q (l ∷ xs) (k ∷ ys) s t w x y e = absurd x
compare (d ∷ es) p q (l ∷ xs) (k ∷ ys) s t w (m, i, x, x') (n, j, y, y') e =
    let wide = All-head IsWide d es w in
    let one = meets_clean d l.words m wide x in
    let two = meets_clean d k.words n wide y in
    let cut = same_cut 10 (join_with_byte 32 l.words) (join_with_byte 32 k.words) (text_of xs ++ s) (text_of ys ++ t) (clean_line l.words one) (clean_line k.words two)
    (sym (line_behind l xs s) ∙ e ∙ line_behind k ys t) in
    let same = same_line l k (i ∙ sym j) (same_words l.words k.words one two cut.0) in
    let next = meets_same d k.words m n (subst (λ z. Meets d z.words m) same x) y in
    elim (compare (n ++ es) p q xs ys s t (wide_next d es k.words n w y) (subst (λ z. Leads (z ++ es) xs p) next x') y' cut.1) [
      | inl is ↦ inl (record { lines = (λ h. same h ∷ is.lines h); text = is.text })
      | inr (inl b) ↦ inr (inl (record { next = b.next; more = b.more; lines = (λ h. sym same h ∷ b.lines h); text = b.text }))
      | inr (inr b) ↦ inr (inr (record { next = b.next; more = b.more; lines = (λ h. same h ∷ b.lines h); text = b.text }))
    ]
