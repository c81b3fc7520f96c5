-- What lines meet what is expected.
use Rattle.std.proofs.Common.{◌≡◌, ◌≢◌, ℕ, ◌≤◌, ◌<◌, ◌⊎◌, inl, inr, Bool, true, false, List, [], ◌∷◌, ◌++◌, length, get_or, map, refl, sym, ap, ◌∙◌, subst, arith, codes}
use Rattle.std.specs.Prelude.{All}
use Rattle.std.specs.Fmt.{decimal}
use Rattle.std.specs.List.{AllByRecursion}
use Rattle.std.proofs.lemmas.List.{length-map}
use Rattle.std.proofs.lemmas.List.Elements.{All-nil, All-cons}
use Rattle.lattice_grid.specs.Control.{NamesBelow}
use Rattle.lattice_grid.specs.declared.control.Control.{Control}
use Rattle.lattice_grid.specs.declared.control.Control.TheVariants.{Zero}
use Rattle.pla_reader.specs.Name.{IsName}
use Rattle.report_text.specs.Bounds.{AreNames, IsProof}
use Rattle.report_text.specs.Cells.{control_text, proof_text}
use Rattle.report_text.specs.Expected.{Expected, IsHeading, IsRow, Opens, Meets, after_title, after_heading, blocks_expected}
use Rattle.report_text.specs.Expected.Expected.{Title, Inputs, Rails, Heading, HeadingOrEnd, Cells, Proofs}
use Rattle.report_text.specs.Pieces.{Without}
use Rattle.report_text.specs.Report.{HeadingParts, title_words, heading_words}
use Rattle.report_text.specs.declared.answer.Proof.{Proof}
use Rattle.report_text.specs.declared.answer.Version.{Version}
use Rattle.report_text.specs.declared.answer.Version.TheVariants as versions
use Rattle.report_text.proofs.FormLaws.{headings}
use Rattle.report_text.proofs.SpellLaws.{SpellsLine, nothing, then, after, only, seen_as, told_as, each}
use Rattle.report_text.proofs.TestedLaws.{Tested, tested_both, tested_as, tested_eq, tested_le, tested_list}
use Rattle.report_text.proofs.WordLaws.{numbers, names, controls, proofs}

-- ---- the lines one by one

tested_words : (us vs : List (List ℕ)) → Tested (us ≡ vs)
tested_words [] [] = inl refl
tested_words [] (y ∷ ys) = inr (λ e. absurd cc)
tested_words (x ∷ xs) [] = inr (λ e. absurd cc)
tested_words (x ∷ xs) (y ∷ ys) = elim (tested_list x y) [
  | inl head ↦ elim (tested_words xs ys) [ inl tail ↦ inl (λ i. head i ∷ tail i) | inr none ↦ inr (λ e. none cc) ]
  | inr none ↦ inr (λ e. none cc)
]

abbrev digit : List (List ℕ) → ℕ
digit ws = get_or (get_or ws 2 []) 0 0

pub same_title : (v w : Version) → title_words v ≡ title_words w → v ≡ w
same_title versions.One versions.One e = refl
same_title versions.Two versions.Two e = refl
same_title versions.One versions.Two e = absurd (omega (arith, ap digit e))
same_title versions.Two versions.One e = absurd (omega (arith, ap digit e))

plain_title : (at : ℕ) → at < 33 → (v : Version) → AllByRecursion (Without at) (title_words v)
plain_title at h versions.One = (after (codes "lattice") refl (after (codes "report") refl (after (codes "1") refl nothing))).plain at h tt tt
plain_title at h versions.Two = (after (codes "lattice") refl (after (codes "report") refl (after (codes "2") refl nothing))).plain at h tt tt

tested_title : (ws : List (List ℕ)) → Tested ((v : Version) × (ws ≡ title_words v))
tested_title ws = elim (tested_words ws (title_words versions.One)) [
  | inl e ↦ inl (versions.One, e)
  | inr one ↦ elim (tested_words ws (title_words versions.Two)) [
    | inl e ↦ inl (versions.Two, e)
    | inr two ↦ inr (λ (v, e). no_title ws one two v e)
  ]
] where
  no_title : (ws : List (List ℕ)) → ws ≢ title_words versions.One → ws ≢ title_words versions.Two → (v : Version) → ws ≡ title_words v → ⊥
  no_title ws one two versions.One e = one e
  no_title ws one two versions.Two e = two e

map_same : (ns : List (List ℕ)) → ns ≡ map (λ n. n) ns
map_same [] = refl
map_same (n ∷ ns) = ap (λ z. n ∷ z) (map_same ns)

inputs : SpellsLine (List (List ℕ)) AreNames (λ ns. codes "inputs" ∷ ns)
inputs =
    after (codes "inputs") refl (seen_as (λ ns. ns) (λ ns. ns) (λ ns h. refl) (λ ns h. record { some = h.1.0; few = h.1.1; each = h.0 }) (λ ns h. (h.each, (h.some, h.few))) (λ ns h. map_same ns) (λ ns. map_same ns)
    (only (λ ns. (1 ≤ length ns) × (length ns ≤ 10)) (λ ns. tested_both (1 ≤ length ns) (length ns ≤ 10) (tested_le 1 (length ns)) (tested_le (length ns) 10)) (each names)))

rails : SpellsLine (ℕ × Unit {0}) (λ p. (p.0 ≤ 1048575) × Unit {0}) (λ p. codes "rails" ∷ decimal p.0 ∷ [])
rails = after (codes "rails") refl (then (numbers 1048575 (omega arith)) nothing)

rows : (cols : ℕ) → SpellsLine (List Control) (IsRow cols) (map control_text)
rows cols = told_as (λ r h. record { many = h.1; inputs = h.0 }) (λ r h. (h.inputs, h.many)) (only (λ r. length r ≡ cols) (λ r. tested_eq (length r) cols) (each controls))

refuted : SpellsLine (List Proof) (All IsProof) (λ ps. codes "refuted" ∷ map proof_text ps)
refuted = after (codes "refuted") refl (each proofs)

-- ---- one line leads to one place

abbrev first : List (List ℕ) → ℕ
first ws = get_or (get_or ws 0 []) 0 0

pub end_apart : (ws : List (List ℕ)) (h : HeadingParts) → ws ≡ codes "end" ∷ [] → ws ≡ heading_words h → ⊥
end_apart ws h e f = let clash = ap first (sym e ∙ f) in omega (arith, clash)

opens_same : (v : Version) (ws : List (List ℕ)) (a b : List Expected) → Opens v ws a → Opens v ws b → a ≡ b
opens_same v ws a b x y =
    let same = (headings v).same x.heading y.heading x.is_heading y.is_heading (sym x.words_are ∙ y.words_are) in
    x.more_is ∙ ap (λ h. after_heading v h.form) same ∙ sym y.more_is

pub meets_same : (e : Expected) (ws : List (List ℕ)) (a b : List Expected) → Meets e ws a → Meets e ws b → a ≡ b
meets_same Title ws a b (v, x, p) (w, y, q) = p ∙ ap after_title (same_title v w (sym x ∙ y)) ∙ sym q
meets_same Inputs ws a b x y = x.3 ∙ sym y.3
meets_same Rails ws a b x y = x.3 ∙ sym y.3
meets_same (Heading v) ws a b x y = opens_same v ws a b x y
meets_same (HeadingOrEnd v) ws a b (inl x) (inl y) = x.1 ∙ sym y.1
meets_same (HeadingOrEnd v) ws a b (inl x) (inr y) = absurd (end_apart ws y.1.heading x.0 y.1.words_are)
meets_same (HeadingOrEnd v) ws a b (inr x) (inl y) = absurd (end_apart ws x.1.heading y.0 x.1.words_are)
meets_same (HeadingOrEnd v) ws a b (inr x) (inr y) = x.2 ∙ ap (λ m. m ++ blocks_expected v) (opens_same v ws x.0 y.0 x.1 y.1) ∙ sym y.2
meets_same (Cells cols) ws a b x y = x.3 ∙ sym y.3
meets_same Proofs ws a b x y = x.3 ∙ sym y.3

-- ---- lines are lines

-- at least one word, and no blank or line feed in one
pub record IsClean (ws : List (List ℕ)) : Type 0 where
  pub some : 0 < length ws
  pub plain : (at : ℕ) → at < 33 → AllByRecursion (Without at) ws

clean_as : (us vs : List (List ℕ)) → vs ≡ us → 0 < length us → ((at : ℕ) → at < 33 → AllByRecursion (Without at) us) → IsClean vs
clean_as us vs e some plain = subst IsClean (sym e) (record { some = some; plain = plain })

some_title : (v : Version) → 0 < length (title_words v)
some_title versions.One = omega arith
some_title versions.Two = omega arith

opens_clean : (v : Version) (ws : List (List ℕ)) (more : List Expected) → Opens v ws more → IsClean ws
opens_clean v ws more x = clean_as (heading_words x.heading) ws x.words_are (omega arith) (λ at h. (headings v).plain at h x.heading x.is_heading)

some_cells : (row : List Control) → 0 < length row → 0 < length (map control_text row)
some_cells row h = omega (arith, h, length-map row control_text)

-- a row has a cell
abbrev pub IsWide : Expected → Type 0
IsWide Title = Unit {0}
IsWide Inputs = Unit {0}
IsWide Rails = Unit {0}
IsWide (Heading v) = Unit {0}
IsWide (HeadingOrEnd v) = Unit {0}
IsWide (Cells cols) = 1 ≤ cols
IsWide Proofs = Unit {0}

pub meets_clean : (e : Expected) (ws : List (List ℕ)) (more : List Expected) → IsWide e → Meets e ws more → IsClean ws
meets_clean Title ws more w (v, x, p) = clean_as (title_words v) ws x (some_title v) (λ at h. plain_title at h v)
meets_clean Inputs ws more w (ns, is, x, p) = clean_as (codes "inputs" ∷ ns) ws x (omega arith) (λ at h. inputs.plain at h ns is)
meets_clean Rails ws more w (n, few, x, p) = clean_as (codes "rails" ∷ decimal n ∷ []) ws x (omega arith) (λ at h. rails.plain at h (n, tt) (few, tt))
meets_clean (Heading v) ws more w x = opens_clean v ws more x
meets_clean (HeadingOrEnd v) ws more w (inl x) = clean_as (codes "end" ∷ []) ws x.0 (omega arith) (λ at h. (after (codes "end") refl nothing).plain at h tt tt)
meets_clean (HeadingOrEnd v) ws more w (inr x) = opens_clean v ws x.0 x.1
meets_clean (Cells cols) ws more w (row, is, x, p) = clean_as (map control_text row) ws x (some_cells row (let many = is.many in omega (arith, many, w))) (λ at h. (rows cols).plain at h row is)
meets_clean Proofs ws more w (ps, is, x, p) = clean_as (codes "refuted" ∷ map proof_text ps) ws x (omega arith) (λ at h. refuted.plain at h ps is)

-- ---- whether a line meets what is expected

tested_opens : (v : Version) (ws : List (List ℕ)) → Tested ((more : List Expected) × Opens v ws more)
tested_opens v ws = elim ((headings v).tested ws) [
  | inl (h, is, e) ↦ inl (after_heading v h.form, record { heading = h; is_heading = is; words_are = e; more_is = refl })
  | inr none ↦ inr (λ (more, x). none (x.heading, x.is_heading, x.words_are))
]

pub tested_meets : (e : Expected) (ws : List (List ℕ)) → Tested ((more : List Expected) × Meets e ws more)
tested_meets Title ws = elim (tested_title ws) [ inl (v, x) ↦ inl (after_title v, (v, x, refl)) | inr none ↦ inr (λ (more, (v, x, p)). none (v, x)) ]
tested_meets Inputs ws = elim (inputs.tested ws) [ inl (ns, is, x) ↦ inl ([], (ns, is, x, refl)) | inr none ↦ inr (λ (more, (ns, is, x, p)). none (ns, is, x)) ]
tested_meets Rails ws = elim (rails.tested ws) [ inl (n, is, x) ↦ inl ([], (n.0, is.0, x, refl)) | inr none ↦ inr (λ (more, (n, few, x, p)). none ((n, tt), (few, tt), x)) ]
tested_meets (Heading v) ws = tested_opens v ws
tested_meets (HeadingOrEnd v) ws = elim (tested_words ws (codes "end" ∷ [])) [
  | inl e ↦ inl ([], inl (e, refl))
  | inr other ↦ elim (tested_opens v ws) [
    | inl (inner, x) ↦ inl (inner ++ blocks_expected v, inr (inner, x, refl))
    | inr none ↦ inr (λ (more, x). neither other none more x)
  ]
] where
  neither : ws ≢ codes "end" ∷ [] → (((more : List Expected) × Opens v ws more) → ⊥) → (more : List Expected) → Meets (HeadingOrEnd v) ws more → ⊥
  neither other none more (inl x) = other x.0
  neither other none more (inr x) = none (x.0, x.1)
tested_meets (Cells cols) ws = elim ((rows cols).tested ws) [ inl (r, is, x) ↦ inl ([], (r, is, x, refl)) | inr none ↦ inr (λ (more, (r, is, x, p)). none (r, is, x)) ]
tested_meets Proofs ws = elim (refuted.tested ws) [ inl (ps, is, x) ↦ inl ([], (ps, is, x, refl)) | inr none ↦ inr (λ (more, (ps, is, x, p)). none (ps, is, x)) ]
