-- The words of the forms of answers, and of the first lines of blocks.
use Rattle.std.proofs.Common.{◌≡◌, ◌≢◌, ℕ, ◌+◌, ◌*◌, ◌^◌, ◌≤◌, ◌<◌, ◌⊎◌, inl, inr, List, [], ◌∷◌, ◌++◌, length, get_or, refl, sym, ap, ◌∙◌, subst, arith, codes}
use Rattle.std.specs.Fmt.{decimal}
use Rattle.std.specs.List.{AllByRecursion}
use Rattle.lattice_grid.specs.Defects.{Defects, IsArray}
use Rattle.lattice_grid.specs.Rectangle.{Size, IsSize}
use Rattle.pla_reader.specs.Name.{IsName}
use Rattle.report_text.specs.Bounds.{IsBound}
use Rattle.report_text.specs.Cells.{array_text, size_text}
use Rattle.report_text.specs.Expected.{IsForm, IsHeading}
use Rattle.report_text.specs.Form.{form_words, Has}
use Rattle.report_text.specs.Pieces.{Without}
use Rattle.report_text.specs.Report.{HeadingParts, heading_words}
use Rattle.report_text.specs.declared.answer.Version.{Version}
use Rattle.report_text.specs.declared.answer.Version.TheVariants as versions
use Rattle.report_text.specs.declared.form.Form.{Form}
use Rattle.report_text.specs.declared.form.Form.TheVariants.{Found, Minimum, Undecided, Mapped, NoneMapped, MapUndecided, NoRails}
use Rattle.report_text.proofs.SpellLaws.{Spells, SpellsLine, nothing, then, after, only, seen_as, told_as, then_of}
use Rattle.report_text.proofs.TestedLaws.{Tested, tested_both, tested_as, tested_eq, tested_le}
use Rattle.report_text.proofs.WordLaws.{numbers, names, sizes, arrays, size_of_array}

-- ---- the forms one by one

abbrev Alone : Type 0 → Type 0
Alone A = A × Unit {0}

alone : (A : Type 0) (Is : A → Type 0) (line : A → List (List ℕ)) → SpellsLine (Alone A) (λ p. Is p.0 × Unit {0}) (λ p. line p.0) → SpellsLine A Is line
alone A Is line T = seen_as {A = Alone A} {B = A} (λ p. p.0) (λ a. (a, tt)) (λ a h. refl) (λ p h. h.0) (λ a h. (h, tt)) (λ p h. refl) (λ a. refl) T

found : SpellsLine Size IsSize (λ s. form_words (Found s))
found = alone Size IsSize (λ s. form_words (Found s)) (after (codes "found") refl (then sizes nothing))

minimum : SpellsLine Size IsSize (λ s. form_words (Minimum s))
minimum = alone Size IsSize (λ s. form_words (Minimum s)) (after (codes "minimum") refl (then sizes nothing))

-- a size, the least area, the shape that was given up and the steps
abbrev Bound : Type 0
Bound = Size × (ℕ × (Size × (ℕ × Unit {0})))

abbrev to_undecided : Bound → Form
to_undecided p = Undecided p.0 p.1.0 p.1.1.0 p.1.1.1.0

abbrev of_undecided : Size → ℕ → Size → ℕ → Bound
of_undecided s least at after_ = (s, (least, (at, (after_, tt))))

undecided : SpellsLine Bound (λ p. IsForm (to_undecided p)) (λ p. form_words (to_undecided p))
undecided =
    told_as (λ p h. (h.0.0, record { size = h.0.1.1.0; area = h.1; few = h.0.1.1.1.0 })) (λ p h. ((h.0, (bound_small p h.1, (h.1.size, (h.1.few, tt)))), h.1.area))
    (only (λ p. p.1.0 ≡ p.1.1.0.rows * p.1.1.0.cols) (λ p. tested_eq p.1.0 (p.1.1.0.rows * p.1.1.0.cols))
    (after (codes "undecided") refl (then sizes (after (codes "least") refl (then (numbers 1048576 (omega arith)) (after (codes "at") refl (then sizes (after (codes "after") refl (then (numbers 200000 (omega arith)) nothing))))))))) where
      bound_small : (p : Bound) → IsBound p.1.0 p.1.1.0 p.1.1.1.0 → p.1.0 ≤ 1048576
      bound_small p h = let area = h.area in let few = h.size.few in omega (arith, area, few)

-- an array, and what follows
array_then : {B : Type 0} {Js : B → Type 0} {line : B → List (List ℕ)} → SpellsLine B Js line → SpellsLine (Defects × B) (λ p. IsArray p.0 × Js p.1) (λ p. size_text p.0.size ∷ array_text p.0 ∷ line p.1)
array_then {B} {Js} {line} T =
    then_of (λ p. p.0.size) (λ p h. size_of_array p.0 h.0) sizes (λ s. told_as (λ p h. ((h.0.0, h.1), h.0.1)) (λ p h. ((h.0.0, h.1), h.0.1)) (then (arrays s) T))

mapped : SpellsLine Defects IsArray (λ a. form_words (Mapped a))
mapped = alone Defects IsArray (λ a. form_words (Mapped a)) (after (codes "mapped") refl (array_then nothing))

unmapped : SpellsLine Defects IsArray (λ a. form_words (NoneMapped a))
unmapped = alone Defects IsArray (λ a. form_words (NoneMapped a)) (after (codes "none") refl (array_then nothing))

abbrev Stopped : Type 0
Stopped = Defects × (ℕ × Unit {0})

abbrev to_stopped : Stopped → Form
to_stopped p = MapUndecided p.0 p.1.0

stopped : SpellsLine Stopped (λ p. IsForm (to_stopped p)) (λ p. form_words (to_stopped p))
stopped = told_as (λ p h. (h.0, h.1.0)) (λ p h. (h.0, (h.1, tt))) (after (codes "stopped") refl (array_then (after (codes "after") refl (then (numbers 200000 (omega arith)) nothing))))

abbrev Lacking : Type 0
Lacking = ℕ × (ℕ × Unit {0})

abbrev to_lacking : Lacking → Form
to_lacking p = NoRails p.0 p.1.0

lacking : SpellsLine Lacking (λ p. IsForm (to_lacking p)) (λ p. form_words (to_lacking p))
lacking =
    told_as (λ p h. (let x = h.0 in omega (arith, x), let y = h.1.0 in omega (arith, y))) (λ p h. (let x = h.0 in omega (arith, x), (let y = h.1 in omega (arith, y), tt)))
    (after (codes "norails") refl (then (numbers 1023 (omega arith)) (then (numbers 1023 (omega arith)) nothing)))

-- ---- all forms

-- a number by which the first words differ
abbrev mark : List (List ℕ) → ℕ
mark ws = 3 * get_or (get_or ws 0 []) 0 0 + get_or (get_or ws 0 []) 2 0

same_form : (x y : Form) → IsForm x → IsForm y → form_words x ≡ form_words y → x ≡ y
same_form (Found s) (Found t) p q e = ap Found (found.same s t p q e)
same_form (Minimum s) (Minimum t) p q e = ap Minimum (minimum.same s t p q e)
same_form (Undecided s l a n) (Undecided t m b k) p q e = ap to_undecided (undecided.same (of_undecided s l a n) (of_undecided t m b k) p q e)
same_form (Mapped a) (Mapped b) p q e = ap Mapped (mapped.same a b p q e)
same_form (NoneMapped a) (NoneMapped b) p q e = ap NoneMapped (unmapped.same a b p q e)
same_form (MapUndecided a n) (MapUndecided b k) p q e = ap to_stopped (stopped.same (a, (n, tt)) (b, (k, tt)) p q e)
same_form (NoRails x y) (NoRails z w) p q e = ap to_lacking (lacking.same (x, (y, tt)) (z, (w, tt)) p q e)
same_form (Found s) y p q e = absurd (omega (arith, ap mark e))
same_form (Minimum s) y p q e = absurd (omega (arith, ap mark e))
same_form (Undecided s l a n) y p q e = absurd (omega (arith, ap mark e))
same_form (Mapped a) y p q e = absurd (omega (arith, ap mark e))
same_form (NoneMapped a) y p q e = absurd (omega (arith, ap mark e))
same_form (MapUndecided a n) y p q e = absurd (omega (arith, ap mark e))
same_form (NoRails u v) y p q e = absurd (omega (arith, ap mark e))

plain_form : (at : ℕ) → at < 33 → (x : Form) → IsForm x → AllByRecursion (Without at) (form_words x)
plain_form at h (Found s) p = found.plain at h s p
plain_form at h (Minimum s) p = minimum.plain at h s p
plain_form at h (Undecided s l a n) p = undecided.plain at h (of_undecided s l a n) p
plain_form at h (Mapped a) p = mapped.plain at h a p
plain_form at h (NoneMapped a) p = unmapped.plain at h a p
plain_form at h (MapUndecided a n) p = stopped.plain at h (a, (n, tt)) p
plain_form at h (NoRails x y) p = lacking.plain at h (x, (y, tt)) p

-- what is in none of the forms
pub no_form : (ws : List (List ℕ)) → ((s : Size) → IsSize s → ws ≢ form_words (Found s)) → ((s : Size) → IsSize s → ws ≢ form_words (Minimum s))
    → ((s : Size) (least : ℕ) (at : Size) (n : ℕ) → IsForm (Undecided s least at n) → ws ≢ form_words (Undecided s least at n))
    → ((a : Defects) → IsArray a → ws ≢ form_words (Mapped a)) → ((a : Defects) → IsArray a → ws ≢ form_words (NoneMapped a))
    → ((a : Defects) (n : ℕ) → IsForm (MapUndecided a n) → ws ≢ form_words (MapUndecided a n)) → ((on off : ℕ) → IsForm (NoRails on off) → ws ≢ form_words (NoRails on off))
    → (form : Form) → IsForm form → ws ≢ form_words form
no_form ws f m u a n s l (Found size) p = f size p
no_form ws f m u a n s l (Minimum size) p = m size p
no_form ws f m u a n s l (Undecided size least at k) p = u size least at k p
no_form ws f m u a n s l (Mapped d) p = a d p
no_form ws f m u a n s l (NoneMapped d) p = n d p
no_form ws f m u a n s l (MapUndecided d k) p = s d k p
no_form ws f m u a n s l (NoRails on off) p = l on off p

tested_form : (ws : List (List ℕ)) → Tested ((x : Form) × IsForm x × (ws ≡ form_words x))
tested_form ws = elim (found.tested ws) [
  | inl (s, p, e) ↦ inl (Found s, p, e)
  | inr f ↦ elim (minimum.tested ws) [
    | inl (s, p, e) ↦ inl (Minimum s, p, e)
    | inr m ↦ elim (undecided.tested ws) [
      | inl (b, p, e) ↦ inl (to_undecided b, p, e)
      | inr u ↦ elim (mapped.tested ws) [
        | inl (a, p, e) ↦ inl (Mapped a, p, e)
        | inr a ↦ elim (unmapped.tested ws) [
          | inl (d, p, e) ↦ inl (NoneMapped d, p, e)
          | inr n ↦ elim (stopped.tested ws) [
            | inl (b, p, e) ↦ inl (to_stopped b, p, e)
            | inr t ↦ elim (lacking.tested ws) [
              | inl (b, p, e) ↦ inl (to_lacking b, p, e)
              | inr l ↦ inr (λ (x, p, e).
                  no_form ws (λ s q g. f (s, q, g)) (λ s q g. m (s, q, g)) (λ s least at k q g. u (of_undecided s least at k, q, g)) (λ d q g. a (d, q, g)) (λ d q g. n (d, q, g))
                  (λ d k q g. t ((d, (k, tt)), q, g)) (λ on off q g. l ((on, (off, tt)), q, g)) x p e)
            ]
          ]
        ]
      ]
    ]
  ]
]

pub forms : SpellsLine Form IsForm form_words
forms = record { same = λ x y p q e. same_form x y p q e; plain = λ at h x p. plain_form at h x p; tested = λ ws. tested_form ws }

-- ---- first lines of blocks

tested_has : (version : Version) (form : Form) → Tested (Has version form)
tested_has versions.Two form = inl tt
tested_has versions.One (Found s) = inl tt
tested_has versions.One (Minimum s) = inl tt
tested_has versions.One (Undecided s l a n) = inl tt
tested_has versions.One (Mapped a) = inl tt
tested_has versions.One (NoneMapped a) = inl tt
tested_has versions.One (MapUndecided a n) = inl tt
tested_has versions.One (NoRails x y) = inr (λ h. h)

abbrev to_heading : ℕ × (List ℕ × Form) → HeadingParts
to_heading p = record { output = p.0; name = p.1.0; form = p.1.1 }

pub headings : (version : Version) → SpellsLine HeadingParts (IsHeading version) heading_words
headings version =
    seen_as to_heading (λ h. (h.output, (h.name, h.form))) (λ h p. refl) (λ x p. record { output = p.0; name = p.1.0; form = p.1.1.0; has = p.1.1.1 })
    (λ h p. (p.output, (p.name, (p.form, p.has)))) (λ x p. refl) (λ h. refl)
    (after (codes "output") refl (then (numbers 63 (omega arith)) (then names (only (Has version) (tested_has version) forms))))
