-- The largest shapes of an area, one after another.
use Rattle.std.proofs.Common.{◌≡◌, ℕ, ◌+◌, ◌-◌, ◌*◌, ◌/◌, ◌≤◌, ◌<◌, ◌↔◌, inl, inr, List, [], ◌∷◌, ◌++◌, length, get_or, refl, sym, ap, ◌∙◌, subst, arith, length-append}
use Rattle.std.specs.List.{Contains}
use Rattle.std.proofs.Math.Nat.{div-mul-le_self, mul-div-le}
use Rattle.std.proofs.lemmas.Bool.{cases_lt}
use Rattle.std.proofs.lemmas.List.{get_or_append_left, get_or-append-add}
use Rattle.std.proofs.lemmas.List.Elements.{Contains-append_left, Contains-push, Contains-push_cases, Contains-get_or}
use Rattle.std.proofs.lemmas.Nat.{mul-le, le-div}
use Rattle.lattice_grid.specs.Rectangle.{Size, IsSize, FitsInside}
use Rattle.shape_list.specs.Shapes.{area_of, IsHeld, IsCoveredBelow, IsStep, IsStair}

size_eq : (s t : Size) → s.rows ≡ t.rows → s.cols ≡ t.cols → s ≡ t
size_eq s t e f = λ i. record { rows = e i; cols = f i }

-- a shape of at most the area with at least so many rows has no more columns than go into the area so often; so too of rows
few_cols : (area rows : ℕ) (t : Size) → 1 ≤ rows → area_of t ≤ area → rows ≤ t.rows → t.cols ≤ area / rows
few_cols area rows t some small more =
    let product = mul-le t.cols rows t.cols t.rows (omega arith) more in
    le-div t.cols area rows some (omega arith)

few_rows : (area cols : ℕ) (t : Size) → 1 ≤ cols → area_of t ≤ area → cols ≤ t.cols → t.rows ≤ area / cols
few_rows area cols t some small more =
    let product = mul-le t.rows cols t.rows t.cols (omega arith) more in
    le-div t.rows area cols some (omega arith)

-- what the numbers of the shape are that the code makes
pub record IsNext (area rows : ℕ) (s : Size) : Type 0 where
  pub cols_some : 1 ≤ s.cols
  pub rows_some : 1 ≤ s.rows
  pub from : rows ≤ s.rows
  pub small : area_of s ≤ area

pub next_is : (area rows : ℕ) (s : Size) → 1 ≤ rows → rows ≤ area → s.cols ≡ area / rows → s.rows ≡ area / s.cols → IsNext area rows s
next_is area rows s some within cols rows_are =
    let cols_some : 1 ≤ s.cols = subst (λ c. 1 ≤ c) (sym cols) (le-div 1 area rows some (omega arith)) in
    let product : rows * s.cols ≤ area = subst (λ c. rows * c ≤ area) (sym cols) (mul-div-le area rows) in
    let from : rows ≤ s.rows = subst (λ r. rows ≤ r) (sym rows_are) (le-div rows area s.cols cols_some product) in
    record { cols_some = cols_some; rows_some = omega arith; from = from; small = subst (λ r. r * s.cols ≤ area) (sym rows_are) (div-mul-le_self area s.cols) }

pub step_covers : (area rows : ℕ) (s : Size) → 1 ≤ rows → s.cols ≡ area / rows → (t : Size) → IsSize t → area_of t ≤ area → rows ≤ t.rows → t.rows ≤ s.rows → FitsInside t s
step_covers area rows s some cols t kept small more most = record { rows = most; cols = subst (λ c. t.cols ≤ c) (sym cols) (few_cols area rows t some small more) }

pub step_is : (area rows : ℕ) (s : Size) → 1 ≤ rows → rows ≤ area → area ≤ 1048576 → s.cols ≡ area / rows → s.rows ≡ area / s.cols → IsStep area s
step_is area rows s some within few cols rows_are =
    let next = next_is area rows s some within cols rows_are in
    let next_small = next.small in
    record {
      kept = record { some_rows = next.rows_some; some_cols = next.cols_some; few = omega arith };
      small = next.small;
      largest = λ t kept small fits.
          let from = next.from in
          let wide = fits.cols in
          let high = fits.rows in
          let no_higher : t.rows ≤ s.rows = subst (λ r. t.rows ≤ r) (sym rows_are) (few_rows area s.cols t next.cols_some small fits.cols) in
          let no_wider : t.cols ≤ s.cols = subst (λ c. t.cols ≤ c) (sym cols) (few_cols area rows t some small (omega arith)) in
          size_eq t s (omega arith) (omega arith);
    }

-- ---- what a list holds
fits_both : (s t u : Size) → FitsInside s t → FitsInside t u → FitsInside s u
fits_both s t u h k = record { rows = (let a = h.rows in let b = k.rows in omega arith); cols = (let a = h.cols in let b = k.cols in omega arith) }

held_smaller : (members : List Size) (s t : Size) → FitsInside s t → IsHeld members t → IsHeld members s
held_smaller members s t fits h = (h.0, h.1, h.2, h.3, fits_both s t h.1 fits h.4)

-- each shape of smaller area with fewer rows is held
abbrev pub IsCoveredTo : List Size → ℕ → ℕ → Type 0
IsCoveredTo members area rows = (s : Size) → IsSize s → area_of s < area → s.rows < rows → IsHeld members s

pub covered_more : (members : List Size) (area rows : ℕ) (step : Size) → 1 ≤ area → IsCoveredTo members area rows → ((t : Size) → IsSize t → area_of t ≤ area - 1 → rows ≤ t.rows → t.rows ≤ step.rows → FitsInside t step) → IsHeld members step
    → IsCoveredTo members area (step.rows + 1)
covered_more members area rows step some before covers held s kept small fewer = elim (cases_lt s.rows rows) [
  | inl less ↦ before s kept small less
  | inr more ↦ held_smaller members s step (covers s kept (omega arith) more (omega arith)) held
]

-- a shape has no more rows than cells
rows_within : (s : Size) → IsSize s → s.rows ≤ area_of s
rows_within s kept = let some = kept.some_cols in let product = mul-le s.rows 1 s.rows s.cols (omega arith) some in omega arith

pub covered_whole : (members : List Size) (area rows : ℕ) → area ≤ rows → IsCoveredTo members area rows → IsCoveredBelow members area
covered_whole members area rows past h s kept small = let few = rows_within s kept in h s kept small (omega arith)

pub not_covered : (members : List Size) (area : ℕ) (step : Size) → 1 ≤ area → IsStep (area - 1) step → (IsHeld members step → ⊥) → IsCoveredBelow members area → ⊥
not_covered members area step some is none covered = let small = is.small in none (covered step is.kept (omega arith))

-- ---- the stair
-- the list has exactly the steps with fewer rows
pub record IsStairTo (area rows : ℕ) (shapes : List Size) : Type 0 where
  pub some : 1 ≤ rows
  pub few : rows ≤ area + 1
  pub steps : (s : Size) → Contains shapes s ↔ (IsStep area s × (s.rows < rows))
  pub rises : (i j : ℕ) (d : Size) → i < j → j < length shapes → (get_or shapes i d).rows < (get_or shapes j d).rows

pub stair_begun : (area : ℕ) (shapes : List Size) → shapes ≡ [] → IsStairTo area 1 shapes
stair_begun area shapes none = subst (IsStairTo area 1) (sym none) (record {
  some = omega arith;
  few = omega arith;
  steps = λ s. (λ here. (let within = here.1 in absurd (omega arith)), λ h. (let some = h.0.kept.some_rows in let few = h.1 in absurd (omega arith)));
  rises = λ i j d less within. absurd (omega arith);
})

pub stair_more : (area rows : ℕ) (shapes new : List Size) (step : Size) → IsStairTo area rows shapes → IsStep area step → rows ≤ step.rows → ((t : Size) → IsSize t → area_of t ≤ area → rows ≤ t.rows → t.rows ≤ step.rows → FitsInside t step)
    → new ≡ shapes ++ step ∷ [] → IsStairTo area (step.rows + 1) new
stair_more area rows shapes new step h is from covers pushed = subst (IsStairTo area (step.rows + 1)) (sym pushed) (record {
  some = omega arith;
  few = (let few = rows_within step is.kept in let small = is.small in omega arith);
  steps = λ s. (
    λ here. elim (Contains-push_cases shapes step s here) [
      | inl before ↦ let k = (h.steps s).0 before in (k.0, (let less = k.1 in omega arith))
      | inr e ↦ (subst (IsStep area) e is, (let rows_are = ap (λ z. z.rows) e in omega arith))
    ],
    λ k. elim (cases_lt s.rows rows) [
      | inl less ↦ Contains-append_left shapes (step ∷ []) s ((h.steps s).1 (k.0, less))
      | inr more ↦
          let less = k.1 in
          let same : step ≡ s = k.0.largest step is.kept is.small (covers s k.0.kept k.0.small more (omega arith)) in
          subst (Contains (shapes ++ step ∷ [])) same (Contains-push shapes step)
    ],
  );
  rises = λ i j d less within.
      let long = length-append shapes (step ∷ []) in
      let first : get_or (shapes ++ step ∷ []) i d ≡ get_or shapes i d = get_or_append_left shapes (step ∷ []) d i (omega arith) in
      subst (λ s. s.rows < (get_or (shapes ++ step ∷ []) j d).rows) (sym first) (elim (cases_lt j (length shapes)) [
        | inl inside ↦ subst (λ s. (get_or shapes i d).rows < s.rows) (sym (get_or_append_left shapes (step ∷ []) d j inside)) (h.rises i j d less inside)
        | inr last ↦
            let at : j ≡ length shapes + 0 = omega arith in
            let end : get_or (shapes ++ step ∷ []) j d ≡ step = (ap (λ k. get_or (shapes ++ step ∷ []) k d) at) ∙ get_or-append-add shapes (step ∷ []) 0 d in
            let before = ((h.steps (get_or shapes i d)).0 (Contains-get_or shapes i d (omega arith))).1 in
            subst (λ s. (get_or shapes i d).rows < s.rows) (sym end) (omega arith)
      ]);
})

pub stair_whole : (area rows : ℕ) (shapes : List Size) → area < rows → IsStairTo area rows shapes → IsStair area shapes
stair_whole area rows shapes past h = record {
  steps = λ s. (
    λ here. ((h.steps s).0 here).0,
    λ is. (let few = rows_within s is.kept in let small = is.small in (h.steps s).1 (is, omega arith)),
  );
  rises = h.rises;
}

-- each shape of at most the area fits inside a step
step_around : (area : ℕ) (s : Size) → area ≤ 1048576 → IsSize s → area_of s ≤ area → (t : Size) × IsStep area t × FitsInside s t
step_around area s few kept small =
    let rows_few = rows_within s kept in
    let t : Size = record { rows = area / (area / s.rows); cols = area / s.rows } in
    let within : s.rows ≤ area = omega (arith, rows_few, small) in (
      t,
      step_is area s.rows t kept.some_rows within few refl refl,
      record { rows = (next_is area s.rows t kept.some_rows within refl refl).from; cols = few_cols area s.rows s kept.some_rows small (omega arith) },
    )

pub stair_covers : (area : ℕ) (shapes : List Size) → area ≤ 1048576 → IsStair area shapes → IsCoveredBelow shapes (area + 1)
stair_covers area shapes few stair s kept small =
    let t = step_around area s few kept (omega (arith, small)) in
    let c = (stair.steps t.0).1 t.1 in
    (c.0, t.0, c.1, c.2, t.2)
