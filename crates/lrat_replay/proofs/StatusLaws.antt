-- What a status tells of the literals of its clause, and how to show a status.
use Rattle.std.proofs.Common.{◌≡◌, true, false, cond, ◌||◌, List, [], ◌∷◌, ◌⊎◌, inl, inr, refl, ap, sym, ◌∙◌, subst, ◌↔◌}
use Rattle.std.proofs.lemmas.Bool.{cases_Bool, or_cases, or_parts, or_from, and_parts, and_from, and_cases, true≢false, cond-true, cond-false, both_ways}
use Rattle.lrat_replay.specs.declared.status.Status.{Status}
use Rattle.lrat_replay.specs.declared.status.Status.TheVariants.{Satisfied, Unresolved, Forces, Conflict}
use Rattle.clause_core.specs.Literal.{Literal, flip, same, has}
use Rattle.clause_core.proofs.Tools.{same-true, same-at, has-first, has-rest, has-cases}
use Rattle.lrat_replay.specs.Status.{IsSatisfied, IsUnresolved, HasTwoNotFalse, Rests, IsUnit, IsConflict, Known, some_known, without_value, all_same, status_by, status}

module _ (known : Known) where
  some_known-true : (c : List Literal) → some_known known c ≡ true → IsSatisfied known c
  some_known-true [] h = absurd (cc)
  some_known-true (x ∷ xs) h = elim (or_cases (known x) (some_known known xs) h) [
    | inl e ↦ record { lit = x; is_in = has-first x xs; is_known = e }
    | inr e ↦ let r = some_known-true xs e in record { lit = r.lit; is_in = has-rest x r.lit xs r.is_in; is_known = r.is_known }
  ]

  some_known-false : (c : List Literal) → some_known known c ≡ false → (l : Literal) → has c l ≡ true → known l ≡ false
  some_known-false [] h l m = absurd (cc)
  some_known-false (x ∷ xs) h l m = let p = or_parts (known x) (some_known known xs) h in elim (has-cases x l xs m) [
    | inl e ↦ ap known (sym e) ∙ p.0
    | inr e ↦ some_known-false xs p.1 l e
  ]

  no_known : (c : List Literal) → ((l : Literal) → has c l ≡ true → known l ≡ false) → some_known known c ≡ false
  no_known [] h = refl
  no_known (x ∷ xs) h = or_from (known x) (some_known known xs) (h x (has-first x xs)) (no_known xs (λ l m. h l (has-rest x l xs m)))

  -- a literal has no value exactly where it is in the list of those
  value_cases : (x l : Literal) (xs : List Literal) → has (without_value known (x ∷ xs)) l ≡ true → ((x ≡ l) × ((known x || known (flip x)) ≡ false)) ⊎ (has (without_value known xs) l ≡ true)
  value_cases x l xs = elim (known x || known (flip x)) as (λ b. has (cond b (without_value known xs) (x ∷ without_value known xs)) l ≡ true → ((x ≡ l) × (b ≡ false)) ⊎ (has (without_value known xs) l ≡ true)) [
    | true ↦ λ h. inr h
    | false ↦ λ h. elim (has-cases x l (without_value known xs) h) [ inl e ↦ inl (e, refl) | inr e ↦ inr e ]
  ]

  without_value-has : (c : List Literal) (l : Literal) → has (without_value known c) l ≡ true → (has c l ≡ true) × ((known l || known (flip l)) ≡ false)
  without_value-has [] l h = absurd (cc)
  without_value-has (x ∷ xs) l h = elim (value_cases x l xs h) [
    | inl e ↦ (subst (λ y. has (x ∷ xs) y ≡ true) e.0 (has-first x xs), subst (λ y. (known y || known (flip y)) ≡ false) e.0 e.1)
    | inr e ↦ let r = without_value-has xs l e in (has-rest x l xs r.0, r.1)
  ]

  value_keeps : (x l : Literal) (xs : List Literal) → (has (without_value known xs) l ≡ true) ⊎ ((x ≡ l) × ((known x || known (flip x)) ≡ false)) → has (without_value known (x ∷ xs)) l ≡ true
  value_keeps x l xs = elim (known x || known (flip x)) as (λ b. (has (without_value known xs) l ≡ true) ⊎ ((x ≡ l) × (b ≡ false)) → has (cond b (without_value known xs) (x ∷ without_value known xs)) l ≡ true) [
    | true ↦ λ h. elim h [ inl e ↦ e | inr e ↦ absurd (true≢false e.1) ]
    | false ↦ λ h. elim h [ inl e ↦ has-rest x l (without_value known xs) e | inr e ↦ subst (λ y. has (x ∷ without_value known xs) y ≡ true) e.0 (has-first x (without_value known xs)) ]
  ]

  has-without_value : (c : List Literal) (l : Literal) → has c l ≡ true → (known l || known (flip l)) ≡ false → has (without_value known c) l ≡ true
  has-without_value [] l m h = absurd (cc)
  has-without_value (x ∷ xs) l m h = elim (has-cases x l xs m) [
    | inl e ↦ value_keeps x l xs (inr (e, subst (λ y. (known y || known (flip y)) ≡ false) (sym e) h))
    | inr e ↦ value_keeps x l xs (inl (has-without_value xs l e h))
  ]

  -- what a list comes to by which literals it has
  all_same-each : (x : Literal) (xs : List Literal) → all_same x xs ≡ true → (l : Literal) → has xs l ≡ true → x ≡ l
  all_same-each x [] h l m = absurd (cc)
  all_same-each x (y ∷ ys) h l m = let p = and_parts (same x y) (all_same x ys) h in elim (has-cases y l ys m) [
    | inl e ↦ same-true x y p.0 ∙ e
    | inr e ↦ all_same-each x ys p.1 l e
  ]

  each-all_same : (x : Literal) (xs : List Literal) → ((l : Literal) → has xs l ≡ true → x ≡ l) → all_same x xs ≡ true
  each-all_same x [] h = refl
  each-all_same x (y ∷ ys) h = and_from (same x y) (all_same x ys) (same-at x y (h y (has-first y ys))) (each-all_same x ys (λ l m. h l (has-rest y l ys m)))

  not_all_same : (x : Literal) (xs : List Literal) → all_same x xs ≡ false → (l : Literal) × (has xs l ≡ true) × (x ≡ l → ⊥)
  not_all_same x [] h = absurd (cc)
  not_all_same x (y ∷ ys) h = elim (and_cases (same x y) (all_same x ys) h) [
    | inl e ↦ (y, has-first y ys, λ q. both_ways (same x y) e (same-at x y q))
    | inr e ↦ let r = not_all_same x ys e in (r.0, has-rest y r.0 ys r.1, r.2)
  ]

  -- a value, or none
  pub valued : (l : Literal) → (known l || known (flip l)) ≡ true → known l ≡ false → known (flip l) ≡ true
  valued l h n = elim (or_cases (known l) (known (flip l)) h) [ inl e ↦ absurd (both_ways (known l) n e) | inr e ↦ e ]

  by_open : (c rest : List Literal) → without_value known c ≡ rest → some_known known c ≡ false → (u : Literal) → status_by rest ≡ Forces u → IsUnit known c u
  by_open c [] e s u = λ h. absurd (cc)
  by_open c (x ∷ xs) e s u = elim (cases_Bool (all_same x xs)) [
    | inl a ↦ λ h.
        let first : x ≡ u = (let k : Forces x ≡ Forces u = sym (cond-true (all_same x xs) (Forces x) Unresolved a) ∙ h in cc) in
        let here : has (without_value known c) u ≡ true = subst (λ o. has o u ≡ true) (sym e) (subst (λ y. has (x ∷ xs) y ≡ true) first (has-first x xs)) in
        let r = without_value-has c u here in
        let p = or_parts (known u) (known (flip u)) r.1 in
        let none = some_known-false c s in
        record {
          is_in = r.0;
          unknown = p.0;
          flip_unknown = p.1;
          others = λ l m. elim (cases_Bool (known l || known (flip l))) [
            | inl v ↦ inr (valued l v (none l m))
            | inr v ↦ inl (sym first ∙ elim (has-cases x l xs (subst (λ o. has o l ≡ true) e (has-without_value c l m v))) [ inl q ↦ q | inr q ↦ all_same-each x xs a l q ])
          ];
          none = none;
        }
    | inr a ↦ λ h. let k : Unresolved ≡ Forces u = sym (cond-false (all_same x xs) (Forces x) Unresolved a) ∙ h in absurd (cc)
  ]

  clash_open : (c rest : List Literal) → without_value known c ≡ rest → some_known known c ≡ false → status_by rest ≡ Conflict → IsConflict known c
  clash_open c [] e s = λ h. let none = some_known-false c s in record {
    all = λ l m. elim (cases_Bool (known l || known (flip l))) [
      | inl v ↦ valued l v (none l m)
      | inr v ↦ let k : has [] l ≡ true = subst (λ o. has o l ≡ true) e (has-without_value c l m v) in absurd (true≢false (sym k))
    ];
    none = none;
  }
  clash_open c (x ∷ xs) e s = elim (cases_Bool (all_same x xs)) [
    | inl a ↦ λ h. let k : Forces x ≡ Conflict = sym (cond-true (all_same x xs) (Forces x) Unresolved a) ∙ h in absurd (cc)
    | inr a ↦ λ h. let k : Unresolved ≡ Conflict = sym (cond-false (all_same x xs) (Forces x) Unresolved a) ∙ h in absurd (cc)
  ]

  status_unsatisfied : (c : List Literal) → some_known known c ≡ false → status known c ≡ status_by (without_value known c)
  unfolding status
  status_unsatisfied c s = cond-false (some_known known c) Satisfied (status_by (without_value known c)) s

  status_satisfied : (c : List Literal) → some_known known c ≡ true → status known c ≡ Satisfied
  unfolding status
  status_satisfied c s = cond-true (some_known known c) Satisfied (status_by (without_value known c)) s

  pub forces-is : (c : List Literal) (u : Literal) → status known c ≡ Forces u → IsUnit known c u
  forces-is c u h = elim (cases_Bool (some_known known c)) [
    | inl s ↦ let k : Satisfied ≡ Forces u = sym (status_satisfied c s) ∙ h in absurd (cc)
    | inr s ↦ by_open c (without_value known c) refl s u (sym (status_unsatisfied c s) ∙ h)
  ]

  pub conflict-is : (c : List Literal) → status known c ≡ Conflict → IsConflict known c
  conflict-is c h = elim (cases_Bool (some_known known c)) [
    | inl s ↦ let k : Satisfied ≡ Conflict = sym (status_satisfied c s) ∙ h in absurd (cc)
    | inr s ↦ clash_open c (without_value known c) refl s (sym (status_unsatisfied c s) ∙ h)
  ]

  -- the other way
  open_clash : (c : List Literal) → IsConflict known c → (rest : List Literal) → without_value known c ≡ rest → status_by rest ≡ Conflict
  open_clash c h [] e = refl
  open_clash c h (x ∷ xs) e =
      let here : has (without_value known c) x ≡ true = subst (λ o. has o x ≡ true) (sym e) (has-first x xs) in
      let r = without_value-has c x here in
      absurd (both_ways (known (flip x)) (or_parts (known x) (known (flip x)) r.1).1 (h.all x r.0))

  pub is-conflict : (c : List Literal) → IsConflict known c → status known c ≡ Conflict
  is-conflict c h = status_unsatisfied c (no_known c h.none) ∙ open_clash c h (without_value known c) refl

  open_forced : (c : List Literal) (u : Literal) → IsUnit known c u → (rest : List Literal) → without_value known c ≡ rest → status_by rest ≡ Forces u
  open_forced c u h [] e =
      let here : has [] u ≡ true = subst (λ o. has o u ≡ true) e (has-without_value c u h.is_in (or_from (known u) (known (flip u)) h.unknown h.flip_unknown)) in
      absurd (true≢false (sym here))
  open_forced c u h (x ∷ xs) e =
      let each : (l : Literal) → has (x ∷ xs) l ≡ true → u ≡ l = λ l m.
      let r = without_value-has c l (subst (λ o. has o l ≡ true) (sym e) m) in
      elim (h.others l r.0) [ inl q ↦ q | inr q ↦ absurd (both_ways (known (flip l)) (or_parts (known l) (known (flip l)) r.1).1 q) ] in
      let first : u ≡ x = each x (has-first x xs) in
      cond-true (all_same x xs) (Forces x) Unresolved (each-all_same x xs (λ l m. sym first ∙ each l (has-rest x l xs m))) ∙ ap Forces (sym first)

  pub is-forces : (c : List Literal) (u : Literal) → IsUnit known c u → status known c ≡ Forces u
  is-forces c u h = status_unsatisfied c (no_known c h.none) ∙ open_forced c u h (without_value known c) refl

  -- what rests, read off the status
  pub satisfied-is : (c : List Literal) → status known c ≡ Satisfied → IsSatisfied known c
  satisfied-is c h = elim (cases_Bool (some_known known c)) [
    | inl s ↦ some_known-true c s
    | inr s ↦ absurd (not_settled (without_value known c) (sym (status_unsatisfied c s) ∙ h))
  ] where
    not_settled : (rest : List Literal) → status_by rest ≡ Satisfied → ⊥
    not_settled [] = λ h. cc
    not_settled (x ∷ xs) = elim (all_same x xs) as (λ b. cond b (Forces x) Unresolved ≡ Satisfied → ⊥) [ true ↦ λ h. cc | false ↦ λ h. cc ]

  wide_open : (c rest : List Literal) → without_value known c ≡ rest → status_by rest ≡ Unresolved → HasTwoNotFalse known c
  wide_open c [] e = λ h. absurd (cc)
  wide_open c (x ∷ xs) e = elim (cases_Bool (all_same x xs)) [
    | inl a ↦ λ h. let k : Forces x ≡ Unresolved = sym (cond-true (all_same x xs) (Forces x) Unresolved a) ∙ h in absurd (cc)
    | inr a ↦ λ h.
        let other = not_all_same x xs a in
        let first = without_value-has c x (subst (λ o. has o x ≡ true) (sym e) (has-first x xs)) in
        let second = without_value-has c other.0 (subst (λ o. has o other.0 ≡ true) (sym e) (has-rest x other.0 xs other.1)) in
        record {
          one = x;
          two = other.0;
          one_in = first.0;
          two_in = second.0;
          apart = other.2;
          one_unknown = (or_parts (known x) (known (flip x)) first.1).1;
          two_unknown = (or_parts (known other.0) (known (flip other.0)) second.1).1;
        }
  ]

  pub unresolved-is : (c : List Literal) → status known c ≡ Unresolved → HasTwoNotFalse known c
  unresolved-is c h = elim (cases_Bool (some_known known c)) [
    | inl s ↦ let k : Satisfied ≡ Unresolved = sym (status_satisfied c s) ∙ h in absurd (cc)
    | inr s ↦ wide_open c (without_value known c) refl (sym (status_unsatisfied c s) ∙ h)
  ]

  open_wide : (c rest : List Literal) → without_value known c ≡ rest → (a b : Literal) → has rest a ≡ true → has rest b ≡ true → (a ≡ b → ⊥) → status_by rest ≡ Unresolved
  open_wide c [] e a b h k apart = absurd (true≢false (sym h))
  open_wide c (x ∷ xs) e a b h k apart = elim (cases_Bool (all_same x xs)) [
    | inl s ↦ absurd (apart (sym (each_is x xs s a (has-cases x a xs h)) ∙ each_is x xs s b (has-cases x b xs k)))
    | inr s ↦ cond-false (all_same x xs) (Forces x) Unresolved s
  ] where
    each_is : (x : Literal) (xs : List Literal) → all_same x xs ≡ true → (l : Literal) → (x ≡ l) ⊎ (has xs l ≡ true) → x ≡ l
    each_is x xs s l (inl e) = e
    each_is x xs s l (inr e) = all_same-each x xs s l e

  pub rests-status : (c : List Literal) → Rests known c → (status known c ≡ Satisfied) ⊎ (status known c ≡ Unresolved)
  rests-status c r = elim (cases_Bool (some_known known c)) [
    | inl s ↦ inl (status_satisfied c s)
    | inr s ↦ elim r [
      | inl k ↦ absurd (both_ways (known k.lit) (some_known-false c s k.lit k.is_in) k.is_known)
      | inr w ↦ inr (status_unsatisfied c s ∙ open_wide c (without_value known c) refl w.one w.two
          (has-without_value c w.one w.one_in (or_from (known w.one) (known (flip w.one)) (some_known-false c s w.one w.one_in) w.one_unknown))
          (has-without_value c w.two w.two_in (or_from (known w.two) (known (flip w.two)) (some_known-false c s w.two w.two_in) w.two_unknown)) w.apart)
    ]
  ]

  -- each answer, in words of the clause's literals
  pub satisfied_told : (c : List Literal) (s : Status) → s ≡ status known c → (s ≡ Satisfied) ↔ IsSatisfied known c
  satisfied_told c s e = (
    λ h. satisfied-is c (sym e ∙ h),
    λ h. e ∙ elim (cases_Bool (some_known known c)) [
      | inl t ↦ status_satisfied c t
      | inr f ↦ absurd (both_ways (known h.lit) (some_known-false c f h.lit h.is_in) h.is_known)
    ],
  )

  none_known : (c : List Literal) → status known c ≡ Unresolved → (l : Literal) → has c l ≡ true → known l ≡ false
  none_known c e = elim (cases_Bool (some_known known c)) [
    | inl s ↦ let k : Satisfied ≡ Unresolved = sym (status_satisfied c s) ∙ e in absurd (cc)
    | inr s ↦ some_known-false c s
  ]

  is-unresolved : (c : List Literal) → IsUnresolved known c → status known c ≡ Unresolved
  is-unresolved c w = status_unsatisfied c (no_known c w.none) ∙ open_wide c (without_value known c) refl w.one w.two
      (has-without_value c w.one w.one_in (or_from (known w.one) (known (flip w.one)) (w.none w.one w.one_in) w.one_unknown))
      (has-without_value c w.two w.two_in (or_from (known w.two) (known (flip w.two)) (w.none w.two w.two_in) w.two_unknown)) w.apart

  pub unresolved_told : (c : List Literal) (s : Status) → s ≡ status known c → (s ≡ Unresolved) ↔ IsUnresolved known c
  unresolved_told c s e = (
    λ h. let k : status known c ≡ Unresolved = sym e ∙ h in let w = unresolved-is c k in record {
      none = none_known c k;
      one = w.one;
      two = w.two;
      one_in = w.one_in;
      two_in = w.two_in;
      apart = w.apart;
      one_unknown = w.one_unknown;
      two_unknown = w.two_unknown;
    },
    λ w. e ∙ is-unresolved c w,
  )

  pub unit_told : (c : List Literal) (s : Status) → s ≡ status known c → (u : Literal) → (s ≡ Forces u) ↔ IsUnit known c u
  unit_told c s e u = (λ h. forces-is c u (sym e ∙ h), λ h. e ∙ is-forces c u h)

  pub conflict_told : (c : List Literal) (s : Status) → s ≡ status known c → (s ≡ Conflict) ↔ IsConflict known c
  conflict_told c s e = (λ h. conflict-is c (sym e ∙ h), λ h. e ∙ is-conflict c h)
