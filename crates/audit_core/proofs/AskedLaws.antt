-- What is kept of sections tells what answers ask of the parts.
use Rattle.std.proofs.Common.{◌≡◌, ◌↔◌, ℕ, suc, zero, ◌+◌, ◌<◌, List, [], ◌∷◌, ◌++◌, length, drop, get_or, refl, sym, ap, ◌∙◌, subst, arith, inl, inr, ◌⊎◌, Bool}
use Rattle.std.specs.Prelude.{Any, IsTrue}
use Rattle.std.specs.List.{Contains}
use Rattle.std.proofs.lemmas.List.{drop_more}
use Rattle.lattice_grid.specs.Defects.{Defects}
use Rattle.lattice_grid.specs.Rectangle.{Size}
use Rattle.report_text.specs.Report.{BlockParts}
use Rattle.report_text.specs.declared.answer.Proof.{Proof}
use Rattle.journal_text.specs.Good.{Lists, ListsFirst}
use Rattle.journal_text.specs.Parts.{Section, Part, Question, Answered}
use Rattle.journal_text.specs.Proved.{HasWhole, HasMarked}
use Rattle.journal_text.specs.declared.target.Close.{Close}
use Rattle.journal_text.specs.declared.target.Close.TheVariants.{Refuted}
use Rattle.audit_core.specs.Bare.{asked_of, asked_in, bare, told_of, ListsAsked, ListsFirstAsked}
use Rattle.audit_core.specs.Sought.{IsWholeOf, IsMarkedOf, IsSizedOf}
use Rattle.audit_core.specs.declared.asked.Asked.{Asked}
use Rattle.audit_core.proofs.SoughtLaws.{Has, Any_head, Any_later, Any_cases, Any_none, first_in, later_in, no_cons, head_of, Decidable}

-- ---- one more part

pub asked_question : (before : List Part) (s : Section) → asked_in (before ++ Question s ∷ []) ≡ asked_in before ++ asked_of s ∷ []
asked_question [] s = refl
asked_question (Question t ∷ before) s = ap (λ l. asked_of t ∷ l) (asked_question before s)
asked_question (Answered block ∷ before) s = asked_question before s

pub asked_answered : (before : List Part) (block : BlockParts) → asked_in (before ++ Answered block ∷ []) ≡ asked_in before
asked_answered [] block = refl
asked_answered (Question t ∷ before) block = ap (λ l. asked_of t ∷ l) (asked_answered before block)
asked_answered (Answered other ∷ before) block = asked_answered before block

-- ---- a section that is sought

answer_section : (P : Section → Type 0) (parts : List Part) (p : Part) → ((s : Section) → p ≡ Question s → ⊥) → Has (p ∷ parts) P → Has parts P
answer_section P parts p not h = by h.is_in where
  by : Contains (p ∷ parts) (Question h.section) → Has parts P
  by (zero, w, e) = absurd (not h.section e)
  by (suc k, w, e) = record { section = h.section; is_in = (k, omega (arith, w), e); holds = h.holds }

same_section : (s t : Section) → Question s ≡ Question t → s ≡ t
same_section s t e = cc

other_section : (P : Section → Type 0) (parts : List Part) (s : Section) → Has (Question s ∷ parts) P → P s ⊎ Has parts P
other_section P parts s h = by h.is_in where
  by : Contains (Question s ∷ parts) (Question h.section) → P s ⊎ Has parts P
  by (zero, w, e) = inl (subst P (sym (same_section s h.section e)) h.holds)
  by (suc k, w, e) = inr (record { section = h.section; is_in = (k, omega (arith, w), e); holds = h.holds })

pub any_asked : (P : Asked → Type 0) (before : List Part) → Any P (asked_in before) ↔ Has before (λ s. P (asked_of s))
any_asked P [] = (λ h. absurd (Any_none P h), λ h. let w = h.is_in.1 in absurd (omega (arith, w)))
any_asked P (Answered block ∷ parts) =
    let more = any_asked P parts in (
      λ h. let m = more.0 h in record { section = m.section; is_in = later_in (Answered block) parts (Question m.section) m.is_in; holds = m.holds },
      λ h. more.1 (answer_section (λ s. P (asked_of s)) parts (Answered block) (λ s e. cc) h),
    )
any_asked P (Question s ∷ parts) =
    let more = any_asked P parts in (
      λ h. elim (Any_cases P (asked_of s) (asked_in parts) h) [
        | inl p ↦ record { section = s; is_in = first_in (Question s) parts; holds = p }
        | inr k ↦ let m = more.0 k in record { section = m.section; is_in = later_in (Question s) parts (Question m.section) m.is_in; holds = m.holds }
      ],
      λ h. elim (other_section (λ t. P (asked_of t)) parts s h) [
        | inl p ↦ Any_head P (asked_of s) (asked_in parts) p
        | inr k ↦ Any_later P (asked_of s) (asked_in parts) (more.1 k)
      ],
    )

pub both : {A B C : Type 0} → A ↔ B → B ↔ C → A ↔ C
both p q = (λ a. q.0 (p.0 a), λ c. p.1 (q.1 c))

module _ (asked : List Asked) (before : List Part) (is : asked ≡ asked_in before) (output : ℕ) (close : Close) where
  pub whole_asked : (size : Size) → Any (λ a. IsSizedOf output size close (bare a)) asked ↔ HasWhole before output size (λ q. q.close ≡ close)
  whole_asked size =
      let some = any_asked (λ a. IsSizedOf output size close (bare a)) before in (
        λ h. let s = some.0 (subst (Any (λ a. IsSizedOf output size close (bare a))) is h) in
            record { section = s.section; is_in = s.is_in; of_output = s.holds.whole.of_output; size_is = s.holds.size_is; no_array = s.holds.whole.no_array; holds = s.holds.whole.closes },
        λ h. subst (Any (λ a. IsSizedOf output size close (bare a))) (sym is)
            (some.1 (record { section = h.section; is_in = h.is_in; holds = record { whole = record { of_output = h.of_output; no_array = h.no_array; closes = h.holds }; size_is = h.size_is } })),
      )

  pub marked_asked : (array : Defects) → Any (λ a. IsMarkedOf output array close (bare a)) asked ↔ HasMarked before output array (λ q. q.close ≡ close)
  marked_asked array =
      let some = any_asked (λ a. IsMarkedOf output array close (bare a)) before in (
        λ h. let s = some.0 (subst (Any (λ a. IsMarkedOf output array close (bare a))) is h) in
            record { section = s.section; is_in = s.is_in; of_output = s.holds.of_output; array_is = s.holds.array_is; holds = s.holds.closes },
        λ h. subst (Any (λ a. IsMarkedOf output array close (bare a))) (sym is)
            (some.1 (record { section = h.section; is_in = h.is_in; holds = record { of_output = h.of_output; array_is = h.array_is; closes = h.holds } })),
      )

-- ---- lists of proofs

lists_asked : (Counts : Section → Type 0) → ((s : Section) → Counts s ↔ Counts (bare (asked_of s))) → (before : List Part) (proofs : List Proof) → ListsAsked Counts (asked_in before) proofs ↔ Lists Counts before proofs
lists_asked Counts same [] proofs = (λ h. h, λ h. h)
lists_asked Counts same (Answered block ∷ parts) proofs = lists_asked Counts same parts proofs
lists_asked Counts same (Question s ∷ parts) proofs = (
  λ h. elim h [ inl k ↦ inl ((same s).1 k.0, k.1, k.2, (lists_asked Counts same parts k.1).0 k.3) | inr k ↦ inr (λ c. k.0 ((same s).0 c), (lists_asked Counts same parts proofs).0 k.1) ],
  λ h. elim h [ inl k ↦ inl ((same s).0 k.0, k.1, k.2, (lists_asked Counts same parts k.1).1 k.3) | inr k ↦ inr (λ c. k.0 ((same s).1 c), (lists_asked Counts same parts proofs).1 k.1) ],
)

whole_bare : (output : ℕ) (close : Close) (s : Section) → IsWholeOf output close s ↔ IsWholeOf output close (bare (asked_of s))
whole_bare output close s = (
  λ h. record { of_output = h.of_output; no_array = h.no_array; closes = h.closes },
  λ h. record { of_output = h.of_output; no_array = h.no_array; closes = h.closes },
)

marked_bare : (output : ℕ) (array : Defects) (close : Close) (s : Section) → IsMarkedOf output array close s ↔ IsMarkedOf output array close (bare (asked_of s))
marked_bare output array close s = (
  λ h. record { of_output = h.of_output; array_is = h.array_is; closes = h.closes },
  λ h. record { of_output = h.of_output; array_is = h.array_is; closes = h.closes },
)

module _ (asked : List Asked) (before : List Part) (is : asked ≡ asked_in before) (output : ℕ) (proofs : List Proof) where
  pub lists_whole_asked : ListsAsked (IsWholeOf output Refuted) asked proofs ↔ Lists (IsWholeOf output Refuted) before proofs
  lists_whole_asked =
      let so = lists_asked (IsWholeOf output Refuted) (whole_bare output Refuted) before proofs in
      (λ h. so.0 (subst (λ l. ListsAsked (IsWholeOf output Refuted) l proofs) is h), λ h. subst (λ l. ListsAsked (IsWholeOf output Refuted) l proofs) (sym is) (so.1 h))

  pub lists_marked_asked : (array : Defects) → ListsFirstAsked (IsMarkedOf output array Refuted) asked proofs ↔ ListsFirst (IsMarkedOf output array Refuted) before proofs
  lists_marked_asked array = (
    λ h. record {
      proof = h.proof;
      later = h.later;
      all = (lists_asked (IsMarkedOf output array Refuted) (marked_bare output array Refuted) before (h.proof ∷ h.later)).0 (subst (λ l. ListsAsked (IsMarkedOf output array Refuted) l (h.proof ∷ h.later)) is h.all);
      one = h.one;
    },
    λ h. record {
      proof = h.proof;
      later = h.later;
      all = subst (λ l. ListsAsked (IsMarkedOf output array Refuted) l (h.proof ∷ h.later)) (sym is) ((lists_asked (IsMarkedOf output array Refuted) (marked_bare output array Refuted) before (h.proof ∷ h.later)).1 h.all);
      one = h.one;
    },
  )

-- ---- the first of them

some_list : (Counts : Section → Type 0) → Decidable Counts → (asked : List Asked) → (proofs : List Proof) × ListsAsked Counts asked proofs
some_list Counts decide [] = ([], refl)
some_list Counts decide (a ∷ asked) =
    let more = some_list Counts decide asked in
    elim (decide (bare a)) [ inl c ↦ (told_of a ∷ more.0, inl (c, more.0, refl, more.1)) | inr not ↦ (more.0, inr (not, more.1)) ]

skip : (Counts : Section → Type 0) (a : Asked) (asked : List Asked) (proofs : List Proof) → (Counts (bare a) → ⊥) → ListsAsked Counts (a ∷ asked) proofs ↔ ListsAsked Counts asked proofs
skip Counts a asked proofs not = (λ h. elim h [ inl k ↦ absurd (not k.0) | inr k ↦ k.1 ], λ h. inr (not, h))

first_skip : (Counts : Section → Type 0) (a : Asked) (asked : List Asked) (proofs : List Proof) → (Counts (bare a) → ⊥) → ListsFirstAsked Counts (a ∷ asked) proofs ↔ ListsFirstAsked Counts asked proofs
first_skip Counts a asked proofs not = (
  λ h. record { proof = h.proof; later = h.later; all = (skip Counts a asked (h.proof ∷ h.later) not).0 h.all; one = h.one },
  λ h. record { proof = h.proof; later = h.later; all = (skip Counts a asked (h.proof ∷ h.later) not).1 h.all; one = h.one },
)

first_told : (Counts : Section → Type 0) (a : Asked) (asked : List Asked) (proof : Proof) (later : List Proof) → Counts (bare a) → ListsAsked Counts (a ∷ asked) (proof ∷ later) → proof ≡ told_of a
first_told Counts a asked proof later counts h = elim h [ inl k ↦ head_of proof (told_of a) later k.1 k.2 | inr k ↦ absurd (k.0 counts) ]

first_is : (Counts : Section → Type 0) → Decidable Counts → (a : Asked) (asked : List Asked) (proofs : List Proof) → Counts (bare a) → (proofs ≡ told_of a ∷ []) ↔ ListsFirstAsked Counts (a ∷ asked) proofs
first_is Counts decide a asked proofs counts = (
  λ e. let more = some_list Counts decide asked in record { proof = told_of a; later = more.0; all = inl (counts, more.0, refl, more.1); one = e },
  λ h. h.one ∙ ap (λ p. p ∷ []) (first_told Counts a asked h.proof h.later counts h.all),
)

pub first_none : (Counts : Section → Type 0) (proofs : List Proof) → ListsFirstAsked Counts [] proofs → ⊥
first_none Counts proofs h = no_cons h.proof h.later (sym h.all)

-- W: what is asked of the whole list
module _ (W : Type 0) (Counts : Section → Type 0) (asked : List Asked) (i : ℕ) (a : Asked) (within : i < length asked) (is : a ≡ get_or asked i a) (proofs : List Proof)
    (so : W ↔ ListsFirstAsked Counts (drop i asked) proofs) where
  first_here : W ↔ ListsFirstAsked Counts (a ∷ drop (i + 1) asked) proofs
  first_here = subst (λ l. W ↔ ListsFirstAsked Counts l proofs) (drop_more asked i a within ∙ ap (λ b. b ∷ drop (i + 1) asked) (sym is)) so

  pub first_passed : (Counts (bare a) → ⊥) → W ↔ ListsFirstAsked Counts (drop (i + 1) asked) proofs
  first_passed not = both first_here (first_skip Counts a (drop (i + 1) asked) proofs not)

  pub first_found : (t : Bool) → Decidable Counts → Counts (bare a) → IsTrue t ↔ (proofs ≡ told_of a ∷ []) → IsTrue t ↔ W
  first_found t decide counts only =
      let first = first_is Counts decide a (drop (i + 1) asked) proofs counts in
      both only (both first (first_here.1, first_here.0))
