-- Sections that are sought among parts.
use Rattle.std.proofs.Common.{◌≡◌, ◌↔◌, ℕ, suc, zero, ◌<◌, List, [], ◌∷◌, ◌++◌, length, get_or, drop, map, refl, sym, ap, ◌∙◌, subst, arith, inl, inr, ◌⊎◌, Some, Bool, true}
use Rattle.std.specs.Prelude.{Any, slice_index_or}
use Rattle.std.specs.List.{Contains}
use Rattle.std.proofs.lemmas.Bool.{cases_order}
use Rattle.std.proofs.lemmas.List.Elements.{Contains-append_left, Contains-push, Contains-push_cases}
use Rattle.lattice_grid.specs.Defects.{Defects}
use Rattle.lattice_grid.specs.Rectangle.{Size, FitsInside}
use Rattle.report_text.specs.declared.answer.Proof.{Proof}
use Rattle.shape_list.specs.Shapes.{IsCoveredBelow}
use Rattle.journal_text.specs.Good.{Lists, ListsFirst}
use Rattle.journal_text.specs.Parts.{Section, Part, Question, Answered, size_of, array_of}
use Rattle.journal_text.specs.Proved.{HasMarked}
use Rattle.journal_text.specs.declared.target.Close.{Close}
use Rattle.journal_text.specs.declared.target.Close.TheVariants.{Refuted, Spent, Satisfied}
use Rattle.journal_text.specs.declared.target.Target.{Target}
use Rattle.journal_text.specs.declared.target.Target.TheVariants.{Whole, Marked}
use Rattle.lattice_grid.specs.declared.array.Defect.{Defect}
use Rattle.lattice_grid.specs.declared.array.Defect.TheVariants.{Sound, StuckOpen, StuckClosed}
use Rattle.audit_core.specs.Audit.{IsExcluded, AreExcluded}
use Rattle.audit_core.specs.Sought.{IsWholeOf, IsMarkedOf, IsSection, proof_of, Keeps}

-- ---- some element

pub Any_head : {X : Type 0} (P : X → Type 0) (x : X) (xs : List X) → P x → Any P (x ∷ xs)
Any_head P x xs p = (0, x, omega arith, refl, p)

pub Any_later : {X : Type 0} (P : X → Type 0) (x : X) (xs : List X) → Any P xs → Any P (x ∷ xs)
Any_later P x xs (k, y, w, e, p) = (suc k, y, omega (arith, w), e, p)

pub Any_cases : {X : Type 0} (P : X → Type 0) (x : X) (xs : List X) → Any P (x ∷ xs) → P x ⊎ Any P xs
Any_cases P x xs (zero, y, w, e, p) = inl (subst P (sym e) p)
Any_cases P x xs (suc k, y, w, e, p) = inr (k, y, omega (arith, w), e, p)

pub Any_none : {X : Type 0} (P : X → Type 0) → Any P [] → ⊥
Any_none P (k, y, w, e, p) = absurd (omega (arith, w))

pub Any_map : {X Y : Type 0} (f : X → Y) (P : Y → Type 0) (xs : List X) → Any (λ x. P (f x)) xs ↔ Any P (map f xs)
Any_map f P [] = (λ h. absurd (Any_none (λ x. P (f x)) h), λ h. absurd (Any_none P h))
Any_map f P (x ∷ xs) =
    let more = Any_map f P xs in (
      λ h. elim (Any_cases (λ x. P (f x)) x xs h) [ inl p ↦ Any_head P (f x) (map f xs) p | inr k ↦ Any_later P (f x) (map f xs) (more.0 k) ],
      λ h. elim (Any_cases P (f x) (map f xs) h) [ inl p ↦ Any_head (λ x. P (f x)) x xs p | inr k ↦ Any_later (λ x. P (f x)) x xs (more.1 k) ],
    )

-- a section among the parts of which this holds
pub record Has (parts : List Part) (Holds : Section → Type 0) : Type 0 where
  pub section : Section
  pub is_in : Contains parts (Question section)
  pub holds : Holds section

section_at : (Holds : Section → Type 0) (p : Part) (parts : List Part) (k : ℕ) → k < length parts → slice_index_or parts k p ≡ p → IsSection Holds p → Has parts Holds
section_at Holds (Question s) parts k w e h = record { section = s; is_in = (k, w, e); holds = h }
section_at Holds (Answered block) parts k w e h = absurd h

pub some_section : (Holds : Section → Type 0) (parts : List Part) → Any (IsSection Holds) parts ↔ Has parts Holds
some_section Holds parts = (
  λ h. section_at Holds h.1 parts h.0 h.2 h.3 h.4,
  λ h. (h.is_in.0, Question h.section, h.is_in.1, h.is_in.2, h.holds),
)

pub has_marked_so : (parts : List Part) (output : ℕ) (array : Defects) (close : Close) → Any (IsSection (IsMarkedOf output array close)) parts ↔ HasMarked parts output array (λ q. q.close ≡ close)
has_marked_so parts output array close =
    let some = some_section (IsMarkedOf output array close) parts in (
      λ h. let s = some.0 h in record { section = s.section; is_in = s.is_in; of_output = s.holds.of_output; array_is = s.holds.array_is; holds = s.holds.closes },
      λ h. some.1 (record { section = h.section; is_in = h.is_in; holds = record { of_output = h.of_output; array_is = h.array_is; closes = h.holds } }),
    )

pub first_in : {X : Type 0} (x : X) (xs : List X) → Contains (x ∷ xs) x
first_in x xs = (0, omega arith, refl)

pub later_in : {X : Type 0} (y : X) (xs : List X) (x : X) → Contains xs x → Contains (y ∷ xs) x
later_in y xs x (k, w, e) = (suc k, omega (arith, w), e)

-- ---- lists of proofs

pub no_cons : {X : Type 0} (x : X) (xs : List X) → [] ≡ x ∷ xs → ⊥
no_cons x xs e = let n = ap length e in absurd (omega (arith, n))

pub lists_skip : (Counts : Section → Type 0) (p : Part) (parts : List Part) (proofs : List Proof) → (IsSection Counts p → ⊥) → Lists Counts (p ∷ parts) proofs ↔ Lists Counts parts proofs
lists_skip Counts (Question s) parts proofs not = (λ h. elim h [ inl k ↦ absurd (not k.0) | inr k ↦ k.1 ], λ h. inr (not, h))
lists_skip Counts (Answered block) parts proofs not = (λ h. h, λ h. h)

pub tail_of : {X : Type 0} (x y : X) (xs ys : List X) → x ∷ xs ≡ y ∷ ys → xs ≡ ys
tail_of x y xs ys e = ap (drop 1) e

pub head_of : {X : Type 0} (x y : X) (xs ys : List X) → x ∷ xs ≡ y ∷ ys → x ≡ y
head_of x y xs ys e = ap (λ l. get_or l 0 x) e

pub lists_differ : (Counts : Section → Type 0) (s : Section) (parts : List Part) (proof : Proof) (later : List Proof) → Counts s → Lists Counts (Question s ∷ parts) (proof ∷ later) → proof ≡ proof_of s
lists_differ Counts s parts proof later counts h = elim h [ inl k ↦ head_of proof (proof_of s) later k.1 k.2 | inr k ↦ absurd (k.0 counts) ]

-- the same sections count
pub lists_alike : (Counts Others : Section → Type 0) (parts : List Part) (proofs : List Proof) → ((s : Section) → Contains parts (Question s) → Counts s ↔ Others s)
    → Lists Counts parts proofs → Lists Others parts proofs
lists_alike Counts Others [] proofs same h = h
lists_alike Counts Others (Answered block ∷ parts) proofs same h = lists_alike Counts Others parts proofs (λ s m. same s (later_in (Answered block) parts (Question s) m)) h
lists_alike Counts Others (Question s ∷ parts) proofs same h = elim h [
  | inl k ↦ inl ((same s (first_in (Question s) parts)).0 k.0, k.1, k.2, lists_alike Counts Others parts k.1 (λ t m. same t (later_in (Question s) parts (Question t) m)) k.3)
  | inr k ↦ inr (λ c. k.0 ((same s (first_in (Question s) parts)).1 c), lists_alike Counts Others parts proofs (λ t m. same t (later_in (Question s) parts (Question t) m)) k.1)
]

-- ---- the first of them

abbrev pub Decidable : (Section → Type 0) → Type 0
Decidable Counts = (s : Section) → Counts s ⊎ (Counts s → ⊥)

some_list : (Counts : Section → Type 0) → Decidable Counts → (parts : List Part) → (proofs : List Proof) × Lists Counts parts proofs
some_list Counts decide [] = ([], refl)
some_list Counts decide (Answered block ∷ parts) = some_list Counts decide parts
some_list Counts decide (Question s ∷ parts) =
    let more = some_list Counts decide parts in
    elim (decide s) [ inl c ↦ (proof_of s ∷ more.0, inl (c, more.0, refl, more.1)) | inr not ↦ (more.0, inr (not, more.1)) ]

pub first_skip : (Counts : Section → Type 0) (p : Part) (parts : List Part) (proofs : List Proof) → (IsSection Counts p → ⊥) → ListsFirst Counts (p ∷ parts) proofs ↔ ListsFirst Counts parts proofs
first_skip Counts p parts proofs not = (
  λ h. record { proof = h.proof; later = h.later; all = (lists_skip Counts p parts (h.proof ∷ h.later) not).0 h.all; one = h.one },
  λ h. record { proof = h.proof; later = h.later; all = (lists_skip Counts p parts (h.proof ∷ h.later) not).1 h.all; one = h.one },
)

pub first_is : (Counts : Section → Type 0) → Decidable Counts → (s : Section) (parts : List Part) (proofs : List Proof) → Counts s
    → (proofs ≡ proof_of s ∷ []) ↔ ListsFirst Counts (Question s ∷ parts) proofs
first_is Counts decide s parts proofs counts = (
  λ e. let more = some_list Counts decide parts in record { proof = proof_of s; later = more.0; all = inl (counts, more.0, refl, more.1); one = e },
  λ h. h.one ∙ ap (λ p. p ∷ []) (lists_differ Counts s parts h.proof h.later counts h.all),
)

pub first_none : (Counts : Section → Type 0) (proofs : List Proof) → ListsFirst Counts [] proofs → ⊥
first_none Counts proofs h = no_cons h.proof h.later (sym h.all)

pub first_alike : (Counts Others : Section → Type 0) (parts : List Part) (proofs : List Proof) → ((s : Section) → Contains parts (Question s) → Counts s ↔ Others s)
    → ListsFirst Counts parts proofs → ListsFirst Others parts proofs
first_alike Counts Others parts proofs same h = record { proof = h.proof; later = h.later; all = lists_alike Counts Others parts (h.proof ∷ h.later) same h.all; one = h.one }

-- ---- whether a section is the one of an array

dec_nat : (a b : ℕ) → (a ≡ b) ⊎ (a ≡ b → ⊥)
dec_nat a b = elim (cases_order a b) [
  | inl e ↦ inl e
  | inr h ↦ inr (λ e. elim h [ inl less ↦ absurd (omega (arith, less, e)) | inr more ↦ absurd (omega (arith, more, e)) ])
]

dec_defect : (a b : Defect) → (a ≡ b) ⊎ (a ≡ b → ⊥)
dec_defect Sound Sound = inl refl
dec_defect Sound StuckOpen = inr (λ e. cc)
dec_defect Sound StuckClosed = inr (λ e. cc)
dec_defect StuckOpen Sound = inr (λ e. cc)
dec_defect StuckOpen StuckOpen = inl refl
dec_defect StuckOpen StuckClosed = inr (λ e. cc)
dec_defect StuckClosed Sound = inr (λ e. cc)
dec_defect StuckClosed StuckOpen = inr (λ e. cc)
dec_defect StuckClosed StuckClosed = inl refl

dec_cells : (a b : List Defect) → (a ≡ b) ⊎ (a ≡ b → ⊥)
dec_cells [] [] = inl refl
dec_cells [] (y ∷ b) = inr (λ e. no_cons y b e)
dec_cells (x ∷ a) [] = inr (λ e. no_cons x a (sym e))
dec_cells (x ∷ a) (y ∷ b) = elim (dec_defect x y) [
  | inr not ↦ inr (λ e. not (head_of x y a b e))
  | inl same ↦ elim (dec_cells a b) [
    | inr not ↦ inr (λ e. not (tail_of x y a b e))
    | inl rest ↦ inl (λ i. same i ∷ rest i)
  ]
]

dec_array : (a b : Defects) → (a ≡ b) ⊎ (a ≡ b → ⊥)
dec_array a b = elim (dec_nat a.size.rows b.size.rows) [
  | inr not ↦ inr (λ e. not (ap (λ (z : Defects). z.size.rows) e))
  | inl rows ↦ elim (dec_nat a.size.cols b.size.cols) [
    | inr not ↦ inr (λ e. not (ap (λ (z : Defects). z.size.cols) e))
    | inl cols ↦ elim (dec_cells a.cells b.cells) [
      | inr not ↦ inr (λ e. not (ap (λ (z : Defects). z.cells) e))
      | inl cells ↦ inl (λ i. record { size = record { rows = rows i; cols = cols i }; cells = cells i })
    ]
  ]
]

dec_target : (t : Target) (a : Defects) → (array_of t ≡ Some a) ⊎ (array_of t ≡ Some a → ⊥)
dec_target (Whole s) a = inr (λ e. absurd (cc))
dec_target (Marked b) a = elim (dec_array b a) [ inl e ↦ inl (ap Some e) | inr not ↦ inr (λ e. not (some_same b a e)) ] where
  some_same : (x y : Defects) → Some x ≡ Some y → x ≡ y
  some_same x y e = cc

dec_refuted : (c : Close) → (c ≡ Refuted) ⊎ (c ≡ Refuted → ⊥)
dec_refuted Refuted = inl refl
dec_refuted (Spent budget) = inr (λ e. cc)
dec_refuted Satisfied = inr (λ e. cc)

pub dec_marked : (output : ℕ) (array : Defects) → Decidable (IsMarkedOf output array Refuted)
dec_marked output array s = elim (dec_nat s.output output) [
  | inr not ↦ inr (λ h. not h.of_output)
  | inl of ↦ elim (dec_target s.target array) [
    | inr not ↦ inr (λ h. not h.array_is)
    | inl is ↦ elim (dec_refuted s.close) [ inr not ↦ inr (λ h. not h.closes) | inl closes ↦ inl (record { of_output = of; array_is = is; closes = closes }) ]
  ]
]

-- ---- what is excluded after one more part

Any_push_cases : {X : Type 0} (P : X → Type 0) (xs : List X) (y : X) → Any P (xs ++ y ∷ []) → Any P xs ⊎ P y
Any_push_cases P [] y h = elim (Any_cases P y [] h) [ inl p ↦ inr p | inr k ↦ absurd (Any_none P k) ]
Any_push_cases P (x ∷ xs) y h = elim (Any_cases P x (xs ++ y ∷ []) h) [
  | inl p ↦ inl (Any_head P x xs p)
  | inr k ↦ elim (Any_push_cases P xs y k) [ inl q ↦ inl (Any_later P x xs q) | inr q ↦ inr q ]
]

Any_push_left : {X : Type 0} (P : X → Type 0) (xs : List X) (y : X) → Any P xs → Any P (xs ++ y ∷ [])
Any_push_left P [] y h = absurd (Any_none P h)
Any_push_left P (x ∷ xs) y h = elim (Any_cases P x xs h) [ inl p ↦ Any_head P x (xs ++ y ∷ []) p | inr k ↦ Any_later P x (xs ++ y ∷ []) (Any_push_left P xs y k) ]

Any_push_right : {X : Type 0} (P : X → Type 0) (xs : List X) (y : X) → P y → Any P (xs ++ y ∷ [])
Any_push_right P [] y p = Any_head P y [] p
Any_push_right P (x ∷ xs) y p = Any_later P x (xs ++ y ∷ []) (Any_push_right P xs y p)

excluded_more : (before : List Part) (p : Part) (output : ℕ) (s : Size) → IsExcluded before output s → IsExcluded (before ++ p ∷ []) output s
excluded_more before p output s (t, fits, h) =
    (t, fits, record { section = h.section; is_in = Contains-append_left before (p ∷ []) (Question h.section) h.is_in; of_output = h.of_output; size_is = h.size_is; no_array = h.no_array; holds = h.holds })

excluded_before : (before : List Part) (p : Part) (output : ℕ) (s : Size) → IsExcluded (before ++ p ∷ []) output s
    → IsExcluded before output s ⊎ ((q : Section) × (p ≡ Question q) × IsWholeOf output Refuted q × FitsInside s (size_of q.target))
excluded_before before p output s (t, fits, h) = elim (Contains-push_cases before p (Question h.section) h.is_in) [
  | inl old ↦ inl (t, fits, record { section = h.section; is_in = old; of_output = h.of_output; size_is = h.size_is; no_array = h.no_array; holds = h.holds })
  | inr new ↦ inr (h.section, new, record { of_output = h.of_output; no_array = h.no_array; closes = h.holds }, subst (FitsInside s) (sym h.size_is) fits)
]

pub keeps_none : (output : ℕ) → Keeps [] output []
keeps_none output s = (λ h. absurd (Any_none (FitsInside s) h), λ h. let w = h.2.is_in.1 in absurd (omega (arith, w)))

pub keeps_same : (before : List Part) (p : Part) (output : ℕ) (sizes : List Size) → (IsSection (IsWholeOf output Refuted) p → ⊥) → Keeps before output sizes → Keeps (before ++ p ∷ []) output sizes
keeps_same before p output sizes not keeps s = (
  λ h. excluded_more before p output s ((keeps s).0 h),
  λ h. elim (excluded_before before p output s h) [
    | inl old ↦ (keeps s).1 old
    | inr new ↦ absurd (not (subst (IsSection (IsWholeOf output Refuted)) (sym new.1) new.2))
  ],
)

question_same : (a b : Section) → Question a ≡ Question b → a ≡ b
question_same a b e = cc

pub keeps_more : (before : List Part) (q : Section) (output : ℕ) (sizes : List Size) → IsWholeOf output Refuted q → Keeps before output sizes
    → Keeps (before ++ Question q ∷ []) output (sizes ++ size_of q.target ∷ [])
keeps_more before q output sizes whole keeps s = (
  λ h. elim (Any_push_cases (FitsInside s) sizes (size_of q.target) h) [
    | inl old ↦ excluded_more before (Question q) output s ((keeps s).0 old)
    | inr fits ↦ (size_of q.target, fits, record { section = q; is_in = Contains-push before (Question q); of_output = whole.of_output; size_is = refl; no_array = whole.no_array; holds = whole.closes })
  ],
  λ h. elim (excluded_before before (Question q) output s h) [
    | inl old ↦ Any_push_left (FitsInside s) sizes (size_of q.target) ((keeps s).1 old)
    | inr new ↦ Any_push_right (FitsInside s) sizes (size_of q.target) (subst (λ (z : Section). FitsInside s (size_of z.target)) (sym (question_same q new.0 new.1)) new.3)
  ],
)

-- ---- what is covered

-- a list that keeps what is excluded covers an area exactly where the parts do
pub covered_so : (t : Bool) (before : List Part) (output : ℕ) (sizes : List Size) (n least : ℕ) → n ≡ least → Keeps before output sizes → (t ≡ true) ↔ IsCoveredBelow sizes n → (t ≡ true) ↔ AreExcluded before output least
covered_so t before output sizes n least e keeps same = (
  λ h s size small. (keeps s).0 (same.0 h s size (omega (arith, small, e))),
  λ h. same.1 (λ s size small. (keeps s).1 (h s size (omega (arith, small, e)))),
)
