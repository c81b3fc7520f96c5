-- A text is one value or has one refusal.
use Rattle.std.proofs.Common.{◌≡◌, ◌≢◌, ℕ, ◌+◌, ◌<◌, ◌⊎◌, inl, inr, List, length, Option, Some, None, refl, sym, ap, ◌∙◌, arith, subst, true≢false}
use Rattle.std.specs.FinSet as set
use Rattle.std.specs.Cmp.{nat_cmp_total}
use Rattle.cube_core.specs.Members.{Assignments, IsLeast}
use Rattle.pla_reader.specs.declared.fault.LineFault.{LineFault}
use Rattle.pla_reader.specs.declared.pla.PlaRefusal.{PlaRefusal}
use Rattle.pla_reader.specs.declared.pla.PlaRefusal.TheVariants.{TooLong, BadByte, UnknownWord, Unsupported, Repeated, BadNumber, Late, Missing, Inputs, Outputs, RowLength, BadDigit, Names, TooManyRows, Conflict, NoMemory}
use Rattle.pla_reader.specs.declared.fault.LineFault.TheVariants as faults
use Rattle.std.specs.Prelude.{Result, Ok, Err, IfOk, IfErr, IsErrOf, MatchResult, ◌↔◌}
use Rattle.pla_reader.specs.Says.{Said}
use Rattle.pla_reader.specs.Parts.{Parts}
use Rattle.pla_reader.specs.Reading.{said_in, fault_at, AreSound, IsClear, sets_in, refusal_at, Reads, Refused, IsLineRefused, IsEndRefused, IsConflict}
use Rattle.pla_reader.proofs.SetsLaws.{both}
use Rattle.std.proofs.lemmas.Bool.Decides.{eqb_tells, leb_tells}

below_cases : (a b : ℕ) → (a ≡ b) ⊎ ((a < b) ⊎ (b < a))
below_cases a b = elim (leb_tells a b) [
  | inl le ↦ elim (eqb_tells a b) [ inl same ↦ inl same.1 | inr other ↦ let at_most = le.1 in let ne : a ≢ b = other.1 in inr (inl (omega arith)) ]
  | inr gt ↦ inr (inr gt.1)
]

some_none : (f : LineFault) (o : Option LineFault) → o ≡ Some f → o ≡ None → ⊥
some_none f o p q = cc

-- the first faulty line is one
line_once : (said : List Said) (a b : PlaRefusal) → IsLineRefused said a → IsLineRefused said b → a ≡ b
line_once said a b p q = elim (below_cases p.line q.line) [
  | inl same ↦
      let here : fault_at said p.line ≡ Some q.fault = ap (fault_at said) same ∙ q.here in
      let one : p.fault ≡ q.fault = let e : Some p.fault ≡ Some q.fault = sym p.here ∙ here in cc in
      p.answer ∙ ap (λ f. refusal_at f (p.line + 1)) one ∙ ap (λ n. refusal_at q.fault (n + 1)) same ∙ sym q.answer
  | inr (inl lt) ↦ absurd (some_none p.fault _ p.here (q.before p.line lt))
  | inr (inr gt) ↦ absurd (some_none q.fault _ q.here (p.before q.line gt))
]

not_line : (said : List Said) (a : PlaRefusal) → IsLineRefused said a → AreSound said (length said) → ⊥
not_line said a p sound = some_none p.fault _ p.here (sound p.line p.within)

-- where an assignment is named on and off, the output is not clear
not_clear : (said : List Said) (k x : ℕ) → IsClear said k → IsLeast (set.intersection (sets_in said k).on (sets_in said k).off) x → ⊥
not_clear said k x clear least =
    let two = both _ _ (sym (set.contains-intersection nat_cmp_total (sets_in said k).on (sets_in said k).off x) ∙ least.member) in
    clear x two.0 two.1

least_once : (s : Assignments) (x y : ℕ) → IsLeast s x → IsLeast s y → x ≡ y
least_once s x y p q = elim (below_cases x y) [
  | inl same ↦ same
  | inr (inl lt) ↦ absurd (true≢false (sym p.member ∙ q.least x lt))
  | inr (inr gt) ↦ absurd (true≢false (sym q.member ∙ p.least y gt))
]

conflict_once : (said : List Said) (a b : PlaRefusal) → IsConflict said a → IsConflict said b → a ≡ b
conflict_once said a b p q = elim (below_cases p.output q.output) [
  | inl same ↦
      let least : IsLeast (set.intersection (sets_in said p.output).on (sets_in said p.output).off) q.assign = subst (λ k. IsLeast (set.intersection (sets_in said k).on (sets_in said k).off) q.assign) (sym same) q.least in
      p.answer ∙ ap (Conflict p.output) (least_once _ p.assign q.assign p.least least) ∙ ap (λ k. Conflict k q.assign) same ∙ sym q.answer
  | inr (inl lt) ↦ absurd (not_clear said p.output p.assign (q.earlier p.output lt) p.least)
  | inr (inr gt) ↦ absurd (not_clear said q.output q.assign (p.earlier q.output gt) q.least)
]

pub Reads-once : (bytes : List ℕ) (a b : Parts) → Reads bytes a → Reads bytes b → a ≡ b
Reads-once bytes a b p q = p.gives ∙ sym q.gives

within_once : (bytes : List ℕ) (a b : PlaRefusal) → IsLineRefused (said_in bytes) a ⊎ (IsEndRefused bytes a ⊎ IsConflict (said_in bytes) a) → IsLineRefused (said_in bytes) b ⊎ (IsEndRefused bytes b ⊎ IsConflict (said_in bytes) b) → a ≡ b
within_once bytes a b (inl p) (inl q) = line_once (said_in bytes) a b p q
within_once bytes a b (inl p) (inr (inl q)) = absurd (not_line (said_in bytes) a p q.before)
within_once bytes a b (inl p) (inr (inr q)) = absurd (not_line (said_in bytes) a p q.before)
within_once bytes a b (inr (inl p)) (inl q) = absurd (not_line (said_in bytes) b q p.before)
within_once bytes a b (inr (inl p)) (inr (inl q)) = p.answer ∙ sym q.answer
within_once bytes a b (inr (inl p)) (inr (inr q)) = absurd (true≢false (sym q.given ∙ p.missing))
within_once bytes a b (inr (inr p)) (inl q) = absurd (not_line (said_in bytes) b q p.before)
within_once bytes a b (inr (inr p)) (inr (inl q)) = absurd (true≢false (sym p.given ∙ q.missing))
within_once bytes a b (inr (inr p)) (inr (inr q)) = conflict_once (said_in bytes) a b p q

not_within : (bytes : List ℕ) (parts : Parts) (refusal : PlaRefusal) → Reads bytes parts → IsLineRefused (said_in bytes) refusal ⊎ (IsEndRefused bytes refusal ⊎ IsConflict (said_in bytes) refusal) → ⊥
not_within bytes parts refusal r (inl q) = not_line (said_in bytes) refusal q r.sound
not_within bytes parts refusal r (inr (inl q)) = true≢false (sym r.given ∙ q.missing)
not_within bytes parts refusal r (inr (inr q)) = not_clear (said_in bytes) q.output q.assign (r.clear q.output q.within) q.least

pub Refused-once : (bytes : List ℕ) (a b : PlaRefusal) → Refused bytes a → Refused bytes b → a ≡ b
Refused-once bytes a b (inl p) (inl q) = p.1 ∙ sym q.1
Refused-once bytes a b (inl p) (inr q) = let long = p.0 in let short = q.0 in absurd (omega arith)
Refused-once bytes a b (inr p) (inl q) = let short = p.0 in let long = q.0 in absurd (omega arith)
Refused-once bytes a b (inr p) (inr q) = within_once bytes a b p.1 q.1

pub Reads-or_Refused : (bytes : List ℕ) (parts : Parts) (refusal : PlaRefusal) → Reads bytes parts → Refused bytes refusal → ⊥
Reads-or_Refused bytes parts refusal r (inl q) = let short = r.few in let long = q.0 in omega arith
Reads-or_Refused bytes parts refusal r (inr q) = not_within bytes parts refusal r q.1

no_memory_or : (r : PlaRefusal) → (r ≡ NoMemory) ⊎ (r ≡ NoMemory → ⊥)
no_memory_or NoMemory = inl refl
no_memory_or TooLong = inr (λ e. cc)
no_memory_or (BadByte n) = inr (λ e. cc)
no_memory_or (UnknownWord n) = inr (λ e. cc)
no_memory_or (Unsupported n) = inr (λ e. cc)
no_memory_or (Repeated n) = inr (λ e. cc)
no_memory_or (BadNumber n) = inr (λ e. cc)
no_memory_or (Late n) = inr (λ e. cc)
no_memory_or (Missing n) = inr (λ e. cc)
no_memory_or (Inputs n) = inr (λ e. cc)
no_memory_or (Outputs n) = inr (λ e. cc)
no_memory_or (RowLength n) = inr (λ e. cc)
no_memory_or (BadDigit n) = inr (λ e. cc)
no_memory_or (Names n) = inr (λ e. cc)
no_memory_or (TooManyRows n) = inr (λ e. cc)
no_memory_or (Conflict k x) = inr (λ e. cc)

-- a text that is read as a value gets it
pub value_only : {X : Type 0} (view : X → Parts) (bytes : List ℕ) (r : Result X PlaRefusal) → IfOk r (λ x. Reads bytes (view x)) → IfErr r (λ refusal. (refusal ≡ NoMemory → ⊥) → Refused bytes refusal) → (parts : Parts) → Reads bytes parts
    → MatchResult r (λ x. view x ≡ parts) (λ refusal. refusal ≡ NoMemory)
value_only view bytes (Ok x) found refused parts h = Reads-once bytes (view x) parts found h
value_only view bytes (Err r) found refused parts h = elim (no_memory_or r) [ inl none ↦ none | inr other ↦ absurd (Reads-or_Refused bytes parts r h (refused other)) ]

-- a text that has a refusal gets it
pub refusal_only : {X : Type 0} (view : X → Parts) (bytes : List ℕ) (r : Result X PlaRefusal) → IfOk r (λ x. Reads bytes (view x)) → IfErr r (λ refusal. (refusal ≡ NoMemory → ⊥) → Refused bytes refusal) → (refusal : PlaRefusal) → Refused bytes refusal
    → MatchResult r (λ _. ⊥) (λ other. (other ≡ refusal) ⊎ (other ≡ NoMemory))
refusal_only view bytes (Ok x) found refused refusal h = Reads-or_Refused bytes (view x) refusal found h
refusal_only view bytes (Err r) found refused refusal h = elim (no_memory_or r) [ inl none ↦ inr none | inr other ↦ inl (Refused-once bytes r refusal (refused other) h) ]

line_not_long : (fault : LineFault) (n : ℕ) → TooLong ≡ refusal_at fault n → ⊥
line_not_long faults.BadByte n e = cc
line_not_long faults.UnknownWord n e = cc
line_not_long faults.Unsupported n e = cc
line_not_long faults.Repeated n e = cc
line_not_long faults.BadNumber n e = cc
line_not_long faults.Late n e = cc
line_not_long faults.Missing n e = cc
line_not_long faults.Inputs n e = cc
line_not_long faults.Outputs n e = cc
line_not_long faults.RowLength n e = cc
line_not_long faults.BadDigit n e = cc
line_not_long faults.Names n e = cc
line_not_long faults.TooManyRows n e = cc

long_refused : (bytes : List ℕ) → Refused bytes TooLong → 4194304 < length bytes
long_refused bytes (inl p) = p.0
long_refused bytes (inr p) = absurd (go p.1) where
  go : IsLineRefused (said_in bytes) TooLong ⊎ (IsEndRefused bytes TooLong ⊎ IsConflict (said_in bytes) TooLong) → ⊥
  go (inl q) = line_not_long q.fault (q.line + 1) q.answer
  go (inr (inl q)) = let e = q.answer in cc
  go (inr (inr q)) = let e = q.answer in cc

-- when a text is too long
pub long_only : {X : Type 0} (bytes : List ℕ) (r : Result X PlaRefusal) → IfErr r (λ refusal. (refusal ≡ NoMemory → ⊥) → Refused bytes refusal) → (4194304 < length bytes → IsErrOf r TooLong) → IsErrOf r TooLong ↔ (4194304 < length bytes)
long_only {X} bytes r refused long = (λ e. long_refused bytes (subst (λ q. IfErr q (λ refusal. (refusal ≡ NoMemory → ⊥) → Refused bytes refusal)) e refused (λ n. cc)), long)
