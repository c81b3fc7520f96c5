-- A journal that was read is not right in one way, by the numbers of its lines.
use Rattle.std.proofs.Common.{◌≡◌, ℕ, zero, suc, ◌+◌, List, [], ◌∷◌, ◌++◌, length, map, refl, sym, ap, ◌∙◌, subst, arith, length-append, inl, inr}
use Rattle.std.specs.Prelude.{IsSomeAnd, Some, None, slice_get, ◌≤◌, ◌≢◌, ◌⊎◌}
use Rattle.std.specs.declared.option.Option.{Option}
use Rattle.audit_core.specs.Audit.{IsFirstFault, IsMisclosed, Basis, basis_of, Audited, AreRight, HasRefused, IsAuditRefused, IsKindRefused, IsSectionRefused, IsAnswerRefused}
use Rattle.audit_core.specs.declared.refusal.AuditRefusal.{AuditRefusal}
use Rattle.audit_core.specs.declared.refusal.AuditRefusal.TheVariants as refusals
use Rattle.audit_core.proofs.Tools.{not_right, one_refusal}
use Rattle.journal_text.specs.Parts.{Part, Section, Question, Answered, JournalParts, section_of, kind_of, part_of, parts_of_journal}
use Rattle.journal_text.specs.Proved.{formula_of}
use Rattle.journal_text.specs.Text.{head_text, part_text}
use Rattle.journal_text.specs.declared.target.Close.TheVariants.{Refuted, Spent}
use Rattle.lrat_replay.specs.Book.{start}
use Rattle.journal_text.specs.Reading.{AreNumbered, IsNumbered, AreLined, HasLineNumbers}
use Rattle.journal_text.specs.declared.journal.Journal.{Journal}
use Rattle.journal_text.specs.declared.journal.Part.{Part as PartRead}
use Rattle.journal_text.specs.declared.journal.PartKind.{PartKind}
use Rattle.journal_text.specs.declared.journal.PartKind.TheVariants as kinds
use Rattle.journal_text.specs.declared.journal.SectionText.{SectionText}
use Rattle.journal_text.specs.declared.journal.StepLine.{StepLine}
use Rattle.pla_reader.specs.Parts.{Parts}
use Rattle.pla_reader.specs.Reading.{Reads}
use Rattle.pla_reader.specs.Sets.{functions_to, function_of_sets, sets_of}
use Rattle.pla_reader.specs.declared.kind.Kind.{Kind}
use Rattle.report_text.specs.Pieces.{feeds}
use Rattle.report_text.specs.Report.{BlockParts, parts_of_block}
use Rattle.report_text.specs.declared.answer.Version.{Version}
use Rattle.four_lattice.specs.Audited.{IsUnaudited}
use Rattle.four_lattice.specs.Devices.{EndsTest}
use Rattle.four_lattice.specs.Judge.{Unconfirms}
use Rattle.four_lattice.specs.declared.ending.Ending.{Ending}
use Rattle.four_lattice.specs.declared.ending.Ending.TheVariants as endings
use Rattle.four_lattice.specs.declared.ending.Refusal.TheVariants.{Unconfirmed}
use Rattle.four_lattice.specs.declared.ending.Unconfirmed.TheVariants.{Unaudited}

-- there is a function for each output
abbrev pub HasFunctions : Parts → Type 0
HasFunctions parts = length parts.functions ≡ parts.outputs

many_functions : (kind : Kind) (inputs : ℕ) (rows : List (List ℕ)) (outputs : ℕ) → length (functions_to kind inputs rows outputs) ≡ outputs
many_functions kind inputs rows zero = refl
many_functions kind inputs rows (suc k) =
    let fewer = many_functions kind inputs rows k in
    let all = length-append (functions_to kind inputs rows k) (function_of_sets kind inputs (sets_of kind inputs rows k) ∷ []) in
    omega (arith, fewer, all)

read_functions : (text : List ℕ) (parts : Parts) → Reads text parts → HasFunctions parts
read_functions text parts h = subst HasFunctions (sym h.gives) (many_functions _ _ _ _)

pub has_functions : (told : Option (List ℕ)) (parts : Parts) → IsSomeAnd told (λ t. Reads t parts) → HasFunctions parts
has_functions None parts h = absurd h
has_functions (Some text) parts h = read_functions text parts h

-- ---- parts with the same words, on the same lines

abbrev AreAlikeKinds : PartKind → PartKind → Type 0
AreAlikeKinds (kinds.Question s) (kinds.Question t) = (section_of s ≡ section_of t) × (s.steps.items ≡ t.steps.items) × (s.close_line ≡ t.close_line)
AreAlikeKinds (kinds.Question s) (kinds.Answer b) = ⊥
AreAlikeKinds (kinds.Answer a) (kinds.Question t) = ⊥
AreAlikeKinds (kinds.Answer a) (kinds.Answer b) = parts_of_block a ≡ parts_of_block b

record AreAlike (p q : PartRead) : Type 0 where
  pub part : part_of p ≡ part_of q
  pub line : p.line ≡ q.line
  pub what : AreAlikeKinds p.what q.what

abbrev AreAllAlike : List PartRead → List PartRead → Type 0
AreAllAlike [] [] = Unit {0}
AreAllAlike [] (q ∷ qs) = ⊥
AreAllAlike (p ∷ ps) [] = ⊥
AreAllAlike (p ∷ ps) (q ∷ qs) = AreAlike p q × AreAllAlike ps qs

abbrev head_or : {X : Type 0} → X → List X → X
head_or x [] = x
head_or x (y ∷ ys) = y

abbrev rest_of : {X : Type 0} → List X → List X
rest_of [] = []
rest_of (y ∷ ys) = ys

none_is_some : {X : Type 0} (x : X) (xs : List X) → [] ≡ x ∷ xs → ⊥
none_is_some x xs e = cc

same_line : (s t : StepLine) → s.line ≡ t.line → s.step ≡ t.step → s ≡ t
same_line s t line step = λ i. record { line = line i; step = step i }

same_lines : (here : ℕ) (ss ts : List StepLine) → map (λ (l : StepLine). l.step) ss ≡ map (λ (l : StepLine). l.step) ts → AreNumbered here ss → AreNumbered here ts → ss ≡ ts
same_lines here [] [] e h k = refl
same_lines here [] (t ∷ ts) e h k = absurd (none_is_some _ _ e)
same_lines here (s ∷ ss) [] e h k = absurd (none_is_some _ _ (sym e))
same_lines here (s ∷ ss) (t ∷ ts) e h k =
    let first : s ≡ t = same_line s t (h.0 ∙ sym k.0) (ap (head_or s.step) e) in
    let rest : ss ≡ ts = same_lines (here + 1) ss ts (ap rest_of e) h.1 k.1 in
    λ i. first i ∷ rest i

abbrev section_in : Section → Part → Section
section_in s (Question t) = t
section_in s (Answered block) = s

abbrev block_in : BlockParts → Part → BlockParts
block_in b (Question t) = b
block_in b (Answered block) = block

is_question : (s : Section) (b : BlockParts) → Question s ≡ Answered b → ⊥
is_question s b e = cc

alike_kinds : (here : ℕ) (p q : PartKind) → kind_of p ≡ kind_of q → IsNumbered here p → IsNumbered here q → AreAlikeKinds p q
alike_kinds here (kinds.Question s) (kinds.Question t) e h k =
    let same : section_of s ≡ section_of t = ap (section_in (section_of s)) e in
    let lines : s.steps.items ≡ t.steps.items = same_lines here s.steps.items t.steps.items (ap (λ (x : Section). x.steps) same) h.0 k.0 in
    (same, lines, h.1 ∙ ap (λ l. here + length l) lines ∙ sym k.1)
alike_kinds here (kinds.Question s) (kinds.Answer b) e h k = is_question _ _ e
alike_kinds here (kinds.Answer a) (kinds.Question t) e h k = is_question _ _ (sym e)
alike_kinds here (kinds.Answer a) (kinds.Answer b) e h k = ap (block_in (parts_of_block a)) e

alike : (version : Version) (here : ℕ) (ps qs : List PartRead) → map part_of ps ≡ map part_of qs → AreLined version here ps → AreLined version here qs → AreAllAlike ps qs
alike version here [] [] e h k = tt
alike version here [] (q ∷ qs) e h k = none_is_some _ _ e
alike version here (p ∷ ps) [] e h k = none_is_some _ _ (sym e)
alike version here (p ∷ ps) (q ∷ qs) e h k =
    let first : part_of p ≡ part_of q = ap (head_or (part_of p)) e in (
      record { part = first; line = h.0 ∙ sym k.0; what = alike_kinds (here + 1) p.what q.what first h.1 k.1 },
      alike version (here + feeds (part_text version (part_of q))) ps qs (ap rest_of e) (subst (λ n. AreLined version n ps) (ap (λ x. here + feeds (part_text version x)) first) h.2) k.2,
    )

-- ---- the refusal of a part

section_alike : (basis : Basis) (begins : ℕ) (s t : SectionText) (r : AuditRefusal) → section_of s ≡ section_of t → s.steps.items ≡ t.steps.items → s.close_line ≡ t.close_line
    → IsSectionRefused basis begins s r → IsSectionRefused basis begins t r
section_alike basis begins s t (refusals.Output line) same steps close h = (h.0, subst (λ (x : Section). basis.parts.outputs ≤ x.output) same h.1)
section_alike basis begins s t (refusals.Step line fault) same steps close h = (
  h.0,
  subst (λ (x : Section). slice_get basis.parts.functions x.output ≡ Some h.0) same h.1,
  subst (λ (x : Section). IsFirstFault (start (formula_of basis.rails h.0 x)) t.steps.items line fault) same
      (subst (λ l. IsFirstFault (start (formula_of basis.rails h.0 (section_of s))) l line fault) steps h.2),
)
section_alike basis begins s t (refusals.Unfinished line) same steps close h = (h.0 ∙ close, subst (λ (x : Section). x.close ≡ Refuted) same h.1, subst (IsMisclosed basis) same h.2)
section_alike basis begins s t (refusals.Count line) same steps close h = (h.0 ∙ close, h.1, subst (λ (x : Section). x.close ≡ Spent h.1) same h.2, subst (IsMisclosed basis) same h.3)
section_alike basis begins s t (refusals.Literal line) same steps close h = h
section_alike basis begins s t (refusals.Wrong line x) same steps close h = h
section_alike basis begins s t (refusals.Uncovered line) same steps close h = h
section_alike basis begins s t (refusals.NoSection line) same steps close h = h
section_alike basis begins s t (refusals.Large line) same steps close h = h
section_alike basis begins s t (refusals.NoRails line) same steps close h = h
section_alike basis begins s t (refusals.Proofs line) same steps close h = h
section_alike basis begins s t refusals.NoMemory same steps close h = h

kind_alike : (basis : Basis) (before : List Part) (line : ℕ) (p q : PartKind) (r : AuditRefusal) → AreAlikeKinds p q → IsKindRefused basis before line p r → IsKindRefused basis before line q r
kind_alike basis before line (kinds.Question s) (kinds.Question t) r e h = section_alike basis line s t r e.0 e.1 e.2 h
kind_alike basis before line (kinds.Question s) (kinds.Answer b) r e h = absurd e
kind_alike basis before line (kinds.Answer a) (kinds.Question t) r e h = absurd e
kind_alike basis before line (kinds.Answer a) (kinds.Answer b) r e h = subst (λ x. IsAnswerRefused (record { basis = basis; before = before; block = x }) line r) e h

-- a list that is alike is cut at the same place
record IsCutSo (before : List PartRead) (part : PartRead) (qs : List PartRead) : Type 0 where
  pub front : List PartRead
  pub other : PartRead
  pub rest : List PartRead
  pub whole : qs ≡ front ++ other ∷ rest
  pub fronts : map part_of before ≡ map part_of front
  pub alike : AreAlike part other

cut_so : (before later qs : List PartRead) (part : PartRead) → AreAllAlike (before ++ part ∷ later) qs → IsCutSo before part qs
cut_so [] later [] part a = absurd a
cut_so [] later (q ∷ qs) part a = record { front = []; other = q; rest = qs; whole = refl; fronts = refl; alike = a.0 }
cut_so (b ∷ before) later [] part a = absurd a
cut_so (b ∷ before) later (q ∷ qs) part a =
    let cut = cut_so before later qs part a.1 in
    record { front = q ∷ cut.front; other = cut.other; rest = cut.rest; whole = ap (λ l. q ∷ l) cut.whole; fronts = λ i. a.0.part i ∷ cut.fronts i; alike = cut.alike }

refused_alike : (basis : Basis) (ps qs : List PartRead) (r : AuditRefusal) → AreAllAlike ps qs → HasRefused basis ps r → HasRefused basis qs r
refused_alike basis ps qs r a h =
    let cut = cut_so h.before h.later qs h.part (subst (λ l. AreAllAlike l qs) h.whole a) in
    record {
      before = cut.front;
      part = cut.other;
      later = cut.rest;
      whole = cut.whole;
      earlier = subst (AreRight basis) cut.fronts h.earlier;
      refused = kind_alike basis (map part_of cut.front) cut.other.line h.part.what cut.other.what r cut.alike.what
          (subst (λ l. IsKindRefused basis (map part_of cut.front) l h.part.what r) cut.alike.line (subst (λ l. IsKindRefused basis l h.part.line h.part.what r) cut.fronts h.refused));
    }

-- ---- journals

lined_as : (one other : Journal) → parts_of_journal one ≡ parts_of_journal other → HasLineNumbers other → AreLined one.version (1 + feeds (head_text one.version one.rails)) other.parts.items
lined_as one other e h = subst (λ (x : JournalParts). AreLined x.version (1 + feeds (head_text x.version x.rails)) other.parts.items) (sym e) h

same_refusal : (parts : Parts) (one other : Journal) (r : AuditRefusal) → parts_of_journal one ≡ parts_of_journal other → HasLineNumbers one → HasLineNumbers other
    → IsAuditRefused parts one r → IsAuditRefused parts other r
same_refusal parts one other r e h k refused =
    refused_alike (basis_of parts (parts_of_journal other)) one.parts.items other.parts.items r
    (alike one.version (1 + feeds (head_text one.version one.rails)) one.parts.items other.parts.items (ap (λ (x : JournalParts). x.parts) e) h (lined_as one other e k))
    (subst (λ x. HasRefused (basis_of parts x) one.parts.items r) e refused)

pub one_unaudited : (parts : Parts) (journal : JournalParts) → HasFunctions parts → (a b : AuditRefusal) → IsUnaudited parts journal a → IsUnaudited parts journal b → a ≡ b
one_unaudited parts journal many a b h k =
    one_refusal (basis_of parts (parts_of_journal k.read)) k.read.parts.items a b many (same_refusal parts h.read k.read a (h.is_journal ∙ sym k.is_journal) h.lines k.lines h.refused) k.refused

pub no_unaudited : (parts : Parts) (journal : JournalParts) → HasFunctions parts → (a : AuditRefusal) → IsUnaudited parts journal a → Audited parts journal → ⊥
no_unaudited parts journal many a h right =
    not_right (basis_of parts (parts_of_journal h.read)) h.read.parts.items a many (subst (Audited parts) (sym h.is_journal) right) h.refused

pub audit_memory : (r : AuditRefusal) → (r ≡ refusals.NoMemory) ⊎ (r ≢ refusals.NoMemory)
audit_memory (refusals.Output line) = inr (λ e. cc)
audit_memory (refusals.Literal line) = inr (λ e. cc)
audit_memory (refusals.Wrong line x) = inr (λ e. cc)
audit_memory (refusals.Step line fault) = inr (λ e. cc)
audit_memory (refusals.Unfinished line) = inr (λ e. cc)
audit_memory (refusals.Count line) = inr (λ e. cc)
audit_memory (refusals.Uncovered line) = inr (λ e. cc)
audit_memory (refusals.NoSection line) = inr (λ e. cc)
audit_memory (refusals.Large line) = inr (λ e. cc)
audit_memory (refusals.NoRails line) = inr (λ e. cc)
audit_memory (refusals.Proofs line) = inr (λ e. cc)
audit_memory refusals.NoMemory = inl refl

-- how a run ends whose journal is refused
pub audit_ends : (parts : Parts) (journal : Journal) (r : AuditRefusal) (ending : Ending) → HasLineNumbers journal → (r ≢ refusals.NoMemory → IsAuditRefused parts journal r)
    → (r ≢ refusals.NoMemory → ending ≡ endings.Refused (Unconfirmed (Unaudited r))) → (r ≡ refusals.NoMemory → ending ≡ endings.NoMemory) → EndsTest (Unconfirms parts (parts_of_journal journal)) ending
audit_ends parts journal r ending lines refused is wanting = elim (audit_memory r) [
  | inl m ↦ inr (wanting m)
  | inr o ↦ inl (Unconfirmed (Unaudited r), (r, record { read = journal; is_journal = refl; lines = lines; refused = refused o }, refl), is o)
]
