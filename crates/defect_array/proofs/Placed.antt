-- What the question of an array shows.
use Rattle.std.proofs.Common.{◌≡◌, inl, inr, ℕ, ◌*◌, ◌≤◌, false, List, [], ◌∷◌, ◌++◌, length, refl, sym, ap, ◌∙◌, subst, arith, None, Some, mul-le-mul}
use Rattle.std.specs.declared.option.Option.{Option}
use Rattle.std.specs.Prelude.{IfSome, All}
use Rattle.std.specs.List.{Contains}
use Rattle.std.proofs.lemmas.List.{append-nil}
use Rattle.std.proofs.lemmas.List.Elements.{All-nil, All-cons, Contains-append_right, Contains-push, Contains-push_cases}
use Rattle.cube_core.specs.Function.{Function}
use Rattle.lattice_grid.specs.Defects.{Defects, IsArray}
use Rattle.lattice_grid.specs.Lattice.{Lattice}
use Rattle.lattice_grid.specs.Rectangle.{IsSize}
use Rattle.path_meaning.specs.Defective.{IsRealisedIn}
use Rattle.report_text.specs.Bounds.{IsAnswer, IsProof}
use Rattle.report_text.specs.Form.{form_of, lists}
use Rattle.report_text.specs.declared.answer.Answer.{Answer}
use Rattle.report_text.specs.declared.answer.Proof.{Proof}
use Rattle.report_text.specs.declared.answer.Version.TheVariants.{Two}
use Rattle.wire_io.specs.Told.{Gains}
use Rattle.journal_text.specs.Good.{Lists, ListsFirst, IsRefutedOn, AreSatisfied}
use Rattle.journal_text.specs.Least.{IsRightOn}
use Rattle.journal_text.specs.Parts.{Section, Part, Question, Answered, size_of, array_of}
use Rattle.journal_text.specs.Proved.{IsRefuted, IsSpent, IsLeftOpen, ShowsClose, AreReplayed, HasMarked}
use Rattle.journal_text.specs.Text.{section_text, parts_text}
use Rattle.journal_text.specs.declared.target.Close.{Close}
use Rattle.journal_text.specs.declared.target.Close.TheVariants as close
use Rattle.journal_text.specs.declared.target.Target.{Target}
use Rattle.journal_text.specs.declared.target.Target.TheVariants.{Marked}
use Rattle.lattice_question.specs.Asked.{OutcomeSo, SectionSo, AddsSection}
use Rattle.lattice_question.specs.Written.{IsSectionOf, HasNoSection, IsShown, Searched, StoppedAsking}
use Rattle.lattice_question.proofs.Tools.{front_of_all, shows_close}
use Rattle.lattice_question.specs.declared.question.Outcome.{Outcome}
use Rattle.lattice_question.specs.declared.question.Outcome.TheVariants as outcome
use Rattle.defect_array.specs.Answering.{answer_for, proofs_for}
use Rattle.defect_array.specs.Place.{HoldsOnArray}

size_of_array : (a : Defects) → IsArray a → IsSize a.size
size_of_array a h = record { some_rows = h.some_rows; some_cols = h.some_cols; few = area_few a.size.rows a.size.cols h.few_rows h.few_cols } where
  area_few : (r c : ℕ) → r ≤ 16 → c ≤ 16 → r * c ≤ 1048576
  area_few r c p q = let most : r * c ≤ 16 * 16 = mul-le-mul p q in omega (arith, most)

question_same : (s t : Section) → Question s ≡ Question t → s ≡ t
question_same s t e = ap (λ (p : Part). section_in s p) e where
  section_in : Section → Part → Section
  section_in d (Question x) = x
  section_in d (Answered block) = d

-- ---- of lattices alone

pub holds_so : (f : Function) (a : Defects) (o : Outcome) (budget : ℕ) → OutcomeSo 1048575 f (Marked a) o → HoldsOnArray f a budget (answer_for o a budget)
holds_so f a (outcome.Refuted steps) budget so = (refl, so.0)
holds_so f a (outcome.Satisfied g) budget so = (refl, so)
holds_so f a outcome.Spent budget so = (refl, refl)

pub answer_so : (f : Function) (a : Defects) (o : Outcome) (budget : ℕ) → IsArray a → budget ≤ 200000 → OutcomeSo 1048575 f (Marked a) o → IsAnswer (answer_for o a budget)
answer_so f a (outcome.Refuted steps) budget array few so = array
answer_so f a (outcome.Satisfied g) budget array few so = (so.lattice, array, sym so.realises.same_size)
answer_so f a outcome.Spent budget array few so = (array, few)

pub proofs_so : (f : Function) (a : Defects) (o : Outcome) → IsArray a → OutcomeSo 1048575 f (Marked a) o → All IsProof (proofs_for o a)
proofs_so f a (outcome.Refuted steps) array so = All-cons IsProof (record { shape = a.size; steps = steps }) [] (record { size = size_of_array a array; some = so.1; few = so.2 }) (All-nil IsProof)
proofs_so f a (outcome.Satisfied g) array so = All-nil IsProof
proofs_so f a outcome.Spent array so = All-nil IsProof

pub unlisted_so : (a : Defects) (o : Outcome) (budget : ℕ) → lists Two (form_of (answer_for o a budget)) ≡ false → proofs_for o a ≡ []
unlisted_so a (outcome.Refuted steps) budget e = absurd cc
unlisted_so a (outcome.Satisfied g) budget e = refl
unlisted_so a outcome.Spent budget e = refl

-- ---- what the section shows

module _ (rails output : ℕ) (f : Function) (budget : ℕ) (a : Defects) (section : Section) (of : section.output ≡ output) (target : section.target ≡ Marked a) (parts : List Part) (none : HasNoSection parts output) where
  abbrev all : List Part
  all = parts ++ Question section ∷ []

  marked : (Holds : Section → Type 0) → Holds section → HasMarked all output a Holds
  marked Holds holds = record { section = section; is_in = Contains-push parts (Question section); of_output = of; array_is = ap array_of target; holds = holds }

  -- a section of the output is the one that was written
  from_here : (s : Section) → Contains all (Question s) → s.output ≡ output → section ≡ s
  from_here s found is = elim (Contains-push_cases parts (Question section) (Question s) found) [
    | inl before ↦ absurd (none s before is)
    | inr same ↦ question_same section s same
  ]

  not_satisfied : (c : Close) → section.close ≡ c → (c ≡ close.Satisfied → ⊥) → AreSatisfied rails output f all
  not_satisfied c is other s found so closes = absurd (other (sym is ∙ ap (λ (x : Section). x.close) (from_here s found so) ∙ closes))

  satisfied_on : (g : Lattice) → IsRightOn rails f a g → AreSatisfied rails output f all
  satisfied_on g right s found so closes =
      let whole : s.target ≡ Marked a = ap (λ (x : Section). x.target) (sym (from_here s found so)) ∙ target in
      let realised : IsRealisedIn f.inputs rails f a.size (Some a) = record { lattice = g; kept = right.lattice; size_is = sym right.realises.same_size; over = right.over; realises = right.realises } in
      subst (λ (t : Target). IsRealisedIn f.inputs rails f (size_of t) (array_of t)) (sym whole) realised

  -- the section is the first that counts
  listed_first : (steps : ℕ) → IsRefuted rails f section → length section.steps ≡ steps → ListsFirst (IsRefutedOn rails output f a) all (record { shape = a.size; steps = steps } ∷ [])
  listed_first steps refuted many = record { proof = last; later = []; all = behind parts none; one = refl } where
    last : Proof
    last = record { shape = a.size; steps = steps }

    same : last ≡ record { shape = size_of section.target; steps = length section.steps }
    same i = record { shape = sym (ap size_of target) i; steps = sym many i }

    behind : (parts : List Part) → HasNoSection parts output → Lists (IsRefutedOn rails output f a) (parts ++ Question section ∷ []) (last ∷ [])
    behind [] none = inl ((of, ap array_of target, refuted), [], ap (λ (p : Proof). p ∷ []) same, refl)
    behind (Answered block ∷ parts) none = behind parts (λ s found is. none s (Contains-append_right (Answered block ∷ []) parts (Question s) found) is)
    behind (Question s ∷ parts) none =
        inr ((λ counts. none s (0, omega arith, refl) counts.0), behind parts (λ t found is. none t (Contains-append_right (Question s ∷ []) parts (Question t) found) is))

-- the sections of the output among these parts are one, which shows what it closes with
replayed_behind : (output : ℕ) (f : Function) (budget : ℕ) (o : Outcome) (section : Section) → SectionSo 1048575 f budget o section → (parts : List Part) → HasNoSection parts output → AreReplayed 1048575 output f (parts ++ Question section ∷ [])
replayed_behind output f budget o section holds parts none t found of = elim (Contains-push_cases parts (Question section) (Question t) found) [
  | inl before ↦ absurd (none t before of)
  | inr same ↦ subst (λ (x : Section). ShowsClose 1048575 f x x.close) (question_same section t same) (shows_close 1048575 f budget o section holds)
]

pub shown_so : (output : ℕ) (f : Function) (budget : ℕ) (a : Defects) (o : Outcome) → OutcomeSo 1048575 f (Marked a) o → (section : Section) → section.output ≡ output → section.target ≡ Marked a → SectionSo 1048575 f budget o section
    → (parts : List Part) → HasNoSection parts output → IsShown 1048575 output f budget (parts ++ Question section ∷ []) (answer_for o a budget) (proofs_for o a)
shown_so output f budget a (outcome.Refuted steps) so section of target holds parts none = record {
  good = record { none = so.0; refuted = marked 1048575 output f budget a section of target parts none (IsRefuted 1048575 f) holds.0 };
  licensed = (tt, not_satisfied 1048575 output f budget a section of target parts none close.Refuted holds.0.close (λ e. cc e));
  listed = listed_first 1048575 output f budget a section of target parts none steps holds.0 holds.1;
  replayed = replayed_behind output f budget (outcome.Refuted steps) section holds parts none;
}
shown_so output f budget a (outcome.Satisfied g) so section of target holds parts none = record {
  good = so;
  licensed = (tt, satisfied_on 1048575 output f budget a section of target parts none g so);
  listed = refl;
  replayed = replayed_behind output f budget (outcome.Satisfied g) section holds parts none;
}
shown_so output f budget a outcome.Spent so section of target holds parts none = record {
  good = marked 1048575 output f budget a section of target parts none (IsSpent 1048575 f budget) holds.0;
  licensed = (
    record { after_is = refl; left_open = marked 1048575 output f budget a section of target parts none (λ s. IsSpent 1048575 f budget s × IsLeftOpen 1048575 f s) holds },
    not_satisfied 1048575 output f budget a section of target parts none (close.Spent budget) holds.0.close (λ e. cc e),
  );
  listed = refl;
  replayed = replayed_behind output f budget outcome.Spent section holds parts none;
}

pub searched_so : (output : ℕ) (f : Function) (budget : ℕ) (a : Defects) (o : Outcome) (got got' : Option (List ℕ)) → OutcomeSo 1048575 f (Marked a) o → AddsSection output (Marked a) got got' (SectionSo 1048575 f budget o)
    → Searched 1048575 output f budget got got' (answer_for o a budget) (proofs_for o a)
searched_so output f budget a o got got' so adds = record {
  more = Question adds.section ∷ [];
  are = All-cons (IsSectionOf output) (Question adds.section) [] (adds.output_is, adds.asked) (All-nil (IsSectionOf output));
  gained = subst (Gains got got') (sym (append-nil (section_text adds.section))) adds.gained;
  shown = told got' adds.holds;
} where
  told : (t : Option (List ℕ)) → IfSome t (λ _. SectionSo 1048575 f budget o adds.section)
      → IfSome t (λ _. (parts : List Part) → HasNoSection parts output → IsShown 1048575 output f budget (parts ++ Question adds.section ∷ []) (answer_for o a budget) (proofs_for o a))
  told None h = tt
  told (Some bytes) h = λ parts none. shown_so output f budget a o so adds.section adds.output_is adds.target_is h parts none

-- what was asked of an array is what it was, where it is taken back
pub searched_here : (rails output : ℕ) (f : Function) (budget : ℕ) (a b : Defects) (o : Outcome) (got got' : Option (List ℕ)) (answer : Answer) (proofs : List Proof) → rails ≡ 1048575 → Marked a ≡ Marked b → answer ≡ answer_for o b budget → proofs ≡ proofs_for o b
    → OutcomeSo rails f (Marked a) o → AddsSection output (Marked a) got got' (SectionSo rails f budget o) → Searched 1048575 output f budget got got' answer proofs
searched_here rails output f budget a b o got got' answer proofs all same is listed so adds =
    subst (λ x. Searched 1048575 output f budget got got' x proofs) (sym is)
    (subst (λ x. Searched 1048575 output f budget got got' (answer_for o b budget) x) (sym listed)
    (searched_so output f budget b o got got' (subst (λ (t : Target). OutcomeSo 1048575 f t o) same (subst (λ n. OutcomeSo n f (Marked a) o) all so))
    (subst (λ (t : Target). AddsSection output t got got' (SectionSo 1048575 f budget o)) same (subst (λ n. AddsSection output (Marked a) got got' (SectionSo n f budget o)) all adds))))

-- a stop behind a whole section
pub stopped_behind : (output : ℕ) (target : Target) (Holds : Section → Type 0) (a b : Option (List ℕ)) (before now : ℕ) (OfSink : Type 0) → (OfSink → ⊥) → AddsSection output target a b Holds → before ≤ now → StoppedAsking output a b before now OfSink
stopped_behind output target Holds a b before now OfSink other adds later = record {
  more = Question adds.section ∷ [];
  are = All-cons (IsSectionOf output) (Question adds.section) [] (adds.output_is, adds.asked) (All-nil (IsSectionOf output));
  front = front_of_all a b (parts_text Two (Question adds.section ∷ [])) (subst (Gains a b) (sym (append-nil (section_text adds.section))) adds.gained);
  later = later;
  cause = λ e. absurd (other e);
}
