-- The parts of a journal and the blocks of a report, one after another, and which blocks stand whole.
use Rattle.std.proofs.Common.{◌≡◌, ℕ, zero, suc, ◌+◌, ◌<◌, ◌≤◌, List, [], ◌∷◌, ◌++◌, length, refl, sym, ap, ap₂, ◌∙◌, arith, append_assoc, length-append, codes, inl, inr}
use Rattle.std.specs.Prelude.{All}
use Rattle.std.specs.List.{Contains, range_with_len}
use Rattle.std.proofs.lemmas.List.{append-nil}
use Rattle.std.proofs.lemmas.List.Concat.{flat_map-append}
use Rattle.std.proofs.lemmas.List.Elements.{All-nil, All-cons, All-head, All-tail, All-weaker, All-contains, Contains-append_cases}
use Rattle.report_text.specs.declared.answer.Version.{Version}
use Rattle.report_text.specs.declared.answer.Version.TheVariants.{Two}
use Rattle.report_text.specs.Bounds.{IsBlock}
use Rattle.report_text.specs.Report.{BlockParts, ReportParts, block_lines, block_text, blocks_text, report_text}
use Rattle.report_text.specs.Report as report
use Rattle.journal_text.specs.Bounds.{IsPart}
use Rattle.journal_text.specs.Parts.{Section, Part, Question, Answered}
use Rattle.journal_text.specs.Text.{head_text, part_text, parts_text, front_text, journal_text}
use Rattle.lattice_question.specs.Written.{IsSectionOf}
use Rattle.four_lattice.specs.Synth.{IsFront, answers_of}

-- ---- fronts

pub front-same : (text : List ℕ) → IsFront text text
front-same text = ([], sym (append-nil text))

pub front-trans : (a b c : List ℕ) → IsFront a b → IsFront b c → IsFront a c
front-trans a b c h k = (h.0 ++ k.0, k.1 ∙ ap (λ w. w ++ k.0) h.1 ∙ append_assoc a h.0 k.0)

pub front-more : (a b : List ℕ) → IsFront a (a ++ b)
front-more a b = (b, refl)

pub front-behind : (x a b : List ℕ) → IsFront a b → IsFront (x ++ a) (x ++ b)
front-behind x a b h = (h.0, ap (λ w. x ++ w) h.1 ∙ sym (append_assoc x a h.0))

pub front-length : (a b : List ℕ) → IsFront a b → length a ≤ length b
front-length a b h = let e : length b ≡ length a + length h.0 = ap length h.1 ∙ length-append a h.0 in omega (arith, e)

-- ---- parts

pub answers-append : (xs ys : List Part) → answers_of (xs ++ ys) ≡ answers_of xs ++ answers_of ys
answers-append [] ys = refl
answers-append (Question s ∷ xs) ys = answers-append xs ys
answers-append (Answered block ∷ xs) ys = ap (λ (bs : List BlockParts). block ∷ bs) (answers-append xs ys)

pub no_answers : (output : ℕ) (more : List Part) → All (IsSectionOf output) more → answers_of more ≡ []
no_answers output [] h = refl
no_answers output (Question s ∷ more) h = no_answers output more (All-tail (IsSectionOf output) (Question s) more h)
no_answers output (Answered block ∷ more) h = absurd (All-head (IsSectionOf output) (Answered block) more h)

section-bounds : (output : ℕ) (part : Part) → IsSectionOf output part → IsPart Two part
section-bounds output (Question s) h = h.1
section-bounds output (Answered block) h = absurd h

pub sections-bounds : (output : ℕ) (more : List Part) → All (IsSectionOf output) more → All (IsPart Two) more
sections-bounds output more h = All-weaker (IsSectionOf output) (IsPart Two) (section-bounds output) more h

pub answers-bounds : (all : List Part) → All (IsPart Two) all → All (IsBlock Two) (answers_of all)
answers-bounds [] h = All-nil (IsBlock Two)
answers-bounds (Question s ∷ all) h = answers-bounds all (All-tail (IsPart Two) (Question s) all h)
answers-bounds (Answered block ∷ all) h =
    All-cons (IsBlock Two) block (answers_of all) (All-head (IsPart Two) (Answered block) all h).0 (answers-bounds all (All-tail (IsPart Two) (Answered block) all h))

-- a section among those of an output, and an answer, is of the output
pub section-among : (output : ℕ) (more : List Part) (block : BlockParts) → All (IsSectionOf output) more → (s : Section) → Contains (more ++ Answered block ∷ []) (Question s) → s.output ≡ output
section-among output more block h s c = elim (Contains-append_cases more (Answered block ∷ []) (Question s) c) [
  | inl here ↦ (All-contains (IsSectionOf output) more (Question s) h here).0
  | inr there ↦ absurd (none s block there)
] where
  apart : (s : Section) (block : BlockParts) → Answered block ≡ Question s → ⊥
  apart s block e = cc

  none : (s : Section) (block : BlockParts) → Contains (Answered block ∷ []) (Question s) → ⊥
  none s block (zero, l, e) = apart s block e
  none s block (suc k, l, e) = omega (arith, l)

-- an element behind those before it
pub all-at : {X : Type 0} (P : X → Type 0) (before later : List X) (x : X) → All P (before ++ x ∷ later) → P x
all-at P [] later x h = All-head P x later h
all-at P (b ∷ before) later x h = all-at P before later x (All-tail P b (before ++ x ∷ later) h)

-- ---- texts

pub front_text-more : (version : Version) (rails : ℕ) (parts more : List Part) → front_text version rails (parts ++ more) ≡ front_text version rails parts ++ parts_text version more
unfolding front_text
front_text-more version rails parts more =
    ap (λ w. head_text version rails ++ w) (flat_map-append (part_text version) parts more) ∙ sym (append_assoc (head_text version rails) (parts_text version parts) (parts_text version more))

pub front_text-is : (version : Version) (rails : ℕ) (parts : List Part) → front_text version rails parts ≡ head_text version rails ++ parts_text version parts
unfolding front_text
front_text-is version rails parts = refl

pub journal_text-is : (version : Version) (rails : ℕ) (parts : List Part) → journal_text (record { version = version; rails = rails; parts = parts }) ≡ front_text version rails parts ++ codes "end\n"
unfolding journal_text
journal_text-is version rails parts = refl

pub report_text-is : (r : ReportParts) → report_text r ≡ report.head_text r.version r.rails r.input_names ++ (blocks_text r.version r.blocks ++ codes "end\n")
unfolding report_text
report_text-is r = refl

-- ---- blocks that stand whole

block-some : (block : BlockParts) → 1 ≤ length (block_text Two block)
unfolding block_text block_lines
block-some block = omega arith

cons-head : {X : Type 0} (x y : X) (xs ys : List X) → x ∷ xs ≡ y ∷ ys → x ≡ y
cons-head x y xs ys e = cc

cons-tail : {X : Type 0} (x y : X) (xs ys : List X) → x ∷ xs ≡ y ∷ ys → xs ≡ ys
cons-tail x y xs ys e = cc

blocks-some : (before : List BlockParts) (block : BlockParts) → 1 ≤ length (blocks_text Two (before ++ block ∷ []))
blocks-some [] block =
    let e : length (block_text Two block ++ []) ≡ length (block_text Two block) = ap length (append-nil (block_text Two block)) in
    let some = block-some block in omega (arith, e, some)
blocks-some (b ∷ before) block =
    let e : length (block_text Two b ++ blocks_text Two (before ++ block ∷ [])) ≡ length (block_text Two b) + length (blocks_text Two (before ++ block ∷ [])) =
    length-append (block_text Two b) (blocks_text Two (before ++ block ∷ [])) in
    let some = block-some b in omega (arith, e, some)

-- a block whose text ends within the texts of the first blocks is one of them
pub stands-within : (done left before later : List BlockParts) (block : BlockParts) → done ++ left ≡ before ++ block ∷ later
    → length (blocks_text Two (before ++ block ∷ [])) ≤ length (blocks_text Two done) → (mid : List BlockParts) × (done ≡ before ++ block ∷ mid)
stands-within [] left before later block e few = let some = blocks-some before block in absurd (omega (arith, some, few))
stands-within (d ∷ done) left [] later block e few = (done, ap (λ (b : BlockParts). b ∷ done) (cons-head d block (done ++ left) later e))
stands-within (d ∷ done) left (b ∷ before) later block e few =
    let same : d ≡ b = cons-head d b (done ++ left) (before ++ block ∷ later) e in
    let here : length (block_text Two b ++ blocks_text Two (before ++ block ∷ [])) ≡ length (block_text Two b) + length (blocks_text Two (before ++ block ∷ [])) =
    length-append (block_text Two b) (blocks_text Two (before ++ block ∷ [])) in
    let there : length (block_text Two d ++ blocks_text Two done) ≡ length (block_text Two d) + length (blocks_text Two done) = length-append (block_text Two d) (blocks_text Two done) in
    let size : length (block_text Two d) ≡ length (block_text Two b) = ap (λ (x : BlockParts). length (block_text Two x)) same in
    let rest = stands-within done left before later block (cons-tail d b (done ++ left) (before ++ block ∷ later) e) (omega (arith, few, here, there, size)) in
    (rest.0, ap₂ (λ (x : BlockParts) (xs : List BlockParts). x ∷ xs) same rest.1)

-- ---- ranges

pub range-split : (first n m : ℕ) → range_with_len first (n + m) ≡ range_with_len first n ++ range_with_len (first + n) m
range-split first zero m =
    let e : 0 + m ≡ m = omega arith in let f : first ≡ first + 0 = omega arith in
    ap (range_with_len first) e ∙ ap (λ k. range_with_len k m) f
range-split first (suc n) m =
    let e : suc n + m ≡ suc (n + m) = omega arith in let f : first + 1 + n ≡ first + suc n = omega arith in
    ap (range_with_len first) e ∙ ap (λ (l : List ℕ). first ∷ l) (range-split (first + 1) n m ∙ ap (λ k. range_with_len (first + 1) n ++ range_with_len k m) f)

pub range-below : (first n limit : ℕ) → first + n ≤ limit → All (λ k. k < limit) (range_with_len first n)
range-below first zero limit h = All-nil (λ k. k < limit)
range-below first (suc n) limit h = All-cons (λ k. k < limit) first (range_with_len (first + 1) n) (omega (arith, h)) (range-below (first + 1) n limit (omega (arith, h)))

pub range-without : (first n k : ℕ) → first + n ≤ k → Contains (range_with_len first n) k → ⊥
range-without first n k h c = let l : k < first + n = All-contains (λ i. i < first + n) (range_with_len first n) k (range-below first n (first + n) (omega arith)) c in omega (arith, h, l)
