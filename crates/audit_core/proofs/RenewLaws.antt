-- Parts that are given their lists of proofs.
use Rattle.std.proofs.Common.{◌≡◌, ℕ, suc, ◌+◌, ◌<◌, ◌≤◌, List, [], ◌∷◌, ◌++◌, length, get_or, drop, map, refl, sym, ap, ◌∙◌, subst, arith, append_assoc, length-append, inl, inr}
use Rattle.std.specs.Prelude.{All}
use Rattle.std.specs.List.{Contains}
use Rattle.std.proofs.lemmas.List.{append-nil, length-map, drop_all, get_or-map, drop_more, map-append}
use Rattle.std.proofs.lemmas.List.Elements.{All-append, All-cons, All-head, All-tail, All-nil}
use Rattle.lattice_grid.specs.Defects.{Defects}
use Rattle.lattice_grid.specs.Rectangle.{Size}
use Rattle.lrat_replay.proofs.Tools.{Contains-head, Contains-cases}
use Rattle.report_text.specs.Report.{BlockParts}
use Rattle.report_text.specs.declared.answer.Answer.{Answer}
use Rattle.report_text.specs.declared.answer.Answer.TheVariants as answers
use Rattle.report_text.specs.declared.answer.Proof.{Proof}
use Rattle.journal_text.specs.Good.{Lists, ListsFirst, Listed, IsRefutedWhole, IsRefutedOn}
use Rattle.journal_text.specs.Least.{area}
use Rattle.journal_text.specs.Parts.{Section, Part, Question, Answered, part_of}
use Rattle.journal_text.specs.Proved.{HasWhole, HasMarked}
use Rattle.journal_text.specs.declared.journal.Part.{Part as PartRead}
use Rattle.journal_text.specs.declared.target.Close.TheVariants.{Refuted, Spent}
use Rattle.audit_core.specs.Audit.{IsBelow, AreExcluded, IsCovered, HasSection}
use Rattle.audit_core.specs.Listing.{HasFewSteps, Adds, ListsAfter, AreListed, IsRelisted}
use Rattle.audit_core.specs.Renewed.{unlisted}
use Rattle.audit_core.specs.Sought.{IsSection, IsWholeOf, IsMarkedOf, proof_of, ListsClosed}
use Rattle.audit_core.proofs.SeenLaws.{each_more}
use Rattle.audit_core.proofs.SoughtLaws.{lists_skip, first_skip, first_is, dec_marked}
use Rattle.cube_core.specs.Function.{Function}

-- ---- lists of proofs, part by part

pub adds_none : (Counts : Section → Type 0) (part : Part) (proofs : List Proof) → (IsSection Counts part → ⊥) → Adds Counts part proofs proofs
adds_none Counts part proofs not rest later h = (later, refl, (lists_skip Counts part rest later not).1 h)

pub adds_one : (Counts : Section → Type 0) (part : Part) (s : Section) (old new : List Proof) (proof : Proof) → part ≡ Question s → Counts s → proof ≡ proof_of s → new ≡ old ++ proof ∷ [] → Adds Counts part old new
adds_one Counts part s old new proof is counts same e rest later h = (
  proof_of s ∷ later,
  ap (λ p. old ++ p ∷ later) (sym same) ∙ sym (append_assoc old (proof ∷ []) later) ∙ ap (λ l. l ++ later) (sym e),
  subst (λ p. Lists Counts (p ∷ rest) (proof_of s ∷ later)) (sym is) (inl (counts, later, refl, h)),
)

-- what is gathered of the parts up to a place, whatever proofs those from it on have
abbrev pub Gathers : (Section → Type 0) → List PartRead → ℕ → List Proof → Type 0
Gathers Counts parts i proofs = (later : List Proof) → Lists Counts (map part_of (drop i parts)) later → Lists Counts (map part_of parts) (proofs ++ later)

pub rest_of : (parts : List PartRead) (i : ℕ) (p : PartRead) → i < length parts → p ≡ get_or parts i p → map part_of (drop i parts) ≡ part_of p ∷ map part_of (drop (i + 1) parts)
rest_of parts i p within is = ap (map part_of) (drop_more parts i p within) ∙ ap (λ q. part_of q ∷ map part_of (drop (i + 1) parts)) (sym is)

pub gathers_more : (Counts : Section → Type 0) (parts : List PartRead) (i : ℕ) (p : PartRead) (old new : List Proof) → i < length parts → p ≡ get_or parts i p → Gathers Counts parts i old → Adds Counts (part_of p) old new → Gathers Counts parts (i + 1) new
gathers_more Counts parts i p old new within is before adds later h =
    let more = adds (map part_of (drop (i + 1) parts)) later h in
    subst (Lists Counts (map part_of parts)) more.1 (before more.0 (subst (λ ps. Lists Counts ps more.0) (sym (rest_of parts i p within is)) more.2))

pub gathers_all : (Counts : Section → Type 0) (parts : List PartRead) (i : ℕ) (proofs : List Proof) → length parts ≤ i → Gathers Counts parts i proofs → Lists Counts (map part_of parts) proofs
gathers_all Counts parts i proofs ended h =
    subst (Lists Counts (map part_of parts)) (append-nil proofs) (h [] (subst (λ ps. Lists Counts ps []) (sym (ap (map part_of) (drop_all i parts ended))) refl))

pub part_has : (P : Part → Type 0) (parts : List PartRead) (i : ℕ) (p : PartRead) → i < length parts → p ≡ get_or parts i p → All P (map part_of parts) → P (part_of p)
part_has P parts i p within is h = subst P (get_or-map part_of parts i p (part_of p) within ∙ ap part_of (sym is)) (h i (part_of p) (let n = length-map parts part_of in omega (arith, n, within)))

-- the first section with an array, from a place on
abbrev pub Firsts : ℕ → Defects → List PartRead → ℕ → Type 0
Firsts output array parts i = (proofs : List Proof) → ListsFirst (IsMarkedOf output array Refuted) (map part_of (drop i parts)) proofs → ListsFirst (IsMarkedOf output array Refuted) (map part_of parts) proofs

pub firsts_more : (output : ℕ) (array : Defects) (parts : List PartRead) (i : ℕ) (p : PartRead) → i < length parts → p ≡ get_or parts i p → Firsts output array parts i → (IsSection (IsMarkedOf output array Refuted) (part_of p) → ⊥) → Firsts output array parts (i + 1)
firsts_more output array parts i p within is before not proofs h =
    let Counts = IsMarkedOf output array Refuted in
    before proofs (subst (λ ps. ListsFirst Counts ps proofs) (sym (rest_of parts i p within is)) ((first_skip Counts (part_of p) (map part_of (drop (i + 1) parts)) proofs not).1 h))

pub firsts_here : (output : ℕ) (array : Defects) (parts : List PartRead) (i : ℕ) (p : PartRead) (s : Section) → i < length parts → p ≡ get_or parts i p → Firsts output array parts i → part_of p ≡ Question s → IsMarkedOf output array Refuted s
    → ListsFirst (IsMarkedOf output array Refuted) (map part_of parts) (proof_of s ∷ [])
firsts_here output array parts i p s within is before part marked =
    let Counts = IsMarkedOf output array Refuted in
    before (proof_of s ∷ []) (subst (λ ps. ListsFirst Counts ps (proof_of s ∷ [])) (sym (rest_of parts i p within is ∙ ap (λ q. q ∷ map part_of (drop (i + 1) parts)) part))
    ((first_is Counts (dec_marked output array) s (map part_of (drop (i + 1) parts)) (proof_of s ∷ []) marked).0 refl))

pub later_in : {X : Type 0} (y : X) (xs : List X) (x : X) → Contains xs x → Contains (y ∷ xs) x
later_in y xs x (k, w, e) = (suc k, omega (arith, w), e)

pub all_front : {X : Type 0} (P : X → Type 0) (front later : List X) → All P (front ++ later) → All P front
all_front P [] later h = All-nil P
all_front P (x ∷ front) later h = All-cons P x front (All-head P x (front ++ later) h) (all_front P front later (All-tail P x (front ++ later) h))

-- ---- parts that are the same, lists of proofs aside

pub none_is_some : {X : Type 0} (x : X) (xs : List X) → [] ≡ x ∷ xs → ⊥
none_is_some x xs e = let n = ap length e in absurd (omega (arith, n))

pub head_is : {X : Type 0} (x y : X) (xs ys : List X) → x ∷ xs ≡ y ∷ ys → x ≡ y
head_is x y xs ys e = ap (λ l. get_or l 0 x) e

pub tail_is : {X : Type 0} (x y : X) (xs ys : List X) → x ∷ xs ≡ y ∷ ys → xs ≡ ys
tail_is x y xs ys e = ap (drop 1) e

abbrev question_or : Section → Part → Section
question_or s (Question t) = t
question_or s (Answered block) = s

abbrev block_or : BlockParts → Part → BlockParts
block_or b (Question t) = b
block_or b (Answered block) = block

pub question_is_answer : (s : Section) (b : BlockParts) → Question s ≡ Answered b → ⊥
question_is_answer s b e = cc

pub same_question : (s t : Section) → Question s ≡ Question t → s ≡ t
same_question s t e = ap (question_or s) e

-- a block without its list of proofs, and with one
abbrev pub bare : BlockParts → BlockParts
bare b = record { output = b.output; name = b.name; answer = b.answer; proofs = [] }

abbrev pub with_proofs : BlockParts → List Proof → BlockParts
with_proofs b proofs = record { output = b.output; name = b.name; answer = b.answer; proofs = proofs }

pub same_block : (b c : BlockParts) → Answered (bare b) ≡ Answered (bare c) → bare b ≡ bare c
same_block b c e = ap (block_or (bare b)) e

pub few_same : (p q : Part) → unlisted q ≡ unlisted p → HasFewSteps p → HasFewSteps q
few_same (Question s) (Question t) e h = subst (λ (x : Section). length x.steps ≤ 536870912) (sym (same_question t s e)) h
few_same (Question s) (Answered b) e h = tt
few_same (Answered a) (Question t) e h = absurd (question_is_answer t (bare a) e)
few_same (Answered a) (Answered b) e h = tt

pub below_same : (output : ℕ) (xs ys : List Part) → map unlisted ys ≡ map unlisted xs → All (IsBelow output) xs → All (IsBelow output) ys
below_same output [] [] e h = h
below_same output [] (y ∷ ys) e h = absurd (none_is_some _ _ (sym e))
below_same output (x ∷ xs) [] e h = All-nil (IsBelow output)
below_same output (x ∷ xs) (y ∷ ys) e h =
    All-cons (IsBelow output) y ys (one x y (head_is _ _ _ _ e) (All-head (IsBelow output) x xs h)) (below_same output xs ys (tail_is _ _ _ _ e) (All-tail (IsBelow output) x xs h)) where
      one : (p q : Part) → unlisted q ≡ unlisted p → IsBelow output p → IsBelow output q
      one p (Question t) e h = tt
      one (Question s) (Answered b) e h = absurd (question_is_answer s (bare b) (sym e))
      one (Answered a) (Answered b) e h = subst (λ (x : BlockParts). x.output < output) (sym (same_block b a e)) h

Contains-none : {X : Type 0} (x : X) → Contains [] x → ⊥
Contains-none x (k, w, e) = absurd (omega (arith, w))

pub contains_same : (s : Section) (xs ys : List Part) → map unlisted ys ≡ map unlisted xs → Contains xs (Question s) → Contains ys (Question s)
contains_same s [] ys e h = absurd (Contains-none (Question s) h)
contains_same s (x ∷ xs) [] e h = absurd (none_is_some _ _ e)
contains_same s (x ∷ xs) (y ∷ ys) e h = elim (Contains-cases x xs (Question s) h) [
  | inl here ↦ subst (λ p. Contains (p ∷ ys) (Question s)) (one y (head_is _ _ _ _ e ∙ ap unlisted here)) (Contains-head (Question s) ys)
  | inr later ↦ let more = contains_same s xs ys (tail_is _ _ _ _ e) later in (suc more.0, (let within = more.1 in omega (arith, within)), more.2)
] where
  one : (p : Part) → unlisted p ≡ Question s → Question s ≡ p
  one (Question t) e = sym e
  one (Answered b) e = absurd (question_is_answer s (bare b) (sym e))

pub whole_same : (xs ys : List Part) (output : ℕ) (size : Size) (Holds : Section → Type 0) → map unlisted ys ≡ map unlisted xs → HasWhole xs output size Holds → HasWhole ys output size Holds
whole_same xs ys output size Holds e h = record { section = h.section; is_in = contains_same h.section xs ys e h.is_in; of_output = h.of_output; size_is = h.size_is; no_array = h.no_array; holds = h.holds }

pub marked_same : (xs ys : List Part) (output : ℕ) (array : Defects) (Holds : Section → Type 0) → map unlisted ys ≡ map unlisted xs → HasMarked xs output array Holds → HasMarked ys output array Holds
marked_same xs ys output array Holds e h = record { section = h.section; is_in = contains_same h.section xs ys e h.is_in; of_output = h.of_output; array_is = h.array_is; holds = h.holds }

lists_later : (Counts : Section → Type 0) (p q : Part) (xs ys : List Part) (proofs : List Proof) → unlisted q ≡ unlisted p → ((later : List Proof) → Lists Counts xs later → Lists Counts ys later) → Lists Counts (p ∷ xs) proofs → Lists Counts (q ∷ ys) proofs
lists_later Counts (Question s) (Question t) xs ys proofs e more h =
    subst (λ (x : Section). Lists Counts (Question x ∷ ys) proofs) (sym (same_question t s e)) (elim h [ inl k ↦ inl (k.0, k.1, k.2, more k.1 k.3) | inr k ↦ inr (k.0, more proofs k.1) ])
lists_later Counts (Question s) (Answered b) xs ys proofs e more h = absurd (question_is_answer s (bare b) (sym e))
lists_later Counts (Answered a) (Question t) xs ys proofs e more h = absurd (question_is_answer t (bare a) e)
lists_later Counts (Answered a) (Answered b) xs ys proofs e more h = more proofs h

pub lists_same : (Counts : Section → Type 0) (xs ys : List Part) (proofs : List Proof) → map unlisted ys ≡ map unlisted xs → Lists Counts xs proofs → Lists Counts ys proofs
lists_same Counts [] [] proofs e h = h
lists_same Counts [] (y ∷ ys) proofs e h = absurd (none_is_some _ _ (sym e))
lists_same Counts (x ∷ xs) [] proofs e h = absurd (none_is_some _ _ e)
lists_same Counts (x ∷ xs) (y ∷ ys) proofs e h = lists_later Counts x y xs ys proofs (head_is _ _ _ _ e) (λ later k. lists_same Counts xs ys later (tail_is _ _ _ _ e) k) h

first_same : (Counts : Section → Type 0) (xs ys : List Part) (proofs : List Proof) → map unlisted ys ≡ map unlisted xs → ListsFirst Counts xs proofs → ListsFirst Counts ys proofs
first_same Counts xs ys proofs e h = record { proof = h.proof; later = h.later; all = lists_same Counts xs ys (h.proof ∷ h.later) e h.all; one = h.one }

pub listed_same : (rails output : ℕ) (f : Function) (xs ys : List Part) (answer : Answer) (proofs : List Proof) → map unlisted ys ≡ map unlisted xs → Listed rails output f xs answer proofs → Listed rails output f ys answer proofs
listed_same rails output f xs ys (answers.Found g) proofs e h = h
listed_same rails output f xs ys (answers.Minimum g) proofs e h = lists_same (IsRefutedWhole rails output f) xs ys proofs e h
listed_same rails output f xs ys (answers.Undecided g least at after) proofs e h = lists_same (IsRefutedWhole rails output f) xs ys proofs e h
listed_same rails output f xs ys (answers.Mapped g a) proofs e h = h
listed_same rails output f xs ys (answers.NoneMapped a) proofs e h = first_same (IsRefutedOn rails output f a) xs ys proofs e h
listed_same rails output f xs ys (answers.MapUndecided a after) proofs e h = h
listed_same rails output f xs ys (answers.NoRails on off) proofs e h = h

pub closed_same : (output : ℕ) (xs ys : List Part) (answer : Answer) (proofs : List Proof) → map unlisted ys ≡ map unlisted xs → ListsClosed output xs answer proofs → ListsClosed output ys answer proofs
closed_same output xs ys (answers.Found g) proofs e h = h
closed_same output xs ys (answers.Minimum g) proofs e h = lists_same (IsWholeOf output Refuted) xs ys proofs e h
closed_same output xs ys (answers.Undecided g least at after) proofs e h = lists_same (IsWholeOf output Refuted) xs ys proofs e h
closed_same output xs ys (answers.Mapped g a) proofs e h = h
closed_same output xs ys (answers.NoneMapped a) proofs e h = first_same (IsMarkedOf output a Refuted) xs ys proofs e h
closed_same output xs ys (answers.MapUndecided a after) proofs e h = h
closed_same output xs ys (answers.NoRails on off) proofs e h = h

excluded_same : (xs ys : List Part) (output least : ℕ) → map unlisted ys ≡ map unlisted xs → AreExcluded xs output least → AreExcluded ys output least
excluded_same xs ys output least e h s size less = let t = h s size less in (t.0, t.1, whole_same xs ys output t.0 (λ q. q.close ≡ Refuted) e t.2)

pub covered_same : (xs ys : List Part) (output : ℕ) (answer : Answer) → map unlisted ys ≡ map unlisted xs → IsCovered xs output answer → IsCovered ys output answer
covered_same xs ys output (answers.Found g) e h = h
covered_same xs ys output (answers.Minimum g) e h = excluded_same xs ys output (area g) e h
covered_same xs ys output (answers.Undecided g least at after) e h = excluded_same xs ys output least e h
covered_same xs ys output (answers.Mapped g a) e h = h
covered_same xs ys output (answers.NoneMapped a) e h = h
covered_same xs ys output (answers.MapUndecided a after) e h = h
covered_same xs ys output (answers.NoRails on off) e h = h

pub section_same : (xs ys : List Part) (output : ℕ) (answer : Answer) → map unlisted ys ≡ map unlisted xs → HasSection xs output answer → HasSection ys output answer
section_same xs ys output (answers.Found g) e h = h
section_same xs ys output (answers.Minimum g) e h = h
section_same xs ys output (answers.Undecided g least at after) e h = whole_same xs ys output at (λ q. q.close ≡ Spent after) e h
section_same xs ys output (answers.Mapped g a) e h = h
section_same xs ys output (answers.NoneMapped a) e h = marked_same xs ys output a (λ q. q.close ≡ Refuted) e h
section_same xs ys output (answers.MapUndecided a after) e h = marked_same xs ys output a (λ q. q.close ≡ Spent after) e h
section_same xs ys output (answers.NoRails on off) e h = h

-- a part of a list, and the one in the same place of another
pub record IsBeside (ys before : List Part) (p : Part) : Type 0 where
  pub front : List Part
  pub part : Part
  pub later : List Part
  pub whole : ys ≡ front ++ part ∷ later
  pub fronts : map unlisted before ≡ map unlisted front
  pub parts : unlisted p ≡ unlisted part

pub beside : (before : List Part) (p : Part) (later ys : List Part) → map unlisted (before ++ p ∷ later) ≡ map unlisted ys → IsBeside ys before p
beside [] p later [] e = absurd (none_is_some _ _ (sym e))
beside [] p later (y ∷ ys) e = record { front = []; part = y; later = ys; whole = refl; fronts = refl; parts = head_is _ _ _ _ e }
beside (b ∷ before) p later [] e = absurd (none_is_some _ _ (sym e))
beside (b ∷ before) p later (y ∷ ys) e =
    let more = beside before p later ys (tail_is _ _ _ _ e) in
    let first = head_is _ _ _ _ e in
    record {
      front = y ∷ more.front;
      part = more.part;
      later = more.later;
      whole = ap (λ l. y ∷ l) more.whole;
      fronts = ap (λ q. q ∷ map unlisted before) first ∙ ap (λ l. unlisted y ∷ l) more.fronts;
      parts = more.parts;
    }

-- ---- a loop over parts

-- some parts are listed anew, and these are left of the old ones
pub record IsRelisting (made rest old : List Part) : Type 0 where
  pub same : map unlisted made ++ map unlisted rest ≡ map unlisted old
  pub listed : AreListed made
  pub few : All HasFewSteps made
  pub few_left : All HasFewSteps rest

pub relisting_none : (rest old : List Part) → rest ≡ old → All HasFewSteps old → IsRelisting [] rest old
relisting_none rest old e few = record {
  same = ap (map unlisted) e;
  listed = λ before part later whole. absurd (nothing before part later whole);
  few = All-nil HasFewSteps;
  few_left = subst (All HasFewSteps) (sym e) few;
} where
  nothing : (before : List Part) (part : Part) (later : List Part) → [] ≡ before ++ part ∷ later → ⊥
  nothing before part later e = let n = ap length e in absurd (omega (arith, n, length-append before (part ∷ later)))

listed_more : (before : List Part) (p : Part) → AreListed before → ListsAfter before p → AreListed (before ++ p ∷ [])
listed_more before p listed now = each_more ListsAfter before p listed now

pub relisting_more : (made rest left old : List Part) (p q : Part) → left ≡ p ∷ rest → IsRelisting made left old → unlisted q ≡ unlisted p → ListsAfter made q → IsRelisting (made ++ q ∷ []) rest old
relisting_more made rest left old p q e h same listed =
    let few : All HasFewSteps (p ∷ rest) = subst (All HasFewSteps) e h.few_left in
    record {
      same =
          ap (λ l. l ++ map unlisted rest) (map-append unlisted made (q ∷ []))
          ∙ append_assoc (map unlisted made) (unlisted q ∷ []) (map unlisted rest)
          ∙ ap (λ x. map unlisted made ++ x ∷ map unlisted rest) same
          ∙ ap (λ l. map unlisted made ++ map unlisted l) (sym e)
          ∙ h.same;
      listed = listed_more made q h.listed listed;
      few = All-append HasFewSteps made (q ∷ []) h.few (All-cons HasFewSteps q [] (few_same p q same (All-head HasFewSteps p rest few)) (All-nil HasFewSteps));
      few_left = All-tail HasFewSteps p rest few;
    }

pub relisting_all : (made rest old : List Part) → rest ≡ [] → IsRelisting made rest old → map unlisted made ≡ map unlisted old
relisting_all made rest old e h = sym (append-nil (map unlisted made)) ∙ ap (λ l. map unlisted made ++ map unlisted l) (sym e) ∙ h.same

pub relisting_next : (made pushed behind left rest : List PartRead) (old : List Part) (p q : PartRead) → left ≡ p ∷ rest → pushed ≡ made ++ q ∷ [] → behind ≡ made → IsRelisting (map part_of made) (map part_of left) old
    → IsRelisted (map part_of behind) (part_of p) (part_of q) → IsRelisting (map part_of pushed) (map part_of rest) old
relisting_next made pushed behind left rest old p q e f b h listed =
    let after : ListsAfter (map part_of made) (part_of q) = subst (λ ps. ListsAfter (map part_of ps) (part_of q)) b listed.listed in
    subst (λ ps. IsRelisting ps (map part_of rest) old) (sym (ap (map part_of) f ∙ map-append part_of made (q ∷ [])))
    (relisting_more (map part_of made) (map part_of rest) (map part_of left) old (part_of p) (part_of q) (ap (map part_of) e) h listed.same after)
