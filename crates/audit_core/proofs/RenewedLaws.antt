-- A journal made anew is right where the old one is, and there is one.
use Rattle.std.proofs.Common.{◌≡◌, ℕ, ◌≤◌, List, [], ◌∷◌, ◌++◌, length, map, refl, sym, ap, ◌∙◌, subst, arith, length-append, inl, inr, codes}
use Rattle.std.specs.Prelude.{All, slice_get, Some, false}
use Rattle.std.specs.List.{Contains}
use Rattle.std.specs.declared.option.Option.{Option}
use Rattle.std.proofs.lemmas.Bool.{false≢true}
use Rattle.std.proofs.lemmas.List.Elements.{All-cons, All-head, All-tail, All-nil}
use Rattle.clause_core.specs.Cnf.{literals_text}
use Rattle.cube_core.specs.Function.{Function}
use Rattle.lrat_replay.proofs.Tools.{Contains-head}
use Rattle.lrat_replay.specs.LratText.{step_text, id_text, end_text, hints_text}
use Rattle.lrat_replay.specs.declared.line.Step.{Step}
use Rattle.pla_reader.specs.Parts.{Parts}
use Rattle.report_text.proofs.Tools.{size_of_array}
use Rattle.report_text.specs.Bounds.{IsBlock, IsProof, AreRails}
use Rattle.report_text.specs.Report.{BlockParts}
use Rattle.report_text.specs.declared.answer.Answer.{Answer}
use Rattle.report_text.specs.declared.answer.Answer.TheVariants as answers
use Rattle.report_text.specs.declared.answer.Proof.{Proof}
use Rattle.report_text.specs.declared.answer.Version.{Version}
use Rattle.report_text.specs.declared.answer.Version.TheVariants.{One, Two}
use Rattle.report_text.specs.Form.{form_of, lists}
use Rattle.journal_text.specs.Bounds.{IsTarget, IsAsked, IsPart, IsJournal, MayStand}
use Rattle.journal_text.specs.Good.{Lists, ListsFirst, Listed, IsRefutedWhole, IsRefutedOn}
use Rattle.journal_text.specs.Parts.{Section, Part, Question, Answered, JournalParts, size_of}
use Rattle.journal_text.specs.Proved.{formula_of}
use Rattle.journal_text.specs.Text.{question_text, steps_text, close_text, section_text, part_text, parts_text, head_text, front_text, journal_text}
use Rattle.journal_text.specs.declared.target.Target.{Target}
use Rattle.journal_text.specs.declared.target.Target.TheVariants.{Whole, Marked}
use Rattle.journal_text.specs.declared.target.Close.TheVariants.{Refuted}
use Rattle.lattice_grid.specs.Rectangle.{IsSize}
use Rattle.audit_core.specs.Audit.{Basis, Closes, IsRightSection, IsRightAnswer, IsRightPart, AreRight, Audited}
use Rattle.audit_core.specs.Listing.{HasFewSteps, ListsAfter, AreListed}
use Rattle.audit_core.specs.Laws.{IsOneRenewal, IsOwnRenewal}
use Rattle.audit_core.specs.Renewed.{unlisted, IsAnew, IsRenewed}
use Rattle.audit_core.specs.Sought.{IsWholeOf, IsMarkedOf, proof_of, ListsClosed}
use Rattle.audit_core.proofs.RightLaws.{cut_at, right_section_in, right_before, closed_listed}
use Rattle.audit_core.proofs.RenewLaws.{none_is_some, head_is, tail_is, later_in, contains_same, all_front, bare, with_proofs, same_block, same_question, question_is_answer, below_same, covered_same, section_same, closed_same, listed_same, beside}

-- ---- right parts

-- one: what the old journal is tested against; two: the same in version 2
module _ (parts : Parts) (version : Version) (rails : ℕ) where
  abbrev pub one : Basis
  one = record { parts = parts; version = version; rails = rails }

  abbrev pub two : Basis
  two = record { parts = parts; version = Two; rails = rails }

  right_question : (s : Section) → IsRightSection one s → IsRightSection two s
  right_question s h = record { function = h.function; replayed = record { of_output = h.replayed.of_output; accepted = h.replayed.accepted }; closes = h.closes }

  -- old: the parts before it in the old journal; new: those in the new one
  right_answer : (old new : List Part) (block : BlockParts) (proofs : List Proof) → map unlisted new ≡ map unlisted old → AreRight one old → ListsAfter new (Answered (with_proofs block proofs))
      → IsRightAnswer (record { basis = one; before = old; block = block }) → IsRightAnswer (record { basis = two; before = new; block = with_proofs block proofs })
  right_answer old new block proofs same right listed h =
      let met = h.met in
      let section = section_same old new block.output block.answer same met.1.1.1.1.1.0 in
      let closed = closed_same block.output new old block.answer proofs (sym same) (listed section) in
      let list = (closed_listed one old block.output h.function right h.of_output.function block.answer proofs).0 closed in
      record {
        function = h.function;
        of_output = record { later = below_same block.output old new same h.of_output.later; name = h.of_output.name; function = h.of_output.function };
        met = (met.0, (met.1.0, (met.1.1.0, (met.1.1.1.0, (covered_same old new block.output block.answer same met.1.1.1.1.0, (section, (listed_same rails block.output h.function old new block.answer proofs same list, tt)))))));
      }

  right_part : (old new : List Part) (p q : Part) → map unlisted new ≡ map unlisted old → unlisted q ≡ unlisted p → AreRight one old → ListsAfter new q → IsRightPart one old p → IsRightPart two new q
  right_part old new (Question s) (Question t) same e right listed h = subst (IsRightSection two) (sym (same_question t s e)) (right_question s h)
  right_part old new (Question s) (Answered b) same e right listed h = absurd (question_is_answer s (bare b) (sym e))
  right_part old new (Answered a) (Question t) same e right listed h = absurd (question_is_answer t (bare a) e)
  right_part old new (Answered a) (Answered b) same e right listed h =
      let block : bare b ≡ bare a = same_block b a e in
      subst (λ (x : BlockParts). IsRightAnswer (record { basis = two; before = new; block = with_proofs x b.proofs })) (sym block)
      (right_answer old new a b.proofs same right (subst (λ (x : BlockParts). ListsAfter new (Answered (with_proofs x b.proofs))) block listed) h)

  pub right_parts : (old new : List Part) → map unlisted new ≡ map unlisted old → AreListed new → AreRight one old → AreRight two new
  right_parts old new same listed right before q later whole =
      let at = beside before q later old (ap (map unlisted) (sym whole) ∙ same) in
      right_part at.front before at.part q at.fronts at.parts (right_before one old at.front at.part at.later at.whole right) (listed before q later whole) (right at.front at.part at.later at.whole)

-- ---- parts that may stand in a text

lists_of : (Counts : Section → Type 0) (parts : List Part) → ((s : Section) → Contains parts (Question s) → Counts s → IsProof (proof_of s)) → (proofs : List Proof) → Lists Counts parts proofs → All IsProof proofs
lists_of Counts [] each proofs h = subst (All IsProof) (sym h) (All-nil IsProof)
lists_of Counts (Answered b ∷ parts) each proofs h = lists_of Counts parts (λ s is_in. each s (later_in (Answered b) parts (Question s) is_in)) proofs h
lists_of Counts (Question s ∷ parts) each proofs h =
    let rest = lists_of Counts parts (λ t is_in. each t (later_in (Question s) parts (Question t) is_in)) in
    elim h [
      | inl k ↦ subst (All IsProof) (sym k.2) (All-cons IsProof (proof_of s) k.1 (each s (Contains-head (Question s) parts) k.0) (rest k.1 k.3))
      | inr k ↦ rest proofs k.1
    ]

first_of : (Counts : Section → Type 0) (parts : List Part) → ((s : Section) → Contains parts (Question s) → Counts s → IsProof (proof_of s)) → (proofs : List Proof) → ListsFirst Counts parts proofs → All IsProof proofs
first_of Counts parts each proofs h =
    subst (All IsProof) (sym h.one) (All-cons IsProof h.proof [] (All-head IsProof h.proof h.later (lists_of Counts parts each (h.proof ∷ h.later) h.all)) (All-nil IsProof))

no_proofs : (proofs : List Proof) → proofs ≡ [] → All IsProof proofs
no_proofs proofs e = subst (All IsProof) (sym e) (All-nil IsProof)

-- the proofs of an answer have their form, and stand only where a line of them follows
listed_proofs : (output : ℕ) (parts : List Part) (answer : Answer) (proofs : List Proof) → ((s : Section) → Contains parts (Question s) → s.close ≡ Refuted → IsProof (proof_of s)) → ListsClosed output parts answer proofs
    → All IsProof proofs × (lists Two (form_of answer) ≡ false → proofs ≡ [])
listed_proofs output parts (answers.Found g) proofs each h = (no_proofs proofs h, λ _. h)
listed_proofs output parts (answers.Minimum g) proofs each h = (lists_of (IsWholeOf output Refuted) parts (λ s is_in w. each s is_in w.closes) proofs h, λ none. absurd (false≢true (sym none)))
listed_proofs output parts (answers.Undecided g least at after) proofs each h = (lists_of (IsWholeOf output Refuted) parts (λ s is_in w. each s is_in w.closes) proofs h, λ none. absurd (false≢true (sym none)))
listed_proofs output parts (answers.Mapped g a) proofs each h = (no_proofs proofs h, λ _. h)
listed_proofs output parts (answers.NoneMapped a) proofs each h = (first_of (IsMarkedOf output a Refuted) parts (λ s is_in w. each s is_in w.closes) proofs h, λ none. absurd (false≢true (sym none)))
listed_proofs output parts (answers.MapUndecided a after) proofs each h = (no_proofs proofs h, λ _. h)
listed_proofs output parts (answers.NoRails on off) proofs each h = (no_proofs proofs h, λ _. h)

all_in : {X : Type 0} (P : X → Type 0) (front : List X) (x : X) (later : List X) → All P (front ++ x ∷ later) → P x
all_in P [] x later h = All-head P x later h
all_in P (y ∷ front) x later h = all_in P front x later (All-tail P y (front ++ x ∷ later) h)

all_of : {X : Type 0} (P : X → Type 0) (xs : List X) → ((front : List X) (x : X) (later : List X) → xs ≡ front ++ x ∷ later → P x) → All P xs
all_of P [] each = All-nil P
all_of P (x ∷ xs) each = All-cons P x xs (each [] x xs refl) (all_of P xs (λ front y later e. each (x ∷ front) y later (ap (λ l. x ∷ l) e)))

all_with : (P : Part → Type 0) (parts : List Part) (p : Part) → Contains parts p → All P parts → P p
all_with P parts p is_in h = let cut = cut_at parts p is_in in all_in P cut.before p cut.later (subst (All P) cut.whole h)

target_size : (t : Target) → IsTarget t → IsSize (size_of t)
target_size (Whole s) h = h.0
target_size (Marked a) h = size_of_array a h

some_step : (steps : List Step) (step : Step) → Contains steps step → 1 ≤ length steps
some_step steps step (k, w, e) = omega (arith, w)

module _ (parts : Parts) (version : Version) (rails : ℕ) where
  -- a right section that closes as refuted has a proof
  section_proof : (s : Section) → IsRightSection (one parts version rails) s → IsPart version (Question s) → HasFewSteps (Question s) → s.close ≡ Refuted → IsProof (proof_of s)
  section_proof s right asked few closes =
      let last : Closes (formula_of rails right.function s) s.steps Refuted = subst (Closes (formula_of rails right.function s) s.steps) closes right.closes in
      record { size = target_size s.target asked.target; some = some_step s.steps last.0 last.1; few = omega (arith, few) }

  stands : (old new : List Part) (p q : Part) → map unlisted new ≡ map unlisted old → unlisted q ≡ unlisted p → All (IsPart version) old → All HasFewSteps old → AreRight (one parts version rails) old
      → ListsAfter new q → IsRightPart (one parts version rails) old p → IsPart version p → IsPart Two q
  stands old new (Question s) (Question t) same e bounds few right listed h is = subst (λ (x : Section). IsAsked x) (sym (same_question t s e)) is
  stands old new (Question s) (Answered b) same e bounds few right listed h is = absurd (question_is_answer s (bare b) (sym e))
  stands old new (Answered a) (Question t) same e bounds few right listed h is = absurd (question_is_answer t (bare a) e)
  stands old new (Answered a) (Answered b) same e bounds few right listed h is =
      let block : bare b ≡ bare a = same_block b a e in
      let after : ListsAfter new (Answered (with_proofs a b.proofs)) = subst (λ (x : BlockParts). ListsAfter new (Answered (with_proofs x b.proofs))) block listed in
      let section = section_same old new a.output a.answer same h.met.1.1.1.1.1.0 in
      let proofs = listed_proofs a.output new a.answer b.proofs
      (λ s is_in closes. let is_old = contains_same s new old (sym same) is_in in section_proof s (right_section_in (one parts version rails) old s right is_old) (all_with (IsPart version) old (Question s) is_old bounds) (all_with HasFewSteps old (Question s) is_old few) closes)
      (after section) in
      subst (λ (x : BlockParts). IsBlock Two (with_proofs x b.proofs) × MayStand x.answer) (sym block)
      (record { output = is.0.output; name = is.0.name; answer = is.0.answer; has = tt; each = proofs.0; none = proofs.1 }, is.1)

  all_stand : (old new : List Part) → map unlisted new ≡ map unlisted old → All (IsPart version) old → All HasFewSteps old → AreRight (one parts version rails) old → AreListed new → All (IsPart Two) new
  all_stand old new same bounds few right listed =
      all_of (IsPart Two) new (λ before q later whole.
      let at = beside before q later old (ap (map unlisted) (sym whole) ∙ same) in
      let in_front : All (IsPart version) (at.front ++ at.part ∷ at.later) = subst (All (IsPart version)) at.whole bounds in
      let few_front : All HasFewSteps (at.front ++ at.part ∷ at.later) = subst (All HasFewSteps) at.whole few in
      stands at.front before at.part q at.fronts at.parts (all_front (IsPart version) at.front (at.part ∷ at.later) in_front) (all_front HasFewSteps at.front (at.part ∷ at.later) few_front)
      (right_before (one parts version rails) old at.front at.part at.later at.whole right) (listed before q later whole) (right at.front at.part at.later at.whole) (all_in (IsPart version) at.front at.part at.later in_front))

rails_two : (v : Version) (rails : ℕ) → AreRails v rails → AreRails Two rails
rails_two One rails h = omega (arith, h)
rails_two Two rails h = h

-- ---- journals

pub renewed_right : (parts : Parts) (old new : JournalParts) → IsJournal old → All HasFewSteps old.parts → IsAnew old new → AreListed new.parts → Audited parts old → IsRenewed parts old new
renewed_right parts old new journal few anew listed audited =
    let right : AreRight (two parts old.version old.rails) new.parts = right_parts parts old.version old.rails old.parts new.parts anew.same listed audited in
    record {
      anew = anew;
      journal = record {
        rails = subst (λ v. AreRails v new.rails) (sym anew.version) (subst (AreRails Two) (sym anew.rails) (rails_two old.version old.rails journal.rails));
        parts = subst (λ v. All (IsPart v) new.parts) (sym anew.version) (all_stand parts old.version old.rails old.parts new.parts anew.same journal.parts few audited listed);
      };
      audited =
          subst (λ v. AreRight (record { parts = parts; version = v; rails = new.rails }) new.parts) (sym anew.version)
          (subst (λ n. AreRight (record { parts = parts; version = Two; rails = n }) new.parts) (sym anew.rails) right);
    }

-- ---- no section has more steps than its text has bytes

step_some : (step : Step) → 1 ≤ length (step_text step.id step.clause step.hints)
step_some step =
    let ends = length-append (codes "0 ") (hints_text step.hints ++ codes "0\n") in
    omega (arith, length-append (id_text step.id) (literals_text step.clause ++ end_text step.hints), length-append (literals_text step.clause) (end_text step.hints), ends)

many_steps : (steps : List Step) → length steps ≤ length (steps_text steps)
many_steps [] = omega arith
many_steps (step ∷ steps) = let more = many_steps steps in omega (arith, step_some step, more, length-append (step_text step.id step.clause step.hints) (steps_text steps))

few_in : (v : Version) (p : Part) → length (part_text v p) ≤ 536870912 → HasFewSteps p
unfolding section_text
few_in v (Question s) few =
    let many = many_steps s.steps in
    omega (arith, many, few, length-append (question_text s.output s.target) (steps_text s.steps ++ close_text s.close), length-append (steps_text s.steps) (close_text s.close))
few_in v (Answered b) few = tt

few_all : (v : Version) (parts : List Part) → length (parts_text v parts) ≤ 536870912 → All HasFewSteps parts
few_all v [] few = All-nil HasFewSteps
few_all v (p ∷ parts) few =
    let joined = length-append (part_text v p) (parts_text v parts) in
    All-cons HasFewSteps p parts (few_in v p (omega (arith, few, joined))) (few_all v parts (omega (arith, few, joined)))

pub few_steps : (journal : JournalParts) → length (journal_text journal) ≤ 536870912 → All HasFewSteps journal.parts
unfolding journal_text front_text
few_steps journal few =
    few_all journal.version journal.parts (omega (arith, few, length-append (head_text journal.version journal.rails ++ parts_text journal.version journal.parts) (codes "end\n"), length-append (head_text journal.version journal.rails) (parts_text journal.version journal.parts)))

-- ---- one renewal

lists_once : (Counts : Section → Type 0) (parts : List Part) (a b : List Proof) → Lists Counts parts a → Lists Counts parts b → a ≡ b
lists_once Counts [] a b h k = h ∙ sym k
lists_once Counts (Answered block ∷ parts) a b h k = lists_once Counts parts a b h k
lists_once Counts (Question s ∷ parts) a b h k = elim h [
  | inl p ↦ elim k [ inl q ↦ p.2 ∙ ap (λ l. proof_of s ∷ l) (lists_once Counts parts p.1 q.1 p.3 q.3) ∙ sym q.2 | inr q ↦ absurd (q.0 p.0) ]
  | inr p ↦ elim k [ inl q ↦ absurd (p.0 q.0) | inr q ↦ lists_once Counts parts a b p.1 q.1 ]
]

first_once : (Counts : Section → Type 0) (parts : List Part) (a b : List Proof) → ListsFirst Counts parts a → ListsFirst Counts parts b → a ≡ b
first_once Counts parts a b h k =
    let same = head_is h.proof k.proof h.later k.later (lists_once Counts parts (h.proof ∷ h.later) (k.proof ∷ k.later) h.all k.all) in
    h.one ∙ ap (λ p. p ∷ []) same ∙ sym k.one

listed_once : (rails output : ℕ) (f : Function) (parts : List Part) (answer : Answer) (a b : List Proof) → Listed rails output f parts answer a → Listed rails output f parts answer b → a ≡ b
listed_once rails output f parts (answers.Found g) a b h k = h ∙ sym k
listed_once rails output f parts (answers.Minimum g) a b h k = lists_once (IsRefutedWhole rails output f) parts a b h k
listed_once rails output f parts (answers.Undecided g least at after) a b h k = lists_once (IsRefutedWhole rails output f) parts a b h k
listed_once rails output f parts (answers.Mapped g d) a b h k = h ∙ sym k
listed_once rails output f parts (answers.NoneMapped d) a b h k = first_once (IsRefutedOn rails output f d) parts a b h k
listed_once rails output f parts (answers.MapUndecided d after) a b h k = h ∙ sym k
listed_once rails output f parts (answers.NoRails on off) a b h k = h ∙ sym k

one_function : (o : Option Function) (f g : Function) → o ≡ Some f → o ≡ Some g → f ≡ g
one_function o f g p q = cc

parts_once : (xs ys : List Part) → map unlisted xs ≡ map unlisted ys
    → ((before : List Part) (p : Part) (later before' : List Part) (q : Part) (later' : List Part) → xs ≡ before ++ p ∷ later → ys ≡ before' ++ q ∷ later' → map unlisted before ≡ map unlisted before' → unlisted p ≡ unlisted q → p ≡ q) → xs ≡ ys
parts_once [] [] e each = refl
parts_once [] (y ∷ ys) e each = absurd (none_is_some _ _ e)
parts_once (x ∷ xs) [] e each = absurd (none_is_some _ _ (sym e))
parts_once (x ∷ xs) (y ∷ ys) e each =
    let first = head_is _ _ _ _ e in
    let here : x ≡ y = each [] x xs [] y ys refl refl refl first in
    let rest : xs ≡ ys = parts_once xs ys (tail_is _ _ _ _ e)
    (λ before p later before' q later' w w' s t. each (x ∷ before) p later (y ∷ before') q later' (ap (λ l. x ∷ l) w) (ap (λ l. y ∷ l) w') (ap (λ z. z ∷ map unlisted before) first ∙ ap (λ l. unlisted y ∷ l) s) t) in
    λ i. here i ∷ rest i

module _ (parts : Parts) (rails : ℕ) where
  abbrev basis : Basis
  basis = two parts Two rails

  answer_once : (before before' : List Part) (a b : BlockParts) → map unlisted before ≡ map unlisted before' → bare a ≡ bare b → IsRightAnswer (record { basis = basis; before = before; block = a })
      → IsRightAnswer (record { basis = basis; before = before'; block = b }) → a.proofs ≡ b.proofs
  answer_once before before' a b same block h k =
      let alike = subst (λ (x : BlockParts). IsRightAnswer (record { basis = basis; before = before'; block = with_proofs x b.proofs })) (sym block) k in
      let f = one_function (slice_get parts.functions a.output) alike.function h.function alike.of_output.function h.of_output.function in
      let other : Listed rails a.output alike.function before' a.answer b.proofs = alike.met.1.1.1.1.1.1.0 in
      listed_once rails a.output h.function before a.answer a.proofs b.proofs h.met.1.1.1.1.1.1.0
      (listed_same rails a.output h.function before' before a.answer b.proofs same (subst (λ (g : Function). Listed rails a.output g before' a.answer b.proofs) f other))

  part_once : (before before' : List Part) (p q : Part) → map unlisted before ≡ map unlisted before' → unlisted p ≡ unlisted q → IsRightPart basis before p → IsRightPart basis before' q → p ≡ q
  part_once before before' (Question s) (Question t) same e h k = e
  part_once before before' (Question s) (Answered b) same e h k = absurd (question_is_answer s (bare b) e)
  part_once before before' (Answered a) (Question t) same e h k = absurd (question_is_answer t (bare a) (sym e))
  part_once before before' (Answered a) (Answered b) same e h k =
      let block : bare a ≡ bare b = same_block a b e in
      let proofs : a.proofs ≡ b.proofs = answer_once before before' a b same block h k in
      λ i. Answered (with_proofs (block i) (proofs i))

  right_once : (xs ys : List Part) → map unlisted xs ≡ map unlisted ys → AreRight basis xs → AreRight basis ys → xs ≡ ys
  right_once xs ys same h k = parts_once xs ys same (λ before p later before' q later' w w' s t. part_once before before' p q s t (h before p later w) (k before' q later' w'))

right_as : (parts : Parts) (old new : JournalParts) → IsAnew old new → Audited parts new → AreRight (two parts Two old.rails) new.parts
right_as parts old new anew h =
    subst (λ n. AreRight (record { parts = parts; version = Two; rails = n }) new.parts) anew.rails (subst (λ v. AreRight (record { parts = parts; version = v; rails = new.rails }) new.parts) anew.version h)

pub is_one_renewal : IsOneRenewal
is_one_renewal parts old new other h k =
    let version : new.version ≡ other.version = h.anew.version ∙ sym k.anew.version in
    let rails : new.rails ≡ other.rails = h.anew.rails ∙ sym k.anew.rails in
    let same : new.parts ≡ other.parts = right_once parts old.rails new.parts other.parts (h.anew.same ∙ sym k.anew.same) (right_as parts old new h.anew h.audited) (right_as parts old other k.anew k.audited) in
    λ i. record { version = version i; rails = rails i; parts = same i }

pub is_own_renewal : IsOwnRenewal
is_own_renewal parts journal version is audited = record { anew = record { version = version; rails = refl; same = refl }; journal = is; audited = audited }
