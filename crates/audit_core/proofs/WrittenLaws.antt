-- Sections and answers that are shown as a search writes them are right.
use Rattle.std.proofs.Common.{◌≡◌, ℕ, suc, List, [], ◌∷◌, ◌++◌, map, refl, ap, sym, ◌∙◌, subst, append_assoc, arith, Some, None, inl, inr}
use Rattle.std.specs.Prelude.{slice_get, All, IfSome}
use Rattle.std.specs.List.{Contains}
use Rattle.std.proofs.lemmas.List.{append-nil}
use Rattle.std.proofs.lemmas.List.Elements.{All-head, All-tail, All-contains, Contains-append_right}
use Rattle.std.proofs.lemmas.Option.{slice_get_within, get_or_from_slice_get}
use Rattle.cube_core.specs.Function.{Function}
use Rattle.lrat_replay.proofs.Tools.{Contains-head, Contains-cases}
use Rattle.lrat_replay.specs.Book.{Book, Accepts, after_addition, start}
use Rattle.lrat_replay.specs.Learned.{AreWrittenNew}
use Rattle.lrat_replay.specs.declared.line.LineKind.{LineKind}
use Rattle.lrat_replay.specs.declared.line.LineKind.TheVariants.{Add, Delete}
use Rattle.lrat_replay.specs.declared.line.Step.{Step}
use Rattle.lattice_grid.specs.Lattice.{Lattice}
use Rattle.lattice_grid.specs.Rails.{IsOverRails}
use Rattle.lattice_grid.specs.Rectangle.{Size}
use Rattle.path_meaning.specs.Defective.{RealisesIn, IsRealisingPlainly}
use Rattle.pla_reader.specs.Parts.{Parts, IsPla}
use Rattle.report_text.specs.Form.{lattice_of}
use Rattle.report_text.specs.declared.answer.Answer.{Answer}
use Rattle.report_text.specs.declared.answer.Answer.TheVariants as answers
use Rattle.report_text.specs.declared.answer.Proof.{Proof}
use Rattle.report_text.specs.declared.answer.Version.{Version}
use Rattle.report_text.specs.declared.answer.Version.TheVariants.{One, Two}
use Rattle.journal_text.specs.Good.{Good, Listed, IsCovered as IsCoveredBy}
use Rattle.journal_text.specs.Least.{area, IsRight}
use Rattle.journal_text.specs.Parts.{Section, Part, Question, Answered}
use Rattle.journal_text.specs.Proved.{formula_of, ShowsClose, HasWhole, HasMarked, IsRefuted}
use Rattle.journal_text.specs.declared.target.Close.{Close}
use Rattle.journal_text.specs.declared.target.Close.TheVariants.{Refuted, Spent, Satisfied}
use Rattle.audit_core.specs.Audit.{Basis, Closes, IsRightSection, array_in, HasPair, IsSmall, AreExcluded, IsCovered, HasSection, ListsProofs, AreRight}
use Rattle.audit_core.specs.Laws.{AreRightSections, AreRightAnswers, AddsRight}
use Rattle.audit_core.specs.Sought.{IsSection}
use Rattle.audit_core.proofs.RenewLaws.{later_in}
use Rattle.audit_core.proofs.SeenLaws.{right_more}

-- ---- sections

accepted_new : (book : Book) (steps : List Step) → AreWrittenNew book steps → Accepts book (map Add steps)
accepted_new book [] h = tt
accepted_new book (step ∷ steps) h = (h.0, accepted_new (after_addition book step.id step.clause) steps h.2)

abbrev step_or : Step → LineKind → Step
step_or s (Add step) = step
step_or s (Delete ids) = s

contains_step : (steps : List Step) (step : Step) → Contains (map Add steps) (Add step) → Contains steps step
contains_step [] step (k, w, e) = absurd (omega (arith, w))
contains_step (first ∷ steps) step among = elim (Contains-cases (Add first) (map Add steps) (Add step) among) [
  | inl e ↦ subst (λ (s : Step). Contains (s ∷ steps) step) (sym (ap (step_or first) e)) (Contains-head step steps)
  | inr k ↦ let more = contains_step steps step k in (suc more.0, (let within = more.1 in omega (arith, within)), more.2)
]

pub right_sections : AreRightSections
right_sections basis s f of shows = at s.close refl shows where
  at : (c : Close) → s.close ≡ c → ShowsClose basis.rails f s c → IsRightSection basis s
  at Refuted e h = record {
    function = f;
    replayed = record { of_output = of; accepted = h.refutes.accepted };
    closes = subst (Closes (formula_of basis.rails f s) s.steps) (sym e) (h.refutes.step, contains_step s.steps h.refutes.step h.refutes.reached, h.refutes.empty);
  }
  at (Spent budget) e h = record {
    function = f;
    replayed = record { of_output = of; accepted = accepted_new (start (formula_of basis.rails f s)) s.steps h.spent.each };
    closes = subst (Closes (formula_of basis.rails f s) s.steps) (sym e) h.spent;
  }
  at Satisfied e h = record { function = f; replayed = record { of_output = of; accepted = h }; closes = subst (Closes (formula_of basis.rails f s) s.steps) (sym e) tt }

-- ---- answers

whole_closes : (before : List Part) (output : ℕ) (t : Size) (rails : ℕ) (f : Function) → HasWhole before output t (IsRefuted rails f) → HasWhole before output t (λ q. q.close ≡ Refuted)
whole_closes before output t rails f h = record { section = h.section; is_in = h.is_in; of_output = h.of_output; size_is = h.size_is; no_array = h.no_array; holds = h.holds.close }

excluded_by : (before : List Part) (output least rails : ℕ) (f : Function) → IsCoveredBy rails output f before least → AreExcluded before output least
excluded_by before output least rails f h s size small = let t = h s size small in (t.0, t.1, whole_closes before output t.0 rails f t.2)

module _ (plainly : IsRealisingPlainly) (basis : Basis) (before : List Part) (output : ℕ) (f : Function) (inputs : f.inputs ≡ basis.parts.inputs) where
  over : (g : Lattice) → IsOverRails f.inputs basis.rails g → IsOverRails basis.parts.inputs basis.rails g
  over g h = subst (λ n. IsOverRails n basis.rails g) inputs h

  values : (g : Lattice) → IsRight basis.rails f g → RealisesIn g f None
  values g h = (plainly g f).1 h.realises

  -- what is asked of the lattice, the size, the cover and the section of a good answer
  demands_of : (answer : Answer) → Good basis.rails output f before answer
      → HasPair basis.rails f answer × (IfSome (lattice_of answer) (IsOverRails basis.parts.inputs basis.rails) × (IfSome (lattice_of answer) (λ g. RealisesIn g f (array_in answer))
      × (IsSmall basis.rails f answer × (IsCovered before output answer × HasSection before output answer))))
  demands_of (answers.Found g) h = (tt, (over g h.over, (values g h, (tt, (tt, tt)))))
  demands_of (answers.Minimum g) h = (tt, (over g h.right.over, (values g h.right, (h.no_larger, (excluded_by before output (area g) basis.rails f h.covered, tt)))))
  demands_of (answers.Undecided g least at after) h =
      let s = h.spent in
      let section : HasWhole before output at (λ q. q.close ≡ Spent after) = record { section = s.section; is_in = s.is_in; of_output = s.of_output; size_is = s.size_is; no_array = s.no_array; holds = s.holds.close } in
      (tt, (over g h.bound.right.over, (values g h.bound.right, (h.bound.no_larger, (excluded_by before output least basis.rails f h.bound.covered, section)))))
  demands_of (answers.Mapped g a) h = (tt, (over g h.over, (h.realises, (tt, (tt, tt)))))
  demands_of (answers.NoneMapped a) h =
      let s = h.refuted in
      let section : HasMarked before output a (λ q. q.close ≡ Refuted) = record { section = s.section; is_in = s.is_in; of_output = s.of_output; array_is = s.array_is; holds = s.holds.close } in
      (tt, (tt, (tt, (tt, (tt, section)))))
  demands_of (answers.MapUndecided a after) h =
      let section : HasMarked before output a (λ q. q.close ≡ Spent after) = record { section = h.section; is_in = h.is_in; of_output = h.of_output; array_is = h.array_is; holds = h.holds.close } in
      (tt, (tt, (tt, (tt, (tt, section)))))
  demands_of (answers.NoRails x y) h = (h.start, (tt, (tt, (tt, (tt, tt)))))

lists_in : (version : Version) (rails output : ℕ) (f : Function) (before : List Part) (answer : Answer) (proofs : List Proof) → Listed rails output f before answer proofs → ListsProofs version rails output f before answer proofs
lists_in One rails output f before answer proofs h = tt
lists_in Two rails output f before answer proofs h = h

inputs_of : (parts : Parts) (output : ℕ) (f : Function) → IsPla parts → slice_get parts.functions output ≡ Some f → f.inputs ≡ parts.inputs
inputs_of parts output f pla is = subst (λ (g : Function). g.inputs ≡ parts.inputs) (get_or_from_slice_get parts.functions output f f is) (pla.each output f (slice_get_within parts.functions output f is))

pub right_answers : IsRealisingPlainly → AreRightAnswers
right_answers plainly c f pla of good listed =
    let met = demands_of plainly c.basis c.before c.block.output f (inputs_of c.basis.parts c.block.output f pla of.function) c.block.answer good in
    let proofs = lists_in c.basis.version c.basis.rails c.block.output f c.before c.block.answer c.block.proofs listed in
    record { function = f; of_output = of; met = (met.0, (met.1.0, (met.1.1.0, (met.1.1.1.0, (met.1.1.1.1.0, (met.1.1.1.1.1, (proofs, tt))))))) }

-- ---- parts, one behind the other

sections_right : (basis : Basis) (output : ℕ) (f : Function) → slice_get basis.parts.functions output ≡ Some f → (before more : List Part) → AreRight basis before → All (IsSection (λ s. s.output ≡ output)) more
    → ((s : Section) → Contains more (Question s) → ShowsClose basis.rails f s s.close) → AreRight basis (before ++ more)
sections_right basis output f of before [] right sections shows = subst (AreRight basis) (sym (append-nil before)) right
sections_right basis output f of before (Question s ∷ more) right sections shows =
    let here : s.output ≡ output = All-head (IsSection (λ t. t.output ≡ output)) (Question s) more sections in
    let now = right_sections basis s f (ap (slice_get basis.parts.functions) here ∙ of) (shows s (Contains-head (Question s) more)) in
    subst (AreRight basis) (append_assoc before (Question s ∷ []) more)
    (sections_right basis output f of (before ++ Question s ∷ []) more (right_more basis before (Question s) right now) (All-tail (IsSection (λ t. t.output ≡ output)) (Question s) more sections)
    (λ t is_in. shows t (later_in (Question s) more (Question t) is_in)))
sections_right basis output f of before (Answered block ∷ more) right sections shows = absurd (All-head (IsSection (λ t. t.output ≡ output)) (Answered block) more sections)

pub adds_right : IsRealisingPlainly → AddsRight
adds_right plainly basis before more block f pla right sections of replayed good listed =
    let own = λ (s : Section) (is_in : Contains more (Question s)). replayed s (Contains-append_right before more (Question s) is_in) (All-contains (IsSection (λ t. t.output ≡ block.output)) more (Question s) sections is_in) in
    let front = sections_right basis block.output f of.function before more right sections own in
    subst (AreRight basis) (append_assoc before more (Answered block ∷ []))
    (right_more basis (before ++ more) (Answered block) front (right_answers plainly (record { basis = basis; before = before ++ more; block = block }) f pla of good listed))
