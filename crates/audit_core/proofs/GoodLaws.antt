-- An audited journal has only good answers.
use Rattle.std.proofs.Common.{◌≡◌, ℕ, List, ◌∷◌, length, take, sym, ap, ◌∙◌, subst, Some, None, inl, inr}
use Rattle.std.specs.Prelude.{slice_get, All, IfSome}
use Rattle.std.specs.List.{Contains}
use Rattle.std.proofs.Math.Seq.{take-append_seam}
use Rattle.std.proofs.lemmas.List.Elements.{All-take, All-contains, Contains-append_right}
use Rattle.std.proofs.lemmas.Option.{slice_get_within, get_or_from_slice_get}
use Rattle.cube_core.specs.Function.{Function, IsFunction}
use Rattle.dual_product.specs.Dual.{dual_of}
use Rattle.lrat_replay.proofs.Tools.{Contains-head}
use Rattle.lattice_grid.specs.Defects.{Defects}
use Rattle.lattice_grid.specs.Lattice.{Lattice}
use Rattle.lattice_grid.specs.Rails.{IsOverRails}
use Rattle.lattice_grid.specs.Rectangle.{Size}
use Rattle.lattice_grid.specs.Start.{IsLackingFinal, NeverRealised}
use Rattle.lattice_grid.specs.declared.start.Start.TheVariants.{Grid, Lacking}
use Rattle.path_meaning.specs.Defective.{RealisesIn, IsRealisingPlainly}
use Rattle.report_text.specs.Bounds.{IsAnswer}
use Rattle.report_text.specs.Form.{lattice_of}
use Rattle.report_text.specs.declared.answer.Answer.{Answer}
use Rattle.report_text.specs.declared.answer.Answer.TheVariants as answers
use Rattle.report_text.specs.declared.answer.Version.{Version}
use Rattle.journal_text.specs.Bounds.{IsPart}
use Rattle.journal_text.specs.Good.{Good, IsCovered as IsCoveredBy}
use Rattle.journal_text.specs.Least.{area, IsRight, IsStart}
use Rattle.journal_text.specs.Parts.{Section, Part, Answered}
use Rattle.journal_text.specs.Proved.{IsRefuted, IsSpent, HasWhole, HasMarked}
use Rattle.journal_text.specs.Shown.{ExcludesBelow, ExcludesOnArray}
use Rattle.journal_text.specs.declared.target.Close.TheVariants.{Refuted, Spent}
use Rattle.audit_core.specs.Audit.{Basis, basis_of, array_in, HasPair, IsSmall, AreExcluded, IsCovered, HasSection, IsRightAnswer, AreRight}
use Rattle.audit_core.specs.Confirmed.{AreGood}
use Rattle.audit_core.proofs.RightLaws.{right_section_in, right_before, refuted_so, spent_so}

module _ (below : ExcludesBelow) (on_array : ExcludesOnArray) (final : IsLackingFinal) (plainly : IsRealisingPlainly) where
  module _ (basis : Basis) (before : List Part) (output : ℕ) (f : Function) (right : AreRight basis before) (of : slice_get basis.parts.functions output ≡ Some f)
      (function : IsFunction f) (inputs : f.inputs ≡ basis.parts.inputs) (version : Version) (bounds : All (IsPart version) before) where
    of_section : (s : Section) → s.output ≡ output → slice_get basis.parts.functions s.output ≡ Some f
    of_section s e = ap (slice_get basis.parts.functions) e ∙ of

    refuted_whole : (t : Size) → HasWhole before output t (λ q. q.close ≡ Refuted) → HasWhole before output t (IsRefuted basis.rails f)
    refuted_whole t h = record {
      section = h.section;
      is_in = h.is_in;
      of_output = h.of_output;
      size_is = h.size_is;
      no_array = h.no_array;
      holds = refuted_so basis h.section f (right_section_in basis before h.section right h.is_in) (of_section h.section h.of_output) h.holds;
    }

    spent_whole : (t : Size) (budget : ℕ) → HasWhole before output t (λ q. q.close ≡ Spent budget) → HasWhole before output t (IsSpent basis.rails f budget)
    spent_whole t budget h = record {
      section = h.section;
      is_in = h.is_in;
      of_output = h.of_output;
      size_is = h.size_is;
      no_array = h.no_array;
      holds = spent_so basis h.section f budget (right_section_in basis before h.section right h.is_in) (of_section h.section h.of_output) h.holds;
    }

    refuted_marked : (a : Defects) → HasMarked before output a (λ q. q.close ≡ Refuted) → HasMarked before output a (IsRefuted basis.rails f)
    refuted_marked a h = record {
      section = h.section;
      is_in = h.is_in;
      of_output = h.of_output;
      array_is = h.array_is;
      holds = refuted_so basis h.section f (right_section_in basis before h.section right h.is_in) (of_section h.section h.of_output) h.holds;
    }

    spent_marked : (a : Defects) (budget : ℕ) → HasMarked before output a (λ q. q.close ≡ Spent budget) → HasMarked before output a (IsSpent basis.rails f budget)
    spent_marked a budget h = record {
      section = h.section;
      is_in = h.is_in;
      of_output = h.of_output;
      array_is = h.array_is;
      holds = spent_so basis h.section f budget (right_section_in basis before h.section right h.is_in) (of_section h.section h.of_output) h.holds;
    }

    covered_by : (least : ℕ) → AreExcluded before output least → IsCoveredBy basis.rails output f before least
    covered_by least h s size small = let t = h s size small in (t.0, t.1, refuted_whole t.0 t.2)

    right_lattice : (g : Lattice) → IsAnswer (answers.Minimum g) → IsOverRails basis.parts.inputs basis.rails g → RealisesIn g f None → IsRight basis.rails f g
    right_lattice g lattice over realises = record { lattice = lattice; over = subst (λ n. IsOverRails n basis.rails g) (sym inputs) over; realises = (plainly g f).0 realises }

    lacking : (x y : ℕ) → IsStart basis.rails f (Lacking x y) → NeverRealised f basis.rails
    lacking x y (inl h) = absurd (no_grid (dual_of f) h.1) where
      no_grid : (g : Lattice) → Lacking x y ≡ Grid g → ⊥
      no_grid g e = cc
    lacking x y (inr h) = final f basis.rails x y function (sym h.1)

    good_so : (answer : Answer) → IsAnswer answer → HasPair basis.rails f answer → IfSome (lattice_of answer) (IsOverRails basis.parts.inputs basis.rails) → IfSome (lattice_of answer) (λ g. RealisesIn g f (array_in answer))
        → IsSmall basis.rails f answer → IsCovered before output answer → HasSection before output answer → Good basis.rails output f before answer
    good_so (answers.Found g) is pair over realises small covered section = right_lattice g is over realises
    good_so (answers.Minimum g) is pair over realises small covered section =
        let cover = covered_by (area g) covered in
        record { right = right_lattice g is over realises; no_larger = small; none_below = below version basis.rails output f before (area g) function bounds cover; covered = cover }
    good_so (answers.Undecided g least at after) is pair over realises small covered section =
        let cover = covered_by least covered in
        record {
          bound = record { right = right_lattice g is.0 over realises; no_larger = small; none_below = below version basis.rails output f before least function bounds cover; covered = cover };
          area_is = sym is.1.area;
          spent = spent_whole at after section;
        }
    good_so (answers.Mapped g a) is pair over realises small covered section =
        record { lattice = is.0; over = subst (λ n. IsOverRails n basis.rails g) (sym inputs) over; realises = realises }
    good_so (answers.NoneMapped a) is pair over realises small covered section =
        let refuted = refuted_marked a section in
        record { none = on_array version basis.rails output f before a function bounds refuted; refuted = refuted }
    good_so (answers.MapUndecided a after) is pair over realises small covered section = spent_marked a after section
    good_so (answers.NoRails x y) is pair over realises small covered section = record { start = pair; never = lacking x y pair }

  -- what holds of each of some functions holds of one of them
  of_one : (P : Function → Type 0) (functions : List Function) (output : ℕ) (f : Function) → All P functions → slice_get functions output ≡ Some f → P f
  of_one P functions output f each is = subst P (get_or_from_slice_get functions output f f is) (each output f (slice_get_within functions output f is))

  pub all_good : AreGood
  all_good parts journal pla bounds audited before block later whole =
      let basis = basis_of parts journal in
      let right : IsRightAnswer (record { basis = basis_of parts journal; before = before; block = block }) = audited before (Answered block) later whole in
      let f : Function = right.function in
      let met = right.met in
      let of_output = right.of_output in
      let front : All (IsPart journal.version) before = subst (All (IsPart journal.version)) (ap (λ l. take (length before) l) whole ∙ take-append_seam before (Answered block ∷ later)) (All-take (IsPart journal.version) (length before) journal.parts bounds.parts) in
      let own : IsPart journal.version (Answered block) = All-contains (IsPart journal.version) journal.parts (Answered block) bounds.parts (subst (λ l. Contains l (Answered block)) (sym whole) (Contains-append_right before (Answered block ∷ later) (Answered block) (Contains-head (Answered block) later))) in
      record {
        function = f;
        of_output = of_output.function;
        name = of_output.name;
        good = good_so basis before block.output f (right_before basis journal.parts before (Answered block) later whole audited) of_output.function
            (of_one IsFunction parts.functions block.output f pla.kept of_output.function) (of_one (λ g. g.inputs ≡ parts.inputs) parts.functions block.output f pla.each of_output.function)
            journal.version front block.answer own.0.answer met.0 met.1.0 met.1.1.0 met.1.1.1.0 met.1.1.1.1.0 met.1.1.1.1.1.0;
      }
