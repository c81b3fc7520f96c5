-- What the end of a search shows.
use Rattle.std.proofs.Common.{◌≡◌, inl, inr, ℕ, ◌≤◌, List, [], ◌∷◌, ◌++◌, refl, subst, arith, None, Some}
use Rattle.std.specs.declared.option.Option.{Option}
use Rattle.std.specs.Prelude.{IfSome, All}
use Rattle.std.specs.List.{Contains}
use Rattle.std.proofs.lemmas.List.Elements.{All-nil, All-contains, Contains-append_right, Contains-append_cases}
use Rattle.cube_core.specs.Function.{Function}
use Rattle.lattice_grid.specs.Rectangle.{Size, FitsInside}
use Rattle.path_meaning.specs.Fitting.{IsRealisedLarger}
use Rattle.report_text.specs.declared.answer.Proof.{Proof}
use Rattle.shape_list.specs.Shapes.{IsHeld}
use Rattle.report_text.specs.declared.answer.Answer.TheVariants.{NoRails}
use Rattle.journal_text.specs.Good.{LacksRails, Lists, IsCovered, IsBound, IsRefutedWhole, AreSatisfied}
use Rattle.journal_text.specs.Least.{area, NoneBelow}
use Rattle.journal_text.specs.Parts.{Section, Part, Question, Answered}
use Rattle.journal_text.specs.Proved.{IsRefuted, AreReplayed, HasWhole}
use Rattle.area_search.specs.Answer.{IsLeast, HoldsOfLattices}
use Rattle.lattice_question.specs.Asked.{IsExcluded}
use Rattle.area_search.specs.Progress.{IsKnown, IsSpentOpen, AreShowing, HasWritten, EndedSo, answer_of}
use Rattle.lattice_question.specs.Written.{IsSectionOf, HasNoSection, IsShown, Searched}
use Rattle.lattice_question.proofs.Tools.{gains_nothing}
use Rattle.area_search.specs.declared.progress.Progress.{Progress}

-- the member that holds a shape
held_by : (P : Size → Type 0) (members : List Size) (s : Size) → All P members → IsHeld members s → (t : Size) × FitsInside s t × P t
held_by P members s all h = (h.1, h.4, All-contains P members h.1 all (h.0, h.2, h.3))

module _ (rails : ℕ) (f : Function) (p : Progress) (larger : IsRealisedLarger) (h : IsKnown rails f p) where
  none_below : NoneBelow rails f p.least
  none_below g right small =
      let t = held_by (IsExcluded rails f) p.refuted g.size h.excluded (h.covered g.size right.lattice.size small) in
      t.2.none (larger f.inputs rails f g.size t.0 t.1 t.2.size (record { lattice = g; kept = right.lattice; size_is = refl; over = right.over; realises = right.realises }))

  least_at : (least : ℕ) → least ≤ p.least → IsLeast rails f p.best least
  least_at least few = record { right = h.right; no_larger = h.no_larger; none_below = λ g right small. none_below g right (omega (arith, small, few)) }

  pub holds_at_end : (given_up : Option Size) (budget : ℕ) → EndedSo given_up p → HoldsOfLattices rails f (answer_of p.best p.least given_up budget)
  holds_at_end None budget ended = least_at (area p.best) ended
  holds_at_end (Some s) budget ended = (least_at p.least (omega arith), ended.2)

  module _ (output budget : ℕ) (more : List Part) (shows : AreShowing rails output f budget p more) (parts : List Part) (none : HasNoSection parts output) where
    behind : (s : Size) (Holds : Section → Type 0) → HasWhole more output s Holds → HasWhole (parts ++ more) output s Holds
    behind s Holds k = record {
      section = k.section;
      is_in = Contains-append_right parts more (Question k.section) k.is_in;
      of_output = k.of_output;
      size_is = k.size_is;
      no_array = k.no_array;
      holds = k.holds;
    }

    covered : (least : ℕ) → least ≤ p.least → IsCovered rails output f (parts ++ more) least
    covered least few s size small =
        let t = held_by (λ t. HasWhole more output t (IsRefuted rails f)) p.refuted s shows.held (h.covered s size (omega (arith, small, few))) in
        (t.0, t.1, behind t.0 (IsRefuted rails f) t.2)

    bound_at : (least : ℕ) → least ≤ p.least → IsBound rails output f (parts ++ more) p.best least
    bound_at least few = record { right = h.right; no_larger = h.no_larger; none_below = (least_at least few).none_below; covered = covered least few }

    -- a section of the output is one of those that the search wrote
    from_more : (s : Section) → s.output ≡ output → Contains (parts ++ more) (Question s) → Contains more (Question s)
    from_more s of found = elim (Contains-append_cases parts more (Question s) found) [
      | inl before ↦ absurd (none s before of)
      | inr here ↦ here
    ]

    are_satisfied : AreSatisfied rails output f (parts ++ more)
    are_satisfied s found of closes = (shows.satisfied s (from_more s of found) closes).0

    are_replayed : AreReplayed rails output f (parts ++ more)
    are_replayed s found of = shows.replayed s (from_more s of found)

    listed : Lists (IsRefutedWhole rails output f) (parts ++ more) p.proofs.items
    listed = behind_parts parts none where
      behind_parts : (parts : List Part) → HasNoSection parts output → Lists (IsRefutedWhole rails output f) (parts ++ more) p.proofs.items
      behind_parts [] none = shows.listed
      behind_parts (Answered block ∷ parts) none = behind_parts parts (λ s found of. none s (Contains-append_right (Answered block ∷ []) parts (Question s) found) of)
      behind_parts (Question s ∷ parts) none =
          inr ((λ counts. none s (0, omega arith, refl) counts.0), behind_parts parts (λ t found of. none t (Contains-append_right (Question s ∷ []) parts (Question t) found) of))

    shown_at_end : (given_up : Option Size) → EndedSo given_up p → IsShown rails output f budget (parts ++ more) (answer_of p.best p.least given_up budget) p.proofs.items
    shown_at_end None ended = record { good = bound_at (area p.best) ended; licensed = (tt, are_satisfied); listed = listed; replayed = are_replayed }
    shown_at_end (Some s) ended =
        let spent : HasWhole more output s (IsSpentOpen rails f budget) = subst (λ (o : Option Size). IfSome o (λ t. HasWhole more output t (IsSpentOpen rails f budget))) ended.0 shows.left_open in
        let whole = behind s (IsSpentOpen rails f budget) spent in
        record {
          good = record {
            bound = bound_at p.least (omega arith);
            area_is = ended.1;
            spent = record { section = whole.section; is_in = whole.is_in; of_output = whole.of_output; size_is = whole.size_is; no_array = whole.no_array; holds = whole.holds.0 };
          };
          licensed = (
            record {
              after_is = refl;
              left_open = whole;
              below = ended.2;
              no_smaller = λ t found of no_array closes. (shows.satisfied t (from_more t of found) closes).1;
            },
            are_satisfied,
          );
          listed = listed;
          replayed = are_replayed;
        }

  pub searched_at_end : (output budget : ℕ) (first got : Option (List ℕ)) (given_up : Option Size) → EndedSo given_up p → HasWritten rails output f budget first got p → Searched rails output f budget first got (answer_of p.best p.least given_up budget) p.proofs.items
  searched_at_end output budget first got given_up ended w = record {
    more = w.more;
    are = w.are;
    gained = w.gained;
    shown = show got w.shows;
  } where
    show : (o : Option (List ℕ)) → IfSome o (λ _. AreShowing rails output f budget p w.more)
        → IfSome o (λ _. (parts : List Part) → HasNoSection parts output → IsShown rails output f budget (parts ++ w.more) (answer_of p.best p.least given_up budget) p.proofs.items)
    show None k = tt
    show (Some bytes) k = λ parts none. shown_at_end output budget w.more k parts none given_up ended

-- where a pair is lacking nothing is asked
pub searched_lacking : (rails output : ℕ) (f : Function) (budget : ℕ) (a : Option (List ℕ)) (x y : ℕ) (proofs : List Proof) → LacksRails rails f x y → proofs ≡ [] → Searched rails output f budget a a (NoRails x y) proofs
searched_lacking rails output f budget a x y proofs lacks none_listed = record {
  more = [];
  are = All-nil (IsSectionOf output);
  gained = gains_nothing a;
  shown = show a;
} where
  shows : (parts : List Part) → HasNoSection parts output → IsShown rails output f budget (parts ++ []) (NoRails x y) proofs
  shows parts none = record {
    good = lacks;
    licensed = (
      tt,
      λ s found of closes. absurd (elim (Contains-append_cases parts [] (Question s) found) [
        | inl before ↦ none s before of
        | inr here ↦ (let within = here.1 in omega arith)
      ]),
    );
    listed = none_listed;
    replayed = λ s found of. absurd (elim (Contains-append_cases parts [] (Question s) found) [
      | inl before ↦ none s before of
      | inr here ↦ (let within = here.1 in omega arith)
    ]);
  }

  show : (o : Option (List ℕ)) → IfSome o (λ _. (parts : List Part) → HasNoSection parts output → IsShown rails output f budget (parts ++ []) (NoRails x y) proofs)
  show None = tt
  show (Some bytes) = shows
