-- What a turn of a search leaves known.
use Rattle.std.proofs.Common.{◌≡◌, inl, inr, ℕ, ◌*◌, ◌<◌, ◌≤◌, List, [], ◌∷◌, ◌++◌, length, refl, sym, ap, ◌∙◌, subst, arith, None, Some}
use Rattle.std.specs.declared.option.Option.{Option}
use Rattle.std.specs.Prelude.{IfSome, All}
use Rattle.std.specs.List.{Contains}
use Rattle.std.proofs.lemmas.List.Elements.{All-nil, All-push, All-append, All-weaker, Contains-append_left, Contains-push, Contains-push_cases}
use Rattle.cube_core.specs.Function.{Function}
use Rattle.lattice_grid.specs.Lattice.{Lattice}
use Rattle.lattice_grid.specs.Rectangle.{Size}
use Rattle.path_meaning.specs.Defective.{IsRealisedIn}
use Rattle.report_text.specs.Bounds.{IsProof}
use Rattle.report_text.specs.declared.answer.Proof.{Proof}
use Rattle.report_text.specs.declared.answer.Version.TheVariants.{Two}
use Rattle.shape_list.specs.Shapes.{IsHeld, IsCoveredBelow}
use Rattle.wire_io.specs.Told.{Gains, GainsFront}
use Rattle.journal_text.specs.Good.{Lists, IsRefutedWhole}
use Rattle.journal_text.specs.Least.{area, IsRight, IsNoLarger}
use Rattle.journal_text.specs.Parts.{Section, Part, Question, Answered, size_of, array_of}
use Rattle.journal_text.specs.Proved.{IsRefuted, ShowsClose, HasWhole}
use Rattle.journal_text.specs.Text.{section_text, parts_text}
use Rattle.journal_text.specs.declared.target.Close.{Close}
use Rattle.journal_text.specs.declared.target.Close.TheVariants as close
use Rattle.journal_text.specs.declared.target.Target.{Target}
use Rattle.journal_text.specs.declared.target.Target.TheVariants.{Whole}
use Rattle.lattice_question.specs.Asked.{IsExcluded, SectionSo, AddsSection}
use Rattle.area_search.specs.Progress.{IsKnown, IsSpentOpen, AreShowing, HasWritten}
use Rattle.lattice_question.specs.Written.{IsSectionOf}
use Rattle.area_search.specs.Searched.{StoppedSearch}
use Rattle.area_search.specs.declared.fault.SearchFault.{SearchFault}
use Rattle.area_search.specs.declared.fault.SearchFault.TheVariants.{Sink, NoMemory}
use Rattle.area_search.specs.declared.progress.Progress.{Progress}
use Rattle.lattice_question.specs.declared.question.Outcome.TheVariants as outcome
use Rattle.lattice_question.proofs.Tools.{shows_close, stopped_held as held_asking, gains_then, gains_nothing, front_then, front_of_all, told_later, parts_push, parts_joined}

-- ---- what a longer list holds

pub held_more : (members : List Size) (t s : Size) → IsHeld members s → IsHeld (members ++ t ∷ []) s
held_more members t s h = let c = Contains-append_left members (t ∷ []) h.1 (h.0, h.2, h.3) in (c.0, h.1, c.1, c.2, h.4)

pub held_itself : (members : List Size) (s : Size) → IsHeld (members ++ s ∷ []) s
held_itself members s = let c = Contains-push members s in (c.0, s, c.1, c.2, record { rows = (omega arith); cols = (omega arith) })

pub has_more : (more : List Part) (part : Part) (output : ℕ) (s : Size) (Holds : Section → Type 0) → HasWhole more output s Holds → HasWhole (more ++ part ∷ []) output s Holds
has_more more part output s Holds h = record {
  section = h.section;
  is_in = Contains-append_left more (part ∷ []) (Question h.section) h.is_in;
  of_output = h.of_output;
  size_is = h.size_is;
  no_array = h.no_array;
  holds = h.holds;
}

pub has_last : (more : List Part) (output : ℕ) (s : Size) (section : Section) (Holds : Section → Type 0) → section.output ≡ output → section.target ≡ Whole s → Holds section → HasWhole (more ++ Question section ∷ []) output s Holds
has_last more output s section Holds of target holds = record {
  section = section;
  is_in = Contains-push more (Question section);
  of_output = of;
  size_is = ap size_of target;
  no_array = ap array_of target;
  holds = holds;
}

lists_push : (C : Section → Type 0) (section : Section) (last : Proof) → C section → last ≡ record { shape = size_of section.target; steps = length section.steps } → (more : List Part) (proofs : List Proof) → Lists C more proofs
    → Lists C (more ++ Question section ∷ []) (proofs ++ last ∷ [])
lists_push C section last c e [] proofs h = inl (c, [], subst (λ (w : List Proof). w ++ last ∷ [] ≡ record { shape = size_of section.target; steps = length section.steps } ∷ []) (sym h) (ap (λ p. p ∷ []) e), refl)
lists_push C section last c e (Answered block ∷ more) proofs h = lists_push C section last c e more proofs h
lists_push C section last c e (Question s ∷ more) proofs (inl h) =
    inl (h.0, h.1 ++ last ∷ [], ap (λ w. w ++ last ∷ []) h.2, lists_push C section last c e more h.1 h.3)
lists_push C section last c e (Question s ∷ more) proofs (inr h) = inr (h.0, lists_push C section last c e more proofs h.1)

lists_skip : (C : Section → Type 0) (section : Section) → (C section → ⊥) → (more : List Part) (proofs : List Proof) → Lists C more proofs → Lists C (more ++ Question section ∷ []) proofs
lists_skip C section n [] proofs h = inr (n, h)
lists_skip C section n (Answered block ∷ more) proofs h = lists_skip C section n more proofs h
lists_skip C section n (Question s ∷ more) proofs (inl h) = inl (h.0, h.1, h.2, lists_skip C section n more h.1 h.3)
lists_skip C section n (Question s ∷ more) proofs (inr h) = inr (h.0, lists_skip C section n more proofs h.1)

-- a question that did not close as refuted does not count
not_refuted : (rails output : ℕ) (f : Function) (s : Section) (c : Close) → s.close ≡ c → (c ≡ close.Refuted → ⊥) → IsRefutedWhole rails output f s → ⊥
not_refuted rails output f s c e n h = n (sym e ∙ h.2.close)

question_same : (s t : Section) → Question s ≡ Question t → s ≡ t
question_same s t e = ap (λ (p : Part). section_in s p) e where
  section_in : Section → Part → Section
  section_in d (Question x) = x
  section_in d (Answered block) = d

-- ---- what is known of lattices

pub known_refuted : (rails : ℕ) (f : Function) (old new : Progress) (s : Size) (steps : ℕ) → IsKnown rails f old → IsExcluded rails f s → 1 ≤ steps → steps ≤ 2147483647
    → new.refuted ≡ old.refuted ++ s ∷ [] → new.proofs.items ≡ old.proofs.items ++ record { shape = s; steps = steps } ∷ [] → new.best ≡ old.best → new.least ≡ old.least → IsKnown rails f new
known_refuted rails f old new s steps h none some few refuted proofs best least = record {
  right = subst (IsRight rails f) (sym best) h.right;
  no_larger = subst (IsNoLarger rails f) (sym best) h.no_larger;
  small = subst (λ (g : Lattice). area g ≤ 32768) (sym best) h.small;
  some = subst (λ n. 1 ≤ n) (sym least) h.some;
  excluded = subst (All (IsExcluded rails f)) (sym refuted) (All-push (IsExcluded rails f) old.refuted s h.excluded none);
  covered = subst (λ members. IsCoveredBelow members new.least) (sym refuted) (subst (IsCoveredBelow (old.refuted ++ s ∷ [])) (sym least) (λ t size below. held_more old.refuted s t (h.covered t size below)));
  proofs = subst (All IsProof) (sym proofs) (All-push IsProof old.proofs.items (record { shape = s; steps = steps }) h.proofs (record { size = none.size; some = some; few = few }));
}

pub known_better : (rails : ℕ) (f : Function) (old new : Progress) → IsKnown rails f old → IsRight rails f new.best → area new.best < area old.best
    → new.refuted ≡ old.refuted → new.proofs.items ≡ old.proofs.items → new.least ≡ old.least → IsKnown rails f new
known_better rails f old new h right smaller refuted proofs least = record {
  right = right;
  no_larger = λ first start. (let larger = h.no_larger first start in omega (arith, larger, smaller));
  small = (let small = h.small in omega (arith, small, smaller));
  some = subst (λ n. 1 ≤ n) (sym least) h.some;
  excluded = subst (All (IsExcluded rails f)) (sym refuted) h.excluded;
  covered = subst (λ members. IsCoveredBelow members new.least) (sym refuted) (subst (IsCoveredBelow old.refuted) (sym least) h.covered);
  proofs = subst (All IsProof) (sym proofs) h.proofs;
}

pub known_same : (rails : ℕ) (f : Function) (old new : Progress) → IsKnown rails f old → new.best ≡ old.best → new.refuted ≡ old.refuted → new.proofs.items ≡ old.proofs.items → new.least ≡ old.least → IsKnown rails f new
known_same rails f old new h best refuted proofs least = record {
  right = subst (IsRight rails f) (sym best) h.right;
  no_larger = subst (IsNoLarger rails f) (sym best) h.no_larger;
  small = subst (λ (g : Lattice). area g ≤ 32768) (sym best) h.small;
  some = subst (λ n. 1 ≤ n) (sym least) h.some;
  excluded = subst (All (IsExcluded rails f)) (sym refuted) h.excluded;
  covered = subst (λ members. IsCoveredBelow members new.least) (sym refuted) (subst (IsCoveredBelow old.refuted) (sym least) h.covered);
  proofs = subst (All IsProof) (sym proofs) h.proofs;
}

-- each shape of at most an area is covered
pub known_past : (rails : ℕ) (f : Function) (old new : Progress) → IsKnown rails f old → IsCoveredBelow new.refuted new.least → 1 ≤ new.least
    → new.best ≡ old.best → new.refuted ≡ old.refuted → new.proofs.items ≡ old.proofs.items → IsKnown rails f new
known_past rails f old new h covered some best refuted proofs = record {
  right = subst (IsRight rails f) (sym best) h.right;
  no_larger = subst (IsNoLarger rails f) (sym best) h.no_larger;
  small = subst (λ (g : Lattice). area g ≤ 32768) (sym best) h.small;
  some = some;
  excluded = subst (All (IsExcluded rails f)) (sym refuted) h.excluded;
  covered = covered;
  proofs = subst (All IsProof) (sym proofs) h.proofs;
}

-- ---- what the sections show

-- what one more section of the output shows, beside those before it
abbrev pub Shows : ℕ → ℕ → Function → ℕ → Progress → List Part → Section → Type 0
Shows rails output f budget new more section = AreShowing rails output f budget new (more ++ Question section ∷ [])

pub written_more : (rails output : ℕ) (f : Function) (budget : ℕ) (s : Size) (Holds : Section → Type 0) (old new : Progress) (first a b : Option (List ℕ)) → HasWritten rails output f budget first a old → AddsSection output (Whole s) a b Holds
    → ((more : List Part) (section : Section) → section.output ≡ output → section.target ≡ Whole s → AreShowing rails output f budget old more → Holds section → Shows rails output f budget new more section)
    → HasWritten rails output f budget first b new
written_more rails output f budget s Holds old new first a b h adds grow = record {
  more = h.more ++ Question adds.section ∷ [];
  are = All-push (IsSectionOf output) h.more (Question adds.section) h.are (adds.output_is, adds.asked);
  gained = subst (Gains first b) (sym (parts_push h.more (Question adds.section))) (gains_then first a b (parts_text Two h.more) (section_text adds.section) h.gained adds.gained);
  shows = told_later (AreShowing rails output f budget old h.more) (Holds adds.section) (Shows rails output f budget new h.more adds.section) a b (section_text adds.section) adds.gained h.shows adds.holds
      (λ shown holds. grow h.more adds.section adds.output_is adds.target_is shown holds);
}

module _ (rails output : ℕ) (f : Function) (budget : ℕ) (s : Size) (old new : Progress) (more : List Part) (section : Section) (of : section.output ≡ output) (target : section.target ≡ Whole s) (h : AreShowing rails output f budget old more) where
  -- each refuted size still has its section
  held_still : All (λ t. HasWhole (more ++ Question section ∷ []) output t (IsRefuted rails f)) old.refuted
  held_still = All-weaker (λ t. HasWhole more output t (IsRefuted rails f)) (λ t. HasWhole (more ++ Question section ∷ []) output t (IsRefuted rails f)) (λ t k. has_more more (Question section) output t (IsRefuted rails f) k) old.refuted h.held

  open_still : new.given_up ≡ old.given_up → IfSome new.given_up (λ t. HasWhole (more ++ Question section ∷ []) output t (IsSpentOpen rails f budget))
  open_still e = subst (λ (o : Option Size). IfSome o (λ t. HasWhole (more ++ Question section ∷ []) output t (IsSpentOpen rails f budget))) (sym e) (still old.given_up h.left_open) where
    still : (o : Option Size) → IfSome o (λ t. HasWhole more output t (IsSpentOpen rails f budget)) → IfSome o (λ t. HasWhole (more ++ Question section ∷ []) output t (IsSpentOpen rails f budget))
    still None k = tt
    still (Some t) k = has_more more (Question section) output t (IsSpentOpen rails f budget) k

  -- where the new section is not satisfied
  satisfied_still : (c : Close) → section.close ≡ c → (c ≡ close.Satisfied → ⊥) → area new.best ≤ area old.best → (t : Section) → Contains (more ++ Question section ∷ []) (Question t) → t.close ≡ close.Satisfied
      → IsRealisedIn f.inputs rails f (size_of t.target) (array_of t.target) × (area new.best ≤ (size_of t.target).rows * (size_of t.target).cols)
  satisfied_still c e n smaller t found closed = elim (Contains-push_cases more (Question section) (Question t) found) [
    | inl before ↦ (let k = h.satisfied t before closed in (k.0, omega (arith, k.1, smaller)))
    | inr same ↦ absurd (n (sym e ∙ ap (λ (x : Section). x.close) (question_same section t same) ∙ closed))
  ]

  -- each section still shows what it closes with
  replayed_still : ShowsClose rails f section section.close → (t : Section) → Contains (more ++ Question section ∷ []) (Question t) → ShowsClose rails f t t.close
  replayed_still here t found = elim (Contains-push_cases more (Question section) (Question t) found) [
    | inl before ↦ h.replayed t before
    | inr same ↦ subst (λ (x : Section). ShowsClose rails f x x.close) (question_same section t same) here
  ]

  refuted≢satisfied : close.Refuted ≡ close.Satisfied → ⊥
  refuted≢satisfied e = cc e

  pub shows_refuted : (steps : ℕ) → new.refuted ≡ old.refuted ++ s ∷ [] → new.proofs.items ≡ old.proofs.items ++ record { shape = s; steps = steps } ∷ [] → new.best ≡ old.best → new.given_up ≡ old.given_up
      → SectionSo rails f budget (outcome.Refuted steps) section → AreShowing rails output f budget new (more ++ Question section ∷ [])
  shows_refuted steps refuted proofs best given so = record {
    held = subst (All (λ t. HasWhole (more ++ Question section ∷ []) output t (IsRefuted rails f))) (sym refuted)
        (All-push (λ t. HasWhole (more ++ Question section ∷ []) output t (IsRefuted rails f)) old.refuted s held_still (has_last more output s section (IsRefuted rails f) of target so.0));
    listed = subst (Lists (IsRefutedWhole rails output f) (more ++ Question section ∷ [])) (sym proofs)
        (lists_push (IsRefutedWhole rails output f) section (record { shape = s; steps = steps }) (of, ap array_of target, so.0) (λ i. record { shape = sym (ap size_of target) i; steps = sym so.1 i }) more old.proofs.items h.listed);
    satisfied = satisfied_still close.Refuted so.0.close refuted≢satisfied (subst (λ (g : Lattice). area g ≤ area old.best) (sym best) (omega arith));
    left_open = open_still given;
    replayed = replayed_still (shows_close rails f budget (outcome.Refuted steps) section so);
  }

  pub shows_better : (g : Lattice) → new.best ≡ g → IsRight rails f g → g.size ≡ s → area g < area old.best → new.refuted ≡ old.refuted → new.proofs.items ≡ old.proofs.items → new.given_up ≡ old.given_up
      → SectionSo rails f budget (outcome.Satisfied g) section → AreShowing rails output f budget new (more ++ Question section ∷ [])
  shows_better g best right size smaller refuted proofs given so = record {
    held = subst (All (λ t. HasWhole (more ++ Question section ∷ []) output t (IsRefuted rails f))) (sym refuted) held_still;
    listed = subst (Lists (IsRefutedWhole rails output f) (more ++ Question section ∷ [])) (sym proofs)
        (lists_skip (IsRefutedWhole rails output f) section (not_refuted rails output f section close.Satisfied so.0 (λ e. cc e)) more old.proofs.items h.listed);
    satisfied = λ t found closes. elim (Contains-push_cases more (Question section) (Question t) found) [
      | inl before ↦ (let k = h.satisfied t before closes in (k.0, (let least : area new.best < area old.best = subst (λ (x : Lattice). area x < area old.best) (sym best) smaller in omega (arith, k.1, least))))
      | inr same ↦ here t (question_same section t same)
    ];
    left_open = open_still given;
    replayed = replayed_still (shows_close rails f budget (outcome.Satisfied g) section so);
  } where
    realised : IsRealisedIn f.inputs rails f s None
    realised = record { lattice = g; kept = right.lattice; size_is = size; over = right.over; realises = record { same_size = tt; on = right.realises.on; off = right.realises.off } }

    here : (t : Section) → section ≡ t → IsRealisedIn f.inputs rails f (size_of t.target) (array_of t.target) × (area new.best ≤ (size_of t.target).rows * (size_of t.target).cols)
    here t same =
        let whole : t.target ≡ Whole s = ap (λ (x : Section). x.target) (sym same) ∙ target in (
          subst (λ (x : Target). IsRealisedIn f.inputs rails f (size_of x) (array_of x)) (sym whole) realised,
          subst (λ (x : Target). area new.best ≤ (size_of x).rows * (size_of x).cols) (sym whole) (subst (λ (x : Lattice). area x ≤ s.rows * s.cols) (sym best) (subst (λ (x : Size). area g ≤ x.rows * x.cols) size (omega arith))),
        )

  pub shows_given_up : new.given_up ≡ Some s → new.refuted ≡ old.refuted → new.proofs.items ≡ old.proofs.items → new.best ≡ old.best
      → SectionSo rails f budget outcome.Spent section → AreShowing rails output f budget new (more ++ Question section ∷ [])
  shows_given_up given refuted proofs best so = record {
    held = subst (All (λ t. HasWhole (more ++ Question section ∷ []) output t (IsRefuted rails f))) (sym refuted) held_still;
    listed = subst (Lists (IsRefutedWhole rails output f) (more ++ Question section ∷ [])) (sym proofs)
        (lists_skip (IsRefutedWhole rails output f) section (not_refuted rails output f section (close.Spent budget) so.0.close (λ e. cc e)) more old.proofs.items h.listed);
    satisfied = satisfied_still (close.Spent budget) so.0.close (λ e. cc e) (subst (λ (g : Lattice). area g ≤ area old.best) (sym best) (omega arith));
    left_open = subst (λ (o : Option Size). IfSome o (λ t. HasWhole (more ++ Question section ∷ []) output t (IsSpentOpen rails f budget))) (sym given) (has_last more output s section (IsSpentOpen rails f budget) of target so);
    replayed = replayed_still (shows_close rails f budget outcome.Spent section so);
  }

-- at the start nothing is written
pub written_begin : (rails output : ℕ) (f : Function) (budget : ℕ) (p : Progress) (a : Option (List ℕ)) → p.refuted ≡ [] → p.proofs.items ≡ [] → p.given_up ≡ None → HasWritten rails output f budget a a p
written_begin rails output f budget p a refuted proofs given = record {
  more = [];
  are = All-nil (IsSectionOf output);
  gained = gains_nothing a;
  shows = told a;
} where
  begins : AreShowing rails output f budget p []
  begins = record {
    held = subst (All (λ t. HasWhole [] output t (IsRefuted rails f))) (sym refuted) (All-nil (λ t. HasWhole [] output t (IsRefuted rails f)));
    listed = proofs;
    satisfied = λ s found closes. absurd (let within = found.1 in omega arith);
    left_open = subst (λ (o : Option Size). IfSome o (λ t. HasWhole [] output t (IsSpentOpen rails f budget))) (sym given) tt;
    replayed = λ s found. absurd (let within = found.1 in omega arith);
  }

  told : (o : Option (List ℕ)) → IfSome o (λ _. AreShowing rails output f budget p [])
  told None = tt
  told (Some bytes) = begins

-- ---- a search that stops

-- its sink is given back as it was
pub stopped_held : {K : Type 0} (got : K → Option (List ℕ)) (faults : K → ℕ) (output : ℕ) (sink held : K) (fault : SearchFault) → fault ≡ NoMemory → held ≡ sink → StoppedSearch output (got sink) (got held) (faults sink) (faults held) fault
stopped_held got faults output sink held fault e same = held_asking got faults output sink held (fault ≡ Sink) (λ k. cc (sym e ∙ k)) same

module _ (rails output : ℕ) (f : Function) (budget : ℕ) (p : Progress) (first a b : Option (List ℕ)) (earliest before now : ℕ) (fault : SearchFault) (h : HasWritten rails output f budget first a p) (earlier : earliest ≤ before) where
  pub stopped_after : StoppedSearch output a b before now fault → StoppedSearch output first b earliest now fault
  stopped_after stopped = record {
    more = h.more ++ stopped.more;
    are = All-append (IsSectionOf output) h.more stopped.more h.are stopped.are;
    front = subst (GainsFront first b) (sym (parts_joined h.more stopped.more)) (front_then first a b (parts_text Two h.more) (parts_text Two stopped.more) h.gained stopped.front);
    later = (let l = stopped.later in omega (arith, earlier, l));
    cause = λ e. (let r = stopped.cause e in grind (arith, earlier, r));
  }

  -- behind a whole section
  pub stopped_behind : (s : Size) (Holds : Section → Type 0) → AddsSection output (Whole s) a b Holds → before ≤ now → fault ≡ NoMemory → StoppedSearch output first b earliest now fault
  stopped_behind s Holds adds later e = record {
    more = h.more ++ Question adds.section ∷ [];
    are = All-push (IsSectionOf output) h.more (Question adds.section) h.are (adds.output_is, adds.asked);
    front = front_of_all first b (parts_text Two (h.more ++ Question adds.section ∷ [])) (subst (Gains first b) (sym (parts_push h.more (Question adds.section))) (gains_then first a b (parts_text Two h.more) (section_text adds.section) h.gained adds.gained));
    later = omega (arith, earlier, later);
    cause = λ k. absurd (cc (sym e ∙ k));
  }
