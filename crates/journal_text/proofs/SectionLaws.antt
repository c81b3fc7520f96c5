-- What a section keeps, after each of its calls.
use Rattle.std.proofs.Common.{◌≡◌, ◌⊎◌, inl, inr, ℕ, suc, ◌+◌, ◌-◌, ◌^◌, ◌<◌, ◌≤◌, min, Bool, true, false, not, ◌||◌, List, [], ◌∷◌, ◌++◌, length, map, ℤ, pos, negsuc, nat_abs, nat_lt, get_or, w32, refl, sym, ap, ◌∙◌, subst, append_assoc, arith, None, Some}
use Rattle.std.specs.Prelude.{◌≢◌, IfSome, All, FitsSigned}
use Rattle.std.specs.declared.option.Option.{Option}
use Rattle.std.specs.FinSet as set
use Rattle.std.specs.List.{Contains}
use Rattle.std.specs.Ordering.{nat_cmp}
use Rattle.std.proofs.lemmas.Bool.{or_cases, false≢true}
use Rattle.std.proofs.lemmas.Bool.Decides.{nat_tests}
use Rattle.std.proofs.lemmas.List.{append-nil}
use Rattle.std.proofs.lemmas.List.Elements.{Contains-append_right, All-nil, All-push, All-weaker}
use Rattle.std.proofs.lemmas.List.Concat.{flat_map-append}
use Rattle.clause_core.specs.Literal.{Literal}
use Rattle.clause_core.specs.Formula.{Formula, IsOver}
use Rattle.wire_io.specs.Told.{Gains, GainsFront}
use Rattle.lrat_replay.specs.Book.{Book, Numbered, Accepts, addition_fault, after_addition, after_lines, is_empty, last_id, last_of, some_empty, start}
use Rattle.lrat_replay.specs.Laws.{Refutes}
use Rattle.lrat_replay.specs.Learned.{without_hints, AreWrittenNew, SpentWritten}
use Rattle.lrat_replay.specs.Ledger.{IsAbove0}
use Rattle.lrat_replay.specs.LratText.{step_text}
use Rattle.lrat_replay.specs.New.{AreNew}
use Rattle.lrat_replay.specs.declared.line.LineKind.TheVariants.{Add}
use Rattle.lrat_replay.specs.declared.line.Step.{Step}
use Rattle.lrat_replay.specs.StepRead.{IsCounted}
use Rattle.lrat_replay.proofs.Tools.{Contains-head, addition-passed, fits, added}
use Rattle.report_text.specs.Bounds.{AreRails, IsBlock}
use Rattle.report_text.specs.Pieces.{Without}
use Rattle.report_text.specs.Report.{BlockParts, block_text}
use Rattle.report_text.specs.declared.answer.Version.TheVariants.{Two}
use Rattle.report_text.proofs.Tools.{Without-append, Without-front}
use Rattle.journal_text.specs.Bounds.{IsTarget, IsClose, IsWritten, IsAsked, IsPart, MayStand}
use Rattle.journal_text.specs.Parts.{Part, Question, Answered, Section}
use Rattle.journal_text.specs.Text.{front_text, question_text, steps_text, close_text}
use Rattle.journal_text.specs.Kept.{steps_in, capped, SpellsParts, SpellsQuestion, SpellsSection, AreOf, IsSection, IsWriter}
use Rattle.journal_text.specs.Calls.{IsClosed, IsSectionBegun}
use Rattle.journal_text.specs.Origin.{origin_of}
use Rattle.journal_text.specs.declared.target.Close.{Close}
use Rattle.journal_text.specs.declared.target.Target.{Target}
use Rattle.journal_text.proofs.TextLaws.{front-section, front-more}
use Rattle.journal_text.proofs.OriginLaws.{whole-front, question_origin, some-question, Without-steps, Without-step}

-- ---- what a sink tells

-- the bytes grew by these, where it tells
pub gained : (P Q : List ℕ → Type 0) (a b : Option (List ℕ)) (line : List ℕ) → Gains a b line → IfSome a P → ((x : List ℕ) → P x → Q (x ++ line)) → IfSome b Q
gained P Q a None line g h f = tt
gained P Q None (Some y) line g h f = absurd g
gained P Q (Some x) (Some y) line g h f = subst Q (sym g) (f x h)

-- ---- steps as lines

bare : Step → Numbered
bare s = record { id = s.id; clause = s.clause }

bare-more : (steps : List Step) (s : Step) → without_hints (steps ++ s ∷ []) ≡ without_hints steps ++ record { id = s.id; clause = s.clause } ∷ []
bare-more [] s = refl
bare-more (x ∷ steps) s = ap (λ z. record { id = x.id; clause = x.clause } ∷ z) (bare-more steps s)

bare-many : (steps : List Step) → length (without_hints steps) ≡ length steps
bare-many [] = refl
bare-many (x ∷ steps) = ap suc (bare-many steps)

after-steps : (f : Formula) (d : set.FinSet nat_cmp) (earlier : List Numbered) (steps : List Step)
    → after_lines (record { formula = f; steps = earlier; deleted = d }) (map (λ x. Add x) steps) ≡ record { formula = f; steps = earlier ++ without_hints steps; deleted = d }
after-steps f d earlier [] = ap (λ z. record { formula = f; steps = z; deleted = d }) (sym (append-nil earlier))
after-steps f d earlier (s ∷ steps) =
    after-steps f d (earlier ++ record { id = s.id; clause = s.clause } ∷ []) steps
    ∙ ap (λ z. record { formula = f; steps = z; deleted = d }) (append_assoc earlier (record { id = s.id; clause = s.clause } ∷ []) (without_hints steps))

accepts-more : (book : Book) (steps : List Step) (s : Step) → Accepts book (map (λ x. Add x) steps) → addition_fault (after_lines book (map (λ x. Add x) steps)) s.id s.clause s.hints ≡ None → Accepts book (map (λ x. Add x) (steps ++ s ∷ []))
accepts-more book [] s h k = (k, tt)
accepts-more book (x ∷ steps) s h k = (h.0, accepts-more (after_addition book x.id x.clause) steps s h.1 k)

led : (book : Book) (steps : List Step) → book.deleted ≡ set.empty → AreOf book steps → after_lines (start book.formula) (map (λ x. Add x) steps) ≡ book
led book steps none h =
    after-steps book.formula set.empty [] steps ∙ (λ i. record { formula = book.formula; steps = h.same i; deleted = sym none i })

-- a hint above 0 that is a number of its type
hint-counted : (h : ℤ) → FitsSigned w32 h → IsAbove0 h → IsCounted (nat_abs h)
hint-counted (pos n) fits positive = let small = fits.sfits in (omega (arith, positive), omega (arith, small))
hint-counted (negsuc n) fits positive = absurd positive

order-bounds : (a b : ℕ) → (not (nat_lt a b) || nat_lt 2147483647 b) ≡ false → (a < b) × (b ≤ 2147483647)
order-bounds a b h = (grind (arith, nat_tests), grind (arith, nat_tests))

-- an accepted step can be written
pub written-of : (book : Book) (id : ℕ) (clause : List Literal) (hints : List ℤ) → addition_fault book id clause hints ≡ None → IsOver book.formula.vars clause × (book.formula.vars < 2 ^ 31)
    → All IsAbove0 hints → All (FitsSigned w32) hints → IsWritten (record { id = id; clause = clause; hints = hints })
written-of book id clause hints accepted over positive fits = record {
  is_step = record {
    id = (let order = order-bounds (last_id book) id (addition-passed book id clause hints accepted).order in (omega (arith, order.0), omega (arith, order.1)));
    variables = All-weaker (λ (l : Literal). (1 ≤ l.var) × (l.var ≤ book.formula.vars)) (λ (l : Literal). IsCounted l.var) (λ l h. (h.0, (let few = over.1 in let most = h.1 in omega (arith, few, most)))) clause over.0;
    hints = λ k d within. hint-counted (get_or hints k d) (fits k d within) (positive k d within);
  };
  positive = positive;
}

are-more : (book : Book) (steps : List Step) (id : ℕ) (clause : List Literal) (hints : List ℤ) → book.deleted ≡ set.empty → addition_fault book id clause hints ≡ None → AreOf book steps
    → AreOf (after_addition book id clause) (steps ++ record { id = id; clause = clause; hints = hints } ∷ [])
are-more book steps id clause hints none accepted h = record {
  accepted = accepts-more (start book.formula) steps (record { id = id; clause = clause; hints = hints }) h.accepted (ap (λ b. addition_fault b id clause hints) (led book steps none h) ∙ accepted);
  same = bare-more steps (record { id = id; clause = clause; hints = hints }) ∙ ap (λ z. z ++ record { id = id; clause = clause } ∷ []) h.same;
}

text-more : (steps : List Step) (s : Step) → steps_text (steps ++ s ∷ []) ≡ steps_text steps ++ step_text s.id s.clause s.hints
text-more steps s =
    flat_map-append (λ (x : Step). step_text x.id x.clause x.hints) steps (s ∷ []) ∙ ap (λ z. steps_text steps ++ z) (append-nil (step_text s.id s.clause s.hints))

-- ---- the origin

spelled-origin : (start rest : List ℕ) (before : ℕ) → SpellsQuestion start before → Without 113 rest → origin_of (Some (start ++ rest)) ≡ start
spelled-origin start rest before q quiet =
    subst (λ (z : List ℕ). origin_of (Some (z ++ rest)) ≡ z) (sym q.text) (question_origin (front_text Two q.rails q.parts) q.output q.target rest (whole-front Two q.rails q.parts) quiet)

origin_none : origin_of None ≡ []
unfolding origin_of
origin_none = refl

-- a question alone
pub asked-origin : (bytes : List ℕ) (before : ℕ) → SpellsQuestion bytes before → origin_of (Some bytes) ≡ bytes
asked-origin bytes before q = ap (λ (z : List ℕ). origin_of (Some z)) (sym (append-nil bytes)) ∙ spelled-origin bytes [] before q tt

section-origin : (bytes : List ℕ) (book : Book) (before : ℕ) (h : SpellsSection bytes book false before) → origin_of (Some bytes) ≡ h.start
section-origin bytes book before h = ap (λ (z : List ℕ). origin_of (Some z)) h.lines.0 ∙ spelled-origin h.start (steps_text h.steps) before h.question (Without-steps h.steps)

grown-origin : (bytes : List ℕ) (book : Book) (before : ℕ) (h : SpellsSection bytes book false before) (more : List ℕ) → Without 113 more → origin_of (Some (bytes ++ more)) ≡ h.start
grown-origin bytes book before h more quiet =
    ap (λ (z : List ℕ). origin_of (Some z)) (ap (λ z. z ++ more) h.lines.0 ∙ append_assoc h.start (steps_text h.steps) more)
    ∙ spelled-origin h.start (steps_text h.steps ++ more) before h.question (Without-append 113 (steps_text h.steps) more (Without-steps h.steps) quiet)

-- a section whose last line is cut
cut-origin : (bytes : List ℕ) (book : Book) (before : ℕ) (h : SpellsSection bytes book true before) → origin_of (Some bytes) ≡ h.start
cut-origin bytes book before h =
    let l = h.lines in
    let quiet = Without-front 113 l.front l.rest (subst (Without 113) l.line (Without-step l.last.id l.last.clause l.last.hints)) in
    ap (λ (z : List ℕ). origin_of (Some z)) l.text ∙ spelled-origin h.start (steps_text l.earlier ++ l.front) before h.question (Without-append 113 (steps_text l.earlier) l.front (Without-steps l.earlier) quiet)

some-start : (start : List ℕ) (before : ℕ) → SpellsQuestion start before → start ≢ []
some-start start before q e = some-question (front_text Two q.rails q.parts) q.output q.target (sym q.text ∙ e)

-- a front of a step's line leaves the origin, or the sink tells no more
pub origin-kept : (a b : Option (List ℕ)) (book : Book) (before id : ℕ) (clause : List Literal) (hints : List ℤ) → IfSome a (λ bytes. SpellsSection bytes book false before)
    → GainsFront a b (step_text id clause hints) → (origin_of b ≡ origin_of a) ⊎ (origin_of b ≡ [])
origin-kept a None book before id clause hints h g = inr origin_none
origin-kept None (Some y) book before id clause hints h g = absurd g.gained
origin-kept (Some x) (Some y) book before id clause hints h g =
    let quiet = Without-front 113 g.front g.rest (subst (Without 113) g.whole (Without-step id clause hints)) in
    inl (ap (λ (z : List ℕ). origin_of (Some z)) g.gained ∙ grown-origin x book before h g.front quiet ∙ sym (section-origin x book before h))

-- ---- a step was learned

last_of-push : (n : ℕ) (steps : List Numbered) (s : Numbered) → last_of n (steps ++ s ∷ []) ≡ s.id
last_of-push n [] s = refl
last_of-push n (x ∷ steps) s = last_of-push x.id steps s

module _ (book : Book) (before learned id : ℕ) (clause : List Literal) (hints : List ℤ) (accepted : addition_fault book id clause hints ≡ None) (now : IsWritten (record { id = id; clause = clause; hints = hints })) where
  spelled-more : (bytes : List ℕ) → book.deleted ≡ set.empty → SpellsSection bytes book false before → SpellsSection (bytes ++ step_text id clause hints) (after_addition book id clause) false before
  spelled-more bytes none h = record {
    start = h.start;
    question = h.question;
    steps = h.steps ++ record { id = id; clause = clause; hints = hints } ∷ [];
    are = are-more book h.steps id clause hints none accepted h.are;
    lines = (
      ap (λ z. z ++ step_text id clause hints) h.lines.0 ∙ append_assoc h.start (steps_text h.steps) (step_text id clause hints)
          ∙ ap (λ z. h.start ++ z) (sym (text-more h.steps (record { id = id; clause = clause; hints = hints }))),
      All-push IsWritten h.steps (record { id = id; clause = clause; hints = hints }) h.lines.1 now,
    );
  }

  spelled-cut : (bytes front rest : List ℕ) → step_text id clause hints ≡ front ++ rest → book.deleted ≡ set.empty → SpellsSection bytes book false before → SpellsSection (bytes ++ front) (after_addition book id clause) true before
  spelled-cut bytes front rest e none h = record {
    start = h.start;
    question = h.question;
    steps = h.steps ++ record { id = id; clause = clause; hints = hints } ∷ [];
    are = are-more book h.steps id clause hints none accepted h.are;
    lines = record {
      earlier = h.steps;
      last = record { id = id; clause = clause; hints = hints };
      all = refl;
      front = front;
      rest = rest;
      line = e;
      text = ap (λ z. z ++ front) h.lines.0 ∙ append_assoc h.start (steps_text h.steps) front;
      written = All-push IsWritten h.steps (record { id = id; clause = clause; hints = hints }) h.lines.1 now;
    };
  }

  counts : learned ≡ length book.steps → learned ≤ last_id book → (learned + 1 ≡ length (after_addition book id clause).steps) × (learned + 1 ≤ last_id (after_addition book id clause))
  counts exact few =
      added book (after_addition book id clause) id clause hints learned accepted (inr refl) exact few (last_of-push (length book.formula.clauses) book.steps (record { id = id; clause = clause }))

  pub count_fits : learned ≡ length book.steps → learned ≤ last_id book → learned + 1 < 2147483648
  count_fits exact few = fits book (after_addition book id clause) id clause hints learned accepted (inr refl) exact few

  counted : last_id (after_addition book id clause) ≤ 2147483647
  counted =
      let order = order-bounds (last_id book) id (addition-passed book id clause hints accepted).order in
      let last = last_of-push (length book.formula.clauses) book.steps (record { id = id; clause = clause }) in
      subst (λ (n : ℕ). n ≤ 2147483647) (sym last) order.1

  pub learned_whole : (a b : Option (List ℕ)) (new : Book) (broken : Bool) → new ≡ after_addition book id clause → broken ≡ false → IsSection a book broken before learned → Gains a b (step_text id clause hints)
      → IsSection b new broken before (learned + 1)
  learned_whole a b new broken grown whole h g =
      subst (λ (z : Book). IsSection b z broken before (learned + 1)) (sym grown)
      (subst (λ (w : Bool). IsSection b (after_addition book id clause) w before (learned + 1)) (sym whole)
      (record {
        count = (counts h.count h.few).0;
        few = (counts h.count h.few).1;
        counted = counted;
        whole = h.whole;
        spelled = gained (λ bytes. SpellsSection bytes book false before) (λ bytes. SpellsSection bytes (after_addition book id clause) false before) a b (step_text id clause hints) g
            (subst (λ (w : Bool). IfSome a (λ bytes. SpellsSection bytes book w before)) whole h.spelled) (λ x k. spelled-more x h.whole k);
      }))

  pub learned_cut : (a b : Option (List ℕ)) (new : Book) (broken : Bool) → new ≡ after_addition book id clause → broken ≡ false → IsSection a book broken before learned → GainsFront a b (step_text id clause hints)
      → IsSection b new true before (learned + 1)
  learned_cut a b new broken grown whole h g =
      subst (λ (z : Book). IsSection b z true before (learned + 1)) (sym grown)
      (record {
        count = (counts h.count h.few).0;
        few = (counts h.count h.few).1;
        counted = counted;
        whole = h.whole;
        spelled = gained (λ bytes. SpellsSection bytes book false before) (λ bytes. SpellsSection bytes (after_addition book id clause) true before) a b g.front g.gained
            (subst (λ (w : Bool). IfSome a (λ bytes. SpellsSection bytes book w before)) whole h.spelled) (λ x k. spelled-cut x g.front g.rest g.whole h.whole k);
      })

-- ---- a section is closed

steps_in-append : (a b : List Part) → steps_in (a ++ b) ≡ steps_in a + steps_in b
steps_in-append [] b = omega arith
steps_in-append (Question s ∷ a) b = let e = steps_in-append a b in omega (arith, e)
steps_in-append (Answered block ∷ a) b = steps_in-append a b

add_capped : (m n top : ℕ) → min (min m top + n) top ≡ min (m + n) top
add_capped m n top = omega arith

pub capped-more : (parts : List Part) (s : Section) (before learned : ℕ) → before ≡ capped (steps_in parts) → learned ≡ length s.steps → capped (before + learned) ≡ capped (steps_in (parts ++ Question s ∷ []))
capped-more parts s before learned e f =
    (λ i. capped (e i + f i)) ∙ add_capped (steps_in parts) (length s.steps) (2 ^ 64 - 1)
    ∙ ap capped (sym (steps_in-append parts (Question s ∷ []) ∙ ap (λ n. steps_in parts + n) (plus_zero (length s.steps)))) where
      plus_zero : (n : ℕ) → n + 0 ≡ n
      plus_zero n = omega arith

closed-parts : (bytes : List ℕ) (book : Book) (before learned : ℕ) (close : Close) → learned ≡ length book.steps → IsClose close → SpellsSection bytes book false before
    → SpellsParts (bytes ++ close_text close) (capped (before + learned))
closed-parts bytes book before learned close count bounds h =
    let q = h.question in
    let s : Section = record { output = q.output; target = q.target; steps = h.steps; close = close } in
    let asked : IsAsked s = record { output = q.asked_output; target = q.asked; steps = h.lines.1; close = bounds } in
    record {
      rails = q.rails;
      parts = q.parts ++ Question s ∷ [];
      text = front-section Two q.rails q.parts s (bytes ++ close_text close)
          (ap (λ z. z ++ close_text close) h.lines.0 ∙ append_assoc h.start (steps_text h.steps) (close_text close) ∙ ap (λ z. z ++ (steps_text h.steps ++ close_text close)) q.text);
      count = capped-more q.parts s before learned q.count (count ∙ ap length (sym h.are.same) ∙ bare-many h.steps);
      rails_are = q.rails_are;
      are = All-push (IsPart Two) q.parts (Question s) q.are asked;
    }

pub close_parts : (a b : Option (List ℕ)) (book : Book) (broken : Bool) (before learned steps : ℕ) (close : Close) → IsSection a book broken before learned → broken ≡ false → IsClose close → steps ≡ capped (before + learned)
    → Gains a b (close_text close) → IfSome b (λ bytes. SpellsParts bytes steps)
close_parts a b book broken before learned steps close h whole bounds e g =
    gained (λ bytes. SpellsSection bytes book false before) (λ bytes. SpellsParts bytes steps) a b (close_text close) g
    (subst (λ (w : Bool). IfSome a (λ bytes. SpellsSection bytes book w before)) whole h.spelled)
    (λ x k. subst (SpellsParts (x ++ close_text close)) (sym e) (closed-parts x book before learned close h.count bounds k))

closed-here : (bytes : List ℕ) (book : Book) (before : ℕ) (close : Close) → SpellsSection bytes book false before → IsClosed (bytes ++ close_text close) (origin_of (Some bytes)) close (AreOf book)
closed-here bytes book before close h =
    let origin = section-origin bytes book before h in
    record {
      steps = h.steps;
      text = ap (λ z. z ++ close_text close) h.lines.0 ∙ append_assoc h.start (steps_text h.steps) (close_text close) ∙ ap (λ z. z ++ (steps_text h.steps ++ close_text close)) (sym origin);
      written = h.lines.1;
      holds = h.are;
      asked = λ e. some-start h.start before h.question (sym origin ∙ e);
    }

pub close_closed : (a b : Option (List ℕ)) (book : Book) (broken : Bool) (before learned : ℕ) (close : Close) → IsSection a book broken before learned → broken ≡ false
    → Gains a b (close_text close) → IfSome b (λ bytes. IsClosed bytes (origin_of a) close (AreOf book))
close_closed a None book broken before learned close h whole g = tt
close_closed None (Some y) book broken before learned close h whole g = absurd g
close_closed (Some x) (Some y) book broken before learned close h whole g =
    let k : SpellsSection x book false before = subst (λ (w : Bool). SpellsSection x book w before) whole h.spelled in
    subst (λ (z : List ℕ). IsClosed z (origin_of (Some x)) close (AreOf book)) (sym g) (closed-here x book before close k)

-- ---- a section is given up

begun-whole : (bytes : List ℕ) (book : Book) (before : ℕ) → SpellsSection bytes book false before → IsSectionBegun bytes (origin_of (Some bytes)) false
begun-whole bytes book before h =
    let origin = section-origin bytes book before h in
    record {
      steps = h.steps;
      written = h.lines.1;
      front = steps_text h.steps;
      rest = [];
      lines = sym (append-nil (steps_text h.steps));
      text = h.lines.0 ∙ ap (λ z. z ++ steps_text h.steps) (sym origin);
      whole = λ _. refl;
      asked = λ e. some-start h.start before h.question (sym origin ∙ e);
    }

begun-cut : (bytes : List ℕ) (book : Book) (before : ℕ) → SpellsSection bytes book true before → IsSectionBegun bytes (origin_of (Some bytes)) true
begun-cut bytes book before h =
    let origin = cut-origin bytes book before h in
    let l = h.lines in
    record {
      steps = h.steps;
      written = l.written;
      front = steps_text l.earlier ++ l.front;
      rest = l.rest;
      lines = ap steps_text l.all ∙ text-more l.earlier l.last ∙ ap (λ z. steps_text l.earlier ++ z) l.line ∙ sym (append_assoc (steps_text l.earlier) l.front l.rest);
      text = l.text ∙ ap (λ z. z ++ (steps_text l.earlier ++ l.front)) (sym origin);
      whole = λ e. absurd (false≢true (sym e));
      asked = λ e. some-start h.start before h.question (sym origin ∙ e);
    }

pub section_begun : (told : Option (List ℕ)) (book : Book) (broken : Bool) (before : ℕ) → IfSome told (λ bytes. SpellsSection bytes book broken before) → IfSome told (λ bytes. IsSectionBegun bytes (origin_of told) broken)
section_begun None book broken before h = tt
section_begun (Some bytes) book true before h = begun-cut bytes book before h
section_begun (Some bytes) book false before h = begun-whole bytes book before h

-- ---- what it shows

is_empty-true : (clause : List Literal) → is_empty clause ≡ true → clause ≡ []
is_empty-true [] h = refl
is_empty-true (x ∷ clause) h = absurd (cc)

record Found (steps : List Step) : Type 0 where
  pub step : Step
  pub among : Contains (map (λ x. Add x) steps) (Add step)
  pub empty : step.clause ≡ []

later : (s : Step) (steps : List Step) → Found steps → Found (s ∷ steps)
later s steps h = record { step = h.step; among = Contains-append_right (Add s ∷ []) (map (λ x. Add x) steps) (Add h.step) h.among; empty = h.empty }

found : (steps : List Step) → some_empty (without_hints steps) ≡ true → Found steps
found [] h = absurd (false≢true h)
found (s ∷ steps) h = elim (or_cases (is_empty s.clause) (some_empty (without_hints steps)) h) [
  | inl e ↦ record { step = s; among = Contains-head (Add s) (map (λ x. Add x) steps); empty = is_empty-true s.clause e }
  | inr e ↦ later s steps (found steps e)
]

pub refutes : (book : Book) (steps : List Step) → some_empty book.steps ≡ true → AreOf book steps → Refutes book.formula (map (λ x. Add x) steps)
refutes book steps reached h =
    let f = found steps (ap some_empty h.same ∙ reached) in
    record { accepted = h.accepted; step = f.step; reached = f.among; empty = f.empty }

written : (book : Book) (steps : List Step) → Accepts book (map (λ x. Add x) steps) → AreNew book (without_hints steps) → AreWrittenNew book steps
written book [] h k = tt
written book (s ∷ steps) h k = (h.0, k.0, written (after_addition book s.id s.clause) steps h.1 k.1)

pub spends : (book : Book) (steps : List Step) (budget : ℕ) → length book.steps ≡ budget → AreNew (start book.formula) book.steps → AreOf book steps → SpentWritten book.formula steps budget
spends book steps budget count fresh h = record {
  count = sym (bare-many steps) ∙ ap length h.same ∙ count;
  each = written (start book.formula) steps h.accepted (subst (AreNew (start book.formula)) (sym h.same) fresh);
}

-- more is known of the steps
pub closed-so : (told : Option (List ℕ)) (origin : List ℕ) (close : Close) (P Q : List Step → Type 0) → ((steps : List Step) → P steps → Q steps) → IfSome told (λ bytes. IsClosed bytes origin close P) → IfSome told (λ bytes. IsClosed bytes origin close Q)
closed-so None origin close P Q f h = tt
closed-so (Some bytes) origin close P Q f h = record { steps = h.steps; text = h.text; written = h.written; holds = f h.steps h.holds; asked = h.asked }

-- ---- a journal is begun, and a question asked

pub begun : (a b : Option (List ℕ)) (rails : ℕ) (head : List ℕ) → AreRails Two rails → head ≡ front_text Two rails [] → IfSome a (λ bytes. bytes ≡ []) → Gains a b head → IfSome b (λ bytes. SpellsParts bytes 0)
begun a b rails head within e none g =
    gained (λ bytes. bytes ≡ []) (λ bytes. SpellsParts bytes 0) a b head g none
    (λ x h. record { rails = rails; parts = []; text = ap (λ z. z ++ head) h ∙ e; count = refl; rails_are = within; are = All-nil (IsPart Two) })

pub asked_next : (a b : Option (List ℕ)) (steps output : ℕ) (target : Target) → output ≤ 63 → IsTarget target → IfSome a (λ bytes. SpellsParts bytes steps) → Gains a b (question_text output target) → IfSome b (λ bytes. SpellsQuestion bytes steps)
asked_next a b steps output target few bounds h g =
    gained (λ bytes. SpellsParts bytes steps) (λ bytes. SpellsQuestion bytes steps) a b (question_text output target) g h
    (λ x k. record {
      rails = k.rails;
      parts = k.parts;
      output = output;
      target = target;
      text = ap (λ z. z ++ question_text output target) k.text;
      count = k.count;
      rails_are = k.rails_are;
      are = k.are;
      asked_output = few;
      asked = bounds;
    })

pub asked_origin : (told : Option (List ℕ)) (steps : ℕ) → IfSome told (λ bytes. SpellsQuestion bytes steps) → IfSome told (λ bytes. origin_of told ≡ bytes)
asked_origin None steps h = tt
asked_origin (Some bytes) steps h = asked-origin bytes steps h

-- ---- an answer is written

pub still_writer : (told : Option (List ℕ)) (steps : ℕ) (failed : Bool) → failed ≡ false → IsWriter told steps failed → IfSome told (λ bytes. SpellsParts bytes steps)
still_writer told steps failed whole h = subst (IsWriter told steps) whole h

answered-count : (parts : List Part) (block : BlockParts) → steps_in (parts ++ Answered block ∷ []) ≡ steps_in parts
answered-count parts block = let e = steps_in-append parts (Answered block ∷ []) in omega (arith, e)

pub answered : (a b : Option (List ℕ)) (steps : ℕ) (failed : Bool) (block : BlockParts) → failed ≡ false → IsBlock Two block → MayStand block.answer → IsWriter a steps failed → Gains a b (block_text Two block) → IsWriter b steps failed
answered a b steps failed block whole is stands h g =
    subst (IsWriter b steps) (sym whole)
    (gained (λ bytes. SpellsParts bytes steps) (λ bytes. SpellsParts bytes steps) a b (block_text Two block) g (still_writer a steps failed whole h)
    (λ x k. record {
      rails = k.rails;
      parts = k.parts ++ Answered block ∷ [];
      text = ap (λ z. z ++ block_text Two block) k.text ∙ sym (front-more Two k.rails k.parts (Answered block));
      count = k.count ∙ ap capped (sym (answered-count k.parts block));
      rails_are = k.rails_are;
      are = All-push (IsPart Two) k.parts (Answered block) k.are (is, stands);
    }))
