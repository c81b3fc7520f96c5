-- A replay stands where accepted lines led it.
use Rattle.std.proofs.Common.{◌≡◌, ◌↔◌, ℕ, ◌+◌, ◌*◌, ◌==◌, ◌≤◌, Bool, true, false, not, ◌||◌, List, [], ◌∷◌, ◌++◌, length, refl, sym, ap, ◌∙◌, subst, arith, inl, inr, ◌⊎◌, None, ℤ, pos, negsuc, Result, Ok, Err}
use Rattle.std.specs.Prelude.{OnOk, OnErr, is_err}
use Rattle.std.specs.List.{Contains}
use Rattle.std.proofs.lemmas.Bool.{cases_Bool, both_ways, not-true, or_cases, or_left, or_right, ne_eqb, true≢false}
use Rattle.std.proofs.lemmas.List.Elements.{Contains-append_right}
use Rattle.clause_core.specs.Literal.{Literal, clause_is_true}
use Rattle.clause_core.specs.Formula.{Satisfies}
use Rattle.lrat_replay.specs.declared.line.Step.{Step}
use Rattle.lrat_replay.specs.declared.line.LineKind.{LineKind}
use Rattle.lrat_replay.specs.declared.line.LineKind.TheVariants.{Add, Delete}
use Rattle.lrat_replay.specs.Book.{Book, Numbered, all_of, addition_fault, after_addition, without, deletion_fault, after_deletion, line_fault, after_line, after_lines, Accepts, start, is_empty, some_empty}
use Rattle.lrat_replay.specs.Laws.{IsReached, IsRefuted, AddsEmpty}
use Rattle.lrat_replay.specs.Replay.{IsReplay}
use Rattle.lrat_replay.proofs.Sound.{AllTrue, addition_true, line_true, start_true, Contains-head, Contains-cases}

-- one more line
accepts-more : (book : Book) (lines : List LineKind) (line : LineKind) → Accepts book lines → line_fault (after_lines book lines) line ≡ None → Accepts book (lines ++ line ∷ [])
accepts-more book [] line h k = (k, tt)
accepts-more book (x ∷ lines) line h k = (h.0, accepts-more (after_line book x) lines line h.1 k)

after-more : (book : Book) (lines : List LineKind) (line : LineKind) → after_lines book (lines ++ line ∷ []) ≡ after_line (after_lines book lines) line
after-more book [] line = refl
after-more book (x ∷ lines) line = after-more (after_line book x) lines line

reached-more : (book : Book) (line : LineKind) → IsReached book → line_fault book line ≡ None → (after_line book line).formula ≡ book.formula → IsReached (after_line book line)
reached-more book line h k same = record {
  lines = h.lines ++ line ∷ [];
  accepted = subst (λ f. Accepts (start f) (h.lines ++ line ∷ [])) (sym same) (accepts-more (start book.formula) h.lines line h.accepted (ap (λ b. line_fault b line) h.after ∙ k));
  after = ap (λ f. after_lines (start f) (h.lines ++ line ∷ [])) same ∙ after-more (start book.formula) h.lines line ∙ ap (λ b. after_line b line) h.after;
}

-- what a deletion leaves
after_deletion-formula : (book : Book) (ids : List ℤ) → (after_deletion book ids).formula ≡ book.formula
after_deletion-formula book [] = refl
after_deletion-formula book (negsuc n ∷ ids) = refl
after_deletion-formula book (pos id ∷ ids) = after_deletion-formula (without book id) ids

after_deletion-steps : (book : Book) (ids : List ℤ) → (after_deletion book ids).steps ≡ book.steps
after_deletion-steps book [] = refl
after_deletion-steps book (negsuc n ∷ ids) = refl
after_deletion-steps book (pos id ∷ ids) = after_deletion-steps (without book id) ids

some_empty-push : (steps : List Numbered) (step : Numbered) → some_empty (steps ++ step ∷ []) ≡ (some_empty steps || is_empty step.clause)
some_empty-push [] step = shape (is_empty step.clause) where
  shape : (b : Bool) → (b || false) ≡ (false || b)
  shape b = grind arith
some_empty-push (x ∷ steps) step = ap (λ b. is_empty x.clause || b) (some_empty-push steps step) ∙ shape (is_empty x.clause) (some_empty steps) (is_empty step.clause) where
  shape : (a b c : Bool) → (a || (b || c)) ≡ ((a || b) || c)
  shape a b c = grind arith

is_empty-is : (clause : List Literal) → is_empty clause ≡ (length clause == 0)
is_empty-is [] = refl
is_empty-is (x ∷ clause) = let e : length (x ∷ clause) ≡ 0 → ⊥ = λ q. omega arith in sym (ne_eqb (length (x ∷ clause)) 0 e)

module _ (book : Book) (width : ℕ) (reached : Bool) (h : IsReplay book width reached) where
  pub replay_added : (id : ℕ) (clause : List Literal) (hints : List ℤ) (new : Book) (wide : ℕ) (now : Bool) → addition_fault book id clause hints ≡ None → new ≡ after_addition book id clause → wide ≡ width
      → now ≡ (reached || (length clause == 0)) → IsReplay new wide now
  replay_added id clause hints new wide now accepted after same turned = subst (λ b. IsReplay b wide now) (sym after) (record {
    wide = subst (λ n. 2 * book.formula.vars + 2 ≤ n) (sym same) h.wide;
    reaches = turned ∙ (λ i. h.reaches i || sym (is_empty-is clause) i) ∙ sym (some_empty-push book.steps (record { id = id; clause = clause }));
    history = reached-more book (Add (record { id = id; clause = clause; hints = hints })) h.history accepted refl;
  })

  pub replay_deleted : (ids : List ℤ) (new : Book) → deletion_fault book ids ≡ None → new ≡ after_deletion book ids → IsReplay new width reached
  replay_deleted ids new accepted after = subst (λ b. IsReplay b width reached) (sym after) (record {
    wide = subst (λ f. 2 * f.vars + 2 ≤ width) (sym (after_deletion-formula book ids)) h.wide;
    reaches = h.reaches ∙ ap some_empty (sym (after_deletion-steps book ids));
    history = reached-more book (Delete ids) h.history accepted (after_deletion-formula book ids);
  })

  pub replay_after_delete : {T E : Type 0} (r : Result T E) (ids : List ℤ) (new : Book) → OnOk r (deletion_fault book ids ≡ None) → OnOk r (new ≡ after_deletion book ids) → OnErr r (new ≡ book) → IsReplay new width reached
  replay_after_delete (Ok x) ids new a b c = replay_deleted ids new a b
  replay_after_delete (Err e) ids new a b c = subst (λ b. IsReplay b width reached) (sym c) h

-- what holds under each valuation that satisfies the formula
lines_all_true : (v : ℕ → Bool) (book : Book) (lines : List LineKind) → AllTrue v (all_of book) → Accepts book lines → AllTrue v (all_of (after_lines book lines))
lines_all_true v book [] a h = a
lines_all_true v book (line ∷ lines) a h = lines_all_true v (after_line book line) lines (line_true v book line a h.0) h.1

pub implied : (book : Book) (id : ℕ) (clause : List Literal) (hints : List ℤ) → IsReached book → addition_fault book id clause hints ≡ None
    → (v : ℕ → Bool) → Satisfies v book.formula → clause_is_true v clause ≡ true
implied book id clause hints h accepted v s =
    addition_true v book id clause hints (subst (λ b. AllTrue v (all_of b)) h.after (lines_all_true v (start book.formula) h.lines (start_true v book.formula s) h.accepted)) accepted

-- an empty clause among the steps was added by a line
record Added (lines : List LineKind) : Type 0 where
  pub step : Step
  pub among : Contains lines (Add step)
  pub empty : step.clause ≡ []

is_empty-true : (clause : List Literal) → is_empty clause ≡ true → clause ≡ []
is_empty-true [] h = refl
is_empty-true (x ∷ clause) h = absurd (cc)

later : (line : LineKind) (lines : List LineKind) → Added lines → Added (line ∷ lines)
later line lines h = record { step = h.step; among = Contains-append_right (line ∷ []) lines (Add h.step) h.among; empty = h.empty }

added : (book : Book) (lines : List LineKind) → some_empty (after_lines book lines).steps ≡ true → (some_empty book.steps ≡ true) ⊎ Added lines
added book [] h = inl h
added book (Add step ∷ lines) h = elim (added (after_addition book step.id step.clause) lines h) [
  | inl e ↦ elim (or_cases (some_empty book.steps) (is_empty step.clause) (sym (some_empty-push book.steps (record { id = step.id; clause = step.clause })) ∙ e)) [
    | inl f ↦ inl f
    | inr f ↦ inr (record { step = step; among = Contains-head (Add step) lines; empty = is_empty-true step.clause f })
  ]
  | inr e ↦ inr (later (Add step) lines e)
]
added book (Delete ids ∷ lines) h = elim (added (after_deletion book ids) lines h) [
  | inl e ↦ inl (ap some_empty (sym (after_deletion-steps book ids)) ∙ e)
  | inr e ↦ inr (later (Delete ids) lines e)
]

pub refuted : (book : Book) → IsReached book → some_empty book.steps ≡ true → IsRefuted book.formula
refuted book h e = elim (added (start book.formula) h.lines (ap (λ b. some_empty b.steps) h.after ∙ e)) [
  | inl f ↦ absurd (true≢false (sym f))
  | inr a ↦ record { lines = h.lines; refutes = record { accepted = h.accepted; step = a.step; reached = a.among; empty = a.empty } }
]

-- an empty clause that lines added is among the steps
kept-empty : (book : Book) (lines : List LineKind) → some_empty book.steps ≡ true → some_empty (after_lines book lines).steps ≡ true
kept-empty book [] h = h
kept-empty book (Add step ∷ lines) h = kept-empty (after_addition book step.id step.clause) lines (some_empty-push book.steps (record { id = step.id; clause = step.clause }) ∙ or_left (some_empty book.steps) (is_empty step.clause) h)
kept-empty book (Delete ids ∷ lines) h = kept-empty (after_deletion book ids) lines (ap some_empty (after_deletion-steps book ids) ∙ h)

line-empty : (book : Book) (line : LineKind) (step : Step) → line ≡ Add step → step.clause ≡ [] → some_empty (after_line book line).steps ≡ true
line-empty book line step e h = ap (λ k. some_empty (after_line book k).steps) e ∙ some_empty-push book.steps (record { id = step.id; clause = step.clause })
    ∙ or_right (some_empty book.steps) (is_empty step.clause) (ap is_empty h)

lines-empty : (book : Book) (lines : List LineKind) (step : Step) → Contains lines (Add step) → step.clause ≡ [] → some_empty (after_lines book lines).steps ≡ true
lines-empty book [] step m h = absurd (omega arith)
lines-empty book (line ∷ lines) step m h = elim (Contains-cases line lines (Add step) m) [
  | inl e ↦ kept-empty (after_line book line) lines (line-empty book line step e h)
  | inr e ↦ lines-empty (after_line book line) lines step e h
]

pub adds-empty : (book : Book) → AddsEmpty book → some_empty book.steps ≡ true
adds-empty book h = ap (λ b. some_empty b.steps) (sym h.after) ∙ lines-empty (start book.formula) h.lines h.step h.among h.empty

pub empty-added : (book : Book) → IsReached book → some_empty book.steps ≡ true → AddsEmpty book
empty-added book h e = elim (added (start book.formula) h.lines (ap (λ b. some_empty b.steps) h.after ∙ e)) [
  | inl f ↦ absurd (true≢false (sym f))
  | inr a ↦ record { lines = h.lines; accepted = h.accepted; after = h.after; step = a.step; among = a.among; empty = a.empty }
]

pub adds_exactly : (book : Book) (b : Bool) → IsReached book → b ≡ some_empty book.steps → (b ≡ true) ↔ AddsEmpty book
adds_exactly book b h e = (λ t. empty-added book h (sym e ∙ t), λ a. e ∙ adds-empty book a)

pub adds_not : (book : Book) (b e : Bool) → IsReached book → b ≡ some_empty book.steps → e ≡ not b → (e ≡ true) ↔ (AddsEmpty book → ⊥)
adds_not book b e h s n = (
  λ t a. both_ways b (not-true b (sym n ∙ t)) (s ∙ adds-empty book a),
  λ none. elim (cases_Bool b) [
    | inl t ↦ absurd (none (empty-added book h (sym s ∙ t)))
    | inr f ↦ n ∙ ap not f
  ],
)

-- what a call that did not fail promised
pub ok_part : {T E A : Type 0} (r : Result T E) → false ≡ is_err r → OnOk r A → A
ok_part (Ok x) e a = a
ok_part (Err y) e a = absurd (cc)

pub turned_true : (a b : Bool) → true ≡ b → true ≡ (a || b)
turned_true a b e = sym (or_right a b (sym e))

pub turned_not : (a b : Bool) → false ≡ b → a ≡ (a || b)
turned_not a b e = grind arith
