-- Steps that come one after the other.
use Rattle.std.proofs.lemmas.List.Sums.{sum_by-append}
use Rattle.std.proofs.Common.{◌≡◌, ℕ, Bool, true, inl, inr, arith, suc, ◌+◌, not, cond, List, [], ◌∷◌, ◌++◌, length, refl, ap, sym, ◌∙◌, subst, append_assoc}
use Rattle.clause_core.specs.Formula.{Formula}
use Rattle.lrat_replay.specs.declared.line.Step.{Step}
use Rattle.std.specs.List.{Contains}
use Rattle.std.proofs.lemmas.Bool.{true≢false}
use Rattle.std.proofs.lemmas.List.Elements.{Contains-append_right}
use Rattle.clause_core.specs.Literal.{clause_is_true}
use Rattle.lrat_replay.specs.declared.line.LineKind.TheVariants.{Add}
use Rattle.lrat_replay.specs.Together.{IsEndSound}
use Rattle.lrat_replay.proofs.Sound.{AllTrue, addition_true, line_true, start_true, Contains-cases, Contains-head}
use Rattle.lrat_replay.specs.Book.{Book, Numbered, all_of, after_addition, is_empty, start}
use Rattle.lrat_replay.specs.New.{AreAccepted, AreNew, AllTellPropagation, Spent}
use Rattle.lrat_replay.specs.Learned.{after_steps, AreFresh, count_full, Learns, AreWrittenNew, SpentWritten, without_hints}

pub AllTellPropagation-append : (book : Book) (a b : List Numbered) → AllTellPropagation book a → AllTellPropagation (after_steps book a) b → AllTellPropagation book (a ++ b)
AllTellPropagation-append book [] b h k = k
AllTellPropagation-append book (x ∷ a) b h k = (h.0, AllTellPropagation-append (after_addition book x.id x.clause) a b h.1 k)

pub AreAccepted-append : (book : Book) (a b : List Numbered) → AreAccepted book a → AreAccepted (after_steps book a) b → AreAccepted book (a ++ b)
AreAccepted-append book [] b h k = k
AreAccepted-append book (x ∷ a) b h k = (h.0, AreAccepted-append (after_addition book x.id x.clause) a b h.1 k)

pub AreNew-append : (book : Book) (a b : List Numbered) → AreNew book a → AreNew (after_steps book a) b → AreNew book (a ++ b)
AreNew-append book [] b h k = k
AreNew-append book (x ∷ a) b h k = (h.0, AreNew-append (after_addition book x.id x.clause) a b h.1 k)

pub AreFresh-append : (book : Book) (a b : List Numbered) → AreFresh book a → AreFresh (after_steps book a) b → AreFresh book (a ++ b)
AreFresh-append book [] b h k = k
AreFresh-append book (x ∷ a) b h k = (h.0, AreFresh-append (after_addition book x.id x.clause) a b h.1 k)

pub after_steps-append : (book : Book) (a b : List Numbered) → after_steps book (a ++ b) ≡ after_steps (after_steps book a) b
after_steps-append book [] b = refl
after_steps-append book (x ∷ a) b = after_steps-append (after_addition book x.id x.clause) a b

-- all steps after those of the book
pub steps-after_steps : (book : Book) (a : List Numbered) → (after_steps book a).steps ≡ book.steps ++ a
steps-after_steps book [] = sym (append-nil book.steps) where
  append-nil : (xs : List Numbered) → xs ++ [] ≡ xs
  append-nil [] = refl
  append-nil (x ∷ xs) = ap (λ r. x ∷ r) (append-nil xs)
steps-after_steps book (x ∷ a) = steps-after_steps (after_addition book x.id x.clause) a ∙ append_assoc book.steps (x ∷ []) a

pub formula-after_steps : (book : Book) (a : List Numbered) → (after_steps book a).formula ≡ book.formula
formula-after_steps book [] = refl
formula-after_steps book (x ∷ a) = formula-after_steps (after_addition book x.id x.clause) a

pub deleted-after_steps : (book : Book) (a : List Numbered) → (after_steps book a).deleted ≡ book.deleted
deleted-after_steps book [] = refl
deleted-after_steps book (x ∷ a) = deleted-after_steps (after_addition book x.id x.clause) a

-- two calls come together
pub Learns-append : (first middle last : Book) (a b : List Numbered) → Learns first middle a → Learns middle last b → Learns first last (a ++ b)
Learns-append first middle last a b h k = record {
  grown = k.grown ∙ ap (λ m. after_steps m b) h.grown ∙ sym (after_steps-append first a b);
  accepted = AreAccepted-append first a b h.accepted (subst (λ m. AreAccepted m b) h.grown k.accepted);
  fresh = AreFresh-append first a b h.fresh (subst (λ m. AreFresh m b) h.grown k.fresh);
}

pub Learns-none : (book : Book) → Learns book book []
Learns-none book = record { grown = refl; accepted = tt; fresh = tt }

pub count_full-append : (a b : List Numbered) → count_full (a ++ b) ≡ count_full a + count_full b
count_full-append a b = sum_by-append (λ (step : Numbered). cond (not (is_empty step.clause)) 1 0) a b

-- a budget that is spent on written steps is spent on these steps without their hints
pub spent_written : (formula : Formula) (written : List Step) (budget : ℕ) → SpentWritten formula written budget → Spent formula (without_hints written) budget
spent_written formula written budget h = record {
  count = many written ∙ h.count;
  accepted = accepted (start formula) written h.each;
  are_new = are_new (start formula) written h.each;
} where
  many : (steps : List Step) → length (without_hints steps) ≡ length steps
  many [] = refl
  many (x ∷ steps) = ap suc (many steps)

  accepted : (book : Book) (steps : List Step) → AreWrittenNew book steps → AreAccepted book (without_hints steps)
  accepted book [] h = tt
  accepted book (x ∷ steps) h = ((x.hints, h.0), accepted (after_addition book x.id x.clause) steps h.2)

  are_new : (book : Book) (steps : List Step) → AreWrittenNew book steps → AreNew book (without_hints steps)
  are_new book [] h = tt
  are_new book (x ∷ steps) h = (h.1, are_new (after_addition book x.id x.clause) steps h.2)

-- each accepted step is true under a valuation that satisfies the formula
steps_true : (v : ℕ → Bool) (book : Book) (steps : List Numbered) → AllTrue v (all_of book) → AreAccepted book steps → (step : Numbered) → Contains steps step → clause_is_true v step.clause ≡ true
steps_true v book [] a h step m = absurd (omega arith)
steps_true v book (x ∷ steps) a h step m = elim (Contains-cases x steps step m) [
  | inl e ↦ subst (λ (s : Numbered). clause_is_true v s.clause ≡ true) e (addition_true v book x.id x.clause h.0.0 a h.0.1)
  | inr e ↦ steps_true v (after_addition book x.id x.clause) steps (line_true v book (Add (record { id = x.id; clause = x.clause; hints = h.0.0 })) a h.0.1) h.1 step e
]

pub end_sound : IsEndSound
end_sound formula steps a h v s =
    let last : Numbered = record { id = h.id; clause = [] } in
    let inside = subst (λ all. Contains all last) (sym h.whole) (Contains-append_right h.before (last ∷ []) last (Contains-head last [])) in
    true≢false (sym (steps_true v (start formula) steps (start_true v formula s) a last inside))
