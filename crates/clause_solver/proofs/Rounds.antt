-- How rounds come together.
use Rattle.std.proofs.Common.{◌≡◌, ℕ, zero, suc, ◌+◌, ◌-◌, ◌*◌, ◌<◌, ◌≤◌, Bool, true, false, not, cond, List, [], ◌∷◌, ◌++◌, length, ◌⊎◌, inl, inr, refl, sym, ap, ◌∙◌, subst, arith, length-append, None}
use Rattle.std.specs.Prelude.{All}
use Rattle.clause_core.specs.Literal.{Literal}
use Rattle.lrat_replay.specs.Status.{Known}
use Rattle.clause_core.specs.Formula.{IsOver}
use Rattle.lrat_replay.specs.Book.{Book, Numbered, after_addition, is_empty}
use Rattle.lrat_replay.specs.New.{IsNew, AreAccepted, AreNew, AllTellPropagation}
use Rattle.lrat_replay.specs.Learned.{after_steps, AreFresh, count_full, EndsEmpty}
use Rattle.lrat_replay.proofs.Tools.{AllTellPropagation-append, AreAccepted-append, AreNew-append, after_steps-append, Learns-append, count_full-append}
use Rattle.clause_solver.specs.Trail.{Track, known_by, free, unassigned, IsDecided, AreValued}
use Rattle.clause_solver.specs.Plain.{AllRest, HaveReasons}
use Rattle.clause_solver.specs.Search.{IsReady, Moment, LearnsNew, LearnsUpTo, DecidesRound, SatisfiesRound, RoundSo}
use Rattle.clause_solver.specs.declared.search.Round.{Round}
use Rattle.clause_solver.specs.declared.search.Round.TheVariants.{Learned, Decided, Satisfied, Refuted, Spent}
use Rattle.clause_solver.proofs.Propagation.{pushed_fewer, free_few}

-- no steps
pub learns_none : (book : Book) → LearnsNew book book 0
learns_none book = record { learned = []; grown = refl; accepted = tt; are_new = tt; tell = tt; many = refl }

-- one call after the other
pub learns_more : (first middle last : Book) (m n k : ℕ) → LearnsNew first middle m → LearnsNew middle last n → k ≡ m + n → LearnsNew first last k
learns_more first middle last m n k a b e = record {
  learned = a.learned ++ b.learned;
  grown = b.grown ∙ ap (λ s. after_steps s b.learned) a.grown ∙ sym (after_steps-append first a.learned b.learned);
  accepted = AreAccepted-append first a.learned b.learned a.accepted (subst (λ s. AreAccepted s b.learned) a.grown b.accepted);
  are_new = AreNew-append first a.learned b.learned a.are_new (subst (λ s. AreNew s b.learned) a.grown b.are_new);
  tell = AllTellPropagation-append first a.learned b.learned a.tell (subst (λ s. AllTellPropagation s b.learned) a.grown b.tell);
  many = let l = length-append a.learned b.learned in let p = a.many in let q = b.many in omega arith;
}

learns_to : (old new : Book) (m : ℕ) → LearnsNew old new m → (new' : Book) → new' ≡ new → LearnsNew old new' m
learns_to old new m a new' e = subst (λ b. LearnsNew old b m) (sym e) a

-- new steps are not empty
full : (clause : List Literal) → (clause ≡ [] → ⊥) → is_empty clause ≡ false
full [] h = absurd (h refl)
full (x ∷ clause) h = refl

pub count-new : (book : Book) (steps : List Numbered) → AreNew book steps → count_full steps ≡ length steps
count-new book steps h = by book steps h where
  one : (step : Numbered) (rest : ℕ) → IsNew book step.clause → rest ≡ rest
  one step rest h = refl

  by : (book : Book) (steps : List Numbered) → AreNew book steps → count_full steps ≡ length steps
  by book [] h = refl
  by book (x ∷ steps) h = count_full-append (x ∷ []) steps ∙ (let f = full x.clause h.0.some in let r = by (after_addition book x.id x.clause) steps h.1 in
      ap (λ b. (0 + cond (not b) 1 0) + count_full steps) f ∙ (omega arith))

pub new-fresh : (book : Book) (steps : List Numbered) → AreNew book steps → AreFresh book steps
new-fresh book [] h = tt
new-fresh book (x ∷ steps) h = (inr h.0, new-fresh (after_addition book x.id x.clause) steps h.1)

pub up_to_new : (old new : Book) (count budget : ℕ) → LearnsNew old new count → count ≤ budget → LearnsUpTo old new budget
up_to_new old new count budget a h = record {
  learned = a.learned;
  learns = record { grown = a.grown; accepted = a.accepted; fresh = new-fresh old a.learned a.are_new };
  few = let c = count-new old a.learned a.are_new in let m = a.many in omega arith;
}

pub up_to_more : (old middle new : Book) (count left budget : ℕ) → LearnsNew old middle count → LearnsUpTo middle new left → count + left ≤ budget → LearnsUpTo old new budget
up_to_more old middle new count left budget a b h = record {
  learned = a.learned ++ b.learned;
  learns = Learns-append old middle new a.learned b.learned (record { grown = a.grown; accepted = a.accepted; fresh = new-fresh old a.learned a.are_new }) b.learns;
  few = let c = count-new old a.learned a.are_new in let m = a.many in let s = count_full-append a.learned b.learned in let f = b.few in omega arith;
}

-- the origin stays or is emptied
pub origin_more : (first middle last : List ℕ) → (middle ≡ first) ⊎ (middle ≡ []) → (last ≡ middle) ⊎ (last ≡ []) → (last ≡ first) ⊎ (last ≡ [])
origin_more first middle last a (inr e) = inr e
origin_more first middle last (inl d) (inl e) = inl (e ∙ d)
origin_more first middle last (inr d) (inl e) = inr (e ∙ d)

-- the last step is empty
pub ends_empty : (book new : Book) (id : ℕ) → new ≡ after_addition book id [] → EndsEmpty new.steps
ends_empty book new id e = record { before = book.steps; id = id; whole = ap (λ (b : Book). b.steps) e }

-- a round without a conflict
module _ (book : Book) (broken : Bool) (clauses : List (List Literal)) (old middle new : Track) (width left : ℕ) (ready : IsReady book broken clauses old width) (reasons : HaveReasons clauses middle.values)
    (rest : AllRest clauses (known_by middle.values)) (vars : middle.vars ≡ old.vars) (few : unassigned middle ≤ unassigned old) where
  abbrev at : Track → Moment
  at t = record { book = book; broken = broken; clauses = clauses; track = t; width = width }

  ready_at : (t : Track) → t.vars ≡ old.vars → IsReady book broken clauses t width
  ready_at t e = record {
    whole = ready.whole;
    copy = ready.copy;
    over = subst (λ n. All (IsOver n) clauses) (sym e) ready.over;
    vars = e ∙ ready.vars;
    room = subst (λ n. 2 * n + 2 ≤ width) (sym e) ready.room;
  }

  decides : IsDecided middle new → DecidesRound (at old) (at new)
  decides d = subst (λ (t : Track). DecidesRound (at old) (at t)) (sym d.new_is) (record {
    goes = record { ready = ready_at (record { vars = middle.vars; values = record { lit = d.lit; reason = None } ∷ middle.values }) vars; reasons = (rest, reasons) };
    book = refl;
    clauses = refl;
    vars = vars;
    fewer = let f = pushed_fewer middle d.lit None d.variable d.fresh.unknown in omega arith;
  })

  satisfies : (new ≡ middle) × AreValued middle.vars (known_by middle.values) → SatisfiesRound (at old) (at new)
  satisfies h = subst (λ (t : Track). SatisfiesRound (at old) (at t)) (sym h.0) (record {
    goes = record { ready = ready_at middle vars; reasons = reasons };
    book = refl;
    model = record { rest = rest; valued = h.1 };
  })

  pub quiet_round : (r : Round) → (r ≡ Decided → IsDecided middle new) → (r ≡ Satisfied → (new ≡ middle) × AreValued middle.vars (known_by middle.values)) → (r ≡ Decided) ⊎ (r ≡ Satisfied) → RoundSo r (at old) (at new) left
  quiet_round r d s (inl e) = subst (λ q. RoundSo q (at old) (at new) left) (sym e) (decides (d e))
  quiet_round r d s (inr e) = subst (λ q. RoundSo q (at old) (at new) left) (sym e) (satisfies (s e))

-- a learned clause costs more of what is left than values that are taken back give
pub round_measure : (budget n w u v : ℕ) → n < budget → v < w → (budget - (n + 1)) * w + v < (budget - n) * w + u
round_measure budget n w u v h k =
    let e : budget - n ≡ (budget - (n + 1)) + 1 = omega arith in
    subst (λ m. (budget - (n + 1)) * w + v < m * w + u) (sym e) (more (budget - (n + 1))) where
      more : (rest : ℕ) → rest * w + v < (rest + 1) * w + u
      more rest = omega arith

pub unassigned_few : (track : Track) (vars : ℕ) → track.vars ≡ vars → unassigned track < 2 * vars + 3
unassigned_few track vars e = let r = free_few (known_by track.values) (2 * track.vars + 2) in omega arith

-- a round that began with more values
pub round_before : (r : Round) (old middle new : Moment) (left : ℕ) → middle.book ≡ old.book → middle.clauses ≡ old.clauses → middle.track.vars ≡ old.track.vars → unassigned middle.track ≤ unassigned old.track → RoundSo r middle new left → RoundSo r old new left
round_before Learned old middle new left b c v f s = record {
  some = s.some;
  goes = s.goes;
  learns = subst (λ k. LearnsNew k new.book 1) b s.learns;
  grown = s.grown ∙ ap (λ cs. length cs + 1) c;
  vars = s.vars ∙ v;
}
round_before Decided old middle new left b c v f s = record { goes = s.goes; book = s.book ∙ b; clauses = s.clauses ∙ c; vars = s.vars ∙ v; fewer = let g = s.fewer in omega arith }
round_before Satisfied old middle new left b c v f s = record { goes = s.goes; book = s.book ∙ b; model = s.model }
round_before Refuted old middle new left b c v f s = record { whole = s.whole; id = s.id; book = s.book ∙ ap (λ k. after_addition k s.id []) b }
round_before Spent old middle new left b c v f s = record { none = s.none; goes = s.goes; book = s.book ∙ b; undecided = s.undecided }
