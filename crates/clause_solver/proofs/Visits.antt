-- Steps of propagation over watched literals.
use Rattle.std.proofs.Common.{◌≡◌, ℕ, zero, suc, ◌+◌, ◌*◌, ◌<◌, ◌≤◌, Bool, true, false, List, [], ◌∷◌, length, take, get_or, ◌⊎◌, inl, inr, refl, sym, ap, ◌∙◌, subst, arith, Option, None, Some, ◌++◌, Vec, Global}
use Rattle.std.specs.Prelude.{slice_get}
use Rattle.std.proofs.lemmas.Bool.{cases_eq, both_ways, false_from_ne_true, eq-eqb, true≢false}
use Rattle.std.proofs.lemmas.List.{take_more}
use Rattle.std.proofs.lemmas.Option.{slice_get-get_or}
use Rattle.clause_core.specs.Literal.{Literal, flip, number, has}
use Rattle.clause_core.specs.Formula.{IsOver}
use Rattle.clause_core.proofs.Tools.{flip-flip, same-true, has-cases}
use Rattle.lrat_replay.specs.Status.{Known, IsSatisfied, IsUnit, IsConflict}
use Rattle.clause_solver.specs.Trail.{Track, known_by, oldest, unassigned, AreFresh, IsVariableOf}
use Rattle.clause_solver.specs.Plain.{IsConflictAt, AllRest}
use Rattle.clause_solver.specs.Watch.{entries_of, list_of, count, pair_at, StandsBelow, IsListed, HasNoted, HasTurned, HasSettled}
use Rattle.clause_solver.specs.Watching.{IsWatched, HoldsOff, IsBlocked, IsWorking, HasAdvanced, IsVisiting}
use Rattle.clause_solver.specs.declared.value.Value.{Value}
use Rattle.clause_solver.specs.declared.watch.Entry.{Entry}
use Rattle.clause_solver.specs.declared.watch.Pair.{Pair}
use Rattle.clause_solver.specs.declared.watch.Watches.{Watches}
use Rattle.clause_solver.specs.declared.work.Work.{Work}
use Rattle.clause_solver.proofs.Reduce.{value-first, value-older}
use Rattle.clause_solver.proofs.Marking.{has-push}
use Rattle.clause_solver.proofs.Levels.{known-oldest, oldest-all, oldest-none}
use Rattle.clause_solver.proofs.AnalyseLaws.{fresh_consistent}
use Rattle.clause_solver.proofs.Propagation.{all_over, over_has, pushed_fewer}
use Rattle.clause_solver.proofs.Watching.{satisfied_more, oldest-skip, off_at_zero, watching_rests, watching_forced, watching_looked, watching_noted, watching_turned, watching_settled}

-- one more literal of a clause
pub has-take : (clause : List Literal) (i : ℕ) (x l : Literal) → i < length clause → x ≡ get_or clause i x → has (take (i + 1) clause) l ≡ true → (has (take i clause) l ≡ true) ⊎ (x ≡ l)
has-take clause i x l h e k = has-push (take i clause) x l (subst (λ c. has c l ≡ true) (take_more clause i x h ∙ ap (λ y. take i clause ++ y ∷ []) (sym e)) k)

-- a clause of two literals has no third one
is_one_of : (x y l : Literal) → has (x ∷ y ∷ []) l ≡ true → (x ≡ l) ⊎ (y ≡ l)
is_one_of x y l h = elim (has-cases x l (y ∷ []) h) [
  | inl e ↦ inl e
  | inr k ↦ elim (has-cases y l [] k) [ inl e ↦ inr e | inr j ↦ absurd (true≢false (sym j)) ]
]

pub whole_two : (clause : List Literal) (one two : Literal) → length clause ≡ 2 → has clause one ≡ true → has clause two ≡ true → (one ≡ two → ⊥) → (l : Literal) → has clause l ≡ true → (one ≡ l) ⊎ (two ≡ l)
whole_two [] one two n a b ne l h = absurd (omega arith)
whole_two (x ∷ []) one two n a b ne l h = absurd (omega arith)
whole_two (x ∷ y ∷ z ∷ zs) one two n a b ne l h = absurd (omega arith)
whole_two (x ∷ y ∷ []) one two n a b ne l h = elim (is_one_of x y one a) [
  | inl p ↦ elim (is_one_of x y two b) [
    | inl q ↦ absurd (ne (sym p ∙ q))
    | inr q ↦ elim (is_one_of x y l h) [ inl r ↦ inl (sym p ∙ r) | inr r ↦ inr (sym q ∙ r) ]
  ]
  | inr p ↦ elim (is_one_of x y two b) [
    | inl q ↦ elim (is_one_of x y l h) [ inl r ↦ inr (sym q ∙ r) | inr r ↦ inl (sym p ∙ r) ]
    | inr q ↦ absurd (ne (sym p ∙ q))
  ]
]

-- of a clause that has no other literals than two, one is left beside one of these
module _ (clause : List Literal) (pair : Pair) (looked known : Known) (w : IsWatched clause pair looked known) (other rest : Literal) (stays : (other ≡ pair.one) ⊎ (other ≡ pair.two))
    (is : ((pair.one ≡ other) × (rest ≡ pair.two)) ⊎ ((pair.one ≡ other → ⊥) × (rest ≡ pair.one))) where
  pub rest_in : has clause rest ≡ true
  rest_in = elim is [ inl h ↦ subst (λ x. has clause x ≡ true) (sym h.1) w.two_in | inr h ↦ subst (λ x. has clause x ≡ true) (sym h.1) w.one_in ]

  pub rest_apart : rest ≡ other → ⊥
  rest_apart e = elim is [ inl h ↦ w.apart (h.0 ∙ sym e ∙ h.1) | inr h ↦ h.0 (sym h.1 ∙ e) ]

  pub rest_whole : pair.is_whole ≡ true → (l : Literal) → has clause l ≡ true → (other ≡ l) ⊎ (rest ≡ l)
  rest_whole k l h = elim is [
    | inl a ↦ elim (w.whole k l h) [ inl e ↦ inl (sym a.0 ∙ e) | inr e ↦ inr (a.1 ∙ e) ]
    | inr a ↦ elim (w.whole k l h) [
      | inl e ↦ inr (a.1 ∙ e)
      | inr e ↦ elim stays [ inl q ↦ absurd (a.0 (sym q)) | inr q ↦ inl (q ∙ e) ]
    ]
  ]

-- literals with the same number are the same
pub same_number : (a b : Literal) → number a ≡ number b → a ≡ b
same_number a b e = same-true a b (eq-eqb (number a) (number b) e)

-- the other literals of a clause are false
pub unit_of : (values : List Value) → AreFresh values → (clause : List Literal) (u : Literal) → has clause u ≡ true → known_by values u ≡ false → known_by values (flip u) ≡ false →
    ((l : Literal) → has clause l ≡ true → (u ≡ l) ⊎ (known_by values (flip l) ≡ true)) → IsUnit (known_by values) clause u
unit_of values fresh clause u u_in is_open flip_open others = record {
  is_in = u_in;
  unknown = is_open;
  flip_unknown = flip_open;
  others = others;
  none = λ l h. elim (others l h) [ inl e ↦ ap (known_by values) (sym e) ∙ is_open | inr k ↦ false_from_ne_true (known_by values l) (λ j. fresh_consistent values fresh l j k) ];
}

pub conflict_of : (values : List Value) → AreFresh values → (clause : List Literal) → ((l : Literal) → has clause l ≡ true → known_by values (flip l) ≡ true) → IsConflict (known_by values) clause
conflict_of values fresh clause all = record { all = all; none = λ l h. false_from_ne_true (known_by values l) (λ j. fresh_consistent values fresh l j (all l h)) }

pub conflict_but : (values : List Value) → AreFresh values → (clause : List Literal) (u : Literal) → known_by values (flip u) ≡ true →
    ((l : Literal) → has clause l ≡ true → (u ≡ l) ⊎ (known_by values (flip l) ≡ true)) → IsConflict (known_by values) clause
conflict_but values fresh clause u k others = conflict_of values fresh clause (λ l h. elim (others l h) [ inl e ↦ ap (λ x. known_by values (flip x)) (sym e) ∙ k | inr j ↦ j ])

-- a call after another
pub advanced_same : (work new : Work) → new.clauses ≡ work.clauses → new.seen ≡ work.seen → new.trail ≡ work.trail → HasAdvanced work new
advanced_same work new c s t = record {
  clauses = c;
  seen = s;
  vars = ap (λ (x : Track). x.vars) t;
  front = λ n h. ap (λ (x : Track). oldest n x.values) t;
  longer = let e = ap (λ (x : Track). length x.values) t in omega arith;
  grown = ap (λ (x : Track). unassigned x + length x.values) t;
}

pub advanced_then : (first middle last : Work) → HasAdvanced first middle → HasAdvanced middle last → HasAdvanced first last
advanced_then first middle last a b = let l = a.longer in let m = b.longer in record {
  clauses = b.clauses ∙ a.clauses;
  seen = b.seen ∙ a.seen;
  vars = b.vars ∙ a.vars;
  front = λ n h. b.front n (omega arith) ∙ a.front n h;
  longer = omega arith;
  grown = b.grown ∙ a.grown;
}

pub advanced_fewer : (old new : Work) → HasAdvanced old new → unassigned new.trail ≤ unassigned old.trail
advanced_fewer old new a = let g = a.grown in let l = a.longer in omega arith

-- a clause forces a literal
module _ (work : Work) (w : IsWorking work) (lit : Literal) (id place : ℕ) (clause : List Literal) (t : Track) (is : t ≡ record { vars = work.trail.vars; values = record { lit = lit; reason = Some id } ∷ work.trail.values })
    (unit : IsUnit (known_by work.trail.values) clause lit) (variable : IsVariableOf work.trail.vars lit) where
  abbrev forced : Work
  forced = record { clauses = work.clauses; trail = t; seen = work.seen; watches = work.watches; looked = work.looked }

  pub working_forced : id ≡ place + 1 → slice_get work.clauses place ≡ Some clause → IsWorking (record { clauses = work.clauses; trail = t; seen = work.seen; watches = work.watches; looked = work.looked })
  working_forced e found = subst (λ (s : Track). IsWorking (record { clauses = work.clauses; trail = s; seen = work.seen; watches = work.watches; looked = work.looked })) (sym is) (record {
    over = w.over;
    wide = w.wide;
    fresh = (record { unknown = unit.unknown; flip_unknown = unit.flip_unknown }, w.fresh);
    reasons = (record { place = place; clause = clause; id_is = e; found = found; unit = unit }, w.reasons);
    watching = watching_forced work.clauses work.trail.values work.looked work.watches w.watching lit id;
  })

  pub advanced_forced : HasAdvanced work (record { clauses = work.clauses; trail = t; seen = work.seen; watches = work.watches; looked = work.looked })
  advanced_forced = subst (λ (s : Track). HasAdvanced work (record { clauses = work.clauses; trail = s; seen = work.seen; watches = work.watches; looked = work.looked })) (sym is) (record {
    clauses = refl;
    seen = refl;
    vars = refl;
    front = λ n h. oldest-skip (record { lit = lit; reason = Some id }) work.trail.values n h;
    longer = omega arith;
    grown = let f = pushed_fewer work.trail lit (Some id) variable unit.unknown in omega arith;
  })

  pub satisfied_forced : IsSatisfied (known_by t.values) clause
  satisfied_forced = subst (λ (s : Track). IsSatisfied (known_by s.values) clause) (sym is) (record { lit = lit; is_in = unit.is_in; is_known = value-first (record { lit = lit; reason = Some id }) work.trail.values })

  pub known_forced : (l : Literal) → known_by work.trail.values l ≡ true → known_by t.values l ≡ true
  known_forced l k = subst (λ (s : Track). known_by s.values l ≡ true) (sym is) (value-older (record { lit = lit; reason = Some id }) work.trail.values l k)

-- what is known of a clause that watches two literals
pub record IsPairOf (work : Work) (place : ℕ) (pair : Pair) : Type 0 where
  pub clause : List Literal
  pub found : slice_get work.clauses place ≡ Some clause
  pub low : place < count work.watches
  pub inside : place < length work.clauses
  pub watched : IsWatched clause pair (known_by (oldest work.looked work.trail.values)) (known_by work.trail.values)
  pub over : IsOver work.trail.vars clause

pub pair_of : (work : Work) → IsWorking work → (place : ℕ) (pair : Pair) → pair_at work.watches place ≡ Some pair → IsPairOf work place pair
pair_of work w place pair e =
    let low = inside work.watches.pairs.items place e in
    let c = w.watching.counted in
    let within : place < length work.clauses = omega arith in
    let found = slice_get-get_or work.clauses place [] within in
    record {
      clause = get_or work.clauses place [];
      found = found;
      low = low;
      inside = within;
      watched = subst (λ o. HoldsOff (get_or work.clauses place []) o (known_by (oldest work.looked work.trail.values)) (known_by work.trail.values)) e (w.watching.guarded place (get_or work.clauses place []) low found).0;
      over = all_over work.trail.vars work.clauses place (get_or work.clauses place []) w.over found;
    } where
      inside : (ps : List (Option Pair)) (k : ℕ) → get_or ps k None ≡ Some pair → k < length ps
      inside [] k h = absurd (cc)
      inside (x ∷ ps) zero h = omega arith
      inside (x ∷ ps) (suc k) h = let r = inside ps k h in omega arith

pub same_clause_at : (work : Work) (place : ℕ) (pair : Pair) (q : IsPairOf work place pair) (clause : List Literal) → slice_get work.clauses place ≡ Some clause → q.clause ≡ clause
same_clause_at work place pair q clause e = let s : Some q.clause ≡ Some clause = sym q.found ∙ e in cc

-- one of the two literals, but not the one that became false
pub record IsOther (pair : Pair) (lost other : Literal) : Type 0 where
  pub stays : (other ≡ pair.one) ⊎ (other ≡ pair.two)
  pub apart : other ≡ lost → ⊥

pub other_is : (pair : Pair) (lost other : Literal) → (pair.one ≡ pair.two → ⊥) → ((pair.one ≡ lost) × (other ≡ pair.two)) ⊎ ((pair.one ≡ lost → ⊥) × (other ≡ pair.one)) → IsOther pair lost other
other_is pair lost other apart (inl h) = record { stays = inr h.1; apart = λ e. apart (h.0 ∙ sym e ∙ h.1) }
other_is pair lost other apart (inr h) = record { stays = inl h.1; apart = λ e. h.0 (sym h.1 ∙ e) }

pub other_in : (clause : List Literal) (pair : Pair) (looked known : Known) (other : Literal) → IsWatched clause pair looked known → (other ≡ pair.one) ⊎ (other ≡ pair.two) → has clause other ≡ true
other_in clause pair looked known other w (inl e) = subst (λ x. has clause x ≡ true) (sym e) w.one_in
other_in clause pair looked known other w (inr e) = subst (λ x. has clause x ≡ true) (sym e) w.two_in

-- a visit of the clause at an index
module _ (work : Work) (lost : Literal) (index place : ℕ) (v : IsVisiting work lost (index + 1)) (at : place ≡ get_or (list_of work.watches lost) index 0) where
  here_or_below : (k : ℕ) → StandsBelow (list_of work.watches lost) (index + 1) k → (k ≡ place) ⊎ StandsBelow (list_of work.watches lost) index k
  here_or_below k s = elim (cases_eq s.index index) [
    | inl e ↦ inl (sym s.is ∙ ap (λ n. get_or (list_of work.watches lost) n 0) e ∙ sym at)
    | inr ne ↦ inr (record { index = s.index; below = less s.index index s.below ne; within = s.within; is = s.is })
  ] where
    less : (a b : ℕ) → a < b + 1 → (a ≡ b → ⊥) → a < b
    less a b h ne = grind arith

  -- the trail may have grown, and the clause is satisfied
  pub visiting_stays : (t : Track) → IsWorking (record { clauses = work.clauses; trail = t; seen = work.seen; watches = work.watches; looked = work.looked }) → t.vars ≡ work.trail.vars → ((l : Literal) → known_by work.trail.values l ≡ true → known_by t.values l ≡ true)
      → ((clause : List Literal) (pair : Pair) → slice_get work.clauses place ≡ Some clause → pair_at work.watches place ≡ Some pair → IsSatisfied (known_by t.values) clause)
      → IsVisiting (record { clauses = work.clauses; trail = t; seen = work.seen; watches = work.watches; looked = work.looked }) lost index
  visiting_stays t w vars more here = record {
    working = w;
    settled = v.settled;
    is_false = more (flip lost) v.is_false;
    variable = subst (λ n. IsVariableOf n lost) (sym vars) v.variable;
    inside = let i = v.inside in omega arith;
    waits = λ k clause pair found e side. elim (v.waits k clause pair found e side) [
      | inl s ↦ inl (satisfied_more clause (known_by work.trail.values) (known_by t.values) more s)
      | inr s ↦ elim (here_or_below k s) [
        | inl q ↦ inl (here clause pair (ap (slice_get work.clauses) (sym q) ∙ found) (ap (pair_at work.watches) (sym q) ∙ e))
        | inr b ↦ inr b
      ]
    ];
  }

  pub visiting_same : ((clause : List Literal) (pair : Pair) → slice_get work.clauses place ≡ Some clause → pair_at work.watches place ≡ Some pair → IsSatisfied (known_by work.trail.values) clause) → IsVisiting work lost index
  visiting_same here = visiting_stays work.trail v.working refl (λ l k. k) here

  -- the blocker of the entry is true
  module _ (entry : Entry) (is : slice_get (entries_of work.watches lost) index ≡ Some entry) (same : place ≡ entry.place) where
    blocked : IsBlocked work.clauses entry
    blocked = v.working.watching.blocked entry (record { list = number lost; index = index; is = is })

    pub blocker_variable : IsVariableOf work.trail.vars entry.blocker
    blocker_variable = over_has work.trail.vars blocked.clause entry.blocker (all_over work.trail.vars work.clauses entry.place blocked.clause v.working.over blocked.found) blocked.is_in

    pub visiting_blocked : known_by work.trail.values entry.blocker ≡ true → IsVisiting work lost index
    visiting_blocked k = visiting_same (λ clause pair found e.
        let s : Some blocked.clause ≡ Some clause = sym blocked.found ∙ ap (slice_get work.clauses) (sym same) ∙ found in
        let c : blocked.clause ≡ clause = cc in
        subst (IsSatisfied (known_by work.trail.values)) c (record { lit = entry.blocker; is_in = blocked.is_in; is_known = k }))

  module _ (pair : Pair) (q : IsPairOf work place pair) (was : pair_at work.watches place ≡ Some pair) (other : Literal) (o : IsOther pair lost other) where
    pub other_inside : has q.clause other ≡ true
    other_inside = other_in q.clause pair (known_by (oldest work.looked work.trail.values)) (known_by work.trail.values) other q.watched o.stays

    pub other_variable : IsVariableOf work.trail.vars other
    other_variable = over_has work.trail.vars q.clause other q.over other_inside

    visiting_true : (x : Literal) → has q.clause x ≡ true → known_by work.trail.values x ≡ true → IsVisiting work lost index
    visiting_true x x_in k = visiting_same (λ clause p found e. subst (IsSatisfied (known_by work.trail.values)) (same_clause_at work place pair q clause found) (record { lit = x; is_in = x_in; is_known = k }))

    -- a literal of the clause is true, and is noted as the blocker
    module _ (entry : Entry) (is_place : entry.place ≡ place) (is_in : has q.clause entry.blocker ≡ true) (new : Watches) (n : HasNoted work.watches new entry) where
      counts : count new ≡ count work.watches
      counts = ap (λ (ps : Vec (Option Pair) Global). length ps.items) n.pairs

      noted_blocked : IsBlocked work.clauses entry
      noted_blocked = record { clause = q.clause; found = ap (slice_get work.clauses) is_place ∙ q.found; is_in = is_in }

      pub working_noted : IsWorking (record { clauses = work.clauses; trail = work.trail; seen = work.seen; watches = new; looked = work.looked })
      working_noted = record {
        over = v.working.over;
        wide = subst (λ n. 2 * work.trail.vars + 2 ≤ n) (sym n.width) v.working.wide;
        fresh = v.working.fresh;
        reasons = v.working.reasons;
        watching = watching_noted work.clauses work.trail.values work.looked work.watches new v.working.watching entry n noted_blocked;
      }

      pub visiting_noted : known_by work.trail.values entry.blocker ≡ true → IsVisiting (record { clauses = work.clauses; trail = work.trail; seen = work.seen; watches = new; looked = work.looked }) lost index
      visiting_noted k = let now = visiting_true entry.blocker is_in k in record {
        working = working_noted;
        settled = let s = v.settled in let c = counts in omega arith;
        is_false = v.is_false;
        variable = v.variable;
        inside = subst (λ xs. index ≤ length xs) (sym (n.lists lost)) now.inside;
        waits = λ k clause p found e side. elim (now.waits k clause p found (ap (λ (ps : Vec (Option Pair) Global). get_or ps.items k None) (sym n.pairs) ∙ e) side) [
          | inl s ↦ inl s
          | inr s ↦ inr (subst (λ xs. StandsBelow xs index k) (sym (n.lists lost)) s)
        ];
      }

    -- the clause watches a third one
    module _ (one : Literal) (one_in : has q.clause one ≡ true) (free : known_by work.trail.values (flip one) ≡ false) (apart : one ≡ other → ⊥) where
      pub not_lost : number lost ≡ number one → ⊥
      not_lost e = both_ways (known_by work.trail.values (flip one)) free (ap (λ x. known_by work.trail.values (flip x)) (sym (same_number lost one e)) ∙ v.is_false)

      module _ (new : Watches) (t : HasTurned work.watches new lost index (record { one = one; two = other; is_whole = false })) where
        pub working_turned : IsWorking (record { clauses = work.clauses; trail = work.trail; seen = work.seen; watches = new; looked = work.looked })
        working_turned = record {
          over = v.working.over;
          wide = subst (λ n. 2 * work.trail.vars + 2 ≤ n) (sym t.width) v.working.wide;
          fresh = v.working.fresh;
          reasons = v.working.reasons;
          watching = watching_turned work.clauses work.trail.values work.looked work.watches new v.working.watching lost index place at pair (record { one = one; two = other; is_whole = false }) t was q.clause q.found o.stays
              (λ e. o.apart (same_number other lost e)) one_in apart free refl;
        }

        pub visiting_turned : IsVisiting (record { clauses = work.clauses; trail = work.trail; seen = work.seen; watches = new; looked = work.looked }) lost index
        visiting_turned = record {
          working = working_turned;
          settled = let same = t.same in let s = v.settled in omega arith;
          is_false = v.is_false;
          variable = v.variable;
          inside = let i = v.inside in let l = t.less in omega arith;
          waits = λ k clause p found e side. elim (cases_eq k place) [
            | inl s ↦ absurd (neither p (same_pair p (ap (pair_at new) (sym at ∙ sym s) ∙ e)) side)
            | inr ne ↦ elim (v.waits k clause p found (sym (t.others k (λ s. ne (s ∙ sym at))) ∙ e) side) [
              | inl s ↦ inl s
              | inr s ↦ elim (here_or_below k s) [
                | inl q ↦ absurd (ne q)
                | inr b ↦ inr (t.below k b)
              ]
            ]
          ];
        } where
          same_pair : (p : Pair) → pair_at new (get_or (list_of work.watches lost) index 0) ≡ Some p → (let r : Pair = record { one = one; two = other; is_whole = false } in r) ≡ p
          same_pair p e =
              let r : Pair = record { one = one; two = other; is_whole = false } in
              let s : Some r ≡ Some p = sym t.here ∙ e in
              cc

          neither : (p : Pair) → (let r : Pair = record { one = one; two = other; is_whole = false } in r) ≡ p → (p.one ≡ lost) ⊎ (p.two ≡ lost) → ⊥
          neither p e (inl s) = not_lost (ap number (sym (ap (λ (r : Pair). r.one) e ∙ s)))
          neither p e (inr s) = o.apart (ap (λ (r : Pair). r.two) e ∙ s)

    -- the other literal is forced, or is false too
    module _ (others : (l : Literal) → has q.clause l ≡ true → (other ≡ l) ⊎ (known_by work.trail.values (flip l) ≡ true)) where
      pub visit_unit : known_by work.trail.values other ≡ false → known_by work.trail.values (flip other) ≡ false → IsUnit (known_by work.trail.values) q.clause other
      visit_unit is_open flip_open = unit_of work.trail.values v.working.fresh q.clause other other_inside is_open flip_open others

      pub visit_conflict : known_by work.trail.values (flip other) ≡ true → IsConflictAt work.clauses (known_by work.trail.values) place
      visit_conflict k = record { clause = q.clause; found = q.found; conflict = conflict_but work.trail.values v.working.fresh q.clause other k others }

      pub visiting_forced : (unit : IsUnit (known_by work.trail.values) q.clause other) (id : ℕ) → id ≡ place + 1 → (t : Track) → t ≡ record { vars = work.trail.vars; values = record { lit = other; reason = Some id } ∷ work.trail.values }
          → IsVisiting (record { clauses = work.clauses; trail = t; seen = work.seen; watches = work.watches; looked = work.looked }) lost index
      visiting_forced unit id e t is = visiting_stays t (working_forced work v.working other id place q.clause t is unit other_variable e q.found) (ap (λ (x : Track). x.vars) is)
          (known_forced work v.working other id place q.clause t is unit other_variable)
          (λ clause p found _. subst (IsSatisfied (known_by t.values)) (same_clause_at work place pair q clause found) (satisfied_forced work v.working other id place q.clause t is unit other_variable))

-- a value is looked at
module _ (work : Work) (w : IsWorking work) (settled : length work.clauses ≤ count work.watches) (inside : work.looked < length work.trail.values) (v : Value) (is : oldest (work.looked + 1) work.trail.values ≡ v ∷ oldest work.looked work.trail.values) (variable : IsVariableOf work.trail.vars v.lit) where
  pub visiting_first : (lost : Literal) → lost ≡ flip v.lit → (index : ℕ) → index ≡ length (list_of work.watches lost) → IsVisiting work lost index
  visiting_first lost e index all = record {
    working = w;
    settled = settled;
    is_false = ap (λ x. known_by work.trail.values (flip x)) e ∙ ap (known_by work.trail.values) (flip-flip v.lit) ∙ newest;
    variable = subst (IsVariableOf work.trail.vars) (sym e) (record { counted = variable.counted; within = variable.within });
    inside = omega arith;
    waits = λ k clause pair found at side. inr (subst (λ n. StandsBelow (list_of work.watches lost) n k) (sym all) (stands k pair at side));
  } where
    newest : known_by work.trail.values v.lit ≡ true
    newest = subst (λ vs. known_by vs v.lit ≡ true) (oldest-all work.trail.values (length work.trail.values) refl)
        (known-oldest work.trail.values (work.looked + 1) (length work.trail.values) v.lit (omega arith) (subst (λ vs. known_by vs v.lit ≡ true) (sym is) (value-first v (oldest work.looked work.trail.values))))

    stands : (k : ℕ) (pair : Pair) → pair_at work.watches k ≡ Some pair → (pair.one ≡ lost) ⊎ (pair.two ≡ lost) → IsListed work.watches lost k
    stands k pair at (inl q) = subst (λ x. IsListed work.watches x k) q (w.watching.one k pair at)
    stands k pair at (inr q) = subst (λ x. IsListed work.watches x k) q (w.watching.two k pair at)

pub working_looked : (work : Work) (lost : Literal) (v : IsVisiting work lost 0) (value : Value) → lost ≡ flip value.lit → work.looked < length work.trail.values → oldest (work.looked + 1) work.trail.values ≡ value ∷ oldest work.looked work.trail.values → (looked : ℕ) → looked ≡ work.looked + 1
    → IsWorking (record { clauses = work.clauses; trail = work.trail; seen = work.seen; watches = work.watches; looked = looked })
working_looked work lost v value e inside is looked more = subst (λ n. IsWorking (record { clauses = work.clauses; trail = work.trail; seen = work.seen; watches = work.watches; looked = n })) (sym more) (record {
  over = v.working.over;
  wide = v.working.wide;
  fresh = v.working.fresh;
  reasons = v.working.reasons;
  watching = watching_looked work.clauses work.trail.values work.looked work.watches v.working.watching value inside is v.settled
      (λ k clause pair found at side. elim (v.waits k clause pair found at (elim side [ inl s ↦ inl (s ∙ sym e) | inr s ↦ inr (s ∙ sym e) ])) [
        | inl s ↦ s
        | inr s ↦ let b = s.below in absurd (omega arith)
      ]);
})

-- the next clause is settled
module _ (work : Work) (w : IsWorking work) (some : count work.watches < length work.clauses) (place : ℕ) (at : place ≡ count work.watches) (clause : List Literal) (found : slice_get work.clauses place ≡ Some clause) where
  pub settle_over : IsOver work.trail.vars clause
  settle_over = all_over work.trail.vars work.clauses place clause w.over found

  pub settle_variable : (l : Literal) → has clause l ≡ true → IsVariableOf work.trail.vars l
  settle_variable l h = over_has work.trail.vars clause l settle_over h

  none_looked : (l : Literal) → known_by (oldest work.looked work.trail.values) l ≡ false
  none_looked l = ap (λ vs. known_by vs l) (oldest-none work.trail.values work.looked (let e = (w.watching.early some).1 in omega arith))

  working_settled : (pair : Option Pair) → HoldsOff clause pair (known_by (oldest work.looked work.trail.values)) (known_by work.trail.values) → (new : Watches) → HasSettled work.watches new pair
      → IsWorking (record { clauses = work.clauses; trail = work.trail; seen = work.seen; watches = new; looked = work.looked })
  working_settled pair off new s = record {
    over = w.over;
    wide = subst (λ n. 2 * work.trail.vars + 2 ≤ n) (sym s.width) w.wide;
    fresh = w.fresh;
    reasons = w.reasons;
    watching = watching_settled work.clauses work.trail.values work.looked work.watches new w.watching pair s some clause (subst (λ n. slice_get work.clauses n ≡ Some clause) at found)
        (off, off_at_zero clause pair work.trail.values (w.watching.early some).0);
  }

  pub working_watched : (one two : Literal) (is_whole : Bool) → (is_whole ≡ true → length clause ≡ 2) → has clause one ≡ true → has clause two ≡ true → (two ≡ one → ⊥) → (new : Watches) → HasSettled work.watches new (Some (record { one = one; two = two; is_whole = is_whole }))
      → IsWorking (record { clauses = work.clauses; trail = work.trail; seen = work.seen; watches = new; looked = work.looked })
  working_watched one two is_whole short one_in two_in apart new s = working_settled (Some (record { one = one; two = two; is_whole = is_whole })) (record {
    one_in = one_in;
    two_in = two_in;
    apart = λ e. apart (sym e);
    whole = λ k. whole_two clause one two (short k) one_in two_in (λ e. apart (sym e));
    one = λ k. absurd (both_ways (known_by (oldest work.looked work.trail.values) (flip one)) (none_looked (flip one)) k);
    two = λ k. absurd (both_ways (known_by (oldest work.looked work.trail.values) (flip two)) (none_looked (flip two)) k);
  }) new s

  pub working_passed : IsSatisfied (known_by work.trail.values) clause → (new : Watches) → HasSettled work.watches new None
      → IsWorking (record { clauses = work.clauses; trail = work.trail; seen = work.seen; watches = new; looked = work.looked })
  working_passed h new s = working_settled None h new s

-- at the end
pub quiet_rests : (work : Work) → IsWorking work → length work.clauses ≤ count work.watches → length work.trail.values ≤ work.looked → AllRest work.clauses (known_by work.trail.values)
quiet_rests work w settled done = watching_rests work.clauses work.trail.values work.looked work.watches w.watching settled done
