-- What the watches of a search keep from one step to the next.
use Rattle.std.proofs.Common.{◌≡◌, ℕ, zero, suc, ◌+◌, ◌-◌, ◌<◌, ◌≤◌, Bool, true, false, List, [], ◌∷◌, ◌++◌, length, drop, get_or, ◌⊎◌, inl, inr, refl, sym, ap, ◌∙◌, subst, arith, Option, None, Some, Vec, Global, length-append}
use Rattle.std.specs.Prelude.{slice_get}
use Rattle.std.proofs.lemmas.Bool.{cases_Bool, cases_eq, both_ways, true≢false, false_from_ne_true}
use Rattle.clause_core.specs.Literal.{Literal, flip, number, has}
use Rattle.clause_core.proofs.Tools.{flip-flip}
use Rattle.lrat_replay.specs.Status.{Known, Rests, IsSatisfied}
use Rattle.lrat_replay.proofs.Tools.{IsWithin}
use Rattle.clause_solver.specs.Trail.{known_by, oldest, before_last, has_decision}
use Rattle.clause_solver.specs.Plain.{AllRest}
use Rattle.clause_solver.specs.Watch.{list_of, count, pair_at, IsEntry, StandsBelow, IsListed, HasNoted, IsOfPair, HasSettled, HasTurned}
use Rattle.clause_solver.specs.Watching.{IsWhole, IsWatched, HoldsOff, HeldOffBefore, HeldOffAtDecisions, IsGuarded, IsBlocked, IsWatching}
use Rattle.clause_solver.specs.declared.value.Value.{Value}
use Rattle.clause_solver.specs.declared.watch.Entry.{Entry}
use Rattle.clause_solver.specs.declared.watch.Pair.{Pair}
use Rattle.clause_solver.specs.declared.watch.Watches.{Watches}
use Rattle.clause_solver.proofs.Reduce.{value-older}
use Rattle.clause_solver.proofs.AnalyseLaws.{value_cases}
use Rattle.clause_solver.proofs.Levels.{oldest-all, length-oldest, known-oldest}
use Rattle.clause_solver.proofs.Propagation.{get_inside}

-- a clause that holds off under all values rests
pub off_rests : (clause : List Literal) (pair : Option Pair) (known : Known) → HoldsOff clause pair known known → Rests known clause
off_rests clause None known h = inl h
off_rests clause (Some p) known h = elim (cases_Bool (known (flip p.one))) [
  | inl k ↦ inl (h.one k)
  | inr k ↦ elim (cases_Bool (known (flip p.two))) [
    | inl j ↦ inl (h.two j)
    | inr j ↦ inr (record { one = p.one; two = p.two; one_in = h.one_in; two_in = h.two_in; apart = h.apart; one_unknown = k; two_unknown = j })
  ]
]

-- with more values
pub satisfied_more : (clause : List Literal) (known more : Known) → IsWithin known more → IsSatisfied known clause → IsSatisfied more clause
satisfied_more clause known more w h = record { lit = h.lit; is_in = h.is_in; is_known = w h.lit h.is_known }

off_more : (clause : List Literal) (pair : Option Pair) (looked known more : Known) → IsWithin known more → HoldsOff clause pair looked known → HoldsOff clause pair looked more
off_more clause None looked known more w h = satisfied_more clause known more w h
off_more clause (Some p) looked known more w h = record {
  one_in = h.one_in;
  two_in = h.two_in;
  apart = h.apart;
  whole = h.whole;
  one = λ k. satisfied_more clause known more w (h.one k);
  two = λ k. satisfied_more clause known more w (h.two k);
}

pub oldest-skip : (e : Value) (older : List Value) (n : ℕ) → n ≤ length older → oldest n (e ∷ older) ≡ oldest n older
oldest-skip e older n h = let k : length (e ∷ older) - n ≡ suc (length older - n) = omega arith in ap (λ m. drop m (e ∷ older)) k

-- one more value
guarded_forced : (clause : List Literal) (pair : Option Pair) (looked : ℕ) (values : List Value) (lit : Literal) (id : ℕ) → looked ≤ length values → IsGuarded clause pair looked values
    → IsGuarded clause pair looked (record { lit = lit; reason = Some id } ∷ values)
guarded_forced clause pair looked values lit id w h =
    let v : Value = record { lit = lit; reason = Some id } in
    (subst (λ vs. HoldsOff clause pair (known_by vs) (known_by (v ∷ values))) (sym (oldest-skip v values looked w)) (off_more clause pair (known_by (oldest looked values)) (known_by values) (known_by (v ∷ values)) (λ l k. value-older v values l k) h.0), (tt, h.1))

guarded_decided : (clause : List Literal) (pair : Option Pair) (looked : ℕ) (values : List Value) (lit : Literal) → looked ≡ length values → IsGuarded clause pair looked values
    → IsGuarded clause pair looked (record { lit = lit; reason = None } ∷ values)
guarded_decided clause pair looked values lit e h =
    let v : Value = record { lit = lit; reason = None } in
    let all = oldest-all values looked e in
    let here : HoldsOff clause pair (known_by values) (known_by values) = subst (λ vs. HoldsOff clause pair (known_by vs) (known_by values)) all h.0 in
    let w : looked ≤ length values = omega arith in
    (subst (λ vs. HoldsOff clause pair (known_by vs) (known_by (v ∷ values))) (sym (oldest-skip v values looked w)) (off_more clause pair (known_by (oldest looked values)) (known_by values) (known_by (v ∷ values)) (λ l k. value-older v values l k) h.0), (here, h.1))

module _ (clauses : List (List Literal)) (values : List Value) (looked : ℕ) (watches : Watches) (w : IsWatching clauses values looked watches) where
  pub watching_rests : length clauses ≤ count watches → length values ≤ looked → AllRest clauses (known_by values)
  watching_rests all done = λ k clause found.
      let inside = (get_inside clauses k clause found).0 in
      let h = (w.guarded k clause (omega arith) found).0 in
      let e : looked ≡ length values = (let i = w.within in omega arith) in
      off_rests clause (pair_at watches k) (known_by values) (subst (λ vs. HoldsOff clause (pair_at watches k) (known_by vs) (known_by values)) (oldest-all values looked e) h)

  pub watching_forced : (lit : Literal) (id : ℕ) → IsWatching clauses (record { lit = lit; reason = Some id } ∷ values) looked watches
  watching_forced lit id = record {
    one = w.one;
    two = w.two;
    blocked = w.blocked;
    guarded = λ k clause low found. guarded_forced clause (pair_at watches k) looked values lit id w.within (w.guarded k clause low found);
    within = let i = w.within in omega arith;
    counted = w.counted;
    early = w.early;
  }

  pub watching_decided : (lit : Literal) → length clauses ≤ count watches → length values ≤ looked → IsWatching clauses (record { lit = lit; reason = None } ∷ values) looked watches
  watching_decided lit all done = let i = w.within in record {
    one = w.one;
    two = w.two;
    blocked = w.blocked;
    guarded = λ k clause low found. guarded_decided clause (pair_at watches k) looked values lit (omega arith) (w.guarded k clause low found);
    within = omega arith;
    counted = w.counted;
    early = λ h. absurd (omega arith);
  }

  -- one more value was looked at
  module _ (v : Value) (inside : looked < length values) (is : oldest (looked + 1) values ≡ v ∷ oldest looked values) (all : length clauses ≤ count watches)
      (satisfied : (k : ℕ) (clause : List Literal) (pair : Pair) → slice_get clauses k ≡ Some clause → pair_at watches k ≡ Some pair → (pair.one ≡ flip v.lit) ⊎ (pair.two ≡ flip v.lit) → IsSatisfied (known_by values) clause) where
    side : (clause : List Literal) (x : Literal) → (known_by (oldest looked values) (flip x) ≡ true → IsSatisfied (known_by values) clause) → (x ≡ flip v.lit → IsSatisfied (known_by values) clause)
        → known_by (oldest (looked + 1) values) (flip x) ≡ true → IsSatisfied (known_by values) clause
    side clause x old new k = elim (value_cases v (oldest looked values) (flip x) (subst (λ vs. known_by vs (flip x) ≡ true) is k)) [
      | inl e ↦ new (sym (flip-flip x) ∙ sym (ap flip e))
      | inr h ↦ old h
    ]

    off_looked : (k : ℕ) (clause : List Literal) (p : Option Pair) → slice_get clauses k ≡ Some clause → pair_at watches k ≡ p → HoldsOff clause p (known_by (oldest looked values)) (known_by values) → HoldsOff clause p (known_by (oldest (looked + 1) values)) (known_by values)
    off_looked k clause None found e h = h
    off_looked k clause (Some p) found e h = record {
      one_in = h.one_in;
      two_in = h.two_in;
      apart = h.apart;
      whole = h.whole;
      one = side clause p.one h.one (λ q. satisfied k clause p found e (inl q));
      two = side clause p.two h.two (λ q. satisfied k clause p found e (inr q));
    }

    pub watching_looked : IsWatching clauses values (looked + 1) watches
    watching_looked = record {
      one = w.one;
      two = w.two;
      blocked = w.blocked;
      guarded = λ k clause low found. let h = w.guarded k clause low found in (off_looked k clause (pair_at watches k) found refl h.0, h.1);
      within = omega arith;
      counted = w.counted;
      early = λ h. absurd (omega arith);
    }

-- another blocker
pub watching_noted : (clauses : List (List Literal)) (values : List Value) (looked : ℕ) (old new : Watches) → IsWatching clauses values looked old → (entry : Entry) → HasNoted old new entry → IsBlocked clauses entry → IsWatching clauses values looked new
watching_noted clauses values looked old new w entry n b =
    let pairs : (k : ℕ) → pair_at new k ≡ pair_at old k = λ k. ap (λ (ps : Vec (Option Pair) Global). get_or ps.items k None) n.pairs in
    let counts : count new ≡ count old = ap (λ (ps : Vec (Option Pair) Global). length ps.items) n.pairs in
    record {
      one = λ k q e. listed q.one k (w.one k q (sym (pairs k) ∙ e));
      two = λ k q e. listed q.two k (w.two k q (sym (pairs k) ∙ e));
      blocked = λ e i. elim (n.entries e i) [ inl j ↦ w.blocked e j | inr q ↦ subst (IsBlocked clauses) (sym q) b ];
      guarded = λ k c low h. subst (λ o. IsGuarded c o looked values) (sym (pairs k)) (w.guarded k c (omega arith) h);
      within = w.within;
      counted = let c = w.counted in omega arith;
      early = λ h. w.early (omega arith);
    } where
      listed : (l : Literal) (k : ℕ) → IsListed old l k → IsListed new l k
      listed l k s = subst (λ xs. StandsBelow xs (length xs) k) (sym (n.lists l)) s

-- another literal, that is not false, in place of one of the two
module _ (clause : List Literal) (p pair : Pair) (stays : (pair.two ≡ p.one) ⊎ (pair.two ≡ p.two)) (one_in : has clause pair.one ≡ true) (apart : pair.one ≡ pair.two → ⊥) (part : pair.is_whole ≡ false) where
  replaced : (looked known : Known) → looked (flip pair.one) ≡ false → IsWatched clause p looked known → IsWatched clause pair looked known
  replaced looked known free h = record {
    one_in = one_in;
    two_in = elim stays [ inl e ↦ subst (λ x. has clause x ≡ true) (sym e) h.one_in | inr e ↦ subst (λ x. has clause x ≡ true) (sym e) h.two_in ];
    apart = apart;
    whole = λ k. absurd (both_ways pair.is_whole part k);
    one = λ k. absurd (both_ways (looked (flip pair.one)) free k);
    two = λ k. elim stays [ inl e ↦ h.one (ap (λ x. looked (flip x)) (sym e) ∙ k) | inr e ↦ h.two (ap (λ x. looked (flip x)) (sym e) ∙ k) ];
  }

  replaced_before : (values : List Value) → known_by values (flip pair.one) ≡ false → HeldOffAtDecisions clause (Some p) values → HeldOffAtDecisions clause (Some pair) values
  replaced_before [] free h = tt
  replaced_before (e ∷ older) free h =
      let free' : known_by older (flip pair.one) ≡ false = false_from_ne_true (known_by older (flip pair.one)) (λ k. both_ways (known_by (e ∷ older) (flip pair.one)) free (value-older e older (flip pair.one) k)) in
      (by (e.reason) older free' h.0, replaced_before older free' h.1) where
        by : (o : Option ℕ) (older : List Value) → known_by older (flip pair.one) ≡ false → HeldOffBefore clause (Some p) (known_by older) o → HeldOffBefore clause (Some pair) (known_by older) o
        by None older free h = replaced (known_by older) (known_by older) free h
        by (Some id) older free h = tt

  pub guarded_replaced : (looked : ℕ) (values : List Value) → looked ≤ length values → known_by values (flip pair.one) ≡ false → IsGuarded clause (Some p) looked values → IsGuarded clause (Some pair) looked values
  guarded_replaced looked values w free h =
      let old : known_by (oldest looked values) (flip pair.one) ≡ false = false_from_ne_true (known_by (oldest looked values) (flip pair.one)) (λ k.
      both_ways (known_by values (flip pair.one)) free (subst (λ vs. known_by vs (flip pair.one) ≡ true) (oldest-all values (length values) refl) (known-oldest values looked (length values) (flip pair.one) w k))) in
      (replaced (known_by (oldest looked values)) (known_by values) old h.0, replaced_before values free h.1)

-- the places of clauses that watch literals
low_pair : (watches : Watches) (k : ℕ) (q : Pair) → pair_at watches k ≡ Some q → k < count watches
low_pair watches k q e = inside watches.pairs.items k e where
  inside : (ps : List (Option Pair)) (k : ℕ) → get_or ps k None ≡ Some q → k < length ps
  inside [] k h = absurd (cc)
  inside (x ∷ ps) zero h = omega arith
  inside (x ∷ ps) (suc k) h = let r = inside ps k h in omega arith

-- a literal that a clause watches is one of it
of_pair_in : (clause : List Literal) (pair : Option Pair) (looked known : Known) (place : ℕ) (e : Entry) → HoldsOff clause pair looked known → IsOfPair pair place e → has clause e.blocker ≡ true
of_pair_in clause pair looked known place e h o =
    let w : IsWatched clause o.both looked known = subst (λ p. HoldsOff clause p looked known) o.is h in
    elim o.blocker [ inl q ↦ subst (λ x. has clause x ≡ true) (sym q) w.one_in | inr q ↦ subst (λ x. has clause x ≡ true) (sym q) w.two_in ]

-- a clause watches another literal
module _ (clauses : List (List Literal)) (values : List Value) (looked : ℕ) (old new : Watches) (w : IsWatching clauses values looked old) (lost : Literal) (index place : ℕ) (at : place ≡ get_or (list_of old lost) index 0)
    (p pair : Pair) (t : HasTurned old new lost index pair) (was : pair_at old place ≡ Some p) (clause : List Literal) (found : slice_get clauses place ≡ Some clause)
    (stays : (pair.two ≡ p.one) ⊎ (pair.two ≡ p.two)) (other : number pair.two ≡ number lost → ⊥) (one_in : has clause pair.one ≡ true) (apart : pair.one ≡ pair.two → ⊥) (free : known_by values (flip pair.one) ≡ false) (part : pair.is_whole ≡ false) where
  here : pair_at new place ≡ Some pair
  here = ap (pair_at new) at ∙ t.here

  others : (k : ℕ) → (k ≡ place → ⊥) → pair_at new k ≡ pair_at old k
  others k ne = t.others k (λ e. ne (e ∙ sym at))

  same_pair : (q : Pair) → pair_at new place ≡ Some q → pair ≡ q
  same_pair q e = let s : Some pair ≡ Some q = sym here ∙ e in cc

  same_clause : (c : List Literal) → slice_get clauses place ≡ Some c → clause ≡ c
  same_clause c e = let s : Some clause ≡ Some c = sym found ∙ e in cc

  two_listed : IsListed old pair.two place
  two_listed = elim stays [ inl e ↦ subst (λ x. IsListed old x place) (sym e) (w.one place p was) | inr e ↦ subst (λ x. IsListed old x place) (sym e) (w.two place p was) ]

  two_in : has clause pair.two ≡ true
  two_in =
      let low : place < count old = low_pair old place p was in
      let g : IsGuarded clause (Some p) looked values = subst (λ o. IsGuarded clause o looked values) was (w.guarded place clause low found) in
      let h : IsWatched clause p (known_by (oldest looked values)) (known_by values) = g.0 in
      elim stays [ inl e ↦ subst (λ x. has clause x ≡ true) (sym e) h.one_in | inr e ↦ subst (λ x. has clause x ≡ true) (sym e) h.two_in ]

  pub watching_turned : IsWatching clauses values looked new
  watching_turned = record {
    one = λ k q e. elim (cases_eq k place) [
      | inl s ↦ subst (λ n. IsListed new q.one n) (sym s) (subst (λ (r : Pair). IsListed new r.one place) (same_pair q (ap (pair_at new) (sym s) ∙ e)) (subst (IsListed new pair.one) (sym at) t.one))
      | inr ne ↦ t.kept q.one k (λ s. ne (s ∙ sym at)) (w.one k q (sym (others k ne) ∙ e))
    ];
    two = λ k q e. elim (cases_eq k place) [
      | inl s ↦ subst (λ n. IsListed new q.two n) (sym s) (subst (λ (r : Pair). IsListed new r.two place) (same_pair q (ap (pair_at new) (sym s) ∙ e)) (t.apart pair.two place other two_listed))
      | inr ne ↦ t.kept q.two k (λ s. ne (s ∙ sym at)) (w.two k q (sym (others k ne) ∙ e))
    ];
    blocked = λ e i. elim (t.entries e i) [
      | inl j ↦ w.blocked e j
      | inr q ↦ record { clause = clause; found = ap (slice_get clauses) (q.0 ∙ sym at) ∙ found; is_in = subst (λ x. has clause x ≡ true) (sym q.1) two_in }
    ];
    guarded = λ k c low h. elim (cases_eq k place) [
      | inl s ↦
          let e : clause ≡ c = same_clause c (ap (slice_get clauses) (sym s) ∙ h) in
          let low' : place < count old = (let same = t.same in omega arith) in
          let g : IsGuarded clause (Some p) looked values = subst (λ o. IsGuarded clause o looked values) was (w.guarded place clause low' found) in
          let r : IsGuarded clause (Some pair) looked values = guarded_replaced clause p pair stays one_in apart part looked values w.within free g in
          subst (λ x. IsGuarded x (pair_at new k) looked values) e (subst (λ o. IsGuarded clause o looked values) (sym (ap (pair_at new) s ∙ here)) r)
      | inr ne ↦ subst (λ o. IsGuarded c o looked values) (sym (others k ne)) (w.guarded k c (let same = t.same in omega arith) h)
    ];
    within = w.within;
    counted = let same = t.same in let c = w.counted in omega arith;
    early = λ h. w.early (let same = t.same in omega arith);
  }

-- one more clause is settled: of these, or a new one
module _ (clauses : List (List Literal)) (values : List Value) (looked : ℕ) (old new : Watches) (w : IsWatching clauses values looked old) (pair : Option Pair) (s : HasSettled old new pair) where
  old_one : (k : ℕ) → k < count old + 1 → (k ≡ count old → ⊥) → k < count old
  old_one k h ne = below k (count old) h ne where
    below : (a b : ℕ) → a < b + 1 → (a ≡ b → ⊥) → a < b
    below a b h ne = grind arith

  listed_one : (k : ℕ) (q : Pair) → pair_at new k ≡ Some q → IsListed new q.one k
  listed_one k q e = elim (cases_eq k (count old)) [
    | inl d ↦ subst (IsListed new q.one) (sym d) (s.kept_one q (sym s.here ∙ ap (pair_at new) (sym d) ∙ e))
    | inr ne ↦ let l = low_pair new k q e in let m = s.more in let b = old_one k (omega arith) ne in s.kept q.one k (w.one k q (sym (s.others k b) ∙ e))
  ]

  listed_two : (k : ℕ) (q : Pair) → pair_at new k ≡ Some q → IsListed new q.two k
  listed_two k q e = elim (cases_eq k (count old)) [
    | inl d ↦ subst (IsListed new q.two) (sym d) (s.kept_two q (sym s.here ∙ ap (pair_at new) (sym d) ∙ e))
    | inr ne ↦ let l = low_pair new k q e in let m = s.more in let b = old_one k (omega arith) ne in s.kept q.two k (w.two k q (sym (s.others k b) ∙ e))
  ]

  pub watching_settled : count old < length clauses → (clause : List Literal) → slice_get clauses (count old) ≡ Some clause → IsGuarded clause pair looked values → IsWatching clauses values looked new
  watching_settled some clause found g = record {
    one = listed_one;
    two = listed_two;
    blocked = λ e i. elim (s.entries e i) [
      | inl j ↦ w.blocked e j
      | inr o ↦ record { clause = clause; found = ap (slice_get clauses) o.place ∙ found; is_in = of_pair_in clause pair (known_by (oldest looked values)) (known_by values) (count old) e g.0 o }
    ];
    guarded = λ k c low h. elim (cases_eq k (count old)) [
      | inl d ↦
          let q : Some clause ≡ Some c = sym found ∙ ap (slice_get clauses) (sym d) ∙ h in
          let e : clause ≡ c = cc in
          subst (λ x. IsGuarded x (pair_at new k) looked values) e (subst (λ o. IsGuarded clause o looked values) (sym (ap (pair_at new) d ∙ s.here)) g)
      | inr ne ↦ let m = s.more in let b = old_one k (omega arith) ne in subst (λ o. IsGuarded c o looked values) (sym (s.others k b)) (w.guarded k c b h)
    ];
    within = w.within;
    counted = let m = s.more in omega arith;
    early = λ h. w.early (let m = s.more in omega arith);
  }

  pub watching_learned : (clauses' : List (List Literal)) (clause : List Literal) → clauses' ≡ clauses ++ clause ∷ [] → length clauses ≤ count old → IsGuarded clause pair looked values → IsWatching clauses' values looked new
  watching_learned clauses' clause grown all g =
      let c = w.counted in
      let m = s.more in
      let long = ap length grown ∙ length-append clauses (clause ∷ []) in
      record {
        one = listed_one;
        two = listed_two;
        blocked = λ e i. elim (s.entries e i) [
          | inl j ↦
              let b = w.blocked e j in
              record { clause = b.clause; found = ap (λ cs. slice_get cs e.place) grown ∙ get-kept clauses clause e.place b.clause b.found; is_in = b.is_in }
          | inr o ↦
              let at : e.place ≡ length clauses = o.place ∙ (omega arith) in
              record { clause = clause; found = ap (λ cs. slice_get cs e.place) grown ∙ get-end clauses clause e.place at; is_in = of_pair_in clause pair (known_by (oldest looked values)) (known_by values) (count old) e g.0 o }
        ];
        guarded = λ k d low h. elim (cases_eq k (count old)) [
          | inl q ↦
              let at : k ≡ length clauses = omega arith in
              let e : clause ≡ d = get-last-is clauses clause k d at (ap (λ cs. slice_get cs k) (sym grown) ∙ h) in
              subst (λ x. IsGuarded x (pair_at new k) looked values) e (subst (λ o. IsGuarded clause o looked values) (sym (ap (pair_at new) q ∙ s.here)) g)
          | inr ne ↦
              let b = old_one k (omega arith) ne in
              subst (λ o. IsGuarded d o looked values) (sym (s.others k b)) (w.guarded k d b (get-front clauses clause k d (omega arith) (ap (λ cs. slice_get cs k) (sym grown) ∙ h)))
        ];
        within = w.within;
        counted = omega arith;
        early = λ h. absurd (omega arith);
      } where
        get-last-is : (cs : List (List Literal)) (x : List Literal) (k : ℕ) (d : List Literal) → k ≡ length cs → slice_get (cs ++ x ∷ []) k ≡ Some d → x ≡ d
        get-last-is [] x zero d e h = cc
        get-last-is [] x (suc k) d e h = absurd (omega arith)
        get-last-is (c ∷ cs) x zero d e h = absurd (omega arith)
        get-last-is (c ∷ cs) x (suc k) d e h = get-last-is cs x k d (omega arith) h

        get-kept : (cs : List (List Literal)) (x : List Literal) (k : ℕ) (d : List Literal) → slice_get cs k ≡ Some d → slice_get (cs ++ x ∷ []) k ≡ Some d
        get-kept [] x k d h = absurd (cc)
        get-kept (c ∷ cs) x zero d h = h
        get-kept (c ∷ cs) x (suc k) d h = get-kept cs x k d h

        get-end : (cs : List (List Literal)) (x : List Literal) (k : ℕ) → k ≡ length cs → slice_get (cs ++ x ∷ []) k ≡ Some x
        get-end [] x zero e = refl
        get-end [] x (suc k) e = absurd (omega arith)
        get-end (c ∷ cs) x zero e = absurd (omega arith)
        get-end (c ∷ cs) x (suc k) e = get-end cs x k (omega arith)

        get-front : (cs : List (List Literal)) (x : List Literal) (k : ℕ) (d : List Literal) → k < length cs → slice_get (cs ++ x ∷ []) k ≡ Some d → slice_get cs k ≡ Some d
        get-front [] x k d e h = absurd (omega arith)
        get-front (c ∷ cs) x zero d e h = h
        get-front (c ∷ cs) x (suc k) d e h = get-front cs x k d (omega arith) h

-- with no decision there is nothing to show before one
pub off_at_zero : (clause : List Literal) (pair : Option Pair) (values : List Value) → has_decision values ≡ false → HeldOffAtDecisions clause pair values
off_at_zero clause pair [] h = tt
off_at_zero clause pair (e ∷ older) h = by (e.reason) h (off_at_zero clause pair older) where
  by : (o : Option ℕ) → elim o as (λ _. Bool) [ None ↦ true | Some i ↦ has_decision older ] ≡ false → (has_decision older ≡ false → HeldOffAtDecisions clause pair older) → HeldOffBefore clause pair (known_by older) o × HeldOffAtDecisions clause pair older
  by None h more = absurd (true≢false h)
  by (Some i) h more = (tt, more h)

-- before anything is settled
pub watching_begun : (clauses : List (List Literal)) (values : List Value) (watches : Watches) → values ≡ [] → count watches ≡ 0 → ((entry : Entry) → IsEntry watches entry → ⊥) → IsWatching clauses values 0 watches
watching_begun clauses values watches e none empty = record {
  one = λ k pair h. absurd (no_pair watches.pairs.items k pair none h);
  two = λ k pair h. absurd (no_pair watches.pairs.items k pair none h);
  blocked = λ entry i. absurd (empty entry i);
  guarded = λ k clause low found. absurd (omega arith);
  within = omega arith;
  counted = omega arith;
  early = λ h. (ap has_decision e, refl);
} where
  no_pair : (ps : List (Option Pair)) (k : ℕ) (q : Pair) → length ps ≡ 0 → get_or ps k None ≡ Some q → ⊥
  no_pair [] k q e h = cc
  no_pair (x ∷ ps) k q e h = omega arith

-- back to where a value was decided
at_drop : (clause : List Literal) (pair : Option Pair) (values : List Value) (n : ℕ) → HeldOffAtDecisions clause pair values → HeldOffAtDecisions clause pair (drop n values)
at_drop clause pair values zero h = h
at_drop clause pair [] (suc n) h = tt
at_drop clause pair (e ∷ older) (suc n) h = at_drop clause pair older n h.1

pub watching_back : (clauses : List (List Literal)) (values : List Value) (looked : ℕ) (watches : Watches) → IsWatching clauses values looked watches → length clauses ≤ count watches → (keep : ℕ) → keep < length values → (v : Value) → oldest (keep + 1) values ≡ v ∷ oldest keep values → v.reason ≡ None
    → IsWatching clauses (oldest keep values) keep watches
watching_back clauses values looked watches w all keep inside v is none = record {
  one = w.one;
  two = w.two;
  blocked = w.blocked;
  guarded = λ k clause low found. back clause (pair_at watches k) (w.guarded k clause low found).1;
  within = let l = length-oldest values keep (omega arith) in omega arith;
  counted = w.counted;
  early = λ h. absurd (omega arith);
} where
  whole : oldest keep (oldest keep values) ≡ oldest keep values
  whole = let l = length-oldest values keep (omega arith) in oldest-all (oldest keep values) keep (omega arith)

  back : (clause : List Literal) (pair : Option Pair) → HeldOffAtDecisions clause pair values → IsGuarded clause pair keep (oldest keep values)
  back clause pair h =
      let here : HeldOffAtDecisions clause pair (v ∷ oldest keep values) = subst (HeldOffAtDecisions clause pair) is (at_drop clause pair values (length values - (keep + 1)) h) in
      let off : HoldsOff clause pair (known_by (oldest keep values)) (known_by (oldest keep values)) = subst (HeldOffBefore clause pair (known_by (oldest keep values))) none here.0 in
      (subst (λ vs. HoldsOff clause pair (known_by vs) (known_by (oldest keep values))) (sym whole) off, here.1)

-- two literals of a clause that are not false before the newest decision
module _ (clause : List Literal) (pair : Pair) (one_in : has clause pair.one ≡ true) (two_in : has clause pair.two ≡ true) (apart : pair.one ≡ pair.two → ⊥) (whole : pair.is_whole ≡ true → IsWhole clause pair) where
  off_open : (known : Known) → known (flip pair.one) ≡ false → known (flip pair.two) ≡ false → HoldsOff clause (Some pair) known known
  off_open known f g = record {
    one_in = one_in;
    two_in = two_in;
    apart = apart;
    whole = whole;
    one = λ k. absurd (both_ways (known (flip pair.one)) f k);
    two = λ k. absurd (both_ways (known (flip pair.two)) g k);
  }

  unknown-older : (e : Value) (older : List Value) (l : Literal) → known_by (e ∷ older) l ≡ false → known_by older l ≡ false
  unknown-older e older l h = false_from_ne_true (known_by older l) (λ k. both_ways (known_by (e ∷ older) l) h (value-older e older l k))

  off-all : (values : List Value) → known_by values (flip pair.one) ≡ false → known_by values (flip pair.two) ≡ false → HeldOffAtDecisions clause (Some pair) values
  off-all [] f g = tt
  off-all (e ∷ older) f g = let f' = unknown-older e older (flip pair.one) f in let g' = unknown-older e older (flip pair.two) g in
      (by (e.reason) older f' g', off-all older f' g') where
        by : (o : Option ℕ) (older : List Value) → known_by older (flip pair.one) ≡ false → known_by older (flip pair.two) ≡ false → HeldOffBefore clause (Some pair) (known_by older) o
        by None older f g = off_open (known_by older) f g
        by (Some i) older f g = tt

  pub off_before : (values : List Value) → known_by (before_last values) (flip pair.one) ≡ false → known_by (before_last values) (flip pair.two) ≡ false → HeldOffAtDecisions clause (Some pair) values
  off_before [] f g = tt
  off_before (e ∷ older) f g = by (e.reason) f g (off_before older) where
    by : (o : Option ℕ) → known_by (elim o as (λ _. List Value) [ None ↦ older | Some i ↦ before_last older ]) (flip pair.one) ≡ false → known_by (elim o as (λ _. List Value) [ None ↦ older | Some i ↦ before_last older ]) (flip pair.two) ≡ false →
        (known_by (before_last older) (flip pair.one) ≡ false → known_by (before_last older) (flip pair.two) ≡ false → HeldOffAtDecisions clause (Some pair) older) →
        HeldOffBefore clause (Some pair) (known_by older) o × HeldOffAtDecisions clause (Some pair) older
    by None f g more = (off_open (known_by older) f g, off-all older f g)
    by (Some i) f g more = (tt, more f g)
