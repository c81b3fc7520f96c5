-- Lists of clauses by literal.
use Rattle.std.proofs.Common.{◌≡◌, ℕ, zero, suc, ◌+◌, ◌-◌, ◌<◌, ◌≤◌, List, [], ◌∷◌, ◌++◌, length, take, set, map, get_or, ◌⊎◌, inl, inr, refl, sym, ap, ◌∙◌, subst, arith, Option, None, Some, Vec, Global, get_or-set_same, get_or-set_other, length-append, length-set}
use Rattle.std.proofs.lemmas.List.{map-set, map-append, take-map, length-map, get_or-map, get_or-take, get_or_append_left, get_or_at, get_or_default, length-take-le}
use Rattle.std.proofs.lemmas.Bool.{cases_eq}
use Rattle.std.proofs.lemmas.Option.{slice_get-get_or}
use Rattle.std.proofs.Math.Seq.{map-set_same}
use Rattle.std.specs.Prelude.{slice_get}
use Rattle.std.specs.List.{swap_remove}
use Rattle.clause_core.specs.Literal.{Literal, number}
use Rattle.clause_solver.specs.declared.watch.Entry.{Entry}
use Rattle.clause_solver.specs.declared.watch.Pair.{Pair}
use Rattle.clause_solver.specs.declared.watch.Watches.{Watches}
use Rattle.clause_solver.specs.Watch.{list_at, list_of, width_of, count, IsEntry, HasMore, HasLess, HasNoted, StandsBelow, IsListed, HasSettled, HasTurned}

pub list_at-here : (lists : List (Vec Entry Global)) (n : ℕ) (v : Vec Entry Global) → n < length lists → list_at (set lists n v) n ≡ v.items
list_at-here lists n v low =
    let items = λ (x : Vec Entry Global). x.items in
    ap (λ (xs : List (List Entry)). get_or xs n []) (map-set items lists n v) ∙ get_or-set_same (map items lists) n v.items [] (omega (arith, length-map lists items))

pub list_at-other : (lists : List (Vec Entry Global)) (n m : ℕ) (v : Vec Entry Global) → (m ≡ n → ⊥) → list_at (set lists n v) m ≡ list_at lists m
list_at-other lists n m v other =
    let items = λ (x : Vec Entry Global). x.items in
    ap (λ (xs : List (List Entry)). get_or xs m []) (map-set items lists n v) ∙ get_or-set_other (map items lists) n m v.items [] other

pub list_at-read : (lists : List (Vec Entry Global)) (n : ℕ) (v : Vec Entry Global) → n < length lists → v ≡ get_or lists n v → v.items ≡ list_at lists n
list_at-read lists n v low is =
    let items = λ (x : Vec Entry Global). x.items in
    ap items is ∙ sym (get_or-map items lists n v [] low)

-- the places of some entries
abbrev pub places : List Entry → List ℕ
places xs = map (λ (e : Entry). e.place) xs

-- what stands in a list stands in a longer one
pub stands_more : (xs ys : List ℕ) (end k : ℕ) → StandsBelow xs end k → StandsBelow (xs ++ ys) end k
stands_more xs ys end k s = let l = length-append xs ys in let w = s.within in record {
  index = s.index;
  below = s.below;
  within = omega arith;
  is = get_or_append_left xs ys 0 s.index s.within ∙ s.is;
}

pub stands_to : (xs : List ℕ) (end m k : ℕ) → StandsBelow xs end k → end ≤ m → StandsBelow xs m k
stands_to xs end m k s h = let b = s.below in record { index = s.index; below = omega arith; within = s.within; is = s.is }

pub stands_whole : (xs ys : List ℕ) (k : ℕ) → StandsBelow xs (length xs) k → StandsBelow (xs ++ ys) (length (xs ++ ys)) k
stands_whole xs ys k s = let l = length-append xs ys in stands_to (xs ++ ys) (length xs) (length (xs ++ ys)) k (stands_more xs ys (length xs) k s) (omega arith)

pub stands_last : (xs : List ℕ) (k : ℕ) → StandsBelow (xs ++ k ∷ []) (length (xs ++ k ∷ [])) k
stands_last xs k = let l = length-append xs (k ∷ []) in let h : length xs < length (xs ++ k ∷ []) = omega arith in record { index = length xs; below = h; within = h; is = get_or_at xs k [] 0 (length xs) refl }

-- one place is taken out of a list, and the last one comes there
module _ (xs : List ℕ) (i d : ℕ) (inside : i < length xs) where
  removed : List ℕ
  removed = take (length xs - 1) (set xs i (get_or xs (length xs - 1) d))

  many : length (take (length xs - 1) (set xs i (get_or xs (length xs - 1) d))) ≡ length xs - 1
  many = let l = length-set xs i (get_or xs (length xs - 1) d) in length-take-le (length xs - 1) (set xs i (get_or xs (length xs - 1) d)) (omega arith)

  stays : (p : ℕ) → (p ≡ i → ⊥) → p < length xs - 1 → get_or (take (length xs - 1) (set xs i (get_or xs (length xs - 1) d))) p 0 ≡ get_or xs p 0
  stays p ne h = get_or-take (length xs - 1) (set xs i (get_or xs (length xs - 1) d)) p 0 h ∙ get_or-set_other xs i p (get_or xs (length xs - 1) d) 0 ne

  pub removed_less : length (swap_remove xs i d) + 1 ≡ length xs
  removed_less = let m = many in omega arith

  pub removed_below : (k : ℕ) → StandsBelow xs i k → StandsBelow (swap_remove xs i d) i k
  removed_below k s = let m = many in let b = s.below in let h : s.index < length xs - 1 = omega arith in record {
    index = s.index;
    below = s.below;
    within = omega arith;
    is = stays s.index (λ e. omega arith) h ∙ s.is;
  }

  pub removed_kept : (k : ℕ) → (k ≡ get_or xs i 0 → ⊥) → StandsBelow xs (length xs) k → StandsBelow (swap_remove xs i d) (length (swap_remove xs i d)) k
  removed_kept k ne s = elim (cases_eq s.index (length xs - 1)) [
    | inl e ↦
        let m = many in
        let other : s.index ≡ i → ⊥ = λ q. ne (sym s.is ∙ ap (λ p. get_or xs p 0) q) in
        let h : i < length xs - 1 = below i s.index (length xs) inside e other in
        let at : get_or (take (length xs - 1) (set xs i (get_or xs (length xs - 1) d))) i 0 ≡ k =
        get_or-take (length xs - 1) (set xs i (get_or xs (length xs - 1) d)) i 0 h ∙ get_or-set_same xs i (get_or xs (length xs - 1) d) 0 inside ∙ get_or_default xs (length xs - 1) d 0 (omega arith) ∙ ap (λ p. get_or xs p 0) (sym e) ∙ s.is in
        record { index = i; below = omega arith; within = omega arith; is = at }
    | inr ne' ↦
        let m = many in
        let w = s.within in
        let h : s.index < length xs - 1 = last s.index (length xs) w ne' in
        record { index = s.index; below = omega arith; within = omega arith; is = stays s.index (λ q. ne (sym s.is ∙ ap (λ p. get_or xs p 0) q)) h ∙ s.is }
  ] where
    below : (a b n : ℕ) → a < n → b ≡ n - 1 → (b ≡ a → ⊥) → a < n - 1
    below a b n h e ne = grind arith

    last : (b n : ℕ) → b < n → (b ≡ n - 1 → ⊥) → b < n - 1
    last b n h ne = grind arith

-- an entry of a list with one more, with one fewer, with another in its place
get-pushed : (xs : List Entry) (y e : Entry) (i : ℕ) → slice_get (xs ++ y ∷ []) i ≡ Some e → (slice_get xs i ≡ Some e) ⊎ (e ≡ y)
get-pushed [] y e zero h = inr (cc)
get-pushed [] y e (suc i) h = absurd (cc)
get-pushed (x ∷ xs) y e zero h = inl h
get-pushed (x ∷ xs) y e (suc i) h = get-pushed xs y e i h

get-taken : (n : ℕ) (xs : List Entry) (e : Entry) (i : ℕ) → slice_get (take n xs) i ≡ Some e → slice_get xs i ≡ Some e
get-taken zero xs e i h = absurd (cc)
get-taken (suc n) [] e i h = h
get-taken (suc n) (x ∷ xs) e zero h = h
get-taken (suc n) (x ∷ xs) e (suc i) h = get-taken n xs e i h

get-written : (xs : List Entry) (k : ℕ) (y e : Entry) (i : ℕ) → slice_get (set xs k y) i ≡ Some e → (slice_get xs i ≡ Some e) ⊎ (e ≡ y)
get-written [] k y e i h = inl h
get-written (x ∷ xs) zero y e zero h = inr (cc)
get-written (x ∷ xs) zero y e (suc i) h = inl h
get-written (x ∷ xs) (suc k) y e zero h = inl h
get-written (x ∷ xs) (suc k) y e (suc i) h = get-written xs k y e i h

get-removed : (xs : List Entry) (k : ℕ) (d e : Entry) (i : ℕ) → k < length xs → slice_get (swap_remove xs k d) i ≡ Some e → (j : ℕ) × (slice_get xs j ≡ Some e)
get-removed xs k d e i inside h = elim (get-written xs k (get_or xs (length xs - 1) d) e i (get-taken (length xs - 1) (set xs k (get_or xs (length xs - 1) d)) e i h)) [
  | inl s ↦ (i, s)
  | inr q ↦ (length xs - 1, slice_get-get_or xs (length xs - 1) d (omega arith) ∙ ap (λ (x : Entry). Some x) (sym q))
]

places-removed : (xs : List Entry) (i : ℕ) (d : Entry) (z : ℕ) → i < length xs → places (swap_remove xs i d) ≡ swap_remove (places xs) i z
places-removed xs i d z inside =
    let f = λ (e : Entry). e.place in
    let n = length-map xs f in
    sym (take-map f (length xs - 1) (set xs i (get_or xs (length xs - 1) d)))
    ∙ ap (take (length xs - 1)) (map-set f xs i (get_or xs (length xs - 1) d) ∙ ap (set (map f xs) i) (sym (get_or-map f xs (length xs - 1) d z (omega arith))))
    ∙ ap (λ m. take (m - 1) (set (map f xs) i (get_or (map f xs) (m - 1) z))) (sym n)

-- lists that differ at one number
module _ (old new : Watches) (l : Literal) (width : width_of new ≡ width_of old) (pairs : new.pairs ≡ old.pairs) (others : (m : ℕ) → (m ≡ number l → ⊥) → list_at new.lists.items m ≡ list_at old.lists.items m) where
  elsewhere : (e : Entry) (i : IsEntry new e) → (i.list ≡ number l → ⊥) → IsEntry old e
  elsewhere e i ne = record { list = i.list; index = i.index; is = ap (λ xs. slice_get xs i.index) (sym (others i.list ne)) ∙ i.is }

  there : (e : Entry) (i : IsEntry new e) → i.list ≡ number l → slice_get (list_at new.lists.items (number l)) i.index ≡ Some e
  there e i q = ap (λ m. slice_get (list_at new.lists.items m) i.index) (sym q) ∙ i.is

  pub has_more : (entry : Entry) → list_at new.lists.items (number l) ≡ list_at old.lists.items (number l) ++ entry ∷ [] → HasMore old new l entry
  has_more entry h = record {
    width = width;
    pairs = pairs;
    here = ap places h ∙ map-append (λ (e : Entry). e.place) (list_at old.lists.items (number l)) (entry ∷ []);
    others = λ x ne. ap places (others (number x) ne);
    entries = λ e i. elim (cases_eq i.list (number l)) [
      | inl q ↦ elim (get-pushed (list_at old.lists.items (number l)) entry e i.index (ap (λ xs. slice_get xs i.index) (sym h) ∙ there e i q)) [
        | inl s ↦ inl (record { list = number l; index = i.index; is = s })
        | inr s ↦ inr s
      ]
      | inr ne ↦ inl (elsewhere e i ne)
    ];
  }

  pub has_less : (index : ℕ) (d : Entry) → index < length (list_of old l) → list_at new.lists.items (number l) ≡ swap_remove (list_at old.lists.items (number l)) index d → HasLess old new l index
  has_less index d inside h =
      let xs = list_at old.lists.items (number l) in
      let n = length-map xs (λ (e : Entry). e.place) in
      let low : index < length (list_at old.lists.items (number l)) = omega arith in
      record {
        width = width;
        pairs = pairs;
        here = ap places h ∙ places-removed xs index d (get_or (list_of old l) index 0) low;
        others = λ x ne. ap places (others (number x) ne);
        entries = λ e i. elim (cases_eq i.list (number l)) [
          | inl q ↦
              let r = get-removed xs index d e i.index low (ap (λ xs. slice_get xs i.index) (sym h) ∙ there e i q) in
              record { list = number l; index = r.0; is = r.1 }
          | inr ne ↦ elsewhere e i ne
        ];
      }

  pub has_noted : (index : ℕ) (entry : Entry) → index < length (list_of old l) → entry.place ≡ get_or (list_of old l) index 0 → list_at new.lists.items (number l) ≡ set (list_at old.lists.items (number l)) index entry → HasNoted old new entry
  has_noted index entry inside same h =
      let f = λ (e : Entry). e.place in
      let xs = list_at old.lists.items (number l) in
      let n = length-map xs f in
      let here : list_of new l ≡ list_of old l = ap places h ∙ map-set_same f xs index entry entry (same ∙ get_or-map f xs index entry 0 (omega arith)) in
      record {
        width = width;
        pairs = pairs;
        lists = λ x. elim (cases_eq (number x) (number l)) [
          | inl q ↦ ap (λ m. places (list_at new.lists.items m)) q ∙ here ∙ ap (λ m. places (list_at old.lists.items m)) (sym q)
          | inr ne ↦ ap places (others (number x) ne)
        ];
        entries = λ e i. elim (cases_eq i.list (number l)) [
          | inl q ↦ elim (get-written xs index entry e i.index (ap (λ xs. slice_get xs i.index) (sym h) ∙ there e i q)) [
            | inl s ↦ inl (record { list = number l; index = i.index; is = s })
            | inr s ↦ inr s
          ]
          | inr ne ↦ inl (elsewhere e i ne)
        ];
      }

-- two lists after a push
module _ (old new : Watches) (l : Literal) (entry : Entry) (h : HasMore old new l entry) where
  pub more_listed : (x : Literal) (k : ℕ) → IsListed old x k → IsListed new x k
  more_listed x k s = elim (cases_eq (number x) (number l)) [
    | inl e ↦
        let old_same : list_of old x ≡ list_of old l = ap (λ m. places (list_at old.lists.items m)) e in
        let new_same : list_of new x ≡ list_of old x ++ entry.place ∷ [] = ap (λ m. places (list_at new.lists.items m)) e ∙ h.here ∙ ap (λ xs. xs ++ entry.place ∷ []) (sym old_same) in
        subst (λ xs. StandsBelow xs (length xs) k) (sym new_same) (stands_whole (list_of old x) (entry.place ∷ []) k s)
    | inr ne ↦ subst (λ xs. StandsBelow xs (length xs) k) (sym (h.others x ne)) s
  ]

  pub more_here : IsListed new l entry.place
  more_here = subst (λ xs. StandsBelow xs (length xs) entry.place) (sym h.here) (stands_last (list_of old l) entry.place)

-- the same lists
pub same_listed : (old new : Watches) → new.lists ≡ old.lists → (x : Literal) (k : ℕ) → IsListed old x k → IsListed new x k
same_listed old new e x k s = subst (λ (ls : Vec (Vec Entry Global) Global). StandsBelow (places (list_at ls.items (number x))) (length (places (list_at ls.items (number x)))) k) (sym e) s

pub same_entries : (old new : Watches) → new.lists ≡ old.lists → (e : Entry) → IsEntry new e → IsEntry old e
same_entries old new q e i = record { list = i.list; index = i.index; is = ap (λ (ls : Vec (Vec Entry Global) Global). slice_get (list_at ls.items i.list) i.index) (sym q) ∙ i.is }

get-push_below : (ps : List (Option Pair)) (p : Option Pair) (k : ℕ) → k < length ps → get_or (ps ++ p ∷ []) k None ≡ get_or ps k None
get-push_below ps p k h = get_or_append_left ps (p ∷ []) None k h

pub settled_none : (old new : Watches) → width_of new ≡ width_of old → new.lists ≡ old.lists → new.pairs.items ≡ old.pairs.items ++ None ∷ [] → HasSettled old new None
settled_none old new w same pushed = record {
  width = w;
  more = let l = length-append old.pairs.items (None ∷ []) in let e = ap length pushed in omega arith;
  here = ap (λ ps. get_or ps (count old) None) pushed ∙ get_or_at old.pairs.items None [] None (count old) refl;
  others = λ k h. ap (λ ps. get_or ps k None) pushed ∙ get-push_below old.pairs.items None k h;
  kept = same_listed old new same;
  kept_one = λ p e. absurd (cc);
  kept_two = λ p e. absurd (cc);
  entries = λ e i. inl (same_entries old new same e i);
}

pub settled_some : (old first second new : Watches) (pair : Pair) (place : ℕ) → place ≡ count old → first.lists ≡ old.lists → first.pairs.items ≡ old.pairs.items ++ Some pair ∷ [] → HasMore first second pair.one (record { place = place; blocker = pair.two }) → HasMore second new pair.two (record { place = place; blocker = pair.one })
    → HasSettled old new (Some pair)
settled_some old first second new pair place at same pushed a b =
    let x : Entry = record { place = place; blocker = pair.two } in
    let y : Entry = record { place = place; blocker = pair.one } in
    let pairs : new.pairs.items ≡ old.pairs.items ++ Some pair ∷ [] = ap (λ (v : Vec (Option Pair) Global). v.items) (b.pairs ∙ a.pairs) ∙ pushed in record {
      width = b.width ∙ a.width ∙ ap (λ (ls : Vec (Vec Entry Global) Global). length ls.items) same;
      more = let l = length-append old.pairs.items (Some pair ∷ []) in let e = ap length pairs in omega arith;
      here = ap (λ ps. get_or ps (count old) None) pairs ∙ get_or_at old.pairs.items (Some pair) [] None (count old) refl;
      others = λ k h. ap (λ ps. get_or ps k None) pairs ∙ get-push_below old.pairs.items (Some pair) k h;
      kept = λ l k s. more_listed second new pair.two y b l k (more_listed first second pair.one x a l k (same_listed old first same l k s));
      kept_one = λ p e.
          let q : pair ≡ p = cc in
          subst (λ (r : Pair). IsListed new r.one (count old)) q (subst (λ n. IsListed new pair.one n) at (more_listed second new pair.two y b pair.one place (more_here first second pair.one x a)));
      kept_two = λ p e.
          let q : pair ≡ p = cc in
          subst (λ (r : Pair). IsListed new r.two (count old)) q (subst (λ n. IsListed new pair.two n) at (more_here second new pair.two y b));
      entries = λ e i. elim (b.entries e i) [
        | inl j ↦ elim (a.entries e j) [
          | inl k ↦ inl (same_entries old first same e k)
          | inr q ↦ inr (record { both = pair; is = refl; place = ap (λ (r : Entry). r.place) q ∙ at; blocker = inr (ap (λ (r : Entry). r.blocker) q) })
        ]
        | inr q ↦ inr (record { both = pair; is = refl; place = ap (λ (r : Entry). r.place) q ∙ at; blocker = inl (ap (λ (r : Entry). r.blocker) q) })
      ];
    }

-- the clause at an index of one list watches another literal
module _ (old first second new : Watches) (lost : Literal) (index place : ℕ) (pair : Pair) (inside : index < length (list_of old lost)) (at : place ≡ get_or (list_of old lost) index 0) (low : place < count old) (apart : number lost ≡ number pair.one → ⊥)
    (a : HasMore old first pair.one (record { place = place; blocker = pair.two })) (b : HasLess first second lost index) (lists : new.lists ≡ second.lists) (pairs : new.pairs.items ≡ set second.pairs.items place (Some pair)) where
  same_lost : list_of first lost ≡ list_of old lost
  same_lost = a.others lost apart

  lost_now : list_of new lost ≡ swap_remove (list_of old lost) index (get_or (list_of old lost) index 0)
  lost_now = ap (λ (ls : Vec (Vec Entry Global) Global). places (list_at ls.items (number lost))) lists ∙ b.here ∙ ap (λ xs. swap_remove xs index (get_or xs index 0)) same_lost

  other_now : (x : Literal) → (number x ≡ number lost → ⊥) → list_of new x ≡ list_of first x
  other_now x ne = ap (λ (ls : Vec (Vec Entry Global) Global). places (list_at ls.items (number x))) lists ∙ b.others x ne

  other_listed : (x : Literal) (k : ℕ) → (number x ≡ number lost → ⊥) → IsListed first x k → IsListed new x k
  other_listed x k ne s = subst (λ xs. StandsBelow xs (length xs) k) (sym (other_now x ne)) s

  old_pairs : second.pairs.items ≡ old.pairs.items
  old_pairs = ap (λ (v : Vec (Option Pair) Global). v.items) (b.pairs ∙ a.pairs)

  pairs_now : new.pairs.items ≡ set old.pairs.items place (Some pair)
  pairs_now = pairs ∙ ap (λ ps. set ps place (Some pair)) old_pairs

  flipped : (x y : ℕ) → (x ≡ y → ⊥) → y ≡ x → ⊥
  flipped x y ne e = ne (sym e)

  lost_kept : (k : ℕ) → (k ≡ place → ⊥) → IsListed old lost k → IsListed new lost k
  lost_kept k ne s = subst (λ xs. StandsBelow xs (length xs) k) (sym lost_now)
      (removed_kept (list_of old lost) index (get_or (list_of old lost) index 0) inside k (λ e. ne (e ∙ sym at)) s)

  kept : (l : Literal) (k : ℕ) → (k ≡ place → ⊥) → IsListed old l k → IsListed new l k
  kept l k ne s = elim (cases_eq (number l) (number lost)) [
    | inl e ↦
        let s' : IsListed old lost k = subst (λ n. StandsBelow (places (list_at old.lists.items n)) (length (places (list_at old.lists.items n))) k) e s in
        subst (λ n. StandsBelow (places (list_at new.lists.items n)) (length (places (list_at new.lists.items n))) k) (sym e) (lost_kept k ne s')
    | inr other ↦ other_listed l k other (more_listed old first pair.one (record { place = place; blocker = pair.two }) a l k s)
  ]

  pub turned : HasTurned old new lost index pair
  turned = record {
    width = ap (λ (ls : Vec (Vec Entry Global) Global). length ls.items) lists ∙ b.width ∙ a.width;
    same = ap length pairs_now ∙ length-set old.pairs.items place (Some pair);
    here = ap (λ n. get_or new.pairs.items n None) (sym at) ∙ ap (λ ps. get_or ps place None) pairs_now ∙ get_or-set_same old.pairs.items place (Some pair) None low;
    others = λ k ne. ap (λ ps. get_or ps k None) pairs_now ∙ get_or-set_other old.pairs.items place k (Some pair) None (λ e. ne (e ∙ at));
    one = subst (λ n. IsListed new pair.one n) at (other_listed pair.one place (flipped (number lost) (number pair.one) apart) (more_here old first pair.one (record { place = place; blocker = pair.two }) a));
    kept = λ l k ne. kept l k (λ e. ne (e ∙ at));
    apart = λ l k other s. other_listed l k other (more_listed old first pair.one (record { place = place; blocker = pair.two }) a l k s);
    less = ap (λ xs. length xs + 1) lost_now ∙ removed_less (list_of old lost) index (get_or (list_of old lost) index 0) inside;
    entries = λ e i. elim (a.entries e (b.entries e (same_entries second new lists e i))) [
      | inl j ↦ inl j
      | inr q ↦ inr (ap (λ (r : Entry). r.place) q ∙ at, ap (λ (r : Entry). r.blocker) q)
    ];
    below = λ k s. subst (λ xs. StandsBelow xs index k) (sym lost_now) (removed_below (list_of old lost) index (get_or (list_of old lost) index 0) inside k s);
  }
