-- Formulas that grow by the clauses of one turn of a loop.
use Rattle.std.proofs.Common.{◌≡◌, ℕ, suc, zero, ◌+◌, ◌≤◌, ◌<◌, inl, inr, arith, List, [], ◌∷◌, ◌++◌, length, map, take, refl, sym, ap, ◌∙◌, subst, length-append, append_assoc}
use Rattle.std.specs.Prelude.{All}
use Rattle.std.specs.List.{flat_map}
use Rattle.std.proofs.lemmas.Bool.{cases_eq}
use Rattle.std.proofs.lemmas.List.{append-nil, take_all, map-id}
use Rattle.std.proofs.lemmas.List.Concat.{flat_map-append}
use Rattle.std.proofs.lemmas.List.FromFn.{map-range_with_len_more, length-map-range_with_len, get_or-map-range_with_len}
use Rattle.clause_core.specs.Literal.{Literal}
use Rattle.clause_core.specs.Formula.{Formula, most_clauses}
use Rattle.reach_encoding.specs.Encoding.{Question, below}
use Rattle.reach_encoding.specs.EncodeParts.{Adds, HasRoom}

-- ---- lists over the numbers below n
pub below_more : (n : ℕ) → below (n + 1) ≡ below n ++ n ∷ []
below_more n = sym (map-id (below (n + 1))) ∙ map-range_with_len_more (λ x. x) 0 n n (omega arith) ∙ ap (λ xs. xs ++ n ∷ []) (map-id (below n))

pub map_below_more : {X : Type 0} (f : ℕ → X) (n : ℕ) → map f (below (n + 1)) ≡ map f (below n) ++ f n ∷ []
map_below_more f n = map-range_with_len_more f 0 n n (omega arith)

pub flat_map_below_more : {X : Type 0} (f : ℕ → List X) (n : ℕ) → flat_map f (below (n + 1)) ≡ flat_map f (below n) ++ f n
flat_map_below_more f n = ap (flat_map f) (below_more n) ∙ flat_map-append f (below n) (n ∷ []) ∙ ap (λ ys. flat_map f (below n) ++ ys) (append-nil (f n))

pub map-map : {X Y Z : Type 0} (g : Y → Z) (f : X → Y) (xs : List X) → map g (map f xs) ≡ map (λ x. g (f x)) xs
map-map g f [] = refl
map-map g f (x ∷ xs) = ap (λ ys. g (f x) ∷ ys) (map-map g f xs)

-- the pieces of some of the numbers, and of one more, are no more than all pieces
pub length-flat_map_below : {X : Type 0} (f : ℕ → List X) (n many : ℕ) → n < many → length (flat_map f (below n)) + length (f n) ≤ length (flat_map f (below many))
length-flat_map_below f n zero h = absurd (omega arith)
length-flat_map_below f n (suc m) h =
    let last : length (flat_map f (below (m + 1))) ≡ length (flat_map f (below m)) + length (f m) = ap length (flat_map_below_more f m) ∙ length-append (flat_map f (below m)) (f m) in
    let next : suc m ≡ m + 1 = omega arith in
    let same : length (flat_map f (below (suc m))) ≡ length (flat_map f (below (m + 1))) = ap (λ k. length (flat_map f (below k))) next in
    elim (cases_eq n m) [
      | inl e ↦ let there : length (flat_map f (below n)) + length (f n) ≡ length (flat_map f (below m)) + length (f m) = ap (λ k. length (flat_map f (below k)) + length (f k)) e in omega arith
      | inr ne ↦ let before = length-flat_map_below f n m (omega arith) in omega arith
    ]

-- what is true of each number below n
pub All-below : {X : Type 0} (P : X → Type 0) (f : ℕ → X) (n : ℕ) → ((i : ℕ) → i < n → P (f i)) → All P (map f (below n))
All-below P f n h k d within =
    let many = length-map-range_with_len f 0 n in
    let less : k < n = omega arith in
    subst P (sym (get_or-map-range_with_len f 0 n k k d less (omega arith))) (h k less)

pub All-below-at : {X : Type 0} (P : X → Type 0) (f : ℕ → X) (n i : ℕ) → i < n → All P (map f (below n)) → P (f i)
All-below-at P f n i h all =
    let many = length-map-range_with_len f 0 n in
    subst P (get_or-map-range_with_len f 0 n i i (f i) h (omega arith)) (all i (f i) (omega arith))

-- ---- formulas that grow, one part after the other
pub Adds-both : (a b c : Formula) (xs ys : List (List Literal)) → Adds a b xs → Adds b c ys → Adds a c (xs ++ ys)
Adds-both a b c xs ys h k = record { vars = k.vars ∙ h.vars; clauses = k.clauses ∙ ap (λ zs. zs ++ ys) h.clauses ∙ append_assoc a.clauses xs ys }

-- one turn of a loop that adds some clauses
pub Adds-more : (f : ℕ → List (List Literal)) (n : ℕ) (a b c : Formula) → Adds a b (flat_map f (below n)) → Adds b c (f n) → Adds a c (flat_map f (below (n + 1)))
Adds-more f n a b c h k = subst (Adds a c) (sym (flat_map_below_more f n)) (Adds-both a b c (flat_map f (below n)) (f n) h k)

pub HasRoom-more : (q : Question) (f : ℕ → List (List Literal)) (n many : ℕ) (a b : Formula) → HasRoom q a (flat_map f (below many)) → Adds a b (flat_map f (below n)) → n < many → HasRoom q b (f n)
HasRoom-more q f n many a b room h below_many =
    let few = length-flat_map_below f n many below_many in
    let long = ap length h.clauses ∙ length-append a.clauses (flat_map f (below n)) in
    let whole = room.room in
    record { vars = h.vars ∙ room.vars; room = omega arith }

-- one turn of a loop that adds one clause
pub Adds-push : (f : ℕ → List Literal) (n : ℕ) (a b c : Formula) → Adds a b (map f (below n)) → c ≡ record { vars = b.vars; clauses = b.clauses ++ f n ∷ [] } → Adds a c (map f (below (n + 1)))
Adds-push f n a b c h e = subst (Adds a c) (sym (map_below_more f n)) (Adds-both a b c (map f (below n)) (f n ∷ []) h (rw e (record { vars = refl; clauses = refl })))

pub room_push : (q : Question) (f : ℕ → List Literal) (n many : ℕ) (a b : Formula) → HasRoom q a (map f (below many)) → Adds a b (map f (below n)) → n < many → length b.clauses < most_clauses
room_push q f n many a b room h below_many =
    let all = length-map-range_with_len f 0 many in
    let some = length-map-range_with_len f 0 n in
    let long = ap length h.clauses ∙ length-append a.clauses (map f (below n)) in
    let whole = room.room in
    omega arith

-- the same list by another name
pub Adds-same : (a b : Formula) (xs ys : List (List Literal)) → xs ≡ ys → Adds a b xs → Adds a b ys
Adds-same a b xs ys e h = subst (Adds a b) e h

pub HasRoom-same : (q : Question) (a : Formula) (xs ys : List (List Literal)) → xs ≡ ys → HasRoom q a xs → HasRoom q a ys
HasRoom-same q a xs ys e h = subst (HasRoom q a) e h

-- room for the first part, and then for the second
pub HasRoom-left : (q : Question) (a : Formula) (xs ys : List (List Literal)) → HasRoom q a (xs ++ ys) → HasRoom q a xs
HasRoom-left q a xs ys h = let both = length-append xs ys in let whole = h.room in record { vars = h.vars; room = omega arith }

pub HasRoom-right : (q : Question) (a b : Formula) (xs ys : List (List Literal)) → HasRoom q a (xs ++ ys) → Adds a b xs → HasRoom q b ys
HasRoom-right q a b xs ys h k =
    let both = length-append xs ys in
    let long = ap length k.clauses ∙ length-append a.clauses xs in
    let whole = h.room in
    record { vars = k.vars ∙ h.vars; room = omega arith }

-- at the end of a loop over a list
pub Adds-whole : {X : Type 0} (g : ℕ → List Literal) (h : X → ℕ) (xs : List X) (i : ℕ) (a b : Formula) → length xs ≤ i → Adds a b (map (λ x. g (h x)) (take i xs)) → Adds a b (map g (map h xs))
Adds-whole g h xs i a b past k = subst (Adds a b) (ap (map (λ x. g (h x))) (take_all i xs past) ∙ sym (map-map g h xs)) k
