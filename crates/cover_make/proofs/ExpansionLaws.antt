-- The cube that is found from an assignment.
use Rattle.std.proofs.Common.{◌≡◌, ℕ, suc, zero, ◌+◌, ◌<◌, ◌≤◌, inl, inr, Bool, true, false, cond, refl, sym, ap, ◌∙◌, subst, arith, nat_eq, nat_lt, None, Some, add-one}
use Rattle.std.specs.FinSet as set
use Rattle.std.specs.Cmp.{nat_cmp_total}
use Rattle.std.proofs.lemmas.Bool.{cases_eq, eq-eqb, ne_eqb}
use Rattle.std.proofs.lemmas.Option.{none-some}
use Rattle.cube_core.specs.Assignment.{bit}
use Rattle.cube_core.specs.Cube.{Product, IsProduct, literal_of, in_cube, members_of_cube, IsInside}
use Rattle.cube_core.specs.Members.{Assignments}
use Rattle.cube_core.proofs.Tools.{IsInside-IsWithin, contains-from_literals}
use Rattle.cover_make.specs.Literals.{point_of, without}
use Rattle.cover_make.specs.Cubes.{HasInputsBelow}
use Rattle.cover_make.specs.Cover.{is_inside, expansion, expansion_from, IsPrime}
use Rattle.cover_make.proofs.LiteralsLaws.{IsProduct-cube_by, literal_of-without, literal_of-point_of, in_cube-point_of}

pub IsInside-from_test : (inputs : ℕ) (c : Product) (room : Assignments) → is_inside inputs c room ≡ true → IsInside inputs c room
IsInside-from_test inputs c room all = (IsInside-IsWithin inputs c room).0 (set.is_subset-contains nat_cmp_total (members_of_cube inputs c) room all)

pub test_from_IsInside : (inputs : ℕ) (c : Product) (room : Assignments) → IsInside inputs c room → is_inside inputs c room ≡ true
test_from_IsInside inputs c room inside = set.contains-is_subset nat_cmp_total (members_of_cube inputs c) room ((IsInside-IsWithin inputs c room).1 inside)

-- ---- cubes with fewer literals

-- Each literal of the first cube is one of the second.
pub record HasFewer (c d : Product) : Type 0 where
  pub each : (i : ℕ) (wanted : Bool) → literal_of c i ≡ Some wanted → literal_of d i ≡ Some wanted

HasFewer-same : (c : Product) → HasFewer c c
HasFewer-same c = record { each = λ i wanted e. e }

HasFewer-more : (c d e : Product) → HasFewer c d → HasFewer d e → HasFewer c e
HasFewer-more c d e one other = record { each = λ i wanted h. other.each i wanted (one.each i wanted h) }

HasFewer-without : (c : Product) (input : ℕ) → IsProduct c → HasFewer (without c input) c
HasFewer-without c input h = record {
  each = λ i wanted e. elim (cases_eq i input) [
    | inl same ↦ absurd (none-some wanted (sym (literal_of-without c input i h ∙ ap (λ b. cond b None (literal_of c i)) (eq-eqb i input same)) ∙ e))
    | inr other ↦ sym (literal_of-without c input i h ∙ ap (λ b. cond b None (literal_of c i)) (ne_eqb i input other)) ∙ e
  ];
}

-- of two cubes of which one has fewer literals it still has fewer where both lose one
HasFewer-both_without : (c d : Product) (input : ℕ) → IsProduct c → IsProduct d → HasFewer c d → HasFewer (without c input) (without d input)
HasFewer-both_without c d input hc hd fewer = record {
  each = λ i wanted e. elim (cases_eq i input) [
    | inl same ↦ absurd (none-some wanted (sym (literal_of-without c input i hc ∙ ap (λ b. cond b None (literal_of c i)) (eq-eqb i input same)) ∙ e))
    | inr other ↦
        let mine : literal_of c i ≡ Some wanted = sym (literal_of-without c input i hc ∙ ap (λ b. cond b None (literal_of c i)) (ne_eqb i input other)) ∙ e in
        literal_of-without d input i hd ∙ ap (λ b. cond b None (literal_of d i)) (ne_eqb i input other) ∙ fewer.each i wanted mine
  ];
}

in_cube-HasFewer : (c d : Product) → HasFewer c d → (x : ℕ) → in_cube d x ≡ true → in_cube c x ≡ true
in_cube-HasFewer c d fewer = contains-from_literals c d fewer.each

IsInside-HasFewer : (inputs : ℕ) (c d : Product) (room : Assignments) → HasFewer c d → IsInside inputs c room → IsInside inputs d room
IsInside-HasFewer inputs c d room fewer inside x below one = inside x below (in_cube-HasFewer c d fewer x one)

-- ---- a cube that is expansion

pub expansion-more : (inputs : ℕ) (room : Assignments) (c : Product) (n : ℕ)
    → expansion inputs room c (n + 1) ≡ cond (is_inside inputs (without (expansion inputs room c n) n) room) (without (expansion inputs room c n) n) (expansion inputs room c n)
expansion-more inputs room c n = rw add-one refl

-- a step that drops the literal, and one that does not
pub expansion-dropped : (inputs : ℕ) (room : Assignments) (c d e : Product) (n : ℕ) → d ≡ expansion inputs room c n → e ≡ without d n → IsInside inputs e room → e ≡ expansion inputs room c (n + 1)
expansion-dropped inputs room c d e n before less inside =
    let here : e ≡ without (expansion inputs room c n) n = less ∙ ap (λ p. without p n) before in
    here ∙ sym (expansion-more inputs room c n ∙ ap (λ b. cond b (without (expansion inputs room c n) n) (expansion inputs room c n))
    (test_from_IsInside inputs (without (expansion inputs room c n) n) room (subst (λ (p : Product). IsInside inputs p room) here inside)))

pub expansion-held : (inputs : ℕ) (room : Assignments) (c d e : Product) (n : ℕ) → d ≡ expansion inputs room c n → e ≡ without d n → (IsInside inputs e room → ⊥) → d ≡ expansion inputs room c (n + 1)
expansion-held inputs room c d e n before less outside =
    let here : e ≡ without (expansion inputs room c n) n = less ∙ ap (λ p. without p n) before in
    before ∙ sym (expansion-more inputs room c n ∙ ap (λ b. cond b (without (expansion inputs room c n) n) (expansion inputs room c n))
    (fails (is_inside inputs (without (expansion inputs room c n) n) room) (λ passes. outside (subst (λ (p : Product). IsInside inputs p room) (sym here) (IsInside-from_test inputs _ room passes)))))
  where
    fails : (b : Bool) → (b ≡ true → ⊥) → b ≡ false
    fails true none = absurd (none refl)
    fails false none = refl

expansion-IsProduct : (inputs : ℕ) (room : Assignments) (c : Product) (n : ℕ) → IsProduct c → IsProduct (expansion inputs room c n)
expansion-IsProduct inputs room c zero h = h
expansion-IsProduct inputs room c (suc n) h =
    let d : Product = expansion inputs room c n in
    elim (is_inside inputs (without d n) room) as (λ b. IsProduct (cond b (without d n) d)) [
      | true ↦ IsProduct-cube_by (λ i. cond (nat_eq i n) None (literal_of d i))
      | false ↦ expansion-IsProduct inputs room c n h
    ]

expansion-HasFewer_one : (inputs : ℕ) (room : Assignments) (c : Product) (n : ℕ) → IsProduct c → HasFewer (expansion inputs room c (suc n)) (expansion inputs room c n)
expansion-HasFewer_one inputs room c n h =
    let d : Product = expansion inputs room c n in
    elim (is_inside inputs (without d n) room) as (λ b. HasFewer (cond b (without d n) d) d) [
      | true ↦ HasFewer-without d n (expansion-IsProduct inputs room c n h)
      | false ↦ HasFewer-same d
    ]

expansion-HasFewer : (inputs : ℕ) (room : Assignments) (c : Product) (n m : ℕ) → IsProduct c → n ≤ m → HasFewer (expansion inputs room c m) (expansion inputs room c n)
expansion-HasFewer inputs room c n m h le = elim (cases_eq n m) [
  | inl same ↦ subst (λ (k : ℕ). HasFewer (expansion inputs room c k) (expansion inputs room c n)) same (HasFewer-same (expansion inputs room c n))
  | inr other ↦ go m other le
]
  where
    go : (m : ℕ) → (n ≡ m → ⊥) → n ≤ m → HasFewer (expansion inputs room c m) (expansion inputs room c n)
    go zero other le = absurd (other (omega arith))
    go (suc m) other le = HasFewer-more (expansion inputs room c (suc m)) (expansion inputs room c m) (expansion inputs room c n)
        (expansion-HasFewer_one inputs room c m h)
        (elim (cases_eq n m) [
          | inl same ↦ subst (λ (k : ℕ). HasFewer (expansion inputs room c k) (expansion inputs room c n)) same (HasFewer-same (expansion inputs room c n))
          | inr apart ↦ go m apart (omega arith)
        ])

expansion-IsInside : (inputs : ℕ) (room : Assignments) (c : Product) (n : ℕ) → IsInside inputs c room → IsInside inputs (expansion inputs room c n) room
expansion-IsInside inputs room c zero inside = inside
expansion-IsInside inputs room c (suc n) inside =
    let d : Product = expansion inputs room c n in
    elim (is_inside inputs (without d n) room) as (λ b. is_inside inputs (without d n) room ≡ b → IsInside inputs (cond b (without d n) d) room) [
      | true ↦ λ e. IsInside-from_test inputs (without d n) room e
      | false ↦ λ e. expansion-IsInside inputs room c n inside
    ] refl

-- a literal of the end was not dropped, so the cube without it is not inside
expansion-IsPrime_at : (inputs : ℕ) (room : Assignments) (c : Product) (m i : ℕ) (wanted : Bool) → IsProduct c → i < m → literal_of (expansion inputs room c m) i ≡ Some wanted
    → IsInside inputs (without (expansion inputs room c m) i) room → ⊥
expansion-IsPrime_at inputs room c m i wanted h below has inside =
    let d : Product = expansion inputs room c i in
    let hd : IsProduct d = expansion-IsProduct inputs room c i h in
    let last : Product = expansion inputs room c m in
    let next : literal_of (expansion inputs room c (suc i)) i ≡ Some wanted = (expansion-HasFewer inputs room c (suc i) m h (omega arith)).each i wanted has in
    let both : HasFewer (without last i) (without d i) = HasFewer-both_without last d i (expansion-IsProduct inputs room c m h) hd (expansion-HasFewer inputs room c i m h (omega arith)) in
    let passes : is_inside inputs (without d i) room ≡ true = test_from_IsInside inputs (without d i) room (IsInside-HasFewer inputs (without last i) (without d i) room both inside) in
    none-some wanted (sym (ap (λ b. literal_of (cond b (without d i) d) i) passes ∙ literal_of-without d i i hd ∙ ap (λ b. cond b None (literal_of d i)) (eq-eqb i i refl)) ∙ next)

-- ---- the cube that is found from an assignment

IsProduct-point_of : (inputs x : ℕ) → IsProduct (point_of inputs x)
IsProduct-point_of inputs x = IsProduct-cube_by (λ i. cond (nat_lt i inputs) (Some (bit x i)) None)

pub expansion_from-IsProduct : (inputs : ℕ) (room : Assignments) (x : ℕ) → IsProduct (expansion_from inputs room x)
expansion_from-IsProduct inputs room x = expansion-IsProduct inputs room (point_of inputs x) inputs (IsProduct-point_of inputs x)

expansion_from-HasFewer : (inputs : ℕ) (room : Assignments) (x : ℕ) → HasFewer (expansion_from inputs room x) (point_of inputs x)
expansion_from-HasFewer inputs room x = expansion-HasFewer inputs room (point_of inputs x) 0 inputs (IsProduct-point_of inputs x) (omega arith)

pub expansion_from-HasInputsBelow : (inputs : ℕ) (room : Assignments) (x : ℕ) → HasInputsBelow inputs (expansion_from inputs room x)
expansion_from-HasInputsBelow inputs room x i wanted e = literal_of-point_of inputs x i wanted ((expansion_from-HasFewer inputs room x).each i wanted e)

pub in_cube-expansion_from : (inputs : ℕ) (room : Assignments) (x : ℕ) → in_cube (expansion_from inputs room x) x ≡ true
in_cube-expansion_from inputs room x = in_cube-HasFewer (expansion_from inputs room x) (point_of inputs x) (expansion_from-HasFewer inputs room x) x (in_cube-point_of inputs x)

pub expansion_from-IsPrime : (inputs : ℕ) (room : Assignments) (x : ℕ) → IsPrime inputs room (expansion_from inputs room x)
expansion_from-IsPrime inputs room x i wanted e =
    expansion-IsPrime_at inputs room (point_of inputs x) inputs i wanted (IsProduct-point_of inputs x) (expansion_from-HasInputsBelow inputs room x i wanted e) e

pub expansion_from-IsInside : (inputs : ℕ) (room : Assignments) (x : ℕ) → IsInside inputs (point_of inputs x) room → IsInside inputs (expansion_from inputs room x) room
expansion_from-IsInside inputs room x inside = expansion-IsInside inputs room (point_of inputs x) inputs inside
