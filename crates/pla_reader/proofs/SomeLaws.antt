-- Each text is read or refused.
use Rattle.std.proofs.Common.{◌≡◌, ℕ, zero, suc, ◌+◌, ◌<◌, ◌≤◌, ◌⊎◌, inl, inr, List, length, Option, Some, None, Bool, true, false, refl, sym, ◌∙◌, arith, subst, true≢false}
use Rattle.std.specs.Prelude.{◌^◌, ◌&&◌}
use Rattle.std.specs.FinSet as set
use Rattle.std.specs.Cmp.{nat_cmp_total}
use Rattle.cube_core.specs.Members.{Assignments, AllBelow, AreDisjoint, IsLeast}
use Rattle.cube_core.proofs.Tools.{passing_below-AllBelow, below_or_above}
use Rattle.pla_reader.specs.declared.fault.LineFault.{LineFault}
use Rattle.pla_reader.specs.declared.kind.Kind.{Kind}
use Rattle.pla_reader.specs.declared.pla.PlaRefusal.{PlaRefusal}
use Rattle.pla_reader.specs.declared.pla.PlaRefusal.TheVariants.{TooLong, Missing, Conflict}
use Rattle.pla_reader.specs.Given.{rows_of, inputs_of, outputs_of, are_given, kind_of_lines}
use Rattle.pla_reader.specs.Answers.{IsReadOrRefused}
use Rattle.pla_reader.specs.Lines.{lines_of, line_length}
use Rattle.std.specs.List.{sum_by}
use Rattle.pla_reader.specs.Parts.{Parts}
use Rattle.pla_reader.specs.Reading.{lines_read, said_in, fault_at, AreSound, IsClear, sets_in, parts_said, refusal_at, Reads, Refused, IsLineRefused, IsEndRefused, IsConflict}
use Rattle.pla_reader.specs.Says.{Said}
use Rattle.pla_reader.specs.Sets.{marks_on, named, sets_of}
use Rattle.pla_reader.proofs.SetsLaws.{both}

told_or_not : {X : Type 0} (o : Option X) → (o ≡ None) ⊎ ((x : X) × (o ≡ Some x))
told_or_not None = inl refl
told_or_not (Some x) = inr (x, refl)

true_or_false : (b : Bool) → (b ≡ true) ⊎ (b ≡ false)
true_or_false true = inl refl
true_or_false false = inr refl

-- what holds below a number holds below the next, where it holds of the number
and_here : (P : ℕ → Type 0) (n : ℕ) → ((k : ℕ) → k < n → P k) → P n → (k : ℕ) → k < suc n → P k
and_here P n below here k less = elim (below_or_above k n) [
  | inl lt ↦ below k lt
  | inr ge ↦ let same : n ≡ k = omega (arith, ge, less) in subst P same here
]

-- the least number below n of which it is so, or none is
module _ (Holds Fails : ℕ → Type 0) (decide : (k : ℕ) → Holds k ⊎ Fails k) where
  record IsFirst (n : ℕ) : Type 0 where
    pub place : ℕ
    pub within : place < n
    pub before : (k : ℕ) → k < place → Holds k
    pub here : Fails place

  first_below : (n : ℕ) → ((k : ℕ) → k < n → Holds k) ⊎ IsFirst n
  first_below zero = inl (λ k less. absurd (omega (arith, less)))
  first_below (suc n) = elim (first_below n) [
    | inl all ↦ elim (decide n) [
      | inl holds ↦ inl (and_here Holds n all holds)
      | inr fails ↦ inr (record { place = n; within = omega arith; before = all; here = fails })
    ]
    | inr first ↦ let less = first.within in inr (record { place = first.place; within = omega (arith, less); before = first.before; here = first.here })
  ]

-- the assignments that are named on are below the number of all
on_below : (kind : Kind) (inputs : ℕ) (rows : List (List ℕ)) (k : ℕ) → AllBelow (2 ^ inputs) (sets_of kind inputs rows k).on
unfolding sets_of
on_below kind inputs rows k = passing_below-AllBelow _ (2 ^ inputs)

-- an output is clear, or there is a least assignment that is named on and off
clear_or_not : (said : List Said) (k : ℕ) → IsClear said k ⊎ ((x : ℕ) × IsLeast (set.intersection (sets_in said k).on (sets_in said k).off) x)
clear_or_not said k = elim (first_below (λ x. set.contains common x ≡ false) (λ x. set.contains common x ≡ true) here (2 ^ inputs_of said)) [
  | inl none ↦ inl (λ x on off. true≢false (sym (is_common x on off) ∙ none x (on_below (kind_of_lines said) (inputs_of said) (rows_of said) k x on)))
  | inr first ↦ inr (first.place, record { member = first.here; least = first.before })
] where
  common : Assignments
  common = set.intersection (sets_in said k).on (sets_in said k).off

  here : (x : ℕ) → (set.contains common x ≡ false) ⊎ (set.contains common x ≡ true)
  here x = elim (true_or_false (set.contains common x)) [ inl t ↦ inr t | inr f ↦ inl f ]

  is_common : (x : ℕ) → set.contains (sets_in said k).on x ≡ true → set.contains (sets_in said k).off x ≡ true → set.contains common x ≡ true
  is_common x on off = set.contains-intersection nat_cmp_total (sets_in said k).on (sets_in said k).off x ∙ (λ i. on i && off i)

some_within : (bytes : List ℕ) → length bytes ≤ 4194304 → ((parts : Parts) × Reads bytes parts) ⊎ ((refusal : PlaRefusal) × Refused bytes refusal)
some_within bytes few = elim (first_below (λ k. fault_at (said_in bytes) k ≡ None) (λ k. (f : LineFault) × (fault_at (said_in bytes) k ≡ Some f)) (λ k. told_or_not (fault_at (said_in bytes) k)) (length (said_in bytes))) [
  | inr first ↦ inr (refusal_at first.here.0 (first.place + 1), inr (few, inl (record { line = first.place; fault = first.here.0; within = first.within; before = first.before; here = first.here.1; answer = refl })))
  | inl sound ↦ elim (true_or_false (are_given (said_in bytes))) [
    | inr missing ↦ inr (Missing (length (lines_of bytes)), inr (few, inr (inl (record { before = sound; missing = missing; answer = refl }))))
    | inl given ↦ elim (first_below (IsClear (said_in bytes)) (λ k. (x : ℕ) × IsLeast (set.intersection (sets_in (said_in bytes) k).on (sets_in (said_in bytes) k).off) x) (clear_or_not (said_in bytes)) (outputs_of (said_in bytes))) [
      | inl clear ↦ inl (parts_said (said_in bytes) (sum_by line_length (lines_read bytes)), record { few = few; sound = sound; given = given; clear = clear; gives = refl })
      | inr first ↦
          inr (
            Conflict first.place first.here.0,
            inr (few, inr (inr (record { output = first.place; assign = first.here.0; before = sound; given = given; within = first.within; earlier = first.before; least = first.here.1; answer = refl }))),
          )
    ]
  ]
]

pub some_reading : IsReadOrRefused
some_reading bytes = elim (below_or_above 4194304 (length bytes)) [
  | inl long ↦ inr (TooLong, inl (long, refl))
  | inr few ↦ some_within bytes few
]
