-- Finders that are asked for lattices of one output after another.
use Rattle.std.proofs.Common.{◌≡◌, inl, inr, ℕ, ◌+◌, ◌-◌, ◌<◌, ◌≤◌, List, [], ◌∷◌, ◌++◌, length, map, get_or, refl, sym, ap, ◌∙◌, subst, arith, length-append, Some}
use Rattle.std.specs.Prelude.{All, slice_get}
use Rattle.std.specs.List.{range_with_len}
use Rattle.std.proofs.lemmas.Option.{slice_get_cases}
use Rattle.std.proofs.lemmas.List.{length-map}
use Rattle.std.proofs.lemmas.List.Elements.{All-nil, All-append, All-weaker, All-map, All-get_or, All-from_get_or, Contains-append_left, Contains-push}
use Rattle.cube_core.specs.Function.{Function}
use Rattle.dual_product.specs.Dual.{dual_of}
use Rattle.finder_set.specs.Finders.{IsWrongProposal, AreAsked, StayInOrder}
use Rattle.finder_set.specs.declared.improve.Dropped.{Dropped}
use Rattle.journal_text.specs.Least.{area}
use Rattle.lattice_grid.specs.Rails.{IsFull}
use Rattle.pla_reader.specs.Parts.{Parts, IsPla}
use Rattle.wire_io.specs.Causes.{Rose}
use Rattle.area_search.specs.Answer.{AreUsed}
use Rattle.four_lattice.specs.declared.ending.Ending.{Ending}
use Rattle.four_lattice.specs.declared.ending.Ending.TheVariants as ending
use Rattle.four_lattice.specs.declared.ending.Refusal.TheVariants.{Words, Input, Side, Unconfirmed}
use Rattle.four_lattice.specs.declared.synth.Rejected.{Rejected}
use Rattle.four_lattice.specs.Ending.{status_of}
use Rattle.four_lattice.proofs.SynthLaws.{from-more}
use Rattle.four_lattice.specs.Rejected.{IsRejected, AreAskedFor, AreAskedWhereFull, AreUsedOnce, rejected_for, IsWorkDone, IsStatusOfWork}

rejected_wider : (parts : Parts) (outputs : List ℕ) (output : ℕ) (r : Rejected) → IsRejected parts outputs r → IsRejected parts (outputs ++ output ∷ []) r
rejected_wider parts outputs output r h = record { chosen = Contains-append_left outputs (output ∷ []) r.output h.chosen; function = h.function; of_output = h.of_output; wrong = h.wrong }

rose_twice : (a b c : ℕ) → Rose a b → Rose b c → Rose a c
rose_twice a b c h k = grind (arith, h, k)

rose_above : (a b c : ℕ) → a ≤ b → Rose b c → Rose a c
rose_above a b c h k = grind (arith, h, k)

module _ {F : Type 0} (begun left : F → ℕ) (rails : ℕ) (parts : Parts) (output : ℕ) (f : Function) (of : slice_get parts.functions output ≡ Some f) where
  wrong_here : (outputs : List ℕ) (bound : List F) (entries : List Dropped) → All (λ entry. IsWrongProposal f (area (dual_of f)) entry.proposal) entries → All (IsRejected parts (outputs ++ output ∷ [])) (map (rejected_for output) entries)
  wrong_here outputs bound entries h =
      All-map (IsRejected parts (outputs ++ output ∷ [])) (rejected_for output) entries
      (All-weaker (λ (entry : Dropped). IsWrongProposal f (area (dual_of f)) entry.proposal) (λ (entry : Dropped). IsRejected parts (outputs ++ output ∷ []) (rejected_for output entry))
      (λ entry w. record { chosen = Contains-push outputs output; function = f; of_output = of; wrong = w }) entries h)

  -- the first output
  first_asked : (old new : List F) (entries : List Dropped) → AreAsked begun left f (area (dual_of f)) old new entries → AreAskedFor begun left parts (output ∷ []) old new (map (rejected_for output) entries)
  first_asked old new entries h = record {
    wrong = wrong_here [] old entries h.entries.wrong;
    stay = ap (λ n. length new + n) (length-map entries (rejected_for output)) ∙ h.stay;
    spent = h.spent;
    rose = h.rose;
  }

  later_rose : (least : ℕ) (mid new : List F) (entries : List Dropped) → StayInOrder begun mid new entries → All (λ finder. Rose least (begun finder)) mid → All (λ finder. Rose least (begun finder)) new
  later_rose least mid [] entries order h = All-nil (λ finder. Rose least (begun finder))
  later_rose least mid (x ∷ new) entries order h = All-from_get_or (λ finder. Rose least (begun finder)) (x ∷ new) x (λ i less.
      let many = order.one_each in
      let inside : get_or order.places i 0 < length mid = All-get_or (λ place. place < length mid) order.places i 0 (omega arith) order.inside in
      rose_twice least (begun (get_or mid (get_or order.places i 0) x)) (begun (get_or (x ∷ new) i x)) (All-get_or (λ finder. Rose least (begun finder)) mid (get_or order.places i 0) x inside h) (order.rose i x less))

  -- one more output
  more_asked : (outputs : List ℕ) (old mid new : List F) (dropped : List Rejected) (entries : List Dropped) → AreAskedFor begun left parts outputs old mid dropped → AreAsked begun left f (area (dual_of f)) mid new entries
      → AreAskedFor begun left parts (outputs ++ output ∷ []) old new (dropped ++ map (rejected_for output) entries)
  more_asked outputs old mid new dropped entries h k = record {
    wrong = All-append (IsRejected parts (outputs ++ output ∷ [])) dropped (map (rejected_for output) entries)
        (All-weaker (IsRejected parts outputs) (IsRejected parts (outputs ++ output ∷ [])) (rejected_wider parts outputs output) dropped h.wrong) (wrong_here outputs mid entries k.entries.wrong);
    stay = (let a = h.stay in let b = k.stay in let l = length-append dropped (map (rejected_for output) entries) in let m = length-map entries (rejected_for output) in omega arith);
    spent = k.spent;
    rose = λ least is. later_rose least mid new entries k.order (h.rose least is);
  }

  pub asked_more : (outputs : List ℕ) (old mid new : List F) (dropped after : List Rejected) (entries : List Dropped) → f.inputs ≡ parts.inputs → AreAskedWhereFull begun left rails parts outputs old mid dropped → AreUsed begun left rails f mid new entries
      → after ≡ dropped ++ map (rejected_for output) entries → AreAskedWhereFull begun left rails parts (outputs ++ output ∷ []) old new after
  asked_more [] old mid new dropped after entries same h (inl k) e =
      inl (
        subst (λ n. IsFull n rails) same k.0,
        subst (AreAskedFor begun left parts (output ∷ []) old new) (sym (e ∙ ap (λ w. w ++ map (rejected_for output) entries) h.none))
            (subst (λ (start : List F). AreAskedFor begun left parts (output ∷ []) start new (map (rejected_for output) entries)) h.same (first_asked mid new entries k.1)),
      )
  asked_more [] old mid new dropped after entries same h (inr k) e =
      inr ((λ full. k.0 (subst (λ n. IsFull n rails) (sym same) full)), record { same = k.1 ∙ h.same; none = e ∙ ap (λ w. w ++ map (rejected_for output) entries) h.none ∙ ap (map (rejected_for output)) k.2 })
  asked_more (x ∷ outputs) old mid new dropped after entries same (inl h) (inl k) e =
      inl (h.0, subst (AreAskedFor begun left parts ((x ∷ outputs) ++ output ∷ []) old new) (sym e) (more_asked (x ∷ outputs) old mid new dropped entries h.1 k.1))
  asked_more (x ∷ outputs) old mid new dropped after entries same (inl h) (inr k) e = absurd (k.0 (subst (λ n. IsFull n rails) (sym same) h.0))
  asked_more (x ∷ outputs) old mid new dropped after entries same (inr h) (inl k) e = absurd (h.0 (subst (λ n. IsFull n rails) same k.0))
  asked_more (x ∷ outputs) old mid new dropped after entries same (inr h) (inr k) e =
      inr (h.0, record { same = k.1 ∙ h.1.same; none = e ∙ ap (λ w. w ++ map (rejected_for output) entries) h.1.none ∙ ap (map (rejected_for output)) k.2 })

inputs_of : (parts : Parts) (k : ℕ) (f : Function) → All (λ (h : Function). h.inputs ≡ parts.inputs) parts.functions → slice_get parts.functions k ≡ Some f → f.inputs ≡ parts.inputs
inputs_of parts k f each of = elim (slice_get_cases parts.functions k).1 [
  | inl h ↦
      let same : h.0 ≡ f = some_same h.0 f (sym h.2 ∙ of) in
      subst (λ (x : Function). x.inputs ≡ parts.inputs) (h.3 ∙ same) (All-get_or (λ (x : Function). x.inputs ≡ parts.inputs) parts.functions k h.0 h.1 each)
  | inr h ↦ absurd (cc (sym h.1 ∙ of))
] where
  some_same : (x y : Function) → Some x ≡ Some y → x ≡ y
  some_same x y e = cc e

-- before the first output
pub asked_none : {F : Type 0} (begun left : F → ℕ) (rails : ℕ) (parts : Parts) (first : ℕ) (list : List F) (dropped : List Rejected) → dropped ≡ [] → AreAskedWhereFull begun left rails parts (range_with_len first (first - first)) list list dropped
asked_none begun left rails parts first list dropped e =
    let none : first - first ≡ 0 = omega arith in
    subst (λ n. AreAskedWhereFull begun left rails parts (range_with_len first n) list list dropped) (sym none) (record { same = refl; none = e })

-- after one more
pub asked_next : {F : Type 0} (begun left : F → ℕ) (rails : ℕ) (parts : Parts) (first k : ℕ) (old mid new : List F) (dropped after : List Rejected) → IsPla parts → first ≤ k → AreAskedWhereFull begun left rails parts (range_with_len first (k - first)) old mid dropped
    → AreUsedOnce begun left rails parts k mid new dropped after → AreAskedWhereFull begun left rails parts (range_with_len first (k + 1 - first)) old new after
asked_next begun left rails parts first k old mid new dropped after pla rising h once =
    subst (λ (ks : List ℕ). AreAskedWhereFull begun left rails parts ks old new after) (sym (from-more first k rising))
    (asked_more begun left rails parts k once.function once.of_output (range_with_len first (k - first)) old mid new dropped after once.dropped (inputs_of parts k once.function pla.each once.of_output) h once.used once.added)

-- work is done where the status says so
pub done_by_status : (e : Ending) → IsStatusOfWork (status_of e) → IsWorkDone e
done_by_status ending.Done s = inl refl
done_by_status ending.Undecided s = inr refl
done_by_status ending.ReadFault (inl s) = absurd (cc s)
done_by_status ending.ReadFault (inr s) = absurd (cc s)
done_by_status ending.WriteFault (inl s) = absurd (cc s)
done_by_status ending.WriteFault (inr s) = absurd (cc s)
done_by_status ending.NoMemory (inl s) = absurd (cc s)
done_by_status ending.NoMemory (inr s) = absurd (cc s)
done_by_status (ending.Refused Words) (inl s) = absurd (cc s)
done_by_status (ending.Refused Words) (inr s) = absurd (cc s)
done_by_status (ending.Refused (Input r)) (inl s) = absurd (cc s)
done_by_status (ending.Refused (Input r)) (inr s) = absurd (cc s)
done_by_status (ending.Refused (Side r)) (inl s) = absurd (cc s)
done_by_status (ending.Refused (Side r)) (inr s) = absurd (cc s)
done_by_status (ending.Refused (Unconfirmed r)) (inl s) = absurd (cc s)
done_by_status (ending.Refused (Unconfirmed r)) (inr s) = absurd (cc s)
