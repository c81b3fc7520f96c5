-- A closed set of cells for each assignment that is asked for.
use Rattle.std.proofs.Common.{◌≡◌, ℕ, ◌+◌, ◌^◌, ◌<◌, Bool, true, false, ◌||◌, inl, inr, sym, ◌∙◌, subst}
use Rattle.std.specs.FinSet as set
use Rattle.std.specs.FinSet.{contains-union}
use Rattle.std.proofs.lemmas.Bool.{cases_Bool, or_cases, true≢false, not_from_false}
use Rattle.std.specs.Cmp.{nat_cmp_total}
use Rattle.lattice_grid.specs.declared.shape.Place.{Place}
use Rattle.lattice_grid.specs.Lattice.{Lattice}
use Rattle.lattice_grid.specs.Path.{IsWithin, AreFourNeighbours, AreEightNeighbours, JoinedBy}
use Rattle.lattice_grid.specs.Rectangle.{Size}
use Rattle.lattice_grid.proofs.Tools.{All-rising}
use Rattle.path_meaning.specs.Closed.{StopsBelow, StopsBeside}
use Rattle.path_meaning.specs.Defective.{RealisesIn, is_on_in}
use Rattle.path_meaning.proofs.Tools.{never_both, joined_refuted, cut_refuted}
use Rattle.reach_encoding.specs.Encoding.{Question, asked_at, many_asked}
use Rattle.reach_encoding.proofs.ModelLists.{choose_below}

-- The set holds the cells at the start whose value is this one, and with each cell those next to it whose value is; and none at the end.
pub record IsClosed (s : Size) (through : Bool) (on : Place → Bool) (Start End : Place → Type 0) (Next : Place → Place → Type 0) (held : Place → Bool) : Type 0 where
  pub start : (p : Place) → IsWithin s p → on p ≡ through → Start p → held p ≡ true
  pub step : (p q : Place) → IsWithin s p → held p ≡ true → Next p q → IsWithin s q → on q ≡ through → held q ≡ true
  pub stops : (p : Place) → IsWithin s p → held p ≡ true → End p → ⊥

pub IsClosed-below : (s : Size) (on held : Place → Bool) → StopsBelow s on held → IsClosed s true on (λ p. p.row ≡ 0) (λ p. p.row + 1 ≡ s.rows) AreFourNeighbours held
IsClosed-below s on held h = record {
  start = λ p within is first. h.start p (within, is) first;
  step = λ p q within has near next is. h.step p q within has near (next, is);
  stops = λ p within has last. h.stops p within has last;
}

pub IsClosed-beside : (s : Size) (on held : Place → Bool) → StopsBeside s on held → IsClosed s false on (λ p. p.col ≡ 0) (λ p. p.col + 1 ≡ s.cols) AreEightNeighbours held
IsClosed-beside s on held h = record {
  start = λ p within is first. h.start p (within, not_from_false (on p) is) first;
  step = λ p q within has near next is. h.step p q within has near (next, not_from_false (on q) is);
  stops = λ p within has last. h.stops p within has last;
}

-- what is asked for is in one of the two sets
pub asked_is : (q : Question) (t : ℕ) → t < many_asked q → (set.contains q.function.on (asked_at q t) || set.contains q.function.off (asked_at q t)) ≡ true
asked_is q t below =
    let both = set.union q.function.on q.function.off in
    let here = All-rising (2 ^ q.function.inputs) both t 0 below in
    sym (contains-union nat_cmp_total q.function.on q.function.off (asked_at q t)) ∙ here.1

-- Where the function is 1 the set shows that no cut stands, where it is 0 that no path does.
pub record Shows (q : Question) (cells : Place → Bool) (x : ℕ) (held : Place → Bool) : Type 0 where
  pub on : set.contains q.function.on x ≡ true → StopsBeside q.size cells held
  pub off : set.contains q.function.on x ≡ false → StopsBelow q.size cells held

pub shown : (q : Question) (g : Lattice) (t : ℕ) → g.size ≡ q.size → RealisesIn g q.function q.array → t < many_asked q
    → (held : Place → Bool) × Shows q (is_on_in g q.array (asked_at q t)) (asked_at q t) held
shown q g t same realises below =
    let x : ℕ = asked_at q t in
    let on : Place → Bool = is_on_in g q.array x in
    elim (cases_Bool (set.contains q.function.on x)) [
      | inl is_on ↦
          let joined : JoinedBy q.size on = subst (λ s. JoinedBy s on) same (realises.on x is_on) in
          let closed = (cut_refuted q.size on).0 (never_both q.size on joined) in
          (closed.0, record { on = λ _. closed.1; off = λ is_off. absurd (true≢false (sym is_on ∙ is_off)) })
      | inr is_off ↦
          let off : set.contains q.function.off x ≡ true = (elim (or_cases (set.contains q.function.on x) (set.contains q.function.off x) (asked_is q t below)) [
            | inl is_on ↦ absurd (true≢false (sym is_on ∙ is_off))
            | inr other ↦ other
          ]) in
          let closed = (joined_refuted q.size on).0 (λ joined. realises.off x off (subst (λ s. JoinedBy s on) (sym same) joined)) in
          (closed.0, record { on = λ is_on. absurd (true≢false (sym is_on ∙ is_off)); off = λ _. closed.1 })
    ]

-- a set of cells for each number of an assignment
pub all_shown : (q : Question) (g : Lattice) → g.size ≡ q.size → RealisesIn g q.function q.array
    → (sets : ℕ → Place → Bool) × ((t : ℕ) → t < many_asked q → Shows q (is_on_in g q.array (asked_at q t)) (asked_at q t) (sets t))
all_shown q g same realises =
    choose_below (many_asked q) (Place → Bool) (λ t held. Shows q (is_on_in g q.array (asked_at q t)) (asked_at q t) held) (λ _. false)
    (λ t below. shown q g t same realises below)
