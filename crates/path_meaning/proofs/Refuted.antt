-- JoinedBy and CutBy are refuted by closed sets, and by each other.
use Rattle.std.proofs.Common.{◌≡◌, ◌+◌, Bool, not}
use Rattle.std.specs.Prelude.{IsTrue}
use Rattle.lattice_grid.specs.declared.shape.Place.{Place}
use Rattle.lattice_grid.specs.Path.{AreFourNeighbours, AreEightNeighbours, JoinedBy, CutBy}
use Rattle.path_meaning.specs.Closed.{IsOn, IsOff, StopsBelow, StopsBeside, IsJoinedRefuted, IsCutRefuted}
use Rattle.path_meaning.proofs.Walks.{Walk, stop, next, first_good, last_good, walk_from, path_from}
use Rattle.path_meaning.proofs.Sides.{S, K, S_walk, K_walk, S_start, K_start, S_on, K_on}

-- a set that holds the first cell of a walk, and each next one, holds the last
carried : (Good : Place → Type 0) (Near : Place → Place → Type 0) (set : Place → Bool) → ((p q : Place) → Good p → IsTrue (set p) → Near p q → Good q → IsTrue (set q)) → {p q : Place} → Walk Good Near p q → IsTrue (set p) → IsTrue (set q)
carried Good Near set step (stop g) h = h
carried Good Near set step (next {p = p} {q = q} g n w) h = carried Good Near set step w (step p q g h n (first_good Good Near w))

pub joined_refuted : IsJoinedRefuted
joined_refuted s on = (forth, back)
  where
    forth : (JoinedBy s on → ⊥) → (set : Place → Bool) × StopsBelow s on set
    forth none = (
      S s on,
      record {
        start = S_start s on;
        step = λ p q within here near good. S_on s on p q near here good;
        stops = λ p within here low. let w = S_walk s on p here in none (path_from s on AreFourNeighbours (λ p. p.row ≡ 0) (λ p. p.row + 1 ≡ s.rows) w.2 w.1 low);
      },
    )

    back : ((set : Place → Bool) × StopsBelow s on set) → JoinedBy s on → ⊥
    back closed joined =
        let w = walk_from s on AreFourNeighbours (λ p. p.row ≡ 0) (λ p. p.row + 1 ≡ s.rows) joined.0 joined.1 in
        let set = closed.0 in
        let c = closed.1 in
        let first = c.start w.0 (first_good (IsOn s on) AreFourNeighbours w.4) w.2 in
        let good = last_good (IsOn s on) AreFourNeighbours w.4 in
        c.stops w.1 good.0 (carried (IsOn s on) AreFourNeighbours set (λ p q g h n k. c.step p q g.0 h n k) w.4 first) w.3

pub cut_refuted : IsCutRefuted
cut_refuted s on = (forth, back)
  where
    forth : (CutBy s on → ⊥) → (set : Place → Bool) × StopsBeside s on set
    forth none = (
      K s on,
      record {
        start = K_start s on;
        step = λ p q within here near good. K_on s on p q near here good;
        stops = λ p within here low. let w = K_walk s on p here in none (path_from s (λ c. not (on c)) AreEightNeighbours (λ p. p.col ≡ 0) (λ p. p.col + 1 ≡ s.cols) w.2 w.1 low);
      },
    )

    back : ((set : Place → Bool) × StopsBeside s on set) → CutBy s on → ⊥
    back closed cut =
        let w = walk_from s (λ c. not (on c)) AreEightNeighbours (λ p. p.col ≡ 0) (λ p. p.col + 1 ≡ s.cols) cut.0 cut.1 in
        let set = closed.0 in
        let c = closed.1 in
        let first = c.start w.0 (first_good (IsOff s on) AreEightNeighbours w.4) w.2 in
        let good = last_good (IsOff s on) AreEightNeighbours w.4 in
        c.stops w.1 good.0 (carried (IsOff s on) AreEightNeighbours set (λ p q g h n k. c.step p q g.0 h n k) w.4 first) w.3
