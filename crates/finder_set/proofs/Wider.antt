-- What is so of proposals below a bound is so below a larger one.
use Rattle.std.specs.Prelude.{ℕ, ◌≤◌, List}
use Rattle.std.proofs.Common.{arith}
use Rattle.std.proofs.lemmas.List.Elements.{All-weaker}
use Rattle.cube_core.specs.Function.{Function}
use Rattle.lattice_grid.specs.Lattice.{Lattice}
use Rattle.finder_set.specs.declared.improve.Dropped.{Dropped}
use Rattle.finder_set.specs.Finders.{IsWrongProposal, AreDropped, AreAsked}

pub IsWrongProposal-wider : (f : Function) (bound larger : ℕ) (g : Lattice) → bound ≤ larger → IsWrongProposal f bound g → IsWrongProposal f larger g
IsWrongProposal-wider f bound larger g within h = record { smaller = omega (arith, h.smaller); wrong = h.wrong }

pub AreDropped-wider : (f : Function) (bound larger finders : ℕ) (dropped : List Dropped) → bound ≤ larger → AreDropped f bound finders dropped → AreDropped f larger finders dropped
AreDropped-wider f bound larger finders dropped within h = record {
  places = h.places;
  rising = h.rising;
  wrong = All-weaker (λ (e : Dropped). IsWrongProposal f bound e.proposal) (λ (e : Dropped). IsWrongProposal f larger e.proposal)
      (λ e wrong. IsWrongProposal-wider f bound larger e.proposal within wrong) dropped h.wrong;
}

pub AreAsked-wider : {F : Type 0} (begun left : F → ℕ) (f : Function) (bound larger : ℕ) (old new : List F) (dropped : List Dropped) → bound ≤ larger
    → AreAsked begun left f bound old new dropped → AreAsked begun left f larger old new dropped
AreAsked-wider begun left f bound larger old new dropped within h = record {
  entries = AreDropped-wider f bound larger _ dropped within h.entries;
  stay = h.stay;
  order = h.order;
  spent = h.spent;
  rose = h.rose;
}
