-- For the crate's own proofs: what a trail keeps.
use Rattle.std.specs.Prelude.{◌≡◌, ℕ, ◌+◌, ◌*◌, ◌<◌, ◌≤◌, List, [], ◌∷◌, length, reverse, slice_index}
use Rattle.lrat_replay.specs.Marks.{known_of, room}
use Rattle.clause_solver.specs.Trail.{Track, known_by, AreFresh, AreOver}
use Rattle.clause_solver.specs.declared.trail.Trail.TheInside.{Inside}
use Rattle.clause_solver.specs.declared.value.Value.{Value}

abbrev pub track_of : Inside → Track
track_of trail = record { vars = trail.vars; values = reverse trail.values.items }

-- for the variable of each value the place of that value
abbrev pub ArePlaced : List ℕ → List Value → Type 0
ArePlaced places [] = Unit {0}
ArePlaced places (e ∷ older) = (slice_index places e.lit.var ≡ length older) × ArePlaced places older

-- the marks are the values
pub record AreMarked (trail : Inside) : Type 0 where
  pub few : trail.vars < 2147483648
  pub wide : 2 * trail.vars + 2 ≤ room trail.marks
  pub same : known_of trail.marks ≡ known_by (reverse trail.values.items)
  pub over : AreOver trail.vars (reverse trail.values.items)
  pub fresh : AreFresh (reverse trail.values.items)
  pub spread : trail.vars < length trail.places.items
  pub placed : ArePlaced trail.places.items (reverse trail.values.items)
