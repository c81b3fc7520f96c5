-- For the crate's own proofs: which values of a trail were met in an analysis.
use Rattle.std.specs.Prelude.{ℕ, ◌==◌, ◌||◌, ◌&&◌, Bool, false, List, [], ◌∷◌, length, slice_index}
use Rattle.clause_core.specs.Literal.{same}
use Rattle.lrat_replay.specs.Status.{Known}
use Rattle.clause_solver.specs.declared.met.Met.{Met}
use Rattle.clause_solver.specs.declared.value.Value.{Value}

abbrev pub is_met : Met → ℕ → Bool
is_met met place = slice_index met.stamps.items place == met.present

abbrev pub room : Met → ℕ
room met = length met.stamps.items

-- the literals whose values stand at these places
abbrev pub at_places : (ℕ → Bool) → List Value → Known
at_places places [] l = false
at_places places (e ∷ older) l = (same e.lit l && places (length older)) || at_places places older l

-- the literals that were met
abbrev pub seen_of : Met → List Value → Known
seen_of met values = at_places (is_met met) values
