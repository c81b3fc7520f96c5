use Rattle.std.proofs.Common.{◌≡◌, ℕ, ◌<◌, get_or, bit_or, rules}
use Rattle.cube_core.proofs.WordLaws.{members_of-or}
use Rattle.cube_core.proofs.table.Table.or.Goals as goal

pub returns : goal.returns
returns c =
    let each : (k : ℕ) → k < 16 → get_or c.words_by.result k 0 ≡ bit_or (get_or c.self.inside.words k 0) (get_or c.other.inside.words k 0) =
    λ k h. search (rules, c.words_by.ensures k h) in
    rw (← c.self.view_is, ← c.other.view_is) (members_of-or c.self.inside.words c.other.inside.words c.words_by.result each)
