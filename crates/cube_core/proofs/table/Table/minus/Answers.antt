use Rattle.std.proofs.Common.{◌≡◌, ℕ, ◌<◌, ◌^◌, get_or, bit_and, w64, rules}
use Rattle.std.specs.Int.{bit_not}
use Rattle.cube_core.proofs.WordLaws.{members_of-minus}
use Rattle.cube_core.proofs.table.Table.minus.Goals as goal

pub returns : goal.returns
returns c =
    let each : (k : ℕ) → k < 16 → get_or c.words_by.result k 0 ≡ bit_and (get_or c.self.inside.words k 0) (bit_not w64 (get_or c.other.inside.words k 0)) = λ k h. search (rules, c.words_by.ensures k h) in
    let fits : (k : ℕ) → k < 16 → get_or c.other.inside.words k 0 < 2 ^ 64 = λ k h. search (rules, c.words_by.ensures k h) in
    rw (← c.self.view_is, ← c.other.view_is) (members_of-minus c.self.inside.words c.other.inside.words c.words_by.result fits each)
