use Rattle.std.proofs.Common.{◌≡◌, ℕ, ◌+◌, ◌*◌, ◌<◌, ◌^◌, ◌&&◌, nat_lt, get_or, rules}
use Rattle.cube_core.specs.Assignment.{bit}
use Rattle.cube_core.specs.Cube.{in_cube}
use Rattle.cube_core.proofs.CubeLaws.{members_of-cube}
use Rattle.cube_core.proofs.table.Table.of_cube.Goals as goal

pub returns : goal.returns
returns c =
    let each : (k j : ℕ) → k < 16 → j < 64 → bit (get_or c.words_by.result k 0) j ≡ (nat_lt (64 * k + j) (2 ^ c.args.inputs) && in_cube c.args.cube.now (64 * k + j)) =
    λ k j h within. search (rules, c.words_by.ensures k h) in
    members_of-cube c.args.inputs c.args.cube.now c.words_by.result c.requires each
