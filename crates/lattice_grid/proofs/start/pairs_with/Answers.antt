use Rattle.std.proofs.Common.{◌≡◌}
use Rattle.std.proofs.lemmas.Result.{IfOk-weaker}
use Rattle.lattice_grid.specs.Rails.{IsOverRails}
use Rattle.lattice_grid.specs.Realise.{Realises}
use Rattle.lattice_grid.specs.Start.{MatchStart, pairs_over, IsFirstLacking, NeverRealised}
use Rattle.lattice_grid.proofs.StartLaws.{right_read, realises_read}
use Rattle.lattice_grid.proofs.start.pairs_with.Goals as goal

pub returns-clause-right : goal.returns-clause-right
returns-clause-right c =
    let f = c.args.spec.now in
    let rails = c.args.rails in
    IfOk-weaker c.build.result (λ s. s ≡ pairs_over f rails) (λ s. MatchStart s (IsOverRails f.inputs rails) (IsFirstLacking f rails)) (right_read f rails c.build.ensures.function) c.build.ensures.start

pub returns-clause-realises : goal.returns-clause-realises
returns-clause-realises c =
    let f = c.args.spec.now in
    let rails = c.args.rails in
    IfOk-weaker c.build.result (λ s. s ≡ pairs_over f rails) (λ s. MatchStart s (λ g. Realises g f) (λ _ _. NeverRealised f rails)) (realises_read f rails c.build.ensures.function) c.build.ensures.start
