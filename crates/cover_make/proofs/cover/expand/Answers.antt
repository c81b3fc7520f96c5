use Rattle.std.proofs.Common.{◌≡◌, sym, ◌∙◌}
use Rattle.std.proofs.lemmas.Bool.{false≢true}
use Rattle.cover_make.specs.Literals.{point_of, without}
use Rattle.cover_make.proofs.LiteralsLaws.{point_of-same, without-same}
use Rattle.cover_make.proofs.ExpansionLaws.{expansion-dropped, expansion-held}
use Rattle.cover_make.proofs.cover.expand.Goals as goal
use Rattle.cover_make.proofs.cover.expand.Goals.{then-inside, else-inside}

pub loop-input-init : goal.loop-input-init
loop-input-init c = point_of-same _ c.args.inputs c.args.x c.point-cube.ensures.product c.point-cube.ensures.literals

pub loop-input-preserved : goal.loop-input-preserved
loop-input-preserved c =
    let less : c.without-wider.result ≡ without c.loop-input.cube c.loop-input.input = without-same _ _ _ c.without-wider.ensures.product c.without-wider.ensures.literals in
    elim c.if-inside.branch [
      | then-inside w ↦
          w.cube-is ∙ expansion-dropped c.args.inputs c.args.room.now (point_of c.args.inputs c.args.x) _ _ _ c.loop-input.invariant less (c.inside.ensures.0 w.if-inside.true)
      | else-inside w ↦
          w.cube-is ∙ expansion-held c.args.inputs c.args.room.now (point_of c.args.inputs c.args.x) _ _ _ c.loop-input.invariant less
          (λ inside. false≢true (sym w.if-inside.false ∙ c.inside.ensures.1 inside))
    ]
