use Rattle.std.proofs.Common.{◌≡◌, ◌<◌, Err, refl, ◌∷◌, [], ap, ◌∙◌, sym, arith, take, drop, ◌*◌, length}
use Rattle.lattice_grid.specs.declared.array.Defect.TheVariants.{Sound}
use Rattle.report_text.specs.Cells.{defect_byte}
use Rattle.report_text.proofs.PutLaws.{IsPut-more, IsPut-stop, defects_next}
use Rattle.report_text.proofs.write.put_defects.Goals as goal

pub returns-in_err-put : goal.returns-in_err-put
returns-in_err-put g c =
    let below : c.loop-col.col < c.args.array.now.size.cols = let end = c.cols-col-end.ensures.same in let same = ap (λ s. s.cols) c.shape.ensures.same in omega (arith, end, same) in
    IsPut-stop _ _ _ _ _ _ _ _ _ (Err c.in_err-put.field-0.0) c.from_residual.result _ _ _ _ refl c.from_residual.ensures.0 c.loop-col.invariant
    (defects_next c.args.array.now c.args.row c.loop-col.col _ c.shape.ensures.kept c.requires below (c.byte_of-byte.ensures ∙ ap defect_byte c.at.ensures))
    (record { ok = tt; front = c.in_err-put.ensures.front; cause = c.in_err-put.ensures.cause })

pub loop-col-preserved : goal.loop-col-preserved
loop-col-preserved g c =
    let below : c.loop-col.col < c.args.array.now.size.cols = let end = c.cols-col-end.ensures.same in let same = ap (λ s. s.cols) c.shape.ensures.same in omega (arith, end, same) in
    IsPut-more _ _ _ _ _ _ _ _ _ tt _ _ _ _ c.loop-col.invariant
    (defects_next c.args.array.now c.args.row c.loop-col.col _ c.shape.ensures.kept c.requires below (c.byte_of-byte.ensures ∙ ap defect_byte c.at.ensures))
    (record { ok = c.in_ok-put.ensures.ok; front = c.in_ok-put.ensures.front; cause = c.in_ok-put.ensures.cause })
