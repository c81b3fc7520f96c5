use Rattle.parts_finder.proofs.products.+narrow_cover.Given as goal

abbrev pub decreases-narrow_cover : goal.decreases-narrow_cover
decreases-narrow_cover l = l.half
