use Rattle.std.proofs.Common.{◌*◌, ◌∙◌, ap, length, option_copied, sym}
use Rattle.std.proofs.lemmas.List.FromFn.{length-map-range_with_len}
use Rattle.path_meaning.specs.Defective.{is_on_in}
use Rattle.reach_encoding.specs.Encoding.{place_of}
use Rattle.reach_encoding.specs.ModelOf.{is_free}
use Rattle.reach_encoding.proofs.model.marks_at.Goals as goal

pub flood-requires : goal.flood-requires
flood-requires c =
    ap length (c.as_slice.ensures.value ∙ c.in_ok-free.ensures)
    ∙ length-map-range_with_len (λ p. is_free c.side_at-side.result (is_on_in c.args.grid.now (option_copied c.args.array) c.args.x (place_of c.args.grid.now.size p))) 0
    (c.args.grid.now.size.rows * c.args.grid.now.size.cols) ∙ ap (λ s. s.rows * s.cols) (sym c.shape.ensures)
