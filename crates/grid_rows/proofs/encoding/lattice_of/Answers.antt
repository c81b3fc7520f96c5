use Rattle.std.proofs.Common.{length, option_copied, subst, sym}
use Rattle.lattice_grid.specs.Rails.{controls_of}
use Rattle.reach_encoding.specs.Decode.{Chooses}
use Rattle.reach_encoding.specs.Encoding.{Question}
use Rattle.grid_rows.proofs.encoding.lattice_of.Goals as goal

pub decode-requires-clause-chosen : goal.decode-requires-clause-chosen
decode-requires-clause-chosen c =
    let q : Question = record { function = c.args.spec.now; rails = c.args.rails; size = c.args.shape; array = option_copied c.args.array } in
    subst (λ n. Chooses (length (controls_of n c.args.rails)) c.args.shape c.args.values.now) (sym c.inputs.ensures.same)
    (c.read.ensures.chooses q c.args.values.now (record { function = c.inputs.ensures.kept; size = c.rows.ensures.size; few = c.requires.few; array = c.requires.array }) c.requires.satisfied)
