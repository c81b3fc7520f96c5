use Rattle.std.proofs.Common.{◌≡◌, ◌++◌, ◌∙◌, List, [], Bool, length, ap, option_copied, subst, sym, rules}
use Rattle.std.specs.List.{flat_map}
use Rattle.clause_core.specs.Formula.{IsSatisfiedBy, value_in}
use Rattle.lattice_grid.specs.declared.control.Control.{Control}
use Rattle.lattice_grid.specs.Lattice.{Lattice}
use Rattle.reach_encoding.specs.declared.flood.Side.TheVariants.{Down}
use Rattle.reach_encoding.specs.Encoding.{Question, asked, controls, below, cells_of, encoding}
use Rattle.reach_encoding.specs.Model.{IsModel}
use Rattle.reach_encoding.specs.ModelOf.{answered, choice_row, free_cells_of, HasMarks}
use Rattle.reach_encoding.proofs.ModelOfLattice.{few, is_model, is_satisfied, whole_length}
use Rattle.reach_encoding.proofs.model.model_of.Goals as goal

-- the rows of the choices, where nothing stood before
rows_only : (g : Lattice) (q : Question) (old new : List Bool) (read : List Control) → old ≡ [] → read ≡ controls q
    → new ≡ old ++ flat_map (choice_row g read) (below (cells_of q)) → new ≡ flat_map (choice_row g (controls q)) (below (cells_of q))
rows_only g q old new read none are is =
    is ∙ ap (λ xs. xs ++ flat_map (choice_row g read) (below (cells_of q))) none ∙ ap (λ cs. flat_map (choice_row g cs) (below (cells_of q))) are

pub new-requires : goal.new-requires
new-requires c =
    let f = c.args.spec.now in
    let rails = c.args.rails in
    let g = c.args.grid.now in
    let array = option_copied c.args.array in
    let first = c.push_choices.new.values.items in
    let valued = c.push_values.new.values.items in
    let values = c.push_marks.new.values.items in
    few f rails g array c.push_choices.ensures.size c.requires.over c.requires.realises c.in_ok-asked.asked.items first valued values (search rules)
    (rows_only g (answered f rails g array) c.new-values.result.items first c.deref.result.now c.new-values.ensures.items (search rules) c.in_ok-push_choices.ensures.rows)
    (c.in_ok-push_values.ensures ∙ ap (λ xs. first ++ flat_map (free_cells_of g array Down) xs) c.as_slice.ensures.value)
    (subst (λ xs. HasMarks f.on g array xs valued values) c.as_slice-2.ensures.value c.in_ok-push_marks.ensures)
    c.inputs.ensures.kept c.requires.few

pub returns : goal.returns
returns c =
    let f = c.args.spec.now in
    let rails = c.args.rails in
    let g = c.args.grid.now in
    let array = option_copied c.args.array in
    let first = c.push_choices.new.values.items in
    let valued = c.push_values.new.values.items in
    let values = c.push_marks.new.values.items in
    let choices_are = rows_only g (answered f rails g array) c.new-values.result.items first c.deref.result.now c.new-values.ensures.items (search rules) c.in_ok-push_choices.ensures.rows in
    let values_are : valued ≡ first ++ flat_map (free_cells_of g array Down) c.in_ok-asked.asked.items =
    c.in_ok-push_values.ensures ∙ ap (λ xs. first ++ flat_map (free_cells_of g array Down) xs) c.as_slice.ensures.value in
    let marks_are = subst (λ xs. HasMarks f.on g array xs valued values) c.as_slice-2.ensures.value c.in_ok-push_marks.ensures in
    let asked_are : c.in_ok-asked.asked.items ≡ asked (answered f rails g array) = search rules in
    record {
      satisfied = subst (λ v. IsSatisfiedBy v (encoding (answered f rails g array))) (sym c.new.ensures)
          (is_satisfied f rails g array c.push_choices.ensures.size c.requires.over c.requires.realises c.in_ok-asked.asked.items first valued values asked_are choices_are values_are marks_are);
      chosen = subst (λ v. IsModel (answered f rails g array) g (value_in v)) (sym c.new.ensures)
          (is_model f rails g array c.push_choices.ensures.size c.requires.over c.requires.realises c.in_ok-asked.asked.items first valued values asked_are choices_are values_are marks_are);
      long = ap length c.new.ensures ∙ whole_length f rails g array c.push_choices.ensures.size c.requires.over c.requires.realises c.in_ok-asked.asked.items first valued values asked_are choices_are values_are marks_are;
    }
