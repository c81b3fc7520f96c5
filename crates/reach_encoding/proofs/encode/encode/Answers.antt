use Rattle.std.proofs.Common.{◌++◌, ap, ◌∙◌, rules}
use Rattle.reach_encoding.specs.Encoding.{choices, values, marks, encoding}
use Rattle.reach_encoding.proofs.EncodeLists.{HasRoom-left, HasRoom-right}
use Rattle.reach_encoding.proofs.EncodeLength.{room_at_start, encoding_whole}
use Rattle.reach_encoding.proofs.encode.encode.Goals as goal

pub push_choices-requires : goal.push_choices-requires
push_choices-requires c =
    let q = c.in_ok-task.task in
    HasRoom-left q c.new-formula.result (choices q) (values q ++ marks q) (room_at_start q c.new-formula.result c.vars.ensures.question (search rules))

pub push_values-requires : goal.push_values-requires
push_values-requires c =
    let q = c.in_ok-task.task in
    HasRoom-left q c.push_choices.new.formula (values q) (marks q)
    (HasRoom-right q c.new-formula.result c.push_choices.new.formula (choices q) (values q ++ marks q) (room_at_start q c.new-formula.result c.vars.ensures.question (search rules)) c.in_ok-push_choices.ensures)

pub push_marks-requires : goal.push_marks-requires
push_marks-requires c =
    let q = c.in_ok-task.task in
    HasRoom-right q c.push_choices.new.formula c.push_values.new.formula (values q) (marks q)
    (HasRoom-right q c.new-formula.result c.push_choices.new.formula (choices q) (values q ++ marks q) (room_at_start q c.new-formula.result c.vars.ensures.question (search rules)) c.in_ok-push_choices.ensures)
    c.in_ok-push_values.ensures

pub returns : goal.returns
returns c =
    encoding_whole c.in_ok-task.task c.new-formula.result c.push_choices.new.formula c.push_values.new.formula c.push_marks.new.formula (search rules)
    c.in_ok-push_choices.ensures c.in_ok-push_values.ensures c.in_ok-push_marks.ensures
    ∙ ap encoding c.in_ok-task.ensures
