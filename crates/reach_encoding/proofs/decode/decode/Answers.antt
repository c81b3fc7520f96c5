use Rattle.std.proofs.Common.{◌≡◌, ◌∙◌, sym, subst, rules}
use Rattle.lattice_grid.specs.Rails.{IsOverRails, controls_of}
use Rattle.path_meaning.specs.Defective.{RealisesIn}
use Rattle.reach_encoding.specs.Decode.{chosen_lattice}
use Rattle.reach_encoding.proofs.DecodeLaws.{All-chosen, cells_read, names_read, length-chosen, grid_is, read_is, realises_chosen}
use Rattle.reach_encoding.proofs.decode.decode.Goals as goal

pub new-requires : goal.new-requires
new-requires c =
    names_read c.args.inputs c.args.rails c.args.shape c.args.v.now c.in_ok-cells.cells.items c.requires.few
    (cells_read c.args.inputs c.args.rails c.args.shape c.args.v.now c.deref.result.now c.in_ok-cells.cells.items (search rules) c.in_ok-cells.ensures)

pub unwrap-requires : goal.unwrap-requires
unwrap-requires c =
    let many = length-chosen (controls_of c.args.inputs c.args.rails) c.args.shape c.args.v.now c.in_ok-cells.cells.items
    (cells_read c.args.inputs c.args.rails c.args.shape c.args.v.now c.deref.result.now c.in_ok-cells.cells.items (search rules) c.in_ok-cells.ensures) in
    search rules

-- the lattice that comes back
is_chosen : (c : goal.After-unwrap) → c.unwrap.result ≡ chosen_lattice (controls_of c.args.inputs c.args.rails) c.args.shape c.args.v.now
is_chosen c =
    grid_is (controls_of c.args.inputs c.args.rails) c.args.shape c.args.v.now c.in_ok-cells.cells.items c.unwrap.result c.new.result
    (cells_read c.args.inputs c.args.rails c.args.shape c.args.v.now c.deref.result.now c.in_ok-cells.cells.items (search rules) c.in_ok-cells.ensures) c.new.ensures c.unwrap.ensures

pub returns-clause-over : goal.returns-clause-over
returns-clause-over c = subst (IsOverRails c.args.inputs c.args.rails) (sym (is_chosen c)) (All-chosen c.args.inputs c.args.rails c.args.shape c.args.v.now)

pub returns-clause-reads : goal.returns-clause-reads
returns-clause-reads c = λ q asked. is_chosen c ∙ read_is c.args.inputs c.args.rails c.args.shape c.args.v.now q asked

pub returns-clause-realises : goal.returns-clause-realises
returns-clause-realises c = λ q asked ok sat. subst (λ g. RealisesIn g q.function q.array) (sym (is_chosen c)) (realises_chosen c.args.inputs c.args.rails c.args.shape c.args.v.now q asked ok sat)
