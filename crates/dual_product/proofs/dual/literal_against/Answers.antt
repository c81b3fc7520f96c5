use Rattle.std.proofs.Common.{◌≡◌, ap, ◌∙◌, sym, subst, Option, ℕ}
use Rattle.std.specs.Option.{IfSome}
use Rattle.cube_core.specs.Cube.{literal_of, IsLeastClash}
use Rattle.dual_product.specs.Dual.{control_of, clash_of}
use Rattle.dual_product.proofs.ClashLaws.{clash_of-least}
use Rattle.dual_product.proofs.dual.literal_against.Goals as goal

pub returns : goal.returns
returns c =
    let found : IsLeastClash c.args.on.now c.args.off.now c.unwrap-input.result =
    subst (λ (r : Option ℕ). IfSome r (IsLeastClash c.args.on.now c.args.off.now)) c.unwrap-input.ensures c.clash.ensures.some in
    let least : clash_of c.args.on.now c.args.off.now ≡ c.unwrap-input.result = clash_of-least c.args.on.now c.args.off.now c.unwrap-input.result found in
    c.control.ensures ∙ ap (λ l. control_of l c.unwrap-input.result) c.literal.ensures
    ∙ ap (λ i. control_of (literal_of c.args.on.now i) i) (sym least)
