use Rattle.std.proofs.Common.{◌≡◌, ◌∷◌, ◌++◌, arith, sym, subst, ap, ◌∙◌, decimal}
use Rattle.pla_reader.specs.Name.{IsName}
use Rattle.pla_reader.proofs.NameLaws.{IsName-numbered}
use Rattle.pla_reader.proofs.names.default_name.Goals as goal

pub unwrap-requires : goal.unwrap-requires
unwrap-requires c =
    let text : c.extend_from_slice.new.self.items ≡ c.args.letter ∷ decimal c.args.number =
    c.in_ok-extend_from_slice.ensures.items ∙ ap (λ w. w ++ c.as_bytes.result.now) c.in_ok-bytes.ensures.items
    ∙ ap (λ w. c.args.letter ∷ w) (c.as_bytes.ensures.value ∙ c.format.ensures.text) in
    c.new.ensures.named.1 (subst IsName (sym text) (IsName-numbered c.args.letter c.args.number c.requires.low c.requires.high (omega arith)))
