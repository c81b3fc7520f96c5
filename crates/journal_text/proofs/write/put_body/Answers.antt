use Rattle.std.proofs.Common.{Err, refl, ap, ◌++◌, codes}
use Rattle.std.specs.List.{flat_map}
use Rattle.report_text.proofs.Tools.{puts_then, puts_stop, puts_as}
use Rattle.journal_text.specs.Parts.{part_of}
use Rattle.journal_text.specs.Text.{part_text}
use Rattle.journal_text.proofs.WriteLaws.{mapped_parts}
use Rattle.journal_text.proofs.write.put_body.Goals as goal

pub returns-in_err-put_parts : goal.returns-in_err-put_parts
returns-in_err-put_parts g c =
    let j = c.args.journal.now in
    puts_as _ _ _ _ _ _ _ _ _ (ap (λ z. z ++ codes "end\n") (mapped_parts j.version j.parts.items))
    (puts_stop _ _ _ _ _ _ (Err c.in_err-put_parts.field-0.0) c.from_residual.result (flat_map (λ p. part_text j.version (part_of p)) j.parts.items) (codes "end\n") refl c.from_residual.ensures.0 (rw c.deref.ensures.value at c.in_err-put_parts.ensures))

pub returns : goal.returns
returns g c =
    let j = c.args.journal.now in
    puts_as _ _ _ _ _ _ _ _ _ (ap (λ z. z ++ codes "end\n") (mapped_parts j.version j.parts.items))
    (puts_then _ _ _ _ _ _ _ _ _ tt c.put.result (flat_map (λ p. part_text j.version (part_of p)) j.parts.items) (codes "end\n")
    (record { ok = c.put.ensures.ok; front = c.put.ensures.front; cause = c.put.ensures.cause }) (rw c.deref.ensures.value at c.in_ok-put_parts.ensures))
