use Rattle.std.proofs.Common.{[], refl, sym, subst}
use Rattle.audit_core.specs.Sought.{AreKept}
use Rattle.audit_core.proofs.SeenLaws.{right_none, next_none}
use Rattle.audit_core.proofs.part.Seen.new.Goals as goal

pub returns : goal.returns
returns c basis e = record {
  right = right_none basis;
  next = next_none;
  kept = subst (λ n. AreKept [] n c.in_ok-empty_lists.field-0.items) (sym e) c.in_ok-empty_lists.ensures;
  asked = c.new.ensures.items;
  many = refl;
  confirmed = c.new-2.ensures.items;
}
