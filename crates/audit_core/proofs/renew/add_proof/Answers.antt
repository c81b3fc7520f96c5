use Rattle.journal_text.specs.Parts.{part_of, section_of}
use Rattle.journal_text.specs.declared.target.Close.TheVariants.{Refuted}
use Rattle.audit_core.specs.Sought.{IsWholeOf}
use Rattle.audit_core.proofs.RenewLaws.{adds_none, adds_one}
use Rattle.audit_core.proofs.renew.add_proof.Goals as goal

pub returns-in-None : goal.returns-in-None
returns-in-None c = adds_none (IsWholeOf c.args.output Refuted) (part_of c.args.part.now) c.args.proofs.now.items c.in-None.ensures

pub returns-in_ok-push-in-Some : goal.returns-in_ok-push-in-Some
returns-in_ok-push-in-Some c = adds_one (IsWholeOf c.args.output Refuted) (part_of c.args.part.now) (section_of c.in-Some.section.now) c.args.proofs.now.items c.push.new.self.items c.proof_for.result c.in-Some.ensures.0 c.in-Some.ensures.1 c.proof_for.ensures c.in_ok-push-in-Some.ensures.items
