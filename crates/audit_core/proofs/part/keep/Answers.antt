use Rattle.std.proofs.Common.{[], ◌∷◌, ◌++◌, set, sym, ap, ◌∙◌, subst, arith}
use Rattle.std.proofs.lemmas.List.{get_or_read}
use Rattle.std.proofs.lemmas.Result.{on_ok_weaker}
use Rattle.journal_text.specs.Parts.{Question, part_of, section_of}
use Rattle.audit_core.specs.Sought.{AreKept}
use Rattle.audit_core.proofs.SeenLaws.{kept_same, kept_more}
use Rattle.audit_core.proofs.part.keep.Goals as goal

pub returns-in-None : goal.returns-in-None
returns-in-None c before outputs h = kept_same before (part_of c.args.part.now) c.args.output outputs c.args.refuted.now.items c.requires.section c.in-None.ensures h

pub returns-in-Some : goal.returns-in-Some
returns-in-Some c =
    on_ok_weaker c.add.result
    (λ e before outputs h.
    subst (λ p. AreKept (before ++ p ∷ []) outputs (set c.args.refuted.now.items c.args.output c.add.new.self)) (sym c.in-Some.ensures.0)
    (subst (λ l. AreKept (before ++ Question (section_of c.in-Some.section.now) ∷ []) outputs (set c.args.refuted.now.items c.args.output l)) (sym (e ∙ ap (λ l. l ++ c.shape_of.result ∷ []) (get_or_read c.args.refuted.now.items c.args.output c.index_mut.result.now (let within = c.requires.within in omega (arith, within, c.args.refuted.now.ok.0)) c.index_mut.ensures.value [])))
    (kept_more before (section_of c.in-Some.section.now) c.args.output outputs c.args.refuted.now.items c.shape_of.result c.in-Some.ensures.1 (let within = c.requires.within in omega (arith, within, c.args.refuted.now.ok.0)) c.shape_of.ensures h)))
    c.add.ensures.ok
