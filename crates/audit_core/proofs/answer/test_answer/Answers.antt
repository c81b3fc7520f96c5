use Rattle.std.proofs.Common.{[], ◌∷◌}
use Rattle.std.proofs.lemmas.List.{get_or_read}
use Rattle.std.proofs.lemmas.Result.{on_ok_weaker, IfErr-weaker}
use Rattle.pla_reader.specs.Parts.{parts_of}
use Rattle.audit_core.specs.Audit.{IsOf}
use Rattle.audit_core.specs.Audit.Demand.{OfPair, OfLiterals, OfValues, OfArea, OfCover, OfSection, OfProofs}
use Rattle.audit_core.specs.Tested.{basis_in, claim_in, claim_behind}
use Rattle.audit_core.proofs.AnswerLaws.{of_named, no_output, told_front, told_unmet, told_behind, told_anywhere, all_are_met, kept_of, list_within}
use Rattle.audit_core.proofs.answer.test_answer.Goals as goal

pub returns-in_default-clause-refused : goal.returns-in_default-clause-refused
returns-in_default-clause-refused c other before next all = no_output (claim_behind c.args.basis.now c.args.claim.now before) c.args.least c.args.claim.now.line next c.in_default.ensures

pub returns-in-Err-clause-refused : goal.returns-in-Err-clause-refused
returns-in-Err-clause-refused c other before next all =
    told_unmet (claim_behind c.args.basis.now c.args.claim.now before) c.in-Some.spec.now c.args.claim.now.line c.in-Err.refusal (of_named (claim_behind c.args.basis.now c.args.claim.now before) c.args.least c.in-Some.spec.now next c.in-Some.ensures)
    (told_front (claim_behind c.args.basis.now c.args.claim.now before) c.in-Some.spec.now c.args.claim.now.line (OfPair ∷ OfLiterals ∷ OfValues ∷ OfArea ∷ []) (OfCover ∷ OfSection ∷ OfProofs ∷ []) c.in-Err.refusal
    (told_anywhere (claim_in c.args.basis.now c.args.claim.now) before c.in-Some.spec.now c.args.claim.now.line c.in-Err.refusal (c.in-Err.ensures.told other)))

pub bounds-refuted-claim : goal.bounds-refuted-claim
bounds-refuted-claim c = list_within (parts_of c.args.basis.now.pla.now) c.args.claim.now.block.now.output c.in-Some.spec.now c.args.refuted.now c.requires.pla c.requires.lists c.in-Some.ensures.function

pub returns-clause-right : goal.returns-clause-right
returns-clause-right c =
    let within = list_within (parts_of c.args.basis.now.pla.now) c.args.claim.now.block.now.output c.in-Some.spec.now c.args.refuted.now c.requires.pla c.requires.lists c.in-Some.ensures.function in
    on_ok_weaker c.test_sections.result
    (λ met before next all.
    let of : IsOf (claim_behind c.args.basis.now c.args.claim.now before) c.in-Some.spec.now = of_named (claim_behind c.args.basis.now c.args.claim.now before) c.args.least c.in-Some.spec.now next c.in-Some.ensures in
    all_are_met (claim_behind c.args.basis.now c.args.claim.now before) c.in-Some.spec.now of c.in_default-test_lattices.ensures.met
    (met before
    (kept_of (basis_in c.args.basis.now) before c.args.claim.now.block.now.output c.args.claim.now.asked.now c.args.refuted.now c.index-refuted-claim.result within
    (get_or_read c.args.refuted.now c.args.claim.now.block.now.output c.index-refuted-claim.result within c.index-refuted-claim.is []) all) c.in-Some.spec.now of.function))
    c.test_sections.ensures.met

pub returns-clause-refused : goal.returns-clause-refused
returns-clause-refused c =
    let within = list_within (parts_of c.args.basis.now.pla.now) c.args.claim.now.block.now.output c.in-Some.spec.now c.args.refuted.now c.requires.pla c.requires.lists c.in-Some.ensures.function in
    IfErr-weaker c.test_sections.result _ _
    (λ r told other before next all.
    let of : IsOf (claim_behind c.args.basis.now c.args.claim.now before) c.in-Some.spec.now = of_named (claim_behind c.args.basis.now c.args.claim.now before) c.args.least c.in-Some.spec.now next c.in-Some.ensures in
    told_unmet (claim_behind c.args.basis.now c.args.claim.now before) c.in-Some.spec.now c.args.claim.now.line r of
    (told_behind (claim_behind c.args.basis.now c.args.claim.now before) c.in-Some.spec.now c.args.claim.now.line r c.in_default-test_lattices.ensures.met
    (told before
    (kept_of (basis_in c.args.basis.now) before c.args.claim.now.block.now.output c.args.claim.now.asked.now c.args.refuted.now c.index-refuted-claim.result within
    (get_or_read c.args.refuted.now c.args.claim.now.block.now.output c.index-refuted-claim.result within c.index-refuted-claim.is []) all) c.in-Some.spec.now of.function)))
    c.test_sections.ensures.told
