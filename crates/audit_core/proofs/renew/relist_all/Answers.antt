use Rattle.std.proofs.Common.{rules, ◌≡◌, [], map, ap, sym, subst, arith, length, List, ◌∷◌, refl}
use Rattle.std.specs.Prelude.{All}
use Rattle.journal_text.specs.Parts.{part_of}
use Rattle.journal_text.specs.declared.journal.Part.{Part as PartRead}
use Rattle.audit_core.specs.Listing.{HasFewSteps}
use Rattle.audit_core.proofs.RenewLaws.{IsRelisting, relisting_none, relisting_next, relisting_all}
use Rattle.audit_core.proofs.renew.relist_all.Goals as goal

no_parts : (xs : List PartRead) → length xs ≡ 0 → xs ≡ []
no_parts [] e = refl
no_parts (x ∷ xs) e = absurd (omega arith)

pub loop-part-init : goal.loop-part-init
loop-part-init c =
    let same : c.into_iter-part-iterator.result.rest.items ≡ c.args.parts.items = search rules in
    let none : c.new-made.result.items ≡ [] = search rules in
    subst (λ ps. IsRelisting (map part_of ps) (map part_of c.into_iter-part-iterator.result.rest.items) (map part_of c.args.parts.items)) (sym none)
    (relisting_none (map part_of c.into_iter-part-iterator.result.rest.items) (map part_of c.args.parts.items) (ap (map part_of) same) c.requires)

pub relist_part-requires : goal.relist_part-requires
relist_part-requires c = subst (λ ps. All HasFewSteps (map part_of ps)) (sym c.deref.ensures.value) c.loop-part.invariant.few

pub loop-part-preserved : goal.loop-part-preserved
loop-part-preserved c =
    relisting_next c.loop-part.made.items c.push.new.self.items c.deref.result.now c.loop-part.part-iterator.rest.items c.next.new.self.rest.items (map part_of c.args.parts.items) c.in-Some.part c.in_ok-listed.listed c.in-Some.ensures.steps.0 c.in_ok-push.ensures.items c.deref.ensures.value c.loop-part.invariant c.in_ok-listed.ensures

pub returns : goal.returns
returns c =
    let rest = c.loop-part.part-iterator.rest in
    let none : c.loop-part.part-iterator.rest.items ≡ [] = no_parts c.loop-part.part-iterator.rest.items (let ok = rest.ok in let len = c.in-None.ensures.steps.0 in grind (arith, ok, len)) in
    record { same = relisting_all (map part_of c.loop-part.made.items) (map part_of c.loop-part.part-iterator.rest.items) (map part_of c.args.parts.items) (ap (map part_of) none) c.loop-part.invariant; listed = c.loop-part.invariant.listed }
