use Rattle.std.proofs.Common.{rules, ◌≡◌, ◌∙◌, ◌++◌, ◌∷◌, [], List, map, ap, sym, refl, append_assoc, length, arith, ℕ}
use Rattle.std.proofs.lemmas.List.{append-nil}
use Rattle.finder_set.specs.declared.improve.Dropped.{Dropped}
use Rattle.four_lattice.specs.Rejected.{rejected_for}
use Rattle.four_lattice.specs.declared.synth.Rejected.{Rejected}
use Rattle.four_lattice.proofs.synth.reject.Goals as goal

no_entries : (xs : List Dropped) → length xs ≡ 0 → xs ≡ []
no_entries [] e = refl
no_entries (x ∷ xs) e = absurd (omega arith)

moved : (output : ℕ) (before pushed : List Rejected) (entry : Dropped) (rest old : List Dropped) → pushed ≡ before ++ rejected_for output entry ∷ [] → old ≡ entry ∷ rest → pushed ++ map (rejected_for output) rest ≡ before ++ map (rejected_for output) old
moved output before pushed entry rest old e k = ap (λ w. w ++ map (rejected_for output) rest) e ∙ append_assoc before (rejected_for output entry ∷ []) (map (rejected_for output) rest) ∙ ap (λ w. before ++ map (rejected_for output) w) (sym k)

pub loop-entry-init : goal.loop-entry-init
loop-entry-init c =
    let same : c.into_iter-entry-iterator.result.rest.items ≡ c.args.dropped.items = search rules in
    ap (λ w. c.args.rejected.now.items ++ map (rejected_for c.args.output) w) same

pub loop-entry-preserved : goal.loop-entry-preserved
loop-entry-preserved c =
    moved c.args.output c.loop-entry.rejected.items c.push.new.self.items c.in-Some.entry c.next.new.self.rest.items c.loop-entry.entry-iterator.rest.items c.in_ok-push.ensures.items c.in-Some.ensures.steps.0 ∙ c.loop-entry.invariant

pub returns : goal.returns
returns c =
    let rest = c.loop-entry.entry-iterator.rest in
    let none : c.loop-entry.entry-iterator.rest.items ≡ [] = no_entries c.loop-entry.entry-iterator.rest.items (let ok = rest.ok in let len = c.in-None.ensures.steps.0 in grind (arith, ok, len)) in
    sym (append-nil c.loop-entry.rejected.items) ∙ ap (λ w. c.loop-entry.rejected.items ++ map (rejected_for c.args.output) w) (sym none) ∙ c.loop-entry.invariant
