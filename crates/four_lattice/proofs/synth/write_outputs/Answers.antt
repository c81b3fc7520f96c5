use Rattle.std.proofs.Common.{rules, arith, ◌≡◌, ◌≤◌, ◌-◌, subst}
use Rattle.pla_reader.specs.Parts.{parts_of}
use Rattle.four_lattice.proofs.RejectedLaws.{asked_none, asked_next}
use Rattle.four_lattice.specs.Minima.{IsTallyOf, joined}
use Rattle.four_lattice.proofs.TallyLaws.{tally-few, tally-fits}
use Rattle.four_lattice.proofs.SynthLaws.{asked-of, outputs-none, outputs-more, outputs-stopped}
use Rattle.four_lattice.proofs.synth.write_outputs.Goals as goal

pub loop-output-init : goal.loop-output-init
loop-output-init g c = record { wrote = rw c.new-tally.ensures (outputs-none _ c.args.first _ _); few = rw c.new-tally.ensures (record { minimum = omega arith; undecided = omega arith; area = omega arith }); whole = c.requires.whole; used = asked_none _ _ c.args.rails (parts_of c.args.pla.now) c.args.first _ _ c.requires.fresh; fewer = omega arith }

pub returns-in_err-next-clause-stopped : goal.returns-in_err-next-clause-stopped
returns-in_err-next-clause-stopped g c =
    let few : c.args.rails ≤ 1048575 = search rules in
    let st = outputs-stopped _ c.args.first c.loop-output.output c.args.end c.loop-output.tally c.in_err-next.field-0.0.fault _ _ _ _ _ _ (asked-of c.args.pla.now c.args.rails c.args.conflicts c.requires.pla few)
    c.loop-output.auto.output c.loop-output-test.true c.requires.there c.loop-output.invariant.wrote c.in_err-next.ensures.stopped in
    search (rules, st)

pub loop-output-preserved : goal.loop-output-preserved
loop-output-preserved g c = record {
  wrote = outputs-more c.right_where_shown.ensures.adds _ c.args.first c.loop-output.output c.loop-output.tally c.in_ok-next.next c.and-tally.result _ _ _ _ _ _ c.requires.pla c.loop-output.auto.output c.and-tally.ensures c.loop-output.invariant.wrote c.in_ok-next.ensures.wrote;
  few = rw c.and-tally.ensures (subst (λ n. IsTallyOf n (joined c.loop-output.tally c.in_ok-next.next)) (let low = c.loop-output.auto.output in omega (arith, low)) (tally-few (c.loop-output.output - c.args.first) c.loop-output.tally c.in_ok-next.next c.loop-output.invariant.few c.in_ok-next.ensures.few));
  whole = c.in_ok-next.ensures.whole;
  used = asked_next _ _ c.args.rails (parts_of c.args.pla.now) c.args.first c.loop-output.output _ _ _ _ _ c.requires.pla c.loop-output.auto.output c.loop-output.invariant.used c.in_ok-next.ensures.used;
  fewer = (let before = c.loop-output.invariant.fewer in let now = c.write_output.ensures.fewer in omega arith);
}

pub returns-clause-wrote : goal.returns-clause-wrote
returns-clause-wrote g c =
    let l = c.loop-output.auto.output-end in let i = c.loop-output-test.false in let p = c.requires.rising in
    let same : c.loop-output.output ≡ c.args.end = omega (arith, l, i, p) in
    rw same at c.loop-output.invariant.wrote

pub returns-clause-used : goal.returns-clause-used
returns-clause-used g c =
    let l = c.loop-output.auto.output-end in let i = c.loop-output-test.false in let p = c.requires.rising in
    let same : c.loop-output.output ≡ c.args.end = omega (arith, l, i, p) in
    rw same at c.loop-output.invariant.used

pub and-tally-requires : goal.and-tally-requires
and-tally-requires g c =
    let most = c.requires.pla.few_outputs in let inside = c.loop-output-test.true in let there = c.requires.there in
    record { few = tally-fits (c.loop-output.output - c.args.first) c.loop-output.tally c.in_ok-next.next (omega (arith, most, inside, there)) c.loop-output.invariant.few c.in_ok-next.ensures.few }
