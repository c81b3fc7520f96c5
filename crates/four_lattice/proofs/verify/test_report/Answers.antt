use Rattle.std.proofs.Common.{rules, map, ap, ◌∙◌, sym, subst, length}
use Rattle.pla_reader.specs.Names.{bytes_of}
use Rattle.pla_reader.specs.Parts.{parts_of}
use Rattle.report_text.specs.Report.{parts_of_block, parts_of_report}
use Rattle.four_lattice.specs.Verified.{basis_of, AreRight}
use Rattle.four_lattice.proofs.VerifiedLaws.{AreRight-all}
use Rattle.four_lattice.proofs.verify.test_report.Goals as goal

pub returns-clause-verified : goal.returns-clause-verified
returns-clause-verified c = record {
  names = ap (map bytes_of) (sym c.deref.ensures.value) ∙ c.are_same_names.ensures.0 (search rules) ∙ ap (map bytes_of) c.as_slice.ensures.keys;
  blocks = AreRight-all (basis_of (parts_of c.args.pla.now) (parts_of_report c.args.report.now)) c.deref-2.result.now c.args.report.now.blocks.items c.deref-2.ensures.value
      (subst (λ rails. AreRight (record { parts = parts_of c.args.pla.now; version = c.args.report.now.version; rails = rails }) (map parts_of_block c.deref-2.result.now) (length c.deref-2.result.now))
      (search rules) c.in_ok-test_blocks.ensures.right);
}
