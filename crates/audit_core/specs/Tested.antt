-- For the crate's own proofs: what the tests of an answer come to.
use Rattle.std.specs.Prelude.{◌≡◌, ℕ, List, []}
use Rattle.cube_core.specs.Function.{Function}
use Rattle.pla_reader.specs.Parts.{parts_of}
use Rattle.report_text.specs.Report.{parts_of_block}
use Rattle.journal_text.specs.Parts.{Part}
use Rattle.lattice_grid.specs.Rectangle.{Size}
use Rattle.audit_core.specs.Audit.{Basis, Claim, Demand, Meets, IsFirstUnmet, Tells, AreRight}
use Rattle.audit_core.specs.Bare.{asked_in}
use Rattle.audit_core.specs.Sought.{Keeps, AreKept}
use Rattle.audit_core.specs.declared.answer.Basis.{Basis as BasisRead}
use Rattle.audit_core.specs.declared.answer.Claim.{Claim as ClaimRead}
use Rattle.audit_core.specs.declared.asked.Asked.{Asked}
use Rattle.audit_core.specs.declared.refusal.AuditRefusal.{AuditRefusal}

-- without where they lie in memory
abbrev pub basis_in : BasisRead → Basis
basis_in b = record { parts = parts_of b.pla.now; version = b.version; rails = b.rails }

-- an answer behind some parts
abbrev pub claim_behind : BasisRead → ClaimRead → List Part → Claim
claim_behind b c before = record { basis = basis_in b; before = before; block = parts_of_block c.block.now }

-- an answer alone: what is asked of its lattice is asked whatever stands before it
abbrev pub claim_in : BasisRead → ClaimRead → Claim
claim_in b c = claim_behind b c []

-- These sections are those of parts that are right, and this list of sizes holds those that they exclude of an output.
pub record IsBehind (basis : Basis) (before : List Part) (asked : List Asked) (output : ℕ) (refuted : List Size) : Type 0 where
  pub right : AreRight basis before
  pub sections : asked ≡ asked_in before
  pub kept : Keeps before output refuted

-- and there is such a list for each output
pub record AreAll (basis : Basis) (before : List Part) (asked : List Asked) (refuted : List (List Size)) : Type 0 where
  pub right : AreRight basis before
  pub sections : asked ≡ asked_in before
  pub kept : AreKept before basis.parts.outputs refuted

-- this tells of the first of these demands that is not met
pub record IsTold (c : Claim) (f : Function) (line : ℕ) (ds : List Demand) (refusal : AuditRefusal) : Type 0 where
  pub demand : Demand
  pub first : IsFirstUnmet (Meets c f) ds demand
  pub tells : Tells c.block.answer f line demand refusal
