-- What is written is read.
use Rattle.std.specs.Prelude.{◌≡◌, ◌≤◌, All, length, Ok}
use Rattle.clause_core.specs.Formula.{Formula, IsOver, most_clauses}
use Rattle.clause_core.specs.Cnf.{cnf_text}
use Rattle.clause_core.specs.CnfRead.{cnf_of}

-- a formula within the limits of what is read
pub record IsReadable (f : Formula) : Type 0 where
  pub few_variables : f.vars ≤ 16777216
  pub few_clauses : length f.clauses ≤ most_clauses
  pub over : All (IsOver f.vars) f.clauses
  pub short : length (cnf_text f) ≤ 67108864

-- the text of such a formula is read as that formula
abbrev pub IsRoundTrip : Type 0
IsRoundTrip = (f : Formula) → IsReadable f → cnf_of (cnf_text f) ≡ Ok f
