-- Sources with more bytes than a text may have, and texts that give no value.
use Rattle.std.proofs.Common.{◌≡◌, ℕ, ◌+◌, ◌<◌, ◌≤◌, List, ◌∷◌, length, ap, arith, ◌∙◌, length-append, Some, None, Err, refl, sym, subst, inl, inr, [], ◌++◌}
use Rattle.std.specs.Prelude.{IfSome, ◌≢◌, ◌⊎◌}
use Rattle.std.specs.declared.option.Option.{Option}
use Rattle.std.proofs.lemmas.Bool.{lt-ltb}
use Rattle.clause_core.specs.CnfRead.{cnf_of}
use Rattle.clause_core.specs.declared.refusal.CnfRefusal.{CnfRefusal}
use Rattle.clause_core.specs.declared.refusal.CnfRefusal.TheVariants as cnf
use Rattle.defect_array.specs.Reading.{Refused as IsNoArray}
use Rattle.defect_array.specs.declared.read.ArrayRefusal.{ArrayRefusal}
use Rattle.defect_array.specs.declared.read.ArrayRefusal.TheVariants as array
use Rattle.journal_text.specs.declared.refusal.JournalRefusal.{JournalRefusal}
use Rattle.journal_text.specs.declared.refusal.JournalRefusal.TheVariants as journal
use Rattle.lrat_replay.specs.declared.refusal.LratRefusal.{LratRefusal}
use Rattle.lrat_replay.specs.declared.refusal.LratRefusal.TheVariants as lrat
use Rattle.pla_reader.specs.declared.pla.PlaRefusal.{PlaRefusal}
use Rattle.pla_reader.specs.declared.pla.PlaRefusal.TheVariants as pla
use Rattle.report_text.specs.declared.report.ReportRefusal.{ReportRefusal}
use Rattle.report_text.specs.declared.report.ReportRefusal.TheVariants as report
use Rattle.wire_io.specs.Causes.{IsReadRefusal}
use Rattle.wire_io.specs.Told.{Loses, LosesCount, LosesUpTo, IsSpent}
use Rattle.wire_io.specs.declared.fault.ReadFault.{ReadFault}
use Rattle.wire_io.specs.declared.fault.ReadFault.TheVariants as read
use Rattle.four_lattice.specs.Devices.{Change, EndsText, EndsTest, unread}
use Rattle.four_lattice.specs.Inputs.{RefusesArray}
use Rattle.four_lattice.specs.Judge.{as_array}
use Rattle.four_lattice.specs.declared.ending.Refusal.{Refusal}
use Rattle.four_lattice.specs.declared.ending.Ending.{Ending}
use Rattle.four_lattice.specs.declared.ending.Ending.TheVariants.{Refused, NoMemory}

-- where so many bytes were taken, there were as many
pub had_more : (old new : Option (List ℕ)) (limit : ℕ) → LosesCount old new (limit + 1) → IfSome old (λ bytes. limit < length bytes)
had_more None new limit h = tt
had_more (Some before) None limit h = absurd h.lost
had_more (Some before) (Some after) limit h =
    let long = ap length h.lost ∙ length-append h.front after in
    let many = h.many in
    omega (arith, long, many)

pub cnf_of-long : (bytes : List ℕ) → 67108864 < length bytes → cnf_of bytes ≡ Err cnf.TooLong
unfolding cnf_of
cnf_of-long bytes long = rw (lt-ltb 67108864 (length bytes) long) refl

pub LosesUpTo-whole : (old new : Option (List ℕ)) (bytes : List ℕ) (n : ℕ) → Loses old new bytes → length bytes ≤ n → LosesUpTo old new n
LosesUpTo-whole old new bytes n h few = record { front = bytes; few = few; lost = h }

append-none : (xs : List ℕ) → xs ++ [] ≡ xs
append-none [] = refl
append-none (x ∷ xs) = ap (λ l. x ∷ l) (append-none xs)

-- all that was told was taken
pub whole_told : (old new : Option (List ℕ)) (bytes : List ℕ) (P : List ℕ → Type 0) → Loses old new bytes → IsSpent new → P bytes → IfSome old P
whole_told None new bytes P h spent p = tt
whole_told (Some before) None bytes P h spent p = absurd h
whole_told (Some before) (Some after) bytes P h spent p = subst P (sym (h ∙ ap (λ l. bytes ++ l) spent ∙ append-none bytes)) p

if_more : (told : Option (List ℕ)) (P Q : List ℕ → Type 0) → ((bytes : List ℕ) → P bytes → Q bytes) → IfSome told P → IfSome told Q
if_more None P Q f h = tt
if_more (Some bytes) P Q f h = f bytes h

-- a source could not be read to the end of a text
pub read_stops : {R : Type 0} (at : R → Refusal) (IsLong : R → Type 0) (IsRefusedText : List ℕ → R → Type 0) (most : ℕ) (c : Change) (long : R) → IsLong long
    → ((bytes : List ℕ) → most < length bytes → IsRefusedText bytes long) → (fault : ReadFault) → IsReadRefusal most c.old c.new fault → EndsText at IsLong IsRefusedText most (unread (at long) fault) c
read_stops at IsLong IsRefusedText most c long is_long refused read.Fault h = inr (inl (refl, h.0, h.1))
read_stops at IsLong IsRefusedText most c long is_long refused read.TooLong h =
    inl (long, refl, if_more c.old.told (λ b. most < length b) (λ b. IsRefusedText b long) refused (had_more c.old.told c.new.told most h.1), inl (is_long, h.1))
read_stops at IsLong IsRefusedText most c long is_long refused read.NoMemory h = inr (inr (refl, h.1))

-- a text that was read whole is refused, or memory was wanting for its value
pub parse_stops : {R P : Type 0} (at : R → Refusal) (IsLong : R → Type 0) (IsRefusedText : List ℕ → R → Type 0) (most : ℕ) (c : Change) (into : P → R) (memory : P)
    → ((r : P) → (r ≡ memory) ⊎ (r ≢ memory)) → (r : P) (e : Ending) (bytes : List ℕ) → (r ≢ memory → e ≡ Refused (at (into r))) → (r ≡ memory → e ≡ NoMemory)
    → Loses c.old.told c.new.told bytes → IsSpent c.new.told → length bytes ≤ most → (r ≢ memory → IsRefusedText bytes (into r)) → EndsText at IsLong IsRefusedText most e c
parse_stops at IsLong IsRefusedText most c into memory decide r e bytes as_refusal as_memory taken spent few refused = elim (decide r) [
  | inl m ↦ inr (inr (as_memory m, LosesUpTo-whole c.old.told c.new.told bytes most taken few))
  | inr o ↦
      inl (
        into r,
        as_refusal o,
        whole_told c.old.told c.new.told bytes (λ b. IsRefusedText b (into r)) taken spent (refused o),
        inr (spent, LosesUpTo-whole c.old.told c.new.told bytes most taken few),
      )
]

-- whether a refusal is want of memory
pub pla_memory : (refusal : PlaRefusal) → (refusal ≡ pla.NoMemory) ⊎ (refusal ≢ pla.NoMemory)
pla_memory pla.NoMemory = inl refl
pla_memory pla.TooLong = inr (λ e. cc)
pla_memory (pla.BadByte line) = inr (λ e. cc)
pla_memory (pla.UnknownWord line) = inr (λ e. cc)
pla_memory (pla.Unsupported line) = inr (λ e. cc)
pla_memory (pla.Repeated line) = inr (λ e. cc)
pla_memory (pla.BadNumber line) = inr (λ e. cc)
pla_memory (pla.Late line) = inr (λ e. cc)
pla_memory (pla.Missing line) = inr (λ e. cc)
pla_memory (pla.Inputs line) = inr (λ e. cc)
pla_memory (pla.Outputs line) = inr (λ e. cc)
pla_memory (pla.RowLength line) = inr (λ e. cc)
pla_memory (pla.BadDigit line) = inr (λ e. cc)
pla_memory (pla.Names line) = inr (λ e. cc)
pla_memory (pla.TooManyRows line) = inr (λ e. cc)
pla_memory (pla.Conflict output assign) = inr (λ e. cc)

pub cnf_memory : (refusal : CnfRefusal) → (refusal ≡ cnf.NoMemory) ⊎ (refusal ≢ cnf.NoMemory)
cnf_memory cnf.NoMemory = inl refl
cnf_memory cnf.TooLong = inr (λ e. cc)
cnf_memory (cnf.Header line) = inr (λ e. cc)
cnf_memory (cnf.Literal line) = inr (λ e. cc)
cnf_memory (cnf.Count line) = inr (λ e. cc)
cnf_memory (cnf.Unended line) = inr (λ e. cc)
cnf_memory (cnf.TooLarge line) = inr (λ e. cc)

pub lrat_memory : (refusal : LratRefusal) → (refusal ≡ lrat.NoMemory) ⊎ (refusal ≢ lrat.NoMemory)
lrat_memory lrat.NoMemory = inl refl
lrat_memory (lrat.Word line) = inr (λ e. cc)
lrat_memory (lrat.Form line) = inr (λ e. cc)

pub report_memory : (refusal : ReportRefusal) → (refusal ≡ report.NoMemory) ⊎ (refusal ≢ report.NoMemory)
report_memory report.NoMemory = inl refl
report_memory (report.Header line) = inr (λ e. cc)
report_memory (report.Inputs line) = inr (λ e. cc)
report_memory (report.Rails line) = inr (λ e. cc)
report_memory (report.Block line) = inr (λ e. cc)
report_memory (report.Grid line) = inr (λ e. cc)
report_memory (report.Proofs line) = inr (λ e. cc)
report_memory (report.Trailing line) = inr (λ e. cc)
report_memory (report.Truncated line) = inr (λ e. cc)

pub journal_memory : (refusal : JournalRefusal) → (refusal ≡ journal.NoMemory) ⊎ (refusal ≢ journal.NoMemory)
journal_memory journal.NoMemory = inl refl
journal_memory (journal.Header line) = inr (λ e. cc)
journal_memory (journal.Rails line) = inr (λ e. cc)
journal_memory (journal.Word line) = inr (λ e. cc)
journal_memory (journal.Order line) = inr (λ e. cc)
journal_memory (journal.Question line) = inr (λ e. cc)
journal_memory (journal.Step line) = inr (λ e. cc)
journal_memory (journal.Block line) = inr (λ e. cc)
journal_memory (journal.Proofs line) = inr (λ e. cc)
journal_memory (journal.Trailing line) = inr (λ e. cc)
journal_memory (journal.Truncated line) = inr (λ e. cc)

array_memory : (refusal : ArrayRefusal) → (refusal ≡ array.NoMemory) ⊎ (refusal ≢ array.NoMemory)
array_memory array.NoMemory = inl refl
array_memory array.Empty = inr (λ e. cc)
array_memory (array.Ragged line) = inr (λ e. cc)
array_memory (array.Byte line) = inr (λ e. cc)
array_memory (array.TooLarge line) = inr (λ e. cc)

-- the bytes behind a PLA are refused, or memory was wanting for their array
pub no_array : (bytes : List ℕ) (r : ArrayRefusal) (e : Ending) → (r ≢ array.NoMemory → e ≡ Refused (as_array r)) → (r ≡ array.NoMemory → e ≡ NoMemory) → (r ≢ array.NoMemory → IsNoArray bytes r)
    → EndsTest (RefusesArray bytes) e
no_array bytes r e as_refusal as_memory refused = elim (array_memory r) [ inl m ↦ inr (as_memory m) | inr o ↦ inl (as_array r, (r, refused o, refl), as_refusal o) ]
