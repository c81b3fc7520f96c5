-- A journal that is audited as it is read.
use denote.RawPtr.{null_ptr}
use Rattle.std.proofs.Common.{◌≡◌, ◌≢◌, ℕ, ◌+◌, ◌<◌, ◌≤◌, ◌^◌, List, [], ◌∷◌, ◌++◌, length, map, refl, sym, ap, ◌∙◌, subst, arith, append_assoc, length-append, codes}
use Rattle.std.specs.Global.{Vec}
use Rattle.std.specs.Prelude.{vec_len}
use Rattle.std.proofs.lemmas.List.{length-map, map_push}
use Rattle.pla_reader.specs.Parts.{Parts}
use Rattle.journal_text.specs.Bounds.{IsPart}
use Rattle.journal_text.specs.Cursor.{HasBegun, PassesPart}
use Rattle.journal_text.specs.Lines.{IsRefusedBehind}
use Rattle.journal_text.specs.Parts.{part_of}
use Rattle.journal_text.specs.Reading.{IsRefused}
use Rattle.journal_text.specs.Text.{parts_text}
use Rattle.journal_text.specs.declared.journal.Part.{Part as PartRead}
use Rattle.journal_text.specs.declared.reader.Reader.{Reader}
use Rattle.journal_text.specs.declared.refusal.JournalRefusal.{JournalRefusal}
use Rattle.journal_text.specs.declared.refusal.JournalRefusal.TheVariants as forms
use Rattle.journal_text.proofs.Tools.{IsReading, IsTextOf, reading_begun, reading_more, reading_room, reading_refused, reading_all, reading_join}
use Rattle.report_text.specs.declared.answer.Version.{Version}
use Rattle.audit_core.specs.Audit.{Basis, AreRight, IsKindRefused, HasRefused}
use Rattle.audit_core.specs.Seen.{IsSeen}
use Rattle.audit_core.specs.Streamed.{IsTextConfirmed, IsTextUnaudited, IsTextRefused, StopsBehind}
use Rattle.audit_core.specs.declared.part.Seen.{Seen}
use Rattle.audit_core.specs.declared.refusal.AuditRefusal.{AuditRefusal}
use Rattle.audit_core.specs.declared.refusal.AuditRefusal.TheVariants.{NoMemory}
use Rattle.audit_core.specs.declared.refusal.TextRefusal.{TextRefusal}
use Rattle.audit_core.specs.declared.refusal.TextRefusal.TheVariants.{Form, Audit}
use Rattle.audit_core.proofs.SeenLaws.{many_parts, few_parts}

-- the head and some parts were read, and they are right
pub record IsAuditing (basis : Basis) (text : List ℕ) (reader : Reader) (seen : Seen) : Type 0 where
  pub parts : List PartRead
  pub reading : IsReading text reader parts
  pub version : reader.version ≡ basis.version
  pub rails : reader.rails ≡ basis.rails
  pub right : IsSeen basis (map part_of parts) seen

pub auditing_begun : (basis : Basis) (text : List ℕ) (reader : Reader) (seen : Seen) → HasBegun text reader → reader.version ≡ basis.version → reader.rails ≡ basis.rails → IsSeen basis [] seen → IsAuditing basis text reader seen
auditing_begun basis text reader seen h version rails right = record { parts = []; reading = reading_begun text reader [] h refl; version = version; rails = rails; right = right }

pub auditing_room : (basis : Basis) (text : List ℕ) (reader : Reader) (seen : Seen) → IsAuditing basis text reader seen → reader.line + length reader.rest.now ≤ 536870913
auditing_room basis text reader seen h = reading_room text reader h.parts h.reading

pub auditing_lists : (basis : Basis) (text : List ℕ) (reader : Reader) (seen : Seen) → IsAuditing basis text reader seen → vec_len seen.refuted ≡ basis.parts.outputs
auditing_lists basis text reader seen h = let many = h.right.kept.many in let len = seen.refuted.ok.0 in omega (arith, many, len)

-- no more parts than bytes
few_read : (text : List ℕ) (reader : Reader) (parts : List PartRead) → IsReading text reader parts → length parts ≤ 536870913
few_read text reader parts h =
    let some = many_parts h.from.version (map part_of parts) h.passed.read.each in
    let whole = ap length h.passed.read.text in
    let few = h.begun.few in
    omega (arith, some, whole, few, length-map parts part_of, length-append (parts_text h.from.version (map part_of parts)) reader.rest.now)

pub auditing_few : (basis : Basis) (text : List ℕ) (reader : Reader) (seen : Seen) → IsAuditing basis text reader seen → seen.many + 1 < 2 ^ 32
auditing_few basis text reader seen h =
    let few = few_read text reader h.parts h.reading in
    let many = h.right.many in
    omega (arith, few, many, length-map h.parts part_of)

pub auditing_part : (basis : Basis) (text : List ℕ) (old new : Reader) (seen : Seen) (p : PartRead) → IsAuditing basis text old seen → PassesPart old new p → IsPart basis.version (part_of p)
auditing_part basis text old new seen p h is = subst (λ v. IsPart v (part_of p)) h.version is.stands.is_part

-- a list in memory
abbrev vec_of : (xs : List PartRead) → length xs ≤ 536870912 → Vec PartRead
vec_of xs few = record { ptr = null_ptr; len = length xs; cap = length xs; alloc = record { memory = record { seal = tt } }; items = xs; ok = (refl, omega arith); small = omega (arith, few) }

few_of : (text : List ℕ) (version : Version) (rails : ℕ) (parts : List PartRead) → IsTextOf text version rails parts → length text ≤ 536870912 → length parts ≤ 536870912
few_of text version rails parts h few =
    let many = few_parts (record { version = version; rails = rails; parts = map part_of parts }) h.0 (let same = ap length h.1 in omega (arith, same, few)) in
    omega (arith, many, length-map parts part_of)

-- the last line alone is left
pub auditing_all : (basis : Basis) (text : List ℕ) (reader : Reader) (seen : Seen) (parts : Parts) → IsAuditing basis text reader seen → basis.parts ≡ parts → reader.rest.now ≡ codes "end\n" → IsTextConfirmed parts text seen.confirmed.items
auditing_all basis text reader seen parts h e ends =
    let read = reading_all text reader h.parts h.reading ends in
    record {
      journal = record { version = reader.version; rails = reader.rails; parts = map part_of h.parts };
      spells = (read.0, read.1);
      audited = subst (λ b. AreRight b (map part_of h.parts)) (λ i. record { parts = e i; version = sym h.version i; rails = sym h.rails i }) h.right.right;
      answers = h.right.confirmed;
    }

pub auditing_refused : (basis : Basis) (text : List ℕ) (reader : Reader) (seen : Seen) (r : JournalRefusal) → IsAuditing basis text reader seen → IsRefusedBehind reader.version reader.rest.now reader.line r → r ≢ forms.NoMemory → IsRefused text r
auditing_refused basis text reader seen r h stop other = reading_refused text reader h.parts r h.reading stop other

module _ (basis : Basis) (text : List ℕ) (old new : Reader) (seen : Seen) (p : PartRead) (h : IsAuditing basis text old seen) (is : PassesPart old new p) (few : length text ≤ 536870912) where
  reading_new : IsReading text new (h.parts ++ p ∷ [])
  reading_new = reading_more text old new h.parts (h.parts ++ p ∷ []) p h.reading is refl

  pub auditing_more : (after : Seen) → IsSeen basis (map part_of h.parts ++ part_of p ∷ []) after → IsAuditing basis text new after
  auditing_more after right = record {
    parts = h.parts ++ p ∷ [];
    reading = reading_new;
    version = is.version ∙ h.version;
    rails = is.rails ∙ h.rails;
    right = subst (λ ps. IsSeen basis ps after) (sym (map_push part_of h.parts p)) right;
  }

  pub passed_room : new.line + length new.rest.now ≤ 536870913
  passed_room = reading_room text new (h.parts ++ p ∷ []) reading_new

  -- behind a part that is not right
  pub stops_behind : (refusal : AuditRefusal) (told : TextRefusal) (parts : Parts) → basis.parts ≡ parts → (refusal ≢ NoMemory → IsKindRefused basis (map part_of h.parts) p.line p.what refusal) → StopsBehind new refusal told → IsTextRefused parts text told
  stops_behind refusal (Form r) parts e refused stop = λ other. reading_refused text new (h.parts ++ p ∷ []) r reading_new stop other
  stops_behind refusal (Audit r) parts e refused stop = λ other.
      let later : List PartRead = stop.1 in
      let whole : (h.parts ++ p ∷ []) ++ later ≡ h.parts ++ p ∷ later = append_assoc h.parts (p ∷ []) later in
      let read : IsTextOf text new.version new.rails (h.parts ++ p ∷ later) = subst (IsTextOf text new.version new.rails) whole (reading_join text new (h.parts ++ p ∷ []) later reading_new stop.2) in
      made_refused r later read (λ i. record { parts = e i; version = sym (is.version ∙ h.version) i; rails = sym (is.rails ∙ h.rails) i }) (subst (IsKindRefused basis (map part_of h.parts) p.line p.what) (sym stop.0) (refused (λ none. other (stop.0 ∙ none)))) where
        made_refused : (r : AuditRefusal) (later : List PartRead) → IsTextOf text new.version new.rails (h.parts ++ p ∷ later) → basis ≡ record { parts = parts; version = new.version; rails = new.rails } → IsKindRefused basis (map part_of h.parts) p.line p.what r
            → IsTextUnaudited parts text r
        made_refused r later read same refused = record {
          read = record { version = new.version; rails = new.rails; parts = vec_of (h.parts ++ p ∷ later) (few_of text new.version new.rails (h.parts ++ p ∷ later) read few) };
          spells = (read.0, read.1);
          lines = read.2;
          refused = subst (λ b. HasRefused b (h.parts ++ p ∷ later) r) same (record { before = h.parts; part = p; later = later; whole = refl; earlier = h.right.right; refused = refused });
        }
