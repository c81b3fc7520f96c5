-- A reader that goes on part by part.
use Rattle.std.proofs.Common.{◌≡◌, ◌≢◌, ℕ, ◌+◌, ◌<◌, ◌≤◌, List, [], ◌∷◌, ◌++◌, length, map, refl, sym, ◌∙◌, subst, arith, append-nil, append_assoc, ap, codes}
use Rattle.std.specs.Prelude.{All}
use Rattle.std.proofs.lemmas.List.{map-append}
use Rattle.std.proofs.lemmas.List.Concat.{flat_map-append}
use Rattle.std.proofs.lemmas.List.Elements.{All-append}
use Rattle.journal_text.specs.Bounds.{IsJournal, IsPart}
use Rattle.journal_text.specs.Cursor.{HasBegun, PassesPart}
use Rattle.journal_text.specs.Lines.{IsPartAt, AreParts, IsRefusedBehind}
use Rattle.journal_text.specs.Parts.{part_of}
use Rattle.journal_text.specs.Reading.{IsRefused, AreLined}
use Rattle.journal_text.specs.Text.{head_text, part_text, parts_text, journal_text}
use Rattle.journal_text.specs.declared.journal.Part.{Part as PartRead}
use Rattle.journal_text.specs.declared.reader.Reader.{Reader}
use Rattle.journal_text.specs.declared.refusal.JournalRefusal.{JournalRefusal}
use Rattle.journal_text.specs.declared.refusal.JournalRefusal.TheVariants as refusals
use Rattle.report_text.specs.Pieces.{feeds}
use Rattle.report_text.proofs.Tools.{feeds-append}
use Rattle.report_text.specs.declared.answer.Version.{Version}
use Rattle.journal_text.proofs.PartsLaws.{PartsRead, PartsRead-none, PartsRead-push, parts_bound, part_shorter, parts_refused, all_parts, more_behind, begun_refused, begun_read}

-- from where one reader stood to where it stands now these parts were read
pub record HasPassed (from left : Reader) (parts : List PartRead) : Type 0 where
  pub version : left.version ≡ from.version
  pub rails : left.rails ≡ from.rails
  pub read : PartsRead from.version from.rest.now from.line parts left.rest.now left.line

pub passed_none : (from : Reader) (parts : List PartRead) → parts ≡ [] → HasPassed from from parts
passed_none from parts e = record { version = refl; rails = refl; read = PartsRead-none from.version from.rest.now from.line parts e }

pub passed_more : (from left new : Reader) (parts more : List PartRead) (p : PartRead) → HasPassed from left parts → PassesPart left new p → more ≡ parts ++ p ∷ [] → HasPassed from new more
passed_more from left new parts more p h is e = record {
  version = is.version ∙ h.version;
  rails = is.rails ∙ h.rails;
  read = PartsRead-push from.version from.rest.now from.line parts more left.rest.now left.line p new.rest.now new.line h.read
      (subst (λ v. IsPartAt v left.line left.rest.now p new.rest.now new.line) h.version is.stands) e;
}

pub passed_room : (from left : Reader) (parts : List PartRead) → HasPassed from left parts → from.line + length from.rest.now ≤ 536870913 → left.line + length left.rest.now ≤ 536870913
passed_room from left parts h room = let few = parts_bound from.version from.rest.now from.line parts left.rest.now left.line h.read in omega (arith, few, room)

pub passed_shorter : (old new : Reader) (p : PartRead) → PassesPart old new p → length new.rest.now < length old.rest.now
passed_shorter old new p is = part_shorter old.version old.line old.rest.now p new.rest.now new.line is.stands

pub passed_refused : (from left : Reader) (parts : List PartRead) (r : JournalRefusal) → HasPassed from left parts → IsRefusedBehind left.version left.rest.now left.line r → IsRefusedBehind from.version from.rest.now from.line r
passed_refused from left parts r h stop =
    parts_refused from.version from.rest.now from.line parts left.rest.now left.line r h.read (subst (λ v. IsRefusedBehind v left.rest.now left.line r) h.version stop)

pub passed_all : (from left : Reader) (parts : List PartRead) → HasPassed from left parts → left.rest.now ≡ codes "end\n" → AreParts from.version from.line from.rest.now parts
passed_all from left parts h e = all_parts from.version from.rest.now from.line parts left.rest.now [] left.line h.read (e ∙ sym (append-nil (codes "end\n"))) refl

pub trailing : (v : Version) (bytes more : List ℕ) (here : ℕ) → bytes ≡ codes "end\n" ++ more → more ≢ [] → IsRefusedBehind v bytes here (refusals.Trailing (here + 1))
trailing v bytes more here e some = more_behind v bytes here [] bytes more here (PartsRead-none v bytes here [] refl) e some

-- ---- from the head on

-- the head of the text and these parts were read
pub record IsReading (text : List ℕ) (left : Reader) (parts : List PartRead) : Type 0 where
  pub from : Reader
  pub begun : HasBegun text from
  pub passed : HasPassed from left parts

pub reading_begun : (text : List ℕ) (from : Reader) (parts : List PartRead) → HasBegun text from → parts ≡ [] → IsReading text from parts
reading_begun text from parts h e = record { from = from; begun = h; passed = passed_none from parts e }

pub reading_more : (text : List ℕ) (left new : Reader) (parts more : List PartRead) (p : PartRead) → IsReading text left parts → PassesPart left new p → more ≡ parts ++ p ∷ [] → IsReading text new more
reading_more text left new parts more p h is e = record { from = h.from; begun = h.begun; passed = passed_more h.from left new parts more p h.passed is e }

pub reading_room : (text : List ℕ) (left : Reader) (parts : List PartRead) → IsReading text left parts → left.line + length left.rest.now ≤ 536870913
reading_room text left parts h = passed_room h.from left parts h.passed h.begun.few

pub reading_refused : (text : List ℕ) (left : Reader) (parts : List PartRead) (r : JournalRefusal) → IsReading text left parts → IsRefusedBehind left.version left.rest.now left.line r → r ≢ refusals.NoMemory → IsRefused text r
reading_refused text left parts r h stop other =
    begun_refused h.from.version h.from.rails text h.from.rest.now h.from.line r h.begun.rails h.begun.whole h.begun.first (passed_refused h.from left parts r h.passed stop) other

-- The text is that of a journal of these parts, with the numbers of its lines.
abbrev pub IsTextOf : List ℕ → Version → ℕ → List PartRead → Type 0
IsTextOf text version rails parts =
    IsJournal (record { version = version; rails = rails; parts = map part_of parts }) × (text ≡ journal_text (record { version = version; rails = rails; parts = map part_of parts }))
    × AreLined version (1 + feeds (head_text version rails)) parts

pub reading_all : (text : List ℕ) (left : Reader) (parts : List PartRead) → IsReading text left parts → left.rest.now ≡ codes "end\n" → IsTextOf text left.version left.rails parts
reading_all text left parts h e =
    subst (λ v. IsTextOf text v left.rails parts) (sym h.passed.version)
    (subst (λ r. IsTextOf text h.from.version r parts) (sym h.passed.rails)
    (begun_read h.from.version h.from.rails parts text h.from.rest.now h.from.line h.begun.rails h.begun.whole h.begun.first (passed_all h.from left parts h.passed e)))

-- ---- parts and those behind them

lined-append : (v : Version) (first next : ℕ) (parts later : List PartRead) → AreLined v first parts → next ≡ first + feeds (parts_text v (map part_of parts)) → AreLined v next later → AreLined v first (parts ++ later)
lined-append v first next [] later h e more = subst (λ n. AreLined v n later) (let same = e in omega (arith, same)) more
lined-append v first next (p ∷ parts) later h e more =
    (h.0, h.1, lined-append v (first + feeds (part_text v (part_of p))) next parts later h.2 (let same = e in omega (arith, same, feeds-append (part_text v (part_of p)) (parts_text v (map part_of parts)))) more)

parts_join : (v : Version) (first next : ℕ) (bytes rest : List ℕ) (parts later : List PartRead) → PartsRead v bytes first parts rest next → AreParts v next rest later → AreParts v first bytes (parts ++ later)
parts_join v first next bytes rest parts later h more =
    let joined : map part_of (parts ++ later) ≡ map part_of parts ++ map part_of later = map-append part_of parts later in
    record {
      each = subst (All (IsPart v)) (sym joined) (All-append (IsPart v) (map part_of parts) (map part_of later) h.each more.each);
      text = h.text ∙ ap (λ z. parts_text v (map part_of parts) ++ z) more.text ∙ sym (append_assoc (parts_text v (map part_of parts)) (parts_text v (map part_of later)) (codes "end\n"))
          ∙ ap (λ z. z ++ codes "end\n") (sym (ap (parts_text v) joined ∙ flat_map-append (part_text v) (map part_of parts) (map part_of later)));
      lined = lined-append v first next parts later h.lined h.number_is more.lined;
    }

-- parts that were read, and those that are left
pub reading_join : (text : List ℕ) (left : Reader) (parts later : List PartRead) → IsReading text left parts → AreParts left.version left.line left.rest.now later → IsTextOf text left.version left.rails (parts ++ later)
reading_join text left parts later h more =
    subst (λ v. IsTextOf text v left.rails (parts ++ later)) (sym h.passed.version)
    (subst (λ r. IsTextOf text h.from.version r (parts ++ later)) (sym h.passed.rails)
    (begun_read h.from.version h.from.rails (parts ++ later) text h.from.rest.now h.from.line h.begun.rails h.begun.whole h.begun.first
    (parts_join h.from.version h.from.line left.line h.from.rest.now left.rest.now parts later h.passed.read (subst (λ v. AreParts v left.line left.rest.now later) h.passed.version more))))
