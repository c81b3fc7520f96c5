-- A journal that is read part by part.
use Rattle.std.specs.Prelude.{◌≡◌, ℕ, ◌+◌, ◌≤◌, List, ◌++◌, length, codes, None, Some}
use Rattle.std.specs.declared.option.Option.{Option}
use Rattle.report_text.specs.Bounds.{AreRails}
use Rattle.journal_text.specs.Lines.{IsPartAt, first_number}
use Rattle.journal_text.specs.Text.{head_text}
use Rattle.journal_text.specs.declared.journal.Part.{Part as PartRead}
use Rattle.journal_text.specs.declared.reader.Reader.{Reader}

-- The text is the head and what is left, whose first line has this number.
pub record HasBegun (text : List ℕ) (reader : Reader) : Type 0 where
  pub rails : AreRails reader.version reader.rails
  pub whole : text ≡ head_text reader.version reader.rails ++ reader.rest.now
  pub first : reader.line ≡ first_number reader.version
  pub few : reader.line + length reader.rest.now ≤ 536870913

-- The part stands at the front of what was left, on its line.
pub record PassesPart (old new : Reader) (part : PartRead) : Type 0 where
  pub version : new.version ≡ old.version
  pub rails : new.rails ≡ old.rails
  pub stands : IsPartAt old.version old.line old.rest.now part new.rest.now new.line

-- The next part; or the last line alone is left, and the reader stays there.
abbrev pub ReadsOn : Reader → Reader → Option PartRead → Type 0
ReadsOn old new None = (old.rest.now ≡ codes "end\n") × (new ≡ old)
ReadsOn old new (Some part) = PassesPart old new part
