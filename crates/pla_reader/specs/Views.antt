-- Lines and what they say, without where they lie in memory.
use Rattle.pla_reader.specs.declared.line.Line.{Line as Placed}
use Rattle.pla_reader.specs.declared.saying.Saying.{Saying}
use Rattle.pla_reader.specs.declared.saying.Saying.TheVariants as saying
use Rattle.pla_reader.specs.Lines.{Line, words_of, digits_of}
use Rattle.std.specs.List.{AllByRecursion}
use Rattle.pla_reader.specs.Name.{IsName}
use Rattle.pla_reader.specs.Says.{Said}
use Rattle.pla_reader.specs.Says.Said.{Spoiled, Silent, Unknown, Foreign, GivesInputs, GivesOutputs, GivesKind, NamesInputs, NamesOutputs, GivesRow, Ends}

abbrev pub line_of : Placed → Line
line_of line = record { text = line.text.now; ended = line.ended }

abbrev pub said_of : Saying → Said
said_of saying.Spoiled = Spoiled
said_of saying.Silent = Silent
said_of saying.Unknown = Unknown
said_of saying.Foreign = Foreign
said_of (saying.GivesInputs number) = GivesInputs number
said_of (saying.GivesOutputs number) = GivesOutputs number
said_of (saying.GivesKind kind) = GivesKind kind
said_of (saying.NamesInputs text) = NamesInputs (words_of text.now)
said_of (saying.NamesOutputs text) = NamesOutputs (words_of text.now)
said_of (saying.GivesRow text) = GivesRow (digits_of text.now)
said_of saying.Ends = Ends

-- The words that are to be names are names.
abbrev pub NamesIn : Said → Type 0
NamesIn (NamesInputs names) = AllByRecursion IsName names
NamesIn (NamesOutputs names) = AllByRecursion IsName names
NamesIn _ = Unit {0}
