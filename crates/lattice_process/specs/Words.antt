-- The words of a process, and its status where it has none.
use Rattle.std.specs.Prelude.{ℕ, List, [], ◌∷◌}
use Rattle.four_lattice.specs.declared.status.Status.{Status}
use Rattle.four_lattice.specs.declared.status.Status.TheVariants as status
use Rattle.lattice_process.specs.declared.words.Wordless.{Wordless}
use Rattle.lattice_process.specs.declared.words.Wordless.TheVariants as wordless

-- where there was no memory for the words, want of memory; where a word is not text, the words are refused
abbrev pub status_without_words : Wordless → Status
status_without_words wordless.NoMemory = status.NoMemory
status_without_words wordless.NotText = status.Words

-- the last of the words; where there are none it is empty
abbrev pub last_of : List (List ℕ) → List ℕ
last_of [] = []
last_of (word ∷ []) = word
last_of (word ∷ (next ∷ words)) = last_of (next ∷ words)
