-- Bytes cut at a separator.
use Rattle.std.specs.Prelude.{◌≡◌, ◌≢◌, ℕ, suc, List, [], ◌∷◌, ◌++◌, ◌==◌, if◌then◌else◌, Some, None}
use Rattle.std.specs.declared.option.Option.{Option}
use Rattle.std.specs.Borrow.{Bor}
use Rattle.std.specs.List.{AllByRecursion, slice_split}

-- no byte is this one
abbrev pub Without : ℕ → List ℕ → Type 0
Without at bytes = AllByRecursion (λ b. b ≢ at) bytes

-- The bytes up to the first separator, and those after it.
pub record Cuts (at : ℕ) (bytes front rest : List ℕ) : Type 0 where
  pub text : bytes ≡ front ++ at ∷ rest
  pub first : Without at front

-- the pieces between the separators
abbrev pub pieces : ℕ → List ℕ → List (List ℕ)
pieces at bytes = slice_split (λ b. b == at) bytes

-- the pieces that are left
abbrev pub pieces_left : ℕ → Option (Bor (List ℕ)) → List (List ℕ)
pieces_left at None = []
pieces_left at (Some rest) = pieces at rest.now

-- the words of a line, separated by single blanks
abbrev pub words : List ℕ → List (List ℕ)
words line = pieces 32 line

-- the words that are left
abbrev pub words_left : Option (Bor (List ℕ)) → List (List ℕ)
words_left rest = pieces_left 32 rest

-- the number of line feeds
abbrev pub feeds : List ℕ → ℕ
feeds [] = 0
feeds (b ∷ bytes) = if b == 10 then suc (feeds bytes) else feeds bytes
