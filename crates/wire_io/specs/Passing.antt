-- What passes through a buffer: some of it reaches the sink, the rest waits.
use Rattle.std.specs.Prelude.{◌≡◌, ℕ, List, [], ◌++◌, ◌⊎◌}
use Rattle.std.specs.declared.option.Option.{Option}
use Rattle.wire_io.specs.Told.{Gains, GainsFront}

-- The bytes came behind those that waited; the sink got a front of all these, and the others wait.
pub record Passes (got got' : Option (List ℕ)) (waiting waiting' bytes : List ℕ) : Type 0 where
  pub passed : List ℕ
  pub all : passed ++ waiting' ≡ waiting ++ bytes
  pub gained : Gains got got' passed

-- All that waited went to the sink, and a front of these bytes behind it.
pub record GainsBehind (got got' : Option (List ℕ)) (waiting bytes : List ℕ) : Type 0 where
  pub middle : Option (List ℕ)
  pub gave : Gains got middle waiting
  pub front : GainsFront middle got' bytes

-- A piece did not pass: what waited waits still, and the sink got a front of it; or the sink got it all, and nothing waits.
abbrev pub IsHeld : Option (List ℕ) → Option (List ℕ) → List ℕ → List ℕ → List ℕ → Type 0
IsHeld got got' waiting waiting' piece = ((waiting' ≡ waiting) × GainsFront got got' waiting) ⊎ ((waiting' ≡ []) × GainsBehind got got' waiting piece)

-- Some of the bytes passed, and the next piece did not.
pub record IsStopped (got got' : Option (List ℕ)) (waiting waiting' bytes : List ℕ) : Type 0 where
  pub front : List ℕ
  pub piece : List ℕ
  pub rest : List ℕ
  pub whole : bytes ≡ front ++ (piece ++ rest)
  pub middle : Option (List ℕ)
  pub waited : List ℕ
  pub passed : Passes got middle waiting waited front
  pub held : IsHeld middle got' waited waiting' piece
