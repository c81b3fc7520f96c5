-- What a call takes from a source and gives to a sink, where these tell their bytes.
use Rattle.std.specs.Prelude.{◌≡◌, ℕ, ◌≤◌, List, [], ◌++◌, length, ⊤, None, Some}
use Rattle.std.specs.declared.option.Option.{Option}

-- Where the sink tells its bytes after the call, they are the old ones and these.
abbrev pub Gains : Option (List ℕ) → Option (List ℕ) → List ℕ → Type 0
Gains old None bytes = ⊤
Gains None (Some after) bytes = ⊥
Gains (Some before) (Some after) bytes = after ≡ before ++ bytes

-- The sink gained a front of these bytes.
pub record GainsFront (old new : Option (List ℕ)) (bytes : List ℕ) : Type 0 where
  pub front : List ℕ
  pub rest : List ℕ
  pub whole : bytes ≡ front ++ rest
  pub gained : Gains old new front

-- Where the source told its bytes before the call, these were at their front, and the others are left.
abbrev pub Loses : Option (List ℕ) → Option (List ℕ) → List ℕ → Type 0
Loses None new bytes = ⊤
Loses (Some before) None bytes = ⊥
Loses (Some before) (Some after) bytes = before ≡ bytes ++ after

-- The source told nothing, or all its bytes are taken.
abbrev pub IsSpent : Option (List ℕ) → Type 0
IsSpent None = ⊤
IsSpent (Some left) = left ≡ []

-- The source lost exactly so many bytes.
pub record LosesCount (old new : Option (List ℕ)) (count : ℕ) : Type 0 where
  pub front : List ℕ
  pub many : length front ≡ count
  pub lost : Loses old new front

-- The source lost at most so many bytes.
pub record LosesUpTo (old new : Option (List ℕ)) (limit : ℕ) : Type 0 where
  pub front : List ℕ
  pub few : length front ≤ limit
  pub lost : Loses old new front
