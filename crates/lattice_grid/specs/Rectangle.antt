-- The size of a rectangle of cells.
use Rattle.std.specs.Prelude.{ℕ, ◌*◌, ◌≤◌}

pub record Size : Type 0 where
  pub rows : ℕ
  pub cols : ℕ

-- at least one cell, and at most 1,048,576
pub record IsSize (s : Size) : Type 0 where
  pub some_rows : 1 ≤ s.rows
  pub some_cols : 1 ≤ s.cols
  pub few : s.rows * s.cols ≤ 1048576

-- neither number of the smaller size is larger
pub record FitsInside (small large : Size) : Type 0 where
  pub rows : small.rows ≤ large.rows
  pub cols : small.cols ≤ large.cols
