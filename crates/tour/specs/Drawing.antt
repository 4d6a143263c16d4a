-- How wide the grid of a table is drawn. Assumes nothing.
use Rattle.std.specs.Prelude.{ℕ, ◌≤◌, T, List}
use Rattle.rules.specs.Tables.{permits}

-- columns 1 to n have room for every form of the second label and every pair of the rows
pub record Room (rows : List ℕ) (size n : ℕ) : Type 0 where
  pub forms : size ≤ n
  pub pairs : (a b : ℕ) → T (permits rows a b) → b ≤ n

-- the last of the columns, of which there are no more than that takes
pub record LastColumn (rows : List ℕ) (size last : ℕ) : Type 0 where
  pub enough : Room rows size last
  pub least : (n : ℕ) → Room rows size n → last ≤ n
