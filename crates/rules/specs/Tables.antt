-- Tables for two labels, as sixteen-bit rows and as a relation between forms. Assumes nothing.
use Rattle.std.specs.Prelude.{ℕ, ◌-◌, ◌/◌, ◌%◌, ◌^◌, ◌≤◌, Bool, ◌&&◌, T, List, length, ◌==◌, nat_le, slice_index}
use Rattle.rules.specs.Limits.{max_forms, Within}

-- which forms of two labels may stand together; forms count from 1
abbrev pub Table : Type 0
Table = ℕ → ℕ → Bool

-- a row has form b where its bit b − 1 is set, the lowest bit being bit 0; no row has form 0
unfoldable pub in_row : ℕ → ℕ → Bool
in_row row b = nat_le 1 b && row / 2 ^ (b - 1) % 2 == 1

-- the rows permit form a of the first label with form b of the second: the a-th row has form b; there is no row 0, and
-- past the last row nothing is permitted
unfoldable pub permits : List ℕ → Table
permits rows a b = nat_le 1 a && in_row (slice_index rows (a - 1)) b

-- the row has no form after n
abbrev pub EndsAt : ℕ → ℕ → Type 0
EndsAt n row = (b : ℕ) → T (in_row row b) → b ≤ n

-- the rows are a table, where the second label has so many forms
pub record IsTable (rows : List ℕ) (size : ℕ) : Type 0 where
  pub height : Within max_forms (length rows)
  pub width : Within max_forms size
  pub inside : (a b : ℕ) → T (permits rows a b) → b ≤ size
