-- A loop over all pairs of a table, row by row and form by form, that has shown P of each pair it passed.
use Rattle.std.proofs.Common.{ℕ, ◌+◌, ◌<◌, ◌≤◌, T, List, arith, below_more}
use Rattle.rules.specs.Limits.{max_forms, Within}
use Rattle.rules.specs.Tables.{permits}

module _ (rows : List ℕ) (P : ℕ → ℕ → Type 0) where
  -- the pairs of row a with a form before n
  abbrev pub RowBefore : ℕ → ℕ → Type 0
  RowBefore a n = (b : ℕ) → b < n → 1 ≤ b → T (permits rows a b) → P a b

  -- the pairs of the rows before n
  abbrev pub RowsBefore : ℕ → Type 0
  RowsBefore n = (a : ℕ) → a < n → 1 ≤ a → RowBefore a (max_forms + 1)

  pub rows_more : (n : ℕ) → RowsBefore n → RowBefore n (max_forms + 1) → RowsBefore (n + 1)
  rows_more n before here = below_more (λ a. 1 ≤ a → RowBefore a (max_forms + 1)) n before (λ _. here)

  -- the loop's end: there is no other pair, where each is of forms that a label can have
  pub all_pairs : ((a b : ℕ) → T (permits rows a b) → Within max_forms a × Within max_forms b) → RowsBefore (max_forms + 1) → (a b : ℕ) → T (permits rows a b) → P a b
  all_pairs bounded passed a b t = let w = bounded a b t in passed a (omega arith) w.0.0 b (omega arith) w.1.0 t
