-- The limits of the product, as contracts cite them; code has them from rules::limits. Assumes nothing.
use Rattle.std.specs.Prelude.{ℕ, ◌≤◌}

-- the most labels that a panel has
abbrev pub max_labels : ℕ
max_labels = 16

-- the most forms that a label has
abbrev pub max_forms : ℕ
max_forms = 16

-- the most tables that a sheet has
abbrev pub max_tables : ℕ
max_tables = 80

-- the highest number of a rule
abbrev pub max_rule : ℕ
max_rule = 999

-- k is from 1 to n
abbrev pub Within : ℕ → ℕ → Type 0
Within n k = (1 ≤ k) × (k ≤ n)
