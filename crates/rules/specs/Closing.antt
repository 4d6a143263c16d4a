-- Tables closed under a vote. Assumes nothing.
use Rattle.std.specs.Prelude.{ℕ, T, List}
use Rattle.rules.specs.Votes.{Vote}
use Rattle.rules.specs.Tables.{Table, IsTable, permits}

-- (a, b), (c, d) and (e, f) vote for a pair of the table: the first forms for its first, the second for its second
abbrev pub VotesIn : Vote → Table → ℕ → ℕ → ℕ → ℕ → ℕ → ℕ → Type 0
VotesIn vote t a b c d e f = T (t (vote a c e) (vote b d f))

-- every three pairs of the table, in every order and with repeats, vote for a pair of the table
abbrev pub Closed : Vote → Table → Type 0
Closed vote t = (a b : ℕ) → T (t a b) → (c d : ℕ) → T (t c d) → (e f : ℕ) → T (t e f) → VotesIn vote t a b c d e f

-- what the test of a rule says yes to: rows that are a table, and a closed one
pub record Accepted (vote : Vote) (rows : List ℕ) (size : ℕ) : Type 0 where
  pub table : IsTable rows size
  pub closed : Closed vote (permits rows)
