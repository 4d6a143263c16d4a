-- Closure with some of the three pairs given: what inner functions say of each other. No public contract cites this file.
use Rattle.std.specs.Prelude.{ℕ, T}
use Rattle.rules.specs.declared.pair.Pair.{Pair}
use Rattle.rules.specs.Votes.{Vote}
use Rattle.rules.specs.Tables.{Table}
use Rattle.rules.specs.Closing.{VotesIn}

-- closed as far as the first pair is this one
abbrev pub ClosedAfterOne : Vote → Table → Pair → Type 0
ClosedAfterOne vote t p = (c d : ℕ) → T (t c d) → (e f : ℕ) → T (t e f) → VotesIn vote t p.0 p.1 c d e f

-- closed as far as the first two pairs are these
abbrev pub ClosedAfterTwo : Vote → Table → Pair → Pair → Type 0
ClosedAfterTwo vote t p q = (e f : ℕ) → T (t e f) → VotesIn vote t p.0 p.1 q.0 q.1 e f

-- closed as far as these are the three pairs
abbrev pub ClosedAfterThree : Vote → Table → Pair → Pair → Pair → Type 0
ClosedAfterThree vote t p q r = VotesIn vote t p.0 p.1 q.0 q.1 r.0 r.1
