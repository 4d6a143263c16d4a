use Rattle.std.proofs.Common.{ℕ, Bool, ◌&&◌, ◌||◌, eqb, ltb}
use Rattle.books.specs.Answers.{AnswersPairs}
use Rattle.books.specs.Compact.{Mending, uncut}
use Rattle.books.proofs.compact.CompactRows.mend_where.Given as goal

-- the tables before (first, second), in the order of their second label, then of their first
abbrev pub reached : ℕ → ℕ → ℕ → ℕ → Bool
reached first second p q = ltb q second || (eqb q second && ltb p first)

abbrev pub invariant-loop-second : goal.invariant-loop-second
invariant-loop-second g l = (mended : ℕ → ℕ → Bool) → AnswersPairs (goal.F-post g l.picks) mended
    → Mending l.frame uncut l.fn.self l.self (λ p q. mended p q && ltb q l.second)

abbrev pub invariant-loop-first : goal.invariant-loop-first
invariant-loop-first g l = (mended : ℕ → ℕ → Bool) → AnswersPairs (goal.F-post g l.picks) mended
    → Mending l.frame uncut l.fn.self l.self (λ p q. mended p q && reached l.first l.second p q)
