use Rattle.std.proofs.Common.{◌≡◌, ℕ, ◌&&◌, ltb}
use Rattle.rules.specs.Tables.{in_row}
use Rattle.books.specs.Views.{Forms, OfLabel}
use Rattle.books.specs.Answers.{AnswersForms}
use Rattle.books.proofs.forms.forms_where.Given as goal

-- the forms of P before b are gathered
abbrev pub invariant-loop-b : goal.invariant-loop-b
invariant-loop-b g l = (P : Forms) → AnswersForms (goal.F-post g l.picks) P → OfLabel P → (x : ℕ) → in_row l.row x ≡ (ltb x l.b && P x)
