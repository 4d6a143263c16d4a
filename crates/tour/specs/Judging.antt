-- What a rule says of lent rows. Assumes nothing.
use Rattle.std.specs.Prelude.{ℕ, List, Ok, Err, Result}
use Rattle.rules.specs.declared.refusal.Refusal.{Refusal}
use Rattle.rules.specs.declared.refusal.Refusal.TheVariants as refusals
use Rattle.rules.specs.Votes.{Vote}
use Rattle.rules.specs.Tables.{IsTable, permits}
use Rattle.rules.specs.Closing.{Accepted}
use Rattle.rules.specs.Lending.{Breaks}
use Rattle.tour.specs.declared.fault.Fault.{Fault}
use Rattle.tour.specs.declared.fault.Fault.TheVariants.{NoTable, NotClosed}

-- the verdict is right, and one of not closed comes with its reason
abbrev pub Judged : Vote → List ℕ → ℕ → Result (Unit {0}) Fault → Type 0
Judged vote rows size (Ok done) = Accepted vote rows size
Judged vote rows size (Err NoTable) = IsTable rows size → ⊥
Judged vote rows size (Err (NotClosed w)) = IsTable rows size × Breaks vote (permits rows) w

-- the refusal that stands for the fault, for its number
abbrev pub refusal_of : Fault → Refusal
refusal_of NoTable = refusals.NoTable
refusal_of (NotClosed w) = refusals.NotClosed
