-- The number of each refusal and of a call that is done, which every promise of a returned number cites. Assumes nothing.
use Rattle.std.specs.Prelude.{ℕ, Ok, Err, Result}
use Rattle.rules.specs.declared.refusal.Refusal.{Refusal}
use Rattle.rules.specs.declared.refusal.Refusal.TheVariants.{OutsideLimits, NoLabel, NoForm, NoTable, NotClosed, NoFitting, NotOffered, AllPicked, NoPick, ShortBuffer, NotHeld, NoSheet, WrongRule}

-- the number of each case of the enum, where it is said when the case comes
abbrev pub refusal_number : Refusal → ℕ
refusal_number OutsideLimits = 1
refusal_number NoLabel = 2
refusal_number NoForm = 3
refusal_number NoTable = 4
refusal_number NotClosed = 5
refusal_number NoFitting = 6
refusal_number NotOffered = 7
refusal_number AllPicked = 8
refusal_number NoPick = 9
refusal_number ShortBuffer = 10
refusal_number NotHeld = 11
refusal_number NoSheet = 12
refusal_number WrongRule = 13

-- the number that a call returns: 0 where it was done
abbrev pub returned_number : {X : Type 0} → Result X Refusal → ℕ
returned_number (Ok x) = 0
returned_number (Err e) = refusal_number e
