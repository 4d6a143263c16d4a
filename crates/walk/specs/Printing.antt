-- What an answer is printed as. Assumes nothing.
use Rattle.std.specs.Prelude.{ℕ, List, Option, Some, None, true, false, codes, decimal}
use Rattle.rules.specs.Refusals.{returned_number}
use Rattle.walk.specs.declared.step.Answer.{Answer}
use Rattle.walk.specs.declared.step.Answer.TheVariants.{Outcome, Count, Yes, Forms}

-- the text of an answer: the number that the call returns, a count or a word; nothing is said of the forms of a row
abbrev pub answer_text : Answer → Option (List ℕ)
answer_text (Outcome r) = Some (decimal (returned_number r))
answer_text (Count n) = Some (decimal n)
answer_text (Yes true) = Some (codes "yes")
answer_text (Yes false) = Some (codes "no")
answer_text (Forms row) = None
