use Rattle.std.proofs.Common.{rules}
use Rattle.rules.proofs.search.fn.find_witness.fn.find_map.find_map.Goals as goal

pub returns-in_err-three : goal.returns-in_err-three
returns-in_err-three g c = rw c.from_residual.ensures (λ first second e f h. search (rules, c.in_err-three.ensures (e, f) h, first, second))
