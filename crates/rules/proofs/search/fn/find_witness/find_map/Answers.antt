use Rattle.std.proofs.Common.{rules}
use Rattle.rules.proofs.Options.{match_option}
use Rattle.rules.proofs.search.fn.find_witness.find_map.Goals as goal

pub returns : goal.returns
returns g c = match_option c.find_map.result (λ none first e f h. search (rules, none (e, f) h, first, h)) (λ x found. search (rules, found)) c.find_map.ensures
