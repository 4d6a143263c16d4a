use Rattle.std.proofs.Common.{rules}
use Rattle.rules.proofs.Options.{match_option}
use Rattle.rules.proofs.search.find_witness.Goals as goal

pub returns : goal.returns
returns g c = match_option c.find_map.result (λ none e f h. search (rules, none (e, f) h, h)) (λ x found. search (rules, found)) c.find_map.ensures
