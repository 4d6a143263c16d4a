use Rattle.std.proofs.Common.{rules, sym, ◌∙◌}
use Rattle.rules.proofs.Options.{option_cases}
use Rattle.books.specs.Labels.{size_in, size_out}
use Rattle.books.proofs.frame.Frame.size.Goals as goal

pub returns : goal.returns
returns c =
    let f = c.args.self.now in
    let i = c.args.i in
    option_cases c.label.result c.label.ensures c.map_or.ensures
    (λ out none. none ∙ sym (size_out f i out)) (λ label is some. search (rules, sym (size_in f i is.0), is.1))
