use Rattle.std.proofs.Common.{◌≡◌, rules, sym, ap, ◌∙◌}
use Rattle.rules.specs.Tables.{in_row}
use Rattle.rules.proofs.Options.{option_cases}
use Rattle.books.proofs.Bits.{in_row_none}
use Rattle.books.specs.Labels.{live_in, live_out}
use Rattle.books.proofs.frame.Frame.forms.Goals as goal

pub returns : goal.returns
returns c a =
    let f = c.args.self.now in
    let i = c.args.i in
    option_cases c.label.result c.label.ensures c.map_or.ensures
    (λ out none. ap (λ row. in_row row a) none ∙ in_row_none a ∙ sym (live_out f i a out))
    (λ label is some. let same : c.map_or.result ≡ label.live = search rules in ap (λ row. in_row row a) same ∙ ap (λ l. in_row l.live a) is.1 ∙ sym (live_in f i a is.0))
