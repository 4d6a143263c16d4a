use Rattle.std.proofs.Common.{true, rules, ◌∙◌, arith}
use Rattle.std.proofs.lemmas.Bool.{and_from}
use Rattle.rules.proofs.Truth.{is_true, passes}
use Rattle.books.specs.Frames.{row_at}
use Rattle.books.specs.Compact.{pairs, uncut, Mending}
use Rattle.books.specs.Labels.{live_form}
use Rattle.books.proofs.Places.{table_room}
use Rattle.books.proofs.Mended.{mended_exact, mended_cell}
use Rattle.books.proofs.Uncut.{all_tailed, all_there}
use Rattle.books.proofs.compact.CompactRowsStore.all.Goals as goal

-- every table is mended
mended : (c : goal.After-mend_where) → Mending c.args.frame.now uncut c.every-rows.result c.mend_where.new.self (λ p q. true)
mended c = c.mend_where.ensures (λ p q. true) (λ labels r post. search rules)

pub returns-clause-keeps : goal.returns-clause-keeps
returns-clause-keeps c i j a o w =
    let f = c.args.frame.now in
    mended_exact f uncut c.every-rows.result c.mend_where.new.self (λ p q. true) (mended c) i j a o w tt (all_tailed f i j a)

pub returns-clause-whole : goal.returns-clause-whole
returns-clause-whole c i j o a b la lb =
    let f = c.args.frame.now in
    let few = f.few in
    let wa = live_form f i a la in
    let wb = live_form f j b lb in
    passes _ (mended_cell f uncut c.every-rows.result c.mend_where.new.self (λ p q. true) (mended c) i j a o wa tt (all_tailed f i j a) b la lb
    ∙ and_from (pairs c.every-rows.result (row_at i j a) b) _
    (is_true _ (c.every-rows.ensures (row_at i j a) b (omega (arith, table_room i j (o.0, (o.1.0, omega (arith, o.1.1))), wa.1)) wb))
    (all_there a b wa wb))
