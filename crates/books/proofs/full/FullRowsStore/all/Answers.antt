use Rattle.std.proofs.Common.{arith}
use Rattle.books.specs.Frames.{row_at}
use Rattle.books.specs.Labels.{live_form}
use Rattle.books.proofs.Places.{table_room}
use Rattle.books.proofs.full.FullRowsStore.all.Goals as goal

pub returns-clause-whole : goal.returns-clause-whole
returns-clause-whole c i j o a b la lb =
    let f = c.args._frame.now in
    let few = f.few in
    let wa = live_form f i a la in
    c.every.ensures (row_at i j a) b (omega (arith, table_room i j (o.0, (o.1.0, omega (arith, o.1.1))), wa.1)) (live_form f j b lb)
