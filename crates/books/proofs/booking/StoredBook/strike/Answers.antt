use Rattle.std.proofs.Common.{◌≡◌, Err, rules}
use mathlib.Core.Logic.{∥∥₁_map}
use Rattle.rules.specs.Limits.{Within}
use Rattle.books.specs.Frames.{book_view, frame_size, StrikeRefused}
use Rattle.books.specs.Outcomes.{strike_done}
use Rattle.books.specs.Linked.{struck}
use Rattle.books.proofs.Refused.{strike_refused}
use Rattle.books.proofs.booking.StoredBook.strike.Goals as goal

pub returns-in_err-can_strike : goal.returns-in_err-can_strike
returns-in_err-can_strike g c =
    let s = c.args.self.now in
    let i = c.args.w.label in
    let a = c.args.w.form in
    let e = c.in_err-can_strike.field-0.0 in
    let refused : c.from_residual.result ≡ Err e = search rules in
    let reason : StrikeRefused s.frame.count (frame_size s.frame) i a e = search rules in
    rw refused (strike_refused (λ t. book_view t.frame (g.S.Store.cell t.rows)) s i a e reason)

pub invariant_of-self : goal.invariant_of-self
invariant_of-self g c =
    let s = c.args.self.now in
    record { keeps = ∥∥₁_map s.keeps (c.follow.ensures.keeps s.frame c.args.w.form c.strike.ensures) }

pub returns : goal.returns
returns g c =
    let s = c.args.self.now in
    let f = s.frame in
    let i = c.args.w.label in
    let a = c.args.w.form in
    let there : Within f.count i × Within (frame_size f i) a = search rules in
    strike_done there.0 there.1 (struck f c.strike.new.self i a (g.S.Store.cell s.rows) (g.S.Store.cell c.follow.new.self) c.strike.ensures c.follow.ensures.unmoved)
