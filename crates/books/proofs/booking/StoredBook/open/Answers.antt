use Rattle.std.proofs.Common.{◌≡◌, Err, rules, refl, sym, subst}
use Rattle.rules.specs.declared.refusal.Refusal.TheVariants.{OutsideLimits}
use Rattle.books.specs.Changes.{Sizes}
use Rattle.books.specs.Frames.{FrameOpened}
use Rattle.books.specs.Outcomes.{open_done, open_outside}
use Rattle.books.specs.Linked.{opened}
use Rattle.books.proofs.booking.StoredBook.open.Goals as goal

pub returns-in_err-frame : goal.returns-in_err-frame
returns-in_err-frame g c =
    let refused : c.from_residual.result ≡ Err OutsideLimits = search rules in
    let none : Sizes c.args.sizes.now → ⊥ = search rules in
    rw refused (open_outside none refl)

pub returns : goal.returns
returns g c =
    let s = c.of.result in
    let o : Sizes c.args.sizes.now × FrameOpened c.args.sizes.now c.in_ok-frame.frame = search rules in
    open_done o.0 (opened c.args.sizes.now s.frame (g.S.Store.cell s.rows) (subst (FrameOpened c.args.sizes.now) (sym c.of.ensures.frame) o.1) c.of.ensures.whole)
