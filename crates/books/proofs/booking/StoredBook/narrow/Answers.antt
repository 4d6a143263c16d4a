use Rattle.std.proofs.Common.{◌≡◌, Err, rules, refl, sym}
use mathlib.Core.Logic.{∥∥₁_map}
use Rattle.std.proofs.lemmas.Bool.{false≢true}
use Rattle.rules.specs.declared.refusal.Refusal.TheVariants.{NoLabel}
use Rattle.rules.specs.Tables.{permits}
use Rattle.books.specs.Changes.{Ordered}
use Rattle.books.specs.Outcomes.{narrow_done, narrow_no_label, narrow_no_table, narrow_not_held}
use Rattle.books.specs.Linked.{narrowed}
use Rattle.books.proofs.booking.StoredBook.narrow.Goals as goal

pub returns-in_err-labels : goal.returns-in_err-labels
returns-in_err-labels g c =
    let refused : c.from_residual.result ≡ Err NoLabel = search rules in
    let none : Ordered c.args.self.now.frame.count c.args.i c.args.j → ⊥ = search rules in
    rw refused (narrow_no_label none refl)

pub returns-then-not-fits_sizes : goal.returns-then-not-fits_sizes
returns-then-not-fits_sizes g c =
    let o : Ordered c.args.self.now.frame.count c.args.i c.args.j = search rules in
    narrow_no_table o (λ fits. false≢true (c.if-not-fits_sizes.ensures.1 (rw (c.size.ensures, c.size-2.ensures) fits))) refl

pub returns-then-not-can_hold : goal.returns-then-not-can_hold
returns-then-not-can_hold g c =
    let o : Ordered c.args.self.now.frame.count c.args.i c.args.j = search rules in
    let first : c.in_ok-labels.labels.first ≡ c.args.i = search rules in
    let second : c.in_ok-labels.labels.second ≡ c.args.j = search rules in
    narrow_not_held o (rw (sym c.size.ensures, sym c.size-2.ensures) (c.if-not-fits_sizes.ensures.0 refl))
    (λ held. false≢true (c.if-not-can_hold.ensures.1 (rw (first, second) held))) refl

pub invariant_of-self : goal.invariant_of-self
invariant_of-self g c = record { keeps = ∥∥₁_map c.args.self.now.keeps c.narrow.ensures.keeps }

pub returns : goal.returns
returns g c =
    let s = c.args.self.now in
    let o : Ordered s.frame.count c.args.i c.args.j = search rules in
    let first : c.in_ok-labels.labels.first ≡ c.args.i = search rules in
    let second : c.in_ok-labels.labels.second ≡ c.args.j = search rules in
    narrow_done o (rw (sym c.size.ensures, sym c.size-2.ensures) (c.if-not-fits_sizes.ensures.0 refl))
    (rw (sym first, sym second) (c.if-not-can_hold.ensures.0 refl))
    (narrowed s.frame c.args.i c.args.j (permits c.args.rows) (g.S.Store.cell s.rows) (g.S.Store.cell c.narrow.new.self) o
    (rw (sym first, sym second) c.narrow.ensures.narrowed))
