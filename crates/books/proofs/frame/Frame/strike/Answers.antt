use Rattle.std.proofs.Common.{◌≡◌, ℕ, ◌-◌, slice_index_or, slice_set, not, ◌&&◌, ◌||◌, ◌==◌, refl, ap, ◌∙◌, arith}
use Rattle.rules.specs.Limits.{Within}
use Rattle.rules.specs.Tables.{in_row}
use Rattle.books.specs.declared.frame.Frame.{Frame}
use Rattle.books.specs.declared.label.Label.{Label}
use Rattle.books.specs.Frames.{label_at, FrameStruck}
use Rattle.books.specs.Labels.{size_range, size_struck, live_struck}
use Rattle.books.proofs.Slots.{read}
use Rattle.books.proofs.Bits.{in_row_none}
use Rattle.books.proofs.frame.Frame.strike.Goals as goal

-- the frame g, whose label at i has been written anew without form a
written : (s g : Frame) (i a k : ℕ) (label : Label) → g.count ≡ s.count → Within s.count i → k ≡ i → g.labels ≡ slice_set s.labels (k - 1) label
    → ((x : ℕ) → in_row label.live x ≡ (in_row (label_at s i).live x && not (x == a))) → label.size ≡ (label_at s i).size → FrameStruck s i a g
written s g i a k label same there place changed lost size =
    let put : g.labels ≡ slice_set s.labels (i - 1) label = changed ∙ ap (λ n. slice_set s.labels (n - 1) label) place in
    record {
      labels = same;
      size = size_struck s g i a label same there put lost size;
      live = live_struck s g i a label same there put lost;
    }

pub with_form-requires : goal.with_form-requires
with_form-requires c = let r = size_range c.args.self.now c.args.w.label c.requires.label in (c.requires.form.0, omega (arith, c.requires.form.1, r.1))

pub returns : goal.returns
returns c =
    let s = c.args.self.now in
    let i = c.args.w.label in
    let a = c.args.w.form in
    let there = c.requires.label in
    let k = c.from-k.result in
    let was = slice_index_or s.labels (k - 1) c.index-self-k.result in
    let lost : (x : ℕ) → in_row c.without.result x ≡ (in_row (label_at s i).live x && not (x == a)) = λ x.
    c.without.ensures x ∙ ap (λ t. in_row was.live x && not t) (c.with_form.ensures x ∙ ap (λ t. t || x == a) (in_row_none x))
    ∙ ap (λ l. in_row l.live x && not (x == a)) (read s i k c.index-self-k.result there c.from-k.ensures) in
    written s _ i a k _ refl there c.from-k.ensures refl lost (ap (λ l. l.size) (read s i k c.index-self-k-2.result there c.from-k.ensures))
