-- What stands in a slot of a frame.
use Rattle.std.proofs.Common.{◌≡◌, ℕ, ◌-◌, ◌<◌, length, slice_index_or, ap, ◌∙◌, arith}
use Rattle.std.proofs.lemmas.List.{get_or_default}
use Rattle.rules.specs.Limits.{Within}
use Rattle.books.specs.declared.frame.Frame.{Frame}
use Rattle.books.specs.declared.label.Label.{Label}
use Rattle.books.specs.Sizing.{no_label}
use Rattle.books.specs.Frames.{label_at}

-- the label that is read at a slot of the panel, whatever would be read past the last slot
pub read : (s : Frame) (i n : ℕ) (d : Label) → Within s.count i → n ≡ i → slice_index_or s.labels (n - 1) d ≡ label_at s i
read s i n d there same =
    let room : n - 1 < length s.labels = omega (arith, same, there.0, there.1, s.few, s.sixteen) in
    get_or_default s.labels (n - 1) d no_label room ∙ ap (λ k. slice_index_or s.labels (k - 1) no_label) same
