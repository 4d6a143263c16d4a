use Rattle.std.proofs.Common.{◌≡◌, ◌+◌, ◌-◌, ◌<◌, slice_index_or, refl, sym, ap, ◌∙◌, arith, rules}
use Rattle.books.specs.Sizing.{no_label}
use Rattle.books.specs.Changes.{Sizes}
use Rattle.books.specs.Frames.{within}
use Rattle.books.specs.Labels.{size_in, all_live}
use Rattle.books.proofs.framing.FrameTryFromRefSliceU8.try_from.Goals as goal

pub returns : goal.returns
returns c =
    let sizes : Sizes c.args.sizes.now = record { few = search rules; each = search rules } in (
      sizes,
      record {
        labels = refl;
        size = λ k h. let back : k + 1 - 1 ≡ k = omega arith in
            size_in _ (k + 1) (omega arith, omega arith) ∙ ap (λ n. (slice_index_or c.loop-k.labels n no_label).size) back ∙ c.loop-k.invariant.1 k (omega arith);
        live = all_live _ (λ i w a. let done : i - 1 < c.loop-k.k = omega (arith, w.0, w.1) in
            c.loop-k.invariant.2 (i - 1) done a ∙ ap (λ n. within n a) (sym (c.loop-k.invariant.1 (i - 1) done)));
      },
    )
