-- What is known of a block whose kind is carried.
use Rattle.std.proofs.Common.{◌≡◌, ◌*◌, ◌≤◌, sym, ap, ◌∙◌}
use Rattle.std.proofs.lemmas.Nat.{mul-le}
use Rattle.kinds.specs.Kinds.{wide, high}
use Rattle.kinds.proofs.Sizes.{size_bounded, wide_is, high_is}
use Rattle.blocks.specs.declared.block.Block.{Block}

-- how many samples it has
pub all_samples : (b : Block)
    → (b.size.width * b.size.height ≤ 1024) × (b.size.width * b.size.height ≡ wide b.varblock.kind * high b.varblock.kind)
all_samples b =
    let z = size_bounded b.varblock.kind b.size b.carried in
    let w = wide_is b.varblock.kind b.size b.carried in
    let h = high_is b.varblock.kind b.size b.carried in (
      mul-le b.size.width b.size.height 32 32 z.narrow z.low,
      ap (λ n. n * b.size.height) (sym w) ∙ ap (λ n. wide b.varblock.kind * n) (sym h),
    )
