-- The joined bytes fit, and have no set bit in common.
use Rattle.words.specs.DoubtingLaws.{Apart, apart_as, joined_apart}
use Rattle.words.specs.declared.doubting.DoubtingByte.{DoubtingByte}
use Rattle.words.proofs.doubting.DoubtingByteWord.join.Goals as goal

bytes : (x : DoubtingByte) → Apart x.erased x.doubtful
bytes x = record { low = x.low; high = x.high; apart = x.apart }

pub invariant_of-result : goal.invariant_of-result
invariant_of-result c =
    let made = c.joined_bytes-erased.ensures in
    let a = apart_as made.erased made.doubtful (joined_apart _ _ _ _ (bytes c.args.self) (bytes c.args.other)) in
    record { low = a.low; high = a.high; apart = a.apart }
