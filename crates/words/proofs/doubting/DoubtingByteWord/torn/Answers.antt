-- The torn bytes fit and have no set bit in common; the lowest level alone is raised.
use Rattle.std.proofs.Common.{refl}
use Rattle.words.specs.DoubtingLaws.{apart_as, torn_apart, torn_doubts}
use Rattle.words.proofs.doubting.DoubtingByteWord.torn.Goals as goal

pub invariant_of-result : goal.invariant_of-result
invariant_of-result c =
    let a = apart_as refl c.torn_doubt.ensures (torn_apart c.args.self.erased c.args.self.low) in
    record { low = a.low; high = a.high; apart = a.apart }

pub returns-clause-doubted : goal.returns-clause-doubted
returns-clause-doubted c =
    let s = c.args.self in
    torn_doubts s.erased s.doubtful _ record { low = s.low; high = s.high; apart = s.apart } c.torn_doubt.ensures
