use Rattle.std.proofs.Common.{ℕ, map, subst}
use Rattle.arrays.specs.Flat.{flat}
use Rattle.arrays.proofs.Rests.{same_columns, rest_beyond}
use Rattle.runner.specs.Memory.{RanOver}
use Rattle.runner.proofs.job.run_flat.Goals as goal

pub returns-clause-ran : goal.returns-clause-ran
returns-clause-ran g c =
    let K = g.W.Word.kind in
    let f = g.W.Word.code in
    let o = c.args.opening in
    let old = c.args.array.now in
    let new = c.run_lent.new.array in
    let e = c.run_lent.ensures.rest in
    record {
      inside = subst (λ (n : ℕ). RanOver K o (flat K old.columns (map f old.words.now) old.counts.now) c.args.trace.now c.args.results.now
          c.run_lent.result.0 c.run_lent.result.1 c.run_lent.new.results (flat K n (map f new.words.now) new.counts.now))
          (same_columns _ _ _ _ _ _ _ _ _ _ e) c.run_lent.ensures.ran;
      beyond = rest_beyond _ _ _ _ _ _ (map f old.words.now) old.counts.now (map f new.words.now) new.counts.now e;
    }
