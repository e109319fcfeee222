use Rattle.std.proofs.Common.{rules, true}
use Rattle.span_groups.specs.declared.aggregate.AggregateState.TheVariants as state
use Rattle.span_groups.proofs.Merging.{merged_by, counts_merge, sums_merge, least_merge, greatest_merge}
use Rattle.span_groups.proofs.aggregate.AggregateState.merge.Goals.{in-Count-Count, in-Sum-Sum, in-Least-Least+in_ok-keep_lesser-in-Least-Least, in-Greatest-Greatest+in_ok-keep_greater-in-Greatest-Greatest, in_default, in_default-2, in_default-3, in_default-4}
use Rattle.span_groups.proofs.aggregate.AggregateState.merge.Goals as goal

pub returns : goal.returns
returns c = elim c.match-self.branch [
  | in-Count-Count w ↦
      let n = w.in-Count-Count.count in
      let m = w.in-Count-Count.n in
      let k = w.add_count.new.count in
      merged_by c.args.self.now c.args.more.now c.match-self.self c.match-self.result (state.Count n) (state.Count m) (state.Count k) w.add_count.result w.in-Count-Count.is-0 w.in-Count-Count.is-1 w.self-is w.result-is
      (λ done. counts_merge n m k (w.add_count.ensures done))
  | in-Sum-Sum w ↦
      let s = w.in-Sum-Sum.sum in
      let t = w.in-Sum-Sum.next in
      let u = w.merge.new.self in
      merged_by c.args.self.now c.args.more.now c.match-self.self c.match-self.result (state.Sum s) (state.Sum t) (state.Sum u) w.merge.result w.in-Sum-Sum.is-0 w.in-Sum-Sum.is-1 w.self-is w.result-is
      (λ done. sums_merge s t u (w.merge.ensures.values done) (w.merge.ensures.total done))
  | in-Least-Least+in_ok-keep_lesser-in-Least-Least w ↦
      let o = w.in-Least-Least.best in
      let p = w.in-Least-Least.next in
      let q = w.keep_lesser.new.best in
      merged_by c.args.self.now c.args.more.now c.match-self.self c.match-self.result (state.Least o) (state.Least p) (state.Least q) true w.in-Least-Least.is-0 w.in-Least-Least.is-1 w.self-is w.result-is
      (λ done. least_merge o p q (w.in_ok-keep_lesser-in-Least-Least.ensures))
  | in-Greatest-Greatest+in_ok-keep_greater-in-Greatest-Greatest w ↦
      let o = w.in-Greatest-Greatest.best in
      let p = w.in-Greatest-Greatest.next in
      let q = w.keep_greater.new.best in
      merged_by c.args.self.now c.args.more.now c.match-self.self c.match-self.result (state.Greatest o) (state.Greatest p) (state.Greatest q) true w.in-Greatest-Greatest.is-0 w.in-Greatest-Greatest.is-1 w.self-is w.result-is
      (λ done. greatest_merge o p q (w.in_ok-keep_greater-in-Greatest-Greatest.ensures))
  | in_default w ↦ search rules
  | in_default-2 w ↦ search rules
  | in_default-3 w ↦ search rules
  | in_default-4 w ↦ search rules
]
