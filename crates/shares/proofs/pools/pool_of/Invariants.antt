use Rattle.std.proofs.Common.{◌≡◌, ◌*◌, ◌^◌, ◌≤◌, take}
use Rattle.shares.specs.Month.{pool_of}
use Rattle.shares.proofs.pools.pool_of.Given as goal

-- what the shippers so far come to
abbrev pub invariant-loop-f : goal.invariant-loop-f
invariant-loop-f l = record {
  count : l.count ≡ (pool_of (take l.f-index l.figures)).count;
  carried : l.carried ≡ (pool_of (take l.f-index l.figures)).carried;
  moved : l.moved ≡ (pool_of (take l.f-index l.figures)).moved;
  few : l.count ≤ l.f-index;
  few_carried : l.carried ≤ 2 ^ 28 * l.f-index;
  few_moved : l.moved ≤ 2 ^ 33 * l.f-index;
}
