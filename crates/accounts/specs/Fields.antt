-- An account's fields as its value, and what every call keeps of them.
use Rattle.std.specs.Prelude.{◌*◌, ◌^◌, ◌<◌, ◌≤◌, unsigned_abs}
use Rattle.sides.specs.Days.{marked}
use Rattle.accounts.specs.Told.{AccountTold}
use Rattle.accounts.specs.declared.account.Account.TheInside.{Inside}

abbrev pub told : Inside → AccountTold
told a = record {
  remainders = a.remainders;
  volumes = a.volumes;
  metered = a.metered;
  plan = a.plan;
  planned = a.planned;
  older = a.older;
  newer = a.newer;
  settled = a.settled;
  yen = a.yen;
}

-- the fields of a value
abbrev pub untold : AccountTold → Inside
untold a = record {
  remainders = a.remainders;
  volumes = a.volumes;
  metered = a.metered;
  plan = a.plan;
  planned = a.planned;
  older = a.older;
  newer = a.newer;
  settled = a.settled;
  yen = a.yen;
}

pub record Sound (a : Inside) : Type 0 where
  -- a remainder is below the greatest standard heat
  pub left : (a.remainders.receipts < 5000) × (a.remainders.deliveries < 5000)
  -- a day brings at most 30,000,002 m³, and a day's plan at most 24,000,000
  pub flows : (a.volumes.receipts ≤ 30000002 * marked a.metered.receipts)
      × (a.volumes.deliveries ≤ 30000002 * marked a.metered.deliveries)
  pub plans : a.plan ≤ 24000000 * marked a.planned
  pub limits : (unsigned_abs a.settled ≤ 10 ^ 12) × (unsigned_abs a.yen ≤ 10 ^ 15)
