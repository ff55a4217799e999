-- A row's sixteen places as the items that it tells, and what every call keeps of them.
use Rattle.std.specs.Prelude.{◌≡◌, ◌-◌, ◌≤◌, List, ◌++◌, length, take, replicate}
use Rattle.accounts.specs.Told.{AccountTold}
use Rattle.accounts.specs.Accounts.{blank}
use Rattle.rolls.specs.declared.roll.Roll.TheInside.{Inside}

-- ---- a row of any items, with a spare one for the places after them
module _ {A : Type 0} where
  abbrev pub told : Inside A → List A
  told roll = take roll.count roll.accounts

  module _ (spare : A) where
    -- these items, and spare ones in the places after them
    abbrev pub padded : List A → List A
    padded items = items ++ replicate (16 - length items) spare

    -- the row that tells these items
    abbrev pub untold : List A → Inside A
    untold items = record { count = length items; accounts = padded items }

    pub record Sound (roll : Inside A) : Type 0 where
      pub few : (1 ≤ roll.count) × (roll.count ≤ 16)
      pub long : length (told roll) ≡ roll.count
      pub rest : padded (told roll) ≡ roll.accounts

-- ---- a row of accounts: these accounts, and blank ones in the places after them
abbrev pub filled : List AccountTold → List AccountTold
filled = padded blank
