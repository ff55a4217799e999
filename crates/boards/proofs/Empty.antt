-- A table of rows that hold nothing holds nothing at any place.
use Rattle.std.proofs.Common.{◌≡◌, ℕ, ◌<◌, List, [], get_or, replicate, None, Option, arith}
use Rattle.std.proofs.lemmas.Bool.Decides.{nat_tests}
use Rattle.std.proofs.lemmas.List.{get_or-replicate}
use Rattle.prices.specs.Price.{PricesTold}
use Rattle.boards.specs.Table.{table_held}

pub nothing_held : (rows : List (List (Option PricesTold))) → ((i : ℕ) → i < 16 → get_or rows i [] ≡ replicate 12 None) →
    (s p : ℕ) → table_held (record { prices = rows }) s p ≡ None
nothing_held rows all s p = grind (arith, nat_tests, all, get_or-replicate {A = Option PricesTold} 12 p None None)
