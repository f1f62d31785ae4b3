-- The parts of a file, by its words.
use mathlib.Core.Path.{◌≡◌, refl}
use mathlib.Core.List.{◌∷◌}
use lib.ListN.{replicate}
use Rattle.std.proofs.Common.{Ok, Err}
use Rattle.print_reading.specs.Files.{counts_right, parts_in}

-- two rows: 8 words of rows, 2 and 2 of lists, so 2 + 6 × 2 words before the plan, which has 3; a file that ends there has no plan, and one word less
-- is refused by 1
parts_example : parts_in (2 ∷ 4 ∷ replicate 15 0) ≡ Ok (record { pos = 10; osp = 12; plan = 14; words = 17 })
unfolding parts_in counts_right
parts_example = refl

no_plan_example : parts_in (2 ∷ 4 ∷ replicate 12 0) ≡ Ok (record { pos = 10; osp = 12; plan = 14; words = 14 })
unfolding parts_in counts_right
no_plan_example = refl

short_example : parts_in (2 ∷ 4 ∷ replicate 11 0) ≡ Err 1
unfolding parts_in counts_right
short_example = refl
